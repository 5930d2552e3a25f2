-- Names on both sides: how they are read, bound and deleted.
use Rattle.std.specs.Prelude.{List, ℕ, Some, if◌then◌else◌, ◌∷◌, Option, None, ◌≡◌, Bool, true, false, is_some}
use Rattle.std.specs.Cmp.Lexicographic.{slice_cmp}
use Rattle.std.specs.Ordering.{match_ordering, nat_cmp}
use Rattle.std.specs.Str.{bytes_eq}
use Rattle.std.specs.declared.cmp.Ordering.TheVariants.{Less, Equal, Greater}
use Rattle.std.proofs.Common.{inl, subst, sym, inr, ◌∙◌, Ordering, refl, ap}
use Rattle.kishu_language.specs.tokens.Names.{place_among, is_among}
use Rattle.kishu_meaning.specs.cells.Ways.{forget_global, forget_local, forget_in, forget}
use Rattle.kishu_meaning.specs.moments.Accesses.{unbind, with_access}
use Rattle.kishu_meaning.specs.moments.Moment.{Moment, Locals, or_class, or_builtin, or_other, read_global, or_unbound, read_in, read, bind_global, bind_in, assign, M, delete_global, delete_local, delete_in, delete, bind_local}
use Rattle.kishu_meaning.specs.values.BuiltinNames.{class_names, builtin_names}
use Rattle.kishu_meaning.specs.values.Values.{Value, Names, bind, find}
use Rattle.kishu_objects.specs.Lists.{In}
use Rattle.kishu_objects_laws.specs.NameLaws.{find_bind, find_bind_other, same_text}
use Rattle.kishu_soundness_laws.specs.moments.Names.{taking_global, taking_local}
use Rattle.kishu_pairing_laws.specs.World.{World, SameValue, SameNames, BothOrNeither, both, neither, SameEntries, nil, cons, SameMoment, SameLocals, GoQuietly, plain, end_of, Grows, GoAlike, Any, both_fine, SameEnds}
use Rattle.kishu_pairing_laws.specs.moments.Steps.{give_quiet, raise_quiet, cond_grows, asking_grows, cond_alike, quiet, asking_alike}
use Rattle.kishu_pairing_laws.specs.values.Lists.{opt_conds, zip_conds, opt_itself, zip_is_some}
use Rattle.kishu_pairing_laws.specs.Itself.{quiet_stays, itself, one_value}
use Rattle.kishu_pairing_laws.specs.moments.Accesses.{access_keeps, access_in}
use Rattle.kishu_pairing_laws.specs.moments.NamesInOrder.{rise_bind, find_unbind, find_unbind_other, rise_unbind}

module _ (W : World) where
  -- ---- all names

  pub names_bound : (x : List ℕ) {v w : Value} {f g : Names} → W.N x → SameValue W v w → SameNames W f g → SameNames W (bind x v f) (bind x w g)
  names_bound x {v = v} {w = w} {f = f} {g = g} n vw h = record {
    bound = λ y m. elim (same_text y x) [
      | inl e ↦ subst (λ z. BothOrNeither (SameValue W) (find z (bind x v f)) (find z (bind x w g))) (sym e.0) (rw (find_bind x v f, find_bind x w g) (both vw))
      | inr d ↦ rw (find_bind_other y x v f d.0, find_bind_other y x w g d.0) (h.bound y m)
    ];
    left_others = λ y no. find_bind_other y x v f (λ e. no (subst W.N (sym e) n)) ∙ h.left_others y no;
    right_others = λ y no. find_bind_other y x w g (λ e. no (subst W.N (sym e) n)) ∙ h.right_others y no;
    left_rise = λ r. rise_bind x v f (h.left_rise r);
    right_rise = λ r. rise_bind x w g (h.right_rise r);
  }

  pub names_unbound : (x : List ℕ) {f g : Names} → W.Sorted → W.N x → SameNames W f g → SameNames W (unbind x f) (unbind x g)
  names_unbound x {f = f} {g = g} sorted n h = record {
    bound = λ y m. elim (same_text y x) [
      | inl e ↦ subst (λ z. BothOrNeither (SameValue W) (find z (unbind x f)) (find z (unbind x g))) (sym e.0) (rw (find_unbind x f (h.left_rise sorted), find_unbind x g (h.right_rise sorted)) neither)
      | inr d ↦ rw (find_unbind_other x y f d.0, find_unbind_other x y g d.0) (h.bound y m)
    ];
    left_others = λ y no. find_unbind_other x y f (λ e. no (subst W.N (sym e) n)) ∙ h.left_others y no;
    right_others = λ y no. find_unbind_other x y g (λ e. no (subst W.N (sym e) n)) ∙ h.right_others y no;
    left_rise = λ r. rise_unbind x f (h.left_rise r);
    right_rise = λ r. rise_unbind x g (h.right_rise r);
  }

  -- ---- local names

  ordered : (o : Ordering) {f f' f'' g g' g'' : Names} → SameEntries W f g → SameEntries W f' g' → SameEntries W f'' g'' → SameEntries W (match_ordering o f f' f'') (match_ordering o g g' g'')
  ordered Less a b c = a
  ordered Equal a b c = b
  ordered Greater a b c = c

  pub locals_found : (x : List ℕ) {f g : Names} → SameEntries W f g → BothOrNeither (SameValue W) (find x f) (find x g)
  locals_found x nil = neither
  locals_found x (cons {a = b} {b = c} {as' = f} {bs = g} h z) = subst (λ y. BothOrNeither (SameValue W) (find x (b ∷ f)) (if bytes_eq x y then Some c.1 else find x g)) h.0 (opt_conds (bytes_eq x b.0) (both h.1) (locals_found x z))

  pub locals_bound : (x : List ℕ) {v w : Value} {f g : Names} → SameValue W v w → SameEntries W f g → SameEntries W (bind x v f) (bind x w g)
  locals_bound x vw nil = cons (refl, vw) nil
  locals_bound x {v = v} {w = w} vw (cons {a = b} {b = c} {as' = f} {bs = g} h z) =
      subst (λ y. SameEntries W (bind x v (b ∷ f)) (match_ordering (slice_cmp nat_cmp x y) ((x, w) ∷ c ∷ g) ((x, w) ∷ g) (c ∷ bind x w g))) h.0
      (ordered (slice_cmp nat_cmp x b.0) (cons (refl, vw) (cons h z)) (cons (refl, vw) z) (cons h (locals_bound x vw z)))

  pub locals_unbound : (x : List ℕ) {f g : Names} → SameEntries W f g → SameEntries W (unbind x f) (unbind x g)
  locals_unbound x nil = nil
  locals_unbound x (cons {a = b} {b = c} {as' = f} {bs = g} h z) = subst (λ y. SameEntries W (unbind x (b ∷ f)) (if bytes_eq x y then g else c ∷ unbind x g)) h.0 (zip_conds (bytes_eq x b.0) z (cons h (locals_unbound x z)))

  -- ---- moments with other names

  with_names : {s t : Moment} {f g : Names} → SameNames W f g → SameMoment W s t → SameMoment W (record s { names = f }) (record t { names = g })
  with_names h st = record { profile = st.profile; names = h; heaps = st.heaps; accessed = st.accessed; locals = st.locals; handled = st.handled; left = st.left; depth = st.depth; out = st.out }

  pub with_locals : {s t : Moment} {f g : Option Locals} → BothOrNeither (SameLocals W) f g → SameMoment W s t → SameMoment W (record s { locals = f }) (record t { locals = g })
  with_locals h st = record { profile = st.profile; names = st.names; heaps = st.heaps; accessed = st.accessed; locals = h; handled = st.handled; left = st.left; depth = st.depth; out = st.out }

  accessed_alike : (x : List ℕ) {s t : Moment} → SameMoment W s t → SameMoment W (record s { accessed = with_access x s.accessed }) (record t { accessed = with_access x t.accessed })
  accessed_alike x st = record { profile = st.profile; names = st.names; heaps = st.heaps; accessed = ap (with_access x) st.accessed; locals = st.locals; handled = st.handled; left = st.left; depth = st.depth; out = st.out }

  -- ---- reading

  or_class_quiet : (x : List ℕ) (o : Option ℕ) → GoQuietly W (SameValue W) (or_class x o) (or_class x o)
  or_class_quiet x (Some n) = give_quiet W (plain _ tt)
  or_class_quiet x None = raise_quiet W _ _

  or_builtin_quiet : (x : List ℕ) (o : Option ℕ) → GoQuietly W (SameValue W) (or_builtin x o) (or_builtin x o)
  or_builtin_quiet x (Some n) = give_quiet W (plain _ tt)
  or_builtin_quiet x None = or_class_quiet x (place_among x class_names)

  pub or_other_quiet : (x : List ℕ) {o p : Option Value} → BothOrNeither (SameValue W) o p → GoQuietly W (SameValue W) (or_other x o) (or_other x p)
  or_other_quiet x (both vw) = give_quiet W vw
  or_other_quiet x neither = or_builtin_quiet x (place_among x builtin_names)

other_stays : (x : List ℕ) (o : Option Value) (s : Moment) → (end_of (or_other x o s)).accessed ≡ s.accessed
other_stays x o s = quiet_stays (or_other_quiet itself x (opt_itself (SameValue itself) one_value o)) s

pub read_global_grows : (x : List ℕ) → Grows (read_global x)
read_global_grows x = record { grows = λ s y h. subst (In y) (sym (other_stays x (find x s.names) (record s { accessed = with_access x s.accessed }))) (access_keeps y x s.accessed h) }

or_unbound_grows : (x : List ℕ) (o : Option Value) → Grows (or_unbound x o)
or_unbound_grows x (Some v) = record { grows = λ s y h. h }
or_unbound_grows x None = record { grows = λ s y h. h }

read_in_grows : (x : List ℕ) (o : Option Locals) → Grows (read_in x o)
read_in_grows x None = read_global_grows x
read_in_grows x (Some here) = cond_grows (is_among x here.own) (or_unbound_grows x (find x here.values)) (read_global_grows x)

pub read_grows : (x : List ℕ) → Grows (read x)
read_grows x = asking_grows (λ s. read_in x s.locals) (λ s. read_in_grows x s.locals)

bind_global_grows : (x : List ℕ) (v : Value) → Grows (bind_global x v)
bind_global_grows x v = record { grows = λ s y h. access_keeps y x s.accessed h }

bind_in_grows : (x : List ℕ) (v : Value) (o : Option Locals) → Grows (bind_in x v o)
bind_in_grows x v None = bind_global_grows x v
bind_in_grows x v (Some here) = cond_grows (is_among x here.own) (record { grows = λ s y h. h }) (bind_global_grows x v)

pub assign_grows : (x : List ℕ) (v : Value) → Grows (assign x v)
assign_grows x v = asking_grows (λ s. bind_in x v s.locals) (λ s. bind_in_grows x v s.locals)

taking_stays : (x : List ℕ) (b : Bool) (s : Moment) → (end_of (taking_global x b s)).accessed ≡ s.accessed
taking_stays x true s = refl
taking_stays x false s = refl

delete_global_grows : (x : List ℕ) → Grows (delete_global x)
delete_global_grows x = record { grows = λ s y h. subst (In y) (sym (taking_stays x (is_some (find x s.names)) (record s { accessed = with_access x s.accessed }))) (access_keeps y x s.accessed h) }

taking_local_stays : (x : List ℕ) (here : Locals) (b : Bool) (s : Moment) → (end_of (taking_local x here b s)).accessed ≡ s.accessed
taking_local_stays x here true s = refl
taking_local_stays x here false s = refl

delete_local_grows : (x : List ℕ) (here : Locals) → Grows (delete_local x here)
delete_local_grows x here = record { grows = λ s y h. subst (In y) (sym (taking_local_stays x here (is_some (find x here.values)) s)) h }

delete_in_grows : (x : List ℕ) (o : Option Locals) → Grows (delete_in x o)
delete_in_grows x None = delete_global_grows x
delete_in_grows x (Some here) = cond_grows (is_among x here.own) (delete_local_grows x here) (delete_global_grows x)

pub delete_grows : (x : List ℕ) → Grows (delete x)
delete_grows x = asking_grows (λ s. delete_in x s.locals) (λ s. delete_in_grows x s.locals)

module _ (W : World) where
  read_global_alike : (x : List ℕ) → GoAlike W (SameValue W) (read_global x) (read_global x)
  read_global_alike x = record {
    go = λ s t st w.
        let n : W.N x = w x (subst (In x) (sym (other_stays x (find x s.names) (record s { accessed = with_access x s.accessed }))) (access_in x s.accessed)) in
        (or_other_quiet W x (st.names.bound x n)).go _ _ (accessed_alike W x st);
  }

  or_unbound_quiet : (x : List ℕ) {o p : Option Value} → BothOrNeither (SameValue W) o p → GoQuietly W (SameValue W) (or_unbound x o) (or_unbound x p)
  or_unbound_quiet x (both vw) = give_quiet W vw
  or_unbound_quiet x neither = raise_quiet W _ _

  -- where the name is one of the function's own
  own_alike : {A B : Type 0} {R : A → B → Type 0} (x : List ℕ) {f g : Locals} {m m' : M A} {n n' : M B} → SameLocals W f g → GoAlike W R m n → GoAlike W R m' n' → GoAlike W R (if is_among x f.own then m else m') (if is_among x g.own then n else n')
  own_alike {R = R} x {f = f} {m = m} {m' = m'} {n = n} {n' = n'} fg h k = subst (λ o. GoAlike W R (if is_among x f.own then m else m') (if is_among x o then n else n')) fg.own (cond_alike W (is_among x f.own) h k)

  read_in_alike : (x : List ℕ) {f g : Option Locals} → BothOrNeither (SameLocals W) f g → GoAlike W (SameValue W) (read_in x f) (read_in x g)
  read_in_alike x neither = read_global_alike x
  read_in_alike x (both h) = own_alike x h (quiet W (or_unbound_quiet x (locals_found W x h.values))) (read_global_alike x)

  pub read_alike : (x : List ℕ) → GoAlike W (SameValue W) (read x) (read x)
  read_alike x = asking_alike W (λ s. read_in x s.locals) (λ s. read_in x s.locals) (λ s t st. read_in_alike x st.locals)

  bind_global_alike : (x : List ℕ) {v w : Value} → SameValue W v w → GoAlike W Any (bind_global x v) (bind_global x w)
  bind_global_alike x vw = record { go = λ s t st w. both_fine tt (with_names W (names_bound W x (w x (access_in x s.accessed)) vw st.names) (accessed_alike W x st)) }

  bind_local_alike : (x : List ℕ) {v w : Value} {f g : Locals} → SameValue W v w → SameLocals W f g → GoAlike W Any (bind_local x v f) (bind_local x w g)
  bind_local_alike x vw h = record { go = λ s t st w. both_fine tt (with_locals W (both (record { own = h.own; values = locals_bound W x vw h.values })) st) }

  bind_in_alike : (x : List ℕ) {v w : Value} {f g : Option Locals} → SameValue W v w → BothOrNeither (SameLocals W) f g → GoAlike W Any (bind_in x v f) (bind_in x w g)
  bind_in_alike x vw neither = bind_global_alike x vw
  bind_in_alike x vw (both h) = own_alike x h (bind_local_alike x vw h) (bind_global_alike x vw)

  pub assign_alike : (x : List ℕ) {v w : Value} → SameValue W v w → GoAlike W Any (assign x v) (assign x w)
  assign_alike x {v = v} {w = w} vw = asking_alike W (λ s. bind_in x v s.locals) (λ s. bind_in x w s.locals) (λ s t st. bind_in_alike x vw st.locals)

  module _ (sorted : W.Sorted) where
    taking_ends : (x : List ℕ) (b : Bool) {s t : Moment} → W.N x → SameMoment W s t → SameEnds W Any (taking_global x b s) (taking_global x b t)
    taking_ends x true n st = both_fine tt (with_names W (names_unbound W x sorted n st.names) st)
    taking_ends x false {s = s} {t = t} n st = (raise_quiet W _ _).go s t st

    delete_global_alike : (x : List ℕ) → GoAlike W Any (delete_global x) (delete_global x)
    delete_global_alike x = record {
      go = λ s t st w.
          let n : W.N x = w x (subst (In x) (sym (taking_stays x (is_some (find x s.names)) (record s { accessed = with_access x s.accessed }))) (access_in x s.accessed)) in
          subst (λ b. SameEnds W Any (delete_global x s) (taking_global x b (record t { accessed = with_access x t.accessed }))) (zip_is_some (st.names.bound x n)) (taking_ends x (is_some (find x s.names)) n (accessed_alike W x st));
    }

    taking_local_ends : (x : List ℕ) (b : Bool) {f g : Locals} {s t : Moment} → SameLocals W f g → SameMoment W s t → SameEnds W Any (taking_local x f b s) (taking_local x g b t)
    taking_local_ends x true h st = both_fine tt (with_locals W (both (record { own = h.own; values = locals_unbound W x h.values })) st)
    taking_local_ends x false {s = s} {t = t} h st = (raise_quiet W _ _).go s t st

    delete_local_alike : (x : List ℕ) {f g : Locals} → SameLocals W f g → GoAlike W Any (delete_local x f) (delete_local x g)
    delete_local_alike x {f = f} {g = g} h = record {
      go = λ s t st w. subst (λ b. SameEnds W Any (delete_local x f s) (taking_local x g b t)) (zip_is_some (locals_found W x h.values)) (taking_local_ends x (is_some (find x f.values)) h st);
    }

    delete_in_alike : (x : List ℕ) {f g : Option Locals} → BothOrNeither (SameLocals W) f g → GoAlike W Any (delete_in x f) (delete_in x g)
    delete_in_alike x neither = delete_global_alike x
    delete_in_alike x (both h) = own_alike x h (delete_local_alike x h) (delete_global_alike x)

    pub delete_alike : (x : List ℕ) → GoAlike W Any (delete x) (delete x)
    delete_alike x = asking_alike W (λ s. delete_in x s.locals) (λ s. delete_in x s.locals) (λ s t st. delete_in_alike x st.locals)

    forget_global_alike : (x : List ℕ) → GoAlike W Any (forget_global x) (forget_global x)
    forget_global_alike x = record { go = λ s t st w. both_fine tt (with_names W (names_unbound W x sorted (w x (access_in x s.accessed)) st.names) (accessed_alike W x st)) }

    forget_local_alike : (x : List ℕ) {f g : Locals} → SameLocals W f g → GoAlike W Any (forget_local x f) (forget_local x g)
    forget_local_alike x h = record { go = λ s t st w. both_fine tt (with_locals W (both (record { own = h.own; values = locals_unbound W x h.values })) st) }

    forget_in_alike : (x : List ℕ) {f g : Option Locals} → BothOrNeither (SameLocals W) f g → GoAlike W Any (forget_in x f) (forget_in x g)
    forget_in_alike x neither = forget_global_alike x
    forget_in_alike x (both h) = own_alike x h (forget_local_alike x h) (forget_global_alike x)

    pub forget_alike : (x : List ℕ) → GoAlike W Any (forget x) (forget x)
    forget_alike x = asking_alike W (λ s. forget_in x s.locals) (λ s. forget_in x s.locals) (λ s t st. forget_in_alike x st.locals)
