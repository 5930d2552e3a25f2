-- What a call of a function binds corresponds.
use Rattle.std.specs.Prelude.{Option, ◌≡◌, Some, List, None, [], ◌∷◌, ℕ, ◌&&◌, nat_le, length, drop, if◌then◌else◌}
use Rattle.std.specs.List.{list_all}
use Rattle.std.proofs.Common.{refl, subst, sym, ap, ◌∙◌}
use Rattle.kishu_language.specs.grammar.Refusals.{titles as parameter_titles}
use Rattle.kishu_language.specs.tokens.Names.{is_among}
use Rattle.kishu_language.specs.trees.Tree.{Text, Parameter, Definition}
use Rattle.kishu_meaning.specs.calls.Callees.{Given}
use Rattle.kishu_meaning.specs.calls.Functions.{left_at, in_frame, with_defaults, arguments_fit, or_default, with_value, values_for, bound_values}
use Rattle.kishu_meaning.specs.moments.Moment.{Locals, Ends, fine, raised, stopped, M}
use Rattle.kishu_meaning.specs.values.Values.{Value, Names, find}
use Rattle.kishu_objects.specs.Lists.{In}
use Rattle.kishu_pairing_laws.specs.World.{World, BothOrNeither, SameLocals, SameEnds, both_fine, both_raised, both_stopped, end_of, Grows, GoAlike, both, SameValue, SameValues, Zip, nil, cons, neither, SameEntries}
use Rattle.kishu_pairing_laws.specs.values.Lists.{zip_length, opt_conds}
use Rattle.kishu_pairing_laws.specs.calls.Callees.{SameGiven}
use Rattle.kishu_pairing_laws.specs.moments.Names.{with_locals, locals_bound, locals_found}

module _ (W : World) where
  -- ---- frames

  left_ends : {A B : Type 0} (R : A → B → Type 0) {f g : Option Locals} {e : Ends A} {e' : Ends B} → BothOrNeither (SameLocals W) f g → SameEnds W R e e' → SameEnds W R (left_at f e) (left_at g e')
  left_ends R h (both_fine ab st) = both_fine ab (with_locals W h st)
  left_ends R h (both_raised xy st) = both_raised xy (with_locals W h st)
  left_ends R h (both_stopped st) = both_stopped (with_locals W h st)

left_keeps : {A : Type 0} (f : Option Locals) (e : Ends A) → (end_of (left_at f e)).accessed ≡ (end_of e).accessed
left_keeps f (fine a s) = refl
left_keeps f (raised x s) = refl
left_keeps f (stopped s) = refl

pub frame_grows : {A : Type 0} (here : Locals) {m : M A} → Grows m → Grows (in_frame here m)
frame_grows here {m = m} h = record { grows = λ s x k. subst (In x) (sym (left_keeps s.locals (m (record s { locals = Some here })))) (h.grows (record s { locals = Some here }) x k) }

module _ (W : World) where
  pub frame_alike : {A B : Type 0} {R : A → B → Type 0} {f g : Locals} {m : M A} {n : M B} → SameLocals W f g → GoAlike W R m n → GoAlike W R (in_frame f m) (in_frame g n)
  frame_alike {R = R} {f = f} {m = m} fg mn = record {
    go = λ s t st w. left_ends W R st.locals (mn.go _ _ (with_locals W (both fg) st) (λ x h. w x (subst (In x) (sym (left_keeps s.locals (m (record s { locals = Some f })))) h)));
  }

module _ (W : World) where
  -- ---- what a call binds

  abbrev SameDefault : Text × Option Value → Text × Option Value → Type 0
  SameDefault p q = (p.0 ≡ q.0) × BothOrNeither (SameValue W) p.1 q.1

  defaults_same : (ps : List Parameter) {vs ws : List Value} → SameValues W vs ws → Zip SameDefault (with_defaults ps vs) (with_defaults ps ws)
  defaults_same [] z = nil
  defaults_same ((x, None) ∷ ps) z = cons (refl, neither) (defaults_same ps z)
  defaults_same ((x, Some e) ∷ ps) nil = cons (refl, neither) (defaults_same ps nil)
  defaults_same ((x, Some e) ∷ ps) (cons vw z) = cons (refl, both vw) (defaults_same ps z)

  all_fit : (xs : List Text) {ks ls : List (List ℕ × Value)} → SameEntries W ks ls → list_all (λ (k : List ℕ × Value). is_among k.0 xs) ks ≡ list_all (λ (k : List ℕ × Value). is_among k.0 xs) ls
  all_fit xs nil = refl
  all_fit xs (cons {b = l} {as' = ks} h z) = ap (λ (x : List ℕ). is_among x xs && list_all (λ (k : List ℕ × Value). is_among k.0 xs) ks) h.0 ∙ ap (λ b. is_among l.0 xs && b) (all_fit xs z)

  fit_is : (xs : List Text) {g h : Given} → SameGiven W g h → arguments_fit xs g ≡ arguments_fit xs h
  fit_is xs {g = g} {h = h} gh =
      ap (λ n. nat_le n (length xs) && list_all (λ (k : List ℕ × Value). is_among k.0 (drop n xs)) g.named) (zip_length gh.plain)
      ∙ ap (λ b. nat_le (length h.plain) (length xs) && b) (all_fit (drop (length h.plain) xs) gh.named)

  or_default_same : {o p q r : Option Value} → BothOrNeither (SameValue W) o p → BothOrNeither (SameValue W) q r → BothOrNeither (SameValue W) (or_default o q) (or_default p r)
  or_default_same (both vw) k = both vw
  or_default_same neither k = k

  with_value_same : (x : Text) {o p : Option Value} {f g : Option Names} → BothOrNeither (SameValue W) o p → BothOrNeither (SameEntries W) f g → BothOrNeither (SameEntries W) (with_value x o f) (with_value x p g)
  with_value_same x (both vw) (both z) = both (locals_bound W x vw z)
  with_value_same x (both vw) neither = neither
  with_value_same x neither (both z) = neither
  with_value_same x neither neither = neither

  with_value_is : {x y : Text} {o p : Option Value} {f g : Option Names} → x ≡ y → BothOrNeither (SameValue W) o p → BothOrNeither (SameEntries W) f g → BothOrNeither (SameEntries W) (with_value x o f) (with_value y p g)
  with_value_is {x = x} {o = o} {p = p} {f = f} {g = g} e op fg = subst (λ y. BothOrNeither (SameEntries W) (with_value x o f) (with_value y p g)) e (with_value_same x op fg)

  found_is : {x y : Text} {f g : Names} → x ≡ y → SameEntries W f g → BothOrNeither (SameValue W) (find x f) (find y g)
  found_is {x = x} {f = f} {g = g} e z = subst (λ y. BothOrNeither (SameValue W) (find x f) (find y g)) e (locals_found W x z)

  values_same : {ps qs : List (Text × Option Value)} {vs ws : List Value} {f g : Names} → Zip SameDefault ps qs → SameValues W vs ws → SameEntries W f g → BothOrNeither (SameEntries W) (values_for ps vs f) (values_for qs ws g)
  values_same nil z n = both nil
  values_same (cons h k) (cons vw z) n = with_value_is h.0 (both vw) (values_same k z n)
  values_same (cons h k) nil n = with_value_is h.0 (or_default_same (found_is h.0 n) h.1) (values_same k nil n)

  pub bound_same : (d : Definition) {vs ws : List Value} {g h : Given} → SameValues W vs ws → SameGiven W g h → BothOrNeither (SameEntries W) (bound_values d vs g) (bound_values d ws h)
  bound_same d {vs = vs} {ws = ws} {g = g} {h = h} z gh =
      subst (λ b. BothOrNeither (SameEntries W) (bound_values d vs g) (if b then values_for (with_defaults d.parameters ws) h.plain h.named else None)) (fit_is (parameter_titles d.parameters) gh)
      (opt_conds (arguments_fit (parameter_titles d.parameters) g) (values_same (defaults_same d.parameters z) gh.plain gh.named) neither)
