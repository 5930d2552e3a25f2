-- Names that are bound, unbound and read keep what holds of every state.
use Rattle.std.specs.Prelude.{◌≡◌, ℕ, suc, ◌<◌, Bool, true, false, if◌then◌else◌, List, [], ◌∷◌, ◌++◌, length, codes, Option, Some, None, option_map, is_some}
use Rattle.std.specs.List.{AllByRecursion as Each}
use Rattle.std.specs.Ordering.{nat_cmp, match_ordering}
use Rattle.std.specs.declared.cmp.Ordering.TheVariants.{Less, Equal, Greater}
use Rattle.std.specs.Cmp.Lexicographic.{slice_cmp}
use Rattle.std.specs.Str.{chars, bytes_eq}
use Rattle.std.proofs.Common.{refl, sym, subst, arith, Ordering}
use Rattle.kishu_language.specs.declared.profile.Profile.{Profile}
use Rattle.kishu_language.specs.tokens.Names.{is_among, place_among}
use Rattle.kishu_meaning.specs.values.BuiltinNames.{builtin_names, class_names}
use Rattle.kishu_meaning.specs.values.Sound.{builtins, classes}
use Rattle.kishu_meaning.specs.values.Values.{Value, builtin, class, Node, Names, find, bind}
use Rattle.kishu_meaning.specs.moments.Accesses.{unbind, with_access}
use Rattle.kishu_meaning.specs.moments.Moment.{Locals, Moment, Ends, fine, raised, stopped, M, or_class, or_builtin, or_other, read_global, bind_global, or_unbound, read_in, read, bind_local, bind_in, assign, delete_global, delete_in, delete, name_error, unbound_local}
use Rattle.kishu_meaning.specs.calls.Functions.{left_at, in_frame}
use Rattle.kishu_meaning.specs.cells.Ways.{forget_global, forget_in, forget}
use Rattle.kishu_pairing_laws.specs.moments.NamesInOrder.{rise_bind, rise_unbind}
use Rattle.kishu_objects.specs.State.{IsValue, AreValues, IsName, AreNames, keys_in, values_in}
use Rattle.kishu_pairing_laws.specs.World.{end_of}
use Rattle.kishu_state_laws.specs.keeping.Logic.{Maybe, Any, IsMoment, SafeEnds, fines, raiseds, stoppeds, more, WiderEnds, both_fine, both_raised, one_stopped, Safe, stay, value_s, raise_s, if_s, asking_s, value_later, values_later, locals_later}
use Rattle.kishu_state_laws.specs.keeping.Texts.{text_between, text_name}
use Rattle.kishu_state_laws.specs.keeping.Leaves.{MaybeValue}

-- ---- lists of names

pub value_of_name : (k : ℕ) (x : List ℕ) (ns : Names) → AreValues k (values_in ns) → MaybeValue k (find x ns)
value_of_name k x [] h = tt
value_of_name k x (b ∷ ns) h = found_if (bytes_eq x b.0) (Some b.1) (find x ns) h.0 (value_of_name k x ns h.1)
  where
    found_if : (b : Bool) (o p : Option Value) → MaybeValue k o → MaybeValue k p → MaybeValue k (if b then o else p)
    found_if true o p h g = h
    found_if false o p h g = g

ordered_values : (k : ℕ) (o : Ordering) (f g h : Names) → AreValues k (values_in f) → AreValues k (values_in g) → AreValues k (values_in h) → AreValues k (values_in (match_ordering o f g h))
ordered_values k Less f g h a b c = a
ordered_values k Equal f g h a b c = b
ordered_values k Greater f g h a b c = c

pub bound_values_in : (k : ℕ) (x : List ℕ) (v : Value) (ns : Names) → IsValue k v → AreValues k (values_in ns) → AreValues k (values_in (bind x v ns))
bound_values_in k x v [] p h = (p, tt)
bound_values_in k x v (b ∷ ns) p h = ordered_values k (slice_cmp nat_cmp x b.0) ((x, v) ∷ b ∷ ns) ((x, v) ∷ ns) (b ∷ bind x v ns) (p, h) (p, h.1) (h.0, bound_values_in k x v ns p h.1)

unbound_values_in : (k : ℕ) (x : List ℕ) (ns : Names) → AreValues k (values_in ns) → AreValues k (values_in (unbind x ns))
unbound_values_in k x [] h = tt
unbound_values_in k x (b ∷ ns) h = unbound_if (bytes_eq x b.0) ns (b ∷ unbind x ns) h.1 (h.0, unbound_values_in k x ns h.1)
  where
    unbound_if : (b : Bool) (f g : Names) → AreValues k (values_in f) → AreValues k (values_in g) → AreValues k (values_in (if b then f else g))
    unbound_if true f g h e = h
    unbound_if false f g h e = e

abbrev Titled : Names → Type 0
Titled ns = Each IsName (keys_in ns)

ordered_titles : (o : Ordering) (f g h : Names) → Titled f → Titled g → Titled h → Titled (match_ordering o f g h)
ordered_titles Less f g h a b c = a
ordered_titles Equal f g h a b c = b
ordered_titles Greater f g h a b c = c

bound_titles : (x : List ℕ) (v : Value) (ns : Names) → IsName x → Titled ns → Titled (bind x v ns)
bound_titles x v [] p h = (p, tt)
bound_titles x v (b ∷ ns) p h = ordered_titles (slice_cmp nat_cmp x b.0) ((x, v) ∷ b ∷ ns) ((x, v) ∷ ns) (b ∷ bind x v ns) (p, h) (p, h.1) (h.0, bound_titles x v ns p h.1)

unbound_titles : (x : List ℕ) (ns : Names) → Titled ns → Titled (unbind x ns)
unbound_titles x [] h = tt
unbound_titles x (b ∷ ns) h = unbound_if (bytes_eq x b.0) ns (b ∷ unbind x ns) h.1 (h.0, unbound_titles x ns h.1)
  where
    unbound_if : (b : Bool) (f g : Names) → Titled f → Titled g → Titled (if b then f else g)
    unbound_if true f g h e = h
    unbound_if false f g h e = e

pub names_bound : (k : ℕ) (x : List ℕ) (v : Value) (ns : Names) → IsName x → IsValue k v → AreNames k ns → AreNames k (bind x v ns)
names_bound k x v ns n p h = record { titles = bound_titles x v ns n h.titles; rise = rise_bind x v ns h.rise; values = bound_values_in k x v ns p h.values }

pub names_unbound : (k : ℕ) (x : List ℕ) (ns : Names) → AreNames k ns → AreNames k (unbind x ns)
names_unbound k x ns h = record { titles = unbound_titles x ns h.titles; rise = rise_unbind x ns h.rise; values = unbound_values_in k x ns h.values }

with_names : {l : ℕ} {s : Moment} (f : Names) (xs : List (List ℕ)) → AreNames l f → IsMoment l s → IsMoment l (record s { names = f; accessed = xs })
with_names f xs h g = record { many = g.many; nodes = g.nodes; names = h; locals = g.locals; handled = g.handled; budget = g.budget }

pub with_locals : {l : ℕ} {s : Moment} (o : Option Locals) → Maybe (λ (here : Locals). AreValues l (values_in here.values)) o → IsMoment l s → IsMoment l (record s { locals = o })
with_locals o h g = record { many = g.many; nodes = g.nodes; names = g.names; locals = h; handled = g.handled; budget = g.budget }

-- ---- builtin functions and classes

place_within : (x : List ℕ) (words : List (List ℕ)) → Maybe (λ n. n < length words) (place_among x words)
place_within x [] = tt
place_within x (w ∷ words) = found (bytes_eq x w) (place_among x words) (place_within x words)
  where
    found : (b : Bool) (o : Option ℕ) → Maybe (λ n. n < length words) o → Maybe (λ n. n < suc (length words)) (if b then Some 0 else option_map suc o)
    found true o h = omega arith
    found false None h = tt
    found false (Some n) h = omega (arith, h)

builtin_there : (x : List ℕ) → Maybe (λ n. n < builtins) (place_among x builtin_names)
unfolding builtin_names
builtin_there x = place_within x builtin_names

class_there : (x : List ℕ) → Maybe (λ n. n < classes) (place_among x class_names)
unfolding class_names
class_there x = place_within x class_names

name_error_s : {A : Type 0} {k : ℕ} {Q : ℕ → A → Type 0} (x : List ℕ) → IsName x → Safe k Q (name_error x)
name_error_s x n = raise_s _ (codes "name '" ++ chars x ++ codes "' is not defined") refl (text_between (codes "name '") (chars x) (codes "' is not defined") refl (text_name x n) refl)

unbound_local_s : {A : Type 0} {k : ℕ} {Q : ℕ → A → Type 0} (x : List ℕ) → IsName x → Safe k Q (unbound_local x)
unbound_local_s x n = raise_s _ (codes "local name '" ++ chars x ++ codes "' has no value") refl (text_between (codes "local name '") (chars x) (codes "' has no value") refl (text_name x n) refl)

or_class_s : {k : ℕ} (x : List ℕ) (o : Option ℕ) → IsName x → Maybe (λ n. n < classes) o → Safe k IsValue (or_class x o)
or_class_s x (Some m) n h = value_s (class m) h
or_class_s x None n h = name_error_s x n

or_builtin_s : {k : ℕ} (x : List ℕ) (o : Option ℕ) → IsName x → Maybe (λ n. n < builtins) o → Safe k IsValue (or_builtin x o)
or_builtin_s x (Some m) n h = value_s (builtin m) h
or_builtin_s x None n h = or_class_s x (place_among x class_names) n (class_there x)

or_other_s : {k : ℕ} (x : List ℕ) (o : Option Value) → IsName x → MaybeValue k o → Safe k IsValue (or_other x o)
or_other_s x (Some v) n h = value_s v h
or_other_s x None n h = or_builtin_s x (place_among x builtin_names) n (builtin_there x)

-- ---- read, bound, unbound

abbrev taking_global : List ℕ → Bool → M (Unit {0})
taking_global x b s = if b then fine tt (record s { names = unbind x s.names }) else name_error x s

abbrev taking_local : List ℕ → Locals → Bool → M (Unit {0})
taking_local x here b s = if b then fine tt (record s { locals = Some (record here { values = unbind x here.values }) }) else unbound_local x s

taken_ends : (x : List ℕ) (b : Bool) (l : ℕ) (s : Moment) → IsName x → IsMoment l s → SafeEnds l s.left s.nodes s.depth s.profile Any (taking_global x b s)
taken_ends x true l s n g = fines l (omega arith) (stay s) tt (with_names (unbind x s.names) s.accessed (names_unbound l x s.names g.names) g)
taken_ends x false l s n g = (name_error_s {k = l} {Q = Any} x n).go l (omega arith) s g

local_ends : (x : List ℕ) (here : Locals) (b : Bool) (l : ℕ) (s : Moment) → IsName x → AreValues l (values_in here.values) → IsMoment l s → SafeEnds l s.left s.nodes s.depth s.profile Any (taking_local x here b s)
local_ends x here true l s n h g = fines l (omega arith) (stay s) tt (with_locals (Some (record here { values = unbind x here.values })) (unbound_values_in l x here.values h) g)
local_ends x here false l s n h g = (unbound_local_s {k = l} {Q = Any} x n).go l (omega arith) s g

taken_wide : (x : List ℕ) (b : Bool) (d : ℕ) (s : Moment) → WiderEnds d (taking_global x b s) (taking_global x b (more d s))
taken_wide x true d s = both_fine
taken_wide x false d s = both_raised

local_wide : (x : List ℕ) (here : Locals) (b : Bool) (d : ℕ) (s : Moment) → WiderEnds d (taking_local x here b s) (taking_local x here b (more d s))
local_wide x here true d s = both_fine
local_wide x here false d s = both_raised

abbrev pub AreLocals : ℕ → Option Locals → Type 0
AreLocals k = Maybe (λ (here : Locals). AreValues k (values_in here.values))

module _ {k : ℕ} where
  read_global_s : (x : List ℕ) → IsName x → Safe k IsValue (read_global x)
  read_global_s x n = record { go = λ l le s g. (or_other_s x (find x s.names) n (value_of_name l x s.names g.names.values)).go l (omega arith) (record s { accessed = with_access x s.accessed }) (with_names s.names (with_access x s.accessed) g.names g); wide = λ l le s g d pos fits. (or_other_s x (find x s.names) n (value_of_name l x s.names g.names.values)).wide l (omega arith) (record s { accessed = with_access x s.accessed }) (with_names s.names (with_access x s.accessed) g.names g) d pos fits }

  or_unbound_s : (x : List ℕ) (o : Option Value) → IsName x → MaybeValue k o → Safe k IsValue (or_unbound x o)
  or_unbound_s x (Some v) n h = value_s v h
  or_unbound_s x None n h = unbound_local_s x n

  read_in_s : (x : List ℕ) (o : Option Locals) → IsName x → AreLocals k o → Safe k IsValue (read_in x o)
  read_in_s x None n h = read_global_s x n
  read_in_s x (Some here) n h = if_s (is_among x here.own) (or_unbound_s x (find x here.values) n (value_of_name k x here.values h)) (read_global_s x n)

  bind_global_s : (x : List ℕ) (v : Value) → IsName x → IsValue k v → Safe k Any (bind_global x v)
  bind_global_s x v n p = record { go = λ l le s g. fines l (omega arith) (stay s) tt (with_names (bind x v s.names) (with_access x s.accessed) (names_bound l x v s.names n (value_later k l le v p) g.names) g); wide = λ l le s g d pos fits. both_fine }

  bind_local_s : (x : List ℕ) (v : Value) (here : Locals) → IsValue k v → AreValues k (values_in here.values) → Safe k Any (bind_local x v here)
  bind_local_s x v here p h = record { go = λ l le s g. fines l (omega arith) (stay s) tt (with_locals (Some (record here { values = bind x v here.values })) (bound_values_in l x v here.values (value_later k l le v p) (values_later k l le (values_in here.values) h)) g); wide = λ l le s g d pos fits. both_fine }

  bind_in_s : (x : List ℕ) (v : Value) (o : Option Locals) → IsName x → IsValue k v → AreLocals k o → Safe k Any (bind_in x v o)
  bind_in_s x v None n p h = bind_global_s x v n p
  bind_in_s x v (Some here) n p h = if_s (is_among x here.own) (bind_local_s x v here p h) (bind_global_s x v n p)

  delete_global_s : (x : List ℕ) → IsName x → Safe k Any (delete_global x)
  delete_global_s x n = record { go = λ l le s g. taken_ends x (is_some (find x s.names)) l (record s { accessed = with_access x s.accessed }) n (with_names s.names (with_access x s.accessed) g.names g); wide = λ l le s g d pos fits. taken_wide x (is_some (find x s.names)) d (record s { accessed = with_access x s.accessed }) }

  delete_in_s : (x : List ℕ) (o : Option Locals) → IsName x → AreLocals k o → Safe k Any (delete_in x o)
  delete_in_s x None n h = delete_global_s x n
  delete_in_s x (Some here) n h = if_s (is_among x here.own) (record { go = λ l le s g. local_ends x here (is_some (find x here.values)) l s n (values_later k l le (values_in here.values) h) g; wide = λ l le s g d pos fits. local_wide x here (is_some (find x here.values)) d s }) (delete_global_s x n)

  forget_global_s : (x : List ℕ) → Safe k Any (forget_global x)
  forget_global_s x = record { go = λ l le s g. fines l (omega arith) (stay s) tt (with_names (unbind x s.names) (with_access x s.accessed) (names_unbound l x s.names g.names) g); wide = λ l le s g d pos fits. both_fine }

  forget_in_s : (x : List ℕ) (o : Option Locals) → AreLocals k o → Safe k Any (forget_in x o)
  forget_in_s x None h = forget_global_s x
  forget_in_s x (Some here) h = if_s (is_among x here.own) (record { go = λ l le s g. fines l (omega arith) (stay s) tt (with_locals (Some (record here { values = unbind x here.values })) (unbound_values_in l x here.values (values_later k l le (values_in here.values) h)) g); wide = λ l le s g d pos fits. both_fine }) (forget_global_s x)

module _ {k : ℕ} where
  pub read_s : (x : List ℕ) → IsName x → Safe k IsValue (read x)
  read_s x n = asking_s (λ s. read_in x s.locals) (λ d s. refl) (λ l s le g. read_in_s x s.locals n g.locals)

  pub assign_s : (x : List ℕ) (v : Value) → IsName x → IsValue k v → Safe k Any (assign x v)
  assign_s x v n p = asking_s (λ s. bind_in x v s.locals) (λ d s. refl) (λ l s le g. bind_in_s x v s.locals n (value_later k l le v p) g.locals)

  pub delete_s : (x : List ℕ) → IsName x → Safe k Any (delete x)
  delete_s x n = asking_s (λ s. delete_in x s.locals) (λ d s. refl) (λ l s le g. delete_in_s x s.locals n g.locals)

  pub forget_s : (x : List ℕ) → Safe k Any (forget x)
  forget_s x = asking_s (λ s. forget_in x s.locals) (λ d s. refl) (λ l s le g. forget_in_s x s.locals g.locals)

  left_ends : {A : Type 0} {n : ℕ} {ns : List Node} {deep : ℕ} {profile : Profile} (Q : ℕ → A → Type 0) (o : Option Locals) {e : Ends A} → AreLocals k o → SafeEnds k n ns deep profile Q e → SafeEnds k n ns deep profile Q (left_at o e)
  left_ends Q o h (fines l le after q g) = fines l le after q (with_locals o (locals_later k l le o h) g)
  left_ends Q o h (raiseds l le after q g) = raiseds l le after q (with_locals o (locals_later k l le o h) g)
  left_ends Q o h (stoppeds l le after g) = stoppeds l le after (with_locals o (locals_later k l le o h) g)

frame_left : {A : Type 0} (o : Option Locals) (e : Ends A) → (end_of (left_at o e)).left ≡ (end_of e).left
frame_left o (fine a s) = refl
frame_left o (raised x s) = refl
frame_left o (stopped s) = refl

frame_wide : {A : Type 0} {d : ℕ} (o : Option Locals) {e e' : Ends A} → WiderEnds d e e' → WiderEnds d (left_at o e) (left_at o e')
frame_wide o both_fine = both_fine
frame_wide o both_raised = both_raised
frame_wide {d = d} o (one_stopped {e = e} z short) = one_stopped z (subst (λ (j : ℕ). j < d) (sym (frame_left o e)) short)

pub frame_s : {A : Type 0} {k : ℕ} (Q : ℕ → A → Type 0) (here : Locals) {m : M A} → AreValues k (values_in here.values) → Safe k Q m → Safe k Q (in_frame here m)
frame_s {k = k} Q here {m = m} h e = record {
  go = λ l le s g. left_ends Q s.locals g.locals (e.go l le (record s { locals = Some here }) (with_locals (Some here) (values_later k l le (values_in here.values) h) g));
  wide = λ l le s g d pos fits. frame_wide s.locals (e.wide l le (record s { locals = Some here }) (with_locals (Some here) (values_later k l le (values_in here.values) h) g) d pos fits);
}
