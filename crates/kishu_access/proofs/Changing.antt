-- Nodes that are changed.
use Rattle.std.proofs.Common.{◌≡◌, ◌∙◌, refl, ap, sym, arith, ℕ, zero, suc, ◌+◌, ◌<◌, ◌≤◌, Bool, IsTrue, List, [], ◌∷◌, ◌++◌, length, map, take, drop, get_or, append_assoc, Option, Some, None, Result, Ok, Err, OnOk}
use Rattle.std.specs.Prelude.{slice_get, unwrap_or, OnErr}
use Rattle.std.specs.List.{list_all, remove}
use Rattle.std.proofs.lemmas.List.{map-append, take-map, drop-map, append-nil}
use Rattle.kishu_meaning.specs.declared.value.Value as rust
use Rattle.kishu_meaning.specs.moments.Moment.{Locals}
use Rattle.kishu_meaning.specs.values.Nodes.{changed, on_list, push, replace_list}
use Rattle.kishu_meaning.specs.calls.Operators.{list_from}
use Rattle.kishu_meaning.specs.items.Subscripts.{without_place}
use Rattle.kishu_meaning.specs.values.Values.{Value, value_of, Names, Node, list, tuple, dict, object, function, exception}
use Rattle.kishu_meaning.specs.items.Walks.{or_none_there}
use Rattle.kishu_heap.specs.Changing.{changed_at, changed_like, changed_twice, length_changed, unmoved}
use Rattle.kishu_items.specs.Gathering.{dropped}
use Rattle.kishu_items.specs.Holding.{both, first, second}
use Rattle.kishu_machine.specs.Frames.{is_sound_run}
use Rattle.kishu_machine.specs.SoundMore.{sound_more_run}

-- A run stays sound over a heap with as many nodes.
pub as_long : (old new : List Node) (names : Names) (locals : Option Locals) (handled : Option Value) → length new ≡ length old
    → IsTrue (is_sound_run old names locals handled) → IsTrue (is_sound_run new names locals handled)
as_long old new names locals handled e h = sound_more_run old new names locals handled (omega (arith, e)) h

pub run_changed : (f : Node → Node) (i : ℕ) (old new : List Node) (names : Names) (locals : Option Locals) (handled : Option Value) → new ≡ changed f i old
    → IsTrue (is_sound_run old names locals handled) → IsTrue (is_sound_run new names locals handled)
run_changed f i old new names locals handled e h = as_long old new names locals handled (ap length e ∙ length_changed f i old) h

pub long_kept : {T E : Type 0} (f : Node → Node) (i : ℕ) (old new : List Node) (r : Result T E) → OnOk r (new ≡ changed f i old) → OnErr r (new ≡ old) → length new ≡ length old
long_kept f i old new (Ok x) h k = ap length h ∙ length_changed f i old
long_kept f i old new (Err e) h k = ap length k

pub run_kept : {T E : Type 0} (f : Node → Node) (i : ℕ) (old new : List Node) (names : Names) (locals : Option Locals) (handled : Option Value) (r : Result T E) → OnOk r (new ≡ changed f i old) → OnErr r (new ≡ old)
    → IsTrue (is_sound_run old names locals handled) → IsTrue (is_sound_run new names locals handled)
run_kept f i old new names locals handled r h k w = as_long old new names locals handled (long_kept f i old new r h k) w

none_there : (f g : Node → Node) (i : ℕ) (ns : List Node) → slice_get ns i ≡ None → changed f i ns ≡ changed g i ns
none_there f g i [] h = refl
none_there f g zero (x ∷ xs) h = absurd cc
none_there f g (suc i) (x ∷ xs) h = ap (λ ys. x ∷ ys) (none_there f g i xs h)

replaced_at : (f : List Value → List Value) (i : ℕ) (ns : List Node) (o : Option Node) → slice_get ns i ≡ o → changed (replace_list (f (or_none_there (list_from o)))) i ns ≡ changed (on_list f) i ns
replaced_at f i ns (Some (list vs)) h = changed_at (replace_list (f vs)) (on_list f) i ns (list vs) h refl
replaced_at f i ns (Some (tuple vs)) h = changed_at (replace_list (f [])) (on_list f) i ns (tuple vs) h refl
replaced_at f i ns (Some (dict es)) h = changed_at (replace_list (f [])) (on_list f) i ns (dict es) h refl
replaced_at f i ns (Some (object as')) h = changed_at (replace_list (f [])) (on_list f) i ns (object as') h refl
replaced_at f i ns (Some (function profile code vs)) h = changed_at (replace_list (f [])) (on_list f) i ns (function profile code vs) h refl
replaced_at f i ns (Some (exception kind vs)) h = changed_at (replace_list (f [])) (on_list f) i ns (exception kind vs) h refl
replaced_at f i ns None h = none_there (replace_list (f [])) (on_list f) i ns h

-- All items are replaced by what a change makes of them.
pub replaced : (f : List Value → List Value) (i : ℕ) (ns : List Node) → changed (replace_list (f (or_none_there (list_from (slice_get ns i))))) i ns ≡ changed (on_list f) i ns
replaced f i ns = replaced_at f i ns (slice_get ns i) refl

map_without : (xs : List rust.Value) (i : ℕ) → map value_of (remove xs i) ≡ without_place i (map value_of xs)
map_without xs i = map-append value_of (take i xs) (drop (suc i) xs) ∙ rw (take-map value_of i xs, drop-map value_of (suc i) xs) refl

pub seen_removed : (xs ys : List rust.Value) (vs : List Value) (i : ℕ) → ys ≡ remove xs i → map value_of xs ≡ vs → map value_of ys ≡ without_place i vs
seen_removed xs ys vs i e h = ap (map value_of) e ∙ map_without xs i ∙ ap (without_place i) h

module _ {X : Type 0} (p : X → Bool) where
  all_append : (xs ys : List X) → IsTrue (list_all p xs) → IsTrue (list_all p ys) → IsTrue (list_all p (xs ++ ys))
  all_append [] ys a b = b
  all_append (x ∷ xs) ys a b = both (p x) _ (first (p x) _ a) (all_append xs ys (second (p x) _ a) b)

  all_take : (xs : List X) (i : ℕ) → IsTrue (list_all p xs) → IsTrue (list_all p (take i xs))
  all_take [] zero a = refl
  all_take [] (suc i) a = refl
  all_take (x ∷ xs) zero a = refl
  all_take (x ∷ xs) (suc i) a = both (p x) _ (first (p x) _ a) (all_take xs i (second (p x) _ a))

  all_drop : (xs : List X) (i : ℕ) → IsTrue (list_all p xs) → IsTrue (list_all p (drop i xs))
  all_drop [] zero a = refl
  all_drop [] (suc i) a = refl
  all_drop (x ∷ xs) zero a = a
  all_drop (x ∷ xs) (suc i) a = all_drop xs i (second (p x) _ a)

  pub all_without : (xs : List X) (i : ℕ) → IsTrue (list_all p xs) → IsTrue (list_all p (without_place i xs))
  all_without xs i a = all_append (take i xs) (drop (suc i) xs) (all_take xs i a) (all_drop xs (suc i) a)

-- ---- values that are put behind a list's items, one after the other

none_left : {A : Type 0} (xs : List A) (i : ℕ) → length xs ≤ i → drop i xs ≡ []
none_left [] zero h = refl
none_left [] (suc i) h = refl
none_left (x ∷ xs) zero h = absurd (omega arith)
none_left (x ∷ xs) (suc i) h = none_left xs i (omega arith)
