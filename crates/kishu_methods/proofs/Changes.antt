-- Entries that come to a dict one after the other, lists that are replaced, and what a change leaves sound.
use Rattle.std.proofs.Common.{◌≡◌, ◌∙◌, ap, sym, refl, ℕ, zero, suc, Bool, IsTrue, List, [], ◌∷◌, ◌++◌, map, take, drop, Some}
use Rattle.std.specs.Prelude.{slice_get}
use Rattle.std.specs.List.{list_all, insert, remove}
use Rattle.std.proofs.lemmas.List.{map-append, take-map, drop-map}
use Rattle.kishu_meaning.specs.values.Keys.{Key}
use Rattle.kishu_meaning.specs.calls.Methods.{with_entries}
use Rattle.kishu_meaning.specs.values.Values.{Value, Node, list, tuple, dict, object, function, exception}
use Rattle.kishu_meaning.specs.values.Nodes.{changed, on_list, on_dict, insert as put, replace_list}
pub use Rattle.kishu_heap.specs.Changing.{length_changed, changed_at, unmoved, unchanged, changed_twice, changed_like}
pub use Rattle.kishu_items.specs.Holding.{both, first, second}
use Rattle.kishu_methods.specs.Contents.{items_at}

-- ---- entries that come to a dict, one after the other

inserted_more : (e : Key × Value) (es : List (Key × Value)) (n : Node) → on_dict (with_entries (e ∷ es)) n ≡ on_dict (with_entries es) (put e.0 e.1 n)
inserted_more e es (list vs) = refl
inserted_more e es (tuple vs) = refl
inserted_more e es (dict gs) = refl
inserted_more e es (object as') = refl
inserted_more e es (function profile code vs) = refl
inserted_more e es (exception kind vs) = refl

pub inserts_on : (e : Key × Value) (es : List (Key × Value)) (i : ℕ) (ns : List Node) → changed (on_dict (with_entries (e ∷ es))) i ns ≡ changed (on_dict (with_entries es)) i (changed (put e.0 e.1) i ns)
inserts_on e es i ns = changed_like _ _ (inserted_more e es) i ns ∙ sym (changed_twice (on_dict (with_entries es)) (put e.0 e.1) i ns)

inserted_none : (n : Node) → on_dict (with_entries []) n ≡ n
inserted_none (list vs) = refl
inserted_none (tuple vs) = refl
inserted_none (dict es) = refl
inserted_none (object as') = refl
inserted_none (function profile code vs) = refl
inserted_none (exception kind vs) = refl

pub inserts_none : (i : ℕ) (ns : List Node) → changed (on_dict (with_entries [])) i ns ≡ ns
inserts_none i ns = changed_like _ (λ n. n) inserted_none i ns ∙ unmoved i ns

-- ---- a list and its items

pub listed : (ns : List Node) (i : ℕ) (vs : List Value) → slice_get ns i ≡ Some (list vs) → items_at ns i ≡ vs
unfolding items_at
listed ns i vs h = rw h refl

pub is_list : (ns : List Node) (i : ℕ) (vs : List Value) → slice_get ns i ≡ Some (list vs) → slice_get ns i ≡ Some (list (items_at ns i))
is_list ns i vs h = h ∙ ap (λ ws. Some (list ws)) (sym (listed ns i vs h))

-- All items are replaced by what a change makes of them.
pub replaced : (f : List Value → List Value) (i : ℕ) (ns : List Node) (vs : List Value) → slice_get ns i ≡ Some (list vs) → changed (replace_list (f vs)) i ns ≡ changed (on_list f) i ns
replaced f i ns vs h = changed_at (replace_list (f vs)) (on_list f) i ns (list vs) h refl

pub map_insert : {A B : Type 0} (f : A → B) (xs : List A) (i : ℕ) (x : A) → map f (insert xs i x) ≡ insert (map f xs) i (f x)
map_insert f xs i x = map-append f (take i xs) (x ∷ drop i xs) ∙ rw (take-map f i xs, drop-map f i xs) refl

pub map_remove : {A B : Type 0} (f : A → B) (xs : List A) (i : ℕ) → map f (remove xs i) ≡ remove (map f xs) i
map_remove f xs i = map-append f (take i xs) (drop (suc i) xs) ∙ rw (take-map f i xs, drop-map f (suc i) xs) refl

-- ---- soundness

module _ {X : Type 0} (p : X → Bool) where
  pub all_append : (xs ys : List X) → IsTrue (list_all p xs) → IsTrue (list_all p ys) → IsTrue (list_all p (xs ++ ys))
  all_append [] ys a b = b
  all_append (x ∷ xs) ys a b = both (p x) _ (first (p x) _ a) (all_append xs ys (second (p x) _ a) b)

  pub all_take : (xs : List X) (i : ℕ) → IsTrue (list_all p xs) → IsTrue (list_all p (take i xs))
  all_take [] zero a = refl
  all_take [] (suc i) a = refl
  all_take (x ∷ xs) zero a = refl
  all_take (x ∷ xs) (suc i) a = both (p x) _ (first (p x) _ a) (all_take xs i (second (p x) _ a))

  pub all_drop : (xs : List X) (i : ℕ) → IsTrue (list_all p xs) → IsTrue (list_all p (drop i xs))
  all_drop [] zero a = refl
  all_drop [] (suc i) a = refl
  all_drop (x ∷ xs) zero a = a
  all_drop (x ∷ xs) (suc i) a = all_drop xs i (second (p x) _ a)

  pub all_insert : (xs : List X) (i : ℕ) (x : X) → IsTrue (list_all p xs) → IsTrue (p x) → IsTrue (list_all p (insert xs i x))
  all_insert xs i x a h = all_append (take i xs) (x ∷ drop i xs) (all_take xs i a) (both (p x) _ h (all_drop xs i a))

  pub all_remove : (xs : List X) (i : ℕ) → IsTrue (list_all p xs) → IsTrue (list_all p (remove xs i))
  all_remove xs i a = all_append (take i xs) (drop (suc i) xs) (all_take xs i a) (all_drop xs (suc i) a)
