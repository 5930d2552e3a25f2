-- Values that are put behind a list's items, one after the other.
use Rattle.std.proofs.Common.{◌≡◌, ◌∙◌, ap, sym, refl, arith, ℕ, zero, suc, ◌+◌, ◌<◌, ◌≤◌, List, [], ◌∷◌, ◌++◌, length, map, drop, get_or, append_assoc}
use Rattle.std.proofs.lemmas.List.{append-nil}
use Rattle.kishu_meaning.specs.declared.value.Value as rust
use Rattle.kishu_meaning.specs.values.Values.{Value, value_of, Node, list, tuple, dict, object, function, exception}
use Rattle.kishu_meaning.specs.values.Nodes.{changed, on_list, push}
use Rattle.kishu_heap.specs.Changing.{unmoved, changed_like, changed_twice}
use Rattle.kishu_items.specs.Gathering.{dropped}

pushed_more : (v : Value) (rest : List Value) (n : Node) → on_list (λ items. items ++ v ∷ rest) n ≡ on_list (λ items. items ++ rest) (push v n)
pushed_more v rest (list vs) = ap list (sym (append_assoc vs (v ∷ []) rest))
pushed_more v rest (tuple vs) = refl
pushed_more v rest (dict es) = refl
pushed_more v rest (object as') = refl
pushed_more v rest (function profile code vs) = refl
pushed_more v rest (exception kind vs) = refl

pushes_on : (v : Value) (rest : List Value) (i : ℕ) (ns : List Node) → changed (on_list (λ items. items ++ v ∷ rest)) i ns ≡ changed (on_list (λ items. items ++ rest)) i (changed (push v) i ns)
pushes_on v rest i ns = changed_like _ _ (pushed_more v rest) i ns ∙ sym (changed_twice (on_list (λ items. items ++ rest)) (push v) i ns)

pushed_none : (n : Node) → on_list (λ items. items ++ []) n ≡ n
pushed_none (list vs) = ap list (append-nil vs)
pushed_none (tuple vs) = refl
pushed_none (dict es) = refl
pushed_none (object as') = refl
pushed_none (function profile code vs) = refl
pushed_none (exception kind vs) = refl

pushes_none : (i : ℕ) (ns : List Node) → changed (on_list (λ items. items ++ [])) i ns ≡ ns
pushes_none i ns = changed_like _ (λ n. n) pushed_none i ns ∙ unmoved i ns

pub push_step : (xs : List rust.Value) (i : ℕ) (x y : rust.Value) (id : ℕ) (before after : List Node) → i < length xs → x ≡ get_or xs i x → value_of y ≡ value_of x → after ≡ changed (push (value_of y)) id before
    → changed (on_list (λ items. items ++ map value_of (drop i xs))) id before ≡ changed (on_list (λ items. items ++ map value_of (drop (i + 1) xs))) id after
push_step xs i x y id before after within is same e =
    rw (dropped xs i x within is, e, same) (pushes_on (value_of x) (map value_of (drop (i + 1) xs)) id before)

none_left : {A : Type 0} (xs : List A) (i : ℕ) → length xs ≤ i → drop i xs ≡ []
none_left [] zero h = refl
none_left [] (suc i) h = refl
none_left (x ∷ xs) zero h = absurd (omega arith)
none_left (x ∷ xs) (suc i) h = none_left xs i (omega arith)

pub push_end : (xs : List rust.Value) (i id : ℕ) (ns : List Node) → length xs ≤ i → changed (on_list (λ items. items ++ map value_of (drop i xs))) id ns ≡ ns
push_end xs i id ns h = rw (none_left xs i h) (pushes_none id ns)
