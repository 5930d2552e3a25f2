-- Places and targets keep node numbers those of nodes.
use Rattle.std.specs.Prelude.{ℕ, ◌≤◌, List, [], ◌∷◌}
use Rattle.kishu_language.specs.declared.tree.Operator.{Operator}
use Rattle.kishu_language.specs.trees.Tree as t
use Rattle.kishu_language.specs.trees.Tree.{Trailer, Trailers, no_trailers, more_trailers, Expression, Expressions, more_expressions, no_expressions}
use Rattle.kishu_meaning.specs.calls.Callees.{Part}
use Rattle.kishu_meaning.specs.cells.Meaning.{Place, named, attribute_of, item_of, read_place, store_in, delete_place, Calls, place_by, place_after, nodes_before_last, place, store, count, store_each, store_all, delete_all, update}
use Rattle.kishu_meaning.specs.moments.Moment.{give}
use Rattle.kishu_meaning.specs.values.Values.{Value}
use Rattle.kishu_soundness_laws.specs.Below.{Below, Any, AllBelow}
use Rattle.kishu_soundness_laws.specs.BelowLaws.{below_later}
use Rattle.kishu_soundness_laws.specs.moments.Steps.{IsSafe, give_safe, bind_safe, deeper_safe, any_safe, then_safe, tick_safe}
use Rattle.kishu_soundness_laws.specs.items.Subscripts.{attribute_safe, item_safe, store_attribute_safe, store_item_safe, delete_attribute_safe, delete_item_safe}
use Rattle.kishu_soundness_laws.specs.items.Walks.{unpacked_safe}
use Rattle.kishu_soundness_laws.specs.calls.Callees.{PartBelow, settled_safe}
use Rattle.kishu_soundness_laws.specs.moments.Names.{read_safe, assign_safe, delete_safe}
use Rattle.kishu_soundness_laws.specs.cells.Parts.{no_place_safe, nodes_safe, updated_safe}
use Rattle.kishu_soundness_laws.specs.cells.Expressions.{CallsAreSafe, expr_safe, trailer_safe, part_safe}

abbrev PlaceBelow : ℕ → Place → Type 0
PlaceBelow k (named x) = Unit {0}
PlaceBelow k (attribute_of v x) = Below k v
PlaceBelow k (item_of v i) = Below k v × Below k i

place_later : (k l : ℕ) → k ≤ l → (p : Place) → PlaceBelow k p → PlaceBelow l p
place_later k l h (named x) q = tt
place_later k l h (attribute_of v x) q = below_later k l h v q
place_later k l h (item_of v i) q = (below_later k l h v q.0, below_later k l h i q.1)

give_place_safe : {k : ℕ} (p : Place) → PlaceBelow k p → IsSafe k PlaceBelow (give p)
give_place_safe {k = k} p h = give_safe PlaceBelow (λ l le. place_later k l le p h)

read_place_safe : {k : ℕ} (p : Place) → PlaceBelow k p → IsSafe k Below (read_place p)
read_place_safe (named x) h = read_safe x
read_place_safe (attribute_of v x) h = attribute_safe v x
read_place_safe (item_of v i) h = item_safe v i h.1

store_in_safe : {k : ℕ} (p : Place) (w : Value) → Below k w → IsSafe k Any (store_in p w)
store_in_safe (named x) w h = assign_safe x w h
store_in_safe (attribute_of v x) w h = store_attribute_safe v x w h
store_in_safe (item_of v i) w h = store_item_safe v i w h

delete_place_safe : {k : ℕ} (p : Place) → PlaceBelow k p → IsSafe k Any (delete_place p)
delete_place_safe (named x) h = delete_safe x
delete_place_safe (attribute_of v x) h = delete_attribute_safe v x
delete_place_safe (item_of v i) h = delete_item_safe v i h.1

module _ (calls : Calls) (safe : CallsAreSafe calls) where
  place_by_safe : (k : ℕ) (v : Value) → Below k v → (last : Trailer) → IsSafe k PlaceBelow (place_by calls v last)
  place_by_safe k v p (t.attribute x) = give_place_safe (attribute_of v x) p
  place_by_safe k v p (t.index e) = bind_safe (deeper_safe (expr_safe calls safe k e)) (λ l le i q. give_place_safe (item_of v i) (below_later k l le v p, q))
  place_by_safe k v p (t.call es) = no_place_safe
  place_by_safe k v p (t.slice start stop step) = no_place_safe

  place_after_safe : (k : ℕ) (p : Part) → PartBelow k p → (ts : Trailers) → IsSafe k PlaceBelow (place_after calls p ts)
  place_after_safe k p h no_trailers = no_place_safe
  place_after_safe k p h (more_trailers last no_trailers) = bind_safe (settled_safe p h) (λ l le v q. place_by_safe l v q last)
  place_after_safe k p h (more_trailers first (more_trailers next ts)) = bind_safe (trailer_safe calls safe k p h first) (λ l le p' q. place_after_safe l p' q (more_trailers next ts))

  before_safe : {k : ℕ} (ts : Trailers) → IsSafe k Any (nodes_before_last ts)
  before_safe no_trailers = any_safe
  before_safe (more_trailers first ts) = nodes_safe ts

  place_safe : (k : ℕ) (e : Expression) → IsSafe k PlaceBelow (place calls e)
  place_safe k (t.name x) = give_place_safe (named x) tt
  place_safe k (t.primary e ts) = bind_safe (then_safe (before_safe ts) (part_safe calls safe k e (expr_safe calls safe k e))) (λ l le p q. place_after_safe l p q ts)
  place_safe k e = no_place_safe

  mutual
    pub store_safe : (k : ℕ) (e : Expression) (v : Value) → Below k v → IsSafe k Any (store calls e v)
    store_safe k (t.paren e) v p = deeper_safe (store_safe k e v p)
    store_safe k (t.tuple es) v p = bind_safe (unpacked_safe (count es) v) (λ l le vs q. store_each_safe l es vs q)
    store_safe k (t.list es) v p = deeper_safe (bind_safe (unpacked_safe (count es) v) (λ l le vs q. store_each_safe l es vs q))
    store_safe k (t.name x) v p = assign_safe x v p
    store_safe k (t.primary e ts) v p = bind_safe (place_safe k (t.primary e ts)) (λ l le x q. store_in_safe x v (below_later k l le v p))
    store_safe k e v p = no_place_safe

    store_each_safe : (k : ℕ) (es : Expressions) (vs : List Value) → AllBelow k vs → IsSafe k Any (store_each calls es vs)
    store_each_safe k (more_expressions e es) (v ∷ vs) h = then_safe (store_safe k e v h.0) (store_each_safe k es vs h.1)
    store_each_safe k (more_expressions e es) [] h = any_safe
    store_each_safe k no_expressions vs h = any_safe

  pub store_all_safe : (k : ℕ) (es : List Expression) (v : Value) → Below k v → IsSafe k Any (store_all calls es v)
  store_all_safe k [] v p = any_safe
  store_all_safe k (e ∷ es) v p = then_safe (store_safe k e v p) (store_all_safe k es v p)

  pub delete_all_safe : (k : ℕ) (es : List Expression) → IsSafe k Any (delete_all calls es)
  delete_all_safe k [] = any_safe
  delete_all_safe k (e ∷ es) = bind_safe (place_safe k e) (λ l le x q. then_safe (delete_place_safe x q) (delete_all_safe l es))

  pub update_safe : (k : ℕ) (e : Expression) (operator : Operator) (operand : Expression) → IsSafe k Any (update calls e operator operand)
  update_safe k e operator operand = bind_safe (place_safe k e) (λ l le x q. bind_safe (then_safe tick_safe (read_place_safe x q)) (λ l1 le1 v qv. bind_safe (expr_safe calls safe l1 operand) (λ l2 le2 w qw. bind_safe (then_safe tick_safe (updated_safe operator v w (below_later l1 l2 le2 v qv))) (λ l3 le3 r qr. store_in_safe x r qr))))
