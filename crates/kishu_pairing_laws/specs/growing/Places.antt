-- What places and targets have accessed stays recorded.
use Rattle.std.specs.Prelude.{List, ◌∷◌, []}
use Rattle.kishu_language.specs.declared.tree.Operator.{Operator}
use Rattle.kishu_language.specs.trees.Tree as t
use Rattle.kishu_language.specs.trees.Tree.{Trailer, Trailers, no_trailers, more_trailers, Expression, Expressions, more_expressions}
use Rattle.kishu_meaning.specs.calls.Callees.{Part}
use Rattle.kishu_meaning.specs.cells.Meaning.{Place, read_place, named, attribute_of, item_of, store_in, delete_place, Calls, place_by, place_after, nodes_before_last, place, store, count, store_each, store_all, delete_all, update}
use Rattle.kishu_meaning.specs.values.Values.{Value}
use Rattle.kishu_pairing_laws.specs.World.{Grows}
use Rattle.kishu_pairing_laws.specs.moments.Steps.{give_grows, bind_grows, deeper_grows, then_grows}
use Rattle.kishu_pairing_laws.specs.moments.Names.{read_grows, assign_grows, delete_grows}
use Rattle.kishu_pairing_laws.specs.growing.Parts.{no_place_grows, tick_grows, attribute_grows, item_grows, store_attribute_grows, store_item_grows, delete_attribute_grows, delete_item_grows, settled_grows, nodes_grows, unpacked_grows, updated_grows}
use Rattle.kishu_pairing_laws.specs.growing.Expressions.{CallsGrow, expr_grows, trailer_grows, part_grows}

pub read_place_grows : (p : Place) → Grows (read_place p)
read_place_grows (named x) = read_grows x
read_place_grows (attribute_of v x) = attribute_grows v x
read_place_grows (item_of v i) = item_grows v i

pub store_in_grows : (p : Place) (w : Value) → Grows (store_in p w)
store_in_grows (named x) w = assign_grows x w
store_in_grows (attribute_of v x) w = store_attribute_grows v x w
store_in_grows (item_of v i) w = store_item_grows v i w

pub delete_place_grows : (p : Place) → Grows (delete_place p)
delete_place_grows (named x) = delete_grows x
delete_place_grows (attribute_of v x) = delete_attribute_grows v x
delete_place_grows (item_of v i) = delete_item_grows v i

module _ (calls : Calls) (grow : CallsGrow calls) where
  pub place_by_grows : (v : Value) (last : Trailer) → Grows (place_by calls v last)
  place_by_grows v (t.attribute x) = give_grows _
  place_by_grows v (t.index e) = bind_grows (deeper_grows (expr_grows calls grow e)) (λ i. give_grows _)
  place_by_grows v (t.call es) = no_place_grows
  place_by_grows v (t.slice start stop step) = no_place_grows

  pub place_after_grows : (p : Part) (ts : Trailers) → Grows (place_after calls p ts)
  place_after_grows p no_trailers = no_place_grows
  place_after_grows p (more_trailers last no_trailers) = bind_grows (settled_grows p) (λ v. place_by_grows v last)
  place_after_grows p (more_trailers first (more_trailers next ts)) = bind_grows (trailer_grows calls grow p first) (λ q. place_after_grows q (more_trailers next ts))

  nodes_before_grows : (ts : Trailers) → Grows (nodes_before_last ts)
  nodes_before_grows no_trailers = give_grows _
  nodes_before_grows (more_trailers first ts) = nodes_grows ts

  pub place_grows : (e : Expression) → Grows (place calls e)
  place_grows (t.name x) = give_grows _
  place_grows (t.primary e ts) = bind_grows (then_grows (nodes_before_grows ts) (part_grows calls grow e (expr_grows calls grow e))) (λ p. place_after_grows p ts)
  place_grows e = no_place_grows

  mutual
    pub store_grows : (e : Expression) (v : Value) → Grows (store calls e v)
    store_grows (t.paren e) v = deeper_grows (store_grows e v)
    store_grows (t.tuple es) v = bind_grows (unpacked_grows (count es) v) (store_each_grows es)
    store_grows (t.list es) v = deeper_grows (bind_grows (unpacked_grows (count es) v) (store_each_grows es))
    store_grows (t.name x) v = bind_grows (place_grows (t.name x)) (λ p. store_in_grows p v)
    store_grows (t.primary e ts) v = bind_grows (place_grows (t.primary e ts)) (λ p. store_in_grows p v)
    store_grows e v = no_place_grows

    pub store_each_grows : (es : Expressions) (vs : List Value) → Grows (store_each calls es vs)
    store_each_grows (more_expressions e es) (v ∷ vs) = then_grows (store_grows e v) (store_each_grows es vs)
    store_each_grows es vs = give_grows _

  pub store_all_grows : (es : List Expression) (v : Value) → Grows (store_all calls es v)
  store_all_grows [] v = give_grows _
  store_all_grows (e ∷ es) v = then_grows (store_grows e v) (store_all_grows es v)

  pub delete_all_grows : (es : List Expression) → Grows (delete_all calls es)
  delete_all_grows [] = give_grows _
  delete_all_grows (e ∷ es) = bind_grows (place_grows e) (λ p. then_grows (delete_place_grows p) (delete_all_grows es))

  pub update_grows : (e : Expression) (operator : Operator) (operand : Expression) → Grows (update calls e operator operand)
  update_grows e operator operand = bind_grows (place_grows e) (λ p. bind_grows (then_grows tick_grows (read_place_grows p)) (λ v. bind_grows (expr_grows calls grow operand) (λ w. bind_grows (then_grows tick_grows (updated_grows operator v w)) (λ r. store_in_grows p r))))
