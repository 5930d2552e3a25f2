-- Places and targets go alike.
use Rattle.std.specs.Prelude.{List, [], ◌∷◌}
use Rattle.kishu_language.specs.declared.tree.Operator.{Operator}
use Rattle.kishu_language.specs.trees.Tree as t
use Rattle.kishu_language.specs.trees.Tree.{Trailer, Trailers, no_trailers, more_trailers, Expression, Expressions, more_expressions, no_expressions}
use Rattle.kishu_meaning.specs.calls.Callees.{Part}
use Rattle.kishu_meaning.specs.cells.Meaning.{Place, read_place, store_in, delete_place, Calls, place_by, place_after, nodes_before_last, place, store, count, store_each, store_all, delete_all, update}
use Rattle.kishu_meaning.specs.values.Values.{Value}
use Rattle.kishu_pairing_laws.specs.World.{World, GoAlike, SameValue, Any, GoQuietly, SameValues, cons, nil}
use Rattle.kishu_pairing_laws.specs.moments.Steps.{quiet, give_quiet, bind_alike, deeper_alike, give_grows, bind_first, then_alike, then_grows, bind_grows, tick_alike, then_quiet, tick_quiet}
use Rattle.kishu_pairing_laws.specs.items.Subscripts.{attribute_quiet, item_quiet, store_attribute_quiet, store_item_quiet, delete_attribute_quiet, delete_item_quiet}
use Rattle.kishu_pairing_laws.specs.items.Walks.{unpacked_quiet}
use Rattle.kishu_pairing_laws.specs.calls.Callees.{SamePart, settled_quiet}
use Rattle.kishu_pairing_laws.specs.moments.Names.{read_alike, assign_alike, delete_alike}
use Rattle.kishu_pairing_laws.specs.growing.Parts.{tick_grows, updated_grows}
use Rattle.kishu_pairing_laws.specs.cells.Parts.{SamePlace, named_places, attribute_places, item_places, no_place_quiet, nodes_quiet, updated_quiet}
use Rattle.kishu_pairing_laws.specs.growing.Expressions.{CallsGrow, expr_grows}
use Rattle.kishu_pairing_laws.specs.growing.Places.{place_after_grows, store_in_grows, store_each_grows, store_all_grows, delete_place_grows, delete_all_grows, read_place_grows}
use Rattle.kishu_pairing_laws.specs.cells.Expressions.{CallsAlike, expr_alike, trailer_alike, part_alike}

module _ (W : World) (sorted : W.Sorted) where
  pub read_place_alike : {p q : Place} → SamePlace W p q → GoAlike W (SameValue W) (read_place p) (read_place q)
  read_place_alike (named_places x) = read_alike W x
  read_place_alike (attribute_places x vw) = quiet W (attribute_quiet W x vw)
  read_place_alike (item_places vw ij) = quiet W (item_quiet W vw ij)

  pub store_in_alike : {p q : Place} {v w : Value} → SamePlace W p q → SameValue W v w → GoAlike W Any (store_in p v) (store_in q w)
  store_in_alike (named_places x) xy = assign_alike W x xy
  store_in_alike (attribute_places x vw) xy = quiet W (store_attribute_quiet W x vw xy)
  store_in_alike (item_places vw ij) xy = quiet W (store_item_quiet W vw ij xy)

  pub delete_place_alike : {p q : Place} → SamePlace W p q → GoAlike W Any (delete_place p) (delete_place q)
  delete_place_alike (named_places x) = delete_alike W sorted x
  delete_place_alike (attribute_places x vw) = quiet W (delete_attribute_quiet W x vw)
  delete_place_alike (item_places vw ij) = quiet W (delete_item_quiet W vw ij)

  module _ (calls : Calls) (grow : CallsGrow calls) (alike : CallsAlike W calls) where
    place_by_alike : {v w : Value} → SameValue W v w → (last : Trailer) → GoAlike W (SamePlace W) (place_by calls v last) (place_by calls w last)
    place_by_alike vw (t.attribute x) = quiet W (give_quiet W (attribute_places x vw))
    place_by_alike vw (t.index e) = bind_alike W (deeper_alike W (expr_alike W sorted calls grow alike e)) (λ i. give_grows _) (λ i j ij. quiet W (give_quiet W (item_places vw ij)))
    place_by_alike vw (t.call es) = quiet W (no_place_quiet W)
    place_by_alike vw (t.slice start stop step) = quiet W (no_place_quiet W)

    place_after_alike : {p q : Part} → SamePart W p q → (ts : Trailers) → GoAlike W (SamePlace W) (place_after calls p ts) (place_after calls q ts)
    place_after_alike pq no_trailers = quiet W (no_place_quiet W)
    place_after_alike pq (more_trailers last no_trailers) = bind_first W (settled_quiet W pq) (λ v w vw. place_by_alike vw last)
    place_after_alike pq (more_trailers first (more_trailers next ts)) = bind_alike W (trailer_alike W sorted calls grow alike pq first) (λ q. place_after_grows calls grow q (more_trailers next ts)) (λ p q pq. place_after_alike pq (more_trailers next ts))

    nodes_before_quiet : (ts : Trailers) → GoQuietly W Any (nodes_before_last ts) (nodes_before_last ts)
    nodes_before_quiet no_trailers = give_quiet W tt
    nodes_before_quiet (more_trailers first ts) = nodes_quiet W ts

    pub place_alike : (e : Expression) → GoAlike W (SamePlace W) (place calls e) (place calls e)
    place_alike (t.name x) = quiet W (give_quiet W (named_places x))
    place_alike (t.primary e ts) = bind_alike W (bind_first W (nodes_before_quiet ts) (λ _ _ _. part_alike W sorted calls grow alike e (expr_alike W sorted calls grow alike e))) (λ p. place_after_grows calls grow p ts) (λ p q pq. place_after_alike pq ts)
    place_alike e = quiet W (no_place_quiet W)

    mutual
      pub store_alike : (e : Expression) {v w : Value} → SameValue W v w → GoAlike W Any (store calls e v) (store calls e w)
      store_alike (t.paren e) vw = deeper_alike W (store_alike e vw)
      store_alike (t.tuple es) vw = bind_first W (unpacked_quiet W (count es) vw) (λ vs ws z. store_each_alike es z)
      store_alike (t.list es) vw = deeper_alike W (bind_first W (unpacked_quiet W (count es) vw) (λ vs ws z. store_each_alike es z))
      store_alike (t.name x) vw = assign_alike W x vw
      store_alike (t.primary e ts) {v = v} vw = bind_alike W (place_alike (t.primary e ts)) (λ p. store_in_grows p v) (λ p q pq. store_in_alike pq vw)
      store_alike e vw = quiet W (no_place_quiet W)

      pub store_each_alike : (es : Expressions) {vs ws : List Value} → SameValues W vs ws → GoAlike W Any (store_each calls es vs) (store_each calls es ws)
      store_each_alike (more_expressions e es) (cons {as' = vs} vw z) = then_alike W (store_alike e vw) (store_each_grows calls grow es vs) (store_each_alike es z)
      store_each_alike (more_expressions e es) nil = quiet W (give_quiet W tt)
      store_each_alike no_expressions z = quiet W (give_quiet W tt)

    pub store_all_alike : (es : List Expression) {v w : Value} → SameValue W v w → GoAlike W Any (store_all calls es v) (store_all calls es w)
    store_all_alike [] vw = quiet W (give_quiet W tt)
    store_all_alike (e ∷ es) {v = v} vw = then_alike W (store_alike e vw) (store_all_grows calls grow es v) (store_all_alike es vw)

    pub delete_all_alike : (es : List Expression) → GoAlike W Any (delete_all calls es) (delete_all calls es)
    delete_all_alike [] = quiet W (give_quiet W tt)
    delete_all_alike (e ∷ es) = bind_alike W (place_alike e) (λ p. then_grows (delete_place_grows p) (delete_all_grows calls grow es)) (λ p q pq. then_alike W (delete_place_alike pq) (delete_all_grows calls grow es) (delete_all_alike es))

    pub update_alike : (e : Expression) (operator : Operator) (operand : Expression) → GoAlike W Any (update calls e operator operand) (update calls e operator operand)
    update_alike e operator operand =
        bind_alike W (place_alike e) (λ p. bind_grows (then_grows tick_grows (read_place_grows p)) (λ v. bind_grows (expr_grows calls grow operand) (λ w. bind_grows (then_grows tick_grows (updated_grows operator v w)) (λ r. store_in_grows p r)))) (λ p q pq.
        bind_alike W (tick_alike W (read_place_alike pq)) (λ v. bind_grows (expr_grows calls grow operand) (λ w. bind_grows (then_grows tick_grows (updated_grows operator v w)) (λ r. store_in_grows p r))) (λ v w vw.
        bind_alike W (expr_alike W sorted calls grow alike operand) (λ x. bind_grows (then_grows tick_grows (updated_grows operator v x)) (λ r. store_in_grows p r)) (λ x y xy.
        bind_first W (then_quiet W (tick_quiet W) (updated_quiet W operator vw xy)) (λ r s rs. store_in_alike pq rs))))
