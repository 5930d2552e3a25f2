-- Comparisons go alike: one line a comparison.
use Rattle.std.specs.Prelude.{Option, Bool, Some, None, List, ℕ}
use Rattle.std.proofs.Common.{refl}
use Rattle.kishu_language.specs.declared.tree.Comparison.{Comparison}
use Rattle.kishu_language.specs.declared.tree.Comparison.TheVariants as comparisons
use Rattle.kishu_meaning.specs.comparing.Comparing.{equals_item, or_unordered, identical, among, in_node, member, negated, compare}
use Rattle.kishu_meaning.specs.moments.Moment.{M}
use Rattle.kishu_meaning.specs.values.Keys.{is_one}
use Rattle.kishu_meaning.specs.values.Values.{Value, Node, text, node, range}
use Rattle.kishu_pairing_laws.specs.World.{World, SameValue, GoQuietly, Is, SameValues, nil, cons, BothOrNeither, SameNode, neither, both, lists, tuples, dicts, objects, functions, exceptions, IsPlain, plain, Paired, paired}
use Rattle.kishu_pairing_laws.specs.moments.Steps.{give_quiet, then_quiet, spend_is, bind_is, cond_quiet, spend_quiet, bind_quiet}
use Rattle.kishu_pairing_laws.specs.values.Lists.{zip_is_some, entry_at}
use Rattle.kishu_pairing_laws.specs.moments.Heap.{node_now_quiet}
use Rattle.kishu_pairing_laws.specs.values.Kinds.{not_iterable_quiet}
use Rattle.kishu_pairing_laws.specs.moments.Counting.{counted_quiet}
use Rattle.kishu_pairing_laws.specs.comparing.Equal.{pair_is, rooms, steps_is, same_is, less_quiet, greater_quiet, equal_quiet}
use Rattle.kishu_pairing_laws.specs.calls.Operators.{bad_operands_quiet}
use Rattle.kishu_pairing_laws.specs.items.KeyOf.{key_quiet}

module _ (W : World) where
  pub item_is_quiet : {v w x y : Value} → SameValue W v w → SameValue W x y → GoQuietly W Is (equals_item v x) (equals_item w y)
  item_is_quiet vw xy = counted_quiet W _ _ (λ s t st. pair_is W (rooms W st) xy vw)

module _ (W : World) where
  unordered_quiet : (comparison : Comparison) {v w x y : Value} → SameValue W v w → SameValue W x y → (o : Option Bool) → GoQuietly W Is (or_unordered comparison v x o) (or_unordered comparison w y o)
  unordered_quiet comparison vw xy (Some b) = give_quiet W refl
  unordered_quiet comparison vw xy None = bad_operands_quiet W _ vw xy

  identical_quiet : {v w x y : Value} → SameValue W v w → SameValue W x y → GoQuietly W Is (identical v x) (identical w y)
  identical_quiet vw xy = then_quiet W (spend_is W (steps_is W vw xy)) (give_quiet W (same_is W vw xy))

  among_quiet : {v w : Value} {vs ws : List Value} → SameValue W v w → SameValues W vs ws → GoQuietly W Is (among v vs) (among w ws)
  among_quiet vw nil = give_quiet W refl
  among_quiet vw (cons xy z) = bind_is W (item_is_quiet W vw xy) (λ b. cond_quiet W b (give_quiet W refl) (among_quiet vw z))

  in_node_quiet : {v w x y : Value} {o p : Option Node} → SameValue W v w → SameValue W x y → BothOrNeither (SameNode W) o p → GoQuietly W Is (in_node v x o) (in_node w y p)
  in_node_quiet vw xy neither = not_iterable_quiet W xy
  in_node_quiet vw xy (both (lists z)) = among_quiet vw z
  in_node_quiet vw xy (both (tuples z)) = among_quiet vw z
  in_node_quiet vw xy (both (dicts z)) = bind_is W (key_quiet W vw) (λ k. give_quiet W (zip_is_some (entry_at W is_one k z)))
  in_node_quiet vw xy (both (objects z)) = not_iterable_quiet W xy
  in_node_quiet vw xy (both (functions profile code z)) = not_iterable_quiet W xy
  in_node_quiet vw xy (both (exceptions kind z)) = not_iterable_quiet W xy

  member_text : (comparison : Comparison) (v : Value) → IsPlain v → (cs : List ℕ) → GoQuietly W Is (member comparison v (text cs)) (member comparison v (text cs))
  member_text comparison (text part) p cs = then_quiet W (spend_quiet W _) (give_quiet W refl)
  member_text comparison (node i) p cs = absurd p
  member_text comparison v p cs = bad_operands_quiet W _ (plain v p) (plain (text cs) tt)

  member_plain : (comparison : Comparison) (v x : Value) → IsPlain v → IsPlain x → GoQuietly W Is (member comparison v x) (member comparison v x)
  member_plain comparison (node i) x p q = absurd p
  member_plain comparison v (text cs) p q = member_text comparison v p cs
  member_plain comparison v (range a b c) p q = give_quiet W refl
  member_plain comparison v (node i) p q = absurd q
  member_plain comparison v x p q = not_iterable_quiet W (plain x q)

  member_of_node : (comparison : Comparison) {i j : ℕ} (x : Value) → Paired W i j → IsPlain x → GoQuietly W Is (member comparison (node i) x) (member comparison (node j) x)
  member_of_node comparison (text cs) p q = bad_operands_quiet W _ (paired _ _ p) (plain (text cs) tt)
  member_of_node comparison (range a b c) p q = give_quiet W refl
  member_of_node comparison (node i) p q = absurd q
  member_of_node comparison x p q = not_iterable_quiet W (plain x q)

  member_in_node : (comparison : Comparison) (v : Value) → IsPlain v → {i j : ℕ} → Paired W i j → GoQuietly W Is (member comparison v (node i)) (member comparison v (node j))
  member_in_node comparison (node i) p q = absurd p
  member_in_node comparison v p q = bind_quiet W (node_now_quiet W (paired _ _ q)) (λ o p' op. in_node_quiet (plain v p) (paired _ _ q) op)

  member_quiet : (comparison : Comparison) {v w x y : Value} → SameValue W v w → SameValue W x y → GoQuietly W Is (member comparison v x) (member comparison w y)
  member_quiet comparison (plain v p) (plain x q) = member_plain comparison v x p q
  member_quiet comparison (plain v p) (paired i j q) = member_in_node comparison v p q
  member_quiet comparison (paired i j p) (plain x q) = member_of_node comparison x p q
  member_quiet comparison (paired k l p) (paired i j q) = bind_quiet W (node_now_quiet W (paired _ _ q)) (λ o p' op. in_node_quiet (paired k l p) (paired _ _ q) op)

  negated_quiet : {m n : M Bool} → GoQuietly W Is m n → GoQuietly W Is (negated m) (negated n)
  negated_quiet mn = bind_is W mn (λ b. give_quiet W refl)

  pub compare_quiet : (comparison : Comparison) {v w x y : Value} → SameValue W v w → SameValue W x y → GoQuietly W Is (compare comparison v x) (compare comparison w y)
  compare_quiet comparisons.Less vw xy = bind_is W (less_quiet W vw xy) (λ o. unordered_quiet comparisons.Less vw xy o)
  compare_quiet comparisons.LessEqual vw xy = negated_quiet (bind_is W (greater_quiet W vw xy) (λ o. unordered_quiet comparisons.LessEqual vw xy o))
  compare_quiet comparisons.Greater vw xy = bind_is W (greater_quiet W vw xy) (λ o. unordered_quiet comparisons.Greater vw xy o)
  compare_quiet comparisons.GreaterEqual vw xy = negated_quiet (bind_is W (less_quiet W vw xy) (λ o. unordered_quiet comparisons.GreaterEqual vw xy o))
  compare_quiet comparisons.Equal vw xy = equal_quiet W vw xy
  compare_quiet comparisons.NotEqual vw xy = negated_quiet (equal_quiet W vw xy)
  compare_quiet comparisons.In vw xy = member_quiet comparisons.In vw xy
  compare_quiet comparisons.NotIn vw xy = negated_quiet (member_quiet comparisons.NotIn vw xy)
  compare_quiet comparisons.Is vw xy = identical_quiet vw xy
  compare_quiet comparisons.IsNot vw xy = negated_quiet (identical_quiet vw xy)
