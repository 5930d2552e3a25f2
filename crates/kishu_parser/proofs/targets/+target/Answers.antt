use Rattle.std.proofs.Common.{◌≡◌, ◌+◌, suc, max, ap, sym, ◌∙◌, arith, refl, map, drop, List}
use Rattle.kishu_language.specs.declared.tree.Expr.{Expr}
use Rattle.kishu_language.specs.trees.Tree.{expressions, expression_of}
use Rattle.kishu_language.specs.trees.Height.{of_expression, of_expressions}
use Rattle.kishu_language.specs.trees.Rows.{tuple_is, conditional_is, or_is, and_is, not_is, compared_is, sum_is, product_is, signed_is, power_is, primary_is, name_is, int_is, text_is, none_is, true_is, false_is, paren_is, list_is, dict_is}
use Rattle.kishu_parser.proofs.Walks.{height_here}
use Rattle.kishu_parser.proofs.Assignable.{one_less, one_not, all_seen}
use Rattle.kishu_parser.proofs.targets.+target.Goals as goal

pub is_target-returns-in-Primary : goal.is_target-returns-in-Primary
is_target-returns-in-Primary t c = rw (c.in-Primary.is, primary_is) (rw c.as_slice.ensures.value at c.ends_in_place.ensures)

pub is_target-is_target-requires : goal.is_target-is_target-requires
is_target-is_target-requires t c =
    let h : of_expression (expression_of c.args.e.now) ≡ suc (of_expression (expression_of c.in-Paren.inside.value)) = ap of_expression (ap expression_of c.in-Paren.is ∙ paren_is c.in-Paren.inside) in rw c.deref.ensures (omega arith, tt)

pub is_target-returns-in-Paren : goal.is_target-returns-in-Paren
is_target-returns-in-Paren t c = rw (c.in-Paren.is, paren_is) (rw c.deref.ensures at c.is_target.ensures)

pub is_target-are_targets-requires : goal.is_target-are_targets-requires
is_target-are_targets-requires t c =
    let h : of_expression (expression_of c.args.e.now) ≡ suc (of_expressions (expressions (map expression_of c.in-Tuple.all.items))) = ap of_expression (ap expression_of c.in-Tuple.is ∙ tuple_is c.in-Tuple.all) in rw c.as_slice-in-Tuple.ensures.value (omega arith, tt)

pub is_target-returns-in-Tuple : goal.is_target-returns-in-Tuple
is_target-returns-in-Tuple t c = rw (c.in-Tuple.is, tuple_is) (rw c.as_slice-in-Tuple.ensures.value at c.are_targets.ensures)

pub is_target-are_targets-requires-in-List : goal.is_target-are_targets-requires-in-List
is_target-are_targets-requires-in-List t c =
    let h : of_expression (expression_of c.args.e.now) ≡ suc (of_expressions (expressions (map expression_of c.in-List.all.items))) = ap of_expression (ap expression_of c.in-List.is ∙ list_is c.in-List.all) in rw c.as_slice-in-List.ensures.value (omega arith, tt)

pub is_target-returns-in-List : goal.is_target-returns-in-List
is_target-returns-in-List t c = rw (c.in-List.is, list_is) (rw c.as_slice-in-List.ensures.value at c.are_targets-in-List.ensures)

pub is_target-returns-in-Conditional : goal.is_target-returns-in-Conditional
is_target-returns-in-Conditional t c = rw (c.in-Conditional.is, conditional_is) refl

pub is_target-returns-in-Or : goal.is_target-returns-in-Or
is_target-returns-in-Or t c = rw (c.in-Or.is, or_is) refl

pub is_target-returns-in-And : goal.is_target-returns-in-And
is_target-returns-in-And t c = rw (c.in-And.is, and_is) refl

pub is_target-returns-in-Not : goal.is_target-returns-in-Not
is_target-returns-in-Not t c = rw (c.in-Not.is, not_is) refl

pub is_target-returns-in-Compared : goal.is_target-returns-in-Compared
is_target-returns-in-Compared t c = rw (c.in-Compared.is, compared_is) refl

pub is_target-returns-in-Sum : goal.is_target-returns-in-Sum
is_target-returns-in-Sum t c = rw (c.in-Sum.is, sum_is) refl

pub is_target-returns-in-Product : goal.is_target-returns-in-Product
is_target-returns-in-Product t c = rw (c.in-Product.is, product_is) refl

pub is_target-returns-in-Signed : goal.is_target-returns-in-Signed
is_target-returns-in-Signed t c = rw (c.in-Signed.is, signed_is) refl

pub is_target-returns-in-Power : goal.is_target-returns-in-Power
is_target-returns-in-Power t c = rw (c.in-Power.is, power_is) refl

pub is_target-returns-in-Int : goal.is_target-returns-in-Int
is_target-returns-in-Int t c = rw (c.in-Int.is, int_is) refl

pub is_target-returns-in-Text : goal.is_target-returns-in-Text
is_target-returns-in-Text t c = rw (c.in-Text.is, text_is) refl

pub is_target-returns-in-Dict : goal.is_target-returns-in-Dict
is_target-returns-in-Dict t c = rw (c.in-Dict.is, dict_is) refl

pub is_target-returns-in-None : goal.is_target-returns-in-None
is_target-returns-in-None t c = rw (c.in-None.is, none_is) refl

pub is_target-returns-in-True : goal.is_target-returns-in-True
is_target-returns-in-True t c = rw (c.in-True.is, true_is) refl

pub is_target-returns-in-False : goal.is_target-returns-in-False
is_target-returns-in-False t c = rw (c.in-False.is, false_is) refl

pub is_target-returns-in-Name : goal.is_target-returns-in-Name
is_target-returns-in-Name t c = rw (c.in-Name.is, name_is) refl

pub are_targets-is_target-requires : goal.are_targets-is_target-requires
are_targets-is_target-requires t c =
    let k : of_expressions (expressions (map expression_of (drop c.loop-e.e-index c.args.all.now))) ≡ max (of_expression (expression_of c.e-item.result)) (of_expressions (expressions (map expression_of (drop (c.loop-e.e-index + 1) c.args.all.now)))) = height_here (λ (x : Expr). of_expression (expression_of x)) (λ (ys : List Expr). of_expressions (expressions (map expression_of ys))) (λ x xs. refl) c.args.all.now c.loop-e.e-index c.e-item.result c.loop-e-test.true c.e-item.is in (omega arith, tt)

pub are_targets-returns-then-not-is_target : goal.are_targets-returns-then-not-is_target
are_targets-returns-then-not-is_target t c = sym (one_not c.args.all.now c.loop-e.e-index c.e-item.result c.loop-e.invariant.told c.loop-e-test.true c.e-item.is (sym c.is_target.ensures ∙ c.if-not-is_target.true))

pub are_targets-loop-e-preserved : goal.are_targets-loop-e-preserved
are_targets-loop-e-preserved t c =
    let k : of_expressions (expressions (map expression_of (drop c.loop-e.e-index c.args.all.now))) ≡ max (of_expression (expression_of c.e-item.result)) (of_expressions (expressions (map expression_of (drop (c.loop-e.e-index + 1) c.args.all.now)))) = height_here (λ (x : Expr). of_expression (expression_of x)) (λ (ys : List Expr). of_expressions (expressions (map expression_of ys))) (λ x xs. refl) c.args.all.now c.loop-e.e-index c.e-item.result c.loop-e-test.true c.e-item.is in record { told = one_less _ c.args.all.now c.loop-e.e-index c.e-item.result c.loop-e.invariant.told c.loop-e-test.true c.e-item.is (sym c.is_target.ensures ∙ c.if-not-is_target.false); height = omega arith }

pub are_targets-returns : goal.are_targets-returns
are_targets-returns t c = rw c.is_empty.ensures (all_seen c.args.all.now c.loop-e.e-index c.loop-e.invariant.told (omega (arith, c.loop-e-test.false)))
