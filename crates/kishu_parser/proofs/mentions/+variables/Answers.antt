use Rattle.std.proofs.Common.{rules, ◌≡◌, ◌+◌, ◌<◌, suc, max, ap, sym, ◌∙◌, arith, refl, map, drop, length, get_or, ◌++◌, List, ◌∷◌}
use Rattle.kishu_language.specs.declared.tree.Expr.{Expr}
use Rattle.kishu_language.specs.declared.tree.Link.{Link}
use Rattle.kishu_language.specs.declared.tree.Operand.{Operand}
use Rattle.kishu_language.specs.declared.tree.Pair.{Pair}
use Rattle.kishu_language.specs.declared.tree.Trailer.{Trailer as Trailer'}
use Rattle.kishu_language.specs.declared.tree.Argument.{Argument as Argument'}
use Rattle.kishu_language.specs.trees.Tree.{expressions, links, operands, pairs, trailers, arguments, bound_of, value_of, expression_of}
use Rattle.kishu_language.specs.grammar.Refusals.{in_expression, in_expressions, in_links, in_operands, in_pairs, in_trailers, in_trailer, in_arguments, in_argument, in_bound, in_optional}
use Rattle.kishu_language.specs.trees.Height.{of_expression, of_expressions, of_links, of_operands, of_pairs, of_trailers, of_trailer, of_arguments, of_argument, of_bound, of_optional}
use Rattle.kishu_language.specs.trees.Parts.{link_of, operand_of, pair_of, trailer_of, argument_of}
use Rattle.kishu_parser.specs.Sets.{names_in, note}
use Rattle.kishu_language.specs.trees.Rows.{tuple_is, conditional_is, or_is, and_is, not_is, compared_is, sum_is, product_is, signed_is, power_is, primary_is, name_is, int_is, text_is, none_is, true_is, false_is, paren_is, list_is, dict_is, attribute_is, call_is, index_is, slice_is, plain_is, keyword_is}
use Rattle.kishu_parser.proofs.Walks.{link_value, operand_value, pair_key, pair_value, here, note_then, then_ok, told_more, height_here, pair_height, pair_names, slice_height, slice_names}
use Rattle.kishu_parser.proofs.mentions.+variables.Goals as goal

pub add_expr-add_exprs-requires : goal.add_expr-add_exprs-requires
add_expr-add_exprs-requires t c =
    let h : of_expression (expression_of c.args.e.now) ≡ suc (of_expressions (expressions (map expression_of c.in-Tuple.all.items))) = ap of_expression (ap expression_of c.in-Tuple.is ∙ tuple_is c.in-Tuple.all) in rw c.deref.ensures.value (omega arith, tt)

pub add_expr-returns-in-Tuple : goal.add_expr-returns-in-Tuple
add_expr-returns-in-Tuple t c =
    rw (c.in-Tuple.is, tuple_is) (rw c.deref.ensures.value at c.add_exprs.ensures)

pub add_expr-add_exprs-requires-in-Or : goal.add_expr-add_exprs-requires-in-Or
add_expr-add_exprs-requires-in-Or t c =
    let h : of_expression (expression_of c.args.e.now) ≡ suc (of_expressions (expressions (map expression_of c.in-Or.all.items))) = ap of_expression (ap expression_of c.in-Or.is ∙ or_is c.in-Or.all) in rw c.deref-in-Or.ensures.value (omega arith, tt)

pub add_expr-returns-in-Or : goal.add_expr-returns-in-Or
add_expr-returns-in-Or t c =
    rw (c.in-Or.is, or_is) (rw c.deref-in-Or.ensures.value at c.add_exprs-in-Or.ensures)

pub add_expr-add_exprs-requires-in-And : goal.add_expr-add_exprs-requires-in-And
add_expr-add_exprs-requires-in-And t c =
    let h : of_expression (expression_of c.args.e.now) ≡ suc (of_expressions (expressions (map expression_of c.in-And.all.items))) = ap of_expression (ap expression_of c.in-And.is ∙ and_is c.in-And.all) in rw c.deref-in-And.ensures.value (omega arith, tt)

pub add_expr-returns-in-And : goal.add_expr-returns-in-And
add_expr-returns-in-And t c =
    rw (c.in-And.is, and_is) (rw c.deref-in-And.ensures.value at c.add_exprs-in-And.ensures)

pub add_expr-add_exprs-requires-in-List : goal.add_expr-add_exprs-requires-in-List
add_expr-add_exprs-requires-in-List t c =
    let h : of_expression (expression_of c.args.e.now) ≡ suc (of_expressions (expressions (map expression_of c.in-List.all.items))) = ap of_expression (ap expression_of c.in-List.is ∙ list_is c.in-List.all) in rw c.deref-in-List.ensures.value (omega arith, tt)

pub add_expr-returns-in-List : goal.add_expr-returns-in-List
add_expr-returns-in-List t c =
    rw (c.in-List.is, list_is) (rw c.deref-in-List.ensures.value at c.add_exprs-in-List.ensures)

pub add_expr-add_expr-requires-in-Not : goal.add_expr-add_expr-requires-in-Not
add_expr-add_expr-requires-in-Not t c =
    let h : of_expression (expression_of c.args.e.now) ≡ suc (of_expression (expression_of c.in-Not.e.value)) = ap of_expression (ap expression_of c.in-Not.is ∙ not_is c.in-Not.e) in rw c.deref-in-Not.ensures (omega arith, tt)

pub add_expr-returns-in-Not : goal.add_expr-returns-in-Not
add_expr-returns-in-Not t c =
    rw (c.in-Not.is, not_is) (rw c.deref-in-Not.ensures at c.add_expr-in-Not.ensures)

pub add_expr-add_expr-requires-in-Signed : goal.add_expr-add_expr-requires-in-Signed
add_expr-add_expr-requires-in-Signed t c =
    let h : of_expression (expression_of c.args.e.now) ≡ suc (of_expression (expression_of c.in-Signed.e.value)) = ap of_expression (ap expression_of c.in-Signed.is ∙ signed_is _ c.in-Signed.e) in rw c.deref-in-Signed.ensures (omega arith, tt)

pub add_expr-returns-in-Signed : goal.add_expr-returns-in-Signed
add_expr-returns-in-Signed t c =
    rw (c.in-Signed.is, signed_is) (rw c.deref-in-Signed.ensures at c.add_expr-in-Signed.ensures)

pub add_expr-add_expr-requires-in-Paren : goal.add_expr-add_expr-requires-in-Paren
add_expr-add_expr-requires-in-Paren t c =
    let h : of_expression (expression_of c.args.e.now) ≡ suc (of_expression (expression_of c.in-Paren.e.value)) = ap of_expression (ap expression_of c.in-Paren.is ∙ paren_is c.in-Paren.e) in rw c.deref-in-Paren.ensures (omega arith, tt)

pub add_expr-returns-in-Paren : goal.add_expr-returns-in-Paren
add_expr-returns-in-Paren t c =
    rw (c.in-Paren.is, paren_is) (rw c.deref-in-Paren.ensures at c.add_expr-in-Paren.ensures)

pub add_expr-returns-in-Int : goal.add_expr-returns-in-Int
add_expr-returns-in-Int t c =
    rw (c.in-Int.is, int_is) refl

pub add_expr-returns-in-Text : goal.add_expr-returns-in-Text
add_expr-returns-in-Text t c =
    rw (c.in-Text.is, text_is) refl

pub add_expr-returns-in-None : goal.add_expr-returns-in-None
add_expr-returns-in-None t c =
    rw (c.in-None.is, none_is) refl

pub add_expr-returns-in-True : goal.add_expr-returns-in-True
add_expr-returns-in-True t c =
    rw (c.in-True.is, true_is) refl

pub add_expr-returns-in-False : goal.add_expr-returns-in-False
add_expr-returns-in-False t c =
    rw (c.in-False.is, false_is) refl

pub add_expr-returns-in-Name : goal.add_expr-returns-in-Name
add_expr-returns-in-Name t c =
    rw (c.in-Name.is, name_is) c.add.ensures

pub add_expr-add_pairs-requires : goal.add_expr-add_pairs-requires
add_expr-add_pairs-requires t c =
    let h : of_expression (expression_of c.args.e.now) ≡ suc (of_pairs (pairs (map pair_of c.in-Dict.pairs.items))) = ap of_expression (ap expression_of c.in-Dict.is ∙ dict_is c.in-Dict.pairs) in rw c.deref-in-Dict.ensures.value (omega arith, tt)

pub add_expr-returns-in-Dict : goal.add_expr-returns-in-Dict
add_expr-returns-in-Dict t c =
    rw (c.in-Dict.is, dict_is) (rw c.deref-in-Dict.ensures.value at c.add_pairs.ensures)

pub add_expr-add_expr-requires-in-Compared : goal.add_expr-add_expr-requires-in-Compared
add_expr-add_expr-requires-in-Compared t c =
    let h : of_expression (expression_of c.args.e.now) ≡ suc (max (of_expression (expression_of c.in-Compared.first.value)) (of_links (links (map link_of c.in-Compared.links.items)))) = ap of_expression (ap expression_of c.in-Compared.is ∙ compared_is c.in-Compared.first c.in-Compared.links) in rw c.deref-in-Compared.ensures (omega arith, tt)

pub add_expr-add_links-requires : goal.add_expr-add_links-requires
add_expr-add_links-requires t c =
    let h : of_expression (expression_of c.args.e.now) ≡ suc (max (of_expression (expression_of c.in-Compared.first.value)) (of_links (links (map link_of c.in-Compared.links.items)))) = ap of_expression (ap expression_of c.in-Compared.is ∙ compared_is c.in-Compared.first c.in-Compared.links) in rw c.deref-in-Compared-2.ensures.value (omega arith, tt)

pub add_expr-returns-in_ok-add_expr-in-Compared : goal.add_expr-returns-in_ok-add_expr-in-Compared
add_expr-returns-in_ok-add_expr-in-Compared t c =
    rw (c.in-Compared.is, compared_is) (then_ok c.add_links.result (names_in c.args.seen.now) (names_in c.add_expr-in-Compared.new.seen) (names_in c.add_links.new.seen) (in_expression (expression_of c.in-Compared.first.value)) (in_links (links (map link_of c.in-Compared.links.items))) (rw c.deref-in-Compared.ensures at c.in_ok-add_expr-in-Compared.ensures) (rw c.deref-in-Compared-2.ensures.value at c.add_links.ensures))

pub add_expr-add_expr-requires-in-Sum : goal.add_expr-add_expr-requires-in-Sum
add_expr-add_expr-requires-in-Sum t c =
    let h : of_expression (expression_of c.args.e.now) ≡ suc (max (of_expression (expression_of c.in-Sum.first.value)) (of_operands (operands (map operand_of c.in-Sum.operands.items)))) = ap of_expression (ap expression_of c.in-Sum.is ∙ sum_is c.in-Sum.first c.in-Sum.operands) in rw c.deref-in-Sum.ensures (omega arith, tt)

pub add_expr-add_operands-requires : goal.add_expr-add_operands-requires
add_expr-add_operands-requires t c =
    let h : of_expression (expression_of c.args.e.now) ≡ suc (max (of_expression (expression_of c.in-Sum.first.value)) (of_operands (operands (map operand_of c.in-Sum.operands.items)))) = ap of_expression (ap expression_of c.in-Sum.is ∙ sum_is c.in-Sum.first c.in-Sum.operands) in rw c.deref-in-Sum-2.ensures.value (omega arith, tt)

pub add_expr-returns-in_ok-add_expr-in-Sum : goal.add_expr-returns-in_ok-add_expr-in-Sum
add_expr-returns-in_ok-add_expr-in-Sum t c =
    rw (c.in-Sum.is, sum_is) (then_ok c.add_operands.result (names_in c.args.seen.now) (names_in c.add_expr-in-Sum.new.seen) (names_in c.add_operands.new.seen) (in_expression (expression_of c.in-Sum.first.value)) (in_operands (operands (map operand_of c.in-Sum.operands.items))) (rw c.deref-in-Sum.ensures at c.in_ok-add_expr-in-Sum.ensures) (rw c.deref-in-Sum-2.ensures.value at c.add_operands.ensures))

pub add_expr-add_expr-requires-in-Product : goal.add_expr-add_expr-requires-in-Product
add_expr-add_expr-requires-in-Product t c =
    let h : of_expression (expression_of c.args.e.now) ≡ suc (max (of_expression (expression_of c.in-Product.first.value)) (of_operands (operands (map operand_of c.in-Product.operands.items)))) = ap of_expression (ap expression_of c.in-Product.is ∙ product_is c.in-Product.first c.in-Product.operands) in rw c.deref-in-Product.ensures (omega arith, tt)

pub add_expr-add_operands-requires-in-Product : goal.add_expr-add_operands-requires-in-Product
add_expr-add_operands-requires-in-Product t c =
    let h : of_expression (expression_of c.args.e.now) ≡ suc (max (of_expression (expression_of c.in-Product.first.value)) (of_operands (operands (map operand_of c.in-Product.operands.items)))) = ap of_expression (ap expression_of c.in-Product.is ∙ product_is c.in-Product.first c.in-Product.operands) in rw c.deref-in-Product-2.ensures.value (omega arith, tt)

pub add_expr-returns-in_ok-add_expr-in-Product : goal.add_expr-returns-in_ok-add_expr-in-Product
add_expr-returns-in_ok-add_expr-in-Product t c =
    rw (c.in-Product.is, product_is) (then_ok c.add_operands-in-Product.result (names_in c.args.seen.now) (names_in c.add_expr-in-Product.new.seen) (names_in c.add_operands-in-Product.new.seen) (in_expression (expression_of c.in-Product.first.value)) (in_operands (operands (map operand_of c.in-Product.operands.items))) (rw c.deref-in-Product.ensures at c.in_ok-add_expr-in-Product.ensures) (rw c.deref-in-Product-2.ensures.value at c.add_operands-in-Product.ensures))

pub add_expr-add_expr-requires-in-Primary : goal.add_expr-add_expr-requires-in-Primary
add_expr-add_expr-requires-in-Primary t c =
    let h : of_expression (expression_of c.args.e.now) ≡ suc (max (of_expression (expression_of c.in-Primary.first.value)) (of_trailers (trailers (map trailer_of c.in-Primary.trailers.items)))) = ap of_expression (ap expression_of c.in-Primary.is ∙ primary_is c.in-Primary.first c.in-Primary.trailers) in rw c.deref-in-Primary.ensures (omega arith, tt)

pub add_expr-add_trailers-requires : goal.add_expr-add_trailers-requires
add_expr-add_trailers-requires t c =
    let h : of_expression (expression_of c.args.e.now) ≡ suc (max (of_expression (expression_of c.in-Primary.first.value)) (of_trailers (trailers (map trailer_of c.in-Primary.trailers.items)))) = ap of_expression (ap expression_of c.in-Primary.is ∙ primary_is c.in-Primary.first c.in-Primary.trailers) in rw c.deref-in-Primary-2.ensures.value (omega arith, tt)

pub add_expr-returns-in_ok-add_expr-in-Primary : goal.add_expr-returns-in_ok-add_expr-in-Primary
add_expr-returns-in_ok-add_expr-in-Primary t c =
    rw (c.in-Primary.is, primary_is) (then_ok c.add_trailers.result (names_in c.args.seen.now) (names_in c.add_expr-in-Primary.new.seen) (names_in c.add_trailers.new.seen) (in_expression (expression_of c.in-Primary.first.value)) (in_trailers (trailers (map trailer_of c.in-Primary.trailers.items))) (rw c.deref-in-Primary.ensures at c.in_ok-add_expr-in-Primary.ensures) (rw c.deref-in-Primary-2.ensures.value at c.add_trailers.ensures))

pub add_expr-add_expr-requires-in-Power : goal.add_expr-add_expr-requires-in-Power
add_expr-add_expr-requires-in-Power t c =
    let h : of_expression (expression_of c.args.e.now) ≡ suc (max (of_expression (expression_of c.in-Power.base.value)) (of_expression (expression_of c.in-Power.exponent.value))) = ap of_expression (ap expression_of c.in-Power.is ∙ power_is c.in-Power.base c.in-Power.exponent) in rw c.deref-in-Power.ensures (omega arith, tt)

pub add_expr-add_expr-requires-in-Power-2 : goal.add_expr-add_expr-requires-in-Power-2
add_expr-add_expr-requires-in-Power-2 t c =
    let h : of_expression (expression_of c.args.e.now) ≡ suc (max (of_expression (expression_of c.in-Power.base.value)) (of_expression (expression_of c.in-Power.exponent.value))) = ap of_expression (ap expression_of c.in-Power.is ∙ power_is c.in-Power.base c.in-Power.exponent) in rw c.deref-in-Power-2.ensures (omega arith, tt)

pub add_expr-returns-in_ok-add_expr-in-Power : goal.add_expr-returns-in_ok-add_expr-in-Power
add_expr-returns-in_ok-add_expr-in-Power t c =
    rw (c.in-Power.is, power_is) (then_ok c.add_expr-in-Power-2.result (names_in c.args.seen.now) (names_in c.add_expr-in-Power.new.seen) (names_in c.add_expr-in-Power-2.new.seen) (in_expression (expression_of c.in-Power.base.value)) (in_expression (expression_of c.in-Power.exponent.value)) (rw c.deref-in-Power.ensures at c.in_ok-add_expr-in-Power.ensures) (rw c.deref-in-Power-2.ensures at c.add_expr-in-Power-2.ensures))

pub add_expr-add_expr-requires : goal.add_expr-add_expr-requires
add_expr-add_expr-requires t c =
    let h : of_expression (expression_of c.args.e.now) ≡ suc (max (of_expression (expression_of c.in-Conditional.value.value)) (max (of_expression (expression_of c.in-Conditional.test.value)) (of_expression (expression_of c.in-Conditional.other.value)))) = ap of_expression (ap expression_of c.in-Conditional.is ∙ conditional_is c.in-Conditional.value c.in-Conditional.test c.in-Conditional.other) in rw c.deref-in-Conditional.ensures (omega arith, tt)

pub add_expr-add_expr-requires-in-Conditional : goal.add_expr-add_expr-requires-in-Conditional
add_expr-add_expr-requires-in-Conditional t c =
    let h : of_expression (expression_of c.args.e.now) ≡ suc (max (of_expression (expression_of c.in-Conditional.value.value)) (max (of_expression (expression_of c.in-Conditional.test.value)) (of_expression (expression_of c.in-Conditional.other.value)))) = ap of_expression (ap expression_of c.in-Conditional.is ∙ conditional_is c.in-Conditional.value c.in-Conditional.test c.in-Conditional.other) in rw c.deref-in-Conditional-2.ensures (omega arith, tt)

pub add_expr-add_expr-requires-in-Conditional-2 : goal.add_expr-add_expr-requires-in-Conditional-2
add_expr-add_expr-requires-in-Conditional-2 t c =
    let h : of_expression (expression_of c.args.e.now) ≡ suc (max (of_expression (expression_of c.in-Conditional.value.value)) (max (of_expression (expression_of c.in-Conditional.test.value)) (of_expression (expression_of c.in-Conditional.other.value)))) = ap of_expression (ap expression_of c.in-Conditional.is ∙ conditional_is c.in-Conditional.value c.in-Conditional.test c.in-Conditional.other) in rw c.deref-in-Conditional-3.ensures (omega arith, tt)

pub add_expr-returns-in_ok-add_expr-in-Conditional-2 : goal.add_expr-returns-in_ok-add_expr-in-Conditional-2
add_expr-returns-in_ok-add_expr-in-Conditional-2 t c =
    rw (c.in-Conditional.is, conditional_is) (then_ok c.add_expr-in-Conditional-2.result (names_in c.args.seen.now) (names_in c.add_expr-in-Conditional.new.seen) (names_in c.add_expr-in-Conditional-2.new.seen) ((in_expression (expression_of c.in-Conditional.value.value)) ++ (in_expression (expression_of c.in-Conditional.test.value))) (in_expression (expression_of c.in-Conditional.other.value)) (note_then (names_in c.args.seen.now) (names_in c.add_expr.new.seen) (in_expression (expression_of c.in-Conditional.value.value)) (in_expression (expression_of c.in-Conditional.test.value)) (rw c.deref-in-Conditional.ensures at c.in_ok-add_expr-in-Conditional.ensures) ∙ (rw c.deref-in-Conditional-2.ensures at c.in_ok-add_expr-in-Conditional-2.ensures)) (rw c.deref-in-Conditional-3.ensures at c.add_expr-in-Conditional-2.ensures))

pub add_argument-add_expr-requires : goal.add_argument-add_expr-requires
add_argument-add_expr-requires t c =
    let h : of_argument (argument_of c.args.argument.now) ≡ of_expression (expression_of c.in-Plain.e) = ap of_argument (ap argument_of c.in-Plain.is ∙ plain_is c.in-Plain.e) in (omega arith, tt)

pub add_argument-returns-in-Plain : goal.add_argument-returns-in-Plain
add_argument-returns-in-Plain t c =
    rw (c.in-Plain.is, plain_is) c.add_expr.ensures

pub add_argument-add_expr-requires-in-Keyword : goal.add_argument-add_expr-requires-in-Keyword
add_argument-add_expr-requires-in-Keyword t c =
    let h : of_argument (argument_of c.args.argument.now) ≡ of_expression (expression_of c.in-Keyword.e) = ap of_argument (ap argument_of c.in-Keyword.is ∙ keyword_is c.in-Keyword.field-0 c.in-Keyword.e) in (omega arith, tt)

pub add_argument-returns-in-Keyword : goal.add_argument-returns-in-Keyword
add_argument-returns-in-Keyword t c =
    rw (c.in-Keyword.is, keyword_is) c.add_expr-in-Keyword.ensures

pub add_trailer-returns-in-Attribute : goal.add_trailer-returns-in-Attribute
add_trailer-returns-in-Attribute t c =
    rw (c.in-Attribute.is, attribute_is) refl

pub add_trailer-add_arguments-requires : goal.add_trailer-add_arguments-requires
add_trailer-add_arguments-requires t c =
    let h : of_trailer (trailer_of c.args.trailer.now) ≡ of_arguments (arguments (map argument_of c.in-Call.arguments.items)) = ap of_trailer (ap trailer_of c.in-Call.is ∙ call_is c.in-Call.arguments) in rw c.deref.ensures.value (omega arith, tt)

pub add_trailer-returns-in-Call : goal.add_trailer-returns-in-Call
add_trailer-returns-in-Call t c =
    rw (c.in-Call.is, call_is) (rw c.deref.ensures.value at c.add_arguments.ensures)

pub add_trailer-add_expr-requires : goal.add_trailer-add_expr-requires
add_trailer-add_expr-requires t c =
    let h : of_trailer (trailer_of c.args.trailer.now) ≡ of_expression (expression_of c.in-Index.e) = ap of_trailer (ap trailer_of c.in-Index.is ∙ index_is c.in-Index.e) in (omega arith, tt)

pub add_trailer-returns-in-Index : goal.add_trailer-returns-in-Index
add_trailer-returns-in-Index t c =
    rw (c.in-Index.is, index_is) c.add_expr.ensures

pub add_trailer-add_optional-requires : goal.add_trailer-add_optional-requires
add_trailer-add_optional-requires t c =
    let h : of_trailer (trailer_of c.args.trailer.now) ≡ max (of_optional (value_of c.in-Slice.start)) (max (of_optional (value_of c.in-Slice.stop)) (of_optional (value_of c.in-Slice.step))) = ap of_trailer (ap trailer_of c.in-Slice.is ∙ slice_is c.in-Slice.start c.in-Slice.stop c.in-Slice.step) ∙ slice_height (value_of c.in-Slice.start) (value_of c.in-Slice.stop) (value_of c.in-Slice.step) in (omega arith, tt)

pub add_trailer-add_optional-requires-in-Slice : goal.add_trailer-add_optional-requires-in-Slice
add_trailer-add_optional-requires-in-Slice t c =
    let h : of_trailer (trailer_of c.args.trailer.now) ≡ max (of_optional (value_of c.in-Slice.start)) (max (of_optional (value_of c.in-Slice.stop)) (of_optional (value_of c.in-Slice.step))) = ap of_trailer (ap trailer_of c.in-Slice.is ∙ slice_is c.in-Slice.start c.in-Slice.stop c.in-Slice.step) ∙ slice_height (value_of c.in-Slice.start) (value_of c.in-Slice.stop) (value_of c.in-Slice.step) in (omega arith, tt)

pub add_trailer-add_optional-requires-in-Slice-2 : goal.add_trailer-add_optional-requires-in-Slice-2
add_trailer-add_optional-requires-in-Slice-2 t c =
    let h : of_trailer (trailer_of c.args.trailer.now) ≡ max (of_optional (value_of c.in-Slice.start)) (max (of_optional (value_of c.in-Slice.stop)) (of_optional (value_of c.in-Slice.step))) = ap of_trailer (ap trailer_of c.in-Slice.is ∙ slice_is c.in-Slice.start c.in-Slice.stop c.in-Slice.step) ∙ slice_height (value_of c.in-Slice.start) (value_of c.in-Slice.stop) (value_of c.in-Slice.step) in (omega arith, tt)

pub add_trailer-returns-in_ok-add_optional-in-Slice-2 : goal.add_trailer-returns-in_ok-add_optional-in-Slice-2
add_trailer-returns-in_ok-add_optional-in-Slice-2 t c =
    rw (c.in-Slice.is, slice_is, slice_names) (then_ok c.add_optional-in-Slice-2.result (names_in c.args.seen.now) (names_in c.add_optional-in-Slice.new.seen) (names_in c.add_optional-in-Slice-2.new.seen) ((in_optional (value_of c.in-Slice.start)) ++ (in_optional (value_of c.in-Slice.stop))) (in_optional (value_of c.in-Slice.step)) (note_then (names_in c.args.seen.now) (names_in c.add_optional.new.seen) (in_optional (value_of c.in-Slice.start)) (in_optional (value_of c.in-Slice.stop)) c.in_ok-add_optional-in-Slice.ensures ∙ c.in_ok-add_optional-in-Slice-2.ensures) c.add_optional-in-Slice-2.ensures)

pub add_exprs-loop-e-preserved : goal.add_exprs-loop-e-preserved
add_exprs-loop-e-preserved t c =
    let k : of_expressions (expressions (map expression_of (drop c.loop-e.e-index c.args.all.now))) ≡ max (of_expression (expression_of c.e-item.result)) (of_expressions (expressions (map expression_of (drop (c.loop-e.e-index + 1) c.args.all.now)))) = height_here (λ (x : Expr). of_expression (expression_of x)) (λ (ys : List Expr). of_expressions (expressions (map expression_of ys))) (λ x xs. refl) c.args.all.now c.loop-e.e-index c.e-item.result c.loop-e-test.true c.e-item.is in record { told = told_more (λ (x : Expr). in_expression (expression_of x)) (λ (ys : List Expr). in_expressions (expressions (map expression_of ys))) (λ x xs. refl) (note (names_in c.args.seen.now) (in_expressions (expressions (map expression_of c.args.all.now)))) c.args.all.now c.loop-e.e-index c.e-item.result (names_in c.loop-e.seen) (names_in c.add_expr.new.seen) c.loop-e.invariant.told c.loop-e-test.true c.e-item.is c.in_ok-add_expr.ensures; height = omega arith }

pub add_trailers-loop-trailer-preserved : goal.add_trailers-loop-trailer-preserved
add_trailers-loop-trailer-preserved t c =
    let k : of_trailers (trailers (map trailer_of (drop c.loop-trailer.trailer-index c.args.trailers.now))) ≡ max (of_trailer (trailer_of c.trailer-item.result)) (of_trailers (trailers (map trailer_of (drop (c.loop-trailer.trailer-index + 1) c.args.trailers.now)))) = height_here (λ (x : Trailer'). of_trailer (trailer_of x)) (λ (ys : List Trailer'). of_trailers (trailers (map trailer_of ys))) (λ x xs. refl) c.args.trailers.now c.loop-trailer.trailer-index c.trailer-item.result c.loop-trailer-test.true c.trailer-item.is in record { told = told_more (λ (x : Trailer'). in_trailer (trailer_of x)) (λ (ys : List Trailer'). in_trailers (trailers (map trailer_of ys))) (λ x xs. refl) (note (names_in c.args.seen.now) (in_trailers (trailers (map trailer_of c.args.trailers.now)))) c.args.trailers.now c.loop-trailer.trailer-index c.trailer-item.result (names_in c.loop-trailer.seen) (names_in c.add_trailer.new.seen) c.loop-trailer.invariant.told c.loop-trailer-test.true c.trailer-item.is c.in_ok-add_trailer.ensures; height = omega arith }

pub add_arguments-loop-argument-preserved : goal.add_arguments-loop-argument-preserved
add_arguments-loop-argument-preserved t c =
    let k : of_arguments (arguments (map argument_of (drop c.loop-argument.argument-index c.args.arguments.now))) ≡ max (of_argument (argument_of c.argument-item.result)) (of_arguments (arguments (map argument_of (drop (c.loop-argument.argument-index + 1) c.args.arguments.now)))) = height_here (λ (x : Argument'). of_argument (argument_of x)) (λ (ys : List Argument'). of_arguments (arguments (map argument_of ys))) (λ x xs. refl) c.args.arguments.now c.loop-argument.argument-index c.argument-item.result c.loop-argument-test.true c.argument-item.is in record { told = told_more (λ (x : Argument'). in_argument (argument_of x)) (λ (ys : List Argument'). in_arguments (arguments (map argument_of ys))) (λ x xs. refl) (note (names_in c.args.seen.now) (in_arguments (arguments (map argument_of c.args.arguments.now)))) c.args.arguments.now c.loop-argument.argument-index c.argument-item.result (names_in c.loop-argument.seen) (names_in c.add_argument.new.seen) c.loop-argument.invariant.told c.loop-argument-test.true c.argument-item.is c.in_ok-add_argument.ensures; height = omega arith }

pub add_links-loop-link-preserved : goal.add_links-loop-link-preserved
add_links-loop-link-preserved t c =
    let k : of_links (links (map link_of (drop c.loop-link.link-index c.args.links.now))) ≡ max (of_expression (expression_of c.link-item.result.value)) (of_links (links (map link_of (drop (c.loop-link.link-index + 1) c.args.links.now)))) = height_here (λ (x : Link). of_expression (expression_of x.value)) (λ (ys : List Link). of_links (links (map link_of ys))) (λ x xs. ap (λ y. max (of_expression y) (of_links (links (map link_of xs)))) (link_value x)) c.args.links.now c.loop-link.link-index c.link-item.result c.loop-link-test.true c.link-item.is in record { told = told_more (λ (x : Link). in_expression (expression_of x.value)) (λ (ys : List Link). in_links (links (map link_of ys))) (λ x xs. ap (λ y. in_expression y ++ in_links (links (map link_of xs))) (link_value x)) (note (names_in c.args.seen.now) (in_links (links (map link_of c.args.links.now)))) c.args.links.now c.loop-link.link-index c.link-item.result (names_in c.loop-link.seen) (names_in c.add_expr.new.seen) c.loop-link.invariant.told c.loop-link-test.true c.link-item.is c.in_ok-add_expr.ensures; height = omega arith }

pub add_links-add_expr-requires : goal.add_links-add_expr-requires
add_links-add_expr-requires t c =
    let k : of_links (links (map link_of (drop c.loop-link.link-index c.args.links.now))) ≡ max (of_expression (expression_of c.link-item.result.value)) (of_links (links (map link_of (drop (c.loop-link.link-index + 1) c.args.links.now)))) = height_here (λ (x : Link). of_expression (expression_of x.value)) (λ (ys : List Link). of_links (links (map link_of ys))) (λ x xs. ap (λ y. max (of_expression y) (of_links (links (map link_of xs)))) (link_value x)) c.args.links.now c.loop-link.link-index c.link-item.result c.loop-link-test.true c.link-item.is in (omega arith, tt)

pub add_operands-loop-operand-preserved : goal.add_operands-loop-operand-preserved
add_operands-loop-operand-preserved t c =
    let k : of_operands (operands (map operand_of (drop c.loop-operand.operand-index c.args.operands.now))) ≡ max (of_expression (expression_of c.operand-item.result.value)) (of_operands (operands (map operand_of (drop (c.loop-operand.operand-index + 1) c.args.operands.now)))) = height_here (λ (x : Operand). of_expression (expression_of x.value)) (λ (ys : List Operand). of_operands (operands (map operand_of ys))) (λ x xs. ap (λ y. max (of_expression y) (of_operands (operands (map operand_of xs)))) (operand_value x)) c.args.operands.now c.loop-operand.operand-index c.operand-item.result c.loop-operand-test.true c.operand-item.is in record { told = told_more (λ (x : Operand). in_expression (expression_of x.value)) (λ (ys : List Operand). in_operands (operands (map operand_of ys))) (λ x xs. ap (λ y. in_expression y ++ in_operands (operands (map operand_of xs))) (operand_value x)) (note (names_in c.args.seen.now) (in_operands (operands (map operand_of c.args.operands.now)))) c.args.operands.now c.loop-operand.operand-index c.operand-item.result (names_in c.loop-operand.seen) (names_in c.add_expr.new.seen) c.loop-operand.invariant.told c.loop-operand-test.true c.operand-item.is c.in_ok-add_expr.ensures; height = omega arith }

pub add_operands-add_expr-requires : goal.add_operands-add_expr-requires
add_operands-add_expr-requires t c =
    let k : of_operands (operands (map operand_of (drop c.loop-operand.operand-index c.args.operands.now))) ≡ max (of_expression (expression_of c.operand-item.result.value)) (of_operands (operands (map operand_of (drop (c.loop-operand.operand-index + 1) c.args.operands.now)))) = height_here (λ (x : Operand). of_expression (expression_of x.value)) (λ (ys : List Operand). of_operands (operands (map operand_of ys))) (λ x xs. ap (λ y. max (of_expression y) (of_operands (operands (map operand_of xs)))) (operand_value x)) c.args.operands.now c.loop-operand.operand-index c.operand-item.result c.loop-operand-test.true c.operand-item.is in (omega arith, tt)

pub add_pairs-add_expr-requires : goal.add_pairs-add_expr-requires
add_pairs-add_expr-requires t c =
    let k : of_pairs (pairs (map pair_of (drop c.loop-pair.pair-index c.args.pairs.now))) ≡ max (max (of_expression (expression_of c.pair-item.result.key)) (of_expression (expression_of c.pair-item.result.value))) (of_pairs (pairs (map pair_of (drop (c.loop-pair.pair-index + 1) c.args.pairs.now)))) = height_here (λ (x : Pair). max (of_expression (expression_of x.key)) (of_expression (expression_of x.value))) (λ (ys : List Pair). of_pairs (pairs (map pair_of ys))) pair_height c.args.pairs.now c.loop-pair.pair-index c.pair-item.result c.loop-pair-test.true c.pair-item.is in (omega arith, tt)

pub add_pairs-add_expr-requires-in-loop-pair : goal.add_pairs-add_expr-requires-in-loop-pair
add_pairs-add_expr-requires-in-loop-pair t c =
    let k : of_pairs (pairs (map pair_of (drop c.loop-pair.pair-index c.args.pairs.now))) ≡ max (max (of_expression (expression_of c.pair-item.result.key)) (of_expression (expression_of c.pair-item.result.value))) (of_pairs (pairs (map pair_of (drop (c.loop-pair.pair-index + 1) c.args.pairs.now)))) = height_here (λ (x : Pair). max (of_expression (expression_of x.key)) (of_expression (expression_of x.value))) (λ (ys : List Pair). of_pairs (pairs (map pair_of ys))) pair_height c.args.pairs.now c.loop-pair.pair-index c.pair-item.result c.loop-pair-test.true c.pair-item.is in (omega arith, tt)

pub add_pairs-loop-pair-preserved : goal.add_pairs-loop-pair-preserved
add_pairs-loop-pair-preserved t c =
    let k : of_pairs (pairs (map pair_of (drop c.loop-pair.pair-index c.args.pairs.now))) ≡ max (max (of_expression (expression_of c.pair-item.result.key)) (of_expression (expression_of c.pair-item.result.value))) (of_pairs (pairs (map pair_of (drop (c.loop-pair.pair-index + 1) c.args.pairs.now)))) = height_here (λ (x : Pair). max (of_expression (expression_of x.key)) (of_expression (expression_of x.value))) (λ (ys : List Pair). of_pairs (pairs (map pair_of ys))) pair_height c.args.pairs.now c.loop-pair.pair-index c.pair-item.result c.loop-pair-test.true c.pair-item.is in record { told = told_more (λ (x : Pair). in_expression (expression_of x.key) ++ in_expression (expression_of x.value)) (λ (ys : List Pair). in_pairs (pairs (map pair_of ys))) pair_names (note (names_in c.args.seen.now) (in_pairs (pairs (map pair_of c.args.pairs.now)))) c.args.pairs.now c.loop-pair.pair-index c.pair-item.result (names_in c.loop-pair.seen) (names_in c.add_expr-in-loop-pair.new.seen) c.loop-pair.invariant.told c.loop-pair-test.true c.pair-item.is (note_then (names_in c.loop-pair.seen) (names_in c.add_expr.new.seen) (in_expression (expression_of c.pair-item.result.key)) (in_expression (expression_of c.pair-item.result.value)) c.in_ok-add_expr.ensures ∙ c.in_ok-add_expr-2.ensures); height = omega arith }
