-- How high some trees are: computed on the definition. Made by tools/rows/tree_rows.py.
use Rattle.std.proofs.Common.{◌≡◌, [], refl}
use Rattle.std.specs.Prelude.{ℕ, List, codes, Result, Ok, Err}
use Rattle.std.specs.Char.{encode_utf8}
use Rattle.kishu_language.specs.declared.profile.Profile.TheVariants.{One}
use Rattle.kishu_language.specs.tokens.Marks.{reserved_marks, delimiter, operator}
use Rattle.kishu_language.specs.tokens.Numerals.{numeral}
use Rattle.kishu_language.specs.tokens.Quoted as Q
use Rattle.kishu_language.specs.tokens.Lexemes.{token_piece, lexeme}
use Rattle.kishu_language.specs.tokens.Layout.{cut, indented, begin, bracket, step, layout}
use Rattle.kishu_language.specs.trees.Code.{code_of}
use Rattle.kishu_language.specs.reading.ReadExpressions as E
use Rattle.kishu_language.specs.reading.ReadStatements as S
use Rattle.kishu_language.specs.reading.ReadText as R
use Rattle.kishu_language.specs.reading.ReadText.{read_chars}
use Rattle.kishu_language.specs.trees.Tree.{Statement, statements}
use Rattle.kishu_language.specs.trees.Height.{of_statements}

abbrev height : Result (List Statement) ℕ → ℕ
height (Ok found) = of_statements (statements found)
height (Err line) = 0

height_1 : height (read_chars One []) ≡ 0
unfolding reserved_marks delimiter operator numeral Q.escape Q.item Q.closes Q.body Q.quoted token_piece lexeme cut indented begin bracket step layout encode_utf8 code_of E.keyword_begins E.another E.argument E.attribute E.call E.slice_after E.item_or_slice E.trailer E.parenthesised E.list E.pair E.dict E.atom E.primary_parts E.primary E.power E.unary_level E.term E.sum E.compared E.negated_level E.conjunction E.disjunction E.expr_level E.exprs_level E.phrase S.primary_at S.another_simple S.raise S.return S.assertion S.delete S.global S.import S.update_of S.assignment_of S.update_or_assignment S.simple S.simples S.line S.block S.block_after S.arm S.choice S.while S.for S.caught S.handler S.handled S.finished S.try S.parameter S.definition S.define S.compound S.chunk S.program R.piece read_chars
height_1 = refl

height_2 : height (read_chars One (codes "a")) ≡ 2
unfolding reserved_marks delimiter operator numeral Q.escape Q.item Q.closes Q.body Q.quoted token_piece lexeme cut indented begin bracket step layout encode_utf8 code_of E.keyword_begins E.another E.argument E.attribute E.call E.slice_after E.item_or_slice E.trailer E.parenthesised E.list E.pair E.dict E.atom E.primary_parts E.primary E.power E.unary_level E.term E.sum E.compared E.negated_level E.conjunction E.disjunction E.expr_level E.exprs_level E.phrase S.primary_at S.another_simple S.raise S.return S.assertion S.delete S.global S.import S.update_of S.assignment_of S.update_or_assignment S.simple S.simples S.line S.block S.block_after S.arm S.choice S.while S.for S.caught S.handler S.handled S.finished S.try S.parameter S.definition S.define S.compound S.chunk S.program R.piece read_chars
height_2 = refl

height_3 : height (read_chars One (codes "1")) ≡ 2
unfolding reserved_marks delimiter operator numeral Q.escape Q.item Q.closes Q.body Q.quoted token_piece lexeme cut indented begin bracket step layout encode_utf8 code_of E.keyword_begins E.another E.argument E.attribute E.call E.slice_after E.item_or_slice E.trailer E.parenthesised E.list E.pair E.dict E.atom E.primary_parts E.primary E.power E.unary_level E.term E.sum E.compared E.negated_level E.conjunction E.disjunction E.expr_level E.exprs_level E.phrase S.primary_at S.another_simple S.raise S.return S.assertion S.delete S.global S.import S.update_of S.assignment_of S.update_or_assignment S.simple S.simples S.line S.block S.block_after S.arm S.choice S.while S.for S.caught S.handler S.handled S.finished S.try S.parameter S.definition S.define S.compound S.chunk S.program R.piece read_chars
height_3 = refl

height_4 : height (read_chars One (codes "'a'")) ≡ 2
unfolding reserved_marks delimiter operator numeral Q.escape Q.item Q.closes Q.body Q.quoted token_piece lexeme cut indented begin bracket step layout encode_utf8 code_of E.keyword_begins E.another E.argument E.attribute E.call E.slice_after E.item_or_slice E.trailer E.parenthesised E.list E.pair E.dict E.atom E.primary_parts E.primary E.power E.unary_level E.term E.sum E.compared E.negated_level E.conjunction E.disjunction E.expr_level E.exprs_level E.phrase S.primary_at S.another_simple S.raise S.return S.assertion S.delete S.global S.import S.update_of S.assignment_of S.update_or_assignment S.simple S.simples S.line S.block S.block_after S.arm S.choice S.while S.for S.caught S.handler S.handled S.finished S.try S.parameter S.definition S.define S.compound S.chunk S.program R.piece read_chars
height_4 = refl

height_5 : height (read_chars One (codes "None")) ≡ 2
unfolding reserved_marks delimiter operator numeral Q.escape Q.item Q.closes Q.body Q.quoted token_piece lexeme cut indented begin bracket step layout encode_utf8 code_of E.keyword_begins E.another E.argument E.attribute E.call E.slice_after E.item_or_slice E.trailer E.parenthesised E.list E.pair E.dict E.atom E.primary_parts E.primary E.power E.unary_level E.term E.sum E.compared E.negated_level E.conjunction E.disjunction E.expr_level E.exprs_level E.phrase S.primary_at S.another_simple S.raise S.return S.assertion S.delete S.global S.import S.update_of S.assignment_of S.update_or_assignment S.simple S.simples S.line S.block S.block_after S.arm S.choice S.while S.for S.caught S.handler S.handled S.finished S.try S.parameter S.definition S.define S.compound S.chunk S.program R.piece read_chars
height_5 = refl

height_6 : height (read_chars One (codes "()")) ≡ 2
unfolding reserved_marks delimiter operator numeral Q.escape Q.item Q.closes Q.body Q.quoted token_piece lexeme cut indented begin bracket step layout encode_utf8 code_of E.keyword_begins E.another E.argument E.attribute E.call E.slice_after E.item_or_slice E.trailer E.parenthesised E.list E.pair E.dict E.atom E.primary_parts E.primary E.power E.unary_level E.term E.sum E.compared E.negated_level E.conjunction E.disjunction E.expr_level E.exprs_level E.phrase S.primary_at S.another_simple S.raise S.return S.assertion S.delete S.global S.import S.update_of S.assignment_of S.update_or_assignment S.simple S.simples S.line S.block S.block_after S.arm S.choice S.while S.for S.caught S.handler S.handled S.finished S.try S.parameter S.definition S.define S.compound S.chunk S.program R.piece read_chars
height_6 = refl

height_7 : height (read_chars One (codes "[]")) ≡ 2
unfolding reserved_marks delimiter operator numeral Q.escape Q.item Q.closes Q.body Q.quoted token_piece lexeme cut indented begin bracket step layout encode_utf8 code_of E.keyword_begins E.another E.argument E.attribute E.call E.slice_after E.item_or_slice E.trailer E.parenthesised E.list E.pair E.dict E.atom E.primary_parts E.primary E.power E.unary_level E.term E.sum E.compared E.negated_level E.conjunction E.disjunction E.expr_level E.exprs_level E.phrase S.primary_at S.another_simple S.raise S.return S.assertion S.delete S.global S.import S.update_of S.assignment_of S.update_or_assignment S.simple S.simples S.line S.block S.block_after S.arm S.choice S.while S.for S.caught S.handler S.handled S.finished S.try S.parameter S.definition S.define S.compound S.chunk S.program R.piece read_chars
height_7 = refl

height_8 : height (read_chars One (codes "{}")) ≡ 2
unfolding reserved_marks delimiter operator numeral Q.escape Q.item Q.closes Q.body Q.quoted token_piece lexeme cut indented begin bracket step layout encode_utf8 code_of E.keyword_begins E.another E.argument E.attribute E.call E.slice_after E.item_or_slice E.trailer E.parenthesised E.list E.pair E.dict E.atom E.primary_parts E.primary E.power E.unary_level E.term E.sum E.compared E.negated_level E.conjunction E.disjunction E.expr_level E.exprs_level E.phrase S.primary_at S.another_simple S.raise S.return S.assertion S.delete S.global S.import S.update_of S.assignment_of S.update_or_assignment S.simple S.simples S.line S.block S.block_after S.arm S.choice S.while S.for S.caught S.handler S.handled S.finished S.try S.parameter S.definition S.define S.compound S.chunk S.program R.piece read_chars
height_8 = refl

height_9 : height (read_chars One (codes "(a)")) ≡ 3
unfolding reserved_marks delimiter operator numeral Q.escape Q.item Q.closes Q.body Q.quoted token_piece lexeme cut indented begin bracket step layout encode_utf8 code_of E.keyword_begins E.another E.argument E.attribute E.call E.slice_after E.item_or_slice E.trailer E.parenthesised E.list E.pair E.dict E.atom E.primary_parts E.primary E.power E.unary_level E.term E.sum E.compared E.negated_level E.conjunction E.disjunction E.expr_level E.exprs_level E.phrase S.primary_at S.another_simple S.raise S.return S.assertion S.delete S.global S.import S.update_of S.assignment_of S.update_or_assignment S.simple S.simples S.line S.block S.block_after S.arm S.choice S.while S.for S.caught S.handler S.handled S.finished S.try S.parameter S.definition S.define S.compound S.chunk S.program R.piece read_chars
height_9 = refl

height_10 : height (read_chars One (codes "((a))")) ≡ 4
unfolding reserved_marks delimiter operator numeral Q.escape Q.item Q.closes Q.body Q.quoted token_piece lexeme cut indented begin bracket step layout encode_utf8 code_of E.keyword_begins E.another E.argument E.attribute E.call E.slice_after E.item_or_slice E.trailer E.parenthesised E.list E.pair E.dict E.atom E.primary_parts E.primary E.power E.unary_level E.term E.sum E.compared E.negated_level E.conjunction E.disjunction E.expr_level E.exprs_level E.phrase S.primary_at S.another_simple S.raise S.return S.assertion S.delete S.global S.import S.update_of S.assignment_of S.update_or_assignment S.simple S.simples S.line S.block S.block_after S.arm S.choice S.while S.for S.caught S.handler S.handled S.finished S.try S.parameter S.definition S.define S.compound S.chunk S.program R.piece read_chars
height_10 = refl

height_11 : height (read_chars One (codes "a,")) ≡ 3
unfolding reserved_marks delimiter operator numeral Q.escape Q.item Q.closes Q.body Q.quoted token_piece lexeme cut indented begin bracket step layout encode_utf8 code_of E.keyword_begins E.another E.argument E.attribute E.call E.slice_after E.item_or_slice E.trailer E.parenthesised E.list E.pair E.dict E.atom E.primary_parts E.primary E.power E.unary_level E.term E.sum E.compared E.negated_level E.conjunction E.disjunction E.expr_level E.exprs_level E.phrase S.primary_at S.another_simple S.raise S.return S.assertion S.delete S.global S.import S.update_of S.assignment_of S.update_or_assignment S.simple S.simples S.line S.block S.block_after S.arm S.choice S.while S.for S.caught S.handler S.handled S.finished S.try S.parameter S.definition S.define S.compound S.chunk S.program R.piece read_chars
height_11 = refl

height_12 : height (read_chars One (codes "[a]")) ≡ 3
unfolding reserved_marks delimiter operator numeral Q.escape Q.item Q.closes Q.body Q.quoted token_piece lexeme cut indented begin bracket step layout encode_utf8 code_of E.keyword_begins E.another E.argument E.attribute E.call E.slice_after E.item_or_slice E.trailer E.parenthesised E.list E.pair E.dict E.atom E.primary_parts E.primary E.power E.unary_level E.term E.sum E.compared E.negated_level E.conjunction E.disjunction E.expr_level E.exprs_level E.phrase S.primary_at S.another_simple S.raise S.return S.assertion S.delete S.global S.import S.update_of S.assignment_of S.update_or_assignment S.simple S.simples S.line S.block S.block_after S.arm S.choice S.while S.for S.caught S.handler S.handled S.finished S.try S.parameter S.definition S.define S.compound S.chunk S.program R.piece read_chars
height_12 = refl

height_13 : height (read_chars One (codes "[[a]]")) ≡ 4
unfolding reserved_marks delimiter operator numeral Q.escape Q.item Q.closes Q.body Q.quoted token_piece lexeme cut indented begin bracket step layout encode_utf8 code_of E.keyword_begins E.another E.argument E.attribute E.call E.slice_after E.item_or_slice E.trailer E.parenthesised E.list E.pair E.dict E.atom E.primary_parts E.primary E.power E.unary_level E.term E.sum E.compared E.negated_level E.conjunction E.disjunction E.expr_level E.exprs_level E.phrase S.primary_at S.another_simple S.raise S.return S.assertion S.delete S.global S.import S.update_of S.assignment_of S.update_or_assignment S.simple S.simples S.line S.block S.block_after S.arm S.choice S.while S.for S.caught S.handler S.handled S.finished S.try S.parameter S.definition S.define S.compound S.chunk S.program R.piece read_chars
height_13 = refl

height_14 : height (read_chars One (codes "[a, [b, [c]]]")) ≡ 5
unfolding reserved_marks delimiter operator numeral Q.escape Q.item Q.closes Q.body Q.quoted token_piece lexeme cut indented begin bracket step layout encode_utf8 code_of E.keyword_begins E.another E.argument E.attribute E.call E.slice_after E.item_or_slice E.trailer E.parenthesised E.list E.pair E.dict E.atom E.primary_parts E.primary E.power E.unary_level E.term E.sum E.compared E.negated_level E.conjunction E.disjunction E.expr_level E.exprs_level E.phrase S.primary_at S.another_simple S.raise S.return S.assertion S.delete S.global S.import S.update_of S.assignment_of S.update_or_assignment S.simple S.simples S.line S.block S.block_after S.arm S.choice S.while S.for S.caught S.handler S.handled S.finished S.try S.parameter S.definition S.define S.compound S.chunk S.program R.piece read_chars
height_14 = refl

height_15 : height (read_chars One (codes "{a: b}")) ≡ 3
unfolding reserved_marks delimiter operator numeral Q.escape Q.item Q.closes Q.body Q.quoted token_piece lexeme cut indented begin bracket step layout encode_utf8 code_of E.keyword_begins E.another E.argument E.attribute E.call E.slice_after E.item_or_slice E.trailer E.parenthesised E.list E.pair E.dict E.atom E.primary_parts E.primary E.power E.unary_level E.term E.sum E.compared E.negated_level E.conjunction E.disjunction E.expr_level E.exprs_level E.phrase S.primary_at S.another_simple S.raise S.return S.assertion S.delete S.global S.import S.update_of S.assignment_of S.update_or_assignment S.simple S.simples S.line S.block S.block_after S.arm S.choice S.while S.for S.caught S.handler S.handled S.finished S.try S.parameter S.definition S.define S.compound S.chunk S.program R.piece read_chars
height_15 = refl

height_16 : height (read_chars One (codes "{a: [b]}")) ≡ 4
unfolding reserved_marks delimiter operator numeral Q.escape Q.item Q.closes Q.body Q.quoted token_piece lexeme cut indented begin bracket step layout encode_utf8 code_of E.keyword_begins E.another E.argument E.attribute E.call E.slice_after E.item_or_slice E.trailer E.parenthesised E.list E.pair E.dict E.atom E.primary_parts E.primary E.power E.unary_level E.term E.sum E.compared E.negated_level E.conjunction E.disjunction E.expr_level E.exprs_level E.phrase S.primary_at S.another_simple S.raise S.return S.assertion S.delete S.global S.import S.update_of S.assignment_of S.update_or_assignment S.simple S.simples S.line S.block S.block_after S.arm S.choice S.while S.for S.caught S.handler S.handled S.finished S.try S.parameter S.definition S.define S.compound S.chunk S.program R.piece read_chars
height_16 = refl

height_17 : height (read_chars One (codes "{[a]: b}")) ≡ 4
unfolding reserved_marks delimiter operator numeral Q.escape Q.item Q.closes Q.body Q.quoted token_piece lexeme cut indented begin bracket step layout encode_utf8 code_of E.keyword_begins E.another E.argument E.attribute E.call E.slice_after E.item_or_slice E.trailer E.parenthesised E.list E.pair E.dict E.atom E.primary_parts E.primary E.power E.unary_level E.term E.sum E.compared E.negated_level E.conjunction E.disjunction E.expr_level E.exprs_level E.phrase S.primary_at S.another_simple S.raise S.return S.assertion S.delete S.global S.import S.update_of S.assignment_of S.update_or_assignment S.simple S.simples S.line S.block S.block_after S.arm S.choice S.while S.for S.caught S.handler S.handled S.finished S.try S.parameter S.definition S.define S.compound S.chunk S.program R.piece read_chars
height_17 = refl

height_18 : height (read_chars One (codes "a + b")) ≡ 3
unfolding reserved_marks delimiter operator numeral Q.escape Q.item Q.closes Q.body Q.quoted token_piece lexeme cut indented begin bracket step layout encode_utf8 code_of E.keyword_begins E.another E.argument E.attribute E.call E.slice_after E.item_or_slice E.trailer E.parenthesised E.list E.pair E.dict E.atom E.primary_parts E.primary E.power E.unary_level E.term E.sum E.compared E.negated_level E.conjunction E.disjunction E.expr_level E.exprs_level E.phrase S.primary_at S.another_simple S.raise S.return S.assertion S.delete S.global S.import S.update_of S.assignment_of S.update_or_assignment S.simple S.simples S.line S.block S.block_after S.arm S.choice S.while S.for S.caught S.handler S.handled S.finished S.try S.parameter S.definition S.define S.compound S.chunk S.program R.piece read_chars
height_18 = refl

height_19 : height (read_chars One (codes "a + b + c")) ≡ 3
unfolding reserved_marks delimiter operator numeral Q.escape Q.item Q.closes Q.body Q.quoted token_piece lexeme cut indented begin bracket step layout encode_utf8 code_of E.keyword_begins E.another E.argument E.attribute E.call E.slice_after E.item_or_slice E.trailer E.parenthesised E.list E.pair E.dict E.atom E.primary_parts E.primary E.power E.unary_level E.term E.sum E.compared E.negated_level E.conjunction E.disjunction E.expr_level E.exprs_level E.phrase S.primary_at S.another_simple S.raise S.return S.assertion S.delete S.global S.import S.update_of S.assignment_of S.update_or_assignment S.simple S.simples S.line S.block S.block_after S.arm S.choice S.while S.for S.caught S.handler S.handled S.finished S.try S.parameter S.definition S.define S.compound S.chunk S.program R.piece read_chars
height_19 = refl

height_20 : height (read_chars One (codes "a + b * c")) ≡ 4
unfolding reserved_marks delimiter operator numeral Q.escape Q.item Q.closes Q.body Q.quoted token_piece lexeme cut indented begin bracket step layout encode_utf8 code_of E.keyword_begins E.another E.argument E.attribute E.call E.slice_after E.item_or_slice E.trailer E.parenthesised E.list E.pair E.dict E.atom E.primary_parts E.primary E.power E.unary_level E.term E.sum E.compared E.negated_level E.conjunction E.disjunction E.expr_level E.exprs_level E.phrase S.primary_at S.another_simple S.raise S.return S.assertion S.delete S.global S.import S.update_of S.assignment_of S.update_or_assignment S.simple S.simples S.line S.block S.block_after S.arm S.choice S.while S.for S.caught S.handler S.handled S.finished S.try S.parameter S.definition S.define S.compound S.chunk S.program R.piece read_chars
height_20 = refl

height_21 : height (read_chars One (codes "(a + b) * c")) ≡ 5
unfolding reserved_marks delimiter operator numeral Q.escape Q.item Q.closes Q.body Q.quoted token_piece lexeme cut indented begin bracket step layout encode_utf8 code_of E.keyword_begins E.another E.argument E.attribute E.call E.slice_after E.item_or_slice E.trailer E.parenthesised E.list E.pair E.dict E.atom E.primary_parts E.primary E.power E.unary_level E.term E.sum E.compared E.negated_level E.conjunction E.disjunction E.expr_level E.exprs_level E.phrase S.primary_at S.another_simple S.raise S.return S.assertion S.delete S.global S.import S.update_of S.assignment_of S.update_or_assignment S.simple S.simples S.line S.block S.block_after S.arm S.choice S.while S.for S.caught S.handler S.handled S.finished S.try S.parameter S.definition S.define S.compound S.chunk S.program R.piece read_chars
height_21 = refl

height_22 : height (read_chars One (codes "-a")) ≡ 3
unfolding reserved_marks delimiter operator numeral Q.escape Q.item Q.closes Q.body Q.quoted token_piece lexeme cut indented begin bracket step layout encode_utf8 code_of E.keyword_begins E.another E.argument E.attribute E.call E.slice_after E.item_or_slice E.trailer E.parenthesised E.list E.pair E.dict E.atom E.primary_parts E.primary E.power E.unary_level E.term E.sum E.compared E.negated_level E.conjunction E.disjunction E.expr_level E.exprs_level E.phrase S.primary_at S.another_simple S.raise S.return S.assertion S.delete S.global S.import S.update_of S.assignment_of S.update_or_assignment S.simple S.simples S.line S.block S.block_after S.arm S.choice S.while S.for S.caught S.handler S.handled S.finished S.try S.parameter S.definition S.define S.compound S.chunk S.program R.piece read_chars
height_22 = refl

height_23 : height (read_chars One (codes "- -a")) ≡ 4
unfolding reserved_marks delimiter operator numeral Q.escape Q.item Q.closes Q.body Q.quoted token_piece lexeme cut indented begin bracket step layout encode_utf8 code_of E.keyword_begins E.another E.argument E.attribute E.call E.slice_after E.item_or_slice E.trailer E.parenthesised E.list E.pair E.dict E.atom E.primary_parts E.primary E.power E.unary_level E.term E.sum E.compared E.negated_level E.conjunction E.disjunction E.expr_level E.exprs_level E.phrase S.primary_at S.another_simple S.raise S.return S.assertion S.delete S.global S.import S.update_of S.assignment_of S.update_or_assignment S.simple S.simples S.line S.block S.block_after S.arm S.choice S.while S.for S.caught S.handler S.handled S.finished S.try S.parameter S.definition S.define S.compound S.chunk S.program R.piece read_chars
height_23 = refl

height_24 : height (read_chars One (codes "not a")) ≡ 3
unfolding reserved_marks delimiter operator numeral Q.escape Q.item Q.closes Q.body Q.quoted token_piece lexeme cut indented begin bracket step layout encode_utf8 code_of E.keyword_begins E.another E.argument E.attribute E.call E.slice_after E.item_or_slice E.trailer E.parenthesised E.list E.pair E.dict E.atom E.primary_parts E.primary E.power E.unary_level E.term E.sum E.compared E.negated_level E.conjunction E.disjunction E.expr_level E.exprs_level E.phrase S.primary_at S.another_simple S.raise S.return S.assertion S.delete S.global S.import S.update_of S.assignment_of S.update_or_assignment S.simple S.simples S.line S.block S.block_after S.arm S.choice S.while S.for S.caught S.handler S.handled S.finished S.try S.parameter S.definition S.define S.compound S.chunk S.program R.piece read_chars
height_24 = refl

height_25 : height (read_chars One (codes "not not a")) ≡ 4
unfolding reserved_marks delimiter operator numeral Q.escape Q.item Q.closes Q.body Q.quoted token_piece lexeme cut indented begin bracket step layout encode_utf8 code_of E.keyword_begins E.another E.argument E.attribute E.call E.slice_after E.item_or_slice E.trailer E.parenthesised E.list E.pair E.dict E.atom E.primary_parts E.primary E.power E.unary_level E.term E.sum E.compared E.negated_level E.conjunction E.disjunction E.expr_level E.exprs_level E.phrase S.primary_at S.another_simple S.raise S.return S.assertion S.delete S.global S.import S.update_of S.assignment_of S.update_or_assignment S.simple S.simples S.line S.block S.block_after S.arm S.choice S.while S.for S.caught S.handler S.handled S.finished S.try S.parameter S.definition S.define S.compound S.chunk S.program R.piece read_chars
height_25 = refl

height_26 : height (read_chars One (codes "a ** b")) ≡ 3
unfolding reserved_marks delimiter operator numeral Q.escape Q.item Q.closes Q.body Q.quoted token_piece lexeme cut indented begin bracket step layout encode_utf8 code_of E.keyword_begins E.another E.argument E.attribute E.call E.slice_after E.item_or_slice E.trailer E.parenthesised E.list E.pair E.dict E.atom E.primary_parts E.primary E.power E.unary_level E.term E.sum E.compared E.negated_level E.conjunction E.disjunction E.expr_level E.exprs_level E.phrase S.primary_at S.another_simple S.raise S.return S.assertion S.delete S.global S.import S.update_of S.assignment_of S.update_or_assignment S.simple S.simples S.line S.block S.block_after S.arm S.choice S.while S.for S.caught S.handler S.handled S.finished S.try S.parameter S.definition S.define S.compound S.chunk S.program R.piece read_chars
height_26 = refl

height_27 : height (read_chars One (codes "a ** b ** c")) ≡ 4
unfolding reserved_marks delimiter operator numeral Q.escape Q.item Q.closes Q.body Q.quoted token_piece lexeme cut indented begin bracket step layout encode_utf8 code_of E.keyword_begins E.another E.argument E.attribute E.call E.slice_after E.item_or_slice E.trailer E.parenthesised E.list E.pair E.dict E.atom E.primary_parts E.primary E.power E.unary_level E.term E.sum E.compared E.negated_level E.conjunction E.disjunction E.expr_level E.exprs_level E.phrase S.primary_at S.another_simple S.raise S.return S.assertion S.delete S.global S.import S.update_of S.assignment_of S.update_or_assignment S.simple S.simples S.line S.block S.block_after S.arm S.choice S.while S.for S.caught S.handler S.handled S.finished S.try S.parameter S.definition S.define S.compound S.chunk S.program R.piece read_chars
height_27 = refl

height_28 : height (read_chars One (codes "-a ** b")) ≡ 4
unfolding reserved_marks delimiter operator numeral Q.escape Q.item Q.closes Q.body Q.quoted token_piece lexeme cut indented begin bracket step layout encode_utf8 code_of E.keyword_begins E.another E.argument E.attribute E.call E.slice_after E.item_or_slice E.trailer E.parenthesised E.list E.pair E.dict E.atom E.primary_parts E.primary E.power E.unary_level E.term E.sum E.compared E.negated_level E.conjunction E.disjunction E.expr_level E.exprs_level E.phrase S.primary_at S.another_simple S.raise S.return S.assertion S.delete S.global S.import S.update_of S.assignment_of S.update_or_assignment S.simple S.simples S.line S.block S.block_after S.arm S.choice S.while S.for S.caught S.handler S.handled S.finished S.try S.parameter S.definition S.define S.compound S.chunk S.program R.piece read_chars
height_28 = refl

height_29 : height (read_chars One (codes "a or b")) ≡ 3
unfolding reserved_marks delimiter operator numeral Q.escape Q.item Q.closes Q.body Q.quoted token_piece lexeme cut indented begin bracket step layout encode_utf8 code_of E.keyword_begins E.another E.argument E.attribute E.call E.slice_after E.item_or_slice E.trailer E.parenthesised E.list E.pair E.dict E.atom E.primary_parts E.primary E.power E.unary_level E.term E.sum E.compared E.negated_level E.conjunction E.disjunction E.expr_level E.exprs_level E.phrase S.primary_at S.another_simple S.raise S.return S.assertion S.delete S.global S.import S.update_of S.assignment_of S.update_or_assignment S.simple S.simples S.line S.block S.block_after S.arm S.choice S.while S.for S.caught S.handler S.handled S.finished S.try S.parameter S.definition S.define S.compound S.chunk S.program R.piece read_chars
height_29 = refl

height_30 : height (read_chars One (codes "a or b and c")) ≡ 4
unfolding reserved_marks delimiter operator numeral Q.escape Q.item Q.closes Q.body Q.quoted token_piece lexeme cut indented begin bracket step layout encode_utf8 code_of E.keyword_begins E.another E.argument E.attribute E.call E.slice_after E.item_or_slice E.trailer E.parenthesised E.list E.pair E.dict E.atom E.primary_parts E.primary E.power E.unary_level E.term E.sum E.compared E.negated_level E.conjunction E.disjunction E.expr_level E.exprs_level E.phrase S.primary_at S.another_simple S.raise S.return S.assertion S.delete S.global S.import S.update_of S.assignment_of S.update_or_assignment S.simple S.simples S.line S.block S.block_after S.arm S.choice S.while S.for S.caught S.handler S.handled S.finished S.try S.parameter S.definition S.define S.compound S.chunk S.program R.piece read_chars
height_30 = refl

height_31 : height (read_chars One (codes "not a or b")) ≡ 4
unfolding reserved_marks delimiter operator numeral Q.escape Q.item Q.closes Q.body Q.quoted token_piece lexeme cut indented begin bracket step layout encode_utf8 code_of E.keyword_begins E.another E.argument E.attribute E.call E.slice_after E.item_or_slice E.trailer E.parenthesised E.list E.pair E.dict E.atom E.primary_parts E.primary E.power E.unary_level E.term E.sum E.compared E.negated_level E.conjunction E.disjunction E.expr_level E.exprs_level E.phrase S.primary_at S.another_simple S.raise S.return S.assertion S.delete S.global S.import S.update_of S.assignment_of S.update_or_assignment S.simple S.simples S.line S.block S.block_after S.arm S.choice S.while S.for S.caught S.handler S.handled S.finished S.try S.parameter S.definition S.define S.compound S.chunk S.program R.piece read_chars
height_31 = refl

height_32 : height (read_chars One (codes "a < b")) ≡ 3
unfolding reserved_marks delimiter operator numeral Q.escape Q.item Q.closes Q.body Q.quoted token_piece lexeme cut indented begin bracket step layout encode_utf8 code_of E.keyword_begins E.another E.argument E.attribute E.call E.slice_after E.item_or_slice E.trailer E.parenthesised E.list E.pair E.dict E.atom E.primary_parts E.primary E.power E.unary_level E.term E.sum E.compared E.negated_level E.conjunction E.disjunction E.expr_level E.exprs_level E.phrase S.primary_at S.another_simple S.raise S.return S.assertion S.delete S.global S.import S.update_of S.assignment_of S.update_or_assignment S.simple S.simples S.line S.block S.block_after S.arm S.choice S.while S.for S.caught S.handler S.handled S.finished S.try S.parameter S.definition S.define S.compound S.chunk S.program R.piece read_chars
height_32 = refl

height_33 : height (read_chars One (codes "a < b < (c)")) ≡ 4
unfolding reserved_marks delimiter operator numeral Q.escape Q.item Q.closes Q.body Q.quoted token_piece lexeme cut indented begin bracket step layout encode_utf8 code_of E.keyword_begins E.another E.argument E.attribute E.call E.slice_after E.item_or_slice E.trailer E.parenthesised E.list E.pair E.dict E.atom E.primary_parts E.primary E.power E.unary_level E.term E.sum E.compared E.negated_level E.conjunction E.disjunction E.expr_level E.exprs_level E.phrase S.primary_at S.another_simple S.raise S.return S.assertion S.delete S.global S.import S.update_of S.assignment_of S.update_or_assignment S.simple S.simples S.line S.block S.block_after S.arm S.choice S.while S.for S.caught S.handler S.handled S.finished S.try S.parameter S.definition S.define S.compound S.chunk S.program R.piece read_chars
height_33 = refl

height_34 : height (read_chars One (codes "a if b else c")) ≡ 3
unfolding reserved_marks delimiter operator numeral Q.escape Q.item Q.closes Q.body Q.quoted token_piece lexeme cut indented begin bracket step layout encode_utf8 code_of E.keyword_begins E.another E.argument E.attribute E.call E.slice_after E.item_or_slice E.trailer E.parenthesised E.list E.pair E.dict E.atom E.primary_parts E.primary E.power E.unary_level E.term E.sum E.compared E.negated_level E.conjunction E.disjunction E.expr_level E.exprs_level E.phrase S.primary_at S.another_simple S.raise S.return S.assertion S.delete S.global S.import S.update_of S.assignment_of S.update_or_assignment S.simple S.simples S.line S.block S.block_after S.arm S.choice S.while S.for S.caught S.handler S.handled S.finished S.try S.parameter S.definition S.define S.compound S.chunk S.program R.piece read_chars
height_34 = refl

height_35 : height (read_chars One (codes "a if b else c if d else e")) ≡ 4
unfolding reserved_marks delimiter operator numeral Q.escape Q.item Q.closes Q.body Q.quoted token_piece lexeme cut indented begin bracket step layout encode_utf8 code_of E.keyword_begins E.another E.argument E.attribute E.call E.slice_after E.item_or_slice E.trailer E.parenthesised E.list E.pair E.dict E.atom E.primary_parts E.primary E.power E.unary_level E.term E.sum E.compared E.negated_level E.conjunction E.disjunction E.expr_level E.exprs_level E.phrase S.primary_at S.another_simple S.raise S.return S.assertion S.delete S.global S.import S.update_of S.assignment_of S.update_or_assignment S.simple S.simples S.line S.block S.block_after S.arm S.choice S.while S.for S.caught S.handler S.handled S.finished S.try S.parameter S.definition S.define S.compound S.chunk S.program R.piece read_chars
height_35 = refl

height_36 : height (read_chars One (codes "a.b")) ≡ 3
unfolding reserved_marks delimiter operator numeral Q.escape Q.item Q.closes Q.body Q.quoted token_piece lexeme cut indented begin bracket step layout encode_utf8 code_of E.keyword_begins E.another E.argument E.attribute E.call E.slice_after E.item_or_slice E.trailer E.parenthesised E.list E.pair E.dict E.atom E.primary_parts E.primary E.power E.unary_level E.term E.sum E.compared E.negated_level E.conjunction E.disjunction E.expr_level E.exprs_level E.phrase S.primary_at S.another_simple S.raise S.return S.assertion S.delete S.global S.import S.update_of S.assignment_of S.update_or_assignment S.simple S.simples S.line S.block S.block_after S.arm S.choice S.while S.for S.caught S.handler S.handled S.finished S.try S.parameter S.definition S.define S.compound S.chunk S.program R.piece read_chars
height_36 = refl

height_37 : height (read_chars One (codes "a.b.c")) ≡ 3
unfolding reserved_marks delimiter operator numeral Q.escape Q.item Q.closes Q.body Q.quoted token_piece lexeme cut indented begin bracket step layout encode_utf8 code_of E.keyword_begins E.another E.argument E.attribute E.call E.slice_after E.item_or_slice E.trailer E.parenthesised E.list E.pair E.dict E.atom E.primary_parts E.primary E.power E.unary_level E.term E.sum E.compared E.negated_level E.conjunction E.disjunction E.expr_level E.exprs_level E.phrase S.primary_at S.another_simple S.raise S.return S.assertion S.delete S.global S.import S.update_of S.assignment_of S.update_or_assignment S.simple S.simples S.line S.block S.block_after S.arm S.choice S.while S.for S.caught S.handler S.handled S.finished S.try S.parameter S.definition S.define S.compound S.chunk S.program R.piece read_chars
height_37 = refl

height_38 : height (read_chars One (codes "f()")) ≡ 3
unfolding reserved_marks delimiter operator numeral Q.escape Q.item Q.closes Q.body Q.quoted token_piece lexeme cut indented begin bracket step layout encode_utf8 code_of E.keyword_begins E.another E.argument E.attribute E.call E.slice_after E.item_or_slice E.trailer E.parenthesised E.list E.pair E.dict E.atom E.primary_parts E.primary E.power E.unary_level E.term E.sum E.compared E.negated_level E.conjunction E.disjunction E.expr_level E.exprs_level E.phrase S.primary_at S.another_simple S.raise S.return S.assertion S.delete S.global S.import S.update_of S.assignment_of S.update_or_assignment S.simple S.simples S.line S.block S.block_after S.arm S.choice S.while S.for S.caught S.handler S.handled S.finished S.try S.parameter S.definition S.define S.compound S.chunk S.program R.piece read_chars
height_38 = refl

height_39 : height (read_chars One (codes "f(a)")) ≡ 3
unfolding reserved_marks delimiter operator numeral Q.escape Q.item Q.closes Q.body Q.quoted token_piece lexeme cut indented begin bracket step layout encode_utf8 code_of E.keyword_begins E.another E.argument E.attribute E.call E.slice_after E.item_or_slice E.trailer E.parenthesised E.list E.pair E.dict E.atom E.primary_parts E.primary E.power E.unary_level E.term E.sum E.compared E.negated_level E.conjunction E.disjunction E.expr_level E.exprs_level E.phrase S.primary_at S.another_simple S.raise S.return S.assertion S.delete S.global S.import S.update_of S.assignment_of S.update_or_assignment S.simple S.simples S.line S.block S.block_after S.arm S.choice S.while S.for S.caught S.handler S.handled S.finished S.try S.parameter S.definition S.define S.compound S.chunk S.program R.piece read_chars
height_39 = refl

height_40 : height (read_chars One (codes "f(a)(b)")) ≡ 3
unfolding reserved_marks delimiter operator numeral Q.escape Q.item Q.closes Q.body Q.quoted token_piece lexeme cut indented begin bracket step layout encode_utf8 code_of E.keyword_begins E.another E.argument E.attribute E.call E.slice_after E.item_or_slice E.trailer E.parenthesised E.list E.pair E.dict E.atom E.primary_parts E.primary E.power E.unary_level E.term E.sum E.compared E.negated_level E.conjunction E.disjunction E.expr_level E.exprs_level E.phrase S.primary_at S.another_simple S.raise S.return S.assertion S.delete S.global S.import S.update_of S.assignment_of S.update_or_assignment S.simple S.simples S.line S.block S.block_after S.arm S.choice S.while S.for S.caught S.handler S.handled S.finished S.try S.parameter S.definition S.define S.compound S.chunk S.program R.piece read_chars
height_40 = refl

height_41 : height (read_chars One (codes "f(a, b=(c))")) ≡ 4
unfolding reserved_marks delimiter operator numeral Q.escape Q.item Q.closes Q.body Q.quoted token_piece lexeme cut indented begin bracket step layout encode_utf8 code_of E.keyword_begins E.another E.argument E.attribute E.call E.slice_after E.item_or_slice E.trailer E.parenthesised E.list E.pair E.dict E.atom E.primary_parts E.primary E.power E.unary_level E.term E.sum E.compared E.negated_level E.conjunction E.disjunction E.expr_level E.exprs_level E.phrase S.primary_at S.another_simple S.raise S.return S.assertion S.delete S.global S.import S.update_of S.assignment_of S.update_or_assignment S.simple S.simples S.line S.block S.block_after S.arm S.choice S.while S.for S.caught S.handler S.handled S.finished S.try S.parameter S.definition S.define S.compound S.chunk S.program R.piece read_chars
height_41 = refl

height_42 : height (read_chars One (codes "f(g(h(a)))")) ≡ 5
unfolding reserved_marks delimiter operator numeral Q.escape Q.item Q.closes Q.body Q.quoted token_piece lexeme cut indented begin bracket step layout encode_utf8 code_of E.keyword_begins E.another E.argument E.attribute E.call E.slice_after E.item_or_slice E.trailer E.parenthesised E.list E.pair E.dict E.atom E.primary_parts E.primary E.power E.unary_level E.term E.sum E.compared E.negated_level E.conjunction E.disjunction E.expr_level E.exprs_level E.phrase S.primary_at S.another_simple S.raise S.return S.assertion S.delete S.global S.import S.update_of S.assignment_of S.update_or_assignment S.simple S.simples S.line S.block S.block_after S.arm S.choice S.while S.for S.caught S.handler S.handled S.finished S.try S.parameter S.definition S.define S.compound S.chunk S.program R.piece read_chars
height_42 = refl

height_43 : height (read_chars One (codes "a[b]")) ≡ 3
unfolding reserved_marks delimiter operator numeral Q.escape Q.item Q.closes Q.body Q.quoted token_piece lexeme cut indented begin bracket step layout encode_utf8 code_of E.keyword_begins E.another E.argument E.attribute E.call E.slice_after E.item_or_slice E.trailer E.parenthesised E.list E.pair E.dict E.atom E.primary_parts E.primary E.power E.unary_level E.term E.sum E.compared E.negated_level E.conjunction E.disjunction E.expr_level E.exprs_level E.phrase S.primary_at S.another_simple S.raise S.return S.assertion S.delete S.global S.import S.update_of S.assignment_of S.update_or_assignment S.simple S.simples S.line S.block S.block_after S.arm S.choice S.while S.for S.caught S.handler S.handled S.finished S.try S.parameter S.definition S.define S.compound S.chunk S.program R.piece read_chars
height_43 = refl

height_44 : height (read_chars One (codes "a[b:c]")) ≡ 3
unfolding reserved_marks delimiter operator numeral Q.escape Q.item Q.closes Q.body Q.quoted token_piece lexeme cut indented begin bracket step layout encode_utf8 code_of E.keyword_begins E.another E.argument E.attribute E.call E.slice_after E.item_or_slice E.trailer E.parenthesised E.list E.pair E.dict E.atom E.primary_parts E.primary E.power E.unary_level E.term E.sum E.compared E.negated_level E.conjunction E.disjunction E.expr_level E.exprs_level E.phrase S.primary_at S.another_simple S.raise S.return S.assertion S.delete S.global S.import S.update_of S.assignment_of S.update_or_assignment S.simple S.simples S.line S.block S.block_after S.arm S.choice S.while S.for S.caught S.handler S.handled S.finished S.try S.parameter S.definition S.define S.compound S.chunk S.program R.piece read_chars
height_44 = refl

height_45 : height (read_chars One (codes "a[:]")) ≡ 3
unfolding reserved_marks delimiter operator numeral Q.escape Q.item Q.closes Q.body Q.quoted token_piece lexeme cut indented begin bracket step layout encode_utf8 code_of E.keyword_begins E.another E.argument E.attribute E.call E.slice_after E.item_or_slice E.trailer E.parenthesised E.list E.pair E.dict E.atom E.primary_parts E.primary E.power E.unary_level E.term E.sum E.compared E.negated_level E.conjunction E.disjunction E.expr_level E.exprs_level E.phrase S.primary_at S.another_simple S.raise S.return S.assertion S.delete S.global S.import S.update_of S.assignment_of S.update_or_assignment S.simple S.simples S.line S.block S.block_after S.arm S.choice S.while S.for S.caught S.handler S.handled S.finished S.try S.parameter S.definition S.define S.compound S.chunk S.program R.piece read_chars
height_45 = refl

height_46 : height (read_chars One (codes "a[b:c:(d)]")) ≡ 4
unfolding reserved_marks delimiter operator numeral Q.escape Q.item Q.closes Q.body Q.quoted token_piece lexeme cut indented begin bracket step layout encode_utf8 code_of E.keyword_begins E.another E.argument E.attribute E.call E.slice_after E.item_or_slice E.trailer E.parenthesised E.list E.pair E.dict E.atom E.primary_parts E.primary E.power E.unary_level E.term E.sum E.compared E.negated_level E.conjunction E.disjunction E.expr_level E.exprs_level E.phrase S.primary_at S.another_simple S.raise S.return S.assertion S.delete S.global S.import S.update_of S.assignment_of S.update_or_assignment S.simple S.simples S.line S.block S.block_after S.arm S.choice S.while S.for S.caught S.handler S.handled S.finished S.try S.parameter S.definition S.define S.compound S.chunk S.program R.piece read_chars
height_46 = refl

height_47 : height (read_chars One (codes "a[b][c]")) ≡ 3
unfolding reserved_marks delimiter operator numeral Q.escape Q.item Q.closes Q.body Q.quoted token_piece lexeme cut indented begin bracket step layout encode_utf8 code_of E.keyword_begins E.another E.argument E.attribute E.call E.slice_after E.item_or_slice E.trailer E.parenthesised E.list E.pair E.dict E.atom E.primary_parts E.primary E.power E.unary_level E.term E.sum E.compared E.negated_level E.conjunction E.disjunction E.expr_level E.exprs_level E.phrase S.primary_at S.another_simple S.raise S.return S.assertion S.delete S.global S.import S.update_of S.assignment_of S.update_or_assignment S.simple S.simples S.line S.block S.block_after S.arm S.choice S.while S.for S.caught S.handler S.handled S.finished S.try S.parameter S.definition S.define S.compound S.chunk S.program R.piece read_chars
height_47 = refl

height_48 : height (read_chars One (codes "a[b, c]")) ≡ 4
unfolding reserved_marks delimiter operator numeral Q.escape Q.item Q.closes Q.body Q.quoted token_piece lexeme cut indented begin bracket step layout encode_utf8 code_of E.keyword_begins E.another E.argument E.attribute E.call E.slice_after E.item_or_slice E.trailer E.parenthesised E.list E.pair E.dict E.atom E.primary_parts E.primary E.power E.unary_level E.term E.sum E.compared E.negated_level E.conjunction E.disjunction E.expr_level E.exprs_level E.phrase S.primary_at S.another_simple S.raise S.return S.assertion S.delete S.global S.import S.update_of S.assignment_of S.update_or_assignment S.simple S.simples S.line S.block S.block_after S.arm S.choice S.while S.for S.caught S.handler S.handled S.finished S.try S.parameter S.definition S.define S.compound S.chunk S.program R.piece read_chars
height_48 = refl

height_49 : height (read_chars One (codes "pass")) ≡ 1
unfolding reserved_marks delimiter operator numeral Q.escape Q.item Q.closes Q.body Q.quoted token_piece lexeme cut indented begin bracket step layout encode_utf8 code_of E.keyword_begins E.another E.argument E.attribute E.call E.slice_after E.item_or_slice E.trailer E.parenthesised E.list E.pair E.dict E.atom E.primary_parts E.primary E.power E.unary_level E.term E.sum E.compared E.negated_level E.conjunction E.disjunction E.expr_level E.exprs_level E.phrase S.primary_at S.another_simple S.raise S.return S.assertion S.delete S.global S.import S.update_of S.assignment_of S.update_or_assignment S.simple S.simples S.line S.block S.block_after S.arm S.choice S.while S.for S.caught S.handler S.handled S.finished S.try S.parameter S.definition S.define S.compound S.chunk S.program R.piece read_chars
height_49 = refl

height_50 : height (read_chars One (codes "while a: break")) ≡ 2
unfolding reserved_marks delimiter operator numeral Q.escape Q.item Q.closes Q.body Q.quoted token_piece lexeme cut indented begin bracket step layout encode_utf8 code_of E.keyword_begins E.another E.argument E.attribute E.call E.slice_after E.item_or_slice E.trailer E.parenthesised E.list E.pair E.dict E.atom E.primary_parts E.primary E.power E.unary_level E.term E.sum E.compared E.negated_level E.conjunction E.disjunction E.expr_level E.exprs_level E.phrase S.primary_at S.another_simple S.raise S.return S.assertion S.delete S.global S.import S.update_of S.assignment_of S.update_or_assignment S.simple S.simples S.line S.block S.block_after S.arm S.choice S.while S.for S.caught S.handler S.handled S.finished S.try S.parameter S.definition S.define S.compound S.chunk S.program R.piece read_chars
height_50 = refl

height_51 : height (read_chars One (codes "while a: continue")) ≡ 2
unfolding reserved_marks delimiter operator numeral Q.escape Q.item Q.closes Q.body Q.quoted token_piece lexeme cut indented begin bracket step layout encode_utf8 code_of E.keyword_begins E.another E.argument E.attribute E.call E.slice_after E.item_or_slice E.trailer E.parenthesised E.list E.pair E.dict E.atom E.primary_parts E.primary E.power E.unary_level E.term E.sum E.compared E.negated_level E.conjunction E.disjunction E.expr_level E.exprs_level E.phrase S.primary_at S.another_simple S.raise S.return S.assertion S.delete S.global S.import S.update_of S.assignment_of S.update_or_assignment S.simple S.simples S.line S.block S.block_after S.arm S.choice S.while S.for S.caught S.handler S.handled S.finished S.try S.parameter S.definition S.define S.compound S.chunk S.program R.piece read_chars
height_51 = refl

height_52 : height (read_chars One (codes "a = b")) ≡ 2
unfolding reserved_marks delimiter operator numeral Q.escape Q.item Q.closes Q.body Q.quoted token_piece lexeme cut indented begin bracket step layout encode_utf8 code_of E.keyword_begins E.another E.argument E.attribute E.call E.slice_after E.item_or_slice E.trailer E.parenthesised E.list E.pair E.dict E.atom E.primary_parts E.primary E.power E.unary_level E.term E.sum E.compared E.negated_level E.conjunction E.disjunction E.expr_level E.exprs_level E.phrase S.primary_at S.another_simple S.raise S.return S.assertion S.delete S.global S.import S.update_of S.assignment_of S.update_or_assignment S.simple S.simples S.line S.block S.block_after S.arm S.choice S.while S.for S.caught S.handler S.handled S.finished S.try S.parameter S.definition S.define S.compound S.chunk S.program R.piece read_chars
height_52 = refl

height_53 : height (read_chars One (codes "a = b = c")) ≡ 2
unfolding reserved_marks delimiter operator numeral Q.escape Q.item Q.closes Q.body Q.quoted token_piece lexeme cut indented begin bracket step layout encode_utf8 code_of E.keyword_begins E.another E.argument E.attribute E.call E.slice_after E.item_or_slice E.trailer E.parenthesised E.list E.pair E.dict E.atom E.primary_parts E.primary E.power E.unary_level E.term E.sum E.compared E.negated_level E.conjunction E.disjunction E.expr_level E.exprs_level E.phrase S.primary_at S.another_simple S.raise S.return S.assertion S.delete S.global S.import S.update_of S.assignment_of S.update_or_assignment S.simple S.simples S.line S.block S.block_after S.arm S.choice S.while S.for S.caught S.handler S.handled S.finished S.try S.parameter S.definition S.define S.compound S.chunk S.program R.piece read_chars
height_53 = refl

height_54 : height (read_chars One (codes "a = [b]")) ≡ 3
unfolding reserved_marks delimiter operator numeral Q.escape Q.item Q.closes Q.body Q.quoted token_piece lexeme cut indented begin bracket step layout encode_utf8 code_of E.keyword_begins E.another E.argument E.attribute E.call E.slice_after E.item_or_slice E.trailer E.parenthesised E.list E.pair E.dict E.atom E.primary_parts E.primary E.power E.unary_level E.term E.sum E.compared E.negated_level E.conjunction E.disjunction E.expr_level E.exprs_level E.phrase S.primary_at S.another_simple S.raise S.return S.assertion S.delete S.global S.import S.update_of S.assignment_of S.update_or_assignment S.simple S.simples S.line S.block S.block_after S.arm S.choice S.while S.for S.caught S.handler S.handled S.finished S.try S.parameter S.definition S.define S.compound S.chunk S.program R.piece read_chars
height_54 = refl

height_55 : height (read_chars One (codes "a.b = c")) ≡ 3
unfolding reserved_marks delimiter operator numeral Q.escape Q.item Q.closes Q.body Q.quoted token_piece lexeme cut indented begin bracket step layout encode_utf8 code_of E.keyword_begins E.another E.argument E.attribute E.call E.slice_after E.item_or_slice E.trailer E.parenthesised E.list E.pair E.dict E.atom E.primary_parts E.primary E.power E.unary_level E.term E.sum E.compared E.negated_level E.conjunction E.disjunction E.expr_level E.exprs_level E.phrase S.primary_at S.another_simple S.raise S.return S.assertion S.delete S.global S.import S.update_of S.assignment_of S.update_or_assignment S.simple S.simples S.line S.block S.block_after S.arm S.choice S.while S.for S.caught S.handler S.handled S.finished S.try S.parameter S.definition S.define S.compound S.chunk S.program R.piece read_chars
height_55 = refl

height_56 : height (read_chars One (codes "a += b")) ≡ 2
unfolding reserved_marks delimiter operator numeral Q.escape Q.item Q.closes Q.body Q.quoted token_piece lexeme cut indented begin bracket step layout encode_utf8 code_of E.keyword_begins E.another E.argument E.attribute E.call E.slice_after E.item_or_slice E.trailer E.parenthesised E.list E.pair E.dict E.atom E.primary_parts E.primary E.power E.unary_level E.term E.sum E.compared E.negated_level E.conjunction E.disjunction E.expr_level E.exprs_level E.phrase S.primary_at S.another_simple S.raise S.return S.assertion S.delete S.global S.import S.update_of S.assignment_of S.update_or_assignment S.simple S.simples S.line S.block S.block_after S.arm S.choice S.while S.for S.caught S.handler S.handled S.finished S.try S.parameter S.definition S.define S.compound S.chunk S.program R.piece read_chars
height_56 = refl

height_57 : height (read_chars One (codes "a += (b)")) ≡ 3
unfolding reserved_marks delimiter operator numeral Q.escape Q.item Q.closes Q.body Q.quoted token_piece lexeme cut indented begin bracket step layout encode_utf8 code_of E.keyword_begins E.another E.argument E.attribute E.call E.slice_after E.item_or_slice E.trailer E.parenthesised E.list E.pair E.dict E.atom E.primary_parts E.primary E.power E.unary_level E.term E.sum E.compared E.negated_level E.conjunction E.disjunction E.expr_level E.exprs_level E.phrase S.primary_at S.another_simple S.raise S.return S.assertion S.delete S.global S.import S.update_of S.assignment_of S.update_or_assignment S.simple S.simples S.line S.block S.block_after S.arm S.choice S.while S.for S.caught S.handler S.handled S.finished S.try S.parameter S.definition S.define S.compound S.chunk S.program R.piece read_chars
height_57 = refl

height_58 : height (read_chars One (codes "del a")) ≡ 2
unfolding reserved_marks delimiter operator numeral Q.escape Q.item Q.closes Q.body Q.quoted token_piece lexeme cut indented begin bracket step layout encode_utf8 code_of E.keyword_begins E.another E.argument E.attribute E.call E.slice_after E.item_or_slice E.trailer E.parenthesised E.list E.pair E.dict E.atom E.primary_parts E.primary E.power E.unary_level E.term E.sum E.compared E.negated_level E.conjunction E.disjunction E.expr_level E.exprs_level E.phrase S.primary_at S.another_simple S.raise S.return S.assertion S.delete S.global S.import S.update_of S.assignment_of S.update_or_assignment S.simple S.simples S.line S.block S.block_after S.arm S.choice S.while S.for S.caught S.handler S.handled S.finished S.try S.parameter S.definition S.define S.compound S.chunk S.program R.piece read_chars
height_58 = refl

height_59 : height (read_chars One (codes "del a, b.c")) ≡ 3
unfolding reserved_marks delimiter operator numeral Q.escape Q.item Q.closes Q.body Q.quoted token_piece lexeme cut indented begin bracket step layout encode_utf8 code_of E.keyword_begins E.another E.argument E.attribute E.call E.slice_after E.item_or_slice E.trailer E.parenthesised E.list E.pair E.dict E.atom E.primary_parts E.primary E.power E.unary_level E.term E.sum E.compared E.negated_level E.conjunction E.disjunction E.expr_level E.exprs_level E.phrase S.primary_at S.another_simple S.raise S.return S.assertion S.delete S.global S.import S.update_of S.assignment_of S.update_or_assignment S.simple S.simples S.line S.block S.block_after S.arm S.choice S.while S.for S.caught S.handler S.handled S.finished S.try S.parameter S.definition S.define S.compound S.chunk S.program R.piece read_chars
height_59 = refl

height_60 : height (read_chars One (codes "assert a")) ≡ 2
unfolding reserved_marks delimiter operator numeral Q.escape Q.item Q.closes Q.body Q.quoted token_piece lexeme cut indented begin bracket step layout encode_utf8 code_of E.keyword_begins E.another E.argument E.attribute E.call E.slice_after E.item_or_slice E.trailer E.parenthesised E.list E.pair E.dict E.atom E.primary_parts E.primary E.power E.unary_level E.term E.sum E.compared E.negated_level E.conjunction E.disjunction E.expr_level E.exprs_level E.phrase S.primary_at S.another_simple S.raise S.return S.assertion S.delete S.global S.import S.update_of S.assignment_of S.update_or_assignment S.simple S.simples S.line S.block S.block_after S.arm S.choice S.while S.for S.caught S.handler S.handled S.finished S.try S.parameter S.definition S.define S.compound S.chunk S.program R.piece read_chars
height_60 = refl

height_61 : height (read_chars One (codes "assert a, (b)")) ≡ 3
unfolding reserved_marks delimiter operator numeral Q.escape Q.item Q.closes Q.body Q.quoted token_piece lexeme cut indented begin bracket step layout encode_utf8 code_of E.keyword_begins E.another E.argument E.attribute E.call E.slice_after E.item_or_slice E.trailer E.parenthesised E.list E.pair E.dict E.atom E.primary_parts E.primary E.power E.unary_level E.term E.sum E.compared E.negated_level E.conjunction E.disjunction E.expr_level E.exprs_level E.phrase S.primary_at S.another_simple S.raise S.return S.assertion S.delete S.global S.import S.update_of S.assignment_of S.update_or_assignment S.simple S.simples S.line S.block S.block_after S.arm S.choice S.while S.for S.caught S.handler S.handled S.finished S.try S.parameter S.definition S.define S.compound S.chunk S.program R.piece read_chars
height_61 = refl

height_62 : height (read_chars One (codes "from types import SimpleNamespace")) ≡ 1
unfolding reserved_marks delimiter operator numeral Q.escape Q.item Q.closes Q.body Q.quoted token_piece lexeme cut indented begin bracket step layout encode_utf8 code_of E.keyword_begins E.another E.argument E.attribute E.call E.slice_after E.item_or_slice E.trailer E.parenthesised E.list E.pair E.dict E.atom E.primary_parts E.primary E.power E.unary_level E.term E.sum E.compared E.negated_level E.conjunction E.disjunction E.expr_level E.exprs_level E.phrase S.primary_at S.another_simple S.raise S.return S.assertion S.delete S.global S.import S.update_of S.assignment_of S.update_or_assignment S.simple S.simples S.line S.block S.block_after S.arm S.choice S.while S.for S.caught S.handler S.handled S.finished S.try S.parameter S.definition S.define S.compound S.chunk S.program R.piece read_chars
height_62 = refl

height_63 : height (read_chars One (codes "def f(): pass")) ≡ 2
unfolding reserved_marks delimiter operator numeral Q.escape Q.item Q.closes Q.body Q.quoted token_piece lexeme cut indented begin bracket step layout encode_utf8 code_of E.keyword_begins E.another E.argument E.attribute E.call E.slice_after E.item_or_slice E.trailer E.parenthesised E.list E.pair E.dict E.atom E.primary_parts E.primary E.power E.unary_level E.term E.sum E.compared E.negated_level E.conjunction E.disjunction E.expr_level E.exprs_level E.phrase S.primary_at S.another_simple S.raise S.return S.assertion S.delete S.global S.import S.update_of S.assignment_of S.update_or_assignment S.simple S.simples S.line S.block S.block_after S.arm S.choice S.while S.for S.caught S.handler S.handled S.finished S.try S.parameter S.definition S.define S.compound S.chunk S.program R.piece read_chars
height_63 = refl

height_64 : height (read_chars One (codes "def f(): return")) ≡ 2
unfolding reserved_marks delimiter operator numeral Q.escape Q.item Q.closes Q.body Q.quoted token_piece lexeme cut indented begin bracket step layout encode_utf8 code_of E.keyword_begins E.another E.argument E.attribute E.call E.slice_after E.item_or_slice E.trailer E.parenthesised E.list E.pair E.dict E.atom E.primary_parts E.primary E.power E.unary_level E.term E.sum E.compared E.negated_level E.conjunction E.disjunction E.expr_level E.exprs_level E.phrase S.primary_at S.another_simple S.raise S.return S.assertion S.delete S.global S.import S.update_of S.assignment_of S.update_or_assignment S.simple S.simples S.line S.block S.block_after S.arm S.choice S.while S.for S.caught S.handler S.handled S.finished S.try S.parameter S.definition S.define S.compound S.chunk S.program R.piece read_chars
height_64 = refl

height_65 : height (read_chars One (codes "def f(): return a")) ≡ 3
unfolding reserved_marks delimiter operator numeral Q.escape Q.item Q.closes Q.body Q.quoted token_piece lexeme cut indented begin bracket step layout encode_utf8 code_of E.keyword_begins E.another E.argument E.attribute E.call E.slice_after E.item_or_slice E.trailer E.parenthesised E.list E.pair E.dict E.atom E.primary_parts E.primary E.power E.unary_level E.term E.sum E.compared E.negated_level E.conjunction E.disjunction E.expr_level E.exprs_level E.phrase S.primary_at S.another_simple S.raise S.return S.assertion S.delete S.global S.import S.update_of S.assignment_of S.update_or_assignment S.simple S.simples S.line S.block S.block_after S.arm S.choice S.while S.for S.caught S.handler S.handled S.finished S.try S.parameter S.definition S.define S.compound S.chunk S.program R.piece read_chars
height_65 = refl

height_66 : height (read_chars One (codes "def f(): global a")) ≡ 2
unfolding reserved_marks delimiter operator numeral Q.escape Q.item Q.closes Q.body Q.quoted token_piece lexeme cut indented begin bracket step layout encode_utf8 code_of E.keyword_begins E.another E.argument E.attribute E.call E.slice_after E.item_or_slice E.trailer E.parenthesised E.list E.pair E.dict E.atom E.primary_parts E.primary E.power E.unary_level E.term E.sum E.compared E.negated_level E.conjunction E.disjunction E.expr_level E.exprs_level E.phrase S.primary_at S.another_simple S.raise S.return S.assertion S.delete S.global S.import S.update_of S.assignment_of S.update_or_assignment S.simple S.simples S.line S.block S.block_after S.arm S.choice S.while S.for S.caught S.handler S.handled S.finished S.try S.parameter S.definition S.define S.compound S.chunk S.program R.piece read_chars
height_66 = refl

height_67 : height (read_chars One (codes "def f(a=(b)): pass")) ≡ 3
unfolding reserved_marks delimiter operator numeral Q.escape Q.item Q.closes Q.body Q.quoted token_piece lexeme cut indented begin bracket step layout encode_utf8 code_of E.keyword_begins E.another E.argument E.attribute E.call E.slice_after E.item_or_slice E.trailer E.parenthesised E.list E.pair E.dict E.atom E.primary_parts E.primary E.power E.unary_level E.term E.sum E.compared E.negated_level E.conjunction E.disjunction E.expr_level E.exprs_level E.phrase S.primary_at S.another_simple S.raise S.return S.assertion S.delete S.global S.import S.update_of S.assignment_of S.update_or_assignment S.simple S.simples S.line S.block S.block_after S.arm S.choice S.while S.for S.caught S.handler S.handled S.finished S.try S.parameter S.definition S.define S.compound S.chunk S.program R.piece read_chars
height_67 = refl

height_68 : height (read_chars One (codes "def f(a, b=[c]): a")) ≡ 3
unfolding reserved_marks delimiter operator numeral Q.escape Q.item Q.closes Q.body Q.quoted token_piece lexeme cut indented begin bracket step layout encode_utf8 code_of E.keyword_begins E.another E.argument E.attribute E.call E.slice_after E.item_or_slice E.trailer E.parenthesised E.list E.pair E.dict E.atom E.primary_parts E.primary E.power E.unary_level E.term E.sum E.compared E.negated_level E.conjunction E.disjunction E.expr_level E.exprs_level E.phrase S.primary_at S.another_simple S.raise S.return S.assertion S.delete S.global S.import S.update_of S.assignment_of S.update_or_assignment S.simple S.simples S.line S.block S.block_after S.arm S.choice S.while S.for S.caught S.handler S.handled S.finished S.try S.parameter S.definition S.define S.compound S.chunk S.program R.piece read_chars
height_68 = refl

height_69 : height (read_chars One (codes "if a: b")) ≡ 3
unfolding reserved_marks delimiter operator numeral Q.escape Q.item Q.closes Q.body Q.quoted token_piece lexeme cut indented begin bracket step layout encode_utf8 code_of E.keyword_begins E.another E.argument E.attribute E.call E.slice_after E.item_or_slice E.trailer E.parenthesised E.list E.pair E.dict E.atom E.primary_parts E.primary E.power E.unary_level E.term E.sum E.compared E.negated_level E.conjunction E.disjunction E.expr_level E.exprs_level E.phrase S.primary_at S.another_simple S.raise S.return S.assertion S.delete S.global S.import S.update_of S.assignment_of S.update_or_assignment S.simple S.simples S.line S.block S.block_after S.arm S.choice S.while S.for S.caught S.handler S.handled S.finished S.try S.parameter S.definition S.define S.compound S.chunk S.program R.piece read_chars
height_69 = refl

height_70 : height (read_chars One (codes "if a: b\nelif (c): d")) ≡ 3
unfolding reserved_marks delimiter operator numeral Q.escape Q.item Q.closes Q.body Q.quoted token_piece lexeme cut indented begin bracket step layout encode_utf8 code_of E.keyword_begins E.another E.argument E.attribute E.call E.slice_after E.item_or_slice E.trailer E.parenthesised E.list E.pair E.dict E.atom E.primary_parts E.primary E.power E.unary_level E.term E.sum E.compared E.negated_level E.conjunction E.disjunction E.expr_level E.exprs_level E.phrase S.primary_at S.another_simple S.raise S.return S.assertion S.delete S.global S.import S.update_of S.assignment_of S.update_or_assignment S.simple S.simples S.line S.block S.block_after S.arm S.choice S.while S.for S.caught S.handler S.handled S.finished S.try S.parameter S.definition S.define S.compound S.chunk S.program R.piece read_chars
height_70 = refl

height_71 : height (read_chars One (codes "if a: b\nelse: (c)")) ≡ 4
unfolding reserved_marks delimiter operator numeral Q.escape Q.item Q.closes Q.body Q.quoted token_piece lexeme cut indented begin bracket step layout encode_utf8 code_of E.keyword_begins E.another E.argument E.attribute E.call E.slice_after E.item_or_slice E.trailer E.parenthesised E.list E.pair E.dict E.atom E.primary_parts E.primary E.power E.unary_level E.term E.sum E.compared E.negated_level E.conjunction E.disjunction E.expr_level E.exprs_level E.phrase S.primary_at S.another_simple S.raise S.return S.assertion S.delete S.global S.import S.update_of S.assignment_of S.update_or_assignment S.simple S.simples S.line S.block S.block_after S.arm S.choice S.while S.for S.caught S.handler S.handled S.finished S.try S.parameter S.definition S.define S.compound S.chunk S.program R.piece read_chars
height_71 = refl

height_72 : height (read_chars One (codes "if a:\n  if b:\n    c")) ≡ 4
unfolding reserved_marks delimiter operator numeral Q.escape Q.item Q.closes Q.body Q.quoted token_piece lexeme cut indented begin bracket step layout encode_utf8 code_of E.keyword_begins E.another E.argument E.attribute E.call E.slice_after E.item_or_slice E.trailer E.parenthesised E.list E.pair E.dict E.atom E.primary_parts E.primary E.power E.unary_level E.term E.sum E.compared E.negated_level E.conjunction E.disjunction E.expr_level E.exprs_level E.phrase S.primary_at S.another_simple S.raise S.return S.assertion S.delete S.global S.import S.update_of S.assignment_of S.update_or_assignment S.simple S.simples S.line S.block S.block_after S.arm S.choice S.while S.for S.caught S.handler S.handled S.finished S.try S.parameter S.definition S.define S.compound S.chunk S.program R.piece read_chars
height_72 = refl

height_73 : height (read_chars One (codes "if a:\n  b\n  (c)\n  d")) ≡ 4
unfolding reserved_marks delimiter operator numeral Q.escape Q.item Q.closes Q.body Q.quoted token_piece lexeme cut indented begin bracket step layout encode_utf8 code_of E.keyword_begins E.another E.argument E.attribute E.call E.slice_after E.item_or_slice E.trailer E.parenthesised E.list E.pair E.dict E.atom E.primary_parts E.primary E.power E.unary_level E.term E.sum E.compared E.negated_level E.conjunction E.disjunction E.expr_level E.exprs_level E.phrase S.primary_at S.another_simple S.raise S.return S.assertion S.delete S.global S.import S.update_of S.assignment_of S.update_or_assignment S.simple S.simples S.line S.block S.block_after S.arm S.choice S.while S.for S.caught S.handler S.handled S.finished S.try S.parameter S.definition S.define S.compound S.chunk S.program R.piece read_chars
height_73 = refl

height_74 : height (read_chars One (codes "while (a): b")) ≡ 3
unfolding reserved_marks delimiter operator numeral Q.escape Q.item Q.closes Q.body Q.quoted token_piece lexeme cut indented begin bracket step layout encode_utf8 code_of E.keyword_begins E.another E.argument E.attribute E.call E.slice_after E.item_or_slice E.trailer E.parenthesised E.list E.pair E.dict E.atom E.primary_parts E.primary E.power E.unary_level E.term E.sum E.compared E.negated_level E.conjunction E.disjunction E.expr_level E.exprs_level E.phrase S.primary_at S.another_simple S.raise S.return S.assertion S.delete S.global S.import S.update_of S.assignment_of S.update_or_assignment S.simple S.simples S.line S.block S.block_after S.arm S.choice S.while S.for S.caught S.handler S.handled S.finished S.try S.parameter S.definition S.define S.compound S.chunk S.program R.piece read_chars
height_74 = refl

height_75 : height (read_chars One (codes "for a in b: c")) ≡ 3
unfolding reserved_marks delimiter operator numeral Q.escape Q.item Q.closes Q.body Q.quoted token_piece lexeme cut indented begin bracket step layout encode_utf8 code_of E.keyword_begins E.another E.argument E.attribute E.call E.slice_after E.item_or_slice E.trailer E.parenthesised E.list E.pair E.dict E.atom E.primary_parts E.primary E.power E.unary_level E.term E.sum E.compared E.negated_level E.conjunction E.disjunction E.expr_level E.exprs_level E.phrase S.primary_at S.another_simple S.raise S.return S.assertion S.delete S.global S.import S.update_of S.assignment_of S.update_or_assignment S.simple S.simples S.line S.block S.block_after S.arm S.choice S.while S.for S.caught S.handler S.handled S.finished S.try S.parameter S.definition S.define S.compound S.chunk S.program R.piece read_chars
height_75 = refl

height_76 : height (read_chars One (codes "for (a, b) in c: d")) ≡ 4
unfolding reserved_marks delimiter operator numeral Q.escape Q.item Q.closes Q.body Q.quoted token_piece lexeme cut indented begin bracket step layout encode_utf8 code_of E.keyword_begins E.another E.argument E.attribute E.call E.slice_after E.item_or_slice E.trailer E.parenthesised E.list E.pair E.dict E.atom E.primary_parts E.primary E.power E.unary_level E.term E.sum E.compared E.negated_level E.conjunction E.disjunction E.expr_level E.exprs_level E.phrase S.primary_at S.another_simple S.raise S.return S.assertion S.delete S.global S.import S.update_of S.assignment_of S.update_or_assignment S.simple S.simples S.line S.block S.block_after S.arm S.choice S.while S.for S.caught S.handler S.handled S.finished S.try S.parameter S.definition S.define S.compound S.chunk S.program R.piece read_chars
height_76 = refl

height_77 : height (read_chars One (codes "for a in (b): c")) ≡ 3
unfolding reserved_marks delimiter operator numeral Q.escape Q.item Q.closes Q.body Q.quoted token_piece lexeme cut indented begin bracket step layout encode_utf8 code_of E.keyword_begins E.another E.argument E.attribute E.call E.slice_after E.item_or_slice E.trailer E.parenthesised E.list E.pair E.dict E.atom E.primary_parts E.primary E.power E.unary_level E.term E.sum E.compared E.negated_level E.conjunction E.disjunction E.expr_level E.exprs_level E.phrase S.primary_at S.another_simple S.raise S.return S.assertion S.delete S.global S.import S.update_of S.assignment_of S.update_or_assignment S.simple S.simples S.line S.block S.block_after S.arm S.choice S.while S.for S.caught S.handler S.handled S.finished S.try S.parameter S.definition S.define S.compound S.chunk S.program R.piece read_chars
height_77 = refl

height_78 : height (read_chars One (codes "try: a\nexcept: b")) ≡ 3
unfolding reserved_marks delimiter operator numeral Q.escape Q.item Q.closes Q.body Q.quoted token_piece lexeme cut indented begin bracket step layout encode_utf8 code_of E.keyword_begins E.another E.argument E.attribute E.call E.slice_after E.item_or_slice E.trailer E.parenthesised E.list E.pair E.dict E.atom E.primary_parts E.primary E.power E.unary_level E.term E.sum E.compared E.negated_level E.conjunction E.disjunction E.expr_level E.exprs_level E.phrase S.primary_at S.another_simple S.raise S.return S.assertion S.delete S.global S.import S.update_of S.assignment_of S.update_or_assignment S.simple S.simples S.line S.block S.block_after S.arm S.choice S.while S.for S.caught S.handler S.handled S.finished S.try S.parameter S.definition S.define S.compound S.chunk S.program R.piece read_chars
height_78 = refl

height_79 : height (read_chars One (codes "try: a\nexcept (b): c")) ≡ 3
unfolding reserved_marks delimiter operator numeral Q.escape Q.item Q.closes Q.body Q.quoted token_piece lexeme cut indented begin bracket step layout encode_utf8 code_of E.keyword_begins E.another E.argument E.attribute E.call E.slice_after E.item_or_slice E.trailer E.parenthesised E.list E.pair E.dict E.atom E.primary_parts E.primary E.power E.unary_level E.term E.sum E.compared E.negated_level E.conjunction E.disjunction E.expr_level E.exprs_level E.phrase S.primary_at S.another_simple S.raise S.return S.assertion S.delete S.global S.import S.update_of S.assignment_of S.update_or_assignment S.simple S.simples S.line S.block S.block_after S.arm S.choice S.while S.for S.caught S.handler S.handled S.finished S.try S.parameter S.definition S.define S.compound S.chunk S.program R.piece read_chars
height_79 = refl

height_80 : height (read_chars One (codes "try: a\nexcept b as c: raise")) ≡ 3
unfolding reserved_marks delimiter operator numeral Q.escape Q.item Q.closes Q.body Q.quoted token_piece lexeme cut indented begin bracket step layout encode_utf8 code_of E.keyword_begins E.another E.argument E.attribute E.call E.slice_after E.item_or_slice E.trailer E.parenthesised E.list E.pair E.dict E.atom E.primary_parts E.primary E.power E.unary_level E.term E.sum E.compared E.negated_level E.conjunction E.disjunction E.expr_level E.exprs_level E.phrase S.primary_at S.another_simple S.raise S.return S.assertion S.delete S.global S.import S.update_of S.assignment_of S.update_or_assignment S.simple S.simples S.line S.block S.block_after S.arm S.choice S.while S.for S.caught S.handler S.handled S.finished S.try S.parameter S.definition S.define S.compound S.chunk S.program R.piece read_chars
height_80 = refl

height_81 : height (read_chars One (codes "try: a\nfinally: (b)")) ≡ 4
unfolding reserved_marks delimiter operator numeral Q.escape Q.item Q.closes Q.body Q.quoted token_piece lexeme cut indented begin bracket step layout encode_utf8 code_of E.keyword_begins E.another E.argument E.attribute E.call E.slice_after E.item_or_slice E.trailer E.parenthesised E.list E.pair E.dict E.atom E.primary_parts E.primary E.power E.unary_level E.term E.sum E.compared E.negated_level E.conjunction E.disjunction E.expr_level E.exprs_level E.phrase S.primary_at S.another_simple S.raise S.return S.assertion S.delete S.global S.import S.update_of S.assignment_of S.update_or_assignment S.simple S.simples S.line S.block S.block_after S.arm S.choice S.while S.for S.caught S.handler S.handled S.finished S.try S.parameter S.definition S.define S.compound S.chunk S.program R.piece read_chars
height_81 = refl

height_82 : height (read_chars One (codes "try: a\nexcept b: c\nelse: ((d))\nfinally: e")) ≡ 5
unfolding reserved_marks delimiter operator numeral Q.escape Q.item Q.closes Q.body Q.quoted token_piece lexeme cut indented begin bracket step layout encode_utf8 code_of E.keyword_begins E.another E.argument E.attribute E.call E.slice_after E.item_or_slice E.trailer E.parenthesised E.list E.pair E.dict E.atom E.primary_parts E.primary E.power E.unary_level E.term E.sum E.compared E.negated_level E.conjunction E.disjunction E.expr_level E.exprs_level E.phrase S.primary_at S.another_simple S.raise S.return S.assertion S.delete S.global S.import S.update_of S.assignment_of S.update_or_assignment S.simple S.simples S.line S.block S.block_after S.arm S.choice S.while S.for S.caught S.handler S.handled S.finished S.try S.parameter S.definition S.define S.compound S.chunk S.program R.piece read_chars
height_82 = refl

height_83 : height (read_chars One (codes "a\n(b)\nc")) ≡ 3
unfolding reserved_marks delimiter operator numeral Q.escape Q.item Q.closes Q.body Q.quoted token_piece lexeme cut indented begin bracket step layout encode_utf8 code_of E.keyword_begins E.another E.argument E.attribute E.call E.slice_after E.item_or_slice E.trailer E.parenthesised E.list E.pair E.dict E.atom E.primary_parts E.primary E.power E.unary_level E.term E.sum E.compared E.negated_level E.conjunction E.disjunction E.expr_level E.exprs_level E.phrase S.primary_at S.another_simple S.raise S.return S.assertion S.delete S.global S.import S.update_of S.assignment_of S.update_or_assignment S.simple S.simples S.line S.block S.block_after S.arm S.choice S.while S.for S.caught S.handler S.handled S.finished S.try S.parameter S.definition S.define S.compound S.chunk S.program R.piece read_chars
height_83 = refl

height_84 : height (read_chars One (codes "if a:\n  while b:\n    for c in d:\n      (e)")) ≡ 6
unfolding reserved_marks delimiter operator numeral Q.escape Q.item Q.closes Q.body Q.quoted token_piece lexeme cut indented begin bracket step layout encode_utf8 code_of E.keyword_begins E.another E.argument E.attribute E.call E.slice_after E.item_or_slice E.trailer E.parenthesised E.list E.pair E.dict E.atom E.primary_parts E.primary E.power E.unary_level E.term E.sum E.compared E.negated_level E.conjunction E.disjunction E.expr_level E.exprs_level E.phrase S.primary_at S.another_simple S.raise S.return S.assertion S.delete S.global S.import S.update_of S.assignment_of S.update_or_assignment S.simple S.simples S.line S.block S.block_after S.arm S.choice S.while S.for S.caught S.handler S.handled S.finished S.try S.parameter S.definition S.define S.compound S.chunk S.program R.piece read_chars
height_84 = refl

height_85 : height (read_chars One (codes "raise_ = a; b; c")) ≡ 2
unfolding reserved_marks delimiter operator numeral Q.escape Q.item Q.closes Q.body Q.quoted token_piece lexeme cut indented begin bracket step layout encode_utf8 code_of E.keyword_begins E.another E.argument E.attribute E.call E.slice_after E.item_or_slice E.trailer E.parenthesised E.list E.pair E.dict E.atom E.primary_parts E.primary E.power E.unary_level E.term E.sum E.compared E.negated_level E.conjunction E.disjunction E.expr_level E.exprs_level E.phrase S.primary_at S.another_simple S.raise S.return S.assertion S.delete S.global S.import S.update_of S.assignment_of S.update_or_assignment S.simple S.simples S.line S.block S.block_after S.arm S.choice S.while S.for S.caught S.handler S.handled S.finished S.try S.parameter S.definition S.define S.compound S.chunk S.program R.piece read_chars
height_85 = refl
