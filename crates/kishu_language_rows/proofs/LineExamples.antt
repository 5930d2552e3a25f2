-- On which line some texts of several pieces have a fault: computed on the definition. Made by tools/rows/tree_rows.py.
use Rattle.std.proofs.Common.{◌≡◌, ◌∷◌, [], refl}
use Rattle.std.specs.Prelude.{codes, Err}
use Rattle.std.specs.Char.{encode_utf8}
use Rattle.kishu_language.specs.declared.profile.Profile.TheVariants.{One}
use Rattle.kishu_language.specs.tokens.Marks.{reserved_marks, delimiter, operator}
use Rattle.kishu_language.specs.tokens.Numerals.{numeral}
use Rattle.kishu_language.specs.tokens.Quoted as Q
use Rattle.kishu_language.specs.tokens.Lexemes.{token_piece, lexeme}
use Rattle.kishu_language.specs.tokens.Layout.{cut, indented, begin, bracket, step, layout}
use Rattle.kishu_language.specs.trees.Code.{code_of}
use Rattle.kishu_language.specs.reading.ReadExpressions as E
use Rattle.kishu_language.specs.reading.ReadStatements as S
use Rattle.kishu_language.specs.reading.ReadText as R
use Rattle.kishu_language.specs.reading.ReadText.{read_chars}

line_1 : read_chars One (codes "x\ny = = 1\n") ≡ Err 2
unfolding reserved_marks delimiter operator numeral Q.escape Q.item Q.closes Q.body Q.quoted token_piece lexeme cut indented begin bracket step layout encode_utf8 code_of E.keyword_begins E.another E.argument E.attribute E.call E.slice_after E.item_or_slice E.trailer E.parenthesised E.list E.pair E.dict E.atom E.primary_parts E.primary E.power E.unary_level E.term E.sum E.compared E.negated_level E.conjunction E.disjunction E.expr_level E.exprs_level E.phrase S.primary_at S.another_simple S.raise S.return S.assertion S.delete S.global S.import S.update_of S.assignment_of S.update_or_assignment S.simple S.simples S.line S.block S.block_after S.arm S.choice S.while S.for S.caught S.handler S.handled S.finished S.try S.parameter S.definition S.define S.compound S.chunk S.program R.piece read_chars
line_1 = refl

line_2 : read_chars One (codes "x\n\n\ny = = 1\n") ≡ Err 4
unfolding reserved_marks delimiter operator numeral Q.escape Q.item Q.closes Q.body Q.quoted token_piece lexeme cut indented begin bracket step layout encode_utf8 code_of E.keyword_begins E.another E.argument E.attribute E.call E.slice_after E.item_or_slice E.trailer E.parenthesised E.list E.pair E.dict E.atom E.primary_parts E.primary E.power E.unary_level E.term E.sum E.compared E.negated_level E.conjunction E.disjunction E.expr_level E.exprs_level E.phrase S.primary_at S.another_simple S.raise S.return S.assertion S.delete S.global S.import S.update_of S.assignment_of S.update_or_assignment S.simple S.simples S.line S.block S.block_after S.arm S.choice S.while S.for S.caught S.handler S.handled S.finished S.try S.parameter S.definition S.define S.compound S.chunk S.program R.piece read_chars
line_2 = refl

line_3 : read_chars One (codes "# c\n\nx = = 1\n") ≡ Err 3
unfolding reserved_marks delimiter operator numeral Q.escape Q.item Q.closes Q.body Q.quoted token_piece lexeme cut indented begin bracket step layout encode_utf8 code_of E.keyword_begins E.another E.argument E.attribute E.call E.slice_after E.item_or_slice E.trailer E.parenthesised E.list E.pair E.dict E.atom E.primary_parts E.primary E.power E.unary_level E.term E.sum E.compared E.negated_level E.conjunction E.disjunction E.expr_level E.exprs_level E.phrase S.primary_at S.another_simple S.raise S.return S.assertion S.delete S.global S.import S.update_of S.assignment_of S.update_or_assignment S.simple S.simples S.line S.block S.block_after S.arm S.choice S.while S.for S.caught S.handler S.handled S.finished S.try S.parameter S.definition S.define S.compound S.chunk S.program R.piece read_chars
line_3 = refl

line_4 : read_chars One (codes "if a:\n  b\nc = = d\n") ≡ Err 3
unfolding reserved_marks delimiter operator numeral Q.escape Q.item Q.closes Q.body Q.quoted token_piece lexeme cut indented begin bracket step layout encode_utf8 code_of E.keyword_begins E.another E.argument E.attribute E.call E.slice_after E.item_or_slice E.trailer E.parenthesised E.list E.pair E.dict E.atom E.primary_parts E.primary E.power E.unary_level E.term E.sum E.compared E.negated_level E.conjunction E.disjunction E.expr_level E.exprs_level E.phrase S.primary_at S.another_simple S.raise S.return S.assertion S.delete S.global S.import S.update_of S.assignment_of S.update_or_assignment S.simple S.simples S.line S.block S.block_after S.arm S.choice S.while S.for S.caught S.handler S.handled S.finished S.try S.parameter S.definition S.define S.compound S.chunk S.program R.piece read_chars
line_4 = refl

line_5 : read_chars One (codes "if a:\n  b\n\n  c = = d\ne\n") ≡ Err 1
unfolding reserved_marks delimiter operator numeral Q.escape Q.item Q.closes Q.body Q.quoted token_piece lexeme cut indented begin bracket step layout encode_utf8 code_of E.keyword_begins E.another E.argument E.attribute E.call E.slice_after E.item_or_slice E.trailer E.parenthesised E.list E.pair E.dict E.atom E.primary_parts E.primary E.power E.unary_level E.term E.sum E.compared E.negated_level E.conjunction E.disjunction E.expr_level E.exprs_level E.phrase S.primary_at S.another_simple S.raise S.return S.assertion S.delete S.global S.import S.update_of S.assignment_of S.update_or_assignment S.simple S.simples S.line S.block S.block_after S.arm S.choice S.while S.for S.caught S.handler S.handled S.finished S.try S.parameter S.definition S.define S.compound S.chunk S.program R.piece read_chars
line_5 = refl

line_6 : read_chars One (codes "a\nif b:\n  c = = d\n") ≡ Err 2
unfolding reserved_marks delimiter operator numeral Q.escape Q.item Q.closes Q.body Q.quoted token_piece lexeme cut indented begin bracket step layout encode_utf8 code_of E.keyword_begins E.another E.argument E.attribute E.call E.slice_after E.item_or_slice E.trailer E.parenthesised E.list E.pair E.dict E.atom E.primary_parts E.primary E.power E.unary_level E.term E.sum E.compared E.negated_level E.conjunction E.disjunction E.expr_level E.exprs_level E.phrase S.primary_at S.another_simple S.raise S.return S.assertion S.delete S.global S.import S.update_of S.assignment_of S.update_or_assignment S.simple S.simples S.line S.block S.block_after S.arm S.choice S.while S.for S.caught S.handler S.handled S.finished S.try S.parameter S.definition S.define S.compound S.chunk S.program R.piece read_chars
line_6 = refl

line_7 : read_chars One (codes "a\nif b: c\nelif d: = e\n") ≡ Err 2
unfolding reserved_marks delimiter operator numeral Q.escape Q.item Q.closes Q.body Q.quoted token_piece lexeme cut indented begin bracket step layout encode_utf8 code_of E.keyword_begins E.another E.argument E.attribute E.call E.slice_after E.item_or_slice E.trailer E.parenthesised E.list E.pair E.dict E.atom E.primary_parts E.primary E.power E.unary_level E.term E.sum E.compared E.negated_level E.conjunction E.disjunction E.expr_level E.exprs_level E.phrase S.primary_at S.another_simple S.raise S.return S.assertion S.delete S.global S.import S.update_of S.assignment_of S.update_or_assignment S.simple S.simples S.line S.block S.block_after S.arm S.choice S.while S.for S.caught S.handler S.handled S.finished S.try S.parameter S.definition S.define S.compound S.chunk S.program R.piece read_chars
line_7 = refl

line_8 : read_chars One (codes "a\nif b: c\nelse:\n  = d\n") ≡ Err 2
unfolding reserved_marks delimiter operator numeral Q.escape Q.item Q.closes Q.body Q.quoted token_piece lexeme cut indented begin bracket step layout encode_utf8 code_of E.keyword_begins E.another E.argument E.attribute E.call E.slice_after E.item_or_slice E.trailer E.parenthesised E.list E.pair E.dict E.atom E.primary_parts E.primary E.power E.unary_level E.term E.sum E.compared E.negated_level E.conjunction E.disjunction E.expr_level E.exprs_level E.phrase S.primary_at S.another_simple S.raise S.return S.assertion S.delete S.global S.import S.update_of S.assignment_of S.update_or_assignment S.simple S.simples S.line S.block S.block_after S.arm S.choice S.while S.for S.caught S.handler S.handled S.finished S.try S.parameter S.definition S.define S.compound S.chunk S.program R.piece read_chars
line_8 = refl

line_9 : read_chars One (codes "if a: b\nc = = d\nelse: e\n") ≡ Err 2
unfolding reserved_marks delimiter operator numeral Q.escape Q.item Q.closes Q.body Q.quoted token_piece lexeme cut indented begin bracket step layout encode_utf8 code_of E.keyword_begins E.another E.argument E.attribute E.call E.slice_after E.item_or_slice E.trailer E.parenthesised E.list E.pair E.dict E.atom E.primary_parts E.primary E.power E.unary_level E.term E.sum E.compared E.negated_level E.conjunction E.disjunction E.expr_level E.exprs_level E.phrase S.primary_at S.another_simple S.raise S.return S.assertion S.delete S.global S.import S.update_of S.assignment_of S.update_or_assignment S.simple S.simples S.line S.block S.block_after S.arm S.choice S.while S.for S.caught S.handler S.handled S.finished S.try S.parameter S.definition S.define S.compound S.chunk S.program R.piece read_chars
line_9 = refl

line_10 : read_chars One (codes "try: a\nfinally: b\nx = = y\n") ≡ Err 3
unfolding reserved_marks delimiter operator numeral Q.escape Q.item Q.closes Q.body Q.quoted token_piece lexeme cut indented begin bracket step layout encode_utf8 code_of E.keyword_begins E.another E.argument E.attribute E.call E.slice_after E.item_or_slice E.trailer E.parenthesised E.list E.pair E.dict E.atom E.primary_parts E.primary E.power E.unary_level E.term E.sum E.compared E.negated_level E.conjunction E.disjunction E.expr_level E.exprs_level E.phrase S.primary_at S.another_simple S.raise S.return S.assertion S.delete S.global S.import S.update_of S.assignment_of S.update_or_assignment S.simple S.simples S.line S.block S.block_after S.arm S.choice S.while S.for S.caught S.handler S.handled S.finished S.try S.parameter S.definition S.define S.compound S.chunk S.program R.piece read_chars
line_10 = refl

line_11 : read_chars One (codes "a\ntry: b\nexcept c: d\nelse: = e\n") ≡ Err 2
unfolding reserved_marks delimiter operator numeral Q.escape Q.item Q.closes Q.body Q.quoted token_piece lexeme cut indented begin bracket step layout encode_utf8 code_of E.keyword_begins E.another E.argument E.attribute E.call E.slice_after E.item_or_slice E.trailer E.parenthesised E.list E.pair E.dict E.atom E.primary_parts E.primary E.power E.unary_level E.term E.sum E.compared E.negated_level E.conjunction E.disjunction E.expr_level E.exprs_level E.phrase S.primary_at S.another_simple S.raise S.return S.assertion S.delete S.global S.import S.update_of S.assignment_of S.update_or_assignment S.simple S.simples S.line S.block S.block_after S.arm S.choice S.while S.for S.caught S.handler S.handled S.finished S.try S.parameter S.definition S.define S.compound S.chunk S.program R.piece read_chars
line_11 = refl

line_12 : read_chars One (codes "a = (\n  1\n)\nb = = c\n") ≡ Err 4
unfolding reserved_marks delimiter operator numeral Q.escape Q.item Q.closes Q.body Q.quoted token_piece lexeme cut indented begin bracket step layout encode_utf8 code_of E.keyword_begins E.another E.argument E.attribute E.call E.slice_after E.item_or_slice E.trailer E.parenthesised E.list E.pair E.dict E.atom E.primary_parts E.primary E.power E.unary_level E.term E.sum E.compared E.negated_level E.conjunction E.disjunction E.expr_level E.exprs_level E.phrase S.primary_at S.another_simple S.raise S.return S.assertion S.delete S.global S.import S.update_of S.assignment_of S.update_or_assignment S.simple S.simples S.line S.block S.block_after S.arm S.choice S.while S.for S.caught S.handler S.handled S.finished S.try S.parameter S.definition S.define S.compound S.chunk S.program R.piece read_chars
line_12 = refl

line_13 : read_chars One (codes "a = (1,\n 2 3)\nb\n") ≡ Err 1
unfolding reserved_marks delimiter operator numeral Q.escape Q.item Q.closes Q.body Q.quoted token_piece lexeme cut indented begin bracket step layout encode_utf8 code_of E.keyword_begins E.another E.argument E.attribute E.call E.slice_after E.item_or_slice E.trailer E.parenthesised E.list E.pair E.dict E.atom E.primary_parts E.primary E.power E.unary_level E.term E.sum E.compared E.negated_level E.conjunction E.disjunction E.expr_level E.exprs_level E.phrase S.primary_at S.another_simple S.raise S.return S.assertion S.delete S.global S.import S.update_of S.assignment_of S.update_or_assignment S.simple S.simples S.line S.block S.block_after S.arm S.choice S.while S.for S.caught S.handler S.handled S.finished S.try S.parameter S.definition S.define S.compound S.chunk S.program R.piece read_chars
line_13 = refl

line_14 : read_chars One (codes "a\nb = (1,\n 2 3)\n") ≡ Err 2
unfolding reserved_marks delimiter operator numeral Q.escape Q.item Q.closes Q.body Q.quoted token_piece lexeme cut indented begin bracket step layout encode_utf8 code_of E.keyword_begins E.another E.argument E.attribute E.call E.slice_after E.item_or_slice E.trailer E.parenthesised E.list E.pair E.dict E.atom E.primary_parts E.primary E.power E.unary_level E.term E.sum E.compared E.negated_level E.conjunction E.disjunction E.expr_level E.exprs_level E.phrase S.primary_at S.another_simple S.raise S.return S.assertion S.delete S.global S.import S.update_of S.assignment_of S.update_or_assignment S.simple S.simples S.line S.block S.block_after S.arm S.choice S.while S.for S.caught S.handler S.handled S.finished S.try S.parameter S.definition S.define S.compound S.chunk S.program R.piece read_chars
line_14 = refl

line_15 : read_chars One (codes "'''a\n\n'''\nb = = c\n") ≡ Err 4
unfolding reserved_marks delimiter operator numeral Q.escape Q.item Q.closes Q.body Q.quoted token_piece lexeme cut indented begin bracket step layout encode_utf8 code_of E.keyword_begins E.another E.argument E.attribute E.call E.slice_after E.item_or_slice E.trailer E.parenthesised E.list E.pair E.dict E.atom E.primary_parts E.primary E.power E.unary_level E.term E.sum E.compared E.negated_level E.conjunction E.disjunction E.expr_level E.exprs_level E.phrase S.primary_at S.another_simple S.raise S.return S.assertion S.delete S.global S.import S.update_of S.assignment_of S.update_or_assignment S.simple S.simples S.line S.block S.block_after S.arm S.choice S.while S.for S.caught S.handler S.handled S.finished S.try S.parameter S.definition S.define S.compound S.chunk S.program R.piece read_chars
line_15 = refl

line_16 : read_chars One (codes "a = 'b\\\nc'\nd = = e\n") ≡ Err 3
unfolding reserved_marks delimiter operator numeral Q.escape Q.item Q.closes Q.body Q.quoted token_piece lexeme cut indented begin bracket step layout encode_utf8 code_of E.keyword_begins E.another E.argument E.attribute E.call E.slice_after E.item_or_slice E.trailer E.parenthesised E.list E.pair E.dict E.atom E.primary_parts E.primary E.power E.unary_level E.term E.sum E.compared E.negated_level E.conjunction E.disjunction E.expr_level E.exprs_level E.phrase S.primary_at S.another_simple S.raise S.return S.assertion S.delete S.global S.import S.update_of S.assignment_of S.update_or_assignment S.simple S.simples S.line S.block S.block_after S.arm S.choice S.while S.for S.caught S.handler S.handled S.finished S.try S.parameter S.definition S.define S.compound S.chunk S.program R.piece read_chars
line_16 = refl

line_17 : read_chars One (codes "a = \\\n 1\nb = = c\n") ≡ Err 3
unfolding reserved_marks delimiter operator numeral Q.escape Q.item Q.closes Q.body Q.quoted token_piece lexeme cut indented begin bracket step layout encode_utf8 code_of E.keyword_begins E.another E.argument E.attribute E.call E.slice_after E.item_or_slice E.trailer E.parenthesised E.list E.pair E.dict E.atom E.primary_parts E.primary E.power E.unary_level E.term E.sum E.compared E.negated_level E.conjunction E.disjunction E.expr_level E.exprs_level E.phrase S.primary_at S.another_simple S.raise S.return S.assertion S.delete S.global S.import S.update_of S.assignment_of S.update_or_assignment S.simple S.simples S.line S.block S.block_after S.arm S.choice S.while S.for S.caught S.handler S.handled S.finished S.try S.parameter S.definition S.define S.compound S.chunk S.program R.piece read_chars
line_17 = refl

line_18 : read_chars One (codes "a\n\\\nb = = c\n") ≡ Err 3
unfolding reserved_marks delimiter operator numeral Q.escape Q.item Q.closes Q.body Q.quoted token_piece lexeme cut indented begin bracket step layout encode_utf8 code_of E.keyword_begins E.another E.argument E.attribute E.call E.slice_after E.item_or_slice E.trailer E.parenthesised E.list E.pair E.dict E.atom E.primary_parts E.primary E.power E.unary_level E.term E.sum E.compared E.negated_level E.conjunction E.disjunction E.expr_level E.exprs_level E.phrase S.primary_at S.another_simple S.raise S.return S.assertion S.delete S.global S.import S.update_of S.assignment_of S.update_or_assignment S.simple S.simples S.line S.block S.block_after S.arm S.choice S.while S.for S.caught S.handler S.handled S.finished S.try S.parameter S.definition S.define S.compound S.chunk S.program R.piece read_chars
line_18 = refl

line_19 : read_chars One (codes "\\\nx = = 1\n") ≡ Err 2
unfolding reserved_marks delimiter operator numeral Q.escape Q.item Q.closes Q.body Q.quoted token_piece lexeme cut indented begin bracket step layout encode_utf8 code_of E.keyword_begins E.another E.argument E.attribute E.call E.slice_after E.item_or_slice E.trailer E.parenthesised E.list E.pair E.dict E.atom E.primary_parts E.primary E.power E.unary_level E.term E.sum E.compared E.negated_level E.conjunction E.disjunction E.expr_level E.exprs_level E.phrase S.primary_at S.another_simple S.raise S.return S.assertion S.delete S.global S.import S.update_of S.assignment_of S.update_or_assignment S.simple S.simples S.line S.block S.block_after S.arm S.choice S.while S.for S.caught S.handler S.handled S.finished S.try S.parameter S.definition S.define S.compound S.chunk S.program R.piece read_chars
line_19 = refl

line_20 : read_chars One (codes "  \\\nx\n") ≡ Err 1
unfolding reserved_marks delimiter operator numeral Q.escape Q.item Q.closes Q.body Q.quoted token_piece lexeme cut indented begin bracket step layout encode_utf8 code_of E.keyword_begins E.another E.argument E.attribute E.call E.slice_after E.item_or_slice E.trailer E.parenthesised E.list E.pair E.dict E.atom E.primary_parts E.primary E.power E.unary_level E.term E.sum E.compared E.negated_level E.conjunction E.disjunction E.expr_level E.exprs_level E.phrase S.primary_at S.another_simple S.raise S.return S.assertion S.delete S.global S.import S.update_of S.assignment_of S.update_or_assignment S.simple S.simples S.line S.block S.block_after S.arm S.choice S.while S.for S.caught S.handler S.handled S.finished S.try S.parameter S.definition S.define S.compound S.chunk S.program R.piece read_chars
line_20 = refl

line_21 : read_chars One (codes "a\n  b\n") ≡ Err 1
unfolding reserved_marks delimiter operator numeral Q.escape Q.item Q.closes Q.body Q.quoted token_piece lexeme cut indented begin bracket step layout encode_utf8 code_of E.keyword_begins E.another E.argument E.attribute E.call E.slice_after E.item_or_slice E.trailer E.parenthesised E.list E.pair E.dict E.atom E.primary_parts E.primary E.power E.unary_level E.term E.sum E.compared E.negated_level E.conjunction E.disjunction E.expr_level E.exprs_level E.phrase S.primary_at S.another_simple S.raise S.return S.assertion S.delete S.global S.import S.update_of S.assignment_of S.update_or_assignment S.simple S.simples S.line S.block S.block_after S.arm S.choice S.while S.for S.caught S.handler S.handled S.finished S.try S.parameter S.definition S.define S.compound S.chunk S.program R.piece read_chars
line_21 = refl

line_22 : read_chars One (codes "a\n  \\\n b\nc\n") ≡ Err 1
unfolding reserved_marks delimiter operator numeral Q.escape Q.item Q.closes Q.body Q.quoted token_piece lexeme cut indented begin bracket step layout encode_utf8 code_of E.keyword_begins E.another E.argument E.attribute E.call E.slice_after E.item_or_slice E.trailer E.parenthesised E.list E.pair E.dict E.atom E.primary_parts E.primary E.power E.unary_level E.term E.sum E.compared E.negated_level E.conjunction E.disjunction E.expr_level E.exprs_level E.phrase S.primary_at S.another_simple S.raise S.return S.assertion S.delete S.global S.import S.update_of S.assignment_of S.update_or_assignment S.simple S.simples S.line S.block S.block_after S.arm S.choice S.while S.for S.caught S.handler S.handled S.finished S.try S.parameter S.definition S.define S.compound S.chunk S.program R.piece read_chars
line_22 = refl

line_23 : read_chars One (codes "\n  a\n") ≡ Err 2
unfolding reserved_marks delimiter operator numeral Q.escape Q.item Q.closes Q.body Q.quoted token_piece lexeme cut indented begin bracket step layout encode_utf8 code_of E.keyword_begins E.another E.argument E.attribute E.call E.slice_after E.item_or_slice E.trailer E.parenthesised E.list E.pair E.dict E.atom E.primary_parts E.primary E.power E.unary_level E.term E.sum E.compared E.negated_level E.conjunction E.disjunction E.expr_level E.exprs_level E.phrase S.primary_at S.another_simple S.raise S.return S.assertion S.delete S.global S.import S.update_of S.assignment_of S.update_or_assignment S.simple S.simples S.line S.block S.block_after S.arm S.choice S.while S.for S.caught S.handler S.handled S.finished S.try S.parameter S.definition S.define S.compound S.chunk S.program R.piece read_chars
line_23 = refl

line_24 : read_chars One (codes "\n\n  \\\n\\\n a\n") ≡ Err 3
unfolding reserved_marks delimiter operator numeral Q.escape Q.item Q.closes Q.body Q.quoted token_piece lexeme cut indented begin bracket step layout encode_utf8 code_of E.keyword_begins E.another E.argument E.attribute E.call E.slice_after E.item_or_slice E.trailer E.parenthesised E.list E.pair E.dict E.atom E.primary_parts E.primary E.power E.unary_level E.term E.sum E.compared E.negated_level E.conjunction E.disjunction E.expr_level E.exprs_level E.phrase S.primary_at S.another_simple S.raise S.return S.assertion S.delete S.global S.import S.update_of S.assignment_of S.update_or_assignment S.simple S.simples S.line S.block S.block_after S.arm S.choice S.while S.for S.caught S.handler S.handled S.finished S.try S.parameter S.definition S.define S.compound S.chunk S.program R.piece read_chars
line_24 = refl

line_25 : read_chars One (codes "a;\nb;;\n") ≡ Err 2
unfolding reserved_marks delimiter operator numeral Q.escape Q.item Q.closes Q.body Q.quoted token_piece lexeme cut indented begin bracket step layout encode_utf8 code_of E.keyword_begins E.another E.argument E.attribute E.call E.slice_after E.item_or_slice E.trailer E.parenthesised E.list E.pair E.dict E.atom E.primary_parts E.primary E.power E.unary_level E.term E.sum E.compared E.negated_level E.conjunction E.disjunction E.expr_level E.exprs_level E.phrase S.primary_at S.another_simple S.raise S.return S.assertion S.delete S.global S.import S.update_of S.assignment_of S.update_or_assignment S.simple S.simples S.line S.block S.block_after S.arm S.choice S.while S.for S.caught S.handler S.handled S.finished S.try S.parameter S.definition S.define S.compound S.chunk S.program R.piece read_chars
line_25 = refl

line_26 : read_chars One (97 ∷ 13 ∷ 10 ∷ 98 ∷ 32 ∷ 61 ∷ 32 ∷ 61 ∷ 32 ∷ 99 ∷ 13 ∷ 10 ∷ []) ≡ Err 2
unfolding reserved_marks delimiter operator numeral Q.escape Q.item Q.closes Q.body Q.quoted token_piece lexeme cut indented begin bracket step layout encode_utf8 code_of E.keyword_begins E.another E.argument E.attribute E.call E.slice_after E.item_or_slice E.trailer E.parenthesised E.list E.pair E.dict E.atom E.primary_parts E.primary E.power E.unary_level E.term E.sum E.compared E.negated_level E.conjunction E.disjunction E.expr_level E.exprs_level E.phrase S.primary_at S.another_simple S.raise S.return S.assertion S.delete S.global S.import S.update_of S.assignment_of S.update_or_assignment S.simple S.simples S.line S.block S.block_after S.arm S.choice S.while S.for S.caught S.handler S.handled S.finished S.try S.parameter S.definition S.define S.compound S.chunk S.program R.piece read_chars
line_26 = refl

line_27 : read_chars One (97 ∷ 13 ∷ 98 ∷ 13 ∷ 99 ∷ 32 ∷ 61 ∷ 32 ∷ 61 ∷ 32 ∷ 100 ∷ 13 ∷ []) ≡ Err 3
unfolding reserved_marks delimiter operator numeral Q.escape Q.item Q.closes Q.body Q.quoted token_piece lexeme cut indented begin bracket step layout encode_utf8 code_of E.keyword_begins E.another E.argument E.attribute E.call E.slice_after E.item_or_slice E.trailer E.parenthesised E.list E.pair E.dict E.atom E.primary_parts E.primary E.power E.unary_level E.term E.sum E.compared E.negated_level E.conjunction E.disjunction E.expr_level E.exprs_level E.phrase S.primary_at S.another_simple S.raise S.return S.assertion S.delete S.global S.import S.update_of S.assignment_of S.update_or_assignment S.simple S.simples S.line S.block S.block_after S.arm S.choice S.while S.for S.caught S.handler S.handled S.finished S.try S.parameter S.definition S.define S.compound S.chunk S.program R.piece read_chars
line_27 = refl

line_28 : read_chars One (codes "pass\nreturn\n") ≡ Err 2
unfolding reserved_marks delimiter operator numeral Q.escape Q.item Q.closes Q.body Q.quoted token_piece lexeme cut indented begin bracket step layout encode_utf8 code_of E.keyword_begins E.another E.argument E.attribute E.call E.slice_after E.item_or_slice E.trailer E.parenthesised E.list E.pair E.dict E.atom E.primary_parts E.primary E.power E.unary_level E.term E.sum E.compared E.negated_level E.conjunction E.disjunction E.expr_level E.exprs_level E.phrase S.primary_at S.another_simple S.raise S.return S.assertion S.delete S.global S.import S.update_of S.assignment_of S.update_or_assignment S.simple S.simples S.line S.block S.block_after S.arm S.choice S.while S.for S.caught S.handler S.handled S.finished S.try S.parameter S.definition S.define S.compound S.chunk S.program R.piece read_chars
line_28 = refl

line_29 : read_chars One (codes "def f(): pass\ndef g(): break\n") ≡ Err 2
unfolding reserved_marks delimiter operator numeral Q.escape Q.item Q.closes Q.body Q.quoted token_piece lexeme cut indented begin bracket step layout encode_utf8 code_of E.keyword_begins E.another E.argument E.attribute E.call E.slice_after E.item_or_slice E.trailer E.parenthesised E.list E.pair E.dict E.atom E.primary_parts E.primary E.power E.unary_level E.term E.sum E.compared E.negated_level E.conjunction E.disjunction E.expr_level E.exprs_level E.phrase S.primary_at S.another_simple S.raise S.return S.assertion S.delete S.global S.import S.update_of S.assignment_of S.update_or_assignment S.simple S.simples S.line S.block S.block_after S.arm S.choice S.while S.for S.caught S.handler S.handled S.finished S.try S.parameter S.definition S.define S.compound S.chunk S.program R.piece read_chars
line_29 = refl

line_30 : read_chars One (codes "a\n\ndef f(a):\n  b\n  global a\n") ≡ Err 3
unfolding reserved_marks delimiter operator numeral Q.escape Q.item Q.closes Q.body Q.quoted token_piece lexeme cut indented begin bracket step layout encode_utf8 code_of E.keyword_begins E.another E.argument E.attribute E.call E.slice_after E.item_or_slice E.trailer E.parenthesised E.list E.pair E.dict E.atom E.primary_parts E.primary E.power E.unary_level E.term E.sum E.compared E.negated_level E.conjunction E.disjunction E.expr_level E.exprs_level E.phrase S.primary_at S.another_simple S.raise S.return S.assertion S.delete S.global S.import S.update_of S.assignment_of S.update_or_assignment S.simple S.simples S.line S.block S.block_after S.arm S.choice S.while S.for S.caught S.handler S.handled S.finished S.try S.parameter S.definition S.define S.compound S.chunk S.program R.piece read_chars
line_30 = refl

line_31 : read_chars One (codes "while a: b\n\nbreak\n") ≡ Err 3
unfolding reserved_marks delimiter operator numeral Q.escape Q.item Q.closes Q.body Q.quoted token_piece lexeme cut indented begin bracket step layout encode_utf8 code_of E.keyword_begins E.another E.argument E.attribute E.call E.slice_after E.item_or_slice E.trailer E.parenthesised E.list E.pair E.dict E.atom E.primary_parts E.primary E.power E.unary_level E.term E.sum E.compared E.negated_level E.conjunction E.disjunction E.expr_level E.exprs_level E.phrase S.primary_at S.another_simple S.raise S.return S.assertion S.delete S.global S.import S.update_of S.assignment_of S.update_or_assignment S.simple S.simples S.line S.block S.block_after S.arm S.choice S.while S.for S.caught S.handler S.handled S.finished S.try S.parameter S.definition S.define S.compound S.chunk S.program R.piece read_chars
line_31 = refl

line_32 : read_chars One (codes "a\nb\nc\nd e\n") ≡ Err 4
unfolding reserved_marks delimiter operator numeral Q.escape Q.item Q.closes Q.body Q.quoted token_piece lexeme cut indented begin bracket step layout encode_utf8 code_of E.keyword_begins E.another E.argument E.attribute E.call E.slice_after E.item_or_slice E.trailer E.parenthesised E.list E.pair E.dict E.atom E.primary_parts E.primary E.power E.unary_level E.term E.sum E.compared E.negated_level E.conjunction E.disjunction E.expr_level E.exprs_level E.phrase S.primary_at S.another_simple S.raise S.return S.assertion S.delete S.global S.import S.update_of S.assignment_of S.update_or_assignment S.simple S.simples S.line S.block S.block_after S.arm S.choice S.while S.for S.caught S.handler S.handled S.finished S.try S.parameter S.definition S.define S.compound S.chunk S.program R.piece read_chars
line_32 = refl

line_33 : read_chars One (codes "if a:\n  if b:\n    c d\n  e\nf\n") ≡ Err 1
unfolding reserved_marks delimiter operator numeral Q.escape Q.item Q.closes Q.body Q.quoted token_piece lexeme cut indented begin bracket step layout encode_utf8 code_of E.keyword_begins E.another E.argument E.attribute E.call E.slice_after E.item_or_slice E.trailer E.parenthesised E.list E.pair E.dict E.atom E.primary_parts E.primary E.power E.unary_level E.term E.sum E.compared E.negated_level E.conjunction E.disjunction E.expr_level E.exprs_level E.phrase S.primary_at S.another_simple S.raise S.return S.assertion S.delete S.global S.import S.update_of S.assignment_of S.update_or_assignment S.simple S.simples S.line S.block S.block_after S.arm S.choice S.while S.for S.caught S.handler S.handled S.finished S.try S.parameter S.definition S.define S.compound S.chunk S.program R.piece read_chars
line_33 = refl

line_34 : read_chars One (codes "a\nif b:\n  c\n\n# d\nelse: e f\n") ≡ Err 2
unfolding reserved_marks delimiter operator numeral Q.escape Q.item Q.closes Q.body Q.quoted token_piece lexeme cut indented begin bracket step layout encode_utf8 code_of E.keyword_begins E.another E.argument E.attribute E.call E.slice_after E.item_or_slice E.trailer E.parenthesised E.list E.pair E.dict E.atom E.primary_parts E.primary E.power E.unary_level E.term E.sum E.compared E.negated_level E.conjunction E.disjunction E.expr_level E.exprs_level E.phrase S.primary_at S.another_simple S.raise S.return S.assertion S.delete S.global S.import S.update_of S.assignment_of S.update_or_assignment S.simple S.simples S.line S.block S.block_after S.arm S.choice S.while S.for S.caught S.handler S.handled S.finished S.try S.parameter S.definition S.define S.compound S.chunk S.program R.piece read_chars
line_34 = refl

line_35 : read_chars One (codes "a\n\n# b\n\nc d\n") ≡ Err 5
unfolding reserved_marks delimiter operator numeral Q.escape Q.item Q.closes Q.body Q.quoted token_piece lexeme cut indented begin bracket step layout encode_utf8 code_of E.keyword_begins E.another E.argument E.attribute E.call E.slice_after E.item_or_slice E.trailer E.parenthesised E.list E.pair E.dict E.atom E.primary_parts E.primary E.power E.unary_level E.term E.sum E.compared E.negated_level E.conjunction E.disjunction E.expr_level E.exprs_level E.phrase S.primary_at S.another_simple S.raise S.return S.assertion S.delete S.global S.import S.update_of S.assignment_of S.update_or_assignment S.simple S.simples S.line S.block S.block_after S.arm S.choice S.while S.for S.caught S.handler S.handled S.finished S.try S.parameter S.definition S.define S.compound S.chunk S.program R.piece read_chars
line_35 = refl

line_36 : read_chars One (codes "a\nf(a=1, 2)\n") ≡ Err 2
unfolding reserved_marks delimiter operator numeral Q.escape Q.item Q.closes Q.body Q.quoted token_piece lexeme cut indented begin bracket step layout encode_utf8 code_of E.keyword_begins E.another E.argument E.attribute E.call E.slice_after E.item_or_slice E.trailer E.parenthesised E.list E.pair E.dict E.atom E.primary_parts E.primary E.power E.unary_level E.term E.sum E.compared E.negated_level E.conjunction E.disjunction E.expr_level E.exprs_level E.phrase S.primary_at S.another_simple S.raise S.return S.assertion S.delete S.global S.import S.update_of S.assignment_of S.update_or_assignment S.simple S.simples S.line S.block S.block_after S.arm S.choice S.while S.for S.caught S.handler S.handled S.finished S.try S.parameter S.definition S.define S.compound S.chunk S.program R.piece read_chars
line_36 = refl

line_37 : read_chars One (codes "a\nf(b=1, b=2)\n") ≡ Err 2
unfolding reserved_marks delimiter operator numeral Q.escape Q.item Q.closes Q.body Q.quoted token_piece lexeme cut indented begin bracket step layout encode_utf8 code_of E.keyword_begins E.another E.argument E.attribute E.call E.slice_after E.item_or_slice E.trailer E.parenthesised E.list E.pair E.dict E.atom E.primary_parts E.primary E.power E.unary_level E.term E.sum E.compared E.negated_level E.conjunction E.disjunction E.expr_level E.exprs_level E.phrase S.primary_at S.another_simple S.raise S.return S.assertion S.delete S.global S.import S.update_of S.assignment_of S.update_or_assignment S.simple S.simples S.line S.block S.block_after S.arm S.choice S.while S.for S.caught S.handler S.handled S.finished S.try S.parameter S.definition S.define S.compound S.chunk S.program R.piece read_chars
line_37 = refl

line_38 : read_chars One (codes "a\n\n\ntry: b\n") ≡ Err 4
unfolding reserved_marks delimiter operator numeral Q.escape Q.item Q.closes Q.body Q.quoted token_piece lexeme cut indented begin bracket step layout encode_utf8 code_of E.keyword_begins E.another E.argument E.attribute E.call E.slice_after E.item_or_slice E.trailer E.parenthesised E.list E.pair E.dict E.atom E.primary_parts E.primary E.power E.unary_level E.term E.sum E.compared E.negated_level E.conjunction E.disjunction E.expr_level E.exprs_level E.phrase S.primary_at S.another_simple S.raise S.return S.assertion S.delete S.global S.import S.update_of S.assignment_of S.update_or_assignment S.simple S.simples S.line S.block S.block_after S.arm S.choice S.while S.for S.caught S.handler S.handled S.finished S.try S.parameter S.definition S.define S.compound S.chunk S.program R.piece read_chars
line_38 = refl

line_39 : read_chars One (codes "a\ndef f(a, a): b\n") ≡ Err 2
unfolding reserved_marks delimiter operator numeral Q.escape Q.item Q.closes Q.body Q.quoted token_piece lexeme cut indented begin bracket step layout encode_utf8 code_of E.keyword_begins E.another E.argument E.attribute E.call E.slice_after E.item_or_slice E.trailer E.parenthesised E.list E.pair E.dict E.atom E.primary_parts E.primary E.power E.unary_level E.term E.sum E.compared E.negated_level E.conjunction E.disjunction E.expr_level E.exprs_level E.phrase S.primary_at S.another_simple S.raise S.return S.assertion S.delete S.global S.import S.update_of S.assignment_of S.update_or_assignment S.simple S.simples S.line S.block S.block_after S.arm S.choice S.while S.for S.caught S.handler S.handled S.finished S.try S.parameter S.definition S.define S.compound S.chunk S.program R.piece read_chars
line_39 = refl

line_40 : read_chars One (codes "a\ndef f(a=1, b): c\n") ≡ Err 2
unfolding reserved_marks delimiter operator numeral Q.escape Q.item Q.closes Q.body Q.quoted token_piece lexeme cut indented begin bracket step layout encode_utf8 code_of E.keyword_begins E.another E.argument E.attribute E.call E.slice_after E.item_or_slice E.trailer E.parenthesised E.list E.pair E.dict E.atom E.primary_parts E.primary E.power E.unary_level E.term E.sum E.compared E.negated_level E.conjunction E.disjunction E.expr_level E.exprs_level E.phrase S.primary_at S.another_simple S.raise S.return S.assertion S.delete S.global S.import S.update_of S.assignment_of S.update_or_assignment S.simple S.simples S.line S.block S.block_after S.arm S.choice S.while S.for S.caught S.handler S.handled S.finished S.try S.parameter S.definition S.define S.compound S.chunk S.program R.piece read_chars
line_40 = refl

line_41 : read_chars One (codes "a\ntry: b\nexcept: c\nexcept d: e\n") ≡ Err 2
unfolding reserved_marks delimiter operator numeral Q.escape Q.item Q.closes Q.body Q.quoted token_piece lexeme cut indented begin bracket step layout encode_utf8 code_of E.keyword_begins E.another E.argument E.attribute E.call E.slice_after E.item_or_slice E.trailer E.parenthesised E.list E.pair E.dict E.atom E.primary_parts E.primary E.power E.unary_level E.term E.sum E.compared E.negated_level E.conjunction E.disjunction E.expr_level E.exprs_level E.phrase S.primary_at S.another_simple S.raise S.return S.assertion S.delete S.global S.import S.update_of S.assignment_of S.update_or_assignment S.simple S.simples S.line S.block S.block_after S.arm S.choice S.while S.for S.caught S.handler S.handled S.finished S.try S.parameter S.definition S.define S.compound S.chunk S.program R.piece read_chars
line_41 = refl

line_42 : read_chars One (codes "a = = b\n$\n") ≡ Err 2
unfolding reserved_marks delimiter operator numeral Q.escape Q.item Q.closes Q.body Q.quoted token_piece lexeme cut indented begin bracket step layout encode_utf8 code_of E.keyword_begins E.another E.argument E.attribute E.call E.slice_after E.item_or_slice E.trailer E.parenthesised E.list E.pair E.dict E.atom E.primary_parts E.primary E.power E.unary_level E.term E.sum E.compared E.negated_level E.conjunction E.disjunction E.expr_level E.exprs_level E.phrase S.primary_at S.another_simple S.raise S.return S.assertion S.delete S.global S.import S.update_of S.assignment_of S.update_or_assignment S.simple S.simples S.line S.block S.block_after S.arm S.choice S.while S.for S.caught S.handler S.handled S.finished S.try S.parameter S.definition S.define S.compound S.chunk S.program R.piece read_chars
line_42 = refl

line_43 : read_chars One (codes "a = = b\nc\n'd\n") ≡ Err 3
unfolding reserved_marks delimiter operator numeral Q.escape Q.item Q.closes Q.body Q.quoted token_piece lexeme cut indented begin bracket step layout encode_utf8 code_of E.keyword_begins E.another E.argument E.attribute E.call E.slice_after E.item_or_slice E.trailer E.parenthesised E.list E.pair E.dict E.atom E.primary_parts E.primary E.power E.unary_level E.term E.sum E.compared E.negated_level E.conjunction E.disjunction E.expr_level E.exprs_level E.phrase S.primary_at S.another_simple S.raise S.return S.assertion S.delete S.global S.import S.update_of S.assignment_of S.update_or_assignment S.simple S.simples S.line S.block S.block_after S.arm S.choice S.while S.for S.caught S.handler S.handled S.finished S.try S.parameter S.definition S.define S.compound S.chunk S.program R.piece read_chars
line_43 = refl

line_44 : read_chars One (codes "return\n(\n") ≡ Err 2
unfolding reserved_marks delimiter operator numeral Q.escape Q.item Q.closes Q.body Q.quoted token_piece lexeme cut indented begin bracket step layout encode_utf8 code_of E.keyword_begins E.another E.argument E.attribute E.call E.slice_after E.item_or_slice E.trailer E.parenthesised E.list E.pair E.dict E.atom E.primary_parts E.primary E.power E.unary_level E.term E.sum E.compared E.negated_level E.conjunction E.disjunction E.expr_level E.exprs_level E.phrase S.primary_at S.another_simple S.raise S.return S.assertion S.delete S.global S.import S.update_of S.assignment_of S.update_or_assignment S.simple S.simples S.line S.block S.block_after S.arm S.choice S.while S.for S.caught S.handler S.handled S.finished S.try S.parameter S.definition S.define S.compound S.chunk S.program R.piece read_chars
line_44 = refl

line_45 : read_chars One (codes "a b\nif c:\n    d\n  e\n") ≡ Err 4
unfolding reserved_marks delimiter operator numeral Q.escape Q.item Q.closes Q.body Q.quoted token_piece lexeme cut indented begin bracket step layout encode_utf8 code_of E.keyword_begins E.another E.argument E.attribute E.call E.slice_after E.item_or_slice E.trailer E.parenthesised E.list E.pair E.dict E.atom E.primary_parts E.primary E.power E.unary_level E.term E.sum E.compared E.negated_level E.conjunction E.disjunction E.expr_level E.exprs_level E.phrase S.primary_at S.another_simple S.raise S.return S.assertion S.delete S.global S.import S.update_of S.assignment_of S.update_or_assignment S.simple S.simples S.line S.block S.block_after S.arm S.choice S.while S.for S.caught S.handler S.handled S.finished S.try S.parameter S.definition S.define S.compound S.chunk S.program R.piece read_chars
line_45 = refl

line_46 : read_chars One (codes "a b\n01\n") ≡ Err 2
unfolding reserved_marks delimiter operator numeral Q.escape Q.item Q.closes Q.body Q.quoted token_piece lexeme cut indented begin bracket step layout encode_utf8 code_of E.keyword_begins E.another E.argument E.attribute E.call E.slice_after E.item_or_slice E.trailer E.parenthesised E.list E.pair E.dict E.atom E.primary_parts E.primary E.power E.unary_level E.term E.sum E.compared E.negated_level E.conjunction E.disjunction E.expr_level E.exprs_level E.phrase S.primary_at S.another_simple S.raise S.return S.assertion S.delete S.global S.import S.update_of S.assignment_of S.update_or_assignment S.simple S.simples S.line S.block S.block_after S.arm S.choice S.while S.for S.caught S.handler S.handled S.finished S.try S.parameter S.definition S.define S.compound S.chunk S.program R.piece read_chars
line_46 = refl

line_47 : read_chars One (codes "a b\n]\n") ≡ Err 2
unfolding reserved_marks delimiter operator numeral Q.escape Q.item Q.closes Q.body Q.quoted token_piece lexeme cut indented begin bracket step layout encode_utf8 code_of E.keyword_begins E.another E.argument E.attribute E.call E.slice_after E.item_or_slice E.trailer E.parenthesised E.list E.pair E.dict E.atom E.primary_parts E.primary E.power E.unary_level E.term E.sum E.compared E.negated_level E.conjunction E.disjunction E.expr_level E.exprs_level E.phrase S.primary_at S.another_simple S.raise S.return S.assertion S.delete S.global S.import S.update_of S.assignment_of S.update_or_assignment S.simple S.simples S.line S.block S.block_after S.arm S.choice S.while S.for S.caught S.handler S.handled S.finished S.try S.parameter S.definition S.define S.compound S.chunk S.program R.piece read_chars
line_47 = refl

line_48 : read_chars One (codes "if a\n\n!") ≡ Err 3
unfolding reserved_marks delimiter operator numeral Q.escape Q.item Q.closes Q.body Q.quoted token_piece lexeme cut indented begin bracket step layout encode_utf8 code_of E.keyword_begins E.another E.argument E.attribute E.call E.slice_after E.item_or_slice E.trailer E.parenthesised E.list E.pair E.dict E.atom E.primary_parts E.primary E.power E.unary_level E.term E.sum E.compared E.negated_level E.conjunction E.disjunction E.expr_level E.exprs_level E.phrase S.primary_at S.another_simple S.raise S.return S.assertion S.delete S.global S.import S.update_of S.assignment_of S.update_or_assignment S.simple S.simples S.line S.block S.block_after S.arm S.choice S.while S.for S.caught S.handler S.handled S.finished S.try S.parameter S.definition S.define S.compound S.chunk S.program R.piece read_chars
line_48 = refl

line_49 : read_chars One (codes "a b\n'\\x4'\n") ≡ Err 2
unfolding reserved_marks delimiter operator numeral Q.escape Q.item Q.closes Q.body Q.quoted token_piece lexeme cut indented begin bracket step layout encode_utf8 code_of E.keyword_begins E.another E.argument E.attribute E.call E.slice_after E.item_or_slice E.trailer E.parenthesised E.list E.pair E.dict E.atom E.primary_parts E.primary E.power E.unary_level E.term E.sum E.compared E.negated_level E.conjunction E.disjunction E.expr_level E.exprs_level E.phrase S.primary_at S.another_simple S.raise S.return S.assertion S.delete S.global S.import S.update_of S.assignment_of S.update_or_assignment S.simple S.simples S.line S.block S.block_after S.arm S.choice S.while S.for S.caught S.handler S.handled S.finished S.try S.parameter S.definition S.define S.compound S.chunk S.program R.piece read_chars
line_49 = refl

line_50 : read_chars One (codes "a b\n\\ \n") ≡ Err 2
unfolding reserved_marks delimiter operator numeral Q.escape Q.item Q.closes Q.body Q.quoted token_piece lexeme cut indented begin bracket step layout encode_utf8 code_of E.keyword_begins E.another E.argument E.attribute E.call E.slice_after E.item_or_slice E.trailer E.parenthesised E.list E.pair E.dict E.atom E.primary_parts E.primary E.power E.unary_level E.term E.sum E.compared E.negated_level E.conjunction E.disjunction E.expr_level E.exprs_level E.phrase S.primary_at S.another_simple S.raise S.return S.assertion S.delete S.global S.import S.update_of S.assignment_of S.update_or_assignment S.simple S.simples S.line S.block S.block_after S.arm S.choice S.while S.for S.caught S.handler S.handled S.finished S.try S.parameter S.definition S.define S.compound S.chunk S.program R.piece read_chars
line_50 = refl

line_51 : read_chars One (codes "def f(): break\n1a\n") ≡ Err 2
unfolding reserved_marks delimiter operator numeral Q.escape Q.item Q.closes Q.body Q.quoted token_piece lexeme cut indented begin bracket step layout encode_utf8 code_of E.keyword_begins E.another E.argument E.attribute E.call E.slice_after E.item_or_slice E.trailer E.parenthesised E.list E.pair E.dict E.atom E.primary_parts E.primary E.power E.unary_level E.term E.sum E.compared E.negated_level E.conjunction E.disjunction E.expr_level E.exprs_level E.phrase S.primary_at S.another_simple S.raise S.return S.assertion S.delete S.global S.import S.update_of S.assignment_of S.update_or_assignment S.simple S.simples S.line S.block S.block_after S.arm S.choice S.while S.for S.caught S.handler S.handled S.finished S.try S.parameter S.definition S.define S.compound S.chunk S.program R.piece read_chars
line_51 = refl

line_52 : read_chars One (codes "a b\n'''c\n\n") ≡ Err 2
unfolding reserved_marks delimiter operator numeral Q.escape Q.item Q.closes Q.body Q.quoted token_piece lexeme cut indented begin bracket step layout encode_utf8 code_of E.keyword_begins E.another E.argument E.attribute E.call E.slice_after E.item_or_slice E.trailer E.parenthesised E.list E.pair E.dict E.atom E.primary_parts E.primary E.power E.unary_level E.term E.sum E.compared E.negated_level E.conjunction E.disjunction E.expr_level E.exprs_level E.phrase S.primary_at S.another_simple S.raise S.return S.assertion S.delete S.global S.import S.update_of S.assignment_of S.update_or_assignment S.simple S.simples S.line S.block S.block_after S.arm S.choice S.while S.for S.caught S.handler S.handled S.finished S.try S.parameter S.definition S.define S.compound S.chunk S.program R.piece read_chars
line_52 = refl

line_53 : read_chars One (codes "(a\n b\n  $") ≡ Err 3
unfolding reserved_marks delimiter operator numeral Q.escape Q.item Q.closes Q.body Q.quoted token_piece lexeme cut indented begin bracket step layout encode_utf8 code_of E.keyword_begins E.another E.argument E.attribute E.call E.slice_after E.item_or_slice E.trailer E.parenthesised E.list E.pair E.dict E.atom E.primary_parts E.primary E.power E.unary_level E.term E.sum E.compared E.negated_level E.conjunction E.disjunction E.expr_level E.exprs_level E.phrase S.primary_at S.another_simple S.raise S.return S.assertion S.delete S.global S.import S.update_of S.assignment_of S.update_or_assignment S.simple S.simples S.line S.block S.block_after S.arm S.choice S.while S.for S.caught S.handler S.handled S.finished S.try S.parameter S.definition S.define S.compound S.chunk S.program R.piece read_chars
line_53 = refl

line_54 : read_chars One (codes "x\nglobal y\n") ≡ Err 2
unfolding reserved_marks delimiter operator numeral Q.escape Q.item Q.closes Q.body Q.quoted token_piece lexeme cut indented begin bracket step layout encode_utf8 code_of E.keyword_begins E.another E.argument E.attribute E.call E.slice_after E.item_or_slice E.trailer E.parenthesised E.list E.pair E.dict E.atom E.primary_parts E.primary E.power E.unary_level E.term E.sum E.compared E.negated_level E.conjunction E.disjunction E.expr_level E.exprs_level E.phrase S.primary_at S.another_simple S.raise S.return S.assertion S.delete S.global S.import S.update_of S.assignment_of S.update_or_assignment S.simple S.simples S.line S.block S.block_after S.arm S.choice S.while S.for S.caught S.handler S.handled S.finished S.try S.parameter S.definition S.define S.compound S.chunk S.program R.piece read_chars
line_54 = refl

line_55 : read_chars One (codes "a\n(b) += 1\n") ≡ Err 2
unfolding reserved_marks delimiter operator numeral Q.escape Q.item Q.closes Q.body Q.quoted token_piece lexeme cut indented begin bracket step layout encode_utf8 code_of E.keyword_begins E.another E.argument E.attribute E.call E.slice_after E.item_or_slice E.trailer E.parenthesised E.list E.pair E.dict E.atom E.primary_parts E.primary E.power E.unary_level E.term E.sum E.compared E.negated_level E.conjunction E.disjunction E.expr_level E.exprs_level E.phrase S.primary_at S.another_simple S.raise S.return S.assertion S.delete S.global S.import S.update_of S.assignment_of S.update_or_assignment S.simple S.simples S.line S.block S.block_after S.arm S.choice S.while S.for S.caught S.handler S.handled S.finished S.try S.parameter S.definition S.define S.compound S.chunk S.program R.piece read_chars
line_55 = refl

line_56 : read_chars One (codes "for a in b:\n  c\ndel (d)\n") ≡ Err 3
unfolding reserved_marks delimiter operator numeral Q.escape Q.item Q.closes Q.body Q.quoted token_piece lexeme cut indented begin bracket step layout encode_utf8 code_of E.keyword_begins E.another E.argument E.attribute E.call E.slice_after E.item_or_slice E.trailer E.parenthesised E.list E.pair E.dict E.atom E.primary_parts E.primary E.power E.unary_level E.term E.sum E.compared E.negated_level E.conjunction E.disjunction E.expr_level E.exprs_level E.phrase S.primary_at S.another_simple S.raise S.return S.assertion S.delete S.global S.import S.update_of S.assignment_of S.update_or_assignment S.simple S.simples S.line S.block S.block_after S.arm S.choice S.while S.for S.caught S.handler S.handled S.finished S.try S.parameter S.definition S.define S.compound S.chunk S.program R.piece read_chars
line_56 = refl

line_57 : read_chars One (codes "def f():\n  def g(): a\nb\n") ≡ Err 1
unfolding reserved_marks delimiter operator numeral Q.escape Q.item Q.closes Q.body Q.quoted token_piece lexeme cut indented begin bracket step layout encode_utf8 code_of E.keyword_begins E.another E.argument E.attribute E.call E.slice_after E.item_or_slice E.trailer E.parenthesised E.list E.pair E.dict E.atom E.primary_parts E.primary E.power E.unary_level E.term E.sum E.compared E.negated_level E.conjunction E.disjunction E.expr_level E.exprs_level E.phrase S.primary_at S.another_simple S.raise S.return S.assertion S.delete S.global S.import S.update_of S.assignment_of S.update_or_assignment S.simple S.simples S.line S.block S.block_after S.arm S.choice S.while S.for S.caught S.handler S.handled S.finished S.try S.parameter S.definition S.define S.compound S.chunk S.program R.piece read_chars
line_57 = refl

line_58 : read_chars One (codes "a\nraise\n") ≡ Err 2
unfolding reserved_marks delimiter operator numeral Q.escape Q.item Q.closes Q.body Q.quoted token_piece lexeme cut indented begin bracket step layout encode_utf8 code_of E.keyword_begins E.another E.argument E.attribute E.call E.slice_after E.item_or_slice E.trailer E.parenthesised E.list E.pair E.dict E.atom E.primary_parts E.primary E.power E.unary_level E.term E.sum E.compared E.negated_level E.conjunction E.disjunction E.expr_level E.exprs_level E.phrase S.primary_at S.another_simple S.raise S.return S.assertion S.delete S.global S.import S.update_of S.assignment_of S.update_or_assignment S.simple S.simples S.line S.block S.block_after S.arm S.choice S.while S.for S.caught S.handler S.handled S.finished S.try S.parameter S.definition S.define S.compound S.chunk S.program R.piece read_chars
line_58 = refl

line_59 : read_chars One (codes "a\n\nclass b: c\n") ≡ Err 3
unfolding reserved_marks delimiter operator numeral Q.escape Q.item Q.closes Q.body Q.quoted token_piece lexeme cut indented begin bracket step layout encode_utf8 code_of E.keyword_begins E.another E.argument E.attribute E.call E.slice_after E.item_or_slice E.trailer E.parenthesised E.list E.pair E.dict E.atom E.primary_parts E.primary E.power E.unary_level E.term E.sum E.compared E.negated_level E.conjunction E.disjunction E.expr_level E.exprs_level E.phrase S.primary_at S.another_simple S.raise S.return S.assertion S.delete S.global S.import S.update_of S.assignment_of S.update_or_assignment S.simple S.simples S.line S.block S.block_after S.arm S.choice S.while S.for S.caught S.handler S.handled S.finished S.try S.parameter S.definition S.define S.compound S.chunk S.program R.piece read_chars
line_59 = refl

line_60 : read_chars One (codes "a\nb\n[c for d in e]\n") ≡ Err 3
unfolding reserved_marks delimiter operator numeral Q.escape Q.item Q.closes Q.body Q.quoted token_piece lexeme cut indented begin bracket step layout encode_utf8 code_of E.keyword_begins E.another E.argument E.attribute E.call E.slice_after E.item_or_slice E.trailer E.parenthesised E.list E.pair E.dict E.atom E.primary_parts E.primary E.power E.unary_level E.term E.sum E.compared E.negated_level E.conjunction E.disjunction E.expr_level E.exprs_level E.phrase S.primary_at S.another_simple S.raise S.return S.assertion S.delete S.global S.import S.update_of S.assignment_of S.update_or_assignment S.simple S.simples S.line S.block S.block_after S.arm S.choice S.while S.for S.caught S.handler S.handled S.finished S.try S.parameter S.definition S.define S.compound S.chunk S.program R.piece read_chars
line_60 = refl

line_61 : read_chars One (codes "a\n\\\n\\\nlambda: b\n") ≡ Err 4
unfolding reserved_marks delimiter operator numeral Q.escape Q.item Q.closes Q.body Q.quoted token_piece lexeme cut indented begin bracket step layout encode_utf8 code_of E.keyword_begins E.another E.argument E.attribute E.call E.slice_after E.item_or_slice E.trailer E.parenthesised E.list E.pair E.dict E.atom E.primary_parts E.primary E.power E.unary_level E.term E.sum E.compared E.negated_level E.conjunction E.disjunction E.expr_level E.exprs_level E.phrase S.primary_at S.another_simple S.raise S.return S.assertion S.delete S.global S.import S.update_of S.assignment_of S.update_or_assignment S.simple S.simples S.line S.block S.block_after S.arm S.choice S.while S.for S.caught S.handler S.handled S.finished S.try S.parameter S.definition S.define S.compound S.chunk S.program R.piece read_chars
line_61 = refl

line_62 : read_chars One (codes "if a:\n  b\nelse:\n  lambda: c\nd\n") ≡ Err 1
unfolding reserved_marks delimiter operator numeral Q.escape Q.item Q.closes Q.body Q.quoted token_piece lexeme cut indented begin bracket step layout encode_utf8 code_of E.keyword_begins E.another E.argument E.attribute E.call E.slice_after E.item_or_slice E.trailer E.parenthesised E.list E.pair E.dict E.atom E.primary_parts E.primary E.power E.unary_level E.term E.sum E.compared E.negated_level E.conjunction E.disjunction E.expr_level E.exprs_level E.phrase S.primary_at S.another_simple S.raise S.return S.assertion S.delete S.global S.import S.update_of S.assignment_of S.update_or_assignment S.simple S.simples S.line S.block S.block_after S.arm S.choice S.while S.for S.caught S.handler S.handled S.finished S.try S.parameter S.definition S.define S.compound S.chunk S.program R.piece read_chars
line_62 = refl

line_63 : read_chars One (codes "a\n\nwhile b: c\nelse: d\n") ≡ Err 3
unfolding reserved_marks delimiter operator numeral Q.escape Q.item Q.closes Q.body Q.quoted token_piece lexeme cut indented begin bracket step layout encode_utf8 code_of E.keyword_begins E.another E.argument E.attribute E.call E.slice_after E.item_or_slice E.trailer E.parenthesised E.list E.pair E.dict E.atom E.primary_parts E.primary E.power E.unary_level E.term E.sum E.compared E.negated_level E.conjunction E.disjunction E.expr_level E.exprs_level E.phrase S.primary_at S.another_simple S.raise S.return S.assertion S.delete S.global S.import S.update_of S.assignment_of S.update_or_assignment S.simple S.simples S.line S.block S.block_after S.arm S.choice S.while S.for S.caught S.handler S.handled S.finished S.try S.parameter S.definition S.define S.compound S.chunk S.program R.piece read_chars
line_63 = refl
