-- Which trees some texts have: computed on the definition. Made by tools/rows/trees.py.
use Rattle.std.proofs.Common.{◌≡◌, ◌∷◌, [], refl}
use Rattle.std.specs.Prelude.{pos, codes, Some, None, Ok}
use Rattle.std.specs.Char.{encode_utf8}
use Rattle.kishu_language.specs.declared.profile.Profile.TheVariants.{One}
use Rattle.kishu_language.specs.declared.tree.Operator.TheVariants as o
use Rattle.kishu_language.specs.declared.tree.Sign.TheVariants as s
use Rattle.kishu_language.specs.declared.tree.Comparison.TheVariants as c
use Rattle.kishu_language.specs.tokens.Marks.{reserved_marks, delimiter, operator}
use Rattle.kishu_language.specs.tokens.Numerals.{numeral}
use Rattle.kishu_language.specs.tokens.Quoted as Q
use Rattle.kishu_language.specs.tokens.Lexemes.{token_piece, lexeme}
use Rattle.kishu_language.specs.tokens.Layout.{cut, indented, begin, bracket, step, layout}
use Rattle.kishu_language.specs.trees.Tree.{expressions, operands, links, pairs, trailers, arguments, statements, arms, handlers, absent, bound}
use Rattle.kishu_language.specs.trees.Tree as t
use Rattle.kishu_language.specs.trees.Code.{code_of}
use Rattle.kishu_language.specs.reading.ReadExpressions as E
use Rattle.kishu_language.specs.reading.ReadStatements as S
use Rattle.kishu_language.specs.reading.ReadText as R
use Rattle.kishu_language.specs.reading.ReadText.{read_chars}

tree_1 : read_chars One (codes "") ≡ Ok ([])
unfolding reserved_marks delimiter operator numeral Q.escape Q.item Q.closes Q.body Q.quoted token_piece lexeme cut indented begin bracket step layout encode_utf8 code_of E.keyword_begins E.another E.argument E.attribute E.call E.slice_after E.item_or_slice E.trailer E.parenthesised E.list E.pair E.dict E.atom E.primary_parts E.primary E.power E.unary_level E.term E.sum E.compared E.negated_level E.conjunction E.disjunction E.expr_level E.exprs_level E.phrase S.primary_at S.another_simple S.raise S.return S.assertion S.delete S.global S.import S.update_of S.assignment_of S.update_or_assignment S.simple S.simples S.line S.block S.block_after S.arm S.choice S.while S.for S.caught S.handler S.handled S.finished S.try S.parameter S.definition S.define S.compound S.chunk S.program R.piece read_chars
tree_1 = refl

tree_2 : read_chars One (codes "x\n") ≡ Ok (t.assign [] (t.name (codes "x")) ∷ [])
unfolding reserved_marks delimiter operator numeral Q.escape Q.item Q.closes Q.body Q.quoted token_piece lexeme cut indented begin bracket step layout encode_utf8 code_of E.keyword_begins E.another E.argument E.attribute E.call E.slice_after E.item_or_slice E.trailer E.parenthesised E.list E.pair E.dict E.atom E.primary_parts E.primary E.power E.unary_level E.term E.sum E.compared E.negated_level E.conjunction E.disjunction E.expr_level E.exprs_level E.phrase S.primary_at S.another_simple S.raise S.return S.assertion S.delete S.global S.import S.update_of S.assignment_of S.update_or_assignment S.simple S.simples S.line S.block S.block_after S.arm S.choice S.while S.for S.caught S.handler S.handled S.finished S.try S.parameter S.definition S.define S.compound S.chunk S.program R.piece read_chars
tree_2 = refl

tree_3 : read_chars One (codes "x = 1\n") ≡ Ok (t.assign ((t.name (codes "x")) ∷ []) (t.integer (pos 1)) ∷ [])
unfolding reserved_marks delimiter operator numeral Q.escape Q.item Q.closes Q.body Q.quoted token_piece lexeme cut indented begin bracket step layout encode_utf8 code_of E.keyword_begins E.another E.argument E.attribute E.call E.slice_after E.item_or_slice E.trailer E.parenthesised E.list E.pair E.dict E.atom E.primary_parts E.primary E.power E.unary_level E.term E.sum E.compared E.negated_level E.conjunction E.disjunction E.expr_level E.exprs_level E.phrase S.primary_at S.another_simple S.raise S.return S.assertion S.delete S.global S.import S.update_of S.assignment_of S.update_or_assignment S.simple S.simples S.line S.block S.block_after S.arm S.choice S.while S.for S.caught S.handler S.handled S.finished S.try S.parameter S.definition S.define S.compound S.chunk S.program R.piece read_chars
tree_3 = refl

tree_4 : read_chars One (codes "a = b = c, d\n") ≡ Ok (t.assign ((t.name (codes "a")) ∷ (t.name (codes "b")) ∷ []) (t.tuple (expressions ((t.name (codes "c")) ∷ (t.name (codes "d")) ∷ []))) ∷ [])
unfolding reserved_marks delimiter operator numeral Q.escape Q.item Q.closes Q.body Q.quoted token_piece lexeme cut indented begin bracket step layout encode_utf8 code_of E.keyword_begins E.another E.argument E.attribute E.call E.slice_after E.item_or_slice E.trailer E.parenthesised E.list E.pair E.dict E.atom E.primary_parts E.primary E.power E.unary_level E.term E.sum E.compared E.negated_level E.conjunction E.disjunction E.expr_level E.exprs_level E.phrase S.primary_at S.another_simple S.raise S.return S.assertion S.delete S.global S.import S.update_of S.assignment_of S.update_or_assignment S.simple S.simples S.line S.block S.block_after S.arm S.choice S.while S.for S.caught S.handler S.handled S.finished S.try S.parameter S.definition S.define S.compound S.chunk S.program R.piece read_chars
tree_4 = refl

tree_5 : read_chars One (codes "a, b = b, a\n") ≡ Ok (t.assign ((t.tuple (expressions ((t.name (codes "a")) ∷ (t.name (codes "b")) ∷ []))) ∷ []) (t.tuple (expressions ((t.name (codes "b")) ∷ (t.name (codes "a")) ∷ []))) ∷ [])
unfolding reserved_marks delimiter operator numeral Q.escape Q.item Q.closes Q.body Q.quoted token_piece lexeme cut indented begin bracket step layout encode_utf8 code_of E.keyword_begins E.another E.argument E.attribute E.call E.slice_after E.item_or_slice E.trailer E.parenthesised E.list E.pair E.dict E.atom E.primary_parts E.primary E.power E.unary_level E.term E.sum E.compared E.negated_level E.conjunction E.disjunction E.expr_level E.exprs_level E.phrase S.primary_at S.another_simple S.raise S.return S.assertion S.delete S.global S.import S.update_of S.assignment_of S.update_or_assignment S.simple S.simples S.line S.block S.block_after S.arm S.choice S.while S.for S.caught S.handler S.handled S.finished S.try S.parameter S.definition S.define S.compound S.chunk S.program R.piece read_chars
tree_5 = refl

tree_6 : read_chars One (codes "a, = x\n") ≡ Ok (t.assign ((t.tuple (expressions ((t.name (codes "a")) ∷ []))) ∷ []) (t.name (codes "x")) ∷ [])
unfolding reserved_marks delimiter operator numeral Q.escape Q.item Q.closes Q.body Q.quoted token_piece lexeme cut indented begin bracket step layout encode_utf8 code_of E.keyword_begins E.another E.argument E.attribute E.call E.slice_after E.item_or_slice E.trailer E.parenthesised E.list E.pair E.dict E.atom E.primary_parts E.primary E.power E.unary_level E.term E.sum E.compared E.negated_level E.conjunction E.disjunction E.expr_level E.exprs_level E.phrase S.primary_at S.another_simple S.raise S.return S.assertion S.delete S.global S.import S.update_of S.assignment_of S.update_or_assignment S.simple S.simples S.line S.block S.block_after S.arm S.choice S.while S.for S.caught S.handler S.handled S.finished S.try S.parameter S.definition S.define S.compound S.chunk S.program R.piece read_chars
tree_6 = refl

tree_7 : read_chars One (codes "(a, b), [c, d] = x\n") ≡ Ok (t.assign ((t.tuple (expressions ((t.paren (t.tuple (expressions ((t.name (codes "a")) ∷ (t.name (codes "b")) ∷ [])))) ∷ (t.list (expressions ((t.name (codes "c")) ∷ (t.name (codes "d")) ∷ []))) ∷ []))) ∷ []) (t.name (codes "x")) ∷ [])
unfolding reserved_marks delimiter operator numeral Q.escape Q.item Q.closes Q.body Q.quoted token_piece lexeme cut indented begin bracket step layout encode_utf8 code_of E.keyword_begins E.another E.argument E.attribute E.call E.slice_after E.item_or_slice E.trailer E.parenthesised E.list E.pair E.dict E.atom E.primary_parts E.primary E.power E.unary_level E.term E.sum E.compared E.negated_level E.conjunction E.disjunction E.expr_level E.exprs_level E.phrase S.primary_at S.another_simple S.raise S.return S.assertion S.delete S.global S.import S.update_of S.assignment_of S.update_or_assignment S.simple S.simples S.line S.block S.block_after S.arm S.choice S.while S.for S.caught S.handler S.handled S.finished S.try S.parameter S.definition S.define S.compound S.chunk S.program R.piece read_chars
tree_7 = refl

tree_8 : read_chars One (codes "(a) = [b] = x\n") ≡ Ok (t.assign ((t.paren (t.name (codes "a"))) ∷ (t.list (expressions ((t.name (codes "b")) ∷ []))) ∷ []) (t.name (codes "x")) ∷ [])
unfolding reserved_marks delimiter operator numeral Q.escape Q.item Q.closes Q.body Q.quoted token_piece lexeme cut indented begin bracket step layout encode_utf8 code_of E.keyword_begins E.another E.argument E.attribute E.call E.slice_after E.item_or_slice E.trailer E.parenthesised E.list E.pair E.dict E.atom E.primary_parts E.primary E.power E.unary_level E.term E.sum E.compared E.negated_level E.conjunction E.disjunction E.expr_level E.exprs_level E.phrase S.primary_at S.another_simple S.raise S.return S.assertion S.delete S.global S.import S.update_of S.assignment_of S.update_or_assignment S.simple S.simples S.line S.block S.block_after S.arm S.choice S.while S.for S.caught S.handler S.handled S.finished S.try S.parameter S.definition S.define S.compound S.chunk S.program R.piece read_chars
tree_8 = refl

tree_9 : read_chars One (codes "a.b = c[1] = d[1, 2] = x\n") ≡ Ok (t.assign ((t.primary (t.name (codes "a")) (trailers (t.attribute (codes "b") ∷ []))) ∷ (t.primary (t.name (codes "c")) (trailers (t.index (t.integer (pos 1)) ∷ []))) ∷ (t.primary (t.name (codes "d")) (trailers (t.index (t.tuple (expressions ((t.integer (pos 1)) ∷ (t.integer (pos 2)) ∷ []))) ∷ []))) ∷ []) (t.name (codes "x")) ∷ [])
unfolding reserved_marks delimiter operator numeral Q.escape Q.item Q.closes Q.body Q.quoted token_piece lexeme cut indented begin bracket step layout encode_utf8 code_of E.keyword_begins E.another E.argument E.attribute E.call E.slice_after E.item_or_slice E.trailer E.parenthesised E.list E.pair E.dict E.atom E.primary_parts E.primary E.power E.unary_level E.term E.sum E.compared E.negated_level E.conjunction E.disjunction E.expr_level E.exprs_level E.phrase S.primary_at S.another_simple S.raise S.return S.assertion S.delete S.global S.import S.update_of S.assignment_of S.update_or_assignment S.simple S.simples S.line S.block S.block_after S.arm S.choice S.while S.for S.caught S.handler S.handled S.finished S.try S.parameter S.definition S.define S.compound S.chunk S.program R.piece read_chars
tree_9 = refl

tree_10 : read_chars One (codes "a.b(c).d[e].f = 1\n") ≡ Ok (t.assign ((t.primary (t.name (codes "a")) (trailers (t.attribute (codes "b") ∷ t.call (arguments (t.plain (t.name (codes "c")) ∷ [])) ∷ t.attribute (codes "d") ∷ t.index (t.name (codes "e")) ∷ t.attribute (codes "f") ∷ []))) ∷ []) (t.integer (pos 1)) ∷ [])
unfolding reserved_marks delimiter operator numeral Q.escape Q.item Q.closes Q.body Q.quoted token_piece lexeme cut indented begin bracket step layout encode_utf8 code_of E.keyword_begins E.another E.argument E.attribute E.call E.slice_after E.item_or_slice E.trailer E.parenthesised E.list E.pair E.dict E.atom E.primary_parts E.primary E.power E.unary_level E.term E.sum E.compared E.negated_level E.conjunction E.disjunction E.expr_level E.exprs_level E.phrase S.primary_at S.another_simple S.raise S.return S.assertion S.delete S.global S.import S.update_of S.assignment_of S.update_or_assignment S.simple S.simples S.line S.block S.block_after S.arm S.choice S.while S.for S.caught S.handler S.handled S.finished S.try S.parameter S.definition S.define S.compound S.chunk S.program R.piece read_chars
tree_10 = refl

tree_11 : read_chars One (codes "a += 1, 2\n") ≡ Ok (t.update (t.name (codes "a")) o.Add (t.tuple (expressions ((t.integer (pos 1)) ∷ (t.integer (pos 2)) ∷ []))) ∷ [])
unfolding reserved_marks delimiter operator numeral Q.escape Q.item Q.closes Q.body Q.quoted token_piece lexeme cut indented begin bracket step layout encode_utf8 code_of E.keyword_begins E.another E.argument E.attribute E.call E.slice_after E.item_or_slice E.trailer E.parenthesised E.list E.pair E.dict E.atom E.primary_parts E.primary E.power E.unary_level E.term E.sum E.compared E.negated_level E.conjunction E.disjunction E.expr_level E.exprs_level E.phrase S.primary_at S.another_simple S.raise S.return S.assertion S.delete S.global S.import S.update_of S.assignment_of S.update_or_assignment S.simple S.simples S.line S.block S.block_after S.arm S.choice S.while S.for S.caught S.handler S.handled S.finished S.try S.parameter S.definition S.define S.compound S.chunk S.program R.piece read_chars
tree_11 = refl

tree_12 : read_chars One (codes "a.b -= 1; a[0] *= 2; a //= 3; a %= 4; a **= 5\n") ≡ Ok (t.update (t.primary (t.name (codes "a")) (trailers (t.attribute (codes "b") ∷ []))) o.Subtract (t.integer (pos 1)) ∷ t.update (t.primary (t.name (codes "a")) (trailers (t.index (t.integer (pos 0)) ∷ []))) o.Multiply (t.integer (pos 2)) ∷ t.update (t.name (codes "a")) o.FloorDivide (t.integer (pos 3)) ∷ t.update (t.name (codes "a")) o.Modulo (t.integer (pos 4)) ∷ t.update (t.name (codes "a")) o.Power (t.integer (pos 5)) ∷ [])
unfolding reserved_marks delimiter operator numeral Q.escape Q.item Q.closes Q.body Q.quoted token_piece lexeme cut indented begin bracket step layout encode_utf8 code_of E.keyword_begins E.another E.argument E.attribute E.call E.slice_after E.item_or_slice E.trailer E.parenthesised E.list E.pair E.dict E.atom E.primary_parts E.primary E.power E.unary_level E.term E.sum E.compared E.negated_level E.conjunction E.disjunction E.expr_level E.exprs_level E.phrase S.primary_at S.another_simple S.raise S.return S.assertion S.delete S.global S.import S.update_of S.assignment_of S.update_or_assignment S.simple S.simples S.line S.block S.block_after S.arm S.choice S.while S.for S.caught S.handler S.handled S.finished S.try S.parameter S.definition S.define S.compound S.chunk S.program R.piece read_chars
tree_12 = refl

tree_13 : read_chars One (codes "1 + 2 - 3 + 4\n") ≡ Ok (t.assign [] (t.sum (t.integer (pos 1)) (operands ((o.Add, (t.integer (pos 2))) ∷ (o.Subtract, (t.integer (pos 3))) ∷ (o.Add, (t.integer (pos 4))) ∷ []))) ∷ [])
unfolding reserved_marks delimiter operator numeral Q.escape Q.item Q.closes Q.body Q.quoted token_piece lexeme cut indented begin bracket step layout encode_utf8 code_of E.keyword_begins E.another E.argument E.attribute E.call E.slice_after E.item_or_slice E.trailer E.parenthesised E.list E.pair E.dict E.atom E.primary_parts E.primary E.power E.unary_level E.term E.sum E.compared E.negated_level E.conjunction E.disjunction E.expr_level E.exprs_level E.phrase S.primary_at S.another_simple S.raise S.return S.assertion S.delete S.global S.import S.update_of S.assignment_of S.update_or_assignment S.simple S.simples S.line S.block S.block_after S.arm S.choice S.while S.for S.caught S.handler S.handled S.finished S.try S.parameter S.definition S.define S.compound S.chunk S.program R.piece read_chars
tree_13 = refl

tree_14 : read_chars One (codes "1 * 2 // 3 % 4 + 5\n") ≡ Ok (t.assign [] (t.sum (t.product (t.integer (pos 1)) (operands ((o.Multiply, (t.integer (pos 2))) ∷ (o.FloorDivide, (t.integer (pos 3))) ∷ (o.Modulo, (t.integer (pos 4))) ∷ []))) (operands ((o.Add, (t.integer (pos 5))) ∷ []))) ∷ [])
unfolding reserved_marks delimiter operator numeral Q.escape Q.item Q.closes Q.body Q.quoted token_piece lexeme cut indented begin bracket step layout encode_utf8 code_of E.keyword_begins E.another E.argument E.attribute E.call E.slice_after E.item_or_slice E.trailer E.parenthesised E.list E.pair E.dict E.atom E.primary_parts E.primary E.power E.unary_level E.term E.sum E.compared E.negated_level E.conjunction E.disjunction E.expr_level E.exprs_level E.phrase S.primary_at S.another_simple S.raise S.return S.assertion S.delete S.global S.import S.update_of S.assignment_of S.update_or_assignment S.simple S.simples S.line S.block S.block_after S.arm S.choice S.while S.for S.caught S.handler S.handled S.finished S.try S.parameter S.definition S.define S.compound S.chunk S.program R.piece read_chars
tree_14 = refl

tree_15 : read_chars One (codes "(1 + 2) * 3\n") ≡ Ok (t.assign [] (t.product (t.paren (t.sum (t.integer (pos 1)) (operands ((o.Add, (t.integer (pos 2))) ∷ [])))) (operands ((o.Multiply, (t.integer (pos 3))) ∷ []))) ∷ [])
unfolding reserved_marks delimiter operator numeral Q.escape Q.item Q.closes Q.body Q.quoted token_piece lexeme cut indented begin bracket step layout encode_utf8 code_of E.keyword_begins E.another E.argument E.attribute E.call E.slice_after E.item_or_slice E.trailer E.parenthesised E.list E.pair E.dict E.atom E.primary_parts E.primary E.power E.unary_level E.term E.sum E.compared E.negated_level E.conjunction E.disjunction E.expr_level E.exprs_level E.phrase S.primary_at S.another_simple S.raise S.return S.assertion S.delete S.global S.import S.update_of S.assignment_of S.update_or_assignment S.simple S.simples S.line S.block S.block_after S.arm S.choice S.while S.for S.caught S.handler S.handled S.finished S.try S.parameter S.definition S.define S.compound S.chunk S.program R.piece read_chars
tree_15 = refl

tree_16 : read_chars One (codes "1 + (2 + 3)\n") ≡ Ok (t.assign [] (t.sum (t.integer (pos 1)) (operands ((o.Add, (t.paren (t.sum (t.integer (pos 2)) (operands ((o.Add, (t.integer (pos 3))) ∷ []))))) ∷ []))) ∷ [])
unfolding reserved_marks delimiter operator numeral Q.escape Q.item Q.closes Q.body Q.quoted token_piece lexeme cut indented begin bracket step layout encode_utf8 code_of E.keyword_begins E.another E.argument E.attribute E.call E.slice_after E.item_or_slice E.trailer E.parenthesised E.list E.pair E.dict E.atom E.primary_parts E.primary E.power E.unary_level E.term E.sum E.compared E.negated_level E.conjunction E.disjunction E.expr_level E.exprs_level E.phrase S.primary_at S.another_simple S.raise S.return S.assertion S.delete S.global S.import S.update_of S.assignment_of S.update_or_assignment S.simple S.simples S.line S.block S.block_after S.arm S.choice S.while S.for S.caught S.handler S.handled S.finished S.try S.parameter S.definition S.define S.compound S.chunk S.program R.piece read_chars
tree_16 = refl

tree_17 : read_chars One (codes "-1 + +2 - -3\n") ≡ Ok (t.assign [] (t.sum (t.signed s.Minus (t.integer (pos 1))) (operands ((o.Add, (t.signed s.Plus (t.integer (pos 2)))) ∷ (o.Subtract, (t.signed s.Minus (t.integer (pos 3)))) ∷ []))) ∷ [])
unfolding reserved_marks delimiter operator numeral Q.escape Q.item Q.closes Q.body Q.quoted token_piece lexeme cut indented begin bracket step layout encode_utf8 code_of E.keyword_begins E.another E.argument E.attribute E.call E.slice_after E.item_or_slice E.trailer E.parenthesised E.list E.pair E.dict E.atom E.primary_parts E.primary E.power E.unary_level E.term E.sum E.compared E.negated_level E.conjunction E.disjunction E.expr_level E.exprs_level E.phrase S.primary_at S.another_simple S.raise S.return S.assertion S.delete S.global S.import S.update_of S.assignment_of S.update_or_assignment S.simple S.simples S.line S.block S.block_after S.arm S.choice S.while S.for S.caught S.handler S.handled S.finished S.try S.parameter S.definition S.define S.compound S.chunk S.program R.piece read_chars
tree_17 = refl

tree_18 : read_chars One (codes "-a ** -b ** c\n") ≡ Ok (t.assign [] (t.signed s.Minus (t.power (t.name (codes "a")) (t.signed s.Minus (t.power (t.name (codes "b")) (t.name (codes "c")))))) ∷ [])
unfolding reserved_marks delimiter operator numeral Q.escape Q.item Q.closes Q.body Q.quoted token_piece lexeme cut indented begin bracket step layout encode_utf8 code_of E.keyword_begins E.another E.argument E.attribute E.call E.slice_after E.item_or_slice E.trailer E.parenthesised E.list E.pair E.dict E.atom E.primary_parts E.primary E.power E.unary_level E.term E.sum E.compared E.negated_level E.conjunction E.disjunction E.expr_level E.exprs_level E.phrase S.primary_at S.another_simple S.raise S.return S.assertion S.delete S.global S.import S.update_of S.assignment_of S.update_or_assignment S.simple S.simples S.line S.block S.block_after S.arm S.choice S.while S.for S.caught S.handler S.handled S.finished S.try S.parameter S.definition S.define S.compound S.chunk S.program R.piece read_chars
tree_18 = refl

tree_19 : read_chars One (codes "a ** b ** c\n") ≡ Ok (t.assign [] (t.power (t.name (codes "a")) (t.power (t.name (codes "b")) (t.name (codes "c")))) ∷ [])
unfolding reserved_marks delimiter operator numeral Q.escape Q.item Q.closes Q.body Q.quoted token_piece lexeme cut indented begin bracket step layout encode_utf8 code_of E.keyword_begins E.another E.argument E.attribute E.call E.slice_after E.item_or_slice E.trailer E.parenthesised E.list E.pair E.dict E.atom E.primary_parts E.primary E.power E.unary_level E.term E.sum E.compared E.negated_level E.conjunction E.disjunction E.expr_level E.exprs_level E.phrase S.primary_at S.another_simple S.raise S.return S.assertion S.delete S.global S.import S.update_of S.assignment_of S.update_or_assignment S.simple S.simples S.line S.block S.block_after S.arm S.choice S.while S.for S.caught S.handler S.handled S.finished S.try S.parameter S.definition S.define S.compound S.chunk S.program R.piece read_chars
tree_19 = refl

tree_20 : read_chars One (codes "a < b <= c > d >= e == f != g\n") ≡ Ok (t.assign [] (t.compared (t.name (codes "a")) (links ((c.Less, (t.name (codes "b"))) ∷ (c.LessEqual, (t.name (codes "c"))) ∷ (c.Greater, (t.name (codes "d"))) ∷ (c.GreaterEqual, (t.name (codes "e"))) ∷ (c.Equal, (t.name (codes "f"))) ∷ (c.NotEqual, (t.name (codes "g"))) ∷ []))) ∷ [])
unfolding reserved_marks delimiter operator numeral Q.escape Q.item Q.closes Q.body Q.quoted token_piece lexeme cut indented begin bracket step layout encode_utf8 code_of E.keyword_begins E.another E.argument E.attribute E.call E.slice_after E.item_or_slice E.trailer E.parenthesised E.list E.pair E.dict E.atom E.primary_parts E.primary E.power E.unary_level E.term E.sum E.compared E.negated_level E.conjunction E.disjunction E.expr_level E.exprs_level E.phrase S.primary_at S.another_simple S.raise S.return S.assertion S.delete S.global S.import S.update_of S.assignment_of S.update_or_assignment S.simple S.simples S.line S.block S.block_after S.arm S.choice S.while S.for S.caught S.handler S.handled S.finished S.try S.parameter S.definition S.define S.compound S.chunk S.program R.piece read_chars
tree_20 = refl

tree_21 : read_chars One (codes "a in b not in c is d is not e\n") ≡ Ok (t.assign [] (t.compared (t.name (codes "a")) (links ((c.In, (t.name (codes "b"))) ∷ (c.NotIn, (t.name (codes "c"))) ∷ (c.Is, (t.name (codes "d"))) ∷ (c.IsNot, (t.name (codes "e"))) ∷ []))) ∷ [])
unfolding reserved_marks delimiter operator numeral Q.escape Q.item Q.closes Q.body Q.quoted token_piece lexeme cut indented begin bracket step layout encode_utf8 code_of E.keyword_begins E.another E.argument E.attribute E.call E.slice_after E.item_or_slice E.trailer E.parenthesised E.list E.pair E.dict E.atom E.primary_parts E.primary E.power E.unary_level E.term E.sum E.compared E.negated_level E.conjunction E.disjunction E.expr_level E.exprs_level E.phrase S.primary_at S.another_simple S.raise S.return S.assertion S.delete S.global S.import S.update_of S.assignment_of S.update_or_assignment S.simple S.simples S.line S.block S.block_after S.arm S.choice S.while S.for S.caught S.handler S.handled S.finished S.try S.parameter S.definition S.define S.compound S.chunk S.program R.piece read_chars
tree_21 = refl

tree_22 : read_chars One (codes "(a < b) < c\n") ≡ Ok (t.assign [] (t.compared (t.paren (t.compared (t.name (codes "a")) (links ((c.Less, (t.name (codes "b"))) ∷ [])))) (links ((c.Less, (t.name (codes "c"))) ∷ []))) ∷ [])
unfolding reserved_marks delimiter operator numeral Q.escape Q.item Q.closes Q.body Q.quoted token_piece lexeme cut indented begin bracket step layout encode_utf8 code_of E.keyword_begins E.another E.argument E.attribute E.call E.slice_after E.item_or_slice E.trailer E.parenthesised E.list E.pair E.dict E.atom E.primary_parts E.primary E.power E.unary_level E.term E.sum E.compared E.negated_level E.conjunction E.disjunction E.expr_level E.exprs_level E.phrase S.primary_at S.another_simple S.raise S.return S.assertion S.delete S.global S.import S.update_of S.assignment_of S.update_or_assignment S.simple S.simples S.line S.block S.block_after S.arm S.choice S.while S.for S.caught S.handler S.handled S.finished S.try S.parameter S.definition S.define S.compound S.chunk S.program R.piece read_chars
tree_22 = refl

tree_23 : read_chars One (codes "not a == b\n") ≡ Ok (t.assign [] (t.not (t.compared (t.name (codes "a")) (links ((c.Equal, (t.name (codes "b"))) ∷ [])))) ∷ [])
unfolding reserved_marks delimiter operator numeral Q.escape Q.item Q.closes Q.body Q.quoted token_piece lexeme cut indented begin bracket step layout encode_utf8 code_of E.keyword_begins E.another E.argument E.attribute E.call E.slice_after E.item_or_slice E.trailer E.parenthesised E.list E.pair E.dict E.atom E.primary_parts E.primary E.power E.unary_level E.term E.sum E.compared E.negated_level E.conjunction E.disjunction E.expr_level E.exprs_level E.phrase S.primary_at S.another_simple S.raise S.return S.assertion S.delete S.global S.import S.update_of S.assignment_of S.update_or_assignment S.simple S.simples S.line S.block S.block_after S.arm S.choice S.while S.for S.caught S.handler S.handled S.finished S.try S.parameter S.definition S.define S.compound S.chunk S.program R.piece read_chars
tree_23 = refl

tree_24 : read_chars One (codes "not not a and b or c and not d\n") ≡ Ok (t.assign [] (t.or (expressions ((t.and (expressions ((t.not (t.not (t.name (codes "a")))) ∷ (t.name (codes "b")) ∷ []))) ∷ (t.and (expressions ((t.name (codes "c")) ∷ (t.not (t.name (codes "d"))) ∷ []))) ∷ []))) ∷ [])
unfolding reserved_marks delimiter operator numeral Q.escape Q.item Q.closes Q.body Q.quoted token_piece lexeme cut indented begin bracket step layout encode_utf8 code_of E.keyword_begins E.another E.argument E.attribute E.call E.slice_after E.item_or_slice E.trailer E.parenthesised E.list E.pair E.dict E.atom E.primary_parts E.primary E.power E.unary_level E.term E.sum E.compared E.negated_level E.conjunction E.disjunction E.expr_level E.exprs_level E.phrase S.primary_at S.another_simple S.raise S.return S.assertion S.delete S.global S.import S.update_of S.assignment_of S.update_or_assignment S.simple S.simples S.line S.block S.block_after S.arm S.choice S.while S.for S.caught S.handler S.handled S.finished S.try S.parameter S.definition S.define S.compound S.chunk S.program R.piece read_chars
tree_24 = refl

tree_25 : read_chars One (codes "a or (b or c) or d\n") ≡ Ok (t.assign [] (t.or (expressions ((t.name (codes "a")) ∷ (t.paren (t.or (expressions ((t.name (codes "b")) ∷ (t.name (codes "c")) ∷ [])))) ∷ (t.name (codes "d")) ∷ []))) ∷ [])
unfolding reserved_marks delimiter operator numeral Q.escape Q.item Q.closes Q.body Q.quoted token_piece lexeme cut indented begin bracket step layout encode_utf8 code_of E.keyword_begins E.another E.argument E.attribute E.call E.slice_after E.item_or_slice E.trailer E.parenthesised E.list E.pair E.dict E.atom E.primary_parts E.primary E.power E.unary_level E.term E.sum E.compared E.negated_level E.conjunction E.disjunction E.expr_level E.exprs_level E.phrase S.primary_at S.another_simple S.raise S.return S.assertion S.delete S.global S.import S.update_of S.assignment_of S.update_or_assignment S.simple S.simples S.line S.block S.block_after S.arm S.choice S.while S.for S.caught S.handler S.handled S.finished S.try S.parameter S.definition S.define S.compound S.chunk S.program R.piece read_chars
tree_25 = refl

tree_26 : read_chars One (codes "x if a else y if b else z\n") ≡ Ok (t.assign [] (t.conditional (t.name (codes "x")) (t.name (codes "a")) (t.conditional (t.name (codes "y")) (t.name (codes "b")) (t.name (codes "z")))) ∷ [])
unfolding reserved_marks delimiter operator numeral Q.escape Q.item Q.closes Q.body Q.quoted token_piece lexeme cut indented begin bracket step layout encode_utf8 code_of E.keyword_begins E.another E.argument E.attribute E.call E.slice_after E.item_or_slice E.trailer E.parenthesised E.list E.pair E.dict E.atom E.primary_parts E.primary E.power E.unary_level E.term E.sum E.compared E.negated_level E.conjunction E.disjunction E.expr_level E.exprs_level E.phrase S.primary_at S.another_simple S.raise S.return S.assertion S.delete S.global S.import S.update_of S.assignment_of S.update_or_assignment S.simple S.simples S.line S.block S.block_after S.arm S.choice S.while S.for S.caught S.handler S.handled S.finished S.try S.parameter S.definition S.define S.compound S.chunk S.program R.piece read_chars
tree_26 = refl

tree_27 : read_chars One (codes "a.b.c(d)[e](f, g=1, h=2,)\n") ≡ Ok (t.assign [] (t.primary (t.name (codes "a")) (trailers (t.attribute (codes "b") ∷ t.attribute (codes "c") ∷ t.call (arguments (t.plain (t.name (codes "d")) ∷ [])) ∷ t.index (t.name (codes "e")) ∷ t.call (arguments (t.plain (t.name (codes "f")) ∷ t.keyword (codes "g") (t.integer (pos 1)) ∷ t.keyword (codes "h") (t.integer (pos 2)) ∷ [])) ∷ []))) ∷ [])
unfolding reserved_marks delimiter operator numeral Q.escape Q.item Q.closes Q.body Q.quoted token_piece lexeme cut indented begin bracket step layout encode_utf8 code_of E.keyword_begins E.another E.argument E.attribute E.call E.slice_after E.item_or_slice E.trailer E.parenthesised E.list E.pair E.dict E.atom E.primary_parts E.primary E.power E.unary_level E.term E.sum E.compared E.negated_level E.conjunction E.disjunction E.expr_level E.exprs_level E.phrase S.primary_at S.another_simple S.raise S.return S.assertion S.delete S.global S.import S.update_of S.assignment_of S.update_or_assignment S.simple S.simples S.line S.block S.block_after S.arm S.choice S.while S.for S.caught S.handler S.handled S.finished S.try S.parameter S.definition S.define S.compound S.chunk S.program R.piece read_chars
tree_27 = refl

tree_28 : read_chars One (codes "f()\n") ≡ Ok (t.assign [] (t.primary (t.name (codes "f")) (trailers (t.call (arguments ([])) ∷ []))) ∷ [])
unfolding reserved_marks delimiter operator numeral Q.escape Q.item Q.closes Q.body Q.quoted token_piece lexeme cut indented begin bracket step layout encode_utf8 code_of E.keyword_begins E.another E.argument E.attribute E.call E.slice_after E.item_or_slice E.trailer E.parenthesised E.list E.pair E.dict E.atom E.primary_parts E.primary E.power E.unary_level E.term E.sum E.compared E.negated_level E.conjunction E.disjunction E.expr_level E.exprs_level E.phrase S.primary_at S.another_simple S.raise S.return S.assertion S.delete S.global S.import S.update_of S.assignment_of S.update_or_assignment S.simple S.simples S.line S.block S.block_after S.arm S.choice S.while S.for S.caught S.handler S.handled S.finished S.try S.parameter S.definition S.define S.compound S.chunk S.program R.piece read_chars
tree_28 = refl

tree_29 : read_chars One (codes "f((a))\n") ≡ Ok (t.assign [] (t.primary (t.name (codes "f")) (trailers (t.call (arguments (t.plain (t.paren (t.name (codes "a"))) ∷ [])) ∷ []))) ∷ [])
unfolding reserved_marks delimiter operator numeral Q.escape Q.item Q.closes Q.body Q.quoted token_piece lexeme cut indented begin bracket step layout encode_utf8 code_of E.keyword_begins E.another E.argument E.attribute E.call E.slice_after E.item_or_slice E.trailer E.parenthesised E.list E.pair E.dict E.atom E.primary_parts E.primary E.power E.unary_level E.term E.sum E.compared E.negated_level E.conjunction E.disjunction E.expr_level E.exprs_level E.phrase S.primary_at S.another_simple S.raise S.return S.assertion S.delete S.global S.import S.update_of S.assignment_of S.update_or_assignment S.simple S.simples S.line S.block S.block_after S.arm S.choice S.while S.for S.caught S.handler S.handled S.finished S.try S.parameter S.definition S.define S.compound S.chunk S.program R.piece read_chars
tree_29 = refl

tree_30 : read_chars One (codes "f((a, b), ())\n") ≡ Ok (t.assign [] (t.primary (t.name (codes "f")) (trailers (t.call (arguments (t.plain (t.paren (t.tuple (expressions ((t.name (codes "a")) ∷ (t.name (codes "b")) ∷ [])))) ∷ t.plain (t.tuple (expressions ([]))) ∷ [])) ∷ []))) ∷ [])
unfolding reserved_marks delimiter operator numeral Q.escape Q.item Q.closes Q.body Q.quoted token_piece lexeme cut indented begin bracket step layout encode_utf8 code_of E.keyword_begins E.another E.argument E.attribute E.call E.slice_after E.item_or_slice E.trailer E.parenthesised E.list E.pair E.dict E.atom E.primary_parts E.primary E.power E.unary_level E.term E.sum E.compared E.negated_level E.conjunction E.disjunction E.expr_level E.exprs_level E.phrase S.primary_at S.another_simple S.raise S.return S.assertion S.delete S.global S.import S.update_of S.assignment_of S.update_or_assignment S.simple S.simples S.line S.block S.block_after S.arm S.choice S.while S.for S.caught S.handler S.handled S.finished S.try S.parameter S.definition S.define S.compound S.chunk S.program R.piece read_chars
tree_30 = refl

tree_31 : read_chars One (codes "a[1:2], a[:], a[::], a[1:], a[:2], a[::3], a[1:2:3], a[:2:], a[():1]\n") ≡ Ok (t.assign [] (t.tuple (expressions ((t.primary (t.name (codes "a")) (trailers (t.slice (bound (t.integer (pos 1))) (bound (t.integer (pos 2))) absent ∷ []))) ∷ (t.primary (t.name (codes "a")) (trailers (t.slice absent absent absent ∷ []))) ∷ (t.primary (t.name (codes "a")) (trailers (t.slice absent absent absent ∷ []))) ∷ (t.primary (t.name (codes "a")) (trailers (t.slice (bound (t.integer (pos 1))) absent absent ∷ []))) ∷ (t.primary (t.name (codes "a")) (trailers (t.slice absent (bound (t.integer (pos 2))) absent ∷ []))) ∷ (t.primary (t.name (codes "a")) (trailers (t.slice absent absent (bound (t.integer (pos 3))) ∷ []))) ∷ (t.primary (t.name (codes "a")) (trailers (t.slice (bound (t.integer (pos 1))) (bound (t.integer (pos 2))) (bound (t.integer (pos 3))) ∷ []))) ∷ (t.primary (t.name (codes "a")) (trailers (t.slice absent (bound (t.integer (pos 2))) absent ∷ []))) ∷ (t.primary (t.name (codes "a")) (trailers (t.slice (bound (t.tuple (expressions ([])))) (bound (t.integer (pos 1))) absent ∷ []))) ∷ []))) ∷ [])
unfolding reserved_marks delimiter operator numeral Q.escape Q.item Q.closes Q.body Q.quoted token_piece lexeme cut indented begin bracket step layout encode_utf8 code_of E.keyword_begins E.another E.argument E.attribute E.call E.slice_after E.item_or_slice E.trailer E.parenthesised E.list E.pair E.dict E.atom E.primary_parts E.primary E.power E.unary_level E.term E.sum E.compared E.negated_level E.conjunction E.disjunction E.expr_level E.exprs_level E.phrase S.primary_at S.another_simple S.raise S.return S.assertion S.delete S.global S.import S.update_of S.assignment_of S.update_or_assignment S.simple S.simples S.line S.block S.block_after S.arm S.choice S.while S.for S.caught S.handler S.handled S.finished S.try S.parameter S.definition S.define S.compound S.chunk S.program R.piece read_chars
tree_31 = refl

tree_32 : read_chars One (codes "a[1, 2], a[1,]\n") ≡ Ok (t.assign [] (t.tuple (expressions ((t.primary (t.name (codes "a")) (trailers (t.index (t.tuple (expressions ((t.integer (pos 1)) ∷ (t.integer (pos 2)) ∷ []))) ∷ []))) ∷ (t.primary (t.name (codes "a")) (trailers (t.index (t.tuple (expressions ((t.integer (pos 1)) ∷ []))) ∷ []))) ∷ []))) ∷ [])
unfolding reserved_marks delimiter operator numeral Q.escape Q.item Q.closes Q.body Q.quoted token_piece lexeme cut indented begin bracket step layout encode_utf8 code_of E.keyword_begins E.another E.argument E.attribute E.call E.slice_after E.item_or_slice E.trailer E.parenthesised E.list E.pair E.dict E.atom E.primary_parts E.primary E.power E.unary_level E.term E.sum E.compared E.negated_level E.conjunction E.disjunction E.expr_level E.exprs_level E.phrase S.primary_at S.another_simple S.raise S.return S.assertion S.delete S.global S.import S.update_of S.assignment_of S.update_or_assignment S.simple S.simples S.line S.block S.block_after S.arm S.choice S.while S.for S.caught S.handler S.handled S.finished S.try S.parameter S.definition S.define S.compound S.chunk S.program R.piece read_chars
tree_32 = refl

tree_33 : read_chars One (codes "(), (a,), ((a)), [], [a], [a, b,], {}, {a: b}, {a: b, c: d,}\n") ≡ Ok (t.assign [] (t.tuple (expressions ((t.tuple (expressions ([]))) ∷ (t.paren (t.tuple (expressions ((t.name (codes "a")) ∷ [])))) ∷ (t.paren (t.paren (t.name (codes "a")))) ∷ (t.list (expressions ([]))) ∷ (t.list (expressions ((t.name (codes "a")) ∷ []))) ∷ (t.list (expressions ((t.name (codes "a")) ∷ (t.name (codes "b")) ∷ []))) ∷ (t.dict (pairs ([]))) ∷ (t.dict (pairs (((t.name (codes "a")), (t.name (codes "b"))) ∷ []))) ∷ (t.dict (pairs (((t.name (codes "a")), (t.name (codes "b"))) ∷ ((t.name (codes "c")), (t.name (codes "d"))) ∷ []))) ∷ []))) ∷ [])
unfolding reserved_marks delimiter operator numeral Q.escape Q.item Q.closes Q.body Q.quoted token_piece lexeme cut indented begin bracket step layout encode_utf8 code_of E.keyword_begins E.another E.argument E.attribute E.call E.slice_after E.item_or_slice E.trailer E.parenthesised E.list E.pair E.dict E.atom E.primary_parts E.primary E.power E.unary_level E.term E.sum E.compared E.negated_level E.conjunction E.disjunction E.expr_level E.exprs_level E.phrase S.primary_at S.another_simple S.raise S.return S.assertion S.delete S.global S.import S.update_of S.assignment_of S.update_or_assignment S.simple S.simples S.line S.block S.block_after S.arm S.choice S.while S.for S.caught S.handler S.handled S.finished S.try S.parameter S.definition S.define S.compound S.chunk S.program R.piece read_chars
tree_33 = refl

tree_34 : read_chars One (codes "'a' 'b' \"c\"\n") ≡ Ok (t.assign [] (t.text (codes "abc")) ∷ [])
unfolding reserved_marks delimiter operator numeral Q.escape Q.item Q.closes Q.body Q.quoted token_piece lexeme cut indented begin bracket step layout encode_utf8 code_of E.keyword_begins E.another E.argument E.attribute E.call E.slice_after E.item_or_slice E.trailer E.parenthesised E.list E.pair E.dict E.atom E.primary_parts E.primary E.power E.unary_level E.term E.sum E.compared E.negated_level E.conjunction E.disjunction E.expr_level E.exprs_level E.phrase S.primary_at S.another_simple S.raise S.return S.assertion S.delete S.global S.import S.update_of S.assignment_of S.update_or_assignment S.simple S.simples S.line S.block S.block_after S.arm S.choice S.while S.for S.caught S.handler S.handled S.finished S.try S.parameter S.definition S.define S.compound S.chunk S.program R.piece read_chars
tree_34 = refl

tree_35 : read_chars One (codes "None, True, False\n") ≡ Ok (t.assign [] (t.tuple (expressions (t.none ∷ t.true ∷ t.false ∷ []))) ∷ [])
unfolding reserved_marks delimiter operator numeral Q.escape Q.item Q.closes Q.body Q.quoted token_piece lexeme cut indented begin bracket step layout encode_utf8 code_of E.keyword_begins E.another E.argument E.attribute E.call E.slice_after E.item_or_slice E.trailer E.parenthesised E.list E.pair E.dict E.atom E.primary_parts E.primary E.power E.unary_level E.term E.sum E.compared E.negated_level E.conjunction E.disjunction E.expr_level E.exprs_level E.phrase S.primary_at S.another_simple S.raise S.return S.assertion S.delete S.global S.import S.update_of S.assignment_of S.update_or_assignment S.simple S.simples S.line S.block S.block_after S.arm S.choice S.while S.for S.caught S.handler S.handled S.finished S.try S.parameter S.definition S.define S.compound S.chunk S.program R.piece read_chars
tree_35 = refl

tree_36 : read_chars One (codes "pass; x; y;\n") ≡ Ok (t.pass ∷ t.assign [] (t.name (codes "x")) ∷ t.assign [] (t.name (codes "y")) ∷ [])
unfolding reserved_marks delimiter operator numeral Q.escape Q.item Q.closes Q.body Q.quoted token_piece lexeme cut indented begin bracket step layout encode_utf8 code_of E.keyword_begins E.another E.argument E.attribute E.call E.slice_after E.item_or_slice E.trailer E.parenthesised E.list E.pair E.dict E.atom E.primary_parts E.primary E.power E.unary_level E.term E.sum E.compared E.negated_level E.conjunction E.disjunction E.expr_level E.exprs_level E.phrase S.primary_at S.another_simple S.raise S.return S.assertion S.delete S.global S.import S.update_of S.assignment_of S.update_or_assignment S.simple S.simples S.line S.block S.block_after S.arm S.choice S.while S.for S.caught S.handler S.handled S.finished S.try S.parameter S.definition S.define S.compound S.chunk S.program R.piece read_chars
tree_36 = refl

tree_37 : read_chars One (codes "assert a\nassert a, b\n") ≡ Ok (t.assert (t.name (codes "a")) None ∷ t.assert (t.name (codes "a")) (Some (t.name (codes "b"))) ∷ [])
unfolding reserved_marks delimiter operator numeral Q.escape Q.item Q.closes Q.body Q.quoted token_piece lexeme cut indented begin bracket step layout encode_utf8 code_of E.keyword_begins E.another E.argument E.attribute E.call E.slice_after E.item_or_slice E.trailer E.parenthesised E.list E.pair E.dict E.atom E.primary_parts E.primary E.power E.unary_level E.term E.sum E.compared E.negated_level E.conjunction E.disjunction E.expr_level E.exprs_level E.phrase S.primary_at S.another_simple S.raise S.return S.assertion S.delete S.global S.import S.update_of S.assignment_of S.update_or_assignment S.simple S.simples S.line S.block S.block_after S.arm S.choice S.while S.for S.caught S.handler S.handled S.finished S.try S.parameter S.definition S.define S.compound S.chunk S.program R.piece read_chars
tree_37 = refl

tree_38 : read_chars One (codes "del a, b.c, d[0]\n") ≡ Ok (t.delete ((t.name (codes "a")) ∷ (t.primary (t.name (codes "b")) (trailers (t.attribute (codes "c") ∷ []))) ∷ (t.primary (t.name (codes "d")) (trailers (t.index (t.integer (pos 0)) ∷ []))) ∷ []) ∷ [])
unfolding reserved_marks delimiter operator numeral Q.escape Q.item Q.closes Q.body Q.quoted token_piece lexeme cut indented begin bracket step layout encode_utf8 code_of E.keyword_begins E.another E.argument E.attribute E.call E.slice_after E.item_or_slice E.trailer E.parenthesised E.list E.pair E.dict E.atom E.primary_parts E.primary E.power E.unary_level E.term E.sum E.compared E.negated_level E.conjunction E.disjunction E.expr_level E.exprs_level E.phrase S.primary_at S.another_simple S.raise S.return S.assertion S.delete S.global S.import S.update_of S.assignment_of S.update_or_assignment S.simple S.simples S.line S.block S.block_after S.arm S.choice S.while S.for S.caught S.handler S.handled S.finished S.try S.parameter S.definition S.define S.compound S.chunk S.program R.piece read_chars
tree_38 = refl

tree_39 : read_chars One (codes "from types import SimpleNamespace\nfrom types import SimpleNamespace as S\n") ≡ Ok (t.import None ∷ t.import (Some (codes "S")) ∷ [])
unfolding reserved_marks delimiter operator numeral Q.escape Q.item Q.closes Q.body Q.quoted token_piece lexeme cut indented begin bracket step layout encode_utf8 code_of E.keyword_begins E.another E.argument E.attribute E.call E.slice_after E.item_or_slice E.trailer E.parenthesised E.list E.pair E.dict E.atom E.primary_parts E.primary E.power E.unary_level E.term E.sum E.compared E.negated_level E.conjunction E.disjunction E.expr_level E.exprs_level E.phrase S.primary_at S.another_simple S.raise S.return S.assertion S.delete S.global S.import S.update_of S.assignment_of S.update_or_assignment S.simple S.simples S.line S.block S.block_after S.arm S.choice S.while S.for S.caught S.handler S.handled S.finished S.try S.parameter S.definition S.define S.compound S.chunk S.program R.piece read_chars
tree_39 = refl

tree_40 : read_chars One (codes "if a: b\nelif c: d\nelif e: f\nelse: g\n") ≡ Ok (t.choose (arms (((t.name (codes "a")), (statements (t.assign [] (t.name (codes "b")) ∷ []))) ∷ ((t.name (codes "c")), (statements (t.assign [] (t.name (codes "d")) ∷ []))) ∷ ((t.name (codes "e")), (statements (t.assign [] (t.name (codes "f")) ∷ []))) ∷ [])) (statements (t.assign [] (t.name (codes "g")) ∷ [])) ∷ [])
unfolding reserved_marks delimiter operator numeral Q.escape Q.item Q.closes Q.body Q.quoted token_piece lexeme cut indented begin bracket step layout encode_utf8 code_of E.keyword_begins E.another E.argument E.attribute E.call E.slice_after E.item_or_slice E.trailer E.parenthesised E.list E.pair E.dict E.atom E.primary_parts E.primary E.power E.unary_level E.term E.sum E.compared E.negated_level E.conjunction E.disjunction E.expr_level E.exprs_level E.phrase S.primary_at S.another_simple S.raise S.return S.assertion S.delete S.global S.import S.update_of S.assignment_of S.update_or_assignment S.simple S.simples S.line S.block S.block_after S.arm S.choice S.while S.for S.caught S.handler S.handled S.finished S.try S.parameter S.definition S.define S.compound S.chunk S.program R.piece read_chars
tree_40 = refl

tree_41 : read_chars One (codes "if a:\n  if b:\n    c\n  else:\n    d\n") ≡ Ok (t.choose (arms (((t.name (codes "a")), (statements (t.choose (arms (((t.name (codes "b")), (statements (t.assign [] (t.name (codes "c")) ∷ []))) ∷ [])) (statements (t.assign [] (t.name (codes "d")) ∷ [])) ∷ []))) ∷ [])) (statements ([])) ∷ [])
unfolding reserved_marks delimiter operator numeral Q.escape Q.item Q.closes Q.body Q.quoted token_piece lexeme cut indented begin bracket step layout encode_utf8 code_of E.keyword_begins E.another E.argument E.attribute E.call E.slice_after E.item_or_slice E.trailer E.parenthesised E.list E.pair E.dict E.atom E.primary_parts E.primary E.power E.unary_level E.term E.sum E.compared E.negated_level E.conjunction E.disjunction E.expr_level E.exprs_level E.phrase S.primary_at S.another_simple S.raise S.return S.assertion S.delete S.global S.import S.update_of S.assignment_of S.update_or_assignment S.simple S.simples S.line S.block S.block_after S.arm S.choice S.while S.for S.caught S.handler S.handled S.finished S.try S.parameter S.definition S.define S.compound S.chunk S.program R.piece read_chars
tree_41 = refl

tree_42 : read_chars One (codes "while a:\n  if b: break\n  else: continue\n") ≡ Ok (t.while (t.name (codes "a")) (statements (t.choose (arms (((t.name (codes "b")), (statements (t.break ∷ []))) ∷ [])) (statements (t.continue ∷ [])) ∷ [])) ∷ [])
unfolding reserved_marks delimiter operator numeral Q.escape Q.item Q.closes Q.body Q.quoted token_piece lexeme cut indented begin bracket step layout encode_utf8 code_of E.keyword_begins E.another E.argument E.attribute E.call E.slice_after E.item_or_slice E.trailer E.parenthesised E.list E.pair E.dict E.atom E.primary_parts E.primary E.power E.unary_level E.term E.sum E.compared E.negated_level E.conjunction E.disjunction E.expr_level E.exprs_level E.phrase S.primary_at S.another_simple S.raise S.return S.assertion S.delete S.global S.import S.update_of S.assignment_of S.update_or_assignment S.simple S.simples S.line S.block S.block_after S.arm S.choice S.while S.for S.caught S.handler S.handled S.finished S.try S.parameter S.definition S.define S.compound S.chunk S.program R.piece read_chars
tree_42 = refl

tree_43 : read_chars One (codes "for a, b in c, d:\n  e\n") ≡ Ok (t.for (t.tuple (expressions ((t.name (codes "a")) ∷ (t.name (codes "b")) ∷ []))) (t.tuple (expressions ((t.name (codes "c")) ∷ (t.name (codes "d")) ∷ []))) (statements (t.assign [] (t.name (codes "e")) ∷ [])) ∷ [])
unfolding reserved_marks delimiter operator numeral Q.escape Q.item Q.closes Q.body Q.quoted token_piece lexeme cut indented begin bracket step layout encode_utf8 code_of E.keyword_begins E.another E.argument E.attribute E.call E.slice_after E.item_or_slice E.trailer E.parenthesised E.list E.pair E.dict E.atom E.primary_parts E.primary E.power E.unary_level E.term E.sum E.compared E.negated_level E.conjunction E.disjunction E.expr_level E.exprs_level E.phrase S.primary_at S.another_simple S.raise S.return S.assertion S.delete S.global S.import S.update_of S.assignment_of S.update_or_assignment S.simple S.simples S.line S.block S.block_after S.arm S.choice S.while S.for S.caught S.handler S.handled S.finished S.try S.parameter S.definition S.define S.compound S.chunk S.program R.piece read_chars
tree_43 = refl

tree_44 : read_chars One (codes "for (a, b), in c: d\n") ≡ Ok (t.for (t.tuple (expressions ((t.paren (t.tuple (expressions ((t.name (codes "a")) ∷ (t.name (codes "b")) ∷ [])))) ∷ []))) (t.name (codes "c")) (statements (t.assign [] (t.name (codes "d")) ∷ [])) ∷ [])
unfolding reserved_marks delimiter operator numeral Q.escape Q.item Q.closes Q.body Q.quoted token_piece lexeme cut indented begin bracket step layout encode_utf8 code_of E.keyword_begins E.another E.argument E.attribute E.call E.slice_after E.item_or_slice E.trailer E.parenthesised E.list E.pair E.dict E.atom E.primary_parts E.primary E.power E.unary_level E.term E.sum E.compared E.negated_level E.conjunction E.disjunction E.expr_level E.exprs_level E.phrase S.primary_at S.another_simple S.raise S.return S.assertion S.delete S.global S.import S.update_of S.assignment_of S.update_or_assignment S.simple S.simples S.line S.block S.block_after S.arm S.choice S.while S.for S.caught S.handler S.handled S.finished S.try S.parameter S.definition S.define S.compound S.chunk S.program R.piece read_chars
tree_44 = refl

tree_45 : read_chars One (codes "for a.b[c] in d: e\n") ≡ Ok (t.for (t.primary (t.name (codes "a")) (trailers (t.attribute (codes "b") ∷ t.index (t.name (codes "c")) ∷ []))) (t.name (codes "d")) (statements (t.assign [] (t.name (codes "e")) ∷ [])) ∷ [])
unfolding reserved_marks delimiter operator numeral Q.escape Q.item Q.closes Q.body Q.quoted token_piece lexeme cut indented begin bracket step layout encode_utf8 code_of E.keyword_begins E.another E.argument E.attribute E.call E.slice_after E.item_or_slice E.trailer E.parenthesised E.list E.pair E.dict E.atom E.primary_parts E.primary E.power E.unary_level E.term E.sum E.compared E.negated_level E.conjunction E.disjunction E.expr_level E.exprs_level E.phrase S.primary_at S.another_simple S.raise S.return S.assertion S.delete S.global S.import S.update_of S.assignment_of S.update_or_assignment S.simple S.simples S.line S.block S.block_after S.arm S.choice S.while S.for S.caught S.handler S.handled S.finished S.try S.parameter S.definition S.define S.compound S.chunk S.program R.piece read_chars
tree_45 = refl

tree_46 : read_chars One (codes "try:\n  a\nexcept A as b:\n  raise\nexcept (B, C):\n  c\nexcept:\n  d\nelse:\n  e\nfinally:\n  f\n") ≡ Ok (t.try (statements (t.assign [] (t.name (codes "a")) ∷ [])) (handlers (record { class = (Some (t.name (codes "A"))); caught = (Some (codes "b")); body = (statements (t.raise None ∷ [])) } ∷ record { class = (Some (t.paren (t.tuple (expressions ((t.name (codes "B")) ∷ (t.name (codes "C")) ∷ []))))); caught = None; body = (statements (t.assign [] (t.name (codes "c")) ∷ [])) } ∷ record { class = None; caught = None; body = (statements (t.assign [] (t.name (codes "d")) ∷ [])) } ∷ [])) (statements (t.assign [] (t.name (codes "e")) ∷ [])) (statements (t.assign [] (t.name (codes "f")) ∷ [])) ∷ [])
unfolding reserved_marks delimiter operator numeral Q.escape Q.item Q.closes Q.body Q.quoted token_piece lexeme cut indented begin bracket step layout encode_utf8 code_of E.keyword_begins E.another E.argument E.attribute E.call E.slice_after E.item_or_slice E.trailer E.parenthesised E.list E.pair E.dict E.atom E.primary_parts E.primary E.power E.unary_level E.term E.sum E.compared E.negated_level E.conjunction E.disjunction E.expr_level E.exprs_level E.phrase S.primary_at S.another_simple S.raise S.return S.assertion S.delete S.global S.import S.update_of S.assignment_of S.update_or_assignment S.simple S.simples S.line S.block S.block_after S.arm S.choice S.while S.for S.caught S.handler S.handled S.finished S.try S.parameter S.definition S.define S.compound S.chunk S.program R.piece read_chars
tree_46 = refl

tree_47 : read_chars One (codes "try: a\nfinally: b\n") ≡ Ok (t.finally (statements (t.assign [] (t.name (codes "a")) ∷ [])) (statements (t.assign [] (t.name (codes "b")) ∷ [])) ∷ [])
unfolding reserved_marks delimiter operator numeral Q.escape Q.item Q.closes Q.body Q.quoted token_piece lexeme cut indented begin bracket step layout encode_utf8 code_of E.keyword_begins E.another E.argument E.attribute E.call E.slice_after E.item_or_slice E.trailer E.parenthesised E.list E.pair E.dict E.atom E.primary_parts E.primary E.power E.unary_level E.term E.sum E.compared E.negated_level E.conjunction E.disjunction E.expr_level E.exprs_level E.phrase S.primary_at S.another_simple S.raise S.return S.assertion S.delete S.global S.import S.update_of S.assignment_of S.update_or_assignment S.simple S.simples S.line S.block S.block_after S.arm S.choice S.while S.for S.caught S.handler S.handled S.finished S.try S.parameter S.definition S.define S.compound S.chunk S.program R.piece read_chars
tree_47 = refl

tree_48 : read_chars One (codes "raise a\n") ≡ Ok (t.raise (Some (t.name (codes "a"))) ∷ [])
unfolding reserved_marks delimiter operator numeral Q.escape Q.item Q.closes Q.body Q.quoted token_piece lexeme cut indented begin bracket step layout encode_utf8 code_of E.keyword_begins E.another E.argument E.attribute E.call E.slice_after E.item_or_slice E.trailer E.parenthesised E.list E.pair E.dict E.atom E.primary_parts E.primary E.power E.unary_level E.term E.sum E.compared E.negated_level E.conjunction E.disjunction E.expr_level E.exprs_level E.phrase S.primary_at S.another_simple S.raise S.return S.assertion S.delete S.global S.import S.update_of S.assignment_of S.update_or_assignment S.simple S.simples S.line S.block S.block_after S.arm S.choice S.while S.for S.caught S.handler S.handled S.finished S.try S.parameter S.definition S.define S.compound S.chunk S.program R.piece read_chars
tree_48 = refl

tree_49 : read_chars One (codes "def f(): pass\n") ≡ Ok (t.define (codes "f") ([]) (statements (t.pass ∷ [])) (codes "def f(): pass") ∷ [])
unfolding reserved_marks delimiter operator numeral Q.escape Q.item Q.closes Q.body Q.quoted token_piece lexeme cut indented begin bracket step layout encode_utf8 code_of E.keyword_begins E.another E.argument E.attribute E.call E.slice_after E.item_or_slice E.trailer E.parenthesised E.list E.pair E.dict E.atom E.primary_parts E.primary E.power E.unary_level E.term E.sum E.compared E.negated_level E.conjunction E.disjunction E.expr_level E.exprs_level E.phrase S.primary_at S.another_simple S.raise S.return S.assertion S.delete S.global S.import S.update_of S.assignment_of S.update_or_assignment S.simple S.simples S.line S.block S.block_after S.arm S.choice S.while S.for S.caught S.handler S.handled S.finished S.try S.parameter S.definition S.define S.compound S.chunk S.program R.piece read_chars
tree_49 = refl

tree_50 : read_chars One (codes "def f(a, b=1, c=(2),):\n  global d, e\n  d = a\n  return d, b\n# c\nf(1)\n") ≡ Ok (t.define (codes "f") (((codes "a"), None) ∷ ((codes "b"), (Some (t.integer (pos 1)))) ∷ ((codes "c"), (Some (t.paren (t.integer (pos 2))))) ∷ []) (statements (t.global ((codes "d") ∷ (codes "e") ∷ []) ∷ t.assign ((t.name (codes "d")) ∷ []) (t.name (codes "a")) ∷ t.return (Some (t.tuple (expressions ((t.name (codes "d")) ∷ (t.name (codes "b")) ∷ [])))) ∷ [])) (codes "def f(a, b=1, c=(2),):\n  global d, e\n  d = a\n  return d, b") ∷ t.assign [] (t.primary (t.name (codes "f")) (trailers (t.call (arguments (t.plain (t.integer (pos 1)) ∷ [])) ∷ []))) ∷ [])
unfolding reserved_marks delimiter operator numeral Q.escape Q.item Q.closes Q.body Q.quoted token_piece lexeme cut indented begin bracket step layout encode_utf8 code_of E.keyword_begins E.another E.argument E.attribute E.call E.slice_after E.item_or_slice E.trailer E.parenthesised E.list E.pair E.dict E.atom E.primary_parts E.primary E.power E.unary_level E.term E.sum E.compared E.negated_level E.conjunction E.disjunction E.expr_level E.exprs_level E.phrase S.primary_at S.another_simple S.raise S.return S.assertion S.delete S.global S.import S.update_of S.assignment_of S.update_or_assignment S.simple S.simples S.line S.block S.block_after S.arm S.choice S.while S.for S.caught S.handler S.handled S.finished S.try S.parameter S.definition S.define S.compound S.chunk S.program R.piece read_chars
tree_50 = refl

tree_51 : read_chars One (codes "def f():\n  for x in a:\n    if x: return\n  return x\n") ≡ Ok (t.define (codes "f") ([]) (statements (t.for (t.name (codes "x")) (t.name (codes "a")) (statements (t.choose (arms (((t.name (codes "x")), (statements (t.return None ∷ []))) ∷ [])) (statements ([])) ∷ [])) ∷ t.return (Some (t.name (codes "x"))) ∷ [])) (codes "def f():\n  for x in a:\n    if x: return\n  return x") ∷ [])
unfolding reserved_marks delimiter operator numeral Q.escape Q.item Q.closes Q.body Q.quoted token_piece lexeme cut indented begin bracket step layout encode_utf8 code_of E.keyword_begins E.another E.argument E.attribute E.call E.slice_after E.item_or_slice E.trailer E.parenthesised E.list E.pair E.dict E.atom E.primary_parts E.primary E.power E.unary_level E.term E.sum E.compared E.negated_level E.conjunction E.disjunction E.expr_level E.exprs_level E.phrase S.primary_at S.another_simple S.raise S.return S.assertion S.delete S.global S.import S.update_of S.assignment_of S.update_or_assignment S.simple S.simples S.line S.block S.block_after S.arm S.choice S.while S.for S.caught S.handler S.handled S.finished S.try S.parameter S.definition S.define S.compound S.chunk S.program R.piece read_chars
tree_51 = refl

tree_52 : read_chars One (codes "def f():\n  global a\n  global a\n  a = 1\n") ≡ Ok (t.define (codes "f") ([]) (statements (t.global ((codes "a") ∷ []) ∷ t.global ((codes "a") ∷ []) ∷ t.assign ((t.name (codes "a")) ∷ []) (t.integer (pos 1)) ∷ [])) (codes "def f():\n  global a\n  global a\n  a = 1") ∷ [])
unfolding reserved_marks delimiter operator numeral Q.escape Q.item Q.closes Q.body Q.quoted token_piece lexeme cut indented begin bracket step layout encode_utf8 code_of E.keyword_begins E.another E.argument E.attribute E.call E.slice_after E.item_or_slice E.trailer E.parenthesised E.list E.pair E.dict E.atom E.primary_parts E.primary E.power E.unary_level E.term E.sum E.compared E.negated_level E.conjunction E.disjunction E.expr_level E.exprs_level E.phrase S.primary_at S.another_simple S.raise S.return S.assertion S.delete S.global S.import S.update_of S.assignment_of S.update_or_assignment S.simple S.simples S.line S.block S.block_after S.arm S.choice S.while S.for S.caught S.handler S.handled S.finished S.try S.parameter S.definition S.define S.compound S.chunk S.program R.piece read_chars
tree_52 = refl

tree_53 : read_chars One (codes "(\n  a,\n  b\n)\n") ≡ Ok (t.assign [] (t.paren (t.tuple (expressions ((t.name (codes "a")) ∷ (t.name (codes "b")) ∷ [])))) ∷ [])
unfolding reserved_marks delimiter operator numeral Q.escape Q.item Q.closes Q.body Q.quoted token_piece lexeme cut indented begin bracket step layout encode_utf8 code_of E.keyword_begins E.another E.argument E.attribute E.call E.slice_after E.item_or_slice E.trailer E.parenthesised E.list E.pair E.dict E.atom E.primary_parts E.primary E.power E.unary_level E.term E.sum E.compared E.negated_level E.conjunction E.disjunction E.expr_level E.exprs_level E.phrase S.primary_at S.another_simple S.raise S.return S.assertion S.delete S.global S.import S.update_of S.assignment_of S.update_or_assignment S.simple S.simples S.line S.block S.block_after S.arm S.choice S.while S.for S.caught S.handler S.handled S.finished S.try S.parameter S.definition S.define S.compound S.chunk S.program R.piece read_chars
tree_53 = refl

tree_54 : read_chars One (codes "# c\n") ≡ Ok ([])
unfolding reserved_marks delimiter operator numeral Q.escape Q.item Q.closes Q.body Q.quoted token_piece lexeme cut indented begin bracket step layout encode_utf8 code_of E.keyword_begins E.another E.argument E.attribute E.call E.slice_after E.item_or_slice E.trailer E.parenthesised E.list E.pair E.dict E.atom E.primary_parts E.primary E.power E.unary_level E.term E.sum E.compared E.negated_level E.conjunction E.disjunction E.expr_level E.exprs_level E.phrase S.primary_at S.another_simple S.raise S.return S.assertion S.delete S.global S.import S.update_of S.assignment_of S.update_or_assignment S.simple S.simples S.line S.block S.block_after S.arm S.choice S.while S.for S.caught S.handler S.handled S.finished S.try S.parameter S.definition S.define S.compound S.chunk S.program R.piece read_chars
tree_54 = refl

tree_55 : read_chars One (codes "def f(): a;\n") ≡ Ok (t.define (codes "f") ([]) (statements (t.assign [] (t.name (codes "a")) ∷ [])) (codes "def f(): a;") ∷ [])
unfolding reserved_marks delimiter operator numeral Q.escape Q.item Q.closes Q.body Q.quoted token_piece lexeme cut indented begin bracket step layout encode_utf8 code_of E.keyword_begins E.another E.argument E.attribute E.call E.slice_after E.item_or_slice E.trailer E.parenthesised E.list E.pair E.dict E.atom E.primary_parts E.primary E.power E.unary_level E.term E.sum E.compared E.negated_level E.conjunction E.disjunction E.expr_level E.exprs_level E.phrase S.primary_at S.another_simple S.raise S.return S.assertion S.delete S.global S.import S.update_of S.assignment_of S.update_or_assignment S.simple S.simples S.line S.block S.block_after S.arm S.choice S.while S.for S.caught S.handler S.handled S.finished S.try S.parameter S.definition S.define S.compound S.chunk S.program R.piece read_chars
tree_55 = refl

tree_56 : read_chars One (codes "if a:\n  def f():\n\n    b ;  # c\n\n# d\nelse: e\n") ≡ Ok (t.choose (arms (((t.name (codes "a")), (statements (t.define (codes "f") ([]) (statements (t.assign [] (t.name (codes "b")) ∷ [])) (codes "def f():\n\n    b ;") ∷ []))) ∷ [])) (statements (t.assign [] (t.name (codes "e")) ∷ [])) ∷ [])
unfolding reserved_marks delimiter operator numeral Q.escape Q.item Q.closes Q.body Q.quoted token_piece lexeme cut indented begin bracket step layout encode_utf8 code_of E.keyword_begins E.another E.argument E.attribute E.call E.slice_after E.item_or_slice E.trailer E.parenthesised E.list E.pair E.dict E.atom E.primary_parts E.primary E.power E.unary_level E.term E.sum E.compared E.negated_level E.conjunction E.disjunction E.expr_level E.exprs_level E.phrase S.primary_at S.another_simple S.raise S.return S.assertion S.delete S.global S.import S.update_of S.assignment_of S.update_or_assignment S.simple S.simples S.line S.block S.block_after S.arm S.choice S.while S.for S.caught S.handler S.handled S.finished S.try S.parameter S.definition S.define S.compound S.chunk S.program R.piece read_chars
tree_56 = refl

tree_57 : read_chars One (codes "for x, in a: b; c;\n") ≡ Ok (t.for (t.tuple (expressions ((t.name (codes "x")) ∷ []))) (t.name (codes "a")) (statements (t.assign [] (t.name (codes "b")) ∷ t.assign [] (t.name (codes "c")) ∷ [])) ∷ [])
unfolding reserved_marks delimiter operator numeral Q.escape Q.item Q.closes Q.body Q.quoted token_piece lexeme cut indented begin bracket step layout encode_utf8 code_of E.keyword_begins E.another E.argument E.attribute E.call E.slice_after E.item_or_slice E.trailer E.parenthesised E.list E.pair E.dict E.atom E.primary_parts E.primary E.power E.unary_level E.term E.sum E.compared E.negated_level E.conjunction E.disjunction E.expr_level E.exprs_level E.phrase S.primary_at S.another_simple S.raise S.return S.assertion S.delete S.global S.import S.update_of S.assignment_of S.update_or_assignment S.simple S.simples S.line S.block S.block_after S.arm S.choice S.while S.for S.caught S.handler S.handled S.finished S.try S.parameter S.definition S.define S.compound S.chunk S.program R.piece read_chars
tree_57 = refl

tree_58 : read_chars One (codes "for (x) in a in b: c\n") ≡ Ok (t.for (t.paren (t.name (codes "x"))) (t.compared (t.name (codes "a")) (links ((c.In, (t.name (codes "b"))) ∷ []))) (statements (t.assign [] (t.name (codes "c")) ∷ [])) ∷ [])
unfolding reserved_marks delimiter operator numeral Q.escape Q.item Q.closes Q.body Q.quoted token_piece lexeme cut indented begin bracket step layout encode_utf8 code_of E.keyword_begins E.another E.argument E.attribute E.call E.slice_after E.item_or_slice E.trailer E.parenthesised E.list E.pair E.dict E.atom E.primary_parts E.primary E.power E.unary_level E.term E.sum E.compared E.negated_level E.conjunction E.disjunction E.expr_level E.exprs_level E.phrase S.primary_at S.another_simple S.raise S.return S.assertion S.delete S.global S.import S.update_of S.assignment_of S.update_or_assignment S.simple S.simples S.line S.block S.block_after S.arm S.choice S.while S.for S.caught S.handler S.handled S.finished S.try S.parameter S.definition S.define S.compound S.chunk S.program R.piece read_chars
tree_58 = refl

tree_59 : read_chars One (codes "for [x, y] in a: b\n") ≡ Ok (t.for (t.list (expressions ((t.name (codes "x")) ∷ (t.name (codes "y")) ∷ []))) (t.name (codes "a")) (statements (t.assign [] (t.name (codes "b")) ∷ [])) ∷ [])
unfolding reserved_marks delimiter operator numeral Q.escape Q.item Q.closes Q.body Q.quoted token_piece lexeme cut indented begin bracket step layout encode_utf8 code_of E.keyword_begins E.another E.argument E.attribute E.call E.slice_after E.item_or_slice E.trailer E.parenthesised E.list E.pair E.dict E.atom E.primary_parts E.primary E.power E.unary_level E.term E.sum E.compared E.negated_level E.conjunction E.disjunction E.expr_level E.exprs_level E.phrase S.primary_at S.another_simple S.raise S.return S.assertion S.delete S.global S.import S.update_of S.assignment_of S.update_or_assignment S.simple S.simples S.line S.block S.block_after S.arm S.choice S.while S.for S.caught S.handler S.handled S.finished S.try S.parameter S.definition S.define S.compound S.chunk S.program R.piece read_chars
tree_59 = refl

tree_60 : read_chars One (codes "[a, b,] = [c] = (d)[0] = [e].f = g\n") ≡ Ok (t.assign ((t.list (expressions ((t.name (codes "a")) ∷ (t.name (codes "b")) ∷ []))) ∷ (t.list (expressions ((t.name (codes "c")) ∷ []))) ∷ (t.primary (t.paren (t.name (codes "d"))) (trailers (t.index (t.integer (pos 0)) ∷ []))) ∷ (t.primary (t.list (expressions ((t.name (codes "e")) ∷ []))) (trailers (t.attribute (codes "f") ∷ []))) ∷ []) (t.name (codes "g")) ∷ [])
unfolding reserved_marks delimiter operator numeral Q.escape Q.item Q.closes Q.body Q.quoted token_piece lexeme cut indented begin bracket step layout encode_utf8 code_of E.keyword_begins E.another E.argument E.attribute E.call E.slice_after E.item_or_slice E.trailer E.parenthesised E.list E.pair E.dict E.atom E.primary_parts E.primary E.power E.unary_level E.term E.sum E.compared E.negated_level E.conjunction E.disjunction E.expr_level E.exprs_level E.phrase S.primary_at S.another_simple S.raise S.return S.assertion S.delete S.global S.import S.update_of S.assignment_of S.update_or_assignment S.simple S.simples S.line S.block S.block_after S.arm S.choice S.while S.for S.caught S.handler S.handled S.finished S.try S.parameter S.definition S.define S.compound S.chunk S.program R.piece read_chars
tree_60 = refl

tree_61 : read_chars One (codes "del a[1,], (b).c\n") ≡ Ok (t.delete ((t.primary (t.name (codes "a")) (trailers (t.index (t.tuple (expressions ((t.integer (pos 1)) ∷ []))) ∷ []))) ∷ (t.primary (t.paren (t.name (codes "b"))) (trailers (t.attribute (codes "c") ∷ []))) ∷ []) ∷ [])
unfolding reserved_marks delimiter operator numeral Q.escape Q.item Q.closes Q.body Q.quoted token_piece lexeme cut indented begin bracket step layout encode_utf8 code_of E.keyword_begins E.another E.argument E.attribute E.call E.slice_after E.item_or_slice E.trailer E.parenthesised E.list E.pair E.dict E.atom E.primary_parts E.primary E.power E.unary_level E.term E.sum E.compared E.negated_level E.conjunction E.disjunction E.expr_level E.exprs_level E.phrase S.primary_at S.another_simple S.raise S.return S.assertion S.delete S.global S.import S.update_of S.assignment_of S.update_or_assignment S.simple S.simples S.line S.block S.block_after S.arm S.choice S.while S.for S.caught S.handler S.handled S.finished S.try S.parameter S.definition S.define S.compound S.chunk S.program R.piece read_chars
tree_61 = refl

tree_62 : read_chars One (codes "a[1,] += b,\n") ≡ Ok (t.update (t.primary (t.name (codes "a")) (trailers (t.index (t.tuple (expressions ((t.integer (pos 1)) ∷ []))) ∷ []))) o.Add (t.tuple (expressions ((t.name (codes "b")) ∷ []))) ∷ [])
unfolding reserved_marks delimiter operator numeral Q.escape Q.item Q.closes Q.body Q.quoted token_piece lexeme cut indented begin bracket step layout encode_utf8 code_of E.keyword_begins E.another E.argument E.attribute E.call E.slice_after E.item_or_slice E.trailer E.parenthesised E.list E.pair E.dict E.atom E.primary_parts E.primary E.power E.unary_level E.term E.sum E.compared E.negated_level E.conjunction E.disjunction E.expr_level E.exprs_level E.phrase S.primary_at S.another_simple S.raise S.return S.assertion S.delete S.global S.import S.update_of S.assignment_of S.update_or_assignment S.simple S.simples S.line S.block S.block_after S.arm S.choice S.while S.for S.caught S.handler S.handled S.finished S.try S.parameter S.definition S.define S.compound S.chunk S.program R.piece read_chars
tree_62 = refl

tree_63 : read_chars One (codes "x if a else (y if b else z) if c else w\n") ≡ Ok (t.assign [] (t.conditional (t.name (codes "x")) (t.name (codes "a")) (t.conditional (t.paren (t.conditional (t.name (codes "y")) (t.name (codes "b")) (t.name (codes "z")))) (t.name (codes "c")) (t.name (codes "w")))) ∷ [])
unfolding reserved_marks delimiter operator numeral Q.escape Q.item Q.closes Q.body Q.quoted token_piece lexeme cut indented begin bracket step layout encode_utf8 code_of E.keyword_begins E.another E.argument E.attribute E.call E.slice_after E.item_or_slice E.trailer E.parenthesised E.list E.pair E.dict E.atom E.primary_parts E.primary E.power E.unary_level E.term E.sum E.compared E.negated_level E.conjunction E.disjunction E.expr_level E.exprs_level E.phrase S.primary_at S.another_simple S.raise S.return S.assertion S.delete S.global S.import S.update_of S.assignment_of S.update_or_assignment S.simple S.simples S.line S.block S.block_after S.arm S.choice S.while S.for S.caught S.handler S.handled S.finished S.try S.parameter S.definition S.define S.compound S.chunk S.program R.piece read_chars
tree_63 = refl

tree_64 : read_chars One (codes "a < -b ** +c, not a in b, (not a) in b\n") ≡ Ok (t.assign [] (t.tuple (expressions ((t.compared (t.name (codes "a")) (links ((c.Less, (t.signed s.Minus (t.power (t.name (codes "b")) (t.signed s.Plus (t.name (codes "c")))))) ∷ []))) ∷ (t.not (t.compared (t.name (codes "a")) (links ((c.In, (t.name (codes "b"))) ∷ [])))) ∷ (t.compared (t.paren (t.not (t.name (codes "a")))) (links ((c.In, (t.name (codes "b"))) ∷ []))) ∷ []))) ∷ [])
unfolding reserved_marks delimiter operator numeral Q.escape Q.item Q.closes Q.body Q.quoted token_piece lexeme cut indented begin bracket step layout encode_utf8 code_of E.keyword_begins E.another E.argument E.attribute E.call E.slice_after E.item_or_slice E.trailer E.parenthesised E.list E.pair E.dict E.atom E.primary_parts E.primary E.power E.unary_level E.term E.sum E.compared E.negated_level E.conjunction E.disjunction E.expr_level E.exprs_level E.phrase S.primary_at S.another_simple S.raise S.return S.assertion S.delete S.global S.import S.update_of S.assignment_of S.update_or_assignment S.simple S.simples S.line S.block S.block_after S.arm S.choice S.while S.for S.caught S.handler S.handled S.finished S.try S.parameter S.definition S.define S.compound S.chunk S.program R.piece read_chars
tree_64 = refl

tree_65 : read_chars One (codes "f(a if b else c, d=e or f)(a == 1)\n") ≡ Ok (t.assign [] (t.primary (t.name (codes "f")) (trailers (t.call (arguments (t.plain (t.conditional (t.name (codes "a")) (t.name (codes "b")) (t.name (codes "c"))) ∷ t.keyword (codes "d") (t.or (expressions ((t.name (codes "e")) ∷ (t.name (codes "f")) ∷ []))) ∷ [])) ∷ t.call (arguments (t.plain (t.compared (t.name (codes "a")) (links ((c.Equal, (t.integer (pos 1))) ∷ []))) ∷ [])) ∷ []))) ∷ [])
unfolding reserved_marks delimiter operator numeral Q.escape Q.item Q.closes Q.body Q.quoted token_piece lexeme cut indented begin bracket step layout encode_utf8 code_of E.keyword_begins E.another E.argument E.attribute E.call E.slice_after E.item_or_slice E.trailer E.parenthesised E.list E.pair E.dict E.atom E.primary_parts E.primary E.power E.unary_level E.term E.sum E.compared E.negated_level E.conjunction E.disjunction E.expr_level E.exprs_level E.phrase S.primary_at S.another_simple S.raise S.return S.assertion S.delete S.global S.import S.update_of S.assignment_of S.update_or_assignment S.simple S.simples S.line S.block S.block_after S.arm S.choice S.while S.for S.caught S.handler S.handled S.finished S.try S.parameter S.definition S.define S.compound S.chunk S.program R.piece read_chars
tree_65 = refl

tree_66 : read_chars One (codes "def f(a=b, c=a):\n  global b, f\n  b = f = 1\n") ≡ Ok (t.define (codes "f") (((codes "a"), (Some (t.name (codes "b")))) ∷ ((codes "c"), (Some (t.name (codes "a")))) ∷ []) (statements (t.global ((codes "b") ∷ (codes "f") ∷ []) ∷ t.assign ((t.name (codes "b")) ∷ (t.name (codes "f")) ∷ []) (t.integer (pos 1)) ∷ [])) (codes "def f(a=b, c=a):\n  global b, f\n  b = f = 1") ∷ [])
unfolding reserved_marks delimiter operator numeral Q.escape Q.item Q.closes Q.body Q.quoted token_piece lexeme cut indented begin bracket step layout encode_utf8 code_of E.keyword_begins E.another E.argument E.attribute E.call E.slice_after E.item_or_slice E.trailer E.parenthesised E.list E.pair E.dict E.atom E.primary_parts E.primary E.power E.unary_level E.term E.sum E.compared E.negated_level E.conjunction E.disjunction E.expr_level E.exprs_level E.phrase S.primary_at S.another_simple S.raise S.return S.assertion S.delete S.global S.import S.update_of S.assignment_of S.update_or_assignment S.simple S.simples S.line S.block S.block_after S.arm S.choice S.while S.for S.caught S.handler S.handled S.finished S.try S.parameter S.definition S.define S.compound S.chunk S.program R.piece read_chars
tree_66 = refl

tree_67 : read_chars One (codes "def f():\n  if a: global b\n  else: b = 1\n") ≡ Ok (t.define (codes "f") ([]) (statements (t.choose (arms (((t.name (codes "a")), (statements (t.global ((codes "b") ∷ []) ∷ []))) ∷ [])) (statements (t.assign ((t.name (codes "b")) ∷ []) (t.integer (pos 1)) ∷ [])) ∷ [])) (codes "def f():\n  if a: global b\n  else: b = 1") ∷ [])
unfolding reserved_marks delimiter operator numeral Q.escape Q.item Q.closes Q.body Q.quoted token_piece lexeme cut indented begin bracket step layout encode_utf8 code_of E.keyword_begins E.another E.argument E.attribute E.call E.slice_after E.item_or_slice E.trailer E.parenthesised E.list E.pair E.dict E.atom E.primary_parts E.primary E.power E.unary_level E.term E.sum E.compared E.negated_level E.conjunction E.disjunction E.expr_level E.exprs_level E.phrase S.primary_at S.another_simple S.raise S.return S.assertion S.delete S.global S.import S.update_of S.assignment_of S.update_or_assignment S.simple S.simples S.line S.block S.block_after S.arm S.choice S.while S.for S.caught S.handler S.handled S.finished S.try S.parameter S.definition S.define S.compound S.chunk S.program R.piece read_chars
tree_67 = refl

tree_68 : read_chars One (codes "def f():\n  x.a(b=1)\n  global a, b, a\n") ≡ Ok (t.define (codes "f") ([]) (statements (t.assign [] (t.primary (t.name (codes "x")) (trailers (t.attribute (codes "a") ∷ t.call (arguments (t.keyword (codes "b") (t.integer (pos 1)) ∷ [])) ∷ []))) ∷ t.global ((codes "a") ∷ (codes "b") ∷ (codes "a") ∷ []) ∷ [])) (codes "def f():\n  x.a(b=1)\n  global a, b, a") ∷ [])
unfolding reserved_marks delimiter operator numeral Q.escape Q.item Q.closes Q.body Q.quoted token_piece lexeme cut indented begin bracket step layout encode_utf8 code_of E.keyword_begins E.another E.argument E.attribute E.call E.slice_after E.item_or_slice E.trailer E.parenthesised E.list E.pair E.dict E.atom E.primary_parts E.primary E.power E.unary_level E.term E.sum E.compared E.negated_level E.conjunction E.disjunction E.expr_level E.exprs_level E.phrase S.primary_at S.another_simple S.raise S.return S.assertion S.delete S.global S.import S.update_of S.assignment_of S.update_or_assignment S.simple S.simples S.line S.block S.block_after S.arm S.choice S.while S.for S.caught S.handler S.handled S.finished S.try S.parameter S.definition S.define S.compound S.chunk S.program R.piece read_chars
tree_68 = refl

tree_69 : read_chars One (codes "while a:\n  try: b\n  except: break\n  else: continue\n  finally: break\n") ≡ Ok (t.while (t.name (codes "a")) (statements (t.try (statements (t.assign [] (t.name (codes "b")) ∷ [])) (handlers (record { class = None; caught = None; body = (statements (t.break ∷ [])) } ∷ [])) (statements (t.continue ∷ [])) (statements (t.break ∷ [])) ∷ [])) ∷ [])
unfolding reserved_marks delimiter operator numeral Q.escape Q.item Q.closes Q.body Q.quoted token_piece lexeme cut indented begin bracket step layout encode_utf8 code_of E.keyword_begins E.another E.argument E.attribute E.call E.slice_after E.item_or_slice E.trailer E.parenthesised E.list E.pair E.dict E.atom E.primary_parts E.primary E.power E.unary_level E.term E.sum E.compared E.negated_level E.conjunction E.disjunction E.expr_level E.exprs_level E.phrase S.primary_at S.another_simple S.raise S.return S.assertion S.delete S.global S.import S.update_of S.assignment_of S.update_or_assignment S.simple S.simples S.line S.block S.block_after S.arm S.choice S.while S.for S.caught S.handler S.handled S.finished S.try S.parameter S.definition S.define S.compound S.chunk S.program R.piece read_chars
tree_69 = refl

tree_70 : read_chars One (codes "while a:\n  def f():\n    for b in c:\n      return b\n  break\n") ≡ Ok (t.while (t.name (codes "a")) (statements (t.define (codes "f") ([]) (statements (t.for (t.name (codes "b")) (t.name (codes "c")) (statements (t.return (Some (t.name (codes "b"))) ∷ [])) ∷ [])) (codes "def f():\n    for b in c:\n      return b") ∷ t.break ∷ [])) ∷ [])
unfolding reserved_marks delimiter operator numeral Q.escape Q.item Q.closes Q.body Q.quoted token_piece lexeme cut indented begin bracket step layout encode_utf8 code_of E.keyword_begins E.another E.argument E.attribute E.call E.slice_after E.item_or_slice E.trailer E.parenthesised E.list E.pair E.dict E.atom E.primary_parts E.primary E.power E.unary_level E.term E.sum E.compared E.negated_level E.conjunction E.disjunction E.expr_level E.exprs_level E.phrase S.primary_at S.another_simple S.raise S.return S.assertion S.delete S.global S.import S.update_of S.assignment_of S.update_or_assignment S.simple S.simples S.line S.block S.block_after S.arm S.choice S.while S.for S.caught S.handler S.handled S.finished S.try S.parameter S.definition S.define S.compound S.chunk S.program R.piece read_chars
tree_70 = refl

tree_71 : read_chars One (codes "try: a\nexcept A:\n  while b:\n    if c: raise\n") ≡ Ok (t.try (statements (t.assign [] (t.name (codes "a")) ∷ [])) (handlers (record { class = (Some (t.name (codes "A"))); caught = None; body = (statements (t.while (t.name (codes "b")) (statements (t.choose (arms (((t.name (codes "c")), (statements (t.raise None ∷ []))) ∷ [])) (statements ([])) ∷ [])) ∷ [])) } ∷ [])) (statements ([])) (statements ([])) ∷ [])
unfolding reserved_marks delimiter operator numeral Q.escape Q.item Q.closes Q.body Q.quoted token_piece lexeme cut indented begin bracket step layout encode_utf8 code_of E.keyword_begins E.another E.argument E.attribute E.call E.slice_after E.item_or_slice E.trailer E.parenthesised E.list E.pair E.dict E.atom E.primary_parts E.primary E.power E.unary_level E.term E.sum E.compared E.negated_level E.conjunction E.disjunction E.expr_level E.exprs_level E.phrase S.primary_at S.another_simple S.raise S.return S.assertion S.delete S.global S.import S.update_of S.assignment_of S.update_or_assignment S.simple S.simples S.line S.block S.block_after S.arm S.choice S.while S.for S.caught S.handler S.handled S.finished S.try S.parameter S.definition S.define S.compound S.chunk S.program R.piece read_chars
tree_71 = refl

tree_72 : read_chars One (codes "def f():\n  try: a\n  except:\n    try: raise\n    finally: raise\n") ≡ Ok (t.define (codes "f") ([]) (statements (t.try (statements (t.assign [] (t.name (codes "a")) ∷ [])) (handlers (record { class = None; caught = None; body = (statements (t.finally (statements (t.raise None ∷ [])) (statements (t.raise None ∷ [])) ∷ [])) } ∷ [])) (statements ([])) (statements ([])) ∷ [])) (codes "def f():\n  try: a\n  except:\n    try: raise\n    finally: raise") ∷ [])
unfolding reserved_marks delimiter operator numeral Q.escape Q.item Q.closes Q.body Q.quoted token_piece lexeme cut indented begin bracket step layout encode_utf8 code_of E.keyword_begins E.another E.argument E.attribute E.call E.slice_after E.item_or_slice E.trailer E.parenthesised E.list E.pair E.dict E.atom E.primary_parts E.primary E.power E.unary_level E.term E.sum E.compared E.negated_level E.conjunction E.disjunction E.expr_level E.exprs_level E.phrase S.primary_at S.another_simple S.raise S.return S.assertion S.delete S.global S.import S.update_of S.assignment_of S.update_or_assignment S.simple S.simples S.line S.block S.block_after S.arm S.choice S.while S.for S.caught S.handler S.handled S.finished S.try S.parameter S.definition S.define S.compound S.chunk S.program R.piece read_chars
tree_72 = refl

tree_73 : read_chars One (codes "try: a\nexcept A: b\n\n# c\nelse: d\n\nfinally: e\n") ≡ Ok (t.try (statements (t.assign [] (t.name (codes "a")) ∷ [])) (handlers (record { class = (Some (t.name (codes "A"))); caught = None; body = (statements (t.assign [] (t.name (codes "b")) ∷ [])) } ∷ [])) (statements (t.assign [] (t.name (codes "d")) ∷ [])) (statements (t.assign [] (t.name (codes "e")) ∷ [])) ∷ [])
unfolding reserved_marks delimiter operator numeral Q.escape Q.item Q.closes Q.body Q.quoted token_piece lexeme cut indented begin bracket step layout encode_utf8 code_of E.keyword_begins E.another E.argument E.attribute E.call E.slice_after E.item_or_slice E.trailer E.parenthesised E.list E.pair E.dict E.atom E.primary_parts E.primary E.power E.unary_level E.term E.sum E.compared E.negated_level E.conjunction E.disjunction E.expr_level E.exprs_level E.phrase S.primary_at S.another_simple S.raise S.return S.assertion S.delete S.global S.import S.update_of S.assignment_of S.update_or_assignment S.simple S.simples S.line S.block S.block_after S.arm S.choice S.while S.for S.caught S.handler S.handled S.finished S.try S.parameter S.definition S.define S.compound S.chunk S.program R.piece read_chars
tree_73 = refl

tree_74 : read_chars One (codes "((((((((((((((((((((((((((((((((((((((((((((((((((((((((((((a))))))))))))))))))))))))))))))))))))))))))))))))))))))))))))\n") ≡ Ok (t.assign [] (t.paren (t.paren (t.paren (t.paren (t.paren (t.paren (t.paren (t.paren (t.paren (t.paren (t.paren (t.paren (t.paren (t.paren (t.paren (t.paren (t.paren (t.paren (t.paren (t.paren (t.paren (t.paren (t.paren (t.paren (t.paren (t.paren (t.paren (t.paren (t.paren (t.paren (t.paren (t.paren (t.paren (t.paren (t.paren (t.paren (t.paren (t.paren (t.paren (t.paren (t.paren (t.paren (t.paren (t.paren (t.paren (t.paren (t.paren (t.paren (t.paren (t.paren (t.paren (t.paren (t.paren (t.paren (t.paren (t.paren (t.paren (t.paren (t.paren (t.paren (t.name (codes "a")))))))))))))))))))))))))))))))))))))))))))))))))))))))))))))) ∷ [])
unfolding reserved_marks delimiter operator numeral Q.escape Q.item Q.closes Q.body Q.quoted token_piece lexeme cut indented begin bracket step layout encode_utf8 code_of E.keyword_begins E.another E.argument E.attribute E.call E.slice_after E.item_or_slice E.trailer E.parenthesised E.list E.pair E.dict E.atom E.primary_parts E.primary E.power E.unary_level E.term E.sum E.compared E.negated_level E.conjunction E.disjunction E.expr_level E.exprs_level E.phrase S.primary_at S.another_simple S.raise S.return S.assertion S.delete S.global S.import S.update_of S.assignment_of S.update_or_assignment S.simple S.simples S.line S.block S.block_after S.arm S.choice S.while S.for S.caught S.handler S.handled S.finished S.try S.parameter S.definition S.define S.compound S.chunk S.program R.piece read_chars
tree_74 = refl

tree_75 : read_chars One (codes "[[[[[[[[[[[[[[[[[[[[[[[[[[[[[[[[[[[[[[[[[[[[[[[[[[[[[[[[[[[[a]]]]]]]]]]]]]]]]]]]]]]]]]]]]]]]]]]]]]]]]]]]]]]]]]]]]]]]]]]]]\n") ≡ Ok (t.assign [] (t.list (expressions ((t.list (expressions ((t.list (expressions ((t.list (expressions ((t.list (expressions ((t.list (expressions ((t.list (expressions ((t.list (expressions ((t.list (expressions ((t.list (expressions ((t.list (expressions ((t.list (expressions ((t.list (expressions ((t.list (expressions ((t.list (expressions ((t.list (expressions ((t.list (expressions ((t.list (expressions ((t.list (expressions ((t.list (expressions ((t.list (expressions ((t.list (expressions ((t.list (expressions ((t.list (expressions ((t.list (expressions ((t.list (expressions ((t.list (expressions ((t.list (expressions ((t.list (expressions ((t.list (expressions ((t.list (expressions ((t.list (expressions ((t.list (expressions ((t.list (expressions ((t.list (expressions ((t.list (expressions ((t.list (expressions ((t.list (expressions ((t.list (expressions ((t.list (expressions ((t.list (expressions ((t.list (expressions ((t.list (expressions ((t.list (expressions ((t.list (expressions ((t.list (expressions ((t.list (expressions ((t.list (expressions ((t.list (expressions ((t.list (expressions ((t.list (expressions ((t.list (expressions ((t.list (expressions ((t.list (expressions ((t.list (expressions ((t.list (expressions ((t.list (expressions ((t.list (expressions ((t.list (expressions ((t.list (expressions ((t.name (codes "a")) ∷ []))) ∷ []))) ∷ []))) ∷ []))) ∷ []))) ∷ []))) ∷ []))) ∷ []))) ∷ []))) ∷ []))) ∷ []))) ∷ []))) ∷ []))) ∷ []))) ∷ []))) ∷ []))) ∷ []))) ∷ []))) ∷ []))) ∷ []))) ∷ []))) ∷ []))) ∷ []))) ∷ []))) ∷ []))) ∷ []))) ∷ []))) ∷ []))) ∷ []))) ∷ []))) ∷ []))) ∷ []))) ∷ []))) ∷ []))) ∷ []))) ∷ []))) ∷ []))) ∷ []))) ∷ []))) ∷ []))) ∷ []))) ∷ []))) ∷ []))) ∷ []))) ∷ []))) ∷ []))) ∷ []))) ∷ []))) ∷ []))) ∷ []))) ∷ []))) ∷ []))) ∷ []))) ∷ []))) ∷ []))) ∷ []))) ∷ []))) ∷ []))) ∷ []))) ∷ []))) ∷ [])
unfolding reserved_marks delimiter operator numeral Q.escape Q.item Q.closes Q.body Q.quoted token_piece lexeme cut indented begin bracket step layout encode_utf8 code_of E.keyword_begins E.another E.argument E.attribute E.call E.slice_after E.item_or_slice E.trailer E.parenthesised E.list E.pair E.dict E.atom E.primary_parts E.primary E.power E.unary_level E.term E.sum E.compared E.negated_level E.conjunction E.disjunction E.expr_level E.exprs_level E.phrase S.primary_at S.another_simple S.raise S.return S.assertion S.delete S.global S.import S.update_of S.assignment_of S.update_or_assignment S.simple S.simples S.line S.block S.block_after S.arm S.choice S.while S.for S.caught S.handler S.handled S.finished S.try S.parameter S.definition S.define S.compound S.chunk S.program R.piece read_chars
tree_75 = refl

tree_76 : read_chars One (codes "a[a[a[a[a[a[a[a[a[a[a[a[a[a[a[a[a[a[a[a[a[a[a[a[a[a[a[a[a[a[a[a[a[a[a[a[a[a[a[a[a[a[a[a[a[a[a[a[a[a[a[a[a[a[a[a[a[a[a[a[a]]]]]]]]]]]]]]]]]]]]]]]]]]]]]]]]]]]]]]]]]]]]]]]]]]]]]]]]]]]]\n") ≡ Ok (t.assign [] (t.primary (t.name (codes "a")) (trailers (t.index (t.primary (t.name (codes "a")) (trailers (t.index (t.primary (t.name (codes "a")) (trailers (t.index (t.primary (t.name (codes "a")) (trailers (t.index (t.primary (t.name (codes "a")) (trailers (t.index (t.primary (t.name (codes "a")) (trailers (t.index (t.primary (t.name (codes "a")) (trailers (t.index (t.primary (t.name (codes "a")) (trailers (t.index (t.primary (t.name (codes "a")) (trailers (t.index (t.primary (t.name (codes "a")) (trailers (t.index (t.primary (t.name (codes "a")) (trailers (t.index (t.primary (t.name (codes "a")) (trailers (t.index (t.primary (t.name (codes "a")) (trailers (t.index (t.primary (t.name (codes "a")) (trailers (t.index (t.primary (t.name (codes "a")) (trailers (t.index (t.primary (t.name (codes "a")) (trailers (t.index (t.primary (t.name (codes "a")) (trailers (t.index (t.primary (t.name (codes "a")) (trailers (t.index (t.primary (t.name (codes "a")) (trailers (t.index (t.primary (t.name (codes "a")) (trailers (t.index (t.primary (t.name (codes "a")) (trailers (t.index (t.primary (t.name (codes "a")) (trailers (t.index (t.primary (t.name (codes "a")) (trailers (t.index (t.primary (t.name (codes "a")) (trailers (t.index (t.primary (t.name (codes "a")) (trailers (t.index (t.primary (t.name (codes "a")) (trailers (t.index (t.primary (t.name (codes "a")) (trailers (t.index (t.primary (t.name (codes "a")) (trailers (t.index (t.primary (t.name (codes "a")) (trailers (t.index (t.primary (t.name (codes "a")) (trailers (t.index (t.primary (t.name (codes "a")) (trailers (t.index (t.primary (t.name (codes "a")) (trailers (t.index (t.primary (t.name (codes "a")) (trailers (t.index (t.primary (t.name (codes "a")) (trailers (t.index (t.primary (t.name (codes "a")) (trailers (t.index (t.primary (t.name (codes "a")) (trailers (t.index (t.primary (t.name (codes "a")) (trailers (t.index (t.primary (t.name (codes "a")) (trailers (t.index (t.primary (t.name (codes "a")) (trailers (t.index (t.primary (t.name (codes "a")) (trailers (t.index (t.primary (t.name (codes "a")) (trailers (t.index (t.primary (t.name (codes "a")) (trailers (t.index (t.primary (t.name (codes "a")) (trailers (t.index (t.primary (t.name (codes "a")) (trailers (t.index (t.primary (t.name (codes "a")) (trailers (t.index (t.primary (t.name (codes "a")) (trailers (t.index (t.primary (t.name (codes "a")) (trailers (t.index (t.primary (t.name (codes "a")) (trailers (t.index (t.primary (t.name (codes "a")) (trailers (t.index (t.primary (t.name (codes "a")) (trailers (t.index (t.primary (t.name (codes "a")) (trailers (t.index (t.primary (t.name (codes "a")) (trailers (t.index (t.primary (t.name (codes "a")) (trailers (t.index (t.primary (t.name (codes "a")) (trailers (t.index (t.primary (t.name (codes "a")) (trailers (t.index (t.primary (t.name (codes "a")) (trailers (t.index (t.primary (t.name (codes "a")) (trailers (t.index (t.primary (t.name (codes "a")) (trailers (t.index (t.primary (t.name (codes "a")) (trailers (t.index (t.primary (t.name (codes "a")) (trailers (t.index (t.name (codes "a")) ∷ []))) ∷ []))) ∷ []))) ∷ []))) ∷ []))) ∷ []))) ∷ []))) ∷ []))) ∷ []))) ∷ []))) ∷ []))) ∷ []))) ∷ []))) ∷ []))) ∷ []))) ∷ []))) ∷ []))) ∷ []))) ∷ []))) ∷ []))) ∷ []))) ∷ []))) ∷ []))) ∷ []))) ∷ []))) ∷ []))) ∷ []))) ∷ []))) ∷ []))) ∷ []))) ∷ []))) ∷ []))) ∷ []))) ∷ []))) ∷ []))) ∷ []))) ∷ []))) ∷ []))) ∷ []))) ∷ []))) ∷ []))) ∷ []))) ∷ []))) ∷ []))) ∷ []))) ∷ []))) ∷ []))) ∷ []))) ∷ []))) ∷ []))) ∷ []))) ∷ []))) ∷ []))) ∷ []))) ∷ []))) ∷ []))) ∷ []))) ∷ []))) ∷ []))) ∷ []))) ∷ [])
unfolding reserved_marks delimiter operator numeral Q.escape Q.item Q.closes Q.body Q.quoted token_piece lexeme cut indented begin bracket step layout encode_utf8 code_of E.keyword_begins E.another E.argument E.attribute E.call E.slice_after E.item_or_slice E.trailer E.parenthesised E.list E.pair E.dict E.atom E.primary_parts E.primary E.power E.unary_level E.term E.sum E.compared E.negated_level E.conjunction E.disjunction E.expr_level E.exprs_level E.phrase S.primary_at S.another_simple S.raise S.return S.assertion S.delete S.global S.import S.update_of S.assignment_of S.update_or_assignment S.simple S.simples S.line S.block S.block_after S.arm S.choice S.while S.for S.caught S.handler S.handled S.finished S.try S.parameter S.definition S.define S.compound S.chunk S.program R.piece read_chars
tree_76 = refl

tree_77 : read_chars One (codes "f(f(f(f(f(f(f(f(f(f(f(f(f(f(f(f(f(f(f(f(f(f(f(f(f(f(f(f(f(f(f(f(f(f(f(f(f(f(f(f(f(f(f(f(f(f(f(f(f(f(f(f(f(f(f(f(f(f(f(f(a))))))))))))))))))))))))))))))))))))))))))))))))))))))))))))\n") ≡ Ok (t.assign [] (t.primary (t.name (codes "f")) (trailers (t.call (arguments (t.plain (t.primary (t.name (codes "f")) (trailers (t.call (arguments (t.plain (t.primary (t.name (codes "f")) (trailers (t.call (arguments (t.plain (t.primary (t.name (codes "f")) (trailers (t.call (arguments (t.plain (t.primary (t.name (codes "f")) (trailers (t.call (arguments (t.plain (t.primary (t.name (codes "f")) (trailers (t.call (arguments (t.plain (t.primary (t.name (codes "f")) (trailers (t.call (arguments (t.plain (t.primary (t.name (codes "f")) (trailers (t.call (arguments (t.plain (t.primary (t.name (codes "f")) (trailers (t.call (arguments (t.plain (t.primary (t.name (codes "f")) (trailers (t.call (arguments (t.plain (t.primary (t.name (codes "f")) (trailers (t.call (arguments (t.plain (t.primary (t.name (codes "f")) (trailers (t.call (arguments (t.plain (t.primary (t.name (codes "f")) (trailers (t.call (arguments (t.plain (t.primary (t.name (codes "f")) (trailers (t.call (arguments (t.plain (t.primary (t.name (codes "f")) (trailers (t.call (arguments (t.plain (t.primary (t.name (codes "f")) (trailers (t.call (arguments (t.plain (t.primary (t.name (codes "f")) (trailers (t.call (arguments (t.plain (t.primary (t.name (codes "f")) (trailers (t.call (arguments (t.plain (t.primary (t.name (codes "f")) (trailers (t.call (arguments (t.plain (t.primary (t.name (codes "f")) (trailers (t.call (arguments (t.plain (t.primary (t.name (codes "f")) (trailers (t.call (arguments (t.plain (t.primary (t.name (codes "f")) (trailers (t.call (arguments (t.plain (t.primary (t.name (codes "f")) (trailers (t.call (arguments (t.plain (t.primary (t.name (codes "f")) (trailers (t.call (arguments (t.plain (t.primary (t.name (codes "f")) (trailers (t.call (arguments (t.plain (t.primary (t.name (codes "f")) (trailers (t.call (arguments (t.plain (t.primary (t.name (codes "f")) (trailers (t.call (arguments (t.plain (t.primary (t.name (codes "f")) (trailers (t.call (arguments (t.plain (t.primary (t.name (codes "f")) (trailers (t.call (arguments (t.plain (t.primary (t.name (codes "f")) (trailers (t.call (arguments (t.plain (t.primary (t.name (codes "f")) (trailers (t.call (arguments (t.plain (t.primary (t.name (codes "f")) (trailers (t.call (arguments (t.plain (t.primary (t.name (codes "f")) (trailers (t.call (arguments (t.plain (t.primary (t.name (codes "f")) (trailers (t.call (arguments (t.plain (t.primary (t.name (codes "f")) (trailers (t.call (arguments (t.plain (t.primary (t.name (codes "f")) (trailers (t.call (arguments (t.plain (t.primary (t.name (codes "f")) (trailers (t.call (arguments (t.plain (t.primary (t.name (codes "f")) (trailers (t.call (arguments (t.plain (t.primary (t.name (codes "f")) (trailers (t.call (arguments (t.plain (t.primary (t.name (codes "f")) (trailers (t.call (arguments (t.plain (t.primary (t.name (codes "f")) (trailers (t.call (arguments (t.plain (t.primary (t.name (codes "f")) (trailers (t.call (arguments (t.plain (t.primary (t.name (codes "f")) (trailers (t.call (arguments (t.plain (t.primary (t.name (codes "f")) (trailers (t.call (arguments (t.plain (t.primary (t.name (codes "f")) (trailers (t.call (arguments (t.plain (t.primary (t.name (codes "f")) (trailers (t.call (arguments (t.plain (t.primary (t.name (codes "f")) (trailers (t.call (arguments (t.plain (t.primary (t.name (codes "f")) (trailers (t.call (arguments (t.plain (t.primary (t.name (codes "f")) (trailers (t.call (arguments (t.plain (t.primary (t.name (codes "f")) (trailers (t.call (arguments (t.plain (t.primary (t.name (codes "f")) (trailers (t.call (arguments (t.plain (t.primary (t.name (codes "f")) (trailers (t.call (arguments (t.plain (t.primary (t.name (codes "f")) (trailers (t.call (arguments (t.plain (t.primary (t.name (codes "f")) (trailers (t.call (arguments (t.plain (t.primary (t.name (codes "f")) (trailers (t.call (arguments (t.plain (t.primary (t.name (codes "f")) (trailers (t.call (arguments (t.plain (t.primary (t.name (codes "f")) (trailers (t.call (arguments (t.plain (t.primary (t.name (codes "f")) (trailers (t.call (arguments (t.plain (t.primary (t.name (codes "f")) (trailers (t.call (arguments (t.plain (t.primary (t.name (codes "f")) (trailers (t.call (arguments (t.plain (t.name (codes "a")) ∷ [])) ∷ []))) ∷ [])) ∷ []))) ∷ [])) ∷ []))) ∷ [])) ∷ []))) ∷ [])) ∷ []))) ∷ [])) ∷ []))) ∷ [])) ∷ []))) ∷ [])) ∷ []))) ∷ [])) ∷ []))) ∷ [])) ∷ []))) ∷ [])) ∷ []))) ∷ [])) ∷ []))) ∷ [])) ∷ []))) ∷ [])) ∷ []))) ∷ [])) ∷ []))) ∷ [])) ∷ []))) ∷ [])) ∷ []))) ∷ [])) ∷ []))) ∷ [])) ∷ []))) ∷ [])) ∷ []))) ∷ [])) ∷ []))) ∷ [])) ∷ []))) ∷ [])) ∷ []))) ∷ [])) ∷ []))) ∷ [])) ∷ []))) ∷ [])) ∷ []))) ∷ [])) ∷ []))) ∷ [])) ∷ []))) ∷ [])) ∷ []))) ∷ [])) ∷ []))) ∷ [])) ∷ []))) ∷ [])) ∷ []))) ∷ [])) ∷ []))) ∷ [])) ∷ []))) ∷ [])) ∷ []))) ∷ [])) ∷ []))) ∷ [])) ∷ []))) ∷ [])) ∷ []))) ∷ [])) ∷ []))) ∷ [])) ∷ []))) ∷ [])) ∷ []))) ∷ [])) ∷ []))) ∷ [])) ∷ []))) ∷ [])) ∷ []))) ∷ [])) ∷ []))) ∷ [])) ∷ []))) ∷ [])) ∷ []))) ∷ [])) ∷ []))) ∷ [])) ∷ []))) ∷ [])) ∷ []))) ∷ [])) ∷ []))) ∷ [])) ∷ []))) ∷ [])) ∷ []))) ∷ [])) ∷ []))) ∷ [])) ∷ []))) ∷ [])) ∷ []))) ∷ [])) ∷ []))) ∷ [])) ∷ []))) ∷ [])) ∷ []))) ∷ [])) ∷ []))) ∷ [])
unfolding reserved_marks delimiter operator numeral Q.escape Q.item Q.closes Q.body Q.quoted token_piece lexeme cut indented begin bracket step layout encode_utf8 code_of E.keyword_begins E.another E.argument E.attribute E.call E.slice_after E.item_or_slice E.trailer E.parenthesised E.list E.pair E.dict E.atom E.primary_parts E.primary E.power E.unary_level E.term E.sum E.compared E.negated_level E.conjunction E.disjunction E.expr_level E.exprs_level E.phrase S.primary_at S.another_simple S.raise S.return S.assertion S.delete S.global S.import S.update_of S.assignment_of S.update_or_assignment S.simple S.simples S.line S.block S.block_after S.arm S.choice S.while S.for S.caught S.handler S.handled S.finished S.try S.parameter S.definition S.define S.compound S.chunk S.program R.piece read_chars
tree_77 = refl

tree_78 : read_chars One (codes "not not not not not not not not not not not not not not not not not not not not not not not not not not not not not not not not not not not not not not not not not not not not not not not not not not not not not not not not not not not not a\n") ≡ Ok (t.assign [] (t.not (t.not (t.not (t.not (t.not (t.not (t.not (t.not (t.not (t.not (t.not (t.not (t.not (t.not (t.not (t.not (t.not (t.not (t.not (t.not (t.not (t.not (t.not (t.not (t.not (t.not (t.not (t.not (t.not (t.not (t.not (t.not (t.not (t.not (t.not (t.not (t.not (t.not (t.not (t.not (t.not (t.not (t.not (t.not (t.not (t.not (t.not (t.not (t.not (t.not (t.not (t.not (t.not (t.not (t.not (t.not (t.not (t.not (t.not (t.not (t.name (codes "a")))))))))))))))))))))))))))))))))))))))))))))))))))))))))))))) ∷ [])
unfolding reserved_marks delimiter operator numeral Q.escape Q.item Q.closes Q.body Q.quoted token_piece lexeme cut indented begin bracket step layout encode_utf8 code_of E.keyword_begins E.another E.argument E.attribute E.call E.slice_after E.item_or_slice E.trailer E.parenthesised E.list E.pair E.dict E.atom E.primary_parts E.primary E.power E.unary_level E.term E.sum E.compared E.negated_level E.conjunction E.disjunction E.expr_level E.exprs_level E.phrase S.primary_at S.another_simple S.raise S.return S.assertion S.delete S.global S.import S.update_of S.assignment_of S.update_or_assignment S.simple S.simples S.line S.block S.block_after S.arm S.choice S.while S.for S.caught S.handler S.handled S.finished S.try S.parameter S.definition S.define S.compound S.chunk S.program R.piece read_chars
tree_78 = refl

tree_79 : read_chars One (codes "- - - - - - - - - - - - - - - - - - - - - - - - - - - - - - - - - - - - - - - - - - - - - - - - - - - - - - - - - - - - a\n") ≡ Ok (t.assign [] (t.signed s.Minus (t.signed s.Minus (t.signed s.Minus (t.signed s.Minus (t.signed s.Minus (t.signed s.Minus (t.signed s.Minus (t.signed s.Minus (t.signed s.Minus (t.signed s.Minus (t.signed s.Minus (t.signed s.Minus (t.signed s.Minus (t.signed s.Minus (t.signed s.Minus (t.signed s.Minus (t.signed s.Minus (t.signed s.Minus (t.signed s.Minus (t.signed s.Minus (t.signed s.Minus (t.signed s.Minus (t.signed s.Minus (t.signed s.Minus (t.signed s.Minus (t.signed s.Minus (t.signed s.Minus (t.signed s.Minus (t.signed s.Minus (t.signed s.Minus (t.signed s.Minus (t.signed s.Minus (t.signed s.Minus (t.signed s.Minus (t.signed s.Minus (t.signed s.Minus (t.signed s.Minus (t.signed s.Minus (t.signed s.Minus (t.signed s.Minus (t.signed s.Minus (t.signed s.Minus (t.signed s.Minus (t.signed s.Minus (t.signed s.Minus (t.signed s.Minus (t.signed s.Minus (t.signed s.Minus (t.signed s.Minus (t.signed s.Minus (t.signed s.Minus (t.signed s.Minus (t.signed s.Minus (t.signed s.Minus (t.signed s.Minus (t.signed s.Minus (t.signed s.Minus (t.signed s.Minus (t.signed s.Minus (t.signed s.Minus (t.name (codes "a")))))))))))))))))))))))))))))))))))))))))))))))))))))))))))))) ∷ [])
unfolding reserved_marks delimiter operator numeral Q.escape Q.item Q.closes Q.body Q.quoted token_piece lexeme cut indented begin bracket step layout encode_utf8 code_of E.keyword_begins E.another E.argument E.attribute E.call E.slice_after E.item_or_slice E.trailer E.parenthesised E.list E.pair E.dict E.atom E.primary_parts E.primary E.power E.unary_level E.term E.sum E.compared E.negated_level E.conjunction E.disjunction E.expr_level E.exprs_level E.phrase S.primary_at S.another_simple S.raise S.return S.assertion S.delete S.global S.import S.update_of S.assignment_of S.update_or_assignment S.simple S.simples S.line S.block S.block_after S.arm S.choice S.while S.for S.caught S.handler S.handled S.finished S.try S.parameter S.definition S.define S.compound S.chunk S.program R.piece read_chars
tree_79 = refl

tree_80 : read_chars One (codes "a ** a ** a ** a ** a ** a ** a ** a ** a ** a ** a ** a ** a ** a ** a ** a ** a ** a ** a ** a ** a ** a ** a ** a ** a ** a ** a ** a ** a ** a ** a ** a ** a ** a ** a ** a ** a ** a ** a ** a ** a ** a ** a ** a ** a ** a ** a ** a ** a ** a ** a ** a ** a ** a ** a ** a ** a ** a ** a ** a ** a\n") ≡ Ok (t.assign [] (t.power (t.name (codes "a")) (t.power (t.name (codes "a")) (t.power (t.name (codes "a")) (t.power (t.name (codes "a")) (t.power (t.name (codes "a")) (t.power (t.name (codes "a")) (t.power (t.name (codes "a")) (t.power (t.name (codes "a")) (t.power (t.name (codes "a")) (t.power (t.name (codes "a")) (t.power (t.name (codes "a")) (t.power (t.name (codes "a")) (t.power (t.name (codes "a")) (t.power (t.name (codes "a")) (t.power (t.name (codes "a")) (t.power (t.name (codes "a")) (t.power (t.name (codes "a")) (t.power (t.name (codes "a")) (t.power (t.name (codes "a")) (t.power (t.name (codes "a")) (t.power (t.name (codes "a")) (t.power (t.name (codes "a")) (t.power (t.name (codes "a")) (t.power (t.name (codes "a")) (t.power (t.name (codes "a")) (t.power (t.name (codes "a")) (t.power (t.name (codes "a")) (t.power (t.name (codes "a")) (t.power (t.name (codes "a")) (t.power (t.name (codes "a")) (t.power (t.name (codes "a")) (t.power (t.name (codes "a")) (t.power (t.name (codes "a")) (t.power (t.name (codes "a")) (t.power (t.name (codes "a")) (t.power (t.name (codes "a")) (t.power (t.name (codes "a")) (t.power (t.name (codes "a")) (t.power (t.name (codes "a")) (t.power (t.name (codes "a")) (t.power (t.name (codes "a")) (t.power (t.name (codes "a")) (t.power (t.name (codes "a")) (t.power (t.name (codes "a")) (t.power (t.name (codes "a")) (t.power (t.name (codes "a")) (t.power (t.name (codes "a")) (t.power (t.name (codes "a")) (t.power (t.name (codes "a")) (t.power (t.name (codes "a")) (t.power (t.name (codes "a")) (t.power (t.name (codes "a")) (t.power (t.name (codes "a")) (t.power (t.name (codes "a")) (t.power (t.name (codes "a")) (t.power (t.name (codes "a")) (t.power (t.name (codes "a")) (t.power (t.name (codes "a")) (t.power (t.name (codes "a")) (t.power (t.name (codes "a")) (t.name (codes "a")))))))))))))))))))))))))))))))))))))))))))))))))))))))))))))) ∷ [])
unfolding reserved_marks delimiter operator numeral Q.escape Q.item Q.closes Q.body Q.quoted token_piece lexeme cut indented begin bracket step layout encode_utf8 code_of E.keyword_begins E.another E.argument E.attribute E.call E.slice_after E.item_or_slice E.trailer E.parenthesised E.list E.pair E.dict E.atom E.primary_parts E.primary E.power E.unary_level E.term E.sum E.compared E.negated_level E.conjunction E.disjunction E.expr_level E.exprs_level E.phrase S.primary_at S.another_simple S.raise S.return S.assertion S.delete S.global S.import S.update_of S.assignment_of S.update_or_assignment S.simple S.simples S.line S.block S.block_after S.arm S.choice S.while S.for S.caught S.handler S.handled S.finished S.try S.parameter S.definition S.define S.compound S.chunk S.program R.piece read_chars
tree_80 = refl

tree_81 : read_chars One (codes "a if b else a if b else a if b else a if b else a if b else a if b else a if b else a if b else a if b else a if b else a if b else a if b else a if b else a if b else a if b else a if b else a if b else a if b else a if b else a if b else a if b else a if b else a if b else a if b else a if b else a if b else a if b else a if b else a if b else a if b else a if b else a if b else a if b else a if b else a if b else a if b else a if b else a if b else a if b else a if b else a if b else a if b else a if b else a if b else a if b else a if b else a if b else a if b else a if b else a if b else a if b else a if b else a if b else a if b else a if b else a if b else a if b else a if b else a if b else a if b else a\n") ≡ Ok (t.assign [] (t.conditional (t.name (codes "a")) (t.name (codes "b")) (t.conditional (t.name (codes "a")) (t.name (codes "b")) (t.conditional (t.name (codes "a")) (t.name (codes "b")) (t.conditional (t.name (codes "a")) (t.name (codes "b")) (t.conditional (t.name (codes "a")) (t.name (codes "b")) (t.conditional (t.name (codes "a")) (t.name (codes "b")) (t.conditional (t.name (codes "a")) (t.name (codes "b")) (t.conditional (t.name (codes "a")) (t.name (codes "b")) (t.conditional (t.name (codes "a")) (t.name (codes "b")) (t.conditional (t.name (codes "a")) (t.name (codes "b")) (t.conditional (t.name (codes "a")) (t.name (codes "b")) (t.conditional (t.name (codes "a")) (t.name (codes "b")) (t.conditional (t.name (codes "a")) (t.name (codes "b")) (t.conditional (t.name (codes "a")) (t.name (codes "b")) (t.conditional (t.name (codes "a")) (t.name (codes "b")) (t.conditional (t.name (codes "a")) (t.name (codes "b")) (t.conditional (t.name (codes "a")) (t.name (codes "b")) (t.conditional (t.name (codes "a")) (t.name (codes "b")) (t.conditional (t.name (codes "a")) (t.name (codes "b")) (t.conditional (t.name (codes "a")) (t.name (codes "b")) (t.conditional (t.name (codes "a")) (t.name (codes "b")) (t.conditional (t.name (codes "a")) (t.name (codes "b")) (t.conditional (t.name (codes "a")) (t.name (codes "b")) (t.conditional (t.name (codes "a")) (t.name (codes "b")) (t.conditional (t.name (codes "a")) (t.name (codes "b")) (t.conditional (t.name (codes "a")) (t.name (codes "b")) (t.conditional (t.name (codes "a")) (t.name (codes "b")) (t.conditional (t.name (codes "a")) (t.name (codes "b")) (t.conditional (t.name (codes "a")) (t.name (codes "b")) (t.conditional (t.name (codes "a")) (t.name (codes "b")) (t.conditional (t.name (codes "a")) (t.name (codes "b")) (t.conditional (t.name (codes "a")) (t.name (codes "b")) (t.conditional (t.name (codes "a")) (t.name (codes "b")) (t.conditional (t.name (codes "a")) (t.name (codes "b")) (t.conditional (t.name (codes "a")) (t.name (codes "b")) (t.conditional (t.name (codes "a")) (t.name (codes "b")) (t.conditional (t.name (codes "a")) (t.name (codes "b")) (t.conditional (t.name (codes "a")) (t.name (codes "b")) (t.conditional (t.name (codes "a")) (t.name (codes "b")) (t.conditional (t.name (codes "a")) (t.name (codes "b")) (t.conditional (t.name (codes "a")) (t.name (codes "b")) (t.conditional (t.name (codes "a")) (t.name (codes "b")) (t.conditional (t.name (codes "a")) (t.name (codes "b")) (t.conditional (t.name (codes "a")) (t.name (codes "b")) (t.conditional (t.name (codes "a")) (t.name (codes "b")) (t.conditional (t.name (codes "a")) (t.name (codes "b")) (t.conditional (t.name (codes "a")) (t.name (codes "b")) (t.conditional (t.name (codes "a")) (t.name (codes "b")) (t.conditional (t.name (codes "a")) (t.name (codes "b")) (t.conditional (t.name (codes "a")) (t.name (codes "b")) (t.conditional (t.name (codes "a")) (t.name (codes "b")) (t.conditional (t.name (codes "a")) (t.name (codes "b")) (t.conditional (t.name (codes "a")) (t.name (codes "b")) (t.conditional (t.name (codes "a")) (t.name (codes "b")) (t.conditional (t.name (codes "a")) (t.name (codes "b")) (t.conditional (t.name (codes "a")) (t.name (codes "b")) (t.conditional (t.name (codes "a")) (t.name (codes "b")) (t.conditional (t.name (codes "a")) (t.name (codes "b")) (t.conditional (t.name (codes "a")) (t.name (codes "b")) (t.conditional (t.name (codes "a")) (t.name (codes "b")) (t.name (codes "a")))))))))))))))))))))))))))))))))))))))))))))))))))))))))))))) ∷ [])
unfolding reserved_marks delimiter operator numeral Q.escape Q.item Q.closes Q.body Q.quoted token_piece lexeme cut indented begin bracket step layout encode_utf8 code_of E.keyword_begins E.another E.argument E.attribute E.call E.slice_after E.item_or_slice E.trailer E.parenthesised E.list E.pair E.dict E.atom E.primary_parts E.primary E.power E.unary_level E.term E.sum E.compared E.negated_level E.conjunction E.disjunction E.expr_level E.exprs_level E.phrase S.primary_at S.another_simple S.raise S.return S.assertion S.delete S.global S.import S.update_of S.assignment_of S.update_or_assignment S.simple S.simples S.line S.block S.block_after S.arm S.choice S.while S.for S.caught S.handler S.handled S.finished S.try S.parameter S.definition S.define S.compound S.chunk S.program R.piece read_chars
tree_81 = refl

tree_82 : read_chars One (codes "((((((((((((((((((((((((((((((((((((((((((((((((((((((((((((a)))))))))))))))))))))))))))))))))))))))))))))))))))))))))))) = b\n") ≡ Ok (t.assign ((t.paren (t.paren (t.paren (t.paren (t.paren (t.paren (t.paren (t.paren (t.paren (t.paren (t.paren (t.paren (t.paren (t.paren (t.paren (t.paren (t.paren (t.paren (t.paren (t.paren (t.paren (t.paren (t.paren (t.paren (t.paren (t.paren (t.paren (t.paren (t.paren (t.paren (t.paren (t.paren (t.paren (t.paren (t.paren (t.paren (t.paren (t.paren (t.paren (t.paren (t.paren (t.paren (t.paren (t.paren (t.paren (t.paren (t.paren (t.paren (t.paren (t.paren (t.paren (t.paren (t.paren (t.paren (t.paren (t.paren (t.paren (t.paren (t.paren (t.paren (t.name (codes "a")))))))))))))))))))))))))))))))))))))))))))))))))))))))))))))) ∷ []) (t.name (codes "b")) ∷ [])
unfolding reserved_marks delimiter operator numeral Q.escape Q.item Q.closes Q.body Q.quoted token_piece lexeme cut indented begin bracket step layout encode_utf8 code_of E.keyword_begins E.another E.argument E.attribute E.call E.slice_after E.item_or_slice E.trailer E.parenthesised E.list E.pair E.dict E.atom E.primary_parts E.primary E.power E.unary_level E.term E.sum E.compared E.negated_level E.conjunction E.disjunction E.expr_level E.exprs_level E.phrase S.primary_at S.another_simple S.raise S.return S.assertion S.delete S.global S.import S.update_of S.assignment_of S.update_or_assignment S.simple S.simples S.line S.block S.block_after S.arm S.choice S.while S.for S.caught S.handler S.handled S.finished S.try S.parameter S.definition S.define S.compound S.chunk S.program R.piece read_chars
tree_82 = refl

tree_83 : read_chars One (codes "(((((((((((((((((((((((((((((((((((((((((((((((((((((((((((())))))))))))))))))))))))))))))))))))))))))))))))))))))))))))\n") ≡ Ok (t.assign [] (t.paren (t.paren (t.paren (t.paren (t.paren (t.paren (t.paren (t.paren (t.paren (t.paren (t.paren (t.paren (t.paren (t.paren (t.paren (t.paren (t.paren (t.paren (t.paren (t.paren (t.paren (t.paren (t.paren (t.paren (t.paren (t.paren (t.paren (t.paren (t.paren (t.paren (t.paren (t.paren (t.paren (t.paren (t.paren (t.paren (t.paren (t.paren (t.paren (t.paren (t.paren (t.paren (t.paren (t.paren (t.paren (t.paren (t.paren (t.paren (t.paren (t.paren (t.paren (t.paren (t.paren (t.paren (t.paren (t.paren (t.paren (t.paren (t.paren (t.tuple (expressions []))))))))))))))))))))))))))))))))))))))))))))))))))))))))))))) ∷ [])
unfolding reserved_marks delimiter operator numeral Q.escape Q.item Q.closes Q.body Q.quoted token_piece lexeme cut indented begin bracket step layout encode_utf8 code_of E.keyword_begins E.another E.argument E.attribute E.call E.slice_after E.item_or_slice E.trailer E.parenthesised E.list E.pair E.dict E.atom E.primary_parts E.primary E.power E.unary_level E.term E.sum E.compared E.negated_level E.conjunction E.disjunction E.expr_level E.exprs_level E.phrase S.primary_at S.another_simple S.raise S.return S.assertion S.delete S.global S.import S.update_of S.assignment_of S.update_or_assignment S.simple S.simples S.line S.block S.block_after S.arm S.choice S.while S.for S.caught S.handler S.handled S.finished S.try S.parameter S.definition S.define S.compound S.chunk S.program R.piece read_chars
tree_83 = refl

tree_84 : read_chars One (codes "[[[[[[[[[[[[[[[[[[[[[[[[[[[[[[[[[[[[[[[[[[[[[[[[[[[[[[[[[[[[]]]]]]]]]]]]]]]]]]]]]]]]]]]]]]]]]]]]]]]]]]]]]]]]]]]]]]]]]]]]\n") ≡ Ok (t.assign [] (t.list (expressions ((t.list (expressions ((t.list (expressions ((t.list (expressions ((t.list (expressions ((t.list (expressions ((t.list (expressions ((t.list (expressions ((t.list (expressions ((t.list (expressions ((t.list (expressions ((t.list (expressions ((t.list (expressions ((t.list (expressions ((t.list (expressions ((t.list (expressions ((t.list (expressions ((t.list (expressions ((t.list (expressions ((t.list (expressions ((t.list (expressions ((t.list (expressions ((t.list (expressions ((t.list (expressions ((t.list (expressions ((t.list (expressions ((t.list (expressions ((t.list (expressions ((t.list (expressions ((t.list (expressions ((t.list (expressions ((t.list (expressions ((t.list (expressions ((t.list (expressions ((t.list (expressions ((t.list (expressions ((t.list (expressions ((t.list (expressions ((t.list (expressions ((t.list (expressions ((t.list (expressions ((t.list (expressions ((t.list (expressions ((t.list (expressions ((t.list (expressions ((t.list (expressions ((t.list (expressions ((t.list (expressions ((t.list (expressions ((t.list (expressions ((t.list (expressions ((t.list (expressions ((t.list (expressions ((t.list (expressions ((t.list (expressions ((t.list (expressions ((t.list (expressions ((t.list (expressions ((t.list (expressions ((t.list (expressions [])) ∷ []))) ∷ []))) ∷ []))) ∷ []))) ∷ []))) ∷ []))) ∷ []))) ∷ []))) ∷ []))) ∷ []))) ∷ []))) ∷ []))) ∷ []))) ∷ []))) ∷ []))) ∷ []))) ∷ []))) ∷ []))) ∷ []))) ∷ []))) ∷ []))) ∷ []))) ∷ []))) ∷ []))) ∷ []))) ∷ []))) ∷ []))) ∷ []))) ∷ []))) ∷ []))) ∷ []))) ∷ []))) ∷ []))) ∷ []))) ∷ []))) ∷ []))) ∷ []))) ∷ []))) ∷ []))) ∷ []))) ∷ []))) ∷ []))) ∷ []))) ∷ []))) ∷ []))) ∷ []))) ∷ []))) ∷ []))) ∷ []))) ∷ []))) ∷ []))) ∷ []))) ∷ []))) ∷ []))) ∷ []))) ∷ []))) ∷ []))) ∷ []))) ∷ []))) ∷ [])
unfolding reserved_marks delimiter operator numeral Q.escape Q.item Q.closes Q.body Q.quoted token_piece lexeme cut indented begin bracket step layout encode_utf8 code_of E.keyword_begins E.another E.argument E.attribute E.call E.slice_after E.item_or_slice E.trailer E.parenthesised E.list E.pair E.dict E.atom E.primary_parts E.primary E.power E.unary_level E.term E.sum E.compared E.negated_level E.conjunction E.disjunction E.expr_level E.exprs_level E.phrase S.primary_at S.another_simple S.raise S.return S.assertion S.delete S.global S.import S.update_of S.assignment_of S.update_or_assignment S.simple S.simples S.line S.block S.block_after S.arm S.choice S.while S.for S.caught S.handler S.handled S.finished S.try S.parameter S.definition S.define S.compound S.chunk S.program R.piece read_chars
tree_84 = refl

tree_85 : read_chars One (codes "f(f(f(f(f(f(f(f(f(f(f(f(f(f(f(f(f(f(f(f(f(f(f(f(f(f(f(f(f(f(f(f(f(f(f(f(f(f(f(f(f(f(f(f(f(f(f(f(f(f(f(f(f(f(f(f(f(f(f(f())))))))))))))))))))))))))))))))))))))))))))))))))))))))))))\n") ≡ Ok (t.assign [] (t.primary (t.name (codes "f")) (trailers (t.call (arguments (t.plain (t.primary (t.name (codes "f")) (trailers (t.call (arguments (t.plain (t.primary (t.name (codes "f")) (trailers (t.call (arguments (t.plain (t.primary (t.name (codes "f")) (trailers (t.call (arguments (t.plain (t.primary (t.name (codes "f")) (trailers (t.call (arguments (t.plain (t.primary (t.name (codes "f")) (trailers (t.call (arguments (t.plain (t.primary (t.name (codes "f")) (trailers (t.call (arguments (t.plain (t.primary (t.name (codes "f")) (trailers (t.call (arguments (t.plain (t.primary (t.name (codes "f")) (trailers (t.call (arguments (t.plain (t.primary (t.name (codes "f")) (trailers (t.call (arguments (t.plain (t.primary (t.name (codes "f")) (trailers (t.call (arguments (t.plain (t.primary (t.name (codes "f")) (trailers (t.call (arguments (t.plain (t.primary (t.name (codes "f")) (trailers (t.call (arguments (t.plain (t.primary (t.name (codes "f")) (trailers (t.call (arguments (t.plain (t.primary (t.name (codes "f")) (trailers (t.call (arguments (t.plain (t.primary (t.name (codes "f")) (trailers (t.call (arguments (t.plain (t.primary (t.name (codes "f")) (trailers (t.call (arguments (t.plain (t.primary (t.name (codes "f")) (trailers (t.call (arguments (t.plain (t.primary (t.name (codes "f")) (trailers (t.call (arguments (t.plain (t.primary (t.name (codes "f")) (trailers (t.call (arguments (t.plain (t.primary (t.name (codes "f")) (trailers (t.call (arguments (t.plain (t.primary (t.name (codes "f")) (trailers (t.call (arguments (t.plain (t.primary (t.name (codes "f")) (trailers (t.call (arguments (t.plain (t.primary (t.name (codes "f")) (trailers (t.call (arguments (t.plain (t.primary (t.name (codes "f")) (trailers (t.call (arguments (t.plain (t.primary (t.name (codes "f")) (trailers (t.call (arguments (t.plain (t.primary (t.name (codes "f")) (trailers (t.call (arguments (t.plain (t.primary (t.name (codes "f")) (trailers (t.call (arguments (t.plain (t.primary (t.name (codes "f")) (trailers (t.call (arguments (t.plain (t.primary (t.name (codes "f")) (trailers (t.call (arguments (t.plain (t.primary (t.name (codes "f")) (trailers (t.call (arguments (t.plain (t.primary (t.name (codes "f")) (trailers (t.call (arguments (t.plain (t.primary (t.name (codes "f")) (trailers (t.call (arguments (t.plain (t.primary (t.name (codes "f")) (trailers (t.call (arguments (t.plain (t.primary (t.name (codes "f")) (trailers (t.call (arguments (t.plain (t.primary (t.name (codes "f")) (trailers (t.call (arguments (t.plain (t.primary (t.name (codes "f")) (trailers (t.call (arguments (t.plain (t.primary (t.name (codes "f")) (trailers (t.call (arguments (t.plain (t.primary (t.name (codes "f")) (trailers (t.call (arguments (t.plain (t.primary (t.name (codes "f")) (trailers (t.call (arguments (t.plain (t.primary (t.name (codes "f")) (trailers (t.call (arguments (t.plain (t.primary (t.name (codes "f")) (trailers (t.call (arguments (t.plain (t.primary (t.name (codes "f")) (trailers (t.call (arguments (t.plain (t.primary (t.name (codes "f")) (trailers (t.call (arguments (t.plain (t.primary (t.name (codes "f")) (trailers (t.call (arguments (t.plain (t.primary (t.name (codes "f")) (trailers (t.call (arguments (t.plain (t.primary (t.name (codes "f")) (trailers (t.call (arguments (t.plain (t.primary (t.name (codes "f")) (trailers (t.call (arguments (t.plain (t.primary (t.name (codes "f")) (trailers (t.call (arguments (t.plain (t.primary (t.name (codes "f")) (trailers (t.call (arguments (t.plain (t.primary (t.name (codes "f")) (trailers (t.call (arguments (t.plain (t.primary (t.name (codes "f")) (trailers (t.call (arguments (t.plain (t.primary (t.name (codes "f")) (trailers (t.call (arguments (t.plain (t.primary (t.name (codes "f")) (trailers (t.call (arguments (t.plain (t.primary (t.name (codes "f")) (trailers (t.call (arguments (t.plain (t.primary (t.name (codes "f")) (trailers (t.call (arguments (t.plain (t.primary (t.name (codes "f")) (trailers (t.call (arguments (t.plain (t.primary (t.name (codes "f")) (trailers (t.call (arguments (t.plain (t.primary (t.name (codes "f")) (trailers (t.call (arguments (t.plain (t.primary (t.name (codes "f")) (trailers (t.call (arguments []) ∷ []))) ∷ [])) ∷ []))) ∷ [])) ∷ []))) ∷ [])) ∷ []))) ∷ [])) ∷ []))) ∷ [])) ∷ []))) ∷ [])) ∷ []))) ∷ [])) ∷ []))) ∷ [])) ∷ []))) ∷ [])) ∷ []))) ∷ [])) ∷ []))) ∷ [])) ∷ []))) ∷ [])) ∷ []))) ∷ [])) ∷ []))) ∷ [])) ∷ []))) ∷ [])) ∷ []))) ∷ [])) ∷ []))) ∷ [])) ∷ []))) ∷ [])) ∷ []))) ∷ [])) ∷ []))) ∷ [])) ∷ []))) ∷ [])) ∷ []))) ∷ [])) ∷ []))) ∷ [])) ∷ []))) ∷ [])) ∷ []))) ∷ [])) ∷ []))) ∷ [])) ∷ []))) ∷ [])) ∷ []))) ∷ [])) ∷ []))) ∷ [])) ∷ []))) ∷ [])) ∷ []))) ∷ [])) ∷ []))) ∷ [])) ∷ []))) ∷ [])) ∷ []))) ∷ [])) ∷ []))) ∷ [])) ∷ []))) ∷ [])) ∷ []))) ∷ [])) ∷ []))) ∷ [])) ∷ []))) ∷ [])) ∷ []))) ∷ [])) ∷ []))) ∷ [])) ∷ []))) ∷ [])) ∷ []))) ∷ [])) ∷ []))) ∷ [])) ∷ []))) ∷ [])) ∷ []))) ∷ [])) ∷ []))) ∷ [])) ∷ []))) ∷ [])) ∷ []))) ∷ [])) ∷ []))) ∷ [])) ∷ []))) ∷ [])) ∷ []))) ∷ [])) ∷ []))) ∷ [])) ∷ []))) ∷ [])) ∷ []))) ∷ [])) ∷ []))) ∷ [])) ∷ []))) ∷ [])) ∷ []))) ∷ [])) ∷ []))) ∷ [])) ∷ []))) ∷ [])
unfolding reserved_marks delimiter operator numeral Q.escape Q.item Q.closes Q.body Q.quoted token_piece lexeme cut indented begin bracket step layout encode_utf8 code_of E.keyword_begins E.another E.argument E.attribute E.call E.slice_after E.item_or_slice E.trailer E.parenthesised E.list E.pair E.dict E.atom E.primary_parts E.primary E.power E.unary_level E.term E.sum E.compared E.negated_level E.conjunction E.disjunction E.expr_level E.exprs_level E.phrase S.primary_at S.another_simple S.raise S.return S.assertion S.delete S.global S.import S.update_of S.assignment_of S.update_or_assignment S.simple S.simples S.line S.block S.block_after S.arm S.choice S.while S.for S.caught S.handler S.handled S.finished S.try S.parameter S.definition S.define S.compound S.chunk S.program R.piece read_chars
tree_85 = refl

tree_86 : read_chars One (codes "a[a[a[a[a[a[a[a[a[a[a[a[a[a[a[a[a[a[a[a[a[a[a[a[a[a[a[a[a[a[a[a[a[a[a[a[a[a[a[a[a[a[a[a[a[a[a[a[a[a[a[a[a[a[a[a[a[a[a[a[:]]]]]]]]]]]]]]]]]]]]]]]]]]]]]]]]]]]]]]]]]]]]]]]]]]]]]]]]]]]]\n") ≡ Ok (t.assign [] (t.primary (t.name (codes "a")) (trailers (t.index (t.primary (t.name (codes "a")) (trailers (t.index (t.primary (t.name (codes "a")) (trailers (t.index (t.primary (t.name (codes "a")) (trailers (t.index (t.primary (t.name (codes "a")) (trailers (t.index (t.primary (t.name (codes "a")) (trailers (t.index (t.primary (t.name (codes "a")) (trailers (t.index (t.primary (t.name (codes "a")) (trailers (t.index (t.primary (t.name (codes "a")) (trailers (t.index (t.primary (t.name (codes "a")) (trailers (t.index (t.primary (t.name (codes "a")) (trailers (t.index (t.primary (t.name (codes "a")) (trailers (t.index (t.primary (t.name (codes "a")) (trailers (t.index (t.primary (t.name (codes "a")) (trailers (t.index (t.primary (t.name (codes "a")) (trailers (t.index (t.primary (t.name (codes "a")) (trailers (t.index (t.primary (t.name (codes "a")) (trailers (t.index (t.primary (t.name (codes "a")) (trailers (t.index (t.primary (t.name (codes "a")) (trailers (t.index (t.primary (t.name (codes "a")) (trailers (t.index (t.primary (t.name (codes "a")) (trailers (t.index (t.primary (t.name (codes "a")) (trailers (t.index (t.primary (t.name (codes "a")) (trailers (t.index (t.primary (t.name (codes "a")) (trailers (t.index (t.primary (t.name (codes "a")) (trailers (t.index (t.primary (t.name (codes "a")) (trailers (t.index (t.primary (t.name (codes "a")) (trailers (t.index (t.primary (t.name (codes "a")) (trailers (t.index (t.primary (t.name (codes "a")) (trailers (t.index (t.primary (t.name (codes "a")) (trailers (t.index (t.primary (t.name (codes "a")) (trailers (t.index (t.primary (t.name (codes "a")) (trailers (t.index (t.primary (t.name (codes "a")) (trailers (t.index (t.primary (t.name (codes "a")) (trailers (t.index (t.primary (t.name (codes "a")) (trailers (t.index (t.primary (t.name (codes "a")) (trailers (t.index (t.primary (t.name (codes "a")) (trailers (t.index (t.primary (t.name (codes "a")) (trailers (t.index (t.primary (t.name (codes "a")) (trailers (t.index (t.primary (t.name (codes "a")) (trailers (t.index (t.primary (t.name (codes "a")) (trailers (t.index (t.primary (t.name (codes "a")) (trailers (t.index (t.primary (t.name (codes "a")) (trailers (t.index (t.primary (t.name (codes "a")) (trailers (t.index (t.primary (t.name (codes "a")) (trailers (t.index (t.primary (t.name (codes "a")) (trailers (t.index (t.primary (t.name (codes "a")) (trailers (t.index (t.primary (t.name (codes "a")) (trailers (t.index (t.primary (t.name (codes "a")) (trailers (t.index (t.primary (t.name (codes "a")) (trailers (t.index (t.primary (t.name (codes "a")) (trailers (t.index (t.primary (t.name (codes "a")) (trailers (t.index (t.primary (t.name (codes "a")) (trailers (t.index (t.primary (t.name (codes "a")) (trailers (t.index (t.primary (t.name (codes "a")) (trailers (t.index (t.primary (t.name (codes "a")) (trailers (t.index (t.primary (t.name (codes "a")) (trailers (t.index (t.primary (t.name (codes "a")) (trailers (t.index (t.primary (t.name (codes "a")) (trailers (t.index (t.primary (t.name (codes "a")) (trailers (t.slice absent absent absent ∷ []))) ∷ []))) ∷ []))) ∷ []))) ∷ []))) ∷ []))) ∷ []))) ∷ []))) ∷ []))) ∷ []))) ∷ []))) ∷ []))) ∷ []))) ∷ []))) ∷ []))) ∷ []))) ∷ []))) ∷ []))) ∷ []))) ∷ []))) ∷ []))) ∷ []))) ∷ []))) ∷ []))) ∷ []))) ∷ []))) ∷ []))) ∷ []))) ∷ []))) ∷ []))) ∷ []))) ∷ []))) ∷ []))) ∷ []))) ∷ []))) ∷ []))) ∷ []))) ∷ []))) ∷ []))) ∷ []))) ∷ []))) ∷ []))) ∷ []))) ∷ []))) ∷ []))) ∷ []))) ∷ []))) ∷ []))) ∷ []))) ∷ []))) ∷ []))) ∷ []))) ∷ []))) ∷ []))) ∷ []))) ∷ []))) ∷ []))) ∷ []))) ∷ []))) ∷ []))) ∷ [])
unfolding reserved_marks delimiter operator numeral Q.escape Q.item Q.closes Q.body Q.quoted token_piece lexeme cut indented begin bracket step layout encode_utf8 code_of E.keyword_begins E.another E.argument E.attribute E.call E.slice_after E.item_or_slice E.trailer E.parenthesised E.list E.pair E.dict E.atom E.primary_parts E.primary E.power E.unary_level E.term E.sum E.compared E.negated_level E.conjunction E.disjunction E.expr_level E.exprs_level E.phrase S.primary_at S.another_simple S.raise S.return S.assertion S.delete S.global S.import S.update_of S.assignment_of S.update_or_assignment S.simple S.simples S.line S.block S.block_after S.arm S.choice S.while S.for S.caught S.handler S.handled S.finished S.try S.parameter S.definition S.define S.compound S.chunk S.program R.piece read_chars
tree_86 = refl

tree_87 : read_chars One (codes "{a: {a: {a: {a: {a: {a: {a: {a: {a: {a: {a: {a: {a: {a: {a: {a: {a: {a: {a: {a: {a: {a: {a: {a: {a: {a: {a: {a: {a: {a: {a: {a: {a: {a: {a: {a: {a: {a: {a: {a: {a: {a: {a: {a: {a: {a: {a: {a: {a: {a: {a: {a: {a: {a: {a: {a: {a: {a: {a: {}}}}}}}}}}}}}}}}}}}}}}}}}}}}}}}}}}}}}}}}}}}}}}}}}}}}}}}}}}}}\n") ≡ Ok (t.assign [] (t.dict (pairs (((t.name (codes "a")), (t.dict (pairs (((t.name (codes "a")), (t.dict (pairs (((t.name (codes "a")), (t.dict (pairs (((t.name (codes "a")), (t.dict (pairs (((t.name (codes "a")), (t.dict (pairs (((t.name (codes "a")), (t.dict (pairs (((t.name (codes "a")), (t.dict (pairs (((t.name (codes "a")), (t.dict (pairs (((t.name (codes "a")), (t.dict (pairs (((t.name (codes "a")), (t.dict (pairs (((t.name (codes "a")), (t.dict (pairs (((t.name (codes "a")), (t.dict (pairs (((t.name (codes "a")), (t.dict (pairs (((t.name (codes "a")), (t.dict (pairs (((t.name (codes "a")), (t.dict (pairs (((t.name (codes "a")), (t.dict (pairs (((t.name (codes "a")), (t.dict (pairs (((t.name (codes "a")), (t.dict (pairs (((t.name (codes "a")), (t.dict (pairs (((t.name (codes "a")), (t.dict (pairs (((t.name (codes "a")), (t.dict (pairs (((t.name (codes "a")), (t.dict (pairs (((t.name (codes "a")), (t.dict (pairs (((t.name (codes "a")), (t.dict (pairs (((t.name (codes "a")), (t.dict (pairs (((t.name (codes "a")), (t.dict (pairs (((t.name (codes "a")), (t.dict (pairs (((t.name (codes "a")), (t.dict (pairs (((t.name (codes "a")), (t.dict (pairs (((t.name (codes "a")), (t.dict (pairs (((t.name (codes "a")), (t.dict (pairs (((t.name (codes "a")), (t.dict (pairs (((t.name (codes "a")), (t.dict (pairs (((t.name (codes "a")), (t.dict (pairs (((t.name (codes "a")), (t.dict (pairs (((t.name (codes "a")), (t.dict (pairs (((t.name (codes "a")), (t.dict (pairs (((t.name (codes "a")), (t.dict (pairs (((t.name (codes "a")), (t.dict (pairs (((t.name (codes "a")), (t.dict (pairs (((t.name (codes "a")), (t.dict (pairs (((t.name (codes "a")), (t.dict (pairs (((t.name (codes "a")), (t.dict (pairs (((t.name (codes "a")), (t.dict (pairs (((t.name (codes "a")), (t.dict (pairs (((t.name (codes "a")), (t.dict (pairs (((t.name (codes "a")), (t.dict (pairs (((t.name (codes "a")), (t.dict (pairs (((t.name (codes "a")), (t.dict (pairs (((t.name (codes "a")), (t.dict (pairs (((t.name (codes "a")), (t.dict (pairs (((t.name (codes "a")), (t.dict (pairs (((t.name (codes "a")), (t.dict (pairs (((t.name (codes "a")), (t.dict (pairs (((t.name (codes "a")), (t.dict (pairs (((t.name (codes "a")), (t.dict (pairs (((t.name (codes "a")), (t.dict (pairs (((t.name (codes "a")), (t.dict (pairs (((t.name (codes "a")), (t.dict (pairs []))) ∷ [])))) ∷ [])))) ∷ [])))) ∷ [])))) ∷ [])))) ∷ [])))) ∷ [])))) ∷ [])))) ∷ [])))) ∷ [])))) ∷ [])))) ∷ [])))) ∷ [])))) ∷ [])))) ∷ [])))) ∷ [])))) ∷ [])))) ∷ [])))) ∷ [])))) ∷ [])))) ∷ [])))) ∷ [])))) ∷ [])))) ∷ [])))) ∷ [])))) ∷ [])))) ∷ [])))) ∷ [])))) ∷ [])))) ∷ [])))) ∷ [])))) ∷ [])))) ∷ [])))) ∷ [])))) ∷ [])))) ∷ [])))) ∷ [])))) ∷ [])))) ∷ [])))) ∷ [])))) ∷ [])))) ∷ [])))) ∷ [])))) ∷ [])))) ∷ [])))) ∷ [])))) ∷ [])))) ∷ [])))) ∷ [])))) ∷ [])))) ∷ [])))) ∷ [])))) ∷ [])))) ∷ [])))) ∷ [])))) ∷ [])))) ∷ [])))) ∷ [])))) ∷ []))) ∷ [])
unfolding reserved_marks delimiter operator numeral Q.escape Q.item Q.closes Q.body Q.quoted token_piece lexeme cut indented begin bracket step layout encode_utf8 code_of E.keyword_begins E.another E.argument E.attribute E.call E.slice_after E.item_or_slice E.trailer E.parenthesised E.list E.pair E.dict E.atom E.primary_parts E.primary E.power E.unary_level E.term E.sum E.compared E.negated_level E.conjunction E.disjunction E.expr_level E.exprs_level E.phrase S.primary_at S.another_simple S.raise S.return S.assertion S.delete S.global S.import S.update_of S.assignment_of S.update_or_assignment S.simple S.simples S.line S.block S.block_after S.arm S.choice S.while S.for S.caught S.handler S.handled S.finished S.try S.parameter S.definition S.define S.compound S.chunk S.program R.piece read_chars
tree_87 = refl

tree_88 : read_chars One (codes "if a:\n  if a:\n    if a:\n      if a:\n        if a:\n          if a:\n            if a:\n              if a:\n                if a:\n                  if a:\n                    if a:\n                      if a:\n                        if a:\n                          if a:\n                            if a:\n                              if a:\n                                if a:\n                                  if a:\n                                    if a:\n                                      if a:\n                                        if a:\n                                          if a:\n                                            if a:\n                                              if a:\n                                                if a:\n                                                  if a:\n                                                    if a:\n                                                      if a:\n                                                        if a:\n                                                          if a:\n                                                            if a:\n                                                              if a:\n                                                                if a:\n                                                                  if a:\n                                                                    if a:\n                                                                      if a:\n                                                                        if a:\n                                                                          if a:\n                                                                            if a:\n                                                                              if a:\n                                                                                if a:\n                                                                                  if a:\n                                                                                    if a:\n                                                                                      if a:\n                                                                                        if a:\n                                                                                          if a:\n                                                                                            if a:\n                                                                                              if a:\n                                                                                                if a:\n                                                                                                  if a:\n                                                                                                    if a:\n                                                                                                      if a:\n                                                                                                        if a:\n                                                                                                          if a:\n                                                                                                            if a:\n                                                                                                              if a:\n                                                                                                                if a:\n                                                                                                                  if a:\n                                                                                                                    if a:\n                                                                                                                      if a:\n                                                                                                                        b\n") ≡ Ok (t.choose (arms (((t.name (codes "a")), statements (t.choose (arms (((t.name (codes "a")), statements (t.choose (arms (((t.name (codes "a")), statements (t.choose (arms (((t.name (codes "a")), statements (t.choose (arms (((t.name (codes "a")), statements (t.choose (arms (((t.name (codes "a")), statements (t.choose (arms (((t.name (codes "a")), statements (t.choose (arms (((t.name (codes "a")), statements (t.choose (arms (((t.name (codes "a")), statements (t.choose (arms (((t.name (codes "a")), statements (t.choose (arms (((t.name (codes "a")), statements (t.choose (arms (((t.name (codes "a")), statements (t.choose (arms (((t.name (codes "a")), statements (t.choose (arms (((t.name (codes "a")), statements (t.choose (arms (((t.name (codes "a")), statements (t.choose (arms (((t.name (codes "a")), statements (t.choose (arms (((t.name (codes "a")), statements (t.choose (arms (((t.name (codes "a")), statements (t.choose (arms (((t.name (codes "a")), statements (t.choose (arms (((t.name (codes "a")), statements (t.choose (arms (((t.name (codes "a")), statements (t.choose (arms (((t.name (codes "a")), statements (t.choose (arms (((t.name (codes "a")), statements (t.choose (arms (((t.name (codes "a")), statements (t.choose (arms (((t.name (codes "a")), statements (t.choose (arms (((t.name (codes "a")), statements (t.choose (arms (((t.name (codes "a")), statements (t.choose (arms (((t.name (codes "a")), statements (t.choose (arms (((t.name (codes "a")), statements (t.choose (arms (((t.name (codes "a")), statements (t.choose (arms (((t.name (codes "a")), statements (t.choose (arms (((t.name (codes "a")), statements (t.choose (arms (((t.name (codes "a")), statements (t.choose (arms (((t.name (codes "a")), statements (t.choose (arms (((t.name (codes "a")), statements (t.choose (arms (((t.name (codes "a")), statements (t.choose (arms (((t.name (codes "a")), statements (t.choose (arms (((t.name (codes "a")), statements (t.choose (arms (((t.name (codes "a")), statements (t.choose (arms (((t.name (codes "a")), statements (t.choose (arms (((t.name (codes "a")), statements (t.choose (arms (((t.name (codes "a")), statements (t.choose (arms (((t.name (codes "a")), statements (t.choose (arms (((t.name (codes "a")), statements (t.choose (arms (((t.name (codes "a")), statements (t.choose (arms (((t.name (codes "a")), statements (t.choose (arms (((t.name (codes "a")), statements (t.choose (arms (((t.name (codes "a")), statements (t.choose (arms (((t.name (codes "a")), statements (t.choose (arms (((t.name (codes "a")), statements (t.choose (arms (((t.name (codes "a")), statements (t.choose (arms (((t.name (codes "a")), statements (t.choose (arms (((t.name (codes "a")), statements (t.choose (arms (((t.name (codes "a")), statements (t.choose (arms (((t.name (codes "a")), statements (t.choose (arms (((t.name (codes "a")), statements (t.choose (arms (((t.name (codes "a")), statements (t.choose (arms (((t.name (codes "a")), statements (t.choose (arms (((t.name (codes "a")), statements (t.choose (arms (((t.name (codes "a")), statements (t.assign [] (t.name (codes "b")) ∷ [])) ∷ [])) (statements []) ∷ [])) ∷ [])) (statements []) ∷ [])) ∷ [])) (statements []) ∷ [])) ∷ [])) (statements []) ∷ [])) ∷ [])) (statements []) ∷ [])) ∷ [])) (statements []) ∷ [])) ∷ [])) (statements []) ∷ [])) ∷ [])) (statements []) ∷ [])) ∷ [])) (statements []) ∷ [])) ∷ [])) (statements []) ∷ [])) ∷ [])) (statements []) ∷ [])) ∷ [])) (statements []) ∷ [])) ∷ [])) (statements []) ∷ [])) ∷ [])) (statements []) ∷ [])) ∷ [])) (statements []) ∷ [])) ∷ [])) (statements []) ∷ [])) ∷ [])) (statements []) ∷ [])) ∷ [])) (statements []) ∷ [])) ∷ [])) (statements []) ∷ [])) ∷ [])) (statements []) ∷ [])) ∷ [])) (statements []) ∷ [])) ∷ [])) (statements []) ∷ [])) ∷ [])) (statements []) ∷ [])) ∷ [])) (statements []) ∷ [])) ∷ [])) (statements []) ∷ [])) ∷ [])) (statements []) ∷ [])) ∷ [])) (statements []) ∷ [])) ∷ [])) (statements []) ∷ [])) ∷ [])) (statements []) ∷ [])) ∷ [])) (statements []) ∷ [])) ∷ [])) (statements []) ∷ [])) ∷ [])) (statements []) ∷ [])) ∷ [])) (statements []) ∷ [])) ∷ [])) (statements []) ∷ [])) ∷ [])) (statements []) ∷ [])) ∷ [])) (statements []) ∷ [])) ∷ [])) (statements []) ∷ [])) ∷ [])) (statements []) ∷ [])) ∷ [])) (statements []) ∷ [])) ∷ [])) (statements []) ∷ [])) ∷ [])) (statements []) ∷ [])) ∷ [])) (statements []) ∷ [])) ∷ [])) (statements []) ∷ [])) ∷ [])) (statements []) ∷ [])) ∷ [])) (statements []) ∷ [])) ∷ [])) (statements []) ∷ [])) ∷ [])) (statements []) ∷ [])) ∷ [])) (statements []) ∷ [])) ∷ [])) (statements []) ∷ [])) ∷ [])) (statements []) ∷ [])) ∷ [])) (statements []) ∷ [])) ∷ [])) (statements []) ∷ [])) ∷ [])) (statements []) ∷ [])) ∷ [])) (statements []) ∷ [])) ∷ [])) (statements []) ∷ [])) ∷ [])) (statements []) ∷ [])) ∷ [])) (statements []) ∷ [])) ∷ [])) (statements []) ∷ [])) ∷ [])) (statements []) ∷ [])) ∷ [])) (statements []) ∷ [])
unfolding reserved_marks delimiter operator numeral Q.escape Q.item Q.closes Q.body Q.quoted token_piece lexeme cut indented begin bracket step layout encode_utf8 code_of E.keyword_begins E.another E.argument E.attribute E.call E.slice_after E.item_or_slice E.trailer E.parenthesised E.list E.pair E.dict E.atom E.primary_parts E.primary E.power E.unary_level E.term E.sum E.compared E.negated_level E.conjunction E.disjunction E.expr_level E.exprs_level E.phrase S.primary_at S.another_simple S.raise S.return S.assertion S.delete S.global S.import S.update_of S.assignment_of S.update_or_assignment S.simple S.simples S.line S.block S.block_after S.arm S.choice S.while S.for S.caught S.handler S.handled S.finished S.try S.parameter S.definition S.define S.compound S.chunk S.program R.piece read_chars
tree_88 = refl

tree_89 : read_chars One (codes "if a:\n  if a:\n    if a:\n      if a:\n        if a:\n          if a:\n            if a:\n              if a:\n                if a:\n                  if a:\n                    if a:\n                      if a:\n                        if a:\n                          if a:\n                            if a:\n                              if a:\n                                if a:\n                                  if a:\n                                    if a:\n                                      if a:\n                                        if a:\n                                          if a:\n                                            if a:\n                                              if a:\n                                                if a:\n                                                  if a:\n                                                    if a:\n                                                      if a:\n                                                        if a:\n                                                          if a:\n                                                            if a:\n                                                              if a:\n                                                                if a:\n                                                                  if a:\n                                                                    if a:\n                                                                      if a:\n                                                                        if a:\n                                                                          if a:\n                                                                            if a:\n                                                                              if a:\n                                                                                if a:\n                                                                                  if a:\n                                                                                    if a:\n                                                                                      if a:\n                                                                                        if a:\n                                                                                          if a:\n                                                                                            if a:\n                                                                                              if a:\n                                                                                                if a:\n                                                                                                  if a:\n                                                                                                    if a:\n                                                                                                      if a:\n                                                                                                        if a:\n                                                                                                          if a:\n                                                                                                            if a:\n                                                                                                              if a:\n                                                                                                                if a:\n                                                                                                                  if a:\n                                                                                                                    if a:\n                                                                                                                      if a: pass\n") ≡ Ok (t.choose (arms (((t.name (codes "a")), statements (t.choose (arms (((t.name (codes "a")), statements (t.choose (arms (((t.name (codes "a")), statements (t.choose (arms (((t.name (codes "a")), statements (t.choose (arms (((t.name (codes "a")), statements (t.choose (arms (((t.name (codes "a")), statements (t.choose (arms (((t.name (codes "a")), statements (t.choose (arms (((t.name (codes "a")), statements (t.choose (arms (((t.name (codes "a")), statements (t.choose (arms (((t.name (codes "a")), statements (t.choose (arms (((t.name (codes "a")), statements (t.choose (arms (((t.name (codes "a")), statements (t.choose (arms (((t.name (codes "a")), statements (t.choose (arms (((t.name (codes "a")), statements (t.choose (arms (((t.name (codes "a")), statements (t.choose (arms (((t.name (codes "a")), statements (t.choose (arms (((t.name (codes "a")), statements (t.choose (arms (((t.name (codes "a")), statements (t.choose (arms (((t.name (codes "a")), statements (t.choose (arms (((t.name (codes "a")), statements (t.choose (arms (((t.name (codes "a")), statements (t.choose (arms (((t.name (codes "a")), statements (t.choose (arms (((t.name (codes "a")), statements (t.choose (arms (((t.name (codes "a")), statements (t.choose (arms (((t.name (codes "a")), statements (t.choose (arms (((t.name (codes "a")), statements (t.choose (arms (((t.name (codes "a")), statements (t.choose (arms (((t.name (codes "a")), statements (t.choose (arms (((t.name (codes "a")), statements (t.choose (arms (((t.name (codes "a")), statements (t.choose (arms (((t.name (codes "a")), statements (t.choose (arms (((t.name (codes "a")), statements (t.choose (arms (((t.name (codes "a")), statements (t.choose (arms (((t.name (codes "a")), statements (t.choose (arms (((t.name (codes "a")), statements (t.choose (arms (((t.name (codes "a")), statements (t.choose (arms (((t.name (codes "a")), statements (t.choose (arms (((t.name (codes "a")), statements (t.choose (arms (((t.name (codes "a")), statements (t.choose (arms (((t.name (codes "a")), statements (t.choose (arms (((t.name (codes "a")), statements (t.choose (arms (((t.name (codes "a")), statements (t.choose (arms (((t.name (codes "a")), statements (t.choose (arms (((t.name (codes "a")), statements (t.choose (arms (((t.name (codes "a")), statements (t.choose (arms (((t.name (codes "a")), statements (t.choose (arms (((t.name (codes "a")), statements (t.choose (arms (((t.name (codes "a")), statements (t.choose (arms (((t.name (codes "a")), statements (t.choose (arms (((t.name (codes "a")), statements (t.choose (arms (((t.name (codes "a")), statements (t.choose (arms (((t.name (codes "a")), statements (t.choose (arms (((t.name (codes "a")), statements (t.choose (arms (((t.name (codes "a")), statements (t.choose (arms (((t.name (codes "a")), statements (t.choose (arms (((t.name (codes "a")), statements (t.choose (arms (((t.name (codes "a")), statements (t.choose (arms (((t.name (codes "a")), statements (t.choose (arms (((t.name (codes "a")), statements (t.choose (arms (((t.name (codes "a")), statements (t.pass ∷ [])) ∷ [])) (statements []) ∷ [])) ∷ [])) (statements []) ∷ [])) ∷ [])) (statements []) ∷ [])) ∷ [])) (statements []) ∷ [])) ∷ [])) (statements []) ∷ [])) ∷ [])) (statements []) ∷ [])) ∷ [])) (statements []) ∷ [])) ∷ [])) (statements []) ∷ [])) ∷ [])) (statements []) ∷ [])) ∷ [])) (statements []) ∷ [])) ∷ [])) (statements []) ∷ [])) ∷ [])) (statements []) ∷ [])) ∷ [])) (statements []) ∷ [])) ∷ [])) (statements []) ∷ [])) ∷ [])) (statements []) ∷ [])) ∷ [])) (statements []) ∷ [])) ∷ [])) (statements []) ∷ [])) ∷ [])) (statements []) ∷ [])) ∷ [])) (statements []) ∷ [])) ∷ [])) (statements []) ∷ [])) ∷ [])) (statements []) ∷ [])) ∷ [])) (statements []) ∷ [])) ∷ [])) (statements []) ∷ [])) ∷ [])) (statements []) ∷ [])) ∷ [])) (statements []) ∷ [])) ∷ [])) (statements []) ∷ [])) ∷ [])) (statements []) ∷ [])) ∷ [])) (statements []) ∷ [])) ∷ [])) (statements []) ∷ [])) ∷ [])) (statements []) ∷ [])) ∷ [])) (statements []) ∷ [])) ∷ [])) (statements []) ∷ [])) ∷ [])) (statements []) ∷ [])) ∷ [])) (statements []) ∷ [])) ∷ [])) (statements []) ∷ [])) ∷ [])) (statements []) ∷ [])) ∷ [])) (statements []) ∷ [])) ∷ [])) (statements []) ∷ [])) ∷ [])) (statements []) ∷ [])) ∷ [])) (statements []) ∷ [])) ∷ [])) (statements []) ∷ [])) ∷ [])) (statements []) ∷ [])) ∷ [])) (statements []) ∷ [])) ∷ [])) (statements []) ∷ [])) ∷ [])) (statements []) ∷ [])) ∷ [])) (statements []) ∷ [])) ∷ [])) (statements []) ∷ [])) ∷ [])) (statements []) ∷ [])) ∷ [])) (statements []) ∷ [])) ∷ [])) (statements []) ∷ [])) ∷ [])) (statements []) ∷ [])) ∷ [])) (statements []) ∷ [])) ∷ [])) (statements []) ∷ [])) ∷ [])) (statements []) ∷ [])) ∷ [])) (statements []) ∷ [])) ∷ [])) (statements []) ∷ [])) ∷ [])) (statements []) ∷ [])) ∷ [])) (statements []) ∷ [])) ∷ [])) (statements []) ∷ [])) ∷ [])) (statements []) ∷ [])
unfolding reserved_marks delimiter operator numeral Q.escape Q.item Q.closes Q.body Q.quoted token_piece lexeme cut indented begin bracket step layout encode_utf8 code_of E.keyword_begins E.another E.argument E.attribute E.call E.slice_after E.item_or_slice E.trailer E.parenthesised E.list E.pair E.dict E.atom E.primary_parts E.primary E.power E.unary_level E.term E.sum E.compared E.negated_level E.conjunction E.disjunction E.expr_level E.exprs_level E.phrase S.primary_at S.another_simple S.raise S.return S.assertion S.delete S.global S.import S.update_of S.assignment_of S.update_or_assignment S.simple S.simples S.line S.block S.block_after S.arm S.choice S.while S.for S.caught S.handler S.handled S.finished S.try S.parameter S.definition S.define S.compound S.chunk S.program R.piece read_chars
tree_89 = refl
