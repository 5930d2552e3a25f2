-- Texts with the trees, lines and functions that the relation of the grammar gives them, by the law that the reader finds just these. Made by tools/rows/tree_rows.py.
use Rattle.std.proofs.Common.{◌≡◌, ◌∷◌, [], refl, inl, inr}
use Rattle.std.specs.Prelude.{pos, codes, Some, None}
use Rattle.std.specs.Char.{encode_utf8}
use Rattle.kishu_language.specs.declared.profile.Profile.TheVariants.{One}
use Rattle.kishu_language.specs.declared.tree.Operator.TheVariants as o
use Rattle.kishu_language.specs.declared.tree.Sign.TheVariants as s
use Rattle.kishu_language.specs.declared.tree.Comparison.TheVariants as c
use Rattle.kishu_language.specs.tokens.Marks.{reserved_marks, delimiter, operator}
use Rattle.kishu_language.specs.tokens.Numerals.{numeral}
use Rattle.kishu_language.specs.tokens.Quoted as Q
use Rattle.kishu_language.specs.tokens.Lexemes.{token_piece, lexeme}
use Rattle.kishu_language.specs.tokens.Layout.{cut, indented, begin, bracket, step, layout}
use Rattle.kishu_language.specs.trees.Tree.{expressions, operands, links, pairs, trailers, arguments, statements, arms, handlers, absent, bound}
use Rattle.kishu_language.specs.trees.Tree as t
use Rattle.kishu_language.specs.trees.Code.{code_of}
use Rattle.kishu_language.specs.reading.ReadExpressions as E
use Rattle.kishu_language.specs.reading.ReadStatements as S
use Rattle.kishu_language.specs.reading.ReadText as R
use Rattle.kishu_language.specs.reading.ReadText.{read_chars}
use Rattle.std.specs.Str.{chars}
use Rattle.kishu_language.specs.grammar.Parse.{Parse, Line, ParseDef, LineDef}
use Rattle.kishu_language_laws.specs.reading.ExactText.{read_found, line_found, one_parse}

parse_1 : Parse One [] ([])
unfolding reserved_marks delimiter operator numeral Q.escape Q.item Q.closes Q.body Q.quoted token_piece lexeme cut indented begin bracket step layout encode_utf8 code_of E.keyword_begins E.another E.argument E.attribute E.call E.slice_after E.item_or_slice E.trailer E.parenthesised E.list E.pair E.dict E.atom E.primary_parts E.primary E.power E.unary_level E.term E.sum E.compared E.negated_level E.conjunction E.disjunction E.expr_level E.exprs_level E.phrase S.primary_at S.another_simple S.raise S.return S.assertion S.delete S.global S.import S.update_of S.assignment_of S.update_or_assignment S.simple S.simples S.line S.block S.block_after S.arm S.choice S.while S.for S.caught S.handler S.handled S.finished S.try S.parameter S.definition S.define S.compound S.chunk S.program R.piece read_chars chars
parse_1 = read_found One [] ([]) refl

parse_2 : Parse One (codes "x") (t.assign [] (t.name (codes "x")) ∷ [])
unfolding reserved_marks delimiter operator numeral Q.escape Q.item Q.closes Q.body Q.quoted token_piece lexeme cut indented begin bracket step layout encode_utf8 code_of E.keyword_begins E.another E.argument E.attribute E.call E.slice_after E.item_or_slice E.trailer E.parenthesised E.list E.pair E.dict E.atom E.primary_parts E.primary E.power E.unary_level E.term E.sum E.compared E.negated_level E.conjunction E.disjunction E.expr_level E.exprs_level E.phrase S.primary_at S.another_simple S.raise S.return S.assertion S.delete S.global S.import S.update_of S.assignment_of S.update_or_assignment S.simple S.simples S.line S.block S.block_after S.arm S.choice S.while S.for S.caught S.handler S.handled S.finished S.try S.parameter S.definition S.define S.compound S.chunk S.program R.piece read_chars chars
parse_2 = read_found One (codes "x") (t.assign [] (t.name (codes "x")) ∷ []) refl

parse_3 : Parse One (codes "x = 1\n") (t.assign ((t.name (codes "x")) ∷ []) (t.integer (pos 1)) ∷ [])
unfolding reserved_marks delimiter operator numeral Q.escape Q.item Q.closes Q.body Q.quoted token_piece lexeme cut indented begin bracket step layout encode_utf8 code_of E.keyword_begins E.another E.argument E.attribute E.call E.slice_after E.item_or_slice E.trailer E.parenthesised E.list E.pair E.dict E.atom E.primary_parts E.primary E.power E.unary_level E.term E.sum E.compared E.negated_level E.conjunction E.disjunction E.expr_level E.exprs_level E.phrase S.primary_at S.another_simple S.raise S.return S.assertion S.delete S.global S.import S.update_of S.assignment_of S.update_or_assignment S.simple S.simples S.line S.block S.block_after S.arm S.choice S.while S.for S.caught S.handler S.handled S.finished S.try S.parameter S.definition S.define S.compound S.chunk S.program R.piece read_chars chars
parse_3 = read_found One (codes "x = 1\n") (t.assign ((t.name (codes "x")) ∷ []) (t.integer (pos 1)) ∷ []) refl

parse_4 : Parse One (codes "a = b = c, d\n") (t.assign ((t.name (codes "a")) ∷ (t.name (codes "b")) ∷ []) (t.tuple (expressions ((t.name (codes "c")) ∷ (t.name (codes "d")) ∷ []))) ∷ [])
unfolding reserved_marks delimiter operator numeral Q.escape Q.item Q.closes Q.body Q.quoted token_piece lexeme cut indented begin bracket step layout encode_utf8 code_of E.keyword_begins E.another E.argument E.attribute E.call E.slice_after E.item_or_slice E.trailer E.parenthesised E.list E.pair E.dict E.atom E.primary_parts E.primary E.power E.unary_level E.term E.sum E.compared E.negated_level E.conjunction E.disjunction E.expr_level E.exprs_level E.phrase S.primary_at S.another_simple S.raise S.return S.assertion S.delete S.global S.import S.update_of S.assignment_of S.update_or_assignment S.simple S.simples S.line S.block S.block_after S.arm S.choice S.while S.for S.caught S.handler S.handled S.finished S.try S.parameter S.definition S.define S.compound S.chunk S.program R.piece read_chars chars
parse_4 = read_found One (codes "a = b = c, d\n") (t.assign ((t.name (codes "a")) ∷ (t.name (codes "b")) ∷ []) (t.tuple (expressions ((t.name (codes "c")) ∷ (t.name (codes "d")) ∷ []))) ∷ []) refl

parse_5 : Parse One (codes "a, = x\n") (t.assign ((t.tuple (expressions ((t.name (codes "a")) ∷ []))) ∷ []) (t.name (codes "x")) ∷ [])
unfolding reserved_marks delimiter operator numeral Q.escape Q.item Q.closes Q.body Q.quoted token_piece lexeme cut indented begin bracket step layout encode_utf8 code_of E.keyword_begins E.another E.argument E.attribute E.call E.slice_after E.item_or_slice E.trailer E.parenthesised E.list E.pair E.dict E.atom E.primary_parts E.primary E.power E.unary_level E.term E.sum E.compared E.negated_level E.conjunction E.disjunction E.expr_level E.exprs_level E.phrase S.primary_at S.another_simple S.raise S.return S.assertion S.delete S.global S.import S.update_of S.assignment_of S.update_or_assignment S.simple S.simples S.line S.block S.block_after S.arm S.choice S.while S.for S.caught S.handler S.handled S.finished S.try S.parameter S.definition S.define S.compound S.chunk S.program R.piece read_chars chars
parse_5 = read_found One (codes "a, = x\n") (t.assign ((t.tuple (expressions ((t.name (codes "a")) ∷ []))) ∷ []) (t.name (codes "x")) ∷ []) refl

parse_6 : Parse One (codes "(a, b), [c, d] = x\n") (t.assign ((t.tuple (expressions ((t.paren (t.tuple (expressions ((t.name (codes "a")) ∷ (t.name (codes "b")) ∷ [])))) ∷ (t.list (expressions ((t.name (codes "c")) ∷ (t.name (codes "d")) ∷ []))) ∷ []))) ∷ []) (t.name (codes "x")) ∷ [])
unfolding reserved_marks delimiter operator numeral Q.escape Q.item Q.closes Q.body Q.quoted token_piece lexeme cut indented begin bracket step layout encode_utf8 code_of E.keyword_begins E.another E.argument E.attribute E.call E.slice_after E.item_or_slice E.trailer E.parenthesised E.list E.pair E.dict E.atom E.primary_parts E.primary E.power E.unary_level E.term E.sum E.compared E.negated_level E.conjunction E.disjunction E.expr_level E.exprs_level E.phrase S.primary_at S.another_simple S.raise S.return S.assertion S.delete S.global S.import S.update_of S.assignment_of S.update_or_assignment S.simple S.simples S.line S.block S.block_after S.arm S.choice S.while S.for S.caught S.handler S.handled S.finished S.try S.parameter S.definition S.define S.compound S.chunk S.program R.piece read_chars chars
parse_6 = read_found One (codes "(a, b), [c, d] = x\n") (t.assign ((t.tuple (expressions ((t.paren (t.tuple (expressions ((t.name (codes "a")) ∷ (t.name (codes "b")) ∷ [])))) ∷ (t.list (expressions ((t.name (codes "c")) ∷ (t.name (codes "d")) ∷ []))) ∷ []))) ∷ []) (t.name (codes "x")) ∷ []) refl

parse_7 : Parse One (codes "a.b = c[1]\n") (t.assign ((t.primary (t.name (codes "a")) (trailers (t.attribute (codes "b") ∷ []))) ∷ []) (t.primary (t.name (codes "c")) (trailers (t.index (t.integer (pos 1)) ∷ []))) ∷ [])
unfolding reserved_marks delimiter operator numeral Q.escape Q.item Q.closes Q.body Q.quoted token_piece lexeme cut indented begin bracket step layout encode_utf8 code_of E.keyword_begins E.another E.argument E.attribute E.call E.slice_after E.item_or_slice E.trailer E.parenthesised E.list E.pair E.dict E.atom E.primary_parts E.primary E.power E.unary_level E.term E.sum E.compared E.negated_level E.conjunction E.disjunction E.expr_level E.exprs_level E.phrase S.primary_at S.another_simple S.raise S.return S.assertion S.delete S.global S.import S.update_of S.assignment_of S.update_or_assignment S.simple S.simples S.line S.block S.block_after S.arm S.choice S.while S.for S.caught S.handler S.handled S.finished S.try S.parameter S.definition S.define S.compound S.chunk S.program R.piece read_chars chars
parse_7 = read_found One (codes "a.b = c[1]\n") (t.assign ((t.primary (t.name (codes "a")) (trailers (t.attribute (codes "b") ∷ []))) ∷ []) (t.primary (t.name (codes "c")) (trailers (t.index (t.integer (pos 1)) ∷ []))) ∷ []) refl

parse_8 : Parse One (codes "a += 1, 2\n") (t.update (t.name (codes "a")) o.Add (t.tuple (expressions ((t.integer (pos 1)) ∷ (t.integer (pos 2)) ∷ []))) ∷ [])
unfolding reserved_marks delimiter operator numeral Q.escape Q.item Q.closes Q.body Q.quoted token_piece lexeme cut indented begin bracket step layout encode_utf8 code_of E.keyword_begins E.another E.argument E.attribute E.call E.slice_after E.item_or_slice E.trailer E.parenthesised E.list E.pair E.dict E.atom E.primary_parts E.primary E.power E.unary_level E.term E.sum E.compared E.negated_level E.conjunction E.disjunction E.expr_level E.exprs_level E.phrase S.primary_at S.another_simple S.raise S.return S.assertion S.delete S.global S.import S.update_of S.assignment_of S.update_or_assignment S.simple S.simples S.line S.block S.block_after S.arm S.choice S.while S.for S.caught S.handler S.handled S.finished S.try S.parameter S.definition S.define S.compound S.chunk S.program R.piece read_chars chars
parse_8 = read_found One (codes "a += 1, 2\n") (t.update (t.name (codes "a")) o.Add (t.tuple (expressions ((t.integer (pos 1)) ∷ (t.integer (pos 2)) ∷ []))) ∷ []) refl

parse_9 : Parse One (codes "1 + 2 * 3\n") (t.assign [] (t.sum (t.integer (pos 1)) (operands ((o.Add, (t.product (t.integer (pos 2)) (operands ((o.Multiply, (t.integer (pos 3))) ∷ [])))) ∷ []))) ∷ [])
unfolding reserved_marks delimiter operator numeral Q.escape Q.item Q.closes Q.body Q.quoted token_piece lexeme cut indented begin bracket step layout encode_utf8 code_of E.keyword_begins E.another E.argument E.attribute E.call E.slice_after E.item_or_slice E.trailer E.parenthesised E.list E.pair E.dict E.atom E.primary_parts E.primary E.power E.unary_level E.term E.sum E.compared E.negated_level E.conjunction E.disjunction E.expr_level E.exprs_level E.phrase S.primary_at S.another_simple S.raise S.return S.assertion S.delete S.global S.import S.update_of S.assignment_of S.update_or_assignment S.simple S.simples S.line S.block S.block_after S.arm S.choice S.while S.for S.caught S.handler S.handled S.finished S.try S.parameter S.definition S.define S.compound S.chunk S.program R.piece read_chars chars
parse_9 = read_found One (codes "1 + 2 * 3\n") (t.assign [] (t.sum (t.integer (pos 1)) (operands ((o.Add, (t.product (t.integer (pos 2)) (operands ((o.Multiply, (t.integer (pos 3))) ∷ [])))) ∷ []))) ∷ []) refl

parse_10 : Parse One (codes "-a ** b\n") (t.assign [] (t.signed s.Minus (t.power (t.name (codes "a")) (t.name (codes "b")))) ∷ [])
unfolding reserved_marks delimiter operator numeral Q.escape Q.item Q.closes Q.body Q.quoted token_piece lexeme cut indented begin bracket step layout encode_utf8 code_of E.keyword_begins E.another E.argument E.attribute E.call E.slice_after E.item_or_slice E.trailer E.parenthesised E.list E.pair E.dict E.atom E.primary_parts E.primary E.power E.unary_level E.term E.sum E.compared E.negated_level E.conjunction E.disjunction E.expr_level E.exprs_level E.phrase S.primary_at S.another_simple S.raise S.return S.assertion S.delete S.global S.import S.update_of S.assignment_of S.update_or_assignment S.simple S.simples S.line S.block S.block_after S.arm S.choice S.while S.for S.caught S.handler S.handled S.finished S.try S.parameter S.definition S.define S.compound S.chunk S.program R.piece read_chars chars
parse_10 = read_found One (codes "-a ** b\n") (t.assign [] (t.signed s.Minus (t.power (t.name (codes "a")) (t.name (codes "b")))) ∷ []) refl

parse_11 : Parse One (codes "a < b in c\n") (t.assign [] (t.compared (t.name (codes "a")) (links ((c.Less, (t.name (codes "b"))) ∷ (c.In, (t.name (codes "c"))) ∷ []))) ∷ [])
unfolding reserved_marks delimiter operator numeral Q.escape Q.item Q.closes Q.body Q.quoted token_piece lexeme cut indented begin bracket step layout encode_utf8 code_of E.keyword_begins E.another E.argument E.attribute E.call E.slice_after E.item_or_slice E.trailer E.parenthesised E.list E.pair E.dict E.atom E.primary_parts E.primary E.power E.unary_level E.term E.sum E.compared E.negated_level E.conjunction E.disjunction E.expr_level E.exprs_level E.phrase S.primary_at S.another_simple S.raise S.return S.assertion S.delete S.global S.import S.update_of S.assignment_of S.update_or_assignment S.simple S.simples S.line S.block S.block_after S.arm S.choice S.while S.for S.caught S.handler S.handled S.finished S.try S.parameter S.definition S.define S.compound S.chunk S.program R.piece read_chars chars
parse_11 = read_found One (codes "a < b in c\n") (t.assign [] (t.compared (t.name (codes "a")) (links ((c.Less, (t.name (codes "b"))) ∷ (c.In, (t.name (codes "c"))) ∷ []))) ∷ []) refl

parse_12 : Parse One (codes "not a or b and c\n") (t.assign [] (t.or (expressions ((t.not (t.name (codes "a"))) ∷ (t.and (expressions ((t.name (codes "b")) ∷ (t.name (codes "c")) ∷ []))) ∷ []))) ∷ [])
unfolding reserved_marks delimiter operator numeral Q.escape Q.item Q.closes Q.body Q.quoted token_piece lexeme cut indented begin bracket step layout encode_utf8 code_of E.keyword_begins E.another E.argument E.attribute E.call E.slice_after E.item_or_slice E.trailer E.parenthesised E.list E.pair E.dict E.atom E.primary_parts E.primary E.power E.unary_level E.term E.sum E.compared E.negated_level E.conjunction E.disjunction E.expr_level E.exprs_level E.phrase S.primary_at S.another_simple S.raise S.return S.assertion S.delete S.global S.import S.update_of S.assignment_of S.update_or_assignment S.simple S.simples S.line S.block S.block_after S.arm S.choice S.while S.for S.caught S.handler S.handled S.finished S.try S.parameter S.definition S.define S.compound S.chunk S.program R.piece read_chars chars
parse_12 = read_found One (codes "not a or b and c\n") (t.assign [] (t.or (expressions ((t.not (t.name (codes "a"))) ∷ (t.and (expressions ((t.name (codes "b")) ∷ (t.name (codes "c")) ∷ []))) ∷ []))) ∷ []) refl

parse_13 : Parse One (codes "x if a else y\n") (t.assign [] (t.conditional (t.name (codes "x")) (t.name (codes "a")) (t.name (codes "y"))) ∷ [])
unfolding reserved_marks delimiter operator numeral Q.escape Q.item Q.closes Q.body Q.quoted token_piece lexeme cut indented begin bracket step layout encode_utf8 code_of E.keyword_begins E.another E.argument E.attribute E.call E.slice_after E.item_or_slice E.trailer E.parenthesised E.list E.pair E.dict E.atom E.primary_parts E.primary E.power E.unary_level E.term E.sum E.compared E.negated_level E.conjunction E.disjunction E.expr_level E.exprs_level E.phrase S.primary_at S.another_simple S.raise S.return S.assertion S.delete S.global S.import S.update_of S.assignment_of S.update_or_assignment S.simple S.simples S.line S.block S.block_after S.arm S.choice S.while S.for S.caught S.handler S.handled S.finished S.try S.parameter S.definition S.define S.compound S.chunk S.program R.piece read_chars chars
parse_13 = read_found One (codes "x if a else y\n") (t.assign [] (t.conditional (t.name (codes "x")) (t.name (codes "a")) (t.name (codes "y"))) ∷ []) refl

parse_14 : Parse One (codes "f(a, b=1,)\n") (t.assign [] (t.primary (t.name (codes "f")) (trailers (t.call (arguments (t.plain (t.name (codes "a")) ∷ t.keyword (codes "b") (t.integer (pos 1)) ∷ [])) ∷ []))) ∷ [])
unfolding reserved_marks delimiter operator numeral Q.escape Q.item Q.closes Q.body Q.quoted token_piece lexeme cut indented begin bracket step layout encode_utf8 code_of E.keyword_begins E.another E.argument E.attribute E.call E.slice_after E.item_or_slice E.trailer E.parenthesised E.list E.pair E.dict E.atom E.primary_parts E.primary E.power E.unary_level E.term E.sum E.compared E.negated_level E.conjunction E.disjunction E.expr_level E.exprs_level E.phrase S.primary_at S.another_simple S.raise S.return S.assertion S.delete S.global S.import S.update_of S.assignment_of S.update_or_assignment S.simple S.simples S.line S.block S.block_after S.arm S.choice S.while S.for S.caught S.handler S.handled S.finished S.try S.parameter S.definition S.define S.compound S.chunk S.program R.piece read_chars chars
parse_14 = read_found One (codes "f(a, b=1,)\n") (t.assign [] (t.primary (t.name (codes "f")) (trailers (t.call (arguments (t.plain (t.name (codes "a")) ∷ t.keyword (codes "b") (t.integer (pos 1)) ∷ [])) ∷ []))) ∷ []) refl

parse_15 : Parse One (codes "a[1:2], a[::3]\n") (t.assign [] (t.tuple (expressions ((t.primary (t.name (codes "a")) (trailers (t.slice (bound (t.integer (pos 1))) (bound (t.integer (pos 2))) absent ∷ []))) ∷ (t.primary (t.name (codes "a")) (trailers (t.slice absent absent (bound (t.integer (pos 3))) ∷ []))) ∷ []))) ∷ [])
unfolding reserved_marks delimiter operator numeral Q.escape Q.item Q.closes Q.body Q.quoted token_piece lexeme cut indented begin bracket step layout encode_utf8 code_of E.keyword_begins E.another E.argument E.attribute E.call E.slice_after E.item_or_slice E.trailer E.parenthesised E.list E.pair E.dict E.atom E.primary_parts E.primary E.power E.unary_level E.term E.sum E.compared E.negated_level E.conjunction E.disjunction E.expr_level E.exprs_level E.phrase S.primary_at S.another_simple S.raise S.return S.assertion S.delete S.global S.import S.update_of S.assignment_of S.update_or_assignment S.simple S.simples S.line S.block S.block_after S.arm S.choice S.while S.for S.caught S.handler S.handled S.finished S.try S.parameter S.definition S.define S.compound S.chunk S.program R.piece read_chars chars
parse_15 = read_found One (codes "a[1:2], a[::3]\n") (t.assign [] (t.tuple (expressions ((t.primary (t.name (codes "a")) (trailers (t.slice (bound (t.integer (pos 1))) (bound (t.integer (pos 2))) absent ∷ []))) ∷ (t.primary (t.name (codes "a")) (trailers (t.slice absent absent (bound (t.integer (pos 3))) ∷ []))) ∷ []))) ∷ []) refl

parse_16 : Parse One (codes "(), (a,), [a], {a: b}\n") (t.assign [] (t.tuple (expressions ((t.tuple (expressions ([]))) ∷ (t.paren (t.tuple (expressions ((t.name (codes "a")) ∷ [])))) ∷ (t.list (expressions ((t.name (codes "a")) ∷ []))) ∷ (t.dict (pairs (((t.name (codes "a")), (t.name (codes "b"))) ∷ []))) ∷ []))) ∷ [])
unfolding reserved_marks delimiter operator numeral Q.escape Q.item Q.closes Q.body Q.quoted token_piece lexeme cut indented begin bracket step layout encode_utf8 code_of E.keyword_begins E.another E.argument E.attribute E.call E.slice_after E.item_or_slice E.trailer E.parenthesised E.list E.pair E.dict E.atom E.primary_parts E.primary E.power E.unary_level E.term E.sum E.compared E.negated_level E.conjunction E.disjunction E.expr_level E.exprs_level E.phrase S.primary_at S.another_simple S.raise S.return S.assertion S.delete S.global S.import S.update_of S.assignment_of S.update_or_assignment S.simple S.simples S.line S.block S.block_after S.arm S.choice S.while S.for S.caught S.handler S.handled S.finished S.try S.parameter S.definition S.define S.compound S.chunk S.program R.piece read_chars chars
parse_16 = read_found One (codes "(), (a,), [a], {a: b}\n") (t.assign [] (t.tuple (expressions ((t.tuple (expressions ([]))) ∷ (t.paren (t.tuple (expressions ((t.name (codes "a")) ∷ [])))) ∷ (t.list (expressions ((t.name (codes "a")) ∷ []))) ∷ (t.dict (pairs (((t.name (codes "a")), (t.name (codes "b"))) ∷ []))) ∷ []))) ∷ []) refl

parse_17 : Parse One (codes "'a' 'b'\n") (t.assign [] (t.text (codes "ab")) ∷ [])
unfolding reserved_marks delimiter operator numeral Q.escape Q.item Q.closes Q.body Q.quoted token_piece lexeme cut indented begin bracket step layout encode_utf8 code_of E.keyword_begins E.another E.argument E.attribute E.call E.slice_after E.item_or_slice E.trailer E.parenthesised E.list E.pair E.dict E.atom E.primary_parts E.primary E.power E.unary_level E.term E.sum E.compared E.negated_level E.conjunction E.disjunction E.expr_level E.exprs_level E.phrase S.primary_at S.another_simple S.raise S.return S.assertion S.delete S.global S.import S.update_of S.assignment_of S.update_or_assignment S.simple S.simples S.line S.block S.block_after S.arm S.choice S.while S.for S.caught S.handler S.handled S.finished S.try S.parameter S.definition S.define S.compound S.chunk S.program R.piece read_chars chars
parse_17 = read_found One (codes "'a' 'b'\n") (t.assign [] (t.text (codes "ab")) ∷ []) refl

parse_18 : Parse One (codes "None, True\n") (t.assign [] (t.tuple (expressions (t.none ∷ t.true ∷ []))) ∷ [])
unfolding reserved_marks delimiter operator numeral Q.escape Q.item Q.closes Q.body Q.quoted token_piece lexeme cut indented begin bracket step layout encode_utf8 code_of E.keyword_begins E.another E.argument E.attribute E.call E.slice_after E.item_or_slice E.trailer E.parenthesised E.list E.pair E.dict E.atom E.primary_parts E.primary E.power E.unary_level E.term E.sum E.compared E.negated_level E.conjunction E.disjunction E.expr_level E.exprs_level E.phrase S.primary_at S.another_simple S.raise S.return S.assertion S.delete S.global S.import S.update_of S.assignment_of S.update_or_assignment S.simple S.simples S.line S.block S.block_after S.arm S.choice S.while S.for S.caught S.handler S.handled S.finished S.try S.parameter S.definition S.define S.compound S.chunk S.program R.piece read_chars chars
parse_18 = read_found One (codes "None, True\n") (t.assign [] (t.tuple (expressions (t.none ∷ t.true ∷ []))) ∷ []) refl

parse_19 : Parse One (codes "pass; x;\n") (t.pass ∷ t.assign [] (t.name (codes "x")) ∷ [])
unfolding reserved_marks delimiter operator numeral Q.escape Q.item Q.closes Q.body Q.quoted token_piece lexeme cut indented begin bracket step layout encode_utf8 code_of E.keyword_begins E.another E.argument E.attribute E.call E.slice_after E.item_or_slice E.trailer E.parenthesised E.list E.pair E.dict E.atom E.primary_parts E.primary E.power E.unary_level E.term E.sum E.compared E.negated_level E.conjunction E.disjunction E.expr_level E.exprs_level E.phrase S.primary_at S.another_simple S.raise S.return S.assertion S.delete S.global S.import S.update_of S.assignment_of S.update_or_assignment S.simple S.simples S.line S.block S.block_after S.arm S.choice S.while S.for S.caught S.handler S.handled S.finished S.try S.parameter S.definition S.define S.compound S.chunk S.program R.piece read_chars chars
parse_19 = read_found One (codes "pass; x;\n") (t.pass ∷ t.assign [] (t.name (codes "x")) ∷ []) refl

parse_20 : Parse One (codes "assert a, b\n") (t.assert (t.name (codes "a")) (Some (t.name (codes "b"))) ∷ [])
unfolding reserved_marks delimiter operator numeral Q.escape Q.item Q.closes Q.body Q.quoted token_piece lexeme cut indented begin bracket step layout encode_utf8 code_of E.keyword_begins E.another E.argument E.attribute E.call E.slice_after E.item_or_slice E.trailer E.parenthesised E.list E.pair E.dict E.atom E.primary_parts E.primary E.power E.unary_level E.term E.sum E.compared E.negated_level E.conjunction E.disjunction E.expr_level E.exprs_level E.phrase S.primary_at S.another_simple S.raise S.return S.assertion S.delete S.global S.import S.update_of S.assignment_of S.update_or_assignment S.simple S.simples S.line S.block S.block_after S.arm S.choice S.while S.for S.caught S.handler S.handled S.finished S.try S.parameter S.definition S.define S.compound S.chunk S.program R.piece read_chars chars
parse_20 = read_found One (codes "assert a, b\n") (t.assert (t.name (codes "a")) (Some (t.name (codes "b"))) ∷ []) refl

parse_21 : Parse One (codes "del a, b[0]\n") (t.delete ((t.name (codes "a")) ∷ (t.primary (t.name (codes "b")) (trailers (t.index (t.integer (pos 0)) ∷ []))) ∷ []) ∷ [])
unfolding reserved_marks delimiter operator numeral Q.escape Q.item Q.closes Q.body Q.quoted token_piece lexeme cut indented begin bracket step layout encode_utf8 code_of E.keyword_begins E.another E.argument E.attribute E.call E.slice_after E.item_or_slice E.trailer E.parenthesised E.list E.pair E.dict E.atom E.primary_parts E.primary E.power E.unary_level E.term E.sum E.compared E.negated_level E.conjunction E.disjunction E.expr_level E.exprs_level E.phrase S.primary_at S.another_simple S.raise S.return S.assertion S.delete S.global S.import S.update_of S.assignment_of S.update_or_assignment S.simple S.simples S.line S.block S.block_after S.arm S.choice S.while S.for S.caught S.handler S.handled S.finished S.try S.parameter S.definition S.define S.compound S.chunk S.program R.piece read_chars chars
parse_21 = read_found One (codes "del a, b[0]\n") (t.delete ((t.name (codes "a")) ∷ (t.primary (t.name (codes "b")) (trailers (t.index (t.integer (pos 0)) ∷ []))) ∷ []) ∷ []) refl

parse_22 : Parse One (codes "from types import SimpleNamespace as S\n") (t.import (Some (codes "S")) ∷ [])
unfolding reserved_marks delimiter operator numeral Q.escape Q.item Q.closes Q.body Q.quoted token_piece lexeme cut indented begin bracket step layout encode_utf8 code_of E.keyword_begins E.another E.argument E.attribute E.call E.slice_after E.item_or_slice E.trailer E.parenthesised E.list E.pair E.dict E.atom E.primary_parts E.primary E.power E.unary_level E.term E.sum E.compared E.negated_level E.conjunction E.disjunction E.expr_level E.exprs_level E.phrase S.primary_at S.another_simple S.raise S.return S.assertion S.delete S.global S.import S.update_of S.assignment_of S.update_or_assignment S.simple S.simples S.line S.block S.block_after S.arm S.choice S.while S.for S.caught S.handler S.handled S.finished S.try S.parameter S.definition S.define S.compound S.chunk S.program R.piece read_chars chars
parse_22 = read_found One (codes "from types import SimpleNamespace as S\n") (t.import (Some (codes "S")) ∷ []) refl

parse_23 : Parse One (codes "if a: b\nelif c: d\nelse: e\n") (t.choose (arms (((t.name (codes "a")), (statements (t.assign [] (t.name (codes "b")) ∷ []))) ∷ ((t.name (codes "c")), (statements (t.assign [] (t.name (codes "d")) ∷ []))) ∷ [])) (statements (t.assign [] (t.name (codes "e")) ∷ [])) ∷ [])
unfolding reserved_marks delimiter operator numeral Q.escape Q.item Q.closes Q.body Q.quoted token_piece lexeme cut indented begin bracket step layout encode_utf8 code_of E.keyword_begins E.another E.argument E.attribute E.call E.slice_after E.item_or_slice E.trailer E.parenthesised E.list E.pair E.dict E.atom E.primary_parts E.primary E.power E.unary_level E.term E.sum E.compared E.negated_level E.conjunction E.disjunction E.expr_level E.exprs_level E.phrase S.primary_at S.another_simple S.raise S.return S.assertion S.delete S.global S.import S.update_of S.assignment_of S.update_or_assignment S.simple S.simples S.line S.block S.block_after S.arm S.choice S.while S.for S.caught S.handler S.handled S.finished S.try S.parameter S.definition S.define S.compound S.chunk S.program R.piece read_chars chars
parse_23 = read_found One (codes "if a: b\nelif c: d\nelse: e\n") (t.choose (arms (((t.name (codes "a")), (statements (t.assign [] (t.name (codes "b")) ∷ []))) ∷ ((t.name (codes "c")), (statements (t.assign [] (t.name (codes "d")) ∷ []))) ∷ [])) (statements (t.assign [] (t.name (codes "e")) ∷ [])) ∷ []) refl

parse_24 : Parse One (codes "while a:\n  break\n") (t.while (t.name (codes "a")) (statements (t.break ∷ [])) ∷ [])
unfolding reserved_marks delimiter operator numeral Q.escape Q.item Q.closes Q.body Q.quoted token_piece lexeme cut indented begin bracket step layout encode_utf8 code_of E.keyword_begins E.another E.argument E.attribute E.call E.slice_after E.item_or_slice E.trailer E.parenthesised E.list E.pair E.dict E.atom E.primary_parts E.primary E.power E.unary_level E.term E.sum E.compared E.negated_level E.conjunction E.disjunction E.expr_level E.exprs_level E.phrase S.primary_at S.another_simple S.raise S.return S.assertion S.delete S.global S.import S.update_of S.assignment_of S.update_or_assignment S.simple S.simples S.line S.block S.block_after S.arm S.choice S.while S.for S.caught S.handler S.handled S.finished S.try S.parameter S.definition S.define S.compound S.chunk S.program R.piece read_chars chars
parse_24 = read_found One (codes "while a:\n  break\n") (t.while (t.name (codes "a")) (statements (t.break ∷ [])) ∷ []) refl

parse_25 : Parse One (codes "for a, b in c: d\n") (t.for (t.tuple (expressions ((t.name (codes "a")) ∷ (t.name (codes "b")) ∷ []))) (t.name (codes "c")) (statements (t.assign [] (t.name (codes "d")) ∷ [])) ∷ [])
unfolding reserved_marks delimiter operator numeral Q.escape Q.item Q.closes Q.body Q.quoted token_piece lexeme cut indented begin bracket step layout encode_utf8 code_of E.keyword_begins E.another E.argument E.attribute E.call E.slice_after E.item_or_slice E.trailer E.parenthesised E.list E.pair E.dict E.atom E.primary_parts E.primary E.power E.unary_level E.term E.sum E.compared E.negated_level E.conjunction E.disjunction E.expr_level E.exprs_level E.phrase S.primary_at S.another_simple S.raise S.return S.assertion S.delete S.global S.import S.update_of S.assignment_of S.update_or_assignment S.simple S.simples S.line S.block S.block_after S.arm S.choice S.while S.for S.caught S.handler S.handled S.finished S.try S.parameter S.definition S.define S.compound S.chunk S.program R.piece read_chars chars
parse_25 = read_found One (codes "for a, b in c: d\n") (t.for (t.tuple (expressions ((t.name (codes "a")) ∷ (t.name (codes "b")) ∷ []))) (t.name (codes "c")) (statements (t.assign [] (t.name (codes "d")) ∷ [])) ∷ []) refl

parse_26 : Parse One (codes "try: a\nexcept A as b: raise\n") (t.try (statements (t.assign [] (t.name (codes "a")) ∷ [])) (handlers (record { class = (Some (t.name (codes "A"))); caught = (Some (codes "b")); body = (statements (t.raise None ∷ [])) } ∷ [])) (statements ([])) (statements ([])) ∷ [])
unfolding reserved_marks delimiter operator numeral Q.escape Q.item Q.closes Q.body Q.quoted token_piece lexeme cut indented begin bracket step layout encode_utf8 code_of E.keyword_begins E.another E.argument E.attribute E.call E.slice_after E.item_or_slice E.trailer E.parenthesised E.list E.pair E.dict E.atom E.primary_parts E.primary E.power E.unary_level E.term E.sum E.compared E.negated_level E.conjunction E.disjunction E.expr_level E.exprs_level E.phrase S.primary_at S.another_simple S.raise S.return S.assertion S.delete S.global S.import S.update_of S.assignment_of S.update_or_assignment S.simple S.simples S.line S.block S.block_after S.arm S.choice S.while S.for S.caught S.handler S.handled S.finished S.try S.parameter S.definition S.define S.compound S.chunk S.program R.piece read_chars chars
parse_26 = read_found One (codes "try: a\nexcept A as b: raise\n") (t.try (statements (t.assign [] (t.name (codes "a")) ∷ [])) (handlers (record { class = (Some (t.name (codes "A"))); caught = (Some (codes "b")); body = (statements (t.raise None ∷ [])) } ∷ [])) (statements ([])) (statements ([])) ∷ []) refl

parse_27 : Parse One (codes "try: a\nfinally: b\n") (t.finally (statements (t.assign [] (t.name (codes "a")) ∷ [])) (statements (t.assign [] (t.name (codes "b")) ∷ [])) ∷ [])
unfolding reserved_marks delimiter operator numeral Q.escape Q.item Q.closes Q.body Q.quoted token_piece lexeme cut indented begin bracket step layout encode_utf8 code_of E.keyword_begins E.another E.argument E.attribute E.call E.slice_after E.item_or_slice E.trailer E.parenthesised E.list E.pair E.dict E.atom E.primary_parts E.primary E.power E.unary_level E.term E.sum E.compared E.negated_level E.conjunction E.disjunction E.expr_level E.exprs_level E.phrase S.primary_at S.another_simple S.raise S.return S.assertion S.delete S.global S.import S.update_of S.assignment_of S.update_or_assignment S.simple S.simples S.line S.block S.block_after S.arm S.choice S.while S.for S.caught S.handler S.handled S.finished S.try S.parameter S.definition S.define S.compound S.chunk S.program R.piece read_chars chars
parse_27 = read_found One (codes "try: a\nfinally: b\n") (t.finally (statements (t.assign [] (t.name (codes "a")) ∷ [])) (statements (t.assign [] (t.name (codes "b")) ∷ [])) ∷ []) refl

parse_28 : Parse One (codes "raise a\n") (t.raise (Some (t.name (codes "a"))) ∷ [])
unfolding reserved_marks delimiter operator numeral Q.escape Q.item Q.closes Q.body Q.quoted token_piece lexeme cut indented begin bracket step layout encode_utf8 code_of E.keyword_begins E.another E.argument E.attribute E.call E.slice_after E.item_or_slice E.trailer E.parenthesised E.list E.pair E.dict E.atom E.primary_parts E.primary E.power E.unary_level E.term E.sum E.compared E.negated_level E.conjunction E.disjunction E.expr_level E.exprs_level E.phrase S.primary_at S.another_simple S.raise S.return S.assertion S.delete S.global S.import S.update_of S.assignment_of S.update_or_assignment S.simple S.simples S.line S.block S.block_after S.arm S.choice S.while S.for S.caught S.handler S.handled S.finished S.try S.parameter S.definition S.define S.compound S.chunk S.program R.piece read_chars chars
parse_28 = read_found One (codes "raise a\n") (t.raise (Some (t.name (codes "a"))) ∷ []) refl

parse_29 : Parse One (codes "def f(a, b=1): return a\nf(1)\n") (t.define (codes "f") (((codes "a"), None) ∷ ((codes "b"), (Some (t.integer (pos 1)))) ∷ []) (statements (t.return (Some (t.name (codes "a"))) ∷ [])) (codes "def f(a, b=1): return a") ∷ t.assign [] (t.primary (t.name (codes "f")) (trailers (t.call (arguments (t.plain (t.integer (pos 1)) ∷ [])) ∷ []))) ∷ [])
unfolding reserved_marks delimiter operator numeral Q.escape Q.item Q.closes Q.body Q.quoted token_piece lexeme cut indented begin bracket step layout encode_utf8 code_of E.keyword_begins E.another E.argument E.attribute E.call E.slice_after E.item_or_slice E.trailer E.parenthesised E.list E.pair E.dict E.atom E.primary_parts E.primary E.power E.unary_level E.term E.sum E.compared E.negated_level E.conjunction E.disjunction E.expr_level E.exprs_level E.phrase S.primary_at S.another_simple S.raise S.return S.assertion S.delete S.global S.import S.update_of S.assignment_of S.update_or_assignment S.simple S.simples S.line S.block S.block_after S.arm S.choice S.while S.for S.caught S.handler S.handled S.finished S.try S.parameter S.definition S.define S.compound S.chunk S.program R.piece read_chars chars
parse_29 = read_found One (codes "def f(a, b=1): return a\nf(1)\n") (t.define (codes "f") (((codes "a"), None) ∷ ((codes "b"), (Some (t.integer (pos 1)))) ∷ []) (statements (t.return (Some (t.name (codes "a"))) ∷ [])) (codes "def f(a, b=1): return a") ∷ t.assign [] (t.primary (t.name (codes "f")) (trailers (t.call (arguments (t.plain (t.integer (pos 1)) ∷ [])) ∷ []))) ∷ []) refl

parse_30 : Parse One (codes "\\\nx\n") (t.assign [] (t.name (codes "x")) ∷ [])
unfolding reserved_marks delimiter operator numeral Q.escape Q.item Q.closes Q.body Q.quoted token_piece lexeme cut indented begin bracket step layout encode_utf8 code_of E.keyword_begins E.another E.argument E.attribute E.call E.slice_after E.item_or_slice E.trailer E.parenthesised E.list E.pair E.dict E.atom E.primary_parts E.primary E.power E.unary_level E.term E.sum E.compared E.negated_level E.conjunction E.disjunction E.expr_level E.exprs_level E.phrase S.primary_at S.another_simple S.raise S.return S.assertion S.delete S.global S.import S.update_of S.assignment_of S.update_or_assignment S.simple S.simples S.line S.block S.block_after S.arm S.choice S.while S.for S.caught S.handler S.handled S.finished S.try S.parameter S.definition S.define S.compound S.chunk S.program R.piece read_chars chars
parse_30 = read_found One (codes "\\\nx\n") (t.assign [] (t.name (codes "x")) ∷ []) refl

parse_31 : Parse One (120 ∷ 13 ∷ 10 ∷ 121 ∷ 13 ∷ []) (t.assign [] (t.name (codes "x")) ∷ t.assign [] (t.name (codes "y")) ∷ [])
unfolding reserved_marks delimiter operator numeral Q.escape Q.item Q.closes Q.body Q.quoted token_piece lexeme cut indented begin bracket step layout encode_utf8 code_of E.keyword_begins E.another E.argument E.attribute E.call E.slice_after E.item_or_slice E.trailer E.parenthesised E.list E.pair E.dict E.atom E.primary_parts E.primary E.power E.unary_level E.term E.sum E.compared E.negated_level E.conjunction E.disjunction E.expr_level E.exprs_level E.phrase S.primary_at S.another_simple S.raise S.return S.assertion S.delete S.global S.import S.update_of S.assignment_of S.update_or_assignment S.simple S.simples S.line S.block S.block_after S.arm S.choice S.while S.for S.caught S.handler S.handled S.finished S.try S.parameter S.definition S.define S.compound S.chunk S.program R.piece read_chars chars
parse_31 = read_found One (120 ∷ 13 ∷ 10 ∷ 121 ∷ 13 ∷ []) (t.assign [] (t.name (codes "x")) ∷ t.assign [] (t.name (codes "y")) ∷ []) refl

parse_32 : Parse One (codes "# c\n") ([])
unfolding reserved_marks delimiter operator numeral Q.escape Q.item Q.closes Q.body Q.quoted token_piece lexeme cut indented begin bracket step layout encode_utf8 code_of E.keyword_begins E.another E.argument E.attribute E.call E.slice_after E.item_or_slice E.trailer E.parenthesised E.list E.pair E.dict E.atom E.primary_parts E.primary E.power E.unary_level E.term E.sum E.compared E.negated_level E.conjunction E.disjunction E.expr_level E.exprs_level E.phrase S.primary_at S.another_simple S.raise S.return S.assertion S.delete S.global S.import S.update_of S.assignment_of S.update_or_assignment S.simple S.simples S.line S.block S.block_after S.arm S.choice S.while S.for S.caught S.handler S.handled S.finished S.try S.parameter S.definition S.define S.compound S.chunk S.program R.piece read_chars chars
parse_32 = read_found One (codes "# c\n") ([]) refl

parse_33 : Line One (codes "x\ny = = 1\n") 2
unfolding reserved_marks delimiter operator numeral Q.escape Q.item Q.closes Q.body Q.quoted token_piece lexeme cut indented begin bracket step layout encode_utf8 code_of E.keyword_begins E.another E.argument E.attribute E.call E.slice_after E.item_or_slice E.trailer E.parenthesised E.list E.pair E.dict E.atom E.primary_parts E.primary E.power E.unary_level E.term E.sum E.compared E.negated_level E.conjunction E.disjunction E.expr_level E.exprs_level E.phrase S.primary_at S.another_simple S.raise S.return S.assertion S.delete S.global S.import S.update_of S.assignment_of S.update_or_assignment S.simple S.simples S.line S.block S.block_after S.arm S.choice S.while S.for S.caught S.handler S.handled S.finished S.try S.parameter S.definition S.define S.compound S.chunk S.program R.piece read_chars chars
parse_33 = line_found One (codes "x\ny = = 1\n") 2 refl

parse_34 : Line One (codes "# c\n\nx = = 1\n") 3
unfolding reserved_marks delimiter operator numeral Q.escape Q.item Q.closes Q.body Q.quoted token_piece lexeme cut indented begin bracket step layout encode_utf8 code_of E.keyword_begins E.another E.argument E.attribute E.call E.slice_after E.item_or_slice E.trailer E.parenthesised E.list E.pair E.dict E.atom E.primary_parts E.primary E.power E.unary_level E.term E.sum E.compared E.negated_level E.conjunction E.disjunction E.expr_level E.exprs_level E.phrase S.primary_at S.another_simple S.raise S.return S.assertion S.delete S.global S.import S.update_of S.assignment_of S.update_or_assignment S.simple S.simples S.line S.block S.block_after S.arm S.choice S.while S.for S.caught S.handler S.handled S.finished S.try S.parameter S.definition S.define S.compound S.chunk S.program R.piece read_chars chars
parse_34 = line_found One (codes "# c\n\nx = = 1\n") 3 refl

parse_35 : Line One (codes "if a:\n  b\n\n  c = = d\ne\n") 1
unfolding reserved_marks delimiter operator numeral Q.escape Q.item Q.closes Q.body Q.quoted token_piece lexeme cut indented begin bracket step layout encode_utf8 code_of E.keyword_begins E.another E.argument E.attribute E.call E.slice_after E.item_or_slice E.trailer E.parenthesised E.list E.pair E.dict E.atom E.primary_parts E.primary E.power E.unary_level E.term E.sum E.compared E.negated_level E.conjunction E.disjunction E.expr_level E.exprs_level E.phrase S.primary_at S.another_simple S.raise S.return S.assertion S.delete S.global S.import S.update_of S.assignment_of S.update_or_assignment S.simple S.simples S.line S.block S.block_after S.arm S.choice S.while S.for S.caught S.handler S.handled S.finished S.try S.parameter S.definition S.define S.compound S.chunk S.program R.piece read_chars chars
parse_35 = line_found One (codes "if a:\n  b\n\n  c = = d\ne\n") 1 refl

parse_36 : Line One (codes "a\nif b: c\nelif d: = e\n") 2
unfolding reserved_marks delimiter operator numeral Q.escape Q.item Q.closes Q.body Q.quoted token_piece lexeme cut indented begin bracket step layout encode_utf8 code_of E.keyword_begins E.another E.argument E.attribute E.call E.slice_after E.item_or_slice E.trailer E.parenthesised E.list E.pair E.dict E.atom E.primary_parts E.primary E.power E.unary_level E.term E.sum E.compared E.negated_level E.conjunction E.disjunction E.expr_level E.exprs_level E.phrase S.primary_at S.another_simple S.raise S.return S.assertion S.delete S.global S.import S.update_of S.assignment_of S.update_or_assignment S.simple S.simples S.line S.block S.block_after S.arm S.choice S.while S.for S.caught S.handler S.handled S.finished S.try S.parameter S.definition S.define S.compound S.chunk S.program R.piece read_chars chars
parse_36 = line_found One (codes "a\nif b: c\nelif d: = e\n") 2 refl

parse_37 : Line One (codes "if a: b\nc = = d\nelse: e\n") 2
unfolding reserved_marks delimiter operator numeral Q.escape Q.item Q.closes Q.body Q.quoted token_piece lexeme cut indented begin bracket step layout encode_utf8 code_of E.keyword_begins E.another E.argument E.attribute E.call E.slice_after E.item_or_slice E.trailer E.parenthesised E.list E.pair E.dict E.atom E.primary_parts E.primary E.power E.unary_level E.term E.sum E.compared E.negated_level E.conjunction E.disjunction E.expr_level E.exprs_level E.phrase S.primary_at S.another_simple S.raise S.return S.assertion S.delete S.global S.import S.update_of S.assignment_of S.update_or_assignment S.simple S.simples S.line S.block S.block_after S.arm S.choice S.while S.for S.caught S.handler S.handled S.finished S.try S.parameter S.definition S.define S.compound S.chunk S.program R.piece read_chars chars
parse_37 = line_found One (codes "if a: b\nc = = d\nelse: e\n") 2 refl

parse_38 : Line One (codes "a\ntry: b\nexcept c: d\nelse: = e\n") 2
unfolding reserved_marks delimiter operator numeral Q.escape Q.item Q.closes Q.body Q.quoted token_piece lexeme cut indented begin bracket step layout encode_utf8 code_of E.keyword_begins E.another E.argument E.attribute E.call E.slice_after E.item_or_slice E.trailer E.parenthesised E.list E.pair E.dict E.atom E.primary_parts E.primary E.power E.unary_level E.term E.sum E.compared E.negated_level E.conjunction E.disjunction E.expr_level E.exprs_level E.phrase S.primary_at S.another_simple S.raise S.return S.assertion S.delete S.global S.import S.update_of S.assignment_of S.update_or_assignment S.simple S.simples S.line S.block S.block_after S.arm S.choice S.while S.for S.caught S.handler S.handled S.finished S.try S.parameter S.definition S.define S.compound S.chunk S.program R.piece read_chars chars
parse_38 = line_found One (codes "a\ntry: b\nexcept c: d\nelse: = e\n") 2 refl

parse_39 : Line One (codes "a = (1,\n 2 3)\nb\n") 1
unfolding reserved_marks delimiter operator numeral Q.escape Q.item Q.closes Q.body Q.quoted token_piece lexeme cut indented begin bracket step layout encode_utf8 code_of E.keyword_begins E.another E.argument E.attribute E.call E.slice_after E.item_or_slice E.trailer E.parenthesised E.list E.pair E.dict E.atom E.primary_parts E.primary E.power E.unary_level E.term E.sum E.compared E.negated_level E.conjunction E.disjunction E.expr_level E.exprs_level E.phrase S.primary_at S.another_simple S.raise S.return S.assertion S.delete S.global S.import S.update_of S.assignment_of S.update_or_assignment S.simple S.simples S.line S.block S.block_after S.arm S.choice S.while S.for S.caught S.handler S.handled S.finished S.try S.parameter S.definition S.define S.compound S.chunk S.program R.piece read_chars chars
parse_39 = line_found One (codes "a = (1,\n 2 3)\nb\n") 1 refl

parse_40 : Line One (codes "'''a\n\n'''\nb = = c\n") 4
unfolding reserved_marks delimiter operator numeral Q.escape Q.item Q.closes Q.body Q.quoted token_piece lexeme cut indented begin bracket step layout encode_utf8 code_of E.keyword_begins E.another E.argument E.attribute E.call E.slice_after E.item_or_slice E.trailer E.parenthesised E.list E.pair E.dict E.atom E.primary_parts E.primary E.power E.unary_level E.term E.sum E.compared E.negated_level E.conjunction E.disjunction E.expr_level E.exprs_level E.phrase S.primary_at S.another_simple S.raise S.return S.assertion S.delete S.global S.import S.update_of S.assignment_of S.update_or_assignment S.simple S.simples S.line S.block S.block_after S.arm S.choice S.while S.for S.caught S.handler S.handled S.finished S.try S.parameter S.definition S.define S.compound S.chunk S.program R.piece read_chars chars
parse_40 = line_found One (codes "'''a\n\n'''\nb = = c\n") 4 refl

parse_41 : Line One (codes "a = \\\n 1\nb = = c\n") 3
unfolding reserved_marks delimiter operator numeral Q.escape Q.item Q.closes Q.body Q.quoted token_piece lexeme cut indented begin bracket step layout encode_utf8 code_of E.keyword_begins E.another E.argument E.attribute E.call E.slice_after E.item_or_slice E.trailer E.parenthesised E.list E.pair E.dict E.atom E.primary_parts E.primary E.power E.unary_level E.term E.sum E.compared E.negated_level E.conjunction E.disjunction E.expr_level E.exprs_level E.phrase S.primary_at S.another_simple S.raise S.return S.assertion S.delete S.global S.import S.update_of S.assignment_of S.update_or_assignment S.simple S.simples S.line S.block S.block_after S.arm S.choice S.while S.for S.caught S.handler S.handled S.finished S.try S.parameter S.definition S.define S.compound S.chunk S.program R.piece read_chars chars
parse_41 = line_found One (codes "a = \\\n 1\nb = = c\n") 3 refl

parse_42 : Line One (codes "\\\nx = = 1\n") 2
unfolding reserved_marks delimiter operator numeral Q.escape Q.item Q.closes Q.body Q.quoted token_piece lexeme cut indented begin bracket step layout encode_utf8 code_of E.keyword_begins E.another E.argument E.attribute E.call E.slice_after E.item_or_slice E.trailer E.parenthesised E.list E.pair E.dict E.atom E.primary_parts E.primary E.power E.unary_level E.term E.sum E.compared E.negated_level E.conjunction E.disjunction E.expr_level E.exprs_level E.phrase S.primary_at S.another_simple S.raise S.return S.assertion S.delete S.global S.import S.update_of S.assignment_of S.update_or_assignment S.simple S.simples S.line S.block S.block_after S.arm S.choice S.while S.for S.caught S.handler S.handled S.finished S.try S.parameter S.definition S.define S.compound S.chunk S.program R.piece read_chars chars
parse_42 = line_found One (codes "\\\nx = = 1\n") 2 refl

parse_43 : Line One (codes "a\n  b\n") 1
unfolding reserved_marks delimiter operator numeral Q.escape Q.item Q.closes Q.body Q.quoted token_piece lexeme cut indented begin bracket step layout encode_utf8 code_of E.keyword_begins E.another E.argument E.attribute E.call E.slice_after E.item_or_slice E.trailer E.parenthesised E.list E.pair E.dict E.atom E.primary_parts E.primary E.power E.unary_level E.term E.sum E.compared E.negated_level E.conjunction E.disjunction E.expr_level E.exprs_level E.phrase S.primary_at S.another_simple S.raise S.return S.assertion S.delete S.global S.import S.update_of S.assignment_of S.update_or_assignment S.simple S.simples S.line S.block S.block_after S.arm S.choice S.while S.for S.caught S.handler S.handled S.finished S.try S.parameter S.definition S.define S.compound S.chunk S.program R.piece read_chars chars
parse_43 = line_found One (codes "a\n  b\n") 1 refl

parse_44 : Line One (codes "\n  a\n") 2
unfolding reserved_marks delimiter operator numeral Q.escape Q.item Q.closes Q.body Q.quoted token_piece lexeme cut indented begin bracket step layout encode_utf8 code_of E.keyword_begins E.another E.argument E.attribute E.call E.slice_after E.item_or_slice E.trailer E.parenthesised E.list E.pair E.dict E.atom E.primary_parts E.primary E.power E.unary_level E.term E.sum E.compared E.negated_level E.conjunction E.disjunction E.expr_level E.exprs_level E.phrase S.primary_at S.another_simple S.raise S.return S.assertion S.delete S.global S.import S.update_of S.assignment_of S.update_or_assignment S.simple S.simples S.line S.block S.block_after S.arm S.choice S.while S.for S.caught S.handler S.handled S.finished S.try S.parameter S.definition S.define S.compound S.chunk S.program R.piece read_chars chars
parse_44 = line_found One (codes "\n  a\n") 2 refl

parse_45 : Line One (codes "a;\nb;;\n") 2
unfolding reserved_marks delimiter operator numeral Q.escape Q.item Q.closes Q.body Q.quoted token_piece lexeme cut indented begin bracket step layout encode_utf8 code_of E.keyword_begins E.another E.argument E.attribute E.call E.slice_after E.item_or_slice E.trailer E.parenthesised E.list E.pair E.dict E.atom E.primary_parts E.primary E.power E.unary_level E.term E.sum E.compared E.negated_level E.conjunction E.disjunction E.expr_level E.exprs_level E.phrase S.primary_at S.another_simple S.raise S.return S.assertion S.delete S.global S.import S.update_of S.assignment_of S.update_or_assignment S.simple S.simples S.line S.block S.block_after S.arm S.choice S.while S.for S.caught S.handler S.handled S.finished S.try S.parameter S.definition S.define S.compound S.chunk S.program R.piece read_chars chars
parse_45 = line_found One (codes "a;\nb;;\n") 2 refl

parse_46 : Line One (97 ∷ 13 ∷ 98 ∷ 13 ∷ 99 ∷ 32 ∷ 61 ∷ 32 ∷ 61 ∷ 32 ∷ 100 ∷ 13 ∷ []) 3
unfolding reserved_marks delimiter operator numeral Q.escape Q.item Q.closes Q.body Q.quoted token_piece lexeme cut indented begin bracket step layout encode_utf8 code_of E.keyword_begins E.another E.argument E.attribute E.call E.slice_after E.item_or_slice E.trailer E.parenthesised E.list E.pair E.dict E.atom E.primary_parts E.primary E.power E.unary_level E.term E.sum E.compared E.negated_level E.conjunction E.disjunction E.expr_level E.exprs_level E.phrase S.primary_at S.another_simple S.raise S.return S.assertion S.delete S.global S.import S.update_of S.assignment_of S.update_or_assignment S.simple S.simples S.line S.block S.block_after S.arm S.choice S.while S.for S.caught S.handler S.handled S.finished S.try S.parameter S.definition S.define S.compound S.chunk S.program R.piece read_chars chars
parse_46 = line_found One (97 ∷ 13 ∷ 98 ∷ 13 ∷ 99 ∷ 32 ∷ 61 ∷ 32 ∷ 61 ∷ 32 ∷ 100 ∷ 13 ∷ []) 3 refl

parse_47 : Line One (codes "def f(): pass\ndef g(): break\n") 2
unfolding reserved_marks delimiter operator numeral Q.escape Q.item Q.closes Q.body Q.quoted token_piece lexeme cut indented begin bracket step layout encode_utf8 code_of E.keyword_begins E.another E.argument E.attribute E.call E.slice_after E.item_or_slice E.trailer E.parenthesised E.list E.pair E.dict E.atom E.primary_parts E.primary E.power E.unary_level E.term E.sum E.compared E.negated_level E.conjunction E.disjunction E.expr_level E.exprs_level E.phrase S.primary_at S.another_simple S.raise S.return S.assertion S.delete S.global S.import S.update_of S.assignment_of S.update_or_assignment S.simple S.simples S.line S.block S.block_after S.arm S.choice S.while S.for S.caught S.handler S.handled S.finished S.try S.parameter S.definition S.define S.compound S.chunk S.program R.piece read_chars chars
parse_47 = line_found One (codes "def f(): pass\ndef g(): break\n") 2 refl

parse_48 : Line One (codes "while a: b\n\nbreak\n") 3
unfolding reserved_marks delimiter operator numeral Q.escape Q.item Q.closes Q.body Q.quoted token_piece lexeme cut indented begin bracket step layout encode_utf8 code_of E.keyword_begins E.another E.argument E.attribute E.call E.slice_after E.item_or_slice E.trailer E.parenthesised E.list E.pair E.dict E.atom E.primary_parts E.primary E.power E.unary_level E.term E.sum E.compared E.negated_level E.conjunction E.disjunction E.expr_level E.exprs_level E.phrase S.primary_at S.another_simple S.raise S.return S.assertion S.delete S.global S.import S.update_of S.assignment_of S.update_or_assignment S.simple S.simples S.line S.block S.block_after S.arm S.choice S.while S.for S.caught S.handler S.handled S.finished S.try S.parameter S.definition S.define S.compound S.chunk S.program R.piece read_chars chars
parse_48 = line_found One (codes "while a: b\n\nbreak\n") 3 refl

parse_49 : Line One (codes "if a:\n  if b:\n    c d\n  e\nf\n") 1
unfolding reserved_marks delimiter operator numeral Q.escape Q.item Q.closes Q.body Q.quoted token_piece lexeme cut indented begin bracket step layout encode_utf8 code_of E.keyword_begins E.another E.argument E.attribute E.call E.slice_after E.item_or_slice E.trailer E.parenthesised E.list E.pair E.dict E.atom E.primary_parts E.primary E.power E.unary_level E.term E.sum E.compared E.negated_level E.conjunction E.disjunction E.expr_level E.exprs_level E.phrase S.primary_at S.another_simple S.raise S.return S.assertion S.delete S.global S.import S.update_of S.assignment_of S.update_or_assignment S.simple S.simples S.line S.block S.block_after S.arm S.choice S.while S.for S.caught S.handler S.handled S.finished S.try S.parameter S.definition S.define S.compound S.chunk S.program R.piece read_chars chars
parse_49 = line_found One (codes "if a:\n  if b:\n    c d\n  e\nf\n") 1 refl

parse_50 : Line One (codes "a\n\n# b\n\nc d\n") 5
unfolding reserved_marks delimiter operator numeral Q.escape Q.item Q.closes Q.body Q.quoted token_piece lexeme cut indented begin bracket step layout encode_utf8 code_of E.keyword_begins E.another E.argument E.attribute E.call E.slice_after E.item_or_slice E.trailer E.parenthesised E.list E.pair E.dict E.atom E.primary_parts E.primary E.power E.unary_level E.term E.sum E.compared E.negated_level E.conjunction E.disjunction E.expr_level E.exprs_level E.phrase S.primary_at S.another_simple S.raise S.return S.assertion S.delete S.global S.import S.update_of S.assignment_of S.update_or_assignment S.simple S.simples S.line S.block S.block_after S.arm S.choice S.while S.for S.caught S.handler S.handled S.finished S.try S.parameter S.definition S.define S.compound S.chunk S.program R.piece read_chars chars
parse_50 = line_found One (codes "a\n\n# b\n\nc d\n") 5 refl

parse_51 : Line One (codes "a\nf(b=1, b=2)\n") 2
unfolding reserved_marks delimiter operator numeral Q.escape Q.item Q.closes Q.body Q.quoted token_piece lexeme cut indented begin bracket step layout encode_utf8 code_of E.keyword_begins E.another E.argument E.attribute E.call E.slice_after E.item_or_slice E.trailer E.parenthesised E.list E.pair E.dict E.atom E.primary_parts E.primary E.power E.unary_level E.term E.sum E.compared E.negated_level E.conjunction E.disjunction E.expr_level E.exprs_level E.phrase S.primary_at S.another_simple S.raise S.return S.assertion S.delete S.global S.import S.update_of S.assignment_of S.update_or_assignment S.simple S.simples S.line S.block S.block_after S.arm S.choice S.while S.for S.caught S.handler S.handled S.finished S.try S.parameter S.definition S.define S.compound S.chunk S.program R.piece read_chars chars
parse_51 = line_found One (codes "a\nf(b=1, b=2)\n") 2 refl

parse_52 : Line One (codes "a\ndef f(a, a): b\n") 2
unfolding reserved_marks delimiter operator numeral Q.escape Q.item Q.closes Q.body Q.quoted token_piece lexeme cut indented begin bracket step layout encode_utf8 code_of E.keyword_begins E.another E.argument E.attribute E.call E.slice_after E.item_or_slice E.trailer E.parenthesised E.list E.pair E.dict E.atom E.primary_parts E.primary E.power E.unary_level E.term E.sum E.compared E.negated_level E.conjunction E.disjunction E.expr_level E.exprs_level E.phrase S.primary_at S.another_simple S.raise S.return S.assertion S.delete S.global S.import S.update_of S.assignment_of S.update_or_assignment S.simple S.simples S.line S.block S.block_after S.arm S.choice S.while S.for S.caught S.handler S.handled S.finished S.try S.parameter S.definition S.define S.compound S.chunk S.program R.piece read_chars chars
parse_52 = line_found One (codes "a\ndef f(a, a): b\n") 2 refl

parse_53 : Line One (codes "a\ntry: b\nexcept: c\nexcept d: e\n") 2
unfolding reserved_marks delimiter operator numeral Q.escape Q.item Q.closes Q.body Q.quoted token_piece lexeme cut indented begin bracket step layout encode_utf8 code_of E.keyword_begins E.another E.argument E.attribute E.call E.slice_after E.item_or_slice E.trailer E.parenthesised E.list E.pair E.dict E.atom E.primary_parts E.primary E.power E.unary_level E.term E.sum E.compared E.negated_level E.conjunction E.disjunction E.expr_level E.exprs_level E.phrase S.primary_at S.another_simple S.raise S.return S.assertion S.delete S.global S.import S.update_of S.assignment_of S.update_or_assignment S.simple S.simples S.line S.block S.block_after S.arm S.choice S.while S.for S.caught S.handler S.handled S.finished S.try S.parameter S.definition S.define S.compound S.chunk S.program R.piece read_chars chars
parse_53 = line_found One (codes "a\ntry: b\nexcept: c\nexcept d: e\n") 2 refl

parse_54 : Line One (codes "a = = b\nc\n'd\n") 3
unfolding reserved_marks delimiter operator numeral Q.escape Q.item Q.closes Q.body Q.quoted token_piece lexeme cut indented begin bracket step layout encode_utf8 code_of E.keyword_begins E.another E.argument E.attribute E.call E.slice_after E.item_or_slice E.trailer E.parenthesised E.list E.pair E.dict E.atom E.primary_parts E.primary E.power E.unary_level E.term E.sum E.compared E.negated_level E.conjunction E.disjunction E.expr_level E.exprs_level E.phrase S.primary_at S.another_simple S.raise S.return S.assertion S.delete S.global S.import S.update_of S.assignment_of S.update_or_assignment S.simple S.simples S.line S.block S.block_after S.arm S.choice S.while S.for S.caught S.handler S.handled S.finished S.try S.parameter S.definition S.define S.compound S.chunk S.program R.piece read_chars chars
parse_54 = line_found One (codes "a = = b\nc\n'd\n") 3 refl

parse_55 : Line One (codes "a b\nif c:\n    d\n  e\n") 4
unfolding reserved_marks delimiter operator numeral Q.escape Q.item Q.closes Q.body Q.quoted token_piece lexeme cut indented begin bracket step layout encode_utf8 code_of E.keyword_begins E.another E.argument E.attribute E.call E.slice_after E.item_or_slice E.trailer E.parenthesised E.list E.pair E.dict E.atom E.primary_parts E.primary E.power E.unary_level E.term E.sum E.compared E.negated_level E.conjunction E.disjunction E.expr_level E.exprs_level E.phrase S.primary_at S.another_simple S.raise S.return S.assertion S.delete S.global S.import S.update_of S.assignment_of S.update_or_assignment S.simple S.simples S.line S.block S.block_after S.arm S.choice S.while S.for S.caught S.handler S.handled S.finished S.try S.parameter S.definition S.define S.compound S.chunk S.program R.piece read_chars chars
parse_55 = line_found One (codes "a b\nif c:\n    d\n  e\n") 4 refl

parse_56 : Line One (codes "a b\n]\n") 2
unfolding reserved_marks delimiter operator numeral Q.escape Q.item Q.closes Q.body Q.quoted token_piece lexeme cut indented begin bracket step layout encode_utf8 code_of E.keyword_begins E.another E.argument E.attribute E.call E.slice_after E.item_or_slice E.trailer E.parenthesised E.list E.pair E.dict E.atom E.primary_parts E.primary E.power E.unary_level E.term E.sum E.compared E.negated_level E.conjunction E.disjunction E.expr_level E.exprs_level E.phrase S.primary_at S.another_simple S.raise S.return S.assertion S.delete S.global S.import S.update_of S.assignment_of S.update_or_assignment S.simple S.simples S.line S.block S.block_after S.arm S.choice S.while S.for S.caught S.handler S.handled S.finished S.try S.parameter S.definition S.define S.compound S.chunk S.program R.piece read_chars chars
parse_56 = line_found One (codes "a b\n]\n") 2 refl

parse_57 : Line One (codes "a b\n'\\x4'\n") 2
unfolding reserved_marks delimiter operator numeral Q.escape Q.item Q.closes Q.body Q.quoted token_piece lexeme cut indented begin bracket step layout encode_utf8 code_of E.keyword_begins E.another E.argument E.attribute E.call E.slice_after E.item_or_slice E.trailer E.parenthesised E.list E.pair E.dict E.atom E.primary_parts E.primary E.power E.unary_level E.term E.sum E.compared E.negated_level E.conjunction E.disjunction E.expr_level E.exprs_level E.phrase S.primary_at S.another_simple S.raise S.return S.assertion S.delete S.global S.import S.update_of S.assignment_of S.update_or_assignment S.simple S.simples S.line S.block S.block_after S.arm S.choice S.while S.for S.caught S.handler S.handled S.finished S.try S.parameter S.definition S.define S.compound S.chunk S.program R.piece read_chars chars
parse_57 = line_found One (codes "a b\n'\\x4'\n") 2 refl

parse_58 : Line One (codes "def f(): break\n1a\n") 2
unfolding reserved_marks delimiter operator numeral Q.escape Q.item Q.closes Q.body Q.quoted token_piece lexeme cut indented begin bracket step layout encode_utf8 code_of E.keyword_begins E.another E.argument E.attribute E.call E.slice_after E.item_or_slice E.trailer E.parenthesised E.list E.pair E.dict E.atom E.primary_parts E.primary E.power E.unary_level E.term E.sum E.compared E.negated_level E.conjunction E.disjunction E.expr_level E.exprs_level E.phrase S.primary_at S.another_simple S.raise S.return S.assertion S.delete S.global S.import S.update_of S.assignment_of S.update_or_assignment S.simple S.simples S.line S.block S.block_after S.arm S.choice S.while S.for S.caught S.handler S.handled S.finished S.try S.parameter S.definition S.define S.compound S.chunk S.program R.piece read_chars chars
parse_58 = line_found One (codes "def f(): break\n1a\n") 2 refl

parse_59 : Line One (codes "(a\n b\n  $") 3
unfolding reserved_marks delimiter operator numeral Q.escape Q.item Q.closes Q.body Q.quoted token_piece lexeme cut indented begin bracket step layout encode_utf8 code_of E.keyword_begins E.another E.argument E.attribute E.call E.slice_after E.item_or_slice E.trailer E.parenthesised E.list E.pair E.dict E.atom E.primary_parts E.primary E.power E.unary_level E.term E.sum E.compared E.negated_level E.conjunction E.disjunction E.expr_level E.exprs_level E.phrase S.primary_at S.another_simple S.raise S.return S.assertion S.delete S.global S.import S.update_of S.assignment_of S.update_or_assignment S.simple S.simples S.line S.block S.block_after S.arm S.choice S.while S.for S.caught S.handler S.handled S.finished S.try S.parameter S.definition S.define S.compound S.chunk S.program R.piece read_chars chars
parse_59 = line_found One (codes "(a\n b\n  $") 3 refl

parse_60 : Line One (codes "a\n(b) += 1\n") 2
unfolding reserved_marks delimiter operator numeral Q.escape Q.item Q.closes Q.body Q.quoted token_piece lexeme cut indented begin bracket step layout encode_utf8 code_of E.keyword_begins E.another E.argument E.attribute E.call E.slice_after E.item_or_slice E.trailer E.parenthesised E.list E.pair E.dict E.atom E.primary_parts E.primary E.power E.unary_level E.term E.sum E.compared E.negated_level E.conjunction E.disjunction E.expr_level E.exprs_level E.phrase S.primary_at S.another_simple S.raise S.return S.assertion S.delete S.global S.import S.update_of S.assignment_of S.update_or_assignment S.simple S.simples S.line S.block S.block_after S.arm S.choice S.while S.for S.caught S.handler S.handled S.finished S.try S.parameter S.definition S.define S.compound S.chunk S.program R.piece read_chars chars
parse_60 = line_found One (codes "a\n(b) += 1\n") 2 refl

parse_61 : Line One (codes "def f():\n  def g(): a\nb\n") 1
unfolding reserved_marks delimiter operator numeral Q.escape Q.item Q.closes Q.body Q.quoted token_piece lexeme cut indented begin bracket step layout encode_utf8 code_of E.keyword_begins E.another E.argument E.attribute E.call E.slice_after E.item_or_slice E.trailer E.parenthesised E.list E.pair E.dict E.atom E.primary_parts E.primary E.power E.unary_level E.term E.sum E.compared E.negated_level E.conjunction E.disjunction E.expr_level E.exprs_level E.phrase S.primary_at S.another_simple S.raise S.return S.assertion S.delete S.global S.import S.update_of S.assignment_of S.update_or_assignment S.simple S.simples S.line S.block S.block_after S.arm S.choice S.while S.for S.caught S.handler S.handled S.finished S.try S.parameter S.definition S.define S.compound S.chunk S.program R.piece read_chars chars
parse_61 = line_found One (codes "def f():\n  def g(): a\nb\n") 1 refl

parse_62 : Line One (codes "a\n\nclass b: c\n") 3
unfolding reserved_marks delimiter operator numeral Q.escape Q.item Q.closes Q.body Q.quoted token_piece lexeme cut indented begin bracket step layout encode_utf8 code_of E.keyword_begins E.another E.argument E.attribute E.call E.slice_after E.item_or_slice E.trailer E.parenthesised E.list E.pair E.dict E.atom E.primary_parts E.primary E.power E.unary_level E.term E.sum E.compared E.negated_level E.conjunction E.disjunction E.expr_level E.exprs_level E.phrase S.primary_at S.another_simple S.raise S.return S.assertion S.delete S.global S.import S.update_of S.assignment_of S.update_or_assignment S.simple S.simples S.line S.block S.block_after S.arm S.choice S.while S.for S.caught S.handler S.handled S.finished S.try S.parameter S.definition S.define S.compound S.chunk S.program R.piece read_chars chars
parse_62 = line_found One (codes "a\n\nclass b: c\n") 3 refl

parse_63 : Line One (codes "a\n\\\n\\\nlambda: b\n") 4
unfolding reserved_marks delimiter operator numeral Q.escape Q.item Q.closes Q.body Q.quoted token_piece lexeme cut indented begin bracket step layout encode_utf8 code_of E.keyword_begins E.another E.argument E.attribute E.call E.slice_after E.item_or_slice E.trailer E.parenthesised E.list E.pair E.dict E.atom E.primary_parts E.primary E.power E.unary_level E.term E.sum E.compared E.negated_level E.conjunction E.disjunction E.expr_level E.exprs_level E.phrase S.primary_at S.another_simple S.raise S.return S.assertion S.delete S.global S.import S.update_of S.assignment_of S.update_or_assignment S.simple S.simples S.line S.block S.block_after S.arm S.choice S.while S.for S.caught S.handler S.handled S.finished S.try S.parameter S.definition S.define S.compound S.chunk S.program R.piece read_chars chars
parse_63 = line_found One (codes "a\n\\\n\\\nlambda: b\n") 4 refl

parse_64 : Line One (codes "a\n\nwhile b: c\nelse: d\n") 3
unfolding reserved_marks delimiter operator numeral Q.escape Q.item Q.closes Q.body Q.quoted token_piece lexeme cut indented begin bracket step layout encode_utf8 code_of E.keyword_begins E.another E.argument E.attribute E.call E.slice_after E.item_or_slice E.trailer E.parenthesised E.list E.pair E.dict E.atom E.primary_parts E.primary E.power E.unary_level E.term E.sum E.compared E.negated_level E.conjunction E.disjunction E.expr_level E.exprs_level E.phrase S.primary_at S.another_simple S.raise S.return S.assertion S.delete S.global S.import S.update_of S.assignment_of S.update_or_assignment S.simple S.simples S.line S.block S.block_after S.arm S.choice S.while S.for S.caught S.handler S.handled S.finished S.try S.parameter S.definition S.define S.compound S.chunk S.program R.piece read_chars chars
parse_64 = line_found One (codes "a\n\nwhile b: c\nelse: d\n") 3 refl

parse_65 : ParseDef One (codes "def f(): pass") (record { title = (codes "f"); parameters = ([]); body = (statements (t.pass ∷ [])) })
unfolding reserved_marks delimiter operator numeral Q.escape Q.item Q.closes Q.body Q.quoted token_piece lexeme cut indented begin bracket step layout encode_utf8 code_of E.keyword_begins E.another E.argument E.attribute E.call E.slice_after E.item_or_slice E.trailer E.parenthesised E.list E.pair E.dict E.atom E.primary_parts E.primary E.power E.unary_level E.term E.sum E.compared E.negated_level E.conjunction E.disjunction E.expr_level E.exprs_level E.phrase S.primary_at S.another_simple S.raise S.return S.assertion S.delete S.global S.import S.update_of S.assignment_of S.update_or_assignment S.simple S.simples S.line S.block S.block_after S.arm S.choice S.while S.for S.caught S.handler S.handled S.finished S.try S.parameter S.definition S.define S.compound S.chunk S.program R.piece read_chars chars
parse_65 = read_found One (codes "def f(): pass") (t.define (codes "f") ([]) (statements (t.pass ∷ [])) (codes "def f(): pass") ∷ []) refl

parse_66 : ParseDef One (codes "def f(): return") (record { title = (codes "f"); parameters = ([]); body = (statements (t.return None ∷ [])) })
unfolding reserved_marks delimiter operator numeral Q.escape Q.item Q.closes Q.body Q.quoted token_piece lexeme cut indented begin bracket step layout encode_utf8 code_of E.keyword_begins E.another E.argument E.attribute E.call E.slice_after E.item_or_slice E.trailer E.parenthesised E.list E.pair E.dict E.atom E.primary_parts E.primary E.power E.unary_level E.term E.sum E.compared E.negated_level E.conjunction E.disjunction E.expr_level E.exprs_level E.phrase S.primary_at S.another_simple S.raise S.return S.assertion S.delete S.global S.import S.update_of S.assignment_of S.update_or_assignment S.simple S.simples S.line S.block S.block_after S.arm S.choice S.while S.for S.caught S.handler S.handled S.finished S.try S.parameter S.definition S.define S.compound S.chunk S.program R.piece read_chars chars
parse_66 = read_found One (codes "def f(): return") (t.define (codes "f") ([]) (statements (t.return None ∷ [])) (codes "def f(): return") ∷ []) refl

parse_67 : ParseDef One (codes "def f(a, b=1): return a, b") (record { title = (codes "f"); parameters = (((codes "a"), None) ∷ ((codes "b"), (Some (t.integer (pos 1)))) ∷ []); body = (statements (t.return (Some (t.tuple (expressions ((t.name (codes "a")) ∷ (t.name (codes "b")) ∷ [])))) ∷ [])) })
unfolding reserved_marks delimiter operator numeral Q.escape Q.item Q.closes Q.body Q.quoted token_piece lexeme cut indented begin bracket step layout encode_utf8 code_of E.keyword_begins E.another E.argument E.attribute E.call E.slice_after E.item_or_slice E.trailer E.parenthesised E.list E.pair E.dict E.atom E.primary_parts E.primary E.power E.unary_level E.term E.sum E.compared E.negated_level E.conjunction E.disjunction E.expr_level E.exprs_level E.phrase S.primary_at S.another_simple S.raise S.return S.assertion S.delete S.global S.import S.update_of S.assignment_of S.update_or_assignment S.simple S.simples S.line S.block S.block_after S.arm S.choice S.while S.for S.caught S.handler S.handled S.finished S.try S.parameter S.definition S.define S.compound S.chunk S.program R.piece read_chars chars
parse_67 = read_found One (codes "def f(a, b=1): return a, b") (t.define (codes "f") (((codes "a"), None) ∷ ((codes "b"), (Some (t.integer (pos 1)))) ∷ []) (statements (t.return (Some (t.tuple (expressions ((t.name (codes "a")) ∷ (t.name (codes "b")) ∷ [])))) ∷ [])) (codes "def f(a, b=1): return a, b") ∷ []) refl

parse_68 : ParseDef One (codes "def f():\n  a") (record { title = (codes "f"); parameters = ([]); body = (statements (t.assign [] (t.name (codes "a")) ∷ [])) })
unfolding reserved_marks delimiter operator numeral Q.escape Q.item Q.closes Q.body Q.quoted token_piece lexeme cut indented begin bracket step layout encode_utf8 code_of E.keyword_begins E.another E.argument E.attribute E.call E.slice_after E.item_or_slice E.trailer E.parenthesised E.list E.pair E.dict E.atom E.primary_parts E.primary E.power E.unary_level E.term E.sum E.compared E.negated_level E.conjunction E.disjunction E.expr_level E.exprs_level E.phrase S.primary_at S.another_simple S.raise S.return S.assertion S.delete S.global S.import S.update_of S.assignment_of S.update_or_assignment S.simple S.simples S.line S.block S.block_after S.arm S.choice S.while S.for S.caught S.handler S.handled S.finished S.try S.parameter S.definition S.define S.compound S.chunk S.program R.piece read_chars chars
parse_68 = read_found One (codes "def f():\n  a") (t.define (codes "f") ([]) (statements (t.assign [] (t.name (codes "a")) ∷ [])) (codes "def f():\n  a") ∷ []) refl

parse_69 : ParseDef One (codes "def f():\n\n  a\n  # c\n  b") (record { title = (codes "f"); parameters = ([]); body = (statements (t.assign [] (t.name (codes "a")) ∷ t.assign [] (t.name (codes "b")) ∷ [])) })
unfolding reserved_marks delimiter operator numeral Q.escape Q.item Q.closes Q.body Q.quoted token_piece lexeme cut indented begin bracket step layout encode_utf8 code_of E.keyword_begins E.another E.argument E.attribute E.call E.slice_after E.item_or_slice E.trailer E.parenthesised E.list E.pair E.dict E.atom E.primary_parts E.primary E.power E.unary_level E.term E.sum E.compared E.negated_level E.conjunction E.disjunction E.expr_level E.exprs_level E.phrase S.primary_at S.another_simple S.raise S.return S.assertion S.delete S.global S.import S.update_of S.assignment_of S.update_or_assignment S.simple S.simples S.line S.block S.block_after S.arm S.choice S.while S.for S.caught S.handler S.handled S.finished S.try S.parameter S.definition S.define S.compound S.chunk S.program R.piece read_chars chars
parse_69 = read_found One (codes "def f():\n\n  a\n  # c\n  b") (t.define (codes "f") ([]) (statements (t.assign [] (t.name (codes "a")) ∷ t.assign [] (t.name (codes "b")) ∷ [])) (codes "def f():\n\n  a\n  # c\n  b") ∷ []) refl

parse_70 : ParseDef One (codes "def f(): a;") (record { title = (codes "f"); parameters = ([]); body = (statements (t.assign [] (t.name (codes "a")) ∷ [])) })
unfolding reserved_marks delimiter operator numeral Q.escape Q.item Q.closes Q.body Q.quoted token_piece lexeme cut indented begin bracket step layout encode_utf8 code_of E.keyword_begins E.another E.argument E.attribute E.call E.slice_after E.item_or_slice E.trailer E.parenthesised E.list E.pair E.dict E.atom E.primary_parts E.primary E.power E.unary_level E.term E.sum E.compared E.negated_level E.conjunction E.disjunction E.expr_level E.exprs_level E.phrase S.primary_at S.another_simple S.raise S.return S.assertion S.delete S.global S.import S.update_of S.assignment_of S.update_or_assignment S.simple S.simples S.line S.block S.block_after S.arm S.choice S.while S.for S.caught S.handler S.handled S.finished S.try S.parameter S.definition S.define S.compound S.chunk S.program R.piece read_chars chars
parse_70 = read_found One (codes "def f(): a;") (t.define (codes "f") ([]) (statements (t.assign [] (t.name (codes "a")) ∷ [])) (codes "def f(): a;") ∷ []) refl

parse_71 : ParseDef One (codes "def f():\n  global a\n  a = 1") (record { title = (codes "f"); parameters = ([]); body = (statements (t.global ((codes "a") ∷ []) ∷ t.assign ((t.name (codes "a")) ∷ []) (t.integer (pos 1)) ∷ [])) })
unfolding reserved_marks delimiter operator numeral Q.escape Q.item Q.closes Q.body Q.quoted token_piece lexeme cut indented begin bracket step layout encode_utf8 code_of E.keyword_begins E.another E.argument E.attribute E.call E.slice_after E.item_or_slice E.trailer E.parenthesised E.list E.pair E.dict E.atom E.primary_parts E.primary E.power E.unary_level E.term E.sum E.compared E.negated_level E.conjunction E.disjunction E.expr_level E.exprs_level E.phrase S.primary_at S.another_simple S.raise S.return S.assertion S.delete S.global S.import S.update_of S.assignment_of S.update_or_assignment S.simple S.simples S.line S.block S.block_after S.arm S.choice S.while S.for S.caught S.handler S.handled S.finished S.try S.parameter S.definition S.define S.compound S.chunk S.program R.piece read_chars chars
parse_71 = read_found One (codes "def f():\n  global a\n  a = 1") (t.define (codes "f") ([]) (statements (t.global ((codes "a") ∷ []) ∷ t.assign ((t.name (codes "a")) ∷ []) (t.integer (pos 1)) ∷ [])) (codes "def f():\n  global a\n  a = 1") ∷ []) refl

parse_72 : ParseDef One (codes "def f(): '''a\n'''") (record { title = (codes "f"); parameters = ([]); body = (statements (t.assign [] (t.text (codes "a\n")) ∷ [])) })
unfolding reserved_marks delimiter operator numeral Q.escape Q.item Q.closes Q.body Q.quoted token_piece lexeme cut indented begin bracket step layout encode_utf8 code_of E.keyword_begins E.another E.argument E.attribute E.call E.slice_after E.item_or_slice E.trailer E.parenthesised E.list E.pair E.dict E.atom E.primary_parts E.primary E.power E.unary_level E.term E.sum E.compared E.negated_level E.conjunction E.disjunction E.expr_level E.exprs_level E.phrase S.primary_at S.another_simple S.raise S.return S.assertion S.delete S.global S.import S.update_of S.assignment_of S.update_or_assignment S.simple S.simples S.line S.block S.block_after S.arm S.choice S.while S.for S.caught S.handler S.handled S.finished S.try S.parameter S.definition S.define S.compound S.chunk S.program R.piece read_chars chars
parse_72 = read_found One (codes "def f(): '''a\n'''") (t.define (codes "f") ([]) (statements (t.assign [] (t.text (codes "a\n")) ∷ [])) (codes "def f(): '''a\n'''") ∷ []) refl

parse_73 : ParseDef One (codes "def f(a,): (a)") (record { title = (codes "f"); parameters = (((codes "a"), None) ∷ []); body = (statements (t.assign [] (t.paren (t.name (codes "a"))) ∷ [])) })
unfolding reserved_marks delimiter operator numeral Q.escape Q.item Q.closes Q.body Q.quoted token_piece lexeme cut indented begin bracket step layout encode_utf8 code_of E.keyword_begins E.another E.argument E.attribute E.call E.slice_after E.item_or_slice E.trailer E.parenthesised E.list E.pair E.dict E.atom E.primary_parts E.primary E.power E.unary_level E.term E.sum E.compared E.negated_level E.conjunction E.disjunction E.expr_level E.exprs_level E.phrase S.primary_at S.another_simple S.raise S.return S.assertion S.delete S.global S.import S.update_of S.assignment_of S.update_or_assignment S.simple S.simples S.line S.block S.block_after S.arm S.choice S.while S.for S.caught S.handler S.handled S.finished S.try S.parameter S.definition S.define S.compound S.chunk S.program R.piece read_chars chars
parse_73 = read_found One (codes "def f(a,): (a)") (t.define (codes "f") (((codes "a"), None) ∷ []) (statements (t.assign [] (t.paren (t.name (codes "a"))) ∷ [])) (codes "def f(a,): (a)") ∷ []) refl

parse_74 : ParseDef One (codes "def f():\n  for a in b:\n    if a: return b") (record { title = (codes "f"); parameters = ([]); body = (statements (t.for (t.name (codes "a")) (t.name (codes "b")) (statements (t.choose (arms (((t.name (codes "a")), (statements (t.return (Some (t.name (codes "b"))) ∷ []))) ∷ [])) (statements ([])) ∷ [])) ∷ [])) })
unfolding reserved_marks delimiter operator numeral Q.escape Q.item Q.closes Q.body Q.quoted token_piece lexeme cut indented begin bracket step layout encode_utf8 code_of E.keyword_begins E.another E.argument E.attribute E.call E.slice_after E.item_or_slice E.trailer E.parenthesised E.list E.pair E.dict E.atom E.primary_parts E.primary E.power E.unary_level E.term E.sum E.compared E.negated_level E.conjunction E.disjunction E.expr_level E.exprs_level E.phrase S.primary_at S.another_simple S.raise S.return S.assertion S.delete S.global S.import S.update_of S.assignment_of S.update_or_assignment S.simple S.simples S.line S.block S.block_after S.arm S.choice S.while S.for S.caught S.handler S.handled S.finished S.try S.parameter S.definition S.define S.compound S.chunk S.program R.piece read_chars chars
parse_74 = read_found One (codes "def f():\n  for a in b:\n    if a: return b") (t.define (codes "f") ([]) (statements (t.for (t.name (codes "a")) (t.name (codes "b")) (statements (t.choose (arms (((t.name (codes "a")), (statements (t.return (Some (t.name (codes "b"))) ∷ []))) ∷ [])) (statements ([])) ∷ [])) ∷ [])) (codes "def f():\n  for a in b:\n    if a: return b") ∷ []) refl

parse_75 : ParseDef One (codes "def f():\n  try: a\n  except: raise") (record { title = (codes "f"); parameters = ([]); body = (statements (t.try (statements (t.assign [] (t.name (codes "a")) ∷ [])) (handlers (record { class = None; caught = None; body = (statements (t.raise None ∷ [])) } ∷ [])) (statements ([])) (statements ([])) ∷ [])) })
unfolding reserved_marks delimiter operator numeral Q.escape Q.item Q.closes Q.body Q.quoted token_piece lexeme cut indented begin bracket step layout encode_utf8 code_of E.keyword_begins E.another E.argument E.attribute E.call E.slice_after E.item_or_slice E.trailer E.parenthesised E.list E.pair E.dict E.atom E.primary_parts E.primary E.power E.unary_level E.term E.sum E.compared E.negated_level E.conjunction E.disjunction E.expr_level E.exprs_level E.phrase S.primary_at S.another_simple S.raise S.return S.assertion S.delete S.global S.import S.update_of S.assignment_of S.update_or_assignment S.simple S.simples S.line S.block S.block_after S.arm S.choice S.while S.for S.caught S.handler S.handled S.finished S.try S.parameter S.definition S.define S.compound S.chunk S.program R.piece read_chars chars
parse_75 = read_found One (codes "def f():\n  try: a\n  except: raise") (t.define (codes "f") ([]) (statements (t.try (statements (t.assign [] (t.name (codes "a")) ∷ [])) (handlers (record { class = None; caught = None; body = (statements (t.raise None ∷ [])) } ∷ [])) (statements ([])) (statements ([])) ∷ [])) (codes "def f():\n  try: a\n  except: raise") ∷ []) refl

parse_76 : ParseDef One (codes "def \\\n f(): a") (record { title = (codes "f"); parameters = ([]); body = (statements (t.assign [] (t.name (codes "a")) ∷ [])) })
unfolding reserved_marks delimiter operator numeral Q.escape Q.item Q.closes Q.body Q.quoted token_piece lexeme cut indented begin bracket step layout encode_utf8 code_of E.keyword_begins E.another E.argument E.attribute E.call E.slice_after E.item_or_slice E.trailer E.parenthesised E.list E.pair E.dict E.atom E.primary_parts E.primary E.power E.unary_level E.term E.sum E.compared E.negated_level E.conjunction E.disjunction E.expr_level E.exprs_level E.phrase S.primary_at S.another_simple S.raise S.return S.assertion S.delete S.global S.import S.update_of S.assignment_of S.update_or_assignment S.simple S.simples S.line S.block S.block_after S.arm S.choice S.while S.for S.caught S.handler S.handled S.finished S.try S.parameter S.definition S.define S.compound S.chunk S.program R.piece read_chars chars
parse_76 = read_found One (codes "def \\\n f(): a") (t.define (codes "f") ([]) (statements (t.assign [] (t.name (codes "a")) ∷ [])) (codes "def \\\n f(): a") ∷ []) refl

parse_77 : LineDef One (codes "x\ny = = 1\n") 2
unfolding reserved_marks delimiter operator numeral Q.escape Q.item Q.closes Q.body Q.quoted token_piece lexeme cut indented begin bracket step layout encode_utf8 code_of E.keyword_begins E.another E.argument E.attribute E.call E.slice_after E.item_or_slice E.trailer E.parenthesised E.list E.pair E.dict E.atom E.primary_parts E.primary E.power E.unary_level E.term E.sum E.compared E.negated_level E.conjunction E.disjunction E.expr_level E.exprs_level E.phrase S.primary_at S.another_simple S.raise S.return S.assertion S.delete S.global S.import S.update_of S.assignment_of S.update_or_assignment S.simple S.simples S.line S.block S.block_after S.arm S.choice S.while S.for S.caught S.handler S.handled S.finished S.try S.parameter S.definition S.define S.compound S.chunk S.program R.piece read_chars chars
parse_77 = inl (line_found One (codes "x\ny = = 1\n") 2 refl)

parse_78 : LineDef One (codes "x\n\n\ny = = 1\n") 4
unfolding reserved_marks delimiter operator numeral Q.escape Q.item Q.closes Q.body Q.quoted token_piece lexeme cut indented begin bracket step layout encode_utf8 code_of E.keyword_begins E.another E.argument E.attribute E.call E.slice_after E.item_or_slice E.trailer E.parenthesised E.list E.pair E.dict E.atom E.primary_parts E.primary E.power E.unary_level E.term E.sum E.compared E.negated_level E.conjunction E.disjunction E.expr_level E.exprs_level E.phrase S.primary_at S.another_simple S.raise S.return S.assertion S.delete S.global S.import S.update_of S.assignment_of S.update_or_assignment S.simple S.simples S.line S.block S.block_after S.arm S.choice S.while S.for S.caught S.handler S.handled S.finished S.try S.parameter S.definition S.define S.compound S.chunk S.program R.piece read_chars chars
parse_78 = inl (line_found One (codes "x\n\n\ny = = 1\n") 4 refl)

parse_79 : LineDef One (codes "# c\n\nx = = 1\n") 3
unfolding reserved_marks delimiter operator numeral Q.escape Q.item Q.closes Q.body Q.quoted token_piece lexeme cut indented begin bracket step layout encode_utf8 code_of E.keyword_begins E.another E.argument E.attribute E.call E.slice_after E.item_or_slice E.trailer E.parenthesised E.list E.pair E.dict E.atom E.primary_parts E.primary E.power E.unary_level E.term E.sum E.compared E.negated_level E.conjunction E.disjunction E.expr_level E.exprs_level E.phrase S.primary_at S.another_simple S.raise S.return S.assertion S.delete S.global S.import S.update_of S.assignment_of S.update_or_assignment S.simple S.simples S.line S.block S.block_after S.arm S.choice S.while S.for S.caught S.handler S.handled S.finished S.try S.parameter S.definition S.define S.compound S.chunk S.program R.piece read_chars chars
parse_79 = inl (line_found One (codes "# c\n\nx = = 1\n") 3 refl)

parse_80 : LineDef One (codes "if a:\n  b\nc = = d\n") 3
unfolding reserved_marks delimiter operator numeral Q.escape Q.item Q.closes Q.body Q.quoted token_piece lexeme cut indented begin bracket step layout encode_utf8 code_of E.keyword_begins E.another E.argument E.attribute E.call E.slice_after E.item_or_slice E.trailer E.parenthesised E.list E.pair E.dict E.atom E.primary_parts E.primary E.power E.unary_level E.term E.sum E.compared E.negated_level E.conjunction E.disjunction E.expr_level E.exprs_level E.phrase S.primary_at S.another_simple S.raise S.return S.assertion S.delete S.global S.import S.update_of S.assignment_of S.update_or_assignment S.simple S.simples S.line S.block S.block_after S.arm S.choice S.while S.for S.caught S.handler S.handled S.finished S.try S.parameter S.definition S.define S.compound S.chunk S.program R.piece read_chars chars
parse_80 = inl (line_found One (codes "if a:\n  b\nc = = d\n") 3 refl)

parse_81 : LineDef One (codes "if a:\n  b\n\n  c = = d\ne\n") 1
unfolding reserved_marks delimiter operator numeral Q.escape Q.item Q.closes Q.body Q.quoted token_piece lexeme cut indented begin bracket step layout encode_utf8 code_of E.keyword_begins E.another E.argument E.attribute E.call E.slice_after E.item_or_slice E.trailer E.parenthesised E.list E.pair E.dict E.atom E.primary_parts E.primary E.power E.unary_level E.term E.sum E.compared E.negated_level E.conjunction E.disjunction E.expr_level E.exprs_level E.phrase S.primary_at S.another_simple S.raise S.return S.assertion S.delete S.global S.import S.update_of S.assignment_of S.update_or_assignment S.simple S.simples S.line S.block S.block_after S.arm S.choice S.while S.for S.caught S.handler S.handled S.finished S.try S.parameter S.definition S.define S.compound S.chunk S.program R.piece read_chars chars
parse_81 = inl (line_found One (codes "if a:\n  b\n\n  c = = d\ne\n") 1 refl)

parse_82 : LineDef One (codes "a\nif b:\n  c = = d\n") 2
unfolding reserved_marks delimiter operator numeral Q.escape Q.item Q.closes Q.body Q.quoted token_piece lexeme cut indented begin bracket step layout encode_utf8 code_of E.keyword_begins E.another E.argument E.attribute E.call E.slice_after E.item_or_slice E.trailer E.parenthesised E.list E.pair E.dict E.atom E.primary_parts E.primary E.power E.unary_level E.term E.sum E.compared E.negated_level E.conjunction E.disjunction E.expr_level E.exprs_level E.phrase S.primary_at S.another_simple S.raise S.return S.assertion S.delete S.global S.import S.update_of S.assignment_of S.update_or_assignment S.simple S.simples S.line S.block S.block_after S.arm S.choice S.while S.for S.caught S.handler S.handled S.finished S.try S.parameter S.definition S.define S.compound S.chunk S.program R.piece read_chars chars
parse_82 = inl (line_found One (codes "a\nif b:\n  c = = d\n") 2 refl)

parse_83 : LineDef One (codes "a\nif b: c\nelif d: = e\n") 2
unfolding reserved_marks delimiter operator numeral Q.escape Q.item Q.closes Q.body Q.quoted token_piece lexeme cut indented begin bracket step layout encode_utf8 code_of E.keyword_begins E.another E.argument E.attribute E.call E.slice_after E.item_or_slice E.trailer E.parenthesised E.list E.pair E.dict E.atom E.primary_parts E.primary E.power E.unary_level E.term E.sum E.compared E.negated_level E.conjunction E.disjunction E.expr_level E.exprs_level E.phrase S.primary_at S.another_simple S.raise S.return S.assertion S.delete S.global S.import S.update_of S.assignment_of S.update_or_assignment S.simple S.simples S.line S.block S.block_after S.arm S.choice S.while S.for S.caught S.handler S.handled S.finished S.try S.parameter S.definition S.define S.compound S.chunk S.program R.piece read_chars chars
parse_83 = inl (line_found One (codes "a\nif b: c\nelif d: = e\n") 2 refl)

parse_84 : LineDef One (codes "a\nif b: c\nelse:\n  = d\n") 2
unfolding reserved_marks delimiter operator numeral Q.escape Q.item Q.closes Q.body Q.quoted token_piece lexeme cut indented begin bracket step layout encode_utf8 code_of E.keyword_begins E.another E.argument E.attribute E.call E.slice_after E.item_or_slice E.trailer E.parenthesised E.list E.pair E.dict E.atom E.primary_parts E.primary E.power E.unary_level E.term E.sum E.compared E.negated_level E.conjunction E.disjunction E.expr_level E.exprs_level E.phrase S.primary_at S.another_simple S.raise S.return S.assertion S.delete S.global S.import S.update_of S.assignment_of S.update_or_assignment S.simple S.simples S.line S.block S.block_after S.arm S.choice S.while S.for S.caught S.handler S.handled S.finished S.try S.parameter S.definition S.define S.compound S.chunk S.program R.piece read_chars chars
parse_84 = inl (line_found One (codes "a\nif b: c\nelse:\n  = d\n") 2 refl)

parse_85 : LineDef One (codes "if a: b\nc = = d\nelse: e\n") 2
unfolding reserved_marks delimiter operator numeral Q.escape Q.item Q.closes Q.body Q.quoted token_piece lexeme cut indented begin bracket step layout encode_utf8 code_of E.keyword_begins E.another E.argument E.attribute E.call E.slice_after E.item_or_slice E.trailer E.parenthesised E.list E.pair E.dict E.atom E.primary_parts E.primary E.power E.unary_level E.term E.sum E.compared E.negated_level E.conjunction E.disjunction E.expr_level E.exprs_level E.phrase S.primary_at S.another_simple S.raise S.return S.assertion S.delete S.global S.import S.update_of S.assignment_of S.update_or_assignment S.simple S.simples S.line S.block S.block_after S.arm S.choice S.while S.for S.caught S.handler S.handled S.finished S.try S.parameter S.definition S.define S.compound S.chunk S.program R.piece read_chars chars
parse_85 = inl (line_found One (codes "if a: b\nc = = d\nelse: e\n") 2 refl)

parse_86 : LineDef One (codes "try: a\nfinally: b\nx = = y\n") 3
unfolding reserved_marks delimiter operator numeral Q.escape Q.item Q.closes Q.body Q.quoted token_piece lexeme cut indented begin bracket step layout encode_utf8 code_of E.keyword_begins E.another E.argument E.attribute E.call E.slice_after E.item_or_slice E.trailer E.parenthesised E.list E.pair E.dict E.atom E.primary_parts E.primary E.power E.unary_level E.term E.sum E.compared E.negated_level E.conjunction E.disjunction E.expr_level E.exprs_level E.phrase S.primary_at S.another_simple S.raise S.return S.assertion S.delete S.global S.import S.update_of S.assignment_of S.update_or_assignment S.simple S.simples S.line S.block S.block_after S.arm S.choice S.while S.for S.caught S.handler S.handled S.finished S.try S.parameter S.definition S.define S.compound S.chunk S.program R.piece read_chars chars
parse_86 = inl (line_found One (codes "try: a\nfinally: b\nx = = y\n") 3 refl)

parse_87 : LineDef One (codes "a\ntry: b\nexcept c: d\nelse: = e\n") 2
unfolding reserved_marks delimiter operator numeral Q.escape Q.item Q.closes Q.body Q.quoted token_piece lexeme cut indented begin bracket step layout encode_utf8 code_of E.keyword_begins E.another E.argument E.attribute E.call E.slice_after E.item_or_slice E.trailer E.parenthesised E.list E.pair E.dict E.atom E.primary_parts E.primary E.power E.unary_level E.term E.sum E.compared E.negated_level E.conjunction E.disjunction E.expr_level E.exprs_level E.phrase S.primary_at S.another_simple S.raise S.return S.assertion S.delete S.global S.import S.update_of S.assignment_of S.update_or_assignment S.simple S.simples S.line S.block S.block_after S.arm S.choice S.while S.for S.caught S.handler S.handled S.finished S.try S.parameter S.definition S.define S.compound S.chunk S.program R.piece read_chars chars
parse_87 = inl (line_found One (codes "a\ntry: b\nexcept c: d\nelse: = e\n") 2 refl)

parse_88 : LineDef One (codes "a = (\n  1\n)\nb = = c\n") 4
unfolding reserved_marks delimiter operator numeral Q.escape Q.item Q.closes Q.body Q.quoted token_piece lexeme cut indented begin bracket step layout encode_utf8 code_of E.keyword_begins E.another E.argument E.attribute E.call E.slice_after E.item_or_slice E.trailer E.parenthesised E.list E.pair E.dict E.atom E.primary_parts E.primary E.power E.unary_level E.term E.sum E.compared E.negated_level E.conjunction E.disjunction E.expr_level E.exprs_level E.phrase S.primary_at S.another_simple S.raise S.return S.assertion S.delete S.global S.import S.update_of S.assignment_of S.update_or_assignment S.simple S.simples S.line S.block S.block_after S.arm S.choice S.while S.for S.caught S.handler S.handled S.finished S.try S.parameter S.definition S.define S.compound S.chunk S.program R.piece read_chars chars
parse_88 = inl (line_found One (codes "a = (\n  1\n)\nb = = c\n") 4 refl)

parse_89 : LineDef One (codes "a = (1,\n 2 3)\nb\n") 1
unfolding reserved_marks delimiter operator numeral Q.escape Q.item Q.closes Q.body Q.quoted token_piece lexeme cut indented begin bracket step layout encode_utf8 code_of E.keyword_begins E.another E.argument E.attribute E.call E.slice_after E.item_or_slice E.trailer E.parenthesised E.list E.pair E.dict E.atom E.primary_parts E.primary E.power E.unary_level E.term E.sum E.compared E.negated_level E.conjunction E.disjunction E.expr_level E.exprs_level E.phrase S.primary_at S.another_simple S.raise S.return S.assertion S.delete S.global S.import S.update_of S.assignment_of S.update_or_assignment S.simple S.simples S.line S.block S.block_after S.arm S.choice S.while S.for S.caught S.handler S.handled S.finished S.try S.parameter S.definition S.define S.compound S.chunk S.program R.piece read_chars chars
parse_89 = inl (line_found One (codes "a = (1,\n 2 3)\nb\n") 1 refl)

parse_90 : LineDef One (codes "a\nb = (1,\n 2 3)\n") 2
unfolding reserved_marks delimiter operator numeral Q.escape Q.item Q.closes Q.body Q.quoted token_piece lexeme cut indented begin bracket step layout encode_utf8 code_of E.keyword_begins E.another E.argument E.attribute E.call E.slice_after E.item_or_slice E.trailer E.parenthesised E.list E.pair E.dict E.atom E.primary_parts E.primary E.power E.unary_level E.term E.sum E.compared E.negated_level E.conjunction E.disjunction E.expr_level E.exprs_level E.phrase S.primary_at S.another_simple S.raise S.return S.assertion S.delete S.global S.import S.update_of S.assignment_of S.update_or_assignment S.simple S.simples S.line S.block S.block_after S.arm S.choice S.while S.for S.caught S.handler S.handled S.finished S.try S.parameter S.definition S.define S.compound S.chunk S.program R.piece read_chars chars
parse_90 = inl (line_found One (codes "a\nb = (1,\n 2 3)\n") 2 refl)

parse_91 : LineDef One (codes "'''a\n\n'''\nb = = c\n") 4
unfolding reserved_marks delimiter operator numeral Q.escape Q.item Q.closes Q.body Q.quoted token_piece lexeme cut indented begin bracket step layout encode_utf8 code_of E.keyword_begins E.another E.argument E.attribute E.call E.slice_after E.item_or_slice E.trailer E.parenthesised E.list E.pair E.dict E.atom E.primary_parts E.primary E.power E.unary_level E.term E.sum E.compared E.negated_level E.conjunction E.disjunction E.expr_level E.exprs_level E.phrase S.primary_at S.another_simple S.raise S.return S.assertion S.delete S.global S.import S.update_of S.assignment_of S.update_or_assignment S.simple S.simples S.line S.block S.block_after S.arm S.choice S.while S.for S.caught S.handler S.handled S.finished S.try S.parameter S.definition S.define S.compound S.chunk S.program R.piece read_chars chars
parse_91 = inl (line_found One (codes "'''a\n\n'''\nb = = c\n") 4 refl)

parse_92 : LineDef One (codes "a = 'b\\\nc'\nd = = e\n") 3
unfolding reserved_marks delimiter operator numeral Q.escape Q.item Q.closes Q.body Q.quoted token_piece lexeme cut indented begin bracket step layout encode_utf8 code_of E.keyword_begins E.another E.argument E.attribute E.call E.slice_after E.item_or_slice E.trailer E.parenthesised E.list E.pair E.dict E.atom E.primary_parts E.primary E.power E.unary_level E.term E.sum E.compared E.negated_level E.conjunction E.disjunction E.expr_level E.exprs_level E.phrase S.primary_at S.another_simple S.raise S.return S.assertion S.delete S.global S.import S.update_of S.assignment_of S.update_or_assignment S.simple S.simples S.line S.block S.block_after S.arm S.choice S.while S.for S.caught S.handler S.handled S.finished S.try S.parameter S.definition S.define S.compound S.chunk S.program R.piece read_chars chars
parse_92 = inl (line_found One (codes "a = 'b\\\nc'\nd = = e\n") 3 refl)

parse_93 : LineDef One [] 1
unfolding reserved_marks delimiter operator numeral Q.escape Q.item Q.closes Q.body Q.quoted token_piece lexeme cut indented begin bracket step layout encode_utf8 code_of E.keyword_begins E.another E.argument E.attribute E.call E.slice_after E.item_or_slice E.trailer E.parenthesised E.list E.pair E.dict E.atom E.primary_parts E.primary E.power E.unary_level E.term E.sum E.compared E.negated_level E.conjunction E.disjunction E.expr_level E.exprs_level E.phrase S.primary_at S.another_simple S.raise S.return S.assertion S.delete S.global S.import S.update_of S.assignment_of S.update_or_assignment S.simple S.simples S.line S.block S.block_after S.arm S.choice S.while S.for S.caught S.handler S.handled S.finished S.try S.parameter S.definition S.define S.compound S.chunk S.program R.piece read_chars chars
parse_93 = inr (
  ([]),
  read_found One [] ([]) refl,
  (λ d k. (let same : ([]) ≡ t.define d.title d.parameters d.body [] ∷ [] = one_parse One [] ([]) (t.define d.title d.parameters d.body [] ∷ []) (read_found One [] ([]) refl) k in absurd cc)),
  refl,
)

parse_94 : LineDef One (codes "x\n") 1
unfolding reserved_marks delimiter operator numeral Q.escape Q.item Q.closes Q.body Q.quoted token_piece lexeme cut indented begin bracket step layout encode_utf8 code_of E.keyword_begins E.another E.argument E.attribute E.call E.slice_after E.item_or_slice E.trailer E.parenthesised E.list E.pair E.dict E.atom E.primary_parts E.primary E.power E.unary_level E.term E.sum E.compared E.negated_level E.conjunction E.disjunction E.expr_level E.exprs_level E.phrase S.primary_at S.another_simple S.raise S.return S.assertion S.delete S.global S.import S.update_of S.assignment_of S.update_or_assignment S.simple S.simples S.line S.block S.block_after S.arm S.choice S.while S.for S.caught S.handler S.handled S.finished S.try S.parameter S.definition S.define S.compound S.chunk S.program R.piece read_chars chars
parse_94 = inr (
  (t.assign [] (t.name (codes "x")) ∷ []),
  read_found One (codes "x\n") (t.assign [] (t.name (codes "x")) ∷ []) refl,
  (λ d k. (let same : (t.assign [] (t.name (codes "x")) ∷ []) ≡ t.define d.title d.parameters d.body (codes "x\n") ∷ [] = one_parse One (codes "x\n") (t.assign [] (t.name (codes "x")) ∷ []) (t.define d.title d.parameters d.body (codes "x\n") ∷ []) (read_found One (codes "x\n") (t.assign [] (t.name (codes "x")) ∷ []) refl) k in absurd cc)),
  refl,
)

parse_95 : LineDef One (codes "f()") 1
unfolding reserved_marks delimiter operator numeral Q.escape Q.item Q.closes Q.body Q.quoted token_piece lexeme cut indented begin bracket step layout encode_utf8 code_of E.keyword_begins E.another E.argument E.attribute E.call E.slice_after E.item_or_slice E.trailer E.parenthesised E.list E.pair E.dict E.atom E.primary_parts E.primary E.power E.unary_level E.term E.sum E.compared E.negated_level E.conjunction E.disjunction E.expr_level E.exprs_level E.phrase S.primary_at S.another_simple S.raise S.return S.assertion S.delete S.global S.import S.update_of S.assignment_of S.update_or_assignment S.simple S.simples S.line S.block S.block_after S.arm S.choice S.while S.for S.caught S.handler S.handled S.finished S.try S.parameter S.definition S.define S.compound S.chunk S.program R.piece read_chars chars
parse_95 = inr (
  (t.assign [] (t.primary (t.name (codes "f")) (trailers (t.call (arguments ([])) ∷ []))) ∷ []),
  read_found One (codes "f()") (t.assign [] (t.primary (t.name (codes "f")) (trailers (t.call (arguments ([])) ∷ []))) ∷ []) refl,
  (λ d k. (let same : (t.assign [] (t.primary (t.name (codes "f")) (trailers (t.call (arguments ([])) ∷ []))) ∷ []) ≡ t.define d.title d.parameters d.body (codes "f()") ∷ [] = one_parse One (codes "f()") (t.assign [] (t.primary (t.name (codes "f")) (trailers (t.call (arguments ([])) ∷ []))) ∷ []) (t.define d.title d.parameters d.body (codes "f()") ∷ []) (read_found One (codes "f()") (t.assign [] (t.primary (t.name (codes "f")) (trailers (t.call (arguments ([])) ∷ []))) ∷ []) refl) k in absurd cc)),
  refl,
)

parse_96 : LineDef One (codes "def f(): pass\n") 1
unfolding reserved_marks delimiter operator numeral Q.escape Q.item Q.closes Q.body Q.quoted token_piece lexeme cut indented begin bracket step layout encode_utf8 code_of E.keyword_begins E.another E.argument E.attribute E.call E.slice_after E.item_or_slice E.trailer E.parenthesised E.list E.pair E.dict E.atom E.primary_parts E.primary E.power E.unary_level E.term E.sum E.compared E.negated_level E.conjunction E.disjunction E.expr_level E.exprs_level E.phrase S.primary_at S.another_simple S.raise S.return S.assertion S.delete S.global S.import S.update_of S.assignment_of S.update_or_assignment S.simple S.simples S.line S.block S.block_after S.arm S.choice S.while S.for S.caught S.handler S.handled S.finished S.try S.parameter S.definition S.define S.compound S.chunk S.program R.piece read_chars chars
parse_96 = inr (
  (t.define (codes "f") ([]) (statements (t.pass ∷ [])) (codes "def f(): pass") ∷ []),
  read_found One (codes "def f(): pass\n") (t.define (codes "f") ([]) (statements (t.pass ∷ [])) (codes "def f(): pass") ∷ []) refl,
  (λ d k. (let same : (t.define (codes "f") ([]) (statements (t.pass ∷ [])) (codes "def f(): pass") ∷ []) ≡ t.define d.title d.parameters d.body (codes "def f(): pass\n") ∷ [] = one_parse One (codes "def f(): pass\n") (t.define (codes "f") ([]) (statements (t.pass ∷ [])) (codes "def f(): pass") ∷ []) (t.define d.title d.parameters d.body (codes "def f(): pass\n") ∷ []) (read_found One (codes "def f(): pass\n") (t.define (codes "f") ([]) (statements (t.pass ∷ [])) (codes "def f(): pass") ∷ []) refl) k in absurd cc)),
  refl,
)

parse_97 : LineDef One (codes " ") 1
unfolding reserved_marks delimiter operator numeral Q.escape Q.item Q.closes Q.body Q.quoted token_piece lexeme cut indented begin bracket step layout encode_utf8 code_of E.keyword_begins E.another E.argument E.attribute E.call E.slice_after E.item_or_slice E.trailer E.parenthesised E.list E.pair E.dict E.atom E.primary_parts E.primary E.power E.unary_level E.term E.sum E.compared E.negated_level E.conjunction E.disjunction E.expr_level E.exprs_level E.phrase S.primary_at S.another_simple S.raise S.return S.assertion S.delete S.global S.import S.update_of S.assignment_of S.update_or_assignment S.simple S.simples S.line S.block S.block_after S.arm S.choice S.while S.for S.caught S.handler S.handled S.finished S.try S.parameter S.definition S.define S.compound S.chunk S.program R.piece read_chars chars
parse_97 = inr (
  ([]),
  read_found One (codes " ") ([]) refl,
  (λ d k. (let same : ([]) ≡ t.define d.title d.parameters d.body (codes " ") ∷ [] = one_parse One (codes " ") ([]) (t.define d.title d.parameters d.body (codes " ") ∷ []) (read_found One (codes " ") ([]) refl) k in absurd cc)),
  refl,
)

parse_98 : LineDef One (codes "def f(): pass  ") 1
unfolding reserved_marks delimiter operator numeral Q.escape Q.item Q.closes Q.body Q.quoted token_piece lexeme cut indented begin bracket step layout encode_utf8 code_of E.keyword_begins E.another E.argument E.attribute E.call E.slice_after E.item_or_slice E.trailer E.parenthesised E.list E.pair E.dict E.atom E.primary_parts E.primary E.power E.unary_level E.term E.sum E.compared E.negated_level E.conjunction E.disjunction E.expr_level E.exprs_level E.phrase S.primary_at S.another_simple S.raise S.return S.assertion S.delete S.global S.import S.update_of S.assignment_of S.update_or_assignment S.simple S.simples S.line S.block S.block_after S.arm S.choice S.while S.for S.caught S.handler S.handled S.finished S.try S.parameter S.definition S.define S.compound S.chunk S.program R.piece read_chars chars
parse_98 = inr (
  (t.define (codes "f") ([]) (statements (t.pass ∷ [])) (codes "def f(): pass") ∷ []),
  read_found One (codes "def f(): pass  ") (t.define (codes "f") ([]) (statements (t.pass ∷ [])) (codes "def f(): pass") ∷ []) refl,
  (λ d k. (let same : (t.define (codes "f") ([]) (statements (t.pass ∷ [])) (codes "def f(): pass") ∷ []) ≡ t.define d.title d.parameters d.body (codes "def f(): pass  ") ∷ [] = one_parse One (codes "def f(): pass  ") (t.define (codes "f") ([]) (statements (t.pass ∷ [])) (codes "def f(): pass") ∷ []) (t.define d.title d.parameters d.body (codes "def f(): pass  ") ∷ []) (read_found One (codes "def f(): pass  ") (t.define (codes "f") ([]) (statements (t.pass ∷ [])) (codes "def f(): pass") ∷ []) refl) k in absurd cc)),
  refl,
)

parse_99 : LineDef One (codes "def f(): pass # c") 1
unfolding reserved_marks delimiter operator numeral Q.escape Q.item Q.closes Q.body Q.quoted token_piece lexeme cut indented begin bracket step layout encode_utf8 code_of E.keyword_begins E.another E.argument E.attribute E.call E.slice_after E.item_or_slice E.trailer E.parenthesised E.list E.pair E.dict E.atom E.primary_parts E.primary E.power E.unary_level E.term E.sum E.compared E.negated_level E.conjunction E.disjunction E.expr_level E.exprs_level E.phrase S.primary_at S.another_simple S.raise S.return S.assertion S.delete S.global S.import S.update_of S.assignment_of S.update_or_assignment S.simple S.simples S.line S.block S.block_after S.arm S.choice S.while S.for S.caught S.handler S.handled S.finished S.try S.parameter S.definition S.define S.compound S.chunk S.program R.piece read_chars chars
parse_99 = inr (
  (t.define (codes "f") ([]) (statements (t.pass ∷ [])) (codes "def f(): pass") ∷ []),
  read_found One (codes "def f(): pass # c") (t.define (codes "f") ([]) (statements (t.pass ∷ [])) (codes "def f(): pass") ∷ []) refl,
  (λ d k. (let same : (t.define (codes "f") ([]) (statements (t.pass ∷ [])) (codes "def f(): pass") ∷ []) ≡ t.define d.title d.parameters d.body (codes "def f(): pass # c") ∷ [] = one_parse One (codes "def f(): pass # c") (t.define (codes "f") ([]) (statements (t.pass ∷ [])) (codes "def f(): pass") ∷ []) (t.define d.title d.parameters d.body (codes "def f(): pass # c") ∷ []) (read_found One (codes "def f(): pass # c") (t.define (codes "f") ([]) (statements (t.pass ∷ [])) (codes "def f(): pass") ∷ []) refl) k in absurd cc)),
  refl,
)

parse_100 : LineDef One (codes "x\ndef f(): pass") 1
unfolding reserved_marks delimiter operator numeral Q.escape Q.item Q.closes Q.body Q.quoted token_piece lexeme cut indented begin bracket step layout encode_utf8 code_of E.keyword_begins E.another E.argument E.attribute E.call E.slice_after E.item_or_slice E.trailer E.parenthesised E.list E.pair E.dict E.atom E.primary_parts E.primary E.power E.unary_level E.term E.sum E.compared E.negated_level E.conjunction E.disjunction E.expr_level E.exprs_level E.phrase S.primary_at S.another_simple S.raise S.return S.assertion S.delete S.global S.import S.update_of S.assignment_of S.update_or_assignment S.simple S.simples S.line S.block S.block_after S.arm S.choice S.while S.for S.caught S.handler S.handled S.finished S.try S.parameter S.definition S.define S.compound S.chunk S.program R.piece read_chars chars
parse_100 = inr (
  (t.assign [] (t.name (codes "x")) ∷ t.define (codes "f") ([]) (statements (t.pass ∷ [])) (codes "def f(): pass") ∷ []),
  read_found One (codes "x\ndef f(): pass") (t.assign [] (t.name (codes "x")) ∷ t.define (codes "f") ([]) (statements (t.pass ∷ [])) (codes "def f(): pass") ∷ []) refl,
  (λ d k. (let same : (t.assign [] (t.name (codes "x")) ∷ t.define (codes "f") ([]) (statements (t.pass ∷ [])) (codes "def f(): pass") ∷ []) ≡ t.define d.title d.parameters d.body (codes "x\ndef f(): pass") ∷ [] = one_parse One (codes "x\ndef f(): pass") (t.assign [] (t.name (codes "x")) ∷ t.define (codes "f") ([]) (statements (t.pass ∷ [])) (codes "def f(): pass") ∷ []) (t.define d.title d.parameters d.body (codes "x\ndef f(): pass") ∷ []) (read_found One (codes "x\ndef f(): pass") (t.assign [] (t.name (codes "x")) ∷ t.define (codes "f") ([]) (statements (t.pass ∷ [])) (codes "def f(): pass") ∷ []) refl) k in absurd cc)),
  refl,
)

parse_101 : LineDef One (codes "def f(): pass\nx") 1
unfolding reserved_marks delimiter operator numeral Q.escape Q.item Q.closes Q.body Q.quoted token_piece lexeme cut indented begin bracket step layout encode_utf8 code_of E.keyword_begins E.another E.argument E.attribute E.call E.slice_after E.item_or_slice E.trailer E.parenthesised E.list E.pair E.dict E.atom E.primary_parts E.primary E.power E.unary_level E.term E.sum E.compared E.negated_level E.conjunction E.disjunction E.expr_level E.exprs_level E.phrase S.primary_at S.another_simple S.raise S.return S.assertion S.delete S.global S.import S.update_of S.assignment_of S.update_or_assignment S.simple S.simples S.line S.block S.block_after S.arm S.choice S.while S.for S.caught S.handler S.handled S.finished S.try S.parameter S.definition S.define S.compound S.chunk S.program R.piece read_chars chars
parse_101 = inr (
  (t.define (codes "f") ([]) (statements (t.pass ∷ [])) (codes "def f(): pass") ∷ t.assign [] (t.name (codes "x")) ∷ []),
  read_found One (codes "def f(): pass\nx") (t.define (codes "f") ([]) (statements (t.pass ∷ [])) (codes "def f(): pass") ∷ t.assign [] (t.name (codes "x")) ∷ []) refl,
  (λ d k. (let same : (t.define (codes "f") ([]) (statements (t.pass ∷ [])) (codes "def f(): pass") ∷ t.assign [] (t.name (codes "x")) ∷ []) ≡ t.define d.title d.parameters d.body (codes "def f(): pass\nx") ∷ [] = one_parse One (codes "def f(): pass\nx") (t.define (codes "f") ([]) (statements (t.pass ∷ [])) (codes "def f(): pass") ∷ t.assign [] (t.name (codes "x")) ∷ []) (t.define d.title d.parameters d.body (codes "def f(): pass\nx") ∷ []) (read_found One (codes "def f(): pass\nx") (t.define (codes "f") ([]) (statements (t.pass ∷ [])) (codes "def f(): pass") ∷ t.assign [] (t.name (codes "x")) ∷ []) refl) k in absurd cc)),
  refl,
)

parse_102 : LineDef One (codes "def f(): a\ndef g(): b") 1
unfolding reserved_marks delimiter operator numeral Q.escape Q.item Q.closes Q.body Q.quoted token_piece lexeme cut indented begin bracket step layout encode_utf8 code_of E.keyword_begins E.another E.argument E.attribute E.call E.slice_after E.item_or_slice E.trailer E.parenthesised E.list E.pair E.dict E.atom E.primary_parts E.primary E.power E.unary_level E.term E.sum E.compared E.negated_level E.conjunction E.disjunction E.expr_level E.exprs_level E.phrase S.primary_at S.another_simple S.raise S.return S.assertion S.delete S.global S.import S.update_of S.assignment_of S.update_or_assignment S.simple S.simples S.line S.block S.block_after S.arm S.choice S.while S.for S.caught S.handler S.handled S.finished S.try S.parameter S.definition S.define S.compound S.chunk S.program R.piece read_chars chars
parse_102 = inr (
  (t.define (codes "f") ([]) (statements (t.assign [] (t.name (codes "a")) ∷ [])) (codes "def f(): a") ∷ t.define (codes "g") ([]) (statements (t.assign [] (t.name (codes "b")) ∷ [])) (codes "def g(): b") ∷ []),
  read_found One (codes "def f(): a\ndef g(): b") (t.define (codes "f") ([]) (statements (t.assign [] (t.name (codes "a")) ∷ [])) (codes "def f(): a") ∷ t.define (codes "g") ([]) (statements (t.assign [] (t.name (codes "b")) ∷ [])) (codes "def g(): b") ∷ []) refl,
  (λ d k. (let same : (t.define (codes "f") ([]) (statements (t.assign [] (t.name (codes "a")) ∷ [])) (codes "def f(): a") ∷ t.define (codes "g") ([]) (statements (t.assign [] (t.name (codes "b")) ∷ [])) (codes "def g(): b") ∷ []) ≡ t.define d.title d.parameters d.body (codes "def f(): a\ndef g(): b") ∷ [] = one_parse One (codes "def f(): a\ndef g(): b") (t.define (codes "f") ([]) (statements (t.assign [] (t.name (codes "a")) ∷ [])) (codes "def f(): a") ∷ t.define (codes "g") ([]) (statements (t.assign [] (t.name (codes "b")) ∷ [])) (codes "def g(): b") ∷ []) (t.define d.title d.parameters d.body (codes "def f(): a\ndef g(): b") ∷ []) (read_found One (codes "def f(): a\ndef g(): b") (t.define (codes "f") ([]) (statements (t.assign [] (t.name (codes "a")) ∷ [])) (codes "def f(): a") ∷ t.define (codes "g") ([]) (statements (t.assign [] (t.name (codes "b")) ∷ [])) (codes "def g(): b") ∷ []) refl) k in absurd cc)),
  refl,
)

parse_103 : LineDef One (codes "if a:\n  def f(): b") 1
unfolding reserved_marks delimiter operator numeral Q.escape Q.item Q.closes Q.body Q.quoted token_piece lexeme cut indented begin bracket step layout encode_utf8 code_of E.keyword_begins E.another E.argument E.attribute E.call E.slice_after E.item_or_slice E.trailer E.parenthesised E.list E.pair E.dict E.atom E.primary_parts E.primary E.power E.unary_level E.term E.sum E.compared E.negated_level E.conjunction E.disjunction E.expr_level E.exprs_level E.phrase S.primary_at S.another_simple S.raise S.return S.assertion S.delete S.global S.import S.update_of S.assignment_of S.update_or_assignment S.simple S.simples S.line S.block S.block_after S.arm S.choice S.while S.for S.caught S.handler S.handled S.finished S.try S.parameter S.definition S.define S.compound S.chunk S.program R.piece read_chars chars
parse_103 = inr (
  (t.choose (arms (((t.name (codes "a")), (statements (t.define (codes "f") ([]) (statements (t.assign [] (t.name (codes "b")) ∷ [])) (codes "def f(): b") ∷ []))) ∷ [])) (statements ([])) ∷ []),
  read_found One (codes "if a:\n  def f(): b") (t.choose (arms (((t.name (codes "a")), (statements (t.define (codes "f") ([]) (statements (t.assign [] (t.name (codes "b")) ∷ [])) (codes "def f(): b") ∷ []))) ∷ [])) (statements ([])) ∷ []) refl,
  (λ d k. (let same : (t.choose (arms (((t.name (codes "a")), (statements (t.define (codes "f") ([]) (statements (t.assign [] (t.name (codes "b")) ∷ [])) (codes "def f(): b") ∷ []))) ∷ [])) (statements ([])) ∷ []) ≡ t.define d.title d.parameters d.body (codes "if a:\n  def f(): b") ∷ [] = one_parse One (codes "if a:\n  def f(): b") (t.choose (arms (((t.name (codes "a")), (statements (t.define (codes "f") ([]) (statements (t.assign [] (t.name (codes "b")) ∷ [])) (codes "def f(): b") ∷ []))) ∷ [])) (statements ([])) ∷ []) (t.define d.title d.parameters d.body (codes "if a:\n  def f(): b") ∷ []) (read_found One (codes "if a:\n  def f(): b") (t.choose (arms (((t.name (codes "a")), (statements (t.define (codes "f") ([]) (statements (t.assign [] (t.name (codes "b")) ∷ [])) (codes "def f(): b") ∷ []))) ∷ [])) (statements ([])) ∷ []) refl) k in absurd cc)),
  refl,
)

parse_104 : LineDef One (100 ∷ 101 ∷ 102 ∷ 32 ∷ 102 ∷ 40 ∷ 41 ∷ 58 ∷ 13 ∷ 10 ∷ 32 ∷ 32 ∷ 97 ∷ []) 1
unfolding reserved_marks delimiter operator numeral Q.escape Q.item Q.closes Q.body Q.quoted token_piece lexeme cut indented begin bracket step layout encode_utf8 code_of E.keyword_begins E.another E.argument E.attribute E.call E.slice_after E.item_or_slice E.trailer E.parenthesised E.list E.pair E.dict E.atom E.primary_parts E.primary E.power E.unary_level E.term E.sum E.compared E.negated_level E.conjunction E.disjunction E.expr_level E.exprs_level E.phrase S.primary_at S.another_simple S.raise S.return S.assertion S.delete S.global S.import S.update_of S.assignment_of S.update_or_assignment S.simple S.simples S.line S.block S.block_after S.arm S.choice S.while S.for S.caught S.handler S.handled S.finished S.try S.parameter S.definition S.define S.compound S.chunk S.program R.piece read_chars chars
parse_104 = inr (
  (t.define (codes "f") ([]) (statements (t.assign [] (t.name (codes "a")) ∷ [])) (codes "def f():\n  a") ∷ []),
  read_found One (100 ∷ 101 ∷ 102 ∷ 32 ∷ 102 ∷ 40 ∷ 41 ∷ 58 ∷ 13 ∷ 10 ∷ 32 ∷ 32 ∷ 97 ∷ []) (t.define (codes "f") ([]) (statements (t.assign [] (t.name (codes "a")) ∷ [])) (codes "def f():\n  a") ∷ []) refl,
  (λ d k. (let same : (t.define (codes "f") ([]) (statements (t.assign [] (t.name (codes "a")) ∷ [])) (codes "def f():\n  a") ∷ []) ≡ t.define d.title d.parameters d.body (100 ∷ 101 ∷ 102 ∷ 32 ∷ 102 ∷ 40 ∷ 41 ∷ 58 ∷ 13 ∷ 10 ∷ 32 ∷ 32 ∷ 97 ∷ []) ∷ [] = one_parse One (100 ∷ 101 ∷ 102 ∷ 32 ∷ 102 ∷ 40 ∷ 41 ∷ 58 ∷ 13 ∷ 10 ∷ 32 ∷ 32 ∷ 97 ∷ []) (t.define (codes "f") ([]) (statements (t.assign [] (t.name (codes "a")) ∷ [])) (codes "def f():\n  a") ∷ []) (t.define d.title d.parameters d.body (100 ∷ 101 ∷ 102 ∷ 32 ∷ 102 ∷ 40 ∷ 41 ∷ 58 ∷ 13 ∷ 10 ∷ 32 ∷ 32 ∷ 97 ∷ []) ∷ []) (read_found One (100 ∷ 101 ∷ 102 ∷ 32 ∷ 102 ∷ 40 ∷ 41 ∷ 58 ∷ 13 ∷ 10 ∷ 32 ∷ 32 ∷ 97 ∷ []) (t.define (codes "f") ([]) (statements (t.assign [] (t.name (codes "a")) ∷ [])) (codes "def f():\n  a") ∷ []) refl) k in absurd cc)),
  refl,
)

parse_105 : LineDef One (codes "\ndef f(): a") 1
unfolding reserved_marks delimiter operator numeral Q.escape Q.item Q.closes Q.body Q.quoted token_piece lexeme cut indented begin bracket step layout encode_utf8 code_of E.keyword_begins E.another E.argument E.attribute E.call E.slice_after E.item_or_slice E.trailer E.parenthesised E.list E.pair E.dict E.atom E.primary_parts E.primary E.power E.unary_level E.term E.sum E.compared E.negated_level E.conjunction E.disjunction E.expr_level E.exprs_level E.phrase S.primary_at S.another_simple S.raise S.return S.assertion S.delete S.global S.import S.update_of S.assignment_of S.update_or_assignment S.simple S.simples S.line S.block S.block_after S.arm S.choice S.while S.for S.caught S.handler S.handled S.finished S.try S.parameter S.definition S.define S.compound S.chunk S.program R.piece read_chars chars
parse_105 = inr (
  (t.define (codes "f") ([]) (statements (t.assign [] (t.name (codes "a")) ∷ [])) (codes "def f(): a") ∷ []),
  read_found One (codes "\ndef f(): a") (t.define (codes "f") ([]) (statements (t.assign [] (t.name (codes "a")) ∷ [])) (codes "def f(): a") ∷ []) refl,
  (λ d k. (let same : (t.define (codes "f") ([]) (statements (t.assign [] (t.name (codes "a")) ∷ [])) (codes "def f(): a") ∷ []) ≡ t.define d.title d.parameters d.body (codes "\ndef f(): a") ∷ [] = one_parse One (codes "\ndef f(): a") (t.define (codes "f") ([]) (statements (t.assign [] (t.name (codes "a")) ∷ [])) (codes "def f(): a") ∷ []) (t.define d.title d.parameters d.body (codes "\ndef f(): a") ∷ []) (read_found One (codes "\ndef f(): a") (t.define (codes "f") ([]) (statements (t.assign [] (t.name (codes "a")) ∷ [])) (codes "def f(): a") ∷ []) refl) k in absurd cc)),
  refl,
)

parse_106 : LineDef One (codes "# c\ndef f(): a") 1
unfolding reserved_marks delimiter operator numeral Q.escape Q.item Q.closes Q.body Q.quoted token_piece lexeme cut indented begin bracket step layout encode_utf8 code_of E.keyword_begins E.another E.argument E.attribute E.call E.slice_after E.item_or_slice E.trailer E.parenthesised E.list E.pair E.dict E.atom E.primary_parts E.primary E.power E.unary_level E.term E.sum E.compared E.negated_level E.conjunction E.disjunction E.expr_level E.exprs_level E.phrase S.primary_at S.another_simple S.raise S.return S.assertion S.delete S.global S.import S.update_of S.assignment_of S.update_or_assignment S.simple S.simples S.line S.block S.block_after S.arm S.choice S.while S.for S.caught S.handler S.handled S.finished S.try S.parameter S.definition S.define S.compound S.chunk S.program R.piece read_chars chars
parse_106 = inr (
  (t.define (codes "f") ([]) (statements (t.assign [] (t.name (codes "a")) ∷ [])) (codes "def f(): a") ∷ []),
  read_found One (codes "# c\ndef f(): a") (t.define (codes "f") ([]) (statements (t.assign [] (t.name (codes "a")) ∷ [])) (codes "def f(): a") ∷ []) refl,
  (λ d k. (let same : (t.define (codes "f") ([]) (statements (t.assign [] (t.name (codes "a")) ∷ [])) (codes "def f(): a") ∷ []) ≡ t.define d.title d.parameters d.body (codes "# c\ndef f(): a") ∷ [] = one_parse One (codes "# c\ndef f(): a") (t.define (codes "f") ([]) (statements (t.assign [] (t.name (codes "a")) ∷ [])) (codes "def f(): a") ∷ []) (t.define d.title d.parameters d.body (codes "# c\ndef f(): a") ∷ []) (read_found One (codes "# c\ndef f(): a") (t.define (codes "f") ([]) (statements (t.assign [] (t.name (codes "a")) ∷ [])) (codes "def f(): a") ∷ []) refl) k in absurd cc)),
  refl,
)

parse_107 : LineDef One (codes "\\\ndef f(): a") 1
unfolding reserved_marks delimiter operator numeral Q.escape Q.item Q.closes Q.body Q.quoted token_piece lexeme cut indented begin bracket step layout encode_utf8 code_of E.keyword_begins E.another E.argument E.attribute E.call E.slice_after E.item_or_slice E.trailer E.parenthesised E.list E.pair E.dict E.atom E.primary_parts E.primary E.power E.unary_level E.term E.sum E.compared E.negated_level E.conjunction E.disjunction E.expr_level E.exprs_level E.phrase S.primary_at S.another_simple S.raise S.return S.assertion S.delete S.global S.import S.update_of S.assignment_of S.update_or_assignment S.simple S.simples S.line S.block S.block_after S.arm S.choice S.while S.for S.caught S.handler S.handled S.finished S.try S.parameter S.definition S.define S.compound S.chunk S.program R.piece read_chars chars
parse_107 = inr (
  (t.define (codes "f") ([]) (statements (t.assign [] (t.name (codes "a")) ∷ [])) (codes "def f(): a") ∷ []),
  read_found One (codes "\\\ndef f(): a") (t.define (codes "f") ([]) (statements (t.assign [] (t.name (codes "a")) ∷ [])) (codes "def f(): a") ∷ []) refl,
  (λ d k. (let same : (t.define (codes "f") ([]) (statements (t.assign [] (t.name (codes "a")) ∷ [])) (codes "def f(): a") ∷ []) ≡ t.define d.title d.parameters d.body (codes "\\\ndef f(): a") ∷ [] = one_parse One (codes "\\\ndef f(): a") (t.define (codes "f") ([]) (statements (t.assign [] (t.name (codes "a")) ∷ [])) (codes "def f(): a") ∷ []) (t.define d.title d.parameters d.body (codes "\\\ndef f(): a") ∷ []) (read_found One (codes "\\\ndef f(): a") (t.define (codes "f") ([]) (statements (t.assign [] (t.name (codes "a")) ∷ [])) (codes "def f(): a") ∷ []) refl) k in absurd cc)),
  refl,
)
