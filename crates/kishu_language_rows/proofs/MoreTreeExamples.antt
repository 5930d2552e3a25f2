-- Which trees further texts have: computed on the definition. Made by tools/rows/tree_rows.py.
use Rattle.std.proofs.Common.{◌≡◌, ◌∷◌, [], refl}
use Rattle.std.specs.Prelude.{pos, codes, Some, None, Ok}
use Rattle.std.specs.Char.{encode_utf8}
use Rattle.kishu_language.specs.declared.profile.Profile.TheVariants.{One}
use Rattle.kishu_language.specs.declared.tree.Operator.TheVariants as o
use Rattle.kishu_language.specs.declared.tree.Sign.TheVariants as s
use Rattle.kishu_language.specs.declared.tree.Comparison.TheVariants as c
use Rattle.kishu_language.specs.tokens.Marks.{reserved_marks, delimiter, operator}
use Rattle.kishu_language.specs.tokens.Numerals.{numeral}
use Rattle.kishu_language.specs.tokens.Quoted as Q
use Rattle.kishu_language.specs.tokens.Lexemes.{token_piece, lexeme}
use Rattle.kishu_language.specs.tokens.Layout.{cut, indented, begin, bracket, step, layout}
use Rattle.kishu_language.specs.trees.Tree.{expressions, operands, links, pairs, trailers, arguments, statements, arms, handlers, absent, bound}
use Rattle.kishu_language.specs.trees.Tree as t
use Rattle.kishu_language.specs.trees.Code.{code_of}
use Rattle.kishu_language.specs.reading.ReadExpressions as E
use Rattle.kishu_language.specs.reading.ReadStatements as S
use Rattle.kishu_language.specs.reading.ReadText as R
use Rattle.kishu_language.specs.reading.ReadText.{read_chars}

tree_1 : read_chars One (codes "def f(e=1): pass\n") ≡ Ok (t.define (codes "f") (((codes "e"), (Some (t.integer (pos 1)))) ∷ []) (statements (t.pass ∷ [])) (codes "def f(e=1): pass") ∷ [])
unfolding reserved_marks delimiter operator numeral Q.escape Q.item Q.closes Q.body Q.quoted token_piece lexeme cut indented begin bracket step layout encode_utf8 code_of E.keyword_begins E.another E.argument E.attribute E.call E.slice_after E.item_or_slice E.trailer E.parenthesised E.list E.pair E.dict E.atom E.primary_parts E.primary E.power E.unary_level E.term E.sum E.compared E.negated_level E.conjunction E.disjunction E.expr_level E.exprs_level E.phrase S.primary_at S.another_simple S.raise S.return S.assertion S.delete S.global S.import S.update_of S.assignment_of S.update_or_assignment S.simple S.simples S.line S.block S.block_after S.arm S.choice S.while S.for S.caught S.handler S.handled S.finished S.try S.parameter S.definition S.define S.compound S.chunk S.program R.piece read_chars
tree_1 = refl

tree_2 : read_chars One (120 ∷ 32 ∷ 61 ∷ 32 ∷ 39 ∷ 233 ∷ 8364 ∷ 128512 ∷ 39 ∷ 10 ∷ 100 ∷ 101 ∷ 102 ∷ 32 ∷ 102 ∷ 40 ∷ 97 ∷ 61 ∷ 39 ∷ 8364 ∷ 39 ∷ 41 ∷ 58 ∷ 10 ∷ 32 ∷ 32 ∷ 35 ∷ 32 ∷ 233 ∷ 10 ∷ 32 ∷ 32 ∷ 114 ∷ 101 ∷ 116 ∷ 117 ∷ 114 ∷ 110 ∷ 32 ∷ 39 ∷ 128512 ∷ 39 ∷ 32 ∷ 32 ∷ 35 ∷ 32 ∷ 233 ∷ 10 ∷ 10 ∷ 102 ∷ 40 ∷ 41 ∷ 10 ∷ []) ≡ Ok (t.assign ((t.name (codes "x")) ∷ []) (t.text (195 ∷ 169 ∷ 226 ∷ 130 ∷ 172 ∷ 240 ∷ 159 ∷ 152 ∷ 128 ∷ [])) ∷ t.define (codes "f") (((codes "a"), (Some (t.text (226 ∷ 130 ∷ 172 ∷ [])))) ∷ []) (statements (t.return (Some (t.text (240 ∷ 159 ∷ 152 ∷ 128 ∷ []))) ∷ [])) (100 ∷ 101 ∷ 102 ∷ 32 ∷ 102 ∷ 40 ∷ 97 ∷ 61 ∷ 39 ∷ 226 ∷ 130 ∷ 172 ∷ 39 ∷ 41 ∷ 58 ∷ 10 ∷ 32 ∷ 32 ∷ 35 ∷ 32 ∷ 195 ∷ 169 ∷ 10 ∷ 32 ∷ 32 ∷ 114 ∷ 101 ∷ 116 ∷ 117 ∷ 114 ∷ 110 ∷ 32 ∷ 39 ∷ 240 ∷ 159 ∷ 152 ∷ 128 ∷ 39 ∷ []) ∷ t.assign [] (t.primary (t.name (codes "f")) (trailers (t.call (arguments ([])) ∷ []))) ∷ [])
unfolding reserved_marks delimiter operator numeral Q.escape Q.item Q.closes Q.body Q.quoted token_piece lexeme cut indented begin bracket step layout encode_utf8 code_of E.keyword_begins E.another E.argument E.attribute E.call E.slice_after E.item_or_slice E.trailer E.parenthesised E.list E.pair E.dict E.atom E.primary_parts E.primary E.power E.unary_level E.term E.sum E.compared E.negated_level E.conjunction E.disjunction E.expr_level E.exprs_level E.phrase S.primary_at S.another_simple S.raise S.return S.assertion S.delete S.global S.import S.update_of S.assignment_of S.update_or_assignment S.simple S.simples S.line S.block S.block_after S.arm S.choice S.while S.for S.caught S.handler S.handled S.finished S.try S.parameter S.definition S.define S.compound S.chunk S.program R.piece read_chars
tree_2 = refl

tree_3 : read_chars One (codes "if a:\n  def f():\n    if b:\n      c\n\n  d\n") ≡ Ok (t.choose (arms (((t.name (codes "a")), (statements (t.define (codes "f") ([]) (statements (t.choose (arms (((t.name (codes "b")), (statements (t.assign [] (t.name (codes "c")) ∷ []))) ∷ [])) (statements ([])) ∷ [])) (codes "def f():\n    if b:\n      c") ∷ t.assign [] (t.name (codes "d")) ∷ []))) ∷ [])) (statements ([])) ∷ [])
unfolding reserved_marks delimiter operator numeral Q.escape Q.item Q.closes Q.body Q.quoted token_piece lexeme cut indented begin bracket step layout encode_utf8 code_of E.keyword_begins E.another E.argument E.attribute E.call E.slice_after E.item_or_slice E.trailer E.parenthesised E.list E.pair E.dict E.atom E.primary_parts E.primary E.power E.unary_level E.term E.sum E.compared E.negated_level E.conjunction E.disjunction E.expr_level E.exprs_level E.phrase S.primary_at S.another_simple S.raise S.return S.assertion S.delete S.global S.import S.update_of S.assignment_of S.update_or_assignment S.simple S.simples S.line S.block S.block_after S.arm S.choice S.while S.for S.caught S.handler S.handled S.finished S.try S.parameter S.definition S.define S.compound S.chunk S.program R.piece read_chars
tree_3 = refl

tree_4 : read_chars One (codes "def f(): a; b\ng()\n") ≡ Ok (t.define (codes "f") ([]) (statements (t.assign [] (t.name (codes "a")) ∷ t.assign [] (t.name (codes "b")) ∷ [])) (codes "def f(): a; b") ∷ t.assign [] (t.primary (t.name (codes "g")) (trailers (t.call (arguments ([])) ∷ []))) ∷ [])
unfolding reserved_marks delimiter operator numeral Q.escape Q.item Q.closes Q.body Q.quoted token_piece lexeme cut indented begin bracket step layout encode_utf8 code_of E.keyword_begins E.another E.argument E.attribute E.call E.slice_after E.item_or_slice E.trailer E.parenthesised E.list E.pair E.dict E.atom E.primary_parts E.primary E.power E.unary_level E.term E.sum E.compared E.negated_level E.conjunction E.disjunction E.expr_level E.exprs_level E.phrase S.primary_at S.another_simple S.raise S.return S.assertion S.delete S.global S.import S.update_of S.assignment_of S.update_or_assignment S.simple S.simples S.line S.block S.block_after S.arm S.choice S.while S.for S.caught S.handler S.handled S.finished S.try S.parameter S.definition S.define S.compound S.chunk S.program R.piece read_chars
tree_4 = refl

tree_5 : read_chars One (codes "a[b](c)[d:e].f(g)\n") ≡ Ok (t.assign [] (t.primary (t.name (codes "a")) (trailers (t.index (t.name (codes "b")) ∷ t.call (arguments (t.plain (t.name (codes "c")) ∷ [])) ∷ t.slice (bound (t.name (codes "d"))) (bound (t.name (codes "e"))) absent ∷ t.attribute (codes "f") ∷ t.call (arguments (t.plain (t.name (codes "g")) ∷ [])) ∷ []))) ∷ [])
unfolding reserved_marks delimiter operator numeral Q.escape Q.item Q.closes Q.body Q.quoted token_piece lexeme cut indented begin bracket step layout encode_utf8 code_of E.keyword_begins E.another E.argument E.attribute E.call E.slice_after E.item_or_slice E.trailer E.parenthesised E.list E.pair E.dict E.atom E.primary_parts E.primary E.power E.unary_level E.term E.sum E.compared E.negated_level E.conjunction E.disjunction E.expr_level E.exprs_level E.phrase S.primary_at S.another_simple S.raise S.return S.assertion S.delete S.global S.import S.update_of S.assignment_of S.update_or_assignment S.simple S.simples S.line S.block S.block_after S.arm S.choice S.while S.for S.caught S.handler S.handled S.finished S.try S.parameter S.definition S.define S.compound S.chunk S.program R.piece read_chars
tree_5 = refl

tree_6 : read_chars One (codes "x = not a in b\n") ≡ Ok (t.assign ((t.name (codes "x")) ∷ []) (t.not (t.compared (t.name (codes "a")) (links ((c.In, (t.name (codes "b"))) ∷ [])))) ∷ [])
unfolding reserved_marks delimiter operator numeral Q.escape Q.item Q.closes Q.body Q.quoted token_piece lexeme cut indented begin bracket step layout encode_utf8 code_of E.keyword_begins E.another E.argument E.attribute E.call E.slice_after E.item_or_slice E.trailer E.parenthesised E.list E.pair E.dict E.atom E.primary_parts E.primary E.power E.unary_level E.term E.sum E.compared E.negated_level E.conjunction E.disjunction E.expr_level E.exprs_level E.phrase S.primary_at S.another_simple S.raise S.return S.assertion S.delete S.global S.import S.update_of S.assignment_of S.update_or_assignment S.simple S.simples S.line S.block S.block_after S.arm S.choice S.while S.for S.caught S.handler S.handled S.finished S.try S.parameter S.definition S.define S.compound S.chunk S.program R.piece read_chars
tree_6 = refl

tree_7 : read_chars One (codes "for x in a if b else c: d\n") ≡ Ok (t.for (t.name (codes "x")) (t.conditional (t.name (codes "a")) (t.name (codes "b")) (t.name (codes "c"))) (statements (t.assign [] (t.name (codes "d")) ∷ [])) ∷ [])
unfolding reserved_marks delimiter operator numeral Q.escape Q.item Q.closes Q.body Q.quoted token_piece lexeme cut indented begin bracket step layout encode_utf8 code_of E.keyword_begins E.another E.argument E.attribute E.call E.slice_after E.item_or_slice E.trailer E.parenthesised E.list E.pair E.dict E.atom E.primary_parts E.primary E.power E.unary_level E.term E.sum E.compared E.negated_level E.conjunction E.disjunction E.expr_level E.exprs_level E.phrase S.primary_at S.another_simple S.raise S.return S.assertion S.delete S.global S.import S.update_of S.assignment_of S.update_or_assignment S.simple S.simples S.line S.block S.block_after S.arm S.choice S.while S.for S.caught S.handler S.handled S.finished S.try S.parameter S.definition S.define S.compound S.chunk S.program R.piece read_chars
tree_7 = refl

tree_8 : read_chars One (codes "for a[0], b.c, (d, [e]), in f: g\n") ≡ Ok (t.for (t.tuple (expressions ((t.primary (t.name (codes "a")) (trailers (t.index (t.integer (pos 0)) ∷ []))) ∷ (t.primary (t.name (codes "b")) (trailers (t.attribute (codes "c") ∷ []))) ∷ (t.paren (t.tuple (expressions ((t.name (codes "d")) ∷ (t.list (expressions ((t.name (codes "e")) ∷ []))) ∷ [])))) ∷ []))) (t.name (codes "f")) (statements (t.assign [] (t.name (codes "g")) ∷ [])) ∷ [])
unfolding reserved_marks delimiter operator numeral Q.escape Q.item Q.closes Q.body Q.quoted token_piece lexeme cut indented begin bracket step layout encode_utf8 code_of E.keyword_begins E.another E.argument E.attribute E.call E.slice_after E.item_or_slice E.trailer E.parenthesised E.list E.pair E.dict E.atom E.primary_parts E.primary E.power E.unary_level E.term E.sum E.compared E.negated_level E.conjunction E.disjunction E.expr_level E.exprs_level E.phrase S.primary_at S.another_simple S.raise S.return S.assertion S.delete S.global S.import S.update_of S.assignment_of S.update_or_assignment S.simple S.simples S.line S.block S.block_after S.arm S.choice S.while S.for S.caught S.handler S.handled S.finished S.try S.parameter S.definition S.define S.compound S.chunk S.program R.piece read_chars
tree_8 = refl

tree_9 : read_chars One (codes "del a[b], c(d).e\n") ≡ Ok (t.delete ((t.primary (t.name (codes "a")) (trailers (t.index (t.name (codes "b")) ∷ []))) ∷ (t.primary (t.name (codes "c")) (trailers (t.call (arguments (t.plain (t.name (codes "d")) ∷ [])) ∷ t.attribute (codes "e") ∷ []))) ∷ []) ∷ [])
unfolding reserved_marks delimiter operator numeral Q.escape Q.item Q.closes Q.body Q.quoted token_piece lexeme cut indented begin bracket step layout encode_utf8 code_of E.keyword_begins E.another E.argument E.attribute E.call E.slice_after E.item_or_slice E.trailer E.parenthesised E.list E.pair E.dict E.atom E.primary_parts E.primary E.power E.unary_level E.term E.sum E.compared E.negated_level E.conjunction E.disjunction E.expr_level E.exprs_level E.phrase S.primary_at S.another_simple S.raise S.return S.assertion S.delete S.global S.import S.update_of S.assignment_of S.update_or_assignment S.simple S.simples S.line S.block S.block_after S.arm S.choice S.while S.for S.caught S.handler S.handled S.finished S.try S.parameter S.definition S.define S.compound S.chunk S.program R.piece read_chars
tree_9 = refl

tree_10 : read_chars One (codes "try: a\nexcept (B): raise C\n") ≡ Ok (t.try (statements (t.assign [] (t.name (codes "a")) ∷ [])) (handlers (record { class = (Some (t.paren (t.name (codes "B")))); caught = None; body = (statements (t.raise (Some (t.name (codes "C"))) ∷ [])) } ∷ [])) (statements ([])) (statements ([])) ∷ [])
unfolding reserved_marks delimiter operator numeral Q.escape Q.item Q.closes Q.body Q.quoted token_piece lexeme cut indented begin bracket step layout encode_utf8 code_of E.keyword_begins E.another E.argument E.attribute E.call E.slice_after E.item_or_slice E.trailer E.parenthesised E.list E.pair E.dict E.atom E.primary_parts E.primary E.power E.unary_level E.term E.sum E.compared E.negated_level E.conjunction E.disjunction E.expr_level E.exprs_level E.phrase S.primary_at S.another_simple S.raise S.return S.assertion S.delete S.global S.import S.update_of S.assignment_of S.update_or_assignment S.simple S.simples S.line S.block S.block_after S.arm S.choice S.while S.for S.caught S.handler S.handled S.finished S.try S.parameter S.definition S.define S.compound S.chunk S.program R.piece read_chars
tree_10 = refl

tree_11 : read_chars One (codes "-1 ** -2\n") ≡ Ok (t.assign [] (t.signed s.Minus (t.power (t.integer (pos 1)) (t.signed s.Minus (t.integer (pos 2))))) ∷ [])
unfolding reserved_marks delimiter operator numeral Q.escape Q.item Q.closes Q.body Q.quoted token_piece lexeme cut indented begin bracket step layout encode_utf8 code_of E.keyword_begins E.another E.argument E.attribute E.call E.slice_after E.item_or_slice E.trailer E.parenthesised E.list E.pair E.dict E.atom E.primary_parts E.primary E.power E.unary_level E.term E.sum E.compared E.negated_level E.conjunction E.disjunction E.expr_level E.exprs_level E.phrase S.primary_at S.another_simple S.raise S.return S.assertion S.delete S.global S.import S.update_of S.assignment_of S.update_or_assignment S.simple S.simples S.line S.block S.block_after S.arm S.choice S.while S.for S.caught S.handler S.handled S.finished S.try S.parameter S.definition S.define S.compound S.chunk S.program R.piece read_chars
tree_11 = refl

tree_12 : read_chars One (codes "a if b else c, d\n") ≡ Ok (t.assign [] (t.tuple (expressions ((t.conditional (t.name (codes "a")) (t.name (codes "b")) (t.name (codes "c"))) ∷ (t.name (codes "d")) ∷ []))) ∷ [])
unfolding reserved_marks delimiter operator numeral Q.escape Q.item Q.closes Q.body Q.quoted token_piece lexeme cut indented begin bracket step layout encode_utf8 code_of E.keyword_begins E.another E.argument E.attribute E.call E.slice_after E.item_or_slice E.trailer E.parenthesised E.list E.pair E.dict E.atom E.primary_parts E.primary E.power E.unary_level E.term E.sum E.compared E.negated_level E.conjunction E.disjunction E.expr_level E.exprs_level E.phrase S.primary_at S.another_simple S.raise S.return S.assertion S.delete S.global S.import S.update_of S.assignment_of S.update_or_assignment S.simple S.simples S.line S.block S.block_after S.arm S.choice S.while S.for S.caught S.handler S.handled S.finished S.try S.parameter S.definition S.define S.compound S.chunk S.program R.piece read_chars
tree_12 = refl

tree_13 : read_chars One (codes "f(a if b else c, d=e or g)\n") ≡ Ok (t.assign [] (t.primary (t.name (codes "f")) (trailers (t.call (arguments (t.plain (t.conditional (t.name (codes "a")) (t.name (codes "b")) (t.name (codes "c"))) ∷ t.keyword (codes "d") (t.or (expressions ((t.name (codes "e")) ∷ (t.name (codes "g")) ∷ []))) ∷ [])) ∷ []))) ∷ [])
unfolding reserved_marks delimiter operator numeral Q.escape Q.item Q.closes Q.body Q.quoted token_piece lexeme cut indented begin bracket step layout encode_utf8 code_of E.keyword_begins E.another E.argument E.attribute E.call E.slice_after E.item_or_slice E.trailer E.parenthesised E.list E.pair E.dict E.atom E.primary_parts E.primary E.power E.unary_level E.term E.sum E.compared E.negated_level E.conjunction E.disjunction E.expr_level E.exprs_level E.phrase S.primary_at S.another_simple S.raise S.return S.assertion S.delete S.global S.import S.update_of S.assignment_of S.update_or_assignment S.simple S.simples S.line S.block S.block_after S.arm S.choice S.while S.for S.caught S.handler S.handled S.finished S.try S.parameter S.definition S.define S.compound S.chunk S.program R.piece read_chars
tree_13 = refl

tree_14 : read_chars One (codes "x = y = z = (a)\n") ≡ Ok (t.assign ((t.name (codes "x")) ∷ (t.name (codes "y")) ∷ (t.name (codes "z")) ∷ []) (t.paren (t.name (codes "a"))) ∷ [])
unfolding reserved_marks delimiter operator numeral Q.escape Q.item Q.closes Q.body Q.quoted token_piece lexeme cut indented begin bracket step layout encode_utf8 code_of E.keyword_begins E.another E.argument E.attribute E.call E.slice_after E.item_or_slice E.trailer E.parenthesised E.list E.pair E.dict E.atom E.primary_parts E.primary E.power E.unary_level E.term E.sum E.compared E.negated_level E.conjunction E.disjunction E.expr_level E.exprs_level E.phrase S.primary_at S.another_simple S.raise S.return S.assertion S.delete S.global S.import S.update_of S.assignment_of S.update_or_assignment S.simple S.simples S.line S.block S.block_after S.arm S.choice S.while S.for S.caught S.handler S.handled S.finished S.try S.parameter S.definition S.define S.compound S.chunk S.program R.piece read_chars
tree_14 = refl

tree_15 : read_chars One (codes "{a: b if c else d}\n") ≡ Ok (t.assign [] (t.dict (pairs (((t.name (codes "a")), (t.conditional (t.name (codes "b")) (t.name (codes "c")) (t.name (codes "d")))) ∷ []))) ∷ [])
unfolding reserved_marks delimiter operator numeral Q.escape Q.item Q.closes Q.body Q.quoted token_piece lexeme cut indented begin bracket step layout encode_utf8 code_of E.keyword_begins E.another E.argument E.attribute E.call E.slice_after E.item_or_slice E.trailer E.parenthesised E.list E.pair E.dict E.atom E.primary_parts E.primary E.power E.unary_level E.term E.sum E.compared E.negated_level E.conjunction E.disjunction E.expr_level E.exprs_level E.phrase S.primary_at S.another_simple S.raise S.return S.assertion S.delete S.global S.import S.update_of S.assignment_of S.update_or_assignment S.simple S.simples S.line S.block S.block_after S.arm S.choice S.while S.for S.caught S.handler S.handled S.finished S.try S.parameter S.definition S.define S.compound S.chunk S.program R.piece read_chars
tree_15 = refl

tree_16 : read_chars One (codes "a.b = c.d.e = f\n") ≡ Ok (t.assign ((t.primary (t.name (codes "a")) (trailers (t.attribute (codes "b") ∷ []))) ∷ (t.primary (t.name (codes "c")) (trailers (t.attribute (codes "d") ∷ t.attribute (codes "e") ∷ []))) ∷ []) (t.name (codes "f")) ∷ [])
unfolding reserved_marks delimiter operator numeral Q.escape Q.item Q.closes Q.body Q.quoted token_piece lexeme cut indented begin bracket step layout encode_utf8 code_of E.keyword_begins E.another E.argument E.attribute E.call E.slice_after E.item_or_slice E.trailer E.parenthesised E.list E.pair E.dict E.atom E.primary_parts E.primary E.power E.unary_level E.term E.sum E.compared E.negated_level E.conjunction E.disjunction E.expr_level E.exprs_level E.phrase S.primary_at S.another_simple S.raise S.return S.assertion S.delete S.global S.import S.update_of S.assignment_of S.update_or_assignment S.simple S.simples S.line S.block S.block_after S.arm S.choice S.while S.for S.caught S.handler S.handled S.finished S.try S.parameter S.definition S.define S.compound S.chunk S.program R.piece read_chars
tree_16 = refl

tree_17 : read_chars One (codes "while True:\n  try:\n    break\n  finally:\n    continue\n") ≡ Ok (t.while t.true (statements (t.finally (statements (t.break ∷ [])) (statements (t.continue ∷ [])) ∷ [])) ∷ [])
unfolding reserved_marks delimiter operator numeral Q.escape Q.item Q.closes Q.body Q.quoted token_piece lexeme cut indented begin bracket step layout encode_utf8 code_of E.keyword_begins E.another E.argument E.attribute E.call E.slice_after E.item_or_slice E.trailer E.parenthesised E.list E.pair E.dict E.atom E.primary_parts E.primary E.power E.unary_level E.term E.sum E.compared E.negated_level E.conjunction E.disjunction E.expr_level E.exprs_level E.phrase S.primary_at S.another_simple S.raise S.return S.assertion S.delete S.global S.import S.update_of S.assignment_of S.update_or_assignment S.simple S.simples S.line S.block S.block_after S.arm S.choice S.while S.for S.caught S.handler S.handled S.finished S.try S.parameter S.definition S.define S.compound S.chunk S.program R.piece read_chars
tree_17 = refl

tree_18 : read_chars One (codes "def f(a, b, c=d, e=g): return\n") ≡ Ok (t.define (codes "f") (((codes "a"), None) ∷ ((codes "b"), None) ∷ ((codes "c"), (Some (t.name (codes "d")))) ∷ ((codes "e"), (Some (t.name (codes "g")))) ∷ []) (statements (t.return None ∷ [])) (codes "def f(a, b, c=d, e=g): return") ∷ [])
unfolding reserved_marks delimiter operator numeral Q.escape Q.item Q.closes Q.body Q.quoted token_piece lexeme cut indented begin bracket step layout encode_utf8 code_of E.keyword_begins E.another E.argument E.attribute E.call E.slice_after E.item_or_slice E.trailer E.parenthesised E.list E.pair E.dict E.atom E.primary_parts E.primary E.power E.unary_level E.term E.sum E.compared E.negated_level E.conjunction E.disjunction E.expr_level E.exprs_level E.phrase S.primary_at S.another_simple S.raise S.return S.assertion S.delete S.global S.import S.update_of S.assignment_of S.update_or_assignment S.simple S.simples S.line S.block S.block_after S.arm S.choice S.while S.for S.caught S.handler S.handled S.finished S.try S.parameter S.definition S.define S.compound S.chunk S.program R.piece read_chars
tree_18 = refl

tree_19 : read_chars One (codes "def f():\n  for x in y:\n    if z:\n      continue\n    else:\n      break\n  global w\n") ≡ Ok (t.define (codes "f") ([]) (statements (t.for (t.name (codes "x")) (t.name (codes "y")) (statements (t.choose (arms (((t.name (codes "z")), (statements (t.continue ∷ []))) ∷ [])) (statements (t.break ∷ [])) ∷ [])) ∷ t.global ((codes "w") ∷ []) ∷ [])) (codes "def f():\n  for x in y:\n    if z:\n      continue\n    else:\n      break\n  global w") ∷ [])
unfolding reserved_marks delimiter operator numeral Q.escape Q.item Q.closes Q.body Q.quoted token_piece lexeme cut indented begin bracket step layout encode_utf8 code_of E.keyword_begins E.another E.argument E.attribute E.call E.slice_after E.item_or_slice E.trailer E.parenthesised E.list E.pair E.dict E.atom E.primary_parts E.primary E.power E.unary_level E.term E.sum E.compared E.negated_level E.conjunction E.disjunction E.expr_level E.exprs_level E.phrase S.primary_at S.another_simple S.raise S.return S.assertion S.delete S.global S.import S.update_of S.assignment_of S.update_or_assignment S.simple S.simples S.line S.block S.block_after S.arm S.choice S.while S.for S.caught S.handler S.handled S.finished S.try S.parameter S.definition S.define S.compound S.chunk S.program R.piece read_chars
tree_19 = refl

tree_20 : read_chars One (codes "x") ≡ Ok (t.assign [] (t.name (codes "x")) ∷ [])
unfolding reserved_marks delimiter operator numeral Q.escape Q.item Q.closes Q.body Q.quoted token_piece lexeme cut indented begin bracket step layout encode_utf8 code_of E.keyword_begins E.another E.argument E.attribute E.call E.slice_after E.item_or_slice E.trailer E.parenthesised E.list E.pair E.dict E.atom E.primary_parts E.primary E.power E.unary_level E.term E.sum E.compared E.negated_level E.conjunction E.disjunction E.expr_level E.exprs_level E.phrase S.primary_at S.another_simple S.raise S.return S.assertion S.delete S.global S.import S.update_of S.assignment_of S.update_or_assignment S.simple S.simples S.line S.block S.block_after S.arm S.choice S.while S.for S.caught S.handler S.handled S.finished S.try S.parameter S.definition S.define S.compound S.chunk S.program R.piece read_chars
tree_20 = refl

tree_21 : read_chars One (120 ∷ 32 ∷ 61 ∷ 32 ∷ 49 ∷ 13 ∷ 10 ∷ 100 ∷ 101 ∷ 102 ∷ 32 ∷ 102 ∷ 40 ∷ 41 ∷ 58 ∷ 13 ∷ 10 ∷ 32 ∷ 32 ∷ 97 ∷ 13 ∷ 10 ∷ 13 ∷ 10 ∷ 32 ∷ 32 ∷ 114 ∷ 101 ∷ 116 ∷ 117 ∷ 114 ∷ 110 ∷ 32 ∷ 98 ∷ 13 ∷ 10 ∷ 102 ∷ 40 ∷ 41 ∷ 13 ∷ 10 ∷ []) ≡ Ok (t.assign ((t.name (codes "x")) ∷ []) (t.integer (pos 1)) ∷ t.define (codes "f") ([]) (statements (t.assign [] (t.name (codes "a")) ∷ t.return (Some (t.name (codes "b"))) ∷ [])) (codes "def f():\n  a\n\n  return b") ∷ t.assign [] (t.primary (t.name (codes "f")) (trailers (t.call (arguments ([])) ∷ []))) ∷ [])
unfolding reserved_marks delimiter operator numeral Q.escape Q.item Q.closes Q.body Q.quoted token_piece lexeme cut indented begin bracket step layout encode_utf8 code_of E.keyword_begins E.another E.argument E.attribute E.call E.slice_after E.item_or_slice E.trailer E.parenthesised E.list E.pair E.dict E.atom E.primary_parts E.primary E.power E.unary_level E.term E.sum E.compared E.negated_level E.conjunction E.disjunction E.expr_level E.exprs_level E.phrase S.primary_at S.another_simple S.raise S.return S.assertion S.delete S.global S.import S.update_of S.assignment_of S.update_or_assignment S.simple S.simples S.line S.block S.block_after S.arm S.choice S.while S.for S.caught S.handler S.handled S.finished S.try S.parameter S.definition S.define S.compound S.chunk S.program R.piece read_chars
tree_21 = refl

tree_22 : read_chars One (codes "a = \\\n  b + (c\n  + d)") ≡ Ok (t.assign ((t.name (codes "a")) ∷ []) (t.sum (t.name (codes "b")) (operands ((o.Add, (t.paren (t.sum (t.name (codes "c")) (operands ((o.Add, (t.name (codes "d"))) ∷ []))))) ∷ []))) ∷ [])
unfolding reserved_marks delimiter operator numeral Q.escape Q.item Q.closes Q.body Q.quoted token_piece lexeme cut indented begin bracket step layout encode_utf8 code_of E.keyword_begins E.another E.argument E.attribute E.call E.slice_after E.item_or_slice E.trailer E.parenthesised E.list E.pair E.dict E.atom E.primary_parts E.primary E.power E.unary_level E.term E.sum E.compared E.negated_level E.conjunction E.disjunction E.expr_level E.exprs_level E.phrase S.primary_at S.another_simple S.raise S.return S.assertion S.delete S.global S.import S.update_of S.assignment_of S.update_or_assignment S.simple S.simples S.line S.block S.block_after S.arm S.choice S.while S.for S.caught S.handler S.handled S.finished S.try S.parameter S.definition S.define S.compound S.chunk S.program R.piece read_chars
tree_22 = refl

tree_23 : read_chars One (codes "0x1F, 0o17, 0b11, 1_000, 0, 170141183460469231731687303715884105727\n") ≡ Ok (t.assign [] (t.tuple (expressions ((t.integer (pos 31)) ∷ (t.integer (pos 15)) ∷ (t.integer (pos 3)) ∷ (t.integer (pos 1000)) ∷ (t.integer (pos 0)) ∷ (t.integer (pos 170141183460469231731687303715884105727)) ∷ []))) ∷ [])
unfolding reserved_marks delimiter operator numeral Q.escape Q.item Q.closes Q.body Q.quoted token_piece lexeme cut indented begin bracket step layout encode_utf8 code_of E.keyword_begins E.another E.argument E.attribute E.call E.slice_after E.item_or_slice E.trailer E.parenthesised E.list E.pair E.dict E.atom E.primary_parts E.primary E.power E.unary_level E.term E.sum E.compared E.negated_level E.conjunction E.disjunction E.expr_level E.exprs_level E.phrase S.primary_at S.another_simple S.raise S.return S.assertion S.delete S.global S.import S.update_of S.assignment_of S.update_or_assignment S.simple S.simples S.line S.block S.block_after S.arm S.choice S.while S.for S.caught S.handler S.handled S.finished S.try S.parameter S.definition S.define S.compound S.chunk S.program R.piece read_chars
tree_23 = refl

tree_24 : read_chars One (codes "try: a\nexcept A: b\nelse: c\n") ≡ Ok (t.try (statements (t.assign [] (t.name (codes "a")) ∷ [])) (handlers (record { class = (Some (t.name (codes "A"))); caught = None; body = (statements (t.assign [] (t.name (codes "b")) ∷ [])) } ∷ [])) (statements (t.assign [] (t.name (codes "c")) ∷ [])) (statements ([])) ∷ [])
unfolding reserved_marks delimiter operator numeral Q.escape Q.item Q.closes Q.body Q.quoted token_piece lexeme cut indented begin bracket step layout encode_utf8 code_of E.keyword_begins E.another E.argument E.attribute E.call E.slice_after E.item_or_slice E.trailer E.parenthesised E.list E.pair E.dict E.atom E.primary_parts E.primary E.power E.unary_level E.term E.sum E.compared E.negated_level E.conjunction E.disjunction E.expr_level E.exprs_level E.phrase S.primary_at S.another_simple S.raise S.return S.assertion S.delete S.global S.import S.update_of S.assignment_of S.update_or_assignment S.simple S.simples S.line S.block S.block_after S.arm S.choice S.while S.for S.caught S.handler S.handled S.finished S.try S.parameter S.definition S.define S.compound S.chunk S.program R.piece read_chars
tree_24 = refl

tree_25 : read_chars One (codes "try: a\nexcept A: b\nfinally: c\n") ≡ Ok (t.try (statements (t.assign [] (t.name (codes "a")) ∷ [])) (handlers (record { class = (Some (t.name (codes "A"))); caught = None; body = (statements (t.assign [] (t.name (codes "b")) ∷ [])) } ∷ [])) (statements ([])) (statements (t.assign [] (t.name (codes "c")) ∷ [])) ∷ [])
unfolding reserved_marks delimiter operator numeral Q.escape Q.item Q.closes Q.body Q.quoted token_piece lexeme cut indented begin bracket step layout encode_utf8 code_of E.keyword_begins E.another E.argument E.attribute E.call E.slice_after E.item_or_slice E.trailer E.parenthesised E.list E.pair E.dict E.atom E.primary_parts E.primary E.power E.unary_level E.term E.sum E.compared E.negated_level E.conjunction E.disjunction E.expr_level E.exprs_level E.phrase S.primary_at S.another_simple S.raise S.return S.assertion S.delete S.global S.import S.update_of S.assignment_of S.update_or_assignment S.simple S.simples S.line S.block S.block_after S.arm S.choice S.while S.for S.caught S.handler S.handled S.finished S.try S.parameter S.definition S.define S.compound S.chunk S.program R.piece read_chars
tree_25 = refl

tree_26 : read_chars One (codes "try:\n  a\nfinally:\n  try: b\n  except: c\n") ≡ Ok (t.finally (statements (t.assign [] (t.name (codes "a")) ∷ [])) (statements (t.try (statements (t.assign [] (t.name (codes "b")) ∷ [])) (handlers (record { class = None; caught = None; body = (statements (t.assign [] (t.name (codes "c")) ∷ [])) } ∷ [])) (statements ([])) (statements ([])) ∷ [])) ∷ [])
unfolding reserved_marks delimiter operator numeral Q.escape Q.item Q.closes Q.body Q.quoted token_piece lexeme cut indented begin bracket step layout encode_utf8 code_of E.keyword_begins E.another E.argument E.attribute E.call E.slice_after E.item_or_slice E.trailer E.parenthesised E.list E.pair E.dict E.atom E.primary_parts E.primary E.power E.unary_level E.term E.sum E.compared E.negated_level E.conjunction E.disjunction E.expr_level E.exprs_level E.phrase S.primary_at S.another_simple S.raise S.return S.assertion S.delete S.global S.import S.update_of S.assignment_of S.update_or_assignment S.simple S.simples S.line S.block S.block_after S.arm S.choice S.while S.for S.caught S.handler S.handled S.finished S.try S.parameter S.definition S.define S.compound S.chunk S.program R.piece read_chars
tree_26 = refl

tree_27 : read_chars One (codes "try: a\nexcept: b\nelse:\n  if c: d\n") ≡ Ok (t.try (statements (t.assign [] (t.name (codes "a")) ∷ [])) (handlers (record { class = None; caught = None; body = (statements (t.assign [] (t.name (codes "b")) ∷ [])) } ∷ [])) (statements (t.choose (arms (((t.name (codes "c")), (statements (t.assign [] (t.name (codes "d")) ∷ []))) ∷ [])) (statements ([])) ∷ [])) (statements ([])) ∷ [])
unfolding reserved_marks delimiter operator numeral Q.escape Q.item Q.closes Q.body Q.quoted token_piece lexeme cut indented begin bracket step layout encode_utf8 code_of E.keyword_begins E.another E.argument E.attribute E.call E.slice_after E.item_or_slice E.trailer E.parenthesised E.list E.pair E.dict E.atom E.primary_parts E.primary E.power E.unary_level E.term E.sum E.compared E.negated_level E.conjunction E.disjunction E.expr_level E.exprs_level E.phrase S.primary_at S.another_simple S.raise S.return S.assertion S.delete S.global S.import S.update_of S.assignment_of S.update_or_assignment S.simple S.simples S.line S.block S.block_after S.arm S.choice S.while S.for S.caught S.handler S.handled S.finished S.try S.parameter S.definition S.define S.compound S.chunk S.program R.piece read_chars
tree_27 = refl

tree_28 : read_chars One (codes "try: a\nexcept a.b(c) as d: e\nexcept B: f\n") ≡ Ok (t.try (statements (t.assign [] (t.name (codes "a")) ∷ [])) (handlers (record { class = (Some (t.primary (t.name (codes "a")) (trailers (t.attribute (codes "b") ∷ t.call (arguments (t.plain (t.name (codes "c")) ∷ [])) ∷ [])))); caught = (Some (codes "d")); body = (statements (t.assign [] (t.name (codes "e")) ∷ [])) } ∷ record { class = (Some (t.name (codes "B"))); caught = None; body = (statements (t.assign [] (t.name (codes "f")) ∷ [])) } ∷ [])) (statements ([])) (statements ([])) ∷ [])
unfolding reserved_marks delimiter operator numeral Q.escape Q.item Q.closes Q.body Q.quoted token_piece lexeme cut indented begin bracket step layout encode_utf8 code_of E.keyword_begins E.another E.argument E.attribute E.call E.slice_after E.item_or_slice E.trailer E.parenthesised E.list E.pair E.dict E.atom E.primary_parts E.primary E.power E.unary_level E.term E.sum E.compared E.negated_level E.conjunction E.disjunction E.expr_level E.exprs_level E.phrase S.primary_at S.another_simple S.raise S.return S.assertion S.delete S.global S.import S.update_of S.assignment_of S.update_or_assignment S.simple S.simples S.line S.block S.block_after S.arm S.choice S.while S.for S.caught S.handler S.handled S.finished S.try S.parameter S.definition S.define S.compound S.chunk S.program R.piece read_chars
tree_28 = refl

tree_29 : read_chars One (codes "def f(): return a, (b),\n") ≡ Ok (t.define (codes "f") ([]) (statements (t.return (Some (t.tuple (expressions ((t.name (codes "a")) ∷ (t.paren (t.name (codes "b"))) ∷ [])))) ∷ [])) (codes "def f(): return a, (b),") ∷ [])
unfolding reserved_marks delimiter operator numeral Q.escape Q.item Q.closes Q.body Q.quoted token_piece lexeme cut indented begin bracket step layout encode_utf8 code_of E.keyword_begins E.another E.argument E.attribute E.call E.slice_after E.item_or_slice E.trailer E.parenthesised E.list E.pair E.dict E.atom E.primary_parts E.primary E.power E.unary_level E.term E.sum E.compared E.negated_level E.conjunction E.disjunction E.expr_level E.exprs_level E.phrase S.primary_at S.another_simple S.raise S.return S.assertion S.delete S.global S.import S.update_of S.assignment_of S.update_or_assignment S.simple S.simples S.line S.block S.block_after S.arm S.choice S.while S.for S.caught S.handler S.handled S.finished S.try S.parameter S.definition S.define S.compound S.chunk S.program R.piece read_chars
tree_29 = refl

tree_30 : read_chars One (codes "def f(a): return\ndef g(a, b,): f(a); return f(b)\n") ≡ Ok (t.define (codes "f") (((codes "a"), None) ∷ []) (statements (t.return None ∷ [])) (codes "def f(a): return") ∷ t.define (codes "g") (((codes "a"), None) ∷ ((codes "b"), None) ∷ []) (statements (t.assign [] (t.primary (t.name (codes "f")) (trailers (t.call (arguments (t.plain (t.name (codes "a")) ∷ [])) ∷ []))) ∷ t.return (Some (t.primary (t.name (codes "f")) (trailers (t.call (arguments (t.plain (t.name (codes "b")) ∷ [])) ∷ [])))) ∷ [])) (codes "def g(a, b,): f(a); return f(b)") ∷ [])
unfolding reserved_marks delimiter operator numeral Q.escape Q.item Q.closes Q.body Q.quoted token_piece lexeme cut indented begin bracket step layout encode_utf8 code_of E.keyword_begins E.another E.argument E.attribute E.call E.slice_after E.item_or_slice E.trailer E.parenthesised E.list E.pair E.dict E.atom E.primary_parts E.primary E.power E.unary_level E.term E.sum E.compared E.negated_level E.conjunction E.disjunction E.expr_level E.exprs_level E.phrase S.primary_at S.another_simple S.raise S.return S.assertion S.delete S.global S.import S.update_of S.assignment_of S.update_or_assignment S.simple S.simples S.line S.block S.block_after S.arm S.choice S.while S.for S.caught S.handler S.handled S.finished S.try S.parameter S.definition S.define S.compound S.chunk S.program R.piece read_chars
tree_30 = refl

tree_31 : read_chars One (codes "f(a,)(b=1,)()[c](d, e=1)\n") ≡ Ok (t.assign [] (t.primary (t.name (codes "f")) (trailers (t.call (arguments (t.plain (t.name (codes "a")) ∷ [])) ∷ t.call (arguments (t.keyword (codes "b") (t.integer (pos 1)) ∷ [])) ∷ t.call (arguments ([])) ∷ t.index (t.name (codes "c")) ∷ t.call (arguments (t.plain (t.name (codes "d")) ∷ t.keyword (codes "e") (t.integer (pos 1)) ∷ [])) ∷ []))) ∷ [])
unfolding reserved_marks delimiter operator numeral Q.escape Q.item Q.closes Q.body Q.quoted token_piece lexeme cut indented begin bracket step layout encode_utf8 code_of E.keyword_begins E.another E.argument E.attribute E.call E.slice_after E.item_or_slice E.trailer E.parenthesised E.list E.pair E.dict E.atom E.primary_parts E.primary E.power E.unary_level E.term E.sum E.compared E.negated_level E.conjunction E.disjunction E.expr_level E.exprs_level E.phrase S.primary_at S.another_simple S.raise S.return S.assertion S.delete S.global S.import S.update_of S.assignment_of S.update_or_assignment S.simple S.simples S.line S.block S.block_after S.arm S.choice S.while S.for S.caught S.handler S.handled S.finished S.try S.parameter S.definition S.define S.compound S.chunk S.program R.piece read_chars
tree_31 = refl

tree_32 : read_chars One (codes "[(a, b), [c], {d: (e)}, ()][0][1:]\n") ≡ Ok (t.assign [] (t.primary (t.list (expressions ((t.paren (t.tuple (expressions ((t.name (codes "a")) ∷ (t.name (codes "b")) ∷ [])))) ∷ (t.list (expressions ((t.name (codes "c")) ∷ []))) ∷ (t.dict (pairs (((t.name (codes "d")), (t.paren (t.name (codes "e")))) ∷ []))) ∷ (t.tuple (expressions ([]))) ∷ []))) (trailers (t.index (t.integer (pos 0)) ∷ t.slice (bound (t.integer (pos 1))) absent absent ∷ []))) ∷ [])
unfolding reserved_marks delimiter operator numeral Q.escape Q.item Q.closes Q.body Q.quoted token_piece lexeme cut indented begin bracket step layout encode_utf8 code_of E.keyword_begins E.another E.argument E.attribute E.call E.slice_after E.item_or_slice E.trailer E.parenthesised E.list E.pair E.dict E.atom E.primary_parts E.primary E.power E.unary_level E.term E.sum E.compared E.negated_level E.conjunction E.disjunction E.expr_level E.exprs_level E.phrase S.primary_at S.another_simple S.raise S.return S.assertion S.delete S.global S.import S.update_of S.assignment_of S.update_or_assignment S.simple S.simples S.line S.block S.block_after S.arm S.choice S.while S.for S.caught S.handler S.handled S.finished S.try S.parameter S.definition S.define S.compound S.chunk S.program R.piece read_chars
tree_32 = refl

tree_33 : read_chars One (codes "(a.b)[c].d = (e) = f\n") ≡ Ok (t.assign ((t.primary (t.paren (t.primary (t.name (codes "a")) (trailers (t.attribute (codes "b") ∷ [])))) (trailers (t.index (t.name (codes "c")) ∷ t.attribute (codes "d") ∷ []))) ∷ (t.paren (t.name (codes "e"))) ∷ []) (t.name (codes "f")) ∷ [])
unfolding reserved_marks delimiter operator numeral Q.escape Q.item Q.closes Q.body Q.quoted token_piece lexeme cut indented begin bracket step layout encode_utf8 code_of E.keyword_begins E.another E.argument E.attribute E.call E.slice_after E.item_or_slice E.trailer E.parenthesised E.list E.pair E.dict E.atom E.primary_parts E.primary E.power E.unary_level E.term E.sum E.compared E.negated_level E.conjunction E.disjunction E.expr_level E.exprs_level E.phrase S.primary_at S.another_simple S.raise S.return S.assertion S.delete S.global S.import S.update_of S.assignment_of S.update_or_assignment S.simple S.simples S.line S.block S.block_after S.arm S.choice S.while S.for S.caught S.handler S.handled S.finished S.try S.parameter S.definition S.define S.compound S.chunk S.program R.piece read_chars
tree_33 = refl

tree_34 : read_chars One (codes "(a)[0], [b.c] = d\n") ≡ Ok (t.assign ((t.tuple (expressions ((t.primary (t.paren (t.name (codes "a"))) (trailers (t.index (t.integer (pos 0)) ∷ []))) ∷ (t.list (expressions ((t.primary (t.name (codes "b")) (trailers (t.attribute (codes "c") ∷ []))) ∷ []))) ∷ []))) ∷ []) (t.name (codes "d")) ∷ [])
unfolding reserved_marks delimiter operator numeral Q.escape Q.item Q.closes Q.body Q.quoted token_piece lexeme cut indented begin bracket step layout encode_utf8 code_of E.keyword_begins E.another E.argument E.attribute E.call E.slice_after E.item_or_slice E.trailer E.parenthesised E.list E.pair E.dict E.atom E.primary_parts E.primary E.power E.unary_level E.term E.sum E.compared E.negated_level E.conjunction E.disjunction E.expr_level E.exprs_level E.phrase S.primary_at S.another_simple S.raise S.return S.assertion S.delete S.global S.import S.update_of S.assignment_of S.update_or_assignment S.simple S.simples S.line S.block S.block_after S.arm S.choice S.while S.for S.caught S.handler S.handled S.finished S.try S.parameter S.definition S.define S.compound S.chunk S.program R.piece read_chars
tree_34 = refl

tree_35 : read_chars One (codes "[[a, b], (c, [d]),] = e\n") ≡ Ok (t.assign ((t.list (expressions ((t.list (expressions ((t.name (codes "a")) ∷ (t.name (codes "b")) ∷ []))) ∷ (t.paren (t.tuple (expressions ((t.name (codes "c")) ∷ (t.list (expressions ((t.name (codes "d")) ∷ []))) ∷ [])))) ∷ []))) ∷ []) (t.name (codes "e")) ∷ [])
unfolding reserved_marks delimiter operator numeral Q.escape Q.item Q.closes Q.body Q.quoted token_piece lexeme cut indented begin bracket step layout encode_utf8 code_of E.keyword_begins E.another E.argument E.attribute E.call E.slice_after E.item_or_slice E.trailer E.parenthesised E.list E.pair E.dict E.atom E.primary_parts E.primary E.power E.unary_level E.term E.sum E.compared E.negated_level E.conjunction E.disjunction E.expr_level E.exprs_level E.phrase S.primary_at S.another_simple S.raise S.return S.assertion S.delete S.global S.import S.update_of S.assignment_of S.update_or_assignment S.simple S.simples S.line S.block S.block_after S.arm S.choice S.while S.for S.caught S.handler S.handled S.finished S.try S.parameter S.definition S.define S.compound S.chunk S.program R.piece read_chars
tree_35 = refl

tree_36 : read_chars One (codes "not a < b and c in d or not (e or f)\n") ≡ Ok (t.assign [] (t.or (expressions ((t.and (expressions ((t.not (t.compared (t.name (codes "a")) (links ((c.Less, (t.name (codes "b"))) ∷ [])))) ∷ (t.compared (t.name (codes "c")) (links ((c.In, (t.name (codes "d"))) ∷ []))) ∷ []))) ∷ (t.not (t.paren (t.or (expressions ((t.name (codes "e")) ∷ (t.name (codes "f")) ∷ []))))) ∷ []))) ∷ [])
unfolding reserved_marks delimiter operator numeral Q.escape Q.item Q.closes Q.body Q.quoted token_piece lexeme cut indented begin bracket step layout encode_utf8 code_of E.keyword_begins E.another E.argument E.attribute E.call E.slice_after E.item_or_slice E.trailer E.parenthesised E.list E.pair E.dict E.atom E.primary_parts E.primary E.power E.unary_level E.term E.sum E.compared E.negated_level E.conjunction E.disjunction E.expr_level E.exprs_level E.phrase S.primary_at S.another_simple S.raise S.return S.assertion S.delete S.global S.import S.update_of S.assignment_of S.update_or_assignment S.simple S.simples S.line S.block S.block_after S.arm S.choice S.while S.for S.caught S.handler S.handled S.finished S.try S.parameter S.definition S.define S.compound S.chunk S.program R.piece read_chars
tree_36 = refl

tree_37 : read_chars One (codes "(a ** b) ** c, (-a) ** b, -(-a), +a.b(c)\n") ≡ Ok (t.assign [] (t.tuple (expressions ((t.power (t.paren (t.power (t.name (codes "a")) (t.name (codes "b")))) (t.name (codes "c"))) ∷ (t.power (t.paren (t.signed s.Minus (t.name (codes "a")))) (t.name (codes "b"))) ∷ (t.signed s.Minus (t.paren (t.signed s.Minus (t.name (codes "a"))))) ∷ (t.signed s.Plus (t.primary (t.name (codes "a")) (trailers (t.attribute (codes "b") ∷ t.call (arguments (t.plain (t.name (codes "c")) ∷ [])) ∷ [])))) ∷ []))) ∷ [])
unfolding reserved_marks delimiter operator numeral Q.escape Q.item Q.closes Q.body Q.quoted token_piece lexeme cut indented begin bracket step layout encode_utf8 code_of E.keyword_begins E.another E.argument E.attribute E.call E.slice_after E.item_or_slice E.trailer E.parenthesised E.list E.pair E.dict E.atom E.primary_parts E.primary E.power E.unary_level E.term E.sum E.compared E.negated_level E.conjunction E.disjunction E.expr_level E.exprs_level E.phrase S.primary_at S.another_simple S.raise S.return S.assertion S.delete S.global S.import S.update_of S.assignment_of S.update_or_assignment S.simple S.simples S.line S.block S.block_after S.arm S.choice S.while S.for S.caught S.handler S.handled S.finished S.try S.parameter S.definition S.define S.compound S.chunk S.program R.piece read_chars
tree_37 = refl

tree_38 : read_chars One (codes "(a if b else c) if (d) else e\n") ≡ Ok (t.assign [] (t.conditional (t.paren (t.conditional (t.name (codes "a")) (t.name (codes "b")) (t.name (codes "c")))) (t.paren (t.name (codes "d"))) (t.name (codes "e"))) ∷ [])
unfolding reserved_marks delimiter operator numeral Q.escape Q.item Q.closes Q.body Q.quoted token_piece lexeme cut indented begin bracket step layout encode_utf8 code_of E.keyword_begins E.another E.argument E.attribute E.call E.slice_after E.item_or_slice E.trailer E.parenthesised E.list E.pair E.dict E.atom E.primary_parts E.primary E.power E.unary_level E.term E.sum E.compared E.negated_level E.conjunction E.disjunction E.expr_level E.exprs_level E.phrase S.primary_at S.another_simple S.raise S.return S.assertion S.delete S.global S.import S.update_of S.assignment_of S.update_or_assignment S.simple S.simples S.line S.block S.block_after S.arm S.choice S.while S.for S.caught S.handler S.handled S.finished S.try S.parameter S.definition S.define S.compound S.chunk S.program R.piece read_chars
tree_38 = refl

tree_39 : read_chars One (codes "a and b if c or d else not e\n") ≡ Ok (t.assign [] (t.conditional (t.and (expressions ((t.name (codes "a")) ∷ (t.name (codes "b")) ∷ []))) (t.or (expressions ((t.name (codes "c")) ∷ (t.name (codes "d")) ∷ []))) (t.not (t.name (codes "e")))) ∷ [])
unfolding reserved_marks delimiter operator numeral Q.escape Q.item Q.closes Q.body Q.quoted token_piece lexeme cut indented begin bracket step layout encode_utf8 code_of E.keyword_begins E.another E.argument E.attribute E.call E.slice_after E.item_or_slice E.trailer E.parenthesised E.list E.pair E.dict E.atom E.primary_parts E.primary E.power E.unary_level E.term E.sum E.compared E.negated_level E.conjunction E.disjunction E.expr_level E.exprs_level E.phrase S.primary_at S.another_simple S.raise S.return S.assertion S.delete S.global S.import S.update_of S.assignment_of S.update_or_assignment S.simple S.simples S.line S.block S.block_after S.arm S.choice S.while S.for S.caught S.handler S.handled S.finished S.try S.parameter S.definition S.define S.compound S.chunk S.program R.piece read_chars
tree_39 = refl

tree_40 : read_chars One (codes "a is not b, a is (not b), a not in (b), not (a in b)\n") ≡ Ok (t.assign [] (t.tuple (expressions ((t.compared (t.name (codes "a")) (links ((c.IsNot, (t.name (codes "b"))) ∷ []))) ∷ (t.compared (t.name (codes "a")) (links ((c.Is, (t.paren (t.not (t.name (codes "b"))))) ∷ []))) ∷ (t.compared (t.name (codes "a")) (links ((c.NotIn, (t.paren (t.name (codes "b")))) ∷ []))) ∷ (t.not (t.paren (t.compared (t.name (codes "a")) (links ((c.In, (t.name (codes "b"))) ∷ []))))) ∷ []))) ∷ [])
unfolding reserved_marks delimiter operator numeral Q.escape Q.item Q.closes Q.body Q.quoted token_piece lexeme cut indented begin bracket step layout encode_utf8 code_of E.keyword_begins E.another E.argument E.attribute E.call E.slice_after E.item_or_slice E.trailer E.parenthesised E.list E.pair E.dict E.atom E.primary_parts E.primary E.power E.unary_level E.term E.sum E.compared E.negated_level E.conjunction E.disjunction E.expr_level E.exprs_level E.phrase S.primary_at S.another_simple S.raise S.return S.assertion S.delete S.global S.import S.update_of S.assignment_of S.update_or_assignment S.simple S.simples S.line S.block S.block_after S.arm S.choice S.while S.for S.caught S.handler S.handled S.finished S.try S.parameter S.definition S.define S.compound S.chunk S.program R.piece read_chars
tree_40 = refl

tree_41 : read_chars One (codes "raise A('b')\n") ≡ Ok (t.raise (Some (t.primary (t.name (codes "A")) (trailers (t.call (arguments (t.plain (t.text (codes "b")) ∷ [])) ∷ [])))) ∷ [])
unfolding reserved_marks delimiter operator numeral Q.escape Q.item Q.closes Q.body Q.quoted token_piece lexeme cut indented begin bracket step layout encode_utf8 code_of E.keyword_begins E.another E.argument E.attribute E.call E.slice_after E.item_or_slice E.trailer E.parenthesised E.list E.pair E.dict E.atom E.primary_parts E.primary E.power E.unary_level E.term E.sum E.compared E.negated_level E.conjunction E.disjunction E.expr_level E.exprs_level E.phrase S.primary_at S.another_simple S.raise S.return S.assertion S.delete S.global S.import S.update_of S.assignment_of S.update_or_assignment S.simple S.simples S.line S.block S.block_after S.arm S.choice S.while S.for S.caught S.handler S.handled S.finished S.try S.parameter S.definition S.define S.compound S.chunk S.program R.piece read_chars
tree_41 = refl

tree_42 : read_chars One (codes "assert (a, b), c if d else e\n") ≡ Ok (t.assert (t.paren (t.tuple (expressions ((t.name (codes "a")) ∷ (t.name (codes "b")) ∷ [])))) (Some (t.conditional (t.name (codes "c")) (t.name (codes "d")) (t.name (codes "e")))) ∷ [])
unfolding reserved_marks delimiter operator numeral Q.escape Q.item Q.closes Q.body Q.quoted token_piece lexeme cut indented begin bracket step layout encode_utf8 code_of E.keyword_begins E.another E.argument E.attribute E.call E.slice_after E.item_or_slice E.trailer E.parenthesised E.list E.pair E.dict E.atom E.primary_parts E.primary E.power E.unary_level E.term E.sum E.compared E.negated_level E.conjunction E.disjunction E.expr_level E.exprs_level E.phrase S.primary_at S.another_simple S.raise S.return S.assertion S.delete S.global S.import S.update_of S.assignment_of S.update_or_assignment S.simple S.simples S.line S.block S.block_after S.arm S.choice S.while S.for S.caught S.handler S.handled S.finished S.try S.parameter S.definition S.define S.compound S.chunk S.program R.piece read_chars
tree_42 = refl

tree_43 : read_chars One (codes "while not a: b; break\n") ≡ Ok (t.while (t.not (t.name (codes "a"))) (statements (t.assign [] (t.name (codes "b")) ∷ t.break ∷ [])) ∷ [])
unfolding reserved_marks delimiter operator numeral Q.escape Q.item Q.closes Q.body Q.quoted token_piece lexeme cut indented begin bracket step layout encode_utf8 code_of E.keyword_begins E.another E.argument E.attribute E.call E.slice_after E.item_or_slice E.trailer E.parenthesised E.list E.pair E.dict E.atom E.primary_parts E.primary E.power E.unary_level E.term E.sum E.compared E.negated_level E.conjunction E.disjunction E.expr_level E.exprs_level E.phrase S.primary_at S.another_simple S.raise S.return S.assertion S.delete S.global S.import S.update_of S.assignment_of S.update_or_assignment S.simple S.simples S.line S.block S.block_after S.arm S.choice S.while S.for S.caught S.handler S.handled S.finished S.try S.parameter S.definition S.define S.compound S.chunk S.program R.piece read_chars
tree_43 = refl

tree_44 : read_chars One (codes "if a: b; c;\nelse: d; e\n") ≡ Ok (t.choose (arms (((t.name (codes "a")), (statements (t.assign [] (t.name (codes "b")) ∷ t.assign [] (t.name (codes "c")) ∷ []))) ∷ [])) (statements (t.assign [] (t.name (codes "d")) ∷ t.assign [] (t.name (codes "e")) ∷ [])) ∷ [])
unfolding reserved_marks delimiter operator numeral Q.escape Q.item Q.closes Q.body Q.quoted token_piece lexeme cut indented begin bracket step layout encode_utf8 code_of E.keyword_begins E.another E.argument E.attribute E.call E.slice_after E.item_or_slice E.trailer E.parenthesised E.list E.pair E.dict E.atom E.primary_parts E.primary E.power E.unary_level E.term E.sum E.compared E.negated_level E.conjunction E.disjunction E.expr_level E.exprs_level E.phrase S.primary_at S.another_simple S.raise S.return S.assertion S.delete S.global S.import S.update_of S.assignment_of S.update_or_assignment S.simple S.simples S.line S.block S.block_after S.arm S.choice S.while S.for S.caught S.handler S.handled S.finished S.try S.parameter S.definition S.define S.compound S.chunk S.program R.piece read_chars
tree_44 = refl

tree_45 : read_chars One (codes "if a:\n  if b: c\n  elif d: e\nelif f:\n  g\nelse:\n  h\n") ≡ Ok (t.choose (arms (((t.name (codes "a")), (statements (t.choose (arms (((t.name (codes "b")), (statements (t.assign [] (t.name (codes "c")) ∷ []))) ∷ ((t.name (codes "d")), (statements (t.assign [] (t.name (codes "e")) ∷ []))) ∷ [])) (statements ([])) ∷ []))) ∷ ((t.name (codes "f")), (statements (t.assign [] (t.name (codes "g")) ∷ []))) ∷ [])) (statements (t.assign [] (t.name (codes "h")) ∷ [])) ∷ [])
unfolding reserved_marks delimiter operator numeral Q.escape Q.item Q.closes Q.body Q.quoted token_piece lexeme cut indented begin bracket step layout encode_utf8 code_of E.keyword_begins E.another E.argument E.attribute E.call E.slice_after E.item_or_slice E.trailer E.parenthesised E.list E.pair E.dict E.atom E.primary_parts E.primary E.power E.unary_level E.term E.sum E.compared E.negated_level E.conjunction E.disjunction E.expr_level E.exprs_level E.phrase S.primary_at S.another_simple S.raise S.return S.assertion S.delete S.global S.import S.update_of S.assignment_of S.update_or_assignment S.simple S.simples S.line S.block S.block_after S.arm S.choice S.while S.for S.caught S.handler S.handled S.finished S.try S.parameter S.definition S.define S.compound S.chunk S.program R.piece read_chars
tree_45 = refl

tree_46 : read_chars One (codes "for x in a, b, (c): d\n") ≡ Ok (t.for (t.name (codes "x")) (t.tuple (expressions ((t.name (codes "a")) ∷ (t.name (codes "b")) ∷ (t.paren (t.name (codes "c"))) ∷ []))) (statements (t.assign [] (t.name (codes "d")) ∷ [])) ∷ [])
unfolding reserved_marks delimiter operator numeral Q.escape Q.item Q.closes Q.body Q.quoted token_piece lexeme cut indented begin bracket step layout encode_utf8 code_of E.keyword_begins E.another E.argument E.attribute E.call E.slice_after E.item_or_slice E.trailer E.parenthesised E.list E.pair E.dict E.atom E.primary_parts E.primary E.power E.unary_level E.term E.sum E.compared E.negated_level E.conjunction E.disjunction E.expr_level E.exprs_level E.phrase S.primary_at S.another_simple S.raise S.return S.assertion S.delete S.global S.import S.update_of S.assignment_of S.update_or_assignment S.simple S.simples S.line S.block S.block_after S.arm S.choice S.while S.for S.caught S.handler S.handled S.finished S.try S.parameter S.definition S.define S.compound S.chunk S.program R.piece read_chars
tree_46 = refl

tree_47 : read_chars One (codes "for x in y:\n  for z in x:\n    if z: break\n  continue\n") ≡ Ok (t.for (t.name (codes "x")) (t.name (codes "y")) (statements (t.for (t.name (codes "z")) (t.name (codes "x")) (statements (t.choose (arms (((t.name (codes "z")), (statements (t.break ∷ []))) ∷ [])) (statements ([])) ∷ [])) ∷ t.continue ∷ [])) ∷ [])
unfolding reserved_marks delimiter operator numeral Q.escape Q.item Q.closes Q.body Q.quoted token_piece lexeme cut indented begin bracket step layout encode_utf8 code_of E.keyword_begins E.another E.argument E.attribute E.call E.slice_after E.item_or_slice E.trailer E.parenthesised E.list E.pair E.dict E.atom E.primary_parts E.primary E.power E.unary_level E.term E.sum E.compared E.negated_level E.conjunction E.disjunction E.expr_level E.exprs_level E.phrase S.primary_at S.another_simple S.raise S.return S.assertion S.delete S.global S.import S.update_of S.assignment_of S.update_or_assignment S.simple S.simples S.line S.block S.block_after S.arm S.choice S.while S.for S.caught S.handler S.handled S.finished S.try S.parameter S.definition S.define S.compound S.chunk S.program R.piece read_chars
tree_47 = refl

tree_48 : read_chars One (codes "while a:\n  try: break\n  except A:\n    while b: raise\n  continue\n") ≡ Ok (t.while (t.name (codes "a")) (statements (t.try (statements (t.break ∷ [])) (handlers (record { class = (Some (t.name (codes "A"))); caught = None; body = (statements (t.while (t.name (codes "b")) (statements (t.raise None ∷ [])) ∷ [])) } ∷ [])) (statements ([])) (statements ([])) ∷ t.continue ∷ [])) ∷ [])
unfolding reserved_marks delimiter operator numeral Q.escape Q.item Q.closes Q.body Q.quoted token_piece lexeme cut indented begin bracket step layout encode_utf8 code_of E.keyword_begins E.another E.argument E.attribute E.call E.slice_after E.item_or_slice E.trailer E.parenthesised E.list E.pair E.dict E.atom E.primary_parts E.primary E.power E.unary_level E.term E.sum E.compared E.negated_level E.conjunction E.disjunction E.expr_level E.exprs_level E.phrase S.primary_at S.another_simple S.raise S.return S.assertion S.delete S.global S.import S.update_of S.assignment_of S.update_or_assignment S.simple S.simples S.line S.block S.block_after S.arm S.choice S.while S.for S.caught S.handler S.handled S.finished S.try S.parameter S.definition S.define S.compound S.chunk S.program R.piece read_chars
tree_48 = refl
