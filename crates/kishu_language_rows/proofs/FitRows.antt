-- Trees that fit, and functions whose codes read by themselves, by the laws that those of texts do. Made by tools/rows/tree_rows.py.
use Rattle.std.proofs.Common.{◌∷◌, [], refl, arith}
use Rattle.std.specs.Prelude.{pos, codes, Some, None}
use Rattle.std.specs.Char.{encode_utf8}
use Rattle.kishu_language.specs.declared.profile.Profile.TheVariants.{One}
use Rattle.kishu_language.specs.declared.tree.Operator.TheVariants as o
use Rattle.kishu_language.specs.tokens.Marks.{reserved_marks, delimiter, operator}
use Rattle.kishu_language.specs.tokens.Numerals.{numeral}
use Rattle.kishu_language.specs.tokens.Quoted as Q
use Rattle.kishu_language.specs.tokens.Lexemes.{token_piece, lexeme}
use Rattle.kishu_language.specs.tokens.Layout.{cut, indented, begin, bracket, step, layout}
use Rattle.kishu_language.specs.trees.Tree.{expressions, operands, links, pairs, trailers, arguments, statements, arms, handlers, absent, bound}
use Rattle.kishu_language.specs.trees.Tree as t
use Rattle.kishu_language.specs.trees.Code.{code_of}
use Rattle.kishu_language.specs.reading.ReadExpressions as E
use Rattle.kishu_language.specs.reading.ReadStatements as S
use Rattle.kishu_language.specs.reading.ReadText as R
use Rattle.kishu_language.specs.reading.ReadText.{read_chars}
use Rattle.std.specs.Str.{chars, is_utf8}
use Rattle.std.proofs.lemmas.Str.{IsUtf8-from_is_utf8}
use Rattle.kishu_language_laws.specs.reading.ExactText.{read_found}
use Rattle.kishu_language.specs.trees.Fits.{StatementsFit}
use Rattle.kishu_language.specs.trees.FunctionCodes.{CodesRead}
use Rattle.kishu_language_laws.specs.codes.CodeLaws.{codes_read}
use Rattle.kishu_language_laws.specs.trees.ParsedFits.{text_fits}

fit_1 : StatementsFit (statements ([]))
unfolding reserved_marks delimiter operator numeral Q.escape Q.item Q.closes Q.body Q.quoted token_piece lexeme cut indented begin bracket step layout encode_utf8 code_of E.keyword_begins E.another E.argument E.attribute E.call E.slice_after E.item_or_slice E.trailer E.parenthesised E.list E.pair E.dict E.atom E.primary_parts E.primary E.power E.unary_level E.term E.sum E.compared E.negated_level E.conjunction E.disjunction E.expr_level E.exprs_level E.phrase S.primary_at S.another_simple S.raise S.return S.assertion S.delete S.global S.import S.update_of S.assignment_of S.update_or_assignment S.simple S.simples S.line S.block S.block_after S.arm S.choice S.while S.for S.caught S.handler S.handled S.finished S.try S.parameter S.definition S.define S.compound S.chunk S.program R.piece read_chars chars is_utf8
fit_1 = text_fits One [] (IsUtf8-from_is_utf8 [] refl) (omega arith) ([]) (read_found One [] ([]) refl)

fit_2 : CodesRead One [] ([])
unfolding reserved_marks delimiter operator numeral Q.escape Q.item Q.closes Q.body Q.quoted token_piece lexeme cut indented begin bracket step layout encode_utf8 code_of E.keyword_begins E.another E.argument E.attribute E.call E.slice_after E.item_or_slice E.trailer E.parenthesised E.list E.pair E.dict E.atom E.primary_parts E.primary E.power E.unary_level E.term E.sum E.compared E.negated_level E.conjunction E.disjunction E.expr_level E.exprs_level E.phrase S.primary_at S.another_simple S.raise S.return S.assertion S.delete S.global S.import S.update_of S.assignment_of S.update_or_assignment S.simple S.simples S.line S.block S.block_after S.arm S.choice S.while S.for S.caught S.handler S.handled S.finished S.try S.parameter S.definition S.define S.compound S.chunk S.program R.piece read_chars chars is_utf8
fit_2 = codes_read One [] (IsUtf8-from_is_utf8 [] refl) ([]) (read_found One [] ([]) refl)

fit_3 : StatementsFit (statements (t.assign [] (t.name (codes "x")) ∷ []))
unfolding reserved_marks delimiter operator numeral Q.escape Q.item Q.closes Q.body Q.quoted token_piece lexeme cut indented begin bracket step layout encode_utf8 code_of E.keyword_begins E.another E.argument E.attribute E.call E.slice_after E.item_or_slice E.trailer E.parenthesised E.list E.pair E.dict E.atom E.primary_parts E.primary E.power E.unary_level E.term E.sum E.compared E.negated_level E.conjunction E.disjunction E.expr_level E.exprs_level E.phrase S.primary_at S.another_simple S.raise S.return S.assertion S.delete S.global S.import S.update_of S.assignment_of S.update_or_assignment S.simple S.simples S.line S.block S.block_after S.arm S.choice S.while S.for S.caught S.handler S.handled S.finished S.try S.parameter S.definition S.define S.compound S.chunk S.program R.piece read_chars chars is_utf8
fit_3 = text_fits One (codes "x") (IsUtf8-from_is_utf8 (codes "x") refl) (omega arith) (t.assign [] (t.name (codes "x")) ∷ []) (read_found One (codes "x") (t.assign [] (t.name (codes "x")) ∷ []) refl)

fit_4 : CodesRead One (codes "x") (t.assign [] (t.name (codes "x")) ∷ [])
unfolding reserved_marks delimiter operator numeral Q.escape Q.item Q.closes Q.body Q.quoted token_piece lexeme cut indented begin bracket step layout encode_utf8 code_of E.keyword_begins E.another E.argument E.attribute E.call E.slice_after E.item_or_slice E.trailer E.parenthesised E.list E.pair E.dict E.atom E.primary_parts E.primary E.power E.unary_level E.term E.sum E.compared E.negated_level E.conjunction E.disjunction E.expr_level E.exprs_level E.phrase S.primary_at S.another_simple S.raise S.return S.assertion S.delete S.global S.import S.update_of S.assignment_of S.update_or_assignment S.simple S.simples S.line S.block S.block_after S.arm S.choice S.while S.for S.caught S.handler S.handled S.finished S.try S.parameter S.definition S.define S.compound S.chunk S.program R.piece read_chars chars is_utf8
fit_4 = codes_read One (codes "x") (IsUtf8-from_is_utf8 (codes "x") refl) (t.assign [] (t.name (codes "x")) ∷ []) (read_found One (codes "x") (t.assign [] (t.name (codes "x")) ∷ []) refl)

fit_5 : StatementsFit (statements (t.assign ((t.name (codes "a")) ∷ []) (t.primary (t.name (codes "b")) (trailers (t.attribute (codes "c") ∷ []))) ∷ []))
unfolding reserved_marks delimiter operator numeral Q.escape Q.item Q.closes Q.body Q.quoted token_piece lexeme cut indented begin bracket step layout encode_utf8 code_of E.keyword_begins E.another E.argument E.attribute E.call E.slice_after E.item_or_slice E.trailer E.parenthesised E.list E.pair E.dict E.atom E.primary_parts E.primary E.power E.unary_level E.term E.sum E.compared E.negated_level E.conjunction E.disjunction E.expr_level E.exprs_level E.phrase S.primary_at S.another_simple S.raise S.return S.assertion S.delete S.global S.import S.update_of S.assignment_of S.update_or_assignment S.simple S.simples S.line S.block S.block_after S.arm S.choice S.while S.for S.caught S.handler S.handled S.finished S.try S.parameter S.definition S.define S.compound S.chunk S.program R.piece read_chars chars is_utf8
fit_5 = text_fits One (codes "a = b.c") (IsUtf8-from_is_utf8 (codes "a = b.c") refl) (omega arith) (t.assign ((t.name (codes "a")) ∷ []) (t.primary (t.name (codes "b")) (trailers (t.attribute (codes "c") ∷ []))) ∷ []) (read_found One (codes "a = b.c") (t.assign ((t.name (codes "a")) ∷ []) (t.primary (t.name (codes "b")) (trailers (t.attribute (codes "c") ∷ []))) ∷ []) refl)

fit_6 : CodesRead One (codes "a = b.c") (t.assign ((t.name (codes "a")) ∷ []) (t.primary (t.name (codes "b")) (trailers (t.attribute (codes "c") ∷ []))) ∷ [])
unfolding reserved_marks delimiter operator numeral Q.escape Q.item Q.closes Q.body Q.quoted token_piece lexeme cut indented begin bracket step layout encode_utf8 code_of E.keyword_begins E.another E.argument E.attribute E.call E.slice_after E.item_or_slice E.trailer E.parenthesised E.list E.pair E.dict E.atom E.primary_parts E.primary E.power E.unary_level E.term E.sum E.compared E.negated_level E.conjunction E.disjunction E.expr_level E.exprs_level E.phrase S.primary_at S.another_simple S.raise S.return S.assertion S.delete S.global S.import S.update_of S.assignment_of S.update_or_assignment S.simple S.simples S.line S.block S.block_after S.arm S.choice S.while S.for S.caught S.handler S.handled S.finished S.try S.parameter S.definition S.define S.compound S.chunk S.program R.piece read_chars chars is_utf8
fit_6 = codes_read One (codes "a = b.c") (IsUtf8-from_is_utf8 (codes "a = b.c") refl) (t.assign ((t.name (codes "a")) ∷ []) (t.primary (t.name (codes "b")) (trailers (t.attribute (codes "c") ∷ []))) ∷ []) (read_found One (codes "a = b.c") (t.assign ((t.name (codes "a")) ∷ []) (t.primary (t.name (codes "b")) (trailers (t.attribute (codes "c") ∷ []))) ∷ []) refl)

fit_7 : StatementsFit (statements (t.assign [] (t.primary (t.name (codes "f")) (trailers (t.call (arguments (t.plain (t.name (codes "a")) ∷ t.keyword (codes "b") (t.integer (pos 1)) ∷ t.keyword (codes "c") (t.integer (pos 2)) ∷ [])) ∷ []))) ∷ []))
unfolding reserved_marks delimiter operator numeral Q.escape Q.item Q.closes Q.body Q.quoted token_piece lexeme cut indented begin bracket step layout encode_utf8 code_of E.keyword_begins E.another E.argument E.attribute E.call E.slice_after E.item_or_slice E.trailer E.parenthesised E.list E.pair E.dict E.atom E.primary_parts E.primary E.power E.unary_level E.term E.sum E.compared E.negated_level E.conjunction E.disjunction E.expr_level E.exprs_level E.phrase S.primary_at S.another_simple S.raise S.return S.assertion S.delete S.global S.import S.update_of S.assignment_of S.update_or_assignment S.simple S.simples S.line S.block S.block_after S.arm S.choice S.while S.for S.caught S.handler S.handled S.finished S.try S.parameter S.definition S.define S.compound S.chunk S.program R.piece read_chars chars is_utf8
fit_7 = text_fits One (codes "f(a, b=1, c=2)") (IsUtf8-from_is_utf8 (codes "f(a, b=1, c=2)") refl) (omega arith) (t.assign [] (t.primary (t.name (codes "f")) (trailers (t.call (arguments (t.plain (t.name (codes "a")) ∷ t.keyword (codes "b") (t.integer (pos 1)) ∷ t.keyword (codes "c") (t.integer (pos 2)) ∷ [])) ∷ []))) ∷ []) (read_found One (codes "f(a, b=1, c=2)") (t.assign [] (t.primary (t.name (codes "f")) (trailers (t.call (arguments (t.plain (t.name (codes "a")) ∷ t.keyword (codes "b") (t.integer (pos 1)) ∷ t.keyword (codes "c") (t.integer (pos 2)) ∷ [])) ∷ []))) ∷ []) refl)

fit_8 : CodesRead One (codes "f(a, b=1, c=2)") (t.assign [] (t.primary (t.name (codes "f")) (trailers (t.call (arguments (t.plain (t.name (codes "a")) ∷ t.keyword (codes "b") (t.integer (pos 1)) ∷ t.keyword (codes "c") (t.integer (pos 2)) ∷ [])) ∷ []))) ∷ [])
unfolding reserved_marks delimiter operator numeral Q.escape Q.item Q.closes Q.body Q.quoted token_piece lexeme cut indented begin bracket step layout encode_utf8 code_of E.keyword_begins E.another E.argument E.attribute E.call E.slice_after E.item_or_slice E.trailer E.parenthesised E.list E.pair E.dict E.atom E.primary_parts E.primary E.power E.unary_level E.term E.sum E.compared E.negated_level E.conjunction E.disjunction E.expr_level E.exprs_level E.phrase S.primary_at S.another_simple S.raise S.return S.assertion S.delete S.global S.import S.update_of S.assignment_of S.update_or_assignment S.simple S.simples S.line S.block S.block_after S.arm S.choice S.while S.for S.caught S.handler S.handled S.finished S.try S.parameter S.definition S.define S.compound S.chunk S.program R.piece read_chars chars is_utf8
fit_8 = codes_read One (codes "f(a, b=1, c=2)") (IsUtf8-from_is_utf8 (codes "f(a, b=1, c=2)") refl) (t.assign [] (t.primary (t.name (codes "f")) (trailers (t.call (arguments (t.plain (t.name (codes "a")) ∷ t.keyword (codes "b") (t.integer (pos 1)) ∷ t.keyword (codes "c") (t.integer (pos 2)) ∷ [])) ∷ []))) ∷ []) (read_found One (codes "f(a, b=1, c=2)") (t.assign [] (t.primary (t.name (codes "f")) (trailers (t.call (arguments (t.plain (t.name (codes "a")) ∷ t.keyword (codes "b") (t.integer (pos 1)) ∷ t.keyword (codes "c") (t.integer (pos 2)) ∷ [])) ∷ []))) ∷ []) refl)

fit_9 : StatementsFit (statements (t.assign ((t.paren (t.tuple (expressions ((t.name (codes "a")) ∷ (t.list (expressions ((t.primary (t.name (codes "b")) (trailers (t.attribute (codes "c") ∷ []))) ∷ (t.primary (t.name (codes "d")) (trailers (t.index (t.name (codes "e")) ∷ []))) ∷ []))) ∷ [])))) ∷ []) (t.name (codes "f")) ∷ []))
unfolding reserved_marks delimiter operator numeral Q.escape Q.item Q.closes Q.body Q.quoted token_piece lexeme cut indented begin bracket step layout encode_utf8 code_of E.keyword_begins E.another E.argument E.attribute E.call E.slice_after E.item_or_slice E.trailer E.parenthesised E.list E.pair E.dict E.atom E.primary_parts E.primary E.power E.unary_level E.term E.sum E.compared E.negated_level E.conjunction E.disjunction E.expr_level E.exprs_level E.phrase S.primary_at S.another_simple S.raise S.return S.assertion S.delete S.global S.import S.update_of S.assignment_of S.update_or_assignment S.simple S.simples S.line S.block S.block_after S.arm S.choice S.while S.for S.caught S.handler S.handled S.finished S.try S.parameter S.definition S.define S.compound S.chunk S.program R.piece read_chars chars is_utf8
fit_9 = text_fits One (codes "(a, [b.c, d[e]]) = f") (IsUtf8-from_is_utf8 (codes "(a, [b.c, d[e]]) = f") refl) (omega arith) (t.assign ((t.paren (t.tuple (expressions ((t.name (codes "a")) ∷ (t.list (expressions ((t.primary (t.name (codes "b")) (trailers (t.attribute (codes "c") ∷ []))) ∷ (t.primary (t.name (codes "d")) (trailers (t.index (t.name (codes "e")) ∷ []))) ∷ []))) ∷ [])))) ∷ []) (t.name (codes "f")) ∷ []) (read_found One (codes "(a, [b.c, d[e]]) = f") (t.assign ((t.paren (t.tuple (expressions ((t.name (codes "a")) ∷ (t.list (expressions ((t.primary (t.name (codes "b")) (trailers (t.attribute (codes "c") ∷ []))) ∷ (t.primary (t.name (codes "d")) (trailers (t.index (t.name (codes "e")) ∷ []))) ∷ []))) ∷ [])))) ∷ []) (t.name (codes "f")) ∷ []) refl)

fit_10 : CodesRead One (codes "(a, [b.c, d[e]]) = f") (t.assign ((t.paren (t.tuple (expressions ((t.name (codes "a")) ∷ (t.list (expressions ((t.primary (t.name (codes "b")) (trailers (t.attribute (codes "c") ∷ []))) ∷ (t.primary (t.name (codes "d")) (trailers (t.index (t.name (codes "e")) ∷ []))) ∷ []))) ∷ [])))) ∷ []) (t.name (codes "f")) ∷ [])
unfolding reserved_marks delimiter operator numeral Q.escape Q.item Q.closes Q.body Q.quoted token_piece lexeme cut indented begin bracket step layout encode_utf8 code_of E.keyword_begins E.another E.argument E.attribute E.call E.slice_after E.item_or_slice E.trailer E.parenthesised E.list E.pair E.dict E.atom E.primary_parts E.primary E.power E.unary_level E.term E.sum E.compared E.negated_level E.conjunction E.disjunction E.expr_level E.exprs_level E.phrase S.primary_at S.another_simple S.raise S.return S.assertion S.delete S.global S.import S.update_of S.assignment_of S.update_or_assignment S.simple S.simples S.line S.block S.block_after S.arm S.choice S.while S.for S.caught S.handler S.handled S.finished S.try S.parameter S.definition S.define S.compound S.chunk S.program R.piece read_chars chars is_utf8
fit_10 = codes_read One (codes "(a, [b.c, d[e]]) = f") (IsUtf8-from_is_utf8 (codes "(a, [b.c, d[e]]) = f") refl) (t.assign ((t.paren (t.tuple (expressions ((t.name (codes "a")) ∷ (t.list (expressions ((t.primary (t.name (codes "b")) (trailers (t.attribute (codes "c") ∷ []))) ∷ (t.primary (t.name (codes "d")) (trailers (t.index (t.name (codes "e")) ∷ []))) ∷ []))) ∷ [])))) ∷ []) (t.name (codes "f")) ∷ []) (read_found One (codes "(a, [b.c, d[e]]) = f") (t.assign ((t.paren (t.tuple (expressions ((t.name (codes "a")) ∷ (t.list (expressions ((t.primary (t.name (codes "b")) (trailers (t.attribute (codes "c") ∷ []))) ∷ (t.primary (t.name (codes "d")) (trailers (t.index (t.name (codes "e")) ∷ []))) ∷ []))) ∷ [])))) ∷ []) (t.name (codes "f")) ∷ []) refl)

fit_11 : StatementsFit (statements (t.define (codes "f") ([]) (statements (t.pass ∷ [])) (codes "def f(): pass") ∷ []))
unfolding reserved_marks delimiter operator numeral Q.escape Q.item Q.closes Q.body Q.quoted token_piece lexeme cut indented begin bracket step layout encode_utf8 code_of E.keyword_begins E.another E.argument E.attribute E.call E.slice_after E.item_or_slice E.trailer E.parenthesised E.list E.pair E.dict E.atom E.primary_parts E.primary E.power E.unary_level E.term E.sum E.compared E.negated_level E.conjunction E.disjunction E.expr_level E.exprs_level E.phrase S.primary_at S.another_simple S.raise S.return S.assertion S.delete S.global S.import S.update_of S.assignment_of S.update_or_assignment S.simple S.simples S.line S.block S.block_after S.arm S.choice S.while S.for S.caught S.handler S.handled S.finished S.try S.parameter S.definition S.define S.compound S.chunk S.program R.piece read_chars chars is_utf8
fit_11 = text_fits One (codes "def f(): pass") (IsUtf8-from_is_utf8 (codes "def f(): pass") refl) (omega arith) (t.define (codes "f") ([]) (statements (t.pass ∷ [])) (codes "def f(): pass") ∷ []) (read_found One (codes "def f(): pass") (t.define (codes "f") ([]) (statements (t.pass ∷ [])) (codes "def f(): pass") ∷ []) refl)

fit_12 : CodesRead One (codes "def f(): pass") (t.define (codes "f") ([]) (statements (t.pass ∷ [])) (codes "def f(): pass") ∷ [])
unfolding reserved_marks delimiter operator numeral Q.escape Q.item Q.closes Q.body Q.quoted token_piece lexeme cut indented begin bracket step layout encode_utf8 code_of E.keyword_begins E.another E.argument E.attribute E.call E.slice_after E.item_or_slice E.trailer E.parenthesised E.list E.pair E.dict E.atom E.primary_parts E.primary E.power E.unary_level E.term E.sum E.compared E.negated_level E.conjunction E.disjunction E.expr_level E.exprs_level E.phrase S.primary_at S.another_simple S.raise S.return S.assertion S.delete S.global S.import S.update_of S.assignment_of S.update_or_assignment S.simple S.simples S.line S.block S.block_after S.arm S.choice S.while S.for S.caught S.handler S.handled S.finished S.try S.parameter S.definition S.define S.compound S.chunk S.program R.piece read_chars chars is_utf8
fit_12 = codes_read One (codes "def f(): pass") (IsUtf8-from_is_utf8 (codes "def f(): pass") refl) (t.define (codes "f") ([]) (statements (t.pass ∷ [])) (codes "def f(): pass") ∷ []) (read_found One (codes "def f(): pass") (t.define (codes "f") ([]) (statements (t.pass ∷ [])) (codes "def f(): pass") ∷ []) refl)

fit_13 : StatementsFit (statements (t.define (codes "f") (((codes "a"), None) ∷ ((codes "b"), (Some (t.integer (pos 1)))) ∷ []) (statements (t.return (Some (t.name (codes "a"))) ∷ [])) (codes "def f(a, b=1): return a") ∷ []))
unfolding reserved_marks delimiter operator numeral Q.escape Q.item Q.closes Q.body Q.quoted token_piece lexeme cut indented begin bracket step layout encode_utf8 code_of E.keyword_begins E.another E.argument E.attribute E.call E.slice_after E.item_or_slice E.trailer E.parenthesised E.list E.pair E.dict E.atom E.primary_parts E.primary E.power E.unary_level E.term E.sum E.compared E.negated_level E.conjunction E.disjunction E.expr_level E.exprs_level E.phrase S.primary_at S.another_simple S.raise S.return S.assertion S.delete S.global S.import S.update_of S.assignment_of S.update_or_assignment S.simple S.simples S.line S.block S.block_after S.arm S.choice S.while S.for S.caught S.handler S.handled S.finished S.try S.parameter S.definition S.define S.compound S.chunk S.program R.piece read_chars chars is_utf8
fit_13 = text_fits One (codes "def f(a, b=1): return a") (IsUtf8-from_is_utf8 (codes "def f(a, b=1): return a") refl) (omega arith) (t.define (codes "f") (((codes "a"), None) ∷ ((codes "b"), (Some (t.integer (pos 1)))) ∷ []) (statements (t.return (Some (t.name (codes "a"))) ∷ [])) (codes "def f(a, b=1): return a") ∷ []) (read_found One (codes "def f(a, b=1): return a") (t.define (codes "f") (((codes "a"), None) ∷ ((codes "b"), (Some (t.integer (pos 1)))) ∷ []) (statements (t.return (Some (t.name (codes "a"))) ∷ [])) (codes "def f(a, b=1): return a") ∷ []) refl)

fit_14 : CodesRead One (codes "def f(a, b=1): return a") (t.define (codes "f") (((codes "a"), None) ∷ ((codes "b"), (Some (t.integer (pos 1)))) ∷ []) (statements (t.return (Some (t.name (codes "a"))) ∷ [])) (codes "def f(a, b=1): return a") ∷ [])
unfolding reserved_marks delimiter operator numeral Q.escape Q.item Q.closes Q.body Q.quoted token_piece lexeme cut indented begin bracket step layout encode_utf8 code_of E.keyword_begins E.another E.argument E.attribute E.call E.slice_after E.item_or_slice E.trailer E.parenthesised E.list E.pair E.dict E.atom E.primary_parts E.primary E.power E.unary_level E.term E.sum E.compared E.negated_level E.conjunction E.disjunction E.expr_level E.exprs_level E.phrase S.primary_at S.another_simple S.raise S.return S.assertion S.delete S.global S.import S.update_of S.assignment_of S.update_or_assignment S.simple S.simples S.line S.block S.block_after S.arm S.choice S.while S.for S.caught S.handler S.handled S.finished S.try S.parameter S.definition S.define S.compound S.chunk S.program R.piece read_chars chars is_utf8
fit_14 = codes_read One (codes "def f(a, b=1): return a") (IsUtf8-from_is_utf8 (codes "def f(a, b=1): return a") refl) (t.define (codes "f") (((codes "a"), None) ∷ ((codes "b"), (Some (t.integer (pos 1)))) ∷ []) (statements (t.return (Some (t.name (codes "a"))) ∷ [])) (codes "def f(a, b=1): return a") ∷ []) (read_found One (codes "def f(a, b=1): return a") (t.define (codes "f") (((codes "a"), None) ∷ ((codes "b"), (Some (t.integer (pos 1)))) ∷ []) (statements (t.return (Some (t.name (codes "a"))) ∷ [])) (codes "def f(a, b=1): return a") ∷ []) refl)

fit_15 : StatementsFit (statements (t.choose (arms (((t.name (codes "a")), (statements (t.define (codes "f") ([]) (statements (t.assign [] (t.name (codes "b")) ∷ [])) (codes "def f(): b") ∷ []))) ∷ [])) (statements ([])) ∷ []))
unfolding reserved_marks delimiter operator numeral Q.escape Q.item Q.closes Q.body Q.quoted token_piece lexeme cut indented begin bracket step layout encode_utf8 code_of E.keyword_begins E.another E.argument E.attribute E.call E.slice_after E.item_or_slice E.trailer E.parenthesised E.list E.pair E.dict E.atom E.primary_parts E.primary E.power E.unary_level E.term E.sum E.compared E.negated_level E.conjunction E.disjunction E.expr_level E.exprs_level E.phrase S.primary_at S.another_simple S.raise S.return S.assertion S.delete S.global S.import S.update_of S.assignment_of S.update_or_assignment S.simple S.simples S.line S.block S.block_after S.arm S.choice S.while S.for S.caught S.handler S.handled S.finished S.try S.parameter S.definition S.define S.compound S.chunk S.program R.piece read_chars chars is_utf8
fit_15 = text_fits One (codes "if a:\n  def f(): b") (IsUtf8-from_is_utf8 (codes "if a:\n  def f(): b") refl) (omega arith) (t.choose (arms (((t.name (codes "a")), (statements (t.define (codes "f") ([]) (statements (t.assign [] (t.name (codes "b")) ∷ [])) (codes "def f(): b") ∷ []))) ∷ [])) (statements ([])) ∷ []) (read_found One (codes "if a:\n  def f(): b") (t.choose (arms (((t.name (codes "a")), (statements (t.define (codes "f") ([]) (statements (t.assign [] (t.name (codes "b")) ∷ [])) (codes "def f(): b") ∷ []))) ∷ [])) (statements ([])) ∷ []) refl)

fit_16 : CodesRead One (codes "if a:\n  def f(): b") (t.choose (arms (((t.name (codes "a")), (statements (t.define (codes "f") ([]) (statements (t.assign [] (t.name (codes "b")) ∷ [])) (codes "def f(): b") ∷ []))) ∷ [])) (statements ([])) ∷ [])
unfolding reserved_marks delimiter operator numeral Q.escape Q.item Q.closes Q.body Q.quoted token_piece lexeme cut indented begin bracket step layout encode_utf8 code_of E.keyword_begins E.another E.argument E.attribute E.call E.slice_after E.item_or_slice E.trailer E.parenthesised E.list E.pair E.dict E.atom E.primary_parts E.primary E.power E.unary_level E.term E.sum E.compared E.negated_level E.conjunction E.disjunction E.expr_level E.exprs_level E.phrase S.primary_at S.another_simple S.raise S.return S.assertion S.delete S.global S.import S.update_of S.assignment_of S.update_or_assignment S.simple S.simples S.line S.block S.block_after S.arm S.choice S.while S.for S.caught S.handler S.handled S.finished S.try S.parameter S.definition S.define S.compound S.chunk S.program R.piece read_chars chars is_utf8
fit_16 = codes_read One (codes "if a:\n  def f(): b") (IsUtf8-from_is_utf8 (codes "if a:\n  def f(): b") refl) (t.choose (arms (((t.name (codes "a")), (statements (t.define (codes "f") ([]) (statements (t.assign [] (t.name (codes "b")) ∷ [])) (codes "def f(): b") ∷ []))) ∷ [])) (statements ([])) ∷ []) (read_found One (codes "if a:\n  def f(): b") (t.choose (arms (((t.name (codes "a")), (statements (t.define (codes "f") ([]) (statements (t.assign [] (t.name (codes "b")) ∷ [])) (codes "def f(): b") ∷ []))) ∷ [])) (statements ([])) ∷ []) refl)

fit_17 : StatementsFit (statements (t.define (codes "f") ([]) (statements (t.assign [] (t.name (codes "a")) ∷ [])) (codes "def f(): a") ∷ t.define (codes "g") (((codes "b"), None) ∷ []) (statements (t.assign [] (t.name (codes "c")) ∷ [])) (codes "def g(b): c") ∷ []))
unfolding reserved_marks delimiter operator numeral Q.escape Q.item Q.closes Q.body Q.quoted token_piece lexeme cut indented begin bracket step layout encode_utf8 code_of E.keyword_begins E.another E.argument E.attribute E.call E.slice_after E.item_or_slice E.trailer E.parenthesised E.list E.pair E.dict E.atom E.primary_parts E.primary E.power E.unary_level E.term E.sum E.compared E.negated_level E.conjunction E.disjunction E.expr_level E.exprs_level E.phrase S.primary_at S.another_simple S.raise S.return S.assertion S.delete S.global S.import S.update_of S.assignment_of S.update_or_assignment S.simple S.simples S.line S.block S.block_after S.arm S.choice S.while S.for S.caught S.handler S.handled S.finished S.try S.parameter S.definition S.define S.compound S.chunk S.program R.piece read_chars chars is_utf8
fit_17 = text_fits One (codes "def f(): a\ndef g(b): c") (IsUtf8-from_is_utf8 (codes "def f(): a\ndef g(b): c") refl) (omega arith) (t.define (codes "f") ([]) (statements (t.assign [] (t.name (codes "a")) ∷ [])) (codes "def f(): a") ∷ t.define (codes "g") (((codes "b"), None) ∷ []) (statements (t.assign [] (t.name (codes "c")) ∷ [])) (codes "def g(b): c") ∷ []) (read_found One (codes "def f(): a\ndef g(b): c") (t.define (codes "f") ([]) (statements (t.assign [] (t.name (codes "a")) ∷ [])) (codes "def f(): a") ∷ t.define (codes "g") (((codes "b"), None) ∷ []) (statements (t.assign [] (t.name (codes "c")) ∷ [])) (codes "def g(b): c") ∷ []) refl)

fit_18 : CodesRead One (codes "def f(): a\ndef g(b): c") (t.define (codes "f") ([]) (statements (t.assign [] (t.name (codes "a")) ∷ [])) (codes "def f(): a") ∷ t.define (codes "g") (((codes "b"), None) ∷ []) (statements (t.assign [] (t.name (codes "c")) ∷ [])) (codes "def g(b): c") ∷ [])
unfolding reserved_marks delimiter operator numeral Q.escape Q.item Q.closes Q.body Q.quoted token_piece lexeme cut indented begin bracket step layout encode_utf8 code_of E.keyword_begins E.another E.argument E.attribute E.call E.slice_after E.item_or_slice E.trailer E.parenthesised E.list E.pair E.dict E.atom E.primary_parts E.primary E.power E.unary_level E.term E.sum E.compared E.negated_level E.conjunction E.disjunction E.expr_level E.exprs_level E.phrase S.primary_at S.another_simple S.raise S.return S.assertion S.delete S.global S.import S.update_of S.assignment_of S.update_or_assignment S.simple S.simples S.line S.block S.block_after S.arm S.choice S.while S.for S.caught S.handler S.handled S.finished S.try S.parameter S.definition S.define S.compound S.chunk S.program R.piece read_chars chars is_utf8
fit_18 = codes_read One (codes "def f(): a\ndef g(b): c") (IsUtf8-from_is_utf8 (codes "def f(): a\ndef g(b): c") refl) (t.define (codes "f") ([]) (statements (t.assign [] (t.name (codes "a")) ∷ [])) (codes "def f(): a") ∷ t.define (codes "g") (((codes "b"), None) ∷ []) (statements (t.assign [] (t.name (codes "c")) ∷ [])) (codes "def g(b): c") ∷ []) (read_found One (codes "def f(): a\ndef g(b): c") (t.define (codes "f") ([]) (statements (t.assign [] (t.name (codes "a")) ∷ [])) (codes "def f(): a") ∷ t.define (codes "g") (((codes "b"), None) ∷ []) (statements (t.assign [] (t.name (codes "c")) ∷ [])) (codes "def g(b): c") ∷ []) refl)

fit_19 : StatementsFit (statements (t.while (t.name (codes "a")) (statements (t.define (codes "f") ([]) (statements (t.assign [] (t.name (codes "b")) ∷ [])) (codes "def f():\n    b") ∷ t.assign [] (t.name (codes "c")) ∷ [])) ∷ []))
unfolding reserved_marks delimiter operator numeral Q.escape Q.item Q.closes Q.body Q.quoted token_piece lexeme cut indented begin bracket step layout encode_utf8 code_of E.keyword_begins E.another E.argument E.attribute E.call E.slice_after E.item_or_slice E.trailer E.parenthesised E.list E.pair E.dict E.atom E.primary_parts E.primary E.power E.unary_level E.term E.sum E.compared E.negated_level E.conjunction E.disjunction E.expr_level E.exprs_level E.phrase S.primary_at S.another_simple S.raise S.return S.assertion S.delete S.global S.import S.update_of S.assignment_of S.update_or_assignment S.simple S.simples S.line S.block S.block_after S.arm S.choice S.while S.for S.caught S.handler S.handled S.finished S.try S.parameter S.definition S.define S.compound S.chunk S.program R.piece read_chars chars is_utf8
fit_19 = text_fits One (codes "while a:\n  def f():\n    b\n  c") (IsUtf8-from_is_utf8 (codes "while a:\n  def f():\n    b\n  c") refl) (omega arith) (t.while (t.name (codes "a")) (statements (t.define (codes "f") ([]) (statements (t.assign [] (t.name (codes "b")) ∷ [])) (codes "def f():\n    b") ∷ t.assign [] (t.name (codes "c")) ∷ [])) ∷ []) (read_found One (codes "while a:\n  def f():\n    b\n  c") (t.while (t.name (codes "a")) (statements (t.define (codes "f") ([]) (statements (t.assign [] (t.name (codes "b")) ∷ [])) (codes "def f():\n    b") ∷ t.assign [] (t.name (codes "c")) ∷ [])) ∷ []) refl)

fit_20 : CodesRead One (codes "while a:\n  def f():\n    b\n  c") (t.while (t.name (codes "a")) (statements (t.define (codes "f") ([]) (statements (t.assign [] (t.name (codes "b")) ∷ [])) (codes "def f():\n    b") ∷ t.assign [] (t.name (codes "c")) ∷ [])) ∷ [])
unfolding reserved_marks delimiter operator numeral Q.escape Q.item Q.closes Q.body Q.quoted token_piece lexeme cut indented begin bracket step layout encode_utf8 code_of E.keyword_begins E.another E.argument E.attribute E.call E.slice_after E.item_or_slice E.trailer E.parenthesised E.list E.pair E.dict E.atom E.primary_parts E.primary E.power E.unary_level E.term E.sum E.compared E.negated_level E.conjunction E.disjunction E.expr_level E.exprs_level E.phrase S.primary_at S.another_simple S.raise S.return S.assertion S.delete S.global S.import S.update_of S.assignment_of S.update_or_assignment S.simple S.simples S.line S.block S.block_after S.arm S.choice S.while S.for S.caught S.handler S.handled S.finished S.try S.parameter S.definition S.define S.compound S.chunk S.program R.piece read_chars chars is_utf8
fit_20 = codes_read One (codes "while a:\n  def f():\n    b\n  c") (IsUtf8-from_is_utf8 (codes "while a:\n  def f():\n    b\n  c") refl) (t.while (t.name (codes "a")) (statements (t.define (codes "f") ([]) (statements (t.assign [] (t.name (codes "b")) ∷ [])) (codes "def f():\n    b") ∷ t.assign [] (t.name (codes "c")) ∷ [])) ∷ []) (read_found One (codes "while a:\n  def f():\n    b\n  c") (t.while (t.name (codes "a")) (statements (t.define (codes "f") ([]) (statements (t.assign [] (t.name (codes "b")) ∷ [])) (codes "def f():\n    b") ∷ t.assign [] (t.name (codes "c")) ∷ [])) ∷ []) refl)

fit_21 : StatementsFit (statements (t.define (codes "f") ([]) (statements (t.global ((codes "a") ∷ []) ∷ t.assign ((t.name (codes "a")) ∷ []) (t.integer (pos 1)) ∷ [])) (codes "def f():\n  global a\n  a = 1") ∷ t.assign [] (t.primary (t.name (codes "f")) (trailers (t.call (arguments ([])) ∷ []))) ∷ []))
unfolding reserved_marks delimiter operator numeral Q.escape Q.item Q.closes Q.body Q.quoted token_piece lexeme cut indented begin bracket step layout encode_utf8 code_of E.keyword_begins E.another E.argument E.attribute E.call E.slice_after E.item_or_slice E.trailer E.parenthesised E.list E.pair E.dict E.atom E.primary_parts E.primary E.power E.unary_level E.term E.sum E.compared E.negated_level E.conjunction E.disjunction E.expr_level E.exprs_level E.phrase S.primary_at S.another_simple S.raise S.return S.assertion S.delete S.global S.import S.update_of S.assignment_of S.update_or_assignment S.simple S.simples S.line S.block S.block_after S.arm S.choice S.while S.for S.caught S.handler S.handled S.finished S.try S.parameter S.definition S.define S.compound S.chunk S.program R.piece read_chars chars is_utf8
fit_21 = text_fits One (codes "def f():\n  global a\n  a = 1\nf()") (IsUtf8-from_is_utf8 (codes "def f():\n  global a\n  a = 1\nf()") refl) (omega arith) (t.define (codes "f") ([]) (statements (t.global ((codes "a") ∷ []) ∷ t.assign ((t.name (codes "a")) ∷ []) (t.integer (pos 1)) ∷ [])) (codes "def f():\n  global a\n  a = 1") ∷ t.assign [] (t.primary (t.name (codes "f")) (trailers (t.call (arguments ([])) ∷ []))) ∷ []) (read_found One (codes "def f():\n  global a\n  a = 1\nf()") (t.define (codes "f") ([]) (statements (t.global ((codes "a") ∷ []) ∷ t.assign ((t.name (codes "a")) ∷ []) (t.integer (pos 1)) ∷ [])) (codes "def f():\n  global a\n  a = 1") ∷ t.assign [] (t.primary (t.name (codes "f")) (trailers (t.call (arguments ([])) ∷ []))) ∷ []) refl)

fit_22 : CodesRead One (codes "def f():\n  global a\n  a = 1\nf()") (t.define (codes "f") ([]) (statements (t.global ((codes "a") ∷ []) ∷ t.assign ((t.name (codes "a")) ∷ []) (t.integer (pos 1)) ∷ [])) (codes "def f():\n  global a\n  a = 1") ∷ t.assign [] (t.primary (t.name (codes "f")) (trailers (t.call (arguments ([])) ∷ []))) ∷ [])
unfolding reserved_marks delimiter operator numeral Q.escape Q.item Q.closes Q.body Q.quoted token_piece lexeme cut indented begin bracket step layout encode_utf8 code_of E.keyword_begins E.another E.argument E.attribute E.call E.slice_after E.item_or_slice E.trailer E.parenthesised E.list E.pair E.dict E.atom E.primary_parts E.primary E.power E.unary_level E.term E.sum E.compared E.negated_level E.conjunction E.disjunction E.expr_level E.exprs_level E.phrase S.primary_at S.another_simple S.raise S.return S.assertion S.delete S.global S.import S.update_of S.assignment_of S.update_or_assignment S.simple S.simples S.line S.block S.block_after S.arm S.choice S.while S.for S.caught S.handler S.handled S.finished S.try S.parameter S.definition S.define S.compound S.chunk S.program R.piece read_chars chars is_utf8
fit_22 = codes_read One (codes "def f():\n  global a\n  a = 1\nf()") (IsUtf8-from_is_utf8 (codes "def f():\n  global a\n  a = 1\nf()") refl) (t.define (codes "f") ([]) (statements (t.global ((codes "a") ∷ []) ∷ t.assign ((t.name (codes "a")) ∷ []) (t.integer (pos 1)) ∷ [])) (codes "def f():\n  global a\n  a = 1") ∷ t.assign [] (t.primary (t.name (codes "f")) (trailers (t.call (arguments ([])) ∷ []))) ∷ []) (read_found One (codes "def f():\n  global a\n  a = 1\nf()") (t.define (codes "f") ([]) (statements (t.global ((codes "a") ∷ []) ∷ t.assign ((t.name (codes "a")) ∷ []) (t.integer (pos 1)) ∷ [])) (codes "def f():\n  global a\n  a = 1") ∷ t.assign [] (t.primary (t.name (codes "f")) (trailers (t.call (arguments ([])) ∷ []))) ∷ []) refl)

fit_23 : StatementsFit (statements (t.try (statements (t.assign [] (t.name (codes "a")) ∷ [])) (handlers (record { class = (Some (t.name (codes "A"))); caught = (Some (codes "b")); body = (statements (t.assign [] (t.name (codes "c")) ∷ [])) } ∷ [])) (statements ([])) (statements ([])) ∷ []))
unfolding reserved_marks delimiter operator numeral Q.escape Q.item Q.closes Q.body Q.quoted token_piece lexeme cut indented begin bracket step layout encode_utf8 code_of E.keyword_begins E.another E.argument E.attribute E.call E.slice_after E.item_or_slice E.trailer E.parenthesised E.list E.pair E.dict E.atom E.primary_parts E.primary E.power E.unary_level E.term E.sum E.compared E.negated_level E.conjunction E.disjunction E.expr_level E.exprs_level E.phrase S.primary_at S.another_simple S.raise S.return S.assertion S.delete S.global S.import S.update_of S.assignment_of S.update_or_assignment S.simple S.simples S.line S.block S.block_after S.arm S.choice S.while S.for S.caught S.handler S.handled S.finished S.try S.parameter S.definition S.define S.compound S.chunk S.program R.piece read_chars chars is_utf8
fit_23 = text_fits One (codes "try: a\nexcept A as b: c") (IsUtf8-from_is_utf8 (codes "try: a\nexcept A as b: c") refl) (omega arith) (t.try (statements (t.assign [] (t.name (codes "a")) ∷ [])) (handlers (record { class = (Some (t.name (codes "A"))); caught = (Some (codes "b")); body = (statements (t.assign [] (t.name (codes "c")) ∷ [])) } ∷ [])) (statements ([])) (statements ([])) ∷ []) (read_found One (codes "try: a\nexcept A as b: c") (t.try (statements (t.assign [] (t.name (codes "a")) ∷ [])) (handlers (record { class = (Some (t.name (codes "A"))); caught = (Some (codes "b")); body = (statements (t.assign [] (t.name (codes "c")) ∷ [])) } ∷ [])) (statements ([])) (statements ([])) ∷ []) refl)

fit_24 : CodesRead One (codes "try: a\nexcept A as b: c") (t.try (statements (t.assign [] (t.name (codes "a")) ∷ [])) (handlers (record { class = (Some (t.name (codes "A"))); caught = (Some (codes "b")); body = (statements (t.assign [] (t.name (codes "c")) ∷ [])) } ∷ [])) (statements ([])) (statements ([])) ∷ [])
unfolding reserved_marks delimiter operator numeral Q.escape Q.item Q.closes Q.body Q.quoted token_piece lexeme cut indented begin bracket step layout encode_utf8 code_of E.keyword_begins E.another E.argument E.attribute E.call E.slice_after E.item_or_slice E.trailer E.parenthesised E.list E.pair E.dict E.atom E.primary_parts E.primary E.power E.unary_level E.term E.sum E.compared E.negated_level E.conjunction E.disjunction E.expr_level E.exprs_level E.phrase S.primary_at S.another_simple S.raise S.return S.assertion S.delete S.global S.import S.update_of S.assignment_of S.update_or_assignment S.simple S.simples S.line S.block S.block_after S.arm S.choice S.while S.for S.caught S.handler S.handled S.finished S.try S.parameter S.definition S.define S.compound S.chunk S.program R.piece read_chars chars is_utf8
fit_24 = codes_read One (codes "try: a\nexcept A as b: c") (IsUtf8-from_is_utf8 (codes "try: a\nexcept A as b: c") refl) (t.try (statements (t.assign [] (t.name (codes "a")) ∷ [])) (handlers (record { class = (Some (t.name (codes "A"))); caught = (Some (codes "b")); body = (statements (t.assign [] (t.name (codes "c")) ∷ [])) } ∷ [])) (statements ([])) (statements ([])) ∷ []) (read_found One (codes "try: a\nexcept A as b: c") (t.try (statements (t.assign [] (t.name (codes "a")) ∷ [])) (handlers (record { class = (Some (t.name (codes "A"))); caught = (Some (codes "b")); body = (statements (t.assign [] (t.name (codes "c")) ∷ [])) } ∷ [])) (statements ([])) (statements ([])) ∷ []) refl)

fit_25 : StatementsFit (statements (t.for (t.tuple (expressions ((t.name (codes "a")) ∷ (t.name (codes "b")) ∷ []))) (t.name (codes "c")) (statements (t.assign [] (t.name (codes "d")) ∷ [])) ∷ []))
unfolding reserved_marks delimiter operator numeral Q.escape Q.item Q.closes Q.body Q.quoted token_piece lexeme cut indented begin bracket step layout encode_utf8 code_of E.keyword_begins E.another E.argument E.attribute E.call E.slice_after E.item_or_slice E.trailer E.parenthesised E.list E.pair E.dict E.atom E.primary_parts E.primary E.power E.unary_level E.term E.sum E.compared E.negated_level E.conjunction E.disjunction E.expr_level E.exprs_level E.phrase S.primary_at S.another_simple S.raise S.return S.assertion S.delete S.global S.import S.update_of S.assignment_of S.update_or_assignment S.simple S.simples S.line S.block S.block_after S.arm S.choice S.while S.for S.caught S.handler S.handled S.finished S.try S.parameter S.definition S.define S.compound S.chunk S.program R.piece read_chars chars is_utf8
fit_25 = text_fits One (codes "for a, b in c: d") (IsUtf8-from_is_utf8 (codes "for a, b in c: d") refl) (omega arith) (t.for (t.tuple (expressions ((t.name (codes "a")) ∷ (t.name (codes "b")) ∷ []))) (t.name (codes "c")) (statements (t.assign [] (t.name (codes "d")) ∷ [])) ∷ []) (read_found One (codes "for a, b in c: d") (t.for (t.tuple (expressions ((t.name (codes "a")) ∷ (t.name (codes "b")) ∷ []))) (t.name (codes "c")) (statements (t.assign [] (t.name (codes "d")) ∷ [])) ∷ []) refl)

fit_26 : CodesRead One (codes "for a, b in c: d") (t.for (t.tuple (expressions ((t.name (codes "a")) ∷ (t.name (codes "b")) ∷ []))) (t.name (codes "c")) (statements (t.assign [] (t.name (codes "d")) ∷ [])) ∷ [])
unfolding reserved_marks delimiter operator numeral Q.escape Q.item Q.closes Q.body Q.quoted token_piece lexeme cut indented begin bracket step layout encode_utf8 code_of E.keyword_begins E.another E.argument E.attribute E.call E.slice_after E.item_or_slice E.trailer E.parenthesised E.list E.pair E.dict E.atom E.primary_parts E.primary E.power E.unary_level E.term E.sum E.compared E.negated_level E.conjunction E.disjunction E.expr_level E.exprs_level E.phrase S.primary_at S.another_simple S.raise S.return S.assertion S.delete S.global S.import S.update_of S.assignment_of S.update_or_assignment S.simple S.simples S.line S.block S.block_after S.arm S.choice S.while S.for S.caught S.handler S.handled S.finished S.try S.parameter S.definition S.define S.compound S.chunk S.program R.piece read_chars chars is_utf8
fit_26 = codes_read One (codes "for a, b in c: d") (IsUtf8-from_is_utf8 (codes "for a, b in c: d") refl) (t.for (t.tuple (expressions ((t.name (codes "a")) ∷ (t.name (codes "b")) ∷ []))) (t.name (codes "c")) (statements (t.assign [] (t.name (codes "d")) ∷ [])) ∷ []) (read_found One (codes "for a, b in c: d") (t.for (t.tuple (expressions ((t.name (codes "a")) ∷ (t.name (codes "b")) ∷ []))) (t.name (codes "c")) (statements (t.assign [] (t.name (codes "d")) ∷ [])) ∷ []) refl)

fit_27 : StatementsFit (statements (t.import (Some (codes "S")) ∷ []))
unfolding reserved_marks delimiter operator numeral Q.escape Q.item Q.closes Q.body Q.quoted token_piece lexeme cut indented begin bracket step layout encode_utf8 code_of E.keyword_begins E.another E.argument E.attribute E.call E.slice_after E.item_or_slice E.trailer E.parenthesised E.list E.pair E.dict E.atom E.primary_parts E.primary E.power E.unary_level E.term E.sum E.compared E.negated_level E.conjunction E.disjunction E.expr_level E.exprs_level E.phrase S.primary_at S.another_simple S.raise S.return S.assertion S.delete S.global S.import S.update_of S.assignment_of S.update_or_assignment S.simple S.simples S.line S.block S.block_after S.arm S.choice S.while S.for S.caught S.handler S.handled S.finished S.try S.parameter S.definition S.define S.compound S.chunk S.program R.piece read_chars chars is_utf8
fit_27 = text_fits One (codes "from types import SimpleNamespace as S") (IsUtf8-from_is_utf8 (codes "from types import SimpleNamespace as S") refl) (omega arith) (t.import (Some (codes "S")) ∷ []) (read_found One (codes "from types import SimpleNamespace as S") (t.import (Some (codes "S")) ∷ []) refl)

fit_28 : CodesRead One (codes "from types import SimpleNamespace as S") (t.import (Some (codes "S")) ∷ [])
unfolding reserved_marks delimiter operator numeral Q.escape Q.item Q.closes Q.body Q.quoted token_piece lexeme cut indented begin bracket step layout encode_utf8 code_of E.keyword_begins E.another E.argument E.attribute E.call E.slice_after E.item_or_slice E.trailer E.parenthesised E.list E.pair E.dict E.atom E.primary_parts E.primary E.power E.unary_level E.term E.sum E.compared E.negated_level E.conjunction E.disjunction E.expr_level E.exprs_level E.phrase S.primary_at S.another_simple S.raise S.return S.assertion S.delete S.global S.import S.update_of S.assignment_of S.update_or_assignment S.simple S.simples S.line S.block S.block_after S.arm S.choice S.while S.for S.caught S.handler S.handled S.finished S.try S.parameter S.definition S.define S.compound S.chunk S.program R.piece read_chars chars is_utf8
fit_28 = codes_read One (codes "from types import SimpleNamespace as S") (IsUtf8-from_is_utf8 (codes "from types import SimpleNamespace as S") refl) (t.import (Some (codes "S")) ∷ []) (read_found One (codes "from types import SimpleNamespace as S") (t.import (Some (codes "S")) ∷ []) refl)

fit_29 : StatementsFit (statements (t.define (codes "f") ([]) (statements (t.assign [] (t.text (codes "a")) ∷ [])) (codes "def f(): 'a'") ∷ []))
unfolding reserved_marks delimiter operator numeral Q.escape Q.item Q.closes Q.body Q.quoted token_piece lexeme cut indented begin bracket step layout encode_utf8 code_of E.keyword_begins E.another E.argument E.attribute E.call E.slice_after E.item_or_slice E.trailer E.parenthesised E.list E.pair E.dict E.atom E.primary_parts E.primary E.power E.unary_level E.term E.sum E.compared E.negated_level E.conjunction E.disjunction E.expr_level E.exprs_level E.phrase S.primary_at S.another_simple S.raise S.return S.assertion S.delete S.global S.import S.update_of S.assignment_of S.update_or_assignment S.simple S.simples S.line S.block S.block_after S.arm S.choice S.while S.for S.caught S.handler S.handled S.finished S.try S.parameter S.definition S.define S.compound S.chunk S.program R.piece read_chars chars is_utf8
fit_29 = text_fits One (codes "def f(): 'a'\n") (IsUtf8-from_is_utf8 (codes "def f(): 'a'\n") refl) (omega arith) (t.define (codes "f") ([]) (statements (t.assign [] (t.text (codes "a")) ∷ [])) (codes "def f(): 'a'") ∷ []) (read_found One (codes "def f(): 'a'\n") (t.define (codes "f") ([]) (statements (t.assign [] (t.text (codes "a")) ∷ [])) (codes "def f(): 'a'") ∷ []) refl)

fit_30 : CodesRead One (codes "def f(): 'a'\n") (t.define (codes "f") ([]) (statements (t.assign [] (t.text (codes "a")) ∷ [])) (codes "def f(): 'a'") ∷ [])
unfolding reserved_marks delimiter operator numeral Q.escape Q.item Q.closes Q.body Q.quoted token_piece lexeme cut indented begin bracket step layout encode_utf8 code_of E.keyword_begins E.another E.argument E.attribute E.call E.slice_after E.item_or_slice E.trailer E.parenthesised E.list E.pair E.dict E.atom E.primary_parts E.primary E.power E.unary_level E.term E.sum E.compared E.negated_level E.conjunction E.disjunction E.expr_level E.exprs_level E.phrase S.primary_at S.another_simple S.raise S.return S.assertion S.delete S.global S.import S.update_of S.assignment_of S.update_or_assignment S.simple S.simples S.line S.block S.block_after S.arm S.choice S.while S.for S.caught S.handler S.handled S.finished S.try S.parameter S.definition S.define S.compound S.chunk S.program R.piece read_chars chars is_utf8
fit_30 = codes_read One (codes "def f(): 'a'\n") (IsUtf8-from_is_utf8 (codes "def f(): 'a'\n") refl) (t.define (codes "f") ([]) (statements (t.assign [] (t.text (codes "a")) ∷ [])) (codes "def f(): 'a'") ∷ []) (read_found One (codes "def f(): 'a'\n") (t.define (codes "f") ([]) (statements (t.assign [] (t.text (codes "a")) ∷ [])) (codes "def f(): 'a'") ∷ []) refl)

fit_31 : StatementsFit (statements (t.define (codes "f") (((codes "a"), (Some (t.paren (t.tuple (expressions ((t.integer (pos 1)) ∷ (t.integer (pos 2)) ∷ [])))))) ∷ []) (statements (t.assign [] (t.paren (t.name (codes "a"))) ∷ [])) (codes "def f(a=(1, 2)): (a)") ∷ []))
unfolding reserved_marks delimiter operator numeral Q.escape Q.item Q.closes Q.body Q.quoted token_piece lexeme cut indented begin bracket step layout encode_utf8 code_of E.keyword_begins E.another E.argument E.attribute E.call E.slice_after E.item_or_slice E.trailer E.parenthesised E.list E.pair E.dict E.atom E.primary_parts E.primary E.power E.unary_level E.term E.sum E.compared E.negated_level E.conjunction E.disjunction E.expr_level E.exprs_level E.phrase S.primary_at S.another_simple S.raise S.return S.assertion S.delete S.global S.import S.update_of S.assignment_of S.update_or_assignment S.simple S.simples S.line S.block S.block_after S.arm S.choice S.while S.for S.caught S.handler S.handled S.finished S.try S.parameter S.definition S.define S.compound S.chunk S.program R.piece read_chars chars is_utf8
fit_31 = text_fits One (codes "def f(a=(1, 2)): (a)  # b\n") (IsUtf8-from_is_utf8 (codes "def f(a=(1, 2)): (a)  # b\n") refl) (omega arith) (t.define (codes "f") (((codes "a"), (Some (t.paren (t.tuple (expressions ((t.integer (pos 1)) ∷ (t.integer (pos 2)) ∷ [])))))) ∷ []) (statements (t.assign [] (t.paren (t.name (codes "a"))) ∷ [])) (codes "def f(a=(1, 2)): (a)") ∷ []) (read_found One (codes "def f(a=(1, 2)): (a)  # b\n") (t.define (codes "f") (((codes "a"), (Some (t.paren (t.tuple (expressions ((t.integer (pos 1)) ∷ (t.integer (pos 2)) ∷ [])))))) ∷ []) (statements (t.assign [] (t.paren (t.name (codes "a"))) ∷ [])) (codes "def f(a=(1, 2)): (a)") ∷ []) refl)

fit_32 : CodesRead One (codes "def f(a=(1, 2)): (a)  # b\n") (t.define (codes "f") (((codes "a"), (Some (t.paren (t.tuple (expressions ((t.integer (pos 1)) ∷ (t.integer (pos 2)) ∷ [])))))) ∷ []) (statements (t.assign [] (t.paren (t.name (codes "a"))) ∷ [])) (codes "def f(a=(1, 2)): (a)") ∷ [])
unfolding reserved_marks delimiter operator numeral Q.escape Q.item Q.closes Q.body Q.quoted token_piece lexeme cut indented begin bracket step layout encode_utf8 code_of E.keyword_begins E.another E.argument E.attribute E.call E.slice_after E.item_or_slice E.trailer E.parenthesised E.list E.pair E.dict E.atom E.primary_parts E.primary E.power E.unary_level E.term E.sum E.compared E.negated_level E.conjunction E.disjunction E.expr_level E.exprs_level E.phrase S.primary_at S.another_simple S.raise S.return S.assertion S.delete S.global S.import S.update_of S.assignment_of S.update_or_assignment S.simple S.simples S.line S.block S.block_after S.arm S.choice S.while S.for S.caught S.handler S.handled S.finished S.try S.parameter S.definition S.define S.compound S.chunk S.program R.piece read_chars chars is_utf8
fit_32 = codes_read One (codes "def f(a=(1, 2)): (a)  # b\n") (IsUtf8-from_is_utf8 (codes "def f(a=(1, 2)): (a)  # b\n") refl) (t.define (codes "f") (((codes "a"), (Some (t.paren (t.tuple (expressions ((t.integer (pos 1)) ∷ (t.integer (pos 2)) ∷ [])))))) ∷ []) (statements (t.assign [] (t.paren (t.name (codes "a"))) ∷ [])) (codes "def f(a=(1, 2)): (a)") ∷ []) (read_found One (codes "def f(a=(1, 2)): (a)  # b\n") (t.define (codes "f") (((codes "a"), (Some (t.paren (t.tuple (expressions ((t.integer (pos 1)) ∷ (t.integer (pos 2)) ∷ [])))))) ∷ []) (statements (t.assign [] (t.paren (t.name (codes "a"))) ∷ [])) (codes "def f(a=(1, 2)): (a)") ∷ []) refl)

fit_33 : StatementsFit (statements (t.define (codes "f") ([]) (statements (t.assign [] (t.name (codes "a")) ∷ [])) (codes "def f():\n  a") ∷ []))
unfolding reserved_marks delimiter operator numeral Q.escape Q.item Q.closes Q.body Q.quoted token_piece lexeme cut indented begin bracket step layout encode_utf8 code_of E.keyword_begins E.another E.argument E.attribute E.call E.slice_after E.item_or_slice E.trailer E.parenthesised E.list E.pair E.dict E.atom E.primary_parts E.primary E.power E.unary_level E.term E.sum E.compared E.negated_level E.conjunction E.disjunction E.expr_level E.exprs_level E.phrase S.primary_at S.another_simple S.raise S.return S.assertion S.delete S.global S.import S.update_of S.assignment_of S.update_or_assignment S.simple S.simples S.line S.block S.block_after S.arm S.choice S.while S.for S.caught S.handler S.handled S.finished S.try S.parameter S.definition S.define S.compound S.chunk S.program R.piece read_chars chars is_utf8
fit_33 = text_fits One (100 ∷ 101 ∷ 102 ∷ 32 ∷ 102 ∷ 40 ∷ 41 ∷ 58 ∷ 13 ∷ 10 ∷ 32 ∷ 32 ∷ 97 ∷ 13 ∷ 10 ∷ []) (IsUtf8-from_is_utf8 (100 ∷ 101 ∷ 102 ∷ 32 ∷ 102 ∷ 40 ∷ 41 ∷ 58 ∷ 13 ∷ 10 ∷ 32 ∷ 32 ∷ 97 ∷ 13 ∷ 10 ∷ []) refl) (omega arith) (t.define (codes "f") ([]) (statements (t.assign [] (t.name (codes "a")) ∷ [])) (codes "def f():\n  a") ∷ []) (read_found One (100 ∷ 101 ∷ 102 ∷ 32 ∷ 102 ∷ 40 ∷ 41 ∷ 58 ∷ 13 ∷ 10 ∷ 32 ∷ 32 ∷ 97 ∷ 13 ∷ 10 ∷ []) (t.define (codes "f") ([]) (statements (t.assign [] (t.name (codes "a")) ∷ [])) (codes "def f():\n  a") ∷ []) refl)

fit_34 : CodesRead One (100 ∷ 101 ∷ 102 ∷ 32 ∷ 102 ∷ 40 ∷ 41 ∷ 58 ∷ 13 ∷ 10 ∷ 32 ∷ 32 ∷ 97 ∷ 13 ∷ 10 ∷ []) (t.define (codes "f") ([]) (statements (t.assign [] (t.name (codes "a")) ∷ [])) (codes "def f():\n  a") ∷ [])
unfolding reserved_marks delimiter operator numeral Q.escape Q.item Q.closes Q.body Q.quoted token_piece lexeme cut indented begin bracket step layout encode_utf8 code_of E.keyword_begins E.another E.argument E.attribute E.call E.slice_after E.item_or_slice E.trailer E.parenthesised E.list E.pair E.dict E.atom E.primary_parts E.primary E.power E.unary_level E.term E.sum E.compared E.negated_level E.conjunction E.disjunction E.expr_level E.exprs_level E.phrase S.primary_at S.another_simple S.raise S.return S.assertion S.delete S.global S.import S.update_of S.assignment_of S.update_or_assignment S.simple S.simples S.line S.block S.block_after S.arm S.choice S.while S.for S.caught S.handler S.handled S.finished S.try S.parameter S.definition S.define S.compound S.chunk S.program R.piece read_chars chars is_utf8
fit_34 = codes_read One (100 ∷ 101 ∷ 102 ∷ 32 ∷ 102 ∷ 40 ∷ 41 ∷ 58 ∷ 13 ∷ 10 ∷ 32 ∷ 32 ∷ 97 ∷ 13 ∷ 10 ∷ []) (IsUtf8-from_is_utf8 (100 ∷ 101 ∷ 102 ∷ 32 ∷ 102 ∷ 40 ∷ 41 ∷ 58 ∷ 13 ∷ 10 ∷ 32 ∷ 32 ∷ 97 ∷ 13 ∷ 10 ∷ []) refl) (t.define (codes "f") ([]) (statements (t.assign [] (t.name (codes "a")) ∷ [])) (codes "def f():\n  a") ∷ []) (read_found One (100 ∷ 101 ∷ 102 ∷ 32 ∷ 102 ∷ 40 ∷ 41 ∷ 58 ∷ 13 ∷ 10 ∷ 32 ∷ 32 ∷ 97 ∷ 13 ∷ 10 ∷ []) (t.define (codes "f") ([]) (statements (t.assign [] (t.name (codes "a")) ∷ [])) (codes "def f():\n  a") ∷ []) refl)

fit_35 : StatementsFit (statements (t.delete ((t.primary (t.name (codes "a")) (trailers (t.attribute (codes "b") ∷ []))) ∷ (t.name (codes "c")) ∷ []) ∷ []))
unfolding reserved_marks delimiter operator numeral Q.escape Q.item Q.closes Q.body Q.quoted token_piece lexeme cut indented begin bracket step layout encode_utf8 code_of E.keyword_begins E.another E.argument E.attribute E.call E.slice_after E.item_or_slice E.trailer E.parenthesised E.list E.pair E.dict E.atom E.primary_parts E.primary E.power E.unary_level E.term E.sum E.compared E.negated_level E.conjunction E.disjunction E.expr_level E.exprs_level E.phrase S.primary_at S.another_simple S.raise S.return S.assertion S.delete S.global S.import S.update_of S.assignment_of S.update_or_assignment S.simple S.simples S.line S.block S.block_after S.arm S.choice S.while S.for S.caught S.handler S.handled S.finished S.try S.parameter S.definition S.define S.compound S.chunk S.program R.piece read_chars chars is_utf8
fit_35 = text_fits One (codes "del a.b, c") (IsUtf8-from_is_utf8 (codes "del a.b, c") refl) (omega arith) (t.delete ((t.primary (t.name (codes "a")) (trailers (t.attribute (codes "b") ∷ []))) ∷ (t.name (codes "c")) ∷ []) ∷ []) (read_found One (codes "del a.b, c") (t.delete ((t.primary (t.name (codes "a")) (trailers (t.attribute (codes "b") ∷ []))) ∷ (t.name (codes "c")) ∷ []) ∷ []) refl)

fit_36 : CodesRead One (codes "del a.b, c") (t.delete ((t.primary (t.name (codes "a")) (trailers (t.attribute (codes "b") ∷ []))) ∷ (t.name (codes "c")) ∷ []) ∷ [])
unfolding reserved_marks delimiter operator numeral Q.escape Q.item Q.closes Q.body Q.quoted token_piece lexeme cut indented begin bracket step layout encode_utf8 code_of E.keyword_begins E.another E.argument E.attribute E.call E.slice_after E.item_or_slice E.trailer E.parenthesised E.list E.pair E.dict E.atom E.primary_parts E.primary E.power E.unary_level E.term E.sum E.compared E.negated_level E.conjunction E.disjunction E.expr_level E.exprs_level E.phrase S.primary_at S.another_simple S.raise S.return S.assertion S.delete S.global S.import S.update_of S.assignment_of S.update_or_assignment S.simple S.simples S.line S.block S.block_after S.arm S.choice S.while S.for S.caught S.handler S.handled S.finished S.try S.parameter S.definition S.define S.compound S.chunk S.program R.piece read_chars chars is_utf8
fit_36 = codes_read One (codes "del a.b, c") (IsUtf8-from_is_utf8 (codes "del a.b, c") refl) (t.delete ((t.primary (t.name (codes "a")) (trailers (t.attribute (codes "b") ∷ []))) ∷ (t.name (codes "c")) ∷ []) ∷ []) (read_found One (codes "del a.b, c") (t.delete ((t.primary (t.name (codes "a")) (trailers (t.attribute (codes "b") ∷ []))) ∷ (t.name (codes "c")) ∷ []) ∷ []) refl)

fit_37 : StatementsFit (statements (t.finally (statements (t.assign [] (t.name (codes "a")) ∷ [])) (statements (t.define (codes "f") ([]) (statements (t.assign [] (t.name (codes "b")) ∷ [])) (codes "def f(): b") ∷ [])) ∷ []))
unfolding reserved_marks delimiter operator numeral Q.escape Q.item Q.closes Q.body Q.quoted token_piece lexeme cut indented begin bracket step layout encode_utf8 code_of E.keyword_begins E.another E.argument E.attribute E.call E.slice_after E.item_or_slice E.trailer E.parenthesised E.list E.pair E.dict E.atom E.primary_parts E.primary E.power E.unary_level E.term E.sum E.compared E.negated_level E.conjunction E.disjunction E.expr_level E.exprs_level E.phrase S.primary_at S.another_simple S.raise S.return S.assertion S.delete S.global S.import S.update_of S.assignment_of S.update_or_assignment S.simple S.simples S.line S.block S.block_after S.arm S.choice S.while S.for S.caught S.handler S.handled S.finished S.try S.parameter S.definition S.define S.compound S.chunk S.program R.piece read_chars chars is_utf8
fit_37 = text_fits One (codes "try: a\nfinally:\n  def f(): b\n") (IsUtf8-from_is_utf8 (codes "try: a\nfinally:\n  def f(): b\n") refl) (omega arith) (t.finally (statements (t.assign [] (t.name (codes "a")) ∷ [])) (statements (t.define (codes "f") ([]) (statements (t.assign [] (t.name (codes "b")) ∷ [])) (codes "def f(): b") ∷ [])) ∷ []) (read_found One (codes "try: a\nfinally:\n  def f(): b\n") (t.finally (statements (t.assign [] (t.name (codes "a")) ∷ [])) (statements (t.define (codes "f") ([]) (statements (t.assign [] (t.name (codes "b")) ∷ [])) (codes "def f(): b") ∷ [])) ∷ []) refl)

fit_38 : CodesRead One (codes "try: a\nfinally:\n  def f(): b\n") (t.finally (statements (t.assign [] (t.name (codes "a")) ∷ [])) (statements (t.define (codes "f") ([]) (statements (t.assign [] (t.name (codes "b")) ∷ [])) (codes "def f(): b") ∷ [])) ∷ [])
unfolding reserved_marks delimiter operator numeral Q.escape Q.item Q.closes Q.body Q.quoted token_piece lexeme cut indented begin bracket step layout encode_utf8 code_of E.keyword_begins E.another E.argument E.attribute E.call E.slice_after E.item_or_slice E.trailer E.parenthesised E.list E.pair E.dict E.atom E.primary_parts E.primary E.power E.unary_level E.term E.sum E.compared E.negated_level E.conjunction E.disjunction E.expr_level E.exprs_level E.phrase S.primary_at S.another_simple S.raise S.return S.assertion S.delete S.global S.import S.update_of S.assignment_of S.update_or_assignment S.simple S.simples S.line S.block S.block_after S.arm S.choice S.while S.for S.caught S.handler S.handled S.finished S.try S.parameter S.definition S.define S.compound S.chunk S.program R.piece read_chars chars is_utf8
fit_38 = codes_read One (codes "try: a\nfinally:\n  def f(): b\n") (IsUtf8-from_is_utf8 (codes "try: a\nfinally:\n  def f(): b\n") refl) (t.finally (statements (t.assign [] (t.name (codes "a")) ∷ [])) (statements (t.define (codes "f") ([]) (statements (t.assign [] (t.name (codes "b")) ∷ [])) (codes "def f(): b") ∷ [])) ∷ []) (read_found One (codes "try: a\nfinally:\n  def f(): b\n") (t.finally (statements (t.assign [] (t.name (codes "a")) ∷ [])) (statements (t.define (codes "f") ([]) (statements (t.assign [] (t.name (codes "b")) ∷ [])) (codes "def f(): b") ∷ [])) ∷ []) refl)

fit_39 : StatementsFit (statements (t.update (t.name (codes "a")) o.Add (t.name (codes "b")) ∷ []))
unfolding reserved_marks delimiter operator numeral Q.escape Q.item Q.closes Q.body Q.quoted token_piece lexeme cut indented begin bracket step layout encode_utf8 code_of E.keyword_begins E.another E.argument E.attribute E.call E.slice_after E.item_or_slice E.trailer E.parenthesised E.list E.pair E.dict E.atom E.primary_parts E.primary E.power E.unary_level E.term E.sum E.compared E.negated_level E.conjunction E.disjunction E.expr_level E.exprs_level E.phrase S.primary_at S.another_simple S.raise S.return S.assertion S.delete S.global S.import S.update_of S.assignment_of S.update_or_assignment S.simple S.simples S.line S.block S.block_after S.arm S.choice S.while S.for S.caught S.handler S.handled S.finished S.try S.parameter S.definition S.define S.compound S.chunk S.program R.piece read_chars chars is_utf8
fit_39 = text_fits One (codes "a += b") (IsUtf8-from_is_utf8 (codes "a += b") refl) (omega arith) (t.update (t.name (codes "a")) o.Add (t.name (codes "b")) ∷ []) (read_found One (codes "a += b") (t.update (t.name (codes "a")) o.Add (t.name (codes "b")) ∷ []) refl)

fit_40 : CodesRead One (codes "a += b") (t.update (t.name (codes "a")) o.Add (t.name (codes "b")) ∷ [])
unfolding reserved_marks delimiter operator numeral Q.escape Q.item Q.closes Q.body Q.quoted token_piece lexeme cut indented begin bracket step layout encode_utf8 code_of E.keyword_begins E.another E.argument E.attribute E.call E.slice_after E.item_or_slice E.trailer E.parenthesised E.list E.pair E.dict E.atom E.primary_parts E.primary E.power E.unary_level E.term E.sum E.compared E.negated_level E.conjunction E.disjunction E.expr_level E.exprs_level E.phrase S.primary_at S.another_simple S.raise S.return S.assertion S.delete S.global S.import S.update_of S.assignment_of S.update_or_assignment S.simple S.simples S.line S.block S.block_after S.arm S.choice S.while S.for S.caught S.handler S.handled S.finished S.try S.parameter S.definition S.define S.compound S.chunk S.program R.piece read_chars chars is_utf8
fit_40 = codes_read One (codes "a += b") (IsUtf8-from_is_utf8 (codes "a += b") refl) (t.update (t.name (codes "a")) o.Add (t.name (codes "b")) ∷ []) (read_found One (codes "a += b") (t.update (t.name (codes "a")) o.Add (t.name (codes "b")) ∷ []) refl)
