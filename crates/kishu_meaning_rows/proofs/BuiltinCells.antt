-- What some cells with builtin functions and classes give: computed on the definition. Made by tools/cells/cells.py.
use Rattle.std.proofs.Common.{◌≡◌, ◌∷◌, [], refl}
use Rattle.std.specs.Prelude.{pos, negsuc, true, false, codes}
use Rattle.std.specs.Char.{encode_utf8}
use Rattle.std.specs.Fmt.{digits}
use Rattle.std.specs.Str.{chars}
use Rattle.kishu_language.specs.declared.profile.Profile.TheVariants.{One}
use Rattle.kishu_meaning.specs.declared.result.Outcome.TheVariants.{Done, Raised}
use Rattle.kishu_meaning.specs.values.BuiltinNames.{builtin_names, class_names}
use Rattle.kishu_meaning.specs.values.Numbers.{power}
use Rattle.kishu_language.specs.tokens.Marks.{reserved_marks, delimiter, operator}
use Rattle.kishu_language.specs.tokens.Numerals.{numeral}
use Rattle.kishu_language.specs.tokens.Quoted as Q
use Rattle.kishu_language.specs.tokens.Lexemes.{token_piece, lexeme}
use Rattle.kishu_language.specs.tokens.Layout.{cut, indented, begin, bracket, step, layout}
use Rattle.kishu_language.specs.trees.Code.{code_of}
use Rattle.kishu_language.specs.reading.ReadExpressions as E
use Rattle.kishu_language.specs.reading.ReadStatements as S
use Rattle.kishu_language.specs.reading.ReadText as R
use Rattle.kishu_language.specs.reading.ReadText.{read_chars}
use Rattle.kishu_meaning.specs.values.Keys as p
use Rattle.kishu_meaning.specs.values.Values.{none, bool, integer, text, class, node, list, tuple, dict, object, function, exception, empty, shown, fault}
use Rattle.kishu_meaning.specs.cells.Meaning.{run, call}
use Rattle.kishu_meaning_rows.proofs.Cells.{ran, ran_over}

builtin_1 : run One (codes "abs(-3), abs(3), abs(True), abs(0)") empty ≡ ran_over Done (shown (codes "(3, 3, 1, 0)") ∷ []) [] (tuple (integer (pos 3) ∷ integer (pos 3) ∷ integer (pos 1) ∷ integer (pos 0) ∷ []) ∷ []) (codes "abs" ∷ []) 27
unfolding reserved_marks delimiter operator numeral Q.escape Q.item Q.closes Q.body Q.quoted token_piece lexeme cut indented begin bracket step layout encode_utf8 code_of E.keyword_begins E.another E.argument E.attribute E.call E.slice_after E.item_or_slice E.trailer E.parenthesised E.list E.pair E.dict E.atom E.primary_parts E.primary E.power E.unary_level E.term E.sum E.compared E.negated_level E.conjunction E.disjunction E.expr_level E.exprs_level E.phrase S.primary_at S.another_simple S.raise S.return S.assertion S.delete S.global S.import S.update_of S.assignment_of S.update_or_assignment S.simple S.simples S.line S.block S.block_after S.arm S.choice S.while S.for S.caught S.handler S.handled S.finished S.try S.parameter S.definition S.define S.compound S.chunk S.program R.piece read_chars chars digits power builtin_names class_names run call
builtin_1 = refl

builtin_2 : run One (codes "abs('a')") empty ≡ ran Raised (fault (codes "TypeError") (codes "abs() got bad arguments") ∷ []) [] (codes "abs" ∷ []) 28
unfolding reserved_marks delimiter operator numeral Q.escape Q.item Q.closes Q.body Q.quoted token_piece lexeme cut indented begin bracket step layout encode_utf8 code_of E.keyword_begins E.another E.argument E.attribute E.call E.slice_after E.item_or_slice E.trailer E.parenthesised E.list E.pair E.dict E.atom E.primary_parts E.primary E.power E.unary_level E.term E.sum E.compared E.negated_level E.conjunction E.disjunction E.expr_level E.exprs_level E.phrase S.primary_at S.another_simple S.raise S.return S.assertion S.delete S.global S.import S.update_of S.assignment_of S.update_or_assignment S.simple S.simples S.line S.block S.block_after S.arm S.choice S.while S.for S.caught S.handler S.handled S.finished S.try S.parameter S.definition S.define S.compound S.chunk S.program R.piece read_chars chars digits power builtin_names class_names run call
builtin_2 = refl

builtin_3 : run One (codes "abs()") empty ≡ ran Raised (fault (codes "TypeError") (codes "abs() got bad arguments") ∷ []) [] (codes "abs" ∷ []) 27
unfolding reserved_marks delimiter operator numeral Q.escape Q.item Q.closes Q.body Q.quoted token_piece lexeme cut indented begin bracket step layout encode_utf8 code_of E.keyword_begins E.another E.argument E.attribute E.call E.slice_after E.item_or_slice E.trailer E.parenthesised E.list E.pair E.dict E.atom E.primary_parts E.primary E.power E.unary_level E.term E.sum E.compared E.negated_level E.conjunction E.disjunction E.expr_level E.exprs_level E.phrase S.primary_at S.another_simple S.raise S.return S.assertion S.delete S.global S.import S.update_of S.assignment_of S.update_or_assignment S.simple S.simples S.line S.block S.block_after S.arm S.choice S.while S.for S.caught S.handler S.handled S.finished S.try S.parameter S.definition S.define S.compound S.chunk S.program R.piece read_chars chars digits power builtin_names class_names run call
builtin_3 = refl

builtin_4 : run One (codes "abs(1, 2)") empty ≡ ran Raised (fault (codes "TypeError") (codes "abs() got bad arguments") ∷ []) [] (codes "abs" ∷ []) 29
unfolding reserved_marks delimiter operator numeral Q.escape Q.item Q.closes Q.body Q.quoted token_piece lexeme cut indented begin bracket step layout encode_utf8 code_of E.keyword_begins E.another E.argument E.attribute E.call E.slice_after E.item_or_slice E.trailer E.parenthesised E.list E.pair E.dict E.atom E.primary_parts E.primary E.power E.unary_level E.term E.sum E.compared E.negated_level E.conjunction E.disjunction E.expr_level E.exprs_level E.phrase S.primary_at S.another_simple S.raise S.return S.assertion S.delete S.global S.import S.update_of S.assignment_of S.update_or_assignment S.simple S.simples S.line S.block S.block_after S.arm S.choice S.while S.for S.caught S.handler S.handled S.finished S.try S.parameter S.definition S.define S.compound S.chunk S.program R.piece read_chars chars digits power builtin_names class_names run call
builtin_4 = refl

builtin_5 : run One (codes "abs(x=1)") empty ≡ ran Raised (fault (codes "TypeError") (codes "abs() got bad arguments") ∷ []) [] (codes "abs" ∷ []) 28
unfolding reserved_marks delimiter operator numeral Q.escape Q.item Q.closes Q.body Q.quoted token_piece lexeme cut indented begin bracket step layout encode_utf8 code_of E.keyword_begins E.another E.argument E.attribute E.call E.slice_after E.item_or_slice E.trailer E.parenthesised E.list E.pair E.dict E.atom E.primary_parts E.primary E.power E.unary_level E.term E.sum E.compared E.negated_level E.conjunction E.disjunction E.expr_level E.exprs_level E.phrase S.primary_at S.another_simple S.raise S.return S.assertion S.delete S.global S.import S.update_of S.assignment_of S.update_or_assignment S.simple S.simples S.line S.block S.block_after S.arm S.choice S.while S.for S.caught S.handler S.handled S.finished S.try S.parameter S.definition S.define S.compound S.chunk S.program R.piece read_chars chars digits power builtin_names class_names run call
builtin_5 = refl

builtin_6 : run One (codes "all([]), all([1, 'a']), all([1, 0, 2]), all(''), all({0: 1}), all((1,))") empty ≡ ran_over Done (shown (codes "(True, True, False, True, False, True)") ∷ []) [] (list [] ∷ list (integer (pos 1) ∷ text (codes "a") ∷ []) ∷ list (integer (pos 1) ∷ integer (pos 0) ∷ integer (pos 2) ∷ []) ∷ dict ((p.single (p.integer (pos 0)), integer (pos 1)) ∷ []) ∷ tuple (integer (pos 1) ∷ []) ∷ tuple (bool true ∷ bool true ∷ bool false ∷ bool true ∷ bool false ∷ bool true ∷ []) ∷ []) (codes "all" ∷ []) 72
unfolding reserved_marks delimiter operator numeral Q.escape Q.item Q.closes Q.body Q.quoted token_piece lexeme cut indented begin bracket step layout encode_utf8 code_of E.keyword_begins E.another E.argument E.attribute E.call E.slice_after E.item_or_slice E.trailer E.parenthesised E.list E.pair E.dict E.atom E.primary_parts E.primary E.power E.unary_level E.term E.sum E.compared E.negated_level E.conjunction E.disjunction E.expr_level E.exprs_level E.phrase S.primary_at S.another_simple S.raise S.return S.assertion S.delete S.global S.import S.update_of S.assignment_of S.update_or_assignment S.simple S.simples S.line S.block S.block_after S.arm S.choice S.while S.for S.caught S.handler S.handled S.finished S.try S.parameter S.definition S.define S.compound S.chunk S.program R.piece read_chars chars digits power builtin_names class_names run call
builtin_6 = refl

builtin_7 : run One (codes "any([]), any([0, ''])") empty ≡ ran_over Done (shown (codes "(False, False)") ∷ []) [] (list [] ∷ list (integer (pos 0) ∷ text (codes "") ∷ []) ∷ tuple (bool false ∷ bool false ∷ []) ∷ []) (codes "any" ∷ []) 26
unfolding reserved_marks delimiter operator numeral Q.escape Q.item Q.closes Q.body Q.quoted token_piece lexeme cut indented begin bracket step layout encode_utf8 code_of E.keyword_begins E.another E.argument E.attribute E.call E.slice_after E.item_or_slice E.trailer E.parenthesised E.list E.pair E.dict E.atom E.primary_parts E.primary E.power E.unary_level E.term E.sum E.compared E.negated_level E.conjunction E.disjunction E.expr_level E.exprs_level E.phrase S.primary_at S.another_simple S.raise S.return S.assertion S.delete S.global S.import S.update_of S.assignment_of S.update_or_assignment S.simple S.simples S.line S.block S.block_after S.arm S.choice S.while S.for S.caught S.handler S.handled S.finished S.try S.parameter S.definition S.define S.compound S.chunk S.program R.piece read_chars chars digits power builtin_names class_names run call
builtin_7 = refl

builtin_8 : run One (codes "any([0, 3, 0]), any({0: 1, 1: 2})") empty ≡ ran_over Done (shown (codes "(True, True)") ∷ []) [] (list (integer (pos 0) ∷ integer (pos 3) ∷ integer (pos 0) ∷ []) ∷ dict ((p.single (p.integer (pos 0)), integer (pos 1)) ∷ (p.single (p.integer (pos 1)), integer (pos 2)) ∷ []) ∷ tuple (bool true ∷ bool true ∷ []) ∷ []) (codes "any" ∷ []) 31
unfolding reserved_marks delimiter operator numeral Q.escape Q.item Q.closes Q.body Q.quoted token_piece lexeme cut indented begin bracket step layout encode_utf8 code_of E.keyword_begins E.another E.argument E.attribute E.call E.slice_after E.item_or_slice E.trailer E.parenthesised E.list E.pair E.dict E.atom E.primary_parts E.primary E.power E.unary_level E.term E.sum E.compared E.negated_level E.conjunction E.disjunction E.expr_level E.exprs_level E.phrase S.primary_at S.another_simple S.raise S.return S.assertion S.delete S.global S.import S.update_of S.assignment_of S.update_or_assignment S.simple S.simples S.line S.block S.block_after S.arm S.choice S.while S.for S.caught S.handler S.handled S.finished S.try S.parameter S.definition S.define S.compound S.chunk S.program R.piece read_chars chars digits power builtin_names class_names run call
builtin_8 = refl

builtin_9 : run One (codes "all(5)") empty ≡ ran Raised (fault (codes "TypeError") (codes "'int' object is not iterable") ∷ []) [] (codes "all" ∷ []) 33
unfolding reserved_marks delimiter operator numeral Q.escape Q.item Q.closes Q.body Q.quoted token_piece lexeme cut indented begin bracket step layout encode_utf8 code_of E.keyword_begins E.another E.argument E.attribute E.call E.slice_after E.item_or_slice E.trailer E.parenthesised E.list E.pair E.dict E.atom E.primary_parts E.primary E.power E.unary_level E.term E.sum E.compared E.negated_level E.conjunction E.disjunction E.expr_level E.exprs_level E.phrase S.primary_at S.another_simple S.raise S.return S.assertion S.delete S.global S.import S.update_of S.assignment_of S.update_or_assignment S.simple S.simples S.line S.block S.block_after S.arm S.choice S.while S.for S.caught S.handler S.handled S.finished S.try S.parameter S.definition S.define S.compound S.chunk S.program R.piece read_chars chars digits power builtin_names class_names run call
builtin_9 = refl

builtin_10 : run One (codes "any(None)") empty ≡ ran Raised (fault (codes "TypeError") (codes "'NoneType' object is not iterable") ∷ []) [] (codes "any" ∷ []) 38
unfolding reserved_marks delimiter operator numeral Q.escape Q.item Q.closes Q.body Q.quoted token_piece lexeme cut indented begin bracket step layout encode_utf8 code_of E.keyword_begins E.another E.argument E.attribute E.call E.slice_after E.item_or_slice E.trailer E.parenthesised E.list E.pair E.dict E.atom E.primary_parts E.primary E.power E.unary_level E.term E.sum E.compared E.negated_level E.conjunction E.disjunction E.expr_level E.exprs_level E.phrase S.primary_at S.another_simple S.raise S.return S.assertion S.delete S.global S.import S.update_of S.assignment_of S.update_or_assignment S.simple S.simples S.line S.block S.block_after S.arm S.choice S.while S.for S.caught S.handler S.handled S.finished S.try S.parameter S.definition S.define S.compound S.chunk S.program R.piece read_chars chars digits power builtin_names class_names run call
builtin_10 = refl

builtin_11 : run One (codes "all([1], [2])") empty ≡ ran_over Raised (fault (codes "TypeError") (codes "all() got bad arguments") ∷ []) [] (list (integer (pos 1) ∷ []) ∷ list (integer (pos 2) ∷ []) ∷ []) (codes "all" ∷ []) 31
unfolding reserved_marks delimiter operator numeral Q.escape Q.item Q.closes Q.body Q.quoted token_piece lexeme cut indented begin bracket step layout encode_utf8 code_of E.keyword_begins E.another E.argument E.attribute E.call E.slice_after E.item_or_slice E.trailer E.parenthesised E.list E.pair E.dict E.atom E.primary_parts E.primary E.power E.unary_level E.term E.sum E.compared E.negated_level E.conjunction E.disjunction E.expr_level E.exprs_level E.phrase S.primary_at S.another_simple S.raise S.return S.assertion S.delete S.global S.import S.update_of S.assignment_of S.update_or_assignment S.simple S.simples S.line S.block S.block_after S.arm S.choice S.while S.for S.caught S.handler S.handled S.finished S.try S.parameter S.definition S.define S.compound S.chunk S.program R.piece read_chars chars digits power builtin_names class_names run call
builtin_11 = refl

builtin_12 : run One (codes "chr(97), chr(0x1F600), chr(0) == '\\0'") empty ≡ ran_over Done (shown (40 ∷ 39 ∷ 97 ∷ 39 ∷ 44 ∷ 32 ∷ 39 ∷ 240 ∷ 159 ∷ 152 ∷ 128 ∷ 39 ∷ 44 ∷ 32 ∷ 84 ∷ 114 ∷ 117 ∷ 101 ∷ 41 ∷ []) ∷ []) [] (tuple (text (codes "a") ∷ text (128512 ∷ []) ∷ bool true ∷ []) ∷ []) (codes "chr" ∷ []) 30
unfolding reserved_marks delimiter operator numeral Q.escape Q.item Q.closes Q.body Q.quoted token_piece lexeme cut indented begin bracket step layout encode_utf8 code_of E.keyword_begins E.another E.argument E.attribute E.call E.slice_after E.item_or_slice E.trailer E.parenthesised E.list E.pair E.dict E.atom E.primary_parts E.primary E.power E.unary_level E.term E.sum E.compared E.negated_level E.conjunction E.disjunction E.expr_level E.exprs_level E.phrase S.primary_at S.another_simple S.raise S.return S.assertion S.delete S.global S.import S.update_of S.assignment_of S.update_or_assignment S.simple S.simples S.line S.block S.block_after S.arm S.choice S.while S.for S.caught S.handler S.handled S.finished S.try S.parameter S.definition S.define S.compound S.chunk S.program R.piece read_chars chars digits power builtin_names class_names run call
builtin_12 = refl

builtin_13 : run One (codes "chr(-1)") empty ≡ ran Raised (fault (codes "ValueError") (codes "not a character") ∷ []) [] (codes "chr" ∷ []) 21
unfolding reserved_marks delimiter operator numeral Q.escape Q.item Q.closes Q.body Q.quoted token_piece lexeme cut indented begin bracket step layout encode_utf8 code_of E.keyword_begins E.another E.argument E.attribute E.call E.slice_after E.item_or_slice E.trailer E.parenthesised E.list E.pair E.dict E.atom E.primary_parts E.primary E.power E.unary_level E.term E.sum E.compared E.negated_level E.conjunction E.disjunction E.expr_level E.exprs_level E.phrase S.primary_at S.another_simple S.raise S.return S.assertion S.delete S.global S.import S.update_of S.assignment_of S.update_or_assignment S.simple S.simples S.line S.block S.block_after S.arm S.choice S.while S.for S.caught S.handler S.handled S.finished S.try S.parameter S.definition S.define S.compound S.chunk S.program R.piece read_chars chars digits power builtin_names class_names run call
builtin_13 = refl

builtin_14 : run One (codes "chr(0x110000)") empty ≡ ran Raised (fault (codes "ValueError") (codes "not a character") ∷ []) [] (codes "chr" ∷ []) 20
unfolding reserved_marks delimiter operator numeral Q.escape Q.item Q.closes Q.body Q.quoted token_piece lexeme cut indented begin bracket step layout encode_utf8 code_of E.keyword_begins E.another E.argument E.attribute E.call E.slice_after E.item_or_slice E.trailer E.parenthesised E.list E.pair E.dict E.atom E.primary_parts E.primary E.power E.unary_level E.term E.sum E.compared E.negated_level E.conjunction E.disjunction E.expr_level E.exprs_level E.phrase S.primary_at S.another_simple S.raise S.return S.assertion S.delete S.global S.import S.update_of S.assignment_of S.update_or_assignment S.simple S.simples S.line S.block S.block_after S.arm S.choice S.while S.for S.caught S.handler S.handled S.finished S.try S.parameter S.definition S.define S.compound S.chunk S.program R.piece read_chars chars digits power builtin_names class_names run call
builtin_14 = refl

builtin_15 : run One (codes "chr('a')") empty ≡ ran Raised (fault (codes "TypeError") (codes "chr() got bad arguments") ∷ []) [] (codes "chr" ∷ []) 28
unfolding reserved_marks delimiter operator numeral Q.escape Q.item Q.closes Q.body Q.quoted token_piece lexeme cut indented begin bracket step layout encode_utf8 code_of E.keyword_begins E.another E.argument E.attribute E.call E.slice_after E.item_or_slice E.trailer E.parenthesised E.list E.pair E.dict E.atom E.primary_parts E.primary E.power E.unary_level E.term E.sum E.compared E.negated_level E.conjunction E.disjunction E.expr_level E.exprs_level E.phrase S.primary_at S.another_simple S.raise S.return S.assertion S.delete S.global S.import S.update_of S.assignment_of S.update_or_assignment S.simple S.simples S.line S.block S.block_after S.arm S.choice S.while S.for S.caught S.handler S.handled S.finished S.try S.parameter S.definition S.define S.compound S.chunk S.program R.piece read_chars chars digits power builtin_names class_names run call
builtin_15 = refl

builtin_16 : run One (111 ∷ 114 ∷ 100 ∷ 40 ∷ 39 ∷ 97 ∷ 39 ∷ 41 ∷ 44 ∷ 32 ∷ 111 ∷ 114 ∷ 100 ∷ 40 ∷ 39 ∷ 195 ∷ 169 ∷ 39 ∷ 41 ∷ 44 ∷ 32 ∷ 111 ∷ 114 ∷ 100 ∷ 40 ∷ 99 ∷ 104 ∷ 114 ∷ 40 ∷ 49 ∷ 50 ∷ 56 ∷ 53 ∷ 49 ∷ 50 ∷ 41 ∷ 41 ∷ []) empty ≡ ran_over Done (shown (codes "(97, 233, 128512)") ∷ []) [] (tuple (integer (pos 97) ∷ integer (pos 233) ∷ integer (pos 128512) ∷ []) ∷ []) (codes "chr" ∷ codes "ord" ∷ []) 30
unfolding reserved_marks delimiter operator numeral Q.escape Q.item Q.closes Q.body Q.quoted token_piece lexeme cut indented begin bracket step layout encode_utf8 code_of E.keyword_begins E.another E.argument E.attribute E.call E.slice_after E.item_or_slice E.trailer E.parenthesised E.list E.pair E.dict E.atom E.primary_parts E.primary E.power E.unary_level E.term E.sum E.compared E.negated_level E.conjunction E.disjunction E.expr_level E.exprs_level E.phrase S.primary_at S.another_simple S.raise S.return S.assertion S.delete S.global S.import S.update_of S.assignment_of S.update_or_assignment S.simple S.simples S.line S.block S.block_after S.arm S.choice S.while S.for S.caught S.handler S.handled S.finished S.try S.parameter S.definition S.define S.compound S.chunk S.program R.piece read_chars chars digits power builtin_names class_names run call
builtin_16 = refl

builtin_17 : run One (codes "ord('')") empty ≡ ran Raised (fault (codes "TypeError") (codes "ord() got bad arguments") ∷ []) [] (codes "ord" ∷ []) 28
unfolding reserved_marks delimiter operator numeral Q.escape Q.item Q.closes Q.body Q.quoted token_piece lexeme cut indented begin bracket step layout encode_utf8 code_of E.keyword_begins E.another E.argument E.attribute E.call E.slice_after E.item_or_slice E.trailer E.parenthesised E.list E.pair E.dict E.atom E.primary_parts E.primary E.power E.unary_level E.term E.sum E.compared E.negated_level E.conjunction E.disjunction E.expr_level E.exprs_level E.phrase S.primary_at S.another_simple S.raise S.return S.assertion S.delete S.global S.import S.update_of S.assignment_of S.update_or_assignment S.simple S.simples S.line S.block S.block_after S.arm S.choice S.while S.for S.caught S.handler S.handled S.finished S.try S.parameter S.definition S.define S.compound S.chunk S.program R.piece read_chars chars digits power builtin_names class_names run call
builtin_17 = refl

builtin_18 : run One (codes "ord('ab')") empty ≡ ran Raised (fault (codes "TypeError") (codes "ord() got bad arguments") ∷ []) [] (codes "ord" ∷ []) 28
unfolding reserved_marks delimiter operator numeral Q.escape Q.item Q.closes Q.body Q.quoted token_piece lexeme cut indented begin bracket step layout encode_utf8 code_of E.keyword_begins E.another E.argument E.attribute E.call E.slice_after E.item_or_slice E.trailer E.parenthesised E.list E.pair E.dict E.atom E.primary_parts E.primary E.power E.unary_level E.term E.sum E.compared E.negated_level E.conjunction E.disjunction E.expr_level E.exprs_level E.phrase S.primary_at S.another_simple S.raise S.return S.assertion S.delete S.global S.import S.update_of S.assignment_of S.update_or_assignment S.simple S.simples S.line S.block S.block_after S.arm S.choice S.while S.for S.caught S.handler S.handled S.finished S.try S.parameter S.definition S.define S.compound S.chunk S.program R.piece read_chars chars digits power builtin_names class_names run call
builtin_18 = refl

builtin_19 : run One (codes "ord(1)") empty ≡ ran Raised (fault (codes "TypeError") (codes "ord() got bad arguments") ∷ []) [] (codes "ord" ∷ []) 28
unfolding reserved_marks delimiter operator numeral Q.escape Q.item Q.closes Q.body Q.quoted token_piece lexeme cut indented begin bracket step layout encode_utf8 code_of E.keyword_begins E.another E.argument E.attribute E.call E.slice_after E.item_or_slice E.trailer E.parenthesised E.list E.pair E.dict E.atom E.primary_parts E.primary E.power E.unary_level E.term E.sum E.compared E.negated_level E.conjunction E.disjunction E.expr_level E.exprs_level E.phrase S.primary_at S.another_simple S.raise S.return S.assertion S.delete S.global S.import S.update_of S.assignment_of S.update_or_assignment S.simple S.simples S.line S.block S.block_after S.arm S.choice S.while S.for S.caught S.handler S.handled S.finished S.try S.parameter S.definition S.define S.compound S.chunk S.program R.piece read_chars chars digits power builtin_names class_names run call
builtin_19 = refl

builtin_20 : run One (codes "divmod(7, 2), divmod(-7, 2), divmod(7, -2), divmod(True, 1)") empty ≡ ran_over Done (shown (codes "((3, 1), (-4, 1), (-4, -1), (1, 0))") ∷ []) [] (tuple (integer (pos 3) ∷ integer (pos 1) ∷ []) ∷ tuple (integer (negsuc 3) ∷ integer (pos 1) ∷ []) ∷ tuple (integer (negsuc 3) ∷ integer (negsuc 0) ∷ []) ∷ tuple (integer (pos 1) ∷ integer (pos 0) ∷ []) ∷ tuple (node 0 ∷ node 1 ∷ node 2 ∷ node 3 ∷ []) ∷ []) (codes "divmod" ∷ []) 55
unfolding reserved_marks delimiter operator numeral Q.escape Q.item Q.closes Q.body Q.quoted token_piece lexeme cut indented begin bracket step layout encode_utf8 code_of E.keyword_begins E.another E.argument E.attribute E.call E.slice_after E.item_or_slice E.trailer E.parenthesised E.list E.pair E.dict E.atom E.primary_parts E.primary E.power E.unary_level E.term E.sum E.compared E.negated_level E.conjunction E.disjunction E.expr_level E.exprs_level E.phrase S.primary_at S.another_simple S.raise S.return S.assertion S.delete S.global S.import S.update_of S.assignment_of S.update_or_assignment S.simple S.simples S.line S.block S.block_after S.arm S.choice S.while S.for S.caught S.handler S.handled S.finished S.try S.parameter S.definition S.define S.compound S.chunk S.program R.piece read_chars chars digits power builtin_names class_names run call
builtin_20 = refl

builtin_21 : run One (codes "divmod(1, 0)") empty ≡ ran Raised (fault (codes "ZeroDivisionError") (codes "division by zero") ∷ []) [] (codes "divmod" ∷ []) 22
unfolding reserved_marks delimiter operator numeral Q.escape Q.item Q.closes Q.body Q.quoted token_piece lexeme cut indented begin bracket step layout encode_utf8 code_of E.keyword_begins E.another E.argument E.attribute E.call E.slice_after E.item_or_slice E.trailer E.parenthesised E.list E.pair E.dict E.atom E.primary_parts E.primary E.power E.unary_level E.term E.sum E.compared E.negated_level E.conjunction E.disjunction E.expr_level E.exprs_level E.phrase S.primary_at S.another_simple S.raise S.return S.assertion S.delete S.global S.import S.update_of S.assignment_of S.update_or_assignment S.simple S.simples S.line S.block S.block_after S.arm S.choice S.while S.for S.caught S.handler S.handled S.finished S.try S.parameter S.definition S.define S.compound S.chunk S.program R.piece read_chars chars digits power builtin_names class_names run call
builtin_21 = refl

builtin_22 : run One (codes "divmod(1, 'a')") empty ≡ ran Raised (fault (codes "TypeError") (codes "divmod() got bad arguments") ∷ []) [] (codes "divmod" ∷ []) 32
unfolding reserved_marks delimiter operator numeral Q.escape Q.item Q.closes Q.body Q.quoted token_piece lexeme cut indented begin bracket step layout encode_utf8 code_of E.keyword_begins E.another E.argument E.attribute E.call E.slice_after E.item_or_slice E.trailer E.parenthesised E.list E.pair E.dict E.atom E.primary_parts E.primary E.power E.unary_level E.term E.sum E.compared E.negated_level E.conjunction E.disjunction E.expr_level E.exprs_level E.phrase S.primary_at S.another_simple S.raise S.return S.assertion S.delete S.global S.import S.update_of S.assignment_of S.update_or_assignment S.simple S.simples S.line S.block S.block_after S.arm S.choice S.while S.for S.caught S.handler S.handled S.finished S.try S.parameter S.definition S.define S.compound S.chunk S.program R.piece read_chars chars digits power builtin_names class_names run call
builtin_22 = refl

builtin_23 : run One (codes "divmod(1)") empty ≡ ran Raised (fault (codes "TypeError") (codes "divmod() got bad arguments") ∷ []) [] (codes "divmod" ∷ []) 31
unfolding reserved_marks delimiter operator numeral Q.escape Q.item Q.closes Q.body Q.quoted token_piece lexeme cut indented begin bracket step layout encode_utf8 code_of E.keyword_begins E.another E.argument E.attribute E.call E.slice_after E.item_or_slice E.trailer E.parenthesised E.list E.pair E.dict E.atom E.primary_parts E.primary E.power E.unary_level E.term E.sum E.compared E.negated_level E.conjunction E.disjunction E.expr_level E.exprs_level E.phrase S.primary_at S.another_simple S.raise S.return S.assertion S.delete S.global S.import S.update_of S.assignment_of S.update_or_assignment S.simple S.simples S.line S.block S.block_after S.arm S.choice S.while S.for S.caught S.handler S.handled S.finished S.try S.parameter S.definition S.define S.compound S.chunk S.program R.piece read_chars chars digits power builtin_names class_names run call
builtin_23 = refl

builtin_24 : run One (codes "isinstance(1, int), isinstance(True, int), isinstance(True, bool), isinstance(1, bool), isinstance('a', str), isinstance([], list), isinstance((), tuple), isinstance({}, dict)") empty ≡ ran_over Done (shown (codes "(True, True, True, False, True, True, True, True)") ∷ []) [] (list [] ∷ tuple [] ∷ dict [] ∷ tuple (bool true ∷ bool true ∷ bool true ∷ bool false ∷ bool true ∷ bool true ∷ bool true ∷ bool true ∷ []) ∷ []) (codes "bool" ∷ codes "dict" ∷ codes "int" ∷ codes "isinstance" ∷ codes "list" ∷ codes "str" ∷ codes "tuple" ∷ []) 83
unfolding reserved_marks delimiter operator numeral Q.escape Q.item Q.closes Q.body Q.quoted token_piece lexeme cut indented begin bracket step layout encode_utf8 code_of E.keyword_begins E.another E.argument E.attribute E.call E.slice_after E.item_or_slice E.trailer E.parenthesised E.list E.pair E.dict E.atom E.primary_parts E.primary E.power E.unary_level E.term E.sum E.compared E.negated_level E.conjunction E.disjunction E.expr_level E.exprs_level E.phrase S.primary_at S.another_simple S.raise S.return S.assertion S.delete S.global S.import S.update_of S.assignment_of S.update_or_assignment S.simple S.simples S.line S.block S.block_after S.arm S.choice S.while S.for S.caught S.handler S.handled S.finished S.try S.parameter S.definition S.define S.compound S.chunk S.program R.piece read_chars chars digits power builtin_names class_names run call
builtin_24 = refl

builtin_25 : run One (codes "isinstance([], (int, list)), isinstance([], (int, str)), isinstance([], ())") empty ≡ ran_over Done (shown (codes "(True, False, False)") ∷ []) [] (list [] ∷ tuple (class 2 ∷ class 3 ∷ []) ∷ list [] ∷ tuple (class 2 ∷ class 6 ∷ []) ∷ list [] ∷ tuple [] ∷ tuple (bool true ∷ bool false ∷ bool false ∷ []) ∷ []) (codes "int" ∷ codes "isinstance" ∷ codes "list" ∷ codes "str" ∷ []) 38
unfolding reserved_marks delimiter operator numeral Q.escape Q.item Q.closes Q.body Q.quoted token_piece lexeme cut indented begin bracket step layout encode_utf8 code_of E.keyword_begins E.another E.argument E.attribute E.call E.slice_after E.item_or_slice E.trailer E.parenthesised E.list E.pair E.dict E.atom E.primary_parts E.primary E.power E.unary_level E.term E.sum E.compared E.negated_level E.conjunction E.disjunction E.expr_level E.exprs_level E.phrase S.primary_at S.another_simple S.raise S.return S.assertion S.delete S.global S.import S.update_of S.assignment_of S.update_or_assignment S.simple S.simples S.line S.block S.block_after S.arm S.choice S.while S.for S.caught S.handler S.handled S.finished S.try S.parameter S.definition S.define S.compound S.chunk S.program R.piece read_chars chars digits power builtin_names class_names run call
builtin_25 = refl

builtin_26 : run One (codes "isinstance(None, int), isinstance(len, int), isinstance(int, int), isinstance(range(1), range)") empty ≡ ran_over Done (shown (codes "(False, False, False, True)") ∷ []) [] (tuple (bool false ∷ bool false ∷ bool false ∷ bool true ∷ []) ∷ []) (codes "int" ∷ codes "isinstance" ∷ codes "len" ∷ codes "range" ∷ []) 47
unfolding reserved_marks delimiter operator numeral Q.escape Q.item Q.closes Q.body Q.quoted token_piece lexeme cut indented begin bracket step layout encode_utf8 code_of E.keyword_begins E.another E.argument E.attribute E.call E.slice_after E.item_or_slice E.trailer E.parenthesised E.list E.pair E.dict E.atom E.primary_parts E.primary E.power E.unary_level E.term E.sum E.compared E.negated_level E.conjunction E.disjunction E.expr_level E.exprs_level E.phrase S.primary_at S.another_simple S.raise S.return S.assertion S.delete S.global S.import S.update_of S.assignment_of S.update_or_assignment S.simple S.simples S.line S.block S.block_after S.arm S.choice S.while S.for S.caught S.handler S.handled S.finished S.try S.parameter S.definition S.define S.compound S.chunk S.program R.piece read_chars chars digits power builtin_names class_names run call
builtin_26 = refl

builtin_27 : run One (codes "isinstance(KeyError('a'), LookupError), isinstance(KeyError('a'), Exception), isinstance(KeyError('a'), IndexError), isinstance(ZeroDivisionError(), ArithmeticError)") empty ≡ ran_over Done (shown (codes "(True, True, False, True)") ∷ []) [] (exception 16 (text (codes "a") ∷ []) ∷ exception 16 (text (codes "a") ∷ []) ∷ exception 16 (text (codes "a") ∷ []) ∷ exception 11 [] ∷ tuple (bool true ∷ bool true ∷ bool false ∷ bool true ∷ []) ∷ []) (codes "ArithmeticError" ∷ codes "Exception" ∷ codes "IndexError" ∷ codes "KeyError" ∷ codes "LookupError" ∷ codes "ZeroDivisionError" ∷ codes "isinstance" ∷ []) 50
unfolding reserved_marks delimiter operator numeral Q.escape Q.item Q.closes Q.body Q.quoted token_piece lexeme cut indented begin bracket step layout encode_utf8 code_of E.keyword_begins E.another E.argument E.attribute E.call E.slice_after E.item_or_slice E.trailer E.parenthesised E.list E.pair E.dict E.atom E.primary_parts E.primary E.power E.unary_level E.term E.sum E.compared E.negated_level E.conjunction E.disjunction E.expr_level E.exprs_level E.phrase S.primary_at S.another_simple S.raise S.return S.assertion S.delete S.global S.import S.update_of S.assignment_of S.update_or_assignment S.simple S.simples S.line S.block S.block_after S.arm S.choice S.while S.for S.caught S.handler S.handled S.finished S.try S.parameter S.definition S.define S.compound S.chunk S.program R.piece read_chars chars digits power builtin_names class_names run call
builtin_27 = refl

builtin_28 : run One (codes "isinstance(SimpleNamespace(), SimpleNamespace)") empty ≡ ran_over Done (shown (codes "True") ∷ []) [] (object [] ∷ []) (codes "SimpleNamespace" ∷ codes "isinstance" ∷ []) 10
unfolding reserved_marks delimiter operator numeral Q.escape Q.item Q.closes Q.body Q.quoted token_piece lexeme cut indented begin bracket step layout encode_utf8 code_of E.keyword_begins E.another E.argument E.attribute E.call E.slice_after E.item_or_slice E.trailer E.parenthesised E.list E.pair E.dict E.atom E.primary_parts E.primary E.power E.unary_level E.term E.sum E.compared E.negated_level E.conjunction E.disjunction E.expr_level E.exprs_level E.phrase S.primary_at S.another_simple S.raise S.return S.assertion S.delete S.global S.import S.update_of S.assignment_of S.update_or_assignment S.simple S.simples S.line S.block S.block_after S.arm S.choice S.while S.for S.caught S.handler S.handled S.finished S.try S.parameter S.definition S.define S.compound S.chunk S.program R.piece read_chars chars digits power builtin_names class_names run call
builtin_28 = refl

builtin_29 : run One (codes "isinstance(1, 1)") empty ≡ ran Raised (fault (codes "TypeError") (codes "isinstance() got bad arguments") ∷ []) [] (codes "isinstance" ∷ []) 36
unfolding reserved_marks delimiter operator numeral Q.escape Q.item Q.closes Q.body Q.quoted token_piece lexeme cut indented begin bracket step layout encode_utf8 code_of E.keyword_begins E.another E.argument E.attribute E.call E.slice_after E.item_or_slice E.trailer E.parenthesised E.list E.pair E.dict E.atom E.primary_parts E.primary E.power E.unary_level E.term E.sum E.compared E.negated_level E.conjunction E.disjunction E.expr_level E.exprs_level E.phrase S.primary_at S.another_simple S.raise S.return S.assertion S.delete S.global S.import S.update_of S.assignment_of S.update_or_assignment S.simple S.simples S.line S.block S.block_after S.arm S.choice S.while S.for S.caught S.handler S.handled S.finished S.try S.parameter S.definition S.define S.compound S.chunk S.program R.piece read_chars chars digits power builtin_names class_names run call
builtin_29 = refl

builtin_30 : run One (codes "isinstance(1)") empty ≡ ran Raised (fault (codes "TypeError") (codes "isinstance() got bad arguments") ∷ []) [] (codes "isinstance" ∷ []) 35
unfolding reserved_marks delimiter operator numeral Q.escape Q.item Q.closes Q.body Q.quoted token_piece lexeme cut indented begin bracket step layout encode_utf8 code_of E.keyword_begins E.another E.argument E.attribute E.call E.slice_after E.item_or_slice E.trailer E.parenthesised E.list E.pair E.dict E.atom E.primary_parts E.primary E.power E.unary_level E.term E.sum E.compared E.negated_level E.conjunction E.disjunction E.expr_level E.exprs_level E.phrase S.primary_at S.another_simple S.raise S.return S.assertion S.delete S.global S.import S.update_of S.assignment_of S.update_or_assignment S.simple S.simples S.line S.block S.block_after S.arm S.choice S.while S.for S.caught S.handler S.handled S.finished S.try S.parameter S.definition S.define S.compound S.chunk S.program R.piece read_chars chars digits power builtin_names class_names run call
builtin_30 = refl

builtin_31 : run One (codes "isinstance(1, [int])") empty ≡ ran_over Raised (fault (codes "TypeError") (codes "isinstance() got bad arguments") ∷ []) [] (list (class 2 ∷ []) ∷ []) (codes "int" ∷ codes "isinstance" ∷ []) 37
unfolding reserved_marks delimiter operator numeral Q.escape Q.item Q.closes Q.body Q.quoted token_piece lexeme cut indented begin bracket step layout encode_utf8 code_of E.keyword_begins E.another E.argument E.attribute E.call E.slice_after E.item_or_slice E.trailer E.parenthesised E.list E.pair E.dict E.atom E.primary_parts E.primary E.power E.unary_level E.term E.sum E.compared E.negated_level E.conjunction E.disjunction E.expr_level E.exprs_level E.phrase S.primary_at S.another_simple S.raise S.return S.assertion S.delete S.global S.import S.update_of S.assignment_of S.update_or_assignment S.simple S.simples S.line S.block S.block_after S.arm S.choice S.while S.for S.caught S.handler S.handled S.finished S.try S.parameter S.definition S.define S.compound S.chunk S.program R.piece read_chars chars digits power builtin_names class_names run call
builtin_31 = refl

builtin_32 : run One (codes "def f(): pass\nisinstance(f, dict)") empty ≡ ran_over Done (shown (codes "False") ∷ []) ((codes "f", node 0) ∷ []) (function One (codes "def f(): pass") [] ∷ []) (codes "dict" ∷ codes "f" ∷ codes "isinstance" ∷ []) 11
unfolding reserved_marks delimiter operator numeral Q.escape Q.item Q.closes Q.body Q.quoted token_piece lexeme cut indented begin bracket step layout encode_utf8 code_of E.keyword_begins E.another E.argument E.attribute E.call E.slice_after E.item_or_slice E.trailer E.parenthesised E.list E.pair E.dict E.atom E.primary_parts E.primary E.power E.unary_level E.term E.sum E.compared E.negated_level E.conjunction E.disjunction E.expr_level E.exprs_level E.phrase S.primary_at S.another_simple S.raise S.return S.assertion S.delete S.global S.import S.update_of S.assignment_of S.update_or_assignment S.simple S.simples S.line S.block S.block_after S.arm S.choice S.while S.for S.caught S.handler S.handled S.finished S.try S.parameter S.definition S.define S.compound S.chunk S.program R.piece read_chars chars digits power builtin_names class_names run call
builtin_32 = refl

builtin_33 : run One (108 ∷ 101 ∷ 110 ∷ 40 ∷ 39 ∷ 97 ∷ 98 ∷ 99 ∷ 39 ∷ 41 ∷ 44 ∷ 32 ∷ 108 ∷ 101 ∷ 110 ∷ 40 ∷ 91 ∷ 49 ∷ 93 ∷ 41 ∷ 44 ∷ 32 ∷ 108 ∷ 101 ∷ 110 ∷ 40 ∷ 40 ∷ 41 ∷ 41 ∷ 44 ∷ 32 ∷ 108 ∷ 101 ∷ 110 ∷ 40 ∷ 123 ∷ 49 ∷ 58 ∷ 32 ∷ 50 ∷ 125 ∷ 41 ∷ 44 ∷ 32 ∷ 108 ∷ 101 ∷ 110 ∷ 40 ∷ 114 ∷ 97 ∷ 110 ∷ 103 ∷ 101 ∷ 40 ∷ 48 ∷ 44 ∷ 32 ∷ 49 ∷ 48 ∷ 44 ∷ 32 ∷ 51 ∷ 41 ∷ 41 ∷ 44 ∷ 32 ∷ 108 ∷ 101 ∷ 110 ∷ 40 ∷ 39 ∷ 195 ∷ 169 ∷ 240 ∷ 159 ∷ 152 ∷ 128 ∷ 39 ∷ 41 ∷ []) empty ≡ ran_over Done (shown (codes "(3, 1, 0, 1, 4, 2)") ∷ []) [] (list (integer (pos 1) ∷ []) ∷ tuple [] ∷ dict ((p.single (p.integer (pos 1)), integer (pos 2)) ∷ []) ∷ tuple (integer (pos 3) ∷ integer (pos 1) ∷ integer (pos 0) ∷ integer (pos 1) ∷ integer (pos 4) ∷ integer (pos 2) ∷ []) ∷ []) (codes "len" ∷ codes "range" ∷ []) 45
unfolding reserved_marks delimiter operator numeral Q.escape Q.item Q.closes Q.body Q.quoted token_piece lexeme cut indented begin bracket step layout encode_utf8 code_of E.keyword_begins E.another E.argument E.attribute E.call E.slice_after E.item_or_slice E.trailer E.parenthesised E.list E.pair E.dict E.atom E.primary_parts E.primary E.power E.unary_level E.term E.sum E.compared E.negated_level E.conjunction E.disjunction E.expr_level E.exprs_level E.phrase S.primary_at S.another_simple S.raise S.return S.assertion S.delete S.global S.import S.update_of S.assignment_of S.update_or_assignment S.simple S.simples S.line S.block S.block_after S.arm S.choice S.while S.for S.caught S.handler S.handled S.finished S.try S.parameter S.definition S.define S.compound S.chunk S.program R.piece read_chars chars digits power builtin_names class_names run call
builtin_33 = refl

builtin_34 : run One (codes "len(5)") empty ≡ ran Raised (fault (codes "TypeError") (codes "len() got bad arguments") ∷ []) [] (codes "len" ∷ []) 28
unfolding reserved_marks delimiter operator numeral Q.escape Q.item Q.closes Q.body Q.quoted token_piece lexeme cut indented begin bracket step layout encode_utf8 code_of E.keyword_begins E.another E.argument E.attribute E.call E.slice_after E.item_or_slice E.trailer E.parenthesised E.list E.pair E.dict E.atom E.primary_parts E.primary E.power E.unary_level E.term E.sum E.compared E.negated_level E.conjunction E.disjunction E.expr_level E.exprs_level E.phrase S.primary_at S.another_simple S.raise S.return S.assertion S.delete S.global S.import S.update_of S.assignment_of S.update_or_assignment S.simple S.simples S.line S.block S.block_after S.arm S.choice S.while S.for S.caught S.handler S.handled S.finished S.try S.parameter S.definition S.define S.compound S.chunk S.program R.piece read_chars chars digits power builtin_names class_names run call
builtin_34 = refl

builtin_35 : run One (codes "len(None)") empty ≡ ran Raised (fault (codes "TypeError") (codes "len() got bad arguments") ∷ []) [] (codes "len" ∷ []) 28
unfolding reserved_marks delimiter operator numeral Q.escape Q.item Q.closes Q.body Q.quoted token_piece lexeme cut indented begin bracket step layout encode_utf8 code_of E.keyword_begins E.another E.argument E.attribute E.call E.slice_after E.item_or_slice E.trailer E.parenthesised E.list E.pair E.dict E.atom E.primary_parts E.primary E.power E.unary_level E.term E.sum E.compared E.negated_level E.conjunction E.disjunction E.expr_level E.exprs_level E.phrase S.primary_at S.another_simple S.raise S.return S.assertion S.delete S.global S.import S.update_of S.assignment_of S.update_or_assignment S.simple S.simples S.line S.block S.block_after S.arm S.choice S.while S.for S.caught S.handler S.handled S.finished S.try S.parameter S.definition S.define S.compound S.chunk S.program R.piece read_chars chars digits power builtin_names class_names run call
builtin_35 = refl

builtin_36 : run One (codes "len()") empty ≡ ran Raised (fault (codes "TypeError") (codes "len() got bad arguments") ∷ []) [] (codes "len" ∷ []) 27
unfolding reserved_marks delimiter operator numeral Q.escape Q.item Q.closes Q.body Q.quoted token_piece lexeme cut indented begin bracket step layout encode_utf8 code_of E.keyword_begins E.another E.argument E.attribute E.call E.slice_after E.item_or_slice E.trailer E.parenthesised E.list E.pair E.dict E.atom E.primary_parts E.primary E.power E.unary_level E.term E.sum E.compared E.negated_level E.conjunction E.disjunction E.expr_level E.exprs_level E.phrase S.primary_at S.another_simple S.raise S.return S.assertion S.delete S.global S.import S.update_of S.assignment_of S.update_or_assignment S.simple S.simples S.line S.block S.block_after S.arm S.choice S.while S.for S.caught S.handler S.handled S.finished S.try S.parameter S.definition S.define S.compound S.chunk S.program R.piece read_chars chars digits power builtin_names class_names run call
builtin_36 = refl

builtin_37 : run One (codes "max(1, 2), min(1, 2), max([3, 1, 2]), min('bca'), max({1: 2, 5: 0})") empty ≡ ran_over Done (shown (codes "(2, 1, 3, 'a', 5)") ∷ []) [] (list (integer (pos 3) ∷ integer (pos 1) ∷ integer (pos 2) ∷ []) ∷ dict ((p.single (p.integer (pos 1)), integer (pos 2)) ∷ (p.single (p.integer (pos 5)), integer (pos 0)) ∷ []) ∷ tuple (integer (pos 2) ∷ integer (pos 1) ∷ integer (pos 3) ∷ text (codes "a") ∷ integer (pos 5) ∷ []) ∷ []) (codes "max" ∷ codes "min" ∷ []) 57
unfolding reserved_marks delimiter operator numeral Q.escape Q.item Q.closes Q.body Q.quoted token_piece lexeme cut indented begin bracket step layout encode_utf8 code_of E.keyword_begins E.another E.argument E.attribute E.call E.slice_after E.item_or_slice E.trailer E.parenthesised E.list E.pair E.dict E.atom E.primary_parts E.primary E.power E.unary_level E.term E.sum E.compared E.negated_level E.conjunction E.disjunction E.expr_level E.exprs_level E.phrase S.primary_at S.another_simple S.raise S.return S.assertion S.delete S.global S.import S.update_of S.assignment_of S.update_or_assignment S.simple S.simples S.line S.block S.block_after S.arm S.choice S.while S.for S.caught S.handler S.handled S.finished S.try S.parameter S.definition S.define S.compound S.chunk S.program R.piece read_chars chars digits power builtin_names class_names run call
builtin_37 = refl

builtin_38 : run One (codes "max([True, 1]), max(1, True), min([True, 1])") empty ≡ ran_over Done (shown (codes "(True, 1, True)") ∷ []) [] (list (bool true ∷ integer (pos 1) ∷ []) ∷ list (bool true ∷ integer (pos 1) ∷ []) ∷ tuple (bool true ∷ integer (pos 1) ∷ bool true ∷ []) ∷ []) (codes "max" ∷ codes "min" ∷ []) 37
unfolding reserved_marks delimiter operator numeral Q.escape Q.item Q.closes Q.body Q.quoted token_piece lexeme cut indented begin bracket step layout encode_utf8 code_of E.keyword_begins E.another E.argument E.attribute E.call E.slice_after E.item_or_slice E.trailer E.parenthesised E.list E.pair E.dict E.atom E.primary_parts E.primary E.power E.unary_level E.term E.sum E.compared E.negated_level E.conjunction E.disjunction E.expr_level E.exprs_level E.phrase S.primary_at S.another_simple S.raise S.return S.assertion S.delete S.global S.import S.update_of S.assignment_of S.update_or_assignment S.simple S.simples S.line S.block S.block_after S.arm S.choice S.while S.for S.caught S.handler S.handled S.finished S.try S.parameter S.definition S.define S.compound S.chunk S.program R.piece read_chars chars digits power builtin_names class_names run call
builtin_38 = refl

builtin_39 : run One (codes "max([])") empty ≡ ran_over Raised (fault (codes "ValueError") (codes "empty argument") ∷ []) [] (list [] ∷ []) (codes "max" ∷ []) 19
unfolding reserved_marks delimiter operator numeral Q.escape Q.item Q.closes Q.body Q.quoted token_piece lexeme cut indented begin bracket step layout encode_utf8 code_of E.keyword_begins E.another E.argument E.attribute E.call E.slice_after E.item_or_slice E.trailer E.parenthesised E.list E.pair E.dict E.atom E.primary_parts E.primary E.power E.unary_level E.term E.sum E.compared E.negated_level E.conjunction E.disjunction E.expr_level E.exprs_level E.phrase S.primary_at S.another_simple S.raise S.return S.assertion S.delete S.global S.import S.update_of S.assignment_of S.update_or_assignment S.simple S.simples S.line S.block S.block_after S.arm S.choice S.while S.for S.caught S.handler S.handled S.finished S.try S.parameter S.definition S.define S.compound S.chunk S.program R.piece read_chars chars digits power builtin_names class_names run call
builtin_39 = refl

builtin_40 : run One (codes "min('')") empty ≡ ran Raised (fault (codes "ValueError") (codes "empty argument") ∷ []) [] (codes "min" ∷ []) 19
unfolding reserved_marks delimiter operator numeral Q.escape Q.item Q.closes Q.body Q.quoted token_piece lexeme cut indented begin bracket step layout encode_utf8 code_of E.keyword_begins E.another E.argument E.attribute E.call E.slice_after E.item_or_slice E.trailer E.parenthesised E.list E.pair E.dict E.atom E.primary_parts E.primary E.power E.unary_level E.term E.sum E.compared E.negated_level E.conjunction E.disjunction E.expr_level E.exprs_level E.phrase S.primary_at S.another_simple S.raise S.return S.assertion S.delete S.global S.import S.update_of S.assignment_of S.update_or_assignment S.simple S.simples S.line S.block S.block_after S.arm S.choice S.while S.for S.caught S.handler S.handled S.finished S.try S.parameter S.definition S.define S.compound S.chunk S.program R.piece read_chars chars digits power builtin_names class_names run call
builtin_40 = refl

builtin_41 : run One (codes "max()") empty ≡ ran Raised (fault (codes "TypeError") (codes "max() got bad arguments") ∷ []) [] (codes "max" ∷ []) 27
unfolding reserved_marks delimiter operator numeral Q.escape Q.item Q.closes Q.body Q.quoted token_piece lexeme cut indented begin bracket step layout encode_utf8 code_of E.keyword_begins E.another E.argument E.attribute E.call E.slice_after E.item_or_slice E.trailer E.parenthesised E.list E.pair E.dict E.atom E.primary_parts E.primary E.power E.unary_level E.term E.sum E.compared E.negated_level E.conjunction E.disjunction E.expr_level E.exprs_level E.phrase S.primary_at S.another_simple S.raise S.return S.assertion S.delete S.global S.import S.update_of S.assignment_of S.update_or_assignment S.simple S.simples S.line S.block S.block_after S.arm S.choice S.while S.for S.caught S.handler S.handled S.finished S.try S.parameter S.definition S.define S.compound S.chunk S.program R.piece read_chars chars digits power builtin_names class_names run call
builtin_41 = refl

builtin_42 : run One (codes "max(5)") empty ≡ ran Raised (fault (codes "TypeError") (codes "'int' object is not iterable") ∷ []) [] (codes "max" ∷ []) 33
unfolding reserved_marks delimiter operator numeral Q.escape Q.item Q.closes Q.body Q.quoted token_piece lexeme cut indented begin bracket step layout encode_utf8 code_of E.keyword_begins E.another E.argument E.attribute E.call E.slice_after E.item_or_slice E.trailer E.parenthesised E.list E.pair E.dict E.atom E.primary_parts E.primary E.power E.unary_level E.term E.sum E.compared E.negated_level E.conjunction E.disjunction E.expr_level E.exprs_level E.phrase S.primary_at S.another_simple S.raise S.return S.assertion S.delete S.global S.import S.update_of S.assignment_of S.update_or_assignment S.simple S.simples S.line S.block S.block_after S.arm S.choice S.while S.for S.caught S.handler S.handled S.finished S.try S.parameter S.definition S.define S.compound S.chunk S.program R.piece read_chars chars digits power builtin_names class_names run call
builtin_42 = refl

builtin_43 : run One (codes "max(1, 'a')") empty ≡ ran Raised (fault (codes "TypeError") (codes "bad operand types for >: 'str' and 'int'") ∷ []) [] (codes "max" ∷ []) 48
unfolding reserved_marks delimiter operator numeral Q.escape Q.item Q.closes Q.body Q.quoted token_piece lexeme cut indented begin bracket step layout encode_utf8 code_of E.keyword_begins E.another E.argument E.attribute E.call E.slice_after E.item_or_slice E.trailer E.parenthesised E.list E.pair E.dict E.atom E.primary_parts E.primary E.power E.unary_level E.term E.sum E.compared E.negated_level E.conjunction E.disjunction E.expr_level E.exprs_level E.phrase S.primary_at S.another_simple S.raise S.return S.assertion S.delete S.global S.import S.update_of S.assignment_of S.update_or_assignment S.simple S.simples S.line S.block S.block_after S.arm S.choice S.while S.for S.caught S.handler S.handled S.finished S.try S.parameter S.definition S.define S.compound S.chunk S.program R.piece read_chars chars digits power builtin_names class_names run call
builtin_43 = refl

builtin_44 : run One (codes "min([1, None])") empty ≡ ran_over Raised (fault (codes "TypeError") (codes "bad operand types for <: 'NoneType' and 'int'") ∷ []) [] (list (integer (pos 1) ∷ none ∷ []) ∷ []) (codes "min" ∷ []) 54
unfolding reserved_marks delimiter operator numeral Q.escape Q.item Q.closes Q.body Q.quoted token_piece lexeme cut indented begin bracket step layout encode_utf8 code_of E.keyword_begins E.another E.argument E.attribute E.call E.slice_after E.item_or_slice E.trailer E.parenthesised E.list E.pair E.dict E.atom E.primary_parts E.primary E.power E.unary_level E.term E.sum E.compared E.negated_level E.conjunction E.disjunction E.expr_level E.exprs_level E.phrase S.primary_at S.another_simple S.raise S.return S.assertion S.delete S.global S.import S.update_of S.assignment_of S.update_or_assignment S.simple S.simples S.line S.block S.block_after S.arm S.choice S.while S.for S.caught S.handler S.handled S.finished S.try S.parameter S.definition S.define S.compound S.chunk S.program R.piece read_chars chars digits power builtin_names class_names run call
builtin_44 = refl

builtin_45 : run One (codes "max([1, 2], [1, 3]), min((), (1,))") empty ≡ ran_over Done (shown (codes "([1, 3], ())") ∷ []) [] (list (integer (pos 1) ∷ integer (pos 2) ∷ []) ∷ list (integer (pos 1) ∷ integer (pos 3) ∷ []) ∷ tuple [] ∷ tuple (integer (pos 1) ∷ []) ∷ tuple (node 1 ∷ node 2 ∷ []) ∷ []) (codes "max" ∷ codes "min" ∷ []) 33
unfolding reserved_marks delimiter operator numeral Q.escape Q.item Q.closes Q.body Q.quoted token_piece lexeme cut indented begin bracket step layout encode_utf8 code_of E.keyword_begins E.another E.argument E.attribute E.call E.slice_after E.item_or_slice E.trailer E.parenthesised E.list E.pair E.dict E.atom E.primary_parts E.primary E.power E.unary_level E.term E.sum E.compared E.negated_level E.conjunction E.disjunction E.expr_level E.exprs_level E.phrase S.primary_at S.another_simple S.raise S.return S.assertion S.delete S.global S.import S.update_of S.assignment_of S.update_or_assignment S.simple S.simples S.line S.block S.block_after S.arm S.choice S.while S.for S.caught S.handler S.handled S.finished S.try S.parameter S.definition S.define S.compound S.chunk S.program R.piece read_chars chars digits power builtin_names class_names run call
builtin_45 = refl

builtin_46 : run One (codes "max([[], [1]])") empty ≡ ran_over Done (shown (codes "[1]") ∷ []) [] (list [] ∷ list (integer (pos 1) ∷ []) ∷ list (node 0 ∷ node 1 ∷ []) ∷ []) (codes "max" ∷ []) 12
unfolding reserved_marks delimiter operator numeral Q.escape Q.item Q.closes Q.body Q.quoted token_piece lexeme cut indented begin bracket step layout encode_utf8 code_of E.keyword_begins E.another E.argument E.attribute E.call E.slice_after E.item_or_slice E.trailer E.parenthesised E.list E.pair E.dict E.atom E.primary_parts E.primary E.power E.unary_level E.term E.sum E.compared E.negated_level E.conjunction E.disjunction E.expr_level E.exprs_level E.phrase S.primary_at S.another_simple S.raise S.return S.assertion S.delete S.global S.import S.update_of S.assignment_of S.update_or_assignment S.simple S.simples S.line S.block S.block_after S.arm S.choice S.while S.for S.caught S.handler S.handled S.finished S.try S.parameter S.definition S.define S.compound S.chunk S.program R.piece read_chars chars digits power builtin_names class_names run call
builtin_46 = refl

builtin_47 : run One (codes "repr('a'), repr(1), repr([1, 'b']), repr(None)") empty ≡ ran_over Done (shown (codes "(\"'a'\", '1', \"[1, 'b']\", 'None')") ∷ []) [] (list (integer (pos 1) ∷ text (codes "b") ∷ []) ∷ tuple (text (codes "'a'") ∷ text (codes "1") ∷ text (codes "[1, 'b']") ∷ text (codes "None") ∷ []) ∷ []) (codes "repr" ∷ []) 64
unfolding reserved_marks delimiter operator numeral Q.escape Q.item Q.closes Q.body Q.quoted token_piece lexeme cut indented begin bracket step layout encode_utf8 code_of E.keyword_begins E.another E.argument E.attribute E.call E.slice_after E.item_or_slice E.trailer E.parenthesised E.list E.pair E.dict E.atom E.primary_parts E.primary E.power E.unary_level E.term E.sum E.compared E.negated_level E.conjunction E.disjunction E.expr_level E.exprs_level E.phrase S.primary_at S.another_simple S.raise S.return S.assertion S.delete S.global S.import S.update_of S.assignment_of S.update_or_assignment S.simple S.simples S.line S.block S.block_after S.arm S.choice S.while S.for S.caught S.handler S.handled S.finished S.try S.parameter S.definition S.define S.compound S.chunk S.program R.piece read_chars chars digits power builtin_names class_names run call
builtin_47 = refl

builtin_48 : run One (codes "repr()") empty ≡ ran Raised (fault (codes "TypeError") (codes "repr() got bad arguments") ∷ []) [] (codes "repr" ∷ []) 28
unfolding reserved_marks delimiter operator numeral Q.escape Q.item Q.closes Q.body Q.quoted token_piece lexeme cut indented begin bracket step layout encode_utf8 code_of E.keyword_begins E.another E.argument E.attribute E.call E.slice_after E.item_or_slice E.trailer E.parenthesised E.list E.pair E.dict E.atom E.primary_parts E.primary E.power E.unary_level E.term E.sum E.compared E.negated_level E.conjunction E.disjunction E.expr_level E.exprs_level E.phrase S.primary_at S.another_simple S.raise S.return S.assertion S.delete S.global S.import S.update_of S.assignment_of S.update_or_assignment S.simple S.simples S.line S.block S.block_after S.arm S.choice S.while S.for S.caught S.handler S.handled S.finished S.try S.parameter S.definition S.define S.compound S.chunk S.program R.piece read_chars chars digits power builtin_names class_names run call
builtin_48 = refl

builtin_49 : run One (codes "repr(len), repr(int), repr(ValueError)") empty ≡ ran_over Done (shown (codes "('<built-in function len>', \"<class 'int'>\", \"<class 'ValueError'>\")") ∷ []) [] (tuple (text (codes "<built-in function len>") ∷ text (codes "<class 'int'>") ∷ text (codes "<class 'ValueError'>") ∷ []) ∷ []) (codes "ValueError" ∷ codes "int" ∷ codes "len" ∷ codes "repr" ∷ []) 135
unfolding reserved_marks delimiter operator numeral Q.escape Q.item Q.closes Q.body Q.quoted token_piece lexeme cut indented begin bracket step layout encode_utf8 code_of E.keyword_begins E.another E.argument E.attribute E.call E.slice_after E.item_or_slice E.trailer E.parenthesised E.list E.pair E.dict E.atom E.primary_parts E.primary E.power E.unary_level E.term E.sum E.compared E.negated_level E.conjunction E.disjunction E.expr_level E.exprs_level E.phrase S.primary_at S.another_simple S.raise S.return S.assertion S.delete S.global S.import S.update_of S.assignment_of S.update_or_assignment S.simple S.simples S.line S.block S.block_after S.arm S.choice S.while S.for S.caught S.handler S.handled S.finished S.try S.parameter S.definition S.define S.compound S.chunk S.program R.piece read_chars chars digits power builtin_names class_names run call
builtin_49 = refl

builtin_50 : run One (codes "sorted([3, 1, 2]), sorted('bca'), sorted([]), sorted((2, 1)), sorted({3: 0, 1: 0})") empty ≡ ran_over Done (shown (codes "([1, 2, 3], ['a', 'b', 'c'], [], [1, 2], [1, 3])") ∷ []) [] (list (integer (pos 3) ∷ integer (pos 1) ∷ integer (pos 2) ∷ []) ∷ list (integer (pos 1) ∷ integer (pos 2) ∷ integer (pos 3) ∷ []) ∷ list (text (codes "a") ∷ text (codes "b") ∷ text (codes "c") ∷ []) ∷ list [] ∷ list [] ∷ tuple (integer (pos 2) ∷ integer (pos 1) ∷ []) ∷ list (integer (pos 1) ∷ integer (pos 2) ∷ []) ∷ dict ((p.single (p.integer (pos 3)), integer (pos 0)) ∷ (p.single (p.integer (pos 1)), integer (pos 0)) ∷ []) ∷ list (integer (pos 1) ∷ integer (pos 3) ∷ []) ∷ tuple (node 1 ∷ node 2 ∷ node 4 ∷ node 6 ∷ node 8 ∷ []) ∷ []) (codes "sorted" ∷ []) 104
unfolding reserved_marks delimiter operator numeral Q.escape Q.item Q.closes Q.body Q.quoted token_piece lexeme cut indented begin bracket step layout encode_utf8 code_of E.keyword_begins E.another E.argument E.attribute E.call E.slice_after E.item_or_slice E.trailer E.parenthesised E.list E.pair E.dict E.atom E.primary_parts E.primary E.power E.unary_level E.term E.sum E.compared E.negated_level E.conjunction E.disjunction E.expr_level E.exprs_level E.phrase S.primary_at S.another_simple S.raise S.return S.assertion S.delete S.global S.import S.update_of S.assignment_of S.update_or_assignment S.simple S.simples S.line S.block S.block_after S.arm S.choice S.while S.for S.caught S.handler S.handled S.finished S.try S.parameter S.definition S.define S.compound S.chunk S.program R.piece read_chars chars digits power builtin_names class_names run call
builtin_50 = refl

builtin_51 : run One (codes "sorted([3, True, 2])") empty ≡ ran_over Done (shown (codes "[True, 2, 3]") ∷ []) [] (list (integer (pos 3) ∷ bool true ∷ integer (pos 2) ∷ []) ∷ list (bool true ∷ integer (pos 2) ∷ integer (pos 3) ∷ []) ∷ []) (codes "sorted" ∷ []) 28
unfolding reserved_marks delimiter operator numeral Q.escape Q.item Q.closes Q.body Q.quoted token_piece lexeme cut indented begin bracket step layout encode_utf8 code_of E.keyword_begins E.another E.argument E.attribute E.call E.slice_after E.item_or_slice E.trailer E.parenthesised E.list E.pair E.dict E.atom E.primary_parts E.primary E.power E.unary_level E.term E.sum E.compared E.negated_level E.conjunction E.disjunction E.expr_level E.exprs_level E.phrase S.primary_at S.another_simple S.raise S.return S.assertion S.delete S.global S.import S.update_of S.assignment_of S.update_or_assignment S.simple S.simples S.line S.block S.block_after S.arm S.choice S.while S.for S.caught S.handler S.handled S.finished S.try S.parameter S.definition S.define S.compound S.chunk S.program R.piece read_chars chars digits power builtin_names class_names run call
builtin_51 = refl

builtin_52 : run One (codes "sorted([1, True, 0, False])") empty ≡ ran_over Done (shown (codes "[0, False, 1, True]") ∷ []) [] (list (integer (pos 1) ∷ bool true ∷ integer (pos 0) ∷ bool false ∷ []) ∷ list (integer (pos 0) ∷ bool false ∷ integer (pos 1) ∷ bool true ∷ []) ∷ []) (codes "sorted" ∷ []) 43
unfolding reserved_marks delimiter operator numeral Q.escape Q.item Q.closes Q.body Q.quoted token_piece lexeme cut indented begin bracket step layout encode_utf8 code_of E.keyword_begins E.another E.argument E.attribute E.call E.slice_after E.item_or_slice E.trailer E.parenthesised E.list E.pair E.dict E.atom E.primary_parts E.primary E.power E.unary_level E.term E.sum E.compared E.negated_level E.conjunction E.disjunction E.expr_level E.exprs_level E.phrase S.primary_at S.another_simple S.raise S.return S.assertion S.delete S.global S.import S.update_of S.assignment_of S.update_or_assignment S.simple S.simples S.line S.block S.block_after S.arm S.choice S.while S.for S.caught S.handler S.handled S.finished S.try S.parameter S.definition S.define S.compound S.chunk S.program R.piece read_chars chars digits power builtin_names class_names run call
builtin_52 = refl

builtin_53 : run One (codes "sorted([1, 'a'])") empty ≡ ran_over Raised (fault (codes "TypeError") (codes "sorted() got bad arguments") ∷ []) [] (list (integer (pos 1) ∷ text (codes "a") ∷ []) ∷ []) (codes "sorted" ∷ []) 39
unfolding reserved_marks delimiter operator numeral Q.escape Q.item Q.closes Q.body Q.quoted token_piece lexeme cut indented begin bracket step layout encode_utf8 code_of E.keyword_begins E.another E.argument E.attribute E.call E.slice_after E.item_or_slice E.trailer E.parenthesised E.list E.pair E.dict E.atom E.primary_parts E.primary E.power E.unary_level E.term E.sum E.compared E.negated_level E.conjunction E.disjunction E.expr_level E.exprs_level E.phrase S.primary_at S.another_simple S.raise S.return S.assertion S.delete S.global S.import S.update_of S.assignment_of S.update_or_assignment S.simple S.simples S.line S.block S.block_after S.arm S.choice S.while S.for S.caught S.handler S.handled S.finished S.try S.parameter S.definition S.define S.compound S.chunk S.program R.piece read_chars chars digits power builtin_names class_names run call
builtin_53 = refl

builtin_54 : run One (codes "sorted(5)") empty ≡ ran Raised (fault (codes "TypeError") (codes "'int' object is not iterable") ∷ []) [] (codes "sorted" ∷ []) 33
unfolding reserved_marks delimiter operator numeral Q.escape Q.item Q.closes Q.body Q.quoted token_piece lexeme cut indented begin bracket step layout encode_utf8 code_of E.keyword_begins E.another E.argument E.attribute E.call E.slice_after E.item_or_slice E.trailer E.parenthesised E.list E.pair E.dict E.atom E.primary_parts E.primary E.power E.unary_level E.term E.sum E.compared E.negated_level E.conjunction E.disjunction E.expr_level E.exprs_level E.phrase S.primary_at S.another_simple S.raise S.return S.assertion S.delete S.global S.import S.update_of S.assignment_of S.update_or_assignment S.simple S.simples S.line S.block S.block_after S.arm S.choice S.while S.for S.caught S.handler S.handled S.finished S.try S.parameter S.definition S.define S.compound S.chunk S.program R.piece read_chars chars digits power builtin_names class_names run call
builtin_54 = refl

builtin_55 : run One (codes "sorted(range(5, 0, -2))") empty ≡ ran_over Done (shown (codes "[1, 3, 5]") ∷ []) [] (list (integer (pos 1) ∷ integer (pos 3) ∷ integer (pos 5) ∷ []) ∷ []) (codes "range" ∷ codes "sorted" ∷ []) 27
unfolding reserved_marks delimiter operator numeral Q.escape Q.item Q.closes Q.body Q.quoted token_piece lexeme cut indented begin bracket step layout encode_utf8 code_of E.keyword_begins E.another E.argument E.attribute E.call E.slice_after E.item_or_slice E.trailer E.parenthesised E.list E.pair E.dict E.atom E.primary_parts E.primary E.power E.unary_level E.term E.sum E.compared E.negated_level E.conjunction E.disjunction E.expr_level E.exprs_level E.phrase S.primary_at S.another_simple S.raise S.return S.assertion S.delete S.global S.import S.update_of S.assignment_of S.update_or_assignment S.simple S.simples S.line S.block S.block_after S.arm S.choice S.while S.for S.caught S.handler S.handled S.finished S.try S.parameter S.definition S.define S.compound S.chunk S.program R.piece read_chars chars digits power builtin_names class_names run call
builtin_55 = refl

builtin_56 : run One (codes "a = [2, 1]; sorted(a) is a, a") empty ≡ ran_over Done (shown (codes "(False, [2, 1])") ∷ []) ((codes "a", node 0) ∷ []) (list (integer (pos 2) ∷ integer (pos 1) ∷ []) ∷ list (integer (pos 1) ∷ integer (pos 2) ∷ []) ∷ tuple (bool false ∷ node 0 ∷ []) ∷ []) (codes "a" ∷ codes "sorted" ∷ []) 33
unfolding reserved_marks delimiter operator numeral Q.escape Q.item Q.closes Q.body Q.quoted token_piece lexeme cut indented begin bracket step layout encode_utf8 code_of E.keyword_begins E.another E.argument E.attribute E.call E.slice_after E.item_or_slice E.trailer E.parenthesised E.list E.pair E.dict E.atom E.primary_parts E.primary E.power E.unary_level E.term E.sum E.compared E.negated_level E.conjunction E.disjunction E.expr_level E.exprs_level E.phrase S.primary_at S.another_simple S.raise S.return S.assertion S.delete S.global S.import S.update_of S.assignment_of S.update_or_assignment S.simple S.simples S.line S.block S.block_after S.arm S.choice S.while S.for S.caught S.handler S.handled S.finished S.try S.parameter S.definition S.define S.compound S.chunk S.program R.piece read_chars chars digits power builtin_names class_names run call
builtin_56 = refl

builtin_57 : run One (codes "sum([1, 2, 3]), sum([]), sum((True, True)), sum(range(5)), sum({1: 2})") empty ≡ ran_over Done (shown (codes "(6, 0, 2, 10, 1)") ∷ []) [] (list (integer (pos 1) ∷ integer (pos 2) ∷ integer (pos 3) ∷ []) ∷ list [] ∷ tuple (bool true ∷ bool true ∷ []) ∷ dict ((p.single (p.integer (pos 1)), integer (pos 2)) ∷ []) ∷ tuple (integer (pos 6) ∷ integer (pos 0) ∷ integer (pos 2) ∷ integer (pos 10) ∷ integer (pos 1) ∷ []) ∷ []) (codes "range" ∷ codes "sum" ∷ []) 53
unfolding reserved_marks delimiter operator numeral Q.escape Q.item Q.closes Q.body Q.quoted token_piece lexeme cut indented begin bracket step layout encode_utf8 code_of E.keyword_begins E.another E.argument E.attribute E.call E.slice_after E.item_or_slice E.trailer E.parenthesised E.list E.pair E.dict E.atom E.primary_parts E.primary E.power E.unary_level E.term E.sum E.compared E.negated_level E.conjunction E.disjunction E.expr_level E.exprs_level E.phrase S.primary_at S.another_simple S.raise S.return S.assertion S.delete S.global S.import S.update_of S.assignment_of S.update_or_assignment S.simple S.simples S.line S.block S.block_after S.arm S.choice S.while S.for S.caught S.handler S.handled S.finished S.try S.parameter S.definition S.define S.compound S.chunk S.program R.piece read_chars chars digits power builtin_names class_names run call
builtin_57 = refl

builtin_58 : run One (codes "sum(['a'])") empty ≡ ran_over Raised (fault (codes "TypeError") (codes "sum() got bad arguments") ∷ []) [] (list (text (codes "a") ∷ []) ∷ []) (codes "sum" ∷ []) 30
unfolding reserved_marks delimiter operator numeral Q.escape Q.item Q.closes Q.body Q.quoted token_piece lexeme cut indented begin bracket step layout encode_utf8 code_of E.keyword_begins E.another E.argument E.attribute E.call E.slice_after E.item_or_slice E.trailer E.parenthesised E.list E.pair E.dict E.atom E.primary_parts E.primary E.power E.unary_level E.term E.sum E.compared E.negated_level E.conjunction E.disjunction E.expr_level E.exprs_level E.phrase S.primary_at S.another_simple S.raise S.return S.assertion S.delete S.global S.import S.update_of S.assignment_of S.update_or_assignment S.simple S.simples S.line S.block S.block_after S.arm S.choice S.while S.for S.caught S.handler S.handled S.finished S.try S.parameter S.definition S.define S.compound S.chunk S.program R.piece read_chars chars digits power builtin_names class_names run call
builtin_58 = refl

builtin_59 : run One (codes "sum(5)") empty ≡ ran Raised (fault (codes "TypeError") (codes "'int' object is not iterable") ∷ []) [] (codes "sum" ∷ []) 33
unfolding reserved_marks delimiter operator numeral Q.escape Q.item Q.closes Q.body Q.quoted token_piece lexeme cut indented begin bracket step layout encode_utf8 code_of E.keyword_begins E.another E.argument E.attribute E.call E.slice_after E.item_or_slice E.trailer E.parenthesised E.list E.pair E.dict E.atom E.primary_parts E.primary E.power E.unary_level E.term E.sum E.compared E.negated_level E.conjunction E.disjunction E.expr_level E.exprs_level E.phrase S.primary_at S.another_simple S.raise S.return S.assertion S.delete S.global S.import S.update_of S.assignment_of S.update_or_assignment S.simple S.simples S.line S.block S.block_after S.arm S.choice S.while S.for S.caught S.handler S.handled S.finished S.try S.parameter S.definition S.define S.compound S.chunk S.program R.piece read_chars chars digits power builtin_names class_names run call
builtin_59 = refl

builtin_60 : run One (codes "sum([[]])") empty ≡ ran_over Raised (fault (codes "TypeError") (codes "sum() got bad arguments") ∷ []) [] (list [] ∷ list (node 0 ∷ []) ∷ []) (codes "sum" ∷ []) 30
unfolding reserved_marks delimiter operator numeral Q.escape Q.item Q.closes Q.body Q.quoted token_piece lexeme cut indented begin bracket step layout encode_utf8 code_of E.keyword_begins E.another E.argument E.attribute E.call E.slice_after E.item_or_slice E.trailer E.parenthesised E.list E.pair E.dict E.atom E.primary_parts E.primary E.power E.unary_level E.term E.sum E.compared E.negated_level E.conjunction E.disjunction E.expr_level E.exprs_level E.phrase S.primary_at S.another_simple S.raise S.return S.assertion S.delete S.global S.import S.update_of S.assignment_of S.update_or_assignment S.simple S.simples S.line S.block S.block_after S.arm S.choice S.while S.for S.caught S.handler S.handled S.finished S.try S.parameter S.definition S.define S.compound S.chunk S.program R.piece read_chars chars digits power builtin_names class_names run call
builtin_60 = refl

builtin_61 : run One (codes "bool(), bool(0), bool([0]), bool('')") empty ≡ ran_over Done (shown (codes "(False, False, True, False)") ∷ []) [] (list (integer (pos 0) ∷ []) ∷ tuple (bool false ∷ bool false ∷ bool true ∷ bool false ∷ []) ∷ []) (codes "bool" ∷ []) 41
unfolding reserved_marks delimiter operator numeral Q.escape Q.item Q.closes Q.body Q.quoted token_piece lexeme cut indented begin bracket step layout encode_utf8 code_of E.keyword_begins E.another E.argument E.attribute E.call E.slice_after E.item_or_slice E.trailer E.parenthesised E.list E.pair E.dict E.atom E.primary_parts E.primary E.power E.unary_level E.term E.sum E.compared E.negated_level E.conjunction E.disjunction E.expr_level E.exprs_level E.phrase S.primary_at S.another_simple S.raise S.return S.assertion S.delete S.global S.import S.update_of S.assignment_of S.update_or_assignment S.simple S.simples S.line S.block S.block_after S.arm S.choice S.while S.for S.caught S.handler S.handled S.finished S.try S.parameter S.definition S.define S.compound S.chunk S.program R.piece read_chars chars digits power builtin_names class_names run call
builtin_61 = refl

builtin_62 : run One (codes "bool(1, 2)") empty ≡ ran Raised (fault (codes "TypeError") (codes "bool() got bad arguments") ∷ []) [] (codes "bool" ∷ []) 30
unfolding reserved_marks delimiter operator numeral Q.escape Q.item Q.closes Q.body Q.quoted token_piece lexeme cut indented begin bracket step layout encode_utf8 code_of E.keyword_begins E.another E.argument E.attribute E.call E.slice_after E.item_or_slice E.trailer E.parenthesised E.list E.pair E.dict E.atom E.primary_parts E.primary E.power E.unary_level E.term E.sum E.compared E.negated_level E.conjunction E.disjunction E.expr_level E.exprs_level E.phrase S.primary_at S.another_simple S.raise S.return S.assertion S.delete S.global S.import S.update_of S.assignment_of S.update_or_assignment S.simple S.simples S.line S.block S.block_after S.arm S.choice S.while S.for S.caught S.handler S.handled S.finished S.try S.parameter S.definition S.define S.compound S.chunk S.program R.piece read_chars chars digits power builtin_names class_names run call
builtin_62 = refl

builtin_63 : run One (codes "dict(), dict({1: 2})") empty ≡ ran_over Done (shown (codes "({}, {1: 2})") ∷ []) [] (dict [] ∷ dict ((p.single (p.integer (pos 1)), integer (pos 2)) ∷ []) ∷ dict ((p.single (p.integer (pos 1)), integer (pos 2)) ∷ []) ∷ tuple (node 0 ∷ node 2 ∷ []) ∷ []) (codes "dict" ∷ []) 22
unfolding reserved_marks delimiter operator numeral Q.escape Q.item Q.closes Q.body Q.quoted token_piece lexeme cut indented begin bracket step layout encode_utf8 code_of E.keyword_begins E.another E.argument E.attribute E.call E.slice_after E.item_or_slice E.trailer E.parenthesised E.list E.pair E.dict E.atom E.primary_parts E.primary E.power E.unary_level E.term E.sum E.compared E.negated_level E.conjunction E.disjunction E.expr_level E.exprs_level E.phrase S.primary_at S.another_simple S.raise S.return S.assertion S.delete S.global S.import S.update_of S.assignment_of S.update_or_assignment S.simple S.simples S.line S.block S.block_after S.arm S.choice S.while S.for S.caught S.handler S.handled S.finished S.try S.parameter S.definition S.define S.compound S.chunk S.program R.piece read_chars chars digits power builtin_names class_names run call
builtin_63 = refl

builtin_64 : run One (codes "d = {1: []}; e = dict(d); e is d, e[1] is d[1], e == d") empty ≡ ran_over Done (shown (codes "(False, True, True)") ∷ []) ((codes "d", node 1) ∷ (codes "e", node 2) ∷ []) (list [] ∷ dict ((p.single (p.integer (pos 1)), node 0) ∷ []) ∷ dict ((p.single (p.integer (pos 1)), node 0) ∷ []) ∷ tuple (bool false ∷ bool true ∷ bool true ∷ []) ∷ []) (codes "d" ∷ codes "dict" ∷ codes "e" ∷ []) 44
unfolding reserved_marks delimiter operator numeral Q.escape Q.item Q.closes Q.body Q.quoted token_piece lexeme cut indented begin bracket step layout encode_utf8 code_of E.keyword_begins E.another E.argument E.attribute E.call E.slice_after E.item_or_slice E.trailer E.parenthesised E.list E.pair E.dict E.atom E.primary_parts E.primary E.power E.unary_level E.term E.sum E.compared E.negated_level E.conjunction E.disjunction E.expr_level E.exprs_level E.phrase S.primary_at S.another_simple S.raise S.return S.assertion S.delete S.global S.import S.update_of S.assignment_of S.update_or_assignment S.simple S.simples S.line S.block S.block_after S.arm S.choice S.while S.for S.caught S.handler S.handled S.finished S.try S.parameter S.definition S.define S.compound S.chunk S.program R.piece read_chars chars digits power builtin_names class_names run call
builtin_64 = refl

builtin_65 : run One (codes "dict(1)") empty ≡ ran Raised (fault (codes "TypeError") (codes "dict() got bad arguments") ∷ []) [] (codes "dict" ∷ []) 29
unfolding reserved_marks delimiter operator numeral Q.escape Q.item Q.closes Q.body Q.quoted token_piece lexeme cut indented begin bracket step layout encode_utf8 code_of E.keyword_begins E.another E.argument E.attribute E.call E.slice_after E.item_or_slice E.trailer E.parenthesised E.list E.pair E.dict E.atom E.primary_parts E.primary E.power E.unary_level E.term E.sum E.compared E.negated_level E.conjunction E.disjunction E.expr_level E.exprs_level E.phrase S.primary_at S.another_simple S.raise S.return S.assertion S.delete S.global S.import S.update_of S.assignment_of S.update_or_assignment S.simple S.simples S.line S.block S.block_after S.arm S.choice S.while S.for S.caught S.handler S.handled S.finished S.try S.parameter S.definition S.define S.compound S.chunk S.program R.piece read_chars chars digits power builtin_names class_names run call
builtin_65 = refl

builtin_66 : run One (codes "int(), int(5), int(True), int(' 42 '), int('-7'), int('+0'), int('007')") empty ≡ ran_over Done (shown (codes "(0, 5, 1, 42, -7, 0, 7)") ∷ []) [] (tuple (integer (pos 0) ∷ integer (pos 5) ∷ integer (pos 1) ∷ integer (pos 42) ∷ integer (negsuc 6) ∷ integer (pos 0) ∷ integer (pos 7) ∷ []) ∷ []) (codes "int" ∷ []) 56
unfolding reserved_marks delimiter operator numeral Q.escape Q.item Q.closes Q.body Q.quoted token_piece lexeme cut indented begin bracket step layout encode_utf8 code_of E.keyword_begins E.another E.argument E.attribute E.call E.slice_after E.item_or_slice E.trailer E.parenthesised E.list E.pair E.dict E.atom E.primary_parts E.primary E.power E.unary_level E.term E.sum E.compared E.negated_level E.conjunction E.disjunction E.expr_level E.exprs_level E.phrase S.primary_at S.another_simple S.raise S.return S.assertion S.delete S.global S.import S.update_of S.assignment_of S.update_or_assignment S.simple S.simples S.line S.block S.block_after S.arm S.choice S.while S.for S.caught S.handler S.handled S.finished S.try S.parameter S.definition S.define S.compound S.chunk S.program R.piece read_chars chars digits power builtin_names class_names run call
builtin_66 = refl

builtin_67 : run One (codes "int('a')") empty ≡ ran Raised (fault (codes "ValueError") (codes "not a whole number") ∷ []) [] (codes "int" ∷ []) 24
unfolding reserved_marks delimiter operator numeral Q.escape Q.item Q.closes Q.body Q.quoted token_piece lexeme cut indented begin bracket step layout encode_utf8 code_of E.keyword_begins E.another E.argument E.attribute E.call E.slice_after E.item_or_slice E.trailer E.parenthesised E.list E.pair E.dict E.atom E.primary_parts E.primary E.power E.unary_level E.term E.sum E.compared E.negated_level E.conjunction E.disjunction E.expr_level E.exprs_level E.phrase S.primary_at S.another_simple S.raise S.return S.assertion S.delete S.global S.import S.update_of S.assignment_of S.update_or_assignment S.simple S.simples S.line S.block S.block_after S.arm S.choice S.while S.for S.caught S.handler S.handled S.finished S.try S.parameter S.definition S.define S.compound S.chunk S.program R.piece read_chars chars digits power builtin_names class_names run call
builtin_67 = refl

builtin_68 : run One (codes "int('')") empty ≡ ran Raised (fault (codes "ValueError") (codes "not a whole number") ∷ []) [] (codes "int" ∷ []) 23
unfolding reserved_marks delimiter operator numeral Q.escape Q.item Q.closes Q.body Q.quoted token_piece lexeme cut indented begin bracket step layout encode_utf8 code_of E.keyword_begins E.another E.argument E.attribute E.call E.slice_after E.item_or_slice E.trailer E.parenthesised E.list E.pair E.dict E.atom E.primary_parts E.primary E.power E.unary_level E.term E.sum E.compared E.negated_level E.conjunction E.disjunction E.expr_level E.exprs_level E.phrase S.primary_at S.another_simple S.raise S.return S.assertion S.delete S.global S.import S.update_of S.assignment_of S.update_or_assignment S.simple S.simples S.line S.block S.block_after S.arm S.choice S.while S.for S.caught S.handler S.handled S.finished S.try S.parameter S.definition S.define S.compound S.chunk S.program R.piece read_chars chars digits power builtin_names class_names run call
builtin_68 = refl
