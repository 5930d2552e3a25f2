-- What some cells give that begin with ranges: computed on the definition. Made by tools/cells/cells.py.
use Rattle.std.proofs.Common.{◌≡◌, ◌∷◌, [], refl}
use Rattle.std.specs.Prelude.{pos, negsuc, true, false, codes}
use Rattle.std.specs.Char.{encode_utf8}
use Rattle.std.specs.Fmt.{digits}
use Rattle.std.specs.Str.{chars}
use Rattle.kishu_language.specs.declared.profile.Profile.TheVariants.{One}
use Rattle.kishu_meaning.specs.declared.result.Outcome.TheVariants.{Done, Raised}
use Rattle.kishu_meaning.specs.values.BuiltinNames.{builtin_names, class_names}
use Rattle.kishu_meaning.specs.values.Numbers.{power}
use Rattle.kishu_language.specs.tokens.Marks.{reserved_marks, delimiter, operator}
use Rattle.kishu_language.specs.tokens.Numerals.{numeral}
use Rattle.kishu_language.specs.tokens.Quoted as Q
use Rattle.kishu_language.specs.tokens.Lexemes.{token_piece, lexeme}
use Rattle.kishu_language.specs.tokens.Layout.{cut, indented, begin, bracket, step, layout}
use Rattle.kishu_language.specs.trees.Code.{code_of}
use Rattle.kishu_language.specs.reading.ReadExpressions as E
use Rattle.kishu_language.specs.reading.ReadStatements as S
use Rattle.kishu_language.specs.reading.ReadText as R
use Rattle.kishu_language.specs.reading.ReadText.{read_chars}
use Rattle.kishu_meaning.specs.values.Values.{bool, integer, range, node, list, tuple, dict, stream, shown, fault}
use Rattle.kishu_meaning.specs.cells.Meaning.{run}
use Rattle.kishu_meaning_rows.proofs.Cells.{ran, ran_over, ranged}

along_1 : run One (codes "r[0], r[-1], r[1]") ranged ≡ ran_over Done (shown (codes "(0, 9, 3)") ∷ []) ((codes "d", range (pos 5) (pos 0) (negsuc 1)) ∷ (codes "e", range (pos 0) (pos 0) (pos 1)) ∷ (codes "r", range (pos 0) (pos 10) (pos 3)) ∷ []) (tuple (integer (pos 0) ∷ integer (pos 9) ∷ integer (pos 3) ∷ []) ∷ []) (codes "r" ∷ []) 21
unfolding reserved_marks delimiter operator numeral Q.escape Q.item Q.closes Q.body Q.quoted token_piece lexeme cut indented begin bracket step layout encode_utf8 code_of E.keyword_begins E.another E.argument E.attribute E.call E.slice_after E.item_or_slice E.trailer E.parenthesised E.list E.pair E.dict E.atom E.primary_parts E.primary E.power E.unary_level E.term E.sum E.compared E.negated_level E.conjunction E.disjunction E.expr_level E.exprs_level E.phrase S.primary_at S.another_simple S.raise S.return S.assertion S.delete S.global S.import S.update_of S.assignment_of S.update_or_assignment S.simple S.simples S.line S.block S.block_after S.arm S.choice S.while S.for S.caught S.handler S.handled S.finished S.try S.parameter S.definition S.define S.compound S.chunk S.program R.piece read_chars chars digits power builtin_names class_names run
along_1 = refl

along_2 : run One (codes "r[4]") ranged ≡ ran Raised (fault (codes "IndexError") (codes "index out of range") ∷ []) ((codes "d", range (pos 5) (pos 0) (negsuc 1)) ∷ (codes "e", range (pos 0) (pos 0) (pos 1)) ∷ (codes "r", range (pos 0) (pos 10) (pos 3)) ∷ []) (codes "r" ∷ []) 23
unfolding reserved_marks delimiter operator numeral Q.escape Q.item Q.closes Q.body Q.quoted token_piece lexeme cut indented begin bracket step layout encode_utf8 code_of E.keyword_begins E.another E.argument E.attribute E.call E.slice_after E.item_or_slice E.trailer E.parenthesised E.list E.pair E.dict E.atom E.primary_parts E.primary E.power E.unary_level E.term E.sum E.compared E.negated_level E.conjunction E.disjunction E.expr_level E.exprs_level E.phrase S.primary_at S.another_simple S.raise S.return S.assertion S.delete S.global S.import S.update_of S.assignment_of S.update_or_assignment S.simple S.simples S.line S.block S.block_after S.arm S.choice S.while S.for S.caught S.handler S.handled S.finished S.try S.parameter S.definition S.define S.compound S.chunk S.program R.piece read_chars chars digits power builtin_names class_names run
along_2 = refl

along_3 : run One (codes "d[True], d[-3]") ranged ≡ ran_over Done (shown (codes "(3, 5)") ∷ []) ((codes "d", range (pos 5) (pos 0) (negsuc 1)) ∷ (codes "e", range (pos 0) (pos 0) (pos 1)) ∷ (codes "r", range (pos 0) (pos 10) (pos 3)) ∷ []) (tuple (integer (pos 3) ∷ integer (pos 5) ∷ []) ∷ []) (codes "d" ∷ []) 15
unfolding reserved_marks delimiter operator numeral Q.escape Q.item Q.closes Q.body Q.quoted token_piece lexeme cut indented begin bracket step layout encode_utf8 code_of E.keyword_begins E.another E.argument E.attribute E.call E.slice_after E.item_or_slice E.trailer E.parenthesised E.list E.pair E.dict E.atom E.primary_parts E.primary E.power E.unary_level E.term E.sum E.compared E.negated_level E.conjunction E.disjunction E.expr_level E.exprs_level E.phrase S.primary_at S.another_simple S.raise S.return S.assertion S.delete S.global S.import S.update_of S.assignment_of S.update_or_assignment S.simple S.simples S.line S.block S.block_after S.arm S.choice S.while S.for S.caught S.handler S.handled S.finished S.try S.parameter S.definition S.define S.compound S.chunk S.program R.piece read_chars chars digits power builtin_names class_names run
along_3 = refl

along_4 : run One (codes "r['a']") ranged ≡ ran Raised (fault (codes "TypeError") (codes "bad index type: 'str'") ∷ []) ((codes "d", range (pos 5) (pos 0) (negsuc 1)) ∷ (codes "e", range (pos 0) (pos 0) (pos 1)) ∷ (codes "r", range (pos 0) (pos 10) (pos 3)) ∷ []) (codes "r" ∷ []) 26
unfolding reserved_marks delimiter operator numeral Q.escape Q.item Q.closes Q.body Q.quoted token_piece lexeme cut indented begin bracket step layout encode_utf8 code_of E.keyword_begins E.another E.argument E.attribute E.call E.slice_after E.item_or_slice E.trailer E.parenthesised E.list E.pair E.dict E.atom E.primary_parts E.primary E.power E.unary_level E.term E.sum E.compared E.negated_level E.conjunction E.disjunction E.expr_level E.exprs_level E.phrase S.primary_at S.another_simple S.raise S.return S.assertion S.delete S.global S.import S.update_of S.assignment_of S.update_or_assignment S.simple S.simples S.line S.block S.block_after S.arm S.choice S.while S.for S.caught S.handler S.handled S.finished S.try S.parameter S.definition S.define S.compound S.chunk S.program R.piece read_chars chars digits power builtin_names class_names run
along_4 = refl

along_5 : run One (codes "e[0]") ranged ≡ ran Raised (fault (codes "IndexError") (codes "index out of range") ∷ []) ((codes "d", range (pos 5) (pos 0) (negsuc 1)) ∷ (codes "e", range (pos 0) (pos 0) (pos 1)) ∷ (codes "r", range (pos 0) (pos 10) (pos 3)) ∷ []) (codes "e" ∷ []) 23
unfolding reserved_marks delimiter operator numeral Q.escape Q.item Q.closes Q.body Q.quoted token_piece lexeme cut indented begin bracket step layout encode_utf8 code_of E.keyword_begins E.another E.argument E.attribute E.call E.slice_after E.item_or_slice E.trailer E.parenthesised E.list E.pair E.dict E.atom E.primary_parts E.primary E.power E.unary_level E.term E.sum E.compared E.negated_level E.conjunction E.disjunction E.expr_level E.exprs_level E.phrase S.primary_at S.another_simple S.raise S.return S.assertion S.delete S.global S.import S.update_of S.assignment_of S.update_or_assignment S.simple S.simples S.line S.block S.block_after S.arm S.choice S.while S.for S.caught S.handler S.handled S.finished S.try S.parameter S.definition S.define S.compound S.chunk S.program R.piece read_chars chars digits power builtin_names class_names run
along_5 = refl

along_6 : run One (codes "3 in r, 4 in r, True in e, 'a' in r, 10 in r, -3 in r, 5 in d, 1 in d, 0 in d, 4 in d, [] in r, None in r") ranged ≡ ran_over Done (shown (codes "(True, False, False, False, False, False, True, True, False, False, False, False)") ∷ []) ((codes "d", range (pos 5) (pos 0) (negsuc 1)) ∷ (codes "e", range (pos 0) (pos 0) (pos 1)) ∷ (codes "r", range (pos 0) (pos 10) (pos 3)) ∷ []) (list [] ∷ tuple (bool true ∷ bool false ∷ bool false ∷ bool false ∷ bool false ∷ bool false ∷ bool true ∷ bool true ∷ bool false ∷ bool false ∷ bool false ∷ bool false ∷ []) ∷ []) (codes "d" ∷ codes "e" ∷ codes "r" ∷ []) 120
unfolding reserved_marks delimiter operator numeral Q.escape Q.item Q.closes Q.body Q.quoted token_piece lexeme cut indented begin bracket step layout encode_utf8 code_of E.keyword_begins E.another E.argument E.attribute E.call E.slice_after E.item_or_slice E.trailer E.parenthesised E.list E.pair E.dict E.atom E.primary_parts E.primary E.power E.unary_level E.term E.sum E.compared E.negated_level E.conjunction E.disjunction E.expr_level E.exprs_level E.phrase S.primary_at S.another_simple S.raise S.return S.assertion S.delete S.global S.import S.update_of S.assignment_of S.update_or_assignment S.simple S.simples S.line S.block S.block_after S.arm S.choice S.while S.for S.caught S.handler S.handled S.finished S.try S.parameter S.definition S.define S.compound S.chunk S.program R.piece read_chars chars digits power builtin_names class_names run
along_6 = refl

along_7 : run One (codes "for i in r: print(i)") ranged ≡ ran Done (stream (codes "0\n3\n6\n9\n") ∷ []) ((codes "d", range (pos 5) (pos 0) (negsuc 1)) ∷ (codes "e", range (pos 0) (pos 0) (pos 1)) ∷ (codes "i", integer (pos 9)) ∷ (codes "r", range (pos 0) (pos 10) (pos 3)) ∷ []) (codes "i" ∷ codes "print" ∷ codes "r" ∷ []) 30
unfolding reserved_marks delimiter operator numeral Q.escape Q.item Q.closes Q.body Q.quoted token_piece lexeme cut indented begin bracket step layout encode_utf8 code_of E.keyword_begins E.another E.argument E.attribute E.call E.slice_after E.item_or_slice E.trailer E.parenthesised E.list E.pair E.dict E.atom E.primary_parts E.primary E.power E.unary_level E.term E.sum E.compared E.negated_level E.conjunction E.disjunction E.expr_level E.exprs_level E.phrase S.primary_at S.another_simple S.raise S.return S.assertion S.delete S.global S.import S.update_of S.assignment_of S.update_or_assignment S.simple S.simples S.line S.block S.block_after S.arm S.choice S.while S.for S.caught S.handler S.handled S.finished S.try S.parameter S.definition S.define S.compound S.chunk S.program R.piece read_chars chars digits power builtin_names class_names run
along_7 = refl

along_8 : run One (codes "for i in d: print(i)") ranged ≡ ran Done (stream (codes "5\n3\n1\n") ∷ []) ((codes "d", range (pos 5) (pos 0) (negsuc 1)) ∷ (codes "e", range (pos 0) (pos 0) (pos 1)) ∷ (codes "i", integer (pos 1)) ∷ (codes "r", range (pos 0) (pos 10) (pos 3)) ∷ []) (codes "d" ∷ codes "i" ∷ codes "print" ∷ []) 23
unfolding reserved_marks delimiter operator numeral Q.escape Q.item Q.closes Q.body Q.quoted token_piece lexeme cut indented begin bracket step layout encode_utf8 code_of E.keyword_begins E.another E.argument E.attribute E.call E.slice_after E.item_or_slice E.trailer E.parenthesised E.list E.pair E.dict E.atom E.primary_parts E.primary E.power E.unary_level E.term E.sum E.compared E.negated_level E.conjunction E.disjunction E.expr_level E.exprs_level E.phrase S.primary_at S.another_simple S.raise S.return S.assertion S.delete S.global S.import S.update_of S.assignment_of S.update_or_assignment S.simple S.simples S.line S.block S.block_after S.arm S.choice S.while S.for S.caught S.handler S.handled S.finished S.try S.parameter S.definition S.define S.compound S.chunk S.program R.piece read_chars chars digits power builtin_names class_names run
along_8 = refl

along_9 : run One (codes "for i in e: print(i)\ni") ranged ≡ ran Raised (fault (codes "NameError") (codes "name 'i' is not defined") ∷ []) ((codes "d", range (pos 5) (pos 0) (negsuc 1)) ∷ (codes "e", range (pos 0) (pos 0) (pos 1)) ∷ (codes "r", range (pos 0) (pos 10) (pos 3)) ∷ []) (codes "e" ∷ codes "i" ∷ []) 28
unfolding reserved_marks delimiter operator numeral Q.escape Q.item Q.closes Q.body Q.quoted token_piece lexeme cut indented begin bracket step layout encode_utf8 code_of E.keyword_begins E.another E.argument E.attribute E.call E.slice_after E.item_or_slice E.trailer E.parenthesised E.list E.pair E.dict E.atom E.primary_parts E.primary E.power E.unary_level E.term E.sum E.compared E.negated_level E.conjunction E.disjunction E.expr_level E.exprs_level E.phrase S.primary_at S.another_simple S.raise S.return S.assertion S.delete S.global S.import S.update_of S.assignment_of S.update_or_assignment S.simple S.simples S.line S.block S.block_after S.arm S.choice S.while S.for S.caught S.handler S.handled S.finished S.try S.parameter S.definition S.define S.compound S.chunk S.program R.piece read_chars chars digits power builtin_names class_names run
along_9 = refl

along_10 : run One (codes "a, b, c = d\na, b, c") ranged ≡ ran_over Done (shown (codes "(5, 3, 1)") ∷ []) ((codes "a", integer (pos 5)) ∷ (codes "b", integer (pos 3)) ∷ (codes "c", integer (pos 1)) ∷ (codes "d", range (pos 5) (pos 0) (negsuc 1)) ∷ (codes "e", range (pos 0) (pos 0) (pos 1)) ∷ (codes "r", range (pos 0) (pos 10) (pos 3)) ∷ []) (tuple (integer (pos 5) ∷ integer (pos 3) ∷ integer (pos 1) ∷ []) ∷ []) (codes "a" ∷ codes "b" ∷ codes "c" ∷ codes "d" ∷ []) 19
unfolding reserved_marks delimiter operator numeral Q.escape Q.item Q.closes Q.body Q.quoted token_piece lexeme cut indented begin bracket step layout encode_utf8 code_of E.keyword_begins E.another E.argument E.attribute E.call E.slice_after E.item_or_slice E.trailer E.parenthesised E.list E.pair E.dict E.atom E.primary_parts E.primary E.power E.unary_level E.term E.sum E.compared E.negated_level E.conjunction E.disjunction E.expr_level E.exprs_level E.phrase S.primary_at S.another_simple S.raise S.return S.assertion S.delete S.global S.import S.update_of S.assignment_of S.update_or_assignment S.simple S.simples S.line S.block S.block_after S.arm S.choice S.while S.for S.caught S.handler S.handled S.finished S.try S.parameter S.definition S.define S.compound S.chunk S.program R.piece read_chars chars digits power builtin_names class_names run
along_10 = refl

along_11 : run One (codes "a, b = r") ranged ≡ ran Raised (fault (codes "ValueError") (codes "cannot unpack into 2") ∷ []) ((codes "d", range (pos 5) (pos 0) (negsuc 1)) ∷ (codes "e", range (pos 0) (pos 0) (pos 1)) ∷ (codes "r", range (pos 0) (pos 10) (pos 3)) ∷ []) (codes "r" ∷ []) 27
unfolding reserved_marks delimiter operator numeral Q.escape Q.item Q.closes Q.body Q.quoted token_piece lexeme cut indented begin bracket step layout encode_utf8 code_of E.keyword_begins E.another E.argument E.attribute E.call E.slice_after E.item_or_slice E.trailer E.parenthesised E.list E.pair E.dict E.atom E.primary_parts E.primary E.power E.unary_level E.term E.sum E.compared E.negated_level E.conjunction E.disjunction E.expr_level E.exprs_level E.phrase S.primary_at S.another_simple S.raise S.return S.assertion S.delete S.global S.import S.update_of S.assignment_of S.update_or_assignment S.simple S.simples S.line S.block S.block_after S.arm S.choice S.while S.for S.caught S.handler S.handled S.finished S.try S.parameter S.definition S.define S.compound S.chunk S.program R.piece read_chars chars digits power builtin_names class_names run
along_11 = refl

along_12 : run One (codes "x = []; x += r; x") ranged ≡ ran_over Done (shown (codes "[0, 3, 6, 9]") ∷ []) ((codes "d", range (pos 5) (pos 0) (negsuc 1)) ∷ (codes "e", range (pos 0) (pos 0) (pos 1)) ∷ (codes "r", range (pos 0) (pos 10) (pos 3)) ∷ (codes "x", node 0) ∷ []) (list (integer (pos 0) ∷ integer (pos 3) ∷ integer (pos 6) ∷ integer (pos 9) ∷ []) ∷ []) (codes "r" ∷ codes "x" ∷ []) 24
unfolding reserved_marks delimiter operator numeral Q.escape Q.item Q.closes Q.body Q.quoted token_piece lexeme cut indented begin bracket step layout encode_utf8 code_of E.keyword_begins E.another E.argument E.attribute E.call E.slice_after E.item_or_slice E.trailer E.parenthesised E.list E.pair E.dict E.atom E.primary_parts E.primary E.power E.unary_level E.term E.sum E.compared E.negated_level E.conjunction E.disjunction E.expr_level E.exprs_level E.phrase S.primary_at S.another_simple S.raise S.return S.assertion S.delete S.global S.import S.update_of S.assignment_of S.update_or_assignment S.simple S.simples S.line S.block S.block_after S.arm S.choice S.while S.for S.caught S.handler S.handled S.finished S.try S.parameter S.definition S.define S.compound S.chunk S.program R.piece read_chars chars digits power builtin_names class_names run
along_12 = refl

along_13 : run One (codes "r == r, r == d, e == [], r != 0") ranged ≡ ran_over Done (shown (codes "(True, False, False, True)") ∷ []) ((codes "d", range (pos 5) (pos 0) (negsuc 1)) ∷ (codes "e", range (pos 0) (pos 0) (pos 1)) ∷ (codes "r", range (pos 0) (pos 10) (pos 3)) ∷ []) (list [] ∷ tuple (bool true ∷ bool false ∷ bool false ∷ bool true ∷ []) ∷ []) (codes "d" ∷ codes "e" ∷ codes "r" ∷ []) 40
unfolding reserved_marks delimiter operator numeral Q.escape Q.item Q.closes Q.body Q.quoted token_piece lexeme cut indented begin bracket step layout encode_utf8 code_of E.keyword_begins E.another E.argument E.attribute E.call E.slice_after E.item_or_slice E.trailer E.parenthesised E.list E.pair E.dict E.atom E.primary_parts E.primary E.power E.unary_level E.term E.sum E.compared E.negated_level E.conjunction E.disjunction E.expr_level E.exprs_level E.phrase S.primary_at S.another_simple S.raise S.return S.assertion S.delete S.global S.import S.update_of S.assignment_of S.update_or_assignment S.simple S.simples S.line S.block S.block_after S.arm S.choice S.while S.for S.caught S.handler S.handled S.finished S.try S.parameter S.definition S.define S.compound S.chunk S.program R.piece read_chars chars digits power builtin_names class_names run
along_13 = refl

along_14 : run One (codes "r is r, r is d, r is 0") ranged ≡ ran_over Done (shown (codes "(True, False, False)") ∷ []) ((codes "d", range (pos 5) (pos 0) (negsuc 1)) ∷ (codes "e", range (pos 0) (pos 0) (pos 1)) ∷ (codes "r", range (pos 0) (pos 10) (pos 3)) ∷ []) (tuple (bool true ∷ bool false ∷ bool false ∷ []) ∷ []) (codes "d" ∷ codes "r" ∷ []) 31
unfolding reserved_marks delimiter operator numeral Q.escape Q.item Q.closes Q.body Q.quoted token_piece lexeme cut indented begin bracket step layout encode_utf8 code_of E.keyword_begins E.another E.argument E.attribute E.call E.slice_after E.item_or_slice E.trailer E.parenthesised E.list E.pair E.dict E.atom E.primary_parts E.primary E.power E.unary_level E.term E.sum E.compared E.negated_level E.conjunction E.disjunction E.expr_level E.exprs_level E.phrase S.primary_at S.another_simple S.raise S.return S.assertion S.delete S.global S.import S.update_of S.assignment_of S.update_or_assignment S.simple S.simples S.line S.block S.block_after S.arm S.choice S.while S.for S.caught S.handler S.handled S.finished S.try S.parameter S.definition S.define S.compound S.chunk S.program R.piece read_chars chars digits power builtin_names class_names run
along_14 = refl

along_15 : run One (codes "not e, not r") ranged ≡ ran_over Done (shown (codes "(True, False)") ∷ []) ((codes "d", range (pos 5) (pos 0) (negsuc 1)) ∷ (codes "e", range (pos 0) (pos 0) (pos 1)) ∷ (codes "r", range (pos 0) (pos 10) (pos 3)) ∷ []) (tuple (bool true ∷ bool false ∷ []) ∷ []) (codes "e" ∷ codes "r" ∷ []) 19
unfolding reserved_marks delimiter operator numeral Q.escape Q.item Q.closes Q.body Q.quoted token_piece lexeme cut indented begin bracket step layout encode_utf8 code_of E.keyword_begins E.another E.argument E.attribute E.call E.slice_after E.item_or_slice E.trailer E.parenthesised E.list E.pair E.dict E.atom E.primary_parts E.primary E.power E.unary_level E.term E.sum E.compared E.negated_level E.conjunction E.disjunction E.expr_level E.exprs_level E.phrase S.primary_at S.another_simple S.raise S.return S.assertion S.delete S.global S.import S.update_of S.assignment_of S.update_or_assignment S.simple S.simples S.line S.block S.block_after S.arm S.choice S.while S.for S.caught S.handler S.handled S.finished S.try S.parameter S.definition S.define S.compound S.chunk S.program R.piece read_chars chars digits power builtin_names class_names run
along_15 = refl

along_16 : run One (codes "r") ranged ≡ ran Done (shown (codes "range(0, 10, 3)") ∷ []) ((codes "d", range (pos 5) (pos 0) (negsuc 1)) ∷ (codes "e", range (pos 0) (pos 0) (pos 1)) ∷ (codes "r", range (pos 0) (pos 10) (pos 3)) ∷ []) (codes "r" ∷ []) 17
unfolding reserved_marks delimiter operator numeral Q.escape Q.item Q.closes Q.body Q.quoted token_piece lexeme cut indented begin bracket step layout encode_utf8 code_of E.keyword_begins E.another E.argument E.attribute E.call E.slice_after E.item_or_slice E.trailer E.parenthesised E.list E.pair E.dict E.atom E.primary_parts E.primary E.power E.unary_level E.term E.sum E.compared E.negated_level E.conjunction E.disjunction E.expr_level E.exprs_level E.phrase S.primary_at S.another_simple S.raise S.return S.assertion S.delete S.global S.import S.update_of S.assignment_of S.update_or_assignment S.simple S.simples S.line S.block S.block_after S.arm S.choice S.while S.for S.caught S.handler S.handled S.finished S.try S.parameter S.definition S.define S.compound S.chunk S.program R.piece read_chars chars digits power builtin_names class_names run
along_16 = refl

along_17 : run One (codes "print(r, d, e)") ranged ≡ ran Done (stream (codes "range(0, 10, 3) range(5, 0, -2) range(0, 0)\n") ∷ []) ((codes "d", range (pos 5) (pos 0) (negsuc 1)) ∷ (codes "e", range (pos 0) (pos 0) (pos 1)) ∷ (codes "r", range (pos 0) (pos 10) (pos 3)) ∷ []) (codes "d" ∷ codes "e" ∷ codes "print" ∷ codes "r" ∷ []) 50
unfolding reserved_marks delimiter operator numeral Q.escape Q.item Q.closes Q.body Q.quoted token_piece lexeme cut indented begin bracket step layout encode_utf8 code_of E.keyword_begins E.another E.argument E.attribute E.call E.slice_after E.item_or_slice E.trailer E.parenthesised E.list E.pair E.dict E.atom E.primary_parts E.primary E.power E.unary_level E.term E.sum E.compared E.negated_level E.conjunction E.disjunction E.expr_level E.exprs_level E.phrase S.primary_at S.another_simple S.raise S.return S.assertion S.delete S.global S.import S.update_of S.assignment_of S.update_or_assignment S.simple S.simples S.line S.block S.block_after S.arm S.choice S.while S.for S.caught S.handler S.handled S.finished S.try S.parameter S.definition S.define S.compound S.chunk S.program R.piece read_chars chars digits power builtin_names class_names run
along_17 = refl

along_18 : run One (codes "r + r") ranged ≡ ran Raised (fault (codes "TypeError") (codes "bad operand types for +: 'range' and 'range'") ∷ []) ((codes "d", range (pos 5) (pos 0) (negsuc 1)) ∷ (codes "e", range (pos 0) (pos 0) (pos 1)) ∷ (codes "r", range (pos 0) (pos 10) (pos 3)) ∷ []) (codes "r" ∷ []) 49
unfolding reserved_marks delimiter operator numeral Q.escape Q.item Q.closes Q.body Q.quoted token_piece lexeme cut indented begin bracket step layout encode_utf8 code_of E.keyword_begins E.another E.argument E.attribute E.call E.slice_after E.item_or_slice E.trailer E.parenthesised E.list E.pair E.dict E.atom E.primary_parts E.primary E.power E.unary_level E.term E.sum E.compared E.negated_level E.conjunction E.disjunction E.expr_level E.exprs_level E.phrase S.primary_at S.another_simple S.raise S.return S.assertion S.delete S.global S.import S.update_of S.assignment_of S.update_or_assignment S.simple S.simples S.line S.block S.block_after S.arm S.choice S.while S.for S.caught S.handler S.handled S.finished S.try S.parameter S.definition S.define S.compound S.chunk S.program R.piece read_chars chars digits power builtin_names class_names run
along_18 = refl

along_19 : run One (codes "r * 2") ranged ≡ ran Raised (fault (codes "TypeError") (codes "bad operand types for *: 'range' and 'int'") ∷ []) ((codes "d", range (pos 5) (pos 0) (negsuc 1)) ∷ (codes "e", range (pos 0) (pos 0) (pos 1)) ∷ (codes "r", range (pos 0) (pos 10) (pos 3)) ∷ []) (codes "r" ∷ []) 47
unfolding reserved_marks delimiter operator numeral Q.escape Q.item Q.closes Q.body Q.quoted token_piece lexeme cut indented begin bracket step layout encode_utf8 code_of E.keyword_begins E.another E.argument E.attribute E.call E.slice_after E.item_or_slice E.trailer E.parenthesised E.list E.pair E.dict E.atom E.primary_parts E.primary E.power E.unary_level E.term E.sum E.compared E.negated_level E.conjunction E.disjunction E.expr_level E.exprs_level E.phrase S.primary_at S.another_simple S.raise S.return S.assertion S.delete S.global S.import S.update_of S.assignment_of S.update_or_assignment S.simple S.simples S.line S.block S.block_after S.arm S.choice S.while S.for S.caught S.handler S.handled S.finished S.try S.parameter S.definition S.define S.compound S.chunk S.program R.piece read_chars chars digits power builtin_names class_names run
along_19 = refl

along_20 : run One (codes "[] + r") ranged ≡ ran_over Raised (fault (codes "TypeError") (codes "bad operand types for +: 'list' and 'range'") ∷ []) ((codes "d", range (pos 5) (pos 0) (negsuc 1)) ∷ (codes "e", range (pos 0) (pos 0) (pos 1)) ∷ (codes "r", range (pos 0) (pos 10) (pos 3)) ∷ []) (list [] ∷ []) (codes "r" ∷ []) 48
unfolding reserved_marks delimiter operator numeral Q.escape Q.item Q.closes Q.body Q.quoted token_piece lexeme cut indented begin bracket step layout encode_utf8 code_of E.keyword_begins E.another E.argument E.attribute E.call E.slice_after E.item_or_slice E.trailer E.parenthesised E.list E.pair E.dict E.atom E.primary_parts E.primary E.power E.unary_level E.term E.sum E.compared E.negated_level E.conjunction E.disjunction E.expr_level E.exprs_level E.phrase S.primary_at S.another_simple S.raise S.return S.assertion S.delete S.global S.import S.update_of S.assignment_of S.update_or_assignment S.simple S.simples S.line S.block S.block_after S.arm S.choice S.while S.for S.caught S.handler S.handled S.finished S.try S.parameter S.definition S.define S.compound S.chunk S.program R.piece read_chars chars digits power builtin_names class_names run
along_20 = refl

along_21 : run One (codes "r < r") ranged ≡ ran Raised (fault (codes "TypeError") (codes "bad operand types for <: 'range' and 'range'") ∷ []) ((codes "d", range (pos 5) (pos 0) (negsuc 1)) ∷ (codes "e", range (pos 0) (pos 0) (pos 1)) ∷ (codes "r", range (pos 0) (pos 10) (pos 3)) ∷ []) (codes "r" ∷ []) 49
unfolding reserved_marks delimiter operator numeral Q.escape Q.item Q.closes Q.body Q.quoted token_piece lexeme cut indented begin bracket step layout encode_utf8 code_of E.keyword_begins E.another E.argument E.attribute E.call E.slice_after E.item_or_slice E.trailer E.parenthesised E.list E.pair E.dict E.atom E.primary_parts E.primary E.power E.unary_level E.term E.sum E.compared E.negated_level E.conjunction E.disjunction E.expr_level E.exprs_level E.phrase S.primary_at S.another_simple S.raise S.return S.assertion S.delete S.global S.import S.update_of S.assignment_of S.update_or_assignment S.simple S.simples S.line S.block S.block_after S.arm S.choice S.while S.for S.caught S.handler S.handled S.finished S.try S.parameter S.definition S.define S.compound S.chunk S.program R.piece read_chars chars digits power builtin_names class_names run
along_21 = refl

along_22 : run One (codes "r.a") ranged ≡ ran Raised (fault (codes "AttributeError") (codes "'range' object has no attribute 'a'") ∷ []) ((codes "d", range (pos 5) (pos 0) (negsuc 1)) ∷ (codes "e", range (pos 0) (pos 0) (pos 1)) ∷ (codes "r", range (pos 0) (pos 10) (pos 3)) ∷ []) (codes "r" ∷ []) 39
unfolding reserved_marks delimiter operator numeral Q.escape Q.item Q.closes Q.body Q.quoted token_piece lexeme cut indented begin bracket step layout encode_utf8 code_of E.keyword_begins E.another E.argument E.attribute E.call E.slice_after E.item_or_slice E.trailer E.parenthesised E.list E.pair E.dict E.atom E.primary_parts E.primary E.power E.unary_level E.term E.sum E.compared E.negated_level E.conjunction E.disjunction E.expr_level E.exprs_level E.phrase S.primary_at S.another_simple S.raise S.return S.assertion S.delete S.global S.import S.update_of S.assignment_of S.update_or_assignment S.simple S.simples S.line S.block S.block_after S.arm S.choice S.while S.for S.caught S.handler S.handled S.finished S.try S.parameter S.definition S.define S.compound S.chunk S.program R.piece read_chars chars digits power builtin_names class_names run
along_22 = refl

along_23 : run One (codes "r.a = 1") ranged ≡ ran Raised (fault (codes "AttributeError") (codes "'range' object has no attribute 'a'") ∷ []) ((codes "d", range (pos 5) (pos 0) (negsuc 1)) ∷ (codes "e", range (pos 0) (pos 0) (pos 1)) ∷ (codes "r", range (pos 0) (pos 10) (pos 3)) ∷ []) (codes "r" ∷ []) 39
unfolding reserved_marks delimiter operator numeral Q.escape Q.item Q.closes Q.body Q.quoted token_piece lexeme cut indented begin bracket step layout encode_utf8 code_of E.keyword_begins E.another E.argument E.attribute E.call E.slice_after E.item_or_slice E.trailer E.parenthesised E.list E.pair E.dict E.atom E.primary_parts E.primary E.power E.unary_level E.term E.sum E.compared E.negated_level E.conjunction E.disjunction E.expr_level E.exprs_level E.phrase S.primary_at S.another_simple S.raise S.return S.assertion S.delete S.global S.import S.update_of S.assignment_of S.update_or_assignment S.simple S.simples S.line S.block S.block_after S.arm S.choice S.while S.for S.caught S.handler S.handled S.finished S.try S.parameter S.definition S.define S.compound S.chunk S.program R.piece read_chars chars digits power builtin_names class_names run
along_23 = refl

along_24 : run One (codes "r[0] = 1") ranged ≡ ran Raised (fault (codes "TypeError") (codes "'range' object is not subscriptable") ∷ []) ((codes "d", range (pos 5) (pos 0) (negsuc 1)) ∷ (codes "e", range (pos 0) (pos 0) (pos 1)) ∷ (codes "r", range (pos 0) (pos 10) (pos 3)) ∷ []) (codes "r" ∷ []) 40
unfolding reserved_marks delimiter operator numeral Q.escape Q.item Q.closes Q.body Q.quoted token_piece lexeme cut indented begin bracket step layout encode_utf8 code_of E.keyword_begins E.another E.argument E.attribute E.call E.slice_after E.item_or_slice E.trailer E.parenthesised E.list E.pair E.dict E.atom E.primary_parts E.primary E.power E.unary_level E.term E.sum E.compared E.negated_level E.conjunction E.disjunction E.expr_level E.exprs_level E.phrase S.primary_at S.another_simple S.raise S.return S.assertion S.delete S.global S.import S.update_of S.assignment_of S.update_or_assignment S.simple S.simples S.line S.block S.block_after S.arm S.choice S.while S.for S.caught S.handler S.handled S.finished S.try S.parameter S.definition S.define S.compound S.chunk S.program R.piece read_chars chars digits power builtin_names class_names run
along_24 = refl

along_25 : run One (codes "del r[0]") ranged ≡ ran Raised (fault (codes "TypeError") (codes "'range' object is not subscriptable") ∷ []) ((codes "d", range (pos 5) (pos 0) (negsuc 1)) ∷ (codes "e", range (pos 0) (pos 0) (pos 1)) ∷ (codes "r", range (pos 0) (pos 10) (pos 3)) ∷ []) (codes "r" ∷ []) 39
unfolding reserved_marks delimiter operator numeral Q.escape Q.item Q.closes Q.body Q.quoted token_piece lexeme cut indented begin bracket step layout encode_utf8 code_of E.keyword_begins E.another E.argument E.attribute E.call E.slice_after E.item_or_slice E.trailer E.parenthesised E.list E.pair E.dict E.atom E.primary_parts E.primary E.power E.unary_level E.term E.sum E.compared E.negated_level E.conjunction E.disjunction E.expr_level E.exprs_level E.phrase S.primary_at S.another_simple S.raise S.return S.assertion S.delete S.global S.import S.update_of S.assignment_of S.update_or_assignment S.simple S.simples S.line S.block S.block_after S.arm S.choice S.while S.for S.caught S.handler S.handled S.finished S.try S.parameter S.definition S.define S.compound S.chunk S.program R.piece read_chars chars digits power builtin_names class_names run
along_25 = refl

along_26 : run One (codes "r.a()") ranged ≡ ran Raised (fault (codes "AttributeError") (codes "'range' object has no attribute 'a'") ∷ []) ((codes "d", range (pos 5) (pos 0) (negsuc 1)) ∷ (codes "e", range (pos 0) (pos 0) (pos 1)) ∷ (codes "r", range (pos 0) (pos 10) (pos 3)) ∷ []) (codes "r" ∷ []) 40
unfolding reserved_marks delimiter operator numeral Q.escape Q.item Q.closes Q.body Q.quoted token_piece lexeme cut indented begin bracket step layout encode_utf8 code_of E.keyword_begins E.another E.argument E.attribute E.call E.slice_after E.item_or_slice E.trailer E.parenthesised E.list E.pair E.dict E.atom E.primary_parts E.primary E.power E.unary_level E.term E.sum E.compared E.negated_level E.conjunction E.disjunction E.expr_level E.exprs_level E.phrase S.primary_at S.another_simple S.raise S.return S.assertion S.delete S.global S.import S.update_of S.assignment_of S.update_or_assignment S.simple S.simples S.line S.block S.block_after S.arm S.choice S.while S.for S.caught S.handler S.handled S.finished S.try S.parameter S.definition S.define S.compound S.chunk S.program R.piece read_chars chars digits power builtin_names class_names run
along_26 = refl

along_27 : run One (codes "r()") ranged ≡ ran Raised (fault (codes "TypeError") (codes "'range' object is not callable") ∷ []) ((codes "d", range (pos 5) (pos 0) (negsuc 1)) ∷ (codes "e", range (pos 0) (pos 0) (pos 1)) ∷ (codes "r", range (pos 0) (pos 10) (pos 3)) ∷ []) (codes "r" ∷ []) 34
unfolding reserved_marks delimiter operator numeral Q.escape Q.item Q.closes Q.body Q.quoted token_piece lexeme cut indented begin bracket step layout encode_utf8 code_of E.keyword_begins E.another E.argument E.attribute E.call E.slice_after E.item_or_slice E.trailer E.parenthesised E.list E.pair E.dict E.atom E.primary_parts E.primary E.power E.unary_level E.term E.sum E.compared E.negated_level E.conjunction E.disjunction E.expr_level E.exprs_level E.phrase S.primary_at S.another_simple S.raise S.return S.assertion S.delete S.global S.import S.update_of S.assignment_of S.update_or_assignment S.simple S.simples S.line S.block S.block_after S.arm S.choice S.while S.for S.caught S.handler S.handled S.finished S.try S.parameter S.definition S.define S.compound S.chunk S.program R.piece read_chars chars digits power builtin_names class_names run
along_27 = refl

along_28 : run One (codes "[r] == [r], [r] == [d]") ranged ≡ ran_over Done (shown (codes "(True, False)") ∷ []) ((codes "d", range (pos 5) (pos 0) (negsuc 1)) ∷ (codes "e", range (pos 0) (pos 0) (pos 1)) ∷ (codes "r", range (pos 0) (pos 10) (pos 3)) ∷ []) (list (range (pos 0) (pos 10) (pos 3) ∷ []) ∷ list (range (pos 0) (pos 10) (pos 3) ∷ []) ∷ list (range (pos 0) (pos 10) (pos 3) ∷ []) ∷ list (range (pos 5) (pos 0) (negsuc 1) ∷ []) ∷ tuple (bool true ∷ bool false ∷ []) ∷ []) (codes "d" ∷ codes "r" ∷ []) 27
unfolding reserved_marks delimiter operator numeral Q.escape Q.item Q.closes Q.body Q.quoted token_piece lexeme cut indented begin bracket step layout encode_utf8 code_of E.keyword_begins E.another E.argument E.attribute E.call E.slice_after E.item_or_slice E.trailer E.parenthesised E.list E.pair E.dict E.atom E.primary_parts E.primary E.power E.unary_level E.term E.sum E.compared E.negated_level E.conjunction E.disjunction E.expr_level E.exprs_level E.phrase S.primary_at S.another_simple S.raise S.return S.assertion S.delete S.global S.import S.update_of S.assignment_of S.update_or_assignment S.simple S.simples S.line S.block S.block_after S.arm S.choice S.while S.for S.caught S.handler S.handled S.finished S.try S.parameter S.definition S.define S.compound S.chunk S.program R.piece read_chars chars digits power builtin_names class_names run
along_28 = refl

along_29 : run One (codes "[r] < [d]") ranged ≡ ran_over Raised (fault (codes "TypeError") (codes "bad operand types for <: 'list' and 'list'") ∷ []) ((codes "d", range (pos 5) (pos 0) (negsuc 1)) ∷ (codes "e", range (pos 0) (pos 0) (pos 1)) ∷ (codes "r", range (pos 0) (pos 10) (pos 3)) ∷ []) (list (range (pos 0) (pos 10) (pos 3) ∷ []) ∷ list (range (pos 5) (pos 0) (negsuc 1) ∷ []) ∷ []) (codes "d" ∷ codes "r" ∷ []) 50
unfolding reserved_marks delimiter operator numeral Q.escape Q.item Q.closes Q.body Q.quoted token_piece lexeme cut indented begin bracket step layout encode_utf8 code_of E.keyword_begins E.another E.argument E.attribute E.call E.slice_after E.item_or_slice E.trailer E.parenthesised E.list E.pair E.dict E.atom E.primary_parts E.primary E.power E.unary_level E.term E.sum E.compared E.negated_level E.conjunction E.disjunction E.expr_level E.exprs_level E.phrase S.primary_at S.another_simple S.raise S.return S.assertion S.delete S.global S.import S.update_of S.assignment_of S.update_or_assignment S.simple S.simples S.line S.block S.block_after S.arm S.choice S.while S.for S.caught S.handler S.handled S.finished S.try S.parameter S.definition S.define S.compound S.chunk S.program R.piece read_chars chars digits power builtin_names class_names run
along_29 = refl

along_30 : run One (codes "-r") ranged ≡ ran Raised (fault (codes "TypeError") (codes "bad operand type for -: 'range'") ∷ []) ((codes "d", range (pos 5) (pos 0) (negsuc 1)) ∷ (codes "e", range (pos 0) (pos 0) (pos 1)) ∷ (codes "r", range (pos 0) (pos 10) (pos 3)) ∷ []) (codes "r" ∷ []) 35
unfolding reserved_marks delimiter operator numeral Q.escape Q.item Q.closes Q.body Q.quoted token_piece lexeme cut indented begin bracket step layout encode_utf8 code_of E.keyword_begins E.another E.argument E.attribute E.call E.slice_after E.item_or_slice E.trailer E.parenthesised E.list E.pair E.dict E.atom E.primary_parts E.primary E.power E.unary_level E.term E.sum E.compared E.negated_level E.conjunction E.disjunction E.expr_level E.exprs_level E.phrase S.primary_at S.another_simple S.raise S.return S.assertion S.delete S.global S.import S.update_of S.assignment_of S.update_or_assignment S.simple S.simples S.line S.block S.block_after S.arm S.choice S.while S.for S.caught S.handler S.handled S.finished S.try S.parameter S.definition S.define S.compound S.chunk S.program R.piece read_chars chars digits power builtin_names class_names run
along_30 = refl

along_31 : run One (codes "r in [d, r]") ranged ≡ ran_over Done (shown (codes "True") ∷ []) ((codes "d", range (pos 5) (pos 0) (negsuc 1)) ∷ (codes "e", range (pos 0) (pos 0) (pos 1)) ∷ (codes "r", range (pos 0) (pos 10) (pos 3)) ∷ []) (list (range (pos 5) (pos 0) (negsuc 1) ∷ range (pos 0) (pos 10) (pos 3) ∷ []) ∷ []) (codes "d" ∷ codes "r" ∷ []) 12
unfolding reserved_marks delimiter operator numeral Q.escape Q.item Q.closes Q.body Q.quoted token_piece lexeme cut indented begin bracket step layout encode_utf8 code_of E.keyword_begins E.another E.argument E.attribute E.call E.slice_after E.item_or_slice E.trailer E.parenthesised E.list E.pair E.dict E.atom E.primary_parts E.primary E.power E.unary_level E.term E.sum E.compared E.negated_level E.conjunction E.disjunction E.expr_level E.exprs_level E.phrase S.primary_at S.another_simple S.raise S.return S.assertion S.delete S.global S.import S.update_of S.assignment_of S.update_or_assignment S.simple S.simples S.line S.block S.block_after S.arm S.choice S.while S.for S.caught S.handler S.handled S.finished S.try S.parameter S.definition S.define S.compound S.chunk S.program R.piece read_chars chars digits power builtin_names class_names run
along_31 = refl

along_32 : run One (codes "1 in [r]") ranged ≡ ran_over Done (shown (codes "False") ∷ []) ((codes "d", range (pos 5) (pos 0) (negsuc 1)) ∷ (codes "e", range (pos 0) (pos 0) (pos 1)) ∷ (codes "r", range (pos 0) (pos 10) (pos 3)) ∷ []) (list (range (pos 0) (pos 10) (pos 3) ∷ []) ∷ []) (codes "r" ∷ []) 11
unfolding reserved_marks delimiter operator numeral Q.escape Q.item Q.closes Q.body Q.quoted token_piece lexeme cut indented begin bracket step layout encode_utf8 code_of E.keyword_begins E.another E.argument E.attribute E.call E.slice_after E.item_or_slice E.trailer E.parenthesised E.list E.pair E.dict E.atom E.primary_parts E.primary E.power E.unary_level E.term E.sum E.compared E.negated_level E.conjunction E.disjunction E.expr_level E.exprs_level E.phrase S.primary_at S.another_simple S.raise S.return S.assertion S.delete S.global S.import S.update_of S.assignment_of S.update_or_assignment S.simple S.simples S.line S.block S.block_after S.arm S.choice S.while S.for S.caught S.handler S.handled S.finished S.try S.parameter S.definition S.define S.compound S.chunk S.program R.piece read_chars chars digits power builtin_names class_names run
along_32 = refl

along_33 : run One (codes "'a'[r]") ranged ≡ ran Raised (fault (codes "TypeError") (codes "bad index type: 'range'") ∷ []) ((codes "d", range (pos 5) (pos 0) (negsuc 1)) ∷ (codes "e", range (pos 0) (pos 0) (pos 1)) ∷ (codes "r", range (pos 0) (pos 10) (pos 3)) ∷ []) (codes "r" ∷ []) 28
unfolding reserved_marks delimiter operator numeral Q.escape Q.item Q.closes Q.body Q.quoted token_piece lexeme cut indented begin bracket step layout encode_utf8 code_of E.keyword_begins E.another E.argument E.attribute E.call E.slice_after E.item_or_slice E.trailer E.parenthesised E.list E.pair E.dict E.atom E.primary_parts E.primary E.power E.unary_level E.term E.sum E.compared E.negated_level E.conjunction E.disjunction E.expr_level E.exprs_level E.phrase S.primary_at S.another_simple S.raise S.return S.assertion S.delete S.global S.import S.update_of S.assignment_of S.update_or_assignment S.simple S.simples S.line S.block S.block_after S.arm S.choice S.while S.for S.caught S.handler S.handled S.finished S.try S.parameter S.definition S.define S.compound S.chunk S.program R.piece read_chars chars digits power builtin_names class_names run
along_33 = refl

along_34 : run One (codes "(a, b), c = r, 1") ranged ≡ ran_over Raised (fault (codes "ValueError") (codes "cannot unpack into 2") ∷ []) ((codes "d", range (pos 5) (pos 0) (negsuc 1)) ∷ (codes "e", range (pos 0) (pos 0) (pos 1)) ∷ (codes "r", range (pos 0) (pos 10) (pos 3)) ∷ []) (tuple (range (pos 0) (pos 10) (pos 3) ∷ integer (pos 1) ∷ []) ∷ []) (codes "r" ∷ []) 31
unfolding reserved_marks delimiter operator numeral Q.escape Q.item Q.closes Q.body Q.quoted token_piece lexeme cut indented begin bracket step layout encode_utf8 code_of E.keyword_begins E.another E.argument E.attribute E.call E.slice_after E.item_or_slice E.trailer E.parenthesised E.list E.pair E.dict E.atom E.primary_parts E.primary E.power E.unary_level E.term E.sum E.compared E.negated_level E.conjunction E.disjunction E.expr_level E.exprs_level E.phrase S.primary_at S.another_simple S.raise S.return S.assertion S.delete S.global S.import S.update_of S.assignment_of S.update_or_assignment S.simple S.simples S.line S.block S.block_after S.arm S.choice S.while S.for S.caught S.handler S.handled S.finished S.try S.parameter S.definition S.define S.compound S.chunk S.program R.piece read_chars chars digits power builtin_names class_names run
along_34 = refl

along_35 : run One (codes "for a, b in r: pass") ranged ≡ ran Raised (fault (codes "TypeError") (codes "'int' object is not iterable") ∷ []) ((codes "d", range (pos 5) (pos 0) (negsuc 1)) ∷ (codes "e", range (pos 0) (pos 0) (pos 1)) ∷ (codes "r", range (pos 0) (pos 10) (pos 3)) ∷ []) (codes "r" ∷ []) 32
unfolding reserved_marks delimiter operator numeral Q.escape Q.item Q.closes Q.body Q.quoted token_piece lexeme cut indented begin bracket step layout encode_utf8 code_of E.keyword_begins E.another E.argument E.attribute E.call E.slice_after E.item_or_slice E.trailer E.parenthesised E.list E.pair E.dict E.atom E.primary_parts E.primary E.power E.unary_level E.term E.sum E.compared E.negated_level E.conjunction E.disjunction E.expr_level E.exprs_level E.phrase S.primary_at S.another_simple S.raise S.return S.assertion S.delete S.global S.import S.update_of S.assignment_of S.update_or_assignment S.simple S.simples S.line S.block S.block_after S.arm S.choice S.while S.for S.caught S.handler S.handled S.finished S.try S.parameter S.definition S.define S.compound S.chunk S.program R.piece read_chars chars digits power builtin_names class_names run
along_35 = refl

along_36 : run One (codes "r += 1") ranged ≡ ran Raised (fault (codes "TypeError") (codes "bad operand types for +: 'range' and 'int'") ∷ []) ((codes "d", range (pos 5) (pos 0) (negsuc 1)) ∷ (codes "e", range (pos 0) (pos 0) (pos 1)) ∷ (codes "r", range (pos 0) (pos 10) (pos 3)) ∷ []) (codes "r" ∷ []) 47
unfolding reserved_marks delimiter operator numeral Q.escape Q.item Q.closes Q.body Q.quoted token_piece lexeme cut indented begin bracket step layout encode_utf8 code_of E.keyword_begins E.another E.argument E.attribute E.call E.slice_after E.item_or_slice E.trailer E.parenthesised E.list E.pair E.dict E.atom E.primary_parts E.primary E.power E.unary_level E.term E.sum E.compared E.negated_level E.conjunction E.disjunction E.expr_level E.exprs_level E.phrase S.primary_at S.another_simple S.raise S.return S.assertion S.delete S.global S.import S.update_of S.assignment_of S.update_or_assignment S.simple S.simples S.line S.block S.block_after S.arm S.choice S.while S.for S.caught S.handler S.handled S.finished S.try S.parameter S.definition S.define S.compound S.chunk S.program R.piece read_chars chars digits power builtin_names class_names run
along_36 = refl

along_37 : run One (codes "d -= d") ranged ≡ ran Raised (fault (codes "TypeError") (codes "bad operand types for -: 'range' and 'range'") ∷ []) ((codes "d", range (pos 5) (pos 0) (negsuc 1)) ∷ (codes "e", range (pos 0) (pos 0) (pos 1)) ∷ (codes "r", range (pos 0) (pos 10) (pos 3)) ∷ []) (codes "d" ∷ []) 49
unfolding reserved_marks delimiter operator numeral Q.escape Q.item Q.closes Q.body Q.quoted token_piece lexeme cut indented begin bracket step layout encode_utf8 code_of E.keyword_begins E.another E.argument E.attribute E.call E.slice_after E.item_or_slice E.trailer E.parenthesised E.list E.pair E.dict E.atom E.primary_parts E.primary E.power E.unary_level E.term E.sum E.compared E.negated_level E.conjunction E.disjunction E.expr_level E.exprs_level E.phrase S.primary_at S.another_simple S.raise S.return S.assertion S.delete S.global S.import S.update_of S.assignment_of S.update_or_assignment S.simple S.simples S.line S.block S.block_after S.arm S.choice S.while S.for S.caught S.handler S.handled S.finished S.try S.parameter S.definition S.define S.compound S.chunk S.program R.piece read_chars chars digits power builtin_names class_names run
along_37 = refl

along_38 : run One (codes "x = r[0] < d[0] < 6\nx") ranged ≡ ran Done (shown (codes "True") ∷ []) ((codes "d", range (pos 5) (pos 0) (negsuc 1)) ∷ (codes "e", range (pos 0) (pos 0) (pos 1)) ∷ (codes "r", range (pos 0) (pos 10) (pos 3)) ∷ (codes "x", bool true) ∷ []) (codes "d" ∷ codes "r" ∷ codes "x" ∷ []) 16
unfolding reserved_marks delimiter operator numeral Q.escape Q.item Q.closes Q.body Q.quoted token_piece lexeme cut indented begin bracket step layout encode_utf8 code_of E.keyword_begins E.another E.argument E.attribute E.call E.slice_after E.item_or_slice E.trailer E.parenthesised E.list E.pair E.dict E.atom E.primary_parts E.primary E.power E.unary_level E.term E.sum E.compared E.negated_level E.conjunction E.disjunction E.expr_level E.exprs_level E.phrase S.primary_at S.another_simple S.raise S.return S.assertion S.delete S.global S.import S.update_of S.assignment_of S.update_or_assignment S.simple S.simples S.line S.block S.block_after S.arm S.choice S.while S.for S.caught S.handler S.handled S.finished S.try S.parameter S.definition S.define S.compound S.chunk S.program R.piece read_chars chars digits power builtin_names class_names run
along_38 = refl

along_39 : run One (codes "if e: 1\nelif r: 'r'") ranged ≡ ran Done [] ((codes "d", range (pos 5) (pos 0) (negsuc 1)) ∷ (codes "e", range (pos 0) (pos 0) (pos 1)) ∷ (codes "r", range (pos 0) (pos 10) (pos 3)) ∷ []) (codes "e" ∷ codes "r" ∷ []) 5
unfolding reserved_marks delimiter operator numeral Q.escape Q.item Q.closes Q.body Q.quoted token_piece lexeme cut indented begin bracket step layout encode_utf8 code_of E.keyword_begins E.another E.argument E.attribute E.call E.slice_after E.item_or_slice E.trailer E.parenthesised E.list E.pair E.dict E.atom E.primary_parts E.primary E.power E.unary_level E.term E.sum E.compared E.negated_level E.conjunction E.disjunction E.expr_level E.exprs_level E.phrase S.primary_at S.another_simple S.raise S.return S.assertion S.delete S.global S.import S.update_of S.assignment_of S.update_or_assignment S.simple S.simples S.line S.block S.block_after S.arm S.choice S.while S.for S.caught S.handler S.handled S.finished S.try S.parameter S.definition S.define S.compound S.chunk S.program R.piece read_chars chars digits power builtin_names class_names run
along_39 = refl

along_40 : run One (codes "{r: 1}") ranged ≡ ran Raised (fault (codes "TypeError") (codes "unhashable key: 'range'") ∷ []) ((codes "d", range (pos 5) (pos 0) (negsuc 1)) ∷ (codes "e", range (pos 0) (pos 0) (pos 1)) ∷ (codes "r", range (pos 0) (pos 10) (pos 3)) ∷ []) (codes "r" ∷ []) 28
unfolding reserved_marks delimiter operator numeral Q.escape Q.item Q.closes Q.body Q.quoted token_piece lexeme cut indented begin bracket step layout encode_utf8 code_of E.keyword_begins E.another E.argument E.attribute E.call E.slice_after E.item_or_slice E.trailer E.parenthesised E.list E.pair E.dict E.atom E.primary_parts E.primary E.power E.unary_level E.term E.sum E.compared E.negated_level E.conjunction E.disjunction E.expr_level E.exprs_level E.phrase S.primary_at S.another_simple S.raise S.return S.assertion S.delete S.global S.import S.update_of S.assignment_of S.update_or_assignment S.simple S.simples S.line S.block S.block_after S.arm S.choice S.while S.for S.caught S.handler S.handled S.finished S.try S.parameter S.definition S.define S.compound S.chunk S.program R.piece read_chars chars digits power builtin_names class_names run
along_40 = refl

along_41 : run One (codes "{}[r]") ranged ≡ ran_over Raised (fault (codes "TypeError") (codes "unhashable key: 'range'") ∷ []) ((codes "d", range (pos 5) (pos 0) (negsuc 1)) ∷ (codes "e", range (pos 0) (pos 0) (pos 1)) ∷ (codes "r", range (pos 0) (pos 10) (pos 3)) ∷ []) (dict [] ∷ []) (codes "r" ∷ []) 28
unfolding reserved_marks delimiter operator numeral Q.escape Q.item Q.closes Q.body Q.quoted token_piece lexeme cut indented begin bracket step layout encode_utf8 code_of E.keyword_begins E.another E.argument E.attribute E.call E.slice_after E.item_or_slice E.trailer E.parenthesised E.list E.pair E.dict E.atom E.primary_parts E.primary E.power E.unary_level E.term E.sum E.compared E.negated_level E.conjunction E.disjunction E.expr_level E.exprs_level E.phrase S.primary_at S.another_simple S.raise S.return S.assertion S.delete S.global S.import S.update_of S.assignment_of S.update_or_assignment S.simple S.simples S.line S.block S.block_after S.arm S.choice S.while S.for S.caught S.handler S.handled S.finished S.try S.parameter S.definition S.define S.compound S.chunk S.program R.piece read_chars chars digits power builtin_names class_names run
along_41 = refl

along_42 : run One (codes "r in {}") ranged ≡ ran_over Raised (fault (codes "TypeError") (codes "unhashable key: 'range'") ∷ []) ((codes "d", range (pos 5) (pos 0) (negsuc 1)) ∷ (codes "e", range (pos 0) (pos 0) (pos 1)) ∷ (codes "r", range (pos 0) (pos 10) (pos 3)) ∷ []) (dict [] ∷ []) (codes "r" ∷ []) 28
unfolding reserved_marks delimiter operator numeral Q.escape Q.item Q.closes Q.body Q.quoted token_piece lexeme cut indented begin bracket step layout encode_utf8 code_of E.keyword_begins E.another E.argument E.attribute E.call E.slice_after E.item_or_slice E.trailer E.parenthesised E.list E.pair E.dict E.atom E.primary_parts E.primary E.power E.unary_level E.term E.sum E.compared E.negated_level E.conjunction E.disjunction E.expr_level E.exprs_level E.phrase S.primary_at S.another_simple S.raise S.return S.assertion S.delete S.global S.import S.update_of S.assignment_of S.update_or_assignment S.simple S.simples S.line S.block S.block_after S.arm S.choice S.while S.for S.caught S.handler S.handled S.finished S.try S.parameter S.definition S.define S.compound S.chunk S.program R.piece read_chars chars digits power builtin_names class_names run
along_42 = refl

along_43 : run One (codes "r[0:1]") ranged ≡ ran Raised (fault (codes "TypeError") (codes "'range' object is not subscriptable") ∷ []) ((codes "d", range (pos 5) (pos 0) (negsuc 1)) ∷ (codes "e", range (pos 0) (pos 0) (pos 1)) ∷ (codes "r", range (pos 0) (pos 10) (pos 3)) ∷ []) (codes "r" ∷ []) 41
unfolding reserved_marks delimiter operator numeral Q.escape Q.item Q.closes Q.body Q.quoted token_piece lexeme cut indented begin bracket step layout encode_utf8 code_of E.keyword_begins E.another E.argument E.attribute E.call E.slice_after E.item_or_slice E.trailer E.parenthesised E.list E.pair E.dict E.atom E.primary_parts E.primary E.power E.unary_level E.term E.sum E.compared E.negated_level E.conjunction E.disjunction E.expr_level E.exprs_level E.phrase S.primary_at S.another_simple S.raise S.return S.assertion S.delete S.global S.import S.update_of S.assignment_of S.update_or_assignment S.simple S.simples S.line S.block S.block_after S.arm S.choice S.while S.for S.caught S.handler S.handled S.finished S.try S.parameter S.definition S.define S.compound S.chunk S.program R.piece read_chars chars digits power builtin_names class_names run
along_43 = refl
