-- What further cells over nodes give: computed on the definition. Made by tools/cells/cells.py.
use Rattle.std.proofs.Common.{◌≡◌, ◌∷◌, [], refl}
use Rattle.std.specs.Prelude.{pos, true, false, codes}
use Rattle.std.specs.Char.{encode_utf8}
use Rattle.std.specs.Fmt.{digits}
use Rattle.std.specs.Str.{chars}
use Rattle.kishu_language.specs.declared.profile.Profile.TheVariants.{One}
use Rattle.kishu_meaning.specs.declared.result.Outcome.TheVariants.{Done, Raised}
use Rattle.kishu_meaning.specs.values.BuiltinNames.{builtin_names, class_names}
use Rattle.kishu_meaning.specs.values.Numbers.{power}
use Rattle.kishu_language.specs.tokens.Marks.{reserved_marks, delimiter, operator}
use Rattle.kishu_language.specs.tokens.Numerals.{numeral}
use Rattle.kishu_language.specs.tokens.Quoted as Q
use Rattle.kishu_language.specs.tokens.Lexemes.{token_piece, lexeme}
use Rattle.kishu_language.specs.tokens.Layout.{cut, indented, begin, bracket, step, layout}
use Rattle.kishu_language.specs.trees.Code.{code_of}
use Rattle.kishu_language.specs.reading.ReadExpressions as E
use Rattle.kishu_language.specs.reading.ReadStatements as S
use Rattle.kishu_language.specs.reading.ReadText as R
use Rattle.kishu_language.specs.reading.ReadText.{read_chars}
use Rattle.kishu_meaning.specs.values.Keys as p
use Rattle.kishu_meaning.specs.values.Values.{none, bool, integer, text, node, list, tuple, dict, empty, stream, shown, fault}
use Rattle.kishu_meaning.specs.cells.Meaning.{run}
use Rattle.kishu_meaning_rows.proofs.Cells.{ran, ran_over}

over_94 : run One (codes "[1].x = 2") empty ≡ ran_over Raised (fault (codes "AttributeError") (codes "'list' object has no attribute 'x'") ∷ []) [] (list (integer (pos 1) ∷ []) ∷ []) [] 39
unfolding reserved_marks delimiter operator numeral Q.escape Q.item Q.closes Q.body Q.quoted token_piece lexeme cut indented begin bracket step layout encode_utf8 code_of E.keyword_begins E.another E.argument E.attribute E.call E.slice_after E.item_or_slice E.trailer E.parenthesised E.list E.pair E.dict E.atom E.primary_parts E.primary E.power E.unary_level E.term E.sum E.compared E.negated_level E.conjunction E.disjunction E.expr_level E.exprs_level E.phrase S.primary_at S.another_simple S.raise S.return S.assertion S.delete S.global S.import S.update_of S.assignment_of S.update_or_assignment S.simple S.simples S.line S.block S.block_after S.arm S.choice S.while S.for S.caught S.handler S.handled S.finished S.try S.parameter S.definition S.define S.compound S.chunk S.program R.piece read_chars chars digits power builtin_names class_names run
over_94 = refl

over_95 : run One (codes "del [1].x") empty ≡ ran_over Raised (fault (codes "AttributeError") (codes "'list' object has no attribute 'x'") ∷ []) [] (list (integer (pos 1) ∷ []) ∷ []) [] 38
unfolding reserved_marks delimiter operator numeral Q.escape Q.item Q.closes Q.body Q.quoted token_piece lexeme cut indented begin bracket step layout encode_utf8 code_of E.keyword_begins E.another E.argument E.attribute E.call E.slice_after E.item_or_slice E.trailer E.parenthesised E.list E.pair E.dict E.atom E.primary_parts E.primary E.power E.unary_level E.term E.sum E.compared E.negated_level E.conjunction E.disjunction E.expr_level E.exprs_level E.phrase S.primary_at S.another_simple S.raise S.return S.assertion S.delete S.global S.import S.update_of S.assignment_of S.update_or_assignment S.simple S.simples S.line S.block S.block_after S.arm S.choice S.while S.for S.caught S.handler S.handled S.finished S.try S.parameter S.definition S.define S.compound S.chunk S.program R.piece read_chars chars digits power builtin_names class_names run
over_95 = refl

over_96 : run One (codes "None.a.b") empty ≡ ran Raised (fault (codes "AttributeError") (codes "'NoneType' object has no attribute 'a'") ∷ []) [] [] 43
unfolding reserved_marks delimiter operator numeral Q.escape Q.item Q.closes Q.body Q.quoted token_piece lexeme cut indented begin bracket step layout encode_utf8 code_of E.keyword_begins E.another E.argument E.attribute E.call E.slice_after E.item_or_slice E.trailer E.parenthesised E.list E.pair E.dict E.atom E.primary_parts E.primary E.power E.unary_level E.term E.sum E.compared E.negated_level E.conjunction E.disjunction E.expr_level E.exprs_level E.phrase S.primary_at S.another_simple S.raise S.return S.assertion S.delete S.global S.import S.update_of S.assignment_of S.update_or_assignment S.simple S.simples S.line S.block S.block_after S.arm S.choice S.while S.for S.caught S.handler S.handled S.finished S.try S.parameter S.definition S.define S.compound S.chunk S.program R.piece read_chars chars digits power builtin_names class_names run
over_96 = refl

over_97 : run One (codes "a = [1]; a.append(a.append(2)); a") empty ≡ ran_over Done (shown (codes "[1, 2, None]") ∷ []) ((codes "a", node 0) ∷ []) (list (integer (pos 1) ∷ integer (pos 2) ∷ none ∷ []) ∷ []) (codes "a" ∷ []) 25
unfolding reserved_marks delimiter operator numeral Q.escape Q.item Q.closes Q.body Q.quoted token_piece lexeme cut indented begin bracket step layout encode_utf8 code_of E.keyword_begins E.another E.argument E.attribute E.call E.slice_after E.item_or_slice E.trailer E.parenthesised E.list E.pair E.dict E.atom E.primary_parts E.primary E.power E.unary_level E.term E.sum E.compared E.negated_level E.conjunction E.disjunction E.expr_level E.exprs_level E.phrase S.primary_at S.another_simple S.raise S.return S.assertion S.delete S.global S.import S.update_of S.assignment_of S.update_or_assignment S.simple S.simples S.line S.block S.block_after S.arm S.choice S.while S.for S.caught S.handler S.handled S.finished S.try S.parameter S.definition S.define S.compound S.chunk S.program R.piece read_chars chars digits power builtin_names class_names run
over_97 = refl

over_98 : run One (codes "[].foo()") empty ≡ ran_over Raised (fault (codes "AttributeError") (codes "'list' object has no attribute 'foo'") ∷ []) [] (list [] ∷ []) [] 41
unfolding reserved_marks delimiter operator numeral Q.escape Q.item Q.closes Q.body Q.quoted token_piece lexeme cut indented begin bracket step layout encode_utf8 code_of E.keyword_begins E.another E.argument E.attribute E.call E.slice_after E.item_or_slice E.trailer E.parenthesised E.list E.pair E.dict E.atom E.primary_parts E.primary E.power E.unary_level E.term E.sum E.compared E.negated_level E.conjunction E.disjunction E.expr_level E.exprs_level E.phrase S.primary_at S.another_simple S.raise S.return S.assertion S.delete S.global S.import S.update_of S.assignment_of S.update_or_assignment S.simple S.simples S.line S.block S.block_after S.arm S.choice S.while S.for S.caught S.handler S.handled S.finished S.try S.parameter S.definition S.define S.compound S.chunk S.program R.piece read_chars chars digits power builtin_names class_names run
over_98 = refl

over_99 : run One (codes "x = [].append(1)\nx") empty ≡ ran_over Done [] ((codes "x", none) ∷ []) (list (integer (pos 1) ∷ []) ∷ []) (codes "x" ∷ []) 7
unfolding reserved_marks delimiter operator numeral Q.escape Q.item Q.closes Q.body Q.quoted token_piece lexeme cut indented begin bracket step layout encode_utf8 code_of E.keyword_begins E.another E.argument E.attribute E.call E.slice_after E.item_or_slice E.trailer E.parenthesised E.list E.pair E.dict E.atom E.primary_parts E.primary E.power E.unary_level E.term E.sum E.compared E.negated_level E.conjunction E.disjunction E.expr_level E.exprs_level E.phrase S.primary_at S.another_simple S.raise S.return S.assertion S.delete S.global S.import S.update_of S.assignment_of S.update_or_assignment S.simple S.simples S.line S.block S.block_after S.arm S.choice S.while S.for S.caught S.handler S.handled S.finished S.try S.parameter S.definition S.define S.compound S.chunk S.program R.piece read_chars chars digits power builtin_names class_names run
over_99 = refl

over_100 : run One (codes "[].append(1, 2)") empty ≡ ran_over Raised (fault (codes "TypeError") (codes "append() got bad arguments") ∷ []) [] (list [] ∷ []) [] 33
unfolding reserved_marks delimiter operator numeral Q.escape Q.item Q.closes Q.body Q.quoted token_piece lexeme cut indented begin bracket step layout encode_utf8 code_of E.keyword_begins E.another E.argument E.attribute E.call E.slice_after E.item_or_slice E.trailer E.parenthesised E.list E.pair E.dict E.atom E.primary_parts E.primary E.power E.unary_level E.term E.sum E.compared E.negated_level E.conjunction E.disjunction E.expr_level E.exprs_level E.phrase S.primary_at S.another_simple S.raise S.return S.assertion S.delete S.global S.import S.update_of S.assignment_of S.update_or_assignment S.simple S.simples S.line S.block S.block_after S.arm S.choice S.while S.for S.caught S.handler S.handled S.finished S.try S.parameter S.definition S.define S.compound S.chunk S.program R.piece read_chars chars digits power builtin_names class_names run
over_100 = refl

over_101 : run One (codes "[].foo(print(1))") empty ≡ ran_over Raised (fault (codes "AttributeError") (codes "'list' object has no attribute 'foo'") ∷ []) [] (list [] ∷ []) [] 41
unfolding reserved_marks delimiter operator numeral Q.escape Q.item Q.closes Q.body Q.quoted token_piece lexeme cut indented begin bracket step layout encode_utf8 code_of E.keyword_begins E.another E.argument E.attribute E.call E.slice_after E.item_or_slice E.trailer E.parenthesised E.list E.pair E.dict E.atom E.primary_parts E.primary E.power E.unary_level E.term E.sum E.compared E.negated_level E.conjunction E.disjunction E.expr_level E.exprs_level E.phrase S.primary_at S.another_simple S.raise S.return S.assertion S.delete S.global S.import S.update_of S.assignment_of S.update_or_assignment S.simple S.simples S.line S.block S.block_after S.arm S.choice S.while S.for S.caught S.handler S.handled S.finished S.try S.parameter S.definition S.define S.compound S.chunk S.program R.piece read_chars chars digits power builtin_names class_names run
over_101 = refl

over_102 : run One (codes "(1).append(2)") empty ≡ ran Raised (fault (codes "AttributeError") (codes "'int' object has no attribute 'append'") ∷ []) [] [] 43
unfolding reserved_marks delimiter operator numeral Q.escape Q.item Q.closes Q.body Q.quoted token_piece lexeme cut indented begin bracket step layout encode_utf8 code_of E.keyword_begins E.another E.argument E.attribute E.call E.slice_after E.item_or_slice E.trailer E.parenthesised E.list E.pair E.dict E.atom E.primary_parts E.primary E.power E.unary_level E.term E.sum E.compared E.negated_level E.conjunction E.disjunction E.expr_level E.exprs_level E.phrase S.primary_at S.another_simple S.raise S.return S.assertion S.delete S.global S.import S.update_of S.assignment_of S.update_or_assignment S.simple S.simples S.line S.block S.block_after S.arm S.choice S.while S.for S.caught S.handler S.handled S.finished S.try S.parameter S.definition S.define S.compound S.chunk S.program R.piece read_chars chars digits power builtin_names class_names run
over_102 = refl

over_103 : run One (codes "a = [3]; (a.append)(4); a") empty ≡ ran_over Done (shown (codes "[3, 4]") ∷ []) ((codes "a", node 0) ∷ []) (list (integer (pos 3) ∷ integer (pos 4) ∷ []) ∷ []) (codes "a" ∷ []) 16
unfolding reserved_marks delimiter operator numeral Q.escape Q.item Q.closes Q.body Q.quoted token_piece lexeme cut indented begin bracket step layout encode_utf8 code_of E.keyword_begins E.another E.argument E.attribute E.call E.slice_after E.item_or_slice E.trailer E.parenthesised E.list E.pair E.dict E.atom E.primary_parts E.primary E.power E.unary_level E.term E.sum E.compared E.negated_level E.conjunction E.disjunction E.expr_level E.exprs_level E.phrase S.primary_at S.another_simple S.raise S.return S.assertion S.delete S.global S.import S.update_of S.assignment_of S.update_or_assignment S.simple S.simples S.line S.block S.block_after S.arm S.choice S.while S.for S.caught S.handler S.handled S.finished S.try S.parameter S.definition S.define S.compound S.chunk S.program R.piece read_chars chars digits power builtin_names class_names run
over_103 = refl

over_104 : run One (codes "a = [1, 2]; print(a.pop(), a)") empty ≡ ran_over Done (stream (codes "2 [1]\n") ∷ []) ((codes "a", node 0) ∷ []) (list (integer (pos 1) ∷ []) ∷ []) (codes "a" ∷ codes "print" ∷ []) 17
unfolding reserved_marks delimiter operator numeral Q.escape Q.item Q.closes Q.body Q.quoted token_piece lexeme cut indented begin bracket step layout encode_utf8 code_of E.keyword_begins E.another E.argument E.attribute E.call E.slice_after E.item_or_slice E.trailer E.parenthesised E.list E.pair E.dict E.atom E.primary_parts E.primary E.power E.unary_level E.term E.sum E.compared E.negated_level E.conjunction E.disjunction E.expr_level E.exprs_level E.phrase S.primary_at S.another_simple S.raise S.return S.assertion S.delete S.global S.import S.update_of S.assignment_of S.update_or_assignment S.simple S.simples S.line S.block S.block_after S.arm S.choice S.while S.for S.caught S.handler S.handled S.finished S.try S.parameter S.definition S.define S.compound S.chunk S.program R.piece read_chars chars digits power builtin_names class_names run
over_104 = refl

over_105 : run One (codes "[].pop()") empty ≡ ran_over Raised (fault (codes "IndexError") (codes "pop from empty list") ∷ []) [] (list [] ∷ []) [] 24
unfolding reserved_marks delimiter operator numeral Q.escape Q.item Q.closes Q.body Q.quoted token_piece lexeme cut indented begin bracket step layout encode_utf8 code_of E.keyword_begins E.another E.argument E.attribute E.call E.slice_after E.item_or_slice E.trailer E.parenthesised E.list E.pair E.dict E.atom E.primary_parts E.primary E.power E.unary_level E.term E.sum E.compared E.negated_level E.conjunction E.disjunction E.expr_level E.exprs_level E.phrase S.primary_at S.another_simple S.raise S.return S.assertion S.delete S.global S.import S.update_of S.assignment_of S.update_or_assignment S.simple S.simples S.line S.block S.block_after S.arm S.choice S.while S.for S.caught S.handler S.handled S.finished S.try S.parameter S.definition S.define S.compound S.chunk S.program R.piece read_chars chars digits power builtin_names class_names run
over_105 = refl

over_106 : run One (codes "d = {'k': 1}; d.update({'k': 2, 'j': 3}); d") empty ≡ ran_over Done (shown (codes "{'k': 2, 'j': 3}") ∷ []) ((codes "d", node 0) ∷ []) (dict ((p.single (p.text (codes "k")), integer (pos 2)) ∷ (p.single (p.text (codes "j")), integer (pos 3)) ∷ []) ∷ dict ((p.single (p.text (codes "k")), integer (pos 2)) ∷ (p.single (p.text (codes "j")), integer (pos 3)) ∷ []) ∷ []) (codes "d" ∷ []) 33
unfolding reserved_marks delimiter operator numeral Q.escape Q.item Q.closes Q.body Q.quoted token_piece lexeme cut indented begin bracket step layout encode_utf8 code_of E.keyword_begins E.another E.argument E.attribute E.call E.slice_after E.item_or_slice E.trailer E.parenthesised E.list E.pair E.dict E.atom E.primary_parts E.primary E.power E.unary_level E.term E.sum E.compared E.negated_level E.conjunction E.disjunction E.expr_level E.exprs_level E.phrase S.primary_at S.another_simple S.raise S.return S.assertion S.delete S.global S.import S.update_of S.assignment_of S.update_or_assignment S.simple S.simples S.line S.block S.block_after S.arm S.choice S.while S.for S.caught S.handler S.handled S.finished S.try S.parameter S.definition S.define S.compound S.chunk S.program R.piece read_chars chars digits power builtin_names class_names run
over_106 = refl

over_107 : run One (codes "d = {1: 2}; print(d.get(1), d.get(3), d.get(3, 4))") empty ≡ ran_over Done (stream (codes "2 None 4\n") ∷ []) ((codes "d", node 0) ∷ []) (dict ((p.single (p.integer (pos 1)), integer (pos 2)) ∷ []) ∷ []) (codes "d" ∷ codes "print" ∷ []) 29
unfolding reserved_marks delimiter operator numeral Q.escape Q.item Q.closes Q.body Q.quoted token_piece lexeme cut indented begin bracket step layout encode_utf8 code_of E.keyword_begins E.another E.argument E.attribute E.call E.slice_after E.item_or_slice E.trailer E.parenthesised E.list E.pair E.dict E.atom E.primary_parts E.primary E.power E.unary_level E.term E.sum E.compared E.negated_level E.conjunction E.disjunction E.expr_level E.exprs_level E.phrase S.primary_at S.another_simple S.raise S.return S.assertion S.delete S.global S.import S.update_of S.assignment_of S.update_or_assignment S.simple S.simples S.line S.block S.block_after S.arm S.choice S.while S.for S.caught S.handler S.handled S.finished S.try S.parameter S.definition S.define S.compound S.chunk S.program R.piece read_chars chars digits power builtin_names class_names run
over_107 = refl

over_108 : run One (codes "{}.get([])") empty ≡ ran_over Raised (fault (codes "TypeError") (codes "unhashable key: 'list'") ∷ []) [] (dict [] ∷ list [] ∷ []) [] 28
unfolding reserved_marks delimiter operator numeral Q.escape Q.item Q.closes Q.body Q.quoted token_piece lexeme cut indented begin bracket step layout encode_utf8 code_of E.keyword_begins E.another E.argument E.attribute E.call E.slice_after E.item_or_slice E.trailer E.parenthesised E.list E.pair E.dict E.atom E.primary_parts E.primary E.power E.unary_level E.term E.sum E.compared E.negated_level E.conjunction E.disjunction E.expr_level E.exprs_level E.phrase S.primary_at S.another_simple S.raise S.return S.assertion S.delete S.global S.import S.update_of S.assignment_of S.update_or_assignment S.simple S.simples S.line S.block S.block_after S.arm S.choice S.while S.for S.caught S.handler S.handled S.finished S.try S.parameter S.definition S.define S.compound S.chunk S.program R.piece read_chars chars digits power builtin_names class_names run
over_108 = refl

over_109 : run One (codes "[].append(x=1)") empty ≡ ran_over Raised (fault (codes "TypeError") (codes "append() got bad arguments") ∷ []) [] (list [] ∷ []) [] 32
unfolding reserved_marks delimiter operator numeral Q.escape Q.item Q.closes Q.body Q.quoted token_piece lexeme cut indented begin bracket step layout encode_utf8 code_of E.keyword_begins E.another E.argument E.attribute E.call E.slice_after E.item_or_slice E.trailer E.parenthesised E.list E.pair E.dict E.atom E.primary_parts E.primary E.power E.unary_level E.term E.sum E.compared E.negated_level E.conjunction E.disjunction E.expr_level E.exprs_level E.phrase S.primary_at S.another_simple S.raise S.return S.assertion S.delete S.global S.import S.update_of S.assignment_of S.update_or_assignment S.simple S.simples S.line S.block S.block_after S.arm S.choice S.while S.for S.caught S.handler S.handled S.finished S.try S.parameter S.definition S.define S.compound S.chunk S.program R.piece read_chars chars digits power builtin_names class_names run
over_109 = refl

over_110 : run One (codes "1()") empty ≡ ran Raised (fault (codes "TypeError") (codes "'int' object is not callable") ∷ []) [] [] 32
unfolding reserved_marks delimiter operator numeral Q.escape Q.item Q.closes Q.body Q.quoted token_piece lexeme cut indented begin bracket step layout encode_utf8 code_of E.keyword_begins E.another E.argument E.attribute E.call E.slice_after E.item_or_slice E.trailer E.parenthesised E.list E.pair E.dict E.atom E.primary_parts E.primary E.power E.unary_level E.term E.sum E.compared E.negated_level E.conjunction E.disjunction E.expr_level E.exprs_level E.phrase S.primary_at S.another_simple S.raise S.return S.assertion S.delete S.global S.import S.update_of S.assignment_of S.update_or_assignment S.simple S.simples S.line S.block S.block_after S.arm S.choice S.while S.for S.caught S.handler S.handled S.finished S.try S.parameter S.definition S.define S.compound S.chunk S.program R.piece read_chars chars digits power builtin_names class_names run
over_110 = refl

over_111 : run One (codes "[](2)") empty ≡ ran_over Raised (fault (codes "TypeError") (codes "'list' object is not callable") ∷ []) [] (list [] ∷ []) [] 34
unfolding reserved_marks delimiter operator numeral Q.escape Q.item Q.closes Q.body Q.quoted token_piece lexeme cut indented begin bracket step layout encode_utf8 code_of E.keyword_begins E.another E.argument E.attribute E.call E.slice_after E.item_or_slice E.trailer E.parenthesised E.list E.pair E.dict E.atom E.primary_parts E.primary E.power E.unary_level E.term E.sum E.compared E.negated_level E.conjunction E.disjunction E.expr_level E.exprs_level E.phrase S.primary_at S.another_simple S.raise S.return S.assertion S.delete S.global S.import S.update_of S.assignment_of S.update_or_assignment S.simple S.simples S.line S.block S.block_after S.arm S.choice S.while S.for S.caught S.handler S.handled S.finished S.try S.parameter S.definition S.define S.compound S.chunk S.program R.piece read_chars chars digits power builtin_names class_names run
over_111 = refl

over_112 : run One (codes "x = 1\nx(print(2))") empty ≡ ran Raised (stream (codes "2\n") ∷ fault (codes "TypeError") (codes "'int' object is not callable") ∷ []) ((codes "x", integer (pos 1)) ∷ []) (codes "print" ∷ codes "x" ∷ []) 39
unfolding reserved_marks delimiter operator numeral Q.escape Q.item Q.closes Q.body Q.quoted token_piece lexeme cut indented begin bracket step layout encode_utf8 code_of E.keyword_begins E.another E.argument E.attribute E.call E.slice_after E.item_or_slice E.trailer E.parenthesised E.list E.pair E.dict E.atom E.primary_parts E.primary E.power E.unary_level E.term E.sum E.compared E.negated_level E.conjunction E.disjunction E.expr_level E.exprs_level E.phrase S.primary_at S.another_simple S.raise S.return S.assertion S.delete S.global S.import S.update_of S.assignment_of S.update_or_assignment S.simple S.simples S.line S.block S.block_after S.arm S.choice S.while S.for S.caught S.handler S.handled S.finished S.try S.parameter S.definition S.define S.compound S.chunk S.program R.piece read_chars chars digits power builtin_names class_names run
over_112 = refl

over_113 : run One (codes "None(y)") empty ≡ ran Raised (fault (codes "NameError") (codes "name 'y' is not defined") ∷ []) [] (codes "y" ∷ []) 28
unfolding reserved_marks delimiter operator numeral Q.escape Q.item Q.closes Q.body Q.quoted token_piece lexeme cut indented begin bracket step layout encode_utf8 code_of E.keyword_begins E.another E.argument E.attribute E.call E.slice_after E.item_or_slice E.trailer E.parenthesised E.list E.pair E.dict E.atom E.primary_parts E.primary E.power E.unary_level E.term E.sum E.compared E.negated_level E.conjunction E.disjunction E.expr_level E.exprs_level E.phrase S.primary_at S.another_simple S.raise S.return S.assertion S.delete S.global S.import S.update_of S.assignment_of S.update_or_assignment S.simple S.simples S.line S.block S.block_after S.arm S.choice S.while S.for S.caught S.handler S.handled S.finished S.try S.parameter S.definition S.define S.compound S.chunk S.program R.piece read_chars chars digits power builtin_names class_names run
over_113 = refl

over_114 : run One (codes "[1] + [2, 3]") empty ≡ ran_over Done (shown (codes "[1, 2, 3]") ∷ []) [] (list (integer (pos 1) ∷ []) ∷ list (integer (pos 2) ∷ integer (pos 3) ∷ []) ∷ list (integer (pos 1) ∷ integer (pos 2) ∷ integer (pos 3) ∷ []) ∷ []) [] 19
unfolding reserved_marks delimiter operator numeral Q.escape Q.item Q.closes Q.body Q.quoted token_piece lexeme cut indented begin bracket step layout encode_utf8 code_of E.keyword_begins E.another E.argument E.attribute E.call E.slice_after E.item_or_slice E.trailer E.parenthesised E.list E.pair E.dict E.atom E.primary_parts E.primary E.power E.unary_level E.term E.sum E.compared E.negated_level E.conjunction E.disjunction E.expr_level E.exprs_level E.phrase S.primary_at S.another_simple S.raise S.return S.assertion S.delete S.global S.import S.update_of S.assignment_of S.update_or_assignment S.simple S.simples S.line S.block S.block_after S.arm S.choice S.while S.for S.caught S.handler S.handled S.finished S.try S.parameter S.definition S.define S.compound S.chunk S.program R.piece read_chars chars digits power builtin_names class_names run
over_114 = refl

over_115 : run One (codes "(1,) + (2,)") empty ≡ ran_over Done (shown (codes "(1, 2)") ∷ []) [] (tuple (integer (pos 1) ∷ []) ∷ tuple (integer (pos 2) ∷ []) ∷ tuple (integer (pos 1) ∷ integer (pos 2) ∷ []) ∷ []) [] 14
unfolding reserved_marks delimiter operator numeral Q.escape Q.item Q.closes Q.body Q.quoted token_piece lexeme cut indented begin bracket step layout encode_utf8 code_of E.keyword_begins E.another E.argument E.attribute E.call E.slice_after E.item_or_slice E.trailer E.parenthesised E.list E.pair E.dict E.atom E.primary_parts E.primary E.power E.unary_level E.term E.sum E.compared E.negated_level E.conjunction E.disjunction E.expr_level E.exprs_level E.phrase S.primary_at S.another_simple S.raise S.return S.assertion S.delete S.global S.import S.update_of S.assignment_of S.update_or_assignment S.simple S.simples S.line S.block S.block_after S.arm S.choice S.while S.for S.caught S.handler S.handled S.finished S.try S.parameter S.definition S.define S.compound S.chunk S.program R.piece read_chars chars digits power builtin_names class_names run
over_115 = refl

over_116 : run One (codes "a = [1]; b = a + []; b is a") empty ≡ ran_over Done (shown (codes "False") ∷ []) ((codes "a", node 0) ∷ (codes "b", node 2) ∷ []) (list (integer (pos 1) ∷ []) ∷ list [] ∷ list (integer (pos 1) ∷ []) ∷ []) (codes "a" ∷ codes "b" ∷ []) 17
unfolding reserved_marks delimiter operator numeral Q.escape Q.item Q.closes Q.body Q.quoted token_piece lexeme cut indented begin bracket step layout encode_utf8 code_of E.keyword_begins E.another E.argument E.attribute E.call E.slice_after E.item_or_slice E.trailer E.parenthesised E.list E.pair E.dict E.atom E.primary_parts E.primary E.power E.unary_level E.term E.sum E.compared E.negated_level E.conjunction E.disjunction E.expr_level E.exprs_level E.phrase S.primary_at S.another_simple S.raise S.return S.assertion S.delete S.global S.import S.update_of S.assignment_of S.update_or_assignment S.simple S.simples S.line S.block S.block_after S.arm S.choice S.while S.for S.caught S.handler S.handled S.finished S.try S.parameter S.definition S.define S.compound S.chunk S.program R.piece read_chars chars digits power builtin_names class_names run
over_116 = refl

over_117 : run One (codes "[1, 2] * 2") empty ≡ ran_over Done (shown (codes "[1, 2, 1, 2]") ∷ []) [] (list (integer (pos 1) ∷ integer (pos 2) ∷ []) ∷ list (integer (pos 1) ∷ integer (pos 2) ∷ integer (pos 1) ∷ integer (pos 2) ∷ []) ∷ []) [] 22
unfolding reserved_marks delimiter operator numeral Q.escape Q.item Q.closes Q.body Q.quoted token_piece lexeme cut indented begin bracket step layout encode_utf8 code_of E.keyword_begins E.another E.argument E.attribute E.call E.slice_after E.item_or_slice E.trailer E.parenthesised E.list E.pair E.dict E.atom E.primary_parts E.primary E.power E.unary_level E.term E.sum E.compared E.negated_level E.conjunction E.disjunction E.expr_level E.exprs_level E.phrase S.primary_at S.another_simple S.raise S.return S.assertion S.delete S.global S.import S.update_of S.assignment_of S.update_or_assignment S.simple S.simples S.line S.block S.block_after S.arm S.choice S.while S.for S.caught S.handler S.handled S.finished S.try S.parameter S.definition S.define S.compound S.chunk S.program R.piece read_chars chars digits power builtin_names class_names run
over_117 = refl

over_118 : run One (codes "2 * (1, 2)") empty ≡ ran_over Done (shown (codes "(1, 2, 1, 2)") ∷ []) [] (tuple (integer (pos 1) ∷ integer (pos 2) ∷ []) ∷ tuple (integer (pos 1) ∷ integer (pos 2) ∷ integer (pos 1) ∷ integer (pos 2) ∷ []) ∷ []) [] 22
unfolding reserved_marks delimiter operator numeral Q.escape Q.item Q.closes Q.body Q.quoted token_piece lexeme cut indented begin bracket step layout encode_utf8 code_of E.keyword_begins E.another E.argument E.attribute E.call E.slice_after E.item_or_slice E.trailer E.parenthesised E.list E.pair E.dict E.atom E.primary_parts E.primary E.power E.unary_level E.term E.sum E.compared E.negated_level E.conjunction E.disjunction E.expr_level E.exprs_level E.phrase S.primary_at S.another_simple S.raise S.return S.assertion S.delete S.global S.import S.update_of S.assignment_of S.update_or_assignment S.simple S.simples S.line S.block S.block_after S.arm S.choice S.while S.for S.caught S.handler S.handled S.finished S.try S.parameter S.definition S.define S.compound S.chunk S.program R.piece read_chars chars digits power builtin_names class_names run
over_118 = refl

over_119 : run One (codes "[1] * -1, () * 3, [0] * True") empty ≡ ran_over Done (shown (codes "([], (), [0])") ∷ []) [] (list (integer (pos 1) ∷ []) ∷ list [] ∷ tuple [] ∷ tuple [] ∷ list (integer (pos 0) ∷ []) ∷ list (integer (pos 0) ∷ []) ∷ tuple (node 1 ∷ node 3 ∷ node 5 ∷ []) ∷ []) [] 28
unfolding reserved_marks delimiter operator numeral Q.escape Q.item Q.closes Q.body Q.quoted token_piece lexeme cut indented begin bracket step layout encode_utf8 code_of E.keyword_begins E.another E.argument E.attribute E.call E.slice_after E.item_or_slice E.trailer E.parenthesised E.list E.pair E.dict E.atom E.primary_parts E.primary E.power E.unary_level E.term E.sum E.compared E.negated_level E.conjunction E.disjunction E.expr_level E.exprs_level E.phrase S.primary_at S.another_simple S.raise S.return S.assertion S.delete S.global S.import S.update_of S.assignment_of S.update_or_assignment S.simple S.simples S.line S.block S.block_after S.arm S.choice S.while S.for S.caught S.handler S.handled S.finished S.try S.parameter S.definition S.define S.compound S.chunk S.program R.piece read_chars chars digits power builtin_names class_names run
over_119 = refl

over_120 : run One (codes "[1] + (2,)") empty ≡ ran_over Raised (fault (codes "TypeError") (codes "bad operand types for +: 'list' and 'tuple'") ∷ []) [] (list (integer (pos 1) ∷ []) ∷ tuple (integer (pos 2) ∷ []) ∷ []) [] 50
unfolding reserved_marks delimiter operator numeral Q.escape Q.item Q.closes Q.body Q.quoted token_piece lexeme cut indented begin bracket step layout encode_utf8 code_of E.keyword_begins E.another E.argument E.attribute E.call E.slice_after E.item_or_slice E.trailer E.parenthesised E.list E.pair E.dict E.atom E.primary_parts E.primary E.power E.unary_level E.term E.sum E.compared E.negated_level E.conjunction E.disjunction E.expr_level E.exprs_level E.phrase S.primary_at S.another_simple S.raise S.return S.assertion S.delete S.global S.import S.update_of S.assignment_of S.update_or_assignment S.simple S.simples S.line S.block S.block_after S.arm S.choice S.while S.for S.caught S.handler S.handled S.finished S.try S.parameter S.definition S.define S.compound S.chunk S.program R.piece read_chars chars digits power builtin_names class_names run
over_120 = refl

over_121 : run One (codes "[1] + 1") empty ≡ ran_over Raised (fault (codes "TypeError") (codes "bad operand types for +: 'list' and 'int'") ∷ []) [] (list (integer (pos 1) ∷ []) ∷ []) [] 47
unfolding reserved_marks delimiter operator numeral Q.escape Q.item Q.closes Q.body Q.quoted token_piece lexeme cut indented begin bracket step layout encode_utf8 code_of E.keyword_begins E.another E.argument E.attribute E.call E.slice_after E.item_or_slice E.trailer E.parenthesised E.list E.pair E.dict E.atom E.primary_parts E.primary E.power E.unary_level E.term E.sum E.compared E.negated_level E.conjunction E.disjunction E.expr_level E.exprs_level E.phrase S.primary_at S.another_simple S.raise S.return S.assertion S.delete S.global S.import S.update_of S.assignment_of S.update_or_assignment S.simple S.simples S.line S.block S.block_after S.arm S.choice S.while S.for S.caught S.handler S.handled S.finished S.try S.parameter S.definition S.define S.compound S.chunk S.program R.piece read_chars chars digits power builtin_names class_names run
over_121 = refl

over_122 : run One (codes "1 + [1]") empty ≡ ran_over Raised (fault (codes "TypeError") (codes "bad operand types for +: 'int' and 'list'") ∷ []) [] (list (integer (pos 1) ∷ []) ∷ []) [] 47
unfolding reserved_marks delimiter operator numeral Q.escape Q.item Q.closes Q.body Q.quoted token_piece lexeme cut indented begin bracket step layout encode_utf8 code_of E.keyword_begins E.another E.argument E.attribute E.call E.slice_after E.item_or_slice E.trailer E.parenthesised E.list E.pair E.dict E.atom E.primary_parts E.primary E.power E.unary_level E.term E.sum E.compared E.negated_level E.conjunction E.disjunction E.expr_level E.exprs_level E.phrase S.primary_at S.another_simple S.raise S.return S.assertion S.delete S.global S.import S.update_of S.assignment_of S.update_or_assignment S.simple S.simples S.line S.block S.block_after S.arm S.choice S.while S.for S.caught S.handler S.handled S.finished S.try S.parameter S.definition S.define S.compound S.chunk S.program R.piece read_chars chars digits power builtin_names class_names run
over_122 = refl

over_123 : run One (codes "(1,) - (1,)") empty ≡ ran_over Raised (fault (codes "TypeError") (codes "bad operand types for -: 'tuple' and 'tuple'") ∷ []) [] (tuple (integer (pos 1) ∷ []) ∷ tuple (integer (pos 1) ∷ []) ∷ []) [] 51
unfolding reserved_marks delimiter operator numeral Q.escape Q.item Q.closes Q.body Q.quoted token_piece lexeme cut indented begin bracket step layout encode_utf8 code_of E.keyword_begins E.another E.argument E.attribute E.call E.slice_after E.item_or_slice E.trailer E.parenthesised E.list E.pair E.dict E.atom E.primary_parts E.primary E.power E.unary_level E.term E.sum E.compared E.negated_level E.conjunction E.disjunction E.expr_level E.exprs_level E.phrase S.primary_at S.another_simple S.raise S.return S.assertion S.delete S.global S.import S.update_of S.assignment_of S.update_or_assignment S.simple S.simples S.line S.block S.block_after S.arm S.choice S.while S.for S.caught S.handler S.handled S.finished S.try S.parameter S.definition S.define S.compound S.chunk S.program R.piece read_chars chars digits power builtin_names class_names run
over_123 = refl

over_124 : run One (codes "[1] * [1]") empty ≡ ran_over Raised (fault (codes "TypeError") (codes "bad operand types for *: 'list' and 'list'") ∷ []) [] (list (integer (pos 1) ∷ []) ∷ list (integer (pos 1) ∷ []) ∷ []) [] 49
unfolding reserved_marks delimiter operator numeral Q.escape Q.item Q.closes Q.body Q.quoted token_piece lexeme cut indented begin bracket step layout encode_utf8 code_of E.keyword_begins E.another E.argument E.attribute E.call E.slice_after E.item_or_slice E.trailer E.parenthesised E.list E.pair E.dict E.atom E.primary_parts E.primary E.power E.unary_level E.term E.sum E.compared E.negated_level E.conjunction E.disjunction E.expr_level E.exprs_level E.phrase S.primary_at S.another_simple S.raise S.return S.assertion S.delete S.global S.import S.update_of S.assignment_of S.update_or_assignment S.simple S.simples S.line S.block S.block_after S.arm S.choice S.while S.for S.caught S.handler S.handled S.finished S.try S.parameter S.definition S.define S.compound S.chunk S.program R.piece read_chars chars digits power builtin_names class_names run
over_124 = refl

over_125 : run One (codes "{} + {}") empty ≡ ran_over Raised (fault (codes "TypeError") (codes "bad operand types for +: 'dict' and 'dict'") ∷ []) [] (dict [] ∷ dict [] ∷ []) [] 47
unfolding reserved_marks delimiter operator numeral Q.escape Q.item Q.closes Q.body Q.quoted token_piece lexeme cut indented begin bracket step layout encode_utf8 code_of E.keyword_begins E.another E.argument E.attribute E.call E.slice_after E.item_or_slice E.trailer E.parenthesised E.list E.pair E.dict E.atom E.primary_parts E.primary E.power E.unary_level E.term E.sum E.compared E.negated_level E.conjunction E.disjunction E.expr_level E.exprs_level E.phrase S.primary_at S.another_simple S.raise S.return S.assertion S.delete S.global S.import S.update_of S.assignment_of S.update_or_assignment S.simple S.simples S.line S.block S.block_after S.arm S.choice S.while S.for S.caught S.handler S.handled S.finished S.try S.parameter S.definition S.define S.compound S.chunk S.program R.piece read_chars chars digits power builtin_names class_names run
over_125 = refl

over_126 : run One (codes "'a' * []") empty ≡ ran_over Raised (fault (codes "TypeError") (codes "bad operand types for *: 'str' and 'list'") ∷ []) [] (list [] ∷ []) [] 46
unfolding reserved_marks delimiter operator numeral Q.escape Q.item Q.closes Q.body Q.quoted token_piece lexeme cut indented begin bracket step layout encode_utf8 code_of E.keyword_begins E.another E.argument E.attribute E.call E.slice_after E.item_or_slice E.trailer E.parenthesised E.list E.pair E.dict E.atom E.primary_parts E.primary E.power E.unary_level E.term E.sum E.compared E.negated_level E.conjunction E.disjunction E.expr_level E.exprs_level E.phrase S.primary_at S.another_simple S.raise S.return S.assertion S.delete S.global S.import S.update_of S.assignment_of S.update_or_assignment S.simple S.simples S.line S.block S.block_after S.arm S.choice S.while S.for S.caught S.handler S.handled S.finished S.try S.parameter S.definition S.define S.compound S.chunk S.program R.piece read_chars chars digits power builtin_names class_names run
over_126 = refl

over_127 : run One (codes "-[1]") empty ≡ ran_over Raised (fault (codes "TypeError") (codes "bad operand type for -: 'list'") ∷ []) [] (list (integer (pos 1) ∷ []) ∷ []) [] 35
unfolding reserved_marks delimiter operator numeral Q.escape Q.item Q.closes Q.body Q.quoted token_piece lexeme cut indented begin bracket step layout encode_utf8 code_of E.keyword_begins E.another E.argument E.attribute E.call E.slice_after E.item_or_slice E.trailer E.parenthesised E.list E.pair E.dict E.atom E.primary_parts E.primary E.power E.unary_level E.term E.sum E.compared E.negated_level E.conjunction E.disjunction E.expr_level E.exprs_level E.phrase S.primary_at S.another_simple S.raise S.return S.assertion S.delete S.global S.import S.update_of S.assignment_of S.update_or_assignment S.simple S.simples S.line S.block S.block_after S.arm S.choice S.while S.for S.caught S.handler S.handled S.finished S.try S.parameter S.definition S.define S.compound S.chunk S.program R.piece read_chars chars digits power builtin_names class_names run
over_127 = refl

over_128 : run One (codes "not {}") empty ≡ ran_over Done (shown (codes "True") ∷ []) [] (dict [] ∷ []) [] 7
unfolding reserved_marks delimiter operator numeral Q.escape Q.item Q.closes Q.body Q.quoted token_piece lexeme cut indented begin bracket step layout encode_utf8 code_of E.keyword_begins E.another E.argument E.attribute E.call E.slice_after E.item_or_slice E.trailer E.parenthesised E.list E.pair E.dict E.atom E.primary_parts E.primary E.power E.unary_level E.term E.sum E.compared E.negated_level E.conjunction E.disjunction E.expr_level E.exprs_level E.phrase S.primary_at S.another_simple S.raise S.return S.assertion S.delete S.global S.import S.update_of S.assignment_of S.update_or_assignment S.simple S.simples S.line S.block S.block_after S.arm S.choice S.while S.for S.caught S.handler S.handled S.finished S.try S.parameter S.definition S.define S.compound S.chunk S.program R.piece read_chars chars digits power builtin_names class_names run
over_128 = refl

over_129 : run One (codes "a = [[]] * 2; a[0].append(1); a") empty ≡ ran_over Done (shown (codes "[[1], [1]]") ∷ []) ((codes "a", node 2) ∷ []) (list (integer (pos 1) ∷ []) ∷ list (node 0 ∷ []) ∷ list (node 0 ∷ node 0 ∷ []) ∷ []) (codes "a" ∷ []) 26
unfolding reserved_marks delimiter operator numeral Q.escape Q.item Q.closes Q.body Q.quoted token_piece lexeme cut indented begin bracket step layout encode_utf8 code_of E.keyword_begins E.another E.argument E.attribute E.call E.slice_after E.item_or_slice E.trailer E.parenthesised E.list E.pair E.dict E.atom E.primary_parts E.primary E.power E.unary_level E.term E.sum E.compared E.negated_level E.conjunction E.disjunction E.expr_level E.exprs_level E.phrase S.primary_at S.another_simple S.raise S.return S.assertion S.delete S.global S.import S.update_of S.assignment_of S.update_or_assignment S.simple S.simples S.line S.block S.block_after S.arm S.choice S.while S.for S.caught S.handler S.handled S.finished S.try S.parameter S.definition S.define S.compound S.chunk S.program R.piece read_chars chars digits power builtin_names class_names run
over_129 = refl

over_130 : run One (codes "[1, 2] == [1, 2], (1,) == (1,), [1] == (1,), {1: 2} == {True: 2}") empty ≡ ran_over Done (shown (codes "(True, True, False, True)") ∷ []) [] (list (integer (pos 1) ∷ integer (pos 2) ∷ []) ∷ list (integer (pos 1) ∷ integer (pos 2) ∷ []) ∷ tuple (integer (pos 1) ∷ []) ∷ tuple (integer (pos 1) ∷ []) ∷ list (integer (pos 1) ∷ []) ∷ tuple (integer (pos 1) ∷ []) ∷ dict ((p.single (p.integer (pos 1)), integer (pos 2)) ∷ []) ∷ dict ((p.single (p.bool true), integer (pos 2)) ∷ []) ∷ tuple (bool true ∷ bool true ∷ bool false ∷ bool true ∷ []) ∷ []) [] 55
unfolding reserved_marks delimiter operator numeral Q.escape Q.item Q.closes Q.body Q.quoted token_piece lexeme cut indented begin bracket step layout encode_utf8 code_of E.keyword_begins E.another E.argument E.attribute E.call E.slice_after E.item_or_slice E.trailer E.parenthesised E.list E.pair E.dict E.atom E.primary_parts E.primary E.power E.unary_level E.term E.sum E.compared E.negated_level E.conjunction E.disjunction E.expr_level E.exprs_level E.phrase S.primary_at S.another_simple S.raise S.return S.assertion S.delete S.global S.import S.update_of S.assignment_of S.update_or_assignment S.simple S.simples S.line S.block S.block_after S.arm S.choice S.while S.for S.caught S.handler S.handled S.finished S.try S.parameter S.definition S.define S.compound S.chunk S.program R.piece read_chars chars digits power builtin_names class_names run
over_130 = refl

over_131 : run One (codes "print((1, 2) < (1, 3), [1] == [True], {1: 2} == {True: 2})") empty ≡ ran_over Done (stream (codes "True True True\n") ∷ []) [] (tuple (integer (pos 1) ∷ integer (pos 2) ∷ []) ∷ tuple (integer (pos 1) ∷ integer (pos 3) ∷ []) ∷ list (integer (pos 1) ∷ []) ∷ list (bool true ∷ []) ∷ dict ((p.single (p.integer (pos 1)), integer (pos 2)) ∷ []) ∷ dict ((p.single (p.bool true), integer (pos 2)) ∷ []) ∷ []) (codes "print" ∷ []) 41
unfolding reserved_marks delimiter operator numeral Q.escape Q.item Q.closes Q.body Q.quoted token_piece lexeme cut indented begin bracket step layout encode_utf8 code_of E.keyword_begins E.another E.argument E.attribute E.call E.slice_after E.item_or_slice E.trailer E.parenthesised E.list E.pair E.dict E.atom E.primary_parts E.primary E.power E.unary_level E.term E.sum E.compared E.negated_level E.conjunction E.disjunction E.expr_level E.exprs_level E.phrase S.primary_at S.another_simple S.raise S.return S.assertion S.delete S.global S.import S.update_of S.assignment_of S.update_or_assignment S.simple S.simples S.line S.block S.block_after S.arm S.choice S.while S.for S.caught S.handler S.handled S.finished S.try S.parameter S.definition S.define S.compound S.chunk S.program R.piece read_chars chars digits power builtin_names class_names run
over_131 = refl

over_132 : run One (codes "[1, 'a'] < [1, 'b'], [] < [0], [1] <= [1], (2,) > (1, 5)") empty ≡ ran_over Done (shown (codes "(True, True, True, True)") ∷ []) [] (list (integer (pos 1) ∷ text (codes "a") ∷ []) ∷ list (integer (pos 1) ∷ text (codes "b") ∷ []) ∷ list [] ∷ list (integer (pos 0) ∷ []) ∷ list (integer (pos 1) ∷ []) ∷ list (integer (pos 1) ∷ []) ∷ tuple (integer (pos 2) ∷ []) ∷ tuple (integer (pos 1) ∷ integer (pos 5) ∷ []) ∷ tuple (bool true ∷ bool true ∷ bool true ∷ bool true ∷ []) ∷ []) [] 54
unfolding reserved_marks delimiter operator numeral Q.escape Q.item Q.closes Q.body Q.quoted token_piece lexeme cut indented begin bracket step layout encode_utf8 code_of E.keyword_begins E.another E.argument E.attribute E.call E.slice_after E.item_or_slice E.trailer E.parenthesised E.list E.pair E.dict E.atom E.primary_parts E.primary E.power E.unary_level E.term E.sum E.compared E.negated_level E.conjunction E.disjunction E.expr_level E.exprs_level E.phrase S.primary_at S.another_simple S.raise S.return S.assertion S.delete S.global S.import S.update_of S.assignment_of S.update_or_assignment S.simple S.simples S.line S.block S.block_after S.arm S.choice S.while S.for S.caught S.handler S.handled S.finished S.try S.parameter S.definition S.define S.compound S.chunk S.program R.piece read_chars chars digits power builtin_names class_names run
over_132 = refl

over_133 : run One (codes "[1] < ['a']") empty ≡ ran_over Raised (fault (codes "TypeError") (codes "bad operand types for <: 'list' and 'list'") ∷ []) [] (list (integer (pos 1) ∷ []) ∷ list (text (codes "a") ∷ []) ∷ []) [] 50
unfolding reserved_marks delimiter operator numeral Q.escape Q.item Q.closes Q.body Q.quoted token_piece lexeme cut indented begin bracket step layout encode_utf8 code_of E.keyword_begins E.another E.argument E.attribute E.call E.slice_after E.item_or_slice E.trailer E.parenthesised E.list E.pair E.dict E.atom E.primary_parts E.primary E.power E.unary_level E.term E.sum E.compared E.negated_level E.conjunction E.disjunction E.expr_level E.exprs_level E.phrase S.primary_at S.another_simple S.raise S.return S.assertion S.delete S.global S.import S.update_of S.assignment_of S.update_or_assignment S.simple S.simples S.line S.block S.block_after S.arm S.choice S.while S.for S.caught S.handler S.handled S.finished S.try S.parameter S.definition S.define S.compound S.chunk S.program R.piece read_chars chars digits power builtin_names class_names run
over_133 = refl

over_134 : run One (codes "[1] < (1,)") empty ≡ ran_over Raised (fault (codes "TypeError") (codes "bad operand types for <: 'list' and 'tuple'") ∷ []) [] (list (integer (pos 1) ∷ []) ∷ tuple (integer (pos 1) ∷ []) ∷ []) [] 50
unfolding reserved_marks delimiter operator numeral Q.escape Q.item Q.closes Q.body Q.quoted token_piece lexeme cut indented begin bracket step layout encode_utf8 code_of E.keyword_begins E.another E.argument E.attribute E.call E.slice_after E.item_or_slice E.trailer E.parenthesised E.list E.pair E.dict E.atom E.primary_parts E.primary E.power E.unary_level E.term E.sum E.compared E.negated_level E.conjunction E.disjunction E.expr_level E.exprs_level E.phrase S.primary_at S.another_simple S.raise S.return S.assertion S.delete S.global S.import S.update_of S.assignment_of S.update_or_assignment S.simple S.simples S.line S.block S.block_after S.arm S.choice S.while S.for S.caught S.handler S.handled S.finished S.try S.parameter S.definition S.define S.compound S.chunk S.program R.piece read_chars chars digits power builtin_names class_names run
over_134 = refl

over_135 : run One (codes "{} < {}") empty ≡ ran_over Raised (fault (codes "TypeError") (codes "bad operand types for <: 'dict' and 'dict'") ∷ []) [] (dict [] ∷ dict [] ∷ []) [] 47
unfolding reserved_marks delimiter operator numeral Q.escape Q.item Q.closes Q.body Q.quoted token_piece lexeme cut indented begin bracket step layout encode_utf8 code_of E.keyword_begins E.another E.argument E.attribute E.call E.slice_after E.item_or_slice E.trailer E.parenthesised E.list E.pair E.dict E.atom E.primary_parts E.primary E.power E.unary_level E.term E.sum E.compared E.negated_level E.conjunction E.disjunction E.expr_level E.exprs_level E.phrase S.primary_at S.another_simple S.raise S.return S.assertion S.delete S.global S.import S.update_of S.assignment_of S.update_or_assignment S.simple S.simples S.line S.block S.block_after S.arm S.choice S.while S.for S.caught S.handler S.handled S.finished S.try S.parameter S.definition S.define S.compound S.chunk S.program R.piece read_chars chars digits power builtin_names class_names run
over_135 = refl

over_136 : run One (codes "[1, []] >= [1, {}]") empty ≡ ran_over Raised (fault (codes "TypeError") (codes "bad operand types for >=: 'list' and 'list'") ∷ []) [] (list [] ∷ list (integer (pos 1) ∷ node 0 ∷ []) ∷ dict [] ∷ list (integer (pos 1) ∷ node 2 ∷ []) ∷ []) [] 54
unfolding reserved_marks delimiter operator numeral Q.escape Q.item Q.closes Q.body Q.quoted token_piece lexeme cut indented begin bracket step layout encode_utf8 code_of E.keyword_begins E.another E.argument E.attribute E.call E.slice_after E.item_or_slice E.trailer E.parenthesised E.list E.pair E.dict E.atom E.primary_parts E.primary E.power E.unary_level E.term E.sum E.compared E.negated_level E.conjunction E.disjunction E.expr_level E.exprs_level E.phrase S.primary_at S.another_simple S.raise S.return S.assertion S.delete S.global S.import S.update_of S.assignment_of S.update_or_assignment S.simple S.simples S.line S.block S.block_after S.arm S.choice S.while S.for S.caught S.handler S.handled S.finished S.try S.parameter S.definition S.define S.compound S.chunk S.program R.piece read_chars chars digits power builtin_names class_names run
over_136 = refl

over_137 : run One (codes "[{1: 1, 2: 2}] > [{2: 3, 1: 1}]") empty ≡ ran_over Raised (fault (codes "TypeError") (codes "bad operand types for >: 'list' and 'list'") ∷ []) [] (dict ((p.single (p.integer (pos 1)), integer (pos 1)) ∷ (p.single (p.integer (pos 2)), integer (pos 2)) ∷ []) ∷ list (node 0 ∷ []) ∷ dict ((p.single (p.integer (pos 2)), integer (pos 3)) ∷ (p.single (p.integer (pos 1)), integer (pos 1)) ∷ []) ∷ list (node 2 ∷ []) ∷ []) [] 60
unfolding reserved_marks delimiter operator numeral Q.escape Q.item Q.closes Q.body Q.quoted token_piece lexeme cut indented begin bracket step layout encode_utf8 code_of E.keyword_begins E.another E.argument E.attribute E.call E.slice_after E.item_or_slice E.trailer E.parenthesised E.list E.pair E.dict E.atom E.primary_parts E.primary E.power E.unary_level E.term E.sum E.compared E.negated_level E.conjunction E.disjunction E.expr_level E.exprs_level E.phrase S.primary_at S.another_simple S.raise S.return S.assertion S.delete S.global S.import S.update_of S.assignment_of S.update_or_assignment S.simple S.simples S.line S.block S.block_after S.arm S.choice S.while S.for S.caught S.handler S.handled S.finished S.try S.parameter S.definition S.define S.compound S.chunk S.program R.piece read_chars chars digits power builtin_names class_names run
over_137 = refl

over_138 : run One (codes "[{1: 1, 2: 2}] <= [{2: 3, 1: 1}]") empty ≡ ran_over Raised (fault (codes "TypeError") (codes "bad operand types for <=: 'list' and 'list'") ∷ []) [] (dict ((p.single (p.integer (pos 1)), integer (pos 1)) ∷ (p.single (p.integer (pos 2)), integer (pos 2)) ∷ []) ∷ list (node 0 ∷ []) ∷ dict ((p.single (p.integer (pos 2)), integer (pos 3)) ∷ (p.single (p.integer (pos 1)), integer (pos 1)) ∷ []) ∷ list (node 2 ∷ []) ∷ []) [] 61
unfolding reserved_marks delimiter operator numeral Q.escape Q.item Q.closes Q.body Q.quoted token_piece lexeme cut indented begin bracket step layout encode_utf8 code_of E.keyword_begins E.another E.argument E.attribute E.call E.slice_after E.item_or_slice E.trailer E.parenthesised E.list E.pair E.dict E.atom E.primary_parts E.primary E.power E.unary_level E.term E.sum E.compared E.negated_level E.conjunction E.disjunction E.expr_level E.exprs_level E.phrase S.primary_at S.another_simple S.raise S.return S.assertion S.delete S.global S.import S.update_of S.assignment_of S.update_or_assignment S.simple S.simples S.line S.block S.block_after S.arm S.choice S.while S.for S.caught S.handler S.handled S.finished S.try S.parameter S.definition S.define S.compound S.chunk S.program R.piece read_chars chars digits power builtin_names class_names run
over_138 = refl

over_139 : run One (codes "max([{1: 1, 2: 2}], [{2: 3, 1: 1}])") empty ≡ ran_over Raised (fault (codes "TypeError") (codes "bad operand types for >: 'list' and 'list'") ∷ []) [] (dict ((p.single (p.integer (pos 1)), integer (pos 1)) ∷ (p.single (p.integer (pos 2)), integer (pos 2)) ∷ []) ∷ list (node 0 ∷ []) ∷ dict ((p.single (p.integer (pos 2)), integer (pos 3)) ∷ (p.single (p.integer (pos 1)), integer (pos 1)) ∷ []) ∷ list (node 2 ∷ []) ∷ []) (codes "max" ∷ []) 62
unfolding reserved_marks delimiter operator numeral Q.escape Q.item Q.closes Q.body Q.quoted token_piece lexeme cut indented begin bracket step layout encode_utf8 code_of E.keyword_begins E.another E.argument E.attribute E.call E.slice_after E.item_or_slice E.trailer E.parenthesised E.list E.pair E.dict E.atom E.primary_parts E.primary E.power E.unary_level E.term E.sum E.compared E.negated_level E.conjunction E.disjunction E.expr_level E.exprs_level E.phrase S.primary_at S.another_simple S.raise S.return S.assertion S.delete S.global S.import S.update_of S.assignment_of S.update_or_assignment S.simple S.simples S.line S.block S.block_after S.arm S.choice S.while S.for S.caught S.handler S.handled S.finished S.try S.parameter S.definition S.define S.compound S.chunk S.program R.piece read_chars chars digits power builtin_names class_names run
over_139 = refl

over_140 : run One (codes "[] != [], [[]] != [[], 1]") empty ≡ ran_over Done (shown (codes "(False, True)") ∷ []) [] (list [] ∷ list [] ∷ list [] ∷ list (node 2 ∷ []) ∷ list [] ∷ list (node 4 ∷ integer (pos 1) ∷ []) ∷ tuple (bool false ∷ bool true ∷ []) ∷ []) [] 24
unfolding reserved_marks delimiter operator numeral Q.escape Q.item Q.closes Q.body Q.quoted token_piece lexeme cut indented begin bracket step layout encode_utf8 code_of E.keyword_begins E.another E.argument E.attribute E.call E.slice_after E.item_or_slice E.trailer E.parenthesised E.list E.pair E.dict E.atom E.primary_parts E.primary E.power E.unary_level E.term E.sum E.compared E.negated_level E.conjunction E.disjunction E.expr_level E.exprs_level E.phrase S.primary_at S.another_simple S.raise S.return S.assertion S.delete S.global S.import S.update_of S.assignment_of S.update_or_assignment S.simple S.simples S.line S.block S.block_after S.arm S.choice S.while S.for S.caught S.handler S.handled S.finished S.try S.parameter S.definition S.define S.compound S.chunk S.program R.piece read_chars chars digits power builtin_names class_names run
over_140 = refl

over_141 : run One (codes "{1: [2], 3: 4} == {3: 4, 1: [2]}") empty ≡ ran_over Done (shown (codes "True") ∷ []) [] (list (integer (pos 2) ∷ []) ∷ dict ((p.single (p.integer (pos 1)), node 0) ∷ (p.single (p.integer (pos 3)), integer (pos 4)) ∷ []) ∷ list (integer (pos 2) ∷ []) ∷ dict ((p.single (p.integer (pos 3)), integer (pos 4)) ∷ (p.single (p.integer (pos 1)), node 2) ∷ []) ∷ []) [] 21
unfolding reserved_marks delimiter operator numeral Q.escape Q.item Q.closes Q.body Q.quoted token_piece lexeme cut indented begin bracket step layout encode_utf8 code_of E.keyword_begins E.another E.argument E.attribute E.call E.slice_after E.item_or_slice E.trailer E.parenthesised E.list E.pair E.dict E.atom E.primary_parts E.primary E.power E.unary_level E.term E.sum E.compared E.negated_level E.conjunction E.disjunction E.expr_level E.exprs_level E.phrase S.primary_at S.another_simple S.raise S.return S.assertion S.delete S.global S.import S.update_of S.assignment_of S.update_or_assignment S.simple S.simples S.line S.block S.block_after S.arm S.choice S.while S.for S.caught S.handler S.handled S.finished S.try S.parameter S.definition S.define S.compound S.chunk S.program R.piece read_chars chars digits power builtin_names class_names run
over_141 = refl

over_142 : run One (codes "1 in [1, 2], 'a' in ('b',), [1] in [[1]], 3 not in [1, 2]") empty ≡ ran_over Done (shown (codes "(True, False, True, True)") ∷ []) [] (list (integer (pos 1) ∷ integer (pos 2) ∷ []) ∷ tuple (text (codes "b") ∷ []) ∷ list (integer (pos 1) ∷ []) ∷ list (integer (pos 1) ∷ []) ∷ list (node 3 ∷ []) ∷ list (integer (pos 1) ∷ integer (pos 2) ∷ []) ∷ tuple (bool true ∷ bool false ∷ bool true ∷ bool true ∷ []) ∷ []) [] 54
unfolding reserved_marks delimiter operator numeral Q.escape Q.item Q.closes Q.body Q.quoted token_piece lexeme cut indented begin bracket step layout encode_utf8 code_of E.keyword_begins E.another E.argument E.attribute E.call E.slice_after E.item_or_slice E.trailer E.parenthesised E.list E.pair E.dict E.atom E.primary_parts E.primary E.power E.unary_level E.term E.sum E.compared E.negated_level E.conjunction E.disjunction E.expr_level E.exprs_level E.phrase S.primary_at S.another_simple S.raise S.return S.assertion S.delete S.global S.import S.update_of S.assignment_of S.update_or_assignment S.simple S.simples S.line S.block S.block_after S.arm S.choice S.while S.for S.caught S.handler S.handled S.finished S.try S.parameter S.definition S.define S.compound S.chunk S.program R.piece read_chars chars digits power builtin_names class_names run
over_142 = refl

over_143 : run One (codes "1 in {True: 0}, 'k' in {}, (1,) in {(1,): 2}") empty ≡ ran_over Done (shown (codes "(True, False, True)") ∷ []) [] (dict ((p.single (p.bool true), integer (pos 0)) ∷ []) ∷ dict [] ∷ tuple (integer (pos 1) ∷ []) ∷ tuple (integer (pos 1) ∷ []) ∷ dict ((p.tuple (p.integer (pos 1) ∷ []), integer (pos 2)) ∷ []) ∷ tuple (bool true ∷ bool false ∷ bool true ∷ []) ∷ []) [] 38
unfolding reserved_marks delimiter operator numeral Q.escape Q.item Q.closes Q.body Q.quoted token_piece lexeme cut indented begin bracket step layout encode_utf8 code_of E.keyword_begins E.another E.argument E.attribute E.call E.slice_after E.item_or_slice E.trailer E.parenthesised E.list E.pair E.dict E.atom E.primary_parts E.primary E.power E.unary_level E.term E.sum E.compared E.negated_level E.conjunction E.disjunction E.expr_level E.exprs_level E.phrase S.primary_at S.another_simple S.raise S.return S.assertion S.delete S.global S.import S.update_of S.assignment_of S.update_or_assignment S.simple S.simples S.line S.block S.block_after S.arm S.choice S.while S.for S.caught S.handler S.handled S.finished S.try S.parameter S.definition S.define S.compound S.chunk S.program R.piece read_chars chars digits power builtin_names class_names run
over_143 = refl

over_144 : run One (codes "[] in {}") empty ≡ ran_over Raised (fault (codes "TypeError") (codes "unhashable key: 'list'") ∷ []) [] (list [] ∷ dict [] ∷ []) [] 27
unfolding reserved_marks delimiter operator numeral Q.escape Q.item Q.closes Q.body Q.quoted token_piece lexeme cut indented begin bracket step layout encode_utf8 code_of E.keyword_begins E.another E.argument E.attribute E.call E.slice_after E.item_or_slice E.trailer E.parenthesised E.list E.pair E.dict E.atom E.primary_parts E.primary E.power E.unary_level E.term E.sum E.compared E.negated_level E.conjunction E.disjunction E.expr_level E.exprs_level E.phrase S.primary_at S.another_simple S.raise S.return S.assertion S.delete S.global S.import S.update_of S.assignment_of S.update_or_assignment S.simple S.simples S.line S.block S.block_after S.arm S.choice S.while S.for S.caught S.handler S.handled S.finished S.try S.parameter S.definition S.define S.compound S.chunk S.program R.piece read_chars chars digits power builtin_names class_names run
over_144 = refl

over_145 : run One (codes "1 in 1") empty ≡ ran Raised (fault (codes "TypeError") (codes "'int' object is not iterable") ∷ []) [] [] 33
unfolding reserved_marks delimiter operator numeral Q.escape Q.item Q.closes Q.body Q.quoted token_piece lexeme cut indented begin bracket step layout encode_utf8 code_of E.keyword_begins E.another E.argument E.attribute E.call E.slice_after E.item_or_slice E.trailer E.parenthesised E.list E.pair E.dict E.atom E.primary_parts E.primary E.power E.unary_level E.term E.sum E.compared E.negated_level E.conjunction E.disjunction E.expr_level E.exprs_level E.phrase S.primary_at S.another_simple S.raise S.return S.assertion S.delete S.global S.import S.update_of S.assignment_of S.update_or_assignment S.simple S.simples S.line S.block S.block_after S.arm S.choice S.while S.for S.caught S.handler S.handled S.finished S.try S.parameter S.definition S.define S.compound S.chunk S.program R.piece read_chars chars digits power builtin_names class_names run
over_145 = refl

over_146 : run One (codes "1 in None") empty ≡ ran Raised (fault (codes "TypeError") (codes "'NoneType' object is not iterable") ∷ []) [] [] 38
unfolding reserved_marks delimiter operator numeral Q.escape Q.item Q.closes Q.body Q.quoted token_piece lexeme cut indented begin bracket step layout encode_utf8 code_of E.keyword_begins E.another E.argument E.attribute E.call E.slice_after E.item_or_slice E.trailer E.parenthesised E.list E.pair E.dict E.atom E.primary_parts E.primary E.power E.unary_level E.term E.sum E.compared E.negated_level E.conjunction E.disjunction E.expr_level E.exprs_level E.phrase S.primary_at S.another_simple S.raise S.return S.assertion S.delete S.global S.import S.update_of S.assignment_of S.update_or_assignment S.simple S.simples S.line S.block S.block_after S.arm S.choice S.while S.for S.caught S.handler S.handled S.finished S.try S.parameter S.definition S.define S.compound S.chunk S.program R.piece read_chars chars digits power builtin_names class_names run
over_146 = refl

over_147 : run One (codes "1 in [2, 1, x]") empty ≡ ran Raised (fault (codes "NameError") (codes "name 'x' is not defined") ∷ []) [] (codes "x" ∷ []) 30
unfolding reserved_marks delimiter operator numeral Q.escape Q.item Q.closes Q.body Q.quoted token_piece lexeme cut indented begin bracket step layout encode_utf8 code_of E.keyword_begins E.another E.argument E.attribute E.call E.slice_after E.item_or_slice E.trailer E.parenthesised E.list E.pair E.dict E.atom E.primary_parts E.primary E.power E.unary_level E.term E.sum E.compared E.negated_level E.conjunction E.disjunction E.expr_level E.exprs_level E.phrase S.primary_at S.another_simple S.raise S.return S.assertion S.delete S.global S.import S.update_of S.assignment_of S.update_or_assignment S.simple S.simples S.line S.block S.block_after S.arm S.choice S.while S.for S.caught S.handler S.handled S.finished S.try S.parameter S.definition S.define S.compound S.chunk S.program R.piece read_chars chars digits power builtin_names class_names run
over_147 = refl

over_148 : run One (codes "1 in [x]") empty ≡ ran Raised (fault (codes "NameError") (codes "name 'x' is not defined") ∷ []) [] (codes "x" ∷ []) 28
unfolding reserved_marks delimiter operator numeral Q.escape Q.item Q.closes Q.body Q.quoted token_piece lexeme cut indented begin bracket step layout encode_utf8 code_of E.keyword_begins E.another E.argument E.attribute E.call E.slice_after E.item_or_slice E.trailer E.parenthesised E.list E.pair E.dict E.atom E.primary_parts E.primary E.power E.unary_level E.term E.sum E.compared E.negated_level E.conjunction E.disjunction E.expr_level E.exprs_level E.phrase S.primary_at S.another_simple S.raise S.return S.assertion S.delete S.global S.import S.update_of S.assignment_of S.update_or_assignment S.simple S.simples S.line S.block S.block_after S.arm S.choice S.while S.for S.caught S.handler S.handled S.finished S.try S.parameter S.definition S.define S.compound S.chunk S.program R.piece read_chars chars digits power builtin_names class_names run
over_148 = refl

over_149 : run One (codes "a = []; a in [[], a]") empty ≡ ran_over Done (shown (codes "True") ∷ []) ((codes "a", node 0) ∷ []) (list [] ∷ list [] ∷ list (node 1 ∷ node 0 ∷ []) ∷ []) (codes "a" ∷ []) 13
unfolding reserved_marks delimiter operator numeral Q.escape Q.item Q.closes Q.body Q.quoted token_piece lexeme cut indented begin bracket step layout encode_utf8 code_of E.keyword_begins E.another E.argument E.attribute E.call E.slice_after E.item_or_slice E.trailer E.parenthesised E.list E.pair E.dict E.atom E.primary_parts E.primary E.power E.unary_level E.term E.sum E.compared E.negated_level E.conjunction E.disjunction E.expr_level E.exprs_level E.phrase S.primary_at S.another_simple S.raise S.return S.assertion S.delete S.global S.import S.update_of S.assignment_of S.update_or_assignment S.simple S.simples S.line S.block S.block_after S.arm S.choice S.while S.for S.caught S.handler S.handled S.finished S.try S.parameter S.definition S.define S.compound S.chunk S.program R.piece read_chars chars digits power builtin_names class_names run
over_149 = refl

over_150 : run One (codes "1 < 2 in [2, True]") empty ≡ ran_over Done (shown (codes "True") ∷ []) [] (list (integer (pos 2) ∷ bool true ∷ []) ∷ []) [] 13
unfolding reserved_marks delimiter operator numeral Q.escape Q.item Q.closes Q.body Q.quoted token_piece lexeme cut indented begin bracket step layout encode_utf8 code_of E.keyword_begins E.another E.argument E.attribute E.call E.slice_after E.item_or_slice E.trailer E.parenthesised E.list E.pair E.dict E.atom E.primary_parts E.primary E.power E.unary_level E.term E.sum E.compared E.negated_level E.conjunction E.disjunction E.expr_level E.exprs_level E.phrase S.primary_at S.another_simple S.raise S.return S.assertion S.delete S.global S.import S.update_of S.assignment_of S.update_or_assignment S.simple S.simples S.line S.block S.block_after S.arm S.choice S.while S.for S.caught S.handler S.handled S.finished S.try S.parameter S.definition S.define S.compound S.chunk S.program R.piece read_chars chars digits power builtin_names class_names run
over_150 = refl

over_151 : run One (codes "a, b = 1, 2\nb, a = a, b\n(a, b)") empty ≡ ran_over Done (shown (codes "(2, 1)") ∷ []) ((codes "a", integer (pos 2)) ∷ (codes "b", integer (pos 1)) ∷ []) (tuple (integer (pos 1) ∷ integer (pos 2) ∷ []) ∷ tuple (integer (pos 1) ∷ integer (pos 2) ∷ []) ∷ tuple (integer (pos 2) ∷ integer (pos 1) ∷ []) ∷ []) (codes "a" ∷ codes "b" ∷ []) 22
unfolding reserved_marks delimiter operator numeral Q.escape Q.item Q.closes Q.body Q.quoted token_piece lexeme cut indented begin bracket step layout encode_utf8 code_of E.keyword_begins E.another E.argument E.attribute E.call E.slice_after E.item_or_slice E.trailer E.parenthesised E.list E.pair E.dict E.atom E.primary_parts E.primary E.power E.unary_level E.term E.sum E.compared E.negated_level E.conjunction E.disjunction E.expr_level E.exprs_level E.phrase S.primary_at S.another_simple S.raise S.return S.assertion S.delete S.global S.import S.update_of S.assignment_of S.update_or_assignment S.simple S.simples S.line S.block S.block_after S.arm S.choice S.while S.for S.caught S.handler S.handled S.finished S.try S.parameter S.definition S.define S.compound S.chunk S.program R.piece read_chars chars digits power builtin_names class_names run
over_151 = refl

over_152 : run One (codes "[a, (b, c)] = 1, [2, 3]\na, b, c") empty ≡ ran_over Done (shown (codes "(1, 2, 3)") ∷ []) ((codes "a", integer (pos 1)) ∷ (codes "b", integer (pos 2)) ∷ (codes "c", integer (pos 3)) ∷ []) (list (integer (pos 2) ∷ integer (pos 3) ∷ []) ∷ tuple (integer (pos 1) ∷ node 0 ∷ []) ∷ tuple (integer (pos 1) ∷ integer (pos 2) ∷ integer (pos 3) ∷ []) ∷ []) (codes "a" ∷ codes "b" ∷ codes "c" ∷ []) 24
unfolding reserved_marks delimiter operator numeral Q.escape Q.item Q.closes Q.body Q.quoted token_piece lexeme cut indented begin bracket step layout encode_utf8 code_of E.keyword_begins E.another E.argument E.attribute E.call E.slice_after E.item_or_slice E.trailer E.parenthesised E.list E.pair E.dict E.atom E.primary_parts E.primary E.power E.unary_level E.term E.sum E.compared E.negated_level E.conjunction E.disjunction E.expr_level E.exprs_level E.phrase S.primary_at S.another_simple S.raise S.return S.assertion S.delete S.global S.import S.update_of S.assignment_of S.update_or_assignment S.simple S.simples S.line S.block S.block_after S.arm S.choice S.while S.for S.caught S.handler S.handled S.finished S.try S.parameter S.definition S.define S.compound S.chunk S.program R.piece read_chars chars digits power builtin_names class_names run
over_152 = refl

over_153 : run One (codes "a, b = 'xy'; a, b") empty ≡ ran_over Done (shown (codes "('x', 'y')") ∷ []) ((codes "a", text (codes "x")) ∷ (codes "b", text (codes "y")) ∷ []) (tuple (text (codes "x") ∷ text (codes "y") ∷ []) ∷ []) (codes "a" ∷ codes "b" ∷ []) 18
unfolding reserved_marks delimiter operator numeral Q.escape Q.item Q.closes Q.body Q.quoted token_piece lexeme cut indented begin bracket step layout encode_utf8 code_of E.keyword_begins E.another E.argument E.attribute E.call E.slice_after E.item_or_slice E.trailer E.parenthesised E.list E.pair E.dict E.atom E.primary_parts E.primary E.power E.unary_level E.term E.sum E.compared E.negated_level E.conjunction E.disjunction E.expr_level E.exprs_level E.phrase S.primary_at S.another_simple S.raise S.return S.assertion S.delete S.global S.import S.update_of S.assignment_of S.update_or_assignment S.simple S.simples S.line S.block S.block_after S.arm S.choice S.while S.for S.caught S.handler S.handled S.finished S.try S.parameter S.definition S.define S.compound S.chunk S.program R.piece read_chars chars digits power builtin_names class_names run
over_153 = refl

over_154 : run One (codes "(a), = [1]; a") empty ≡ ran_over Done (shown (codes "1") ∷ []) ((codes "a", integer (pos 1)) ∷ []) (list (integer (pos 1) ∷ []) ∷ []) (codes "a" ∷ []) 7
unfolding reserved_marks delimiter operator numeral Q.escape Q.item Q.closes Q.body Q.quoted token_piece lexeme cut indented begin bracket step layout encode_utf8 code_of E.keyword_begins E.another E.argument E.attribute E.call E.slice_after E.item_or_slice E.trailer E.parenthesised E.list E.pair E.dict E.atom E.primary_parts E.primary E.power E.unary_level E.term E.sum E.compared E.negated_level E.conjunction E.disjunction E.expr_level E.exprs_level E.phrase S.primary_at S.another_simple S.raise S.return S.assertion S.delete S.global S.import S.update_of S.assignment_of S.update_or_assignment S.simple S.simples S.line S.block S.block_after S.arm S.choice S.while S.for S.caught S.handler S.handled S.finished S.try S.parameter S.definition S.define S.compound S.chunk S.program R.piece read_chars chars digits power builtin_names class_names run
over_154 = refl

over_155 : run One (codes "a, b = {'x': 1, 'y': 2}; a, b") empty ≡ ran_over Done (shown (codes "('x', 'y')") ∷ []) ((codes "a", text (codes "x")) ∷ (codes "b", text (codes "y")) ∷ []) (dict ((p.single (p.text (codes "x")), integer (pos 1)) ∷ (p.single (p.text (codes "y")), integer (pos 2)) ∷ []) ∷ tuple (text (codes "x") ∷ text (codes "y") ∷ []) ∷ []) (codes "a" ∷ codes "b" ∷ []) 22
unfolding reserved_marks delimiter operator numeral Q.escape Q.item Q.closes Q.body Q.quoted token_piece lexeme cut indented begin bracket step layout encode_utf8 code_of E.keyword_begins E.another E.argument E.attribute E.call E.slice_after E.item_or_slice E.trailer E.parenthesised E.list E.pair E.dict E.atom E.primary_parts E.primary E.power E.unary_level E.term E.sum E.compared E.negated_level E.conjunction E.disjunction E.expr_level E.exprs_level E.phrase S.primary_at S.another_simple S.raise S.return S.assertion S.delete S.global S.import S.update_of S.assignment_of S.update_or_assignment S.simple S.simples S.line S.block S.block_after S.arm S.choice S.while S.for S.caught S.handler S.handled S.finished S.try S.parameter S.definition S.define S.compound S.chunk S.program R.piece read_chars chars digits power builtin_names class_names run
over_155 = refl

over_156 : run One (codes "a, b = 1, 2, 3") empty ≡ ran_over Raised (fault (codes "ValueError") (codes "cannot unpack into 2") ∷ []) [] (tuple (integer (pos 1) ∷ integer (pos 2) ∷ integer (pos 3) ∷ []) ∷ []) [] 29
unfolding reserved_marks delimiter operator numeral Q.escape Q.item Q.closes Q.body Q.quoted token_piece lexeme cut indented begin bracket step layout encode_utf8 code_of E.keyword_begins E.another E.argument E.attribute E.call E.slice_after E.item_or_slice E.trailer E.parenthesised E.list E.pair E.dict E.atom E.primary_parts E.primary E.power E.unary_level E.term E.sum E.compared E.negated_level E.conjunction E.disjunction E.expr_level E.exprs_level E.phrase S.primary_at S.another_simple S.raise S.return S.assertion S.delete S.global S.import S.update_of S.assignment_of S.update_or_assignment S.simple S.simples S.line S.block S.block_after S.arm S.choice S.while S.for S.caught S.handler S.handled S.finished S.try S.parameter S.definition S.define S.compound S.chunk S.program R.piece read_chars chars digits power builtin_names class_names run
over_156 = refl

over_157 : run One (codes "a, b = 1,") empty ≡ ran_over Raised (fault (codes "ValueError") (codes "cannot unpack into 2") ∷ []) [] (tuple (integer (pos 1) ∷ []) ∷ []) [] 25
unfolding reserved_marks delimiter operator numeral Q.escape Q.item Q.closes Q.body Q.quoted token_piece lexeme cut indented begin bracket step layout encode_utf8 code_of E.keyword_begins E.another E.argument E.attribute E.call E.slice_after E.item_or_slice E.trailer E.parenthesised E.list E.pair E.dict E.atom E.primary_parts E.primary E.power E.unary_level E.term E.sum E.compared E.negated_level E.conjunction E.disjunction E.expr_level E.exprs_level E.phrase S.primary_at S.another_simple S.raise S.return S.assertion S.delete S.global S.import S.update_of S.assignment_of S.update_or_assignment S.simple S.simples S.line S.block S.block_after S.arm S.choice S.while S.for S.caught S.handler S.handled S.finished S.try S.parameter S.definition S.define S.compound S.chunk S.program R.piece read_chars chars digits power builtin_names class_names run
over_157 = refl

over_158 : run One (codes "a, b = 5") empty ≡ ran Raised (fault (codes "TypeError") (codes "'int' object is not iterable") ∷ []) [] [] 31
unfolding reserved_marks delimiter operator numeral Q.escape Q.item Q.closes Q.body Q.quoted token_piece lexeme cut indented begin bracket step layout encode_utf8 code_of E.keyword_begins E.another E.argument E.attribute E.call E.slice_after E.item_or_slice E.trailer E.parenthesised E.list E.pair E.dict E.atom E.primary_parts E.primary E.power E.unary_level E.term E.sum E.compared E.negated_level E.conjunction E.disjunction E.expr_level E.exprs_level E.phrase S.primary_at S.another_simple S.raise S.return S.assertion S.delete S.global S.import S.update_of S.assignment_of S.update_or_assignment S.simple S.simples S.line S.block S.block_after S.arm S.choice S.while S.for S.caught S.handler S.handled S.finished S.try S.parameter S.definition S.define S.compound S.chunk S.program R.piece read_chars chars digits power builtin_names class_names run
over_158 = refl

over_159 : run One (codes "a, b = None") empty ≡ ran Raised (fault (codes "TypeError") (codes "'NoneType' object is not iterable") ∷ []) [] [] 36
unfolding reserved_marks delimiter operator numeral Q.escape Q.item Q.closes Q.body Q.quoted token_piece lexeme cut indented begin bracket step layout encode_utf8 code_of E.keyword_begins E.another E.argument E.attribute E.call E.slice_after E.item_or_slice E.trailer E.parenthesised E.list E.pair E.dict E.atom E.primary_parts E.primary E.power E.unary_level E.term E.sum E.compared E.negated_level E.conjunction E.disjunction E.expr_level E.exprs_level E.phrase S.primary_at S.another_simple S.raise S.return S.assertion S.delete S.global S.import S.update_of S.assignment_of S.update_or_assignment S.simple S.simples S.line S.block S.block_after S.arm S.choice S.while S.for S.caught S.handler S.handled S.finished S.try S.parameter S.definition S.define S.compound S.chunk S.program R.piece read_chars chars digits power builtin_names class_names run
over_159 = refl

over_160 : run One (codes "[a, b] = x") empty ≡ ran Raised (fault (codes "NameError") (codes "name 'x' is not defined") ∷ []) [] (codes "x" ∷ []) 26
unfolding reserved_marks delimiter operator numeral Q.escape Q.item Q.closes Q.body Q.quoted token_piece lexeme cut indented begin bracket step layout encode_utf8 code_of E.keyword_begins E.another E.argument E.attribute E.call E.slice_after E.item_or_slice E.trailer E.parenthesised E.list E.pair E.dict E.atom E.primary_parts E.primary E.power E.unary_level E.term E.sum E.compared E.negated_level E.conjunction E.disjunction E.expr_level E.exprs_level E.phrase S.primary_at S.another_simple S.raise S.return S.assertion S.delete S.global S.import S.update_of S.assignment_of S.update_or_assignment S.simple S.simples S.line S.block S.block_after S.arm S.choice S.while S.for S.caught S.handler S.handled S.finished S.try S.parameter S.definition S.define S.compound S.chunk S.program R.piece read_chars chars digits power builtin_names class_names run
over_160 = refl

over_161 : run One (codes "a = b, c = 1, 2\na, b, c") empty ≡ ran_over Done (shown (codes "((1, 2), 1, 2)") ∷ []) ((codes "a", node 0) ∷ (codes "b", integer (pos 1)) ∷ (codes "c", integer (pos 2)) ∷ []) (tuple (integer (pos 1) ∷ integer (pos 2) ∷ []) ∷ tuple (node 0 ∷ integer (pos 1) ∷ integer (pos 2) ∷ []) ∷ []) (codes "a" ∷ codes "b" ∷ codes "c" ∷ []) 25
unfolding reserved_marks delimiter operator numeral Q.escape Q.item Q.closes Q.body Q.quoted token_piece lexeme cut indented begin bracket step layout encode_utf8 code_of E.keyword_begins E.another E.argument E.attribute E.call E.slice_after E.item_or_slice E.trailer E.parenthesised E.list E.pair E.dict E.atom E.primary_parts E.primary E.power E.unary_level E.term E.sum E.compared E.negated_level E.conjunction E.disjunction E.expr_level E.exprs_level E.phrase S.primary_at S.another_simple S.raise S.return S.assertion S.delete S.global S.import S.update_of S.assignment_of S.update_or_assignment S.simple S.simples S.line S.block S.block_after S.arm S.choice S.while S.for S.caught S.handler S.handled S.finished S.try S.parameter S.definition S.define S.compound S.chunk S.program R.piece read_chars chars digits power builtin_names class_names run
over_161 = refl

over_162 : run One (codes "a, (b, c) = 1, 2") empty ≡ ran_over Raised (fault (codes "TypeError") (codes "'int' object is not iterable") ∷ []) ((codes "a", integer (pos 1)) ∷ []) (tuple (integer (pos 1) ∷ integer (pos 2) ∷ []) ∷ []) (codes "a" ∷ []) 35
unfolding reserved_marks delimiter operator numeral Q.escape Q.item Q.closes Q.body Q.quoted token_piece lexeme cut indented begin bracket step layout encode_utf8 code_of E.keyword_begins E.another E.argument E.attribute E.call E.slice_after E.item_or_slice E.trailer E.parenthesised E.list E.pair E.dict E.atom E.primary_parts E.primary E.power E.unary_level E.term E.sum E.compared E.negated_level E.conjunction E.disjunction E.expr_level E.exprs_level E.phrase S.primary_at S.another_simple S.raise S.return S.assertion S.delete S.global S.import S.update_of S.assignment_of S.update_or_assignment S.simple S.simples S.line S.block S.block_after S.arm S.choice S.while S.for S.caught S.handler S.handled S.finished S.try S.parameter S.definition S.define S.compound S.chunk S.program R.piece read_chars chars digits power builtin_names class_names run
over_162 = refl

over_163 : run One (codes "a = [0, 0]; i = 0; i, a[i] = 1, 2; a") empty ≡ ran_over Done (shown (codes "[0, 2]") ∷ []) ((codes "a", node 0) ∷ (codes "i", integer (pos 1)) ∷ []) (list (integer (pos 0) ∷ integer (pos 2) ∷ []) ∷ tuple (integer (pos 1) ∷ integer (pos 2) ∷ []) ∷ []) (codes "a" ∷ codes "i" ∷ []) 22
unfolding reserved_marks delimiter operator numeral Q.escape Q.item Q.closes Q.body Q.quoted token_piece lexeme cut indented begin bracket step layout encode_utf8 code_of E.keyword_begins E.another E.argument E.attribute E.call E.slice_after E.item_or_slice E.trailer E.parenthesised E.list E.pair E.dict E.atom E.primary_parts E.primary E.power E.unary_level E.term E.sum E.compared E.negated_level E.conjunction E.disjunction E.expr_level E.exprs_level E.phrase S.primary_at S.another_simple S.raise S.return S.assertion S.delete S.global S.import S.update_of S.assignment_of S.update_or_assignment S.simple S.simples S.line S.block S.block_after S.arm S.choice S.while S.for S.caught S.handler S.handled S.finished S.try S.parameter S.definition S.define S.compound S.chunk S.program R.piece read_chars chars digits power builtin_names class_names run
over_163 = refl

over_164 : run One (codes "a = [1, 2]; a[0], a[1] = a[1], a[0]; a") empty ≡ ran_over Done (shown (codes "[2, 1]") ∷ []) ((codes "a", node 0) ∷ []) (list (integer (pos 2) ∷ integer (pos 1) ∷ []) ∷ tuple (integer (pos 2) ∷ integer (pos 1) ∷ []) ∷ []) (codes "a" ∷ []) 26
unfolding reserved_marks delimiter operator numeral Q.escape Q.item Q.closes Q.body Q.quoted token_piece lexeme cut indented begin bracket step layout encode_utf8 code_of E.keyword_begins E.another E.argument E.attribute E.call E.slice_after E.item_or_slice E.trailer E.parenthesised E.list E.pair E.dict E.atom E.primary_parts E.primary E.power E.unary_level E.term E.sum E.compared E.negated_level E.conjunction E.disjunction E.expr_level E.exprs_level E.phrase S.primary_at S.another_simple S.raise S.return S.assertion S.delete S.global S.import S.update_of S.assignment_of S.update_or_assignment S.simple S.simples S.line S.block S.block_after S.arm S.choice S.while S.for S.caught S.handler S.handled S.finished S.try S.parameter S.definition S.define S.compound S.chunk S.program R.piece read_chars chars digits power builtin_names class_names run
over_164 = refl

over_165 : run One (codes "a = [0]; a[0] = a; a") empty ≡ ran_over Done (shown (codes "[[...]]") ∷ []) ((codes "a", node 0) ∷ []) (list (node 0 ∷ []) ∷ []) (codes "a" ∷ []) 16
unfolding reserved_marks delimiter operator numeral Q.escape Q.item Q.closes Q.body Q.quoted token_piece lexeme cut indented begin bracket step layout encode_utf8 code_of E.keyword_begins E.another E.argument E.attribute E.call E.slice_after E.item_or_slice E.trailer E.parenthesised E.list E.pair E.dict E.atom E.primary_parts E.primary E.power E.unary_level E.term E.sum E.compared E.negated_level E.conjunction E.disjunction E.expr_level E.exprs_level E.phrase S.primary_at S.another_simple S.raise S.return S.assertion S.delete S.global S.import S.update_of S.assignment_of S.update_or_assignment S.simple S.simples S.line S.block S.block_after S.arm S.choice S.while S.for S.caught S.handler S.handled S.finished S.try S.parameter S.definition S.define S.compound S.chunk S.program R.piece read_chars chars digits power builtin_names class_names run
over_165 = refl

over_166 : run One (codes "a = [0]; a[-1] = 5; a") empty ≡ ran_over Done (shown (codes "[5]") ∷ []) ((codes "a", node 0) ∷ []) (list (integer (pos 5) ∷ []) ∷ []) (codes "a" ∷ []) 13
unfolding reserved_marks delimiter operator numeral Q.escape Q.item Q.closes Q.body Q.quoted token_piece lexeme cut indented begin bracket step layout encode_utf8 code_of E.keyword_begins E.another E.argument E.attribute E.call E.slice_after E.item_or_slice E.trailer E.parenthesised E.list E.pair E.dict E.atom E.primary_parts E.primary E.power E.unary_level E.term E.sum E.compared E.negated_level E.conjunction E.disjunction E.expr_level E.exprs_level E.phrase S.primary_at S.another_simple S.raise S.return S.assertion S.delete S.global S.import S.update_of S.assignment_of S.update_or_assignment S.simple S.simples S.line S.block S.block_after S.arm S.choice S.while S.for S.caught S.handler S.handled S.finished S.try S.parameter S.definition S.define S.compound S.chunk S.program R.piece read_chars chars digits power builtin_names class_names run
over_166 = refl

over_167 : run One (codes "d = {}; d['k'] = d['j'] = 1; d") empty ≡ ran_over Done (shown (codes "{'k': 1, 'j': 1}") ∷ []) ((codes "d", node 0) ∷ []) (dict ((p.single (p.text (codes "k")), integer (pos 1)) ∷ (p.single (p.text (codes "j")), integer (pos 1)) ∷ []) ∷ []) (codes "d" ∷ []) 26
unfolding reserved_marks delimiter operator numeral Q.escape Q.item Q.closes Q.body Q.quoted token_piece lexeme cut indented begin bracket step layout encode_utf8 code_of E.keyword_begins E.another E.argument E.attribute E.call E.slice_after E.item_or_slice E.trailer E.parenthesised E.list E.pair E.dict E.atom E.primary_parts E.primary E.power E.unary_level E.term E.sum E.compared E.negated_level E.conjunction E.disjunction E.expr_level E.exprs_level E.phrase S.primary_at S.another_simple S.raise S.return S.assertion S.delete S.global S.import S.update_of S.assignment_of S.update_or_assignment S.simple S.simples S.line S.block S.block_after S.arm S.choice S.while S.for S.caught S.handler S.handled S.finished S.try S.parameter S.definition S.define S.compound S.chunk S.program R.piece read_chars chars digits power builtin_names class_names run
over_167 = refl

over_168 : run One (codes "d = {}; d[1, 2] = 3; d") empty ≡ ran_over Done (shown (codes "{(1, 2): 3}") ∷ []) ((codes "d", node 0) ∷ []) (dict ((p.tuple (p.integer (pos 1) ∷ p.integer (pos 2) ∷ []), integer (pos 3)) ∷ []) ∷ tuple (integer (pos 1) ∷ integer (pos 2) ∷ []) ∷ []) (codes "d" ∷ []) 23
unfolding reserved_marks delimiter operator numeral Q.escape Q.item Q.closes Q.body Q.quoted token_piece lexeme cut indented begin bracket step layout encode_utf8 code_of E.keyword_begins E.another E.argument E.attribute E.call E.slice_after E.item_or_slice E.trailer E.parenthesised E.list E.pair E.dict E.atom E.primary_parts E.primary E.power E.unary_level E.term E.sum E.compared E.negated_level E.conjunction E.disjunction E.expr_level E.exprs_level E.phrase S.primary_at S.another_simple S.raise S.return S.assertion S.delete S.global S.import S.update_of S.assignment_of S.update_or_assignment S.simple S.simples S.line S.block S.block_after S.arm S.choice S.while S.for S.caught S.handler S.handled S.finished S.try S.parameter S.definition S.define S.compound S.chunk S.program R.piece read_chars chars digits power builtin_names class_names run
over_168 = refl

over_169 : run One (codes "a = [1]; a[1] = 2") empty ≡ ran_over Raised (fault (codes "IndexError") (codes "index out of range") ∷ []) ((codes "a", node 0) ∷ []) (list (integer (pos 1) ∷ []) ∷ []) (codes "a" ∷ []) 26
unfolding reserved_marks delimiter operator numeral Q.escape Q.item Q.closes Q.body Q.quoted token_piece lexeme cut indented begin bracket step layout encode_utf8 code_of E.keyword_begins E.another E.argument E.attribute E.call E.slice_after E.item_or_slice E.trailer E.parenthesised E.list E.pair E.dict E.atom E.primary_parts E.primary E.power E.unary_level E.term E.sum E.compared E.negated_level E.conjunction E.disjunction E.expr_level E.exprs_level E.phrase S.primary_at S.another_simple S.raise S.return S.assertion S.delete S.global S.import S.update_of S.assignment_of S.update_or_assignment S.simple S.simples S.line S.block S.block_after S.arm S.choice S.while S.for S.caught S.handler S.handled S.finished S.try S.parameter S.definition S.define S.compound S.chunk S.program R.piece read_chars chars digits power builtin_names class_names run
over_169 = refl

over_170 : run One (codes "a = [1]; a['x'] = 2") empty ≡ ran_over Raised (fault (codes "TypeError") (codes "bad index type: 'str'") ∷ []) ((codes "a", node 0) ∷ []) (list (integer (pos 1) ∷ []) ∷ []) (codes "a" ∷ []) 29
unfolding reserved_marks delimiter operator numeral Q.escape Q.item Q.closes Q.body Q.quoted token_piece lexeme cut indented begin bracket step layout encode_utf8 code_of E.keyword_begins E.another E.argument E.attribute E.call E.slice_after E.item_or_slice E.trailer E.parenthesised E.list E.pair E.dict E.atom E.primary_parts E.primary E.power E.unary_level E.term E.sum E.compared E.negated_level E.conjunction E.disjunction E.expr_level E.exprs_level E.phrase S.primary_at S.another_simple S.raise S.return S.assertion S.delete S.global S.import S.update_of S.assignment_of S.update_or_assignment S.simple S.simples S.line S.block S.block_after S.arm S.choice S.while S.for S.caught S.handler S.handled S.finished S.try S.parameter S.definition S.define S.compound S.chunk S.program R.piece read_chars chars digits power builtin_names class_names run
over_170 = refl

over_171 : run One (codes "d = {}; d[[]] = 1") empty ≡ ran_over Raised (fault (codes "TypeError") (codes "unhashable key: 'list'") ∷ []) ((codes "d", node 0) ∷ []) (dict [] ∷ list [] ∷ []) (codes "d" ∷ []) 29
unfolding reserved_marks delimiter operator numeral Q.escape Q.item Q.closes Q.body Q.quoted token_piece lexeme cut indented begin bracket step layout encode_utf8 code_of E.keyword_begins E.another E.argument E.attribute E.call E.slice_after E.item_or_slice E.trailer E.parenthesised E.list E.pair E.dict E.atom E.primary_parts E.primary E.power E.unary_level E.term E.sum E.compared E.negated_level E.conjunction E.disjunction E.expr_level E.exprs_level E.phrase S.primary_at S.another_simple S.raise S.return S.assertion S.delete S.global S.import S.update_of S.assignment_of S.update_or_assignment S.simple S.simples S.line S.block S.block_after S.arm S.choice S.while S.for S.caught S.handler S.handled S.finished S.try S.parameter S.definition S.define S.compound S.chunk S.program R.piece read_chars chars digits power builtin_names class_names run
over_171 = refl

over_172 : run One (codes "x = 'ab'\nx[0] = 'c'") empty ≡ ran Raised (fault (codes "TypeError") (codes "'str' object is not subscriptable") ∷ []) ((codes "x", text (codes "ab")) ∷ []) (codes "x" ∷ []) 40
unfolding reserved_marks delimiter operator numeral Q.escape Q.item Q.closes Q.body Q.quoted token_piece lexeme cut indented begin bracket step layout encode_utf8 code_of E.keyword_begins E.another E.argument E.attribute E.call E.slice_after E.item_or_slice E.trailer E.parenthesised E.list E.pair E.dict E.atom E.primary_parts E.primary E.power E.unary_level E.term E.sum E.compared E.negated_level E.conjunction E.disjunction E.expr_level E.exprs_level E.phrase S.primary_at S.another_simple S.raise S.return S.assertion S.delete S.global S.import S.update_of S.assignment_of S.update_or_assignment S.simple S.simples S.line S.block S.block_after S.arm S.choice S.while S.for S.caught S.handler S.handled S.finished S.try S.parameter S.definition S.define S.compound S.chunk S.program R.piece read_chars chars digits power builtin_names class_names run
over_172 = refl

over_173 : run One (codes "(1, 2)[0] = 3") empty ≡ ran_over Raised (fault (codes "TypeError") (codes "'tuple' object is not subscriptable") ∷ []) [] (tuple (integer (pos 1) ∷ integer (pos 2) ∷ []) ∷ []) [] 42
unfolding reserved_marks delimiter operator numeral Q.escape Q.item Q.closes Q.body Q.quoted token_piece lexeme cut indented begin bracket step layout encode_utf8 code_of E.keyword_begins E.another E.argument E.attribute E.call E.slice_after E.item_or_slice E.trailer E.parenthesised E.list E.pair E.dict E.atom E.primary_parts E.primary E.power E.unary_level E.term E.sum E.compared E.negated_level E.conjunction E.disjunction E.expr_level E.exprs_level E.phrase S.primary_at S.another_simple S.raise S.return S.assertion S.delete S.global S.import S.update_of S.assignment_of S.update_or_assignment S.simple S.simples S.line S.block S.block_after S.arm S.choice S.while S.for S.caught S.handler S.handled S.finished S.try S.parameter S.definition S.define S.compound S.chunk S.program R.piece read_chars chars digits power builtin_names class_names run
over_173 = refl

over_174 : run One (codes "x = 1\nx[0] = y") empty ≡ ran Raised (fault (codes "NameError") (codes "name 'y' is not defined") ∷ []) ((codes "x", integer (pos 1)) ∷ []) (codes "x" ∷ codes "y" ∷ []) 28
unfolding reserved_marks delimiter operator numeral Q.escape Q.item Q.closes Q.body Q.quoted token_piece lexeme cut indented begin bracket step layout encode_utf8 code_of E.keyword_begins E.another E.argument E.attribute E.call E.slice_after E.item_or_slice E.trailer E.parenthesised E.list E.pair E.dict E.atom E.primary_parts E.primary E.power E.unary_level E.term E.sum E.compared E.negated_level E.conjunction E.disjunction E.expr_level E.exprs_level E.phrase S.primary_at S.another_simple S.raise S.return S.assertion S.delete S.global S.import S.update_of S.assignment_of S.update_or_assignment S.simple S.simples S.line S.block S.block_after S.arm S.choice S.while S.for S.caught S.handler S.handled S.finished S.try S.parameter S.definition S.define S.compound S.chunk S.program R.piece read_chars chars digits power builtin_names class_names run
over_174 = refl

over_175 : run One (codes "x = [1]; x[print(0)] = print(1)") empty ≡ ran_over Raised (stream (codes "1\n0\n") ∷ fault (codes "TypeError") (codes "bad index type: 'NoneType'") ∷ []) ((codes "x", node 0) ∷ []) (list (integer (pos 1) ∷ []) ∷ []) (codes "print" ∷ codes "x" ∷ []) 42
unfolding reserved_marks delimiter operator numeral Q.escape Q.item Q.closes Q.body Q.quoted token_piece lexeme cut indented begin bracket step layout encode_utf8 code_of E.keyword_begins E.another E.argument E.attribute E.call E.slice_after E.item_or_slice E.trailer E.parenthesised E.list E.pair E.dict E.atom E.primary_parts E.primary E.power E.unary_level E.term E.sum E.compared E.negated_level E.conjunction E.disjunction E.expr_level E.exprs_level E.phrase S.primary_at S.another_simple S.raise S.return S.assertion S.delete S.global S.import S.update_of S.assignment_of S.update_or_assignment S.simple S.simples S.line S.block S.block_after S.arm S.choice S.while S.for S.caught S.handler S.handled S.finished S.try S.parameter S.definition S.define S.compound S.chunk S.program R.piece read_chars chars digits power builtin_names class_names run
over_175 = refl

over_176 : run One (codes "x = [0]\nprint(x)\nx[0] = x[0] + 1, x[0]\nx") empty ≡ ran_over Done (stream (codes "[0]\n") ∷ shown (codes "[(1, 0)]") ∷ []) ((codes "x", node 0) ∷ []) (list (node 1 ∷ []) ∷ tuple (integer (pos 1) ∷ integer (pos 0) ∷ []) ∷ []) (codes "print" ∷ codes "x" ∷ []) 33
unfolding reserved_marks delimiter operator numeral Q.escape Q.item Q.closes Q.body Q.quoted token_piece lexeme cut indented begin bracket step layout encode_utf8 code_of E.keyword_begins E.another E.argument E.attribute E.call E.slice_after E.item_or_slice E.trailer E.parenthesised E.list E.pair E.dict E.atom E.primary_parts E.primary E.power E.unary_level E.term E.sum E.compared E.negated_level E.conjunction E.disjunction E.expr_level E.exprs_level E.phrase S.primary_at S.another_simple S.raise S.return S.assertion S.delete S.global S.import S.update_of S.assignment_of S.update_or_assignment S.simple S.simples S.line S.block S.block_after S.arm S.choice S.while S.for S.caught S.handler S.handled S.finished S.try S.parameter S.definition S.define S.compound S.chunk S.program R.piece read_chars chars digits power builtin_names class_names run
over_176 = refl

over_177 : run One (codes "a = b = []; a.append(1); b") empty ≡ ran_over Done (shown (codes "[1]") ∷ []) ((codes "a", node 0) ∷ (codes "b", node 0) ∷ []) (list (integer (pos 1) ∷ []) ∷ []) (codes "a" ∷ codes "b" ∷ []) 12
unfolding reserved_marks delimiter operator numeral Q.escape Q.item Q.closes Q.body Q.quoted token_piece lexeme cut indented begin bracket step layout encode_utf8 code_of E.keyword_begins E.another E.argument E.attribute E.call E.slice_after E.item_or_slice E.trailer E.parenthesised E.list E.pair E.dict E.atom E.primary_parts E.primary E.power E.unary_level E.term E.sum E.compared E.negated_level E.conjunction E.disjunction E.expr_level E.exprs_level E.phrase S.primary_at S.another_simple S.raise S.return S.assertion S.delete S.global S.import S.update_of S.assignment_of S.update_or_assignment S.simple S.simples S.line S.block S.block_after S.arm S.choice S.while S.for S.caught S.handler S.handled S.finished S.try S.parameter S.definition S.define S.compound S.chunk S.program R.piece read_chars chars digits power builtin_names class_names run
over_177 = refl

over_178 : run One (codes "a = [1]\na, a[0] = [2], 3\na") empty ≡ ran_over Done (shown (codes "[3]") ∷ []) ((codes "a", node 1) ∷ []) (list (integer (pos 1) ∷ []) ∷ list (integer (pos 3) ∷ []) ∷ tuple (node 1 ∷ integer (pos 3) ∷ []) ∷ []) (codes "a" ∷ []) 17
unfolding reserved_marks delimiter operator numeral Q.escape Q.item Q.closes Q.body Q.quoted token_piece lexeme cut indented begin bracket step layout encode_utf8 code_of E.keyword_begins E.another E.argument E.attribute E.call E.slice_after E.item_or_slice E.trailer E.parenthesised E.list E.pair E.dict E.atom E.primary_parts E.primary E.power E.unary_level E.term E.sum E.compared E.negated_level E.conjunction E.disjunction E.expr_level E.exprs_level E.phrase S.primary_at S.another_simple S.raise S.return S.assertion S.delete S.global S.import S.update_of S.assignment_of S.update_or_assignment S.simple S.simples S.line S.block S.block_after S.arm S.choice S.while S.for S.caught S.handler S.handled S.finished S.try S.parameter S.definition S.define S.compound S.chunk S.program R.piece read_chars chars digits power builtin_names class_names run
over_178 = refl

over_179 : run One (codes "a = [1]; b = a; a += [2]; print(a, b, a is b)") empty ≡ ran_over Done (stream (codes "[1, 2] [1, 2] True\n") ∷ []) ((codes "a", node 0) ∷ (codes "b", node 0) ∷ []) (list (integer (pos 1) ∷ integer (pos 2) ∷ []) ∷ list (integer (pos 2) ∷ []) ∷ []) (codes "a" ∷ codes "b" ∷ codes "print" ∷ []) 38
unfolding reserved_marks delimiter operator numeral Q.escape Q.item Q.closes Q.body Q.quoted token_piece lexeme cut indented begin bracket step layout encode_utf8 code_of E.keyword_begins E.another E.argument E.attribute E.call E.slice_after E.item_or_slice E.trailer E.parenthesised E.list E.pair E.dict E.atom E.primary_parts E.primary E.power E.unary_level E.term E.sum E.compared E.negated_level E.conjunction E.disjunction E.expr_level E.exprs_level E.phrase S.primary_at S.another_simple S.raise S.return S.assertion S.delete S.global S.import S.update_of S.assignment_of S.update_or_assignment S.simple S.simples S.line S.block S.block_after S.arm S.choice S.while S.for S.caught S.handler S.handled S.finished S.try S.parameter S.definition S.define S.compound S.chunk S.program R.piece read_chars chars digits power builtin_names class_names run
over_179 = refl

over_180 : run One (codes "a = [1]; b = a; a = a + [2]; print(a, b)") empty ≡ ran_over Done (stream (codes "[1, 2] [1]\n") ∷ []) ((codes "a", node 2) ∷ (codes "b", node 0) ∷ []) (list (integer (pos 1) ∷ []) ∷ list (integer (pos 2) ∷ []) ∷ list (integer (pos 1) ∷ integer (pos 2) ∷ []) ∷ []) (codes "a" ∷ codes "b" ∷ codes "print" ∷ []) 28
unfolding reserved_marks delimiter operator numeral Q.escape Q.item Q.closes Q.body Q.quoted token_piece lexeme cut indented begin bracket step layout encode_utf8 code_of E.keyword_begins E.another E.argument E.attribute E.call E.slice_after E.item_or_slice E.trailer E.parenthesised E.list E.pair E.dict E.atom E.primary_parts E.primary E.power E.unary_level E.term E.sum E.compared E.negated_level E.conjunction E.disjunction E.expr_level E.exprs_level E.phrase S.primary_at S.another_simple S.raise S.return S.assertion S.delete S.global S.import S.update_of S.assignment_of S.update_or_assignment S.simple S.simples S.line S.block S.block_after S.arm S.choice S.while S.for S.caught S.handler S.handled S.finished S.try S.parameter S.definition S.define S.compound S.chunk S.program R.piece read_chars chars digits power builtin_names class_names run
over_180 = refl

over_181 : run One (codes "a = [1]; a += 'xy'; a += (3,); a += {4: 5}; a") empty ≡ ran_over Done (shown (codes "[1, 'x', 'y', 3, 4]") ∷ []) ((codes "a", node 0) ∷ []) (list (integer (pos 1) ∷ text (codes "x") ∷ text (codes "y") ∷ integer (pos 3) ∷ integer (pos 4) ∷ []) ∷ tuple (integer (pos 3) ∷ []) ∷ dict ((p.single (p.integer (pos 4)), integer (pos 5)) ∷ []) ∷ []) (codes "a" ∷ []) 43
unfolding reserved_marks delimiter operator numeral Q.escape Q.item Q.closes Q.body Q.quoted token_piece lexeme cut indented begin bracket step layout encode_utf8 code_of E.keyword_begins E.another E.argument E.attribute E.call E.slice_after E.item_or_slice E.trailer E.parenthesised E.list E.pair E.dict E.atom E.primary_parts E.primary E.power E.unary_level E.term E.sum E.compared E.negated_level E.conjunction E.disjunction E.expr_level E.exprs_level E.phrase S.primary_at S.another_simple S.raise S.return S.assertion S.delete S.global S.import S.update_of S.assignment_of S.update_or_assignment S.simple S.simples S.line S.block S.block_after S.arm S.choice S.while S.for S.caught S.handler S.handled S.finished S.try S.parameter S.definition S.define S.compound S.chunk S.program R.piece read_chars chars digits power builtin_names class_names run
over_181 = refl

over_182 : run One (codes "a = [1]; a += a; a") empty ≡ ran_over Done (shown (codes "[1, 1]") ∷ []) ((codes "a", node 0) ∷ []) (list (integer (pos 1) ∷ integer (pos 1) ∷ []) ∷ []) (codes "a" ∷ []) 16
unfolding reserved_marks delimiter operator numeral Q.escape Q.item Q.closes Q.body Q.quoted token_piece lexeme cut indented begin bracket step layout encode_utf8 code_of E.keyword_begins E.another E.argument E.attribute E.call E.slice_after E.item_or_slice E.trailer E.parenthesised E.list E.pair E.dict E.atom E.primary_parts E.primary E.power E.unary_level E.term E.sum E.compared E.negated_level E.conjunction E.disjunction E.expr_level E.exprs_level E.phrase S.primary_at S.another_simple S.raise S.return S.assertion S.delete S.global S.import S.update_of S.assignment_of S.update_or_assignment S.simple S.simples S.line S.block S.block_after S.arm S.choice S.while S.for S.caught S.handler S.handled S.finished S.try S.parameter S.definition S.define S.compound S.chunk S.program R.piece read_chars chars digits power builtin_names class_names run
over_182 = refl

over_183 : run One (codes "a = [1]; a += 1") empty ≡ ran_over Raised (fault (codes "TypeError") (codes "'int' object is not iterable") ∷ []) ((codes "a", node 0) ∷ []) (list (integer (pos 1) ∷ []) ∷ []) (codes "a" ∷ []) 36
unfolding reserved_marks delimiter operator numeral Q.escape Q.item Q.closes Q.body Q.quoted token_piece lexeme cut indented begin bracket step layout encode_utf8 code_of E.keyword_begins E.another E.argument E.attribute E.call E.slice_after E.item_or_slice E.trailer E.parenthesised E.list E.pair E.dict E.atom E.primary_parts E.primary E.power E.unary_level E.term E.sum E.compared E.negated_level E.conjunction E.disjunction E.expr_level E.exprs_level E.phrase S.primary_at S.another_simple S.raise S.return S.assertion S.delete S.global S.import S.update_of S.assignment_of S.update_or_assignment S.simple S.simples S.line S.block S.block_after S.arm S.choice S.while S.for S.caught S.handler S.handled S.finished S.try S.parameter S.definition S.define S.compound S.chunk S.program R.piece read_chars chars digits power builtin_names class_names run
over_183 = refl

over_184 : run One (codes "a = [1]; a *= 2; a") empty ≡ ran_over Done (shown (codes "[1, 1]") ∷ []) ((codes "a", node 1) ∷ []) (list (integer (pos 1) ∷ []) ∷ list (integer (pos 1) ∷ integer (pos 1) ∷ []) ∷ []) (codes "a" ∷ []) 17
unfolding reserved_marks delimiter operator numeral Q.escape Q.item Q.closes Q.body Q.quoted token_piece lexeme cut indented begin bracket step layout encode_utf8 code_of E.keyword_begins E.another E.argument E.attribute E.call E.slice_after E.item_or_slice E.trailer E.parenthesised E.list E.pair E.dict E.atom E.primary_parts E.primary E.power E.unary_level E.term E.sum E.compared E.negated_level E.conjunction E.disjunction E.expr_level E.exprs_level E.phrase S.primary_at S.another_simple S.raise S.return S.assertion S.delete S.global S.import S.update_of S.assignment_of S.update_or_assignment S.simple S.simples S.line S.block S.block_after S.arm S.choice S.while S.for S.caught S.handler S.handled S.finished S.try S.parameter S.definition S.define S.compound S.chunk S.program R.piece read_chars chars digits power builtin_names class_names run
over_184 = refl

over_185 : run One (codes "d = {'n': 1}; d['n'] += 2; d") empty ≡ ran_over Done (shown (codes "{'n': 3}") ∷ []) ((codes "d", node 0) ∷ []) (dict ((p.single (p.text (codes "n")), integer (pos 3)) ∷ []) ∷ []) (codes "d" ∷ []) 20
unfolding reserved_marks delimiter operator numeral Q.escape Q.item Q.closes Q.body Q.quoted token_piece lexeme cut indented begin bracket step layout encode_utf8 code_of E.keyword_begins E.another E.argument E.attribute E.call E.slice_after E.item_or_slice E.trailer E.parenthesised E.list E.pair E.dict E.atom E.primary_parts E.primary E.power E.unary_level E.term E.sum E.compared E.negated_level E.conjunction E.disjunction E.expr_level E.exprs_level E.phrase S.primary_at S.another_simple S.raise S.return S.assertion S.delete S.global S.import S.update_of S.assignment_of S.update_or_assignment S.simple S.simples S.line S.block S.block_after S.arm S.choice S.while S.for S.caught S.handler S.handled S.finished S.try S.parameter S.definition S.define S.compound S.chunk S.program R.piece read_chars chars digits power builtin_names class_names run
over_185 = refl

over_186 : run One (codes "a = [[1]]; a[0] += [2]; a") empty ≡ ran_over Done (shown (codes "[[1, 2]]") ∷ []) ((codes "a", node 1) ∷ []) (list (integer (pos 1) ∷ integer (pos 2) ∷ []) ∷ list (node 0 ∷ []) ∷ list (integer (pos 2) ∷ []) ∷ []) (codes "a" ∷ []) 22
unfolding reserved_marks delimiter operator numeral Q.escape Q.item Q.closes Q.body Q.quoted token_piece lexeme cut indented begin bracket step layout encode_utf8 code_of E.keyword_begins E.another E.argument E.attribute E.call E.slice_after E.item_or_slice E.trailer E.parenthesised E.list E.pair E.dict E.atom E.primary_parts E.primary E.power E.unary_level E.term E.sum E.compared E.negated_level E.conjunction E.disjunction E.expr_level E.exprs_level E.phrase S.primary_at S.another_simple S.raise S.return S.assertion S.delete S.global S.import S.update_of S.assignment_of S.update_or_assignment S.simple S.simples S.line S.block S.block_after S.arm S.choice S.while S.for S.caught S.handler S.handled S.finished S.try S.parameter S.definition S.define S.compound S.chunk S.program R.piece read_chars chars digits power builtin_names class_names run
over_186 = refl
