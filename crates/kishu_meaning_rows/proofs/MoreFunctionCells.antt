-- What further cells with functions and exceptions give: computed on the definition. Made by tools/cells/cells.py.
use Rattle.std.proofs.Common.{◌≡◌, ◌∷◌, [], refl}
use Rattle.std.specs.Prelude.{pos, true, false, codes}
use Rattle.std.specs.Char.{encode_utf8}
use Rattle.std.specs.Fmt.{digits}
use Rattle.std.specs.Str.{chars}
use Rattle.kishu_language.specs.declared.profile.Profile.TheVariants.{One}
use Rattle.kishu_meaning.specs.declared.result.Outcome.TheVariants.{Done, Raised}
use Rattle.kishu_meaning.specs.values.BuiltinNames.{builtin_names, class_names}
use Rattle.kishu_meaning.specs.values.Numbers.{power}
use Rattle.kishu_language.specs.tokens.Marks.{reserved_marks, delimiter, operator}
use Rattle.kishu_language.specs.tokens.Numerals.{numeral}
use Rattle.kishu_language.specs.tokens.Quoted as Q
use Rattle.kishu_language.specs.tokens.Lexemes.{token_piece, lexeme}
use Rattle.kishu_language.specs.tokens.Layout.{cut, indented, begin, bracket, step, layout}
use Rattle.kishu_language.specs.trees.Code.{code_of}
use Rattle.kishu_language.specs.reading.ReadExpressions as E
use Rattle.kishu_language.specs.reading.ReadStatements as S
use Rattle.kishu_language.specs.reading.ReadText as R
use Rattle.kishu_language.specs.reading.ReadText.{read_chars}
use Rattle.kishu_meaning.specs.values.Values.{bool, integer, text, class, node, list, tuple, dict, function, exception, empty, stream, shown, fault}
use Rattle.kishu_meaning.specs.cells.Meaning.{run, call}
use Rattle.kishu_meaning_rows.proofs.Cells.{ran, ran_over}

way_71 : run One (codes "try: x\nexcept NameError: print(1)\nelse: print(2)") empty ≡ ran_over Done (stream (codes "1\n") ∷ []) [] (exception 17 (text (codes "name 'x' is not defined") ∷ []) ∷ []) (codes "NameError" ∷ codes "print" ∷ codes "x" ∷ []) 10
unfolding reserved_marks delimiter operator numeral Q.escape Q.item Q.closes Q.body Q.quoted token_piece lexeme cut indented begin bracket step layout encode_utf8 code_of E.keyword_begins E.another E.argument E.attribute E.call E.slice_after E.item_or_slice E.trailer E.parenthesised E.list E.pair E.dict E.atom E.primary_parts E.primary E.power E.unary_level E.term E.sum E.compared E.negated_level E.conjunction E.disjunction E.expr_level E.exprs_level E.phrase S.primary_at S.another_simple S.raise S.return S.assertion S.delete S.global S.import S.update_of S.assignment_of S.update_or_assignment S.simple S.simples S.line S.block S.block_after S.arm S.choice S.while S.for S.caught S.handler S.handled S.finished S.try S.parameter S.definition S.define S.compound S.chunk S.program R.piece read_chars chars digits power builtin_names class_names run call
way_71 = refl

way_72 : run One (codes "try: 'a' + 1\nexcept (ValueError, (TypeError)): print('t')") empty ≡ ran_over Done (stream (codes "t\n") ∷ []) [] (tuple (class 24 ∷ class 23 ∷ []) ∷ exception 23 (text (codes "bad operand types for +: 'str' and 'int'") ∷ []) ∷ []) (codes "TypeError" ∷ codes "ValueError" ∷ codes "print" ∷ []) 14
unfolding reserved_marks delimiter operator numeral Q.escape Q.item Q.closes Q.body Q.quoted token_piece lexeme cut indented begin bracket step layout encode_utf8 code_of E.keyword_begins E.another E.argument E.attribute E.call E.slice_after E.item_or_slice E.trailer E.parenthesised E.list E.pair E.dict E.atom E.primary_parts E.primary E.power E.unary_level E.term E.sum E.compared E.negated_level E.conjunction E.disjunction E.expr_level E.exprs_level E.phrase S.primary_at S.another_simple S.raise S.return S.assertion S.delete S.global S.import S.update_of S.assignment_of S.update_or_assignment S.simple S.simples S.line S.block S.block_after S.arm S.choice S.while S.for S.caught S.handler S.handled S.finished S.try S.parameter S.definition S.define S.compound S.chunk S.program R.piece read_chars chars digits power builtin_names class_names run call
way_72 = refl

way_73 : run One (codes "def f():\n    try: return 1\n    finally: print('f')\nf()") empty ≡ ran_over Done (stream (codes "f\n") ∷ shown (codes "1") ∷ []) ((codes "f", node 0) ∷ []) (function One (codes "def f():\n    try: return 1\n    finally: print('f')") [] ∷ []) (codes "f" ∷ codes "print" ∷ []) 14
unfolding reserved_marks delimiter operator numeral Q.escape Q.item Q.closes Q.body Q.quoted token_piece lexeme cut indented begin bracket step layout encode_utf8 code_of E.keyword_begins E.another E.argument E.attribute E.call E.slice_after E.item_or_slice E.trailer E.parenthesised E.list E.pair E.dict E.atom E.primary_parts E.primary E.power E.unary_level E.term E.sum E.compared E.negated_level E.conjunction E.disjunction E.expr_level E.exprs_level E.phrase S.primary_at S.another_simple S.raise S.return S.assertion S.delete S.global S.import S.update_of S.assignment_of S.update_or_assignment S.simple S.simples S.line S.block S.block_after S.arm S.choice S.while S.for S.caught S.handler S.handled S.finished S.try S.parameter S.definition S.define S.compound S.chunk S.program R.piece read_chars chars digits power builtin_names class_names run call
way_73 = refl

way_74 : run One (codes "def f():\n    try: return 1\n    finally: return 2\nf()") empty ≡ ran_over Done (shown (codes "2") ∷ []) ((codes "f", node 0) ∷ []) (function One (codes "def f():\n    try: return 1\n    finally: return 2") [] ∷ []) (codes "f" ∷ []) 10
unfolding reserved_marks delimiter operator numeral Q.escape Q.item Q.closes Q.body Q.quoted token_piece lexeme cut indented begin bracket step layout encode_utf8 code_of E.keyword_begins E.another E.argument E.attribute E.call E.slice_after E.item_or_slice E.trailer E.parenthesised E.list E.pair E.dict E.atom E.primary_parts E.primary E.power E.unary_level E.term E.sum E.compared E.negated_level E.conjunction E.disjunction E.expr_level E.exprs_level E.phrase S.primary_at S.another_simple S.raise S.return S.assertion S.delete S.global S.import S.update_of S.assignment_of S.update_or_assignment S.simple S.simples S.line S.block S.block_after S.arm S.choice S.while S.for S.caught S.handler S.handled S.finished S.try S.parameter S.definition S.define S.compound S.chunk S.program R.piece read_chars chars digits power builtin_names class_names run call
way_74 = refl

way_75 : run One (codes "def f():\n    try: 1 // 0\n    finally: return 2\nf()") empty ≡ ran_over Done (shown (codes "2") ∷ []) ((codes "f", node 0) ∷ []) (function One (codes "def f():\n    try: 1 // 0\n    finally: return 2") [] ∷ []) (codes "f" ∷ []) 12
unfolding reserved_marks delimiter operator numeral Q.escape Q.item Q.closes Q.body Q.quoted token_piece lexeme cut indented begin bracket step layout encode_utf8 code_of E.keyword_begins E.another E.argument E.attribute E.call E.slice_after E.item_or_slice E.trailer E.parenthesised E.list E.pair E.dict E.atom E.primary_parts E.primary E.power E.unary_level E.term E.sum E.compared E.negated_level E.conjunction E.disjunction E.expr_level E.exprs_level E.phrase S.primary_at S.another_simple S.raise S.return S.assertion S.delete S.global S.import S.update_of S.assignment_of S.update_or_assignment S.simple S.simples S.line S.block S.block_after S.arm S.choice S.while S.for S.caught S.handler S.handled S.finished S.try S.parameter S.definition S.define S.compound S.chunk S.program R.piece read_chars chars digits power builtin_names class_names run call
way_75 = refl

way_76 : run One (codes "def f():\n    for i in [1, 2]:\n        try: continue\n        finally: print(i)\n    return 'd'\nf()") empty ≡ ran_over Done (stream (codes "1\n2\n") ∷ shown (codes "'d'") ∷ []) ((codes "f", node 0) ∷ []) (function One (codes "def f():\n    for i in [1, 2]:\n        try: continue\n        finally: print(i)\n    return 'd'") [] ∷ list (integer (pos 1) ∷ integer (pos 2) ∷ []) ∷ []) (codes "f" ∷ codes "print" ∷ []) 31
unfolding reserved_marks delimiter operator numeral Q.escape Q.item Q.closes Q.body Q.quoted token_piece lexeme cut indented begin bracket step layout encode_utf8 code_of E.keyword_begins E.another E.argument E.attribute E.call E.slice_after E.item_or_slice E.trailer E.parenthesised E.list E.pair E.dict E.atom E.primary_parts E.primary E.power E.unary_level E.term E.sum E.compared E.negated_level E.conjunction E.disjunction E.expr_level E.exprs_level E.phrase S.primary_at S.another_simple S.raise S.return S.assertion S.delete S.global S.import S.update_of S.assignment_of S.update_or_assignment S.simple S.simples S.line S.block S.block_after S.arm S.choice S.while S.for S.caught S.handler S.handled S.finished S.try S.parameter S.definition S.define S.compound S.chunk S.program R.piece read_chars chars digits power builtin_names class_names run call
way_76 = refl

way_77 : run One (codes "for i in [1, 2]:\n    try: break\n    finally: print(i)\ni") empty ≡ ran_over Done (stream (codes "1\n") ∷ shown (codes "1") ∷ []) ((codes "i", integer (pos 1)) ∷ []) (list (integer (pos 1) ∷ integer (pos 2) ∷ []) ∷ []) (codes "i" ∷ codes "print" ∷ []) 16
unfolding reserved_marks delimiter operator numeral Q.escape Q.item Q.closes Q.body Q.quoted token_piece lexeme cut indented begin bracket step layout encode_utf8 code_of E.keyword_begins E.another E.argument E.attribute E.call E.slice_after E.item_or_slice E.trailer E.parenthesised E.list E.pair E.dict E.atom E.primary_parts E.primary E.power E.unary_level E.term E.sum E.compared E.negated_level E.conjunction E.disjunction E.expr_level E.exprs_level E.phrase S.primary_at S.another_simple S.raise S.return S.assertion S.delete S.global S.import S.update_of S.assignment_of S.update_or_assignment S.simple S.simples S.line S.block S.block_after S.arm S.choice S.while S.for S.caught S.handler S.handled S.finished S.try S.parameter S.definition S.define S.compound S.chunk S.program R.piece read_chars chars digits power builtin_names class_names run call
way_77 = refl

way_78 : run One (codes "for i in [1, 2]:\n    try: 1 // 0\n    except: continue\n    print('no')") empty ≡ ran_over Done [] ((codes "i", integer (pos 2)) ∷ []) (list (integer (pos 1) ∷ integer (pos 2) ∷ []) ∷ exception 11 (text (codes "division by zero") ∷ []) ∷ exception 11 (text (codes "division by zero") ∷ []) ∷ []) (codes "i" ∷ []) 18
unfolding reserved_marks delimiter operator numeral Q.escape Q.item Q.closes Q.body Q.quoted token_piece lexeme cut indented begin bracket step layout encode_utf8 code_of E.keyword_begins E.another E.argument E.attribute E.call E.slice_after E.item_or_slice E.trailer E.parenthesised E.list E.pair E.dict E.atom E.primary_parts E.primary E.power E.unary_level E.term E.sum E.compared E.negated_level E.conjunction E.disjunction E.expr_level E.exprs_level E.phrase S.primary_at S.another_simple S.raise S.return S.assertion S.delete S.global S.import S.update_of S.assignment_of S.update_or_assignment S.simple S.simples S.line S.block S.block_after S.arm S.choice S.while S.for S.caught S.handler S.handled S.finished S.try S.parameter S.definition S.define S.compound S.chunk S.program R.piece read_chars chars digits power builtin_names class_names run call
way_78 = refl

way_79 : run One (codes "while 1:\n    try: 1 // 0\n    finally: break\n1") empty ≡ ran Done (shown (codes "1") ∷ []) [] [] 12
unfolding reserved_marks delimiter operator numeral Q.escape Q.item Q.closes Q.body Q.quoted token_piece lexeme cut indented begin bracket step layout encode_utf8 code_of E.keyword_begins E.another E.argument E.attribute E.call E.slice_after E.item_or_slice E.trailer E.parenthesised E.list E.pair E.dict E.atom E.primary_parts E.primary E.power E.unary_level E.term E.sum E.compared E.negated_level E.conjunction E.disjunction E.expr_level E.exprs_level E.phrase S.primary_at S.another_simple S.raise S.return S.assertion S.delete S.global S.import S.update_of S.assignment_of S.update_or_assignment S.simple S.simples S.line S.block S.block_after S.arm S.choice S.while S.for S.caught S.handler S.handled S.finished S.try S.parameter S.definition S.define S.compound S.chunk S.program R.piece read_chars chars digits power builtin_names class_names run call
way_79 = refl

way_80 : run One (codes "try: 1 // 0\nexcept: 1 // 0\nfinally: print('f')") empty ≡ ran_over Raised (stream (codes "f\n") ∷ fault (codes "ZeroDivisionError") (codes "division by zero") ∷ []) [] (exception 11 (text (codes "division by zero") ∷ []) ∷ []) (codes "print" ∷ []) 32
unfolding reserved_marks delimiter operator numeral Q.escape Q.item Q.closes Q.body Q.quoted token_piece lexeme cut indented begin bracket step layout encode_utf8 code_of E.keyword_begins E.another E.argument E.attribute E.call E.slice_after E.item_or_slice E.trailer E.parenthesised E.list E.pair E.dict E.atom E.primary_parts E.primary E.power E.unary_level E.term E.sum E.compared E.negated_level E.conjunction E.disjunction E.expr_level E.exprs_level E.phrase S.primary_at S.another_simple S.raise S.return S.assertion S.delete S.global S.import S.update_of S.assignment_of S.update_or_assignment S.simple S.simples S.line S.block S.block_after S.arm S.choice S.while S.for S.caught S.handler S.handled S.finished S.try S.parameter S.definition S.define S.compound S.chunk S.program R.piece read_chars chars digits power builtin_names class_names run call
way_80 = refl

way_81 : run One (codes "try: pass\nfinally: x") empty ≡ ran Raised (fault (codes "NameError") (codes "name 'x' is not defined") ∷ []) [] (codes "x" ∷ []) 28
unfolding reserved_marks delimiter operator numeral Q.escape Q.item Q.closes Q.body Q.quoted token_piece lexeme cut indented begin bracket step layout encode_utf8 code_of E.keyword_begins E.another E.argument E.attribute E.call E.slice_after E.item_or_slice E.trailer E.parenthesised E.list E.pair E.dict E.atom E.primary_parts E.primary E.power E.unary_level E.term E.sum E.compared E.negated_level E.conjunction E.disjunction E.expr_level E.exprs_level E.phrase S.primary_at S.another_simple S.raise S.return S.assertion S.delete S.global S.import S.update_of S.assignment_of S.update_or_assignment S.simple S.simples S.line S.block S.block_after S.arm S.choice S.while S.for S.caught S.handler S.handled S.finished S.try S.parameter S.definition S.define S.compound S.chunk S.program R.piece read_chars chars digits power builtin_names class_names run call
way_81 = refl

way_82 : run One (codes "try: x\nfinally: y // 1") empty ≡ ran Raised (fault (codes "NameError") (codes "name 'y' is not defined") ∷ []) [] (codes "x" ∷ codes "y" ∷ []) 29
unfolding reserved_marks delimiter operator numeral Q.escape Q.item Q.closes Q.body Q.quoted token_piece lexeme cut indented begin bracket step layout encode_utf8 code_of E.keyword_begins E.another E.argument E.attribute E.call E.slice_after E.item_or_slice E.trailer E.parenthesised E.list E.pair E.dict E.atom E.primary_parts E.primary E.power E.unary_level E.term E.sum E.compared E.negated_level E.conjunction E.disjunction E.expr_level E.exprs_level E.phrase S.primary_at S.another_simple S.raise S.return S.assertion S.delete S.global S.import S.update_of S.assignment_of S.update_or_assignment S.simple S.simples S.line S.block S.block_after S.arm S.choice S.while S.for S.caught S.handler S.handled S.finished S.try S.parameter S.definition S.define S.compound S.chunk S.program R.piece read_chars chars digits power builtin_names class_names run call
way_82 = refl

way_83 : run One (codes "try:\n    try: x\n    except NameError: raise\nexcept Exception as e: print(e)") empty ≡ ran_over Done (stream (codes "name 'x' is not defined\n") ∷ []) [] (exception 17 (text (codes "name 'x' is not defined") ∷ []) ∷ []) (codes "Exception" ∷ codes "NameError" ∷ codes "e" ∷ codes "print" ∷ codes "x" ∷ []) 36
unfolding reserved_marks delimiter operator numeral Q.escape Q.item Q.closes Q.body Q.quoted token_piece lexeme cut indented begin bracket step layout encode_utf8 code_of E.keyword_begins E.another E.argument E.attribute E.call E.slice_after E.item_or_slice E.trailer E.parenthesised E.list E.pair E.dict E.atom E.primary_parts E.primary E.power E.unary_level E.term E.sum E.compared E.negated_level E.conjunction E.disjunction E.expr_level E.exprs_level E.phrase S.primary_at S.another_simple S.raise S.return S.assertion S.delete S.global S.import S.update_of S.assignment_of S.update_or_assignment S.simple S.simples S.line S.block S.block_after S.arm S.choice S.while S.for S.caught S.handler S.handled S.finished S.try S.parameter S.definition S.define S.compound S.chunk S.program R.piece read_chars chars digits power builtin_names class_names run call
way_83 = refl

way_84 : run One (codes "try:\n    try: {}[0]\n    except Exception as e: x = e; raise\nexcept Exception as f: print(f is x)") empty ≡ ran_over Done (stream (codes "True\n") ∷ []) ((codes "x", node 1) ∷ []) (dict [] ∷ exception 16 (integer (pos 0) ∷ []) ∷ []) (codes "Exception" ∷ codes "e" ∷ codes "f" ∷ codes "print" ∷ codes "x" ∷ []) 22
unfolding reserved_marks delimiter operator numeral Q.escape Q.item Q.closes Q.body Q.quoted token_piece lexeme cut indented begin bracket step layout encode_utf8 code_of E.keyword_begins E.another E.argument E.attribute E.call E.slice_after E.item_or_slice E.trailer E.parenthesised E.list E.pair E.dict E.atom E.primary_parts E.primary E.power E.unary_level E.term E.sum E.compared E.negated_level E.conjunction E.disjunction E.expr_level E.exprs_level E.phrase S.primary_at S.another_simple S.raise S.return S.assertion S.delete S.global S.import S.update_of S.assignment_of S.update_or_assignment S.simple S.simples S.line S.block S.block_after S.arm S.choice S.while S.for S.caught S.handler S.handled S.finished S.try S.parameter S.definition S.define S.compound S.chunk S.program R.piece read_chars chars digits power builtin_names class_names run call
way_84 = refl

way_85 : run One (codes "try: 1 // 0\nexcept Exception:\n    try: x\n    except Exception: pass\n    raise") empty ≡ ran_over Raised (fault (codes "ZeroDivisionError") (codes "division by zero") ∷ []) [] (exception 11 (text (codes "division by zero") ∷ []) ∷ exception 17 (text (codes "name 'x' is not defined") ∷ []) ∷ []) (codes "Exception" ∷ codes "x" ∷ []) 29
unfolding reserved_marks delimiter operator numeral Q.escape Q.item Q.closes Q.body Q.quoted token_piece lexeme cut indented begin bracket step layout encode_utf8 code_of E.keyword_begins E.another E.argument E.attribute E.call E.slice_after E.item_or_slice E.trailer E.parenthesised E.list E.pair E.dict E.atom E.primary_parts E.primary E.power E.unary_level E.term E.sum E.compared E.negated_level E.conjunction E.disjunction E.expr_level E.exprs_level E.phrase S.primary_at S.another_simple S.raise S.return S.assertion S.delete S.global S.import S.update_of S.assignment_of S.update_or_assignment S.simple S.simples S.line S.block S.block_after S.arm S.choice S.while S.for S.caught S.handler S.handled S.finished S.try S.parameter S.definition S.define S.compound S.chunk S.program R.piece read_chars chars digits power builtin_names class_names run call
way_85 = refl

way_86 : run One (codes "def f():\n    try: return {}[0]\n    except Exception as e: return e\nf()") empty ≡ ran_over Done (shown (codes "KeyError(0)") ∷ []) ((codes "f", node 0) ∷ []) (function One (codes "def f():\n    try: return {}[0]\n    except Exception as e: return e") [] ∷ dict [] ∷ exception 16 (integer (pos 0) ∷ []) ∷ []) (codes "Exception" ∷ codes "f" ∷ []) 23
unfolding reserved_marks delimiter operator numeral Q.escape Q.item Q.closes Q.body Q.quoted token_piece lexeme cut indented begin bracket step layout encode_utf8 code_of E.keyword_begins E.another E.argument E.attribute E.call E.slice_after E.item_or_slice E.trailer E.parenthesised E.list E.pair E.dict E.atom E.primary_parts E.primary E.power E.unary_level E.term E.sum E.compared E.negated_level E.conjunction E.disjunction E.expr_level E.exprs_level E.phrase S.primary_at S.another_simple S.raise S.return S.assertion S.delete S.global S.import S.update_of S.assignment_of S.update_or_assignment S.simple S.simples S.line S.block S.block_after S.arm S.choice S.while S.for S.caught S.handler S.handled S.finished S.try S.parameter S.definition S.define S.compound S.chunk S.program R.piece read_chars chars digits power builtin_names class_names run call
way_86 = refl

way_87 : run One (codes "def f():\n    try: return 1 // 0\n    except Exception: return 'h'\n    else: return 'e'\nf()") empty ≡ ran_over Done (shown (codes "'h'") ∷ []) ((codes "f", node 0) ∷ []) (function One (codes "def f():\n    try: return 1 // 0\n    except Exception: return 'h'\n    else: return 'e'") [] ∷ exception 11 (text (codes "division by zero") ∷ []) ∷ []) (codes "Exception" ∷ codes "f" ∷ []) 15
unfolding reserved_marks delimiter operator numeral Q.escape Q.item Q.closes Q.body Q.quoted token_piece lexeme cut indented begin bracket step layout encode_utf8 code_of E.keyword_begins E.another E.argument E.attribute E.call E.slice_after E.item_or_slice E.trailer E.parenthesised E.list E.pair E.dict E.atom E.primary_parts E.primary E.power E.unary_level E.term E.sum E.compared E.negated_level E.conjunction E.disjunction E.expr_level E.exprs_level E.phrase S.primary_at S.another_simple S.raise S.return S.assertion S.delete S.global S.import S.update_of S.assignment_of S.update_or_assignment S.simple S.simples S.line S.block S.block_after S.arm S.choice S.while S.for S.caught S.handler S.handled S.finished S.try S.parameter S.definition S.define S.compound S.chunk S.program R.piece read_chars chars digits power builtin_names class_names run call
way_87 = refl

way_88 : run One (codes "try: pass\nexcept: pass\nelse: 1 // 0") empty ≡ ran Raised (fault (codes "ZeroDivisionError") (codes "division by zero") ∷ []) [] [] 23
unfolding reserved_marks delimiter operator numeral Q.escape Q.item Q.closes Q.body Q.quoted token_piece lexeme cut indented begin bracket step layout encode_utf8 code_of E.keyword_begins E.another E.argument E.attribute E.call E.slice_after E.item_or_slice E.trailer E.parenthesised E.list E.pair E.dict E.atom E.primary_parts E.primary E.power E.unary_level E.term E.sum E.compared E.negated_level E.conjunction E.disjunction E.expr_level E.exprs_level E.phrase S.primary_at S.another_simple S.raise S.return S.assertion S.delete S.global S.import S.update_of S.assignment_of S.update_or_assignment S.simple S.simples S.line S.block S.block_after S.arm S.choice S.while S.for S.caught S.handler S.handled S.finished S.try S.parameter S.definition S.define S.compound S.chunk S.program R.piece read_chars chars digits power builtin_names class_names run call
way_88 = refl

way_89 : run One (codes "for i in [1]:\n    try: pass\n    except: pass\n    else: break\ni") empty ≡ ran_over Done (shown (codes "1") ∷ []) ((codes "i", integer (pos 1)) ∷ []) (list (integer (pos 1) ∷ []) ∷ []) (codes "i" ∷ []) 10
unfolding reserved_marks delimiter operator numeral Q.escape Q.item Q.closes Q.body Q.quoted token_piece lexeme cut indented begin bracket step layout encode_utf8 code_of E.keyword_begins E.another E.argument E.attribute E.call E.slice_after E.item_or_slice E.trailer E.parenthesised E.list E.pair E.dict E.atom E.primary_parts E.primary E.power E.unary_level E.term E.sum E.compared E.negated_level E.conjunction E.disjunction E.expr_level E.exprs_level E.phrase S.primary_at S.another_simple S.raise S.return S.assertion S.delete S.global S.import S.update_of S.assignment_of S.update_or_assignment S.simple S.simples S.line S.block S.block_after S.arm S.choice S.while S.for S.caught S.handler S.handled S.finished S.try S.parameter S.definition S.define S.compound S.chunk S.program R.piece read_chars chars digits power builtin_names class_names run call
way_89 = refl

way_90 : run One (codes "try:\n    x = 1\n    1 // 0\nexcept: pass\nx") empty ≡ ran_over Done (shown (codes "1") ∷ []) ((codes "x", integer (pos 1)) ∷ []) (exception 11 (text (codes "division by zero") ∷ []) ∷ []) (codes "x" ∷ []) 11
unfolding reserved_marks delimiter operator numeral Q.escape Q.item Q.closes Q.body Q.quoted token_piece lexeme cut indented begin bracket step layout encode_utf8 code_of E.keyword_begins E.another E.argument E.attribute E.call E.slice_after E.item_or_slice E.trailer E.parenthesised E.list E.pair E.dict E.atom E.primary_parts E.primary E.power E.unary_level E.term E.sum E.compared E.negated_level E.conjunction E.disjunction E.expr_level E.exprs_level E.phrase S.primary_at S.another_simple S.raise S.return S.assertion S.delete S.global S.import S.update_of S.assignment_of S.update_or_assignment S.simple S.simples S.line S.block S.block_after S.arm S.choice S.while S.for S.caught S.handler S.handled S.finished S.try S.parameter S.definition S.define S.compound S.chunk S.program R.piece read_chars chars digits power builtin_names class_names run call
way_90 = refl

way_91 : run One (codes "raise ValueError('x', 1)") empty ≡ ran_over Raised (fault (codes "ValueError") (codes "('x', 1)") ∷ []) [] (exception 24 (text (codes "x") ∷ integer (pos 1) ∷ []) ∷ []) (codes "ValueError" ∷ []) 13
unfolding reserved_marks delimiter operator numeral Q.escape Q.item Q.closes Q.body Q.quoted token_piece lexeme cut indented begin bracket step layout encode_utf8 code_of E.keyword_begins E.another E.argument E.attribute E.call E.slice_after E.item_or_slice E.trailer E.parenthesised E.list E.pair E.dict E.atom E.primary_parts E.primary E.power E.unary_level E.term E.sum E.compared E.negated_level E.conjunction E.disjunction E.expr_level E.exprs_level E.phrase S.primary_at S.another_simple S.raise S.return S.assertion S.delete S.global S.import S.update_of S.assignment_of S.update_or_assignment S.simple S.simples S.line S.block S.block_after S.arm S.choice S.while S.for S.caught S.handler S.handled S.finished S.try S.parameter S.definition S.define S.compound S.chunk S.program R.piece read_chars chars digits power builtin_names class_names run call
way_91 = refl

way_92 : run One (codes "raise ValueError") empty ≡ ran_over Raised (fault (codes "ValueError") (codes "") ∷ []) [] (exception 24 [] ∷ []) (codes "ValueError" ∷ []) 2
unfolding reserved_marks delimiter operator numeral Q.escape Q.item Q.closes Q.body Q.quoted token_piece lexeme cut indented begin bracket step layout encode_utf8 code_of E.keyword_begins E.another E.argument E.attribute E.call E.slice_after E.item_or_slice E.trailer E.parenthesised E.list E.pair E.dict E.atom E.primary_parts E.primary E.power E.unary_level E.term E.sum E.compared E.negated_level E.conjunction E.disjunction E.expr_level E.exprs_level E.phrase S.primary_at S.another_simple S.raise S.return S.assertion S.delete S.global S.import S.update_of S.assignment_of S.update_or_assignment S.simple S.simples S.line S.block S.block_after S.arm S.choice S.while S.for S.caught S.handler S.handled S.finished S.try S.parameter S.definition S.define S.compound S.chunk S.program R.piece read_chars chars digits power builtin_names class_names run call
way_92 = refl

way_93 : run One (codes "raise ValueError()") empty ≡ ran_over Raised (fault (codes "ValueError") (codes "") ∷ []) [] (exception 24 [] ∷ []) (codes "ValueError" ∷ []) 3
unfolding reserved_marks delimiter operator numeral Q.escape Q.item Q.closes Q.body Q.quoted token_piece lexeme cut indented begin bracket step layout encode_utf8 code_of E.keyword_begins E.another E.argument E.attribute E.call E.slice_after E.item_or_slice E.trailer E.parenthesised E.list E.pair E.dict E.atom E.primary_parts E.primary E.power E.unary_level E.term E.sum E.compared E.negated_level E.conjunction E.disjunction E.expr_level E.exprs_level E.phrase S.primary_at S.another_simple S.raise S.return S.assertion S.delete S.global S.import S.update_of S.assignment_of S.update_or_assignment S.simple S.simples S.line S.block S.block_after S.arm S.choice S.while S.for S.caught S.handler S.handled S.finished S.try S.parameter S.definition S.define S.compound S.chunk S.program R.piece read_chars chars digits power builtin_names class_names run call
way_93 = refl

way_94 : run One (codes "raise KeyError('k')") empty ≡ ran_over Raised (fault (codes "KeyError") (codes "'k'") ∷ []) [] (exception 16 (text (codes "k") ∷ []) ∷ []) (codes "KeyError" ∷ []) 8
unfolding reserved_marks delimiter operator numeral Q.escape Q.item Q.closes Q.body Q.quoted token_piece lexeme cut indented begin bracket step layout encode_utf8 code_of E.keyword_begins E.another E.argument E.attribute E.call E.slice_after E.item_or_slice E.trailer E.parenthesised E.list E.pair E.dict E.atom E.primary_parts E.primary E.power E.unary_level E.term E.sum E.compared E.negated_level E.conjunction E.disjunction E.expr_level E.exprs_level E.phrase S.primary_at S.another_simple S.raise S.return S.assertion S.delete S.global S.import S.update_of S.assignment_of S.update_or_assignment S.simple S.simples S.line S.block S.block_after S.arm S.choice S.while S.for S.caught S.handler S.handled S.finished S.try S.parameter S.definition S.define S.compound S.chunk S.program R.piece read_chars chars digits power builtin_names class_names run call
way_94 = refl

way_95 : run One (codes "raise KeyError((1,))") empty ≡ ran_over Raised (fault (codes "KeyError") (codes "(1,)") ∷ []) [] (tuple (integer (pos 1) ∷ []) ∷ exception 16 (node 0 ∷ []) ∷ []) (codes "KeyError" ∷ []) 10
unfolding reserved_marks delimiter operator numeral Q.escape Q.item Q.closes Q.body Q.quoted token_piece lexeme cut indented begin bracket step layout encode_utf8 code_of E.keyword_begins E.another E.argument E.attribute E.call E.slice_after E.item_or_slice E.trailer E.parenthesised E.list E.pair E.dict E.atom E.primary_parts E.primary E.power E.unary_level E.term E.sum E.compared E.negated_level E.conjunction E.disjunction E.expr_level E.exprs_level E.phrase S.primary_at S.another_simple S.raise S.return S.assertion S.delete S.global S.import S.update_of S.assignment_of S.update_or_assignment S.simple S.simples S.line S.block S.block_after S.arm S.choice S.while S.for S.caught S.handler S.handled S.finished S.try S.parameter S.definition S.define S.compound S.chunk S.program R.piece read_chars chars digits power builtin_names class_names run call
way_95 = refl

way_96 : run One (codes "raise ValueError([1])") empty ≡ ran_over Raised (fault (codes "ValueError") (codes "[1]") ∷ []) [] (list (integer (pos 1) ∷ []) ∷ exception 24 (node 0 ∷ []) ∷ []) (codes "ValueError" ∷ []) 9
unfolding reserved_marks delimiter operator numeral Q.escape Q.item Q.closes Q.body Q.quoted token_piece lexeme cut indented begin bracket step layout encode_utf8 code_of E.keyword_begins E.another E.argument E.attribute E.call E.slice_after E.item_or_slice E.trailer E.parenthesised E.list E.pair E.dict E.atom E.primary_parts E.primary E.power E.unary_level E.term E.sum E.compared E.negated_level E.conjunction E.disjunction E.expr_level E.exprs_level E.phrase S.primary_at S.another_simple S.raise S.return S.assertion S.delete S.global S.import S.update_of S.assignment_of S.update_or_assignment S.simple S.simples S.line S.block S.block_after S.arm S.choice S.while S.for S.caught S.handler S.handled S.finished S.try S.parameter S.definition S.define S.compound S.chunk S.program R.piece read_chars chars digits power builtin_names class_names run call
way_96 = refl

way_97 : run One (codes "raise 5") empty ≡ ran Raised (fault (codes "TypeError") (codes "exceptions must be exception classes or objects") ∷ []) [] [] 50
unfolding reserved_marks delimiter operator numeral Q.escape Q.item Q.closes Q.body Q.quoted token_piece lexeme cut indented begin bracket step layout encode_utf8 code_of E.keyword_begins E.another E.argument E.attribute E.call E.slice_after E.item_or_slice E.trailer E.parenthesised E.list E.pair E.dict E.atom E.primary_parts E.primary E.power E.unary_level E.term E.sum E.compared E.negated_level E.conjunction E.disjunction E.expr_level E.exprs_level E.phrase S.primary_at S.another_simple S.raise S.return S.assertion S.delete S.global S.import S.update_of S.assignment_of S.update_or_assignment S.simple S.simples S.line S.block S.block_after S.arm S.choice S.while S.for S.caught S.handler S.handled S.finished S.try S.parameter S.definition S.define S.compound S.chunk S.program R.piece read_chars chars digits power builtin_names class_names run call
way_97 = refl

way_98 : run One (codes "raise None") empty ≡ ran Raised (fault (codes "TypeError") (codes "exceptions must be exception classes or objects") ∷ []) [] [] 50
unfolding reserved_marks delimiter operator numeral Q.escape Q.item Q.closes Q.body Q.quoted token_piece lexeme cut indented begin bracket step layout encode_utf8 code_of E.keyword_begins E.another E.argument E.attribute E.call E.slice_after E.item_or_slice E.trailer E.parenthesised E.list E.pair E.dict E.atom E.primary_parts E.primary E.power E.unary_level E.term E.sum E.compared E.negated_level E.conjunction E.disjunction E.expr_level E.exprs_level E.phrase S.primary_at S.another_simple S.raise S.return S.assertion S.delete S.global S.import S.update_of S.assignment_of S.update_or_assignment S.simple S.simples S.line S.block S.block_after S.arm S.choice S.while S.for S.caught S.handler S.handled S.finished S.try S.parameter S.definition S.define S.compound S.chunk S.program R.piece read_chars chars digits power builtin_names class_names run call
way_98 = refl

way_99 : run One (codes "raise print") empty ≡ ran Raised (fault (codes "TypeError") (codes "exceptions must be exception classes or objects") ∷ []) [] (codes "print" ∷ []) 50
unfolding reserved_marks delimiter operator numeral Q.escape Q.item Q.closes Q.body Q.quoted token_piece lexeme cut indented begin bracket step layout encode_utf8 code_of E.keyword_begins E.another E.argument E.attribute E.call E.slice_after E.item_or_slice E.trailer E.parenthesised E.list E.pair E.dict E.atom E.primary_parts E.primary E.power E.unary_level E.term E.sum E.compared E.negated_level E.conjunction E.disjunction E.expr_level E.exprs_level E.phrase S.primary_at S.another_simple S.raise S.return S.assertion S.delete S.global S.import S.update_of S.assignment_of S.update_or_assignment S.simple S.simples S.line S.block S.block_after S.arm S.choice S.while S.for S.caught S.handler S.handled S.finished S.try S.parameter S.definition S.define S.compound S.chunk S.program R.piece read_chars chars digits power builtin_names class_names run call
way_99 = refl

way_100 : run One (codes "raise (ValueError,)") empty ≡ ran_over Raised (fault (codes "TypeError") (codes "exceptions must be exception classes or objects") ∷ []) [] (tuple (class 24 ∷ []) ∷ []) (codes "ValueError" ∷ []) 51
unfolding reserved_marks delimiter operator numeral Q.escape Q.item Q.closes Q.body Q.quoted token_piece lexeme cut indented begin bracket step layout encode_utf8 code_of E.keyword_begins E.another E.argument E.attribute E.call E.slice_after E.item_or_slice E.trailer E.parenthesised E.list E.pair E.dict E.atom E.primary_parts E.primary E.power E.unary_level E.term E.sum E.compared E.negated_level E.conjunction E.disjunction E.expr_level E.exprs_level E.phrase S.primary_at S.another_simple S.raise S.return S.assertion S.delete S.global S.import S.update_of S.assignment_of S.update_or_assignment S.simple S.simples S.line S.block S.block_after S.arm S.choice S.while S.for S.caught S.handler S.handled S.finished S.try S.parameter S.definition S.define S.compound S.chunk S.program R.piece read_chars chars digits power builtin_names class_names run call
way_100 = refl

way_101 : run One (codes "x = ValueError('a'); raise x") empty ≡ ran_over Raised (fault (codes "ValueError") (codes "a") ∷ []) ((codes "x", node 0) ∷ []) (exception 24 (text (codes "a") ∷ []) ∷ []) (codes "ValueError" ∷ codes "x" ∷ []) 8
unfolding reserved_marks delimiter operator numeral Q.escape Q.item Q.closes Q.body Q.quoted token_piece lexeme cut indented begin bracket step layout encode_utf8 code_of E.keyword_begins E.another E.argument E.attribute E.call E.slice_after E.item_or_slice E.trailer E.parenthesised E.list E.pair E.dict E.atom E.primary_parts E.primary E.power E.unary_level E.term E.sum E.compared E.negated_level E.conjunction E.disjunction E.expr_level E.exprs_level E.phrase S.primary_at S.another_simple S.raise S.return S.assertion S.delete S.global S.import S.update_of S.assignment_of S.update_or_assignment S.simple S.simples S.line S.block S.block_after S.arm S.choice S.while S.for S.caught S.handler S.handled S.finished S.try S.parameter S.definition S.define S.compound S.chunk S.program R.piece read_chars chars digits power builtin_names class_names run call
way_101 = refl

way_102 : run One (codes "x = ValueError('a')\ntry: raise x\nexcept ValueError as e: print(e is x, e.args)") empty ≡ ran_over Done (stream (codes "True ('a',)\n") ∷ []) ((codes "x", node 0) ∷ []) (exception 24 (text (codes "a") ∷ []) ∷ tuple (text (codes "a") ∷ []) ∷ []) (codes "ValueError" ∷ codes "e" ∷ codes "print" ∷ codes "x" ∷ []) 28
unfolding reserved_marks delimiter operator numeral Q.escape Q.item Q.closes Q.body Q.quoted token_piece lexeme cut indented begin bracket step layout encode_utf8 code_of E.keyword_begins E.another E.argument E.attribute E.call E.slice_after E.item_or_slice E.trailer E.parenthesised E.list E.pair E.dict E.atom E.primary_parts E.primary E.power E.unary_level E.term E.sum E.compared E.negated_level E.conjunction E.disjunction E.expr_level E.exprs_level E.phrase S.primary_at S.another_simple S.raise S.return S.assertion S.delete S.global S.import S.update_of S.assignment_of S.update_or_assignment S.simple S.simples S.line S.block S.block_after S.arm S.choice S.while S.for S.caught S.handler S.handled S.finished S.try S.parameter S.definition S.define S.compound S.chunk S.program R.piece read_chars chars digits power builtin_names class_names run call
way_102 = refl

way_103 : run One (codes "raise x") empty ≡ ran Raised (fault (codes "NameError") (codes "name 'x' is not defined") ∷ []) [] (codes "x" ∷ []) 26
unfolding reserved_marks delimiter operator numeral Q.escape Q.item Q.closes Q.body Q.quoted token_piece lexeme cut indented begin bracket step layout encode_utf8 code_of E.keyword_begins E.another E.argument E.attribute E.call E.slice_after E.item_or_slice E.trailer E.parenthesised E.list E.pair E.dict E.atom E.primary_parts E.primary E.power E.unary_level E.term E.sum E.compared E.negated_level E.conjunction E.disjunction E.expr_level E.exprs_level E.phrase S.primary_at S.another_simple S.raise S.return S.assertion S.delete S.global S.import S.update_of S.assignment_of S.update_or_assignment S.simple S.simples S.line S.block S.block_after S.arm S.choice S.while S.for S.caught S.handler S.handled S.finished S.try S.parameter S.definition S.define S.compound S.chunk S.program R.piece read_chars chars digits power builtin_names class_names run call
way_103 = refl

way_104 : run One (codes "raise ValueError(1 // 0)") empty ≡ ran Raised (fault (codes "ZeroDivisionError") (codes "division by zero") ∷ []) [] (codes "ValueError" ∷ []) 23
unfolding reserved_marks delimiter operator numeral Q.escape Q.item Q.closes Q.body Q.quoted token_piece lexeme cut indented begin bracket step layout encode_utf8 code_of E.keyword_begins E.another E.argument E.attribute E.call E.slice_after E.item_or_slice E.trailer E.parenthesised E.list E.pair E.dict E.atom E.primary_parts E.primary E.power E.unary_level E.term E.sum E.compared E.negated_level E.conjunction E.disjunction E.expr_level E.exprs_level E.phrase S.primary_at S.another_simple S.raise S.return S.assertion S.delete S.global S.import S.update_of S.assignment_of S.update_or_assignment S.simple S.simples S.line S.block S.block_after S.arm S.choice S.while S.for S.caught S.handler S.handled S.finished S.try S.parameter S.definition S.define S.compound S.chunk S.program R.piece read_chars chars digits power builtin_names class_names run call
way_104 = refl

way_105 : run One (codes "e = KeyError(1, 2)\ne") empty ≡ ran_over Done (shown (codes "KeyError(1, 2)") ∷ []) ((codes "e", node 0) ∷ []) (exception 16 (integer (pos 1) ∷ integer (pos 2) ∷ []) ∷ []) (codes "KeyError" ∷ codes "e" ∷ []) 21
unfolding reserved_marks delimiter operator numeral Q.escape Q.item Q.closes Q.body Q.quoted token_piece lexeme cut indented begin bracket step layout encode_utf8 code_of E.keyword_begins E.another E.argument E.attribute E.call E.slice_after E.item_or_slice E.trailer E.parenthesised E.list E.pair E.dict E.atom E.primary_parts E.primary E.power E.unary_level E.term E.sum E.compared E.negated_level E.conjunction E.disjunction E.expr_level E.exprs_level E.phrase S.primary_at S.another_simple S.raise S.return S.assertion S.delete S.global S.import S.update_of S.assignment_of S.update_or_assignment S.simple S.simples S.line S.block S.block_after S.arm S.choice S.while S.for S.caught S.handler S.handled S.finished S.try S.parameter S.definition S.define S.compound S.chunk S.program R.piece read_chars chars digits power builtin_names class_names run call
way_105 = refl

way_106 : run One (codes "ValueError('a') == ValueError('a')") empty ≡ ran_over Done (shown (codes "False") ∷ []) [] (exception 24 (text (codes "a") ∷ []) ∷ exception 24 (text (codes "a") ∷ []) ∷ []) (codes "ValueError" ∷ []) 13
unfolding reserved_marks delimiter operator numeral Q.escape Q.item Q.closes Q.body Q.quoted token_piece lexeme cut indented begin bracket step layout encode_utf8 code_of E.keyword_begins E.another E.argument E.attribute E.call E.slice_after E.item_or_slice E.trailer E.parenthesised E.list E.pair E.dict E.atom E.primary_parts E.primary E.power E.unary_level E.term E.sum E.compared E.negated_level E.conjunction E.disjunction E.expr_level E.exprs_level E.phrase S.primary_at S.another_simple S.raise S.return S.assertion S.delete S.global S.import S.update_of S.assignment_of S.update_or_assignment S.simple S.simples S.line S.block S.block_after S.arm S.choice S.while S.for S.caught S.handler S.handled S.finished S.try S.parameter S.definition S.define S.compound S.chunk S.program R.piece read_chars chars digits power builtin_names class_names run call
way_106 = refl

way_107 : run One (codes "ValueError(a=1)") empty ≡ ran Raised (fault (codes "TypeError") (codes "ValueError() got bad arguments") ∷ []) [] (codes "ValueError" ∷ []) 35
unfolding reserved_marks delimiter operator numeral Q.escape Q.item Q.closes Q.body Q.quoted token_piece lexeme cut indented begin bracket step layout encode_utf8 code_of E.keyword_begins E.another E.argument E.attribute E.call E.slice_after E.item_or_slice E.trailer E.parenthesised E.list E.pair E.dict E.atom E.primary_parts E.primary E.power E.unary_level E.term E.sum E.compared E.negated_level E.conjunction E.disjunction E.expr_level E.exprs_level E.phrase S.primary_at S.another_simple S.raise S.return S.assertion S.delete S.global S.import S.update_of S.assignment_of S.update_or_assignment S.simple S.simples S.line S.block S.block_after S.arm S.choice S.while S.for S.caught S.handler S.handled S.finished S.try S.parameter S.definition S.define S.compound S.chunk S.program R.piece read_chars chars digits power builtin_names class_names run call
way_107 = refl

way_108 : run One (codes "ValueError('a').args[0]") empty ≡ ran_over Done (shown (codes "'a'") ∷ []) [] (exception 24 (text (codes "a") ∷ []) ∷ tuple (text (codes "a") ∷ []) ∷ []) (codes "ValueError" ∷ []) 10
unfolding reserved_marks delimiter operator numeral Q.escape Q.item Q.closes Q.body Q.quoted token_piece lexeme cut indented begin bracket step layout encode_utf8 code_of E.keyword_begins E.another E.argument E.attribute E.call E.slice_after E.item_or_slice E.trailer E.parenthesised E.list E.pair E.dict E.atom E.primary_parts E.primary E.power E.unary_level E.term E.sum E.compared E.negated_level E.conjunction E.disjunction E.expr_level E.exprs_level E.phrase S.primary_at S.another_simple S.raise S.return S.assertion S.delete S.global S.import S.update_of S.assignment_of S.update_or_assignment S.simple S.simples S.line S.block S.block_after S.arm S.choice S.while S.for S.caught S.handler S.handled S.finished S.try S.parameter S.definition S.define S.compound S.chunk S.program R.piece read_chars chars digits power builtin_names class_names run call
way_108 = refl

way_109 : run One (codes "assert 1") empty ≡ ran Done [] [] [] 2
unfolding reserved_marks delimiter operator numeral Q.escape Q.item Q.closes Q.body Q.quoted token_piece lexeme cut indented begin bracket step layout encode_utf8 code_of E.keyword_begins E.another E.argument E.attribute E.call E.slice_after E.item_or_slice E.trailer E.parenthesised E.list E.pair E.dict E.atom E.primary_parts E.primary E.power E.unary_level E.term E.sum E.compared E.negated_level E.conjunction E.disjunction E.expr_level E.exprs_level E.phrase S.primary_at S.another_simple S.raise S.return S.assertion S.delete S.global S.import S.update_of S.assignment_of S.update_or_assignment S.simple S.simples S.line S.block S.block_after S.arm S.choice S.while S.for S.caught S.handler S.handled S.finished S.try S.parameter S.definition S.define S.compound S.chunk S.program R.piece read_chars chars digits power builtin_names class_names run call
way_109 = refl

way_110 : run One (codes "assert 0") empty ≡ ran Raised (fault (codes "AssertionError") (codes "") ∷ []) [] [] 2
unfolding reserved_marks delimiter operator numeral Q.escape Q.item Q.closes Q.body Q.quoted token_piece lexeme cut indented begin bracket step layout encode_utf8 code_of E.keyword_begins E.another E.argument E.attribute E.call E.slice_after E.item_or_slice E.trailer E.parenthesised E.list E.pair E.dict E.atom E.primary_parts E.primary E.power E.unary_level E.term E.sum E.compared E.negated_level E.conjunction E.disjunction E.expr_level E.exprs_level E.phrase S.primary_at S.another_simple S.raise S.return S.assertion S.delete S.global S.import S.update_of S.assignment_of S.update_or_assignment S.simple S.simples S.line S.block S.block_after S.arm S.choice S.while S.for S.caught S.handler S.handled S.finished S.try S.parameter S.definition S.define S.compound S.chunk S.program R.piece read_chars chars digits power builtin_names class_names run call
way_110 = refl

way_111 : run One (codes "assert [], 'm'") empty ≡ ran_over Raised (fault (codes "AssertionError") (codes "m") ∷ []) [] (list [] ∷ []) [] 5
unfolding reserved_marks delimiter operator numeral Q.escape Q.item Q.closes Q.body Q.quoted token_piece lexeme cut indented begin bracket step layout encode_utf8 code_of E.keyword_begins E.another E.argument E.attribute E.call E.slice_after E.item_or_slice E.trailer E.parenthesised E.list E.pair E.dict E.atom E.primary_parts E.primary E.power E.unary_level E.term E.sum E.compared E.negated_level E.conjunction E.disjunction E.expr_level E.exprs_level E.phrase S.primary_at S.another_simple S.raise S.return S.assertion S.delete S.global S.import S.update_of S.assignment_of S.update_or_assignment S.simple S.simples S.line S.block S.block_after S.arm S.choice S.while S.for S.caught S.handler S.handled S.finished S.try S.parameter S.definition S.define S.compound S.chunk S.program R.piece read_chars chars digits power builtin_names class_names run call
way_111 = refl

way_112 : run One (codes "assert 1, x") empty ≡ ran Done [] [] [] 2
unfolding reserved_marks delimiter operator numeral Q.escape Q.item Q.closes Q.body Q.quoted token_piece lexeme cut indented begin bracket step layout encode_utf8 code_of E.keyword_begins E.another E.argument E.attribute E.call E.slice_after E.item_or_slice E.trailer E.parenthesised E.list E.pair E.dict E.atom E.primary_parts E.primary E.power E.unary_level E.term E.sum E.compared E.negated_level E.conjunction E.disjunction E.expr_level E.exprs_level E.phrase S.primary_at S.another_simple S.raise S.return S.assertion S.delete S.global S.import S.update_of S.assignment_of S.update_or_assignment S.simple S.simples S.line S.block S.block_after S.arm S.choice S.while S.for S.caught S.handler S.handled S.finished S.try S.parameter S.definition S.define S.compound S.chunk S.program R.piece read_chars chars digits power builtin_names class_names run call
way_112 = refl

way_113 : run One (codes "assert 0, x") empty ≡ ran Raised (fault (codes "NameError") (codes "name 'x' is not defined") ∷ []) [] (codes "x" ∷ []) 27
unfolding reserved_marks delimiter operator numeral Q.escape Q.item Q.closes Q.body Q.quoted token_piece lexeme cut indented begin bracket step layout encode_utf8 code_of E.keyword_begins E.another E.argument E.attribute E.call E.slice_after E.item_or_slice E.trailer E.parenthesised E.list E.pair E.dict E.atom E.primary_parts E.primary E.power E.unary_level E.term E.sum E.compared E.negated_level E.conjunction E.disjunction E.expr_level E.exprs_level E.phrase S.primary_at S.another_simple S.raise S.return S.assertion S.delete S.global S.import S.update_of S.assignment_of S.update_or_assignment S.simple S.simples S.line S.block S.block_after S.arm S.choice S.while S.for S.caught S.handler S.handled S.finished S.try S.parameter S.definition S.define S.compound S.chunk S.program R.piece read_chars chars digits power builtin_names class_names run call
way_113 = refl

way_114 : run One (codes "assert x") empty ≡ ran Raised (fault (codes "NameError") (codes "name 'x' is not defined") ∷ []) [] (codes "x" ∷ []) 26
unfolding reserved_marks delimiter operator numeral Q.escape Q.item Q.closes Q.body Q.quoted token_piece lexeme cut indented begin bracket step layout encode_utf8 code_of E.keyword_begins E.another E.argument E.attribute E.call E.slice_after E.item_or_slice E.trailer E.parenthesised E.list E.pair E.dict E.atom E.primary_parts E.primary E.power E.unary_level E.term E.sum E.compared E.negated_level E.conjunction E.disjunction E.expr_level E.exprs_level E.phrase S.primary_at S.another_simple S.raise S.return S.assertion S.delete S.global S.import S.update_of S.assignment_of S.update_or_assignment S.simple S.simples S.line S.block S.block_after S.arm S.choice S.while S.for S.caught S.handler S.handled S.finished S.try S.parameter S.definition S.define S.compound S.chunk S.program R.piece read_chars chars digits power builtin_names class_names run call
way_114 = refl

way_115 : run One (codes "assert 0, [1, 'a']") empty ≡ ran_over Raised (fault (codes "AssertionError") (codes "[1, 'a']") ∷ []) [] (list (integer (pos 1) ∷ text (codes "a") ∷ []) ∷ []) [] 14
unfolding reserved_marks delimiter operator numeral Q.escape Q.item Q.closes Q.body Q.quoted token_piece lexeme cut indented begin bracket step layout encode_utf8 code_of E.keyword_begins E.another E.argument E.attribute E.call E.slice_after E.item_or_slice E.trailer E.parenthesised E.list E.pair E.dict E.atom E.primary_parts E.primary E.power E.unary_level E.term E.sum E.compared E.negated_level E.conjunction E.disjunction E.expr_level E.exprs_level E.phrase S.primary_at S.another_simple S.raise S.return S.assertion S.delete S.global S.import S.update_of S.assignment_of S.update_or_assignment S.simple S.simples S.line S.block S.block_after S.arm S.choice S.while S.for S.caught S.handler S.handled S.finished S.try S.parameter S.definition S.define S.compound S.chunk S.program R.piece read_chars chars digits power builtin_names class_names run call
way_115 = refl

way_116 : run One (codes "assert 0, ('a', 'b')") empty ≡ ran_over Raised (fault (codes "AssertionError") (codes "('a', 'b')") ∷ []) [] (tuple (text (codes "a") ∷ text (codes "b") ∷ []) ∷ []) [] 16
unfolding reserved_marks delimiter operator numeral Q.escape Q.item Q.closes Q.body Q.quoted token_piece lexeme cut indented begin bracket step layout encode_utf8 code_of E.keyword_begins E.another E.argument E.attribute E.call E.slice_after E.item_or_slice E.trailer E.parenthesised E.list E.pair E.dict E.atom E.primary_parts E.primary E.power E.unary_level E.term E.sum E.compared E.negated_level E.conjunction E.disjunction E.expr_level E.exprs_level E.phrase S.primary_at S.another_simple S.raise S.return S.assertion S.delete S.global S.import S.update_of S.assignment_of S.update_or_assignment S.simple S.simples S.line S.block S.block_after S.arm S.choice S.while S.for S.caught S.handler S.handled S.finished S.try S.parameter S.definition S.define S.compound S.chunk S.program R.piece read_chars chars digits power builtin_names class_names run call
way_116 = refl

way_117 : run One (codes "assert (0, 1)") empty ≡ ran_over Done [] [] (tuple (integer (pos 0) ∷ integer (pos 1) ∷ []) ∷ []) [] 4
unfolding reserved_marks delimiter operator numeral Q.escape Q.item Q.closes Q.body Q.quoted token_piece lexeme cut indented begin bracket step layout encode_utf8 code_of E.keyword_begins E.another E.argument E.attribute E.call E.slice_after E.item_or_slice E.trailer E.parenthesised E.list E.pair E.dict E.atom E.primary_parts E.primary E.power E.unary_level E.term E.sum E.compared E.negated_level E.conjunction E.disjunction E.expr_level E.exprs_level E.phrase S.primary_at S.another_simple S.raise S.return S.assertion S.delete S.global S.import S.update_of S.assignment_of S.update_or_assignment S.simple S.simples S.line S.block S.block_after S.arm S.choice S.while S.for S.caught S.handler S.handled S.finished S.try S.parameter S.definition S.define S.compound S.chunk S.program R.piece read_chars chars digits power builtin_names class_names run call
way_117 = refl

way_118 : run One (codes "try: assert 0, 5\nexcept AssertionError as e: print(e, e.args)") empty ≡ ran_over Done (stream (codes "5 (5,)\n") ∷ []) [] (exception 12 (integer (pos 5) ∷ []) ∷ tuple (integer (pos 5) ∷ []) ∷ []) (codes "AssertionError" ∷ codes "e" ∷ codes "print" ∷ []) 19
unfolding reserved_marks delimiter operator numeral Q.escape Q.item Q.closes Q.body Q.quoted token_piece lexeme cut indented begin bracket step layout encode_utf8 code_of E.keyword_begins E.another E.argument E.attribute E.call E.slice_after E.item_or_slice E.trailer E.parenthesised E.list E.pair E.dict E.atom E.primary_parts E.primary E.power E.unary_level E.term E.sum E.compared E.negated_level E.conjunction E.disjunction E.expr_level E.exprs_level E.phrase S.primary_at S.another_simple S.raise S.return S.assertion S.delete S.global S.import S.update_of S.assignment_of S.update_or_assignment S.simple S.simples S.line S.block S.block_after S.arm S.choice S.while S.for S.caught S.handler S.handled S.finished S.try S.parameter S.definition S.define S.compound S.chunk S.program R.piece read_chars chars digits power builtin_names class_names run call
way_118 = refl

way_119 : run One (codes "try: raise NotImplementedError\nexcept RuntimeError as e: e.args") empty ≡ ran_over Done [] [] (exception 20 [] ∷ tuple [] ∷ []) (codes "NotImplementedError" ∷ codes "RuntimeError" ∷ codes "e" ∷ []) 7
unfolding reserved_marks delimiter operator numeral Q.escape Q.item Q.closes Q.body Q.quoted token_piece lexeme cut indented begin bracket step layout encode_utf8 code_of E.keyword_begins E.another E.argument E.attribute E.call E.slice_after E.item_or_slice E.trailer E.parenthesised E.list E.pair E.dict E.atom E.primary_parts E.primary E.power E.unary_level E.term E.sum E.compared E.negated_level E.conjunction E.disjunction E.expr_level E.exprs_level E.phrase S.primary_at S.another_simple S.raise S.return S.assertion S.delete S.global S.import S.update_of S.assignment_of S.update_or_assignment S.simple S.simples S.line S.block S.block_after S.arm S.choice S.while S.for S.caught S.handler S.handled S.finished S.try S.parameter S.definition S.define S.compound S.chunk S.program R.piece read_chars chars digits power builtin_names class_names run call
way_119 = refl

way_120 : run One (codes "ValueError.a") empty ≡ ran Raised (fault (codes "AttributeError") (codes "'class' object has no attribute 'a'") ∷ []) [] (codes "ValueError" ∷ []) 39
unfolding reserved_marks delimiter operator numeral Q.escape Q.item Q.closes Q.body Q.quoted token_piece lexeme cut indented begin bracket step layout encode_utf8 code_of E.keyword_begins E.another E.argument E.attribute E.call E.slice_after E.item_or_slice E.trailer E.parenthesised E.list E.pair E.dict E.atom E.primary_parts E.primary E.power E.unary_level E.term E.sum E.compared E.negated_level E.conjunction E.disjunction E.expr_level E.exprs_level E.phrase S.primary_at S.another_simple S.raise S.return S.assertion S.delete S.global S.import S.update_of S.assignment_of S.update_or_assignment S.simple S.simples S.line S.block S.block_after S.arm S.choice S.while S.for S.caught S.handler S.handled S.finished S.try S.parameter S.definition S.define S.compound S.chunk S.program R.piece read_chars chars digits power builtin_names class_names run call
way_120 = refl

way_121 : run One (codes "ValueError().b") empty ≡ ran_over Raised (fault (codes "AttributeError") (codes "'ValueError' object has no attribute 'b'") ∷ []) [] (exception 24 [] ∷ []) (codes "ValueError" ∷ []) 45
unfolding reserved_marks delimiter operator numeral Q.escape Q.item Q.closes Q.body Q.quoted token_piece lexeme cut indented begin bracket step layout encode_utf8 code_of E.keyword_begins E.another E.argument E.attribute E.call E.slice_after E.item_or_slice E.trailer E.parenthesised E.list E.pair E.dict E.atom E.primary_parts E.primary E.power E.unary_level E.term E.sum E.compared E.negated_level E.conjunction E.disjunction E.expr_level E.exprs_level E.phrase S.primary_at S.another_simple S.raise S.return S.assertion S.delete S.global S.import S.update_of S.assignment_of S.update_or_assignment S.simple S.simples S.line S.block S.block_after S.arm S.choice S.while S.for S.caught S.handler S.handled S.finished S.try S.parameter S.definition S.define S.compound S.chunk S.program R.piece read_chars chars digits power builtin_names class_names run call
way_121 = refl

way_122 : run One (codes "ValueError") empty ≡ ran Done (shown (codes "<class 'ValueError'>") ∷ []) [] (codes "ValueError" ∷ []) 22
unfolding reserved_marks delimiter operator numeral Q.escape Q.item Q.closes Q.body Q.quoted token_piece lexeme cut indented begin bracket step layout encode_utf8 code_of E.keyword_begins E.another E.argument E.attribute E.call E.slice_after E.item_or_slice E.trailer E.parenthesised E.list E.pair E.dict E.atom E.primary_parts E.primary E.power E.unary_level E.term E.sum E.compared E.negated_level E.conjunction E.disjunction E.expr_level E.exprs_level E.phrase S.primary_at S.another_simple S.raise S.return S.assertion S.delete S.global S.import S.update_of S.assignment_of S.update_or_assignment S.simple S.simples S.line S.block S.block_after S.arm S.choice S.while S.for S.caught S.handler S.handled S.finished S.try S.parameter S.definition S.define S.compound S.chunk S.program R.piece read_chars chars digits power builtin_names class_names run call
way_122 = refl

way_123 : run One (codes "print(ValueError('x'), KeyError('x'), ValueError(), ValueError(1, 2))") empty ≡ ran_over Done (stream (codes "x 'x'  (1, 2)\n") ∷ []) [] (exception 24 (text (codes "x") ∷ []) ∷ exception 16 (text (codes "x") ∷ []) ∷ exception 24 [] ∷ exception 24 (integer (pos 1) ∷ integer (pos 2) ∷ []) ∷ []) (codes "KeyError" ∷ codes "ValueError" ∷ codes "print" ∷ []) 31
unfolding reserved_marks delimiter operator numeral Q.escape Q.item Q.closes Q.body Q.quoted token_piece lexeme cut indented begin bracket step layout encode_utf8 code_of E.keyword_begins E.another E.argument E.attribute E.call E.slice_after E.item_or_slice E.trailer E.parenthesised E.list E.pair E.dict E.atom E.primary_parts E.primary E.power E.unary_level E.term E.sum E.compared E.negated_level E.conjunction E.disjunction E.expr_level E.exprs_level E.phrase S.primary_at S.another_simple S.raise S.return S.assertion S.delete S.global S.import S.update_of S.assignment_of S.update_or_assignment S.simple S.simples S.line S.block S.block_after S.arm S.choice S.while S.for S.caught S.handler S.handled S.finished S.try S.parameter S.definition S.define S.compound S.chunk S.program R.piece read_chars chars digits power builtin_names class_names run call
way_123 = refl

way_124 : run One (codes "not ValueError()") empty ≡ ran_over Done (shown (codes "False") ∷ []) [] (exception 24 [] ∷ []) (codes "ValueError" ∷ []) 9
unfolding reserved_marks delimiter operator numeral Q.escape Q.item Q.closes Q.body Q.quoted token_piece lexeme cut indented begin bracket step layout encode_utf8 code_of E.keyword_begins E.another E.argument E.attribute E.call E.slice_after E.item_or_slice E.trailer E.parenthesised E.list E.pair E.dict E.atom E.primary_parts E.primary E.power E.unary_level E.term E.sum E.compared E.negated_level E.conjunction E.disjunction E.expr_level E.exprs_level E.phrase S.primary_at S.another_simple S.raise S.return S.assertion S.delete S.global S.import S.update_of S.assignment_of S.update_or_assignment S.simple S.simples S.line S.block S.block_after S.arm S.choice S.while S.for S.caught S.handler S.handled S.finished S.try S.parameter S.definition S.define S.compound S.chunk S.program R.piece read_chars chars digits power builtin_names class_names run call
way_124 = refl

way_125 : run One (codes "ValueError is ValueError, ValueError == KeyError") empty ≡ ran_over Done (shown (codes "(True, False)") ∷ []) [] (tuple (bool true ∷ bool false ∷ []) ∷ []) (codes "KeyError" ∷ codes "ValueError" ∷ []) 21
unfolding reserved_marks delimiter operator numeral Q.escape Q.item Q.closes Q.body Q.quoted token_piece lexeme cut indented begin bracket step layout encode_utf8 code_of E.keyword_begins E.another E.argument E.attribute E.call E.slice_after E.item_or_slice E.trailer E.parenthesised E.list E.pair E.dict E.atom E.primary_parts E.primary E.power E.unary_level E.term E.sum E.compared E.negated_level E.conjunction E.disjunction E.expr_level E.exprs_level E.phrase S.primary_at S.another_simple S.raise S.return S.assertion S.delete S.global S.import S.update_of S.assignment_of S.update_or_assignment S.simple S.simples S.line S.block S.block_after S.arm S.choice S.while S.for S.caught S.handler S.handled S.finished S.try S.parameter S.definition S.define S.compound S.chunk S.program R.piece read_chars chars digits power builtin_names class_names run call
way_125 = refl

way_126 : run One (codes "try: raise UnboundLocalError\nexcept NameError: print('n')") empty ≡ ran_over Done (stream (codes "n\n") ∷ []) [] (exception 18 [] ∷ []) (codes "NameError" ∷ codes "UnboundLocalError" ∷ codes "print" ∷ []) 10
unfolding reserved_marks delimiter operator numeral Q.escape Q.item Q.closes Q.body Q.quoted token_piece lexeme cut indented begin bracket step layout encode_utf8 code_of E.keyword_begins E.another E.argument E.attribute E.call E.slice_after E.item_or_slice E.trailer E.parenthesised E.list E.pair E.dict E.atom E.primary_parts E.primary E.power E.unary_level E.term E.sum E.compared E.negated_level E.conjunction E.disjunction E.expr_level E.exprs_level E.phrase S.primary_at S.another_simple S.raise S.return S.assertion S.delete S.global S.import S.update_of S.assignment_of S.update_or_assignment S.simple S.simples S.line S.block S.block_after S.arm S.choice S.while S.for S.caught S.handler S.handled S.finished S.try S.parameter S.definition S.define S.compound S.chunk S.program R.piece read_chars chars digits power builtin_names class_names run call
way_126 = refl

way_127 : run One (codes "try: raise RecursionError\nexcept (LookupError, RuntimeError): print('r')") empty ≡ ran_over Done (stream (codes "r\n") ∷ []) [] (exception 21 [] ∷ tuple (class 14 ∷ class 19 ∷ []) ∷ []) (codes "LookupError" ∷ codes "RecursionError" ∷ codes "RuntimeError" ∷ codes "print" ∷ []) 12
unfolding reserved_marks delimiter operator numeral Q.escape Q.item Q.closes Q.body Q.quoted token_piece lexeme cut indented begin bracket step layout encode_utf8 code_of E.keyword_begins E.another E.argument E.attribute E.call E.slice_after E.item_or_slice E.trailer E.parenthesised E.list E.pair E.dict E.atom E.primary_parts E.primary E.power E.unary_level E.term E.sum E.compared E.negated_level E.conjunction E.disjunction E.expr_level E.exprs_level E.phrase S.primary_at S.another_simple S.raise S.return S.assertion S.delete S.global S.import S.update_of S.assignment_of S.update_or_assignment S.simple S.simples S.line S.block S.block_after S.arm S.choice S.while S.for S.caught S.handler S.handled S.finished S.try S.parameter S.definition S.define S.compound S.chunk S.program R.piece read_chars chars digits power builtin_names class_names run call
way_127 = refl

way_128 : run One (codes "try: raise Exception\nexcept ValueError: print('no')") empty ≡ ran_over Raised (fault (codes "Exception") (codes "") ∷ []) [] (exception 8 [] ∷ []) (codes "Exception" ∷ codes "ValueError" ∷ []) 4
unfolding reserved_marks delimiter operator numeral Q.escape Q.item Q.closes Q.body Q.quoted token_piece lexeme cut indented begin bracket step layout encode_utf8 code_of E.keyword_begins E.another E.argument E.attribute E.call E.slice_after E.item_or_slice E.trailer E.parenthesised E.list E.pair E.dict E.atom E.primary_parts E.primary E.power E.unary_level E.term E.sum E.compared E.negated_level E.conjunction E.disjunction E.expr_level E.exprs_level E.phrase S.primary_at S.another_simple S.raise S.return S.assertion S.delete S.global S.import S.update_of S.assignment_of S.update_or_assignment S.simple S.simples S.line S.block S.block_after S.arm S.choice S.while S.for S.caught S.handler S.handled S.finished S.try S.parameter S.definition S.define S.compound S.chunk S.program R.piece read_chars chars digits power builtin_names class_names run call
way_128 = refl

way_129 : run One (codes "try: raise OverflowError\nexcept LookupError: print('no')") empty ≡ ran_over Raised (fault (codes "OverflowError") (codes "") ∷ []) [] (exception 10 [] ∷ []) (codes "LookupError" ∷ codes "OverflowError" ∷ []) 4
unfolding reserved_marks delimiter operator numeral Q.escape Q.item Q.closes Q.body Q.quoted token_piece lexeme cut indented begin bracket step layout encode_utf8 code_of E.keyword_begins E.another E.argument E.attribute E.call E.slice_after E.item_or_slice E.trailer E.parenthesised E.list E.pair E.dict E.atom E.primary_parts E.primary E.power E.unary_level E.term E.sum E.compared E.negated_level E.conjunction E.disjunction E.expr_level E.exprs_level E.phrase S.primary_at S.another_simple S.raise S.return S.assertion S.delete S.global S.import S.update_of S.assignment_of S.update_or_assignment S.simple S.simples S.line S.block S.block_after S.arm S.choice S.while S.for S.caught S.handler S.handled S.finished S.try S.parameter S.definition S.define S.compound S.chunk S.program R.piece read_chars chars digits power builtin_names class_names run call
way_129 = refl

way_130 : run One (codes "def f(): pass\nf.a = 1") empty ≡ ran_over Raised (fault (codes "AttributeError") (codes "'function' object has no attribute 'a'") ∷ []) ((codes "f", node 0) ∷ []) (function One (codes "def f(): pass") [] ∷ []) (codes "f" ∷ []) 43
unfolding reserved_marks delimiter operator numeral Q.escape Q.item Q.closes Q.body Q.quoted token_piece lexeme cut indented begin bracket step layout encode_utf8 code_of E.keyword_begins E.another E.argument E.attribute E.call E.slice_after E.item_or_slice E.trailer E.parenthesised E.list E.pair E.dict E.atom E.primary_parts E.primary E.power E.unary_level E.term E.sum E.compared E.negated_level E.conjunction E.disjunction E.expr_level E.exprs_level E.phrase S.primary_at S.another_simple S.raise S.return S.assertion S.delete S.global S.import S.update_of S.assignment_of S.update_or_assignment S.simple S.simples S.line S.block S.block_after S.arm S.choice S.while S.for S.caught S.handler S.handled S.finished S.try S.parameter S.definition S.define S.compound S.chunk S.program R.piece read_chars chars digits power builtin_names class_names run call
way_130 = refl

way_131 : run One (codes "x = ValueError([]); x.args[0].append(x); x") empty ≡ ran_over Done (shown (codes "ValueError([ValueError(...)])") ∷ []) ((codes "x", node 1) ∷ []) (list (node 1 ∷ []) ∷ exception 24 (node 0 ∷ []) ∷ tuple (node 0 ∷ []) ∷ []) (codes "ValueError" ∷ codes "x" ∷ []) 43
unfolding reserved_marks delimiter operator numeral Q.escape Q.item Q.closes Q.body Q.quoted token_piece lexeme cut indented begin bracket step layout encode_utf8 code_of E.keyword_begins E.another E.argument E.attribute E.call E.slice_after E.item_or_slice E.trailer E.parenthesised E.list E.pair E.dict E.atom E.primary_parts E.primary E.power E.unary_level E.term E.sum E.compared E.negated_level E.conjunction E.disjunction E.expr_level E.exprs_level E.phrase S.primary_at S.another_simple S.raise S.return S.assertion S.delete S.global S.import S.update_of S.assignment_of S.update_or_assignment S.simple S.simples S.line S.block S.block_after S.arm S.choice S.while S.for S.caught S.handler S.handled S.finished S.try S.parameter S.definition S.define S.compound S.chunk S.program R.piece read_chars chars digits power builtin_names class_names run call
way_131 = refl

way_132 : run One (codes "try: 1 // 0\nexcept Exception as e: x = e\nx") empty ≡ ran_over Done (shown (codes "ZeroDivisionError('division by zero')") ∷ []) ((codes "x", node 0) ∷ []) (exception 11 (text (codes "division by zero") ∷ []) ∷ []) (codes "Exception" ∷ codes "e" ∷ codes "x" ∷ []) 47
unfolding reserved_marks delimiter operator numeral Q.escape Q.item Q.closes Q.body Q.quoted token_piece lexeme cut indented begin bracket step layout encode_utf8 code_of E.keyword_begins E.another E.argument E.attribute E.call E.slice_after E.item_or_slice E.trailer E.parenthesised E.list E.pair E.dict E.atom E.primary_parts E.primary E.power E.unary_level E.term E.sum E.compared E.negated_level E.conjunction E.disjunction E.expr_level E.exprs_level E.phrase S.primary_at S.another_simple S.raise S.return S.assertion S.delete S.global S.import S.update_of S.assignment_of S.update_or_assignment S.simple S.simples S.line S.block S.block_after S.arm S.choice S.while S.for S.caught S.handler S.handled S.finished S.try S.parameter S.definition S.define S.compound S.chunk S.program R.piece read_chars chars digits power builtin_names class_names run call
way_132 = refl

way_133 : run One (codes "try: [][0]\nexcept LookupError as e: print(e)") empty ≡ ran_over Done (stream (codes "index out of range\n") ∷ []) [] (list [] ∷ exception 15 (text (codes "index out of range") ∷ []) ∷ []) (codes "LookupError" ∷ codes "e" ∷ codes "print" ∷ []) 30
unfolding reserved_marks delimiter operator numeral Q.escape Q.item Q.closes Q.body Q.quoted token_piece lexeme cut indented begin bracket step layout encode_utf8 code_of E.keyword_begins E.another E.argument E.attribute E.call E.slice_after E.item_or_slice E.trailer E.parenthesised E.list E.pair E.dict E.atom E.primary_parts E.primary E.power E.unary_level E.term E.sum E.compared E.negated_level E.conjunction E.disjunction E.expr_level E.exprs_level E.phrase S.primary_at S.another_simple S.raise S.return S.assertion S.delete S.global S.import S.update_of S.assignment_of S.update_or_assignment S.simple S.simples S.line S.block S.block_after S.arm S.choice S.while S.for S.caught S.handler S.handled S.finished S.try S.parameter S.definition S.define S.compound S.chunk S.program R.piece read_chars chars digits power builtin_names class_names run call
way_133 = refl

way_134 : run One (codes "def f(): pass\n{f: 1}") empty ≡ ran_over Raised (fault (codes "TypeError") (codes "unhashable key: 'function'") ∷ []) ((codes "f", node 0) ∷ []) (function One (codes "def f(): pass") [] ∷ []) (codes "f" ∷ []) 32
unfolding reserved_marks delimiter operator numeral Q.escape Q.item Q.closes Q.body Q.quoted token_piece lexeme cut indented begin bracket step layout encode_utf8 code_of E.keyword_begins E.another E.argument E.attribute E.call E.slice_after E.item_or_slice E.trailer E.parenthesised E.list E.pair E.dict E.atom E.primary_parts E.primary E.power E.unary_level E.term E.sum E.compared E.negated_level E.conjunction E.disjunction E.expr_level E.exprs_level E.phrase S.primary_at S.another_simple S.raise S.return S.assertion S.delete S.global S.import S.update_of S.assignment_of S.update_or_assignment S.simple S.simples S.line S.block S.block_after S.arm S.choice S.while S.for S.caught S.handler S.handled S.finished S.try S.parameter S.definition S.define S.compound S.chunk S.program R.piece read_chars chars digits power builtin_names class_names run call
way_134 = refl

way_135 : run One (codes "ValueError().args()") empty ≡ ran_over Raised (fault (codes "AttributeError") (codes "'ValueError' object has no attribute 'args'") ∷ []) [] (exception 24 [] ∷ []) (codes "ValueError" ∷ []) 49
unfolding reserved_marks delimiter operator numeral Q.escape Q.item Q.closes Q.body Q.quoted token_piece lexeme cut indented begin bracket step layout encode_utf8 code_of E.keyword_begins E.another E.argument E.attribute E.call E.slice_after E.item_or_slice E.trailer E.parenthesised E.list E.pair E.dict E.atom E.primary_parts E.primary E.power E.unary_level E.term E.sum E.compared E.negated_level E.conjunction E.disjunction E.expr_level E.exprs_level E.phrase S.primary_at S.another_simple S.raise S.return S.assertion S.delete S.global S.import S.update_of S.assignment_of S.update_or_assignment S.simple S.simples S.line S.block S.block_after S.arm S.choice S.while S.for S.caught S.handler S.handled S.finished S.try S.parameter S.definition S.define S.compound S.chunk S.program R.piece read_chars chars digits power builtin_names class_names run call
way_135 = refl

way_136 : run One (codes "ValueError('a').foo(1)") empty ≡ ran_over Raised (fault (codes "AttributeError") (codes "'ValueError' object has no attribute 'foo'") ∷ []) [] (exception 24 (text (codes "a") ∷ []) ∷ []) (codes "ValueError" ∷ []) 49
unfolding reserved_marks delimiter operator numeral Q.escape Q.item Q.closes Q.body Q.quoted token_piece lexeme cut indented begin bracket step layout encode_utf8 code_of E.keyword_begins E.another E.argument E.attribute E.call E.slice_after E.item_or_slice E.trailer E.parenthesised E.list E.pair E.dict E.atom E.primary_parts E.primary E.power E.unary_level E.term E.sum E.compared E.negated_level E.conjunction E.disjunction E.expr_level E.exprs_level E.phrase S.primary_at S.another_simple S.raise S.return S.assertion S.delete S.global S.import S.update_of S.assignment_of S.update_or_assignment S.simple S.simples S.line S.block S.block_after S.arm S.choice S.while S.for S.caught S.handler S.handled S.finished S.try S.parameter S.definition S.define S.compound S.chunk S.program R.piece read_chars chars digits power builtin_names class_names run call
way_136 = refl

way_137 : run One (codes "def f(): pass\nf.x(1)") empty ≡ ran_over Raised (fault (codes "AttributeError") (codes "'function' object has no attribute 'x'") ∷ []) ((codes "f", node 0) ∷ []) (function One (codes "def f(): pass") [] ∷ []) (codes "f" ∷ []) 44
unfolding reserved_marks delimiter operator numeral Q.escape Q.item Q.closes Q.body Q.quoted token_piece lexeme cut indented begin bracket step layout encode_utf8 code_of E.keyword_begins E.another E.argument E.attribute E.call E.slice_after E.item_or_slice E.trailer E.parenthesised E.list E.pair E.dict E.atom E.primary_parts E.primary E.power E.unary_level E.term E.sum E.compared E.negated_level E.conjunction E.disjunction E.expr_level E.exprs_level E.phrase S.primary_at S.another_simple S.raise S.return S.assertion S.delete S.global S.import S.update_of S.assignment_of S.update_or_assignment S.simple S.simples S.line S.block S.block_after S.arm S.choice S.while S.for S.caught S.handler S.handled S.finished S.try S.parameter S.definition S.define S.compound S.chunk S.program R.piece read_chars chars digits power builtin_names class_names run call
way_137 = refl

way_138 : run One (codes "try: 1 // 0\nexcept SimpleNamespace: pass") empty ≡ ran Raised (fault (codes "TypeError") (codes "exceptions must be exception classes or objects") ∷ []) [] (codes "SimpleNamespace" ∷ []) 54
unfolding reserved_marks delimiter operator numeral Q.escape Q.item Q.closes Q.body Q.quoted token_piece lexeme cut indented begin bracket step layout encode_utf8 code_of E.keyword_begins E.another E.argument E.attribute E.call E.slice_after E.item_or_slice E.trailer E.parenthesised E.list E.pair E.dict E.atom E.primary_parts E.primary E.power E.unary_level E.term E.sum E.compared E.negated_level E.conjunction E.disjunction E.expr_level E.exprs_level E.phrase S.primary_at S.another_simple S.raise S.return S.assertion S.delete S.global S.import S.update_of S.assignment_of S.update_or_assignment S.simple S.simples S.line S.block S.block_after S.arm S.choice S.while S.for S.caught S.handler S.handled S.finished S.try S.parameter S.definition S.define S.compound S.chunk S.program R.piece read_chars chars digits power builtin_names class_names run call
way_138 = refl

way_139 : run One (codes "raise SimpleNamespace") empty ≡ ran Raised (fault (codes "TypeError") (codes "exceptions must be exception classes or objects") ∷ []) [] (codes "SimpleNamespace" ∷ []) 50
unfolding reserved_marks delimiter operator numeral Q.escape Q.item Q.closes Q.body Q.quoted token_piece lexeme cut indented begin bracket step layout encode_utf8 code_of E.keyword_begins E.another E.argument E.attribute E.call E.slice_after E.item_or_slice E.trailer E.parenthesised E.list E.pair E.dict E.atom E.primary_parts E.primary E.power E.unary_level E.term E.sum E.compared E.negated_level E.conjunction E.disjunction E.expr_level E.exprs_level E.phrase S.primary_at S.another_simple S.raise S.return S.assertion S.delete S.global S.import S.update_of S.assignment_of S.update_or_assignment S.simple S.simples S.line S.block S.block_after S.arm S.choice S.while S.for S.caught S.handler S.handled S.finished S.try S.parameter S.definition S.define S.compound S.chunk S.program R.piece read_chars chars digits power builtin_names class_names run call
way_139 = refl

way_140 : run One (codes "def f(x): pass\nf(1, 2)") empty ≡ ran_over Raised (fault (codes "TypeError") (codes "f() got bad arguments") ∷ []) ((codes "f", node 0) ∷ []) (function One (codes "def f(x): pass") [] ∷ []) (codes "f" ∷ []) 28
unfolding reserved_marks delimiter operator numeral Q.escape Q.item Q.closes Q.body Q.quoted token_piece lexeme cut indented begin bracket step layout encode_utf8 code_of E.keyword_begins E.another E.argument E.attribute E.call E.slice_after E.item_or_slice E.trailer E.parenthesised E.list E.pair E.dict E.atom E.primary_parts E.primary E.power E.unary_level E.term E.sum E.compared E.negated_level E.conjunction E.disjunction E.expr_level E.exprs_level E.phrase S.primary_at S.another_simple S.raise S.return S.assertion S.delete S.global S.import S.update_of S.assignment_of S.update_or_assignment S.simple S.simples S.line S.block S.block_after S.arm S.choice S.while S.for S.caught S.handler S.handled S.finished S.try S.parameter S.definition S.define S.compound S.chunk S.program R.piece read_chars chars digits power builtin_names class_names run call
way_140 = refl
