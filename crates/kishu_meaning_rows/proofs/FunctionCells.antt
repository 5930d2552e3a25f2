-- What some cells with functions and exceptions give: computed on the definition. Made by tools/cells/cells.py.
use Rattle.std.proofs.Common.{◌≡◌, ◌∷◌, [], refl}
use Rattle.std.specs.Prelude.{pos, true, false, codes}
use Rattle.std.specs.Char.{encode_utf8}
use Rattle.std.specs.Fmt.{digits}
use Rattle.std.specs.Str.{chars}
use Rattle.kishu_language.specs.declared.profile.Profile.TheVariants.{One}
use Rattle.kishu_meaning.specs.declared.result.Outcome.TheVariants.{Done, Raised}
use Rattle.kishu_meaning.specs.values.BuiltinNames.{builtin_names, class_names}
use Rattle.kishu_meaning.specs.values.Numbers.{power}
use Rattle.kishu_language.specs.tokens.Marks.{reserved_marks, delimiter, operator}
use Rattle.kishu_language.specs.tokens.Numerals.{numeral}
use Rattle.kishu_language.specs.tokens.Quoted as Q
use Rattle.kishu_language.specs.tokens.Lexemes.{token_piece, lexeme}
use Rattle.kishu_language.specs.tokens.Layout.{cut, indented, begin, bracket, step, layout}
use Rattle.kishu_language.specs.trees.Code.{code_of}
use Rattle.kishu_language.specs.reading.ReadExpressions as E
use Rattle.kishu_language.specs.reading.ReadStatements as S
use Rattle.kishu_language.specs.reading.ReadText as R
use Rattle.kishu_language.specs.reading.ReadText.{read_chars}
use Rattle.kishu_meaning.specs.values.Values.{none, bool, integer, text, class, node, list, tuple, dict, object, function, exception, empty, stream, shown, fault}
use Rattle.kishu_meaning.specs.cells.Meaning.{run, call}
use Rattle.kishu_meaning_rows.proofs.Cells.{ran, ran_over}

way_1 : run One (codes "def f(): pass\nf()\nprint(f())") empty ≡ ran_over Done (stream (codes "None\n") ∷ []) ((codes "f", node 0) ∷ []) (function One (codes "def f(): pass") [] ∷ []) (codes "f" ∷ codes "print" ∷ []) 16
unfolding reserved_marks delimiter operator numeral Q.escape Q.item Q.closes Q.body Q.quoted token_piece lexeme cut indented begin bracket step layout encode_utf8 code_of E.keyword_begins E.another E.argument E.attribute E.call E.slice_after E.item_or_slice E.trailer E.parenthesised E.list E.pair E.dict E.atom E.primary_parts E.primary E.power E.unary_level E.term E.sum E.compared E.negated_level E.conjunction E.disjunction E.expr_level E.exprs_level E.phrase S.primary_at S.another_simple S.raise S.return S.assertion S.delete S.global S.import S.update_of S.assignment_of S.update_or_assignment S.simple S.simples S.line S.block S.block_after S.arm S.choice S.while S.for S.caught S.handler S.handled S.finished S.try S.parameter S.definition S.define S.compound S.chunk S.program R.piece read_chars chars digits power builtin_names class_names run call
way_1 = refl

way_2 : run One (codes "def f(): return 1\nf() + 1") empty ≡ ran_over Done (shown (codes "2") ∷ []) ((codes "f", node 0) ∷ []) (function One (codes "def f(): return 1") [] ∷ []) (codes "f" ∷ []) 9
unfolding reserved_marks delimiter operator numeral Q.escape Q.item Q.closes Q.body Q.quoted token_piece lexeme cut indented begin bracket step layout encode_utf8 code_of E.keyword_begins E.another E.argument E.attribute E.call E.slice_after E.item_or_slice E.trailer E.parenthesised E.list E.pair E.dict E.atom E.primary_parts E.primary E.power E.unary_level E.term E.sum E.compared E.negated_level E.conjunction E.disjunction E.expr_level E.exprs_level E.phrase S.primary_at S.another_simple S.raise S.return S.assertion S.delete S.global S.import S.update_of S.assignment_of S.update_or_assignment S.simple S.simples S.line S.block S.block_after S.arm S.choice S.while S.for S.caught S.handler S.handled S.finished S.try S.parameter S.definition S.define S.compound S.chunk S.program R.piece read_chars chars digits power builtin_names class_names run call
way_2 = refl

way_3 : run One (codes "def f(a, b=2, c=3): return a, b, c\nf(1), f(1, 5), f(1, c=7), f(b=1, a=0)") empty ≡ ran_over Done (shown (codes "((1, 2, 3), (1, 5, 3), (1, 2, 7), (0, 1, 3))") ∷ []) ((codes "f", node 0) ∷ []) (function One (codes "def f(a, b=2, c=3): return a, b, c") (integer (pos 2) ∷ integer (pos 3) ∷ []) ∷ tuple (integer (pos 1) ∷ integer (pos 2) ∷ integer (pos 3) ∷ []) ∷ tuple (integer (pos 1) ∷ integer (pos 5) ∷ integer (pos 3) ∷ []) ∷ tuple (integer (pos 1) ∷ integer (pos 2) ∷ integer (pos 7) ∷ []) ∷ tuple (integer (pos 0) ∷ integer (pos 1) ∷ integer (pos 3) ∷ []) ∷ tuple (node 1 ∷ node 2 ∷ node 3 ∷ node 4 ∷ []) ∷ []) (codes "f" ∷ []) 84
unfolding reserved_marks delimiter operator numeral Q.escape Q.item Q.closes Q.body Q.quoted token_piece lexeme cut indented begin bracket step layout encode_utf8 code_of E.keyword_begins E.another E.argument E.attribute E.call E.slice_after E.item_or_slice E.trailer E.parenthesised E.list E.pair E.dict E.atom E.primary_parts E.primary E.power E.unary_level E.term E.sum E.compared E.negated_level E.conjunction E.disjunction E.expr_level E.exprs_level E.phrase S.primary_at S.another_simple S.raise S.return S.assertion S.delete S.global S.import S.update_of S.assignment_of S.update_or_assignment S.simple S.simples S.line S.block S.block_after S.arm S.choice S.while S.for S.caught S.handler S.handled S.finished S.try S.parameter S.definition S.define S.compound S.chunk S.program R.piece read_chars chars digits power builtin_names class_names run call
way_3 = refl

way_4 : run One (codes "def f(x): return x\nf") empty ≡ ran_over Done (shown (codes "<function f>") ∷ []) ((codes "f", node 0) ∷ []) (function One (codes "def f(x): return x") [] ∷ []) (codes "f" ∷ []) 15
unfolding reserved_marks delimiter operator numeral Q.escape Q.item Q.closes Q.body Q.quoted token_piece lexeme cut indented begin bracket step layout encode_utf8 code_of E.keyword_begins E.another E.argument E.attribute E.call E.slice_after E.item_or_slice E.trailer E.parenthesised E.list E.pair E.dict E.atom E.primary_parts E.primary E.power E.unary_level E.term E.sum E.compared E.negated_level E.conjunction E.disjunction E.expr_level E.exprs_level E.phrase S.primary_at S.another_simple S.raise S.return S.assertion S.delete S.global S.import S.update_of S.assignment_of S.update_or_assignment S.simple S.simples S.line S.block S.block_after S.arm S.choice S.while S.for S.caught S.handler S.handled S.finished S.try S.parameter S.definition S.define S.compound S.chunk S.program R.piece read_chars chars digits power builtin_names class_names run call
way_4 = refl

way_5 : run One (codes "def f(): return\nf() is None") empty ≡ ran_over Done (shown (codes "True") ∷ []) ((codes "f", node 0) ∷ []) (function One (codes "def f(): return") [] ∷ []) (codes "f" ∷ []) 11
unfolding reserved_marks delimiter operator numeral Q.escape Q.item Q.closes Q.body Q.quoted token_piece lexeme cut indented begin bracket step layout encode_utf8 code_of E.keyword_begins E.another E.argument E.attribute E.call E.slice_after E.item_or_slice E.trailer E.parenthesised E.list E.pair E.dict E.atom E.primary_parts E.primary E.power E.unary_level E.term E.sum E.compared E.negated_level E.conjunction E.disjunction E.expr_level E.exprs_level E.phrase S.primary_at S.another_simple S.raise S.return S.assertion S.delete S.global S.import S.update_of S.assignment_of S.update_or_assignment S.simple S.simples S.line S.block S.block_after S.arm S.choice S.while S.for S.caught S.handler S.handled S.finished S.try S.parameter S.definition S.define S.compound S.chunk S.program R.piece read_chars chars digits power builtin_names class_names run call
way_5 = refl

way_6 : run One (codes "def f(a): pass\nf()") empty ≡ ran_over Raised (fault (codes "TypeError") (codes "f() got bad arguments") ∷ []) ((codes "f", node 0) ∷ []) (function One (codes "def f(a): pass") [] ∷ []) (codes "f" ∷ []) 26
unfolding reserved_marks delimiter operator numeral Q.escape Q.item Q.closes Q.body Q.quoted token_piece lexeme cut indented begin bracket step layout encode_utf8 code_of E.keyword_begins E.another E.argument E.attribute E.call E.slice_after E.item_or_slice E.trailer E.parenthesised E.list E.pair E.dict E.atom E.primary_parts E.primary E.power E.unary_level E.term E.sum E.compared E.negated_level E.conjunction E.disjunction E.expr_level E.exprs_level E.phrase S.primary_at S.another_simple S.raise S.return S.assertion S.delete S.global S.import S.update_of S.assignment_of S.update_or_assignment S.simple S.simples S.line S.block S.block_after S.arm S.choice S.while S.for S.caught S.handler S.handled S.finished S.try S.parameter S.definition S.define S.compound S.chunk S.program R.piece read_chars chars digits power builtin_names class_names run call
way_6 = refl

way_7 : run One (codes "def f(a): pass\nf(1, 2)") empty ≡ ran_over Raised (fault (codes "TypeError") (codes "f() got bad arguments") ∷ []) ((codes "f", node 0) ∷ []) (function One (codes "def f(a): pass") [] ∷ []) (codes "f" ∷ []) 28
unfolding reserved_marks delimiter operator numeral Q.escape Q.item Q.closes Q.body Q.quoted token_piece lexeme cut indented begin bracket step layout encode_utf8 code_of E.keyword_begins E.another E.argument E.attribute E.call E.slice_after E.item_or_slice E.trailer E.parenthesised E.list E.pair E.dict E.atom E.primary_parts E.primary E.power E.unary_level E.term E.sum E.compared E.negated_level E.conjunction E.disjunction E.expr_level E.exprs_level E.phrase S.primary_at S.another_simple S.raise S.return S.assertion S.delete S.global S.import S.update_of S.assignment_of S.update_or_assignment S.simple S.simples S.line S.block S.block_after S.arm S.choice S.while S.for S.caught S.handler S.handled S.finished S.try S.parameter S.definition S.define S.compound S.chunk S.program R.piece read_chars chars digits power builtin_names class_names run call
way_7 = refl

way_8 : run One (codes "def f(a): pass\nf(b=1)") empty ≡ ran_over Raised (fault (codes "TypeError") (codes "f() got bad arguments") ∷ []) ((codes "f", node 0) ∷ []) (function One (codes "def f(a): pass") [] ∷ []) (codes "f" ∷ []) 27
unfolding reserved_marks delimiter operator numeral Q.escape Q.item Q.closes Q.body Q.quoted token_piece lexeme cut indented begin bracket step layout encode_utf8 code_of E.keyword_begins E.another E.argument E.attribute E.call E.slice_after E.item_or_slice E.trailer E.parenthesised E.list E.pair E.dict E.atom E.primary_parts E.primary E.power E.unary_level E.term E.sum E.compared E.negated_level E.conjunction E.disjunction E.expr_level E.exprs_level E.phrase S.primary_at S.another_simple S.raise S.return S.assertion S.delete S.global S.import S.update_of S.assignment_of S.update_or_assignment S.simple S.simples S.line S.block S.block_after S.arm S.choice S.while S.for S.caught S.handler S.handled S.finished S.try S.parameter S.definition S.define S.compound S.chunk S.program R.piece read_chars chars digits power builtin_names class_names run call
way_8 = refl

way_9 : run One (codes "def f(a): pass\nf(1, a=2)") empty ≡ ran_over Raised (fault (codes "TypeError") (codes "f() got bad arguments") ∷ []) ((codes "f", node 0) ∷ []) (function One (codes "def f(a): pass") [] ∷ []) (codes "f" ∷ []) 28
unfolding reserved_marks delimiter operator numeral Q.escape Q.item Q.closes Q.body Q.quoted token_piece lexeme cut indented begin bracket step layout encode_utf8 code_of E.keyword_begins E.another E.argument E.attribute E.call E.slice_after E.item_or_slice E.trailer E.parenthesised E.list E.pair E.dict E.atom E.primary_parts E.primary E.power E.unary_level E.term E.sum E.compared E.negated_level E.conjunction E.disjunction E.expr_level E.exprs_level E.phrase S.primary_at S.another_simple S.raise S.return S.assertion S.delete S.global S.import S.update_of S.assignment_of S.update_or_assignment S.simple S.simples S.line S.block S.block_after S.arm S.choice S.while S.for S.caught S.handler S.handled S.finished S.try S.parameter S.definition S.define S.compound S.chunk S.program R.piece read_chars chars digits power builtin_names class_names run call
way_9 = refl

way_10 : run One (codes "def f(a, b): return b\nf(b=1)") empty ≡ ran_over Raised (fault (codes "TypeError") (codes "f() got bad arguments") ∷ []) ((codes "f", node 0) ∷ []) (function One (codes "def f(a, b): return b") [] ∷ []) (codes "f" ∷ []) 27
unfolding reserved_marks delimiter operator numeral Q.escape Q.item Q.closes Q.body Q.quoted token_piece lexeme cut indented begin bracket step layout encode_utf8 code_of E.keyword_begins E.another E.argument E.attribute E.call E.slice_after E.item_or_slice E.trailer E.parenthesised E.list E.pair E.dict E.atom E.primary_parts E.primary E.power E.unary_level E.term E.sum E.compared E.negated_level E.conjunction E.disjunction E.expr_level E.exprs_level E.phrase S.primary_at S.another_simple S.raise S.return S.assertion S.delete S.global S.import S.update_of S.assignment_of S.update_or_assignment S.simple S.simples S.line S.block S.block_after S.arm S.choice S.while S.for S.caught S.handler S.handled S.finished S.try S.parameter S.definition S.define S.compound S.chunk S.program R.piece read_chars chars digits power builtin_names class_names run call
way_10 = refl

way_11 : run One (codes "def f(a=[]):\n    a.append(1)\n    return a\nf()\nf() is f(), f()") empty ≡ ran_over Done (shown (codes "(True, [1, 1, 1, 1])") ∷ []) ((codes "f", node 1) ∷ []) (list (integer (pos 1) ∷ integer (pos 1) ∷ integer (pos 1) ∷ integer (pos 1) ∷ []) ∷ function One (codes "def f(a=[]):\n    a.append(1)\n    return a") (node 0 ∷ []) ∷ tuple (bool true ∷ node 0 ∷ []) ∷ []) (codes "f" ∷ []) 62
unfolding reserved_marks delimiter operator numeral Q.escape Q.item Q.closes Q.body Q.quoted token_piece lexeme cut indented begin bracket step layout encode_utf8 code_of E.keyword_begins E.another E.argument E.attribute E.call E.slice_after E.item_or_slice E.trailer E.parenthesised E.list E.pair E.dict E.atom E.primary_parts E.primary E.power E.unary_level E.term E.sum E.compared E.negated_level E.conjunction E.disjunction E.expr_level E.exprs_level E.phrase S.primary_at S.another_simple S.raise S.return S.assertion S.delete S.global S.import S.update_of S.assignment_of S.update_or_assignment S.simple S.simples S.line S.block S.block_after S.arm S.choice S.while S.for S.caught S.handler S.handled S.finished S.try S.parameter S.definition S.define S.compound S.chunk S.program R.piece read_chars chars digits power builtin_names class_names run call
way_11 = refl

way_12 : run One (codes "def g(x, acc=[]): acc.append(x); return acc\nprint(g(1) is g(2), g(3))") empty ≡ ran_over Done (stream (codes "True [1, 2, 3]\n") ∷ []) ((codes "g", node 1) ∷ []) (list (integer (pos 1) ∷ integer (pos 2) ∷ integer (pos 3) ∷ []) ∷ function One (codes "def g(x, acc=[]): acc.append(x); return acc") (node 0 ∷ []) ∷ []) (codes "g" ∷ codes "print" ∷ []) 51
unfolding reserved_marks delimiter operator numeral Q.escape Q.item Q.closes Q.body Q.quoted token_piece lexeme cut indented begin bracket step layout encode_utf8 code_of E.keyword_begins E.another E.argument E.attribute E.call E.slice_after E.item_or_slice E.trailer E.parenthesised E.list E.pair E.dict E.atom E.primary_parts E.primary E.power E.unary_level E.term E.sum E.compared E.negated_level E.conjunction E.disjunction E.expr_level E.exprs_level E.phrase S.primary_at S.another_simple S.raise S.return S.assertion S.delete S.global S.import S.update_of S.assignment_of S.update_or_assignment S.simple S.simples S.line S.block S.block_after S.arm S.choice S.while S.for S.caught S.handler S.handled S.finished S.try S.parameter S.definition S.define S.compound S.chunk S.program R.piece read_chars chars digits power builtin_names class_names run call
way_12 = refl

way_13 : run One (codes "d = []\ndef f(a=d): return a\nd.append(1)\nd = 5\nf()") empty ≡ ran_over Done (shown (codes "[1]") ∷ []) ((codes "d", integer (pos 5)) ∷ (codes "f", node 1) ∷ []) (list (integer (pos 1) ∷ []) ∷ function One (codes "def f(a=d): return a") (node 0 ∷ []) ∷ []) (codes "d" ∷ codes "f" ∷ []) 19
unfolding reserved_marks delimiter operator numeral Q.escape Q.item Q.closes Q.body Q.quoted token_piece lexeme cut indented begin bracket step layout encode_utf8 code_of E.keyword_begins E.another E.argument E.attribute E.call E.slice_after E.item_or_slice E.trailer E.parenthesised E.list E.pair E.dict E.atom E.primary_parts E.primary E.power E.unary_level E.term E.sum E.compared E.negated_level E.conjunction E.disjunction E.expr_level E.exprs_level E.phrase S.primary_at S.another_simple S.raise S.return S.assertion S.delete S.global S.import S.update_of S.assignment_of S.update_or_assignment S.simple S.simples S.line S.block S.block_after S.arm S.choice S.while S.for S.caught S.handler S.handled S.finished S.try S.parameter S.definition S.define S.compound S.chunk S.program R.piece read_chars chars digits power builtin_names class_names run call
way_13 = refl

way_14 : run One (codes "def f(a=print(1), b=print(2)): pass\nf(print(3))") empty ≡ ran_over Done (stream (codes "1\n2\n3\n") ∷ []) ((codes "f", node 0) ∷ []) (function One (codes "def f(a=print(1), b=print(2)): pass") (none ∷ none ∷ []) ∷ []) (codes "f" ∷ codes "print" ∷ []) 20
unfolding reserved_marks delimiter operator numeral Q.escape Q.item Q.closes Q.body Q.quoted token_piece lexeme cut indented begin bracket step layout encode_utf8 code_of E.keyword_begins E.another E.argument E.attribute E.call E.slice_after E.item_or_slice E.trailer E.parenthesised E.list E.pair E.dict E.atom E.primary_parts E.primary E.power E.unary_level E.term E.sum E.compared E.negated_level E.conjunction E.disjunction E.expr_level E.exprs_level E.phrase S.primary_at S.another_simple S.raise S.return S.assertion S.delete S.global S.import S.update_of S.assignment_of S.update_or_assignment S.simple S.simples S.line S.block S.block_after S.arm S.choice S.while S.for S.caught S.handler S.handled S.finished S.try S.parameter S.definition S.define S.compound S.chunk S.program R.piece read_chars chars digits power builtin_names class_names run call
way_14 = refl

way_15 : run One (codes "def f(a=x): pass") empty ≡ ran Raised (fault (codes "NameError") (codes "name 'x' is not defined") ∷ []) [] (codes "x" ∷ []) 26
unfolding reserved_marks delimiter operator numeral Q.escape Q.item Q.closes Q.body Q.quoted token_piece lexeme cut indented begin bracket step layout encode_utf8 code_of E.keyword_begins E.another E.argument E.attribute E.call E.slice_after E.item_or_slice E.trailer E.parenthesised E.list E.pair E.dict E.atom E.primary_parts E.primary E.power E.unary_level E.term E.sum E.compared E.negated_level E.conjunction E.disjunction E.expr_level E.exprs_level E.phrase S.primary_at S.another_simple S.raise S.return S.assertion S.delete S.global S.import S.update_of S.assignment_of S.update_or_assignment S.simple S.simples S.line S.block S.block_after S.arm S.choice S.while S.for S.caught S.handler S.handled S.finished S.try S.parameter S.definition S.define S.compound S.chunk S.program R.piece read_chars chars digits power builtin_names class_names run call
way_15 = refl

way_16 : run One (codes "def f(n): return 1 if n < 2 else n * f(n - 1)\nf(5)") empty ≡ ran_over Done (shown (codes "120") ∷ []) ((codes "f", node 0) ∷ []) (function One (codes "def f(n): return 1 if n < 2 else n * f(n - 1)") [] ∷ []) (codes "f" ∷ []) 62
unfolding reserved_marks delimiter operator numeral Q.escape Q.item Q.closes Q.body Q.quoted token_piece lexeme cut indented begin bracket step layout encode_utf8 code_of E.keyword_begins E.another E.argument E.attribute E.call E.slice_after E.item_or_slice E.trailer E.parenthesised E.list E.pair E.dict E.atom E.primary_parts E.primary E.power E.unary_level E.term E.sum E.compared E.negated_level E.conjunction E.disjunction E.expr_level E.exprs_level E.phrase S.primary_at S.another_simple S.raise S.return S.assertion S.delete S.global S.import S.update_of S.assignment_of S.update_or_assignment S.simple S.simples S.line S.block S.block_after S.arm S.choice S.while S.for S.caught S.handler S.handled S.finished S.try S.parameter S.definition S.define S.compound S.chunk S.program R.piece read_chars chars digits power builtin_names class_names run call
way_16 = refl

way_17 : run One (codes "def even(n): return True if n == 0 else odd(n - 1)\ndef odd(n): return False if n == 0 else even(n - 1)\neven(4), odd(4)") empty ≡ ran_over Done (shown (codes "(True, False)") ∷ []) ((codes "even", node 0) ∷ (codes "odd", node 1) ∷ []) (function One (codes "def even(n): return True if n == 0 else odd(n - 1)") [] ∷ function One (codes "def odd(n): return False if n == 0 else even(n - 1)") [] ∷ tuple (bool true ∷ bool false ∷ []) ∷ []) (codes "even" ∷ codes "odd" ∷ []) 115
unfolding reserved_marks delimiter operator numeral Q.escape Q.item Q.closes Q.body Q.quoted token_piece lexeme cut indented begin bracket step layout encode_utf8 code_of E.keyword_begins E.another E.argument E.attribute E.call E.slice_after E.item_or_slice E.trailer E.parenthesised E.list E.pair E.dict E.atom E.primary_parts E.primary E.power E.unary_level E.term E.sum E.compared E.negated_level E.conjunction E.disjunction E.expr_level E.exprs_level E.phrase S.primary_at S.another_simple S.raise S.return S.assertion S.delete S.global S.import S.update_of S.assignment_of S.update_or_assignment S.simple S.simples S.line S.block S.block_after S.arm S.choice S.while S.for S.caught S.handler S.handled S.finished S.try S.parameter S.definition S.define S.compound S.chunk S.program R.piece read_chars chars digits power builtin_names class_names run call
way_17 = refl

way_18 : run One (codes "def f(): return g()\ndef g(): return 1\na = f()\ndef g(): return 2\na, f()") empty ≡ ran_over Done (shown (codes "(1, 2)") ∷ []) ((codes "a", integer (pos 1)) ∷ (codes "f", node 0) ∷ (codes "g", node 2) ∷ []) (function One (codes "def f(): return g()") [] ∷ function One (codes "def g(): return 1") [] ∷ function One (codes "def g(): return 2") [] ∷ tuple (integer (pos 1) ∷ integer (pos 2) ∷ []) ∷ []) (codes "a" ∷ codes "f" ∷ codes "g" ∷ []) 27
unfolding reserved_marks delimiter operator numeral Q.escape Q.item Q.closes Q.body Q.quoted token_piece lexeme cut indented begin bracket step layout encode_utf8 code_of E.keyword_begins E.another E.argument E.attribute E.call E.slice_after E.item_or_slice E.trailer E.parenthesised E.list E.pair E.dict E.atom E.primary_parts E.primary E.power E.unary_level E.term E.sum E.compared E.negated_level E.conjunction E.disjunction E.expr_level E.exprs_level E.phrase S.primary_at S.another_simple S.raise S.return S.assertion S.delete S.global S.import S.update_of S.assignment_of S.update_or_assignment S.simple S.simples S.line S.block S.block_after S.arm S.choice S.while S.for S.caught S.handler S.handled S.finished S.try S.parameter S.definition S.define S.compound S.chunk S.program R.piece read_chars chars digits power builtin_names class_names run call
way_18 = refl

way_19 : run One (codes "L = []\ndef f(): L.append(1)\nf(); f(); L") empty ≡ ran_over Done (shown (codes "[1, 1]") ∷ []) ((codes "L", node 0) ∷ (codes "f", node 1) ∷ []) (list (integer (pos 1) ∷ integer (pos 1) ∷ []) ∷ function One (codes "def f(): L.append(1)") [] ∷ []) (codes "L" ∷ codes "f" ∷ []) 27
unfolding reserved_marks delimiter operator numeral Q.escape Q.item Q.closes Q.body Q.quoted token_piece lexeme cut indented begin bracket step layout encode_utf8 code_of E.keyword_begins E.another E.argument E.attribute E.call E.slice_after E.item_or_slice E.trailer E.parenthesised E.list E.pair E.dict E.atom E.primary_parts E.primary E.power E.unary_level E.term E.sum E.compared E.negated_level E.conjunction E.disjunction E.expr_level E.exprs_level E.phrase S.primary_at S.another_simple S.raise S.return S.assertion S.delete S.global S.import S.update_of S.assignment_of S.update_or_assignment S.simple S.simples S.line S.block S.block_after S.arm S.choice S.while S.for S.caught S.handler S.handled S.finished S.try S.parameter S.definition S.define S.compound S.chunk S.program R.piece read_chars chars digits power builtin_names class_names run call
way_19 = refl

way_20 : run One (codes "x = 1\ndef f():\n    x = 2\n    return x\nf(), x") empty ≡ ran_over Done (shown (codes "(2, 1)") ∷ []) ((codes "f", node 0) ∷ (codes "x", integer (pos 1)) ∷ []) (function One (codes "def f():\n    x = 2\n    return x") [] ∷ tuple (integer (pos 2) ∷ integer (pos 1) ∷ []) ∷ []) (codes "f" ∷ codes "x" ∷ []) 18
unfolding reserved_marks delimiter operator numeral Q.escape Q.item Q.closes Q.body Q.quoted token_piece lexeme cut indented begin bracket step layout encode_utf8 code_of E.keyword_begins E.another E.argument E.attribute E.call E.slice_after E.item_or_slice E.trailer E.parenthesised E.list E.pair E.dict E.atom E.primary_parts E.primary E.power E.unary_level E.term E.sum E.compared E.negated_level E.conjunction E.disjunction E.expr_level E.exprs_level E.phrase S.primary_at S.another_simple S.raise S.return S.assertion S.delete S.global S.import S.update_of S.assignment_of S.update_or_assignment S.simple S.simples S.line S.block S.block_after S.arm S.choice S.while S.for S.caught S.handler S.handled S.finished S.try S.parameter S.definition S.define S.compound S.chunk S.program R.piece read_chars chars digits power builtin_names class_names run call
way_20 = refl

way_21 : run One (codes "x = 1\ndef f():\n    global x\n    x = 2\nf(); x") empty ≡ ran_over Done (shown (codes "2") ∷ []) ((codes "f", node 0) ∷ (codes "x", integer (pos 2)) ∷ []) (function One (codes "def f():\n    global x\n    x = 2") [] ∷ []) (codes "f" ∷ codes "x" ∷ []) 12
unfolding reserved_marks delimiter operator numeral Q.escape Q.item Q.closes Q.body Q.quoted token_piece lexeme cut indented begin bracket step layout encode_utf8 code_of E.keyword_begins E.another E.argument E.attribute E.call E.slice_after E.item_or_slice E.trailer E.parenthesised E.list E.pair E.dict E.atom E.primary_parts E.primary E.power E.unary_level E.term E.sum E.compared E.negated_level E.conjunction E.disjunction E.expr_level E.exprs_level E.phrase S.primary_at S.another_simple S.raise S.return S.assertion S.delete S.global S.import S.update_of S.assignment_of S.update_or_assignment S.simple S.simples S.line S.block S.block_after S.arm S.choice S.while S.for S.caught S.handler S.handled S.finished S.try S.parameter S.definition S.define S.compound S.chunk S.program R.piece read_chars chars digits power builtin_names class_names run call
way_21 = refl

way_22 : run One (codes "x = 1\ndef f(): return x\nx = 5\nf()") empty ≡ ran_over Done (shown (codes "5") ∷ []) ((codes "f", node 0) ∷ (codes "x", integer (pos 5)) ∷ []) (function One (codes "def f(): return x") [] ∷ []) (codes "f" ∷ codes "x" ∷ []) 11
unfolding reserved_marks delimiter operator numeral Q.escape Q.item Q.closes Q.body Q.quoted token_piece lexeme cut indented begin bracket step layout encode_utf8 code_of E.keyword_begins E.another E.argument E.attribute E.call E.slice_after E.item_or_slice E.trailer E.parenthesised E.list E.pair E.dict E.atom E.primary_parts E.primary E.power E.unary_level E.term E.sum E.compared E.negated_level E.conjunction E.disjunction E.expr_level E.exprs_level E.phrase S.primary_at S.another_simple S.raise S.return S.assertion S.delete S.global S.import S.update_of S.assignment_of S.update_or_assignment S.simple S.simples S.line S.block S.block_after S.arm S.choice S.while S.for S.caught S.handler S.handled S.finished S.try S.parameter S.definition S.define S.compound S.chunk S.program R.piece read_chars chars digits power builtin_names class_names run call
way_22 = refl

way_23 : run One (codes "x = 1\ndef f():\n    print(x)\n    x = 2\nf()") empty ≡ ran_over Raised (fault (codes "UnboundLocalError") (codes "local name 'x' has no value") ∷ []) ((codes "f", node 0) ∷ (codes "x", integer (pos 1)) ∷ []) (function One (codes "def f():\n    print(x)\n    x = 2") [] ∷ []) (codes "f" ∷ codes "print" ∷ codes "x" ∷ []) 38
unfolding reserved_marks delimiter operator numeral Q.escape Q.item Q.closes Q.body Q.quoted token_piece lexeme cut indented begin bracket step layout encode_utf8 code_of E.keyword_begins E.another E.argument E.attribute E.call E.slice_after E.item_or_slice E.trailer E.parenthesised E.list E.pair E.dict E.atom E.primary_parts E.primary E.power E.unary_level E.term E.sum E.compared E.negated_level E.conjunction E.disjunction E.expr_level E.exprs_level E.phrase S.primary_at S.another_simple S.raise S.return S.assertion S.delete S.global S.import S.update_of S.assignment_of S.update_or_assignment S.simple S.simples S.line S.block S.block_after S.arm S.choice S.while S.for S.caught S.handler S.handled S.finished S.try S.parameter S.definition S.define S.compound S.chunk S.program R.piece read_chars chars digits power builtin_names class_names run call
way_23 = refl

way_24 : run One (codes "def f():\n    if 0: y = 1\n    return y\nf()") empty ≡ ran_over Raised (fault (codes "UnboundLocalError") (codes "local name 'y' has no value") ∷ []) ((codes "f", node 0) ∷ []) (function One (codes "def f():\n    if 0: y = 1\n    return y") [] ∷ []) (codes "f" ∷ []) 36
unfolding reserved_marks delimiter operator numeral Q.escape Q.item Q.closes Q.body Q.quoted token_piece lexeme cut indented begin bracket step layout encode_utf8 code_of E.keyword_begins E.another E.argument E.attribute E.call E.slice_after E.item_or_slice E.trailer E.parenthesised E.list E.pair E.dict E.atom E.primary_parts E.primary E.power E.unary_level E.term E.sum E.compared E.negated_level E.conjunction E.disjunction E.expr_level E.exprs_level E.phrase S.primary_at S.another_simple S.raise S.return S.assertion S.delete S.global S.import S.update_of S.assignment_of S.update_or_assignment S.simple S.simples S.line S.block S.block_after S.arm S.choice S.while S.for S.caught S.handler S.handled S.finished S.try S.parameter S.definition S.define S.compound S.chunk S.program R.piece read_chars chars digits power builtin_names class_names run call
way_24 = refl

way_25 : run One (codes "def f(a):\n    del a\n    return a\nf(1)") empty ≡ ran_over Raised (fault (codes "UnboundLocalError") (codes "local name 'a' has no value") ∷ []) ((codes "f", node 0) ∷ []) (function One (codes "def f(a):\n    del a\n    return a") [] ∷ []) (codes "f" ∷ []) 36
unfolding reserved_marks delimiter operator numeral Q.escape Q.item Q.closes Q.body Q.quoted token_piece lexeme cut indented begin bracket step layout encode_utf8 code_of E.keyword_begins E.another E.argument E.attribute E.call E.slice_after E.item_or_slice E.trailer E.parenthesised E.list E.pair E.dict E.atom E.primary_parts E.primary E.power E.unary_level E.term E.sum E.compared E.negated_level E.conjunction E.disjunction E.expr_level E.exprs_level E.phrase S.primary_at S.another_simple S.raise S.return S.assertion S.delete S.global S.import S.update_of S.assignment_of S.update_or_assignment S.simple S.simples S.line S.block S.block_after S.arm S.choice S.while S.for S.caught S.handler S.handled S.finished S.try S.parameter S.definition S.define S.compound S.chunk S.program R.piece read_chars chars digits power builtin_names class_names run call
way_25 = refl

way_26 : run One (codes "def f():\n    del a\nf()") empty ≡ ran_over Raised (fault (codes "UnboundLocalError") (codes "local name 'a' has no value") ∷ []) ((codes "f", node 0) ∷ []) (function One (codes "def f():\n    del a") [] ∷ []) (codes "f" ∷ []) 33
unfolding reserved_marks delimiter operator numeral Q.escape Q.item Q.closes Q.body Q.quoted token_piece lexeme cut indented begin bracket step layout encode_utf8 code_of E.keyword_begins E.another E.argument E.attribute E.call E.slice_after E.item_or_slice E.trailer E.parenthesised E.list E.pair E.dict E.atom E.primary_parts E.primary E.power E.unary_level E.term E.sum E.compared E.negated_level E.conjunction E.disjunction E.expr_level E.exprs_level E.phrase S.primary_at S.another_simple S.raise S.return S.assertion S.delete S.global S.import S.update_of S.assignment_of S.update_or_assignment S.simple S.simples S.line S.block S.block_after S.arm S.choice S.while S.for S.caught S.handler S.handled S.finished S.try S.parameter S.definition S.define S.compound S.chunk S.program R.piece read_chars chars digits power builtin_names class_names run call
way_26 = refl

way_27 : run One (codes "def f(a):\n    a += 1\n    return a\nf(1)") empty ≡ ran_over Done (shown (codes "2") ∷ []) ((codes "f", node 0) ∷ []) (function One (codes "def f(a):\n    a += 1\n    return a") [] ∷ []) (codes "f" ∷ []) 12
unfolding reserved_marks delimiter operator numeral Q.escape Q.item Q.closes Q.body Q.quoted token_piece lexeme cut indented begin bracket step layout encode_utf8 code_of E.keyword_begins E.another E.argument E.attribute E.call E.slice_after E.item_or_slice E.trailer E.parenthesised E.list E.pair E.dict E.atom E.primary_parts E.primary E.power E.unary_level E.term E.sum E.compared E.negated_level E.conjunction E.disjunction E.expr_level E.exprs_level E.phrase S.primary_at S.another_simple S.raise S.return S.assertion S.delete S.global S.import S.update_of S.assignment_of S.update_or_assignment S.simple S.simples S.line S.block S.block_after S.arm S.choice S.while S.for S.caught S.handler S.handled S.finished S.try S.parameter S.definition S.define S.compound S.chunk S.program R.piece read_chars chars digits power builtin_names class_names run call
way_27 = refl

way_28 : run One (codes "x = 1\ndef f(): x += 1\nf()") empty ≡ ran_over Raised (fault (codes "UnboundLocalError") (codes "local name 'x' has no value") ∷ []) ((codes "f", node 0) ∷ (codes "x", integer (pos 1)) ∷ []) (function One (codes "def f(): x += 1") [] ∷ []) (codes "f" ∷ codes "x" ∷ []) 36
unfolding reserved_marks delimiter operator numeral Q.escape Q.item Q.closes Q.body Q.quoted token_piece lexeme cut indented begin bracket step layout encode_utf8 code_of E.keyword_begins E.another E.argument E.attribute E.call E.slice_after E.item_or_slice E.trailer E.parenthesised E.list E.pair E.dict E.atom E.primary_parts E.primary E.power E.unary_level E.term E.sum E.compared E.negated_level E.conjunction E.disjunction E.expr_level E.exprs_level E.phrase S.primary_at S.another_simple S.raise S.return S.assertion S.delete S.global S.import S.update_of S.assignment_of S.update_or_assignment S.simple S.simples S.line S.block S.block_after S.arm S.choice S.while S.for S.caught S.handler S.handled S.finished S.try S.parameter S.definition S.define S.compound S.chunk S.program R.piece read_chars chars digits power builtin_names class_names run call
way_28 = refl

way_29 : run One (codes "def f():\n    for i in [1, 2]:\n        if i == 2: return i\n    return 0\nf()") empty ≡ ran_over Done (shown (codes "2") ∷ []) ((codes "f", node 0) ∷ []) (function One (codes "def f():\n    for i in [1, 2]:\n        if i == 2: return i\n    return 0") [] ∷ list (integer (pos 1) ∷ integer (pos 2) ∷ []) ∷ []) (codes "f" ∷ []) 21
unfolding reserved_marks delimiter operator numeral Q.escape Q.item Q.closes Q.body Q.quoted token_piece lexeme cut indented begin bracket step layout encode_utf8 code_of E.keyword_begins E.another E.argument E.attribute E.call E.slice_after E.item_or_slice E.trailer E.parenthesised E.list E.pair E.dict E.atom E.primary_parts E.primary E.power E.unary_level E.term E.sum E.compared E.negated_level E.conjunction E.disjunction E.expr_level E.exprs_level E.phrase S.primary_at S.another_simple S.raise S.return S.assertion S.delete S.global S.import S.update_of S.assignment_of S.update_or_assignment S.simple S.simples S.line S.block S.block_after S.arm S.choice S.while S.for S.caught S.handler S.handled S.finished S.try S.parameter S.definition S.define S.compound S.chunk S.program R.piece read_chars chars digits power builtin_names class_names run call
way_29 = refl

way_30 : run One (codes "def f():\n    while 1:\n        return 'w'\nf()") empty ≡ ran_over Done (shown (codes "'w'") ∷ []) ((codes "f", node 0) ∷ []) (function One (codes "def f():\n    while 1:\n        return 'w'") [] ∷ []) (codes "f" ∷ []) 12
unfolding reserved_marks delimiter operator numeral Q.escape Q.item Q.closes Q.body Q.quoted token_piece lexeme cut indented begin bracket step layout encode_utf8 code_of E.keyword_begins E.another E.argument E.attribute E.call E.slice_after E.item_or_slice E.trailer E.parenthesised E.list E.pair E.dict E.atom E.primary_parts E.primary E.power E.unary_level E.term E.sum E.compared E.negated_level E.conjunction E.disjunction E.expr_level E.exprs_level E.phrase S.primary_at S.another_simple S.raise S.return S.assertion S.delete S.global S.import S.update_of S.assignment_of S.update_or_assignment S.simple S.simples S.line S.block S.block_after S.arm S.choice S.while S.for S.caught S.handler S.handled S.finished S.try S.parameter S.definition S.define S.compound S.chunk S.program R.piece read_chars chars digits power builtin_names class_names run call
way_30 = refl

way_31 : run One (codes "def f(f): return f\nf(1)") empty ≡ ran_over Done (shown (codes "1") ∷ []) ((codes "f", node 0) ∷ []) (function One (codes "def f(f): return f") [] ∷ []) (codes "f" ∷ []) 8
unfolding reserved_marks delimiter operator numeral Q.escape Q.item Q.closes Q.body Q.quoted token_piece lexeme cut indented begin bracket step layout encode_utf8 code_of E.keyword_begins E.another E.argument E.attribute E.call E.slice_after E.item_or_slice E.trailer E.parenthesised E.list E.pair E.dict E.atom E.primary_parts E.primary E.power E.unary_level E.term E.sum E.compared E.negated_level E.conjunction E.disjunction E.expr_level E.exprs_level E.phrase S.primary_at S.another_simple S.raise S.return S.assertion S.delete S.global S.import S.update_of S.assignment_of S.update_or_assignment S.simple S.simples S.line S.block S.block_after S.arm S.choice S.while S.for S.caught S.handler S.handled S.finished S.try S.parameter S.definition S.define S.compound S.chunk S.program R.piece read_chars chars digits power builtin_names class_names run call
way_31 = refl

way_32 : run One (codes "def f(): return f\nf() is f") empty ≡ ran_over Done (shown (codes "True") ∷ []) ((codes "f", node 0) ∷ []) (function One (codes "def f(): return f") [] ∷ []) (codes "f" ∷ []) 12
unfolding reserved_marks delimiter operator numeral Q.escape Q.item Q.closes Q.body Q.quoted token_piece lexeme cut indented begin bracket step layout encode_utf8 code_of E.keyword_begins E.another E.argument E.attribute E.call E.slice_after E.item_or_slice E.trailer E.parenthesised E.list E.pair E.dict E.atom E.primary_parts E.primary E.power E.unary_level E.term E.sum E.compared E.negated_level E.conjunction E.disjunction E.expr_level E.exprs_level E.phrase S.primary_at S.another_simple S.raise S.return S.assertion S.delete S.global S.import S.update_of S.assignment_of S.update_or_assignment S.simple S.simples S.line S.block S.block_after S.arm S.choice S.while S.for S.caught S.handler S.handled S.finished S.try S.parameter S.definition S.define S.compound S.chunk S.program R.piece read_chars chars digits power builtin_names class_names run call
way_32 = refl

way_33 : run One (codes "def f(): return f\ng = f\ndef f(): pass\ng() is f, g is f") empty ≡ ran_over Done (shown (codes "(True, False)") ∷ []) ((codes "f", node 1) ∷ (codes "g", node 0) ∷ []) (function One (codes "def f(): return f") [] ∷ function One (codes "def f(): pass") [] ∷ tuple (bool true ∷ bool false ∷ []) ∷ []) (codes "f" ∷ codes "g" ∷ []) 28
unfolding reserved_marks delimiter operator numeral Q.escape Q.item Q.closes Q.body Q.quoted token_piece lexeme cut indented begin bracket step layout encode_utf8 code_of E.keyword_begins E.another E.argument E.attribute E.call E.slice_after E.item_or_slice E.trailer E.parenthesised E.list E.pair E.dict E.atom E.primary_parts E.primary E.power E.unary_level E.term E.sum E.compared E.negated_level E.conjunction E.disjunction E.expr_level E.exprs_level E.phrase S.primary_at S.another_simple S.raise S.return S.assertion S.delete S.global S.import S.update_of S.assignment_of S.update_or_assignment S.simple S.simples S.line S.block S.block_after S.arm S.choice S.while S.for S.caught S.handler S.handled S.finished S.try S.parameter S.definition S.define S.compound S.chunk S.program R.piece read_chars chars digits power builtin_names class_names run call
way_33 = refl

way_34 : run One (codes "def f(): return y\nf()") empty ≡ ran_over Raised (fault (codes "NameError") (codes "name 'y' is not defined") ∷ []) ((codes "f", node 0) ∷ []) (function One (codes "def f(): return y") [] ∷ []) (codes "f" ∷ codes "y" ∷ []) 30
unfolding reserved_marks delimiter operator numeral Q.escape Q.item Q.closes Q.body Q.quoted token_piece lexeme cut indented begin bracket step layout encode_utf8 code_of E.keyword_begins E.another E.argument E.attribute E.call E.slice_after E.item_or_slice E.trailer E.parenthesised E.list E.pair E.dict E.atom E.primary_parts E.primary E.power E.unary_level E.term E.sum E.compared E.negated_level E.conjunction E.disjunction E.expr_level E.exprs_level E.phrase S.primary_at S.another_simple S.raise S.return S.assertion S.delete S.global S.import S.update_of S.assignment_of S.update_or_assignment S.simple S.simples S.line S.block S.block_after S.arm S.choice S.while S.for S.caught S.handler S.handled S.finished S.try S.parameter S.definition S.define S.compound S.chunk S.program R.piece read_chars chars digits power builtin_names class_names run call
way_34 = refl

way_35 : run One (codes "def f(x): x = 2\nx = 1\nf(x); x") empty ≡ ran_over Done (shown (codes "1") ∷ []) ((codes "f", node 0) ∷ (codes "x", integer (pos 1)) ∷ []) (function One (codes "def f(x): x = 2") [] ∷ []) (codes "f" ∷ codes "x" ∷ []) 12
unfolding reserved_marks delimiter operator numeral Q.escape Q.item Q.closes Q.body Q.quoted token_piece lexeme cut indented begin bracket step layout encode_utf8 code_of E.keyword_begins E.another E.argument E.attribute E.call E.slice_after E.item_or_slice E.trailer E.parenthesised E.list E.pair E.dict E.atom E.primary_parts E.primary E.power E.unary_level E.term E.sum E.compared E.negated_level E.conjunction E.disjunction E.expr_level E.exprs_level E.phrase S.primary_at S.another_simple S.raise S.return S.assertion S.delete S.global S.import S.update_of S.assignment_of S.update_or_assignment S.simple S.simples S.line S.block S.block_after S.arm S.choice S.while S.for S.caught S.handler S.handled S.finished S.try S.parameter S.definition S.define S.compound S.chunk S.program R.piece read_chars chars digits power builtin_names class_names run call
way_35 = refl

way_36 : run One (codes "def f(x): x.append(2)\nx = [1]\nf(x); x") empty ≡ ran_over Done (shown (codes "[1, 2]") ∷ []) ((codes "f", node 0) ∷ (codes "x", node 1) ∷ []) (function One (codes "def f(x): x.append(2)") [] ∷ list (integer (pos 1) ∷ integer (pos 2) ∷ []) ∷ []) (codes "f" ∷ codes "x" ∷ []) 21
unfolding reserved_marks delimiter operator numeral Q.escape Q.item Q.closes Q.body Q.quoted token_piece lexeme cut indented begin bracket step layout encode_utf8 code_of E.keyword_begins E.another E.argument E.attribute E.call E.slice_after E.item_or_slice E.trailer E.parenthesised E.list E.pair E.dict E.atom E.primary_parts E.primary E.power E.unary_level E.term E.sum E.compared E.negated_level E.conjunction E.disjunction E.expr_level E.exprs_level E.phrase S.primary_at S.another_simple S.raise S.return S.assertion S.delete S.global S.import S.update_of S.assignment_of S.update_or_assignment S.simple S.simples S.line S.block S.block_after S.arm S.choice S.while S.for S.caught S.handler S.handled S.finished S.try S.parameter S.definition S.define S.compound S.chunk S.program R.piece read_chars chars digits power builtin_names class_names run call
way_36 = refl

way_37 : run One (codes "def f():\n    global a\n    a, b = 1, 2\nf()\na\nb") empty ≡ ran_over Raised (fault (codes "NameError") (codes "name 'b' is not defined") ∷ []) ((codes "a", integer (pos 1)) ∷ (codes "f", node 0) ∷ []) (function One (codes "def f():\n    global a\n    a, b = 1, 2") [] ∷ tuple (integer (pos 1) ∷ integer (pos 2) ∷ []) ∷ []) (codes "a" ∷ codes "b" ∷ codes "f" ∷ []) 39
unfolding reserved_marks delimiter operator numeral Q.escape Q.item Q.closes Q.body Q.quoted token_piece lexeme cut indented begin bracket step layout encode_utf8 code_of E.keyword_begins E.another E.argument E.attribute E.call E.slice_after E.item_or_slice E.trailer E.parenthesised E.list E.pair E.dict E.atom E.primary_parts E.primary E.power E.unary_level E.term E.sum E.compared E.negated_level E.conjunction E.disjunction E.expr_level E.exprs_level E.phrase S.primary_at S.another_simple S.raise S.return S.assertion S.delete S.global S.import S.update_of S.assignment_of S.update_or_assignment S.simple S.simples S.line S.block S.block_after S.arm S.choice S.while S.for S.caught S.handler S.handled S.finished S.try S.parameter S.definition S.define S.compound S.chunk S.program R.piece read_chars chars digits power builtin_names class_names run call
way_37 = refl

way_38 : run One (codes "def f(): (a, [b]), c[0] = [1, [2]], 3\nf()") empty ≡ ran_over Raised (fault (codes "NameError") (codes "name 'c' is not defined") ∷ []) ((codes "f", node 0) ∷ []) (function One (codes "def f(): (a, [b]), c[0] = [1, [2]], 3") [] ∷ list (integer (pos 2) ∷ []) ∷ list (integer (pos 1) ∷ node 1 ∷ []) ∷ tuple (node 2 ∷ integer (pos 3) ∷ []) ∷ []) (codes "c" ∷ codes "f" ∷ []) 41
unfolding reserved_marks delimiter operator numeral Q.escape Q.item Q.closes Q.body Q.quoted token_piece lexeme cut indented begin bracket step layout encode_utf8 code_of E.keyword_begins E.another E.argument E.attribute E.call E.slice_after E.item_or_slice E.trailer E.parenthesised E.list E.pair E.dict E.atom E.primary_parts E.primary E.power E.unary_level E.term E.sum E.compared E.negated_level E.conjunction E.disjunction E.expr_level E.exprs_level E.phrase S.primary_at S.another_simple S.raise S.return S.assertion S.delete S.global S.import S.update_of S.assignment_of S.update_or_assignment S.simple S.simples S.line S.block S.block_after S.arm S.choice S.while S.for S.caught S.handler S.handled S.finished S.try S.parameter S.definition S.define S.compound S.chunk S.program R.piece read_chars chars digits power builtin_names class_names run call
way_38 = refl

way_39 : run One (codes "def f():\n    from types import SimpleNamespace\n    return SimpleNamespace(a=1)\nf().a") empty ≡ ran_over Done (shown (codes "1") ∷ []) ((codes "f", node 0) ∷ []) (function One (codes "def f():\n    from types import SimpleNamespace\n    return SimpleNamespace(a=1)") [] ∷ object ((codes "a", integer (pos 1)) ∷ []) ∷ []) (codes "f" ∷ []) 11
unfolding reserved_marks delimiter operator numeral Q.escape Q.item Q.closes Q.body Q.quoted token_piece lexeme cut indented begin bracket step layout encode_utf8 code_of E.keyword_begins E.another E.argument E.attribute E.call E.slice_after E.item_or_slice E.trailer E.parenthesised E.list E.pair E.dict E.atom E.primary_parts E.primary E.power E.unary_level E.term E.sum E.compared E.negated_level E.conjunction E.disjunction E.expr_level E.exprs_level E.phrase S.primary_at S.another_simple S.raise S.return S.assertion S.delete S.global S.import S.update_of S.assignment_of S.update_or_assignment S.simple S.simples S.line S.block S.block_after S.arm S.choice S.while S.for S.caught S.handler S.handled S.finished S.try S.parameter S.definition S.define S.compound S.chunk S.program R.piece read_chars chars digits power builtin_names class_names run call
way_39 = refl

way_40 : run One (codes "def f(a, b): return a - b\nf(print(1) or 5, b=print(2) or 3)") empty ≡ ran_over Done (stream (codes "1\n2\n") ∷ shown (codes "2") ∷ []) ((codes "f", node 0) ∷ []) (function One (codes "def f(a, b): return a - b") [] ∷ []) (codes "f" ∷ codes "print" ∷ []) 23
unfolding reserved_marks delimiter operator numeral Q.escape Q.item Q.closes Q.body Q.quoted token_piece lexeme cut indented begin bracket step layout encode_utf8 code_of E.keyword_begins E.another E.argument E.attribute E.call E.slice_after E.item_or_slice E.trailer E.parenthesised E.list E.pair E.dict E.atom E.primary_parts E.primary E.power E.unary_level E.term E.sum E.compared E.negated_level E.conjunction E.disjunction E.expr_level E.exprs_level E.phrase S.primary_at S.another_simple S.raise S.return S.assertion S.delete S.global S.import S.update_of S.assignment_of S.update_or_assignment S.simple S.simples S.line S.block S.block_after S.arm S.choice S.while S.for S.caught S.handler S.handled S.finished S.try S.parameter S.definition S.define S.compound S.chunk S.program R.piece read_chars chars digits power builtin_names class_names run call
way_40 = refl

way_41 : run One (codes "def f(): pass\nf.a") empty ≡ ran_over Raised (fault (codes "AttributeError") (codes "'function' object has no attribute 'a'") ∷ []) ((codes "f", node 0) ∷ []) (function One (codes "def f(): pass") [] ∷ []) (codes "f" ∷ []) 43
unfolding reserved_marks delimiter operator numeral Q.escape Q.item Q.closes Q.body Q.quoted token_piece lexeme cut indented begin bracket step layout encode_utf8 code_of E.keyword_begins E.another E.argument E.attribute E.call E.slice_after E.item_or_slice E.trailer E.parenthesised E.list E.pair E.dict E.atom E.primary_parts E.primary E.power E.unary_level E.term E.sum E.compared E.negated_level E.conjunction E.disjunction E.expr_level E.exprs_level E.phrase S.primary_at S.another_simple S.raise S.return S.assertion S.delete S.global S.import S.update_of S.assignment_of S.update_or_assignment S.simple S.simples S.line S.block S.block_after S.arm S.choice S.while S.for S.caught S.handler S.handled S.finished S.try S.parameter S.definition S.define S.compound S.chunk S.program R.piece read_chars chars digits power builtin_names class_names run call
way_41 = refl

way_42 : run One (codes "def f(): pass\nf == f, f is f, f != 1, not f") empty ≡ ran_over Done (shown (codes "(True, True, True, False)") ∷ []) ((codes "f", node 0) ∷ []) (function One (codes "def f(): pass") [] ∷ tuple (bool true ∷ bool true ∷ bool true ∷ bool false ∷ []) ∷ []) (codes "f" ∷ []) 39
unfolding reserved_marks delimiter operator numeral Q.escape Q.item Q.closes Q.body Q.quoted token_piece lexeme cut indented begin bracket step layout encode_utf8 code_of E.keyword_begins E.another E.argument E.attribute E.call E.slice_after E.item_or_slice E.trailer E.parenthesised E.list E.pair E.dict E.atom E.primary_parts E.primary E.power E.unary_level E.term E.sum E.compared E.negated_level E.conjunction E.disjunction E.expr_level E.exprs_level E.phrase S.primary_at S.another_simple S.raise S.return S.assertion S.delete S.global S.import S.update_of S.assignment_of S.update_or_assignment S.simple S.simples S.line S.block S.block_after S.arm S.choice S.while S.for S.caught S.handler S.handled S.finished S.try S.parameter S.definition S.define S.compound S.chunk S.program R.piece read_chars chars digits power builtin_names class_names run call
way_42 = refl

way_43 : run One (codes "def f(): pass\nf < f") empty ≡ ran_over Raised (fault (codes "TypeError") (codes "bad operand types for <: 'function' and 'function'") ∷ []) ((codes "f", node 0) ∷ []) (function One (codes "def f(): pass") [] ∷ []) (codes "f" ∷ []) 56
unfolding reserved_marks delimiter operator numeral Q.escape Q.item Q.closes Q.body Q.quoted token_piece lexeme cut indented begin bracket step layout encode_utf8 code_of E.keyword_begins E.another E.argument E.attribute E.call E.slice_after E.item_or_slice E.trailer E.parenthesised E.list E.pair E.dict E.atom E.primary_parts E.primary E.power E.unary_level E.term E.sum E.compared E.negated_level E.conjunction E.disjunction E.expr_level E.exprs_level E.phrase S.primary_at S.another_simple S.raise S.return S.assertion S.delete S.global S.import S.update_of S.assignment_of S.update_or_assignment S.simple S.simples S.line S.block S.block_after S.arm S.choice S.while S.for S.caught S.handler S.handled S.finished S.try S.parameter S.definition S.define S.compound S.chunk S.program R.piece read_chars chars digits power builtin_names class_names run call
way_43 = refl

way_44 : run One (codes "def f(): 1 // 0\nf()") empty ≡ ran_over Raised (fault (codes "ZeroDivisionError") (codes "division by zero") ∷ []) ((codes "f", node 0) ∷ []) (function One (codes "def f(): 1 // 0") [] ∷ []) (codes "f" ∷ []) 25
unfolding reserved_marks delimiter operator numeral Q.escape Q.item Q.closes Q.body Q.quoted token_piece lexeme cut indented begin bracket step layout encode_utf8 code_of E.keyword_begins E.another E.argument E.attribute E.call E.slice_after E.item_or_slice E.trailer E.parenthesised E.list E.pair E.dict E.atom E.primary_parts E.primary E.power E.unary_level E.term E.sum E.compared E.negated_level E.conjunction E.disjunction E.expr_level E.exprs_level E.phrase S.primary_at S.another_simple S.raise S.return S.assertion S.delete S.global S.import S.update_of S.assignment_of S.update_or_assignment S.simple S.simples S.line S.block S.block_after S.arm S.choice S.while S.for S.caught S.handler S.handled S.finished S.try S.parameter S.definition S.define S.compound S.chunk S.program R.piece read_chars chars digits power builtin_names class_names run call
way_44 = refl

way_45 : run One (codes "def f(a=1): return a\no = [f]\no[0](), o[0](2)") empty ≡ ran_over Done (shown (codes "(1, 2)") ∷ []) ((codes "f", node 0) ∷ (codes "o", node 1) ∷ []) (function One (codes "def f(a=1): return a") (integer (pos 1) ∷ []) ∷ list (node 0 ∷ []) ∷ tuple (integer (pos 1) ∷ integer (pos 2) ∷ []) ∷ []) (codes "f" ∷ codes "o" ∷ []) 26
unfolding reserved_marks delimiter operator numeral Q.escape Q.item Q.closes Q.body Q.quoted token_piece lexeme cut indented begin bracket step layout encode_utf8 code_of E.keyword_begins E.another E.argument E.attribute E.call E.slice_after E.item_or_slice E.trailer E.parenthesised E.list E.pair E.dict E.atom E.primary_parts E.primary E.power E.unary_level E.term E.sum E.compared E.negated_level E.conjunction E.disjunction E.expr_level E.exprs_level E.phrase S.primary_at S.another_simple S.raise S.return S.assertion S.delete S.global S.import S.update_of S.assignment_of S.update_or_assignment S.simple S.simples S.line S.block S.block_after S.arm S.choice S.while S.for S.caught S.handler S.handled S.finished S.try S.parameter S.definition S.define S.compound S.chunk S.program R.piece read_chars chars digits power builtin_names class_names run call
way_45 = refl

way_46 : run One (codes "from types import SimpleNamespace\ndef f(a): return a\no = SimpleNamespace(f=f)\no.f(1)") empty ≡ ran_over Done (shown (codes "1") ∷ []) ((codes "SimpleNamespace", class 5) ∷ (codes "f", node 0) ∷ (codes "o", node 1) ∷ []) (function One (codes "def f(a): return a") [] ∷ object ((codes "f", node 0) ∷ []) ∷ []) (codes "SimpleNamespace" ∷ codes "f" ∷ codes "o" ∷ []) 14
unfolding reserved_marks delimiter operator numeral Q.escape Q.item Q.closes Q.body Q.quoted token_piece lexeme cut indented begin bracket step layout encode_utf8 code_of E.keyword_begins E.another E.argument E.attribute E.call E.slice_after E.item_or_slice E.trailer E.parenthesised E.list E.pair E.dict E.atom E.primary_parts E.primary E.power E.unary_level E.term E.sum E.compared E.negated_level E.conjunction E.disjunction E.expr_level E.exprs_level E.phrase S.primary_at S.another_simple S.raise S.return S.assertion S.delete S.global S.import S.update_of S.assignment_of S.update_or_assignment S.simple S.simples S.line S.block S.block_after S.arm S.choice S.while S.for S.caught S.handler S.handled S.finished S.try S.parameter S.definition S.define S.compound S.chunk S.program R.piece read_chars chars digits power builtin_names class_names run call
way_46 = refl

way_47 : run One (codes "def f():\n    x = 1\n    def_ = 2\n    return x, def_\nf()") empty ≡ ran_over Done (shown (codes "(1, 2)") ∷ []) ((codes "f", node 0) ∷ []) (function One (codes "def f():\n    x = 1\n    def_ = 2\n    return x, def_") [] ∷ tuple (integer (pos 1) ∷ integer (pos 2) ∷ []) ∷ []) (codes "f" ∷ []) 18
unfolding reserved_marks delimiter operator numeral Q.escape Q.item Q.closes Q.body Q.quoted token_piece lexeme cut indented begin bracket step layout encode_utf8 code_of E.keyword_begins E.another E.argument E.attribute E.call E.slice_after E.item_or_slice E.trailer E.parenthesised E.list E.pair E.dict E.atom E.primary_parts E.primary E.power E.unary_level E.term E.sum E.compared E.negated_level E.conjunction E.disjunction E.expr_level E.exprs_level E.phrase S.primary_at S.another_simple S.raise S.return S.assertion S.delete S.global S.import S.update_of S.assignment_of S.update_or_assignment S.simple S.simples S.line S.block S.block_after S.arm S.choice S.while S.for S.caught S.handler S.handled S.finished S.try S.parameter S.definition S.define S.compound S.chunk S.program R.piece read_chars chars digits power builtin_names class_names run call
way_47 = refl

way_48 : run One (codes "def f(a): return a\nf(1)(2)") empty ≡ ran_over Raised (fault (codes "TypeError") (codes "'int' object is not callable") ∷ []) ((codes "f", node 0) ∷ []) (function One (codes "def f(a): return a") [] ∷ []) (codes "f" ∷ []) 38
unfolding reserved_marks delimiter operator numeral Q.escape Q.item Q.closes Q.body Q.quoted token_piece lexeme cut indented begin bracket step layout encode_utf8 code_of E.keyword_begins E.another E.argument E.attribute E.call E.slice_after E.item_or_slice E.trailer E.parenthesised E.list E.pair E.dict E.atom E.primary_parts E.primary E.power E.unary_level E.term E.sum E.compared E.negated_level E.conjunction E.disjunction E.expr_level E.exprs_level E.phrase S.primary_at S.another_simple S.raise S.return S.assertion S.delete S.global S.import S.update_of S.assignment_of S.update_or_assignment S.simple S.simples S.line S.block S.block_after S.arm S.choice S.while S.for S.caught S.handler S.handled S.finished S.try S.parameter S.definition S.define S.compound S.chunk S.program R.piece read_chars chars digits power builtin_names class_names run call
way_48 = refl

way_49 : run One (codes "def f(): del x\nx = 1\nf()") empty ≡ ran_over Raised (fault (codes "UnboundLocalError") (codes "local name 'x' has no value") ∷ []) ((codes "f", node 0) ∷ (codes "x", integer (pos 1)) ∷ []) (function One (codes "def f(): del x") [] ∷ []) (codes "f" ∷ codes "x" ∷ []) 35
unfolding reserved_marks delimiter operator numeral Q.escape Q.item Q.closes Q.body Q.quoted token_piece lexeme cut indented begin bracket step layout encode_utf8 code_of E.keyword_begins E.another E.argument E.attribute E.call E.slice_after E.item_or_slice E.trailer E.parenthesised E.list E.pair E.dict E.atom E.primary_parts E.primary E.power E.unary_level E.term E.sum E.compared E.negated_level E.conjunction E.disjunction E.expr_level E.exprs_level E.phrase S.primary_at S.another_simple S.raise S.return S.assertion S.delete S.global S.import S.update_of S.assignment_of S.update_or_assignment S.simple S.simples S.line S.block S.block_after S.arm S.choice S.while S.for S.caught S.handler S.handled S.finished S.try S.parameter S.definition S.define S.compound S.chunk S.program R.piece read_chars chars digits power builtin_names class_names run call
way_49 = refl

way_50 : run One (codes "def f():\n    global x\n    del x\nx = 1\nf()\nx") empty ≡ ran_over Raised (fault (codes "NameError") (codes "name 'x' is not defined") ∷ []) ((codes "f", node 0) ∷ []) (function One (codes "def f():\n    global x\n    del x") [] ∷ []) (codes "f" ∷ codes "x" ∷ []) 34
unfolding reserved_marks delimiter operator numeral Q.escape Q.item Q.closes Q.body Q.quoted token_piece lexeme cut indented begin bracket step layout encode_utf8 code_of E.keyword_begins E.another E.argument E.attribute E.call E.slice_after E.item_or_slice E.trailer E.parenthesised E.list E.pair E.dict E.atom E.primary_parts E.primary E.power E.unary_level E.term E.sum E.compared E.negated_level E.conjunction E.disjunction E.expr_level E.exprs_level E.phrase S.primary_at S.another_simple S.raise S.return S.assertion S.delete S.global S.import S.update_of S.assignment_of S.update_or_assignment S.simple S.simples S.line S.block S.block_after S.arm S.choice S.while S.for S.caught S.handler S.handled S.finished S.try S.parameter S.definition S.define S.compound S.chunk S.program R.piece read_chars chars digits power builtin_names class_names run call
way_50 = refl

way_51 : run One (codes "try:\n    {}['k']\nexcept KeyError as e:\n    print(e)\nfinally:\n    print('end')") empty ≡ ran_over Done (stream (codes "'k'\nend\n") ∷ []) [] (dict [] ∷ exception 16 (text (codes "k") ∷ []) ∷ []) (codes "KeyError" ∷ codes "e" ∷ codes "print" ∷ []) 23
unfolding reserved_marks delimiter operator numeral Q.escape Q.item Q.closes Q.body Q.quoted token_piece lexeme cut indented begin bracket step layout encode_utf8 code_of E.keyword_begins E.another E.argument E.attribute E.call E.slice_after E.item_or_slice E.trailer E.parenthesised E.list E.pair E.dict E.atom E.primary_parts E.primary E.power E.unary_level E.term E.sum E.compared E.negated_level E.conjunction E.disjunction E.expr_level E.exprs_level E.phrase S.primary_at S.another_simple S.raise S.return S.assertion S.delete S.global S.import S.update_of S.assignment_of S.update_or_assignment S.simple S.simples S.line S.block S.block_after S.arm S.choice S.while S.for S.caught S.handler S.handled S.finished S.try S.parameter S.definition S.define S.compound S.chunk S.program R.piece read_chars chars digits power builtin_names class_names run call
way_51 = refl

way_52 : run One (codes "try: raise ZeroDivisionError('z')\nexcept ArithmeticError as e: print(e)") empty ≡ ran_over Done (stream (codes "z\n") ∷ []) [] (exception 11 (text (codes "z") ∷ []) ∷ []) (codes "ArithmeticError" ∷ codes "ZeroDivisionError" ∷ codes "e" ∷ codes "print" ∷ []) 13
unfolding reserved_marks delimiter operator numeral Q.escape Q.item Q.closes Q.body Q.quoted token_piece lexeme cut indented begin bracket step layout encode_utf8 code_of E.keyword_begins E.another E.argument E.attribute E.call E.slice_after E.item_or_slice E.trailer E.parenthesised E.list E.pair E.dict E.atom E.primary_parts E.primary E.power E.unary_level E.term E.sum E.compared E.negated_level E.conjunction E.disjunction E.expr_level E.exprs_level E.phrase S.primary_at S.another_simple S.raise S.return S.assertion S.delete S.global S.import S.update_of S.assignment_of S.update_or_assignment S.simple S.simples S.line S.block S.block_after S.arm S.choice S.while S.for S.caught S.handler S.handled S.finished S.try S.parameter S.definition S.define S.compound S.chunk S.program R.piece read_chars chars digits power builtin_names class_names run call
way_52 = refl

way_53 : run One (codes "try: 1 // 0\nexcept KeyError: print('no')\nexcept (IndexError, ZeroDivisionError): print('yes')") empty ≡ ran_over Done (stream (codes "yes\n") ∷ []) [] (tuple (class 15 ∷ class 11 ∷ []) ∷ exception 11 (text (codes "division by zero") ∷ []) ∷ []) (codes "IndexError" ∷ codes "KeyError" ∷ codes "ZeroDivisionError" ∷ codes "print" ∷ []) 17
unfolding reserved_marks delimiter operator numeral Q.escape Q.item Q.closes Q.body Q.quoted token_piece lexeme cut indented begin bracket step layout encode_utf8 code_of E.keyword_begins E.another E.argument E.attribute E.call E.slice_after E.item_or_slice E.trailer E.parenthesised E.list E.pair E.dict E.atom E.primary_parts E.primary E.power E.unary_level E.term E.sum E.compared E.negated_level E.conjunction E.disjunction E.expr_level E.exprs_level E.phrase S.primary_at S.another_simple S.raise S.return S.assertion S.delete S.global S.import S.update_of S.assignment_of S.update_or_assignment S.simple S.simples S.line S.block S.block_after S.arm S.choice S.while S.for S.caught S.handler S.handled S.finished S.try S.parameter S.definition S.define S.compound S.chunk S.program R.piece read_chars chars digits power builtin_names class_names run call
way_53 = refl

way_54 : run One (codes "try: x\nexcept: print('any')") empty ≡ ran_over Done (stream (codes "any\n") ∷ []) [] (exception 17 (text (codes "name 'x' is not defined") ∷ []) ∷ []) (codes "print" ∷ codes "x" ∷ []) 11
unfolding reserved_marks delimiter operator numeral Q.escape Q.item Q.closes Q.body Q.quoted token_piece lexeme cut indented begin bracket step layout encode_utf8 code_of E.keyword_begins E.another E.argument E.attribute E.call E.slice_after E.item_or_slice E.trailer E.parenthesised E.list E.pair E.dict E.atom E.primary_parts E.primary E.power E.unary_level E.term E.sum E.compared E.negated_level E.conjunction E.disjunction E.expr_level E.exprs_level E.phrase S.primary_at S.another_simple S.raise S.return S.assertion S.delete S.global S.import S.update_of S.assignment_of S.update_or_assignment S.simple S.simples S.line S.block S.block_after S.arm S.choice S.while S.for S.caught S.handler S.handled S.finished S.try S.parameter S.definition S.define S.compound S.chunk S.program R.piece read_chars chars digits power builtin_names class_names run call
way_54 = refl

way_55 : run One (codes "try: pass\nexcept: print('no')\nelse: print('else')\nfinally: print('last')") empty ≡ ran Done (stream (codes "else\nlast\n") ∷ []) [] (codes "print" ∷ []) 20
unfolding reserved_marks delimiter operator numeral Q.escape Q.item Q.closes Q.body Q.quoted token_piece lexeme cut indented begin bracket step layout encode_utf8 code_of E.keyword_begins E.another E.argument E.attribute E.call E.slice_after E.item_or_slice E.trailer E.parenthesised E.list E.pair E.dict E.atom E.primary_parts E.primary E.power E.unary_level E.term E.sum E.compared E.negated_level E.conjunction E.disjunction E.expr_level E.exprs_level E.phrase S.primary_at S.another_simple S.raise S.return S.assertion S.delete S.global S.import S.update_of S.assignment_of S.update_or_assignment S.simple S.simples S.line S.block S.block_after S.arm S.choice S.while S.for S.caught S.handler S.handled S.finished S.try S.parameter S.definition S.define S.compound S.chunk S.program R.piece read_chars chars digits power builtin_names class_names run call
way_55 = refl

way_56 : run One (codes "try: 1 // 0\nexcept KeyError: pass\nfinally: print('f')") empty ≡ ran Raised (stream (codes "f\n") ∷ fault (codes "ZeroDivisionError") (codes "division by zero") ∷ []) [] (codes "KeyError" ∷ codes "print" ∷ []) 29
unfolding reserved_marks delimiter operator numeral Q.escape Q.item Q.closes Q.body Q.quoted token_piece lexeme cut indented begin bracket step layout encode_utf8 code_of E.keyword_begins E.another E.argument E.attribute E.call E.slice_after E.item_or_slice E.trailer E.parenthesised E.list E.pair E.dict E.atom E.primary_parts E.primary E.power E.unary_level E.term E.sum E.compared E.negated_level E.conjunction E.disjunction E.expr_level E.exprs_level E.phrase S.primary_at S.another_simple S.raise S.return S.assertion S.delete S.global S.import S.update_of S.assignment_of S.update_or_assignment S.simple S.simples S.line S.block S.block_after S.arm S.choice S.while S.for S.caught S.handler S.handled S.finished S.try S.parameter S.definition S.define S.compound S.chunk S.program R.piece read_chars chars digits power builtin_names class_names run call
way_56 = refl

way_57 : run One (codes "try:\n    try: 1 // 0\n    finally: print('inner')\nexcept Exception: print('outer')") empty ≡ ran_over Done (stream (codes "inner\nouter\n") ∷ []) [] (exception 11 (text (codes "division by zero") ∷ []) ∷ []) (codes "Exception" ∷ codes "print" ∷ []) 27
unfolding reserved_marks delimiter operator numeral Q.escape Q.item Q.closes Q.body Q.quoted token_piece lexeme cut indented begin bracket step layout encode_utf8 code_of E.keyword_begins E.another E.argument E.attribute E.call E.slice_after E.item_or_slice E.trailer E.parenthesised E.list E.pair E.dict E.atom E.primary_parts E.primary E.power E.unary_level E.term E.sum E.compared E.negated_level E.conjunction E.disjunction E.expr_level E.exprs_level E.phrase S.primary_at S.another_simple S.raise S.return S.assertion S.delete S.global S.import S.update_of S.assignment_of S.update_or_assignment S.simple S.simples S.line S.block S.block_after S.arm S.choice S.while S.for S.caught S.handler S.handled S.finished S.try S.parameter S.definition S.define S.compound S.chunk S.program R.piece read_chars chars digits power builtin_names class_names run call
way_57 = refl

way_58 : run One (codes "try: 1 // 0\nexcept ZeroDivisionError as e: pass\ne") empty ≡ ran_over Raised (fault (codes "NameError") (codes "name 'e' is not defined") ∷ []) [] (exception 11 (text (codes "division by zero") ∷ []) ∷ []) (codes "ZeroDivisionError" ∷ codes "e" ∷ []) 33
unfolding reserved_marks delimiter operator numeral Q.escape Q.item Q.closes Q.body Q.quoted token_piece lexeme cut indented begin bracket step layout encode_utf8 code_of E.keyword_begins E.another E.argument E.attribute E.call E.slice_after E.item_or_slice E.trailer E.parenthesised E.list E.pair E.dict E.atom E.primary_parts E.primary E.power E.unary_level E.term E.sum E.compared E.negated_level E.conjunction E.disjunction E.expr_level E.exprs_level E.phrase S.primary_at S.another_simple S.raise S.return S.assertion S.delete S.global S.import S.update_of S.assignment_of S.update_or_assignment S.simple S.simples S.line S.block S.block_after S.arm S.choice S.while S.for S.caught S.handler S.handled S.finished S.try S.parameter S.definition S.define S.compound S.chunk S.program R.piece read_chars chars digits power builtin_names class_names run call
way_58 = refl

way_59 : run One (codes "e = 5\ntry: 1 // 0\nexcept Exception as e: e = 6\ne") empty ≡ ran_over Raised (fault (codes "NameError") (codes "name 'e' is not defined") ∷ []) [] (exception 11 (text (codes "division by zero") ∷ []) ∷ []) (codes "Exception" ∷ codes "e" ∷ []) 36
unfolding reserved_marks delimiter operator numeral Q.escape Q.item Q.closes Q.body Q.quoted token_piece lexeme cut indented begin bracket step layout encode_utf8 code_of E.keyword_begins E.another E.argument E.attribute E.call E.slice_after E.item_or_slice E.trailer E.parenthesised E.list E.pair E.dict E.atom E.primary_parts E.primary E.power E.unary_level E.term E.sum E.compared E.negated_level E.conjunction E.disjunction E.expr_level E.exprs_level E.phrase S.primary_at S.another_simple S.raise S.return S.assertion S.delete S.global S.import S.update_of S.assignment_of S.update_or_assignment S.simple S.simples S.line S.block S.block_after S.arm S.choice S.while S.for S.caught S.handler S.handled S.finished S.try S.parameter S.definition S.define S.compound S.chunk S.program R.piece read_chars chars digits power builtin_names class_names run call
way_59 = refl

way_60 : run One (codes "try: 1 // 0\nexcept Exception as e: del e") empty ≡ ran_over Done [] [] (exception 11 (text (codes "division by zero") ∷ []) ∷ []) (codes "Exception" ∷ codes "e" ∷ []) 7
unfolding reserved_marks delimiter operator numeral Q.escape Q.item Q.closes Q.body Q.quoted token_piece lexeme cut indented begin bracket step layout encode_utf8 code_of E.keyword_begins E.another E.argument E.attribute E.call E.slice_after E.item_or_slice E.trailer E.parenthesised E.list E.pair E.dict E.atom E.primary_parts E.primary E.power E.unary_level E.term E.sum E.compared E.negated_level E.conjunction E.disjunction E.expr_level E.exprs_level E.phrase S.primary_at S.another_simple S.raise S.return S.assertion S.delete S.global S.import S.update_of S.assignment_of S.update_or_assignment S.simple S.simples S.line S.block S.block_after S.arm S.choice S.while S.for S.caught S.handler S.handled S.finished S.try S.parameter S.definition S.define S.compound S.chunk S.program R.piece read_chars chars digits power builtin_names class_names run call
way_60 = refl

way_61 : run One (codes "try: x\nexcept Exception as e: x = e\nx") empty ≡ ran_over Done (shown (codes "NameError(\"name 'x' is not defined\")") ∷ []) ((codes "x", node 0) ∷ []) (exception 17 (text (codes "name 'x' is not defined") ∷ []) ∷ []) (codes "Exception" ∷ codes "e" ∷ codes "x" ∷ []) 44
unfolding reserved_marks delimiter operator numeral Q.escape Q.item Q.closes Q.body Q.quoted token_piece lexeme cut indented begin bracket step layout encode_utf8 code_of E.keyword_begins E.another E.argument E.attribute E.call E.slice_after E.item_or_slice E.trailer E.parenthesised E.list E.pair E.dict E.atom E.primary_parts E.primary E.power E.unary_level E.term E.sum E.compared E.negated_level E.conjunction E.disjunction E.expr_level E.exprs_level E.phrase S.primary_at S.another_simple S.raise S.return S.assertion S.delete S.global S.import S.update_of S.assignment_of S.update_or_assignment S.simple S.simples S.line S.block S.block_after S.arm S.choice S.while S.for S.caught S.handler S.handled S.finished S.try S.parameter S.definition S.define S.compound S.chunk S.program R.piece read_chars chars digits power builtin_names class_names run call
way_61 = refl

way_62 : run One (codes "try: y\nexcept Exception as e: y = e.args\ny") empty ≡ ran_over Done (shown (codes "(\"name 'y' is not defined\",)") ∷ []) ((codes "y", node 1) ∷ []) (exception 17 (text (codes "name 'y' is not defined") ∷ []) ∷ tuple (text (codes "name 'y' is not defined") ∷ []) ∷ []) (codes "Exception" ∷ codes "e" ∷ codes "y" ∷ []) 37
unfolding reserved_marks delimiter operator numeral Q.escape Q.item Q.closes Q.body Q.quoted token_piece lexeme cut indented begin bracket step layout encode_utf8 code_of E.keyword_begins E.another E.argument E.attribute E.call E.slice_after E.item_or_slice E.trailer E.parenthesised E.list E.pair E.dict E.atom E.primary_parts E.primary E.power E.unary_level E.term E.sum E.compared E.negated_level E.conjunction E.disjunction E.expr_level E.exprs_level E.phrase S.primary_at S.another_simple S.raise S.return S.assertion S.delete S.global S.import S.update_of S.assignment_of S.update_or_assignment S.simple S.simples S.line S.block S.block_after S.arm S.choice S.while S.for S.caught S.handler S.handled S.finished S.try S.parameter S.definition S.define S.compound S.chunk S.program R.piece read_chars chars digits power builtin_names class_names run call
way_62 = refl

way_63 : run One (codes "try: 1 // 0\nexcept 5: pass") empty ≡ ran Raised (fault (codes "TypeError") (codes "exceptions must be exception classes or objects") ∷ []) [] [] 54
unfolding reserved_marks delimiter operator numeral Q.escape Q.item Q.closes Q.body Q.quoted token_piece lexeme cut indented begin bracket step layout encode_utf8 code_of E.keyword_begins E.another E.argument E.attribute E.call E.slice_after E.item_or_slice E.trailer E.parenthesised E.list E.pair E.dict E.atom E.primary_parts E.primary E.power E.unary_level E.term E.sum E.compared E.negated_level E.conjunction E.disjunction E.expr_level E.exprs_level E.phrase S.primary_at S.another_simple S.raise S.return S.assertion S.delete S.global S.import S.update_of S.assignment_of S.update_or_assignment S.simple S.simples S.line S.block S.block_after S.arm S.choice S.while S.for S.caught S.handler S.handled S.finished S.try S.parameter S.definition S.define S.compound S.chunk S.program R.piece read_chars chars digits power builtin_names class_names run call
way_63 = refl

way_64 : run One (codes "try: 1 // 0\nexcept (KeyError, 5): pass") empty ≡ ran_over Raised (fault (codes "TypeError") (codes "exceptions must be exception classes or objects") ∷ []) [] (tuple (class 16 ∷ integer (pos 5) ∷ []) ∷ []) (codes "KeyError" ∷ []) 56
unfolding reserved_marks delimiter operator numeral Q.escape Q.item Q.closes Q.body Q.quoted token_piece lexeme cut indented begin bracket step layout encode_utf8 code_of E.keyword_begins E.another E.argument E.attribute E.call E.slice_after E.item_or_slice E.trailer E.parenthesised E.list E.pair E.dict E.atom E.primary_parts E.primary E.power E.unary_level E.term E.sum E.compared E.negated_level E.conjunction E.disjunction E.expr_level E.exprs_level E.phrase S.primary_at S.another_simple S.raise S.return S.assertion S.delete S.global S.import S.update_of S.assignment_of S.update_or_assignment S.simple S.simples S.line S.block S.block_after S.arm S.choice S.while S.for S.caught S.handler S.handled S.finished S.try S.parameter S.definition S.define S.compound S.chunk S.program R.piece read_chars chars digits power builtin_names class_names run call
way_64 = refl

way_65 : run One (codes "try: pass\nexcept 5: pass\n1") empty ≡ ran Done (shown (codes "1") ∷ []) [] [] 5
unfolding reserved_marks delimiter operator numeral Q.escape Q.item Q.closes Q.body Q.quoted token_piece lexeme cut indented begin bracket step layout encode_utf8 code_of E.keyword_begins E.another E.argument E.attribute E.call E.slice_after E.item_or_slice E.trailer E.parenthesised E.list E.pair E.dict E.atom E.primary_parts E.primary E.power E.unary_level E.term E.sum E.compared E.negated_level E.conjunction E.disjunction E.expr_level E.exprs_level E.phrase S.primary_at S.another_simple S.raise S.return S.assertion S.delete S.global S.import S.update_of S.assignment_of S.update_or_assignment S.simple S.simples S.line S.block S.block_after S.arm S.choice S.while S.for S.caught S.handler S.handled S.finished S.try S.parameter S.definition S.define S.compound S.chunk S.program R.piece read_chars chars digits power builtin_names class_names run call
way_65 = refl

way_66 : run One (codes "try: 1 // 0\nexcept KeyError: pass\nexcept x: pass") empty ≡ ran Raised (fault (codes "NameError") (codes "name 'x' is not defined") ∷ []) [] (codes "KeyError" ∷ codes "x" ∷ []) 31
unfolding reserved_marks delimiter operator numeral Q.escape Q.item Q.closes Q.body Q.quoted token_piece lexeme cut indented begin bracket step layout encode_utf8 code_of E.keyword_begins E.another E.argument E.attribute E.call E.slice_after E.item_or_slice E.trailer E.parenthesised E.list E.pair E.dict E.atom E.primary_parts E.primary E.power E.unary_level E.term E.sum E.compared E.negated_level E.conjunction E.disjunction E.expr_level E.exprs_level E.phrase S.primary_at S.another_simple S.raise S.return S.assertion S.delete S.global S.import S.update_of S.assignment_of S.update_or_assignment S.simple S.simples S.line S.block S.block_after S.arm S.choice S.while S.for S.caught S.handler S.handled S.finished S.try S.parameter S.definition S.define S.compound S.chunk S.program R.piece read_chars chars digits power builtin_names class_names run call
way_66 = refl

way_67 : run One (codes "try: 1 // 0\nexcept print(1): pass") empty ≡ ran Raised (stream (codes "1\n") ∷ fault (codes "TypeError") (codes "exceptions must be exception classes or objects") ∷ []) [] (codes "print" ∷ []) 58
unfolding reserved_marks delimiter operator numeral Q.escape Q.item Q.closes Q.body Q.quoted token_piece lexeme cut indented begin bracket step layout encode_utf8 code_of E.keyword_begins E.another E.argument E.attribute E.call E.slice_after E.item_or_slice E.trailer E.parenthesised E.list E.pair E.dict E.atom E.primary_parts E.primary E.power E.unary_level E.term E.sum E.compared E.negated_level E.conjunction E.disjunction E.expr_level E.exprs_level E.phrase S.primary_at S.another_simple S.raise S.return S.assertion S.delete S.global S.import S.update_of S.assignment_of S.update_or_assignment S.simple S.simples S.line S.block S.block_after S.arm S.choice S.while S.for S.caught S.handler S.handled S.finished S.try S.parameter S.definition S.define S.compound S.chunk S.program R.piece read_chars chars digits power builtin_names class_names run call
way_67 = refl

way_68 : run One (codes "try: 1 // 0\nexcept Exception as e: z") empty ≡ ran_over Raised (fault (codes "NameError") (codes "name 'z' is not defined") ∷ []) [] (exception 11 (text (codes "division by zero") ∷ []) ∷ []) (codes "Exception" ∷ codes "e" ∷ codes "z" ∷ []) 32
unfolding reserved_marks delimiter operator numeral Q.escape Q.item Q.closes Q.body Q.quoted token_piece lexeme cut indented begin bracket step layout encode_utf8 code_of E.keyword_begins E.another E.argument E.attribute E.call E.slice_after E.item_or_slice E.trailer E.parenthesised E.list E.pair E.dict E.atom E.primary_parts E.primary E.power E.unary_level E.term E.sum E.compared E.negated_level E.conjunction E.disjunction E.expr_level E.exprs_level E.phrase S.primary_at S.another_simple S.raise S.return S.assertion S.delete S.global S.import S.update_of S.assignment_of S.update_or_assignment S.simple S.simples S.line S.block S.block_after S.arm S.choice S.while S.for S.caught S.handler S.handled S.finished S.try S.parameter S.definition S.define S.compound S.chunk S.program R.piece read_chars chars digits power builtin_names class_names run call
way_68 = refl

way_69 : run One (codes "try: 1 // 0\nexcept () : pass") empty ≡ ran_over Raised (fault (codes "ZeroDivisionError") (codes "division by zero") ∷ []) [] (tuple [] ∷ []) [] 23
unfolding reserved_marks delimiter operator numeral Q.escape Q.item Q.closes Q.body Q.quoted token_piece lexeme cut indented begin bracket step layout encode_utf8 code_of E.keyword_begins E.another E.argument E.attribute E.call E.slice_after E.item_or_slice E.trailer E.parenthesised E.list E.pair E.dict E.atom E.primary_parts E.primary E.power E.unary_level E.term E.sum E.compared E.negated_level E.conjunction E.disjunction E.expr_level E.exprs_level E.phrase S.primary_at S.another_simple S.raise S.return S.assertion S.delete S.global S.import S.update_of S.assignment_of S.update_or_assignment S.simple S.simples S.line S.block S.block_after S.arm S.choice S.while S.for S.caught S.handler S.handled S.finished S.try S.parameter S.definition S.define S.compound S.chunk S.program R.piece read_chars chars digits power builtin_names class_names run call
way_69 = refl

way_70 : run One (codes "try: {}[1, 'a']\nexcept LookupError as e: print(e)") empty ≡ ran_over Done (stream (codes "(1, 'a')\n") ∷ []) [] (dict [] ∷ tuple (integer (pos 1) ∷ text (codes "a") ∷ []) ∷ exception 16 (node 1 ∷ []) ∷ []) (codes "LookupError" ∷ codes "e" ∷ codes "print" ∷ []) 24
unfolding reserved_marks delimiter operator numeral Q.escape Q.item Q.closes Q.body Q.quoted token_piece lexeme cut indented begin bracket step layout encode_utf8 code_of E.keyword_begins E.another E.argument E.attribute E.call E.slice_after E.item_or_slice E.trailer E.parenthesised E.list E.pair E.dict E.atom E.primary_parts E.primary E.power E.unary_level E.term E.sum E.compared E.negated_level E.conjunction E.disjunction E.expr_level E.exprs_level E.phrase S.primary_at S.another_simple S.raise S.return S.assertion S.delete S.global S.import S.update_of S.assignment_of S.update_or_assignment S.simple S.simples S.line S.block S.block_after S.arm S.choice S.while S.for S.caught S.handler S.handled S.finished S.try S.parameter S.definition S.define S.compound S.chunk S.program R.piece read_chars chars digits power builtin_names class_names run call
way_70 = refl
