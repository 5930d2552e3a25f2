-- Worked examples, computed on the definitions.
use Rattle.std.proofs.Common.{◌≡◌, ◌∷◌, [], refl}
use Rattle.std.specs.Prelude.{ℕ, pos, List, codes, Some}
use Rattle.std.specs.Char.{encode_utf8}
use Rattle.std.specs.Fmt.{digits}
use Rattle.std.specs.Str.{chars}
use Rattle.kishu_language.specs.declared.profile.Profile.TheVariants.{One}
use Rattle.kishu_meaning.specs.declared.result.Outcome.TheVariants.{Done, Raised}
use Rattle.kishu_meaning.specs.values.BuiltinNames.{builtin_names, class_names}
use Rattle.kishu_meaning.specs.values.Numbers.{power}
use Rattle.kishu_language.specs.tokens.Marks.{reserved_marks, delimiter, operator}
use Rattle.kishu_language.specs.tokens.Numerals.{numeral}
use Rattle.kishu_language.specs.tokens.Quoted as Q
use Rattle.kishu_language.specs.tokens.Lexemes.{token_piece, lexeme}
use Rattle.kishu_language.specs.tokens.Layout.{cut, indented, begin, bracket, step, layout}
use Rattle.kishu_language.specs.trees.Code.{code_of}
use Rattle.kishu_language.specs.reading.ReadExpressions as E
use Rattle.kishu_language.specs.reading.ReadStatements as S
use Rattle.kishu_language.specs.reading.ReadText as R
use Rattle.kishu_meaning.specs.values.Values.{Names, none, integer, text, State, empty, stream, shown, fault}
use Rattle.kishu_meaning.specs.moments.Moment.{Moment, fresh, fine, raised, give, deeper, read, assign}
use Rattle.kishu_meaning.specs.comparing.Show.{show_thrown}
use Rattle.kishu_meaning.specs.cells.Meaning.{begun, run}
use Rattle.kishu_meaning_rows.proofs.Cells.{ran}

-- ---- cells, one after another

abbrev after : List ℕ → State
after source = (run One source empty).state

kept : run One (codes "n") (after (codes "n = 1; m = 1 // 0; n = 2")) ≡ ran Done (shown (codes "1") ∷ []) ((codes "n", integer (pos 1)) ∷ []) (codes "n" ∷ []) 3
unfolding reserved_marks delimiter operator numeral Q.escape Q.item Q.closes Q.body Q.quoted token_piece lexeme cut indented begin bracket step layout encode_utf8 code_of E.keyword_begins E.another E.argument E.attribute E.call E.slice_after E.item_or_slice E.trailer E.parenthesised E.list E.pair E.dict E.atom E.primary_parts E.primary E.power E.unary_level E.term E.sum E.compared E.negated_level E.conjunction E.disjunction E.expr_level E.exprs_level E.phrase S.primary_at S.another_simple S.raise S.return S.assertion S.delete S.global S.import S.update_of S.assignment_of S.update_or_assignment S.simple S.simples S.line S.block S.block_after S.arm S.choice S.while S.for S.caught S.handler S.handled S.finished S.try S.parameter S.definition S.define S.compound S.chunk S.program R.piece R.read_chars chars digits power builtin_names class_names run
kept = refl

added : run One (codes "m = n; n += 1; a = ''") (after (codes "n = 1"))
    ≡ ran Done [] ((codes "a", text []) ∷ (codes "m", integer (pos 1)) ∷ (codes "n", integer (pos 2)) ∷ []) (codes "a" ∷ codes "m" ∷ codes "n" ∷ []) 8
unfolding reserved_marks delimiter operator numeral Q.escape Q.item Q.closes Q.body Q.quoted token_piece lexeme cut indented begin bracket step layout encode_utf8 code_of E.keyword_begins E.another E.argument E.attribute E.call E.slice_after E.item_or_slice E.trailer E.parenthesised E.list E.pair E.dict E.atom E.primary_parts E.primary E.power E.unary_level E.term E.sum E.compared E.negated_level E.conjunction E.disjunction E.expr_level E.exprs_level E.phrase S.primary_at S.another_simple S.raise S.return S.assertion S.delete S.global S.import S.update_of S.assignment_of S.update_or_assignment S.simple S.simples S.line S.block S.block_after S.arm S.choice S.while S.for S.caught S.handler S.handled S.finished S.try S.parameter S.definition S.define S.compound S.chunk S.program R.piece R.read_chars chars digits power builtin_names class_names run
added = refl

-- A text without a tree runs nothing.
nothing_run : run One (codes "n = 2\nn = = 3") (after (codes "n = 1")) ≡ ran Raised (fault (codes "SyntaxError") (codes "invalid syntax, line 2") ∷ []) ((codes "n", integer (pos 1)) ∷ []) [] 0
unfolding reserved_marks delimiter operator numeral Q.escape Q.item Q.closes Q.body Q.quoted token_piece lexeme cut indented begin bracket step layout encode_utf8 code_of E.keyword_begins E.another E.argument E.attribute E.call E.slice_after E.item_or_slice E.trailer E.parenthesised E.list E.pair E.dict E.atom E.primary_parts E.primary E.power E.unary_level E.term E.sum E.compared E.negated_level E.conjunction E.disjunction E.expr_level E.exprs_level E.phrase S.primary_at S.another_simple S.raise S.return S.assertion S.delete S.global S.import S.update_of S.assignment_of S.update_or_assignment S.simple S.simples S.line S.block S.block_after S.arm S.choice S.while S.for S.caught S.handler S.handled S.finished S.try S.parameter S.definition S.define S.compound S.chunk S.program R.piece R.read_chars chars digits power builtin_names class_names run
nothing_run = refl

-- What was printed before is put out, and the names that were bound before are kept.
too_large : run One (codes "print(x)\n\ny = x + 1  \nx = 0\n") (after (codes "x = 170141183460469231731687303715884105727"))
    ≡ ran Raised (stream (codes "170141183460469231731687303715884105727\n") ∷ fault (codes "OverflowError") (codes "whole number too large") ∷ [])
    ((codes "x", integer (pos 170141183460469231731687303715884105727)) ∷ []) (codes "print" ∷ codes "x" ∷ []) 71
unfolding reserved_marks delimiter operator numeral Q.escape Q.item Q.closes Q.body Q.quoted token_piece lexeme cut indented begin bracket step layout encode_utf8 code_of E.keyword_begins E.another E.argument E.attribute E.call E.slice_after E.item_or_slice E.trailer E.parenthesised E.list E.pair E.dict E.atom E.primary_parts E.primary E.power E.unary_level E.term E.sum E.compared E.negated_level E.conjunction E.disjunction E.expr_level E.exprs_level E.phrase S.primary_at S.another_simple S.raise S.return S.assertion S.delete S.global S.import S.update_of S.assignment_of S.update_or_assignment S.simple S.simples S.line S.block S.block_after S.arm S.choice S.while S.for S.caught S.handler S.handled S.finished S.try S.parameter S.definition S.define S.compound S.chunk S.program R.piece R.read_chars chars digits power builtin_names class_names run
too_large = refl

-- ---- moments

abbrev start : Moment
start = begun One empty

-- The depth may be 1000, and what went deeper comes back.
deep : deeper (give (integer (pos 1))) (record start { depth = 999 }) ≡ fine (integer (pos 1)) (record start { depth = 999 })
deep = refl

too_deep : deeper (give (integer (pos 1))) (record start { depth = 1000 }) ≡ raised (fresh 21 (text (codes "depth limit reached") ∷ [])) (record start { depth = 1000 })
too_deep = refl

-- in a function whose only local name is a
abbrev in_function : Names → Moment
in_function values = record start { names = (codes "a", integer (pos 1)) ∷ []; locals = Some (record { own = codes "a" ∷ []; values = values }) }

local_value : read (codes "a") (in_function ((codes "a", none) ∷ [])) ≡ fine none (in_function ((codes "a", none) ∷ []))
local_value = refl

no_local_value : read (codes "a") (in_function []) ≡ raised (fresh 18 (text (codes "local name 'a' has no value") ∷ [])) (in_function [])
unfolding chars
no_local_value = refl

not_local : read (codes "b") (in_function []) ≡ raised (fresh 17 (text (codes "name 'b' is not defined") ∷ [])) (record (in_function []) { accessed = codes "b" ∷ [] })
unfolding builtin_names class_names chars
not_local = refl

local_bound : assign (codes "a") none (in_function []) ≡ fine tt (in_function ((codes "a", none) ∷ []))
local_bound = refl

not_local_bound : assign (codes "b") none (in_function [])
    ≡ fine tt (record (in_function []) { names = (codes "a", integer (pos 1)) ∷ (codes "b", none) ∷ []; accessed = codes "b" ∷ [] })
not_local_bound = refl

-- ---- texts of exceptions

no_argument : show_thrown (fresh 24 []) start ≡ fine [] start
no_argument = refl

one_argument : show_thrown (fresh 24 (text (codes "k") ∷ [])) (record start { left = 5 }) ≡ fine (codes "k") (record start { left = 3 })
one_argument = refl

missing_key : show_thrown (fresh 16 (text (codes "k") ∷ [])) (record start { left = 5 }) ≡ fine (codes "'k'") (record start { left = 1 })
missing_key = refl
