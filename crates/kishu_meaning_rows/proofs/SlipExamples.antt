-- Worked examples, computed on the definitions, of what a small slip would change. `kishu_rows` has the others.
use Rattle.std.proofs.Common.{◌≡◌, ◌∷◌, [], refl}
use Rattle.std.specs.Prelude.{pos, List, ℕ, true, false, codes, Some}
use Rattle.std.specs.Char.{encode_utf8}
use Rattle.std.specs.Fmt.{digits}
use Rattle.std.specs.Str.{chars}
use Rattle.kishu_language.specs.declared.profile.Profile.TheVariants.{One}
use Rattle.kishu_meaning.specs.declared.result.Outcome.TheVariants.{Done}
use Rattle.kishu_language.specs.declared.tree.Comparison.TheVariants as comparisons
use Rattle.kishu_meaning.specs.values.BuiltinNames.{builtin_names, class_names}
use Rattle.kishu_meaning.specs.values.Numbers.{power}
use Rattle.kishu_language.specs.tokens.Marks.{reserved_marks, delimiter, operator}
use Rattle.kishu_language.specs.tokens.Numerals.{numeral}
use Rattle.kishu_language.specs.tokens.Quoted as Q
use Rattle.kishu_language.specs.tokens.Lexemes.{token_piece, lexeme}
use Rattle.kishu_language.specs.tokens.Layout.{cut, indented, begin, bracket, step, layout}
use Rattle.kishu_language.specs.trees.Code.{code_of}
use Rattle.kishu_language.specs.reading.ReadExpressions as E
use Rattle.kishu_language.specs.reading.ReadStatements as S
use Rattle.kishu_language.specs.reading.ReadText as R
use Rattle.kishu_meaning.specs.values.Keys as p
use Rattle.kishu_meaning.specs.values.Values.{Names, Node, none, bool, integer, text, node, list, dict, empty}
use Rattle.kishu_meaning.specs.moments.Moment.{Moment, fresh, fine, raised, stopped, give, read}
use Rattle.kishu_meaning.specs.comparing.Comparing.{compare}
use Rattle.kishu_meaning.specs.items.Walks.{keys, along_list, along_dict, walk_of, item_for}
use Rattle.kishu_meaning.specs.cells.Ways.{onward, broke, finally}
use Rattle.kishu_meaning.specs.cells.Meaning.{begun, run, add_to}

abbrev start : Moment
start = begun One empty

abbrev with_nodes : List Node → Moment
with_nodes ns = record start { nodes = ns }

-- in a function whose only local name is a
abbrev in_function : Names → Moment
in_function values = record start { names = (codes "a", integer (pos 1)) ∷ []; locals = Some (record { own = codes "a" ∷ []; values = values }) }

-- A local name without a value isn't looked for elsewhere.
no_local_value : read (codes "a") (in_function []) ≡ raised (fresh 18 (text (codes "local name 'a' has no value") ∷ [])) (in_function [])
unfolding chars
no_local_value = refl

-- A miss is recorded too.
not_local : read (codes "b") (in_function []) ≡ raised (fresh 17 (text (codes "name 'b' is not defined") ∷ [])) (record (in_function []) { accessed = codes "b" ∷ [] })
unfolding builtin_names class_names chars
not_local = refl

-- 1 == True, and yet they are two.
one_is_true : compare comparisons.Is (integer (pos 1)) (bool true) start ≡ fine false start
one_is_true = refl

-- `+=` changes the list.
added_in_place : add_to (node 0) (node 0) (Some (none ∷ [])) (with_nodes (list (none ∷ []) ∷ []))
    ≡ fine (node 0) (record (with_nodes (list (none ∷ none ∷ []) ∷ [])) { left = 3999999 })
added_in_place = refl

-- A list is walked as it is at each turn.
walked_as_it_is : walk_of (node 0) (with_nodes (list (none ∷ []) ∷ [])) ≡ fine (along_list 0) (with_nodes (list (none ∷ []) ∷ []))
walked_as_it_is = refl

-- A dict that became smaller is seen.
smaller_dict : item_for (along_dict 0 1 keys) 0 (with_nodes (dict [] ∷ [])) ≡ raised (fresh 19 (text (codes "dictionary changed size during iteration") ∷ [])) (with_nodes (dict [] ∷ []))
smaller_dict = refl

-- A spent budget runs no last block.
no_last_block : finally (λ s. stopped s) (give broke) start ≡ stopped start
no_last_block = refl

-- Targets are stored into from left to right.
targets : run One (codes "x = x[0] = [1]") empty ≡ record {
  state = record { names = (codes "x", node 0) ∷ []; nodes = list (node 0 ∷ []) ∷ [] };
  report = record { outcome = Done; outputs = [] };
  accessed = codes "x" ∷ [];
  charge = 5;
}
unfolding reserved_marks delimiter operator numeral Q.escape Q.item Q.closes Q.body Q.quoted token_piece lexeme cut indented begin bracket step layout encode_utf8 code_of E.keyword_begins E.another E.argument E.attribute E.call E.slice_after E.item_or_slice E.trailer E.parenthesised E.list E.pair E.dict E.atom E.primary_parts E.primary E.power E.unary_level E.term E.sum E.compared E.negated_level E.conjunction E.disjunction E.expr_level E.exprs_level E.phrase S.primary_at S.another_simple S.raise S.return S.assertion S.delete S.global S.import S.update_of S.assignment_of S.update_or_assignment S.simple S.simples S.line S.block S.block_after S.arm S.choice S.while S.for S.caught S.handler S.handled S.finished S.try S.parameter S.definition S.define S.compound S.chunk S.program R.piece R.read_chars chars digits power builtin_names class_names run
targets = refl
