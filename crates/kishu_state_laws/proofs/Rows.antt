-- A state with a node of each kind, and what is no value, no node and no list of names: computed on the definition.
use Rattle.std.specs.Prelude.{◌≡◌, ◌-◌, ◌^◌, pos, negsuc, true, false, [], ◌∷◌, codes, Some}
use Rattle.std.specs.Char.{encode_utf8}
use Rattle.std.specs.List.Sorted.{IsStrictlySortedBy}
use Rattle.std.specs.Str.{chars}
use Rattle.std.proofs.Common.{refl, sym, ◌∙◌, arith}
use Rattle.kishu_language.specs.declared.profile.Profile.TheVariants.{One}
use Rattle.kishu_language.specs.tokens.Names.{reserved_words}
use Rattle.kishu_language.specs.tokens.Marks.{reserved_marks, delimiter, operator}
use Rattle.kishu_language.specs.tokens.Numerals.{numeral}
use Rattle.kishu_language.specs.tokens.Quoted as Q
use Rattle.kishu_language.specs.tokens.Lexemes.{token_piece, lexeme}
use Rattle.kishu_language.specs.tokens.Layout.{cut, indented, begin, bracket, step, layout}
use Rattle.kishu_language.specs.trees.Tree.{Text, Definition, statements}
use Rattle.kishu_language.specs.trees.Tree as t
use Rattle.kishu_language.specs.trees.Code.{code_of}
use Rattle.kishu_language.specs.reading.ReadExpressions as E
use Rattle.kishu_language.specs.reading.ReadStatements as S
use Rattle.kishu_language.specs.reading.ReadText as R
use Rattle.kishu_language.specs.reading.ReadText.{read_chars, ReadsDef}
use Rattle.kishu_meaning.specs.values.Keys as k
use Rattle.kishu_meaning.specs.values.Values.{none, integer, text, range, builtin, class, node, list, tuple, dict, object, function, exception, State}
use Rattle.kishu_objects.specs.State.{IsValue, IsNode, IsCode, AreNames, IsState}
use Rattle.kishu_state_laws.specs.Codes.{told, head_is}

-- ---- a function

abbrev pub one_default : Text
one_default = codes "def f(a=1): return a"

abbrev pub its_function : Definition
its_function = record { title = codes "f"; parameters = (codes "a", Some (t.integer (pos 1))) ∷ []; body = statements (t.return (Some (t.name (codes "a"))) ∷ []) }

its_reading : ReadsDef One one_default its_function
unfolding reserved_marks delimiter operator numeral Q.escape Q.item Q.closes Q.body Q.quoted token_piece lexeme cut indented begin bracket step layout encode_utf8 code_of E.keyword_begins E.another E.argument E.attribute E.call E.slice_after E.item_or_slice E.trailer E.parenthesised E.list E.pair E.dict E.atom E.primary_parts E.primary E.power E.unary_level E.term E.sum E.compared E.negated_level E.conjunction E.disjunction E.expr_level E.exprs_level E.phrase S.primary_at S.another_simple S.raise S.return S.assertion S.delete S.global S.import S.update_of S.assignment_of S.update_or_assignment S.simple S.simples S.line S.block S.block_after S.arm S.choice S.while S.for S.caught S.handler S.handled S.finished S.try S.parameter S.definition S.define S.compound S.chunk S.program R.piece read_chars chars
its_reading = refl

one_default_code : IsCode One one_default 1
unfolding encode_utf8
one_default_code = record { utf8 = (one_default, (refl, refl)); short = omega arith; function = its_function; reads = its_reading; filled = refl }

-- ---- a state

abbrev pub each_kind : State
each_kind = record {
  names = (codes "d", node 1) ∷ (codes "f", node 3) ∷ (codes "n", integer (negsuc (2 ^ 127 - 1))) ∷ (codes "x", node 0) ∷ [];
  nodes =
      list (integer (pos (2 ^ 127 - 1)) ∷ text (0 ∷ 0xD7FF ∷ 0xE000 ∷ 0x10FFFF ∷ []) ∷ range (pos 5) (pos 0) (negsuc 0) ∷ builtin 13 ∷ class 24 ∷ node 5 ∷ [])
      ∷ dict ((k.single (k.integer (pos 1)), node 0) ∷ (k.single (k.text (codes "1")), node 1) ∷ (k.tuple (k.none ∷ k.bool true ∷ []), node 2) ∷ [])
      ∷ object ((codes "b", node 2) ∷ (codes "a", none) ∷ [])
      ∷ function One one_default (integer (pos 1) ∷ [])
      ∷ tuple []
      ∷ exception 8 (text (codes "x") ∷ [])
      ∷ [];
}

each_kind_is_state : IsState each_kind
unfolding reserved_words IsStrictlySortedBy
each_kind_is_state = record {
  names = record {
    titles = (refl, (refl, (refl, (refl, tt))));
    rise = ((refl, (refl, (refl, tt))), ((refl, (refl, tt)), ((refl, tt), (tt, tt))));
    values = (omega arith, (omega arith, (refl, (omega arith, tt))));
  };
  nodes = (
    (refl, (refl, ((refl, refl, refl, refl), (omega arith, (omega arith, (omega arith, tt)))))),
    (
      ((refl, (refl, ((tt, (tt, tt)), tt))), (refl, (refl, (refl, tt))), (omega arith, (omega arith, (omega arith, tt)))),
      (
        ((refl, (refl, tt)), (refl, (refl, tt)), (omega arith, (tt, tt))),
        ((one_default_code, (refl, tt)), (tt, ((refl, (refl, tt)), tt))),
      ),
    ),
  );
}

-- ---- what is none

too_large : IsValue 0 (integer (pos (2 ^ 127))) → ⊥
too_large h = cc

too_small : IsValue 0 (integer (negsuc (2 ^ 127))) → ⊥
too_small h = cc

surrogate : IsValue 0 (text (0xD800 ∷ [])) → ⊥
surrogate h = cc

past_the_last : IsValue 0 (text (0x110000 ∷ [])) → ⊥
past_the_last h = cc

no_step : IsValue 0 (range (pos 0) (pos 5) (pos 0)) → ⊥
no_step h = let p : true ≡ false = h.3 in cc

no_builtin : IsValue 0 (builtin 14) → ⊥
no_builtin h = omega (arith, h)

no_class : IsValue 0 (class 25) → ⊥
no_class h = omega (arith, h)

no_node : IsValue 1 (node 1) → ⊥
no_node h = omega (arith, h)

-- 1 and True are one key.
one_key_twice : IsNode 0 (dict ((k.single (k.integer (pos 1)), none) ∷ (k.single (k.bool true), none) ∷ [])) → ⊥
one_key_twice h = let p : true ≡ false = h.1.0 in cc

one_attribute_twice : IsNode 0 (object ((codes "a", none) ∷ (codes "a", none) ∷ [])) → ⊥
one_attribute_twice h = let p : true ≡ false = h.1.0 in cc

reserved_attribute : IsNode 0 (object ((codes "if", none) ∷ [])) → ⊥
unfolding reserved_words
reserved_attribute h = let p : false ≡ true = h.0.0 in cc

no_exception : IsNode 0 (exception 7 []) → ⊥
no_exception h = let p : false ≡ true = h.0 in cc

default_missing : IsNode 0 (function One one_default []) → ⊥
default_missing h =
    let c = h.0 in
    let same = head_is (sym (told One one_default c.function c.reads) ∙ told One one_default its_function its_reading) in
    omega (arith, c.filled ∙ same)

out_of_order : AreNames 0 ((codes "b", none) ∷ (codes "a", none) ∷ []) → ⊥
unfolding IsStrictlySortedBy
out_of_order h = let p = h.rise.0.0 in cc

bound_twice : AreNames 0 ((codes "a", none) ∷ (codes "a", none) ∷ []) → ⊥
unfolding IsStrictlySortedBy
bound_twice h = let p = h.rise.0.0 in cc
