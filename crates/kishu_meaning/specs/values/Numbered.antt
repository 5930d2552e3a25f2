-- The constants of the code are the numbers of the builtin functions and the classes, and these stand in the order of their numbers.
use Rattle.std.specs.Prelude.{◌≡◌, ℕ, suc, ◌==◌, Bool, true, ◌&&◌, List, [], ◌∷◌, map}
use Rattle.kishu_meaning.specs.declared.value.Builtin.{Builtin}
use Rattle.kishu_meaning.specs.declared.value.ClassId.{ClassId}
use Rattle.kishu_meaning.specs.declared.value.TheConstants.Builtin as functions
use Rattle.kishu_meaning.specs.declared.value.TheConstants.ClassId as kinds
use Rattle.kishu_meaning.specs.values.BuiltinNames.{all_builtins, all_classes, builtin_number}

abbrev pub builtin_numbers : List ℕ
builtin_numbers = map builtin_number all_builtins

abbrev pub class_numbers : List ℕ
class_numbers = map (λ named. named.0) all_classes

-- These are the numbers from k on.
abbrev pub are_from : ℕ → List ℕ → Bool
are_from k [] = true
are_from k (n ∷ ns) = n == k && are_from (suc k) ns

abbrev pub AreInOrder : List ℕ → Type 0
AreInOrder ns = are_from 0 ns ≡ true

abbrev pub builtin_constants : List Builtin
builtin_constants =
    functions.ABS ∷ functions.ALL ∷ functions.ANY ∷ functions.CHR ∷ functions.DIVMOD ∷ functions.ISINSTANCE ∷ functions.LEN
    ∷ functions.MAX ∷ functions.MIN ∷ functions.ORD ∷ functions.PRINT ∷ functions.REPR ∷ functions.SORTED ∷ functions.SUM ∷ []

abbrev pub class_constants : List ClassId
class_constants =
    kinds.BOOL ∷ kinds.DICT ∷ kinds.INT ∷ kinds.LIST ∷ kinds.RANGE
    ∷ kinds.SIMPLE_NAMESPACE ∷ kinds.STR ∷ kinds.TUPLE ∷ kinds.EXCEPTION ∷ kinds.ARITHMETIC_ERROR
    ∷ kinds.OVERFLOW_ERROR ∷ kinds.ZERO_DIVISION_ERROR ∷ kinds.ASSERTION_ERROR ∷ kinds.ATTRIBUTE_ERROR ∷ kinds.LOOKUP_ERROR
    ∷ kinds.INDEX_ERROR ∷ kinds.KEY_ERROR ∷ kinds.NAME_ERROR ∷ kinds.UNBOUND_LOCAL_ERROR ∷ kinds.RUNTIME_ERROR
    ∷ kinds.NOT_IMPLEMENTED_ERROR ∷ kinds.RECURSION_ERROR ∷ kinds.SYNTAX_ERROR ∷ kinds.TYPE_ERROR ∷ kinds.VALUE_ERROR ∷ []
