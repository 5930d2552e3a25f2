-- The builtin functions and classes, each at its number (Library Reference, "Built-in Functions" and "Built-in Exceptions").
use Rattle.std.specs.Prelude.{ℕ, List, [], ◌∷◌, map, codes, Option, slice_get}
use Rattle.kishu_meaning.specs.values.Classes as classes

-- ---- the builtin functions

pub data BuiltinFunction : Type 0 where
  abs : BuiltinFunction
  all : BuiltinFunction
  any : BuiltinFunction
  chr : BuiltinFunction
  divmod : BuiltinFunction
  isinstance : BuiltinFunction
  len : BuiltinFunction
  max : BuiltinFunction
  min : BuiltinFunction
  ord : BuiltinFunction
  print : BuiltinFunction
  repr : BuiltinFunction
  sorted : BuiltinFunction
  sum : BuiltinFunction

abbrev pub builtin_number : BuiltinFunction → ℕ
builtin_number abs = 0
builtin_number all = 1
builtin_number any = 2
builtin_number chr = 3
builtin_number divmod = 4
builtin_number isinstance = 5
builtin_number len = 6
builtin_number max = 7
builtin_number min = 8
builtin_number ord = 9
builtin_number print = 10
builtin_number repr = 11
builtin_number sorted = 12
builtin_number sum = 13

abbrev pub builtin_title : BuiltinFunction → List ℕ
builtin_title abs = codes "abs"
builtin_title all = codes "all"
builtin_title any = codes "any"
builtin_title chr = codes "chr"
builtin_title divmod = codes "divmod"
builtin_title isinstance = codes "isinstance"
builtin_title len = codes "len"
builtin_title max = codes "max"
builtin_title min = codes "min"
builtin_title ord = codes "ord"
builtin_title print = codes "print"
builtin_title repr = codes "repr"
builtin_title sorted = codes "sorted"
builtin_title sum = codes "sum"

-- by their numbers from 0
abbrev pub all_builtins : List BuiltinFunction
all_builtins = abs ∷ all ∷ any ∷ chr ∷ divmod ∷ isinstance ∷ len ∷ max ∷ min ∷ ord ∷ print ∷ repr ∷ sorted ∷ sum ∷ []

abbrev pub builtin_at : ℕ → Option BuiltinFunction
builtin_at n = slice_get all_builtins n

unfoldable pub builtin_names : List (List ℕ)
builtin_names = map builtin_title all_builtins

-- ---- the classes

-- each with its name, by their numbers from 0
abbrev pub all_classes : List (ℕ × List ℕ)
all_classes =
    (classes.bool_class, codes "bool")
    ∷ (classes.dict_class, codes "dict")
    ∷ (classes.int_class, codes "int")
    ∷ (classes.list_class, codes "list")
    ∷ (classes.range_class, codes "range")
    ∷ (classes.namespace_class, codes "SimpleNamespace")
    ∷ (classes.str_class, codes "str")
    ∷ (classes.tuple_class, codes "tuple")
    ∷ (classes.any_exception, codes "Exception")
    ∷ (classes.arithmetic_error_class, codes "ArithmeticError")
    ∷ (classes.overflow_error_class, codes "OverflowError")
    ∷ (classes.zero_division_error_class, codes "ZeroDivisionError")
    ∷ (classes.assertion_error_class, codes "AssertionError")
    ∷ (classes.attribute_error_class, codes "AttributeError")
    ∷ (classes.lookup_error_class, codes "LookupError")
    ∷ (classes.index_error_class, codes "IndexError")
    ∷ (classes.key_error_class, codes "KeyError")
    ∷ (classes.name_error_class, codes "NameError")
    ∷ (classes.unbound_local_error_class, codes "UnboundLocalError")
    ∷ (classes.runtime_error_class, codes "RuntimeError")
    ∷ (classes.not_implemented_error_class, codes "NotImplementedError")
    ∷ (classes.recursion_error_class, codes "RecursionError")
    ∷ (classes.syntax_error_class, codes "SyntaxError")
    ∷ (classes.type_error_class, codes "TypeError")
    ∷ (classes.value_error_class, codes "ValueError")
    ∷ []

unfoldable pub class_names : List (List ℕ)
class_names = map (λ named. named.1) all_classes
