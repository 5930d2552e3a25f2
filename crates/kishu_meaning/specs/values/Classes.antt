-- The classes by their numbers, and which lie below which (Library Reference, "Built-in Exceptions": "Exception hierarchy").
use Rattle.std.specs.Prelude.{ℕ, ◌==◌, Bool, ◌||◌, if◌then◌else◌}

abbrev pub bool_class : ℕ
bool_class = 0

abbrev pub dict_class : ℕ
dict_class = 1

abbrev pub int_class : ℕ
int_class = 2

abbrev pub list_class : ℕ
list_class = 3

abbrev pub range_class : ℕ
range_class = 4

abbrev pub namespace_class : ℕ
namespace_class = 5

abbrev pub str_class : ℕ
str_class = 6

abbrev pub tuple_class : ℕ
tuple_class = 7

abbrev pub any_exception : ℕ
any_exception = 8

abbrev pub arithmetic_error_class : ℕ
arithmetic_error_class = 9

abbrev pub overflow_error_class : ℕ
overflow_error_class = 10

abbrev pub zero_division_error_class : ℕ
zero_division_error_class = 11

abbrev pub assertion_error_class : ℕ
assertion_error_class = 12

abbrev pub attribute_error_class : ℕ
attribute_error_class = 13

abbrev pub lookup_error_class : ℕ
lookup_error_class = 14

abbrev pub index_error_class : ℕ
index_error_class = 15

abbrev pub key_error_class : ℕ
key_error_class = 16

abbrev pub name_error_class : ℕ
name_error_class = 17

abbrev pub unbound_local_error_class : ℕ
unbound_local_error_class = 18

abbrev pub runtime_error_class : ℕ
runtime_error_class = 19

abbrev pub not_implemented_error_class : ℕ
not_implemented_error_class = 20

abbrev pub recursion_error_class : ℕ
recursion_error_class = 21

abbrev pub syntax_error_class : ℕ
syntax_error_class = 22

abbrev pub type_error_class : ℕ
type_error_class = 23

abbrev pub value_error_class : ℕ
value_error_class = 24

-- the class above a class of exceptions; that of all of them is its own
abbrev pub class_above : ℕ → ℕ
class_above n =
    if n == overflow_error_class || n == zero_division_error_class then arithmetic_error_class
    else if n == index_error_class || n == key_error_class then lookup_error_class
    else if n == unbound_local_error_class then name_error_class
    else if n == not_implemented_error_class || n == recursion_error_class then runtime_error_class
    else any_exception

-- The one class is the other or lies below it: at most one class lies between.
abbrev pub is_within : ℕ → ℕ → Bool
is_within kind n = kind == n || (class_above kind == n || class_above (class_above kind) == n)
