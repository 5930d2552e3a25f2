-- What is called, and what it is given (Python Language Reference 3, "Calls").
use Rattle.std.specs.Prelude.{ℕ, ◌+◌, ◌*◌, ◌-◌, ◌==◌, if◌then◌else◌, List, [], ◌∷◌, ◌++◌, length, slice_get, codes, Option, Some, None}
use Rattle.std.specs.Str.{bytes_eq}
use Rattle.kishu_language.specs.tokens.Lines.{line_feed}
use Rattle.kishu_meaning.specs.values.Texts.{joined}
use Rattle.kishu_language.specs.trees.Tree.{Arguments, no_arguments, more_arguments}
use Rattle.kishu_meaning.specs.values.Values.{Value, none, text, node, Node, dict, object, exception}
use Rattle.kishu_meaning.specs.moments.Moment.{M, ◌>>=◌, ◌>>◌, give, spend, look, make, node_now, put_out}
use Rattle.kishu_meaning.specs.calls.Operators.{in_quotes, kind_of, type_error, bad_arguments}
use Rattle.kishu_meaning.specs.comparing.Show.{builtin_name, class_name, show_all}
use Rattle.kishu_meaning.specs.values.Sound.{is_exception_class}
use Rattle.kishu_meaning.specs.values.BuiltinNames as builtins
use Rattle.kishu_meaning.specs.values.BuiltinNames.{builtin_number}
use Rattle.kishu_meaning.specs.values.Classes.{namespace_class}
use Rattle.kishu_meaning.specs.calls.Builtins.{Call, builtin_calls, class_calls}
use Rattle.kishu_meaning.specs.values.Kinds.{no_attribute}
use Rattle.kishu_meaning.specs.calls.Methods.{has_method}
use Rattle.kishu_meaning.specs.items.Subscripts.{attribute}
use Rattle.kishu_meaning.specs.items.Walks.{View, keys, values, items, view_name}

-- the arguments of a call, in order: the plain ones, and those with keywords
pub record Given : Type 0 where
  pub plain : List Value
  pub named : List (List ℕ × Value)

abbrev pub nothing_given : Given
nothing_given = record { plain = []; named = [] }

abbrev pub and_plain : Value → Given → Given
and_plain v given = record given { plain = v ∷ given.plain }

abbrev pub and_named : List ℕ → Value → Given → Given
and_named x v given = record given { named = (x, v) ∷ given.named }

-- one that takes no keywords
abbrev pub by_plain : List ℕ → List (List ℕ × Value) → M Value → M Value
by_plain name [] m = m
by_plain name (k ∷ ks) m = bad_arguments name

-- ---- `print`

abbrev pub print_number : ℕ
print_number = builtin_number builtins.print

-- The texts of the values, between them the separator, and the end: put out when it is made whole.
abbrev pub print : List ℕ → List ℕ → List Value → M Value
print separator end vs = do
  texts ← show_all vs
  spend (length separator * (length texts - 1) + length end)
  put_out (joined separator texts ++ end)
  give none

-- `sep` and `end` are texts.
abbrev pub print_by : List (List ℕ × Value) → List ℕ → List ℕ → List Value → M Value
print_by [] separator end vs = print separator end vs
print_by ((x, text cs) ∷ ks) separator end vs = if bytes_eq x (codes "sep") then print_by ks cs end vs else (if bytes_eq x (codes "end") then print_by ks separator cs vs else bad_arguments (codes "print"))
print_by (k ∷ ks) separator end vs = bad_arguments (codes "print")

-- ---- builtin functions and classes

-- the call that stands at a number's place, and where none stands a TypeError
abbrev pub or_no_call : Option Call → Call
or_no_call (Some f) vs = f vs
or_no_call None vs = bad_arguments []

abbrev pub print_plain : Call
print_plain = print (codes " ") (line_feed ∷ [])

abbrev pub call_builtin : ℕ → Given → M Value
call_builtin n given = if n == print_number then print_by given.named (codes " ") (line_feed ∷ []) given.plain else by_plain (builtin_name n) given.named (or_no_call (slice_get (builtin_calls print_plain) n) given.plain)

-- a new object with the keywords as its attributes
abbrev pub new_object : Given → M Value
new_object given = if length given.plain == 0 then make (object given.named) else bad_arguments (class_name namespace_class)

abbrev pub empty_object : Call
empty_object vs = new_object (record { plain = vs; named = [] })

-- An exception has its arguments.
abbrev pub construct : ℕ → Given → M Value
construct n given =
    if n == namespace_class then new_object given
    else by_plain (class_name n) given.named (if is_exception_class n then make (exception n given.plain) else or_no_call (slice_get (class_calls empty_object) n) given.plain)

abbrev pub not_callable : {A : Type 0} → Value → M A
not_callable v = kind_of v >>= λ k. type_error (in_quotes k ++ codes " object is not callable")

-- ---- before the call

-- A part of a primary: its value, or a value with the name of an attribute or a view, which is an attribute where no call follows.
pub data Part : Type 0 where
  whole : Value → Part
  dotted : Value → List ℕ → Part
  -- of a dict by its number
  viewed : ℕ → View → Part

-- A method is no value, and neither is a view of a dict.
abbrev pub settled : Part → M Value
settled (whole v) = give v
settled (dotted v x) = attribute v x
settled (viewed n view) = no_attribute (node n) (view_name view)

pub data Callee : Type 0 where
  function : Value → Callee
  method : Value → List ℕ → Callee
  view : ℕ → View → Callee

abbrev pub view_named : List ℕ → Option View
view_named x = if bytes_eq x (codes "keys") then Some keys else (if bytes_eq x (codes "values") then Some values else (if bytes_eq x (codes "items") then Some items else None))

-- `.keys()`, `.values()` and `.items()`, without arguments
abbrev pub view_in : List ℕ → Arguments → Option View
view_in x no_arguments = view_named x
view_in x (more_arguments e es) = None

-- The method must exist.
abbrev pub method_of : Value → List ℕ → M Callee
method_of v x = look (λ ns. has_method ns v x) >>= λ there. if there then give (method v x) else no_attribute v x

abbrev pub dict_callee : ℕ → List ℕ → Option View → M Callee
dict_callee n x (Some found) = give (view n found)
dict_callee n x None = method_of (node n) x

-- An object's attribute is called, and of all else a method.
abbrev pub node_callee : ℕ → List ℕ → Option View → Option Node → M Callee
node_callee n x found (Some (object as')) = attribute (node n) x >>= λ v. give (function v)
node_callee n x found (Some (dict es)) = dict_callee n x found
node_callee n x found _ = method_of (node n) x

abbrev pub dotted_callee : Value → List ℕ → Option View → M Callee
dotted_callee (node n) x found = node_now (node n) >>= node_callee n x found
dotted_callee v x found = method_of v x

abbrev pub callee : Part → Arguments → M Callee
callee (dotted v x) es = dotted_callee v x (view_in x es)
callee (whole v) es = give (function v)
callee (viewed n found) es = settled (viewed n found) >>= λ v. give (function v)
