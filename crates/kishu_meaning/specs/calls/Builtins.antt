-- Builtin functions and classes, called without keywords (Library Reference, "Built-in Functions" and "Built-in Types").
use Rattle.std.specs.Prelude.{ℕ, zero, suc, ◌==◌, nat_le, nat_lt, ℤ, pos, negsuc, unsigned_abs, Bool, true, false, not, ◌&&◌, ◌||◌, if◌then◌else◌, List, [], ◌∷◌, length, map, codes, Option, Some, None, is_some}
use Rattle.std.specs.Bool.{beq}
use Rattle.std.specs.List.{list_all, list_any}
use Rattle.std.specs.Ordering.{int_eq}
use Rattle.kishu_language.specs.declared.tree.Operator.TheVariants as operators
use Rattle.kishu_language.specs.declared.tree.Comparison.{Comparison}
use Rattle.kishu_language.specs.declared.tree.Comparison.TheVariants as comparisons
use Rattle.kishu_meaning.specs.values.Numbers.{number_read}
use Rattle.kishu_meaning.specs.values.BuiltinNames as builtins
use Rattle.kishu_meaning.specs.values.BuiltinNames.{BuiltinFunction, all_builtins}
use Rattle.kishu_meaning.specs.values.Classes.{bool_class, dict_class, int_class, list_class, namespace_class, range_class, str_class, tuple_class, is_within}
use Rattle.kishu_meaning.specs.values.PlainClasses as plain
use Rattle.kishu_meaning.specs.values.PlainClasses.{PlainClass, plain_classes}
use Rattle.kishu_meaning.specs.values.Values.{Value, bool, integer, text, range, class, node, Node, list, tuple, dict, object, exception}
use Rattle.kishu_meaning.specs.moments.Moment.{M, ◌>>=◌, ◌>>◌, give, or_else, exhausted, spend, tick, make, node_now}
use Rattle.kishu_meaning.specs.comparing.Equal.{number_in, range_length}
use Rattle.kishu_meaning.specs.calls.Operators.{bad_arguments, value_error, truth, whole, operate, new_list, new_tuple}
use Rattle.kishu_meaning.specs.comparing.Comparing.{compare}
use Rattle.kishu_meaning.specs.items.Walks.{Walk, along_tuple, walk_of, item_for}
use Rattle.kishu_meaning.specs.items.Sequences.{count_of, items_of, walked}
use Rattle.kishu_meaning.specs.items.Sorting.{sort_steps, in_order}
use Rattle.kishu_meaning.specs.comparing.Show.{repr_of, show}

-- a call's plain arguments
abbrev pub Call : Type 0
Call = List Value → M Value

-- with just one argument, or with just two
abbrev pub of_one : List ℕ → (Value → M Value) → Call
of_one name f (v ∷ []) = f v
of_one name f _ = bad_arguments name

abbrev pub of_two : List ℕ → (Value → Value → M Value) → Call
of_two name f (v ∷ w ∷ []) = f v w
of_two name f _ = bad_arguments name

abbrev pub by_number : List ℕ → Option ℤ → (ℤ → M Value) → M Value
by_number name (Some z) f = f z
by_number name None f = bad_arguments name

-- of a whole number
abbrev pub of_number : List ℕ → (ℤ → M Value) → Call
of_number name f = of_one name (λ v. by_number name (number_in v) f)

-- ---- what visits a sequence: one step an item

abbrev pub and_next : {A : Type 0} → Option Value → M A → (Value → M A) → M A
and_next (Some v) end f = tick >> f v
and_next None end f = end

-- the first truth of this kind decides
abbrev pub decided : Bool → ℕ → Walk → ℕ → M Value
decided which zero walk k = exhausted
decided which (suc n) walk k = item_for walk k >>= λ found. and_next found (give (bool (not which))) (λ v. truth v >>= λ b. if beq b which then give (bool which) else decided which n walk (suc k))

abbrev pub decide : Bool → Value → M Value
decide which v = walk_of v >>= λ walk. λ s. decided which (suc s.left) walk 0 s

-- all items in turn
abbrev pub folded : {A : Type 0} → (A → Value → M A) → ℕ → Walk → ℕ → A → M A
folded f zero walk k a = exhausted
folded f (suc n) walk k a = item_for walk k >>= λ found. and_next found (give a) (λ v. f a v >>= λ b. folded f n walk (suc k) b)

abbrev pub fold : {A : Type 0} → (A → Value → M A) → A → Walk → M A
fold f a walk = λ s. folded f (suc s.left) walk 0 a s

-- the first of those that no other goes before
abbrev pub better : Comparison → Option Value → Value → M (Option Value)
better comparison None v = give (Some v)
better comparison (Some best) v = compare comparison v best >>= λ b. give (Some (if b then v else best))

abbrev pub or_empty_argument : Option Value → M Value
or_empty_argument (Some v) = give v
or_empty_argument None = value_error (codes "empty argument")

abbrev pub best_of : Comparison → Walk → M Value
best_of comparison walk = fold (better comparison) None walk >>= or_empty_argument

abbrev pub best : List ℕ → Comparison → Call
best name comparison [] = bad_arguments name
best name comparison (v ∷ []) = walk_of v >>= best_of comparison
best name comparison vs = best_of comparison (along_tuple vs)

abbrev pub added : Value → Value → M Value
added sum v = by_number (codes "sum") (number_in v) (λ z. operate operators.Add sum (integer z))

-- ---- characters

abbrev pub is_character : ℕ → Bool
is_character n = nat_lt n 0xD800 || (nat_lt 0xDFFF n && nat_le n 0x10FFFF)

abbrev pub character : ℤ → M Value
character (pos n) = if is_character n then give (text (n ∷ [])) else value_error (codes "not a character")
character (negsuc n) = value_error (codes "not a character")

abbrev pub code_point : Value → M Value
code_point (text (c ∷ [])) = give (integer (pos c))
code_point _ = bad_arguments (codes "ord")

-- ---- numbers

abbrev pub quotient_and_remainder : ℤ → ℤ → M Value
quotient_and_remainder a b = operate operators.FloorDivide (integer a) (integer b) >>= λ q. operate operators.Modulo (integer a) (integer b) >>= λ r. new_tuple (q ∷ r ∷ [])

abbrev pub divided_by : Value → Value → M Value
divided_by v w = by_number (codes "divmod") (number_in v) (λ a. by_number (codes "divmod") (number_in w) (quotient_and_remainder a))

-- ---- lengths

abbrev pub node_length : Option Node → M Value
node_length (Some (list vs)) = whole (pos (length vs))
node_length (Some (tuple vs)) = whole (pos (length vs))
node_length (Some (dict es)) = whole (pos (length es))
node_length _ = bad_arguments (codes "len")

abbrev pub length_of : Value → M Value
length_of (text cs) = whole (pos (length cs))
length_of (range start stop step) = whole (pos (range_length start stop step))
length_of (node n) = node_now (node n) >>= node_length
length_of _ = bad_arguments (codes "len")

-- ---- classes of values

abbrev pub node_is_of : ℕ → Option Node → Bool
node_is_of n (Some (dict es)) = n == dict_class
node_is_of n (Some (list vs)) = n == list_class
node_is_of n (Some (object as')) = n == namespace_class
node_is_of n (Some (tuple vs)) = n == tuple_class
node_is_of n (Some (exception kind vs)) = is_within kind n
node_is_of n _ = false

-- A bool is an int too; None, functions and classes are of none of the classes.
abbrev pub is_of : Value → Option Node → ℕ → Bool
is_of (bool b) found n = n == bool_class || n == int_class
is_of (integer z) found n = n == int_class
is_of (range start stop step) found n = n == range_class
is_of (text cs) found n = n == str_class
is_of (node i) found n = node_is_of n found
is_of _ found n = false

abbrev pub class_in : Value → Option ℕ
class_in (class n) = Some n
class_in _ = None

abbrev pub is_of_class : Value → Option Node → Value → Bool
is_of_class v found (class n) = is_of v found n
is_of_class v found _ = false

abbrev pub is_of_one : Value → List Value → M Value
is_of_one v cs = if list_all (λ c. is_some (class_in c)) cs then (node_now v >>= λ found. give (bool (list_any (is_of_class v found) cs))) else bad_arguments (codes "isinstance")

abbrev pub is_of_tuple : Value → Option Node → M Value
is_of_tuple v (Some (tuple cs)) = is_of_one v cs
is_of_tuple v _ = bad_arguments (codes "isinstance")

abbrev pub is_instance : Value → Value → M Value
is_instance v (class n) = is_of_one v (class n ∷ [])
is_instance v c = node_now c >>= is_of_tuple v

-- ---- order

abbrev pub sorted : Value → M Value
sorted v = count_of v >>= λ n. spend (sort_steps n) >> items_of v >>= λ vs. or_else (bad_arguments (codes "sorted")) (in_order vs) >>= new_list

-- ---- the builtin functions; `print` is called with keywords too

abbrev pub builtin_call : Call → BuiltinFunction → Call
builtin_call print builtins.abs = of_number (codes "abs") (λ z. whole (pos (unsigned_abs z)))
builtin_call print builtins.all = of_one (codes "all") (decide false)
builtin_call print builtins.any = of_one (codes "any") (decide true)
builtin_call print builtins.chr = of_number (codes "chr") character
builtin_call print builtins.divmod = of_two (codes "divmod") divided_by
builtin_call print builtins.isinstance = of_two (codes "isinstance") is_instance
builtin_call print builtins.len = of_one (codes "len") length_of
builtin_call print builtins.max = best (codes "max") comparisons.Greater
builtin_call print builtins.min = best (codes "min") comparisons.Less
builtin_call print builtins.ord = of_one (codes "ord") code_point
builtin_call print builtins.print = print
builtin_call print builtins.repr = of_one (codes "repr") (λ v. repr_of v >>= λ cs. give (text cs))
builtin_call print builtins.sorted = of_one (codes "sorted") sorted
builtin_call print builtins.sum = of_one (codes "sum") (λ v. walk_of v >>= fold added (integer (pos 0)))

abbrev pub builtin_calls : Call → List Call
builtin_calls print = map (builtin_call print) all_builtins

-- ---- the classes but those of exceptions, in the same way

-- without an argument, or with one
abbrev pub of_none_or_one : List ℕ → M Value → (Value → M Value) → Call
of_none_or_one name empty f [] = empty
of_none_or_one name empty f (v ∷ []) = f v
of_none_or_one name empty f _ = bad_arguments name

abbrev pub copied_dict : Option Node → M Value
copied_dict (Some (dict es)) = spend (length es) >> make (dict es)
copied_dict _ = bad_arguments (codes "dict")

abbrev pub or_no_number : Option ℤ → M Value
or_no_number (Some z) = give (integer z)
or_no_number None = value_error (codes "not a whole number")

abbrev pub number_from : Value → M Value
number_from (text cs) = spend (length cs) >> or_no_number (number_read cs)
number_from v = by_number (codes "int") (number_in v) (λ z. give (integer z))

-- the items of a sequence, in steps as many
abbrev pub all_items : Value → M (List Value)
all_items v = walked v

-- A tuple gives itself.
abbrev pub tuple_of : Value → Option Node → M Value
tuple_of v (Some (tuple vs)) = give v
tuple_of v _ = all_items v >>= new_tuple

abbrev pub checked_range : ℤ → ℤ → ℤ → M Value
checked_range start stop step = if int_eq step (pos 0) then value_error (codes "step is zero") else give (range start stop step)

abbrev pub range_from : List (Option ℤ) → M Value
range_from (Some stop ∷ []) = give (range (pos 0) stop (pos 1))
range_from (Some start ∷ Some stop ∷ []) = give (range start stop (pos 1))
range_from (Some start ∷ Some stop ∷ Some step ∷ []) = checked_range start stop step
range_from _ = bad_arguments (codes "range")

abbrev pub class_call : Call → PlainClass → Call
class_call namespace plain.bool = of_none_or_one (codes "bool") (give (bool false)) (λ v. truth v >>= λ b. give (bool b))
class_call namespace plain.dict = of_none_or_one (codes "dict") (make (dict [])) (λ v. node_now v >>= copied_dict)
class_call namespace plain.int = of_none_or_one (codes "int") (give (integer (pos 0))) number_from
class_call namespace plain.list = of_none_or_one (codes "list") (new_list []) (λ v. all_items v >>= new_list)
class_call namespace plain.range = λ vs. range_from (map number_in vs)
class_call namespace plain.namespace = namespace
class_call namespace plain.str = of_none_or_one (codes "str") (give (text [])) (λ v. show v >>= λ cs. give (text cs))
class_call namespace plain.tuple = of_none_or_one (codes "tuple") (new_tuple []) (λ v. node_now v >>= tuple_of v)

abbrev pub class_calls : Call → List Call
class_calls namespace = map (class_call namespace) plain_classes
