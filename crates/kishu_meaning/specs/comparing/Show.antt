-- Texts of values (Library Reference, "Built-in Functions": repr, and "Text Sequence Type": str). They are made from the left, and each code point that is made is a step.
use Rattle.std.specs.Ordering.{int_eq}
use Rattle.std.specs.Prelude.{ℕ, zero, suc, ◌-◌, ℤ, pos, Bool, true, false, ◌==◌, if◌then◌else◌, List, [], ◌∷◌, ◌++◌, length, map, codes, Option, Some, None, Result, Ok, slice_get}
use Rattle.std.specs.Fmt.{signed_decimal}
use Rattle.std.specs.List.{list_any}
use Rattle.std.specs.Str.{chars}
use Rattle.kishu_language.specs.declared.profile.Profile.{Profile}
use Rattle.kishu_meaning.specs.values.BuiltinNames.{builtin_names, class_names}
use Rattle.kishu_meaning.specs.values.Classes.{key_error_class}
use Rattle.kishu_meaning.specs.values.Texts.{quoted, joined}
use Rattle.kishu_language.specs.trees.Tree.{Text, Statement}
use Rattle.kishu_language.specs.trees.Tree as t
use Rattle.kishu_language.specs.reading.ReadText.{read_chars}
use Rattle.kishu_meaning.specs.values.Keys as k
use Rattle.kishu_meaning.specs.values.Keys.{KeyPart, Key}
use Rattle.kishu_meaning.specs.values.Values.{Value, none, bool, integer, text, range, builtin, class, node, Node, list, tuple, dict, object, function, exception}
use Rattle.kishu_meaning.specs.moments.Moment.{M, Thrown, fresh, thrown_object, most_depth}
use Rattle.kishu_meaning.specs.moments.Counting.{Count, ◌>>=◌, ◌>>◌, give, spend, stop_deep, counted}
use Rattle.kishu_meaning.specs.comparing.Equal.{room_at}

-- ---- plain values

abbrev pub bool_text : Bool → List ℕ
bool_text true = codes "True"
bool_text false = codes "False"

abbrev pub or_empty : Option (List ℕ) → List ℕ
or_empty (Some name) = name
or_empty None = []

abbrev pub class_name : ℕ → List ℕ
class_name n = or_empty (slice_get class_names n)

abbrev pub builtin_name : ℕ → List ℕ
builtin_name n = or_empty (slice_get builtin_names n)

-- A step of 1 isn't shown.
abbrev pub step_text : ℤ → List ℕ
step_text c = if int_eq c (pos 1) then [] else codes ", " ++ signed_decimal c

abbrev pub repr_text : Value → List ℕ
repr_text none = codes "None"
repr_text (bool b) = bool_text b
repr_text (integer z) = signed_decimal z
repr_text (text cs) = quoted cs
repr_text (range a b c) = codes "range(" ++ signed_decimal a ++ codes ", " ++ signed_decimal b ++ step_text c ++ codes ")"
repr_text (builtin n) = codes "<built-in function " ++ builtin_name n ++ codes ">"
repr_text (class n) = codes "<class '" ++ class_name n ++ codes "'>"
-- a node's text isn't known from its number
repr_text (node n) = []

-- ---- keys

abbrev pub part_text : KeyPart → List ℕ
part_text k.none = codes "None"
part_text (k.bool b) = bool_text b
part_text (k.integer z) = signed_decimal z
part_text (k.text cs) = quoted cs

-- A tuple of one has a comma behind it.
abbrev pub tuple_end : {A : Type 0} → List A → List ℕ
tuple_end [] = codes ")"
tuple_end (a ∷ []) = codes ",)"
tuple_end (a ∷ (b ∷ as')) = codes ")"

abbrev pub key_text : Key → List ℕ
key_text (k.single p) = part_text p
key_text (k.tuple ps) = codes "(" ++ joined (codes ", ") (map part_text ps) ++ tuple_end ps

-- ---- functions

abbrev pub title_of : Statement → Text
title_of (t.define title ps body code) = title
title_of _ = []

abbrev pub title_in : Result (List Statement) ℕ → Text
title_in (Ok (s ∷ [])) = title_of s
title_in _ = []

-- the name of the function that has this code
abbrev pub function_name : Profile → Text → List ℕ
function_name profile code = chars (title_in (read_chars profile (chars code)))

abbrev pub function_text : Profile → Text → List ℕ
function_text profile code = codes "<function " ++ function_name profile code ++ codes ">"

-- ---- a text that is made

abbrev pub made : List ℕ → Count (List ℕ)
made cs = spend (length cs) >> give cs

-- one text, and behind it another
infixr 20 ◌⊕◌
abbrev pub ◌⊕◌ : Count (List ℕ) → Count (List ℕ) → Count (List ℕ)
a ⊕ b = a >>= λ front. b >>= λ back. give (front ++ back)

module _ {A : Type 0} (text_of : A → Count (List ℕ)) where
  abbrev pub further : List A → Count (List ℕ)
  further [] = give []
  further (a ∷ as') = made (codes ", ") ⊕ text_of a ⊕ further as'

  -- a text of each, with a comma and a space between each two
  abbrev pub listed : List A → Count (List ℕ)
  listed [] = give []
  listed (a ∷ as') = text_of a ⊕ further as'

-- ---- repr, where nodes are shown by what is given

module _ (nodes : ℕ → Count (List ℕ)) where
  abbrev pub repr_by : Value → Count (List ℕ)
  repr_by (node i) = nodes i
  repr_by v = made (repr_text v)

  abbrev pub entry_repr : Key × Value → Count (List ℕ)
  entry_repr e = made (key_text e.0) ⊕ made (codes ": ") ⊕ repr_by e.1

  abbrev pub attribute_repr : Text × Value → Count (List ℕ)
  attribute_repr a = made (chars a.0) ⊕ made (codes "=") ⊕ repr_by a.1

  abbrev pub tuple_repr : List Value → Count (List ℕ)
  tuple_repr vs = made (codes "(") ⊕ listed repr_by vs ⊕ made (tuple_end vs)

  abbrev pub contents_repr : Node → Count (List ℕ)
  contents_repr (list vs) = made (codes "[") ⊕ listed repr_by vs ⊕ made (codes "]")
  contents_repr (tuple vs) = tuple_repr vs
  contents_repr (dict es) = made (codes "{") ⊕ listed entry_repr es ⊕ made (codes "}")
  contents_repr (object as') = made (codes "namespace(") ⊕ listed attribute_repr as' ⊕ made (codes ")")
  contents_repr (function profile code vs) = made (function_text profile code)
  contents_repr (exception kind vs) = made (class_name kind) ⊕ made (codes "(") ⊕ listed repr_by vs ⊕ made (codes ")")

-- a node that is being shown already; a function shows nothing inside it
abbrev pub again : Node → List ℕ
again (list vs) = codes "[...]"
again (tuple vs) = codes "(...)"
again (dict es) = codes "{...}"
again (object as') = codes "namespace(...)"
again (function profile code vs) = function_text profile code
again (exception kind vs) = class_name kind ++ codes "(...)"

abbrev pub repr_at : (ℕ → Count (List ℕ)) → Bool → Option Node → Count (List ℕ)
repr_at nodes is_open (Some n) = if is_open then made (again n) else contents_repr nodes n
repr_at nodes is_open None = give []

-- A node inside those around it, which are being shown. At most so many nodes lie in one another from here on, itself among them.
abbrev pub repr_nodes : List Node → ℕ → List ℕ → ℕ → Count (List ℕ)
repr_nodes ns zero around i = stop_deep
repr_nodes ns (suc room) around i = repr_at (repr_nodes ns room (i ∷ around)) (list_any (λ j. i == j) around) (slice_get ns i)

abbrev pub repr_in : List Node → ℕ → Value → Count (List ℕ)
repr_in ns depth = repr_by (repr_nodes ns (room_at depth) [])

abbrev pub repr_of : Value → M (List ℕ)
repr_of v = λ s. counted (repr_in s.nodes s.depth v) s

-- ---- str

-- A text is itself; all else is its repr, but for exceptions.
abbrev pub show_by : (ℕ → Count (List ℕ)) → Value → Count (List ℕ)
show_by nodes (text cs) = made cs
show_by nodes v = repr_by nodes v

module _ (reprs shows : ℕ → Count (List ℕ)) where
  -- A KeyError shows its argument's repr.
  abbrev pub argument_text : ℕ → Value → Count (List ℕ)
  argument_text kind v = if kind == key_error_class then repr_by reprs v else show_by shows v

  -- Without arguments it is empty, one argument is shown itself after a step, and more are shown as a tuple of them.
  abbrev pub exception_text : ℕ → List Value → Count (List ℕ)
  exception_text kind [] = give []
  exception_text kind (v ∷ []) = spend 1 >> argument_text kind v
  exception_text kind (v ∷ (w ∷ vs)) = tuple_repr reprs (v ∷ w ∷ vs)

abbrev pub show_at : (ℕ → List Value → Count (List ℕ)) → Count (List ℕ) → Option Node → Count (List ℕ)
show_at exceptions other (Some (exception kind vs)) = exceptions kind vs
show_at exceptions other _ = other

-- What an exception shows lies inside it.
abbrev pub show_nodes : List Node → ℕ → ℕ → Count (List ℕ)
show_nodes ns zero i = stop_deep
show_nodes ns (suc room) i = show_at (exception_text (repr_nodes ns room []) (show_nodes ns room)) (repr_nodes ns (suc room) [] i) (slice_get ns i)

abbrev pub show_in : List Node → ℕ → Value → Count (List ℕ)
show_in ns depth = show_by (show_nodes ns (room_at depth))

abbrev pub show : Value → M (List ℕ)
show v = λ s. counted (show_in s.nodes s.depth v) s

abbrev pub show_all_in : List Node → ℕ → List Value → Count (List (List ℕ))
show_all_in ns depth [] = give []
show_all_in ns depth (v ∷ vs) = show_in ns depth v >>= λ first. show_all_in ns depth vs >>= λ following. give (first ∷ following)

abbrev pub show_all : List Value → M (List (List ℕ))
show_all vs = λ s. counted (show_all_in s.nodes s.depth vs) s

-- An exception on its way is shown as its object would be.
abbrev pub thrown_in : List Node → ℕ → ℕ → List Value → Count (List ℕ)
thrown_in ns depth = exception_text (repr_nodes ns (most_depth - depth) []) (show_nodes ns (most_depth - depth))

abbrev pub show_thrown : Thrown → M (List ℕ)
show_thrown (fresh kind vs) = λ s. counted (thrown_in s.nodes s.depth kind vs) s
show_thrown (thrown_object i) = show (node i)
