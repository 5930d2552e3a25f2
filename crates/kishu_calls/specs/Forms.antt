-- Forms that the code's functions have, where they cut a rule of the language into parts.
use Rattle.std.specs.Prelude.{ℕ, Bool, true, false, if◌then◌else◌, List, [], ◌∷◌, slice_get, Option, Some, None}
use Rattle.kishu_language.specs.trees.Tree.{Text}
use Rattle.kishu_meaning.specs.values.Sound.{is_exception_class}
use Rattle.kishu_meaning.specs.values.Values.{Value, Node, function, exception, find, bind, Names}
use Rattle.kishu_meaning.specs.moments.Moment.{M, give, make}
use Rattle.kishu_meaning.specs.calls.Callees.{Given, Callee, view, or_no_call, empty_object}
use Rattle.kishu_meaning.specs.calls.Builtins.{class_calls}
use Rattle.kishu_meaning.specs.items.Walks.{View}
use Rattle.kishu_meaning.specs.calls.Functions.{or_default}

abbrev pub is_function : Option Node → Bool
is_function (Some (function profile code vs)) = true
is_function _ = false

-- a class but SimpleNamespace, called without keywords
abbrev pub plain_construct : ℕ → List Value → M Value
plain_construct n vs = if is_exception_class n then make (exception n vs) else or_no_call (slice_get (class_calls empty_object) n) vs

-- a parameter's value, where it has one
abbrev pub or_argument : Option Value → Option Value → Option Value
or_argument (Some v) other = Some v
or_argument None other = other

abbrev pub argument_for : ℕ → Text → Option Value → Given → Option Value
argument_for place x default given = or_argument (slice_get given.plain place) (or_default (find x given.named) default)

-- the values of the parameters, where each has one
abbrev pub with_argument : Option Value → Option (List Value) → Option (List Value)
with_argument (Some v) (Some vs) = Some (v ∷ vs)
with_argument _ _ = None

abbrev pub arguments_for : List (Text × Option Value) → List Value → Names → Option (List Value)
arguments_for [] vs named = Some []
arguments_for (p ∷ ps) (v ∷ vs) named = with_argument (Some v) (arguments_for ps vs named)
arguments_for (p ∷ ps) [] named = with_argument (or_default (find p.0 named) p.1) (arguments_for ps [] named)

-- of a parameter with or without a default: how many values are its own, which one is, and those of the others
abbrev pub default_count : {A : Type 0} → Option A → ℕ
default_count (Some e) = 1
default_count None = 0

abbrev pub next_default : {A : Type 0} → Option A → List Value → Option Value
next_default (Some e) (v ∷ vs) = Some v
next_default (Some e) [] = None
next_default None vs = None

abbrev pub next_defaults : {A : Type 0} → Option A → List Value → List Value
next_defaults (Some e) (v ∷ vs) = vs
next_defaults (Some e) [] = []
next_defaults None vs = vs

-- each name with its value, bound from the last to the first
abbrev pub bound_each : List Text → List Value → Names
bound_each (x ∷ xs) (v ∷ vs) = bind x v (bound_each xs vs)
bound_each _ _ = []

-- the number of a dict and its view
abbrev pub view_at : Option ℕ → Option View → Option (ℕ × View)
view_at (Some i) (Some found) = Some (i, found)
view_at (Some i) None = None
view_at None found = None

abbrev pub viewed_or : Option (ℕ × View) → M Callee → M Callee
viewed_or (Some p) other = give (view p.0 p.1)
viewed_or None other = other
