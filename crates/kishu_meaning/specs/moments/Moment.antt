-- What a cell's run holds at a moment, and what it can do: the few steps from which the meaning of each form is put together (Python Language Reference 3, "Execution model").
use Rattle.std.specs.Prelude.{ℕ, suc, ◌-◌, nat_le, nat_lt, if◌then◌else◌, List, [], ◌∷◌, ◌++◌, length, codes, Option, Some, None, is_some, slice_get}
use Rattle.std.specs.Str.{chars}
use Rattle.kishu_language.specs.declared.profile.Profile.{Profile}
use Rattle.kishu_language.specs.tokens.Names.{is_among, place_among}
use Rattle.kishu_meaning.specs.values.BuiltinNames.{builtin_names, class_names}
use Rattle.kishu_meaning.specs.values.Classes.{name_error_class, recursion_error_class, unbound_local_error_class}
use Rattle.kishu_meaning.specs.values.Values.{Value, text, builtin, class, node, Node, Names, find, bind}
use Rattle.kishu_meaning.specs.values.Nodes.{changed}
use Rattle.kishu_meaning.specs.moments.Accesses.{unbind, with_access}

-- the names that are local to a function's body, and those of them that have a value
pub record Locals : Type 0 where
  pub own : List (List ℕ)
  pub values : Names

pub record Moment : Type 0 where
  -- of the cell's text
  pub profile : Profile
  pub names : Names
  pub nodes : List Node
  -- the names that were accessed, whether they were there or not: in byte order, each once
  pub accessed : List (List ℕ)
  -- those of the function in progress
  pub locals : Option Locals
  -- the exception that the innermost handler in progress caught
  pub handled : Option Value
  -- how many steps may still be taken
  pub left : ℕ
  -- how deep the points under evaluation, the calls and the nodes in progress lie
  pub depth : ℕ
  -- the code points that were printed
  pub out : List ℕ

-- An exception on its way: one that a rule raises becomes an object where it is caught. Its class by number, and its arguments.
pub data Thrown : Type 0 where
  fresh : (kind : ℕ) → (arguments : List Value) → Thrown
  -- one that is an object, by the number of its node
  thrown_object : (number : ℕ) → Thrown

-- how something ends, and the moment then
pub data Ends (A : Type 0) : Type 0 where
  fine : A → Moment → Ends A
  raised : Thrown → Moment → Ends A
  -- the budget is spent
  stopped : Moment → Ends A

-- something to do
abbrev pub M : Type 0 → Type 0
M A = Moment → Ends A

abbrev pub and_then : {A B : Type 0} → Ends A → (A → M B) → Ends B
and_then (fine a s) f = f a s
and_then (raised x s) f = raised x s
and_then (stopped s) f = stopped s

infixl 10 ◌>>=◌
abbrev pub ◌>>=◌ : {A B : Type 0} → M A → (A → M B) → M B
m >>= f = λ s. and_then (m s) f

infixl 10 ◌>>◌
abbrev pub ◌>>◌ : {A B : Type 0} → M A → M B → M B
m >> n = m >>= (λ _. n)

abbrev pub give : {A : Type 0} → A → M A
give a s = fine a s

abbrev pub throw : {A : Type 0} → Thrown → M A
throw x s = raised x s

-- an exception of this class with a value
abbrev pub raise_with : {A : Type 0} → ℕ → Value → M A
raise_with kind v = throw (fresh kind (v ∷ []))

-- an exception of this class with a text
abbrev pub raise : {A : Type 0} → ℕ → List ℕ → M A
raise kind message s = raised (fresh kind (text message ∷ [])) s

-- what is there, or else
abbrev pub or_else : {A : Type 0} → M A → Option A → M A
or_else other (Some a) = give a
or_else other None = other

-- what is behind the last turn that the budget has steps for; no run comes there
abbrev pub exhausted : {A : Type 0} → M A
exhausted s = stopped (record s { left = 0 })

-- ---- the budget and the depth

-- so many steps
abbrev pub spend : ℕ → M (Unit {0})
spend n s = if nat_le n s.left then fine tt (record s { left = s.left - n }) else stopped (record s { left = 0 })

-- one step
abbrev pub tick : M (Unit {0})
tick = spend 1

abbrev pub most_steps : ℕ
most_steps = 4000000

abbrev pub most_depth : ℕ
most_depth = 1000

abbrev pub back_at : {A : Type 0} → ℕ → Ends A → Ends A
back_at n (fine a s) = fine a (record s { depth = n })
back_at n (raised x s) = raised x (record s { depth = n })
back_at n (stopped s) = stopped (record s { depth = n })

abbrev pub recursion_error : {A : Type 0} → M A
recursion_error = raise recursion_error_class (codes "depth limit reached")

-- one level deeper
abbrev pub deeper : {A : Type 0} → M A → M A
deeper m s = if nat_lt s.depth most_depth then back_at s.depth (m (record s { depth = suc s.depth })) else recursion_error s

-- ---- names

abbrev pub access : List ℕ → M (Unit {0})
access x s = fine tt (record s { accessed = with_access x s.accessed })

abbrev pub name_error : {A : Type 0} → List ℕ → M A
name_error x = raise name_error_class (codes "name '" ++ chars x ++ codes "' is not defined")

abbrev pub unbound_local : {A : Type 0} → List ℕ → M A
unbound_local x = raise unbound_local_error_class (codes "local name '" ++ chars x ++ codes "' has no value")

abbrev pub or_class : List ℕ → Option ℕ → M Value
or_class x (Some n) = give (class n)
or_class x None = name_error x

abbrev pub or_builtin : List ℕ → Option ℕ → M Value
or_builtin x (Some n) = give (builtin n)
or_builtin x None = or_class x (place_among x class_names)

abbrev pub or_other : List ℕ → Option Value → M Value
or_other x (Some v) = give v
or_other x None = or_builtin x (place_among x builtin_names)

-- in the names, and then among the builtin functions and classes
abbrev pub read_global : List ℕ → M Value
read_global x = access x >> (λ s. or_other x (find x s.names) s)

abbrev pub bind_global : List ℕ → Value → M (Unit {0})
bind_global x v = access x >> (λ s. fine tt (record s { names = bind x v s.names }))

abbrev pub or_unbound : List ℕ → Option Value → M Value
or_unbound x (Some v) = give v
or_unbound x None = unbound_local x

abbrev pub read_in : List ℕ → Option Locals → M Value
read_in x None = read_global x
read_in x (Some here) = if is_among x here.own then or_unbound x (find x here.values) else read_global x

abbrev pub read : List ℕ → M Value
read x s = read_in x s.locals s

abbrev pub bind_local : List ℕ → Value → Locals → M (Unit {0})
bind_local x v here s = fine tt (record s { locals = Some (record here { values = bind x v here.values }) })

abbrev pub bind_in : List ℕ → Value → Option Locals → M (Unit {0})
bind_in x v None = bind_global x v
bind_in x v (Some here) = if is_among x here.own then bind_local x v here else bind_global x v

abbrev pub assign : List ℕ → Value → M (Unit {0})
assign x v s = bind_in x v s.locals s

-- a name without its value: one that has none raises as a read does
abbrev pub delete_global : List ℕ → M (Unit {0})
delete_global x = access x >> (λ s. if is_some (find x s.names) then fine tt (record s { names = unbind x s.names }) else name_error x s)

abbrev pub delete_local : List ℕ → Locals → M (Unit {0})
delete_local x here s = if is_some (find x here.values) then fine tt (record s { locals = Some (record here { values = unbind x here.values }) }) else unbound_local x s

abbrev pub delete_in : List ℕ → Option Locals → M (Unit {0})
delete_in x None = delete_global x
delete_in x (Some here) = if is_among x here.own then delete_local x here else delete_global x

abbrev pub delete : List ℕ → M (Unit {0})
delete x s = delete_in x s.locals s

-- ---- nodes

-- what can be told from the nodes
abbrev pub look : {A : Type 0} → (List Node → A) → M A
look f s = fine (f s.nodes) s

-- a new node
abbrev pub make : Node → M Value
make n s = fine (node (length s.nodes)) (record s { nodes = s.nodes ++ n ∷ [] })

-- the node of this number, changed so
abbrev pub change : ℕ → (Node → Node) → M (Unit {0})
change i f s = fine tt (record s { nodes = changed f i s.nodes })

-- the node of a value that has one
abbrev pub node_at : List Node → Value → Option Node
node_at ns (node i) = slice_get ns i
node_at ns _ = None

-- as it is now
abbrev pub node_now : Value → M (Option Node)
node_now v = look (λ ns. node_at ns v)

-- ---- what is printed

abbrev pub put_out : List ℕ → M (Unit {0})
put_out cs s = fine tt (record s { out = s.out ++ cs })
