-- Where a statement leads: on, out of a loop or a function, or to an exception that is caught or not (Python Language Reference 3, "Compound statements" and "The raise statement").
use Rattle.std.specs.Prelude.{ℕ, zero, suc, Bool, true, false, if◌then◌else◌, List, [], ◌∷◌, slice_get, codes, Option, Some, None, is_some}
use Rattle.std.specs.List.{list_any, list_all}
use Rattle.kishu_language.specs.tokens.Names.{is_among}
use Rattle.kishu_meaning.specs.values.Classes.{any_exception, is_within}
use Rattle.kishu_meaning.specs.values.Values.{Value, class, node, Node, exception}
use Rattle.kishu_meaning.specs.moments.Moment.{Locals, Thrown, fresh, thrown_object, Ends, fine, raised, stopped, M, ◌>>=◌, ◌>>◌, give, throw, exhausted, tick, look, make, node_now, access, assign}
use Rattle.kishu_meaning.specs.moments.Accesses.{unbind}
use Rattle.kishu_meaning.specs.calls.Operators.{type_error, truth, tuple_from}
use Rattle.kishu_meaning.specs.values.Sound.{is_exception_class}
use Rattle.kishu_meaning.specs.items.Walks.{Walk, item_for}

-- how a statement ended that raised nothing
pub data Flow : Type 0 where
  onward : Flow
  broke : Flow
  continued : Flow
  returned : Value → Flow

-- what follows, where the flow goes on there
abbrev pub go_on : Flow → M Flow → M Flow
go_on onward m = m
go_on broke m = give broke
go_on continued m = give continued
go_on (returned v) m = give (returned v)

-- ---- loops: each turn takes a step, so the steps that are left are more than the turns

-- the further turns of a loop, where the flow goes on with them
abbrev pub turn_on : Flow → M Flow → M Flow
turn_on onward m = m
turn_on continued m = m
turn_on broke m = give onward
turn_on (returned v) m = give (returned v)

abbrev pub turns : ℕ → M Value → M Flow → M Flow
turns zero test body = exhausted
turns (suc n) test body = test >>= λ v. truth v >>= λ b. if b then (tick >> body >>= λ f. turn_on f (turns n test body)) else give onward

abbrev pub repeat : M Value → M Flow → M Flow
repeat test body = λ s. turns (suc s.left) test body s

-- with the item that was found, or at the end
abbrev pub with_item : Option Value → (Value → M Flow) → M Flow
with_item (Some v) turn = tick >> turn v
with_item None turn = give broke

-- the turns from the k-th on
abbrev pub walk_on : ℕ → Walk → ℕ → (Value → M Flow) → M Flow
walk_on zero walk k turn = exhausted
walk_on (suc n) walk k turn = item_for walk k >>= λ found. with_item found turn >>= λ f. turn_on f (walk_on n walk (suc k) turn)

abbrev pub walk_along : Walk → (Value → M Flow) → M Flow
walk_along walk turn = λ s. walk_on (suc s.left) walk 0 turn s

-- ---- exceptions

abbrev pub kind_of_node : Option Node → ℕ
kind_of_node (Some (exception kind vs)) = kind
kind_of_node _ = any_exception

abbrev pub kind_of_thrown : List Node → Thrown → ℕ
kind_of_thrown ns (fresh kind vs) = kind
kind_of_thrown ns (thrown_object i) = kind_of_node (slice_get ns i)

abbrev pub no_exception : {A : Type 0} → M A
no_exception = type_error (codes "exceptions must be exception classes or objects")

-- ---- `raise`

abbrev pub is_exception : Option Node → Bool
is_exception (Some (exception kind vs)) = true
is_exception _ = false

-- the object that an exception on its way is, made where there is none yet
abbrev pub object_of : Thrown → M Value
object_of (fresh kind vs) = make (exception kind vs)
object_of (thrown_object i) = give (node i)

abbrev pub throw_object : {A : Type 0} → Value → M A
throw_object (node i) = node_now (node i) >>= λ found. if is_exception found then throw (thrown_object i) else no_exception
throw_object v = no_exception

-- A class makes an object without arguments.
abbrev pub throw_value : {A : Type 0} → Value → M A
throw_value (class n) = if is_exception_class n then make (exception n []) >>= throw_object else no_exception
throw_value v = throw_object v

abbrev pub throw_caught : {A : Type 0} → Option Value → M A
throw_caught (Some v) = throw_object v
throw_caught None = no_exception

-- what the innermost handler in progress caught
abbrev pub throw_again : {A : Type 0} → M A
throw_again = λ s. throw_caught s.handled s

-- ---- `try`

abbrev pub after_body : Ends Flow → (Thrown → M Flow) → M Flow → Ends Flow
after_body (fine onward s) handler other = other s
after_body (fine broke s) handler other = fine broke s
after_body (fine continued s) handler other = fine continued s
after_body (fine (returned v) s) handler other = fine (returned v) s
after_body (raised x s) handler other = handler x s
after_body (stopped s) handler other = stopped s

-- The handlers are for what the body raises, and the block of `else` for where it ends plainly.
abbrev pub attempt : M Flow → (Thrown → M Flow) → M Flow → M Flow
attempt body handler other = λ s. after_body (body s) handler other

-- the way out that was taken, unless the last block leaves by itself
abbrev pub unless_left : Flow → M Flow → M Flow
unless_left onward m = m
unless_left broke m = give broke
unless_left continued m = give continued
unless_left (returned v) m = give (returned v)

abbrev pub and_last : Ends Flow → M Flow → Ends Flow
and_last (fine f s) last = (last >>= λ g. unless_left g (give f)) s
and_last (raised x s) last = (last >>= λ g. unless_left g (throw x)) s
and_last (stopped s) last = stopped s

-- The last block runs on each way out, but for a spent budget.
abbrev pub finally : M Flow → M Flow → M Flow
finally body last = λ s. and_last (body s) last

-- ---- handlers

abbrev pub exception_class_in : Value → Option ℕ
exception_class_in (class n) = if is_exception_class n then Some n else None
exception_class_in _ = None

abbrev pub is_caught_by : ℕ → Value → Bool
is_caught_by kind (class n) = is_within kind n
is_caught_by kind _ = false

abbrev pub is_class_of_exceptions : Value → Bool
is_class_of_exceptions v = is_some (exception_class_in v)

abbrev pub are_caught_by : ℕ → List Value → M Bool
are_caught_by kind vs = if list_all is_class_of_exceptions vs then give (list_any (is_caught_by kind) vs) else no_exception

abbrev pub caught_among : ℕ → Option (List Value) → M Bool
caught_among kind (Some vs) = are_caught_by kind vs
caught_among kind None = no_exception

-- by a class, or by a tuple of classes
abbrev pub caught_by : ℕ → Value → M Bool
caught_by kind (class n) = are_caught_by kind (class n ∷ [])
caught_by kind v = node_now v >>= λ found. caught_among kind (tuple_from found)

abbrev pub is_caught : Thrown → Value → M Bool
is_caught x v = look (λ ns. kind_of_thrown ns x) >>= λ kind. caught_by kind v

-- a name without its value, where it has one still
abbrev pub forget_global : List ℕ → M (Unit {0})
forget_global x = access x >> (λ s. fine tt (record s { names = unbind x s.names }))

abbrev pub forget_local : List ℕ → Locals → M (Unit {0})
forget_local x here s = fine tt (record s { locals = Some (record here { values = unbind x here.values }) })

abbrev pub forget_in : List ℕ → Option Locals → M (Unit {0})
forget_in x None = forget_global x
forget_in x (Some here) = if is_among x here.own then forget_local x here else forget_global x

abbrev pub forget : List ℕ → M (Unit {0})
forget x s = forget_in x s.locals s

-- the name after `as`
abbrev pub bind_caught : Option (List ℕ) → Value → M (Unit {0})
bind_caught None v = give tt
bind_caught (Some x) v = assign x v

abbrev pub forget_caught : Option (List ℕ) → M (Unit {0})
forget_caught None = give tt
forget_caught (Some x) = forget x

abbrev pub handled_as : {A : Type 0} → Option Value → Ends A → Ends A
handled_as before (fine a s) = fine a (record s { handled = before })
handled_as before (raised x s) = raised x (record s { handled = before })
handled_as before (stopped s) = stopped (record s { handled = before })

-- while this object is handled
abbrev pub handling : {A : Type 0} → Value → M A → M A
handling v m s = handled_as s.handled (m (record s { handled = Some v }))

-- The exception is bound for the block, and its name unbound on each way out.
abbrev pub handle : Option (List ℕ) → M Flow → Thrown → M Flow
handle caught block x = object_of x >>= λ v. bind_caught caught v >> finally (handling v block) (forget_caught caught >> give onward)
