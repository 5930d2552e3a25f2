-- What the code's parts of primaries, callees, arguments and ways of statements stand for, and when they are sound.
use Rattle.std.specs.Prelude.{◌≡◌, ℕ, ◌+◌, ◌≤◌, Bool, true, IsTrue, ◌&&◌, List, [], ◌∷◌, ◌++◌, map, length, Option, Some, Result, Ok, Err, OnOk, ◌*◌, codes}
use Rattle.std.specs.List.{list_all}
use Rattle.std.specs.Rc.{rc_str_bytes}
use Rattle.std.specs.Str.{chars, IsUtf8}
use Rattle.std.specs.declared.alloc.Global.{Global}
use Rattle.std.specs.declared.rc.RcStr.{RcStr}
use Rattle.std.specs.declared.vec.Vec.{Vec}
use Rattle.kishu_meaning.specs.declared.value.Value as rust
use Rattle.kishu_language.specs.Limits.{longest_text}
use Rattle.kishu_language.specs.tokens.Names.{is_name}
use Rattle.kishu_language.specs.tokens.Lines.{line_feed}
use Rattle.kishu_language.specs.grammar.Refusals.{all_differ}
use Rattle.kishu_language.specs.trees.Fits.{IsCodeOf}
use Rattle.kishu_language.specs.trees.Tree.{definition_of}
use Rattle.kishu_meaning.specs.moments.Moment.{Moment, raised}
use Rattle.kishu_meaning.specs.values.Values.{Value, node, Node, function, value_of, Names}
use Rattle.kishu_meaning.specs.values.Sound.{is_sound, are_sound}
use Rattle.kishu_meaning.specs.calls.Callees.{Given, Part, whole, dotted, viewed, Callee, method, view, print, print_by}
use Rattle.kishu_meaning.specs.calls.Callees as c
use Rattle.kishu_meaning.specs.cells.Ways.{Flow, onward, broke, continued, returned}
use Rattle.kishu_calls.specs.declared.callees.Callee as rust_callee
use Rattle.kishu_calls.specs.declared.callees.Callee.TheVariants as callees
use Rattle.kishu_calls.specs.declared.callees.Given as rust_given
use Rattle.kishu_calls.specs.declared.parts.Part as rust_part
use Rattle.kishu_calls.specs.declared.parts.Part.TheVariants as parts
use Rattle.kishu_calls.specs.declared.calls.Marks as rust_marks
use Rattle.kishu_calls.specs.declared.functions.Function as rust_function
use Rattle.kishu_machine.specs.declared.fault.Fault.{Fault}
use Rattle.kishu_machine.specs.declared.fault.Fault.TheVariants as faults
use Rattle.kishu_machine.specs.declared.machine.Machine.{Machine}
use Rattle.kishu_calls.specs.declared.ways.Flow as rust_flow
use Rattle.kishu_calls.specs.declared.ways.Flow.TheVariants as flows
use Rattle.kishu_machine.specs.Frames.{texts_of}
use Rattle.kishu_machine.specs.Machine.{thrown_of, is_sound_thrown, IsSound}
use Rattle.kishu_items.specs.Messages.{is_plain}
use Rattle.kishu_items.specs.Walks.{view_of}

abbrev pub part_of : rust_part.Part → Part
part_of (parts.Whole v) = whole (value_of v)
part_of (parts.Dotted v x) = dotted (value_of v) (rc_str_bytes x)
part_of (parts.Viewed id found) = viewed id.0 (view_of found)

abbrev pub callee_of : rust_callee.Callee → Callee
callee_of (callees.Function v) = c.function (value_of v)
callee_of (callees.Method v x) = method (value_of v) (rc_str_bytes x)
callee_of (callees.View id found) = view id.0 (view_of found)

abbrev pub named_of : List (RcStr Global × rust.Value) → Names
named_of = map (λ e. (rc_str_bytes e.0, value_of e.1))

abbrev pub given_of : rust_given.Given → Given
given_of g = record { plain = map value_of g.plain.items; named = named_of g.named.items }

abbrev pub flow_of : rust_flow.Flow → Flow
flow_of flows.Onward = onward
flow_of flows.Broke = broke
flow_of flows.Continued = continued
flow_of (flows.Returned v) = returned (value_of v)

abbrev pub is_sound_part : ℕ → Part → Bool
is_sound_part n (whole v) = is_sound n v
is_sound_part n (dotted v x) = is_sound n v
is_sound_part n (viewed i found) = is_sound n (node i)

-- The name of a method is ASCII.
abbrev pub is_sound_callee : ℕ → Callee → Bool
is_sound_callee n (c.function v) = is_sound n v
is_sound_callee n (method v x) = is_plain x && is_sound n v
is_sound_callee n (view i found) = is_sound n (node i)

-- No keyword stands twice.
abbrev pub is_sound_given : ℕ → Given → Bool
is_sound_given n g = are_sound n g.plain && (list_all (λ k. is_name k.0 && is_sound n k.1) g.named && all_differ (map (λ k. k.0) g.named))

abbrev pub is_sound_flow : ℕ → Flow → Bool
is_sound_flow n onward = true
is_sound_flow n broke = true
is_sound_flow n continued = true
is_sound_flow n (returned v) = is_sound n v

-- ---- what clauses say of these, over the nodes of a heap

abbrev pub IsSoundPart : List Node → rust_part.Part → Type 0
IsSoundPart nodes p = IsTrue (is_sound_part (length nodes) (part_of p))

abbrev pub IsSoundGiven : List Node → rust_given.Given → Type 0
IsSoundGiven nodes g = IsTrue (is_sound_given (length nodes) (given_of g))

abbrev pub SoundPart : List Node → Result rust_part.Part Fault → Type 0
SoundPart nodes r = IsSound (λ p. is_sound_part (length nodes) (part_of p)) (length nodes) r

abbrev pub SoundCallee : List Node → Result rust_callee.Callee Fault → Type 0
SoundCallee nodes r = IsSound (λ f. is_sound_callee (length nodes) (callee_of f)) (length nodes) r

abbrev pub SoundFlow : List Node → Result rust_flow.Flow Fault → Type 0
SoundFlow nodes r = IsSound (λ f. is_sound_flow (length nodes) (flow_of f)) (length nodes) r

-- ---- what a part owes

abbrev pub owed : Part → ℕ
owed (whole v) = 0
owed (dotted v x) = 1
owed (viewed i found) = 1

-- With what the part owes, the heap grew by at most so many nodes more than the steps pay for.
abbrev pub Owing : ℕ → Machine → Result rust_part.Part Fault → Machine → Type 0
Owing k old (Ok p) new = length new.heap + 4 * new.budget.left + owed (part_of p) ≤ length old.heap + 4 * old.budget.left + k
Owing k old (Err f) new = length new.heap + 4 * new.budget.left ≤ length old.heap + 4 * old.budget.left + k

-- With eight reads for what the part owes, the counter rose by at most so many more than the steps pay for.
abbrev pub OwesReads : ℕ → Machine → ℕ → Result rust_part.Part Fault → Machine → ℕ → Type 0
OwesReads k old a (Ok p) new b = b + 128 * new.budget.left + 8 * owed (part_of p) ≤ a + 128 * old.budget.left + k
OwesReads k old a (Err f) new b = b + 128 * new.budget.left ≤ a + 128 * old.budget.left + k

-- The node is a function with this tree and these defaults, and its code is short.
abbrev pub IsFunction : Option Node → rust_function.Function → Type 0
IsFunction (Some (function profile code vs)) f = ∥ IsCodeOf profile code (definition_of f.def.value) ∥₁ × IsUtf8 code × (length code ≤ longest_text) × (vs ≡ map value_of f.defaults.items)
IsFunction _ f = ⊥

abbrev pub is_sound_way : ℕ → Result rust_flow.Flow Fault → Bool
is_sound_way n (Ok f) = is_sound_flow n (flow_of f)
is_sound_way n (Err (faults.Raised x)) = is_sound_thrown n (thrown_of x)
is_sound_way n (Err faults.Stopped) = true
is_sound_way n (Err faults.NoMemory) = true

-- The marks of a `print` are those of its keywords, or it raises as the definition does.
abbrev pub PrintsBy : Result rust_marks.Marks Fault → Names → List Value → Moment → Type 0
PrintsBy (Ok m) ks vs s = print_by ks (codes " ") (line_feed ∷ []) vs s ≡ print (chars (rc_str_bytes m.separator)) (chars (rc_str_bytes m.end)) vs s
PrintsBy (Err (faults.Raised x)) ks vs s = print_by ks (codes " ") (line_feed ∷ []) vs s ≡ raised (thrown_of x) s
PrintsBy (Err faults.Stopped) ks vs s = ⊥
PrintsBy (Err faults.NoMemory) ks vs s = Unit {0}

-- Behind the names so far there are these too.
abbrev pub Adds : {T E : Type 0} → Result T E → Vec (RcStr Global) Global → Vec (RcStr Global) Global → List (List ℕ) → Type 0
Adds r old new xs = OnOk r (texts_of new.items ≡ texts_of old.items ++ xs)
