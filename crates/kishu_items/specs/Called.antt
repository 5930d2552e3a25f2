-- When a call over a heap and a budget gives what the definition says.
use Rattle.std.specs.Prelude.{◌≡◌, List, [], ◌∷◌, Result, Ok, Err}
use Rattle.std.specs.Rc.{rc_str_bytes}
use Rattle.std.specs.Str.{chars}
use Rattle.kishu_meaning.specs.declared.budget.Budget.{Budget}
use Rattle.kishu_meaning.specs.values.Values.{Node, text, value_of}
use Rattle.kishu_meaning.specs.moments.Moment.{Moment, Ends, fine, raised, stopped, fresh}
use Rattle.kishu_meaning_laws.specs.Bare.{bare}
use Rattle.kishu_heap.specs.declared.fault.CallFault.{CallFault}
use Rattle.kishu_heap.specs.declared.fault.CallFault.TheVariants as faults

-- the moment that has these nodes and this budget, and nothing else
abbrev pub moment_of : List Node → Budget → Moment
moment_of ns b = bare ns b.left b.depth

abbrev pub Fails : {A : Type 0} → CallFault → Moment → Ends A → Type 0
Fails (faults.Raise class t) s e = e ≡ raised (fresh class.0 (text (chars (rc_str_bytes t)) ∷ [])) s
Fails (faults.RaiseWith class v) s e = e ≡ raised (fresh class.0 (value_of v ∷ [])) s
Fails faults.Spent s e = e ≡ stopped s
Fails faults.NoMemory s e = Unit {0}

-- A call returned this and left this moment, as the definition says, unless memory ran out.
abbrev pub Gives : {X A : Type 0} → (X → A) → Result X CallFault → Moment → Ends A → Type 0
Gives view (Ok x) s e = e ≡ fine (view x) s
Gives view (Err f) s e = Fails f s e
