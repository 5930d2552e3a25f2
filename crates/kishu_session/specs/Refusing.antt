-- Which refusal says that a graph doesn't take a request, and which refusal an answer is.
use Rattle.std.specs.Prelude.{◌≡◌, ℕ, Option, Some, None, option_map}
use Rattle.kishu_graph.specs.declared.fault.GraphFault.{GraphFault}
use Rattle.kishu_graph.specs.declared.fault.GraphFault.TheVariants.{NoSuchRef, BadName, NameTaken, StoreFull, NoMemory}
use Rattle.kishu_model.specs.Answers.{Answer, refused, Refusal, no_such_ref, bad_name, name_taken, store_full, state_too_large}
use Rattle.kishu_live_laws.specs.Refusals.{refusal_in}

abbrev pub refusal_by : GraphFault → Option Refusal
refusal_by NoSuchRef = Some no_such_ref
refusal_by BadName = Some bad_name
refusal_by NameTaken = Some name_taken
refusal_by StoreFull = Some store_full
refusal_by NoMemory = None

-- One answer refuses what the other does.
abbrev pub RefusesAs : Option Answer → Answer → Type 0
RefusesAs a b = option_map refusal_in a ≡ Some (refusal_in b)

abbrev pub IsRefusal : Option Answer → Type 0
IsRefusal a = (r : Refusal) × (option_map refusal_in a ≡ Some (Some r))

-- The answer refuses a state that takes so many bytes.
abbrev pub RefusesSize : Option Answer → ℕ → Type 0
RefusesSize a bytes = a ≡ Some (refused (state_too_large bytes))
