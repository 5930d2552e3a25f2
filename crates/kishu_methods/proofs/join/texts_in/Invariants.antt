use Rattle.std.proofs.Common.{◌≡◌, ◌++◌, map, drop, option_map, List, ℕ}
use Rattle.kishu_meaning.specs.values.Values.{value_of}
use Rattle.kishu_meaning.specs.calls.Methods.{texts_in}
use Rattle.kishu_methods.specs.TextValues.{texts_of}
use Rattle.kishu_methods.proofs.join.texts_in.Given as goal

-- what is left of the values goes on from here
abbrev pub invariant-loop-value : goal.invariant-loop-value
invariant-loop-value l =
    option_map (λ (more : List (List ℕ)). texts_of l.texts.items ++ more) (texts_in (map value_of (drop l.value-index l.values))) ≡ texts_in (map value_of l.values)
