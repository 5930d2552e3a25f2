-- The empty state is one, and so is the state at the end of a path of states.
use Rattle.std.specs.Prelude.{List, [], ◌∷◌}
use Rattle.std.specs.List.Sorted.{IsStrictlySortedBy}
use Rattle.kishu_meaning.specs.values.Values.{empty}
use Rattle.kishu_objects.specs.States.{IsSoundState}
use Rattle.kishu_history.specs.Versions.{Stop, at_end, AreStates}

pub empty_state : IsSoundState empty
unfolding IsStrictlySortedBy
empty_state = record { sound = record { names = λ x i e. absurd (cc); nodes = λ i a h. absurd h }; rise = tt }

pub end_state : (ks : List Stop) → AreStates ks → IsSoundState (at_end ks)
end_state [] h = empty_state
end_state (k ∷ ks) h = h.0
