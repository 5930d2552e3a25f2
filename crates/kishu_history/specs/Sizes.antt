-- When no state on a path takes too many bytes.
use Rattle.std.specs.Prelude.{◌≤◌, ℕ, ⊤, List, [], ◌∷◌}
use Rattle.kishu_language.specs.declared.profile.Profile.{Profile}
use Rattle.kishu_meaning.specs.values.Values.{State, empty}
use Rattle.kishu_meaning.specs.cells.Meaning.{run}
use Rattle.kishu_store.specs.Graph.{Commit, Graph, path}
use Rattle.kishu_replay.specs.Replay.{after_cells}
use Rattle.kishu_objects.specs.Sizes.{size, most_bytes}

-- After each of these cells the state isn't too large.
abbrev pub StaySmall : Profile → List (List ℕ) → State → Type 0
StaySmall profile [] s = ⊤
StaySmall profile (cell ∷ cells) s = (size (run profile cell s).state ≤ most_bytes) × StaySmall profile cells (run profile cell s).state

-- nor after each cell of these commits
abbrev pub AllStaySmall : List Commit → State → Type 0
AllStaySmall [] s = ⊤
AllStaySmall (k ∷ ks) s = StaySmall k.profile k.cells s × AllStaySmall ks (after_cells k.profile k.cells s)

-- nor after any cell of the replay of any commit
abbrev pub StaysSmall : Graph → Type 0
StaysSmall g = (c : ℕ) → AllStaySmall (path g c) empty
