-- The machine that replays each commit's whole path of cells from empty.
use Rattle.std.specs.Prelude.{ℕ, ◌+◌, List, [], ◌∷◌}
use Rattle.kishu_language.specs.declared.profile.Profile.{Profile}
use Rattle.kishu_meaning.specs.values.Values.{State, empty}
use Rattle.kishu_meaning.specs.cells.Meaning.{run}
use Rattle.kishu_store.specs.Graph.{Commit, Graph, path}

-- the state after these cells
abbrev pub after_cells : Profile → List (List ℕ) → State → State
after_cells profile [] state = state
after_cells profile (cell ∷ cells) state = after_cells profile cells (run profile cell state).state

-- the state after the cells of these commits
abbrev pub after_commits : List Commit → State → State
after_commits [] state = state
after_commits (k ∷ ks) state = after_commits ks (after_cells k.profile k.cells state)

-- the state of a commit
abbrev pub replay : Graph → ℕ → State
replay g c = after_commits (path g c) empty

-- the steps that these cells take
abbrev pub charge_in : Profile → List (List ℕ) → State → ℕ
charge_in profile [] state = 0
charge_in profile (cell ∷ cells) state = (run profile cell state).charge + charge_in profile cells (run profile cell state).state

-- those of the cells of these commits
abbrev pub charge_on : List Commit → State → ℕ
charge_on [] state = 0
charge_on (k ∷ ks) state = charge_in k.profile k.cells state + charge_on ks (after_cells k.profile k.cells state)

-- those of a commit's replay
abbrev pub replay_charge : Graph → ℕ → ℕ
replay_charge g c = charge_on (path g c) empty
