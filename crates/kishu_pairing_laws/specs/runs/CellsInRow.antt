-- What holds of one run holds of cells one after another.
use Rattle.std.specs.Prelude.{List, ℕ, [], ◌∷◌}
use Rattle.kishu_language.specs.declared.profile.Profile.{Profile}
use Rattle.kishu_meaning.specs.cells.Meaning.{run}
use Rattle.kishu_meaning.specs.values.Values.{State}
use Rattle.kishu_replay.specs.Replay.{after_cells}
use Rattle.kishu_objects.specs.Same.{Same}
use Rattle.kishu_objects.specs.States.{IsSoundState}
use Rattle.kishu_pairing_laws.specs.runs.PairedRuns.{same_runs}
use Rattle.kishu_pairing_laws.specs.runs.SoundRuns.{run_is_state}

-- Cells one after another can't tell states apart that are the same.
pub same_after : (profile : Profile) (cells : List (List ℕ)) (s t : State) → IsSoundState s → IsSoundState t → Same s t → Same (after_cells profile cells s) (after_cells profile cells t)
same_after profile [] s t rs rt h = h
same_after profile (cell ∷ cells) s t rs rt h =
    same_after profile cells (run profile cell s).state (run profile cell t).state (run_is_state profile cell s rs) (run_is_state profile cell t rt) (same_runs profile cell s t rs rt h).states

-- Cells one after another lead from a sound state whose names stand in order to another.
pub cells_are_state : (profile : Profile) (cells : List (List ℕ)) (s : State) → IsSoundState s → IsSoundState (after_cells profile cells s)
cells_are_state profile [] s h = h
cells_are_state profile (cell ∷ cells) s h = cells_are_state profile cells (run profile cell s).state (run_is_state profile cell s h)
