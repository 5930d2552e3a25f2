-- The names that cells access one after another.
use Rattle.std.specs.Prelude.{ℕ, List, [], ◌∷◌, ◌++◌}
use Rattle.kishu_language.specs.declared.profile.Profile.{Profile}
use Rattle.kishu_meaning.specs.values.Values.{State}
use Rattle.kishu_meaning.specs.cells.Meaning.{run}

-- Only which names they are counts, and not how often each is among them.
abbrev pub accessed_by : Profile → List (List ℕ) → State → List (List ℕ)
accessed_by profile [] s = []
accessed_by profile (cell ∷ cells) s = (run profile cell s).accessed ++ accessed_by profile cells (run profile cell s).state
