-- The bytes that calls of a journal leave in the file.
use Rattle.std.specs.Prelude.{ℕ, List, [], ◌∷◌, ◌++◌}
use Rattle.kishu_host.specs.Host.{overwrite}
use Rattle.kishu_store.specs.Holds.{front, framed, open_gate}

-- a store without records
abbrev pub fresh : List ℕ
fresh = front [] ++ (0 ∷ [])

-- a file with a record written from the closed gate at that place on: an open gate, the body behind its length, the gate 0
abbrev pub appended : ℕ → List ℕ → List ℕ → List ℕ
appended place body file = overwrite place (open_gate ∷ (framed body ++ (0 ∷ []))) file
