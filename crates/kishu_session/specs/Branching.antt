-- A branch more in what a graph keeps, or the cause that there is none.
use Rattle.std.specs.Prelude.{◌≡◌, ◌⊎◌, ℕ, List, Option, Some}
use Rattle.kishu_store.specs.Graph.{Graph}
use Rattle.kishu_graph.specs.Kept.{Kept, HasShapeOf}
use Rattle.kishu_graph.specs.Refusals.{unless_named, start_of, HasBranched}
use Rattle.kishu_graph.specs.declared.fault.GraphFault.{GraphFault}
use Rattle.kishu_graph.specs.declared.fault.GraphFault.TheVariants.{NoMemory}

-- The branch of this name stands at this commit, which is the one at which it was to begin.
abbrev pub BranchesAt : (old new : Kept) → List ℕ → Option (List ℕ) → ℕ → Type 0
BranchesAt old new name at commit = (g : Graph) → HasShapeOf old g → HasBranched name (start_of at g) g commit old new

-- There was no memory, or this is why the graph doesn't take the branch.
abbrev pub IsCause : Kept → List ℕ → Option (List ℕ) → GraphFault → Type 0
IsCause kept name at fault = (fault ≡ NoMemory) ⊎ ((g : Graph) → HasShapeOf kept g → unless_named name (start_of at g) g ≡ Some fault)
