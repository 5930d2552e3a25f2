-- Which records fit the graph of those before them, and how they change it. What they ask of its commits' tables is said in `Histories`.
use Rattle.std.specs.Prelude.{◌≡◌, ◌<◌, ◌≤◌, ℕ, IsTrue, List, [], ◌∷◌, Option, Some, None, is_some}
use Rattle.kishu_store.specs.Branches.{commit_of, is_branch_name}
use Rattle.kishu_store.specs.Entries.{Entry, commit, move, name, to_commit, to_branch}
use Rattle.kishu_store.specs.Graph.{Graph, newest, with_commit, with_head, with_branch}
use Rattle.kishu_store.specs.Limits.{most_records}

-- What each kind asks of the graph: a commit begins at the head's; a move goes to a commit or a branch that is there; a branch has a name of that form, which no other has, and a commit that is there.
abbrev pub GoesOn : Graph → Entry → Type 0
GoesOn g (commit parent profile cells dropped stored) = parent ≡ g.head.commit
GoesOn g (move (to_commit number)) = number ≤ newest g
GoesOn g (move (to_branch title)) = IsTrue (is_some (commit_of title g.branches))
GoesOn g (name title number) = IsTrue (is_branch_name title) × (commit_of title g.branches ≡ None) × (number ≤ newest g)

-- the entry fits the graph of those before it
pub record Fits (g : Graph) (e : Entry) : Type 0 where
  pub room : g.records < most_records
  pub goes_on : GoesOn g e

-- the head goes to a branch; to one that isn't there no record leads
abbrev pub on_branch : List ℕ → Option ℕ → Graph → Graph
on_branch title None g = g
on_branch title (Some number) g = with_head (record { commit = number; branch = Some title }) g

-- the graph, changed by a record
abbrev pub changed : Graph → Entry → Graph
changed g (commit parent profile cells dropped stored) = with_commit profile cells g
changed g (move (to_commit number)) = with_head (record { commit = number; branch = None }) g
changed g (move (to_branch title)) = on_branch title (commit_of title g.branches) g
changed g (name title number) = with_branch title number g

-- the graph, changed by these records in order
abbrev pub changed_by : Graph → List Entry → Graph
changed_by g [] = g
changed_by g (e ∷ es) = changed_by (changed g e) es
