-- The graph of commits, its branches and its head (Kishu, "checkpoint graph").
use Rattle.std.specs.Prelude.{ℕ, suc, ◌+◌, ◌==◌, if◌then◌else◌, List, [], ◌∷◌, ◌++◌, length, codes, Option, Some, None}
use Rattle.kishu_language.specs.declared.profile.Profile.{Profile}
use Rattle.kishu_store.specs.Branches.{Branches, with_branch_at}

-- what a commit adds to its parent
pub record Commit : Type 0 where
  pub parent : ℕ
  pub profile : Profile
  pub cells : List (List ℕ)

-- where the head stands: on a commit, and perhaps on a branch
pub record Target : Type 0 where
  pub commit : ℕ
  pub branch : Option (List ℕ)

pub record Graph : Type 0 where
  -- the newest first, without the root: the oldest has the number 1
  pub commits : List Commit
  pub branches : Branches
  pub head : Target
  pub records : ℕ

abbrev pub main_branch : List ℕ
main_branch = codes "main"

-- the graph of a new store: the root alone, which has the number 0, and the branch `main` there
abbrev pub new_graph : Graph
new_graph = record { commits = []; branches = (main_branch, 0) ∷ []; head = record { commit = 0; branch = Some main_branch }; records = 0 }

-- the branches after the head went to a commit: the branch on which it stands goes along
abbrev pub moved_with : Option (List ℕ) → ℕ → Branches → Branches
moved_with None commit bs = bs
moved_with (Some name) commit bs = with_branch_at name commit bs

-- the number of the newest commit
abbrev pub newest : Graph → ℕ
newest g = length g.commits

-- The graph with a commit more: a child of the head's commit, to which the head moves, and with it the branch on which the head stands.
abbrev pub with_commit : Profile → List (List ℕ) → Graph → Graph
with_commit profile cells g = record {
  commits = record { parent = g.head.commit; profile = profile; cells = cells } ∷ g.commits;
  branches = moved_with g.head.branch (suc (newest g)) g.branches;
  head = record { commit = suc (newest g); branch = g.head.branch };
  records = suc g.records;
}

-- the graph whose head stands there, after one record more
abbrev pub with_head : Target → Graph → Graph
with_head target g = record { commits = g.commits; branches = g.branches; head = target; records = suc g.records }

-- the graph with a branch more; its head stays
abbrev pub with_branch : List ℕ → ℕ → Graph → Graph
with_branch name commit g = record { commits = g.commits; branches = with_branch_at name commit g.branches; head = g.head; records = suc g.records }

-- the commits from the root to this one, the root left out, by way of the parents
abbrev pub path_in : List Commit → ℕ → List Commit
path_in [] c = []
path_in (k ∷ ks) c = if c == suc (length ks) then path_in ks k.parent ++ k ∷ [] else path_in ks c

abbrev pub path : Graph → ℕ → List Commit
path g c = path_in g.commits c

abbrev pub cell_count : List Commit → ℕ
cell_count [] = 0
cell_count (k ∷ ks) = length k.cells + cell_count ks

-- the number of cells on the path to a commit
abbrev pub count_of : Graph → ℕ → ℕ
count_of g c = cell_count (path g c)

-- a commit with its number
pub record Numbered : Type 0 where
  pub number : ℕ
  pub commit : Commit

-- the commits from this one back to the root, which is left out, with their numbers
abbrev pub back_in : List Commit → ℕ → List Numbered
back_in [] c = []
back_in (k ∷ ks) c = if c == suc (length ks) then record { number = c; commit = k } ∷ back_in ks k.parent else back_in ks c

abbrev pub back : Graph → ℕ → List Numbered
back g c = back_in g.commits c
