-- Why a graph isn't changed, in the order in which the causes are tried, and what a change leaves.
use Rattle.std.specs.Prelude.{◌≡◌, ℕ, not, nat_le, if◌then◌else◌, List, Option, Some, None, is_some, option_map}
use Rattle.kishu_store.specs.Branches.{Branches, commit_of, is_branch_name}
use Rattle.kishu_store.specs.Graph.{Graph, Target, newest, with_head, with_branch}
use Rattle.kishu_store.specs.Limits.{most_records}
use Rattle.kishu_store.specs.References.{resolve}
use Rattle.kishu_graph.specs.declared.fault.GraphFault.{GraphFault}
use Rattle.kishu_graph.specs.declared.fault.GraphFault.TheVariants.{BadName, NameTaken, NoSuchRef, StoreFull}
use Rattle.kishu_graph.specs.Kept.{Kept, HasShapeOf}

-- A store that is full takes no record.
abbrev pub full : Graph → Option GraphFault
full g = if nat_le most_records g.records then Some StoreFull else None

-- What is named has to be there, and then there has to be room for a record.
abbrev pub unless_there : {A : Type 0} → Option A → Graph → Option GraphFault
unless_there None g = Some NoSuchRef
unless_there (Some there) g = full g

-- The name has to be one that no branch has; then its start has to be there, and room for a record.
abbrev pub unless_named : List ℕ → Option ℕ → Graph → Option GraphFault
unless_named name start g =
    if not (is_branch_name name) then Some BadName
    else if is_some (commit_of name g.branches) then Some NameTaken
    else unless_there start g

-- ---- where a head goes, and where a branch begins

-- the commit of a number
abbrev pub at_commit : ℕ → Graph → Option Target
at_commit c g = if nat_le c (newest g) then Some (record { commit = c; branch = None }) else None

-- the number of that commit
abbrev pub start_at : ℕ → Graph → Option ℕ
start_at c g = option_map (λ target. target.commit) (at_commit c g)

-- a branch among these
abbrev pub on_branch : List ℕ → Branches → Option Target
on_branch name branches = option_map (λ c. record { commit = c; branch = Some name }) (commit_of name branches)

-- a branch
abbrev pub at_branch : List ℕ → Graph → Option Target
at_branch name g = on_branch name g.branches

-- what a reference names, and where there is none the head's commit
abbrev pub start_of : Option (List ℕ) → Graph → Option ℕ
start_of None g = Some g.head.commit
start_of (Some to) g = option_map (λ target. target.commit) (resolve g to)

-- ---- changed graphs

-- The head stands at the target, and there is one record more. No commit changes, and none's table.
pub record HasMoved (target : Option Target) (g : Graph) (commit : ℕ) (old new : Kept) : Type 0 where
  pub there : Target
  pub target_is : target ≡ Some there
  pub commit_is : commit ≡ there.commit
  pub accepted : unless_there target g ≡ None
  pub shape : HasShapeOf new (with_head there g)
  pub commits : new.commits ≡ old.commits
  pub noted : new.noted ≡ old.noted

-- The branch stands at its start, and there is one record more. No commit changes, and none's table.
pub record HasBranched (name : List ℕ) (start : Option ℕ) (g : Graph) (commit : ℕ) (old new : Kept) : Type 0 where
  pub start_is : start ≡ Some commit
  pub accepted : unless_named name start g ≡ None
  pub shape : HasShapeOf new (with_branch name commit g)
  pub commits : new.commits ≡ old.commits
  pub noted : new.noted ≡ old.noted
