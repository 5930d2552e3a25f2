-- A branch more, at a commit or at the head's. The head stays where it is.
use Rattle.std.specs.Prelude.{ℕ, nat_le, not, if◌then◌else◌, List, Option, Some, None, is_some, option_map}
use Rattle.kishu_store.specs.Limits.{most_records}
use Rattle.kishu_store.specs.Branches.{commit_of, is_branch_name}
use Rattle.kishu_store.specs.Graph.{Graph, with_branch}
use Rattle.kishu_store.specs.References.{resolve}
use Rattle.kishu_model.specs.Answers.{branched, bad_name, name_taken, no_such_ref, store_full}
use Rattle.kishu_model.specs.Request.{Stepped, refused_with}

-- the commit at which the branch begins
abbrev pub start_of : Option (List ℕ) → Graph → Option ℕ
start_of None g = Some g.head.commit
start_of (Some at) g = option_map (λ target. target.commit) (resolve g at)

-- The start is there, and then the store has room for a record.
abbrev pub branch_at : List ℕ → Option ℕ → Graph → Stepped
branch_at name None g = refused_with no_such_ref g
branch_at name (Some commit) g =
    if nat_le most_records g.records then refused_with store_full g
    else record { graph = with_branch name commit g; answer = branched commit name }

-- Before that: the name is one, and no branch has it.
abbrev pub step_branch : List ℕ → Option (List ℕ) → Graph → Stepped
step_branch name at g =
    if not (is_branch_name name) then refused_with bad_name g
    else if is_some (commit_of name g.branches) then refused_with name_taken g
    else branch_at name (start_of at g) g
