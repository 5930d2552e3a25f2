-- What a checkout would do: the groups that it would drop, keep and load, as names (Kishu, "co-variable"). Nothing changes.
use Rattle.std.specs.Prelude.{ℕ, List, Option, Some, None}
use Rattle.kishu_store.specs.Graph.{Graph, Target}
use Rattle.kishu_store.specs.References.{resolve}
use Rattle.kishu_history.specs.Paths.{stops}
use Rattle.kishu_history.specs.Versions.{Stop, left, kept, loaded}
use Rattle.kishu_model.specs.Answers.{Answer, told_plan, no_such_ref}
use Rattle.kishu_model.specs.Request.{Stepped, refused_with}

-- By the replays along two paths, of which the second leads to that commit: the answer that tells what is dropped, kept and loaded.
abbrev pub planned : (commit : ℕ) → (h c : List Stop) → Answer
planned commit h c = told_plan commit (left h c) (kept h c) (loaded h c)

abbrev pub planned_at : ℕ → Graph → Stepped
planned_at c g = record { graph = g; answer = planned c (stops g g.head.commit) (stops g c) }

-- The reference names something.
abbrev pub plan_of : Option Target → Graph → Stepped
plan_of None g = refused_with no_such_ref g
plan_of (Some target) g = planned_at target.commit g

abbrev pub step_plan : List ℕ → Graph → Stepped
step_plan to g = plan_of (resolve g to) g
