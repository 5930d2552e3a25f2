-- A checkout: the head goes to a commit, or to a branch. No commit and no branch changes.
use Rattle.std.specs.Prelude.{ℕ, nat_le, if◌then◌else◌, List, Option, Some, None}
use Rattle.kishu_store.specs.Limits.{most_records}
use Rattle.kishu_store.specs.Graph.{Graph, Target, with_head}
use Rattle.kishu_store.specs.References.{resolve}
use Rattle.kishu_model.specs.Answers.{checked_out, no_such_ref, store_full}
use Rattle.kishu_model.specs.Request.{Stepped, refused_with}

abbrev pub went_to : Target → Graph → Stepped
went_to target g = record { graph = with_head target g; answer = checked_out target.commit target.branch }

-- The reference names something, and then the store has room for a record.
abbrev pub checkout_to : Option Target → Graph → Stepped
checkout_to None g = refused_with no_such_ref g
checkout_to (Some target) g = if nat_le most_records g.records then refused_with store_full g else went_to target g

abbrev pub step_checkout : List ℕ → Graph → Stepped
step_checkout to g = checkout_to (resolve g to) g
