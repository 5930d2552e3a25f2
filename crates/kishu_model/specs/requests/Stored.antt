-- What a commit stored: the groups that its record drops and those that it stores, as names (Kishu, "co-variable"). Nothing changes.
use Rattle.std.specs.Prelude.{ℕ, List, Option, Some, None}
use Rattle.kishu_store.specs.Graph.{Graph, Target}
use Rattle.kishu_store.specs.References.{resolve}
use Rattle.kishu_history.specs.Paths.{stops}
use Rattle.kishu_history.specs.Versions.{dropped, stored}
use Rattle.kishu_model.specs.Answers.{told_stored, no_such_ref}
use Rattle.kishu_model.specs.Request.{Stepped, refused_with}

-- by the replays along the commit's path
abbrev pub stored_at : ℕ → Graph → Stepped
stored_at c g = record { graph = g; answer = told_stored c (dropped (stops g c)) (stored (stops g c)) }

-- The reference names something.
abbrev pub stored_of : Option Target → Graph → Stepped
stored_of None g = refused_with no_such_ref g
stored_of (Some target) g = stored_at target.commit g

abbrev pub step_stored : List ℕ → Graph → Stepped
step_stored of g = stored_of (resolve g of) g
