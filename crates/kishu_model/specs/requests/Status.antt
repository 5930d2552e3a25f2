-- The status: where the head stands, how many commits and records there are, and which names are bound. Nothing changes.
use Rattle.std.specs.Prelude.{ℕ, suc, List, map}
use Rattle.kishu_meaning.specs.values.Values.{State}
use Rattle.kishu_store.specs.Graph.{Graph, newest}
use Rattle.kishu_replay.specs.Replay.{replay}
use Rattle.kishu_model.specs.Answers.{told_status}
use Rattle.kishu_model.specs.Request.{Stepped}

abbrev pub names_in : State → List (List ℕ)
names_in s = map (λ b. b.0) s.names

-- The root is counted among the commits.
abbrev pub step_status : Graph → Stepped
step_status g = record {
  graph = g;
  answer = told_status (record { branch = g.head.branch; commit = g.head.commit; commits = suc (newest g); names = names_in (replay g g.head.commit); records = g.records });
}
