-- How many nodes requests make by the machine that replays: their cells, and the pictures that are loaded for them.
use Rattle.std.specs.Prelude.{ℕ, ◌+◌, ◌-◌, List, length}
use Rattle.std.specs.List.{sum_by}
use Rattle.kishu_language.specs.declared.profile.Profile.{Profile}
use Rattle.kishu_meaning.specs.values.Values.{State}
use Rattle.kishu_objects.specs.Groups.{groups_of}
use Rattle.kishu_objects.specs.Picture.{picture}
use Rattle.kishu_replay.specs.Replay.{after_cells, replay}
use Rattle.kishu_store.specs.Graph.{Graph}
use Rattle.kishu_store.specs.Limits.{newest_profile}
use Rattle.kishu_history.specs.Changed.{Group}
use Rattle.kishu_history.specs.Paths.{stops}
use Rattle.kishu_history.specs.Versions.{loaded}
use Rattle.kishu_model.specs.Answers.{Answer, ran_cell, ran_cells, checked_out, branched, logged, told_status, inspected, told_stored, told_plan, refused, Refusal, bad_request, cell_too_long, no_such_ref, bad_name, name_taken, store_full, state_too_large}
use Rattle.kishu_model.specs.Request.{Request}
use Rattle.kishu_model.specs.Step.{step}
use Rattle.kishu_live_laws.specs.Replays.{ran_in}

-- those that cells make on a state
abbrev pub made_in : Profile → List (List ℕ) → State → ℕ
made_in profile cells s = length (after_cells profile cells s).nodes - length s.nodes

-- those of the pictures of groups
abbrev pub pictured_in : List Group → State → ℕ
pictured_in gs s = sum_by (λ g. length (picture s g).nodes) gs

-- those of the pictures of a commit's groups, and of the groups that are loaded on the way from one commit to another
abbrev pub opened_nodes : Graph → ℕ → ℕ
opened_nodes g c = pictured_in (groups_of (replay g c)) (replay g c)

abbrev pub loaded_nodes : Graph → (h c : ℕ) → ℕ
loaded_nodes g h c = pictured_in (loaded (stops g h) (stops g c)) (replay g c)

-- those of the cells of a request that are run, over this graph
abbrev pub made_by_cells : Graph → Request → ℕ
made_by_cells g q = made_in newest_profile (ran_in q (replay g g.head.commit)) (replay g g.head.commit)

-- Where a state is too large the cells were run, and the head's pictures are loaded anew. No other refused request makes any.
abbrev pub made_at_refusal : Graph → Request → Refusal → ℕ
made_at_refusal g q bad_request = 0
made_at_refusal g q cell_too_long = 0
made_at_refusal g q no_such_ref = 0
made_at_refusal g q bad_name = 0
made_at_refusal g q name_taken = 0
made_at_refusal g q store_full = 0
made_at_refusal g q (state_too_large bytes) = made_by_cells g q + opened_nodes g g.head.commit

abbrev pub made_at : Graph → Request → Answer → ℕ
made_at g q (ran_cell commit count report) = made_by_cells g q
made_at g q (ran_cells commit results) = made_by_cells g q
made_at g q (checked_out commit branch) = loaded_nodes g g.head.commit commit
made_at g q (branched commit title) = 0
made_at g q (logged branches path) = 0
made_at g q (told_status s) = 0
made_at g q (inspected commit names nodes) = 0
made_at g q (told_stored commit dropped new) = 0
made_at g q (told_plan commit drop keep load) = 0
made_at g q (refused r) = made_at_refusal g q r

-- by one step
abbrev pub made_by : Graph → Request → ℕ
made_by g q = made_at g q (step g q).answer
