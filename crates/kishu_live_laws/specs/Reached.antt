-- How many nodes the names reach that a cell touched: as many in states that are the same.
use Rattle.std.specs.Prelude.{◌≡◌, ◌<◌, ℕ, List, length, filter}
use Rattle.std.proofs.Common.{ap, sym, subst, ◌∙◌}
use Rattle.kishu_meaning.specs.cells.Meaning.{run}
use Rattle.kishu_meaning.specs.values.Values.{Ran, State}
use Rattle.kishu_objects.specs.Groups.{groups_of}
use Rattle.kishu_objects.specs.Picture.{order}
use Rattle.kishu_objects.specs.Same.{Same}
use Rattle.kishu_objects.specs.States.{IsSoundState}
use Rattle.kishu_objects_laws.specs.OwnPictureLaws.{rows_length}
use Rattle.kishu_pairing_laws.specs.runs.PairedRuns.{same_runs}
use Rattle.kishu_pairing_laws.specs.runs.SoundRuns.{run_is_state}
use Rattle.kishu_store.specs.Graph.{Graph, newest}
use Rattle.kishu_store.specs.Limits.{newest_profile}
use Rattle.kishu_replay.specs.Replay.{replay}
use Rattle.kishu_history.specs.Changed.{Group}
use Rattle.kishu_history.specs.Good.{IsAttached}
use Rattle.kishu_history.specs.Paths.{AreRows}
use Rattle.kishu_history.specs.Tables.{Change, groups_in}
use Rattle.kishu_history.specs.Touched.{is_touched, touched}
use Rattle.kishu_history_laws.specs.states.SameLaws.{same_groups, same_listed, same_pictures}
use Rattle.kishu_model.specs.Request.{cell}
use Rattle.kishu_model.specs.Serve.{after}
use Rattle.kishu_session_laws.specs.CellLaws.{replay_is_state}
use Rattle.kishu_live_laws.specs.AtHead.{after_here}
use Rattle.kishu_live_laws.specs.CellsAlike.{steps_alike}
use Rattle.kishu_live_laws.specs.OnStates.{head_rows, state_on}
use Rattle.kishu_live_laws.specs.Outcomes.{more_state, when_more}
use Rattle.kishu_live_laws.specs.Told.{table_groups}

-- Where the state had these groups, the nodes that the names reach after a cell that it touched.
abbrev pub reached_after : List Group → Ran → ℕ
reached_after gs ran = length (order ran.state (touched gs ran.accessed ran.state))

-- those of a cell on a state
abbrev pub reached_by : List Group → State → List ℕ → ℕ
reached_by gs s text = reached_after gs (run newest_profile text s)

-- ---- states that are the same

orders_alike : (s t : State) → IsSoundState s → IsSoundState t → Same s t → (names : List (List ℕ)) → length (order s names) ≡ length (order t names)
orders_alike s t here there same names =
    sym (rows_length s here.sound names)
    ∙ ap (λ (p : State). length p.nodes) (same_pictures s t here there same names)
    ∙ rows_length t there.sound names

module _ (text : List ℕ) (s t : State) (here : IsSoundState s) (there : IsSoundState t) (same : Same s t) (gs : List Group) where
  abbrev ran_here : Ran
  ran_here = run newest_profile text s

  abbrev ran_there : Ran
  ran_there = run newest_profile text t

  pub reached_alike : reached_by gs s text ≡ reached_by gs t text
  reached_alike =
      let alike = same_runs newest_profile text s t here there same in
      let u = ran_here.state in
      let v = ran_there.state in
      let left = run_is_state newest_profile text s here in
      let right = run_is_state newest_profile text t there in
      ap (λ (a : List (List ℕ)). length (order u (touched gs a u))) alike.accessed
      ∙ ap (λ (l : List (List ℕ)). length (order u (filter (is_touched gs ran_there.accessed) l))) (same_listed u v left right alike.states)
      ∙ orders_alike u v left right alike.states (touched gs ran_there.accessed v)

-- ---- the state of a session that is attached to a good store, and the replay of the head

module _ (file : List ℕ) (of : ℕ → Change) (s : State) (g : Graph) (rows : AreRows of) (attached : IsAttached file g of s) (text : List ℕ) where
  abbrev head : State
  head = replay g g.head.commit

  -- by the head's table, and by the replay
  pub reached_here : reached_by (groups_in (head_rows of g)) s text ≡ reached_by (groups_of head) head text
  reached_here =
      let here = attached.told.state in
      let there = replay_is_state g g.head.commit in
      ap (λ (gs : List Group). reached_by gs s text) (table_groups file of s g rows attached ∙ same_groups s head here there attached.same)
      ∙ reached_alike text s head here there attached.same (groups_of head)

  pub charge_alike : (run newest_profile text s).charge ≡ (run newest_profile text head).charge
  charge_alike = steps_alike newest_profile text s head attached.told.state (replay_is_state g g.head.commit) attached.same

  -- The live state is then what the cell left, where it was committed.
  pub cell_left : newest g < newest (after g (cell text)) → state_on of s g (cell text) ≡ (run newest_profile text s).state
  cell_left more =
      more_state of s g (cell text) (when_more of s g (cell text)
      (subst (λ (h : Graph). newest g < newest h) (sym (after_here file of s g rows attached (cell text))) more))
