-- How many bytes the pictures take of the groups that a cell touched and that pass a test by their pictures before it and after it: as many in states that are the same.
use Rattle.std.specs.Prelude.{◌≡◌, ◌&&◌, ⊤, ℕ, Bool, List, length, filter, Contains}
use Rattle.std.specs.List.{sum_by}
use Rattle.std.proofs.Common.{ap, ◌∙◌}
use Rattle.std.proofs.Math.Path.{fun_ext}
use Rattle.kishu_meaning.specs.cells.Meaning.{run}
use Rattle.kishu_meaning.specs.values.Values.{Ran, State}
use Rattle.kishu_objects.specs.Bytes.{picture_bytes, state_bytes}
use Rattle.kishu_objects.specs.Groups.{groups, groups_of}
use Rattle.kishu_objects.specs.Same.{Same}
use Rattle.kishu_objects.specs.Sizes.{size_among}
use Rattle.kishu_objects.specs.States.{IsSoundState}
use Rattle.kishu_objects_laws.specs.GroupLaws.{groups_same}
use Rattle.kishu_objects_laws.specs.SameLaws.{same_fewer}
use Rattle.kishu_pairing_laws.specs.runs.PairedRuns.{same_runs}
use Rattle.kishu_pairing_laws.specs.runs.SoundRuns.{run_is_state}
use Rattle.kishu_store.specs.Graph.{Graph}
use Rattle.kishu_store.specs.Limits.{newest_profile}
use Rattle.kishu_replay.specs.Replay.{replay}
use Rattle.kishu_history.specs.Changed.{Group, is_one_of}
use Rattle.kishu_history.specs.Good.{IsAttached}
use Rattle.kishu_history.specs.Paths.{AreRows}
use Rattle.kishu_history.specs.Tables.{Change, groups_in}
use Rattle.kishu_history.specs.Touched.{is_touched, touched, classes}
use Rattle.kishu_history_laws.specs.states.SameLaws.{same_groups, same_listed, same_pictures}
use Rattle.kishu_session_laws.specs.CellLaws.{replay_is_state}
use Rattle.kishu_live_laws.specs.OnStates.{head_rows}
use Rattle.kishu_live_laws.specs.Told.{table_groups}

-- a test of the bytes of a group's picture before and after
abbrev pub Test : Type 0
Test = List ℕ → List ℕ → Bool

-- From groups that a state had, and what a run left of it: the classes of the touched names that are among them and pass the test.
abbrev pub passing : Test → List Group → State → Ran → List Group
passing test gs before ran = filter (λ g. is_one_of g gs && test (picture_bytes before g) (picture_bytes ran.state g)) (classes gs ran.accessed ran.state)

-- the bytes of their pictures
abbrev pub bytes_after : Test → List Group → State → Ran → ℕ
bytes_after test gs before ran = size_among (passing test gs before ran) ran.state

-- those of a cell on a state
abbrev pub bytes_by : Test → List Group → State → List ℕ → ℕ
bytes_by test gs s text = bytes_after test gs s (run newest_profile text s)

-- ---- states that are the same

module _ (s t : State) (here : IsSoundState s) (there : IsSoundState t) (same : Same s t) where
  pub pictures_alike : picture_bytes s ≡ picture_bytes t
  pictures_alike = fun_ext (λ (g : Group). ap state_bytes (same_pictures s t here there same g))

  touched_alike : (gs : List Group) (a : List (List ℕ)) → touched gs a s ≡ touched gs a t
  touched_alike gs a = ap (filter (is_touched gs a)) (same_listed s t here there same)

  pub classes_alike : (gs : List Group) (a : List (List ℕ)) → classes gs a s ≡ classes gs a t
  classes_alike gs a =
      groups_same s t here.sound there.sound (touched gs a s) (same_fewer (λ x. Contains (touched gs a s) x) (λ x. ⊤) s t (λ x m. tt) same)
      ∙ ap (groups t) (touched_alike gs a)

module _ (text : List ℕ) (s t : State) (here : IsSoundState s) (there : IsSoundState t) (same : Same s t) (test : Test) (gs : List Group) where
  abbrev ran_here : Ran
  ran_here = run newest_profile text s

  abbrev ran_there : Ran
  ran_there = run newest_profile text t

  -- by the pictures before and after, and the classes
  abbrev takes : (before after : Group → List ℕ) → List Group → ℕ
  takes before after cs = sum_by (λ g. length (after g)) (filter (λ g. is_one_of g gs && test (before g) (after g)) cs)

  pub bytes_alike : bytes_by test gs s text ≡ bytes_by test gs t text
  bytes_alike =
      let alike = same_runs newest_profile text s t here there same in
      let u = ran_here.state in
      let v = ran_there.state in
      let left = run_is_state newest_profile text s here in
      let right = run_is_state newest_profile text t there in
      ap (λ (before : Group → List ℕ). takes before (picture_bytes u) (classes gs ran_here.accessed u)) (pictures_alike s t here there same)
      ∙ ap (λ (after : Group → List ℕ). takes (picture_bytes t) after (classes gs ran_here.accessed u)) (pictures_alike u v left right alike.states)
      ∙ ap (λ (a : List (List ℕ)). takes (picture_bytes t) (picture_bytes v) (classes gs a u)) alike.accessed
      ∙ ap (takes (picture_bytes t) (picture_bytes v)) (classes_alike u v left right alike.states gs ran_there.accessed)

-- ---- the state of a session that is attached to a good store, and the replay of the head

module _ (file : List ℕ) (of : ℕ → Change) (s : State) (g : Graph) (rows : AreRows of) (attached : IsAttached file g of s) (text : List ℕ) (test : Test) where
  abbrev head : State
  head = replay g g.head.commit

  -- by the head's table, and by the replay
  pub bytes_here : bytes_by test (groups_in (head_rows of g)) s text ≡ bytes_by test (groups_of head) head text
  bytes_here =
      let here = attached.told.state in
      let there = replay_is_state g g.head.commit in
      ap (λ (gs : List Group). bytes_by test gs s text) (table_groups file of s g rows attached ∙ same_groups s head here there attached.same)
      ∙ bytes_alike text s head here there attached.same test (groups_of head)
