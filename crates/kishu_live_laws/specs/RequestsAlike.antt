-- In a session that is attached to a good store a request gives just what one step of the machine gives that replays each commit: its cells can't tell the live state from the replay of the head, and what they leave is told by the head's table.
use Rattle.std.specs.Prelude.{◌≡◌, ◌||◌, ℕ, suc, min, nat_le, nat_lt, if◌then◌else◌, List, [], ◌∷◌, length, Option, Some, None, refl}
use Rattle.std.specs.List.{list_any}
use Rattle.std.proofs.Common.{ap, ◌∙◌, subst}
use Rattle.kishu_language.specs.Limits.{longest_text}
use Rattle.kishu_meaning.specs.values.Values.{Report, State}
use Rattle.kishu_objects.specs.Same.{Same}
use Rattle.kishu_objects.specs.Sizes.{size, most_bytes}
use Rattle.kishu_objects.specs.States.{IsSoundState}
use Rattle.kishu_pairing_laws.specs.runs.CellsInRow.{same_after, cells_are_state}
use Rattle.kishu_history.specs.Good.{IsAttached}
use Rattle.kishu_history.specs.Paths.{AreRows}
use Rattle.kishu_history_laws.specs.cells.GroupsAfter.{same_size}
use Rattle.kishu_session_laws.specs.CellLaws.{replay_is_state}
use Rattle.kishu_replay.specs.Replay.{after_cells, charge_in, replay}
use Rattle.kishu_store.specs.Graph.{Graph, Target, newest, with_commit, count_of}
use Rattle.kishu_store.specs.Holds.{Holds}
use Rattle.kishu_store.specs.Limits.{most_records, newest_profile}
use Rattle.kishu_store.specs.References.{resolve}
use Rattle.kishu_store.specs.Tables.{Table, Change, no_change}
use Rattle.kishu_model.specs.Answers.{Answer, Counted, ran_cell, ran_cells, told_status, cell_too_long, state_too_large, store_full}
use Rattle.kishu_model.specs.Request.{Request, cell, cells, checkout, branch, log, status, inspect, stored, plan, unreadable, Stepped, refused_with}
use Rattle.kishu_model.specs.Step.{step, charge_of}
use Rattle.kishu_model.specs.requests.Cell.{committed}
use Rattle.kishu_model.specs.requests.Cells.{cells_run, cells_committed, is_too_long, results_from}
use Rattle.kishu_model.specs.requests.Stored.{stored_of}
use Rattle.kishu_model.specs.requests.Plan.{plan_of}
use Rattle.kishu_model.specs.requests.TooLarge.{most_told}
use Rattle.kishu_live_laws.specs.CellsAlike.{report_alike, steps_alike, told_alike, names_alike, ran_alike, shown_alike, charge_alike}
use Rattle.kishu_live_laws.specs.OnStates.{ran_by, run_of, left_of, left_size, head_rows, cell_kept, cells_kept, stored_to, plan_to, step_on, after_on, charge_on}
use Rattle.kishu_live_laws.specs.PlansAlike.{plan_alike}
use Rattle.kishu_live_laws.specs.Replays.{ran_in, left_in}
use Rattle.kishu_live_laws.specs.StoredAlike.{stored_alike}
use Rattle.kishu_live_laws.specs.Told.{is_state, ran_told, told_size}

-- what a step gives whose cells leave so many bytes
abbrev unless_more : ℕ → Graph → Stepped → Stepped
unless_more n g kept = if nat_lt most_bytes n then refused_with (state_too_large (min n most_told)) g else kept

unless_alike : (n m : ℕ) (g : Graph) (a b : Stepped) → n ≡ m → a ≡ b → unless_more n g a ≡ unless_more m g b
unless_alike n m g a b sizes kept =
    ap (λ (k : ℕ). unless_more k g a) sizes
    ∙ ap (λ (x : Stepped). unless_more m g x) kept

pub left_of_sound : (t : Table) (q : Request) (s : State) → IsSoundState s → IsSoundState (left_of t q s)
left_of_sound t q s here = cells_are_state newest_profile (ran_by t q s) s here

module _ (file : List ℕ) (of : ℕ → Change) (s : State) (g : Graph) (rows : AreRows of) (attached : IsAttached file g of s) where
  abbrev head : State
  head = replay g g.head.commit

  abbrev table : Table
  table = head_rows of g

  here : IsSoundState s
  here = is_state file of s g rows attached

  there : IsSoundState head
  there = replay_is_state g g.head.commit

  same : Same s head
  same = attached.same

  -- ---- what cells leave

  -- Cells leave as much as on the replay.
  sizes_alike : (ran : List (List ℕ)) → left_size table ran s ≡ size (after_cells newest_profile ran head)
  sizes_alike ran =
      told_size file of s g rows attached ran
      ∙ same_size (after_cells newest_profile ran s) (after_cells newest_profile ran head) (cells_are_state newest_profile ran s here) (cells_are_state newest_profile ran head there) (same_after newest_profile ran s head here there same)

  -- The cells of a request that are run are those that are run on the replay.
  run_alike : (texts : List (List ℕ)) → run_of table texts s ≡ cells_run newest_profile texts head
  run_alike texts = ran_told file of s g rows attached texts ∙ ran_alike newest_profile texts s head here there same

  pub ran_by_told : (q : Request) → ran_by table q s ≡ ran_in q s
  ran_by_told unreadable = refl
  ran_by_told (cell text) = refl
  ran_by_told (cells texts) = ran_told file of s g rows attached texts
  ran_by_told (checkout to) = refl
  ran_by_told (branch name at) = refl
  ran_by_told log = refl
  ran_by_told status = refl
  ran_by_told inspect = refl
  ran_by_told (stored to) = refl
  ran_by_told (plan to) = refl

  pub ran_by_alike : (q : Request) → ran_by table q s ≡ ran_in q head
  ran_by_alike unreadable = refl
  ran_by_alike (cell text) = refl
  ran_by_alike (cells texts) = run_alike texts
  ran_by_alike (checkout to) = refl
  ran_by_alike (branch name at) = refl
  ran_by_alike log = refl
  ran_by_alike status = refl
  ran_by_alike inspect = refl
  ran_by_alike (stored to) = refl
  ran_by_alike (plan to) = refl

  pub left_of_alike : (q : Request) → Same (left_of table q s) (left_in q head)
  left_of_alike q = subst (λ (l : List (List ℕ)). Same (left_of table q s) (after_cells newest_profile l head)) (ran_by_alike q) (same_after newest_profile (ran_by table q s) s head here there same)

  -- ---- a cell

  cell_alike : (text : List ℕ) → step_on of s g (cell text) ≡ step g (cell text)
  cell_alike text =
      let kept : cell_kept of s g text ≡ committed text g =
      ap (λ (r : Report). record { graph = with_commit newest_profile (text ∷ []) g; answer = ran_cell (suc (newest g)) (suc (count_of g g.head.commit)) r }) (report_alike newest_profile text s head here there same) in
      ap (λ (x : Stepped). if nat_lt longest_text (length text) then refused_with cell_too_long g else if nat_le most_records g.records then refused_with store_full g else x)
      (unless_alike (left_size table (text ∷ []) s) (size (left_in (cell text) head)) g (cell_kept of s g text) (committed text g) (sizes_alike (text ∷ [])) kept)

  -- ---- several cells

  module _ (texts : List (List ℕ)) where
    abbrev ran : List (List ℕ)
    ran = run_of table texts s

    abbrev kept_of : List (List ℕ) → List Counted → Stepped
    kept_of ran results = record { graph = with_commit newest_profile ran g; answer = ran_cells (suc (newest g)) results }

    -- with what they show
    abbrev shown_on : State → List (List ℕ) → List Counted
    shown_on u ran = results_from (suc (count_of g g.head.commit)) newest_profile ran u

    cells_kept_alike : cells_kept of s g texts ≡ cells_committed texts g
    cells_kept_alike =
        ap (kept_of ran) (shown_alike (suc (count_of g g.head.commit)) newest_profile ran s head here there same)
        ∙ ap (λ (l : List (List ℕ)). kept_of l (shown_on head l)) (run_alike texts)

    cells_sizes : left_size table ran s ≡ size (left_in (cells texts) head)
    cells_sizes = sizes_alike ran ∙ ap (λ (l : List (List ℕ)). size (after_cells newest_profile l head)) (run_alike texts)

    cells_charge : charge_in newest_profile ran s ≡ charge_in newest_profile (cells_run newest_profile texts head) head
    cells_charge = charge_alike newest_profile ran s head here there same ∙ ap (λ (l : List (List ℕ)). charge_in newest_profile l head) (run_alike texts)

  cells_alike : (texts : List (List ℕ)) → step_on of s g (cells texts) ≡ step g (cells texts)
  cells_alike [] = refl
  cells_alike (text ∷ texts) =
      let ts = text ∷ texts in
      ap (λ (x : Stepped). if list_any is_too_long ts then refused_with cell_too_long g else if nat_le most_records g.records then refused_with store_full g else x)
      (unless_alike (left_size table (run_of table ts s) s) (size (left_in (cells ts) head)) g (cells_kept of s g ts) (cells_committed ts g) (cells_sizes ts) (cells_kept_alike ts))

  -- ---- every request

  -- The answers to `stored` and `plan` want besides that the commits are there that references name.
  abbrev IsTold : Request → Type 0
  IsTold q = step_on of s g q ≡ step g q

  step_alike : ((to : List ℕ) → IsTold (stored to) × IsTold (plan to)) → (q : Request) → IsTold q
  step_alike told unreadable = refl
  step_alike told (cell text) = cell_alike text
  step_alike told (cells texts) = cells_alike texts
  step_alike told (checkout to) = refl
  step_alike told (branch name at) = refl
  step_alike told log = refl
  step_alike told status =
      ap (λ (names : List (List ℕ)). record { graph = g; answer = told_status (record { branch = g.head.branch; commit = g.head.commit; commits = suc (newest g); names = names; records = g.records }) })
      (names_alike s head here there same)
  step_alike told inspect = ap (λ (a : Answer). record { graph = g; answer = a }) (told_alike s head here there same g.head.commit)
  step_alike told (stored to) = (told to).0
  step_alike told (plan to) = (told to).1

  pub step_here : Holds file g → of 0 ≡ no_change → (q : Request) → step_on of s g q ≡ step g q
  step_here holds root q = step_alike (λ to. (stored_alike file g of attached.good root holds to, plan_alike file g of rows attached.good attached.head holds to)) q

  stored_still : (o : Option Target) → (stored_to of o g).graph ≡ (stored_of o g).graph
  stored_still None = refl
  stored_still (Some t) = refl

  plan_still : (o : Option Target) → (plan_to of o g).graph ≡ (plan_of o g).graph
  plan_still None = refl
  plan_still (Some t) = refl

  pub after_here : (q : Request) → after_on of s g q ≡ (step g q).graph
  after_here unreadable = refl
  after_here (cell text) = ap (λ (x : Stepped). x.graph) (cell_alike text)
  after_here (cells texts) = ap (λ (x : Stepped). x.graph) (cells_alike texts)
  after_here (checkout to) = refl
  after_here (branch name at) = refl
  after_here log = refl
  after_here status = refl
  after_here inspect = refl
  after_here (stored to) = stored_still (resolve g to)
  after_here (plan to) = plan_still (resolve g to)

  cells_charge_alike : (texts : List (List ℕ)) → charge_on of s g (cells texts) ≡ charge_of g (cells texts)
  cells_charge_alike [] = refl
  cells_charge_alike (text ∷ texts) =
      ap (λ (n : ℕ). if list_any is_too_long (text ∷ texts) then 0 else if nat_le most_records g.records then 0 else n)
      (cells_charge (text ∷ texts))

  pub charge_here : (q : Request) → charge_on of s g q ≡ charge_of g q
  charge_here unreadable = refl
  charge_here (cell text) = ap (λ (n : ℕ). if nat_lt longest_text (length text) || nat_le most_records g.records then 0 else n) (steps_alike newest_profile text s head here there same)
  charge_here (cells texts) = cells_charge_alike texts
  charge_here (checkout to) = refl
  charge_here (branch name at) = refl
  charge_here log = refl
  charge_here status = refl
  charge_here inspect = refl
  charge_here (stored to) = refl
  charge_here (plan to) = refl
