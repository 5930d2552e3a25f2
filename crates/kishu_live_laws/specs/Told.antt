-- Where a session is attached to a good store, what is told of its cells by the head's table is what they leave; so just those are run that end well and leave no state that is too large.
use Rattle.std.specs.Prelude.{◌≡◌, ◌+◌, ◌&&◌, ℕ, not, nat_lt, Bool, if◌then◌else◌, List, [], ◌∷◌, ◌++◌, length, filter, Some, refl}
use Rattle.std.specs.List.{sum_by}
use Rattle.std.proofs.Common.{ap, sym, ◌∙◌, subst}
use Rattle.kishu_meaning.specs.cells.Meaning.{run}
use Rattle.kishu_meaning.specs.values.Values.{State}
use Rattle.kishu_objects.specs.Bytes.{picture_bytes, state_bytes}
use Rattle.kishu_objects.specs.Groups.{groups_of}
use Rattle.kishu_objects.specs.Lists.{In}
use Rattle.kishu_objects.specs.Picture.{picture}
use Rattle.kishu_objects.specs.Sizes.{size, size_among, most_bytes}
use Rattle.kishu_objects.specs.States.{IsSoundState}
use Rattle.kishu_objects_laws.specs.ListLaws.{filter_in}
use Rattle.kishu_store.specs.Graph.{Graph}
use Rattle.kishu_store.specs.Limits.{newest_profile}
use Rattle.kishu_replay.specs.Replay.{after_cells, replay}
use Rattle.kishu_history.specs.Accessed.{accessed_by}
use Rattle.kishu_history.specs.Changed.{Group}
use Rattle.kishu_history.specs.Good.{IsAttached}
use Rattle.kishu_history.specs.Paths.{stops, AreRows}
use Rattle.kishu_history.specs.Tables.{Row, Table, Change, group_in, groups_in, bytes_in, IsRight}
use Rattle.kishu_history.specs.Touched.{holds_any, untouched, classes}
use Rattle.kishu_history_laws.specs.Choices.{filter_map, in_map, not_false}
use Rattle.kishu_history_laws.specs.cells.LeavesLaws.{kept_after}
use Rattle.kishu_history_laws.specs.checkouts.PlaceLaws.{stored_len}
use Rattle.kishu_history_laws.specs.states.SameLaws.{same_groups}
use Rattle.kishu_history_laws.specs.stores.ReplayLaws.{good_table}
use Rattle.kishu_history_laws.specs.tables.SplitLaws.{rows_take}
use Rattle.kishu_history_laws.specs.versions.PathLaws.{end_replay}
use Rattle.kishu_session_laws.specs.CellLaws.{cells_keep, cells_leave, replays_are_states, replay_is_state, size_after_cells}
use Rattle.kishu_model.specs.requests.Cells.{cells_run, is_ok}
use Rattle.kishu_live_laws.specs.OnStates.{left_size, go_on, run_behind, run_of, head_rows}

-- what these cells and one more leave
after_one_more : (before : List (List ℕ)) (text : List ℕ) (s : State) → after_cells newest_profile (before ++ text ∷ []) s ≡ (run newest_profile text (after_cells newest_profile before s)).state
after_one_more [] text s = refl
after_one_more (b ∷ before) text s = after_one_more before text (run newest_profile b s).state

module _ (file : List ℕ) (of : ℕ → Change) (s : State) (g : Graph) (rows : AreRows of) (attached : IsAttached file g of s) where
  abbrev head : State
  head = replay g g.head.commit

  abbrev table : Table
  table = head_rows of g

  pub is_state : IsSoundState s
  is_state = attached.told.state

  right : IsRight (stops g g.head.commit) table
  right = good_table file g.commits of rows attached.good (replays_are_states g) g.head.commit attached.head

  -- The head's table has just the groups of the live state.
  pub table_groups : groups_in table ≡ groups_of s
  table_groups =
      right.groups
      ∙ ap groups_of (end_replay g g.head.commit)
      ∙ sym (same_groups s head is_state (replay_is_state g g.head.commit) attached.same)

  -- ---- how much cells leave

  module _ (cells : List (List ℕ)) where
    abbrev left : State
    left = after_cells newest_profile cells s

    abbrev accessed : List (List ℕ)
    accessed = accessed_by newest_profile cells s

    abbrev takes : Group → ℕ
    takes g = length (picture_bytes left g)

    -- A row without an accessed name has its picture still.
    row_takes : (r : Row) → In r (untouched table accessed) → r.len ≡ takes r.group
    row_takes r m =
        let f = filter_in (λ (r : Row). not (holds_any accessed r.group)) table r m in
        let one = subst (λ (gs : List Group). In r.group gs) table_groups (in_map group_in table r f.0) in
        let kept = kept_after accessed s left is_state (cells_keep newest_profile cells s is_state) (cells_leave newest_profile cells s is_state) in
        let still = kept.still r.group one (not_false (holds_any accessed r.group) f.1) in
        sym (ap (λ (p : State). length (state_bytes p)) still.1 ∙ stored_len (Some file) r (picture s r.group) (attached.told.pictures r f.0))

    others_take : bytes_in (untouched table accessed) ≡ size_among (filter (λ (g : Group). not (holds_any accessed g)) (groups_of s)) left
    others_take =
        rows_take takes (untouched table accessed) row_takes
        ∙ ap (sum_by takes) (sym (filter_map group_in (λ (g : Group). not (holds_any accessed g)) table) ∙ ap (filter (λ (g : Group). not (holds_any accessed g))) table_groups)

    pub told_size : left_size table cells s ≡ size left
    told_size =
        ap (λ (n : ℕ). n + size_among (classes (groups_in table) accessed left) left) others_take
        ∙ ap (λ (gs : List Group). size_among (filter (λ (g : Group). not (holds_any accessed g)) (groups_of s)) left + size_among (classes gs accessed left) left) table_groups
        ∙ sym (size_after_cells newest_profile cells s is_state)

  -- ---- which cells are run

  module _ (before : List (List ℕ)) (text : List ℕ) where
    abbrev now : State
    now = after_cells newest_profile before s

    told_next : left_size table (before ++ text ∷ []) s ≡ size (run newest_profile text now).state
    told_next = told_size (before ++ text ∷ []) ∙ ap size (after_one_more before text s)

    goes_alike : go_on table before text s ≡ (is_ok (run newest_profile text now).report.outcome && not (nat_lt most_bytes (size (run newest_profile text now).state)))
    goes_alike = ap (λ (n : ℕ). is_ok (run newest_profile text now).report.outcome && not (nat_lt most_bytes n)) told_next

  behind_told : (before texts : List (List ℕ)) → run_behind table before texts s ≡ cells_run newest_profile texts (after_cells newest_profile before s)
  behind_told before [] = refl
  behind_told before (text ∷ texts) =
      let now = after_cells newest_profile before s in
      let next = (run newest_profile text now).state in
      ap (λ (b : Bool). text ∷ (if b then run_behind table (before ++ text ∷ []) texts s else [])) (goes_alike before text)
      ∙ ap (λ (l : List (List ℕ)). text ∷ (if is_ok (run newest_profile text now).report.outcome && not (nat_lt most_bytes (size next)) then l else []))
      (behind_told (before ++ text ∷ []) texts ∙ ap (cells_run newest_profile texts) (after_one_more before text s))

  pub ran_told : (texts : List (List ℕ)) → run_of table texts s ≡ cells_run newest_profile texts s
  ran_told texts = behind_told [] texts
