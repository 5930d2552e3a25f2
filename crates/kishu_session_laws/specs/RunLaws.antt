-- A session's cells, as they run on its live state: what is told is just what the new commit drops and stores, the session stays attached, and on every store the live state is the one that the new table tells.
use Rattle.std.specs.Prelude.{◌≡◌, ℕ, suc, List, ◌∷◌, Option}
use Rattle.std.proofs.Common.{ap, sym, ◌∙◌, subst, arith}
use Rattle.kishu_language.specs.declared.profile.Profile.{Profile}
use Rattle.kishu_meaning.specs.values.Values.{State}
use Rattle.kishu_store.specs.Graph.{Graph, newest, with_commit}
use Rattle.kishu_replay.specs.Replay.{after_cells, replay}
use Rattle.kishu_objects.specs.Picture.{picture}
use Rattle.kishu_objects.specs.Same.{Same}
use Rattle.kishu_objects.specs.Lists.{In}
use Rattle.kishu_objects.specs.States.{IsSoundState}
use Rattle.kishu_history.specs.Versions.{Stop, at_end, AreStates, Falls, stored, dropped}
use Rattle.kishu_history.specs.Tables.{Row, Table, groups_in, Change, after, IsTable, IsRight}
use Rattle.kishu_history.specs.Paths.{stops, table_at, with_change, AreRows}
use Rattle.kishu_history.specs.Accessed.{accessed_by}
use Rattle.kishu_history.specs.Touched.{dropped_among, stored_among, change_told}
use Rattle.kishu_history.specs.Live.{IsLive}
use Rattle.kishu_history.specs.Stored.{Held, Stored, KeepsRecords, AreNewRows}
use Rattle.kishu_history.specs.Sizes.{StaySmall}
use Rattle.kishu_history.specs.Good.{IsAttached}
use Rattle.kishu_history_laws.specs.versions.PathLaws.{below_in_commits, falls_in, end_replay, newest_path, rows_further}
use Rattle.kishu_history_laws.specs.cells.LiveLaws.{live_after, table_after, stored_rise}
use Rattle.kishu_history_laws.specs.stores.ReplayLaws.{cell_drops, cell_stores, good_table}
use Rattle.kishu_history_laws.specs.stores.StoreLaws.{good_is_table, table_still}
use Rattle.kishu_history_laws.specs.stores.AttachedLaws.{attached_cells}
use Rattle.kishu_pairing_laws.specs.runs.CellsInRow.{same_after}
use Rattle.kishu_session_laws.specs.CellLaws.{cells_keep, replays_are_states, replay_is_state, cells_leave, stay_small_alike}

-- ---- on every store

module _ (file : Option (List ℕ)) (t : Table) (s : State) (profile : Profile) (cells : List (List ℕ)) (rows : Table) (is : IsTable t) (live : IsLive (Stored file) t s)
    (stores : groups_in rows ≡ stored_among (groups_in t) (picture s) (accessed_by profile cells s) (after_cells profile cells s))
    (new : (r : Row) → In r rows → Stored file r (picture (after_cells profile cells s) r.group)) where
  abbrev left : State
  left = after_cells profile cells s

  pub live_by_cells : IsLive (Stored file) (after (change_told t s (accessed_by profile cells s) left rows) t) left
  live_by_cells = live_after (Stored file) t is s left live (cells_keep profile cells s live.state) (accessed_by profile cells s) (cells_leave profile cells s live.state) rows stores new

  pub table_by_cells : IsTable (after (change_told t s (accessed_by profile cells s) left rows) t)
  table_by_cells = table_after (Stored file) t is s left live (cells_keep profile cells s live.state) (accessed_by profile cells s) (cells_leave profile cells s live.state) rows stores new

-- ---- on a good store

module _ (file : List ℕ) (g : Graph) (of : ℕ → Change) (rows : AreRows of) (s : State) (attached : IsAttached file g of s) (profile : Profile) (cells : List (List ℕ)) where
  abbrev head : ℕ
  head = g.head.commit

  abbrev now : State
  now = after_cells profile cells s

  abbrev accessed : List (List ℕ)
  accessed = accessed_by profile cells s

  abbrev path : List Stop
  path = stops g head

  abbrev stop : Stop
  stop = record { commit = suc (newest g); state = after_cells profile cells (at_end path) }

  here : IsSoundState s
  here = attached.told.state

  at_path : (P : State → Type 0) → P (replay g head) → P (at_end path)
  at_path P h = subst P (sym (end_replay g head)) h

  end_is_state : IsSoundState (at_end path)
  end_is_state = at_path (λ t. IsSoundState t) (replay_is_state g head)

  same_before : Same s (at_end path)
  same_before = at_path (λ t. Same s t) attached.same

  same_now : Same now stop.state
  same_now = same_after profile cells s (at_end path) here end_is_state same_before

  all_states : AreStates (stop ∷ path)
  all_states = (cells_keep profile cells (at_end path) end_is_state, replays_are_states g head)

  all_fall : Falls (stop ∷ path)
  all_fall = ((let l = below_in_commits g.commits head in omega (arith, l)), falls_in g.commits head)

  right : IsRight path (table_at g of head)
  right = good_table file g.commits of rows attached.good (replays_are_states g) head attached.head

  -- What is told among the touched names is just what the new commit drops and stores.
  pub told_drops : dropped_among (groups_in (table_at g of g.head.commit)) (picture s) (accessed_by profile cells s) (after_cells profile cells s) ≡ dropped (stops (with_commit profile cells g) (suc (newest g)))
  told_drops =
      cell_drops path stop all_states all_fall (table_at g of head) right s now here (cells_keep profile cells s here) same_before same_now accessed (cells_leave profile cells s here)
      ∙ ap dropped (sym (newest_path profile cells g))

  pub told_stores : stored_among (groups_in (table_at g of g.head.commit)) (picture s) (accessed_by profile cells s) (after_cells profile cells s) ≡ stored (stops (with_commit profile cells g) (suc (newest g)))
  told_stores =
      cell_stores path stop all_states all_fall (table_at g of head) right s now here (cells_keep profile cells s here) same_before same_now accessed (cells_leave profile cells s here)
      ∙ ap stored (sym (newest_path profile cells g))

  module _ (grown : List ℕ) (keeps : KeepsRecords file grown (newest g) of) (new : Table) (news : AreNewRows grown (suc (newest g)) (table_at g of g.head.commit) s (accessed_by profile cells s) (after_cells profile cells s) new) where
    pub attached_by_cells : StaySmall profile cells s → IsAttached grown (with_commit profile cells g) (with_change of (suc (newest g)) (change_told (table_at g of g.head.commit) s (accessed_by profile cells s) (after_cells profile cells s) new)) (after_cells profile cells s)
    attached_by_cells small =
        attached_cells file grown g of rows (replays_are_states g) s attached keeps profile cells now
        (cells_keep profile cells s here)
        (cells_keep profile cells (replay g head) (replay_is_state g head))
        (same_after profile cells s (replay g head) here (replay_is_state g head) attached.same)
        accessed (cells_leave profile cells s here) new news.groups news.version news.held
        (stay_small_alike profile cells s (replay g head) here (replay_is_state g head) attached.same small)

    still_live : IsLive (Held grown) (table_at g of head) s
    still_live = table_still file grown g.commits of rows attached.good keeps head s attached.told

    pub rows_by_cells : AreRows (with_change of (suc (newest g)) (change_told (table_at g of g.head.commit) s (accessed_by profile cells s) (after_cells profile cells s) new))
    rows_by_cells = rows_further of rows (suc (newest g)) (change_told (table_at g of head) s accessed now new) news.version
        (stored_rise (Held grown) (table_at g of head) (good_is_table file g.commits of rows attached.good (replays_are_states g) head attached.head) s now still_live (cells_keep profile cells s here) accessed (cells_leave profile cells s here) new news.groups news.held)
