-- The commit whose table a request may read is there; and on a good file each of its rows has a picture that may be loaded.
use Rattle.std.proofs.Common.{◌≡◌, ◌≤◌, ◌<◌, Bool, true, false, if◌then◌else◌, ℕ, List, Option, Some, None, refl, sym, subst, arith}
use Rattle.std.specs.Prelude.{nat_le, not}
use Rattle.std.proofs.lemmas.Bool.Decides.{nat_tests}
use Rattle.kishu_host.specs.Host as host
use Rattle.kishu_store.specs.Entries.{move}
use Rattle.kishu_store.specs.Graph.{Graph, Target, newest, with_head}
use Rattle.kishu_store.specs.Histories.{History, head_table, table_to}
use Rattle.kishu_store.specs.Holds.{Holds, history_by}
use Rattle.kishu_store.specs.Limits.{most_records}
use Rattle.kishu_store.specs.References.{resolve}
use Rattle.kishu_store.specs.Tables.{Change, Row, change_of}
use Rattle.kishu_store_laws.specs.GraphLaws.{IsGraph, changed-graph}
use Rattle.kishu_store_laws.specs.Laws.{ends-gives, ends-holds, history-graph, one_changes}
use Rattle.kishu_replay.specs.Replay.{replay}
use Rattle.kishu_objects.specs.Lists.{In}
use Rattle.kishu_objects.specs.Picture.{picture}
use Rattle.kishu_objects_laws.specs.ListLaws.{filter_in}
use Rattle.kishu_history.specs.Checkout.{is_row_of}
use Rattle.kishu_history.specs.Good.{IsGoodStore}
use Rattle.kishu_history_laws.specs.tables.FileLaws.{changes_are_rows}
use Rattle.kishu_live_laws.specs.Loads.{good_loads}
use Rattle.kishu_model.specs.declared.request.Request as rust
use Rattle.kishu_model.specs.Answers.{store_full}
use Rattle.kishu_model.specs.Values.{request_of}
use Rattle.kishu_model.specs.Request.{Request, cell, cells, checkout, branch, log, status, inspect, stored, plan, unreadable, refused_with}
use Rattle.kishu_model.specs.requests.Checkout.{checkout_to, went_to}
use Rattle.kishu_checkout.specs.Pictures.{HasEach}
use Rattle.kishu_session.specs.Applying.{LacksHere}
use Rattle.kishu_session.specs.Attached.{IsAttached}
use Rattle.kishu_session.specs.Ends.{at-end-behind}
use Rattle.kishu_session.specs.Moves.{move_to}
use Rattle.kishu_session.specs.Prepared.{LacksFor}
use Rattle.kishu_session.specs.Reading.{reads_at, rows_read}
use Rattle.kishu_session.specs.declared.session.Session.{Session}
use Rattle.kishu_session.proofs.MoveSteps.{resolved-reaches}

-- ---- the commit is there

module _ (g : Graph) (good : IsGraph g) where
  -- where a checkout goes
  target-there : (to : List ℕ) (t : Target) → resolve g to ≡ Some t → g.records < most_records → t.commit ≤ newest g
  target-there to t is room =
      let reaches = resolved-reaches g to t is in
      let now : IsGraph (with_head t g) = subst IsGraph reaches.changed_is
      (changed-graph g (move (move_to t)) (record { room = room; goes_on = reaches.goes_on }) good) in
      now.head.there

  went-there : (to : List ℕ) (t : Target) → resolve g to ≡ Some t → (b : Bool) → nat_le most_records g.records ≡ b
      → (if b then refused_with store_full g else went_to t g).graph.head.commit ≤ newest g
  went-there to t is true full = good.head.there
  went-there to t is false room = target-there to t is (grind (arith, nat_tests, room))

  checkout-there : (to : List ℕ) (o : Option Target) → resolve g to ≡ o → (checkout_to o g).graph.head.commit ≤ newest g
  checkout-there to None is = good.head.there
  checkout-there to (Some t) is = went-there to t is (nat_le most_records g.records) refl

  pub reads-there : (q : Request) → reads_at g q ≤ newest g
  reads-there unreadable = good.head.there
  reads-there (cell text) = good.head.there
  reads-there (cells texts) = good.head.there
  reads-there (checkout to) = checkout-there to (resolve g to) refl
  reads-there (branch title at) = good.head.there
  reads-there log = good.head.there
  reads-there status = good.head.there
  reads-there inspect = good.head.there
  reads-there (stored of) = good.head.there
  reads-there (plan to) = good.head.there

-- The rows whose pictures it reads are of that commit's table.
read-row : (h : History) (q : Request) (r : Row) → In r (rows_read h q) → In r (table_to h (reads_at h.graph q))
read-row h unreadable r m = m
read-row h (cell text) r m = m
read-row h (cells texts) r m = m
read-row h (checkout to) r m = (filter_in (λ x. not (is_row_of (head_table h) x)) (table_to h (reads_at h.graph (checkout to))) r m).0
read-row h (branch title at) r m = m
read-row h log r m = m
read-row h status r m = m
read-row h inspect r m = m
read-row h (stored of) r m = m
read-row h (plan to) r m = m

-- ---- no picture is lacking where a session is attached

module _ (session : Session) (s : host.State) (ask : rust.Request) (at : ℕ) (lacks : LacksFor session.head.graph s (request_of ask) at) where
  abbrev q : Request
  q = request_of ask

  never-lacks : s.tells ≡ true → (g : Graph) → IsAttached session s g → ⊥
  never-lacks told g a =
      let b = at-end-behind session s g a.at_end in
      let h = history_by b.found in
      let c = reads_at h.graph q in
      let rows = changes_are_rows h.graph h.changes h.place b.kept.good.changes in
      let changes : a.changes ≡ h.changes = one_changes s.file a.changes h.changes a.gives (ends-gives s.file b.found b.at.ends) in
      let store : IsGoodStore s.file h.graph.commits (change_of h.changes) =
      subst (λ (x : Graph). IsGoodStore s.file x.commits (change_of h.changes)) (sym b.graph)
      (subst (λ (cs : List Change). IsGoodStore s.file g.commits (change_of cs)) changes a.states.good) in
      let holds : Holds s.file h.graph = subst (λ (x : Graph). Holds s.file x) (sym (history-graph b.found)) (ends-holds s.file b.found b.at.ends) in
      let each : HasEach s.file (table_to h c) = λ row m. (
        picture (replay h.graph c) row.group,
        good_loads s.file h.graph (change_of h.changes) rows store holds c
            (reads-there h.graph b.kept.good.graph q) row m,
      ) in
      (lacks h b.kept).1.some told (λ row m. each row (read-row h q row m))

  pub lacks-here : LacksHere session s ask at
  lacks-here = record { lacks = λ h kept. ((lacks h kept).0, (lacks h kept).1.lacks); never = never-lacks }
