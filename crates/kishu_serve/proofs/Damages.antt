-- Pictures that a store lacks.
use Rattle.std.proofs.Common.{◌≡◌, true, not, ℕ, List, sym, subst}
use Rattle.kishu_host.specs.Host.{State}
use Rattle.kishu_store.specs.Graph.{Graph}
use Rattle.kishu_store.specs.Holds.{Holds, Gives}
use Rattle.kishu_store.specs.Histories.{History, head_table, table_to}
use Rattle.kishu_store.specs.Tables.{Row, Change, change_of, table_at}
use Rattle.kishu_objects.specs.Lists.{In}
use Rattle.kishu_objects_laws.specs.ListLaws.{filter_in}
use Rattle.kishu_history.specs.Checkout.{is_row_of}
use Rattle.kishu_model.specs.Request.{Request, cell, cells, checkout, branch, log, status, inspect, stored, plan, unreadable}
use Rattle.kishu_model.specs.Values.{request_of}
use Rattle.kishu_model.specs.declared.request.Request as rust_request
use Rattle.kishu_checkout.specs.Pictures.{LacksAt}
use Rattle.kishu_session.specs.Applying.{LacksHere}
use Rattle.kishu_session.specs.Ends.{at-end-history}
use Rattle.kishu_session.specs.Reading.{reads_at, rows_read}
use Rattle.kishu_session.specs.declared.session.Session.{Session}
use Rattle.kishu_serve.specs.Promise.{LacksPicture}
use Rattle.kishu_serve.specs.Serving.{IsOpen, EndsDamaged}

-- Where a session finds none, the file has none.
pub lacks-picture : (s : State) (file : List ℕ) (g : Graph) (cs : List Change) (commit at : ℕ) → s.tells ≡ true → file ≡ s.file → Holds s.file g → Gives s.file cs
    → LacksAt s (table_at g (change_of cs) commit) at → LacksPicture file at
lacks-picture s file g cs commit at told same holds gives lacks =
    subst (λ (f : List ℕ). LacksPicture f at) (sym same) (record {
      graph = g;
      changes = cs;
      holds = holds;
      gives = gives;
      commit = commit;
      row = lacks.row;
      there = lacks.there;
      place = lacks.place;
      none = lacks.none told;
    })

-- The rows whose pictures a request may read stand in a commit's table.
there-read : (h : History) (q : Request) (r : Row) → In r (rows_read h q) → In r (table_to h (reads_at h.graph q))
there-read h unreadable r m = m
there-read h (cell text) r m = m
there-read h (cells texts) r m = m
there-read h (checkout to) r m =
    let t = head_table h in
    (filter_in (λ (r : Row). not (is_row_of t r)) (table_to h (reads_at h.graph (checkout to))) r m).0
there-read h (branch name at) r m = m
there-read h log r m = m
there-read h status r m = m
there-read h inspect r m = m
there-read h (stored of) r m = m
there-read h (plan to) r m = m

-- A request that finds none leaves the file so.
pub ends-damaged : (session : Session) (s t : State) (q : rust_request.Request) (at : ℕ) → IsOpen session s → t.file ≡ s.file → LacksHere session s q at → EndsDamaged session s t at
ends-damaged session s t q at stands same lacks = (
  λ told.
      let end = stands told in
      let h = at-end-history session s end.0 end.1 in
      let found = (lacks.lacks h.history h.kept).1 in
      lacks-picture s t.file h.history.graph h.history.changes (reads_at h.history.graph (request_of q)) at told same h.holds h.gives
      (record { row = found.row; there = there-read h.history (request_of q) found.row found.there; place = found.place; none = found.none }),
  lacks.never,
)
