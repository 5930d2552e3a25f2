-- A store that is open: its history, where the host tells its file and where it doesn't, and what is damaged where a picture isn't loaded.
use Rattle.std.proofs.Common.{◌≡◌, ◌≤◌, ◌<◌, ◌*◌, inl, ⊎_elim, ℕ, List, [], length, refl, sym, ◌∙◌, ap, subst, arith}
use Rattle.std.specs.Prelude.{true, Option}
use Rattle.std.proofs.Math.Logic.{∥∥₁_elim}
use Rattle.std.proofs.lemmas.Bool.{cases_lt}
use Rattle.kishu_host.specs.Host.{State, Told}
use Rattle.kishu_store.specs.Entries.{Entry, entries_in}
use Rattle.kishu_store.specs.Graph.{Graph, new_graph}
use Rattle.kishu_store.specs.Histories.{History, head_table}
use Rattle.kishu_store.specs.Holds.{Holds, Gives, graph_of, history_of, history_by}
use Rattle.kishu_store.specs.Tables.{Table, Change, bytes_in, change_of, table_at}
use Rattle.kishu_store_laws.specs.HistoryLaws.{records-history}
use Rattle.kishu_store_laws.specs.Laws.{history-graph, ends-holds, ends-gives, one_graph, one_changes}
use Rattle.kishu_graph.specs.Kept.{Kept, StandsFor, TellsChanges}
use Rattle.kishu_history.specs.Good.{IsGoodFile, IsGoodFileOf}
use Rattle.kishu_objects.specs.Lists.{In}
use Rattle.kishu_history_laws.specs.tables.WithinLaws.{tables_within}
use Rattle.kishu_live_laws.specs.Loads.{good_loads}
use Rattle.kishu_journal.specs.Facts.{IsOfHistory, KeepsLong, ReadsFile, StaysShort}
use Rattle.kishu_journal.specs.Going.{ReadsAtMost}
use Rattle.kishu_journal.specs.Stands.{JournalState, Stands}
use Rattle.kishu_journal.specs.Stores.{Opens}
use Rattle.kishu_journal.specs.declared.open_store.OpenStore.{OpenStore}
use Rattle.kishu_checkout.specs.Pictures.{HasEach, HasNone}
use Rattle.kishu_session.specs.Attached.{IsAtEnd}
use Rattle.kishu_session.specs.Attaching.{LacksPicture}
use Rattle.kishu_session.specs.Head.{Counts, IsLoaded, IsKnown, Lacks, ReadsAtHead}
use Rattle.kishu_session.specs.Known.{HasHistory, IsHistoryOf}
use Rattle.kishu_session.specs.declared.head.Head.{Head}
use Rattle.kishu_session.specs.declared.session.Session.{Session}
use Rattle.kishu_session.proofs.AttachFacts.{good-rows, good-graph}
use Rattle.kishu_session.proofs.LoadFacts.{lives-untold}
use Rattle.kishu_session.proofs.ReadBytes.{reads-then}

-- ---- whatever the host tells

pub opened-known : (kept : Kept) (place : ℕ) → IsOfHistory kept place → HasHistory kept
opened-known kept place known = ∥∥₁_elim known squash₁ (λ k. ∣ (k.0, record { keeps = k.1; good = k.2 }) ∣₁)

pub head-known : (kept : Kept) (place : ℕ) (file : Option (List ℕ)) (head : Head) → head.graph ≡ kept → IsOfHistory kept place → IsLoaded file head → Counts head → IsKnown head place
head-known kept place file head same known loaded counts =
    ∥∥₁_elim known squash₁
    (λ k.
    let of : IsHistoryOf head.graph k.0 = subst (λ (x : Kept). IsHistoryOf x k.0) (sym same) (record { keeps = k.1; good = k.2 }) in
    ∣ (k.0, record { kept = of; place_is = k.3; count = counts k.0 of; lives = lives-untold file (head_table k.0) _ (loaded k.0 of).lives; held = (loaded k.0 of).held }) ∣₁)

-- ---- where it tells its file

-- A good file has a picture for each row of its head's table.
pub good-each : (file : List ℕ) (g : Graph) (good : IsGoodFileOf file g) → HasEach file (table_at g (change_of good.changes) g.head.commit)
good-each file g good r m =
    let loads = good_loads file g (change_of good.changes) (good-rows file g good) good.store good.holds g.head.commit (good-graph file g good).head.there r m in
    (_, loads)

module _ (old new : State) (store : OpenStore) (o : Opens old new store) (told : old.tells ≡ true) where
  pub stands : Stands store.journal new.file (entries_in o.read.records)
  stands = o.stands told

  abbrev pub opened-history : History
  opened-history = history_by stands.found

  pub opened-kept : IsHistoryOf store.graph opened-history
  opened-kept = record {
    keeps = record {
      graph = subst (λ (x : Graph). StandsFor store.graph x) (sym (history-graph stands.found ∙ ap (λ (es : List Entry). graph_of es) stands.says)) o.read.graph;
      changes = subst (λ (es : List Entry). TellsChanges store.graph (history_of es).changes) (sym stands.says) o.read.changes;
    };
    good = records-history stands.found stands.ends.fit;
  }

  pub opened-holds : Holds new.file opened-history.graph
  opened-holds = subst (λ (x : Graph). Holds new.file x) (sym (history-graph stands.found)) (ends-holds new.file stands.found stands.ends)

  pub opened-gives : Gives new.file opened-history.changes
  opened-gives = ends-gives new.file stands.found stands.ends

  -- ---- the bytes of the head's table

  -- where the file was begun anew, the table has no row
  none-short : length new.file ≤ 17 → head_table opened-history ≡ []
  none-short few =
      ap (λ (x : Graph). table_at x (change_of opened-history.changes) x.head.commit) (one_graph new.file opened-history.graph new_graph opened-holds (inl (few, refl)))

  -- They are no more than the file's were.
  pub opened-bytes : (17 < length old.file → new.file ≡ old.file) → (length old.file ≤ 17 → length new.file ≤ 17) → bytes_in (head_table opened-history) ≤ length old.file
  opened-bytes same short =
      ⊎_elim
      (λ (long : 17 < length old.file).
      let within = tables_within new.file opened-history.graph opened-history.changes opened-holds opened-gives opened-history.graph.head.commit in
      let kept = ap (λ (f : List ℕ). length f) (same long) in
      omega (arith, within, kept))
      (λ (few : length old.file ≤ 17). (let none = ap bytes_in (none-short (short few)) in omega (arith, none)))
      (cases_lt 17 (length old.file))

  -- ---- a session there, once its head was loaded

  module _ (session : Session) (now : State) (same-journal : session.journal ≡ store.journal) (same-graph : session.head.graph ≡ store.graph) (same-file : now.file ≡ new.file)
      (tables : (cs : List Change) → Gives old.file cs → TellsChanges store.graph cs) (back : (cs : List Change) → Gives new.file cs → Gives old.file cs) where
    pub opened-at-end : (g : Graph) → g ≡ graph_of (entries_in o.read.records) → IsAtEnd session now g
    opened-at-end g is = record {
      journal = record {
        entries = entries_in o.read.records;
        stands = subst (λ (f : List ℕ). Stands session.journal f (entries_in o.read.records)) (sym same-file) (subst (λ (j : JournalState). Stands j new.file (entries_in o.read.records)) (sym same-journal) stands);
        graph = is;
      };
      graph = subst (λ (k : Kept). StandsFor k g) (sym same-graph) (subst (λ (x : Graph). StandsFor store.graph x) (sym is) o.read.graph);
      tables = λ cs gives. subst (λ (k : Kept). TellsChanges k cs) (sym same-graph) (tables cs (back cs (subst (λ (f : List ℕ). Gives f cs) same-file gives)));
    }

  -- ---- damage

  module _ (same : 17 < length old.file → new.file ≡ old.file) (short : length old.file ≤ 17 → length new.file ≤ 17) (now : new.tells ≡ true) (at : ℕ) (l : Lacks new (head_table opened-history) at) where
    lacks-long : 17 < length old.file → LacksPicture old at
    lacks-long long =
        let e = same long in
        record {
          graph = opened-history.graph;
          changes = opened-history.changes;
          holds = subst (λ (f : List ℕ). Holds f opened-history.graph) e opened-holds;
          gives = subst (λ (f : List ℕ). Gives f opened-history.changes) e opened-gives;
          lacks = record { row = l.lacks.row; there = l.lacks.there; place = l.lacks.place; none = λ _. subst (λ (f : List ℕ). HasNone f l.lacks.row) e (l.lacks.none now) };
          bad = λ good. bad-none (subst IsGoodFile (sym e) good);
        }
      where
        bad-none : IsGoodFile new.file → ⊥
        bad-none good =
            let graph : opened-history.graph ≡ good.0 = one_graph new.file opened-history.graph good.0 opened-holds good.1.holds in
            let changes : opened-history.changes ≡ good.1.changes = one_changes new.file opened-history.changes good.1.changes opened-gives good.1.gives in
            let table : head_table opened-history ≡ table_at good.0 (change_of good.1.changes) good.0.head.commit =
            ap (λ (x : Graph). table_at x (change_of opened-history.changes) x.head.commit) graph ∙ ap (λ (cs : List Change). table_at good.0 (change_of cs) good.0.head.commit) changes in
            l.some now (subst (λ (t : Table). HasEach new.file t) (sym table) (good-each new.file good.0 good.1))

    pub lacks-is-long : 17 < length old.file
    lacks-is-long =
        ⊎_elim (λ (long : 17 < length old.file). long)
        (λ (few : length old.file ≤ 17). absurd (subst (λ (t : Table). In l.lacks.row t) (none-short (short few)) l.lacks.there))
        (cases_lt 17 (length old.file))

    pub lacks-picture : LacksPicture old at
    lacks-picture = lacks-long lacks-is-long

-- ---- the bytes that are read

-- At most as many as the file has, and then at most those of the head's table.
pub opening-reads : (old new now : State) (store : OpenStore) → Opens old new store → ReadsFile old new → KeepsLong old new → StaysShort old new → ReadsAtHead store.graph new now
    → Told old (ReadsAtMost old.reads now.reads (3 * length old.file))
opening-reads old new now store o file long short head told =
    let bytes = opened-bytes old new store o told (long told) (short told) in
    reads-then old.reads new.reads now.reads (length old.file) (bytes_in (head_table (opened-history old new store o told))) (3 * length old.file) (file told)
    (head (opened-history old new store o told) (opened-kept old new store o told)) (omega (arith, bytes))
