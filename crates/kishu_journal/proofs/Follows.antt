-- How far a graph has followed some entries.
use Rattle.std.proofs.Common.{◌≡◌, ◌<◌, ◌≤◌, ℕ, suc, ◌+◌, ◌^◌, List, [], ◌∷◌, ◌++◌, length, drop, get_or, refl, sym, ◌∙◌, ap, subst}
use Rattle.std.proofs.lemmas.List.{drop_more, drop_all}
use Rattle.std.specs.List.{AllByRecursion}
use Rattle.kishu_graph.specs.Kept.{Kept, KeepsHistory, StandsFor, TellsChanges}
use Rattle.kishu_record.specs.declared.entry.Entry as program
use Rattle.kishu_record.specs.Entries.{entry_of}
use Rattle.kishu_store.specs.Entries.{Entry, commit, move, name}
use Rattle.kishu_store.specs.Fitting.{changed}
use Rattle.kishu_store.specs.Graph.{Graph, newest}
use Rattle.kishu_store.specs.Histories.{FollowsAt, Follows, History, before_body, before_pictures, body_length, gives_at, led_by, new_history}
use Rattle.kishu_store.specs.Holds.{history_of}
use Rattle.kishu_store.specs.Rules.{IsEntry}
use Rattle.kishu_store.specs.Tables.{Change, Table, rows_from}
use Rattle.kishu_store_laws.specs.HistoryLaws.{AreChanges, IsHistory, led-history, new-history}
use Rattle.kishu_store_laws.specs.Laws.{led-graph}
use Rattle.kishu_journal.specs.Facts.{HasTablesOf, IsGraphOf}
use Rattle.kishu_journal.specs.Following.{FitsNot, GoOn, IsKept}
use Rattle.kishu_journal.specs.Found.{AllFit, AreBelow, entries_of, history_at, led_on}
use Rattle.kishu_journal.proofs.Unplaced.{bare_changes, bare_rows, bare-rows-from, changes-alike, fits-alike, furthest, table-alike}

abbrev pub with_changes : Graph → List Change → ℕ → History
with_changes g cs place = record { graph = g; changes = cs; place = place }

-- ---- two histories that are one but for places

module _ (g : Graph) (cs ds : List Change) (most to there : ℕ) (same : bare_changes cs ≡ bare_changes ds) (a : AreChanges g cs most) where
  -- an entry fits one where it fits the other
  pub follows-alike : (body other : ℕ) (e : Entry) → FollowsAt body (with_changes g cs to) e → FollowsAt other (with_changes g ds there) e
  follows-alike body other (commit p f cells ds_dropped ss) k = record {
    graph = k.graph;
    table = (
      let e = commit p f cells ds_dropped ss in
          let rows = bare-rows-from (suc (newest g)) (body + before_pictures e) (other + before_pictures e) ss in
          fits-alike _ _ _ _ (table-alike g cs ds most same a g.head.commit) (ap (λ (t : Table). record { dropped = ds_dropped; stored = t }) rows) k.table.0,
      tt,
    );
  }
  follows-alike body other (move to) k = record { graph = k.graph; table = tt }
  follows-alike body other (name title n) k = record { graph = k.graph; table = tt }

  -- and then they go on alike
  pub gives-alike : (body other : ℕ) (e : Entry) → bare_changes (gives_at body (with_changes g cs to) e ++ cs) ≡ bare_changes (gives_at other (with_changes g ds there) e ++ ds)
  gives-alike body other (commit p f cells dropped ss) =
      let e = commit p f cells dropped ss in
      let rows = bare-rows-from (suc (newest g)) (body + before_pictures e) (other + before_pictures e) ss in
      ap (λ (t : Table). record { dropped = dropped; stored = t } ∷ bare_changes cs) rows
      ∙ ap (λ (l : List Change). record { dropped = dropped; stored = bare_rows (rows_from (suc (newest g)) (other + before_pictures e) ss) } ∷ l) same
  gives-alike body other (move to) = same
  gives-alike body other (name title n) = same

-- ---- the way through the entries

-- What is left goes on from the history that was reached as all go on from the new one. It is told with other places, and is the same but for these.
pub record Followed (kept : Kept) (all left : List (ℕ × program.Entry)) : Type 0 where
  pub graph : Graph
  pub told : List Change
  pub to : ℕ
  pub real : List Change
  pub place : ℕ
  pub keeps : KeepsHistory kept (with_changes graph told to)
  pub known : IsHistory (with_changes graph real place)
  pub same : bare_changes told ≡ bare_changes real
  pub rules : AllByRecursion IsEntry (entries_of left)
  pub near : AreBelow (2 ^ 63) left
  pub led_to : led_by (with_changes graph real place) (entries_of left) ≡ history_of (entries_of all)
  pub told_to : led_on (with_changes graph told to) left ≡ history_at all
  pub back : AllFit (with_changes graph real place) (entries_of left) → AllFit new_history (entries_of all)
  pub on : AllFit new_history (entries_of all) → AllFit (with_changes graph real place) (entries_of left)

pub followed-start : (kept : Kept) (all : List (ℕ × program.Entry)) → KeepsHistory kept new_history → AllByRecursion IsEntry (entries_of all) → AreBelow (2 ^ 63) all → Followed kept all all
followed-start kept all keeps rules near = record {
  graph = new_history.graph;
  told = [];
  to = 16;
  real = [];
  place = 16;
  keeps = keeps;
  known = new-history;
  same = refl;
  rules = rules;
  near = near;
  led_to = refl;
  told_to = refl;
  back = λ f. f;
  on = λ f. f;
}

module _ (kept : Kept) (all rest : List (ℕ × program.Entry)) (p : ℕ × program.Entry) (f : Followed kept all (p ∷ rest)) where
  abbrev e : Entry
  e = entry_of p.1

  told-changes : AreChanges f.graph f.told (furthest f.told)
  told-changes = changes-alike f.graph f.real f.told f.place (sym f.same) f.known.changes

  followed-kept : IsKept kept (with_changes f.graph f.told f.to)
  followed-kept = record { keeps = f.keeps; most = furthest f.told; changes = told-changes }

  pub followed-on : (later : Kept) → GoOn kept p.0 e later → Followed later all rest
  followed-on later goes =
      let on = goes (with_changes f.graph f.told f.to) followed-kept in
      let fits : Follows (with_changes f.graph f.real f.place) e = follows-alike f.graph f.told f.real (furthest f.told) f.to f.place f.same told-changes p.0 (f.place + before_body) e on.fits in
      record {
        graph = changed f.graph e;
        told = gives_at p.0 (with_changes f.graph f.told f.to) e ++ f.told;
        to = p.0 + body_length e;
        real = gives_at (f.place + before_body) (with_changes f.graph f.real f.place) e ++ f.real;
        place = f.place + before_body + body_length e;
        keeps = on.keeps;
        known = led-history (with_changes f.graph f.real f.place) e f.known f.rules.0.rules fits;
        same = gives-alike f.graph f.told f.real (furthest f.told) f.to f.place f.same told-changes p.0 (f.place + before_body) e;
        rules = f.rules.1;
        near = f.near.1;
        led_to = f.led_to;
        told_to = f.told_to;
        back = λ fit. f.back (fits, fit);
        on = λ fit. (f.on fit).1;
      }

  pub not-followed : FitsNot kept p.0 e → AllFit new_history (entries_of all) → ⊥
  not-followed unfit fit =
      unfit (with_changes f.graph f.told f.to) followed-kept
      (follows-alike f.graph f.real f.told f.place f.place f.to (sym f.same) f.known.changes (f.place + before_body) p.0 e (f.on fit).0)

pub followed-end : (kept : Kept) (all left : List (ℕ × program.Entry)) → left ≡ [] → Followed kept all left → IsGraphOf all kept × HasTablesOf all kept × AllFit new_history (entries_of all)
followed-end kept all left none f =
    let g = subst (λ (ps : List (ℕ × program.Entry)). Followed kept all ps) none f in (
      subst (λ (x : Graph). StandsFor kept x) (ap (λ (h : History). h.graph) g.led_to ∙ led-graph new_history (entries_of all)) g.keeps.graph,
      subst (λ (cs : List Change). TellsChanges kept cs) (ap (λ (h : History). h.changes) g.told_to) g.keeps.changes,
      g.back tt,
    )

-- the entries from a place on
pub found-on : (ps : List (ℕ × program.Entry)) (i : ℕ) (p : ℕ × program.Entry) → i < length ps → p ≡ get_or ps i p → drop i ps ≡ p ∷ drop (i + 1) ps
found-on ps i p h is = drop_more ps i p h ∙ ap (λ (q : ℕ × program.Entry). q ∷ drop (i + 1) ps) (sym is)

pub found-end : (ps : List (ℕ × program.Entry)) (i : ℕ) → length ps ≤ i → drop i ps ≡ []
found-end ps i h = drop_all i ps h
