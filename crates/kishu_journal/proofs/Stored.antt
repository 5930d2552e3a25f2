-- How far the reading of a store has come whose graph is made, and what follows at its end.
use Rattle.std.proofs.Common.{◌≡◌, ◌≤◌, inl, ℕ, ◌+◌, true, List, [], ◌∷◌, ◌++◌, length, take, refl, sym, ◌∙◌, subst}
use Rattle.kishu_graph.specs.Kept.{Kept, KeepsHistory, StandsFor, TellsChanges}
use Rattle.kishu_host.specs.Host.{State}
use Rattle.kishu_store.specs.Entries.{Record, entries_in}
use Rattle.kishu_store.specs.Graph.{Graph}
use Rattle.kishu_store.specs.Histories.{new_history}
use Rattle.kishu_store.specs.Holds.{Gives, Holds, fresh_length, front, graph_of, header, history_of}
use Rattle.kishu_store.specs.Tables.{Change}
use Rattle.kishu_store_laws.specs.Laws.{history-graph, one_changes}
use Rattle.kishu_journal.specs.Facts.{IsOfHistory, KeepsTables, NotesRecord}
use Rattle.kishu_journal.specs.Found.{IsShut, before_body, with_pictures}
use Rattle.kishu_journal.specs.Going.{IsQuiet}
use Rattle.kishu_journal.specs.Opened.{AreRead}
use Rattle.kishu_journal.specs.Stands.{with_record}
use Rattle.kishu_journal.specs.Stores.{IsRead, Opens}
use Rattle.kishu_journal.specs.declared.open_store.OpenStore.{OpenStore}
use Rattle.kishu_journal.proofs.Openings.{read-anew, read-fit, read-gives, read-graph, read-history, read-holds, read-place, read-rules, read-stands, read-still}
use Rattle.kishu_journal.proofs.Reached.{Reached, reached-end, reached-on, reached-start}

-- Up to this place records were read that fit, and the history is theirs.
pub record ReachedStore (s : State) (at : ℕ) (kept : Kept) : Type 0 where
  pub records : List Record
  pub reached : Reached s records at kept

pub store-start : (s : State) (kept : Kept) → KeepsHistory kept new_history → (s.tells ≡ true → take 16 s.file ≡ header) → ReachedStore s 16 kept
store-start s kept keeps head = record { records = []; reached = reached-start s kept keeps head }

module _ (s : State) (at : ℕ) (kept : Kept) (r : ReachedStore s at kept) where
  pub store-on : (later : Kept) (size there : ℕ) → NotesRecord kept s at later size → there ≡ at + before_body + size → ReachedStore s there later
  store-on later size there n there_is =
      record { records = with_record r.records (with_pictures n.entry n.there.pictures); reached = reached-on s r.records at kept r.reached later n.entry size there n.there n.goes n.size_is there_is }

  pub store-end : (s.tells ≡ true → IsShut s.file at) → IsRead s at kept
  store-end closed =
      record {
        records = r.records;
        are_read = reached-end s r.records at kept r.reached closed;
        graph = subst (λ (g : Graph). StandsFor kept g) (history-graph r.records) r.reached.keeps.graph;
        changes = r.reached.keeps.changes;
      }

-- Calls that change no content change nothing here.
pub store-still : (a b : State) (place : ℕ) (kept : Kept) → IsQuiet a b → IsRead a place kept → IsRead b place kept
store-still a b place kept quiet r = record { records = r.records; are_read = read-still a b place r.records quiet r.are_read; graph = r.graph; changes = r.changes }

-- what was read of a long file
pub read-opens : (old mid new : State) (store : OpenStore) → IsQuiet old mid → IsQuiet mid new → IsRead new store.journal.place store.graph → Opens old new store
read-opens old mid new store settled reading r =
    let place = store.journal.place in
    let tells = λ (told : old.tells ≡ true). reading.time.tells ∙ settled.time.tells ∙ told in
    record {
      read = r;
      good = λ told. subst (λ (f : List ℕ). Holds f (graph_of (entries_in r.records))) (reading.keeps.file ∙ settled.keeps.file) (read-holds new place r.records r.are_read (tells told));
      stands = λ told. read-stands new place r.records r.are_read store.journal refl (tells told);
      fit = read-fit new place r.records r.are_read;
      rules = read-rules new place r.records r.are_read;
    }

-- a short file that was begun anew
pub anew-opens : (old new : State) (store : OpenStore) → store.journal.place ≡ 16 → KeepsHistory store.graph new_history → new.tells ≡ old.tells
    → (old.tells ≡ true → length old.file ≤ fresh_length) → (old.tells ≡ true → new.file ≡ front [] ++ (0 ∷ [])) → Opens old new store
anew-opens old new store place keeps tells short fresh =
    let o = read-anew new (λ told. fresh (sym tells ∙ told)) in
    record {
      read = record {
        records = [];
        are_read = subst (λ (n : ℕ). AreRead new n []) (sym place) o;
        graph = keeps.graph;
        changes = keeps.changes;
      };
      good = λ told. inl (short told, refl);
      stands = λ told. read-stands new 16 [] o store.journal place (tells ∙ told);
      fit = tt;
      rules = tt;
    }

-- ---- tables

-- what is kept of an opened store is a history's to which records lead
pub opens-history : (old new : State) (store : OpenStore) → Opens old new store → IsOfHistory store.graph store.journal.place
opens-history old new store o =
    let r = o.read in
    let place = store.journal.place in
    let keeps : KeepsHistory store.graph (history_of (entries_in r.records)) = record {
      graph = subst (λ (g : Graph). StandsFor store.graph g) (sym (read-graph new place r.records r.are_read)) r.graph;
      changes = r.changes;
    } in
    ∣ (history_of (entries_in r.records), keeps, read-history new place r.records r.are_read, read-place new place r.records r.are_read) ∣₁

-- what a long file gives, which stays
pub long-tables : (old new : State) (store : OpenStore) → Opens old new store → (old.tells ≡ true → new.tells ≡ true) → (old.tells ≡ true → new.file ≡ old.file) → KeepsTables old store.graph
long-tables old new store o tells same told cs gives =
    let there = subst (λ (f : List ℕ). Gives f cs) (sym (same told)) gives in
    let is = read-gives new store.journal.place o.read.records o.read.are_read (tells told) cs there in
    subst (λ (ds : List Change). TellsChanges store.graph ds) (sym is) o.read.changes

-- what a short file gives: nothing
pub short-tables : (old : State) (kept : Kept) → KeepsHistory kept new_history → (old.tells ≡ true → length old.file ≤ fresh_length) → KeepsTables old kept
short-tables old kept keeps short told cs gives =
    subst (λ (ds : List Change). TellsChanges kept ds) (one_changes old.file [] cs (inl (short told, refl)) gives) keeps.changes
