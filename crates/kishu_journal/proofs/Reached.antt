-- How far the reading of a file has come.
use Rattle.std.proofs.Common.{◌≡◌, ◌<◌, ℕ, ◌+◌, ◌^◌, true, List, [], ◌∷◌, ◌++◌, length, take, drop, refl, sym, ap, subst, ◌∙◌, arith}
use Rattle.kishu_graph.specs.Kept.{Kept, KeepsHistory}
use Rattle.kishu_host.specs.Host.{State}
use Rattle.kishu_record.specs.declared.entry.Entry as program
use Rattle.kishu_record.specs.Entries.{entry_of}
use Rattle.kishu_store.specs.Entries.{Entry, Record}
use Rattle.kishu_store.specs.EntryBytes.{body_of}
use Rattle.kishu_store.specs.Histories.{AreRecords, Follows, FollowsAt, History, body_length, led, led_at, new_history}
use Rattle.kishu_store.specs.Holds.{header, fresh_length, open_gate, end_of, history_by, BeginsRecord, IsBroken}
use Rattle.kishu_store_laws.specs.HistoryLaws.{place-end, records-history}
use Rattle.kishu_store_laws.specs.Laws.{records-push, history-push}
use Rattle.kishu_journal.specs.Facts.{NotesRecord, RecordAt}
use Rattle.kishu_journal.specs.Following.{GoOn, IsKept}
use Rattle.kishu_journal.specs.Found.{before_body, ArePlaced, BeginsBody, IsShut, with_pictures}
use Rattle.kishu_journal.specs.Going.{IsQuiet}
use Rattle.kishu_journal.specs.Opened.{AreRead, IsOpened}
use Rattle.kishu_journal.specs.Stands.{with_record}
use Rattle.kishu_journal.proofs.Behind.{end-below, end-none, end-with}
use Rattle.kishu_journal.proofs.Cuts.{body-long}
use Rattle.kishu_journal.proofs.Walks.{Walked, walk-start, walk-on, walk-ends, walk-broken, placed-push}

-- Up to this place these records were read, which fit, and the history is theirs.
pub record Reached (s : State) (records : List Record) (at : ℕ) (kept : Kept) : Type 0 where
  pub fit : AreRecords new_history records
  pub place : at ≡ end_of records
  pub keeps : KeepsHistory kept (history_by records)
  pub walked : s.tells ≡ true → Walked s.file records at

-- And these were found: they are what the records say.
pub record ReachedFound (s : State) (found : List (ℕ × program.Entry)) (at : ℕ) (kept : Kept) : Type 0 where
  pub records : List Record
  pub reached : Reached s records at kept
  pub placed : ArePlaced [] found records

-- Calls that change no content leave records where they were.
pub record-still : (a b : State) (at : ℕ) (e : Entry) → IsQuiet a b → RecordAt b at e → RecordAt a at e
record-still a b at e quiet r = record {
  pictures = r.pictures;
  rules = r.rules;
  there = λ told. subst (λ (f : List ℕ). BeginsBody (drop at f) (body_of (with_pictures e r.pictures))) quiet.keeps.file (r.there (quiet.time.tells ∙ told));
}

pub noted-still : (a b : State) (at : ℕ) (kept later : Kept) (size : ℕ) → IsQuiet a b → NotesRecord kept b at later size → NotesRecord kept a at later size
noted-still a b at kept later size quiet n = record { entry = n.entry; there = record-still a b at n.entry quiet n.there; goes = n.goes; size_is = n.size_is }

pub reached-start : (s : State) (kept : Kept) → KeepsHistory kept new_history → (s.tells ≡ true → take 16 s.file ≡ header) → Reached s [] 16 kept
reached-start s kept keeps head = record { fit = tt; place = sym end-none; keeps = keeps; walked = λ told. walk-start s.file (head told) }

pub found-start : (s : State) (found : List (ℕ × program.Entry)) (kept : Kept) → found ≡ [] → KeepsHistory kept new_history → (s.tells ≡ true → take 16 s.file ≡ header) → ReachedFound s found 16 kept
found-start s found kept none keeps head = record {
  records = [];
  reached = reached-start s kept keeps head;
  placed = subst (λ (ps : List (ℕ × program.Entry)). ArePlaced [] ps []) (sym none) tt;
}

module _ (s : State) (records : List Record) (at : ℕ) (kept : Kept) (reached : Reached s records at kept) where
  pub reached-near : at + before_body < 2 ^ 63
  reached-near = omega (arith, reached.place, end-below records reached.fit)

  pub reached-kept : IsKept kept (history_by records)
  reached-kept = record { keeps = reached.keeps; most = (history_by records).place; changes = (records-history records reached.fit).changes }

  pub reached-place : (history_by records).place ≡ at
  reached-place = place-end records reached.fit ∙ sym reached.place

  pub reached-on : (later : Kept) (e : Entry) (size there : ℕ) (here : RecordAt s at e) → GoOn kept (at + before_body) e later → size ≡ body_length e → there ≡ at + before_body + size
      → Reached s (with_record records (with_pictures e here.pictures)) there later
  reached-on later e size there here goes size_is there_is =
      let r = with_pictures e here.pictures in
      let h = history_by records in
      let on = goes h reached-kept in
      let fits : Follows h e = subst (λ (n : ℕ). FollowsAt (n + before_body) h e) (sym reached-place) on.fits in
      let keeps : KeepsHistory later (led h e) = subst (λ (n : ℕ). KeepsHistory later (led_at (n + before_body) h e)) (sym reached-place) on.keeps in
      let end : there ≡ end_of (with_record records r) = omega (arith, there_is, reached.place, end-with records r, size_is, body-long r here.rules) in
      record {
        fit = records-push new_history records r reached.fit here.rules fits;
        place = end;
        keeps = subst (λ (k : History). KeepsHistory later k) (sym (history-push records r)) keeps;
        walked = λ told. walk-on s.file records at reached.place (reached.walked told) r there end (here.there told);
      }

  pub reached-end : (s.tells ≡ true → IsShut s.file at) → AreRead s at records
  reached-end closed = record {
    fit = reached.fit;
    place = reached.place;
    ends = λ told. (let c = closed told in walk-ends s.file records at reached.place (reached.walked told) reached.fit c.gate c.rest c.split c.closed);
  }

  pub reached-broken : s.tells ≡ true → (rest : List ℕ) → fresh_length < length s.file → drop at s.file ≡ open_gate ∷ rest → ((r : Record) → BeginsRecord (open_gate ∷ rest) (history_by records) r → ⊥) → IsBroken s.file at
  reached-broken told rest long is none = walk-broken s.file records at reached.place (reached.walked told) reached.fit rest long is none

module _ (s : State) (found : List (ℕ × program.Entry)) (at : ℕ) (kept : Kept) (f : ReachedFound s found at kept) where
  pub found-on : (more : List (ℕ × program.Entry)) (later : Kept) (e : program.Entry) (size there : ℕ) → more ≡ found ++ ((at + before_body, e) ∷ []) → RecordAt s at (entry_of e)
      → GoOn kept (at + before_body) (entry_of e) later → size ≡ body_length (entry_of e) → there ≡ at + before_body + size → ReachedFound s more there later
  found-on more later e size there is here goes size_is there_is =
      let r = with_pictures (entry_of e) here.pictures in
      record {
        records = with_record f.records r;
        reached = reached-on s f.records at kept f.reached later (entry_of e) size there here goes size_is there_is;
        placed = subst (λ (ps : List (ℕ × program.Entry)). ArePlaced [] ps (with_record f.records r)) (sym is)
            (placed-push [] found f.records (at + before_body, e) r f.placed refl (ap (λ (n : ℕ). n + before_body) f.reached.place));
      }

  pub found-end : (s.tells ≡ true → IsShut s.file at) → IsOpened s at found
  found-end closed =
      let read = reached-end s f.records at kept f.reached closed in
      record { records = f.records; fit = read.fit; placed = f.placed; place = read.place; ends = read.ends }
