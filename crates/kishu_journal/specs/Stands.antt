-- A journal that stands at the end of a file, and a body that may be appended there.
use Rattle.std.specs.Prelude.{◌≡◌, ℕ, Bool, List, ◌++◌, ◌∷◌, []}
use Rattle.kishu_store.specs.Entries.{Entry, Record, entries_in}
use Rattle.kishu_store.specs.EntryBytes.{body_of}
use Rattle.kishu_store.specs.Histories.{Follows}
use Rattle.kishu_store.specs.Holds.{Ends, framed, end_of, history_of, history_by}
use Rattle.kishu_store.specs.Rules.{IsRecord}

-- what a journal keeps: the place of the closed gate behind the records, and whether an append failed
pub record JournalState : Type 0 where
  pub place : ℕ
  pub closed : Bool

-- the file ends with records that say this, and the journal keeps where
pub record Stands (journal : JournalState) (file : List ℕ) (entries : List Entry) : Type 0 where
  pub found : List Record
  pub says : entries_in found ≡ entries
  pub ends : Ends file found
  pub place : journal.place ≡ end_of found

-- the body is that of a record that says this entry, which fits behind these
pub record IsNext (journal : JournalState) (file body : List ℕ) (entries : List Entry) (e : Entry) : Type 0 where
  pub stands : Stands journal file entries
  pub fits : Follows (history_of entries) e
  pub next : Record
  pub says : next.entry ≡ e
  pub rules : IsRecord next
  pub body_is : body ≡ body_of next

-- the entries, with this one behind them
abbrev pub with_entry : List Entry → Entry → List Entry
with_entry entries e = entries ++ (e ∷ [])

-- the records, with this one behind them
abbrev pub with_record : List Record → Record → List Record
with_record rs r = rs ++ (r ∷ [])

-- The file ends with these records at that place, and the bytes are those of a record that fits behind them and of a closed gate.
pub record IsWhole (file : List ℕ) (place : ℕ) (bytes : List ℕ) (rs : List Record) (r : Record) : Type 0 where
  pub ends : Ends file rs
  pub place_is : place ≡ end_of rs
  pub rules : IsRecord r
  pub fits : Follows (history_by rs) r.entry
  pub bytes_are : bytes ≡ framed (body_of r) ++ (0 ∷ [])
