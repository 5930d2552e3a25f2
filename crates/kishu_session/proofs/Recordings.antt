-- A record behind those of a store, and what it leaves.
use Rattle.std.proofs.Common.{◌≡◌, ◌+◌, inl, ℕ, List, [], ◌∷◌, length, map, refl, ◌∙◌, ap, arith, length-append}
use Rattle.std.specs.List.{sum}
use Rattle.std.specs.Prelude.{flat_map}
use Rattle.std.proofs.lemmas.List.Sums.{sum_by-cons}
use Rattle.kishu_host.specs.Host.{State, Elapses}
use Rattle.kishu_store.specs.Entries.{Record, entries_in, lengths_in}
use Rattle.kishu_store.specs.EntryBytes.{body_of}
use Rattle.kishu_store.specs.Graph.{Graph}
use Rattle.kishu_store.specs.Histories.{body_length}
use Rattle.kishu_store.specs.Holds.{Ends, end_of, history_by}
use Rattle.kishu_store.specs.Rules.{IsRecord}
use Rattle.kishu_store_laws.specs.EntryLaws.{length-body}
use Rattle.kishu_store_laws.specs.Laws.{one_ending}
use Rattle.kishu_journal.specs.Bytes.{appended}
use Rattle.kishu_journal.specs.Stands.{JournalState, Stands, IsNext, with_entry, with_record}
use Rattle.kishu_session.specs.Prepared.{Leads}
use Rattle.kishu_session.specs.Recording.{IsJournalAt}
use Rattle.kishu_session.specs.Written.{IsRecorded}

module _ (journal : JournalState) (file body : List ℕ) (rs : List Record) (r : Record) (j : IsJournalAt journal file rs)
    (body_is : body ≡ body_of r) where
  pub recorded-by : (new : List ℕ) → new ≡ appended journal.place body file → IsRecorded file new
  recorded-by new is = (
    rs,
    r,
    j.ends,
    is ∙ ap (λ (n : ℕ). appended n body file) j.place ∙ ap (λ (b : List ℕ). appended (end_of rs) b file) body_is,
  )

  abbrev pub next-is : (now : Graph) → IsRecord r → Leads (history_by rs) r now → IsNext journal file body (entries_in rs) r.entry
  next-is now rules l = record {
    stands = record { found = rs; says = refl; ends = j.ends; place = j.place };
    fits = l.fits;
    next = r;
    says = refl;
    rules = rules;
    body_is = body_is;
  }

-- A journal that stands behind the record's entry stands behind the record.
pub journal-after : (journal : JournalState) (file : List ℕ) (rs : List Record) (r : Record)
    → Stands journal file (with_entry (entries_in rs) r.entry) → Ends file (with_record rs r)
    → IsJournalAt journal file (with_record rs r)
journal-after journal file rs r stands ends =
    record { ends = ends; place = stands.place ∙ ap end_of (one_ending file stands.found (with_record rs r) stands.ends ends) }

pub elapses-none : (s : State) (P : List ℕ → List ℕ → Type 0) → Elapses s s P
elapses-none s P = record { tells = refl; later = omega arith; nothing_else = λ t c o le left. inl left; keeps = λ t c o le left. left }

-- ---- how long a record's body is

joined-length : (ps : List (List ℕ)) → length (flat_map (λ p. p) ps) ≡ sum (map length ps)
joined-length [] = refl
joined-length (p ∷ ps) =
    let all : sum (map length (p ∷ ps)) ≡ length p + sum (map length ps) = sum_by-cons (λ n. n) (length p) (map length ps) in
    omega (arith, length-append p (flat_map (λ q. q) ps), joined-length ps, all)

pub body-length : (r : Record) → IsRecord r → length (body_of r) ≡ body_length r.entry
body-length r is =
    let sizes : sum (map length r.pictures) ≡ sum (lengths_in r.entry) = ap sum is.pictures in
    omega (arith, length-body r, joined-length r.pictures, sizes)
