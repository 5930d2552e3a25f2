-- A walk over the records of a file.
use Rattle.std.proofs.Common.{◌≡◌, ◌≢◌, ◌<◌, ◌≤◌, ℕ, ◌+◌, List, [], ◌∷◌, ◌++◌, length, take, drop, refl, sym, ◌∙◌, ap, arith, append_assoc, take-append-drop}
use Rattle.std.proofs.lemmas.List.{drop_at, append-nil, map_push}
use Rattle.kishu_record.specs.declared.entry.Entry as program
use Rattle.kishu_record.specs.Entries.{entry_of}
use Rattle.kishu_store.specs.Entries.{Entry, Record, entries_in}
use Rattle.kishu_store.specs.EntryBytes.{body_of}
use Rattle.kishu_store.specs.Histories.{AreRecords, new_history}
use Rattle.kishu_store.specs.Holds.{header, fresh_length, open_gate, front, end_of, Ends, history_by, BeginsRecord, IsBroken}
use Rattle.kishu_journal.specs.Found.{entries_of, before_body, ArePlaced, AreBelow, BeginsBody}
use Rattle.kishu_journal.specs.Stands.{with_entry, with_record}
use Rattle.kishu_journal.proofs.Behind.{front-with, end-with}

-- up to this place the file is the header and these records
abbrev pub Walked : List ℕ → List Record → ℕ → Type 0
Walked file rs at = file ≡ front rs ++ drop at file

pub walk-start : (file : List ℕ) → take 16 file ≡ header → Walked file [] 16
walk-start file head = sym (take-append-drop 16 file) ∙ ap (λ (l : List ℕ). l ++ drop 16 file) (head ∙ sym (append-nil header))

module _ (file : List ℕ) (rs : List Record) (at : ℕ) (place : at ≡ end_of rs) (walked : Walked file rs at) where
  pub walk-on : (r : Record) (there : ℕ) → there ≡ end_of (with_record rs r) → BeginsBody (drop at file) (body_of r) → Walked file (with_record rs r) there
  walk-on r there is b =
      let whole : file ≡ front (with_record rs r) ++ b.0 = walked ∙ ap (λ (l : List ℕ). front rs ++ l) b.1 ∙ sym (front-with rs r b.0) in
      let rest : drop there file ≡ b.0 = ap (λ (l : List ℕ). drop there l) whole ∙ drop_at (front (with_record rs r)) b.0 there (sym is) in
      whole ∙ ap (λ (l : List ℕ). front (with_record rs r) ++ l) (sym rest)

  pub walk-ends : AreRecords new_history rs → (gate : ℕ) (rest : List ℕ) → drop at file ≡ gate ∷ rest → gate ≢ open_gate → Ends file rs
  walk-ends fit gate rest is shut = record { gate = gate; rest = rest; split = walked ∙ ap (λ (l : List ℕ). front rs ++ l) is; closed = shut; fit = fit }

  pub walk-broken : AreRecords new_history rs → (rest : List ℕ) → fresh_length < length file → drop at file ≡ open_gate ∷ rest
      → ((r : Record) → BeginsRecord (open_gate ∷ rest) (history_by rs) r → ⊥) → IsBroken file at
  walk-broken fit rest long is none = record {
    long = long;
    before = rs;
    rest = rest;
    split = walked ∙ ap (λ (l : List ℕ). front rs ++ l) is;
    fit = fit;
    place = place;
    none = none;
  }

-- ---- places

pub entries-push : (ps : List (ℕ × program.Entry)) (p : ℕ × program.Entry) → entries_of (ps ++ (p ∷ [])) ≡ with_entry (entries_of ps) (entry_of p.1)
entries-push ps p = map_push (λ (q : ℕ × program.Entry). entry_of q.1) ps p

pub placed-push : (before : List Record) (ps : List (ℕ × program.Entry)) (rs : List Record) (p : ℕ × program.Entry) (r : Record) → ArePlaced before ps rs → r.entry ≡ entry_of p.1
    → p.0 ≡ end_of (before ++ rs) + before_body → ArePlaced before (ps ++ (p ∷ [])) (rs ++ (r ∷ []))
placed-push before [] [] p r all says is = (says, is ∙ ap (λ (l : List Record). end_of l + before_body) (append-nil before), tt)
placed-push before [] (s ∷ rs) p r all says is = absurd all
placed-push before (q ∷ ps) [] p r all says is = absurd all
placed-push before (q ∷ ps) (s ∷ rs) p r all says is =
    (all.0, all.1, placed-push (with_record before s) ps rs p r all.2 says (is ∙ ap (λ (l : List Record). end_of l + before_body) (sym (append_assoc before (s ∷ []) rs))))

pub placed-says : (before : List Record) (ps : List (ℕ × program.Entry)) (rs : List Record) → ArePlaced before ps rs → entries_in rs ≡ entries_of ps
placed-says before [] [] all = refl
placed-says before [] (s ∷ rs) all = absurd all
placed-says before (q ∷ ps) [] all = absurd all
placed-says before (q ∷ ps) (s ∷ rs) all = (let rest = placed-says (with_record before s) ps rs all.2 in ap (λ (e : Entry). e ∷ entries_in rs) all.0 ∙ ap (λ (l : List Entry). entry_of q.1 ∷ l) rest)

end-grows : (before rs : List Record) → end_of before ≤ end_of (before ++ rs)
end-grows before [] = (let same : end_of (before ++ []) ≡ end_of before = ap (λ (l : List Record). end_of l) (append-nil before) in omega (arith, same))
end-grows before (r ∷ rs) =
    let same : end_of (with_record before r ++ rs) ≡ end_of (before ++ (r ∷ rs)) = ap (λ (l : List Record). end_of l) (append_assoc before (r ∷ []) rs) in
    omega (arith, same, end-grows (with_record before r) rs, end-with before r)

pub placed-below : (most : ℕ) (before : List Record) (ps : List (ℕ × program.Entry)) (rs : List Record) → ArePlaced before ps rs → end_of (before ++ rs) < most → AreBelow most ps
placed-below most before [] rs all below = tt
placed-below most before (p ∷ ps) [] all below = absurd all
placed-below most before (p ∷ ps) (r ∷ rs) all below =
    let same : end_of (with_record before r ++ rs) ≡ end_of (before ++ (r ∷ rs)) = ap (λ (l : List Record). end_of l) (append_assoc before (r ∷ []) rs) in (
      omega (arith, all.1, end-with before r, end-grows (with_record before r) rs, same, below),
      placed-below most (with_record before r) ps rs all.2 (omega (arith, same, below)),
    )
