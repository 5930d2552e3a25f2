-- Heads of records, and the pictures behind them.
use Rattle.std.proofs.Common.{◌≡◌, ◌<◌, ◌≤◌, ◌^◌, inl, inr, ℕ, ◌+◌, ◌-◌, true, List, ◌∷◌, ◌++◌, length, map, flat_map, take, drop, replicate, refl, sym, ◌∙◌, ap, subst, arith, length-append, length-drop, take-append-drop}
use Rattle.std.proofs.Math.Seq.{take-add}
use Rattle.std.proofs.lemmas.Bool.{cases_Bool, false≢true}
use Rattle.std.proofs.lemmas.List.{take-take, drop-drop, length-replicate, length-take-le}
use Rattle.std.proofs.lemmas.List.Concat.{length-flat_map}
use Rattle.std.proofs.lemmas.List.Sums.{sum-map}
use Rattle.std.specs.List.{sum}
use Rattle.kishu_bytes.specs.Numbers.{four}
use Rattle.kishu_bytes_laws.specs.NumberLaws.{four-unique, append-unique}
use Rattle.kishu_host.specs.Host.{State}
use Rattle.kishu_record.specs.Readings.{IsHead}
use Rattle.kishu_store.specs.Entries.{Entry, Record, lengths_in}
use Rattle.kishu_store.specs.EntryBytes.{head_of, body_of}
use Rattle.kishu_store.specs.Histories.{History, Follows, body_length}
use Rattle.kishu_store.specs.Holds.{open_gate, framed}
use Rattle.kishu_store.specs.Limits.{longest_body}
use Rattle.kishu_store.specs.Rules.{IsRecord}
use Rattle.kishu_store_laws.specs.EntryLaws.{entry-is, length-body}
use Rattle.kishu_store_laws.specs.PlaceLaws.{cut_by, cut-lengths, cut-joined}
use Rattle.kishu_journal.specs.Facts.{RecordAt}
use Rattle.kishu_journal.specs.Found.{BeginsBody, BeginsHead, HasNoBody, HasNoRecord, body_at, before_body, with_pictures}
use Rattle.kishu_journal.proofs.Gates.{one_body, body_there}

-- the head and the pictures of a record stand in its body
head-there : (body : List ℕ) (r : Record) → body ≡ body_of r → body ≡ four (length (head_of r.entry)) ++ (head_of r.entry ++ flat_map (λ p. p) r.pictures)
unfolding body_of
head-there body r same = same

-- four bytes that spell a longer head than there is
cut-off : (body rest head pictures : List ℕ) (n : ℕ) → body ≡ four n ++ rest → n < 2 ^ 32 → length rest < n → length head < 2 ^ 32 → body ≡ four (length head) ++ (head ++ pictures) → ⊥
cut-off body rest head pictures n is fits few short same =
    let cut = four-unique n (length head) rest (head ++ pictures) fits short (sym is ∙ same) in
    omega (arith, few, cut.0, ap length cut.1, length-append head pictures)

-- ---- the body behind a gate

module _ (file : List ℕ) (at size : ℕ) (here : BeginsBody (drop at file) (body_at file at size)) (inside : at + before_body + size < length file) where
  behind : drop 4 (drop (at + 9) file) ≡ drop (at + 13) file
  behind = drop-drop 4 (at + 9) file ∙ ap (λ (n : ℕ). drop n file) (omega arith)

  long : length (body_at file at size) ≡ size
  long = length-take-le size (drop (at + 9) file) (omega (arith, length-drop (at + 9) file, inside))

  -- a record there has this body
  same-body : (r : Record) → BeginsBody (open_gate ∷ (framed (body_at file at size) ++ here.0)) (body_of r) → body_at file at size ≡ body_of r
  same-body r b = one_body (open_gate ∷ (framed (body_at file at size) ++ here.0)) (body_at file at size) (body_of r) (here.0, refl, here.2, here.3) b

  pub too-short : size < 4 → HasNoBody file at
  too-short few = record {
    rest = framed (body_at file at size) ++ here.0;
    split = here.1;
    none = λ r rules b. omega (arith, few, long, ap length (same-body r b), length-body r);
  }

  module _ (first : List ℕ) (n : ℕ) (read : first ≡ take 4 (drop (at + 9) file)) (spells : four n ≡ first) (room : 4 ≤ size) where
    pub head-too-long : n < 2 ^ 32 → size - 4 < n → HasNoBody file at
    head-too-long fits few = record {
      rest = framed (body_at file at size) ++ here.0;
      split = here.1;
      none = λ r rules b. (
          let body = body_at file at size in
          let start : take 4 body ≡ four n = take-take 4 size (drop (at + 9) file) room ∙ sym read ∙ sym spells in
          let is : body ≡ four n ++ drop 4 body = sym (take-append-drop 4 body) ∙ ap (λ (l : List ℕ). l ++ drop 4 body) start in
          cut-off body (drop 4 body) (head_of r.entry) (flat_map (λ p. p) r.pictures) n is fits (omega (arith, few, length-drop 4 body, long)) (entry-is r rules).short (head-there body r (same-body r b)));
    }

    pub begins-head : (head : List ℕ) → n ≤ size - 4 → head ≡ take n (drop (at + 13) file) → BeginsHead (drop at file) head (size - 4 - n)
    begins-head head le is =
        let k = size - 4 - n in
        let far = drop (at + 13) file in
        let pictures = take k (drop n far) in
        let head_long : length head ≡ n = ap length is ∙ length-take-le n far (omega (arith, length-drop (at + 13) file, inside, le, room)) in
        let pictures_long : length pictures ≡ k = length-take-le k (drop n far) (omega (arith, length-drop n far, length-drop (at + 13) file, inside, le, room)) in
        let size_is : size ≡ 4 + (n + k) = omega (arith, le, room) in
        let start : take 4 (drop (at + 9) file) ≡ four (length head) = sym read ∙ sym spells ∙ ap four (sym head_long) in
        let whole : body_at file at size ≡ four (length head) ++ (head ++ pictures) =
        ap (λ (m : ℕ). take m (drop (at + 9) file)) size_is
        ∙ take-add 4 (n + k) (drop (at + 9) file)
        ∙ ap (λ (l : List ℕ). l ++ take (n + k) (drop 4 (drop (at + 9) file))) start
        ∙ ap (λ (l : List ℕ). four (length head) ++ take (n + k) l) behind
        ∙ ap (λ (l : List ℕ). four (length head) ++ l) (take-add n k far ∙ ap (λ (l : List ℕ). l ++ pictures) (sym is)) in
        (pictures, pictures_long, subst (λ (b : List ℕ). BeginsBody (drop at file) b) whole here)

-- ---- the record of a head

joined-length : (pictures : List (List ℕ)) → length (flat_map (λ p. p) pictures) ≡ sum (map length pictures)
joined-length pictures = length-flat_map (λ p. p) pictures ∙ sym (sum-map length pictures)

-- the head of a record that has this body
head-is : (head pictures : List ℕ) (n : ℕ) → length pictures ≡ n → length (four (length head) ++ (head ++ pictures)) ≤ longest_body → (r : Record) → IsRecord r → four (length head) ++ (head ++ pictures) ≡ body_of r → IsHead head n r.entry
head-is head pictures n long small r rules same =
    let entry = entry-is r rules in
    let joined = flat_map (λ p. p) r.pictures in
    let fits : length head < 2 ^ 32 = omega (arith, small, length-append (four (length head)) (head ++ pictures), length-append head pictures) in
    let cut = four-unique (length head) (length (head_of r.entry)) (head ++ pictures) (head_of r.entry ++ joined) fits entry.short (head-there (four (length head) ++ (head ++ pictures)) r same) in
    let parts = append-unique head (head_of r.entry) pictures joined cut.0 cut.1 in
    record { entry = entry; is = parts.0; sum = sym (joined-length r.pictures ∙ ap sum rules.pictures) ∙ sym (ap length parts.1) ∙ long }

-- no entry of that head fits behind the records before, so no record does
pub none-fits : (file : List ℕ) (at : ℕ) (h : History) (head : List ℕ) (n : ℕ) → BeginsHead (drop at file) head n → ((e : Entry) → IsHead head n e → Follows h e → ⊥) → HasNoRecord file at h
none-fits file at h head n there none =
    let body = four (length head) ++ (head ++ there.0) in
    let here = there.2 in
    record {
      rest = framed body ++ here.0;
      split = here.1;
      none = λ r b. none r.entry (head-is head there.0 n there.1 here.3 r b.3 (one_body (open_gate ∷ (framed body ++ here.0)) body (body_of r) (here.0, refl, here.2, here.3) (body_there (open_gate ∷ (framed body ++ here.0)) h r b))) b.4;
    }

-- where no record stands, none that fits does
pub no-record : (file : List ℕ) (at : ℕ) (h : History) → HasNoBody file at → HasNoRecord file at h
no-record file at h none = record { rest = none.rest; split = none.split; none = λ r b. none.none r b.3 (body_there (open_gate ∷ none.rest) h r b) }

-- ---- pictures behind a head

-- a record's body is as long as its entry tells
pub body-long : (r : Record) → IsRecord r → length (body_of r) ≡ body_length r.entry
body-long r rules = (let sizes : sum (map length r.pictures) ≡ sum (lengths_in r.entry) = ap sum rules.pictures in omega (arith, length-body r, joined-length r.pictures, sizes))

module _ (head : List ℕ) (n : ℕ) (e : Entry) (is : IsHead head n e) where
  -- any bytes of that length are pictures of the entry, one behind another
  module _ (joined : List ℕ) (long : length joined ≡ n) where
    abbrev cut : Record
    cut = with_pictures e (cut_by (lengths_in e) joined)

    sums : sum (lengths_in e) ≡ length joined
    sums = is.sum ∙ sym long

    cut-body : four (length head) ++ (head ++ joined) ≡ body_of cut
    unfolding body_of
    cut-body = ap (λ (l : List ℕ). four (length l) ++ (l ++ joined)) is.is ∙ ap (λ (l : List ℕ). four (length (head_of e)) ++ (head_of e ++ l)) (sym (cut-joined (lengths_in e) joined sums))

    cut-rules : 4 + length head + n ≤ longest_body → IsRecord cut
    cut-rules small = record {
      rules = is.entry.rules;
      pictures = cut-lengths (lengths_in e) joined sums;
      small = omega (arith, small, long, ap length cut-body, length-append (four (length head)) (head ++ joined), length-append head joined);
    }

  pub head-length : 4 + length head + n ≡ body_length e
  head-length = (let size = ap length is.is in let all = is.sum in omega (arith, size, all))

  -- The pictures are those of the file, where it is told, and zeros else.
  pub record-there : (s : State) (at : ℕ) → 4 + length head + n ≤ longest_body → (s.tells ≡ true → BeginsHead (drop at s.file) head n) → RecordAt s at e
  record-there s at small there = elim (cases_Bool s.tells) [
    | inl told ↦ (
        let h = there told in
        record { pictures = cut_by (lengths_in e) h.0; rules = cut-rules h.0 h.1 small; there = λ t. subst (λ (b : List ℕ). BeginsBody (drop at s.file) b) (cut-body h.0 h.1) h.2 }
        )
    | inr untold ↦ (
        let z = replicate n 0 in
        let long : length z ≡ n = length-replicate n 0 in
        record { pictures = cut_by (lengths_in e) z; rules = cut-rules z long small; there = λ t. absurd (false≢true (sym untold ∙ t)) }
        )
  ]
