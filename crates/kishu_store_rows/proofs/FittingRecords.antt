-- Records that follow one another, and what is no record. Made by tools/rows/file_rows.py.
use Rattle.std.specs.Prelude.{◌≡◌, ℕ, List, [], ◌∷◌, ◌++◌, Some, None, refl}
use Rattle.std.specs.Prelude.{get_or, length, ◌^◌, ◌<◌, ◌≤◌, ◌⊎◌}
use Rattle.std.proofs.Common.{⊎_elim, sym, ◌∙◌, ap, subst, arith, length-append, append_assoc}
use Rattle.std.proofs.lemmas.Nat.{from_be_bytes-to_be_bytes_8}
use Rattle.std.specs.Char.{encode_utf8}
use Rattle.std.specs.List.Sorted.{IsStrictlySortedBy}
use Rattle.std.specs.Int.{w64, to_be_bytes, from_be_bytes}
use Rattle.kishu_bytes_laws.specs.NumberLaws.{append-unique}
use Rattle.kishu_language.specs.tokens.Names.{reserved_words}
use Rattle.kishu_store.specs.Entries.{Entry, commit, move, name, to_commit, to_branch, Record}
use Rattle.kishu_store.specs.EntryBytes.{head_of, body_of}
use Rattle.kishu_store.specs.Histories.{History, new_history, Follows, AreRecords}
use Rattle.kishu_store.specs.Holds.{header, framed, history_by, open_gate, BeginsRecord}
use Rattle.kishu_store.specs.Limits.{longest_body}
use Rattle.kishu_store.specs.Rules.{IsRecord}
use Rattle.kishu_store_laws.specs.EntryLaws.{body-unique}
use Rattle.kishu_store_laws.specs.Laws.{length-framed, framed-unique}
use Rattle.kishu_store_rows.proofs.Records.{record1, record2, record3, record4, record5, record6, entry1, entry2, entry3, entry4, entry5, entry6, first0, first1, first2, first3, first4, first5, first6}

-- What stands behind an open gate is no record where it has fewer than nine bytes,
pub too_few : (rest : List ℕ) → length rest < 9 → (g : History) (r : Record) → BeginsRecord (open_gate ∷ rest) g r → ⊥
too_few rest few g r b = absurd (omega (arith, few, ap length b.1, length-append (framed (body_of r)) b.0, length-framed (body_of r), b.2))

-- where the length is more than a body may have, or no byte is left behind it,
pub other_length : (size : ℕ) (rest : List ℕ) → size < 2 ^ 64 → (longest_body < size) ⊎ (length rest ≤ size) → (g : History) (r : Record) → BeginsRecord (open_gate ∷ (to_be_bytes w64 size ++ rest)) g r → ⊥
unfolding framed
other_length size rest far which g r b =
    let same : to_be_bytes w64 size ++ rest ≡ to_be_bytes w64 (length (body_of r)) ++ (body_of r ++ b.0) = cc (b.1) ∙ append_assoc (to_be_bytes w64 (length (body_of r))) (body_of r) b.0 in
    let parts = append-unique (to_be_bytes w64 size) (to_be_bytes w64 (length (body_of r))) rest (body_of r ++ b.0) refl same in
    let is : size ≡ length (body_of r) =
    sym (from_be_bytes-to_be_bytes_8 size far) ∙ ap (λ (l : List ℕ). from_be_bytes w64 l) parts.0 ∙ from_be_bytes-to_be_bytes_8 (length (body_of r)) (omega (arith, b.3.small)) in
    ⊎_elim (λ (long : longest_body < size). absurd (omega (arith, long, is, b.3.small)))
    (λ (short : length rest ≤ size). absurd (omega (arith, short, is, ap length parts.1, length-append (body_of r) b.0, b.2))) which

-- or where no record that fits has this body.
pub no_record : (body rest : List ℕ) (g : History) → length body ≤ longest_body → ((r : Record) → IsRecord r → Follows g r.entry → body ≡ body_of r → ⊥) → (r : Record) → BeginsRecord (open_gate ∷ (framed body ++ rest)) g r → ⊥
no_record body rest g small none r b =
    let same : framed body ++ rest ≡ framed (body_of r) ++ b.0 = cc (b.1) in
    none r b.3 b.4 (framed-unique body (body_of r) rest b.0 small b.3.small same).0

-- A record that keeps all rules and doesn't fit is none.
pub unfit : (wrong : Record) → IsRecord wrong → (g : History) → (Follows g wrong.entry → ⊥) → (r : Record) → IsRecord r → Follows g r.entry → body_of wrong ≡ body_of r → ⊥
unfit wrong is g not r rules fits same = not (subst (λ (x : Record). Follows g x.entry) (sym (body-unique wrong r is rules same)) fits)

-- The first byte of a head is the number of a kind.
pub other_kind : (k : ℕ) (rest : List ℕ) → (k ≡ 1 → ⊥) → (k ≡ 2 → ⊥) → (k ≡ 3 → ⊥) → (g : History) (r : Record) → IsRecord r → Follows g r.entry → 0 ∷ 0 ∷ 0 ∷ 1 ∷ k ∷ rest ≡ body_of r → ⊥
unfolding head_of body_of
other_kind k rest one two three g r is fits same = by_kind r.entry r.pictures same
  where
    by_kind : (e : Entry) (ps : List (List ℕ)) → 0 ∷ 0 ∷ 0 ∷ 1 ∷ k ∷ rest ≡ body_of (record { entry = e; pictures = ps }) → ⊥
    by_kind (commit p f cs ds ss) ps same = one (ap (λ (l : List ℕ). get_or l 4 0) same)
    by_kind (move (to_commit n)) ps same = two (ap (λ (l : List ℕ). get_or l 4 0) same)
    by_kind (move (to_branch t)) ps same = two (ap (λ (l : List ℕ). get_or l 4 0) same)
    by_kind (name t n) ps same = three (ap (λ (l : List ℕ). get_or l 4 0) same)

pub some_none : {n : ℕ} → Some n ≡ None → ⊥
some_none e = cc

-- ---- records that follow one another

pub is_record1 : IsRecord record1
unfolding header framed head_of body_of encode_utf8 IsStrictlySortedBy reserved_words
is_record1 = record { rules = record { parent = omega arith; profile = refl; some = omega arith; cells = (record { short = omega arith; utf8 = ((120 ∷ 32 ∷ 61 ∷ 32 ∷ 91 ∷ 49 ∷ 93 ∷ 59 ∷ 32 ∷ 121 ∷ 32 ∷ 61 ∷ 32 ∷ 91 ∷ 120 ∷ 93 ∷ 59 ∷ 32 ∷ 122 ∷ 32 ∷ 61 ∷ 32 ∷ 91 ∷ 50 ∷ 93 ∷ []), (refl, refl)) }, tt); dropped = record { each = tt; rise = tt }; stored = record { each = ((record { some = omega arith; names = (refl, (refl, tt)); rise = ((refl, tt), (tt, tt)) }, omega arith), ((record { some = omega arith; names = (refl, tt); rise = (tt, tt) }, omega arith), tt)); rise = ((refl, tt), (tt, tt)) } }; pictures = refl; small = omega arith }

pub follows1 : Follows (history_by first0) entry1
unfolding head_of
follows1 = record { graph = record { room = omega arith; goes_on = refl }; table = (record { dropped = refl; apart = refl; small = omega arith }, tt) }

pub is_record2 : IsRecord record2
unfolding header framed head_of body_of encode_utf8 IsStrictlySortedBy reserved_words
is_record2 = record { rules = record { parent = omega arith; profile = refl; some = omega arith; cells = (record { short = omega arith; utf8 = ((121 ∷ 32 ∷ 61 ∷ 32 ∷ 48 ∷ []), (refl, refl)) }, tt); dropped = record { each = (record { some = omega arith; names = (refl, (refl, tt)); rise = ((refl, tt), (tt, tt)) }, tt); rise = (tt, tt) }; stored = record { each = ((record { some = omega arith; names = (refl, tt); rise = (tt, tt) }, omega arith), ((record { some = omega arith; names = (refl, tt); rise = (tt, tt) }, omega arith), tt)); rise = ((refl, tt), (tt, tt)) } }; pictures = refl; small = omega arith }

pub follows2 : Follows (history_by first1) entry2
unfolding head_of
follows2 = record { graph = record { room = omega arith; goes_on = refl }; table = (record { dropped = refl; apart = refl; small = omega arith }, tt) }

pub is_record3 : IsRecord record3
unfolding header framed head_of body_of encode_utf8 IsStrictlySortedBy reserved_words
is_record3 = record { rules = (record { short = omega arith; utf8 = ((116 ∷ 114 ∷ 121 ∷ []), (refl, refl)) }, omega arith); pictures = refl; small = omega arith }

pub follows3 : Follows (history_by first2) entry3
unfolding head_of
follows3 = record { graph = record { room = omega arith; goes_on = (refl, refl, omega arith) }; table = tt }

pub is_record4 : IsRecord record4
unfolding header framed head_of body_of encode_utf8 IsStrictlySortedBy reserved_words
is_record4 = record { rules = record { short = omega arith; utf8 = ((116 ∷ 114 ∷ 121 ∷ []), (refl, refl)) }; pictures = refl; small = omega arith }

pub follows4 : Follows (history_by first3) entry4
unfolding head_of
follows4 = record { graph = record { room = omega arith; goes_on = refl }; table = tt }

pub is_record5 : IsRecord record5
unfolding header framed head_of body_of encode_utf8 IsStrictlySortedBy reserved_words
is_record5 = record { rules = record { parent = omega arith; profile = refl; some = omega arith; cells = (record { short = omega arith; utf8 = ((119 ∷ 32 ∷ 61 ∷ 32 ∷ 122 ∷ []), (refl, refl)) }, (record { short = omega arith; utf8 = ((49 ∷ []), (refl, refl)) }, tt)); dropped = record { each = (record { some = omega arith; names = (refl, tt); rise = (tt, tt) }, tt); rise = (tt, tt) }; stored = record { each = ((record { some = omega arith; names = (refl, (refl, tt)); rise = ((refl, tt), (tt, tt)) }, omega arith), tt); rise = (tt, tt) } }; pictures = refl; small = omega arith }

pub follows5 : Follows (history_by first4) entry5
unfolding head_of
follows5 = record { graph = record { room = omega arith; goes_on = refl }; table = (record { dropped = refl; apart = refl; small = omega arith }, tt) }

pub is_record6 : IsRecord record6
unfolding header framed head_of body_of encode_utf8 IsStrictlySortedBy reserved_words
is_record6 = record { rules = omega arith; pictures = refl; small = omega arith }

pub follows6 : Follows (history_by first5) entry6
unfolding head_of
follows6 = record { graph = record { room = omega arith; goes_on = omega arith }; table = tt }

pub are0 : AreRecords new_history first0
unfolding head_of
are0 = tt

pub are1 : AreRecords new_history first1
unfolding head_of
are1 = (is_record1, follows1, tt)

pub are2 : AreRecords new_history first2
unfolding head_of
are2 = (is_record1, follows1, (is_record2, follows2, tt))

pub are3 : AreRecords new_history first3
unfolding head_of
are3 = (is_record1, follows1, (is_record2, follows2, (is_record3, follows3, tt)))

pub are4 : AreRecords new_history first4
unfolding head_of
are4 = (is_record1, follows1, (is_record2, follows2, (is_record3, follows3, (is_record4, follows4, tt))))

pub are5 : AreRecords new_history first5
unfolding head_of
are5 = (is_record1, follows1, (is_record2, follows2, (is_record3, follows3, (is_record4, follows4, (is_record5, follows5, tt)))))

pub are6 : AreRecords new_history first6
unfolding head_of
are6 = (is_record1, follows1, (is_record2, follows2, (is_record3, follows3, (is_record4, follows4, (is_record5, follows5, (is_record6, follows6, tt))))))
