-- Store files: which graph they hold, and which are broken or foreign, worked out by hand on the definitions.
use Rattle.std.proofs.Common.{◌≡◌, ◌<◌, ◌≤◌, ◌^◌, ◌⊎◌, ⊎_elim, ℕ, inl, inr, List, [], ◌∷◌, ◌++◌, length, codes, refl, sym, ◌∙◌, ap, subst, arith, length-append, append_assoc, slice_index}
use Rattle.std.proofs.lemmas.Nat.{from_be_bytes-to_be_bytes_8}
use Rattle.std.specs.Prelude.{get_or}
use Rattle.std.specs.Char.{encode_utf8}
use Rattle.std.specs.List.Sorted.{IsStrictlySortedBy}
use Rattle.std.specs.Int.{w64, to_be_bytes, from_be_bytes}
use Rattle.kishu_bytes_laws.specs.NumberLaws.{append-unique}
use Rattle.kishu_language.specs.declared.profile.Profile.TheVariants.{One}
use Rattle.kishu_store.specs.Entries.{Entry, commit, move, name, to_commit, to_branch, Record, plain}
use Rattle.kishu_store.specs.EntryBytes.{head_of, body_of}
use Rattle.kishu_store.specs.Graph.{new_graph}
use Rattle.kishu_store.specs.Histories.{History, new_history, Follows, AreRecords}
use Rattle.kishu_store.specs.Holds.{header, framed, front, end_of, graph_by, history_by, open_gate, Ends, Holds, BeginsRecord, IsBroken, IsForeign}
use Rattle.kishu_store.specs.Limits.{longest_body}
use Rattle.kishu_store.specs.Rules.{IsCell, IsRecord}
use Rattle.kishu_store_laws.specs.EntryLaws.{body-unique}
use Rattle.kishu_store_laws.specs.Laws.{length-framed, framed-unique}

-- ---- a store of two records: a commit with the cell a, and the branch try at it

abbrev first : Record
first = plain (commit 0 One (codes "a" ∷ []) [] [])

abbrev second : Record
second = plain (name (codes "try") 1)

abbrev both : List ℕ
both =
    codes "KISHU-JOURNAL-1\n"
    ++ 165 ∷ 0 ∷ 0 ∷ 0 ∷ 0 ∷ 0 ∷ 0 ∷ 0 ∷ 27 ∷ 0 ∷ 0 ∷ 0 ∷ 23 ∷ 1 ∷ 0 ∷ 0 ∷ 0 ∷ 0 ∷ 1 ∷ 0 ∷ 0 ∷ 0 ∷ 1 ∷ 0 ∷ 0 ∷ 0 ∷ 1 ∷ 97 ∷ 0 ∷ 0 ∷ 0 ∷ 0 ∷ 0 ∷ 0 ∷ 0 ∷ 0
    ∷ 165 ∷ 0 ∷ 0 ∷ 0 ∷ 0 ∷ 0 ∷ 0 ∷ 0 ∷ 13 ∷ 0 ∷ 0 ∷ 0 ∷ 9 ∷ 3 ∷ 3 ∷ 116 ∷ 114 ∷ 121 ∷ 0 ∷ 0 ∷ 0 ∷ 1 ∷ 0 ∷ []

both_is : both ≡ front (first ∷ second ∷ []) ++ 0 ∷ []
unfolding header framed head_of body_of
both_is = refl

place_of_second : end_of (first ∷ []) ≡ 52
unfolding header framed head_of body_of
place_of_second = refl

first_fits : Follows new_history first.entry
first_fits = record { graph = record { room = omega arith; goes_on = refl }; table = (record { dropped = refl; apart = refl; small = omega arith }, tt) }

second_fits : Follows (history_by (first ∷ [])) second.entry
second_fits = record { graph = record { room = omega arith; goes_on = (refl, refl, omega arith) }; table = tt }

cell_a : IsCell (codes "a")
unfolding encode_utf8
cell_a = record { short = omega arith; utf8 = (codes "a", (refl, refl)) }

first_record : IsRecord first
unfolding head_of body_of IsStrictlySortedBy
first_record = record { rules = record { parent = omega arith; profile = refl; some = omega arith; cells = (cell_a, tt); dropped = record { each = tt; rise = tt }; stored = record { each = tt; rise = tt } }; pictures = refl; small = omega arith }

second_record : IsRecord second
unfolding head_of body_of encode_utf8
second_record = record { rules = (record { short = omega arith; utf8 = (codes "try", (refl, refl)) }, omega arith); pictures = refl; small = omega arith }

are_both : AreRecords new_history (first ∷ second ∷ [])
are_both = (first_record, first_fits, (second_record, second_fits, tt))

ends_both : Ends both (first ∷ second ∷ [])
ends_both = record { gate = 0; rest = []; split = both_is; closed = λ e. absurd (omega (arith, e)); fit = are_both }

holds_both : Holds both (graph_by (first ∷ second ∷ []))
holds_both = inr (omega arith, first ∷ second ∷ [], ends_both, refl)

-- Behind a closed gate nothing is read.
holds_behind : Holds (codes "KISHU-JOURNAL-1\n" ++ 60 ∷ codes "no record") new_graph
unfolding header
holds_behind = inr (omega arith, [], record { gate = 60; rest = codes "no record"; split = refl; closed = λ e. absurd (omega (arith, e)); fit = tt }, refl)

-- ---- broken files

-- What stands behind an open gate is no record: it has fewer than nine bytes,
too_few : (rest : List ℕ) → length rest < 9 → (g : History) (r : Record) → BeginsRecord (open_gate ∷ rest) g r → ⊥
too_few rest few g r b = absurd (omega (arith, few, ap length b.1, length-append (framed (body_of r)) b.0, length-framed (body_of r), b.2))

-- or no byte stands behind the body,
no_gate : (body : List ℕ) → length body ≤ longest_body → (g : History) (r : Record) → BeginsRecord (open_gate ∷ (framed body ++ [])) g r → ⊥
no_gate body small g r b =
    let same : framed body ++ [] ≡ framed (body_of r) ++ b.0 = cc (b.1) in
    absurd (omega (arith, ap length (framed-unique body (body_of r) [] b.0 small b.3.small same).1, b.2))

-- or the length is more than a body may have, or more than there is,
other_length : (size : ℕ) (rest : List ℕ) → size < 2 ^ 64 → (longest_body < size) ⊎ (length rest ≤ size) → (g : History) (r : Record) → BeginsRecord (open_gate ∷ (to_be_bytes w64 size ++ rest)) g r → ⊥
unfolding framed
other_length size rest far which g r b =
    let same : to_be_bytes w64 size ++ rest ≡ to_be_bytes w64 (length (body_of r)) ++ (body_of r ++ b.0) = cc (b.1) ∙ append_assoc (to_be_bytes w64 (length (body_of r))) (body_of r) b.0 in
    let parts = append-unique (to_be_bytes w64 size) (to_be_bytes w64 (length (body_of r))) rest (body_of r ++ b.0) refl same in
    let is : size ≡ length (body_of r) =
    sym (from_be_bytes-to_be_bytes_8 size far) ∙ ap (λ (l : List ℕ). from_be_bytes w64 l) parts.0 ∙ from_be_bytes-to_be_bytes_8 (length (body_of r)) (omega (arith, b.3.small)) in
    ⊎_elim (λ (long : longest_body < size). absurd (omega (arith, long, is, b.3.small)))
    (λ (short : length rest ≤ size). absurd (omega (arith, short, is, ap length parts.1, length-append (body_of r) b.0, b.2))) which

-- or no record that fits has this body.
no_record : (body rest : List ℕ) (g : History) → length body ≤ longest_body → ((r : Record) → IsRecord r → Follows g r.entry → body ≡ body_of r → ⊥) → (r : Record) → BeginsRecord (open_gate ∷ (framed body ++ rest)) g r → ⊥
no_record body rest g small none r b =
    let same : framed body ++ rest ≡ framed (body_of r) ++ b.0 = cc (b.1) in
    none r b.3 b.4 (framed-unique body (body_of r) rest b.0 small b.3.small same).0

broken_end : IsBroken (front [] ++ 165 ∷ 0 ∷ []) 16
unfolding header
broken_end = record { long = omega arith; before = []; rest = 0 ∷ []; split = refl; fit = tt; place = refl; none = too_few (0 ∷ []) (omega arith) new_history }

broken_gate : IsBroken (front [] ++ 165 ∷ (framed (body_of first) ++ [])) 16
unfolding header framed head_of body_of
broken_gate = record { long = omega arith; before = []; rest = framed (body_of first) ++ []; split = refl; fit = tt; place = refl; none = no_gate (body_of first) (omega arith) new_history }

broken_huge : IsBroken (front [] ++ 165 ∷ (to_be_bytes w64 1073741825 ++ 0 ∷ [])) 16
unfolding header
broken_huge = record { long = omega arith; before = []; rest = to_be_bytes w64 1073741825 ++ 0 ∷ []; split = refl; fit = tt; place = refl; none = other_length 1073741825 (0 ∷ []) (omega arith) (inl (omega arith)) new_history }

broken_cut : IsBroken (front [] ++ 165 ∷ (to_be_bytes w64 3 ++ 0 ∷ 0 ∷ 0 ∷ [])) 16
unfolding header
broken_cut = record { long = omega arith; before = []; rest = to_be_bytes w64 3 ++ 0 ∷ 0 ∷ 0 ∷ []; split = refl; fit = tt; place = refl; none = other_length 3 (0 ∷ 0 ∷ 0 ∷ []) (omega arith) (inr (omega arith)) new_history }

-- The second record is cut.
broken_second : IsBroken (front (first ∷ []) ++ 165 ∷ 0 ∷ 0 ∷ []) 52
unfolding header framed head_of body_of
broken_second = record { long = omega arith; before = first ∷ []; rest = 0 ∷ 0 ∷ []; split = refl; fit = (first_record, first_fits, tt); place = refl; none = too_few (0 ∷ 0 ∷ []) (omega arith) (history_by (first ∷ [])) }

-- A record that keeps all rules and doesn't fit is none.
module _ (wrong : Record) (is : IsRecord wrong) (unfit : Follows new_history wrong.entry → ⊥) where
  pub unfit_body : (r : Record) → IsRecord r → Follows new_history r.entry → body_of wrong ≡ body_of r → ⊥
  unfit_body r rules fits same = unfit (subst (λ (x : Record). Follows new_history x.entry) (sym (body-unique wrong r is rules same)) fits)

  pub broken_first : IsBroken (front [] ++ 165 ∷ (framed (body_of wrong) ++ 0 ∷ [])) 16
  unfolding header
  broken_first = record {
    long = omega (arith, length-framed (body_of wrong), length-append (framed (body_of wrong)) (0 ∷ []));
    before = [];
    rest = framed (body_of wrong) ++ 0 ∷ [];
    split = refl;
    fit = tt;
    place = refl;
    none = no_record (body_of wrong) (0 ∷ []) new_history is.small unfit_body;
  }

-- a commit whose parent isn't the head's, a move to a commit that isn't there, and a branch at one that isn't there
abbrev other_parent : Record
other_parent = plain (commit 1 One (codes "a" ∷ []) [] [])

abbrev nowhere : Record
nowhere = plain (move (to_commit 1))

abbrev no_commit : Record
no_commit = plain (name (codes "try") 1)

other_parent_record : IsRecord other_parent
unfolding head_of body_of IsStrictlySortedBy
other_parent_record = record { rules = record { parent = omega arith; profile = refl; some = omega arith; cells = (cell_a, tt); dropped = record { each = tt; rise = tt }; stored = record { each = tt; rise = tt } }; pictures = refl; small = omega arith }

nowhere_record : IsRecord nowhere
unfolding head_of body_of
nowhere_record = record { rules = omega arith; pictures = refl; small = omega arith }

broken_parent : IsBroken (front [] ++ 165 ∷ (framed (body_of other_parent) ++ 0 ∷ [])) 16
broken_parent = broken_first other_parent other_parent_record (λ f. absurd (omega (arith, f.graph.goes_on)))

broken_move : IsBroken (front [] ++ 165 ∷ (framed (body_of nowhere) ++ 0 ∷ [])) 16
broken_move = broken_first nowhere nowhere_record (λ f. absurd (omega (arith, f.graph.goes_on)))

broken_name : IsBroken (front [] ++ 165 ∷ (framed (body_of no_commit) ++ 0 ∷ [])) 16
broken_name = broken_first no_commit second_record (λ f. absurd (omega (arith, f.graph.goes_on.2)))

-- The first byte of the head is no kind of record.
by_kind : (e : Entry) (ps : List (List ℕ)) → 0 ∷ 0 ∷ 0 ∷ 1 ∷ 4 ∷ [] ≡ body_of (record { entry = e; pictures = ps }) → ⊥
unfolding head_of body_of
by_kind (commit p f cs ds ss) ps same = let d : 4 ≡ 1 = ap (λ (l : List ℕ). get_or l 4 0) same in absurd (omega (arith, d))
by_kind (move (to_commit n)) ps same = let d : 4 ≡ 2 = ap (λ (l : List ℕ). get_or l 4 0) same in absurd (omega (arith, d))
by_kind (move (to_branch t)) ps same = let d : 4 ≡ 2 = ap (λ (l : List ℕ). get_or l 4 0) same in absurd (omega (arith, d))
by_kind (name t n) ps same = let d : 4 ≡ 3 = ap (λ (l : List ℕ). get_or l 4 0) same in absurd (omega (arith, d))

other_kind : (r : Record) → IsRecord r → Follows new_history r.entry → 0 ∷ 0 ∷ 0 ∷ 1 ∷ 4 ∷ [] ≡ body_of r → ⊥
other_kind r is fits same = by_kind r.entry r.pictures same

broken_kind : IsBroken (front [] ++ 165 ∷ (framed (0 ∷ 0 ∷ 0 ∷ 1 ∷ 4 ∷ []) ++ 0 ∷ [])) 16
unfolding header framed
broken_kind = record {
  long = omega arith;
  before = [];
  rest = framed (0 ∷ 0 ∷ 0 ∷ 1 ∷ 4 ∷ []) ++ 0 ∷ [];
  split = refl;
  fit = tt;
  place = refl;
  none = no_record (0 ∷ 0 ∷ 0 ∷ 1 ∷ 4 ∷ []) (0 ∷ []) new_history (omega arith) other_kind;
}

-- another version of the header, in a file that is too long to be begun anew
foreign_version : IsForeign (codes "KISHU-JOURNAL-2\n" ++ 0 ∷ 0 ∷ [])
unfolding header
foreign_version = (omega arith, λ rest e. let d : 50 ≡ 49 = ap (λ (l : List ℕ). slice_index l 14) e in absurd (omega (arith, d)))
