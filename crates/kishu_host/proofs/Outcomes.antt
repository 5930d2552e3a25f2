-- That a host in memory may leave all that the crash model allows.
use Rattle.std.proofs.Common.{◌≡◌, ◌≤◌, ◌<◌, ℕ, ◌+◌, ◌-◌, true, false, ◌&&◌, nat_le, nat_lt, min, List, [], ◌∷◌, ◌++◌, length, take, drop, get_or, slice_index, refl, ⊎_elim, sym, ◌∙◌, ap, arith, length-append, length-take, length-drop}
use Rattle.std.proofs.lemmas.List.{get_or-take, get_or-drop, get_or_append_left}
use Rattle.std.proofs.lemmas.Bool.Decides.{nat_tests}
use Rattle.std.proofs.lemmas.Bool.{cases_lt, or_from}
use Rattle.std.proofs.lemmas.Grind.{same_number_lists}
use Rattle.kishu_host.specs.Host.{Torn, overwrite}
use Rattle.kishu_host.specs.Story.{Event, Wrote, Synced, Put, file_after, is_valid, MayLeave}
use Rattle.kishu_host.specs.Laws.{length-overwrite}
use Rattle.kishu_host.specs.Crash.{Range, range, is_written, greatest_length, MayHold, synced_file, ranges_since}
use Rattle.kishu_host.proofs.Fills.{overwrite-inside, overwrite-outside}

-- The file never shrinks between syncs.
pub greatest-is-length : (first : List ℕ) (es : List Event) → is_valid first es ≡ true → greatest_length (length (synced_file first es)) (ranges_since es) ≡ length (file_after first es)
greatest-is-length first [] valid = refl
greatest-is-length first (Wrote at bytes ∷ es) valid =
    let le : at ≤ length (file_after first es) = grind (arith, nat_tests) in
    let rest : is_valid first es ≡ true = grind (arith, nat_tests) in
    omega (arith, greatest-is-length first es rest, length-overwrite at bytes (file_after first es) le)
greatest-is-length first (Synced ∷ es) valid = refl
greatest-is-length first (Put bytes ∷ es) valid = greatest-is-length first es valid

-- with no range, nothing but the file
held-same : (file c : List ℕ) → MayHold file [] c → c ≡ file
held-same file c held =
    same_number_lists c file (omega (arith, held.no_shorter, held.no_longer)) (λ k lt. held.kept k (omega (arith, lt, held.no_longer)) refl)

-- What stood before the last write, for an outcome of it: the outcome, cut to the length before, with the synced bytes back in the range.
module _ (synced : List ℕ) (rs : List Range) (at n g : ℕ) (c : List ℕ) (held : MayHold synced (range at n ∷ rs) c)
    (greatest : greatest_length (length synced) rs ≡ g) (longer : length synced ≤ g) (le : at ≤ g) where
  cut : List ℕ
  cut = take g c

  length-cut : length cut ≡ min g (length c)
  unfolding cut
  length-cut = length-take g c

  base : List ℕ
  base = synced ++ drop (length synced) cut

  length-base : length base ≡ length cut
  unfolding base
  length-base = omega (arith, length-append synced (drop (length synced) cut), length-drop (length synced) cut, length-cut, held.no_shorter, longer)

  piece : List ℕ
  piece = take n (drop at base)

  length-piece : length piece ≡ min n (length cut - at)
  unfolding piece
  length-piece = omega (arith, length-take n (drop at base), length-drop at base, length-base)

  before : List ℕ
  before = overwrite at piece cut

  cut-at : (i : ℕ) → i < g → slice_index cut i ≡ slice_index c i
  unfolding cut
  cut-at i lt = get_or-take g c i 0 lt

  piece-at : (i : ℕ) → at ≤ i → i < at + length piece → i < length synced → slice_index piece (i - at) ≡ slice_index synced i
  unfolding piece base
  piece-at i ge lt low =
      get_or-take n (drop at base) (i - at) 0 (omega (arith, ge, lt, length-piece))
      ∙ get_or-drop at base (i - at) 0
      ∙ ap (λ k. get_or base k 0) (omega (arith, ge))
      ∙ get_or_append_left synced (drop (length synced) cut) 0 i low

  module _ (inside : at ≤ length cut) where
    length-before : length before ≡ length cut
    unfolding before
    length-before = omega (arith, length-overwrite at piece cut inside, length-piece)

    before-outside : (i : ℕ) → (nat_le at i && nat_lt i (at + length piece)) ≡ false → slice_index before i ≡ slice_index cut i
    unfolding before
    before-outside i out = overwrite-outside at piece cut i inside out

    before-inside : (i : ℕ) → at ≤ i → i < at + length piece → slice_index before i ≡ slice_index piece (i - at)
    unfolding before
    before-inside i ge lt = overwrite-inside at piece cut i inside ge lt

    before-kept : (i : ℕ) → i < length synced → is_written i rs ≡ false → slice_index before i ≡ slice_index synced i
    before-kept i low out =
        ⊎_elim (λ here.
        let out-here : (nat_le at i && nat_lt i (at + length piece)) ≡ false = grind (arith, nat_tests) in
        let out-range : (nat_le at i && nat_lt i (at + n)) ≡ false = grind (arith, nat_tests) in
        before-outside i out-here ∙ cut-at i (omega (arith, low, longer))
        ∙ held.kept i low (or_from (nat_le at i && nat_lt i (at + n)) (is_written i rs) out-range out))
        (λ ge. ⊎_elim (λ lt. before-inside i ge lt ∙ piece-at i ge lt low)
        (λ past.
        let out-here : (nat_le at i && nat_lt i (at + length piece)) ≡ false = grind (arith, nat_tests) in
        let far : at + n ≤ i = omega (arith, past, length-piece, low, length-cut, held.no_shorter, longer) in
        let out-range : (nat_le at i && nat_lt i (at + n)) ≡ false = grind (arith, nat_tests) in
        before-outside i out-here ∙ cut-at i (omega (arith, low, longer))
        ∙ held.kept i low (or_from (nat_le at i && nat_lt i (at + n)) (is_written i rs) out-range out))
        (cases_lt i (at + length piece)))
        (cases_lt i at)

    before-held : MayHold synced rs before
    before-held = record {
      kept = before-kept;
      no_shorter = omega (arith, length-before, length-cut, held.no_shorter, longer);
      no_longer = omega (arith, length-before, length-cut, greatest);
    }

    before-torn : Torn at n before c
    before-torn = record {
      before = same_number_lists (take at c) (take at before) (omega (arith, length-take at c, length-take at before, length-before, length-cut, inside))
          (λ k lt.
          let low : k < at = omega (arith, lt, length-take at c) in
          let out-here : (nat_le at k && nat_lt k (at + length piece)) ≡ false = grind (arith, nat_tests) in
          get_or-take at c k 0 low ∙ sym (get_or-take at before k 0 low ∙ before-outside k out-here ∙ cut-at k (omega (arith, low, le))));
      after = same_number_lists (drop (at + n) c) (drop (at + n) before)
          (omega (arith, length-drop (at + n) c, length-drop (at + n) before, length-before, length-cut, held.no_longer, greatest))
          (λ k lt.
          let some : (at + n) + k < length c = omega (arith, lt, length-drop (at + n) c) in
          let low : (at + n) + k < g = omega (arith, some, held.no_longer, greatest) in
          let out-here : (nat_le at ((at + n) + k) && nat_lt ((at + n) + k) (at + length piece)) ≡ false = grind (arith, nat_tests, length-piece) in
          get_or-drop (at + n) c k 0 ∙ sym (get_or-drop (at + n) before k 0 ∙ before-outside ((at + n) + k) out-here ∙ cut-at ((at + n) + k) low));
      no_shorter = omega (arith, length-before, length-cut);
      no_longer = omega (arith, length-before, length-cut, held.no_longer, greatest);
    }

  -- where the outcome ends before the range, it stood before too
  short-held : length cut < at → MayHold synced rs c
  short-held short = record {
    kept = λ i low out.
        let out-range : (nat_le at i && nat_lt i (at + n)) ≡ false = grind (arith, nat_tests, length-cut, held.no_shorter, short, le) in
        held.kept i low (or_from (nat_le at i && nat_lt i (at + n)) (is_written i rs) out-range out);
    no_shorter = held.no_shorter;
    no_longer = omega (arith, greatest, short, length-cut, le);
  }

  pub one-before : (d : List ℕ) × MayHold synced rs d × Torn at n d c
  one-before =
      ⊎_elim (λ short. (c, short-held short, record { before = refl; after = refl; no_shorter = omega arith; no_longer = omega arith }))
      (λ inside. (before, before-held inside, before-torn inside)) (cases_lt (length cut) at)

synced-shorter : (first : List ℕ) (es : List Event) → is_valid first es ≡ true → length (synced_file first es) ≤ length (file_after first es)
synced-shorter first [] valid = omega arith
synced-shorter first (Wrote at bytes ∷ es) valid =
    let le : at ≤ length (file_after first es) = grind (arith, nat_tests) in
    let rest : is_valid first es ≡ true = grind (arith, nat_tests) in
    omega (arith, synced-shorter first es rest, length-overwrite at bytes (file_after first es) le)
synced-shorter first (Synced ∷ es) valid = omega arith
synced-shorter first (Put bytes ∷ es) valid = synced-shorter first es valid

pub may_hold-may_leave : (first : List ℕ) (es : List Event) (c : List ℕ) → is_valid first es ≡ true → MayHold (synced_file first es) (ranges_since es) c → MayLeave first es c
may_hold-may_leave first [] c valid held = held-same first c held
may_hold-may_leave first (Wrote at bytes ∷ es) c valid held =
    let le : at ≤ length (file_after first es) = grind (arith, nat_tests) in
    let rest : is_valid first es ≡ true = grind (arith, nat_tests) in
    let one = one-before (synced_file first es) (ranges_since es) at (length bytes) (length (file_after first es)) c held (greatest-is-length first es rest) (synced-shorter first es rest) le in
    (one.0, may_hold-may_leave first es one.0 rest one.1, one.2)
may_hold-may_leave first (Synced ∷ es) c valid held = held-same (file_after first es) c held
may_hold-may_leave first (Put bytes ∷ es) c valid held = may_hold-may_leave first es c valid held
