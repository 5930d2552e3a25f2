-- That what hosts say of stops keeps to the crash model.
--
-- `may_hold-synced`, `may_hold-write`: what the trait's clauses on a sync and on a write allow, the crash model allows.
-- `may_leave-may_hold`: so it is with all that a host in memory may leave.
use Rattle.std.specs.Prelude.{◌≡◌, ◌≤◌, ◌<◌, ◌⊎◌, ℕ, ◌+◌, ◌-◌, false, ◌&&◌, nat_le, nat_lt, List, [], ◌∷◌, length, get_or, slice_index, refl}
use Rattle.std.proofs.Common.{⊎_elim, sym, ◌∙◌, ap, subst, arith}
use Rattle.std.proofs.lemmas.List.{get_or-take, get_or-drop}
use Rattle.std.proofs.lemmas.Bool.Decides.{nat_tests}
use Rattle.std.proofs.lemmas.Bool.{or_parts}
use Rattle.kishu_host.specs.Host.{Torn}
use Rattle.kishu_host.specs.Story.{Event, Wrote, Synced, Put, file_after, MayLeave}
use Rattle.kishu_host.specs.Crash.{Range, range, is_written, MayHold, synced_file, ranges_since}

-- a place outside a range is before it or after it
outside_cases : (i at n : ℕ) → (nat_le at i && nat_lt i (at + n)) ≡ false → (i < at) ⊎ (at + n ≤ i)
outside_cases i at n out = grind (arith, nat_tests)

torn-kept : (at n : ℕ) (d c : List ℕ) → Torn at n d c → (i : ℕ) → (nat_le at i && nat_lt i (at + n)) ≡ false → slice_index c i ≡ slice_index d i
torn-kept at n d c torn i out =
    ⊎_elim (λ lt. sym (get_or-take at c i 0 lt) ∙ ap (λ (l : List ℕ). get_or l i 0) torn.before ∙ get_or-take at d i 0 lt)
    (λ le. let e : (at + n) + (i - (at + n)) ≡ i = omega (arith, le) in
    sym (ap (λ k. get_or c k 0) e) ∙ sym (get_or-drop (at + n) c (i - (at + n)) 0) ∙ ap (λ (l : List ℕ). get_or l (i - (at + n)) 0) torn.after
    ∙ get_or-drop (at + n) d (i - (at + n)) 0 ∙ ap (λ k. get_or d k 0) e)
    (outside_cases i at n out)

-- One write more: what the host's clause on a write allows, the crash model allows.
pub may_hold-write : (synced : List ℕ) (ranges : List Range) (at n : ℕ) (d c : List ℕ) → MayHold synced ranges d → Torn at n d c → MayHold synced (range at n ∷ ranges) c
may_hold-write synced ranges at n d c held torn = record {
  kept = λ i lt out.
      let parts = or_parts (nat_le at i && nat_lt i (at + n)) (is_written i ranges) out in
      torn-kept at n d c torn i parts.0 ∙ held.kept i lt parts.1;
  no_shorter = omega (arith, held.no_shorter, torn.no_shorter);
  no_longer = omega (arith, held.no_longer, torn.no_longer);
}

pub may_hold-synced : (file : List ℕ) → MayHold file [] file
may_hold-synced file = record { kept = λ i lt out. refl; no_shorter = omega arith; no_longer = omega arith }

-- Nothing that a stop may leave breaks the crash model.
pub may_leave-may_hold : (first : List ℕ) (es : List Event) (c : List ℕ) → MayLeave first es c → MayHold (synced_file first es) (ranges_since es) c
may_leave-may_hold first [] c left = subst (MayHold first []) (sym left) (may_hold-synced first)
may_leave-may_hold first (Wrote at bytes ∷ es) c left = may_hold-write (synced_file first es) (ranges_since es) at (length bytes) left.0 c (may_leave-may_hold first es left.0 left.1) left.2
may_leave-may_hold first (Synced ∷ es) c left = subst (MayHold (file_after first es) []) (sym left) (may_hold-synced (file_after first es))
may_leave-may_hold first (Put bytes ∷ es) c left = may_leave-may_hold first es c left
