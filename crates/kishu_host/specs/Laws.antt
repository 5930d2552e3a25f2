-- What holds of each story, by induction on its events.
--
-- `valid-reads_now`, `now_is_since`, `only_now_since`: the laws of the trait `Host`. `torn_of-may_leave`: a stop may leave the torn file.
use Rattle.std.specs.Prelude.{◌≡◌, ◌≤◌, ℕ, ◌+◌, true, max, List, [], ◌∷◌, ◌++◌, length, take, drop, refl}
use Rattle.std.proofs.Common.{inl, inr, ◌∙◌, ap, subst, arith, length-append, length-take, length-drop}
use Rattle.std.proofs.lemmas.List.{take_at, drop_at, length-take-le, append_assoc}
use Rattle.std.proofs.lemmas.Bool.Decides.{nat_tests}
use Rattle.std.specs.Prelude.{replicate}
use Rattle.std.proofs.lemmas.List.{length-replicate}
use Rattle.kishu_host.specs.Host.{Torn, overwrite}
use Rattle.kishu_host.specs.Story.{Event, Wrote, Synced, Put, file_after, out_after, is_valid, MayLeave, LeftSince, torn_of}

pub length-overwrite : (at : ℕ) (bytes f : List ℕ) → at ≤ length f → length (overwrite at bytes f) ≡ max (length f) (at + length bytes)
length-overwrite at bytes f le =
    simp (length-append, length-take, length-drop) (omega arith)

pub torn-overwrite : (at : ℕ) (bytes f : List ℕ) → at ≤ length f → Torn at (length bytes) f (overwrite at bytes f)
torn-overwrite at bytes f le =
    let front : length (take at f) ≡ at = length-take-le at f le in
    record {
      before = ap (λ (l : List ℕ). take at l) (append_assoc (take at f) bytes (drop (at + length bytes) f))
          ∙ take_at (take at f) (bytes ++ drop (at + length bytes) f) at front;
      after = drop_at (take at f ++ bytes) (drop (at + length bytes) f) (at + length bytes) (omega (arith, length-append (take at f) bytes, front));
      no_shorter = omega (arith, length-overwrite at bytes f le);
      no_longer = omega (arith, length-overwrite at bytes f le);
    }

pub valid-reads_now : (first : List ℕ) (es : List Event) → is_valid first es ≡ true → MayLeave first es (file_after first es)
valid-reads_now first [] valid = refl
valid-reads_now first (Wrote at bytes ∷ es) valid =
    let le : at ≤ length (file_after first es) = grind (arith, nat_tests) in
    let rest : is_valid first es ≡ true = grind (arith, nat_tests) in
    (file_after first es, valid-reads_now first es rest, torn-overwrite at bytes (file_after first es) le)
valid-reads_now first (Synced ∷ es) valid = refl
valid-reads_now first (Put bytes ∷ es) valid = valid-reads_now first es valid

pub now_is_since : (first : List ℕ) (es : List Event) (t : ℕ) (c : List ℕ) → MayLeave first es c → LeftSince first es t c (out_after es)
now_is_since first [] t c now = (now, refl)
now_is_since first (e ∷ es) t c now = inl (now, refl)

pub only_now_since : (first : List ℕ) (es : List Event) (c o : List ℕ) → LeftSince first es (length es) c o → MayLeave first es c × (o ≡ out_after es)
only_now_since first [] c o left = left
only_now_since first (e ∷ es) c o (inl now) = now
only_now_since first (e ∷ es) c o (inr before) = absurd (omega (arith, before.0))

pub length-torn_of : (fill : ℕ) (first : List ℕ) (es : List Event) → is_valid first es ≡ true → length (torn_of fill first es) ≡ length (file_after first es)
length-torn_of fill first [] valid = refl
length-torn_of fill first (Wrote at bytes ∷ es) valid =
    let le : at ≤ length (file_after first es) = grind (arith, nat_tests) in
    let rest : is_valid first es ≡ true = grind (arith, nat_tests) in
    let same = length-torn_of fill first es rest in
    omega (arith, length-overwrite at bytes (file_after first es) le, length-overwrite at (replicate (length bytes) fill) (torn_of fill first es) (omega (arith, le, same)), same, length-replicate (length bytes) fill)
length-torn_of fill first (Synced ∷ es) valid = refl
length-torn_of fill first (Put bytes ∷ es) valid = length-torn_of fill first es valid

-- a stop may leave it
pub torn_of-may_leave : (fill : ℕ) (first : List ℕ) (es : List Event) → is_valid first es ≡ true → MayLeave first es (torn_of fill first es)
torn_of-may_leave fill first [] valid = refl
torn_of-may_leave fill first (Wrote at bytes ∷ es) valid =
    let le : at ≤ length (file_after first es) = grind (arith, nat_tests) in
    let rest : is_valid first es ≡ true = grind (arith, nat_tests) in
    let torn = torn-overwrite at (replicate (length bytes) fill) (torn_of fill first es) (omega (arith, le, length-torn_of fill first es rest)) in
    (torn_of fill first es, torn_of-may_leave fill first es rest, subst (λ (n : ℕ). Torn at n (torn_of fill first es) (torn_of fill first (Wrote at bytes ∷ es))) (length-replicate (length bytes) fill) torn)
torn_of-may_leave fill first (Synced ∷ es) valid = refl
torn_of-may_leave fill first (Put bytes ∷ es) valid = torn_of-may_leave fill first es valid
