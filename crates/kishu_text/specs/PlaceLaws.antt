-- Places that lie among so many: the first of them, the second, and the rest; and what stands at them.
use Rattle.std.proofs.Common.{◌≡◌, ◌∙◌, ◌<◌, ◌^◌, ap, sym, refl, arith, subst, ℕ, zero, suc, ℤ, pos, negsuc, ◌+ℤ◌, ◌≤ℤ◌, ◌<ℤ◌, nat_abs, T, Fits, w64, List, ◌∷◌, Option, Some}
use Rattle.std.specs.List.{cons_option, filter_map}
use lib.Signed.{non_neg}
use Rattle.std.proofs.lemmas.Int.{ints}
use Rattle.kishu_meaning.specs.values.Texts.{places, LieWithin}

pub first_within : (size : ℕ) (start step : ℤ) (m : ℕ) → 0 < m → LieWithin size (places start step m) → (pos 0 ≤ℤ start) × (start <ℤ pos size)
first_within size start step zero l h = absurd (omega arith)
first_within size start step (suc n) l h = h.0

pub second_within : (size : ℕ) (start step : ℤ) (m : ℕ) → 1 < m → LieWithin size (places start step m) → (pos 0 ≤ℤ (start +ℤ step)) × ((start +ℤ step) <ℤ pos size)
second_within size start step zero l h = absurd (omega arith)
second_within size start step (suc zero) l h = absurd (omega arith)
second_within size start step (suc (suc n)) l h = h.1.0

pub rest_within : (size : ℕ) (start next step : ℤ) (m n : ℕ) → m ≡ suc n → (0 < n → next ≡ start +ℤ step) → LieWithin size (places start step m) → LieWithin size (places next step n)
rest_within size start next step m zero e on h = tt
rest_within size start next step m (suc k) e on h =
    let all : LieWithin size (places start step (suc (suc k))) = subst (λ (i : ℕ). LieWithin size (places start step i)) e h in
    subst (λ (z : ℤ). LieWithin size (places z step (suc k))) (sym (on (omega arith))) all.1

pub fits : (z : ℤ) (size : ℕ) → size < 2 ^ 64 → (pos 0 ≤ℤ z) × (z <ℤ pos size) → T (non_neg z) × Fits w64 (nat_abs z)
fits (pos n) size small h = let l : n < size = omega (arith, ints, h.1) in (tt, omega arith)
fits (negsuc n) size small h = absurd (omega (arith, ints, h.0))

pub same_place : (z : ℤ) → pos 0 ≤ℤ z → pos (nat_abs z) ≡ z
same_place (pos n) h = refl
same_place (negsuc n) h = absurd (omega (arith, ints))

-- the same places, however their number, start and step are told
pub moved : (size other : ℕ) (y z a b : ℤ) (m : ℕ) → size ≡ other → y ≡ z → a ≡ b → LieWithin other (places z b m) → LieWithin size (places y a m)
moved size other y z a b m e f g h =
    subst (λ (n : ℕ). LieWithin n (places y a m)) (sym e)
    (subst (λ (i : ℤ). LieWithin other (places i a m)) (sym f) (subst (λ (i : ℤ). LieWithin other (places z i m)) (sym g) h))

-- ---- what stands at places

rest_there : {A : Type 0} (at : ℤ → Option A) (start next step : ℤ) (n : ℕ) → (0 < n → next ≡ start +ℤ step) → filter_map at (places (start +ℤ step) step n) ≡ filter_map at (places next step n)
rest_there at start next step zero on = refl
rest_there at start next step (suc k) on = ap (λ (z : ℤ). filter_map at (places z step (suc k))) (sym (on (omega arith)))

pub first_there : {A : Type 0} (at : ℤ → Option A) (start next step : ℤ) (m n : ℕ) (x : A) → m ≡ suc n → at start ≡ Some x → (0 < n → next ≡ start +ℤ step)
    → filter_map at (places start step m) ≡ x ∷ filter_map at (places next step n)
first_there {A = A} at start next step m n x e there on =
    ap (λ (i : ℕ). filter_map at (places start step i)) e
    ∙ (ap (λ (o : Option A). cons_option o (filter_map at (places (start +ℤ step) step n))) there ∙ ap (λ (l : List A). x ∷ l) (rest_there at start next step n on))
