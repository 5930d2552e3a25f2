-- A slice's places lie within a text where the first one does and the others do.
use Rattle.std.proofs.Common.{◌≡◌, ◌<◌, arith, subst, sym, ℕ, zero, suc, ℤ, pos, ◌+ℤ◌, ◌≤ℤ◌, ◌<ℤ◌}
use Rattle.kishu_meaning.specs.values.Texts.{places, LieWithin}

behind_within : (size : ℕ) (start next step : ℤ) (n : ℕ) → (0 < n → next ≡ start +ℤ step) → LieWithin size (places next step n) → LieWithin size (places (start +ℤ step) step n)
behind_within size start next step zero on h = tt
behind_within size start next step (suc k) on h = subst (λ (z : ℤ). LieWithin size (places z step (suc k))) (on (omega arith)) h

pub grown_within : (size : ℕ) (start next step : ℤ) (m n : ℕ) → m ≡ suc n → pos 0 ≤ℤ start → start <ℤ pos size → (0 < n → next ≡ start +ℤ step) → LieWithin size (places next step n) → LieWithin size (places start step m)
grown_within size start next step m n e low high on rest =
    let behind : LieWithin size (places (start +ℤ step) step n) = behind_within size start next step n on rest in
    subst (λ (i : ℕ). LieWithin size (places start step i)) (sym e) ((low, high), behind)
