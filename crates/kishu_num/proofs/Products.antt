-- Products of whole numbers don't depend on how they are grouped.
use Rattle.std.proofs.Common.{◌≡◌, ℕ, zero, suc, ◌*◌, ℤ, pos, negsuc, neg_ℤ, ◌*ℤ◌, refl, sym, ap, ◌∙◌}
use Rattle.std.proofs.Math.Nat.{mul_assoc}
use Rattle.std.proofs.Math.IntN.{neg_ℤ-neg_ℤ, *ℤ_comm, zero-*ℤ}

negated_left : (x y : ℤ) → neg_ℤ x *ℤ y ≡ neg_ℤ (x *ℤ y)
negated_left (pos zero) y = zero-*ℤ y ∙ sym (ap neg_ℤ (zero-*ℤ y))
negated_left (pos (suc a)) (pos b) = refl
negated_left (pos (suc a)) (negsuc b) = sym (neg_ℤ-neg_ℤ (pos (suc a * suc b)))
negated_left (negsuc a) (pos b) = sym (neg_ℤ-neg_ℤ (pos (suc a * b)))
negated_left (negsuc a) (negsuc b) = refl

negated_right : (x y : ℤ) → x *ℤ neg_ℤ y ≡ neg_ℤ (x *ℤ y)
negated_right x y = *ℤ_comm x (neg_ℤ y) ∙ negated_left y x ∙ ap neg_ℤ (*ℤ_comm y x)

naturals : (a b c : ℕ) → pos a *ℤ pos b *ℤ pos c ≡ pos a *ℤ (pos b *ℤ pos c)
naturals a b c = ap pos (mul_assoc a b c)

third : (a b : ℕ) (z : ℤ) → pos a *ℤ pos b *ℤ z ≡ pos a *ℤ (pos b *ℤ z)
third a b (pos c) = naturals a b c
third a b (negsuc c) = negated_right (pos a *ℤ pos b) (pos (suc c)) ∙ ap neg_ℤ (naturals a b (suc c)) ∙ sym (negated_right (pos a) (pos b *ℤ pos (suc c))) ∙ ap (λ z. pos a *ℤ z) (sym (negated_right (pos b) (pos (suc c))))

second : (a : ℕ) (y z : ℤ) → pos a *ℤ y *ℤ z ≡ pos a *ℤ (y *ℤ z)
second a (pos b) z = third a b z
second a (negsuc b) z = ap (λ x. x *ℤ z) (negated_right (pos a) (pos (suc b))) ∙ negated_left (pos a *ℤ pos (suc b)) z ∙ ap neg_ℤ (third a (suc b) z) ∙ sym (negated_right (pos a) (pos (suc b) *ℤ z)) ∙ ap (λ x. pos a *ℤ x) (sym (negated_left (pos (suc b)) z))

pub grouped : (x y z : ℤ) → x *ℤ y *ℤ z ≡ x *ℤ (y *ℤ z)
grouped (pos a) y z = second a y z
grouped (negsuc a) y z = ap (λ x. x *ℤ z) (negated_left (pos (suc a)) y) ∙ negated_left (pos (suc a) *ℤ y) z ∙ ap neg_ℤ (second (suc a) y z) ∙ sym (negated_left (pos (suc a)) (y *ℤ z))
