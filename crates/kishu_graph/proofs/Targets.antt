-- Targets are commits that are there.
use Rattle.std.proofs.Common.{◌≡◌, ◌<◌, ◌≤◌, ◌^◌, ℕ, suc, List, Option, Some, None, Result, Ok, Err, refl, sym, ap, subst, ◌∙◌, ⊎_elim, arith}
use Rattle.std.proofs.lemmas.Bool.Decides.{leb_tells}
use Rattle.std.specs.Prelude.{nat_lt, if◌then◌else◌, option_map, IfSome, IfOk, MatchOption}
use Rattle.kishu_store.specs.declared.target.Target as rust
use Rattle.kishu_store.specs.Graph.{Target}
use Rattle.kishu_store.specs.Targets.{target_of}

-- no commit has a number that is too large
pub past : (n most : ℕ) → most ≤ n → None ≡ (if nat_lt n most then Some n else None)
past n most h = ⊎_elim (λ p. absurd (omega (arith, h, p.1))) (λ p. rw p.0 refl) (leb_tells (suc n) most)

pub number-below : (n most : ℕ) (o : Option ℕ) → o ≡ (if nat_lt n most then Some n else None) → IfSome o (λ c. c < most)
number-below n most o h =
    ⊎_elim
    (λ p. let is : o ≡ Some n = h ∙ rw p.0 refl in subst (λ (x : Option ℕ). IfSome x (λ c. c < most)) (sym is) (omega (arith, p.1)))
    (λ p. let is : o ≡ None = h ∙ rw p.0 refl in subst (λ (x : Option ℕ). IfSome x (λ c. c < most)) (sym is) tt)
    (leb_tells (suc n) most)

pub target-below : (most : ℕ) (b : Option (List ℕ)) (o : Option rust.Target) (p : Option ℕ) → option_map target_of o ≡ option_map (λ c. record { commit = c; branch = b }) p → IfSome p (λ c. c < most) → IfSome o (λ t. t.commit < most)
target-below most b None p h below = tt
target-below most b (Some t) None h below = absurd (cc (h))
target-below most b (Some t) (Some c) h below =
    let same : target_of t ≡ record { commit = c; branch = b } = cc (h) in
    let number : t.commit ≡ c = ap (λ (x : Target). x.commit) same in
    omega (arith, number, below)

pub ok-below : {E : Type 0} (most : ℕ) (b : Option (List ℕ)) (r : Result (Option rust.Target) E) (p : Option ℕ) → IfOk r (λ o. option_map target_of o ≡ option_map (λ c. record { commit = c; branch = b }) p) → IfSome p (λ c. c < most)
    → IfOk r (λ o. IfSome o (λ t. t.commit < most))
ok-below most b (Ok o) p h below = target-below most b o p h below
ok-below most b (Err e) p h below = tt

pub number-there : (o r : Option ℕ) (n most : ℕ) → IfSome o (λ m. m ≡ n) → (o ≡ None → 2 ^ 32 ≤ n) → most < 2 ^ 32 → MatchOption o (r ≡ None) (λ m. r ≡ (if nat_lt m most then Some m else None))
    → r ≡ (if nat_lt n most then Some n else None)
number-there None r n most f e l h = (let far = e refl in h ∙ past n most (omega (arith, far, l)))
number-there (Some m) r n most f e l h = h ∙ ap (λ (x : ℕ). if nat_lt x most then Some x else None) f
