-- White space at the ends of a text.
use Rattle.std.proofs.Common.{◌≡◌, ℕ, zero, suc, ◌-◌, ◌<◌, ◌≤◌, true, false, List, [], ◌∷◌, ◌++◌, length, take, get_or, reverse, refl, sym, ap, ◌∙◌, arith, take-suc}
use Rattle.std.proofs.lemmas.List.{reverse-append, reverse-reverse}
use Rattle.kishu_meaning.specs.values.White.{is_white, without_front, without_back}

pub trailing_white : (cs : List ℕ) (c : ℕ) → is_white c ≡ true → without_back (cs ++ c ∷ []) ≡ without_back cs
trailing_white cs c h = ap (λ l. reverse (without_front l)) (reverse-append cs (c ∷ [])) ∙ rw h refl

pub trailing_other : (cs : List ℕ) (c : ℕ) → is_white c ≡ false → without_back (cs ++ c ∷ []) ≡ cs ++ c ∷ []
trailing_other cs c h = ap (λ l. reverse (without_front l)) (reverse-append cs (c ∷ [])) ∙ rw h (ap reverse (sym (reverse-append cs (c ∷ []))) ∙ reverse-reverse (cs ++ c ∷ []))

-- the first n elements, of which the last is the one before n
snoc : (text : List ℕ) (n : ℕ) → 0 < n → n ≤ length text → take n text ≡ take (n - 1) text ++ get_or text (n - 1) 0 ∷ []
snoc text zero p l = absurd (omega arith)
snoc text (suc n) p l = let one : suc n - 1 ≡ n = omega arith in rw (one, take-suc text n 0 l) refl

pub next_trailing : (text : List ℕ) (n : ℕ) → 0 < n → n ≤ length text → is_white (get_or text (n - 1) 0) ≡ true → without_back (take (n - 1) text) ≡ without_back (take n text)
next_trailing text n p l h = sym (ap without_back (snoc text n p l) ∙ trailing_white (take (n - 1) text) (get_or text (n - 1) 0) h)

pub last_trailing : (text : List ℕ) (n : ℕ) → 0 < n → n ≤ length text → is_white (get_or text (n - 1) 0) ≡ false → take n text ≡ without_back (take n text)
last_trailing text n p l h = snoc text n p l ∙ sym (ap without_back (snoc text n p l) ∙ trailing_other (take (n - 1) text) (get_or text (n - 1) 0) h)

none : (text : List ℕ) → take 0 text ≡ without_back (take 0 text)
none [] = refl
none (c ∷ cs) = refl

pub none_trailing : (text : List ℕ) (n : ℕ) → n ≡ 0 → take n text ≡ without_back (take n text)
none_trailing text n h = rw h (none text)
