-- Texts that are put together from pieces.
use Rattle.std.proofs.Common.{arith, ◌≡◌, ◌∙◌, ap, refl, ℕ, ◌==◌, List, [], ◌∷◌, ◌++◌, OnOk, Result, Ok, Err, append_assoc, length, map}
use Rattle.std.specs.Prelude.{codes, if◌then◌else◌, suc}
use Rattle.std.proofs.lemmas.Bool.{ne_eqb}
use Rattle.std.specs.List.{flat_map}
use Rattle.kishu_meaning.specs.comparing.Show.{tuple_end}
use Rattle.kishu_meaning.specs.values.Texts.{joined}

pub empty_when : {A : Type 0} (xs : List A) → length xs ≡ 0 → xs ≡ []
empty_when [] h = refl
empty_when (x ∷ xs) h = absurd cc

pub joined_more : {T E : Type 0} (r : Result T E) (new mid old piece : List ℕ) (pieces : List (List ℕ)) → mid ≡ old ++ piece
    → OnOk r (new ≡ mid ++ flat_map (λ next. codes ", " ++ next) pieces) → OnOk r (new ≡ old ++ joined (codes ", ") (piece ∷ pieces))
joined_more (Ok x) new mid old piece pieces e h = h ∙ ap (λ m. m ++ flat_map (λ next. codes ", " ++ next) pieces) e ∙ append_assoc old piece (flat_map (λ next. codes ", " ++ next) pieces)
joined_more (Err x) new mid old piece pieces e h = tt

pub three : (zero one two new a b c d : List ℕ) → zero ≡ [] → one ≡ zero ++ a → two ≡ one ++ b → new ≡ two ++ c → c ≡ d → new ≡ (a ++ b) ++ d
three zero one two new a b c d h0 h1 h2 h3 e =
    h3 ∙ ap (λ x. x ++ c) (h2 ∙ ap (λ x. x ++ b) (h1 ∙ ap (λ x. x ++ a) h0)) ∙ ap (λ x. (a ++ b) ++ x) e

-- what ends a tuple, by how many there are
pub ending : {A B : Type 0} (f : A → B) (xs : List A) → (if length xs == 1 then codes ",)" else codes ")") ≡ tuple_end (map f xs)
ending f [] = refl
ending f (x ∷ []) = refl
ending f (x ∷ (y ∷ xs)) = rw (ne_eqb (suc (suc (length xs))) 1 (λ h. absurd (omega arith))) refl
