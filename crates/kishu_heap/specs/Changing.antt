-- Nodes that are changed, one after the other.
use Rattle.std.proofs.Common.{◌≡◌, ◌∙◌, ap, sym, refl, ℕ, zero, suc, List, [], ◌∷◌, length, Some}
use Rattle.std.specs.Prelude.{slice_get, unwrap_or}
use Rattle.kishu_meaning.specs.values.Values.{Node}
use Rattle.kishu_meaning.specs.values.Nodes.{changed}

pub length_changed : (f : Node → Node) (i : ℕ) (ns : List Node) → length (changed f i ns) ≡ length ns
length_changed f i [] = refl
length_changed f zero (n ∷ ns) = refl
length_changed f (suc i) (n ∷ ns) = ap suc (length_changed f i ns)

-- Two changes that make the same of the node there are one.
pub changed_at : (f g : Node → Node) (i : ℕ) (ns : List Node) (n : Node) → slice_get ns i ≡ Some n → f n ≡ g n → changed f i ns ≡ changed g i ns
changed_at f g i [] n h e = refl
changed_at f g zero (x ∷ xs) n h e =
    (let p : x ≡ n = ap (λ o. unwrap_or o x) h in ap (λ y. y ∷ xs) (ap f p ∙ e ∙ sym (ap g p)))
changed_at f g (suc i) (x ∷ xs) n h e = ap (λ ys. x ∷ ys) (changed_at f g i xs n h e)

pub unmoved : (i : ℕ) (ns : List Node) → changed (λ n. n) i ns ≡ ns
unmoved i [] = refl
unmoved zero (n ∷ ns) = refl
unmoved (suc i) (n ∷ ns) = ap (λ ys. n ∷ ys) (unmoved i ns)

pub unchanged : (f : Node → Node) (i : ℕ) (ns : List Node) (n : Node) → slice_get ns i ≡ Some n → f n ≡ n → changed f i ns ≡ ns
unchanged f i ns n h e = changed_at f (λ x. x) i ns n h e ∙ unmoved i ns

pub changed_twice : (f g : Node → Node) (i : ℕ) (ns : List Node) → changed f i (changed g i ns) ≡ changed (λ n. f (g n)) i ns
changed_twice f g i [] = refl
changed_twice f g zero (n ∷ ns) = refl
changed_twice f g (suc i) (n ∷ ns) = ap (λ ys. n ∷ ys) (changed_twice f g i ns)

pub changed_like : (f g : Node → Node) → ((n : Node) → f n ≡ g n) → (i : ℕ) (ns : List Node) → changed f i ns ≡ changed g i ns
changed_like f g h i [] = refl
changed_like f g h zero (n ∷ ns) = ap (λ m. m ∷ ns) (h n)
changed_like f g h (suc i) (n ∷ ns) = ap (λ ys. n ∷ ys) (changed_like f g h i ns)
