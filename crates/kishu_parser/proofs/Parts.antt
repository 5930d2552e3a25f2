-- The parts of a tree, joined.
use Rattle.std.proofs.Common.{◌≡◌, ℕ, zero, suc, ◌+◌, ◌<◌, Bool, true, false, List, [], ◌∷◌, ◌++◌, map, length, Option, Some, None, refl, sym, ap, ◌∙◌, arith}
use Rattle.std.specs.Prelude.{not, ◌==◌}
use Rattle.kishu_language.specs.reading.ReadExpressions.{is_several}
use Rattle.std.proofs.lemmas.Bool.{ne_eqb}
use Rattle.kishu_language.specs.declared.tree.Expr.{Expr}
use Rattle.kishu_language.specs.trees.Tree.{Expression, expressions, expression_of}
use Rattle.kishu_language.specs.trees.Tree as t
use Rattle.kishu_language.specs.grammar.Grammar.{alone, unless_alone, any_of, all_of}

pub many : {A B : Type 0} (f : A → B) (make : Expression → List B → Expression) (first : Expression) (xs : List A) → (length xs ≡ 0 → ⊥) → make first (map f xs) ≡ unless_alone make first (map f xs)
many f make first [] h = absurd (h refl)
many f make first (x ∷ xs) h = refl

pub map_append : {A B : Type 0} (f : A → B) (xs ys : List A) → map f (xs ++ ys) ≡ map f xs ++ map f ys
map_append f [] ys = refl
map_append f (x ∷ xs) ys = ap (λ zs. f x ∷ zs) (map_append f xs ys)

seconds : (xs : List Expr) → map (λ (p : Unit {0} × Expression). p.1) (map (λ e. (tt, expression_of e)) xs) ≡ map expression_of xs
seconds [] = refl
seconds (x ∷ xs) = ap (λ zs. expression_of x ∷ zs) (seconds xs)

pub any_many : (first : Expr) (xs ys : List Expr) → ys ≡ first ∷ xs → (length xs ≡ 0 → ⊥)
    → t.or (expressions (map expression_of ys)) ≡ unless_alone any_of (expression_of first) (map (λ e. (tt, expression_of e)) xs)
any_many first [] ys e h = absurd (h refl)
any_many first (x ∷ xs) ys e h = ap (λ zs. t.or (expressions (map expression_of zs))) e ∙ ap (λ zs. t.or (expressions (expression_of first ∷ zs))) (sym (seconds (x ∷ xs)))

pub all_many : (first : Expr) (xs ys : List Expr) → ys ≡ first ∷ xs → (length xs ≡ 0 → ⊥)
    → t.and (expressions (map expression_of ys)) ≡ unless_alone all_of (expression_of first) (map (λ e. (tt, expression_of e)) xs)
all_many first [] ys e h = absurd (h refl)
all_many first (x ∷ xs) ys e h = ap (λ zs. t.and (expressions (map expression_of zs))) e ∙ ap (λ zs. t.and (expressions (expression_of first ∷ zs))) (sym (seconds (x ∷ xs)))

pub alone_many : (xs : List Expr) → (length xs ≡ 1 → ⊥) → t.tuple (expressions (map expression_of xs)) ≡ alone (map expression_of xs)
alone_many [] h = refl
alone_many (x ∷ []) h = absurd (h refl)
alone_many (x ∷ y ∷ xs) h = refl

pub several_is : (xs : List Expr) → not (length xs == 0) ≡ is_several (t.tuple (expressions (map expression_of xs)))
several_is [] = refl
several_is (x ∷ xs) = ap not (ne_eqb (suc (length xs)) 0 (λ e. omega (arith, e)))

-- ---- what one more is

pub pushed : {A B : Type 0} (f : A → B) (xs ys : List A) (x : A) (b : B) → ys ≡ xs ++ x ∷ [] → f x ≡ b → map f ys ≡ map f xs ++ b ∷ []
pushed f xs ys x b e h = ap (map f) e ∙ map_append f xs (x ∷ []) ∙ ap (λ c. map f xs ++ c ∷ []) h
