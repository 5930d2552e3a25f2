-- What may be assigned to, from the ends of lists.
use Rattle.std.proofs.Common.{◌≡◌, ℕ, ◌+◌, ◌-◌, ◌<◌, ◌≤◌, suc, Bool, true, false, List, [], ◌∷◌, length, map, drop, get_or, Option, Some, None, refl, sym, ap, ◌∙◌, arith}
use Rattle.std.specs.Prelude.{not, ◌&&◌, ◌==◌}
use Rattle.std.specs.List.{slice_get}
use Rattle.std.proofs.lemmas.Bool.{ne_eqb}
use Rattle.std.proofs.lemmas.List.{drop_all}
use Rattle.kishu_language.specs.declared.tree.Expr.{Expr}
use Rattle.kishu_language.specs.declared.tree.Trailer.{Trailer as Trailer'}
use Rattle.kishu_language.specs.trees.Tree.{expressions, trailers, expression_of}
use Rattle.kishu_language.specs.grammar.Targets.{is_place_trailer, ends_in_place, is_target, are_targets}
use Rattle.kishu_language.specs.trees.Parts.{trailer_of}
use Rattle.kishu_parser.proofs.Walks.{here}

abbrev at_last : Option Trailer' → Bool
at_last None = false
at_last (Some x) = is_place_trailer (trailer_of x)

pub ends_is : (xs : List Trailer') (x : Trailer') → Some x ≡ slice_get xs (length xs - 1) → ends_in_place (trailers (map trailer_of xs)) ≡ is_place_trailer (trailer_of x)
ends_is [] x e = absurd cc
ends_is (y ∷ []) x e = ap at_last (sym e)
ends_is (y ∷ z ∷ xs) x e = let k : length (y ∷ z ∷ xs) - 1 ≡ suc (length (z ∷ xs) - 1) = omega arith in ends_is (z ∷ xs) x (e ∙ ap (slice_get (y ∷ z ∷ xs)) k)

abbrev pub each : List Expr → Bool
each [] = true
each (e ∷ es) = is_target (expression_of e) && each es

each_alone : (b : Bool) → b ≡ (b && true)
each_alone true = refl
each_alone false = refl

each_is : (x : Expr) (xs : List Expr) → are_targets (expressions (map expression_of (x ∷ xs))) ≡ (is_target (expression_of x) && each xs)
each_is x [] = each_alone (is_target (expression_of x))
each_is x (y ∷ xs) = ap (λ b. is_target (expression_of x) && b) (each_is y xs)

pub some_each : (xs : List Expr) → are_targets (expressions (map expression_of xs)) ≡ (not (length xs == 0) && each xs)
some_each [] = refl
some_each (x ∷ xs) = each_is x xs ∙ ap (λ b. not b && each (x ∷ xs)) (sym (ne_eqb (length (x ∷ xs)) 0 (λ e. omega (arith, e))))

pub one_less : (b : Bool) (xs : List Expr) (i : ℕ) (x : Expr) → b ≡ each (drop i xs) → i < length xs → x ≡ get_or xs i x → is_target (expression_of x) ≡ true → b ≡ each (drop (i + 1) xs)
one_less b xs i x told h e is = told ∙ ap each (here xs i x h e) ∙ ap (λ c. c && each (drop (i + 1) xs)) is

pub one_not : (xs : List Expr) (i : ℕ) (x : Expr) → each xs ≡ each (drop i xs) → i < length xs → x ≡ get_or xs i x → is_target (expression_of x) ≡ false → are_targets (expressions (map expression_of xs)) ≡ false
one_not xs i x told h e is =
    some_each xs
    ∙ ap (λ c. not (length xs == 0) && c) (told ∙ ap each (here xs i x h e) ∙ ap (λ c. c && each (drop (i + 1) xs)) is)
    ∙ never (not (length xs == 0))
  where
    never : (b : Bool) → (b && false) ≡ false
    never true = refl
    never false = refl

pub all_seen : (xs : List Expr) (i : ℕ) → each xs ≡ each (drop i xs) → length xs ≤ i → not (length xs == 0) ≡ are_targets (expressions (map expression_of xs))
all_seen xs i told none = each_alone (not (length xs == 0)) ∙ ap (λ c. not (length xs == 0) && c) (sym (told ∙ ap each (drop_all i xs none))) ∙ sym (some_each xs)
