-- Of several names that differ, the first do.
use Rattle.std.proofs.Common.{◌≡◌, Bool, true, false, not, ◌&&◌, ◌||◌, List, [], ◌∷◌, ◌++◌, refl}
use Rattle.std.specs.Str.{bytes_eq}
use Rattle.kishu_language.specs.tokens.Names.{is_among}
use Rattle.kishu_language.specs.trees.Tree.{Text}
use Rattle.kishu_language.specs.grammar.Refusals.{all_differ}

both : (a b : Bool) → (a && b) ≡ true → (a ≡ true) × (b ≡ true)
both true true h = (refl, refl)
both true false h = absurd cc
both false b h = absurd cc

neither : (a b : Bool) → (a || b) ≡ false → (a ≡ false) × (b ≡ false)
neither true b h = absurd cc
neither false b h = (refl, h)

not_in_front : (x : Text) (xs ys : List Text) → is_among x (xs ++ ys) ≡ false → is_among x xs ≡ false
not_in_front x [] ys h = refl
not_in_front x (y ∷ xs) ys h = let n = neither (bytes_eq x y) (is_among x (xs ++ ys)) h in λ i. n.0 i || not_in_front x xs ys n.1 i

is_not : (b : Bool) → not b ≡ true → b ≡ false
is_not true h = absurd cc
is_not false h = refl

pub front_differs : (xs ys : List Text) → all_differ (xs ++ ys) ≡ true → all_differ xs ≡ true
front_differs [] ys h = refl
front_differs (x ∷ xs) ys h =
    let p = both (not (is_among x (xs ++ ys))) (all_differ (xs ++ ys)) h in
    let new = not_in_front x xs ys (is_not (is_among x (xs ++ ys)) p.0) in
    λ i. not (new i) && front_differs xs ys p.1 i
