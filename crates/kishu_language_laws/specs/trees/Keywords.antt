-- The keywords of a call that the grammar lets through differ from each other.
use Rattle.std.proofs.Common.{◌≡◌, Bool, true, false, not, ◌&&◌, ◌||◌, List, [], ◌∷◌, refl, ap, subst}
use Rattle.std.specs.Cmp.Lexicographic.{bytes_decides}
use Rattle.std.specs.Str.{bytes_eq}
use Rattle.kishu_language.specs.tokens.Names.{is_among}
use Rattle.kishu_language.specs.trees.Tree.{Text, Argument, plain, keyword, arguments}
use Rattle.kishu_language.specs.grammar.Grammar.{fits_after, arguments_fit}
use Rattle.kishu_language.specs.grammar.Refusals.{all_differ}
use Rattle.kishu_language.specs.trees.Fits.{keywords}

both : (a b : Bool) → (a && b) ≡ true → (a ≡ true) × (b ≡ true)
both true true h = (refl, refl)
both true false h = absurd cc
both false b h = absurd cc

-- One that was seen doesn't come again.
not_again : (y : Text) (seen : List Text) (found : List Argument) → is_among y seen ≡ true → fits_after seen found ≡ true → is_among y (keywords (arguments found)) ≡ false
not_again y seen [] h k = refl
not_again y [] (plain e ∷ found) h k = absurd cc
not_again y (x ∷ seen) (plain e ∷ found) h k = absurd cc
not_again y seen (keyword x e ∷ found) h k =
    let p = both (not (is_among x seen)) (fits_after (x ∷ seen) found) k in
    go (bytes_eq y x) refl p.0 (not_again y (x ∷ seen) found (later (bytes_eq y x) (is_among y seen) h) p.1)
  where
    later : (a b : Bool) → b ≡ true → (a || b) ≡ true
    later true b h = refl
    later false b h = h

    go : (b : Bool) → bytes_eq y x ≡ b → not (is_among x seen) ≡ true → is_among y (keywords (arguments found)) ≡ false → (b || is_among y (keywords (arguments found))) ≡ false
    go true e new rest = (let same = (bytes_decides y x).0 e in let there : is_among x seen ≡ true = subst (λ (v : Text). is_among v seen ≡ true) same h in absurd cc)
    go false e new rest = rest

differ_after : (seen : List Text) (found : List Argument) → fits_after seen found ≡ true → all_differ (keywords (arguments found)) ≡ true
differ_after seen [] k = refl
differ_after [] (plain e ∷ found) k = differ_after [] found k
differ_after (x ∷ seen) (plain e ∷ found) k = absurd cc
differ_after seen (keyword x e ∷ found) k =
    let p = both (not (is_among x seen)) (fits_after (x ∷ seen) found) k in
    let now : is_among x (x ∷ seen) ≡ true = ap (λ b. b || is_among x seen) ((bytes_decides x x).1 refl) in
    let new = not_again x (x ∷ seen) found now p.1 in
    λ i. not (new i) && differ_after (x ∷ seen) found p.1 i

pub keywords_differ : (found : List Argument) → arguments_fit found ≡ true → all_differ (keywords (arguments found)) ≡ true
keywords_differ found h = differ_after [] found h
