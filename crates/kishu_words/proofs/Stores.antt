-- The first word that doesn't begin with `-` is the store of a command line.
use Rattle.std.proofs.Common.{◌≡◌, ◌∙◌, ap, sym, refl, ℕ, zero, suc, Bool, true, false, List, [], ◌∷◌, Option, Some, None, true≢false, cond}
use Rattle.std.specs.Prelude.{◌==◌, not, if◌then◌else◌, filter, length, slice_get}
use Rattle.std.specs.List.{list_all}
use Rattle.kishu_words.specs.Words.{Line, begins_with_dash, is_flag, is_plain, is_word, line_in, line_of, line_with, store_word}
use Rattle.kishu_words.proofs.Steps.{not-dash}
use Rattle.kishu_words.proofs.Whole.{first-of, flag-is, plain-is, second-of}

abbrev head : List (List ℕ) → Option (List ℕ)
head xs = slice_get xs 0

flag-dash : (w : List ℕ) → is_flag w ≡ true → begins_with_dash w ≡ true
flag-dash w e = ap begins_with_dash (flag-is w e)

plain-dash : (w : List ℕ) → is_plain w ≡ true → begins_with_dash w ≡ false
plain-dash [] e = absurd (true≢false (sym e))
plain-dash (c ∷ cs) e = not-dash (c == 45) e

one-word : (w : List ℕ) (ws : List (List ℕ)) → is_word w ≡ true → (b : Bool) → is_flag w ≡ b → store_word ws ≡ head (filter (λ v. not (is_flag v)) ws)
    → store_word (w ∷ ws) ≡ head (cond (not b) (w ∷ filter (λ v. not (is_flag v)) ws) (filter (λ v. not (is_flag v)) ws))
one-word w ws word true is rest = ap (λ d. cond (not d) (Some w) (store_word ws)) (flag-dash w is) ∙ rest
one-word w ws word false is rest = ap (λ d. cond (not d) (Some w) (store_word ws)) (plain-dash w (plain-is w is word))

first-plain : (ws : List (List ℕ)) → list_all is_word ws ≡ true → store_word ws ≡ head (filter (λ w. not (is_flag w)) ws)
first-plain [] all = refl
first-plain (w ∷ ws) all = one-word w ws (first-of (is_word w) _ all) (is_flag w) refl (first-plain ws (second-of (is_word w) _ all))

abbrev store-in : Option Line → Option (List ℕ)
store-in None = None
store-in (Some line) = Some line.store

with-store : (b : Bool) (ps : List (List ℕ)) → (line : Line) → line_with b ps ≡ Some line → head ps ≡ Some line.store
with-store b [] line e = absurd (cc e)
with-store b (s ∷ []) line e = absurd (cc e)
with-store b (s ∷ c ∷ us) line e = ap store-in e

in-store : (n : ℕ) (ps : List (List ℕ)) (line : Line) → line_in n ps ≡ Some line → head ps ≡ Some line.store
in-store zero ps line e = with-store false ps line e
in-store (suc zero) ps line e = with-store true ps line e
in-store (suc (suc n)) ps line e = absurd (cc e)

by-words : (ws : List (List ℕ)) (line : Line) (b : Bool) → list_all is_word ws ≡ b
    → (if b then line_in (length (filter is_flag ws)) (filter (λ w. not (is_flag w)) ws) else None) ≡ Some line → store_word ws ≡ Some line.store
by-words ws line true all is = first-plain ws all ∙ in-store (length (filter is_flag ws)) (filter (λ w. not (is_flag w)) ws) line is
by-words ws line false all is = absurd (cc is)

pub store-of : (ws : List (List ℕ)) (line : Line) → line_of ws ≡ Some line → store_word ws ≡ Some line.store
store-of ws line e = by-words ws line (list_all is_word ws) refl e
