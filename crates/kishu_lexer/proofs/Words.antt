-- Words are ASCII, so their characters are their bytes.
use Rattle.std.proofs.Common.{◌≡◌, ℕ, suc, ◌+◌, ◌<◌, Bool, true, false, cond, List, [], ◌∷◌, take, refl, ap, ◌∙◌, arith}
use Rattle.std.specs.Prelude.{◌&&◌}
use Rattle.std.specs.List.{list_all, prefix_len}
use Rattle.std.specs.Char.{encode_utf8}
use Rattle.std.specs.Str.{encode_utf8_all}
use Rattle.std.proofs.lemmas.Bool.Decides.{nat_tests}
use Rattle.std.specs.Prelude.{Option}
use Rattle.kishu_language.specs.declared.token.Mark.{Mark}
use Rattle.kishu_language.specs.tokens.Marks.{reserved_mark}
use Rattle.kishu_language.specs.tokens.Layout.{word_or, word_kind}
use Rattle.kishu_language.specs.tokens.Names.{is_word_char}

both : (a b : Bool) → (a && b) ≡ true → (a ≡ true) × (b ≡ true)
both true b h = (refl, h)
both false b h = absurd (cc)

word_below : (c : ℕ) → is_word_char c ≡ true → c < 128
word_below c h = grind (arith, nat_tests)

ascii_encodes : (c : ℕ) → c < 128 → encode_utf8 c ≡ c ∷ []
unfolding encode_utf8
ascii_encodes c h = grind (arith, nat_tests)

-- the bytes of a word
pub word_encodes : (cs : List ℕ) → list_all is_word_char cs ≡ true → encode_utf8_all cs ≡ cs
word_encodes [] h = refl
word_encodes (c ∷ cs) h = let parts = both _ _ h in rw (ascii_encodes c (word_below c parts.0), word_encodes cs parts.1) refl

passes_step : (p : ℕ → Bool) (c : ℕ) (cs : List ℕ) (b : Bool) → p c ≡ b → list_all p (take (prefix_len p cs) cs) ≡ true → list_all p (take (cond b (1 + prefix_len p cs) 0) (c ∷ cs)) ≡ true
passes_step p c cs true e h = let k : 1 + prefix_len p cs ≡ suc (prefix_len p cs) = omega arith in rw (k, e) h
passes_step p c cs false e h = refl

-- the characters that come first and pass a test pass it
pub run_passes : (p : ℕ → Bool) (cs : List ℕ) → list_all p (take (prefix_len p cs) cs) ≡ true
run_passes p [] = refl
run_passes p (c ∷ cs) = passes_step p c cs (p c) refl (run_passes p cs)

-- what a word is, by its bytes
pub kind_is : (w bytes : List ℕ) (o : Option Mark) → bytes ≡ w → o ≡ reserved_mark bytes → word_or w o ≡ word_kind w
kind_is w bytes o e h = ap (word_or w) (h ∙ ap reserved_mark e)
