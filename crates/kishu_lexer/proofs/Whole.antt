-- Each piece is whole: a word is of the characters of words, and a fault lies on a line of the text.
use Rattle.std.proofs.Common.{◌≡◌, ℕ, ◌+◌, ◌<◌, ◌≤◌, ◌^◌, Bool, true, false, cond, List, take, drop, Option, Some, None, sym, subst, arith}
use Rattle.std.specs.Prelude.{ℤ, slice_index, nat_le, ◌==◌}
use Rattle.std.specs.List.{list_all, prefix_len, position}
use Rattle.kishu_language.specs.declared.token.Mark.{Mark}
use Rattle.kishu_language.specs.tokens.Names.{is_word_char}
use Rattle.kishu_language.specs.tokens.Numerals.{numeral}
use Rattle.kishu_language.specs.tokens.Quoted.{Read, quoted}
use Rattle.kishu_language.specs.tokens.Marks.{operator}
use Rattle.kishu_language.specs.tokens.Lexemes as x
use Rattle.kishu_language.specs.tokens.Lexemes.{Lexeme, Cut, feeds, lexeme, token_piece}
use Rattle.kishu_lexer.specs.Machine.{IsWhole}
use Rattle.kishu_lexer.proofs.Words.{run_passes}
use Rattle.kishu_lexer.proofs.Sums.{feeds_taken}

record Whole (p : Cut) (line : ℕ) : Type 0 where
  is : IsWhole p.0 line

either : (line : ℕ) (b : Bool) (p q : Cut) → Whole p line → Whole q line → Whole (cond b p q) line
either line true p q h k = h
either line false p q h k = k

value_whole : (line next : ℕ) (z : Option ℤ) → line < 2 ^ 32 → IsWhole (x.value_or_bad next z) line
value_whole line next None h = omega arith
value_whole line next (Some z) h = go (x.is_dot next)
  where
    go : (b : Bool) → IsWhole (cond b (x.bad 0) (x.number z)) line
    go true = omega arith
    go false = tt

sign_whole : (line : ℕ) (o : Option (Mark × ℕ)) → line < 2 ^ 32 → IsWhole (x.sign_or_bad o).0 line
sign_whole line None h = omega arith
sign_whole line (Some t) h = tt

null_whole : (line : ℕ) (all taken : List ℕ) (piece : Lexeme) (o : Option ℕ) → feeds taken ≤ feeds all → line + feeds all < 2 ^ 32 → IsWhole piece line → IsWhole (x.by_place taken piece o) line
null_whole line all taken piece None small h k = k
null_whole line all taken piece (Some place) small h k = omega (arith, feeds_taken place taken)

text_whole : (line before : ℕ) (all : List ℕ) (o : Read) → line + feeds all < 2 ^ 32 → Whole (x.text_from before all o) line
text_whole line before all None h = record { is = omega arith }
text_whole line before all (Some t) h =
    let taken = take (before + t.1) all in
    record { is = null_whole line all taken (x.string t.0) (position x.is_null taken) (feeds_taken (before + t.1) all) h tt }

comment_whole : (line : ℕ) (o : Option ℕ) → IsWhole (x.comment_by o) line
comment_whole line None = tt
comment_whole line (Some place) = tt

remark_whole : (line : ℕ) (all : List ℕ) → line + feeds all < 2 ^ 32 → Whole (x.remark all) line
remark_whole line all h =
    let n = prefix_len x.is_no_feed all in
    record { is = comment_whole line (position x.is_null (take n all)) }

name_whole : (line n : ℕ) (w : List ℕ) → list_all is_word_char w ≡ true → line < 2 ^ 32 → Whole (x.name w n) line
name_whole line n w h k = either line (nat_le n 255) (x.word w, n) (x.bad 0, n) (record { is = h }) (record { is = omega arith })

letters_whole : (line : ℕ) (all : List ℕ) → line < 2 ^ 32 → Whole (x.letters all) line
letters_whole line all h = let n = prefix_len is_word_char all in name_whole line n (take n all) (run_passes is_word_char all) h

digits_whole : (line : ℕ) (all : List ℕ) → line < 2 ^ 32 → Whole (x.digits all) line
digits_whole line all h = let n = prefix_len is_word_char all in record { is = value_whole line (slice_index all n) (numeral (take n all)) h }

blanks_whole : (line : ℕ) (all : List ℕ) → Whole (x.blanks all) line
blanks_whole line all = record { is = tt }

backslash_whole : (line next : ℕ) → line < 2 ^ 32 → Whole (x.after_backslash next) line
backslash_whole line next h = either line (next == 10) (x.joined, 2) (x.bad 0, 1) (record { is = tt }) (record { is = omega arith })

sign_part : (line : ℕ) (o : Option (Mark × ℕ)) → line < 2 ^ 32 → Whole (x.sign_or_bad o) line
sign_part line o h = record { is = sign_whole line o h }

token_whole : (line : ℕ) (all : List ℕ) → line + feeds all < 2 ^ 32 → Whole (token_piece all) line
unfolding token_piece
token_whole line all h =
    let c = slice_index all 0 in
    let small : line < 2 ^ 32 = omega arith in
    either line _ _ _ (text_whole line 0 all (quoted false (drop 0 all)) h)
    (either line _ _ _ (text_whole line 1 all (quoted (x.is_raw_prefix c) (drop 1 all)) h)
    (either line _ _ _ (letters_whole line all small)
    (either line _ _ _ (digits_whole line all small) (sign_part line (operator c (slice_index all 1) (slice_index all 2)) small))))

lexeme_whole : (line : ℕ) (all : List ℕ) → line + feeds all < 2 ^ 32 → Whole (lexeme all) line
unfolding lexeme
lexeme_whole line all h =
    let small : line < 2 ^ 32 = omega arith in
    either line _ _ _ (blanks_whole line all)
    (either line _ (x.feed, 1) _ (record { is = tt })
    (either line _ _ _ (remark_whole line all h)
    (either line _ _ _ (backslash_whole line (slice_index all 1) small) (token_whole line all h))))

-- the same of what the code found
pub found_whole : (line : ℕ) (all : List ℕ) (p : Cut) → p ≡ lexeme all → line + feeds all < 2 ^ 32 → IsWhole p.0 line
found_whole line all p e h = (subst (λ (q : Cut). Whole q line) (sym e) (lexeme_whole line all h)).is
