-- The piece at the front of a text takes a character at least.
use Rattle.std.proofs.Common.{◌≡◌, ℕ, ◌<◌, Bool, true, false, cond, List, [], ◌∷◌, take, drop, Option, Some, None, refl, arith}
use Rattle.std.specs.Prelude.{◌&&◌, slice_index, nat_le, ◌==◌}
use Rattle.std.specs.List.{prefix_len}
use Rattle.kishu_language.specs.declared.token.Mark.{Mark}
use Rattle.kishu_language.specs.tokens.Names.{is_letter, is_digit, is_word_char}
use Rattle.kishu_language.specs.tokens.Quoted.{Read, quoted, quotes, onto, body, is_threefold, backslash}
use Rattle.kishu_language.specs.tokens.Marks.{operator, delimiter, taken, with_equals, doubled}
use Rattle.kishu_language.specs.tokens.Lexemes as x
use Rattle.kishu_language.specs.tokens.Lexemes.{Cut, lexeme, token_piece}

record Takes (p : Cut) : Type 0 where
  is : 0 < p.1

either : (b : Bool) (p q : Cut) → (b ≡ true → Takes p) → (b ≡ false → Takes q) → Takes (cond b p q)
either true p q h k = h refl
either false p q h k = k refl

-- ---- runs of characters

run_some : (p : ℕ → Bool) (c : ℕ) (cs : List ℕ) → p c ≡ true → 0 < prefix_len p (c ∷ cs)
run_some p c cs h = rw h (omega arith)

blanks_take : (c : ℕ) (cs : List ℕ) → x.is_blank c ≡ true → Takes (x.blanks (c ∷ cs))
blanks_take c cs h = record { is = run_some x.is_blank c cs h }

remark_takes : (c : ℕ) (cs : List ℕ) → x.is_feed c ≡ false → Takes (x.remark (c ∷ cs))
remark_takes c cs h = record { is = run_some x.is_no_feed c cs (rw h refl) }

letters_take : (c : ℕ) (cs : List ℕ) → is_letter c ≡ true → Takes (x.letters (c ∷ cs))
letters_take c cs h =
    let n = prefix_len is_word_char (c ∷ cs) in
    let some : 0 < n = run_some is_word_char c cs (rw h refl) in
    either (nat_le n 255) (x.word (take n (c ∷ cs)), n) (x.bad 0, n) (λ _. record { is = some }) (λ _. record { is = some })

digits_take : (c : ℕ) (cs : List ℕ) → is_letter c ≡ false → is_digit c ≡ true → Takes (x.digits (c ∷ cs))
digits_take c cs h k = record { is = run_some is_word_char c cs (rw (h, k) refl) }

-- ---- texts

quotes_some : (b : Bool) → 0 < quotes b
quotes_some true = omega arith
quotes_some false = omega arith

text_takes : (before n : ℕ) (all : List ℕ) (r : Read) → 0 < n → Takes (x.text_from before all (onto [] n r))
text_takes before n all None h = record { is = omega arith }
text_takes before n all (Some t) h = record { is = omega arith }

quoted_takes : (before : ℕ) (is_raw : Bool) (all rest : List ℕ) → Takes (x.text_from before all (quoted is_raw rest))
unfolding quoted
quoted_takes before is_raw all rest =
    let quote = slice_index rest 0 in
    let is_triple = is_threefold quote rest in
    text_takes before (quotes is_triple) all (body is_raw quote is_triple (drop (quotes is_triple) rest)) (quotes_some is_triple)

-- ---- marks

record Marked (o : Option (Mark × ℕ)) : Type 0 where
  is : 0 < (x.sign_or_bad o).1

pick : (b : Bool) (p q : Option (Mark × ℕ)) → Marked p → Marked q → Marked (cond b p q)
pick true p q h k = h
pick false p q h k = k

one : (k : Mark) → Marked (taken k 1)
one k = record { is = omega arith }

none : Marked None
none = record { is = omega arith }

equals_some : (next : ℕ) (longer shorter : Mark) → Marked (with_equals next longer shorter)
equals_some next longer shorter = pick (next == 61) _ _ (record { is = omega arith }) (one shorter)

doubled_some : (next : ℕ) (longer shorter : Mark) → Marked (doubled next longer shorter)
doubled_some next longer shorter = pick (next == 61) _ _ (record { is = omega arith }) (record { is = omega arith })

delimiter_some : (b : ℕ) → Marked (delimiter b)
unfolding delimiter
delimiter_some b =
    pick (b == 40) _ _ (one _) (pick (b == 41) _ _ (one _) (pick (b == 91) _ _ (one _) (pick (b == 93) _ _ (one _) (pick (b == 123) _ _ (one _)
    (pick (b == 125) _ _ (one _) (pick (b == 44) _ _ (one _) (pick (b == 58) _ _ (one _) (pick (b == 46) _ _ (one _) (pick (b == 59) _ _ (one _) none)))))))))

operator_some : (b c d : ℕ) → Marked (operator b c d)
unfolding operator
operator_some b c d =
    pick (b == 43) _ _ (equals_some c _ _)
    (pick (b == 45) _ _ (equals_some c _ _)
    (pick (b == 42) _ _ (pick (c == 42) _ _ (doubled_some d _ _) (equals_some c _ _))
    (pick (b == 47) _ _ (pick (c == 47) _ _ (doubled_some d _ _) none)
    (pick (b == 37) _ _ (equals_some c _ _)
    (pick (b == 61) _ _ (equals_some c _ _)
    (pick (b == 33) _ _ (pick (c == 61) _ _ (record { is = omega arith }) none)
    (pick (b == 60) _ _ (equals_some c _ _)
    (pick (b == 62) _ _ (equals_some c _ _) (delimiter_some b)))))))))

sign_takes : (o : Option (Mark × ℕ)) → Marked o → Takes (x.sign_or_bad o)
sign_takes o h = record { is = h.is }

-- ---- the whole

token_takes : (c : ℕ) (cs : List ℕ) → Takes (token_piece (c ∷ cs))
unfolding token_piece
token_takes c cs =
    let all = c ∷ cs in
    either (x.is_quote c) _ _ (λ _. quoted_takes 0 false all (drop 0 all))
    (λ _. either (x.is_prefix c && x.is_quote (slice_index all 1)) _ _ (λ _. quoted_takes 1 (x.is_raw_prefix c) all (drop 1 all))
    (λ _. either (is_letter c) _ _ (λ h. letters_take c cs h)
    (λ h. either (is_digit c) _ _ (λ k. digits_take c cs h k)
    (λ _. sign_takes _ (operator_some c (slice_index all 1) (slice_index all 2))))))

backslash_takes : (next : ℕ) → Takes (x.after_backslash next)
backslash_takes next = either (next == 10) (x.joined, 2) (x.bad 0, 1) (λ _. record { is = omega arith }) (λ _. record { is = omega arith })

lexeme_takes : (c : ℕ) (cs : List ℕ) → Takes (lexeme (c ∷ cs))
unfolding lexeme
lexeme_takes c cs =
    either (x.is_blank c) _ _ (λ h. blanks_take c cs h)
    (λ _. either (x.is_feed c) (x.feed, 1) _ (λ _. record { is = omega arith })
    (λ h. either (c == 35) _ _ (λ _. remark_takes c cs h)
    (λ _. either (c == backslash) _ _ (λ _. backslash_takes (slice_index (c ∷ cs) 1)) (λ _. token_takes c cs))))

pub some_taken : (c : ℕ) (cs : List ℕ) → 0 < (lexeme (c ∷ cs)).1
some_taken c cs = (lexeme_takes c cs).is
