-- The rules of pieces and the finding of them agree: a piece by the rules is found, and what is found is a piece by the rules, or a fault.
use Rattle.std.proofs.Common.{◌≡◌, ℕ, zero, suc, ◌+◌, ◌<◌, ◌≤◌, Bool, true, false, cond, not, ◌&&◌, ◌||◌, List, [], ◌∷◌, ◌++◌, length, take, drop, Option, Some, None, refl, sym, ap, subst, ◌∙◌, arith}
use Rattle.std.proofs.lemmas.List.{take_at, length-take-le, take-append-drop}
use Rattle.std.proofs.lemmas.Bool.{eqb-true}
use Rattle.std.proofs.lemmas.Bool.Decides.{nat_tests}
use Rattle.std.specs.Prelude.{ℤ, pos, ◌==◌, slice_index, nat_lt, nat_le}
use Rattle.std.specs.List.{prefix_len, position, list_any, list_all}
use Rattle.kishu_language.specs.declared.token.Mark.{Mark}
use Rattle.kishu_language.specs.tokens.Names.{is_digit, is_letter, is_word_char, begins_with_letter, longest_name}
use Rattle.kishu_language.specs.tokens.Numerals.{numeral}
use Rattle.kishu_language.specs.tokens.Marks.{operator}
use Rattle.kishu_language.specs.tokens.Quoted.{Read, quoted}
use Rattle.kishu_language.specs.tokens.Lexemes as x
use Rattle.kishu_language.specs.tokens.Lexemes.{Cut, Lexeme, lexeme, token_piece, text_from, is_null, is_blank, is_no_feed, is_quote, is_prefix, is_dot, blank, comment, bad_comment, joined, feed, word, string, sign, bad}
use Rattle.kishu_token_laws.specs.TextItems.{split, both, neither}
use Rattle.kishu_token_laws.specs.TextPieces.{TextAt, Fair, no_place, passed, text_is_cut, text_is_some, fair_plain, fair_prefixed}
use Rattle.kishu_language.specs.rules.PieceRules as r
use Rattle.kishu_language.specs.rules.PieceRules.{Piece, Number, begins, opens_text, follows_number}
use Rattle.kishu_token_laws.specs.NumberPieces as num
use Rattle.kishu_token_laws.specs.NumberPieces.{number_is_read, number_is_word, number_begins, good_numeral, IsNumeral}
use Rattle.kishu_token_laws.specs.OperatorPieces as op
use Rattle.kishu_token_laws.specs.OperatorPieces.{OperatorAt, operator_is_cut, operator_is_some, operator_good}

-- ---- the characters that come first and pass a test

record Longest (p : ℕ → Bool) (all : List ℕ) (n : ℕ) : Type 0 where
  passes : list_all p (take n all) ≡ true
  stops : begins p (drop n all) ≡ false
  within : n ≤ length all

longest : (p : ℕ → Bool) (all : List ℕ) → Longest p all (prefix_len p all)
longest p [] = record { passes = refl; stops = refl; within = omega arith }
longest p (c ∷ cs) = go (p c) refl _ (longest p cs)
  where
    go : (b : Bool) → p c ≡ b → (m : ℕ) → Longest p cs m → Longest p (c ∷ cs) (cond b (1 + m) 0)
    go true e m h =
        let one : suc m ≡ 1 + m = omega arith in
        subst (λ k. Longest p (c ∷ cs) k) one (record { passes = ap (λ b. b && list_all p (take m cs)) e ∙ h.passes; stops = h.stops; within = omega (arith, h.within) })
    go false e m h = record { passes = refl; stops = e; within = omega arith }

run_is : (p : ℕ → Bool) (cs rest : List ℕ) → list_all p cs ≡ true → begins p rest ≡ false → prefix_len p (cs ++ rest) ≡ length cs
run_is p [] [] h k = refl
run_is p [] (c ∷ rest) h k = ap (λ b. cond b (1 + prefix_len p rest) 0) k
run_is p (c ∷ cs) rest h k =
    let a = both (p c) (list_all p cs) h in
    let one : 1 + prefix_len p (cs ++ rest) ≡ suc (length cs) = omega (arith, run_is p cs rest a.1 k) in
    ap (λ b. cond b (1 + prefix_len p (cs ++ rest)) 0) a.0 ∙ one

-- a first one that passes counts
counted : (p : ℕ → Bool) (c : ℕ) (cs : List ℕ) → p c ≡ true → prefix_len p (c ∷ cs) ≡ suc (prefix_len p cs)
counted p c cs h = let one : 1 + prefix_len p cs ≡ suc (prefix_len p cs) = omega arith in ap (λ b. cond b (1 + prefix_len p cs) 0) h ∙ one

differs : (p : ℕ → Bool) (c k : ℕ) → p c ≡ true → p k ≡ false → (c == k) ≡ false
differs p c k h f = go (c == k) refl
  where
    no : (b : Bool) → b ≡ true → b ≡ false → ⊥
    no b e f = cc

    go : (b : Bool) → (c == k) ≡ b → (c == k) ≡ false
    go true e = absurd (no (p c) h (ap p (eqb-true c k e) ∙ f))
    go false e = e

-- ---- what the rules say is found

letter_found : (c : ℕ) (z : List ℕ) → is_letter c ≡ true → (is_prefix c && is_quote (slice_index z 0)) ≡ false → lexeme (c ∷ z) ≡ x.letters (c ∷ z)
unfolding lexeme token_piece
letter_found c z h k =
    rw (differs is_letter c 32 h refl, differs is_letter c 9 h refl, differs is_letter c 10 h refl, differs is_letter c 35 h refl, differs is_letter c 92 h refl, differs is_letter c 39 h refl, differs is_letter c 34 h refl, k, h) refl

no_letter : (c : ℕ) → is_digit c ≡ true → is_letter c ≡ false
no_letter c h = grind (arith, nat_tests)

digit_found : (c : ℕ) (z : List ℕ) → is_digit c ≡ true → lexeme (c ∷ z) ≡ x.digits (c ∷ z)
unfolding lexeme token_piece
digit_found c z h =
    rw (
      differs is_digit c 32 h refl,
      differs is_digit c 9 h refl,
      differs is_digit c 10 h refl,
      differs is_digit c 35 h refl,
      differs is_digit c 92 h refl,
      differs is_digit c 39 h refl,
      differs is_digit c 34 h refl,
      differs is_digit c 114 h refl,
      differs is_digit c 82 h refl,
      differs is_digit c 117 h refl,
      differs is_digit c 85 h refl,
      no_letter c h,
      h,
    ) refl

blank_found : (c : ℕ) (z : List ℕ) → is_blank c ≡ true → lexeme (c ∷ z) ≡ x.blanks (c ∷ z)
unfolding lexeme
blank_found c z h = rw h refl

white_found : (c : ℕ) (cs rest : List ℕ) → list_all is_blank (c ∷ cs) ≡ true → begins is_blank rest ≡ false → lexeme (c ∷ (cs ++ rest)) ≡ (blank (c ∷ cs), suc (length cs))
white_found c cs rest h k =
    let n : prefix_len is_blank (c ∷ (cs ++ rest)) ≡ suc (length cs) = run_is is_blank (c ∷ cs) rest h k in
    blank_found c (cs ++ rest) (both (is_blank c) (list_all is_blank cs) h).0
    ∙ ap (λ n. (blank (take n (c ∷ (cs ++ rest))), n)) n ∙ ap (λ l. (blank l, suc (length cs))) (take_at (c ∷ cs) rest (suc (length cs)) refl)

remark_found : (cs rest : List ℕ) → list_all is_no_feed cs ≡ true → list_any is_null cs ≡ false → begins is_no_feed rest ≡ false → lexeme (35 ∷ (cs ++ rest)) ≡ (comment, suc (length cs))
unfolding lexeme
remark_found cs rest h none k =
    let n : prefix_len is_no_feed (35 ∷ (cs ++ rest)) ≡ suc (length cs) = run_is is_no_feed (35 ∷ cs) rest h k in
    ap (λ n. (x.comment_by (position is_null (take n (35 ∷ (cs ++ rest)))), n)) n
    ∙ ap (λ l. (x.comment_by (position is_null l), suc (length cs))) (take_at (35 ∷ cs) rest (suc (length cs)) refl)
    ∙ ap (λ o. (x.comment_by o, suc (length cs))) (no_place (35 ∷ cs) none)

first_quote : (rest : List ℕ) → is_quote (slice_index rest 0) ≡ begins is_quote rest
first_quote [] = refl
first_quote (c ∷ rest) = refl

no_quote : (c : ℕ) → is_word_char c ≡ true → is_quote c ≡ false
no_quote c h = rw (differs is_word_char c 39 h refl, differs is_word_char c 34 h refl) refl

and_false : (a b : Bool) → b ≡ false → (a && b) ≡ false
and_false true b h = h
and_false false b h = refl

no_text : (c : ℕ) (cs rest : List ℕ) → list_all is_word_char (c ∷ cs) ≡ true → opens_text (c ∷ cs) rest ≡ false → (is_prefix c && is_quote (slice_index (cs ++ rest) 0)) ≡ false
no_text c [] rest h k = ap (λ b. is_prefix c && b) (first_quote rest) ∙ k
no_text c (d ∷ cs) rest h k = and_false (is_prefix c) (is_quote d) (no_quote d (both (is_word_char d) (list_all is_word_char cs) (both (is_word_char c) (list_all is_word_char (d ∷ cs)) h).1).0)

name_found : (cs rest : List ℕ) → begins_with_letter cs ≡ true → list_all is_word_char cs ≡ true → length cs ≤ longest_name → begins is_word_char rest ≡ false → opens_text cs rest ≡ false
    → lexeme (cs ++ rest) ≡ (word cs, length cs)
name_found [] rest first h small k apart = absurd cc
name_found (c ∷ cs) rest first h small k apart =
    let fits : nat_le (length (c ∷ cs)) 255 ≡ true = grind (arith, nat_tests) in
    letter_found c (cs ++ rest) first (no_text c cs rest h apart)
    ∙ ap (λ n. x.name (take n (c ∷ (cs ++ rest))) n) (run_is is_word_char (c ∷ cs) rest h k)
    ∙ ap (λ l. x.name l (length (c ∷ cs))) (take_at (c ∷ cs) rest (length (c ∷ cs)) refl)
    ∙ ap (λ b. cond b (word (c ∷ cs), length (c ∷ cs)) (bad 0, length (c ∷ cs))) fits

no_word : (rest : List ℕ) → begins follows_number rest ≡ false → (begins is_word_char rest ≡ false) × (is_dot (slice_index rest 0) ≡ false)
no_word [] h = (refl, refl)
no_word (c ∷ rest) h = neither (is_word_char c) (is_dot c) h

digit_range : (c : ℕ) → (48 ≤ c) × (c < 58) → is_digit c ≡ true
digit_range c h = grind (arith, nat_tests)

behind_is : (cs rest : List ℕ) → slice_index (cs ++ rest) (length cs) ≡ slice_index rest 0
behind_is [] rest = refl
behind_is (c ∷ cs) rest = behind_is cs rest

digits_from : (cs rest : List ℕ) → 0 < length cs → is_digit (slice_index cs 0) ≡ true → lexeme (cs ++ rest) ≡ x.digits (cs ++ rest)
digits_from [] rest some h = absurd (omega arith)
digits_from (c ∷ cs) rest some h = digit_found c (cs ++ rest) h

number_found : {v : ℕ} (cs rest : List ℕ) → Number cs v → numeral cs ≡ Some (pos v) → begins follows_number rest ≡ false → lexeme (cs ++ rest) ≡ (x.number (pos v), length cs)
number_found {v = v} cs rest rule read k =
    let b = number_begins rule in
    let a = no_word rest k in
    digits_from cs rest b.0 (digit_range (slice_index cs 0) b.1)
    ∙ ap (λ m. (x.value_or_bad (slice_index (cs ++ rest) m) (numeral (take m (cs ++ rest))), m)) (run_is is_word_char cs rest (number_is_word rule) a.0)
    ∙ ap (λ l. (x.value_or_bad (slice_index (cs ++ rest) (length cs)) (numeral l), length cs)) (take_at cs rest (length cs) refl)
    ∙ ap (λ v. (x.value_or_bad (slice_index (cs ++ rest) (length cs)) v, length cs)) read
    ∙ ap (λ b. (cond b (bad 0) (x.number (pos v)), length cs)) (ap is_dot (behind_is cs rest) ∙ a.1)

join_found : (rest : List ℕ) → lexeme (92 ∷ 10 ∷ rest) ≡ (joined, 2)
unfolding lexeme
join_found rest = refl

end_found : (rest : List ℕ) → lexeme (10 ∷ rest) ≡ (feed, 1)
unfolding lexeme
end_found rest = refl

-- A piece by the rules is found.
pub piece_is_found : {piece rest : List ℕ} {l : Lexeme} → Piece piece rest l → lexeme (piece ++ rest) ≡ (l, length piece)
piece_is_found (r.white {cs = []} some h k) = absurd (omega arith)
piece_is_found (r.white {cs = c ∷ cs} {rest = rest} some h k) = white_found c cs rest h k
piece_is_found (r.remark {cs = cs} {rest = rest} h none k) = remark_found cs rest h none k
piece_is_found (r.join {rest = rest}) = join_found rest
piece_is_found (r.end {rest = rest}) = end_found rest
piece_is_found (r.name {cs = cs} {rest = rest} first h small k apart) = name_found cs rest first h small k apart
piece_is_found (r.integer {cs = cs} {rest = rest} rule small k) = number_found cs rest rule (number_is_read rule small) k
piece_is_found (r.text {cs = cs} {rest = rest} {meaning = meaning} t) = text_is_cut cs rest meaning t
piece_is_found (r.operator {cs = cs} {rest = rest} {k = k} h longest) = operator_is_cut cs rest k h longest

letter_some : (cs : List ℕ) → begins_with_letter cs ≡ true → 0 < length cs
letter_some [] h = absurd cc
letter_some (c ∷ cs) h = omega arith

pub piece_is_some : {piece rest : List ℕ} {l : Lexeme} → Piece piece rest l → 0 < length piece
piece_is_some (r.white some h k) = some
piece_is_some (r.remark h none k) = omega arith
piece_is_some r.join = omega arith
piece_is_some r.end = omega arith
piece_is_some (r.name {cs = cs} first h small k apart) = letter_some cs first
piece_is_some (r.integer rule small k) = (number_begins rule).0
piece_is_some (r.text {cs = cs} {rest = rest} {meaning = meaning} t) = text_is_some cs rest meaning t
piece_is_some (r.operator {cs = cs} {k = k} h longest) = operator_is_some cs k h

-- ---- what is found, the rules say

abbrev pub is_fault : Lexeme → Bool
is_fault (bad below) = true
is_fault bad_comment = true
is_fault (blank w) = false
is_fault comment = false
is_fault joined = false
is_fault feed = false
is_fault (word w) = false
is_fault (x.number z) = false
is_fault (string t) = false
is_fault (sign k) = false

pub record PieceAt (all : List ℕ) (l : Lexeme) (n : ℕ) : Type 0 where
  pub rule : Piece (take n all) (drop n all) l
  pub within : n ≤ length all
  pub some : 0 < n

pub record FairPiece (all : List ℕ) (cut : Cut) : Type 0 where
  pub piece : is_fault cut.0 ≡ false → PieceAt all cut.0 cut.1

known : (all : List ℕ) (l : Lexeme) (n : ℕ) → PieceAt all l n → FairPiece all (l, n)
known all l n h = record { piece = λ e. h }

fault : (all : List ℕ) (l : Lexeme) (n : ℕ) → is_fault l ≡ true → FairPiece all (l, n)
fault all l n h = record { piece = λ e. absurd (no (is_fault l) h e) }
  where
    no : (b : Bool) → b ≡ true → b ≡ false → ⊥
    no b e f = cc

white_fair : (c : ℕ) (cs : List ℕ) → is_blank c ≡ true → FairPiece (c ∷ cs) (x.blanks (c ∷ cs))
white_fair c cs h =
    let all = c ∷ cs in
    let n = prefix_len is_blank all in
    let g = longest is_blank all in
    let some : 0 < n = omega (arith, counted is_blank c cs h) in
    let taken : length (take n all) ≡ n = length-take-le n all g.within in
    known all (blank (take n all)) n (record { rule = r.white (omega (arith, taken)) g.passes g.stops; within = g.within; some = some })

remark_fair : (cs : List ℕ) → FairPiece (35 ∷ cs) (x.remark (35 ∷ cs))
remark_fair cs =
    let g = longest is_no_feed cs in
    subst (λ n. FairPiece (35 ∷ cs) (x.comment_by (position is_null (take n (35 ∷ cs))), n)) (sym (counted is_no_feed 35 cs refl))
    (go (prefix_len is_no_feed cs) g (nat_lt (prefix_len (λ c. not (is_null c)) (35 ∷ take (prefix_len is_no_feed cs) cs)) (suc (length (take (prefix_len is_no_feed cs) cs)))) refl)
  where
    go : (m : ℕ) → Longest is_no_feed cs m → (b : Bool) → nat_lt (prefix_len (λ c. not (is_null c)) (35 ∷ take m cs)) (suc (length (take m cs))) ≡ b
        → FairPiece (35 ∷ cs) (x.comment_by (cond b (Some (prefix_len (λ c. not (is_null c)) (35 ∷ take m cs))) None), suc m)
    go m g true e = fault (35 ∷ cs) bad_comment (suc m) refl
    go m g false e = known (35 ∷ cs) comment (suc m) (record { rule = r.remark g.passes (passed is_null (35 ∷ take m cs) (grind (arith, nat_tests))) g.stops; within = omega (arith, g.within); some = omega arith })

backslash_fair : (cs : List ℕ) → FairPiece (92 ∷ cs) (x.after_backslash (slice_index cs 0))
backslash_fair [] = fault (92 ∷ []) (bad 0) 1 refl
backslash_fair (c ∷ cs) = split (FairPiece (92 ∷ c ∷ cs)) (c == 10) (joined, 2) (bad 0, 1)
    (λ h. subst (λ v. FairPiece (92 ∷ v ∷ cs) (joined, 2)) (sym (eqb-true c 10 h)) (known (92 ∷ 10 ∷ cs) joined 2 (record { rule = r.join; within = omega arith; some = omega arith })))
    (λ h. fault (92 ∷ c ∷ cs) (bad 0) 1 refl)

feed_fair : (cs : List ℕ) → FairPiece (10 ∷ cs) (feed, 1)
feed_fair cs = known (10 ∷ cs) feed 1 (record { rule = r.end; within = omega arith; some = omega arith })

text_or_fault : (before : ℕ) (all : List ℕ) (t : Read) → is_fault (text_from before all t).0 ≡ false → (bytes : List ℕ) × ((text_from before all t).0 ≡ string bytes)
text_or_fault before all None h = absurd cc
text_or_fault before all (Some t) h = go (position is_null (take (before + t.1) all)) h
  where
    go : (p : Option ℕ) → is_fault (x.by_place (take (before + t.1) all) (string t.0) p) ≡ false → (bytes : List ℕ) × (x.by_place (take (before + t.1) all) (string t.0) p ≡ string bytes)
    go None h = (t.0, refl)
    go (Some place) h = absurd cc

from_text : (all : List ℕ) (l : Lexeme) (n : ℕ) (bytes : List ℕ) → l ≡ string bytes → TextAt all bytes n → PieceAt all l n
from_text all l n bytes e t =
    let rule : Piece (take n all) (drop n all) l = subst (λ v. Piece (take n all) (drop n all) v) (sym (ap string t.value) ∙ sym e) (r.text t.is) in
    record { rule = rule; within = t.within; some = t.some }

text_fair : (before : ℕ) (all : List ℕ) (t : Read) → Fair all (text_from before all t) → FairPiece all (text_from before all t)
text_fair before all t h = record { piece = λ e. (let b = text_or_fault before all t e in from_text all (text_from before all t).0 (text_from before all t).1 b.0 b.1 (h.text b.0 b.1)) }

letters_first : (c : ℕ) (cs : List ℕ) (m : ℕ) → (is_prefix c && is_quote (slice_index cs 0)) ≡ false → opens_text (take (suc m) (c ∷ cs)) (drop (suc m) (c ∷ cs)) ≡ false
letters_first c cs zero h = ap (λ b. is_prefix c && b) (sym (first_quote cs)) ∙ h
letters_first c [] (suc m) h = h
letters_first c (d ∷ cs) (suc m) h = refl

letter_is_word : (c : ℕ) → is_letter c ≡ true → is_word_char c ≡ true
letter_is_word c h = ap (λ b. b || is_digit c) h

name_fair : (c : ℕ) (cs : List ℕ) → is_letter c ≡ true → (is_prefix c && is_quote (slice_index cs 0)) ≡ false → FairPiece (c ∷ cs) (x.letters (c ∷ cs))
name_fair c cs h apart =
    let m = prefix_len is_word_char cs in
    let all = c ∷ cs in
    let one = counted is_word_char c cs (letter_is_word c h) in
    let g : Longest is_word_char all (suc m) = subst (λ k. Longest is_word_char all k) one (longest is_word_char all) in
    let taken : length (take (suc m) all) ≡ suc m = length-take-le (suc m) all g.within in
    subst (λ n. FairPiece all (x.name (take n all) n)) (sym one)
    (split (FairPiece all) (nat_le (suc m) longest_name) (word (take (suc m) all), suc m) (bad 0, suc m)
    (λ fits.
    let small : length (take (suc m) all) ≤ longest_name = grind (arith, nat_tests) in
    known all (word (take (suc m) all)) (suc m) (record { rule = r.name h g.passes small g.stops (letters_first c cs m apart); within = g.within; some = omega arith }))
    (λ fits. fault all (bad 0) (suc m) refl))

digit_is_word : (c : ℕ) → is_digit c ≡ true → is_word_char c ≡ true
digit_is_word c h = go (is_letter c) (is_digit c) h
  where
    go : (a b : Bool) → b ≡ true → (a || b) ≡ true
    go true b e = refl
    go false b e = e

no_follower : (rest : List ℕ) → begins is_word_char rest ≡ false → is_dot (slice_index rest 0) ≡ false → begins follows_number rest ≡ false
no_follower [] h k = refl
no_follower (c ∷ rest) h k = ap (λ b. b || is_dot c) h ∙ k

index_behind : (n : ℕ) (all : List ℕ) → slice_index (drop n all) 0 ≡ slice_index all n
index_behind zero all = refl
index_behind (suc n) [] = refl
index_behind (suc n) (c ∷ cs) = index_behind n cs

value_fair : (all : List ℕ) (n : ℕ) → 0 < n → Longest is_word_char all n → (z : Option ℤ) → num.Good (take n all) z → FairPiece all (x.value_or_bad (slice_index all n) z, n)
value_fair all n some g None h = fault all (bad 0) n refl
value_fair all n some g (Some z) h = split (λ l. FairPiece all (l, n)) (is_dot (slice_index all n)) (bad 0) (x.number z)
    (λ e. fault all (bad 0) n refl)
    (λ e.
    let rule : Piece (take n all) (drop n all) (x.number (pos h.n)) = r.integer h.rule h.small (no_follower (drop n all) g.stops (ap is_dot (index_behind n all) ∙ e)) in
    known all (x.number z) n (record { rule = subst (λ v. Piece (take n all) (drop n all) (x.number v)) (sym h.value) rule; within = g.within; some = some }))

number_fair : (c : ℕ) (cs : List ℕ) → is_digit c ≡ true → FairPiece (c ∷ cs) (x.digits (c ∷ cs))
number_fair c cs h =
    let all = c ∷ cs in
    let n = prefix_len is_word_char all in
    value_fair all n (omega (arith, counted is_word_char c cs (digit_is_word c h))) (longest is_word_char all) (numeral (take n all)) (good_numeral (take n all))

sign_fair : (all : List ℕ) (t : Option (Mark × ℕ)) → op.Good all t → FairPiece all (x.sign_or_bad t)
sign_fair all None h = fault all (bad 0) 1 refl
sign_fair all (Some t) h = known all (sign t.0) t.1 (record { rule = r.operator h.spelled (subst (λ n. r.has_longer n (take t.1 all ++ drop t.1 all) ≡ false) (sym (length-take-le t.1 all h.within)) (subst (λ l. r.has_longer t.1 l ≡ false) (sym (take-append-drop t.1 all)) h.longest)); within = h.within; some = h.some })

token_fair : (c : ℕ) (cs : List ℕ) → FairPiece (c ∷ cs) (token_piece (c ∷ cs))
unfolding token_piece
token_fair c cs =
    let all = c ∷ cs in
    split (FairPiece all) (is_quote c) _ _ (λ h. text_fair 0 all (quoted false all) (fair_plain c cs h))
    (λ a. split (FairPiece all) (is_prefix c && is_quote (slice_index cs 0)) _ _ (λ h. (let k = both _ _ h in text_fair 1 all (quoted (x.is_raw_prefix c) cs) (fair_prefixed c cs k.0 k.1)))
    (λ b. split (FairPiece all) (is_letter c) _ _ (λ h. name_fair c cs h b)
    (λ d. split (FairPiece all) (is_digit c) _ _ (λ h. number_fair c cs h)
    (λ e. sign_fair all (operator c (slice_index cs 0) (slice_index cs 1)) (operator_good c cs)))))

at_first : (c k : ℕ) (cs : List ℕ) (f : List ℕ → Cut) → (c == k) ≡ true → FairPiece (k ∷ cs) (f (k ∷ cs)) → FairPiece (c ∷ cs) (f (c ∷ cs))
at_first c k cs f h g = subst (λ v. FairPiece (v ∷ cs) (f (v ∷ cs))) (sym (eqb-true c k h)) g

-- What is found is a piece by the rules, or a fault.
pub found_is_piece : (c : ℕ) (cs : List ℕ) → FairPiece (c ∷ cs) (lexeme (c ∷ cs))
unfolding lexeme
found_is_piece c cs =
    let all = c ∷ cs in
    split (FairPiece all) (is_blank c) _ _ (λ h. white_fair c cs h)
    (λ a. split (FairPiece all) (c == 10) _ _ (λ h. at_first c 10 cs (λ l. (feed, 1)) h (feed_fair cs))
    (λ b. split (FairPiece all) (c == 35) _ _ (λ h. at_first c 35 cs (λ l. x.remark l) h (remark_fair cs))
    (λ d. split (FairPiece all) (c == 92) _ _ (λ h. at_first c 92 cs (λ l. x.after_backslash (slice_index l 1)) h (backslash_fair cs)) (λ e. token_fair c cs))))

pub piece_is_sound : {piece rest : List ℕ} {l : Lexeme} → Piece piece rest l → is_fault l ≡ false
piece_is_sound (r.white some h k) = refl
piece_is_sound (r.remark h none k) = refl
piece_is_sound r.join = refl
piece_is_sound r.end = refl
piece_is_sound (r.name first h small k apart) = refl
piece_is_sound (r.integer rule small k) = refl
piece_is_sound (r.text t) = refl
piece_is_sound (r.operator h longest) = refl
