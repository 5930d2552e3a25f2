-- The piece at the front of a text is the same where the text ends behind it.
use Rattle.std.proofs.Common.{◌≡◌, ℕ, zero, suc, ◌+◌, ◌<◌, ◌≤◌, Bool, true, false, cond, List, [], ◌∷◌, ◌++◌, length, take, drop, Option, Some, None, refl, sym, ap, subst, ◌∙◌, arith, ◌⊎◌, inl, inr, ⊎_elim}
use Rattle.std.proofs.lemmas.Bool.Decides.{nat_tests}
use Rattle.std.proofs.lemmas.List.{take-append-le}
use Rattle.std.specs.Prelude.{◌&&◌, not, slice_index, nat_le, nat_lt, ◌==◌, ℤ}
use Rattle.std.specs.List.{prefix_len, position}
use Rattle.std.specs.Char.{is_digit}
use Rattle.kishu_language.specs.declared.token.Mark.{Mark}
use Rattle.kishu_language.specs.tokens.Numerals.{numeral, digits_value}
use Rattle.kishu_language.specs.tokens.Names as names
use Rattle.kishu_language.specs.tokens.Quoted.{Read, item, escape, short_escape, long_escape, short_or, hexadecimal, octal, coded, kept, backslash}
use Rattle.kishu_language.specs.tokens.Marks.{Taken, operator, delimiter, taken, with_equals, doubled}
use Rattle.kishu_language.specs.tokens.Lexemes as x
use Rattle.kishu_language.specs.tokens.Lexemes.{Lexeme, blank, comment, bad_comment, joined, feed, word, number, string, sign, bad, Cut, lexeme, token_piece}

abbrev pub is_fault : Lexeme → Bool
is_fault (bad below) = true
is_fault (blank w) = false
is_fault comment = false
is_fault bad_comment = false
is_fault joined = false
is_fault feed = false
is_fault (word w) = false
is_fault (number z) = false
is_fault (string t) = false
is_fault (sign k) = false

-- The first, where it is no fault and takes at most so many characters, is the second.
pub record Stays (n : ℕ) (long short : Cut) : Type 0 where
  pub is : is_fault long.0 ≡ false → long.1 ≤ n → short ≡ long

pub stays : (n : ℕ) (p : Cut) → Stays n p p
stays n p = record { is = λ h k. refl }

pub either : (n : ℕ) (b : Bool) (p q p' q' : Cut) → (b ≡ true → Stays n p p') → (b ≡ false → Stays n q q') → Stays n (cond b p q) (cond b p' q')
either n true p q p' q' h k = h refl
either n false p q p' q' h k = k refl

pub absurd_bool : true ≡ false → ⊥
absurd_bool h = cc

pub fault : (n m : ℕ) (below : ℕ) (short : Cut) → Stays n (bad below, m) short
fault n m below short = record { is = λ h k. absurd (absurd_bool h) }

-- ---- runs of characters

run_short : (p : ℕ → Bool) (cs ys : List ℕ) → prefix_len p (cs ++ ys) ≤ length cs → prefix_len p cs ≡ prefix_len p (cs ++ ys)
run_short p [] ys h = omega arith
run_short p (c ∷ cs) ys h = go (p c) h (run_short p cs ys)
  where
    go : (b : Bool) → cond b (1 + prefix_len p (cs ++ ys)) 0 ≤ length (c ∷ cs) → (prefix_len p (cs ++ ys) ≤ length cs → prefix_len p cs ≡ prefix_len p (cs ++ ys))
        → cond b (1 + prefix_len p cs) 0 ≡ cond b (1 + prefix_len p (cs ++ ys)) 0
    go true h next = ap (λ n. 1 + n) (next (omega arith))
    go false h next = refl

-- where a run in the first m characters ends before the text does
run_in_front : (p : ℕ → Bool) (m : ℕ) (cs ys : List ℕ) → prefix_len p (take m (cs ++ ys)) < length cs → prefix_len p (take m cs) ≡ prefix_len p (take m (cs ++ ys))
run_in_front p zero cs ys h = refl
run_in_front p (suc m) [] ys h = absurd (omega arith)
run_in_front p (suc m) (c ∷ cs) ys h = go (p c) h (run_in_front p m cs ys)
  where
    go : (b : Bool) → cond b (1 + prefix_len p (take m (cs ++ ys))) 0 < length (c ∷ cs) → (prefix_len p (take m (cs ++ ys)) < length cs → prefix_len p (take m cs) ≡ prefix_len p (take m (cs ++ ys)))
        → cond b (1 + prefix_len p (take m cs)) 0 ≡ cond b (1 + prefix_len p (take m (cs ++ ys))) 0
    go true h next = ap (λ n. 1 + n) (next (omega arith))
    go false h next = refl

index_short : (cs ys : List ℕ) (i : ℕ) → i < length cs → slice_index cs i ≡ slice_index (cs ++ ys) i
index_short [] ys i h = absurd (omega arith)
index_short (c ∷ cs) ys zero h = refl
index_short (c ∷ cs) ys (suc i) h = index_short cs ys i (omega arith)

index_past : (cs : List ℕ) (i : ℕ) → length cs ≤ i → slice_index cs i ≡ 0
index_past [] i h = refl
index_past (c ∷ cs) zero h = absurd (omega arith)
index_past (c ∷ cs) (suc i) h = index_past cs i (omega arith)

pub take_short : (n : ℕ) (cs ys : List ℕ) → n ≤ length cs → take n cs ≡ take n (cs ++ ys)
take_short n cs ys h = sym (take-append-le n cs ys h)

pub blanks_short : (cs ys : List ℕ) → Stays (length cs) (x.blanks (cs ++ ys)) (x.blanks cs)
blanks_short cs ys = record {
  is = λ h k. (let n = run_short x.is_blank cs ys k in
      ap (λ n. (blank (take n cs), n)) n ∙ ap (λ w. (blank w, prefix_len x.is_blank (cs ++ ys))) (take_short (prefix_len x.is_blank (cs ++ ys)) cs ys k));
}

pub remark_short : (cs ys : List ℕ) → Stays (length cs) (x.remark (cs ++ ys)) (x.remark cs)
remark_short cs ys = record {
  is = λ h k. (let n = run_short x.is_no_feed cs ys k in
      ap (λ n. (x.comment_by (position x.is_null (take n cs)), n)) n
      ∙ ap (λ w. (x.comment_by (position x.is_null w), prefix_len x.is_no_feed (cs ++ ys))) (take_short (prefix_len x.is_no_feed (cs ++ ys)) cs ys k));
}

abbrev named : Bool → List ℕ → ℕ → Cut
named b w n = cond b (word w, n) (bad 0, n)

named_length : (b : Bool) (w : List ℕ) (n m : ℕ) → (named b w n).1 ≤ m → n ≤ m
named_length true w n m h = h
named_length false w n m h = h

pub letters_short : (cs ys : List ℕ) → Stays (length cs) (x.letters (cs ++ ys)) (x.letters cs)
letters_short cs ys = go (prefix_len names.is_word_char (cs ++ ys)) (λ h. run_short names.is_word_char cs ys h)
  where
    -- the length is the first of the two, where the text is long enough
    go : (n : ℕ) → (n ≤ length cs → prefix_len names.is_word_char cs ≡ n) → Stays (length cs) (x.name (take n (cs ++ ys)) n) (x.letters cs)
    go n same = record {
      is = λ h k. (let small = named_length (nat_le n names.longest_name) (take n (cs ++ ys)) n (length cs) k in
          ap (λ n. x.name (take n cs) n) (same small) ∙ ap (λ w. x.name w n) (take_short n cs ys small));
    }

pub digits_short : (cs ys : List ℕ) → Stays (length cs) (x.digits (cs ++ ys)) (x.digits cs)
digits_short cs ys = record { is = λ h k. go (run_short names.is_word_char cs ys k) k h }
  where
    all : ℕ
    all = prefix_len names.is_word_char (cs ++ ys)

    after : (z : Option ℤ) (a b : ℕ) → (a ≡ b) ⊎ (a ≡ 0) → is_fault (x.value_or_bad b z) ≡ false → x.value_or_bad a z ≡ x.value_or_bad b z
    after None a b e h = refl
    after (Some z) a b e h = ⊎_elim (λ e. ap (λ n. x.value_or_bad n (Some z)) e) (λ e. ap (λ n. x.value_or_bad n (Some z)) e ∙ not_bad (x.is_dot b) h) e
      where
        not_bad : (d : Bool) → is_fault (cond d (bad 0) (number z)) ≡ false → number z ≡ cond d (bad 0) (number z)
        not_bad true h = absurd (absurd_bool h)
        not_bad false h = refl

    behind : (n : ℕ) → n ≤ length cs → (slice_index cs n ≡ slice_index (cs ++ ys) n) ⊎ (slice_index cs n ≡ 0)
    behind n h = place (nat_lt n (length cs)) refl
      where
        place : (b : Bool) → nat_lt n (length cs) ≡ b → (slice_index cs n ≡ slice_index (cs ++ ys) n) ⊎ (slice_index cs n ≡ 0)
        place true e = inl (index_short cs ys n (grind (arith, nat_tests)))
        place false e = inr (index_past cs n (grind (arith, nat_tests)))

    go : prefix_len names.is_word_char cs ≡ prefix_len names.is_word_char (cs ++ ys) → prefix_len names.is_word_char (cs ++ ys) ≤ length cs
        → is_fault (x.digits (cs ++ ys)).0 ≡ false → x.digits cs ≡ x.digits (cs ++ ys)
    go e k h =
        let n = prefix_len names.is_word_char (cs ++ ys) in
        ap (λ n. (x.value_or_bad (slice_index cs n) (numeral (take n cs)), n)) e
        ∙ ap (λ w. (x.value_or_bad (slice_index cs n) (numeral w), n)) (take_short n cs ys k)
        ∙ ap (λ v. (v, n)) (after (numeral (take n (cs ++ ys))) (slice_index cs n) (slice_index (cs ++ ys) n) (behind n k) h)

-- ---- marks

-- the same of what may be a mark
pub record Holds (n : ℕ) (long short : Taken) : Type 0 where
  is : (t : Mark × ℕ) → long ≡ Some t → t.1 ≤ n → short ≡ long

pick : (n : ℕ) (b : Bool) (p r p' r' : Taken) → Holds n p p' → Holds n r r' → Holds n (cond b p r) (cond b p' r')
pick n true p r p' r' h k = h
pick n false p r p' r' h k = k

holds : (n : ℕ) (p : Taken) → Holds n p p
holds n p = record { is = λ t e h. refl }

length_is : (k : Mark) (m : ℕ) (t : Mark × ℕ) → taken k m ≡ Some t → m ≡ t.1
length_is k m t e = ap (λ (o : Option (Mark × ℕ)). size o) e
  where
    size : Option (Mark × ℕ) → ℕ
    size None = m
    size (Some t) = t.1

too_long : (n m : ℕ) (k : Mark) (short : Taken) → n < m → Holds n (taken k m) short
too_long n m k short h = record { is = λ t e small. absurd (omega (arith, length_is k m t e)) }

never : (n : ℕ) (short : Taken) → Holds n None short
never n short = record { is = λ t e small. absurd (apart t e) }
  where
    apart : (t : Mark × ℕ) → None ≡ Some t → ⊥
    apart t e = cc

equals_short : (a : ℕ) (longer shorter : Mark) → Holds 1 (with_equals a longer shorter) (with_equals 0 longer shorter)
equals_short a longer shorter = choose (a == 61)
  where
    choose : (b : Bool) → Holds 1 (cond b (taken longer 2) (taken shorter 1)) (with_equals 0 longer shorter)
    choose true = too_long 1 2 longer (with_equals 0 longer shorter) (omega arith)
    choose false = holds 1 (taken shorter 1)

doubled_never : (a : ℕ) (longer shorter : Mark) (short : Taken) → Holds 1 (doubled a longer shorter) short
doubled_never a longer shorter short = choose (a == 61)
  where
    choose : (b : Bool) → Holds 1 (cond b (taken longer 3) (taken shorter 2)) short
    choose true = too_long 1 3 longer short (omega arith)
    choose false = too_long 1 2 shorter short (omega arith)

doubled_short : (a : ℕ) (longer shorter : Mark) → Holds 2 (doubled a longer shorter) (doubled 0 longer shorter)
doubled_short a longer shorter = choose (a == 61)
  where
    choose : (b : Bool) → Holds 2 (cond b (taken longer 3) (taken shorter 2)) (doubled 0 longer shorter)
    choose true = too_long 2 3 longer (doubled 0 longer shorter) (omega arith)
    choose false = holds 2 (taken shorter 2)

star_one : (a b : ℕ) (p q r s : Mark) → Holds 1 (cond (a == 42) (doubled b p q) (with_equals a r s)) (with_equals 0 r s)
star_one a b p q r s = choose (a == 42)
  where
    choose : (c : Bool) → Holds 1 (cond c (doubled b p q) (with_equals a r s)) (with_equals 0 r s)
    choose true = doubled_never b p q (with_equals 0 r s)
    choose false = equals_short a r s

slash_one : (a b : ℕ) (p q : Mark) → Holds 1 (cond (a == 47) (doubled b p q) None) None
slash_one a b p q = choose (a == 47)
  where
    choose : (c : Bool) → Holds 1 (cond c (doubled b p q) None) None
    choose true = doubled_never b p q None
    choose false = holds 1 None

bang_one : (a : ℕ) (p : Mark) → Holds 1 (cond (a == 61) (taken p 2) None) None
bang_one a p = choose (a == 61)
  where
    choose : (c : Bool) → Holds 1 (cond c (taken p 2) None) None
    choose true = too_long 1 2 p None (omega arith)
    choose false = holds 1 None

operator_one : (c a b : ℕ) → Holds 1 (operator c a b) (operator c 0 0)
unfolding operator
operator_one c a b =
    pick 1 (c == 43) _ _ _ _ (equals_short a _ _)
    (pick 1 (c == 45) _ _ _ _ (equals_short a _ _)
    (pick 1 (c == 42) _ _ _ _ (star_one a b _ _ _ _)
    (pick 1 (c == 47) _ _ _ _ (slash_one a b _ _)
    (pick 1 (c == 37) _ _ _ _ (equals_short a _ _)
    (pick 1 (c == 61) _ _ _ _ (equals_short a _ _)
    (pick 1 (c == 33) _ _ _ _ (bang_one a _)
    (pick 1 (c == 60) _ _ _ _ (equals_short a _ _)
    (pick 1 (c == 62) _ _ _ _ (equals_short a _ _) (holds 1 (delimiter c))))))))))

operator_two : (c a b : ℕ) → Holds 2 (operator c a b) (operator c a 0)
unfolding operator
operator_two c a b =
    pick 2 (c == 43) _ _ _ _ (holds 2 _)
    (pick 2 (c == 45) _ _ _ _ (holds 2 _)
    (pick 2 (c == 42) _ _ _ _ (pick 2 (a == 42) _ _ _ _ (doubled_short b _ _) (holds 2 _))
    (pick 2 (c == 47) _ _ _ _ (pick 2 (a == 47) _ _ _ _ (doubled_short b _ _) (holds 2 _))
    (pick 2 (c == 37) _ _ _ _ (holds 2 _)
    (pick 2 (c == 61) _ _ _ _ (holds 2 _)
    (pick 2 (c == 33) _ _ _ _ (holds 2 _)
    (pick 2 (c == 60) _ _ _ _ (holds 2 _)
    (pick 2 (c == 62) _ _ _ _ (holds 2 _) (holds 2 (delimiter c))))))))))

pub sign_stays : (n : ℕ) (long short : Taken) → Holds n long short → Stays n (x.sign_or_bad long) (x.sign_or_bad short)
sign_stays n None short h = fault n 1 0 (x.sign_or_bad short)
sign_stays n (Some t) short h = record { is = λ g k. ap x.sign_or_bad (h.is t refl k) }

pub operator_short : (c : ℕ) (cs ys : List ℕ)
    → Holds (length (c ∷ cs)) (operator c (slice_index (c ∷ (cs ++ ys)) 1) (slice_index (c ∷ (cs ++ ys)) 2)) (operator c (slice_index (c ∷ cs) 1) (slice_index (c ∷ cs) 2))
operator_short c [] ys = operator_one c (slice_index ys 0) (slice_index ys 1)
operator_short c (a ∷ []) ys = operator_two c a (slice_index ys 0)
operator_short c (a ∷ b ∷ cs) ys = holds (length (c ∷ a ∷ b ∷ cs)) (operator c a b)

-- ---- texts in quotes

pub read_is : (a b : List ℕ × ℕ) → Some a ≡ Some b → a ≡ b
read_is a b e = cc

pub none_never : (t : List ℕ × ℕ) → None ≡ Some t → ⊥
none_never t e = cc

-- so many characters at least
pub record Counts (r : Read) : Type 0 where
  pub some : (t : List ℕ × ℕ) → r ≡ Some t → 0 < t.1

pub counts_none : Counts None
counts_none = record { some = λ t e. absurd (none_never t e) }

pub counts_some : (out : List ℕ) (n : ℕ) → 0 < n → Counts (Some (out, n))
counts_some out n h = record { some = λ t e. subst (λ (t : List ℕ × ℕ). 0 < t.1) (read_is (out, n) t e) h }

pub counts_if : (b : Bool) (p r : Read) → Counts p → Counts r → Counts (cond b p r)
counts_if true p r h k = h
counts_if false p r h k = k

coded_counts : (code n : ℕ) → 0 < n → Counts (coded code n)
coded_counts code n h = counts_if _ (Some (code ∷ [], n)) None (counts_some (code ∷ []) n h) counts_none

hexadecimal_counts : (count : ℕ) (text : List ℕ) → Counts (hexadecimal count text)
hexadecimal_counts count text = counts_if _ _ None (coded_counts (digits_value 16 (take count (drop 2 text))) (2 + count) (omega arith)) counts_none

octal_counts : (text : List ℕ) → Counts (octal text)
octal_counts text =
    let n = prefix_len (λ c. is_digit c 8) (take 3 (drop 1 text)) in
    coded_counts (digits_value 8 (take n (drop 1 text))) (1 + n) (omega arith)

kept_counts : (text : List ℕ) → Counts (kept text)
kept_counts text = counts_some (take 2 text) 2 (omega arith)

long_counts : (e : ℕ) (text : List ℕ) → Counts (long_escape e text)
long_counts e text =
    counts_if (e == 10) _ _ (counts_some [] 2 (omega arith))
    (counts_if (e == 120) _ _ (hexadecimal_counts 2 text)
    (counts_if (e == 117) _ _ (hexadecimal_counts 4 text)
    (counts_if (e == 85) _ _ (hexadecimal_counts 8 text)
    (counts_if (e == 78) _ _ counts_none
    (counts_if (is_digit e 8) _ _ (octal_counts text) (kept_counts text))))))

short_counts : (o : Option ℕ) (r : Read) → Counts r → Counts (short_or o r)
short_counts None r h = h
short_counts (Some c) r h = counts_some (c ∷ []) 2 (omega arith)

pub item_counts : (is_raw is_triple : Bool) (text : List ℕ) → Counts (item is_raw is_triple text)
unfolding item escape
item_counts is_raw is_triple text =
    counts_if (slice_index text 0 == backslash) _ _ (counts_if (nat_lt 1 (length text)) _ None
    (counts_if is_raw _ _ (kept_counts text) (short_counts (short_escape (slice_index text 1)) _ (long_counts (slice_index text 1) text))) counts_none)
    (counts_if (slice_index text 0 == 10 && not is_triple) None _ counts_none (counts_some (slice_index text 0 ∷ []) 1 (omega arith)))

-- The first is the second where it takes fewer characters than so many.
pub record Same (n : ℕ) (long short : Read) : Type 0 where
  pub is : (t : List ℕ × ℕ) → long ≡ Some t → t.1 < n → short ≡ long

same_read : (n : ℕ) (r : Read) → Same n r r
same_read n r = record { is = λ t e h. refl }

same_if : (n : ℕ) (b : Bool) (p r p' r' : Read) → Same n p p' → Same n r r' → Same n (cond b p r) (cond b p' r')
same_if n true p r p' r' h k = h
same_if n false p r p' r' h k = k

coded_length : (code n : ℕ) (t : List ℕ × ℕ) → coded code n ≡ Some t → n ≡ t.1
coded_length code n t e = choose _ e
  where
    choose : (b : Bool) → cond b (Some (code ∷ [], n)) None ≡ Some t → n ≡ t.1
    choose true e = ap (λ (t : List ℕ × ℕ). t.1) (read_is (code ∷ [], n) t e)
    choose false e = absurd (none_never t e)

hexadecimal_length : (count : ℕ) (text : List ℕ) (t : List ℕ × ℕ) → hexadecimal count text ≡ Some t → 2 + count ≡ t.1
hexadecimal_length count text t e = choose _ e
  where
    choose : (b : Bool) → cond b (coded (digits_value 16 (take count (drop 2 text))) (2 + count)) None ≡ Some t → 2 + count ≡ t.1
    choose true e = coded_length (digits_value 16 (take count (drop 2 text))) (2 + count) t e
    choose false e = absurd (none_never t e)

abbrev hexadecimal_of : ℕ → List ℕ → Read
hexadecimal_of count digits = cond (prefix_len (λ c. is_digit c 16) digits == count) (coded (digits_value 16 digits) (2 + count)) None

hexadecimal_same : (count c d : ℕ) (cs ys : List ℕ) → Same (length (c ∷ d ∷ cs)) (hexadecimal count (c ∷ d ∷ (cs ++ ys))) (hexadecimal count (c ∷ d ∷ cs))
hexadecimal_same count c d cs ys = record {
  is = λ t e h. ap (hexadecimal_of count) (take_short count cs ys (omega (arith, hexadecimal_length count (c ∷ d ∷ (cs ++ ys)) t e)));
}

octal_length : (text : List ℕ) (t : List ℕ × ℕ) → octal text ≡ Some t → 1 + prefix_len (λ c. is_digit c 8) (take 3 (drop 1 text)) ≡ t.1
octal_length text t e =
    let n = prefix_len (λ c. is_digit c 8) (take 3 (drop 1 text)) in
    coded_length (digits_value 8 (take n (drop 1 text))) (1 + n) t e

octal_same : (c : ℕ) (cs ys : List ℕ) → Same (length (c ∷ cs)) (octal (c ∷ (cs ++ ys))) (octal (c ∷ cs))
octal_same c cs ys = record {
  is = λ t e h.
      (let small : prefix_len (λ c. is_digit c 8) (take 3 (cs ++ ys)) < length cs = omega (arith, octal_length (c ∷ (cs ++ ys)) t e) in
      ap (λ n. coded (digits_value 8 (take n cs)) (1 + n)) (run_in_front (λ c. is_digit c 8) 3 cs ys small)
      ∙ ap (λ w. coded (digits_value 8 w) (1 + prefix_len (λ c. is_digit c 8) (take 3 (cs ++ ys)))) (take_short (prefix_len (λ c. is_digit c 8) (take 3 (cs ++ ys))) cs ys (omega (arith, small))));
}

long_same : (e c d : ℕ) (cs ys : List ℕ) → Same (length (c ∷ d ∷ cs)) (long_escape e (c ∷ d ∷ (cs ++ ys))) (long_escape e (c ∷ d ∷ cs))
long_same e c d cs ys =
    let n = length (c ∷ d ∷ cs) in
    same_if n (e == 10) _ _ _ _ (same_read n _)
    (same_if n (e == 120) _ _ _ _ (hexadecimal_same 2 c d cs ys)
    (same_if n (e == 117) _ _ _ _ (hexadecimal_same 4 c d cs ys)
    (same_if n (e == 85) _ _ _ _ (hexadecimal_same 8 c d cs ys)
    (same_if n (e == 78) _ _ _ _ (same_read n None)
    (same_if n (is_digit e 8) _ _ _ _ (octal_same c (d ∷ cs) ys) (same_read n _))))))

short_same : (n : ℕ) (o : Option ℕ) (long short : Read) → Same n long short → Same n (short_or o long) (short_or o short)
short_same n None long short h = h
short_same n (Some c) long short h = same_read n _

-- an item where there are two characters at least
abbrev item_of : Bool → Bool → List ℕ → Read
item_of is_raw is_triple text =
    cond (slice_index text 0 == backslash) (cond is_raw (kept text) (short_or (short_escape (slice_index text 1)) (long_escape (slice_index text 1) text)))
    (cond (slice_index text 0 == 10 && not is_triple) None (Some (slice_index text 0 ∷ [], 1)))

item_is : (is_raw is_triple : Bool) (text : List ℕ) → nat_lt 1 (length text) ≡ true → item_of is_raw is_triple text ≡ item is_raw is_triple text
unfolding item escape
item_is is_raw is_triple text h =
    ap (λ b. cond (slice_index text 0 == backslash) (cond b (cond is_raw (kept text) (short_or (short_escape (slice_index text 1)) (long_escape (slice_index text 1) text))) None)
    (cond (slice_index text 0 == 10 && not is_triple) None (Some (slice_index text 0 ∷ [], 1)))) (sym h)

two_there : (c d : ℕ) (cs : List ℕ) → nat_lt 1 (length (c ∷ d ∷ cs)) ≡ true
two_there c d cs = grind (arith, nat_tests)

-- An item that takes one character fewer than there are at most. It has a backslash alone at the end of a text only.
pub item_same : (is_raw is_triple : Bool) (c : ℕ) (cs ys : List ℕ) → Same (length (c ∷ cs)) (item is_raw is_triple (c ∷ (cs ++ ys))) (item is_raw is_triple (c ∷ cs))
item_same is_raw is_triple c [] ys = record { is = λ t e h. absurd (omega (arith, h, (item_counts is_raw is_triple (c ∷ ys)).some t e)) }
item_same is_raw is_triple c (d ∷ cs) ys =
    let n = length (c ∷ d ∷ cs) in
    let same : Same n (item_of is_raw is_triple (c ∷ d ∷ (cs ++ ys))) (item_of is_raw is_triple (c ∷ d ∷ cs)) =
    same_if n (c == backslash) _ _ _ _ (same_if n is_raw _ _ _ _ (same_read n _) (short_same n (short_escape d) _ _ (long_same d c d cs ys))) (same_read n _) in
    subst (λ v. Same n v (item is_raw is_triple (c ∷ d ∷ cs))) (item_is is_raw is_triple (c ∷ d ∷ (cs ++ ys)) (two_there c d (cs ++ ys)))
    (subst (λ v. Same n (item_of is_raw is_triple (c ∷ d ∷ (cs ++ ys))) v) (item_is is_raw is_triple (c ∷ d ∷ cs) (two_there c d cs)) same)
