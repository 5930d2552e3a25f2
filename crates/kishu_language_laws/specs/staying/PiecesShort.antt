-- The piece at the front of a text is the same where the text ends behind it: texts in quotes, and the whole.
use Rattle.std.proofs.Common.{◌≡◌, ℕ, zero, suc, ◌+◌, ◌-◌, ◌<◌, ◌≤◌, Bool, true, false, cond, List, [], ◌∷◌, ◌++◌, length, drop, Some, None, refl, ap, ◌∙◌, arith}
use Rattle.std.proofs.Math.Bool.{and-false}
use Rattle.std.proofs.lemmas.Bool.Decides.{nat_tests}
use Rattle.std.specs.Prelude.{◌&&◌, slice_index, ◌==◌}
use Rattle.std.specs.Str.{encode_utf8_all}
use Rattle.kishu_language.specs.tokens.Names.{is_letter, is_digit}
use Rattle.kishu_language.specs.tokens.Quoted.{Read, quoted, quotes, onto, body, body_from, after_item, item, closes, is_threefold, backslash}
use Rattle.kishu_language.specs.tokens.Marks.{operator}
use Rattle.kishu_language.specs.tokens.Lexemes as x
use Rattle.kishu_language.specs.tokens.Lexemes.{Cut, string, feed, joined, bad, lexeme, token_piece, is_quote, text_from, unless_null, after_backslash}
use Rattle.kishu_language_laws.specs.staying.CutShort.{is_fault, Stays, stays, either, fault, take_short, blanks_short, remark_short, letters_short, digits_short, sign_stays, operator_short, read_is, none_never, Counts, counts_none, counts_some, counts_if, item_counts, item_same}

-- ---- the closing quotes

zero_apart : (q : ℕ) → is_quote q ≡ true → (0 == q) ≡ false
zero_apart q h = grind (arith, nat_tests)

threefold_apart : (q c : ℕ) (cs ys : List ℕ) → is_quote q ≡ true → is_threefold q (c ∷ (cs ++ ys)) ≡ false → is_threefold q (c ∷ cs) ≡ false
threefold_apart q c [] ys h e = ap (λ b. (c == q) && (b && b)) (zero_apart q h) ∙ and-false (c == q)
threefold_apart q c (a ∷ []) ys h e = ap (λ b. (c == q) && ((a == q) && b)) (zero_apart q h) ∙ ap (λ b. (c == q) && b) (and-false (a == q)) ∙ and-false (c == q)
threefold_apart q c (a ∷ b ∷ cs) ys h e = e

closes_apart : (q : ℕ) (t : Bool) (c : ℕ) (cs ys : List ℕ) → is_quote q ≡ true → closes q t (c ∷ (cs ++ ys)) ≡ false → closes q t (c ∷ cs) ≡ false
unfolding closes
closes_apart q true c cs ys h e = threefold_apart q c cs ys h e
closes_apart q false c cs ys h e = e

closes_too : (q : ℕ) (t : Bool) (c : ℕ) (cs ys : List ℕ) → quotes t ≤ length (c ∷ cs) → closes q t (c ∷ (cs ++ ys)) ≡ true → closes q t (c ∷ cs) ≡ true
unfolding closes
closes_too q true c [] ys h e = absurd (omega (arith, h))
closes_too q true c (a ∷ []) ys h e = absurd (omega (arith, h))
closes_too q true c (a ∷ b ∷ cs) ys h e = e
closes_too q false c cs ys h e = e

-- ---- up to the closing quotes

quotes_some : (t : Bool) → 0 < quotes t
quotes_some true = omega arith
quotes_some false = omega arith

onto_counts : (front : List ℕ) (n : ℕ) (r : Read) → Counts r → Counts (onto front n r)
onto_counts front n None h = counts_none
onto_counts front n (Some t) h = counts_some (front ++ t.0) (n + t.1) (omega (arith, h.some t refl))

after_counts : (o : Read) (go : ℕ → Read) → ((n : ℕ) → Counts (go n)) → Counts (after_item o go)
after_counts None go h = counts_none
after_counts (Some i) go h = onto_counts (encode_utf8_all i.0) i.1 (go (i.1 - 1)) (h (i.1 - 1))

body_counts : (r : Bool) (q : ℕ) (t : Bool) (left : ℕ) (cs : List ℕ) → Counts (body_from r q t left cs)
body_counts r q t left [] = counts_none
body_counts r q t (suc left) (c ∷ cs) = body_counts r q t left cs
body_counts r q t zero (c ∷ cs) =
    counts_if (closes q t (c ∷ cs)) _ _ (counts_some [] (quotes t) (quotes_some t)) (after_counts (item r t (c ∷ cs)) (λ left. body_from r q t left cs) (λ left. body_counts r q t left cs))

record Parts (o : Read) (go : ℕ → Read) (p : List ℕ × ℕ) : Type 0 where
  first : List ℕ × ℕ
  rest : List ℕ × ℕ
  is_first : o ≡ Some first
  is_rest : go (first.1 - 1) ≡ Some rest
  whole : Some (encode_utf8_all first.0 ++ rest.0, first.1 + rest.1) ≡ Some p

after_parts : (o : Read) (go : ℕ → Read) (p : List ℕ × ℕ) → after_item o go ≡ Some p → Parts o go p
after_parts None go p e = absurd (none_never p e)
after_parts (Some i) go p e = split (go (i.1 - 1)) refl e
  where
    split : (r : Read) → go (i.1 - 1) ≡ r → onto (encode_utf8_all i.0) i.1 r ≡ Some p → Parts (Some i) go p
    split None q e = absurd (none_never p e)
    split (Some rest) q e = record { first = i; rest = rest; is_first = refl; is_rest = q; whole = e }

abbrev Short : Bool → ℕ → Bool → List ℕ → List ℕ → Type 0
Short r q t cs ys = (left : ℕ) (p : List ℕ × ℕ) → body_from r q t left (cs ++ ys) ≡ Some p → left + p.1 ≤ length cs → body_from r q t left cs ≡ Some p

body_turn : (r : Bool) (q : ℕ) (t : Bool) (c : ℕ) (cs ys : List ℕ) → is_quote q ≡ true → Short r q t cs ys → (p : List ℕ × ℕ) → body_from r q t 0 (c ∷ (cs ++ ys)) ≡ Some p → p.1 ≤ length (c ∷ cs)
    → body_from r q t 0 (c ∷ cs) ≡ Some p
body_turn r q t c cs ys h next p e small = go (closes q t (c ∷ (cs ++ ys))) refl e
  where
    here : Read
    here = after_item (item r t (c ∷ (cs ++ ys))) (λ left. body_from r q t left (cs ++ ys))

    goes_on : after_item (item r t (c ∷ (cs ++ ys))) (λ left. body_from r q t left (cs ++ ys)) ≡ Some p → after_item (item r t (c ∷ cs)) (λ left. body_from r q t left cs) ≡ Some p
    goes_on e =
        let s = after_parts (item r t (c ∷ (cs ++ ys))) (λ left. body_from r q t left (cs ++ ys)) p e in
        let count : s.first.1 + s.rest.1 ≡ p.1 = ap (λ (t : List ℕ × ℕ). t.1) (read_is _ p s.whole) in
        let first_some : 0 < s.first.1 = (item_counts r t (c ∷ (cs ++ ys))).some s.first s.is_first in
        let rest_some : 0 < s.rest.1 = (body_counts r q t (s.first.1 - 1) (cs ++ ys)).some s.rest s.is_rest in
        let same : item r t (c ∷ cs) ≡ Some s.first = (item_same r t c cs ys).is s.first s.is_first (omega (arith, count, rest_some, small)) ∙ s.is_first in
        ap (λ o. after_item o (λ left. body_from r q t left cs)) same
        ∙ ap (onto (encode_utf8_all s.first.0) s.first.1) (next (s.first.1 - 1) s.rest s.is_rest (omega (arith, count, first_some, small))) ∙ s.whole

    go : (b : Bool) → closes q t (c ∷ (cs ++ ys)) ≡ b → cond b (Some ([], quotes t)) (after_item (item r t (c ∷ (cs ++ ys))) (λ left. body_from r q t left (cs ++ ys))) ≡ Some p → body_from r q t 0 (c ∷ cs) ≡ Some p
    go true k e =
        let count : quotes t ≡ p.1 = ap (λ (t : List ℕ × ℕ). t.1) (read_is ([], quotes t) p e) in
        ap (λ b. cond b (Some ([], quotes t)) (after_item (item r t (c ∷ cs)) (λ left. body_from r q t left cs))) (closes_too q t c cs ys (omega (arith, count, small)) k) ∙ e
    go false k e =
        ap (λ b. cond b (Some ([], quotes t)) (after_item (item r t (c ∷ cs)) (λ left. body_from r q t left cs))) (closes_apart q t c cs ys h k) ∙ goes_on e

body_short : (r : Bool) (q : ℕ) (t : Bool) (cs ys : List ℕ) → is_quote q ≡ true → Short r q t cs ys
body_short r q t [] ys h left p e small = absurd (omega (arith, small, (body_counts r q t left ys).some p e))
body_short r q t (c ∷ cs) ys h (suc left) p e small = body_short r q t cs ys h left p e (omega (arith, small))
body_short r q t (c ∷ cs) ys h zero p e small = body_turn r q t c cs ys h (λ left p e small. body_short r q t cs ys h left p e small) p e (omega (arith, small))

-- ---- a text with its quotes

abbrev quoted_by : Bool → ℕ → Bool → List ℕ → Read
quoted_by r q t text = onto [] (quotes t) (body r q t (drop (quotes t) text))

quoted_counts : (r : Bool) (text : List ℕ) → Counts (quoted r text)
unfolding quoted body
quoted_counts r text =
    let q = slice_index text 0 in
    let t = is_threefold q text in
    onto_counts [] (quotes t) (body_from r q t 0 (drop (quotes t) text)) (body_counts r q t 0 (drop (quotes t) text))

record Inner (n : ℕ) (o : Read) (p : List ℕ × ℕ) : Type 0 where
  inner : List ℕ × ℕ
  is : o ≡ Some inner
  whole : Some (inner.0, n + inner.1) ≡ Some p

inner_of : (n : ℕ) (o : Read) (p : List ℕ × ℕ) → onto [] n o ≡ Some p → Inner n o p
inner_of n None p e = absurd (none_never p e)
inner_of n (Some t) p e = record { inner = t; is = refl; whole = e }

-- three quotes, or one, and the rest
by_short : (r : Bool) (q : ℕ) (t : Bool) (zs ys : List ℕ) (p : List ℕ × ℕ) → is_quote q ≡ true → onto [] (quotes t) (body r q t (zs ++ ys)) ≡ Some p → p.1 ≤ quotes t + length zs
    → onto [] (quotes t) (body r q t zs) ≡ Some p
unfolding body
by_short r q t zs ys p h e small =
    let s = inner_of (quotes t) (body_from r q t 0 (zs ++ ys)) p e in
    let count : quotes t + s.inner.1 ≡ p.1 = ap (λ (t : List ℕ × ℕ). t.1) (read_is _ p s.whole) in
    ap (onto [] (quotes t)) (body_short r q t zs ys h 0 s.inner s.is (omega (arith, count, small))) ∙ s.whole

quoted_short : (r : Bool) (c : ℕ) (cs ys : List ℕ) (p : List ℕ × ℕ) → is_quote c ≡ true → quoted r (c ∷ (cs ++ ys)) ≡ Some p → p.1 ≤ length (c ∷ cs) → quoted r (c ∷ cs) ≡ Some p
unfolding quoted
quoted_short r c cs ys p h e small = go cs (is_threefold c (c ∷ (cs ++ ys))) refl e small
  where
    go : (cs : List ℕ) (t : Bool) → is_threefold c (c ∷ (cs ++ ys)) ≡ t → quoted_by r c t (c ∷ (cs ++ ys)) ≡ Some p → p.1 ≤ length (c ∷ cs) → quoted_by r c (is_threefold c (c ∷ cs)) (c ∷ cs) ≡ Some p
    go cs false k e small = ap (λ t. quoted_by r c t (c ∷ cs)) (threefold_apart c c cs ys h k) ∙ by_short r c false cs ys p h e (omega (arith, small))
    go [] true k e small = absurd (short_of e (omega (arith, small)))
      where
        short_of : quoted_by r c true (c ∷ ys) ≡ Some p → p.1 ≤ 2 → ⊥
        short_of e small = let s = inner_of 3 (body r c true (drop 3 (c ∷ ys))) p e in omega (arith, small, ap (λ (t : List ℕ × ℕ). t.1) (read_is _ p s.whole))
    go (a ∷ []) true k e small = absurd (short_of e (omega (arith, small)))
      where
        short_of : quoted_by r c true (c ∷ a ∷ ys) ≡ Some p → p.1 ≤ 2 → ⊥
        short_of e small = let s = inner_of 3 (body r c true (drop 3 (c ∷ a ∷ ys))) p e in omega (arith, small, ap (λ (t : List ℕ × ℕ). t.1) (read_is _ p s.whole))
    go (a ∷ b ∷ cs) true k e small = ap (λ t. quoted_by r c t (c ∷ a ∷ b ∷ cs)) k ∙ by_short r c true cs ys p h e (omega (arith, small))

-- a text, behind a prefix or not
text_short : (before : ℕ) (r : Bool) (all : List ℕ) (c : ℕ) (cs ys : List ℕ) → is_quote c ≡ true → length all ≡ before + length (c ∷ cs)
    → Stays (length all) (text_from before (all ++ ys) (quoted r (c ∷ (cs ++ ys)))) (text_from before all (quoted r (c ∷ cs)))
text_short before r all c cs ys h size = go (quoted r (c ∷ (cs ++ ys))) refl
  where
    go : (o : Read) → quoted r (c ∷ (cs ++ ys)) ≡ o → Stays (length all) (text_from before (all ++ ys) o) (text_from before all (quoted r (c ∷ cs)))
    go None k = fault (length all) 1 0 (text_from before all (quoted r (c ∷ cs)))
    go (Some t) k = record {
      is = λ g small. ap (text_from before all) (quoted_short r c cs ys t h k (omega (arith, small, size)))
          ∙ ap (λ w. (unless_null w (string t.0), before + t.1)) (take_short (before + t.1) all ys small);
    }

-- A text behind a prefix takes two characters at least.
text_long : (r : Bool) (all rest : List ℕ) (short : Cut) → Stays 1 (text_from 1 all (quoted r rest)) short
text_long r all rest short = go (quoted r rest) refl
  where
    go : (o : Read) → quoted r rest ≡ o → Stays 1 (text_from 1 all o) short
    go None k = fault 1 1 0 short
    go (Some t) k = record { is = λ g small. absurd (omega (arith, small, (quoted_counts r rest).some t k)) }

-- ---- the whole

-- the rest of the cases, where no text begins
abbrev other_piece : ℕ → List ℕ → Cut
other_piece c all = cond (is_letter c) (x.letters all) (cond (is_digit c) (x.digits all) (x.sign_or_bad (operator c (slice_index all 1) (slice_index all 2))))

other_short : (c : ℕ) (cs ys : List ℕ) → Stays (length (c ∷ cs)) (other_piece c (c ∷ (cs ++ ys))) (other_piece c (c ∷ cs))
other_short c cs ys =
    let n = length (c ∷ cs) in
    either n (is_letter c) _ _ _ _ (λ _. letters_short (c ∷ cs) ys)
    (λ _. either n (is_digit c) _ _ _ _ (λ _. digits_short (c ∷ cs) ys) (λ _. sign_stays n _ _ (operator_short c cs ys)))

abbrev prefixed_piece : ℕ → List ℕ → Cut
prefixed_piece c all = cond (x.is_prefix c && is_quote (slice_index all 1)) (text_from 1 all (quoted (x.is_raw_prefix c) (drop 1 all))) (other_piece c all)

both : (a b : Bool) → (a && b) ≡ true → b ≡ true
both true b h = h
both false b h = absurd cc

prefixed_short : (c : ℕ) (cs ys : List ℕ) → Stays (length (c ∷ cs)) (prefixed_piece c (c ∷ (cs ++ ys))) (prefixed_piece c (c ∷ cs))
prefixed_short c [] ys = record {
  is = λ h k. ap (λ b. cond b (text_from 1 (c ∷ []) (quoted (x.is_raw_prefix c) [])) (other_piece c (c ∷ []))) (and-false (x.is_prefix c)) ∙ (go (x.is_prefix c && is_quote (slice_index ys 0))).is h k;
}
  where
    go : (b : Bool) → Stays 1 (cond b (text_from 1 (c ∷ ys) (quoted (x.is_raw_prefix c) ys)) (other_piece c (c ∷ ys))) (other_piece c (c ∷ []))
    go true = text_long (x.is_raw_prefix c) (c ∷ ys) ys (other_piece c (c ∷ []))
    go false = other_short c [] ys
prefixed_short c (a ∷ cs) ys =
    either (length (c ∷ a ∷ cs)) (x.is_prefix c && is_quote a) _ _ _ _ (λ h. text_short 1 (x.is_raw_prefix c) (c ∷ a ∷ cs) a cs ys (both (x.is_prefix c) (is_quote a) h) (omega arith))
    (λ _. other_short c (a ∷ cs) ys)

token_short : (c : ℕ) (cs ys : List ℕ) → Stays (length (c ∷ cs)) (token_piece (c ∷ (cs ++ ys))) (token_piece (c ∷ cs))
unfolding token_piece
token_short c cs ys = either (length (c ∷ cs)) (is_quote c) _ _ _ _ (λ h. text_short 0 false (c ∷ cs) c cs ys h (omega arith)) (λ _. prefixed_short c cs ys)

backslash_short : (c : ℕ) (cs ys : List ℕ) → Stays (length (c ∷ cs)) (after_backslash (slice_index (c ∷ (cs ++ ys)) 1)) (after_backslash (slice_index (c ∷ cs) 1))
backslash_short c [] ys = go (slice_index ys 0 == 10)
  where
    go : (b : Bool) → Stays 1 (cond b (joined, 2) (bad 0, 1)) (after_backslash 0)
    go true = record { is = λ h k. absurd (omega (arith, k)) }
    go false = fault 1 1 0 (after_backslash 0)
backslash_short c (a ∷ cs) ys = stays (length (c ∷ a ∷ cs)) (after_backslash a)

lexeme_short : (c : ℕ) (cs ys : List ℕ) → Stays (length (c ∷ cs)) (lexeme (c ∷ (cs ++ ys))) (lexeme (c ∷ cs))
unfolding lexeme
lexeme_short c cs ys =
    let n = length (c ∷ cs) in
    either n (x.is_blank c) _ _ _ _ (λ _. blanks_short (c ∷ cs) ys)
    (λ _. either n (x.is_feed c) _ _ _ _ (λ _. stays n (feed, 1))
    (λ _. either n (c == 35) _ _ _ _ (λ _. remark_short (c ∷ cs) ys)
    (λ _. either n (c == backslash) _ _ _ _ (λ _. backslash_short c cs ys) (λ _. token_short c cs ys))))

-- A piece that is no fault, and ends no later than the first of two texts, is one of the first alone.
pub piece_alone : (c : ℕ) (cs ys : List ℕ) → is_fault (lexeme (c ∷ (cs ++ ys))).0 ≡ false → (lexeme (c ∷ (cs ++ ys))).1 ≤ length (c ∷ cs) → lexeme (c ∷ cs) ≡ lexeme (c ∷ (cs ++ ys))
piece_alone c cs ys h k = (lexeme_short c cs ys).is h k
