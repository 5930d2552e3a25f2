-- The rules of texts and the cutting of pieces agree: a text by the rules is cut as that piece with that meaning, and what is cut as a text is one by the rules.
use Rattle.std.proofs.Common.{◌≡◌, ℕ, suc, ◌+◌, ◌<◌, ◌≤◌, Bool, true, false, cond, not, List, [], ◌∷◌, ◌++◌, length, take, drop, Some, None, refl, sym, ap, subst, ◌∙◌, arith, ◌||◌, inl, inr, ⊎_elim, ◌⊎◌}
use Rattle.std.proofs.lemmas.List.{take-append-drop, take_at, length-append, append_cancel_right, append_assoc}
use Rattle.std.proofs.lemmas.Bool.{eqb-true}
use Rattle.std.proofs.lemmas.Bool.Decides.{nat_tests}
use Rattle.std.proofs.Math.Seq.{drop-append-add}
use Rattle.std.specs.Prelude.{◌==◌, slice_index, nat_lt}
use Rattle.std.specs.List.{prefix_len, position, list_any}
use Rattle.std.specs.Str.{encode_utf8_all}
use Rattle.kishu_language.specs.tokens.Quoted.{Read, quoted}
use Rattle.kishu_language.specs.tokens.Lexemes as x
use Rattle.kishu_language.specs.tokens.Lexemes.{Cut, Lexeme, lexeme, token_piece, text_from, unless_null, is_null, string}
use Rattle.kishu_language.specs.rules.TextRules as r
use Rattle.kishu_language.specs.rules.TextRules.{Text, IsText, Prefix, Quotes}
use Rattle.kishu_token_laws.specs.TextItems.{neither}
use Rattle.kishu_token_laws.specs.TextBodies.{quotation, IsWholeText, scanned_quoted, quoted_sound}

-- ---- the character of code 0

none_before : (p : ℕ → Bool) (cs : List ℕ) → list_any p cs ≡ false → prefix_len (λ c. not (p c)) cs ≡ length cs
none_before p [] h = refl
none_before p (c ∷ cs) h =
    let k = neither (p c) (list_any p cs) h in
    let one : 1 + prefix_len (λ c. not (p c)) cs ≡ suc (length cs) = omega (arith, none_before p cs k.1) in
    ap (λ b. cond (not b) (1 + prefix_len (λ c. not (p c)) cs) 0) k.0 ∙ one

not_below : (n : ℕ) → nat_lt n n ≡ false
not_below n = grind (arith, nat_tests)

pub no_place : (cs : List ℕ) → list_any is_null cs ≡ false → position is_null cs ≡ None
no_place cs h =
    let n = prefix_len (λ c. not (is_null c)) cs in
    ap (λ m. cond (nat_lt m (length cs)) (Some m) None) (none_before is_null cs h) ∙ ap (λ b. cond b (Some (length cs)) None) (not_below (length cs))

pub passed : (p : ℕ → Bool) (cs : List ℕ) → length cs ≤ prefix_len (λ c. not (p c)) cs → list_any p cs ≡ false
passed p [] h = refl
passed p (c ∷ cs) h = step (p c) refl h (passed p cs)
  where
    step : (b : Bool) → p c ≡ b → suc (length cs) ≤ cond (not b) (1 + prefix_len (λ c. not (p c)) cs) 0 → (length cs ≤ prefix_len (λ c. not (p c)) cs → list_any p cs ≡ false) → list_any p (c ∷ cs) ≡ false
    step true e k next = absurd (omega arith)
    step false e k next = rw e (next (omega (arith, k)))

-- ---- what the rules say is cut

front_is : {is_raw is_triple : Bool} {letters opening : List ℕ} (cs : List ℕ) → Prefix letters is_raw → Quotes opening is_triple
    → lexeme (letters ++ (opening ++ cs)) ≡ text_from (length letters) (letters ++ (opening ++ cs)) (quoted is_raw (opening ++ cs))
unfolding lexeme token_piece
front_is cs r.no_prefix r.single = refl
front_is cs r.no_prefix r.double = refl
front_is cs r.no_prefix r.three_single = refl
front_is cs r.no_prefix r.three_double = refl
front_is cs r.raw r.single = refl
front_is cs r.raw r.double = refl
front_is cs r.raw r.three_single = refl
front_is cs r.raw r.three_double = refl
front_is cs r.raw_capital r.single = refl
front_is cs r.raw_capital r.double = refl
front_is cs r.raw_capital r.three_single = refl
front_is cs r.raw_capital r.three_double = refl
front_is cs r.unicode r.single = refl
front_is cs r.unicode r.double = refl
front_is cs r.unicode r.three_single = refl
front_is cs r.unicode r.three_double = refl
front_is cs r.unicode_capital r.single = refl
front_is cs r.unicode_capital r.double = refl
front_is cs r.unicode_capital r.three_single = refl
front_is cs r.unicode_capital r.three_double = refl

-- what a whole text gives
record CutText (cs ds meaning : List ℕ) : Type 0 where
  piece : List ℕ
  whole : cs ≡ piece ++ ds
  some : 0 < length piece
  is : lexeme cs ≡ (unless_null (take (length piece) cs) (string (encode_utf8_all meaning)), length piece)

cut_text : {cs ds meaning : List ℕ} → Text cs ds meaning → CutText cs ds meaning
cut_text (r.text {is_raw = raw} {letters = letters} {quotes = opening} {cs = cs} {ds = ds} {meaning = v} p quotes alone b) =
    let s = scanned_quoted quotes alone b in
    let size : length letters + length s.piece ≡ length (letters ++ s.piece) = sym (length-append letters s.piece) in
    record {
      piece = letters ++ s.piece;
      whole = ap (λ l. letters ++ l) s.whole ∙ sym (append_assoc letters s.piece ds);
      some = omega (arith, length-append letters s.piece, s.some);
      is = front_is cs p quotes ∙ ap (text_from (length letters) (letters ++ (opening ++ cs))) s.is
          ∙ ap (λ n. (unless_null (take n (letters ++ (opening ++ cs))) (string (encode_utf8_all v)), n)) size;
    }

-- Where a text stands in front by the rules, it is cut, with what it means.
pub text_is_cut : (piece rest meaning : List ℕ) → IsText piece rest meaning → lexeme (piece ++ rest) ≡ (string (encode_utf8_all meaning), length piece)
text_is_cut piece rest meaning h =
    let c = cut_text h.text in
    let same : c.piece ≡ piece = sym (append_cancel_right piece c.piece rest c.whole) in
    c.is ∙ ap (λ l. (unless_null (take (length l) (piece ++ rest)) (string (encode_utf8_all meaning)), length l)) same
    ∙ ap (λ l. (unless_null l (string (encode_utf8_all meaning)), length piece)) (take_at piece rest (length piece) refl)
    ∙ ap (λ o. (x.by_place piece (string (encode_utf8_all meaning)) o, length piece)) (no_place piece h.no_null)

pub text_is_some : (piece rest meaning : List ℕ) → IsText piece rest meaning → 0 < length piece
text_is_some piece rest meaning h =
    let c = cut_text h.text in
    subst (λ (l : List ℕ). 0 < length l) (sym (append_cancel_right piece c.piece rest c.whole)) c.some

-- ---- what is cut as a text, the rules say

-- so many characters in front are a text with this value
pub record TextAt (all bytes : List ℕ) (n : ℕ) : Type 0 where
  pub meaning : List ℕ
  pub value : bytes ≡ encode_utf8_all meaning
  pub is : IsText (take n all) (drop n all) meaning
  pub within : n ≤ length all
  pub some : 0 < n

-- a cut that is a text is one by the rules
pub record Fair (all : List ℕ) (cut : Cut) : Type 0 where
  pub text : (bytes : List ℕ) → cut.0 ≡ string bytes → TextAt all bytes cut.1

no_string : (all : List ℕ) (l : Lexeme) (n : ℕ) → ((bytes : List ℕ) → l ≡ string bytes → ⊥) → Fair all (l, n)
no_string all l n h = record { text = λ bytes e. absurd (h bytes e) }

no_null_in : (n : ℕ) (all taken bytes : List ℕ) (value : List ℕ) → unless_null taken (string value) ≡ string bytes → (list_any is_null taken ≡ false) × (value ≡ bytes)
no_null_in n all taken bytes value h = go (nat_lt (prefix_len (λ c. not (is_null c)) taken) (length taken)) refl h
  where
    go : (b : Bool) → nat_lt (prefix_len (λ c. not (is_null c)) taken) (length taken) ≡ b
        → x.by_place taken (string value) (cond b (Some (prefix_len (λ c. not (is_null c)) taken)) None) ≡ string bytes → (list_any is_null taken ≡ false) × (value ≡ bytes)
    go true e k = absurd cc
    go false e k = (passed is_null taken (grind (arith, nat_tests)), cc)

drop_behind : (letters cs : List ℕ) (n : ℕ) → drop (length letters + n) (letters ++ cs) ≡ drop n cs
drop_behind letters cs n = drop-append-add letters cs n

fair_text : (raw : Bool) (letters cs : List ℕ) → Prefix letters raw → (o : Read) → IsWholeText raw cs o → Fair (letters ++ cs) (text_from (length letters) (letters ++ cs) o)
fair_text raw letters cs p None w = no_string (letters ++ cs) (x.bad 0) 1 (λ bytes e. cc)
fair_text raw letters cs p (Some t) w =
    let all = letters ++ cs in
    let n = length letters + t.1 in
    record {
      text = λ bytes e.
          let k = no_null_in n all (take n all) bytes t.0 e in
          let behind : drop t.1 cs ≡ drop n all = sym (drop_behind letters cs t.1) in
          let rule : Text all (drop n all) w.meaning = subst (λ l. Text all l w.meaning) behind (w.rule letters p) in
          record {
            meaning = w.meaning;
            value = sym k.1 ∙ w.bytes;
            is = record { text = subst (λ l. Text l (drop n all) w.meaning) (sym (take-append-drop n all)) rule; no_null = k.0 };
            within = omega (arith, length-append letters cs, w.within);
            some = omega (arith, w.some);
          };
    }

quotes_of : (mark : ℕ) → x.is_quote mark ≡ true → (mark ≡ 39) ⊎ (mark ≡ 34)
quotes_of mark h = go (mark == 39) (mark == 34) refl refl h
  where
    go : (a b : Bool) → (mark == 39) ≡ a → (mark == 34) ≡ b → (a || b) ≡ true → (mark ≡ 39) ⊎ (mark ≡ 34)
    go true b e f k = inl (eqb-true mark 39 e)
    go false true e f k = inr (eqb-true mark 34 f)
    go false false e f k = absurd cc

single_kind : (t : Bool) → Quotes (quotation 39 t) t
single_kind true = r.three_single
single_kind false = r.single

double_kind : (t : Bool) → Quotes (quotation 34 t) t
double_kind true = r.three_double
double_kind false = r.double

sound_at : (raw : Bool) (mark : ℕ) (cs : List ℕ) → x.is_quote mark ≡ true → IsWholeText raw (mark ∷ cs) (quoted raw (mark ∷ cs))
sound_at raw mark cs h = ⊎_elim
    (λ e. subst (λ m. IsWholeText raw (m ∷ cs) (quoted raw (m ∷ cs))) (sym e) (quoted_sound raw 39 cs refl single_kind))
    (λ e. subst (λ m. IsWholeText raw (m ∷ cs) (quoted raw (m ∷ cs))) (sym e) (quoted_sound raw 34 cs refl double_kind))
    (quotes_of mark h)

prefix_of : (c : ℕ) → x.is_prefix c ≡ true → Prefix (c ∷ []) (x.is_raw_prefix c)
prefix_of c h = go (c == 114) (c == 82) (c == 117) (c == 85) refl refl refl refl h
  where
    at : (k : ℕ) → (c == k) ≡ true → Prefix (k ∷ []) (x.is_raw_prefix k) → Prefix (c ∷ []) (x.is_raw_prefix c)
    at k e p = subst (λ v. Prefix (v ∷ []) (x.is_raw_prefix v)) (sym (eqb-true c k e)) p

    go : (a b d f : Bool) → (c == 114) ≡ a → (c == 82) ≡ b → (c == 117) ≡ d → (c == 85) ≡ f → ((a || b) || (d || f)) ≡ true → Prefix (c ∷ []) (x.is_raw_prefix c)
    go true b d f ea eb ed ef k = at 114 ea r.raw
    go false true d f ea eb ed ef k = at 82 eb r.raw_capital
    go false false true f ea eb ed ef k = at 117 ed r.unicode
    go false false false true ea eb ed ef k = at 85 ef r.unicode_capital
    go false false false false ea eb ed ef k = absurd cc

-- a text with no letter before it
pub fair_plain : (c : ℕ) (cs : List ℕ) → x.is_quote c ≡ true → Fair (c ∷ cs) (text_from 0 (c ∷ cs) (quoted false (c ∷ cs)))
fair_plain c cs h = fair_text false [] (c ∷ cs) r.no_prefix (quoted false (c ∷ cs)) (sound_at false c cs h)

-- a text with one
pub fair_prefixed : (c : ℕ) (cs : List ℕ) → x.is_prefix c ≡ true → x.is_quote (slice_index cs 0) ≡ true → Fair (c ∷ cs) (text_from 1 (c ∷ cs) (quoted (x.is_raw_prefix c) cs))
fair_prefixed c [] h k = absurd cc
fair_prefixed c (d ∷ cs) h k = fair_text (x.is_raw_prefix c) (c ∷ []) (d ∷ cs) (prefix_of c h) (quoted (x.is_raw_prefix c) (d ∷ cs)) (sound_at (x.is_raw_prefix c) d cs k)

-- Where no text is cut, none stands in front by the rules.
pub no_text_is_cut : (piece rest meaning : List ℕ) (below n : ℕ) → lexeme (piece ++ rest) ≡ (x.bad below, n) → IsText piece rest meaning → ⊥
no_text_is_cut piece rest meaning below n h t = apart (sym (ap (λ (p : Cut). p.0) h) ∙ ap (λ (p : Cut). p.0) (text_is_cut piece rest meaning t))
  where
    apart : x.bad below ≡ string (encode_utf8_all meaning) → ⊥
    apart e = cc
