-- The rules of texts and the scanning of them give the same pieces the same meaning: whole texts, from their opening quotes on.
use Rattle.std.proofs.Common.{◌≡◌, ℕ, zero, suc, ◌+◌, ◌-◌, ◌<◌, ◌≤◌, Bool, true, false, cond, ◌&&◌, List, [], ◌∷◌, ◌++◌, length, drop, Some, None, refl, sym, ap, subst, ◌∙◌, arith, inl, inr, ⊎_elim, ◌⊎◌, append_assoc}
use Rattle.std.proofs.lemmas.List.{drop_at, drop-drop, length-append, length-drop}
use Rattle.std.proofs.lemmas.Bool.{eqb-true, eq-eqb}
use Rattle.std.proofs.lemmas.Bool.Decides.{nat_tests}
use Rattle.std.proofs.lemmas.Str.{encodes-append}
use Rattle.std.specs.Prelude.{◌==◌, slice_index, nat_eq, if◌then◌else◌}
use Rattle.std.specs.List.{starts_with}
use Rattle.std.specs.Str.{encode_utf8_all}
use Rattle.kishu_language.specs.tokens.Quoted as q
use Rattle.kishu_language.specs.tokens.Quoted.{Read, item, after_item, body_from, body, onto, closes, quotes, is_threefold, quoted}
use Rattle.kishu_language.specs.rules.TextRules as r
use Rattle.kishu_language.specs.rules.TextRules.{Item, Body, Quotes}
use Rattle.kishu_token_laws.specs.TextItems.{Scanned, Sound, scanned_item, item_sound, split, both}

-- the quotes of a kind
abbrev pub quotation : ℕ → Bool → List ℕ
quotation mark is_triple = if is_triple then mark ∷ mark ∷ mark ∷ [] else mark ∷ []

-- ---- quotes

pub same_either : (a b : ℕ) → nat_eq a b ≡ (b == a)
same_either a b = grind (arith, nat_tests)

only_one : (b : Bool) → (b && true) ≡ b
only_one true = refl
only_one false = refl

threefold_is : (mark : ℕ) (cs : List ℕ) → (0 == mark) ≡ false → is_threefold mark cs ≡ starts_with nat_eq cs (mark ∷ mark ∷ mark ∷ [])
threefold_is mark [] h = ap (λ b. b && (b && b)) h
threefold_is mark (a ∷ []) h = rw (h, same_either mark a) refl
threefold_is mark (a ∷ b ∷ []) h = rw (h, same_either mark a, same_either mark b) refl
threefold_is mark (a ∷ b ∷ c ∷ cs) h = λ i. sym (same_either mark a) i && (sym (same_either mark b) i && (sym (same_either mark c) ∙ sym (only_one (nat_eq mark c))) i)

closes_is : (mark : ℕ) (is_triple : Bool) (cs : List ℕ) → (0 == mark) ≡ false → closes mark is_triple cs ≡ starts_with nat_eq cs (quotation mark is_triple)
unfolding closes
closes_is mark true cs h = threefold_is mark cs h
closes_is mark false [] h = h
closes_is mark false (a ∷ cs) h = sym (same_either mark a) ∙ sym (only_one (nat_eq mark a))

-- after one quote two more
twice_is : (mark : ℕ) (cs : List ℕ) → (0 == mark) ≡ false → is_threefold mark (mark ∷ cs) ≡ starts_with nat_eq cs (mark ∷ mark ∷ [])
twice_is mark cs h = ap (λ b. b && (slice_index cs 0 == mark && slice_index cs 1 == mark)) (eq-eqb mark mark refl) ∙ go cs
  where
    go : (cs : List ℕ) → (slice_index cs 0 == mark && slice_index cs 1 == mark) ≡ starts_with nat_eq cs (mark ∷ mark ∷ [])
    go [] = ap (λ b. b && b) h
    go (a ∷ []) = rw (h, same_either mark a) refl
    go (a ∷ b ∷ cs) = λ i. sym (same_either mark a) i && (sym (same_either mark b) ∙ sym (only_one (nat_eq mark b))) i

-- quotes that stand in front
front_is : (mark : ℕ) (is_triple : Bool) (cs : List ℕ) → (0 == mark) ≡ false → closes mark is_triple cs ≡ true → (cs ≡ quotation mark is_triple ++ drop (quotes is_triple) cs) × (quotes is_triple ≤ length cs)
unfolding closes
front_is mark false [] k h = absurd cc
front_is mark false (a ∷ cs) k h = ((λ i. eqb-true a mark h i ∷ cs), omega arith)
front_is mark true [] k h = absurd (no_first (0 == mark) _ k h)
  where
    no_first : (a b : Bool) → a ≡ false → (a && b) ≡ true → ⊥
    no_first true b e f = absurd cc
    no_first false b e f = absurd cc
front_is mark true (a ∷ []) k h = let p = both (a == mark) _ h in absurd (no_one (0 == mark) k (both (0 == mark) (0 == mark) p.1).0)
  where
    no_one : (a : Bool) → a ≡ false → a ≡ true → ⊥
    no_one a e f = absurd cc
front_is mark true (a ∷ b ∷ []) k h = let p = both (a == mark) _ h in absurd (no_one (0 == mark) k (both (b == mark) (0 == mark) p.1).1)
  where
    no_one : (a : Bool) → a ≡ false → a ≡ true → ⊥
    no_one a e f = absurd cc
front_is mark true (a ∷ b ∷ c ∷ cs) k h =
    let p = both (a == mark) _ h in
    let o = both (b == mark) (c == mark) p.1 in
    ((λ i. eqb-true a mark p.0 i ∷ eqb-true b mark o.0 i ∷ eqb-true c mark o.1 i ∷ cs), omega arith)

-- ---- one turn of the scanning

skip : (r : Bool) (mark : ℕ) (t : Bool) (k : ℕ) (z : List ℕ) → body_from r mark t k z ≡ body r mark t (drop k z)
unfolding body
skip r mark t zero z = refl
skip r mark t (suc k) [] = refl
skip r mark t (suc k) (c ∷ z) = skip r mark t k z

drop_next : (k c : ℕ) (z : List ℕ) → 0 < k → drop (k - 1) z ≡ drop k (c ∷ z)
drop_next zero c z h = absurd (omega arith)
drop_next (suc k) c z h = let e : suc k - 1 ≡ k = omega arith in ap (λ n. drop n z) e

body_closes : (r : Bool) (mark : ℕ) (t : Bool) (c : ℕ) (z : List ℕ) → closes mark t (c ∷ z) ≡ true → body r mark t (c ∷ z) ≡ Some ([], quotes t)
unfolding body
body_closes r mark t c z h = ap (λ b. cond b (Some ([], quotes t)) (after_item (item r t (c ∷ z)) (λ left. body_from r mark t left z))) h

turn : (r : Bool) (mark : ℕ) (t : Bool) (c : ℕ) (z : List ℕ) (i : List ℕ × ℕ) → 0 < i.1 → onto (encode_utf8_all i.0) i.1 (body_from r mark t (i.1 - 1) z) ≡ onto (encode_utf8_all i.0) i.1 (body r mark t (drop i.1 (c ∷ z)))
turn r mark t c z i some = ap (onto (encode_utf8_all i.0) i.1) (skip r mark t (i.1 - 1) z ∙ ap (body r mark t) (drop_next i.1 c z some))

body_goes : (r : Bool) (mark : ℕ) (t : Bool) (cs : List ℕ) (i : List ℕ × ℕ) → 0 < length cs → closes mark t cs ≡ false → item r t cs ≡ Some i → 0 < i.1
    → body r mark t cs ≡ onto (encode_utf8_all i.0) i.1 (body r mark t (drop i.1 cs))
unfolding body
body_goes r mark t [] i more h is some = absurd (omega arith)
body_goes r mark t (c ∷ z) i more h is some =
    ap (λ b. cond b (Some ([], quotes t)) (after_item (item r t (c ∷ z)) (λ left. body_from r mark t left z))) h
    ∙ ap (λ o. after_item o (λ left. body_from r mark t left z)) is
    ∙ turn r mark t c z i some

-- ---- what the rules say, the scanning gives

closed_scanned : (r : Bool) (mark : ℕ) (t : Bool) (cs : List ℕ) → Scanned (body r mark t) (quotation mark t ++ cs) cs []
unfolding closes
closed_scanned r mark true cs =
    let same = eq-eqb mark mark refl in
    record { piece = mark ∷ mark ∷ mark ∷ []; whole = refl; some = omega arith; is = body_closes r mark true mark (mark ∷ mark ∷ cs) (λ i. same i && (same i && same i)) }
closed_scanned r mark false cs = record { piece = mark ∷ []; whole = refl; some = omega arith; is = body_closes r mark false mark cs (eq-eqb mark mark refl) }

longer : (a b : List ℕ) → 0 < length a → 0 < length (a ++ b)
longer a b h = omega (arith, length-append a b)

pub scanned_body : {is_raw is_triple : Bool} {quotes cs ds meaning : List ℕ} (mark : ℕ) → (0 == mark) ≡ false → quotes ≡ quotation mark is_triple → Body is_raw is_triple quotes cs ds meaning
    → Scanned (body is_raw mark is_triple) cs ds (encode_utf8_all meaning)
scanned_body mark h e (r.closed {is_raw = x} {is_triple = t} {cs = cs}) = subst (λ l. Scanned (body x mark t) (l ++ cs) cs []) (sym e) (closed_scanned x mark t cs)
scanned_body mark h e (r.next {is_raw = x} {is_triple = t} {cs = cs} {ds = ds} {es = es} {first = first} {rest = rest} ahead i b) =
    let s = scanned_item i in
    let u = scanned_body mark h e b in
    let here : 0 < length cs = subst (λ l. 0 < length l) (sym s.whole) (longer s.piece ds s.some) in
    let apart : closes mark t cs ≡ false = closes_is mark t cs h ∙ ap (starts_with nat_eq cs) (sym e) ∙ ahead in
    let behind : drop (length s.piece) cs ≡ ds = ap (drop (length s.piece)) s.whole ∙ drop_at s.piece ds (length s.piece) refl in
    let size : length s.piece + length u.piece ≡ length (s.piece ++ u.piece) = sym (length-append s.piece u.piece) in
    record {
      piece = s.piece ++ u.piece;
      whole = s.whole ∙ ap (λ l. s.piece ++ l) u.whole ∙ sym (append_assoc s.piece u.piece es);
      some = longer s.piece u.piece s.some;
      is = body_goes x mark t cs (first, length s.piece) here apart s.is s.some
          ∙ ap (λ l. onto (encode_utf8_all first) (length s.piece) (body x mark t l)) behind
          ∙ ap (onto (encode_utf8_all first) (length s.piece)) u.is
          ∙ (λ i. Some (sym (encodes-append first rest) i, size i));
    }

-- from the opening quotes on
quoted_at : (r : Bool) (mark : ℕ) (t : Bool) (cs ds out : List ℕ) → is_threefold mark (quotation mark t ++ cs) ≡ t → Scanned (body r mark t) cs ds out → Scanned (quoted r) (quotation mark t ++ cs) ds out
unfolding quoted
quoted_at r mark true cs ds out h s = record {
  piece = mark ∷ mark ∷ mark ∷ s.piece;
  whole = ap (λ l. mark ∷ mark ∷ mark ∷ l) s.whole;
  some = omega arith;
  is = ap (λ b. onto [] (quotes b) (body r mark b (drop (quotes b) (mark ∷ mark ∷ mark ∷ cs)))) h ∙ ap (onto [] 3) s.is
      ∙ (let e : 3 + length s.piece ≡ suc (suc (suc (length s.piece))) = omega arith in λ i. Some (out, e i));
}
quoted_at r mark false cs ds out h s = record {
  piece = mark ∷ s.piece;
  whole = ap (λ l. mark ∷ l) s.whole;
  some = omega arith;
  is = ap (λ b. onto [] (quotes b) (body r mark b (drop (quotes b) (mark ∷ cs)))) h ∙ ap (onto [] 1) s.is
      ∙ (let e : 1 + length s.piece ≡ suc (length s.piece) = omega arith in λ i. Some (out, e i));
}

-- where not three quotes open it, one does
single_opens : (mark : ℕ) (cs : List ℕ) → (0 == mark) ≡ false → (false ≡ true) ⊎ (starts_with nat_eq cs (mark ∷ mark ∷ []) ≡ false) → is_threefold mark (mark ∷ cs) ≡ false
single_opens mark cs h alone = ⊎_elim (λ e. absurd cc) (λ e. twice_is mark cs h ∙ e) alone

pub scanned_quoted : {is_raw is_triple : Bool} {opening cs ds meaning : List ℕ} → Quotes opening is_triple → (is_triple ≡ true) ⊎ (starts_with nat_eq cs (opening ++ opening) ≡ false)
    → Body is_raw is_triple opening cs ds meaning → Scanned (quoted is_raw) (opening ++ cs) ds (encode_utf8_all meaning)
scanned_quoted {is_raw = x} {cs = cs} {ds = ds} {meaning = v} r.single alone b = quoted_at x 39 false cs ds (encode_utf8_all v) (single_opens 39 cs refl alone) (scanned_body 39 refl refl b)
scanned_quoted {is_raw = x} {cs = cs} {ds = ds} {meaning = v} r.double alone b = quoted_at x 34 false cs ds (encode_utf8_all v) (single_opens 34 cs refl alone) (scanned_body 34 refl refl b)
scanned_quoted {is_raw = x} {cs = cs} {ds = ds} {meaning = v} r.three_single alone b = quoted_at x 39 true cs ds (encode_utf8_all v) refl (scanned_body 39 refl refl b)
scanned_quoted {is_raw = x} {cs = cs} {ds = ds} {meaning = v} r.three_double alone b = quoted_at x 34 true cs ds (encode_utf8_all v) refl (scanned_body 34 refl refl b)

three_closes : (mark : ℕ) (cs : List ℕ) → is_threefold mark cs ≡ true → closes mark true cs ≡ true
unfolding closes
three_closes mark cs h = h

-- ---- what the scanning gives, the rules say

record Meant (r : Bool) (mark : ℕ) (t : Bool) (cs : List ℕ) (p : List ℕ × ℕ) : Type 0 where
  meaning : List ℕ
  bytes : p.0 ≡ encode_utf8_all meaning
  rule : Body r t (quotation mark t) cs (drop p.1 cs) meaning
  within : p.1 ≤ length cs

abbrev Means : Bool → ℕ → Bool → List ℕ → Read → Type 0
Means r mark t cs None = Unit {0}
Means r mark t cs (Some p) = Meant r mark t cs p

module _ (raw : Bool) (mark : ℕ) (t : Bool) (no_null : (0 == mark) ≡ false) where
  ended : (cs : List ℕ) → closes mark t cs ≡ true → Meant raw mark t cs ([], quotes t)
  ended cs h =
      let f = front_is mark t cs no_null h in
      record { meaning = []; bytes = refl; rule = subst (λ l. Body raw t (quotation mark t) l (drop (quotes t) cs) []) (sym f.0) r.closed; within = f.1 }

  onward : (cs : List ℕ) (i : List ℕ × ℕ) → closes mark t cs ≡ false → Sound (Item raw t) cs (Some i) → (f : Read) → Means raw mark t (drop i.1 cs) f → Means raw mark t cs (onto (encode_utf8_all i.0) i.1 f)
  onward cs i h s None m = tt
  onward cs i h s (Some p) m = record {
    meaning = i.0 ++ m.meaning;
    bytes = ap (λ l. encode_utf8_all i.0 ++ l) m.bytes ∙ sym (encodes-append i.0 m.meaning);
    rule = r.next (sym (closes_is mark t cs no_null) ∙ h) s.0 (subst (λ l. Body raw t (quotation mark t) (drop i.1 cs) l m.meaning) (drop-drop p.1 i.1 cs) m.rule);
    within = omega (arith, m.within, length-drop i.1 cs, s.1.1);
  }

  next_turn : (c : ℕ) (z : List ℕ) (o : Read) → closes mark t (c ∷ z) ≡ false → Sound (Item raw t) (c ∷ z) o
      → ((i : List ℕ × ℕ) → 0 < i.1 → Means raw mark t (drop i.1 (c ∷ z)) (body raw mark t (drop i.1 (c ∷ z))))
      → Means raw mark t (c ∷ z) (after_item o (λ left. body_from raw mark t left z))
  next_turn c z None h s next = tt
  next_turn c z (Some i) h s next = subst (Means raw mark t (c ∷ z)) (sym (turn raw mark t c z i s.1.0)) (onward (c ∷ z) i h s (body raw mark t (drop i.1 (c ∷ z))) (next i s.1.0))

  body_means : (n : ℕ) (cs : List ℕ) → length cs ≤ n → Means raw mark t cs (body raw mark t cs)
  unfolding body
  body_means n [] small = tt
  body_means zero (c ∷ z) small = absurd (omega arith)
  body_means (suc n) (c ∷ z) small =
      split (Means raw mark t (c ∷ z)) (closes mark t (c ∷ z)) (Some ([], quotes t)) (after_item (item raw t (c ∷ z)) (λ left. body_from raw mark t left z))
      (λ h. ended (c ∷ z) h)
      (λ h. next_turn c z (item raw t (c ∷ z)) h (item_sound raw t c z) (λ i some. body_means n (drop i.1 (c ∷ z)) (omega (arith, length-drop i.1 (c ∷ z)))))

-- from the opening quotes on, with any letters before them
pub record WholeText (raw : Bool) (cs : List ℕ) (p : List ℕ × ℕ) : Type 0 where
  pub meaning : List ℕ
  pub bytes : p.0 ≡ encode_utf8_all meaning
  pub rule : (letters : List ℕ) → r.Prefix letters raw → r.Text (letters ++ cs) (drop p.1 cs) meaning
  pub within : p.1 ≤ length cs
  pub some : 0 < p.1

abbrev pub IsWholeText : Bool → List ℕ → Read → Type 0
IsWholeText raw cs None = Unit {0}
IsWholeText raw cs (Some p) = WholeText raw cs p

quoted_whole : (raw : Bool) (mark : ℕ) (t : Bool) (cs : List ℕ) (n : ℕ) → Quotes (quotation mark t) t → (t ≡ true) ⊎ (starts_with nat_eq (drop n cs) (quotation mark t ++ quotation mark t) ≡ false)
    → cs ≡ quotation mark t ++ drop n cs → 0 < n → n ≤ length cs → (f : Read) → Means raw mark t (drop n cs) f → IsWholeText raw cs (onto [] n f)
quoted_whole raw mark t cs n quotes alone front some small None m = tt
quoted_whole raw mark t cs n quotes alone front some small (Some p) m = record {
  meaning = m.meaning;
  bytes = m.bytes;
  rule = λ letters h. subst (λ l. r.Text (letters ++ l) (drop (n + p.1) cs) m.meaning) (sym front) (subst (λ l. r.Text (letters ++ (quotation mark t ++ drop n cs)) l m.meaning) (drop-drop p.1 n cs) (r.text h quotes alone m.rule));
  within = omega (arith, m.within, length-drop n cs);
  some = omega arith;
}

pub quoted_sound : (raw : Bool) (mark : ℕ) (cs : List ℕ) → (0 == mark) ≡ false → ((t : Bool) → Quotes (quotation mark t) t) → IsWholeText raw (mark ∷ cs) (quoted raw (mark ∷ cs))
unfolding quoted
quoted_sound raw mark cs h quotes = go (is_threefold mark (mark ∷ cs)) refl
  where
    go : (t : Bool) → is_threefold mark (mark ∷ cs) ≡ t → IsWholeText raw (mark ∷ cs) (onto [] (q.quotes t) (body raw mark t (drop (q.quotes t) (mark ∷ cs))))
    go true e =
        let f = front_is mark true (mark ∷ cs) h (three_closes mark (mark ∷ cs) e) in
        quoted_whole raw mark true (mark ∷ cs) 3 (quotes true) (inl refl) f.0 (omega arith) f.1 (body raw mark true (drop 3 (mark ∷ cs))) (body_means raw mark true h (length cs) (drop 3 (mark ∷ cs)) (omega (arith, length-drop 3 (mark ∷ cs))))
    go false e =
        quoted_whole raw mark false (mark ∷ cs) 1 (quotes false) (inr (sym (twice_is mark cs h) ∙ e)) refl (omega arith) (omega arith) (body raw mark false cs) (body_means raw mark false h (length cs) cs (omega arith))
