-- Where a token stands among a text's pieces, and that no bracket is open where a function begins.
use Rattle.std.proofs.Common.{◌≡◌, ℕ, Bool, true, false, cond, ◌&&◌, List, [], ◌∷◌, ◌++◌, length, replicate, Some, refl, sym, ap, subst, ◌∙◌}
use Rattle.std.proofs.lemmas.List.{append-nil}
use Rattle.kishu_language.specs.declared.token.Mark.{Mark}
use Rattle.kishu_language.specs.tokens.Lexemes.{Lexeme, blank, comment, bad_comment, joined, feed, word, number, string, sign, bad}
use Rattle.kishu_language.specs.tokens.Layout.{Kind, newline, dedent, mark, Token, token, Item, End, Start, inside, is_opening, is_closing, closes}
use Rattle.kishu_language.specs.rules.LineRules as r
use Rattle.kishu_language.specs.rules.LineRules.{value, begins, token_at, Back, Indentation}
use Rattle.kishu_language.specs.trees.Code.{is_layout}
use Rattle.kishu_language_laws.specs.codes.CodeTokens.{closed_by, taken, is_rest}
use Rattle.kishu_language_laws.specs.codes.Emits.{is_early, onward, Emits}
use Rattle.kishu_language_laws.specs.codes.Emits as emits
use Rattle.kishu_token_laws.specs.LineSteps.{closing_mark}
use Rattle.kishu_language_laws.specs.codes.CodeLayout.{all_dedents, dedent_is, both, absurd_bool, first_token, rest_tokens, copies_split, value_is}
use Rattle.kishu_language_laws.specs.codes.CodeLines.{early_apart}

-- the piece that gives the token, which is no layout, and what is known before it
pub record Found (at : End) (is : List Item) (t : Token) (own : List Token) : Type 0 where
  pub ahead : List Item
  pub item : Item
  pub others : List Item
  pub whole : is ≡ ahead ++ (item ∷ others)
  pub brackets : List Mark
  pub indents : List (List ℕ)
  pub emits : Emits at inside brackets indents (item ∷ others) (t ∷ own)
  pub begun : begins item.what ≡ true
  pub start : t.start ≡ item.start

further : {at : End} {is : List Item} {t : Token} {own : List Token} (i : Item) → Found at is t own → Found at (i ∷ is) t own
further i f = record {
  ahead = i ∷ f.ahead;
  item = f.item;
  others = f.others;
  whole = ap (λ (v : List Item). i ∷ v) f.whole;
  brackets = f.brackets;
  indents = f.indents;
  emits = f.emits;
  begun = f.begun;
  start = f.start;
}

abbrev Finding : End → List Item → List Token → Type 0
Finding at is ts = (before own : List Token) (t : Token) → ts ≡ before ++ (t ∷ own) → is_layout t.kind ≡ false → Found at is t own

-- ---- what is no such token

abbrev all_layout : List Token → Bool
all_layout [] = true
all_layout (t ∷ ts) = is_layout t.kind && all_layout ts

dedents_layout : (ts : List Token) → all_dedents ts ≡ true → all_layout ts ≡ true
dedents_layout [] h = refl
dedents_layout (t ∷ ts) h = ap (λ k. is_layout k && all_layout ts) (dedent_is t.kind (both _ _ h).0) ∙ dedents_layout ts (both _ _ h).1

back_layout : {w : List ℕ} {n at : ℕ} {vs us : List (List ℕ)} {ts : List Token} → Back w n at vs us ts → all_layout ts ≡ true
back_layout (r.found h) = refl
back_layout (r.bottom h) = refl
back_layout (r.off h t) = back_layout t

indentation_layout : {w : List ℕ} {n from to : ℕ} {vs us : List (List ℕ)} {ts : List Token} → Indentation w n from to vs us ts → all_layout ts ≡ true
indentation_layout (r.equal h) = refl
indentation_layout (r.longer h g) = refl
indentation_layout (r.lower h g t) = back_layout t

-- Such a token stands behind layout.
past_layout : (xs ts before own : List Token) (t : Token) → all_layout xs ≡ true → xs ++ ts ≡ before ++ (t ∷ own) → is_layout t.kind ≡ false → (rest : List Token) × (ts ≡ rest ++ (t ∷ own))
past_layout [] ts before own t h e apart = (before, e)
past_layout (x ∷ xs) ts [] own t h e apart = absurd (absurd_bool (sym (both _ _ h).0 ∙ ap (λ (t : Token). is_layout t.kind) (first_token x t (xs ++ ts) own e) ∙ apart))
past_layout (x ∷ xs) ts (y ∷ before) own t h e apart = past_layout xs ts before own t (both _ _ h).1 (rest_tokens x y (xs ++ ts) (before ++ (t ∷ own)) e) apart

not_in : (before own : List Token) (t : Token) → all_layout (before ++ (t ∷ own)) ≡ true → is_layout t.kind ≡ false → ⊥
not_in [] own t h apart = absurd_bool (sym (both _ _ h).0 ∙ apart)
not_in (x ∷ before) own t h apart = not_in before own t (both _ _ h).1 apart

copies_apart : (n line at : ℕ) (before own : List Token) (t : Token) → replicate n (token dedent line at at) ≡ before ++ (t ∷ own) → is_layout t.kind ≡ false → ⊥
copies_apart n line at before own t e apart =
    not_in before own t (dedents_layout (before ++ (t ∷ own)) (copies_split n line at (before ++ (t ∷ own)) [] (e ∙ sym (append-nil (before ++ (t ∷ own)))))) apart

end_apart : (n line at : ℕ) (before own : List Token) (t : Token) → token newline line at at ∷ replicate n (token dedent line at at) ≡ before ++ (t ∷ own) → is_layout t.kind ≡ false → ⊥
end_apart n line at [] own t e apart = absurd_bool (ap (λ (t : Token). is_layout t.kind) (first_token (token newline line at at) t (replicate n (token dedent line at at)) own e) ∙ apart)
end_apart n line at (x ∷ before) own t e apart = copies_apart n line at before own t (rest_tokens (token newline line at at) x (replicate n (token dedent line at at)) (before ++ (t ∷ own)) e) apart

-- ---- the piece

value_begins : (l : Lexeme) (k : Kind) → value l ≡ Some k → begins l ≡ true
value_begins (word w) k h = refl
value_begins (number z) k h = refl
value_begins (string t) k h = refl
value_begins (sign s) k h = refl
value_begins (blank w) k h = absurd cc
value_begins comment k h = absurd cc
value_begins joined k h = absurd cc
value_begins feed k h = absurd cc
value_begins bad_comment k h = absurd cc
value_begins (bad below) k h = absurd cc

module _ (at : End) where
  -- a piece that gives a token
  token_found : (k : Kind) (ms : List Mark) (ws : List (List ℕ)) (i : Item) (is : List Item) (ts : List Token) → begins i.what ≡ true → Emits at inside ms ws (i ∷ is) (token_at k i ∷ ts) → Finding at is ts
      → Finding at (i ∷ is) (token_at k i ∷ ts)
  token_found k ms ws i is ts g whole next [] own t e apart = record {
    ahead = [];
    item = i;
    others = is;
    whole = refl;
    brackets = ms;
    indents = ws;
    emits = subst (λ (v : List Token). Emits at inside ms ws (i ∷ is) v) e whole;
    begun = g;
    start = ap (λ (t : Token). t.start) (sym (first_token (token_at k i) t ts own e));
  }
  token_found k ms ws i is ts g whole next (x ∷ before) own t e apart = further i (next before own t (rest_tokens (token_at k i) x ts (before ++ (t ∷ own)) e) apart)

  newline_found : (i : Item) (is : List Item) (ts : List Token) → Finding at is ts → Finding at (i ∷ is) (token_at newline i ∷ ts)
  newline_found i is ts next [] own t e apart = absurd (absurd_bool (ap (λ (t : Token). is_layout t.kind) (first_token (token_at newline i) t ts own e) ∙ apart))
  newline_found i is ts next (x ∷ before) own t e apart = further i (next before own t (rest_tokens (token_at newline i) x ts (before ++ (t ∷ own)) e) apart)

  starts_found : (i : Item) (is : List Item) (xs ts : List Token) → all_layout xs ≡ true → Finding at (i ∷ is) ts → Finding at (i ∷ is) (xs ++ ts)
  starts_found i is xs ts h next before own t e apart = let p = past_layout xs ts before own t h e apart in next p.0 own t p.1 apart

pub find : {at : End} {b : Start} {ms : List Mark} {ws : List (List ℕ)} {is : List Item} {ts : List Token} → Emits at b ms ws is ts → Finding at is ts
find {at = at} (emits.stop {vs = ws} h) before own t e apart = absurd (copies_apart (length ws) at.0 at.1 before own t e apart)
find {at = at} (emits.stop_inside {vs = ws}) before own t e apart = absurd (end_apart (length ws) at.0 at.1 before own t e apart)
find (emits.quiet {i = i} h s) before own t e apart = further i (find s before own t e apart)
find (emits.empty_line {i = i} h f s) before own t e apart = further i (find s before own t e apart)
find {at = at} (emits.ends {i = i} {is = is} {ts = ts} f s) before own t e apart = newline_found at i is ts (find s) before own t e apart
find (emits.new_line {i = i} f s) before own t e apart = further i (find s before own t e apart)
find {at = at} (emits.one {k = k} {bs = ms} {vs = ws} {i = i} {is = is} {ts = ts} h s) before own t e apart =
    token_found at k ms ws i is ts (value_begins i.what k h) (emits.one h s) (find s) before own t e apart
find {at = at} (emits.opening {o = o} {bs = ms} {vs = ws} {i = i} {is = is} {ts = ts} w h s) before own t e apart =
    token_found at (mark o) ms ws i is ts (ap begins w) (emits.opening w h s) (find s) before own t e apart
find {at = at} (emits.closing {o = o} {c = c} {bs = ms} {vs = ws} {i = i} {is = is} {ts = ts} w h s) before own t e apart =
    token_found at (mark c) (o ∷ ms) ws i is ts (ap begins w) (emits.closing w h s) (find s) before own t e apart
find {at = at} (emits.starts {i = i} {is = is} {before = xs} {ts = ts} h g n s) before own t e apart = starts_found at i is xs ts (indentation_layout n) (find s) before own t e apart

-- ---- brackets

none_left : (rel base : List Mark) → [] ≡ rel ++ base → base ≡ []
none_left [] base e = sym e
none_left (x ∷ rel) base e = absurd cc

closes_one : (c : Mark) (rel : List Mark) (own : List Token) (n : ℕ) → closed_by c rel (λ bs. is_rest own bs n) ≡ true → (b : Mark) × (rest : List Mark) × (rel ≡ b ∷ rest) × (is_rest own rest n ≡ true)
closes_one c [] own n h = absurd (absurd_bool (sym h))
closes_one c (b ∷ rest) own n h = (b, rest, refl, go (closes b c) h)
  where
    go : (p : Bool) → cond p (is_rest own rest n) false ≡ true → is_rest own rest n ≡ true
    go true h = h
    go false h = absurd (absurd_bool (sym h))

abbrev NoneOpen : List Mark → List Token → Type 0
NoneOpen ms ts = (rel base : List Mark) (own after : List Token) (n : ℕ) → ms ≡ rel ++ base → ts ≡ own ++ after → is_rest own rel n ≡ true → base ≡ []

one_open : (k : Kind) (i : Item) (ms : List Mark) (ts : List Token) → ((bs : List Mark) (n : ℕ) (ts : List Token) (rest : List Mark → ℕ → Bool) → taken k bs n ts rest ≡ rest bs n) → NoneOpen ms ts
    → NoneOpen ms (token_at k i ∷ ts)
one_open k i ms ts plain next rel base [] after n e f h = absurd (absurd_bool (sym h))
one_open k i ms ts plain next rel base (x ∷ own) after n e f h =
    let is : x.kind ≡ k = ap (λ (t : Token). t.kind) (sym (first_token (token_at k i) x ts (own ++ after) f)) in
    next rel base own after n e (rest_tokens (token_at k i) x ts (own ++ after) f)
    (sym (ap (λ k. taken k rel n own (λ bs n. is_rest own bs n)) is ∙ plain rel n own (λ bs n. is_rest own bs n)) ∙ h)

opening_open : (o : Mark) (i : Item) (ms : List Mark) (ts : List Token) → is_opening o ≡ true → NoneOpen (o ∷ ms) ts → NoneOpen ms (token_at (mark o) i ∷ ts)
opening_open o i ms ts is_open next rel base [] after n e f h = absurd (absurd_bool (sym h))
opening_open o i ms ts is_open next rel base (x ∷ own) after n e f h =
    let is : x.kind ≡ mark o = ap (λ (t : Token). t.kind) (sym (first_token (token_at (mark o) i) x ts (own ++ after) f)) in
    next (o ∷ rel) base own after n (ap (λ (v : List Mark). o ∷ v) e) (rest_tokens (token_at (mark o) i) x ts (own ++ after) f)
    (sym (ap (λ k. taken k rel n own (λ bs n. is_rest own bs n)) is
    ∙ ap (λ b. cond b (is_rest own (o ∷ rel) n) (cond (is_closing o) (closed_by o rel (λ bs. is_rest own bs n)) (is_rest own rel n))) is_open) ∙ h)

closing_open : (o c : Mark) (i : Item) (ms : List Mark) (ts : List Token) → closes o c ≡ true → NoneOpen ms ts → NoneOpen (o ∷ ms) (token_at (mark c) i ∷ ts)
closing_open o c i ms ts fits next rel base [] after n e f h = absurd (absurd_bool (sym h))
closing_open o c i ms ts fits next rel base (x ∷ own) after n e f h =
    let is : x.kind ≡ mark c = ap (λ (t : Token). t.kind) (sym (first_token (token_at (mark c) i) x ts (own ++ after) f)) in
    let q = closing_mark o c fits in
    let p = closes_one c rel own n (sym (ap (λ k. taken k rel n own (λ bs n. is_rest own bs n)) is
    ∙ ap (λ b. cond b (is_rest own (c ∷ rel) n) (cond (is_closing c) (closed_by c rel (λ bs. is_rest own bs n)) (is_rest own rel n))) q.0
    ∙ ap (λ b. cond b (closed_by c rel (λ bs. is_rest own bs n)) (is_rest own rel n)) q.1) ∙ h) in
    next p.1 base own after n (ap tail (e ∙ ap (λ (v : List Mark). v ++ base) p.2)) (rest_tokens (token_at (mark c) i) x ts (own ++ after) f) p.3
  where
    tail : List Mark → List Mark
    tail [] = []
    tail (x ∷ xs) = xs

-- No bracket is open where a function's tokens begin.
pub none_open : {at : End} {b : Start} {ms : List Mark} {ws : List (List ℕ)} {is : List Item} {ts : List Token} → Emits at b ms ws is ts → b ≡ inside → NoneOpen ms ts
none_open (emits.stop {b = b} h) q rel base own after n e f k = none_left rel base e
none_open emits.stop_inside q rel base own after n e f k = none_left rel base e
none_open (emits.quiet {b = b} {i = i} h s) q rel base own after n e f k = none_open s (ap (λ b. onward i.what i.line i.start i.end b) q) rel base own after n e f k
none_open (emits.empty_line {b = b} h g s) q rel base own after n e f k = absurd (early_apart b h q)
none_open (emits.ends g s) q rel base own after n e f k = none_left rel base e
none_open (emits.new_line g s) q rel base own after n e f k = none_open s refl rel base own after n e f k
none_open (emits.one {k = l} {bs = ms} {i = i} {ts = ts} h s) q rel base own after n e f k = one_open l i ms ts (value_is i.what l h).1 (none_open s refl) rel base own after n e f k
none_open (emits.opening {o = o} {bs = ms} {i = i} {ts = ts} w h s) q rel base own after n e f k = opening_open o i ms ts h (none_open s refl) rel base own after n e f k
none_open (emits.closing {o = o} {c = c} {bs = ms} {i = i} {ts = ts} w h s) q rel base own after n e f k = closing_open o c i ms ts h (none_open s refl) rel base own after n e f k
none_open (emits.starts {b = b} h g d s) q rel base own after n e f k = absurd (early_apart b h q)
