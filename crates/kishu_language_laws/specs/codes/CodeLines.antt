-- How a line of a function begins in its code alone, and which of a text's pieces give a function's tokens.
use Rattle.std.proofs.Common.{◌≡◌, ℕ, suc, true, false, cond, ◌&&◌, List, [], ◌∷◌, ◌++◌, length, replicate, refl, sym, ap, subst, ◌∙◌}
use Rattle.std.specs.Prelude.{nat_eq}
use Rattle.std.specs.Str.{bytes_eq}
use Rattle.std.specs.List.{starts_with}
use Rattle.kishu_language.specs.declared.token.Mark.{Mark}
use Rattle.kishu_language.specs.tokens.Lexemes.{Lexeme, blank, comment, bad_comment, joined, feed, word, number, string, sign, bad}
use Rattle.kishu_language.specs.tokens.Layout.{Kind, name, integer, quoted, newline, indent, dedent, mark, Token, token, Item, End, Start, inside, top}
use Rattle.kishu_language.specs.rules.LineRules as r
use Rattle.kishu_language.specs.rules.LineRules.{is_quiet, value, begins, token_at, Back, Indentation}
use Rattle.kishu_language.specs.trees.Code.{is_layout, end_after}
use Rattle.kishu_language_laws.specs.codes.CodeTokens.{is_indent, begins_block, line_ended, taken, is_rest}
use Rattle.kishu_language_laws.specs.codes.Emits.{is_early, onward, blanks_of, row_of, from_of, to_of, Emits}
use Rattle.kishu_language_laws.specs.codes.Emits as emits
use Rattle.kishu_language_laws.specs.codes.CodeLayout.{AllMoved, TokensMoved, moved_together, SameStart, same_early, same_blanks, is_newline, is_dedent, all_dedents, is_tail, tail_by, Fits, both, dedent_is, absurd_bool, first_token, rest_tokens, copies_split, Alone, Goal, quiet_case, empty_line_case, new_line_case, ends_case, one_case, open_case, close_case, value_is}

-- ---- the begin of a line

-- the first token of a line is no layout
abbrev HasFirst : List Token → Type 0
HasFirst ts = (t : Token) × (rest : List Token) × (ts ≡ t ∷ rest) × (is_layout t.kind ≡ false)

pub quiet_apart : (l : Lexeme) → begins l ≡ true → is_quiet l ≡ true → ⊥
quiet_apart (word w) h q = cc
quiet_apart (number z) h q = cc
quiet_apart (string t) h q = cc
quiet_apart (sign k) h q = cc
quiet_apart (blank w) h q = cc
quiet_apart comment h q = cc
quiet_apart joined h q = cc
quiet_apart feed h q = cc
quiet_apart bad_comment h q = cc
quiet_apart (bad below) h q = cc

pub feed_apart : (l : Lexeme) → begins l ≡ true → l ≡ feed → ⊥
feed_apart l h q = absurd_bool (sym (sym (ap begins q) ∙ h))

pub early_apart : (b : Start) → is_early b ≡ true → b ≡ inside → ⊥
early_apart b h q = absurd_bool (sym (sym (ap is_early q) ∙ h))

pub what_is : (i j : Item) (is rest : List Item) → j ∷ is ≡ i ∷ rest → j.what ≡ i.what
what_is i j is rest h = ap (λ (v : List Item). first v) h
  where
    first : List Item → Lexeme
    first [] = j.what
    first (x ∷ xs) = x.what

has_first : {at : End} {b : Start} {ms : List Mark} {ws : List (List ℕ)} {is : List Item} {ts : List Token} → Emits at b ms ws is ts → b ≡ inside
    → (i : Item) (rest : List Item) → is ≡ i ∷ rest → begins i.what ≡ true → HasFirst ts
has_first (emits.stop h) q i rest w g = absurd cc
has_first emits.stop_inside q i rest w g = absurd cc
has_first (emits.quiet {i = j} {is = is} h t) q i rest w g = absurd (quiet_apart j.what (ap begins (what_is i j is rest w) ∙ g) h)
has_first (emits.empty_line {i = j} {is = is} h f t) q i rest w g = absurd (feed_apart j.what (ap begins (what_is i j is rest w) ∙ g) f)
has_first (emits.ends {i = j} {is = is} f t) q i rest w g = absurd (feed_apart j.what (ap begins (what_is i j is rest w) ∙ g) f)
has_first (emits.new_line {i = j} {is = is} f t) q i rest w g = absurd (feed_apart j.what (ap begins (what_is i j is rest w) ∙ g) f)
has_first (emits.one {k = k} {i = j} {ts = ts} h t) q i rest w g = (token_at k j, ts, refl, (value_is j.what k h).0)
has_first (emits.opening {o = o} {i = j} {ts = ts} f h t) q i rest w g = (token_at (mark o) j, ts, refl, refl)
has_first (emits.closing {c = c} {i = j} {ts = ts} f h t) q i rest w g = (token_at (mark c) j, ts, refl, refl)
has_first (emits.starts {b = b} h g' n t) q i rest w g = absurd (early_apart b h q)

-- ---- indentation

indent_layout : (k : Kind) → is_layout k ≡ false → is_indent k ≡ false
indent_layout (name x) h = refl
indent_layout (integer z) h = refl
indent_layout (quoted x) h = refl
indent_layout (mark k) h = refl
indent_layout newline h = refl
indent_layout dedent h = refl
indent_layout indent h = h

pub newline_layout : (k : Kind) → is_layout k ≡ false → is_newline k ≡ false
newline_layout (name x) h = refl
newline_layout (integer z) h = refl
newline_layout (quoted x) h = refl
newline_layout (mark k) h = refl
newline_layout newline h = h
newline_layout dedent h = refl
newline_layout indent h = refl

dedents_before : (w : List ℕ) (n at : ℕ) {vs us : List (List ℕ)} {ts : List Token} → Back w n at vs us ts → all_dedents ts ≡ true
dedents_before w n at (r.found h) = refl
dedents_before w n at (r.bottom h) = refl
dedents_before w n at (r.off h t) = dedents_before w n at t

-- A block begins with INDENT.
no_block : (before ts own after : List Token) → all_dedents before ≡ true → HasFirst ts → before ++ ts ≡ own ++ after → begins_block own ≡ false
no_block before ts [] after h first e = refl
no_block [] ts (x ∷ own) after h first e =
    let is : first.0 ≡ x = first_token first.0 x first.1 (own ++ after) (sym first.2 ∙ e) in
    sym (ap (λ (t : Token). is_indent t.kind) is) ∙ indent_layout first.0.kind first.3
no_block (b ∷ before) ts (x ∷ own) after h first e =
    let is : b ≡ x = first_token b x (before ++ ts) (own ++ after) e in
    sym (ap (λ (t : Token). is_indent t.kind) is) ∙ ap is_indent (dedent_is b.kind (both _ _ h).0)

-- what a line's indentation takes of the function's tokens, and that it does so in the code alone
record Begun (d : ℕ) (w : List ℕ) (us vs us2 : List (List ℕ)) (before ts own after : List Token) : Type 0 where
  deep : List (List ℕ)
  stack : us2 ≡ deep ++ vs
  rest : List Token
  own_is : own ≡ before ++ rest
  left : ts ≡ rest ++ after
  fits : is_rest rest [] (length deep) ≡ true
  again : (row from to : ℕ) → (xs : List Token) × Indentation w row from to us deep xs × TokensMoved d before xs
  layout : (e : ℕ) (ts : List Token) → end_after e (before ++ ts) ≡ end_after e ts

record Off (d : ℕ) (w u : List ℕ) (us vs us2 : List (List ℕ)) (before ts own after : List Token) : Type 0 where
  deep : List (List ℕ)
  stack : us2 ≡ deep ++ vs
  rest : List Token
  own_is : own ≡ before ++ rest
  left : ts ≡ rest ++ after
  fits : is_rest rest [] (length deep) ≡ true
  again : (row at : ℕ) → (xs : List Token) × Back w row at (u ∷ us) deep xs × TokensMoved d before xs

abbrev rest_of : List (List ℕ) → List (List ℕ)
rest_of [] = []
rest_of (v ∷ vs) = vs

dedent_end : (t : Token) (e : ℕ) (own : List Token) → t.kind ≡ dedent → end_after e (t ∷ own) ≡ end_after e own
dedent_end t e own h = ap (λ k. end_after (cond (is_layout k) e t.end) own) h

dedents_end : (e : ℕ) (before ts : List Token) → all_dedents before ≡ true → end_after e (before ++ ts) ≡ end_after e ts
dedents_end e [] ts h = refl
dedents_end e (t ∷ before) ts h = dedent_end t e (before ++ ts) (dedent_is t.kind (both _ _ h).0) ∙ dedents_end e before ts (both _ _ h).1

module _ (d : ℕ) where
  -- Where no block is left open the function is over.
  over_there : (x : Token) (own : List Token) → begins_block own ≡ false → line_ended 0 own (is_rest own [] 0) ≡ true → all_dedents own ≡ true
  over_there x [] h k = refl
  over_there x (t ∷ own) h k = absurd (absurd_bool (sym k ∙ ap (λ b. cond b (is_rest (t ∷ own) [] 0) false) h))

  dedent_rest : (t : Token) (own : List Token) (n : ℕ) → t.kind ≡ dedent → is_rest (t ∷ own) [] (suc n) ≡ line_ended n own (is_rest own [] n)
  dedent_rest t own n h = ap (λ k. taken k [] (suc n) own (λ bs n. is_rest own bs n)) h

  dedent_tail : (t : Token) (own : List Token) → t.kind ≡ dedent → all_dedents (t ∷ own) ≡ all_dedents own
  dedent_tail t own h = ap (λ k. is_dedent k && all_dedents own) h

  off_within : {w : List ℕ} {n at : ℕ} {ws us2 : List (List ℕ)} {before : List Token} → Back w n at ws us2 before → (u : List ℕ) (us vs : List (List ℕ)) (ts own after : List Token)
      → ws ≡ u ∷ (us ++ vs) → before ++ ts ≡ own ++ after → HasFirst ts → is_rest own [] (suc (length us)) ≡ true → all_dedents own ≡ false → Off d w u us vs us2 before ts own after
  off_within {w = w} (r.found {v = v} {vs = ws} h) u us vs ts own after e f first k apart = record {
    deep = u ∷ us;
    stack = e;
    rest = own;
    own_is = refl;
    left = f;
    fits = k;
    again = λ row at. ([], r.found (ap (λ (x : List (List ℕ)). bytes_eq w (top x)) (sym e) ∙ h), tt);
  }
  off_within (r.bottom h) u us vs ts own after e f first k apart = absurd (never e)
    where
      never : [] ≡ u ∷ (us ++ vs) → ⊥
      never e = cc
  off_within (r.off h t) u us vs ts [] after e f first k apart = absurd (absurd_bool apart)
  off_within {w = w} {n = n} {at = at} (r.off {v = v} {vs = ws} {ts = before} h t) u [] vs ts (x ∷ own) after e f first k apart =
      let is : x.kind ≡ dedent = ap (λ (t : Token). t.kind) (sym (first_token (token dedent n at at) x (before ++ ts) (own ++ after) f)) in
      let left = rest_tokens (token dedent n at at) x (before ++ ts) (own ++ after) f in
      absurd (absurd_bool (sym (over_there x own (no_block before ts own after (dedents_before w n at t) first left) (sym (dedent_rest x own 0 is) ∙ k)) ∙ sym (dedent_tail x own is) ∙ apart))
  off_within {w = w} {n = n} {at = at} (r.off {v = v} {vs = ws} {us = us2} {ts = before} h t) u (u' ∷ us) vs ts (x ∷ own) after e f first k apart =
      let x_is : token dedent n at at ≡ x = first_token (token dedent n at at) x (before ++ ts) (own ++ after) f in
      let is : x.kind ≡ dedent = ap (λ (t : Token). t.kind) (sym x_is) in
      let left = rest_tokens (token dedent n at at) x (before ++ ts) (own ++ after) f in
      let s = off_within t u' us vs ts own after (ap rest_of e) left first (sym (dedent_rest x own (suc (length us)) is) ∙ k) (sym (dedent_tail x own is) ∙ apart) in
      let same : bytes_eq w u ≡ false = ap (λ (y : List (List ℕ)). bytes_eq w (top y)) (sym e) ∙ h in
      record {
        deep = s.deep;
        stack = s.stack;
        rest = s.rest;
        own_is = (λ i. sym x_is i ∷ s.own_is i);
        left = s.left;
        fits = s.fits;
        again = λ row at'. (let a = s.again row at' in (token dedent row at' at' ∷ a.0, r.off same a.1, ((refl, λ apart. absurd (absurd_bool apart)), a.2)));
      }

  -- ---- what begins a line

  none_longer : (w v : List ℕ) → bytes_eq w v ≡ false → starts_with nat_eq w v ≡ true → bytes_eq w [] ≡ false
  none_longer [] [] h k = h
  none_longer [] (c ∷ v) h k = absurd (absurd_bool (sym k))
  none_longer (c ∷ w) v h k = refl

  begun : {w : List ℕ} {n from to : ℕ} {ws us2 : List (List ℕ)} {before : List Token} → Indentation w n from to ws us2 before → (us vs : List (List ℕ)) (ts own after : List Token)
      → ws ≡ us ++ vs → before ++ ts ≡ own ++ after → HasFirst ts → is_rest own [] (length us) ≡ true → (length us ≡ 0 → begins_block own ≡ true) → all_dedents own ≡ false
      → Begun d w us vs us2 before ts own after
  begun (r.equal h) [] vs ts own after e f first k block apart = absurd (absurd_bool (sym (block refl) ∙ no_block [] ts own after refl first f))
  begun {w = w} (r.equal {vs = ws} h) (u ∷ us) vs ts own after e f first k block apart = record {
    deep = u ∷ us;
    stack = e;
    rest = own;
    own_is = refl;
    left = f;
    fits = k;
    again = λ row from to. ([], r.equal (ap (λ (x : List (List ℕ)). bytes_eq w (top x)) (sym e) ∙ h), tt);
    layout = λ e ts. refl;
  }
  begun (r.longer h g) us vs ts [] after e f first k block apart = absurd (absurd_bool apart)
  begun {w = w} {n = n} {from = from} {to = to} (r.longer {vs = ws} h g) us vs ts (x ∷ own) after e f first k block apart =
      let x_is : token indent n from to ≡ x = first_token (token indent n from to) x ts (own ++ after) f in
      let is : x.kind ≡ indent = ap (λ (t : Token). t.kind) (sym x_is) in
      record {
        deep = w ∷ us;
        stack = ap (λ (v : List (List ℕ)). w ∷ v) e;
        rest = own;
        own_is = (λ i. sym x_is i ∷ own);
        left = rest_tokens (token indent n from to) x ts (own ++ after) f;
        fits = sym (ap (λ k. taken k [] (length us) own (λ bs n. is_rest own bs n)) is) ∙ k;
        again = λ row from to. (token indent row from to ∷ [], deeper us e row from to, ((refl, λ apart. absurd (absurd_bool apart)), tt));
        layout = λ e ts. refl;
      }
    where
      deeper : (us : List (List ℕ)) → ws ≡ us ++ vs → (row from to : ℕ) → Indentation w row from to us (w ∷ us) (token indent row from to ∷ [])
      deeper [] e row from to = r.longer (none_longer w (top ws) h g) refl
      deeper (u ∷ us) e row from to =
          r.longer (ap (λ (x : List (List ℕ)). bytes_eq w (top x)) (sym e) ∙ h) (ap (λ (x : List (List ℕ)). starts_with nat_eq w (top x)) (sym e) ∙ g)
  begun {w = w} {n = n} {to = to} {before = before} (r.lower h g t) [] vs ts own after e f first k block apart =
      absurd (absurd_bool (sym (block refl) ∙ no_block before ts own after (dedents_before w n to t) first f))
  begun {w = w} {n = n} {to = to} {before = before} (r.lower h g t) (u ∷ us) vs ts own after e f first k block apart =
      let s = off_within t u us vs ts own after e f first k apart in
      record {
        deep = s.deep;
        stack = s.stack;
        rest = s.rest;
        own_is = s.own_is;
        left = s.left;
        fits = s.fits;
        again = λ row from to. (let a = s.again row to in
            (a.0, r.lower (ap (λ (x : List (List ℕ)). bytes_eq w (top x)) (sym e) ∙ h) (ap (λ (x : List (List ℕ)). starts_with nat_eq w (top x)) (sym e) ∙ g) a.1, a.2));
        layout = λ e ts. dedents_end e before ts (dedents_before w _ _ t);
      }

  -- A function's tokens go on with one that is no layout.
  no_tail : (ts own after : List Token) (n : ℕ) → HasFirst ts → ts ≡ own ++ after → is_rest own [] n ≡ true → is_tail own ≡ false
  no_tail ts [] after n first e h = refl
  no_tail ts (x ∷ own) after n first e h =
      let is : first.0 ≡ x = first_token first.0 x first.1 (own ++ after) (sym first.2 ∙ e) in
      ap (λ b. b && all_dedents own) (sym (ap (λ (t : Token). is_newline t.kind) is) ∙ newline_layout first.0.kind first.3)

  starts_case : (b : Start) (ms : List Mark) (ws us2 : List (List ℕ)) (i : Item) (is : List Item) (before ts : List Token) → is_early b ≡ true → begins i.what ≡ true
      → Indentation (blanks_of b) (row_of b i.line) (from_of b i.start) (to_of b i.start) ws us2 before → HasFirst ts → Goal d inside ms us2 (i ∷ is) ts → Goal d b ms ws (i ∷ is) (before ++ ts)
  starts_case b ms ws us2 i is before ts early g n first next us vs own after e f h k =
      let fits : Fits true ms own (length us) = subst (λ v. Fits v ms own (length us)) early h in
      let s = begun n us vs ts own after e f first fits.1 fits.2 (sym (ap (λ v. tail_by v own) early) ∙ k) in
      let in_line = next s.deep vs s.rest after s.stack s.left (subst (λ m. is_rest s.rest m (length s.deep) ≡ true) (sym fits.0) s.fits) (no_tail ts s.rest after (length s.deep) first s.left s.fits) in
      record {
        first = in_line.first;
        others = in_line.others;
        behind = in_line.behind;
        whole = in_line.whole;
        last = λ e. ap (end_after e) s.own_is ∙ s.layout e s.rest ∙ in_line.last e;
        alone = λ at c js same moved. go s in_line at c js same moved;
      }
    where
      go : (s : Begun d (blanks_of b) us vs us2 before ts own after) (a : Alone d inside ms s.deep (i ∷ is) s.rest) (at : End) (c : Start) (js : List Item) → SameStart b c → AllMoved d (a.first ∷ a.others) js
          → (ts : List Token) × Emits at c ms us js ts × TokensMoved d own ts
      go s a at c [] same moved = absurd moved
      go s a at c (j ∷ js) same moved =
          let x = a.alone at inside (j ∷ js) tt moved in
          let y = s.again (row_of c j.line) (from_of c j.start) (to_of c j.start) in
          let what : i.what ≡ j.what = what_is a.first i is (a.others ++ a.behind) a.whole ∙ moved.0.0 in (
            y.0 ++ x.0,
            emits.starts (sym (same_early b c same) ∙ early) (sym (ap begins what) ∙ g) (subst (λ w. Indentation w (row_of c j.line) (from_of c j.start) (to_of c j.start) us s.deep y.0) (same_blanks b c same) y.1) x.1,
            subst (λ (v : List Token). TokensMoved d v (y.0 ++ x.0)) (sym s.own_is) (moved_together d before y.0 s.rest x.0 y.2 x.2),
          )

  -- ---- the end of the text

  stop_case : (b : Start) (at : End) (ws : List (List ℕ)) → is_early b ≡ true → Goal d b [] ws [] (replicate (length ws) (token dedent at.0 at.1 at.1))
  stop_case b at ws early us vs own after e f h k = absurd (absurd_bool (sym (copies_split (length ws) at.0 at.1 own after f) ∙ sym (ap (λ v. tail_by v own) early) ∙ k))

  stop_inside_case : (at : End) (ws : List (List ℕ)) → Goal d inside [] ws [] (token newline at.0 at.1 at.1 ∷ replicate (length ws) (token dedent at.0 at.1 at.1))
  stop_inside_case at ws us vs [] after e f h k = absurd (absurd_bool (sym h))
  stop_inside_case at ws us vs (x ∷ own) after e f h k =
      let end = token newline at.0 at.1 at.1 in
      let rest = replicate (length ws) (token dedent at.0 at.1 at.1) in
      let is : end ≡ x = first_token end x rest (own ++ after) f in
      absurd (absurd_bool (sym (copies_split (length ws) at.0 at.1 own after (rest_tokens end x rest (own ++ after) f)) ∙ ap (λ (t : Token). is_newline t.kind && all_dedents own) is ∙ k))

  -- ---- the whole

  pub alone : {at : End} {b : Start} {ms : List Mark} {ws : List (List ℕ)} {is : List Item} {ts : List Token} → Emits at b ms ws is ts → Goal d b ms ws is ts
  alone {at = at} (emits.stop {b = b} {vs = ws} h) = stop_case b at ws h
  alone {at = at} (emits.stop_inside {vs = ws}) = stop_inside_case at ws
  alone (emits.quiet {b = b} {bs = ms} {vs = ws} {i = i} {is = is} {ts = ts} h t) = quiet_case d b ms ws i is ts h (alone t)
  alone (emits.empty_line {b = b} {bs = ms} {vs = ws} {i = i} {is = is} {ts = ts} h f t) = empty_line_case d b ms ws i is ts h f (alone t)
  alone (emits.ends {vs = ws} {i = i} {is = is} {ts = ts} f t) = ends_case d ws i is ts f (alone t)
  alone (emits.new_line {o = o} {bs = ms} {vs = ws} {i = i} {is = is} {ts = ts} f t) = new_line_case d o ms ws i is ts f (alone t)
  alone (emits.one {k = k} {bs = ms} {vs = ws} {i = i} {is = is} {ts = ts} h t) = one_case d k ms ws i is ts h (alone t)
  alone (emits.opening {o = o} {bs = ms} {vs = ws} {i = i} {is = is} {ts = ts} w h t) = open_case d o ms ws i is ts w h (alone t)
  alone (emits.closing {o = o} {c = c} {bs = ms} {vs = ws} {i = i} {is = is} {ts = ts} w h t) = close_case d o c ms ws i is ts w h (alone t)
  alone (emits.starts {b = b} {bs = ms} {vs = ws} {us = us2} {i = i} {is = is} {before = before} {ts = ts} h g n t) = starts_case b ms ws us2 i is before ts h g n (has_first t refl i is refl g) (alone t)
