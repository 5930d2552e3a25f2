-- The pieces of a function's code by themselves give the function's tokens: its lines stand over no indentation there, and in the text over that of its first line.
use Rattle.std.proofs.Common.{◌≡◌, ℕ, zero, suc, ◌+◌, Bool, true, false, cond, ◌&&◌, List, [], ◌∷◌, ◌++◌, length, replicate, Option, Some, None, refl, sym, ap, subst, ◌∙◌}
use Rattle.std.specs.Prelude.{if◌then◌else◌}
use Rattle.std.specs.Str.{bytes_eq}
use Rattle.kishu_language.specs.declared.token.Mark.{Mark}
use Rattle.kishu_language.specs.tokens.Marks.{Spelled, reserved_marks, mark_among}
use Rattle.kishu_language.specs.tokens.Lexemes.{Lexeme, blank, comment, bad_comment, joined, feed, word, number, string, sign, bad}
use Rattle.kishu_language.specs.tokens.Layout.{Kind, name, integer, quoted, newline, indent, dedent, mark, Token, token, Item, End, Start, fresh, led, inside, word_or, is_opening, is_closing, closes}
use Rattle.kishu_language.specs.rules.LineRules.{is_quiet, value, token_at}
use Rattle.kishu_language.specs.trees.Code.{is_layout, end_after}
use Rattle.kishu_language_laws.specs.codes.CodeTokens.{is_indent, begins_block, line_ended, closed_by, taken, is_rest, IsPlain, marked_plain}
use Rattle.kishu_language_laws.specs.codes.Emits.{is_early, first_onward, onward, blanks_of, row_of, from_of, to_of, Emits}
use Rattle.kishu_language_laws.specs.codes.Emits as emits
use Rattle.kishu_token_laws.specs.LineSteps.{plain_sign, closing_mark}

-- ---- pieces and tokens further on

-- the same piece, so many bytes further on than the second
abbrev pub Moved : ℕ → Item → Item → Type 0
Moved d i j = (i.what ≡ j.what) × (i.end ≡ d + j.end)

abbrev pub AllMoved : ℕ → List Item → List Item → Type 0
AllMoved d [] [] = Unit {0}
AllMoved d [] (j ∷ js) = ⊥
AllMoved d (i ∷ is) [] = ⊥
AllMoved d (i ∷ is) (j ∷ js) = Moved d i j × AllMoved d is js

-- a token of the same kind; where it is no layout, it ends so many bytes further on
abbrev pub TokenMoved : ℕ → Token → Token → Type 0
TokenMoved d t u = (t.kind ≡ u.kind) × (is_layout t.kind ≡ false → t.end ≡ d + u.end)

abbrev pub TokensMoved : ℕ → List Token → List Token → Type 0
TokensMoved d [] [] = Unit {0}
TokensMoved d [] (u ∷ us) = ⊥
TokensMoved d (t ∷ ts) [] = ⊥
TokensMoved d (t ∷ ts) (u ∷ us) = TokenMoved d t u × TokensMoved d ts us

pub moved_together : (d : ℕ) (as' bs cs ds : List Token) → TokensMoved d as' bs → TokensMoved d cs ds → TokensMoved d (as' ++ cs) (bs ++ ds)
moved_together d [] [] cs ds h k = k
moved_together d [] (b ∷ bs) cs ds h k = absurd h
moved_together d (a ∷ as') [] cs ds h k = absurd h
moved_together d (a ∷ as') (b ∷ bs) cs ds h k = (h.0, moved_together d as' bs cs ds h.1 k)

-- what is known before a piece of the text and of the code
abbrev pub SameStart : Start → Start → Type 0
SameStart fresh fresh = Unit {0}
SameStart fresh (led w row from to) = ⊥
SameStart fresh inside = ⊥
SameStart (led v row from to) fresh = ⊥
SameStart (led v row from to) (led w row' from' to') = v ≡ w
SameStart (led v row from to) inside = ⊥
SameStart inside fresh = ⊥
SameStart inside (led w row from to) = ⊥
SameStart inside inside = Unit {0}

pub same_early : (b c : Start) → SameStart b c → is_early b ≡ is_early c
same_early fresh fresh h = refl
same_early fresh (led w row from to) h = absurd h
same_early fresh inside h = absurd h
same_early (led v row from to) fresh h = absurd h
same_early (led v row from to) (led w row' from' to') h = refl
same_early (led v row from to) inside h = absurd h
same_early inside fresh h = absurd h
same_early inside (led w row from to) h = absurd h
same_early inside inside h = refl

pub same_blanks : (b c : Start) → SameStart b c → blanks_of b ≡ blanks_of c
same_blanks fresh fresh h = refl
same_blanks fresh (led w row from to) h = absurd h
same_blanks fresh inside h = absurd h
same_blanks (led v row from to) fresh h = absurd h
same_blanks (led v row from to) (led w row' from' to') h = h
same_blanks (led v row from to) inside h = absurd h
same_blanks inside fresh h = absurd h
same_blanks inside (led w row from to) h = absurd h
same_blanks inside inside h = refl

first_same : (l : Lexeme) (n a z n' a' z' : ℕ) → SameStart (first_onward l n a z) (first_onward l n' a' z')
first_same (blank w) n a z n' a' z' = refl
first_same joined n a z n' a' z' = refl
first_same comment n a z n' a' z' = tt
first_same bad_comment n a z n' a' z' = tt
first_same feed n a z n' a' z' = tt
first_same (word w) n a z n' a' z' = tt
first_same (number x) n a z n' a' z' = tt
first_same (string t) n a z n' a' z' = tt
first_same (sign k) n a z n' a' z' = tt
first_same (bad below) n a z n' a' z' = tt

onward_same : (b c : Start) (l : Lexeme) (n a z n' a' z' : ℕ) → SameStart b c → SameStart (onward l n a z b) (onward l n' a' z' c)
onward_same fresh fresh l n a z n' a' z' h = first_same l n a z n' a' z'
onward_same fresh (led w row from to) l n a z n' a' z' h = absurd h
onward_same fresh inside l n a z n' a' z' h = absurd h
onward_same (led v row from to) fresh l n a z n' a' z' h = absurd h
onward_same (led v row from to) (led w row' from' to') l n a z n' a' z' h = h
onward_same (led v row from to) inside l n a z n' a' z' h = absurd h
onward_same inside fresh l n a z n' a' z' h = absurd h
onward_same inside (led w row from to) l n a z n' a' z' h = absurd h
onward_same inside inside l n a z n' a' z' h = tt

first_early : (l : Lexeme) (n a z : ℕ) → is_early (first_onward l n a z) ≡ true
first_early (blank w) n a z = refl
first_early joined n a z = refl
first_early comment n a z = refl
first_early bad_comment n a z = refl
first_early feed n a z = refl
first_early (word w) n a z = refl
first_early (number x) n a z = refl
first_early (string t) n a z = refl
first_early (sign k) n a z = refl
first_early (bad below) n a z = refl

onward_early : (b : Start) (l : Lexeme) (n a z : ℕ) → is_early (onward l n a z b) ≡ is_early b
onward_early fresh l n a z = first_early l n a z
onward_early (led w row from to) l n a z = refl
onward_early inside l n a z = refl

-- ---- the end of a function's tokens

abbrev pub is_newline : Kind → Bool
is_newline newline = true
is_newline indent = false
is_newline dedent = false
is_newline (name x) = false
is_newline (integer z) = false
is_newline (quoted x) = false
is_newline (mark k) = false

abbrev pub is_dedent : Kind → Bool
is_dedent dedent = true
is_dedent newline = false
is_dedent indent = false
is_dedent (name x) = false
is_dedent (integer z) = false
is_dedent (quoted x) = false
is_dedent (mark k) = false

abbrev pub all_dedents : List Token → Bool
all_dedents [] = true
all_dedents (t ∷ ts) = is_dedent t.kind && all_dedents ts

-- the end of its last line, and of its blocks
abbrev pub is_tail : List Token → Bool
is_tail [] = false
is_tail (t ∷ ts) = is_newline t.kind && all_dedents ts

-- at the begin of a line, or inside one
abbrev pub tail_by : Bool → List Token → Bool
tail_by true own = all_dedents own
tail_by false own = is_tail own

abbrev pub Fits : Bool → List Mark → List Token → ℕ → Type 0
Fits true ms own n = (ms ≡ []) × (is_rest own [] n ≡ true) × (n ≡ 0 → begins_block own ≡ true)
Fits false ms own n = is_rest own ms n ≡ true

pub both : (a b : Bool) → (a && b) ≡ true → (a ≡ true) × (b ≡ true)
both true b h = (refl, h)
both false b h = absurd cc

pub dedent_is : (k : Kind) → is_dedent k ≡ true → k ≡ dedent
dedent_is dedent h = refl
dedent_is newline h = absurd cc
dedent_is indent h = absurd cc
dedent_is (name x) h = absurd cc
dedent_is (integer z) h = absurd cc
dedent_is (quoted x) h = absurd cc
dedent_is (mark k) h = absurd cc

pub newline_is : (k : Kind) → is_newline k ≡ true → k ≡ newline
newline_is newline h = refl
newline_is dedent h = absurd cc
newline_is indent h = absurd cc
newline_is (name x) h = absurd cc
newline_is (integer z) h = absurd cc
newline_is (quoted x) h = absurd cc
newline_is (mark k) h = absurd cc

pub absurd_bool : true ≡ false → ⊥
absurd_bool h = cc

pub first_token : (t u : Token) (ts us : List Token) → t ∷ ts ≡ u ∷ us → t ≡ u
first_token t u ts us h = ap (λ (v : List Token). head v) h
  where
    head : List Token → Token
    head [] = t
    head (x ∷ xs) = x

pub rest_tokens : (t u : Token) (ts us : List Token) → t ∷ ts ≡ u ∷ us → ts ≡ us
rest_tokens t u ts us h = ap (λ (v : List Token). tail v) h
  where
    tail : List Token → List Token
    tail [] = []
    tail (x ∷ xs) = xs

-- what is left of the text's dedents
pub copies_split : (n : ℕ) (line at : ℕ) (own after : List Token) → replicate n (token dedent line at at) ≡ own ++ after → all_dedents own ≡ true
copies_split n line at [] after h = refl
copies_split zero line at (t ∷ own) after h = absurd cc
copies_split (suc n) line at (t ∷ own) after h =
    let k : t.kind ≡ dedent = ap (λ (t : Token). t.kind) (sym (first_token (token dedent line at at) t _ (own ++ after) h)) in
    ap (λ k. is_dedent k && all_dedents own) k ∙ copies_split n line at own after (rest_tokens (token dedent line at at) t _ (own ++ after) h)

-- so many dedents stand at the end as blocks are open
dedents_count : (d : ℕ) (own : List Token) (n : ℕ) (at : End) → all_dedents own ≡ true → line_ended n own (is_rest own [] n) ≡ true → TokensMoved d own (replicate n (token dedent at.0 at.1 at.1))
dedents_count d [] zero at h k = tt
dedents_count d [] (suc n) at h k = absurd (absurd_bool (sym k))
dedents_count d (t ∷ own) zero at h k =
    absurd (absurd_bool (sym k ∙ ap (λ k. cond (is_indent k) (is_rest (t ∷ own) [] 0) false) (dedent_is t.kind (both _ _ h).0)))
dedents_count d (t ∷ own) (suc n) at h k =
    let is : t.kind ≡ dedent = dedent_is t.kind (both _ _ h).0 in (
      (is, λ apart. absurd (absurd_bool (sym (ap is_layout is) ∙ apart))),
      dedents_count d own n at (both _ _ h).1 (sym (ap (λ k. taken k [] (suc n) own (λ bs n. is_rest own bs n)) is) ∙ k),
    )

tail_layout : (e : ℕ) (own : List Token) → all_dedents own ≡ true → end_after e own ≡ e
tail_layout e [] h = refl
tail_layout e (t ∷ own) h = ap (λ k. end_after (cond (is_layout k) e t.end) own) (dedent_is t.kind (both _ _ h).0) ∙ tail_layout e own (both _ _ h).1

-- ---- what is to be shown

abbrev pub last_end : Item → List Item → ℕ
last_end i [] = i.end
last_end i (j ∷ js) = last_end j js

-- The first of these pieces give the function's tokens, and so do the same pieces by themselves, so many bytes earlier. The last of them is the function's last token.
pub record Alone (d : ℕ) (b : Start) (ms : List Mark) (us : List (List ℕ)) (is : List Item) (own : List Token) : Type 0 where
  pub first : Item
  pub others : List Item
  pub behind : List Item
  pub whole : is ≡ first ∷ (others ++ behind)
  pub last : (e : ℕ) → end_after e own ≡ last_end first others
  pub alone : (at : End) (c : Start) (js : List Item) → SameStart b c → AllMoved d (first ∷ others) js → (ts : List Token) × Emits at c ms us js ts × TokensMoved d own ts

-- The indentations in the text are those in the function over others.
abbrev pub Goal : ℕ → Start → List Mark → List (List ℕ) → List Item → List Token → Type 0
Goal d b ms ws is ts = (us vs : List (List ℕ)) (own after : List Token) → ws ≡ us ++ vs → ts ≡ own ++ after → Fits (is_early b) ms own (length us) → tail_by (is_early b) own ≡ false → Alone d b ms us is own

-- ---- pieces that give nothing

module _ (d : ℕ) where
  -- one piece more before the others
  onto : (b b' : Start) (ms ms' : List Mark) (us us' : List (List ℕ)) (i : Item) (is : List Item) (own own' : List Token) → (s : Alone d b' ms' us' is own')
      → ((e : ℕ) → end_after e own ≡ last_end s.first s.others)
      → ((at : End) (c : Start) (j : Item) (js : List Item) → SameStart b c → Moved d i j → AllMoved d (s.first ∷ s.others) js → (ts : List Token) × Emits at c ms us (j ∷ js) ts × TokensMoved d own ts)
      → Alone d b ms us (i ∷ is) own
  onto b b' ms ms' us us' i is own own' s last alone = record {
    first = i;
    others = s.first ∷ s.others;
    behind = s.behind;
    whole = ap (λ (v : List Item). i ∷ v) s.whole;
    last = last;
    alone = λ at c js same moved. go at c js same moved;
  }
    where
      go : (at : End) (c : Start) (js : List Item) → SameStart b c → AllMoved d (i ∷ s.first ∷ s.others) js → (ts : List Token) × Emits at c ms us js ts × TokensMoved d own ts
      go at c [] same moved = absurd moved
      go at c (j ∷ js) same moved = alone at c j js same moved.0 moved.1

  pub quiet_case : (b : Start) (ms : List Mark) (ws : List (List ℕ)) (i : Item) (is : List Item) (ts : List Token) → is_quiet i.what ≡ true → Goal d (onward i.what i.line i.start i.end b) ms ws is ts → Goal d b ms ws (i ∷ is) ts
  quiet_case b ms ws i is ts q next us vs own after e f h k =
      let b' = onward i.what i.line i.start i.end b in
      let same : is_early b' ≡ is_early b = onward_early b i.what i.line i.start i.end in
      let s = next us vs own after e f (subst (λ v. Fits v ms own (length us)) (sym same) h) (ap (λ v. tail_by v own) same ∙ k) in
      onto b b' ms ms us us i is own own s s.last (λ at c j js start moved rest.
      (let start' : SameStart b' (onward j.what j.line j.start j.end c) =
      subst (λ l. SameStart b' (onward l j.line j.start j.end c)) moved.0 (onward_same b c i.what i.line i.start i.end j.line j.start j.end start) in
      let r = s.alone at (onward j.what j.line j.start j.end c) js start' rest in
      (r.0, emits.quiet (sym (ap is_quiet moved.0) ∙ q) r.1, r.2)))

  pub empty_line_case : (b : Start) (ms : List Mark) (ws : List (List ℕ)) (i : Item) (is : List Item) (ts : List Token) → is_early b ≡ true → i.what ≡ feed → Goal d fresh ms ws is ts → Goal d b ms ws (i ∷ is) ts
  empty_line_case b ms ws i is ts q w next us vs own after e f h k =
      let s = next us vs own after e f (subst (λ v. Fits v ms own (length us)) q h) (sym (ap (λ v. tail_by v own) q) ∙ k) in
      onto b fresh ms ms us us i is own own s s.last (λ at c j js start moved rest.
      (let r = s.alone at fresh js tt rest in
      (r.0, emits.empty_line (sym (same_early b c start) ∙ q) (sym moved.0 ∙ w) r.1, r.2)))

  inside_is : (c : Start) → SameStart inside c → c ≡ inside
  inside_is fresh h = absurd h
  inside_is (led w row from to) h = absurd h
  inside_is inside h = refl

  pub new_line_case : (o : Mark) (bs : List Mark) (ws : List (List ℕ)) (i : Item) (is : List Item) (ts : List Token) → i.what ≡ feed → Goal d inside (o ∷ bs) ws is ts → Goal d inside (o ∷ bs) ws (i ∷ is) ts
  new_line_case o bs ws i is ts w next us vs own after e f h k =
      let s = next us vs own after e f h k in
      onto inside inside (o ∷ bs) (o ∷ bs) us us i is own own s s.last (λ at c j js start moved rest.
      (let r = s.alone at inside js tt rest in
      (r.0, subst (λ c. Emits at c (o ∷ bs) us (j ∷ js) r.0) (sym (inside_is c start)) (emits.new_line (sym moved.0 ∙ w) r.1), r.2)))

  -- ---- the end of a line

  newline_rest : (t : Token) (own : List Token) (n : ℕ) → t.kind ≡ newline → is_rest (t ∷ own) [] n ≡ line_ended n own (is_rest own [] n)
  newline_rest t own n h = ap (λ k. taken k [] n own (λ bs n. is_rest own bs n)) h

  newline_tail : (t : Token) (own : List Token) → t.kind ≡ newline → is_tail (t ∷ own) ≡ all_dedents own
  newline_tail t own h = ap (λ k. is_newline k && all_dedents own) h

  -- The function goes on behind the line.
  goes_on : (own : List Token) (n : ℕ) → line_ended n own (is_rest own [] n) ≡ true → all_dedents own ≡ false → (is_rest own [] n ≡ true) × (n ≡ 0 → begins_block own ≡ true)
  goes_on [] n h k = absurd (absurd_bool k)
  goes_on (t ∷ own) zero h k = let p = go (is_indent t.kind) refl h in (p.0, λ _. p.1)
    where
      go : (b : Bool) → is_indent t.kind ≡ b → cond b (is_rest (t ∷ own) [] 0) false ≡ true → (is_rest (t ∷ own) [] 0 ≡ true) × (is_indent t.kind ≡ true)
      go true q h = (h, q)
      go false q h = absurd (absurd_bool (sym h))
  goes_on (t ∷ own) (suc n) h k = (h, λ q. absurd cc)

  pub ends_case : (ws : List (List ℕ)) (i : Item) (is : List Item) (ts : List Token) → i.what ≡ feed → Goal d fresh [] ws is ts → Goal d inside [] ws (i ∷ is) (token_at newline i ∷ ts)
  ends_case ws i is ts w next us vs [] after e f h k = absurd (absurd_bool (sym h))
  ends_case ws i is ts w next us vs (t ∷ own) after e f h k =
      let q : t.kind ≡ newline = ap (λ (t : Token). t.kind) (sym (first_token (token_at newline i) t ts (own ++ after) f)) in
      let g = goes_on own (length us) (sym (newline_rest t own (length us) q) ∙ h) (sym (newline_tail t own q) ∙ k) in
      let s = next us vs own after e (rest_tokens (token_at newline i) t ts (own ++ after) f) (refl, g.0, g.1) (sym (newline_tail t own q) ∙ k) in
      onto inside fresh [] [] us us i is (t ∷ own) own s (λ e. ap (λ k. end_after (cond (is_layout k) e t.end) own) q ∙ s.last e) (λ at c j js start moved rest.
      (let r = s.alone at fresh js tt rest in (
        token_at newline j ∷ r.0,
        subst (λ c. Emits at c [] us (j ∷ js) (token_at newline j ∷ r.0)) (sym (inside_is c start)) (emits.ends (sym moved.0 ∙ w) r.1),
        ((q, λ apart. absurd (absurd_bool (sym (ap is_layout q) ∙ apart))), r.2),
      )))

-- ---- tokens

-- a token that is no bracket
abbrev pub IsValue : Kind → Type 0
IsValue k = (is_layout k ≡ false) × ((bs : List Mark) (n : ℕ) (ts : List Token) (rest : List Mark → ℕ → Bool) → taken k bs n ts rest ≡ rest bs n)

plain_mark : Mark → Bool
plain_mark k = if is_opening k then false else if is_closing k then false else true

all_plain : List Spelled → Bool
all_plain [] = true
all_plain (s ∷ ss) = plain_mark s.1 && all_plain ss

reserved_plain : all_plain reserved_marks ≡ true
unfolding all_plain plain_mark reserved_marks
reserved_plain = refl

plain_is : (k : Mark) → plain_mark k ≡ true → IsPlain k
unfolding plain_mark
plain_is k h = go (is_opening k) (is_closing k) refl refl h
  where
    go : (a b : Bool) → is_opening k ≡ a → is_closing k ≡ b → cond a false (cond b false true) ≡ true → IsPlain k
    go true b p q h = absurd (absurd_bool (sym h))
    go false true p q h = absurd (absurd_bool (sym h))
    go false false p q h = (p, q)

same_mark : (k j : Mark) → Some k ≡ Some j → k ≡ j
same_mark k j h = cc

among_plain : (ss : List Spelled) (w : List ℕ) (k : Mark) → all_plain ss ≡ true → mark_among ss w ≡ Some k → IsPlain k
unfolding all_plain
among_plain [] w k h e = absurd cc
among_plain (s ∷ ss) w k h e = go (bytes_eq w s.0) e (among_plain ss w k (both _ _ h).1)
  where
    go : (b : Bool) → cond b (Some s.1) (mark_among ss w) ≡ Some k → (mark_among ss w ≡ Some k → IsPlain k) → IsPlain k
    go true e next = subst IsPlain (same_mark s.1 k e) (plain_is s.1 (both _ _ h).0)
    go false e next = next e

mark_value : (k : Mark) → IsPlain k → IsValue (mark k)
mark_value k h = (refl, λ bs n ts rest. marked_plain k bs (λ bs. rest bs n) h)

word_value : (w : List ℕ) (o : Option Mark) → ((k : Mark) → o ≡ Some k → IsPlain k) → IsValue (word_or w o)
word_value w None h = (refl, λ bs n ts rest. refl)
word_value w (Some k) h = mark_value k (h k refl)

some_kind : (x y : Kind) → Some x ≡ Some y → x ≡ y
some_kind x y q = cc

pub value_is : (l : Lexeme) (k : Kind) → value l ≡ Some k → IsValue k
value_is (word w) k h = subst IsValue (some_kind _ k h) (word_value w (mark_among reserved_marks w) (λ k e. among_plain reserved_marks w k reserved_plain e))
value_is (number z) k h = subst IsValue (some_kind _ k h) (refl, λ bs n ts rest. refl)
value_is (string t) k h = subst IsValue (some_kind _ k h) (refl, λ bs n ts rest. refl)
value_is (sign s) k h = let p = plain_sign s k h in subst IsValue p.2 (mark_value s (p.0, p.1))
value_is (blank w) k h = absurd cc
value_is comment k h = absurd cc
value_is joined k h = absurd cc
value_is feed k h = absurd cc
value_is bad_comment k h = absurd cc
value_is (bad below) k h = absurd cc

-- what is left at the end of a function's last line
tail_moved : (d : ℕ) (ms : List Mark) (own : List Token) (n : ℕ) (at : End) → is_tail own ≡ true → is_rest own ms n ≡ true
    → (ms ≡ []) × TokensMoved d own (token newline at.0 at.1 at.1 ∷ replicate n (token dedent at.0 at.1 at.1))
tail_moved d ms [] n at h k = absurd (absurd_bool (sym h))
tail_moved d ms (t ∷ own) n at h k =
    let q = newline_is t.kind (both _ _ h).0 in
    let p = closed ms (sym (ap (λ k. taken k ms n own (λ bs n. is_rest own bs n)) q) ∙ k) in
    (p.0, ((q, λ apart. absurd (absurd_bool (sym (ap is_layout q) ∙ apart))), dedents_count d own n at (both _ _ h).1 p.1))
  where
    closed : (ms : List Mark) → taken newline ms n own (λ bs n. is_rest own bs n) ≡ true → (ms ≡ []) × (line_ended n own (is_rest own [] n) ≡ true)
    closed [] h = (refl, h)
    closed (b ∷ bs) h = absurd (absurd_bool (sym h))

tail_after : (e : ℕ) (own : List Token) → is_tail own ≡ true → end_after e own ≡ e
tail_after e [] h = refl
tail_after e (t ∷ own) h = ap (λ k. end_after (cond (is_layout k) e t.end) own) (newline_is t.kind (both _ _ h).0) ∙ tail_layout e own (both _ _ h).1

module _ (d : ℕ) where
  -- A piece gives a token, with such brackets open before and after it.
  token_case : (k : Kind) (ms ms' : List Mark) (ws : List (List ℕ)) (i : Item) (is : List Item) (ts : List Token) → is_layout k ≡ false
      → ((own : List Token) (n : ℕ) → taken k ms n own (λ bs n. is_rest own bs n) ≡ true → is_rest own ms' n ≡ true)
      → ((at : End) (j : Item) (js : List Item) (us : List (List ℕ)) (ts : List Token) → i.what ≡ j.what → Emits at inside ms' us js ts → Emits at inside ms us (j ∷ js) (token_at k j ∷ ts))
      → Goal d inside ms' ws is ts → Goal d inside ms ws (i ∷ is) (token_at k i ∷ ts)
  token_case k ms ms' ws i is ts apart rest make next us vs [] after e f h q = absurd (absurd_bool (sym h))
  token_case k ms ms' ws i is ts apart rest make next us vs (t ∷ own) after e f h q = go (is_tail own) refl
    where
      is_it : t ≡ token_at k i
      is_it = sym (first_token (token_at k i) t ts (own ++ after) f)

      kind_is : t.kind ≡ k
      kind_is = ap (λ (t : Token). t.kind) is_it

      here : is_rest own ms' (length us) ≡ true
      here = rest own (length us) (sym (ap (λ k. taken k ms (length us) own (λ bs n. is_rest own bs n)) kind_is) ∙ h)

      last_of : (e : ℕ) → end_after e (t ∷ own) ≡ end_after i.end own
      last_of e = ap (λ k. end_after (cond (is_layout k) e t.end) own) kind_is ∙ ap (λ b. end_after (cond b e t.end) own) apart ∙ ap (λ (t : Token). end_after t.end own) is_it

      moved_token : (j : Item) → Moved d i j → TokenMoved d t (token_at k j)
      moved_token j m = (kind_is, λ _. ap (λ (t : Token). t.end) is_it ∙ m.1)

      only : (at : End) (c : Start) (js : List Item) → is_tail own ≡ true → SameStart inside c → AllMoved d (i ∷ []) js → (ts : List Token) × Emits at c ms us js ts × TokensMoved d (t ∷ own) ts
      only at c [] b same moved = absurd moved
      only at c (j ∷ j' ∷ js) b same moved = absurd moved.1
      only at c (j ∷ []) b same moved =
          let p = tail_moved d ms' own (length us) at b here in
          let end = token newline at.0 at.1 at.1 ∷ replicate (length us) (token dedent at.0 at.1 at.1) in (
            token_at k j ∷ end,
            subst (λ c. Emits at c ms us (j ∷ []) (token_at k j ∷ end)) (sym (inside_is d c same)) (make at j [] us end moved.0.0 (subst (λ m. Emits at inside m us [] end) (sym p.0) emits.stop_inside)),
            (moved_token j moved.0, p.1),
          )

      go : (b : Bool) → is_tail own ≡ b → Alone d inside ms us (i ∷ is) (t ∷ own)
      go true b = record {
        first = i;
        others = [];
        behind = is;
        whole = refl;
        last = λ e. last_of e ∙ tail_after i.end own b;
        alone = λ at c js same moved. only at c js b same moved;
      }
      go false b =
          let s = next us vs own after e (rest_tokens (token_at k i) t ts (own ++ after) f) here b in
          onto d inside inside ms ms' us us i is (t ∷ own) own s (λ e. last_of e ∙ s.last i.end) (λ at c j js start moved rest.
          (let r = s.alone at inside js tt rest in
          (token_at k j ∷ r.0, subst (λ c. Emits at c ms us (j ∷ js) (token_at k j ∷ r.0)) (sym (inside_is d c start)) (make at j js us r.0 moved.0 r.1), (moved_token j moved, r.2))))

  pub one_case : (k : Kind) (ms : List Mark) (ws : List (List ℕ)) (i : Item) (is : List Item) (ts : List Token) → value i.what ≡ Some k → Goal d inside ms ws is ts → Goal d inside ms ws (i ∷ is) (token_at k i ∷ ts)
  one_case k ms ws i is ts v next =
      let p = value_is i.what k v in
      token_case k ms ms ws i is ts p.0 (λ own n h. sym (p.1 ms n own (λ bs n. is_rest own bs n)) ∙ h) (λ at j js us ts w t. emits.one (sym (ap value w) ∙ v) t) next

  pub open_case : (o : Mark) (ms : List Mark) (ws : List (List ℕ)) (i : Item) (is : List Item) (ts : List Token) → i.what ≡ sign o → is_opening o ≡ true → Goal d inside (o ∷ ms) ws is ts
      → Goal d inside ms ws (i ∷ is) (token_at (mark o) i ∷ ts)
  open_case o ms ws i is ts v b next =
      token_case (mark o) ms (o ∷ ms) ws i is ts refl
      (λ own n h. sym (ap (λ b. cond b (is_rest own (o ∷ ms) n) (cond (is_closing o) (closed_by o ms (λ bs. is_rest own bs n)) (is_rest own ms n))) b) ∙ h)
      (λ at j js us ts w t. emits.opening (sym w ∙ v) b t) next

  pub close_case : (o c : Mark) (ms : List Mark) (ws : List (List ℕ)) (i : Item) (is : List Item) (ts : List Token) → i.what ≡ sign c → closes o c ≡ true → Goal d inside ms ws is ts
      → Goal d inside (o ∷ ms) ws (i ∷ is) (token_at (mark c) i ∷ ts)
  close_case o c ms ws i is ts v b next =
      let p = closing_mark o c b in
      token_case (mark c) (o ∷ ms) ms ws i is ts refl
      (λ own n h. sym (ap (λ b. cond b (is_rest own (c ∷ o ∷ ms) n) (cond (is_closing c) (cond (closes o c) (is_rest own ms n) false) (is_rest own (o ∷ ms) n))) p.0
      ∙ ap (λ b. cond b (cond (closes o c) (is_rest own ms n) false) (is_rest own (o ∷ ms) n)) p.1 ∙ ap (λ b. cond b (is_rest own ms n) false) b) ∙ h)
      (λ at j js us ts w t. emits.closing (sym w ∙ v) b t) next
