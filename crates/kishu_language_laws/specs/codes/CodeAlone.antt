-- The tokens of a function are those of its code alone, but for the places and the lines.
use Rattle.std.proofs.Common.{◌≡◌, ℕ, ◌+◌, Bool, true, false, cond, ◌&&◌, List, [], ◌∷◌, ◌++◌, refl, sym, ap, subst, ◌∙◌, arith}
use Rattle.std.specs.Prelude.{Ok}
use Rattle.kishu_language.specs.declared.token.Mark.{Mark}
use Rattle.kishu_language.specs.tokens.Layout.{Token, Item, End, Start, fresh, inside, width, cut, cut_from, end_of, layout}
use Rattle.kishu_language.specs.rules.LineRules as r
use Rattle.kishu_language.specs.rules.LineRules.{begins, token_at}
use Rattle.kishu_language.specs.trees.Code.{is_layout, begin_of, end_after}
use Rattle.kishu_language_laws.specs.staying.Carries.{kinds_of}
use Rattle.kishu_language_laws.specs.codes.CodeTokens.{is_rest}
use Rattle.kishu_language_laws.specs.codes.Emits.{Emits}
use Rattle.kishu_language_laws.specs.codes.Emits as emits
use Rattle.kishu_language_laws.specs.codes.EmitsLayout.{emits_of, layout_of}
use Rattle.kishu_language_laws.specs.codes.CodeLayout.{AllMoved, TokensMoved, Alone, last_end, all_dedents}
use Rattle.kishu_language_laws.specs.codes.CodeLines.{alone, newline_layout, what_is, quiet_apart, feed_apart, early_apart}
use Rattle.kishu_language_laws.specs.codes.CodeFind.{Found, find, none_open}
use Rattle.kishu_language_laws.specs.codes.CodeCut.{NoFaults, no_faults, faults_behind, faults_before, Behind, cut_behind, Code, cut_alone, last_place}

-- ---- tokens further on

pub same_kinds : (d : ℕ) (ts us : List Token) → TokensMoved d ts us → kinds_of ts ≡ kinds_of us
same_kinds d [] [] h = refl
same_kinds d [] (u ∷ us) h = absurd h
same_kinds d (t ∷ ts) [] h = absurd h
same_kinds d (t ∷ ts) (u ∷ us) h = (λ i. h.0.0 i ∷ same_kinds d ts us h.1 i)

moved_end : (d : ℕ) (ts us : List Token) (a b : ℕ) → TokensMoved d ts us → a ≡ d + b → end_after a ts ≡ d + end_after b us
moved_end d [] [] a b h e = e
moved_end d [] (u ∷ us) a b h e = absurd h
moved_end d (t ∷ ts) [] a b h e = absurd h
moved_end d (t ∷ ts) (u ∷ us) a b h e = go (is_layout t.kind) refl (λ a b e. moved_end d ts us a b h.1 e)
  where
    go : (p : Bool) → is_layout t.kind ≡ p → ((a b : ℕ) → a ≡ d + b → end_after a ts ≡ d + end_after b us) → end_after a (t ∷ ts) ≡ d + end_after b (u ∷ us)
    go p k next =
        let other : is_layout u.kind ≡ p = ap is_layout (sym h.0.0) ∙ k in
        ap (λ v. end_after (cond v a t.end) ts) k ∙ next (cond p a t.end) (cond p b u.end) (ends p k) ∙ ap (λ v. d + end_after (cond v b u.end) us) (sym other)
      where
        ends : (p : Bool) → is_layout t.kind ≡ p → cond p a t.end ≡ d + cond p b u.end
        ends true k = e
        ends false k = h.0.1 k

-- ---- the first piece

place_is : (i j : Item) (is rest : List Item) → j ∷ is ≡ i ∷ rest → j.start ≡ i.start
place_is i j is rest h = ap (λ (v : List Item). first v) h
  where
    first : List Item → ℕ
    first [] = j.start
    first (x ∷ xs) = x.start

-- It gives the first token.
first_at : {at : End} {b : Start} {ms : List Mark} {ws : List (List ℕ)} {is : List Item} {ts : List Token} → Emits at b ms ws is ts → b ≡ inside
    → (i : Item) (rest : List Item) → is ≡ i ∷ rest → begins i.what ≡ true → begin_of ts ≡ i.start
first_at (emits.stop h) q i rest w g = absurd cc
first_at emits.stop_inside q i rest w g = absurd cc
first_at (emits.quiet {i = j} {is = is} h t) q i rest w g = absurd (quiet_apart j.what (ap begins (what_is i j is rest w) ∙ g) h)
first_at (emits.empty_line {i = j} {is = is} h f t) q i rest w g = absurd (feed_apart j.what (ap begins (what_is i j is rest w) ∙ g) f)
first_at (emits.ends {i = j} {is = is} f t) q i rest w g = absurd (feed_apart j.what (ap begins (what_is i j is rest w) ∙ g) f)
first_at (emits.new_line {i = j} {is = is} f t) q i rest w g = absurd (feed_apart j.what (ap begins (what_is i j is rest w) ∙ g) f)
first_at (emits.one {i = j} {is = is} h t) q i rest w g = place_is i j is rest w
first_at (emits.opening {i = j} {is = is} f h t) q i rest w g = place_is i j is rest w
first_at (emits.closing {i = j} {is = is} f h t) q i rest w g = place_is i j is rest w
first_at (emits.starts {b = b} h g' n t) q i rest w g = absurd (early_apart b h q)

-- with it the code begins
from_begin : (at : End) (d : ℕ) (i : Item) (is js : List Item) (ts : List Token) → AllMoved d (i ∷ is) js → begins i.what ≡ true → Emits at inside [] [] js ts → Emits at fresh [] [] js ts
from_begin at d i is [] ts moved g h = absurd moved
from_begin at d i is (j ∷ js) ts moved g h = emits.starts refl (sym (ap begins moved.0.0) ∙ g) (r.equal refl) h

code_begin : (at : End) (d : ℕ) (i : Item) (is : List Item) (code : List ℕ) (ts : List Token) → AllMoved d (i ∷ is) (cut_from 0 1 0 code) → begins i.what ≡ true
    → Emits at inside [] [] (cut_from 0 1 0 code) ts → begin_of ts ≡ 0
code_begin at d i is [] ts moved g h = absurd moved
code_begin at d i is (c ∷ cs) ts moved g h = first_at h refl _ _ refl (sym (ap begins moved.0.0) ∙ g)

place_in : (i : Item) (is : List Item) (line start : ℕ) (text : List ℕ) → i ∷ is ≡ cut_from 0 line start text → i.start ≡ start
place_in i is line start [] e = absurd cc
place_in i is line start (c ∷ cs) e = ap first e
  where
    first : List Item → ℕ
    first [] = i.start
    first (x ∷ xs) = x.start

last_is : (i : Item) (is : List Item) → last_end i is ≡ last_place i.end is
last_is i [] = refl
last_is i (j ∷ is) = last_is j is

first_what : (i j : Item) (is js : List Item) → i ∷ is ≡ j ∷ js → i.what ≡ j.what
first_what i j is js e = what_is j i is js e

-- ---- the code

-- The tokens are those of a part of the text, by itself.
pub record ByItself (cs : List ℕ) (own : List Token) : Type 0 where
  pub front : List ℕ
  pub code : List ℕ
  pub back : List ℕ
  pub whole : cs ≡ front ++ (code ++ back)
  pub first : begin_of own ≡ width front
  pub last : end_after 0 own ≡ width front + width code
  pub tokens : List Token
  pub read : layout code ≡ Ok tokens
  pub kinds : kinds_of own ≡ kinds_of tokens
  pub code_first : begin_of tokens ≡ 0
  pub code_last : end_after 0 tokens ≡ width code

module _ (cs : List ℕ) (t : Token) (own after : List Token) (apart : is_layout t.kind ≡ false) (rest : is_rest (t ∷ own) [] 0 ≡ true) where
  -- from the function's first piece on
  alone_from : {at : End} (d : ℕ) (f : Found at (cut_from 0 1 0 cs) t (own ++ after)) → Alone d inside [] [] (f.item ∷ f.others) (t ∷ own)
  alone_from {at = at} d f =
      let none : f.brackets ≡ [] = none_open f.emits refl [] f.brackets (t ∷ own) after 0 refl refl rest in
      alone d (subst (λ (m : List Mark). Emits at inside m f.indents (f.item ∷ f.others) (t ∷ (own ++ after))) none f.emits) [] f.indents (t ∷ own) after refl refl rest
      (ap (λ b. b && all_dedents own) (newline_layout t.kind apart))

  by_itself_from : {at : End} (f : Found at (cut_from 0 1 0 cs) t (own ++ after)) → NoFaults (cut_from 0 1 0 cs) → (b : Behind 1 0 cs (f.item ∷ f.others)) → (a : Alone (width b.front) inside [] [] (f.item ∷ f.others) (t ∷ own))
      → (c : Code b.next_line b.next_start b.back (a.first ∷ a.others) a.behind) → ByItself cs (t ∷ own)
  unfolding cut
  by_itself_from f good b a c =
      let d = width b.front in
      let moved : AllMoved d (a.first ∷ a.others) (cut_from 0 1 0 c.code) = c.alone d 1 0 (omega (arith, b.place)) in
      let x = a.alone (end_of 1 0 c.code) inside (cut_from 0 1 0 c.code) tt moved in
      let begun : begins a.first.what ≡ true = ap begins (sym (first_what f.item a.first f.others (a.others ++ a.behind) a.whole)) ∙ f.begun in
      let place : f.item.start ≡ b.next_start = place_in f.item f.others b.next_line b.next_start b.back b.is_rest in
      let ended : end_after 0 (t ∷ own) ≡ b.next_start + width c.code = a.last 0 ∙ last_is a.first a.others ∙ sym c.last in
      let none : 0 + width b.front ≡ width b.front = omega arith in
      let start : b.next_start ≡ width b.front = b.place ∙ none in
      let last : end_after 0 (t ∷ own) ≡ width b.front + width c.code = ended ∙ ap (λ n. n + width c.code) start in
      let moved_last : end_after d (t ∷ own) ≡ d + end_after 0 x.0 = moved_end d (t ∷ own) x.0 d 0 x.2 (omega arith) in
      let same : end_after d (t ∷ own) ≡ end_after 0 (t ∷ own) = a.last d ∙ sym (a.last 0) in
      record {
        front = b.front;
        code = c.code;
        back = c.rest;
        whole = b.whole ∙ ap (λ (v : List ℕ). b.front ++ v) c.whole;
        first = f.start ∙ place ∙ start;
        last = last;
        tokens = x.0;
        read = layout_of c.code x.0 (from_begin (end_of 1 0 c.code) d a.first a.others (cut_from 0 1 0 c.code) x.0 moved begun x.1);
        kinds = same_kinds d (t ∷ own) x.0 x.2;
        code_first = code_begin (end_of 1 0 c.code) d a.first a.others c.code x.0 moved begun x.1;
        code_last = omega (arith, moved_last, same, last);
      }

  pub by_itself : (ts before : List Token) → layout cs ≡ Ok ts → ts ≡ before ++ (t ∷ (own ++ after)) → ByItself cs (t ∷ own)
  unfolding cut
  by_itself ts before h e =
      let all = emits_of cs ts h in
      let f = find all before (own ++ after) t e apart in
      let b = cut_behind f.ahead (f.item ∷ f.others) 1 0 cs f.whole in
      let a = alone_from (width b.front) f in
      let good = no_faults all in
      let from_here : NoFaults (f.item ∷ f.others) = faults_behind f.ahead (f.item ∷ f.others) (subst (λ (v : List Item). NoFaults v) f.whole good) in
      let own_good : NoFaults (a.first ∷ a.others) = faults_before (a.first ∷ a.others) a.behind (subst (λ (v : List Item). NoFaults v) a.whole from_here) in
      by_itself_from f good b a (cut_alone (a.first ∷ a.others) a.behind b.next_line b.next_start b.back (sym b.is_rest ∙ a.whole) own_good)
