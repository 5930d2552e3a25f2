-- A text is cut into the same pieces where it ends behind one of them, and where it begins with one.
use Rattle.std.proofs.Common.{◌≡◌, ℕ, zero, suc, ◌+◌, ◌-◌, ◌<◌, ◌≤◌, Bool, true, false, List, [], ◌∷◌, ◌++◌, length, take, drop, Some, refl, sym, ap, subst, ◌∙◌, arith, append_assoc}
use Rattle.std.proofs.lemmas.Bool.Decides.{nat_tests}
use Rattle.std.proofs.lemmas.List.{append-nil, take-append-drop, take-append-le}
use Rattle.std.proofs.lemmas.List.Sums.{sum_by-append}
use Rattle.std.specs.Prelude.{nat_le}
use Rattle.std.specs.Char.{len_utf8}
use Rattle.kishu_language.specs.declared.token.Mark.{Mark}
use Rattle.kishu_language.specs.tokens.Lexemes.{Lexeme, blank, comment, bad_comment, joined, feed, word, number, string, sign, bad, lexeme, feeds}
use Rattle.kishu_language.specs.tokens.Layout.{Kind, Item, Token, End, Start, width, cut_from}
use Rattle.kishu_language.specs.rules.LineRules.{is_quiet, value}
use Rattle.kishu_language_laws.specs.codes.Emits.{Emits}
use Rattle.kishu_language_laws.specs.codes.Emits as emits
use Rattle.kishu_language_laws.specs.codes.CodeLayout.{Moved, AllMoved}
use Rattle.kishu_token_laws.specs.PieceLengths.{some_taken}
use Rattle.kishu_language_laws.specs.staying.CutShort.{is_fault}
use Rattle.kishu_language_laws.specs.staying.PiecesShort.{piece_alone}

-- ---- pieces that are no faults

abbrev pub NoFaults : List Item → Type 0
NoFaults [] = Unit {0}
NoFaults (i ∷ is) = (is_fault i.what ≡ false) × NoFaults is

quiet_good : (l : Lexeme) → is_quiet l ≡ true → is_fault l ≡ false
quiet_good (blank w) h = refl
quiet_good comment h = refl
quiet_good joined h = refl
quiet_good feed h = refl
quiet_good (word w) h = refl
quiet_good (number z) h = refl
quiet_good (string t) h = refl
quiet_good (sign k) h = refl
quiet_good bad_comment h = refl
quiet_good (bad below) h = sym h

value_good : (l : Lexeme) (k : Kind) → value l ≡ Some k → is_fault l ≡ false
value_good (blank w) k h = refl
value_good comment k h = refl
value_good joined k h = refl
value_good feed k h = refl
value_good (word w) k h = refl
value_good (number z) k h = refl
value_good (string t) k h = refl
value_good (sign s) k h = refl
value_good bad_comment k h = refl
value_good (bad below) k h = absurd cc

-- A text with tokens has none.
pub no_faults : {at : End} {b : Start} {ms : List Mark} {ws : List (List ℕ)} {is : List Item} {ts : List Token} → Emits at b ms ws is ts → NoFaults is
no_faults (emits.stop h) = tt
no_faults emits.stop_inside = tt
no_faults (emits.quiet {i = i} h s) = (quiet_good i.what h, no_faults s)
no_faults (emits.empty_line h f s) = (ap is_fault f, no_faults s)
no_faults (emits.ends f s) = (ap is_fault f, no_faults s)
no_faults (emits.new_line f s) = (ap is_fault f, no_faults s)
no_faults (emits.one {k = k} {i = i} h s) = (value_good i.what k h, no_faults s)
no_faults (emits.opening w h s) = (ap is_fault w, no_faults s)
no_faults (emits.closing w h s) = (ap is_fault w, no_faults s)
no_faults (emits.starts h g n s) = no_faults s

pub faults_behind : (ahead rest : List Item) → NoFaults (ahead ++ rest) → NoFaults rest
faults_behind [] rest h = h
faults_behind (i ∷ ahead) rest h = faults_behind ahead rest h.1

pub faults_before : (ahead rest : List Item) → NoFaults (ahead ++ rest) → NoFaults ahead
faults_before [] rest h = tt
faults_before (i ∷ ahead) rest h = (h.0, faults_before ahead rest h.1)

-- ---- the first piece, and the rest

cut_drop : (k line start : ℕ) (z : List ℕ) → cut_from k line start z ≡ cut_from 0 line start (drop k z)
cut_drop zero line start z = refl
cut_drop (suc k) line start [] = refl
cut_drop (suc k) line start (c ∷ z) = cut_drop k line start z

abbrev next_line : ℕ → List ℕ → ℕ
next_line line text = line + feeds (take (lexeme text).1 text)

abbrev next_place : ℕ → List ℕ → ℕ
next_place start text = start + width (take (lexeme text).1 text)

abbrev first_item : ℕ → ℕ → List ℕ → Item
first_item line start text = record { what = (lexeme text).0; line = line; start = start; end = next_place start text }

cut_first : (line start c : ℕ) (z : List ℕ)
    → cut_from 0 line start (c ∷ z) ≡ first_item line start (c ∷ z) ∷ cut_from 0 (next_line line (c ∷ z)) (next_place start (c ∷ z)) (drop ((lexeme (c ∷ z)).1 - 1) z)
cut_first line start c z =
    ap (λ (is : List Item). first_item line start (c ∷ z) ∷ is) (cut_drop ((lexeme (c ∷ z)).1 - 1) (next_line line (c ∷ z)) (next_place start (c ∷ z)) z)

first_of : (i j : Item) (is js : List Item) → i ∷ is ≡ j ∷ js → i ≡ j
first_of i j is js h = ap (λ (v : List Item). head v) h
  where
    head : List Item → Item
    head [] = i
    head (x ∷ xs) = x

rest_of : (i j : Item) (is js : List Item) → i ∷ is ≡ j ∷ js → is ≡ js
rest_of i j is js h = ap (λ (v : List Item). tail v) h
  where
    tail : List Item → List Item
    tail [] = []
    tail (x ∷ xs) = xs

no_items : (i : Item) (is : List Item) → [] ≡ i ∷ is → ⊥
no_items i is h = cc

-- the first piece is as wide as the text is shorter behind it
whole_piece : (n c : ℕ) (z : List ℕ) → 0 < n → take n (c ∷ z) ≡ c ∷ take (n - 1) z
whole_piece zero c z h = absurd (omega arith)
whole_piece (suc n) c z h = let e : suc n - 1 ≡ n = omega arith in ap (λ m. c ∷ take m z) (sym e)

wider : (xs ys : List ℕ) → width (xs ++ ys) ≡ width xs + width ys
wider xs ys = sum_by-append len_utf8 xs ys

-- ---- behind some pieces

pub record Behind (line start : ℕ) (text : List ℕ) (rest : List Item) : Type 0 where
  pub front : List ℕ
  pub back : List ℕ
  pub whole : text ≡ front ++ back
  pub next_line : ℕ
  pub next_start : ℕ
  pub is_rest : rest ≡ cut_from 0 next_line next_start back
  pub place : next_start ≡ start + width front

pub cut_behind : (ahead rest : List Item) (line start : ℕ) (text : List ℕ) → cut_from 0 line start text ≡ ahead ++ rest → Behind line start text rest
cut_behind [] rest line start text e = record { front = []; back = text; whole = refl; next_line = line; next_start = start; is_rest = sym e; place = omega arith }
cut_behind (i ∷ ahead) rest line start [] e = absurd (no_items i (ahead ++ rest) e)
cut_behind (i ∷ ahead) rest line start (c ∷ z) e =
    let n = (lexeme (c ∷ z)).1 in
    let q = rest_of (first_item line start (c ∷ z)) i (cut_from 0 (next_line line (c ∷ z)) (next_place start (c ∷ z)) (drop (n - 1) z)) (ahead ++ rest) (sym (cut_first line start c z) ∙ e) in
    let s = cut_behind ahead rest (next_line line (c ∷ z)) (next_place start (c ∷ z)) (drop (n - 1) z) q in
    let piece : take n (c ∷ z) ≡ c ∷ take (n - 1) z = whole_piece n c z (some_taken c z) in
    record {
      front = (c ∷ take (n - 1) z) ++ s.front;
      back = s.back;
      whole = ap (λ (v : List ℕ). c ∷ v) (sym (take-append-drop (n - 1) z) ∙ ap (λ (v : List ℕ). take (n - 1) z ++ v) s.whole ∙ sym (append_assoc (take (n - 1) z) s.front s.back));
      next_line = s.next_line;
      next_start = s.next_start;
      is_rest = s.is_rest;
      place = omega (arith, s.place, ap width piece, wider (c ∷ take (n - 1) z) s.front);
    }

-- ---- up to a piece

-- the first piece of what is left of a text that ends behind some pieces of its
record Front (c : ℕ) (z code : List ℕ) : Type 0 where
  same : lexeme (c ∷ (take ((lexeme (c ∷ z)).1 - 1) z ++ code)) ≡ lexeme (c ∷ z)
  taken : take (lexeme (c ∷ z)).1 (c ∷ (take ((lexeme (c ∷ z)).1 - 1) z ++ code)) ≡ take (lexeme (c ∷ z)).1 (c ∷ z)
  dropped : drop ((lexeme (c ∷ z)).1 - 1) (take ((lexeme (c ∷ z)).1 - 1) z ++ code) ≡ code

none_before : (xs ys : List ℕ) → xs ++ ys ≡ [] → (xs ≡ []) × (ys ≡ [])
none_before [] ys e = (refl, e)
none_before (x ∷ xs) ys e = absurd cc

abbrev nothing : List ℕ
nothing = []

drop_none : (n : ℕ) → drop n nothing ≡ nothing
drop_none zero = refl
drop_none (suc n) = refl

drop_all : (n : ℕ) (z : List ℕ) → length z ≤ n → drop n z ≡ []
drop_all n [] h = drop_none n
drop_all zero (c ∷ z) h = absurd (omega (arith, h))
drop_all (suc n) (c ∷ z) h = drop_all n z (omega (arith, h))

length_taken : (n : ℕ) (z : List ℕ) → n ≤ length z → length (take n z) ≡ n
length_taken zero z h = refl
length_taken (suc n) [] h = absurd (omega (arith, h))
length_taken (suc n) (c ∷ z) h = ap suc (length_taken n z (omega (arith, h)))

drop_taken : (n : ℕ) (z ys : List ℕ) → n ≤ length z → drop n (take n z ++ ys) ≡ ys
drop_taken zero z ys h = refl
drop_taken (suc n) [] ys h = absurd (omega (arith, h))
drop_taken (suc n) (c ∷ z) ys h = drop_taken n z ys (omega (arith, h))

longer : (xs ys : List ℕ) → length xs ≤ length (xs ++ ys)
longer [] ys = omega arith
longer (x ∷ xs) ys = omega (arith, longer xs ys)

front_of : (c : ℕ) (z code rest : List ℕ) → is_fault (lexeme (c ∷ z)).0 ≡ false → drop ((lexeme (c ∷ z)).1 - 1) z ≡ code ++ rest → Front c z code
front_of c z code rest good e = go (nat_le ((lexeme (c ∷ z)).1 - 1) (length z)) refl
  where
    whole : z ≡ (take ((lexeme (c ∷ z)).1 - 1) z ++ code) ++ rest
    whole =
        let m = (lexeme (c ∷ z)).1 - 1 in
        sym (take-append-drop m z) ∙ ap (λ (v : List ℕ). take m z ++ v) e ∙ sym (append_assoc (take m z) code rest)

    go : (b : Bool) → nat_le ((lexeme (c ∷ z)).1 - 1) (length z) ≡ b → Front c z code
    go true h =
        let n = (lexeme (c ∷ z)).1 in
        let m = (lexeme (c ∷ z)).1 - 1 in
        let cs = take m z ++ code in
        let fits : m ≤ length z = grind (arith, nat_tests) in
        let text : c ∷ z ≡ c ∷ (cs ++ rest) = ap (λ (v : List ℕ). c ∷ v) whole in
        let small : n ≤ length (c ∷ cs) = omega (arith, length_taken m z fits, longer (take m z) code) in
        record {
          same = piece_alone c cs rest (sym (ap (λ v. is_fault (lexeme v).0) text) ∙ good) (subst (λ (k : ℕ). k ≤ length (c ∷ cs)) (ap (λ v. (lexeme v).1) text) small) ∙ sym (ap lexeme text);
          taken = sym (take-append-le n (c ∷ cs) rest small) ∙ sym (ap (λ v. take n v) text);
          dropped = drop_taken m z code fits;
        }
    go false h =
        let n = (lexeme (c ∷ z)).1 in
        let m = (lexeme (c ∷ z)).1 - 1 in
        let cs = take m z ++ code in
        let past : length z ≤ m = grind (arith, nat_tests) in
        let none = none_before code rest (sym e ∙ drop_all m z past) in
        let same : cs ≡ z = sym (append-nil cs) ∙ ap (λ (v : List ℕ). cs ++ v) (sym none.1) ∙ sym whole in
        record {
          same = ap (λ (v : List ℕ). lexeme (c ∷ v)) same;
          taken = ap (λ (v : List ℕ). take n (c ∷ v)) same;
          dropped = ap (λ (v : List ℕ). drop m v) same ∙ drop_all m z past ∙ sym none.0;
        }

abbrev pub last_place : ℕ → List Item → ℕ
last_place at [] = at
last_place at (i ∷ is) = last_place i.end is

pub record Code (line start : ℕ) (text : List ℕ) (own behind : List Item) : Type 0 where
  pub code : List ℕ
  pub rest : List ℕ
  pub whole : text ≡ code ++ rest
  pub last : start + width code ≡ last_place start own
  -- by itself it has these pieces, at other places
  pub alone : (d line' start' : ℕ) → start ≡ d + start' → AllMoved d own (cut_from 0 line' start' code)

pub cut_alone : (own behind : List Item) (line start : ℕ) (text : List ℕ) → cut_from 0 line start text ≡ own ++ behind → NoFaults own → Code line start text own behind
cut_alone [] behind line start text e good = record { code = []; rest = text; whole = refl; last = omega arith; alone = λ d line' start' h. tt }
cut_alone (i ∷ own) behind line start [] e good = absurd (no_items i (own ++ behind) e)
cut_alone (i ∷ own) behind line start (c ∷ z) e good =
    let n = (lexeme (c ∷ z)).1 in
    let m = (lexeme (c ∷ z)).1 - 1 in
    let all = cut_from 0 (next_line line (c ∷ z)) (next_place start (c ∷ z)) (drop m z) in
    let is : first_item line start (c ∷ z) ≡ i = first_of (first_item line start (c ∷ z)) i all (own ++ behind) (sym (cut_first line start c z) ∙ e) in
    let q = rest_of (first_item line start (c ∷ z)) i all (own ++ behind) (sym (cut_first line start c z) ∙ e) in
    let s = cut_alone own behind (next_line line (c ∷ z)) (next_place start (c ∷ z)) (drop m z) q good.1 in
    let f = front_of c z s.code s.rest (ap (λ (i : Item). is_fault i.what) is ∙ good.0) s.whole in
    let piece : take n (c ∷ z) ≡ c ∷ take m z = whole_piece n c z (some_taken c z) in
    let wide : width (c ∷ (take m z ++ s.code)) ≡ width (take n (c ∷ z)) + width s.code = wider (c ∷ take m z) s.code ∙ ap (λ (v : List ℕ). width v + width s.code) (sym piece) in
    let ended : next_place start (c ∷ z) ≡ i.end = ap (λ (i : Item). i.end) is in
    record {
      code = c ∷ (take m z ++ s.code);
      rest = s.rest;
      whole = ap (λ (v : List ℕ). c ∷ v) (sym (take-append-drop m z) ∙ ap (λ (v : List ℕ). take m z ++ v) s.whole ∙ sym (append_assoc (take m z) s.code s.rest));
      last = further start (width (c ∷ (take m z ++ s.code))) (width (take n (c ∷ z))) (width s.code) wide ∙ s.last ∙ ap (λ (p : ℕ). last_place p own) ended;
      alone = λ d line' start' h. moved d line' start' i own (c ∷ z) c (take m z ++ s.code) s.code is f.same f.taken f.dropped h (λ l. s.alone d l);
    }
  where
    further : (a b x y : ℕ) → b ≡ x + y → a + b ≡ a + x + y
    further a b x y h = omega (arith, h)

    moved : (d line' start' : ℕ) (i : Item) (own : List Item) (text : List ℕ) (c : ℕ) (cs code : List ℕ) → first_item line start text ≡ i → lexeme (c ∷ cs) ≡ lexeme text
        → take (lexeme text).1 (c ∷ cs) ≡ take (lexeme text).1 text → drop ((lexeme text).1 - 1) cs ≡ code → start ≡ d + start'
        → ((line' start' : ℕ) → next_place start text ≡ d + start' → AllMoved d own (cut_from 0 line' start' code)) → AllMoved d (i ∷ own) (cut_from 0 line' start' (c ∷ cs))
    moved d line' start' i own text c cs code is same taken dropped h next =
        let cuts = cut_first line' start' c cs in
        let left : drop ((lexeme (c ∷ cs)).1 - 1) cs ≡ code = ap (λ (p : Lexeme × ℕ). drop (p.1 - 1) cs) same ∙ dropped in
        let wide : width (take (lexeme (c ∷ cs)).1 (c ∷ cs)) ≡ width (take (lexeme text).1 text) = ap (λ (p : Lexeme × ℕ). width (take p.1 (c ∷ cs))) same ∙ ap width taken in
        let place : next_place start text ≡ d + next_place start' (c ∷ cs) = omega (arith, wide, h) in
        let here : Moved d i (first_item line' start' (c ∷ cs)) = (sym (ap (λ (i : Item). i.what) is) ∙ ap (λ (p : Lexeme × ℕ). p.0) (sym same), sym (ap (λ (i : Item). i.end) is) ∙ place) in
        subst (λ (v : List Item). AllMoved d (i ∷ own) v) (sym cuts)
        (here, subst (λ (v : List ℕ). AllMoved d own (cut_from 0 (next_line line' (c ∷ cs)) (next_place start' (c ∷ cs)) v)) (sym left) (next (next_line line' (c ∷ cs)) (next_place start' (c ∷ cs)) place))
