-- By the rules each token that is written stands at the places of its piece.
use Rattle.std.proofs.Common.{◌≡◌, ℕ, ◌+◌, Bool, true, false, cond, ◌&&◌, ◌||◌, List, [], ◌∷◌, ◌++◌, length, replicate, Option, Some, None, refl, sym, ap, subst, ◌∙◌, arith, inl, inr, append_assoc, ◌≤◌, zero, suc}
use Rattle.std.proofs.lemmas.List.Sums.{sum_by-append}
use Rattle.std.proofs.lemmas.Bool.Decides.{nat_tests}
use Rattle.std.specs.Prelude.{pos, nat_le, not, map}
use Rattle.std.specs.List.{list_any, list_all}
use Rattle.std.specs.Str.{bytes_eq, encode_utf8_all}
use Rattle.std.specs.Char.{len_utf8}
use Rattle.kishu_language.specs.declared.token.Mark.{Mark}
use Rattle.kishu_language.specs.tokens.Names.{is_name, reserved_words, is_word_char, begins_with_letter, longest_name}
use Rattle.kishu_language.specs.tokens.Marks.{Spelled, mark_among, reserved_mark, reserved_marks}
use Rattle.kishu_language.specs.tokens.Lexemes.{Lexeme, blank, comment, bad_comment, joined, feed, word, number, string, sign, bad}
use Rattle.kishu_language.specs.tokens.Layout as y
use Rattle.kishu_language.specs.tokens.Layout.{Kind, newline, indent, dedent, mark, Token, token, Item, End, width, word_kind}
use Rattle.kishu_language.specs.rules.LineRules as r
use Rattle.kishu_language.specs.rules.LineRules.{value, token_at, Quiet, Inside, Line, Lead, Back, Indentation, Lines}
use Rattle.kishu_language.specs.rules.PieceRules as p
use Rattle.kishu_language.specs.rules.PieceRules.{Piece}
use Rattle.kishu_language.specs.rules.TokenRules as t
use Rattle.kishu_language.specs.rules.TokenRules.{Pieces, ByRules, Stands, is_written, Written, AllWritten}

-- ---- a piece, by what it is

abbrev pub kind_of : Lexeme → Option Kind
kind_of (word w) = Some (word_kind w)
kind_of (number z) = Some (y.integer z)
kind_of (string u) = Some (y.quoted u)
kind_of (sign k) = Some (mark k)
kind_of (blank w) = None
kind_of comment = None
kind_of joined = None
kind_of feed = None
kind_of bad_comment = None
kind_of (bad below) = None

some_is : (a b : Kind) → Some a ≡ Some b → a ≡ b
some_is a b e = cc

spellings : reserved_words ≡ map (λ (s : Spelled). s.0) reserved_marks
unfolding reserved_words reserved_marks
spellings = refl

not_among : (table : List Spelled) (w : List ℕ) → mark_among table w ≡ None → list_any (bytes_eq w) (map (λ (s : Spelled). s.0) table) ≡ false
not_among [] w h = refl
not_among (s ∷ ss) w h = go (bytes_eq w s.0) h (not_among ss w)
  where
    go : (b : Bool) → cond b (Some s.1) (mark_among ss w) ≡ None → (mark_among ss w ≡ None → list_any (bytes_eq w) (map (λ (s : Spelled). s.0) ss) ≡ false)
        → (b || list_any (bytes_eq w) (map (λ (s : Spelled). s.0) ss)) ≡ false
    go true h next = absurd cc
    go false h next = next h

name_is : (w : List ℕ) → begins_with_letter w ≡ true → list_all is_word_char w ≡ true → length w ≤ longest_name → reserved_mark w ≡ None → is_name w ≡ true
name_is w first h small free =
    let fits : nat_le (length w) 255 ≡ true = grind (arith, nat_tests) in
    let none : list_any (bytes_eq w) reserved_words ≡ false = ap (list_any (bytes_eq w)) spellings ∙ not_among reserved_marks w free in
    λ i. first i && (h i && (fits i && not (none i)))

-- a word, by whether it is reserved
stands_word : (piece rest : List ℕ) (o : Option Mark) → reserved_mark piece ≡ o → begins_with_letter piece ≡ true → list_all is_word_char piece ≡ true → length piece ≤ longest_name → Stands piece rest (y.word_or piece o)
stands_word piece rest None e first h small = (refl, name_is piece first h small e)
stands_word piece rest (Some k) e first h small = inl e

pub stands : {piece rest : List ℕ} {l : Lexeme} (k : Kind) → Piece piece rest l → kind_of l ≡ Some k → Stands piece rest k
stands k (p.white some h q) e = absurd cc
stands k (p.remark h none q) e = absurd cc
stands k p.join e = absurd cc
stands k p.end e = absurd cc
stands k (p.name {cs = cs} {rest = rest} first h small q apart) e = subst (λ v. Stands cs rest v) (some_is (word_kind cs) k e) (stands_word cs rest (reserved_mark cs) refl first h small)
stands k (p.integer {cs = cs} {rest = rest} {n = n} rule small q) e = subst (λ v. Stands cs rest v) (some_is (y.integer (pos n)) k e) (n, (refl, rule))
stands k (p.text {cs = cs} {rest = rest} {meaning = meaning} u) e = subst (λ v. Stands cs rest v) (some_is (y.quoted (encode_utf8_all meaning)) k e) (meaning, (refl, u))
stands k (p.operator {cs = cs} {rest = rest} {k = s} h longest) e = subst (λ v. Stands cs rest v) (some_is (mark s) k e) (inr h)

-- ---- tokens, from pieces

abbrev Stood : List ℕ → Item → Type 0
Stood source i = (k : Kind) → kind_of i.what ≡ Some k → Written source (token_at k i)

abbrev AllStood : List ℕ → List Item → Type 0
AllStood source [] = Unit {0}
AllStood source (i ∷ is) = Stood source i × AllStood source is

pieces_stand : {line start : ℕ} {cs : List ℕ} {is : List Item} (source front : List ℕ) → source ≡ front ++ cs → start ≡ width front → Pieces line start cs is → AllStood source is
pieces_stand source front e at t.none = tt
pieces_stand source front e at (t.more {line = line} {start = start} {piece = piece} {rest = rest} {l = l} h ps) =
    let wide : start + width piece ≡ width (front ++ piece) = omega (arith, sum_by-append len_utf8 front piece, at) in (
      λ k q. record { front = front; piece = piece; rest = rest; whole = e; start = at; end = omega arith; stands = stands k h q },
      pieces_stand source (front ++ piece) (e ∙ sym (append_assoc front piece rest)) wide ps,
    )

module _ (source : List ℕ) where
  appended : (ts us : List Token) → AllWritten source ts → AllWritten source us → AllWritten source (ts ++ us)
  appended [] us h k = k
  appended (t ∷ ts) us h k = (h.0, appended ts us h.1 k)

  copies : (n line start end : ℕ) → AllWritten source (replicate n (token dedent line start end))
  copies zero line start end = tt
  copies (suc n) line start end = ((λ e. absurd cc), copies n line start end)

  pub of_value : (l : Lexeme) (k : Kind) → value l ≡ Some k → kind_of l ≡ Some k
  of_value (word w) k h = h
  of_value (number z) k h = h
  of_value (string u) k h = h
  of_value (sign s) k h = go (y.is_opening s) (y.is_closing s) h
    where
      go : (a b : Bool) → cond a None (cond b None (Some (mark s))) ≡ Some k → Some (mark s) ≡ Some k
      go true b h = absurd cc
      go false true h = absurd cc
      go false false h = h
  of_value (blank w) k h = absurd cc
  of_value comment k h = absurd cc
  of_value joined k h = absurd cc
  of_value feed k h = absurd cc
  of_value bad_comment k h = absurd cc
  of_value (bad below) k h = absurd cc

  -- a bracket
  of_sign : (i : Item) (o : Mark) → i.what ≡ sign o → Stood source i → Written source (token_at (mark o) i)
  of_sign i o e s = s (mark o) (ap kind_of e)

  -- what is left, with what is known of it
  quiet_rest : {is js : List Item} → Quiet is js → AllStood source is → AllStood source js
  quiet_rest r.here h = h
  quiet_rest (r.over q d) h = quiet_rest d h.1

  inside_written : {is js : List Item} {ts : List Token} → Inside is js ts → AllStood source is → AllWritten source ts × AllStood source js
  inside_written r.nothing h = (tt, h)
  inside_written (r.skip q d) h = inside_written d h.1
  inside_written (r.new_line e d) h = inside_written d h.1
  inside_written (r.one {i = i} {k = k} v d) h =
      let a = inside_written d h.1 in
      (((λ e. h.0 k (of_value i.what k v)), a.0), a.1)
  inside_written (r.group {i = i} {j = j} {o = o} {c = c} {ts = ts} {us = us} a b f g inner outer) h =
      let x = inside_written inner h.1 in
      let z = inside_written outer x.1.1 in
      (((λ e. of_sign i o a h.0), appended ts (token_at (mark c) j ∷ us) x.0 ((λ e. of_sign j c b x.1.0), z.0)), z.1)

  line_written : {at : End} {is js : List Item} {ts : List Token} → Line at is js ts → AllStood source is → AllWritten source ts × AllStood source js
  line_written r.last h = (((λ e. absurd cc), tt), tt)
  line_written (r.ends e) h = (((λ e. absurd cc), tt), h.1)
  line_written (r.skip_in q d) h = line_written d h.1
  line_written (r.one_in {i = i} {k = k} v d) h =
      let a = line_written d h.1 in
      (((λ e. h.0 k (of_value i.what k v)), a.0), a.1)
  line_written (r.group_in {i = i} {j = j} {o = o} {c = c} {ts = ts} {us = us} a b f g inner outer) h =
      let x = inside_written inner h.1 in
      let z = line_written outer x.1.1 in
      (((λ e. of_sign i o a h.0), appended ts (token_at (mark c) j ∷ us) x.0 ((λ e. of_sign j c b x.1.0), z.0)), z.1)

  lead_rest : {is js : List Item} {w : List ℕ} {row from to : ℕ} → Lead is js w row from to → AllStood source is → AllStood source js
  lead_rest (r.blanks e q b) h = quiet_rest q h.1
  lead_rest (r.bare b) h = h
  lead_rest (r.joint e q b) h = quiet_rest q h.1
  lead_rest (r.past e d) h = lead_rest d h.1

  back_written : {w : List ℕ} {line at : ℕ} {vs us : List (List ℕ)} {ts : List Token} → Back w line at vs us ts → AllWritten source ts
  back_written (r.found h) = tt
  back_written (r.bottom h) = tt
  back_written (r.off h d) = ((λ e. absurd cc), back_written d)

  indentation_written : {w : List ℕ} {line from to : ℕ} {vs us : List (List ℕ)} {ts : List Token} → Indentation w line from to vs us ts → AllWritten source ts
  indentation_written (r.equal h) = tt
  indentation_written (r.longer h k) = ((λ e. absurd cc), tt)
  indentation_written (r.lower h k d) = back_written d

  lines_written : {at : End} {vs : List (List ℕ)} {is : List Item} {ts : List Token} → Lines at vs is ts → AllStood source is → AllWritten source ts
  lines_written (r.over_all {at = at} {vs = vs} q) h = copies (length vs) at.0 at.1 at.1
  lines_written (r.blank_line q e d) h = lines_written d (quiet_rest q h).1
  lines_written (r.line {ts = ts} {before = before} {after = after} lead ind l d) h =
      let x = line_written l (lead_rest lead h) in
      appended before (ts ++ after) (indentation_written ind) (appended ts after x.0 (lines_written d x.1))

-- Each token that is written stands at the places of its piece, which the rules relate to its kind and value.
pub all_written : (cs : List ℕ) (ts : List Token) → ByRules cs ts → AllWritten cs ts
all_written cs ts h = lines_written cs h.1.1 (pieces_stand cs [] refl refl h.1.0)
