-- The tokens that the pieces give which are left of a text, by what is known before them: `Layout` from some place on, with no list of what it gave so far.
use Rattle.std.specs.Prelude.{◌≡◌, ℕ, Bool, true, false, List, [], ◌∷◌, ◌++◌, length, replicate, Some}
use Rattle.kishu_language.specs.declared.token.Mark.{Mark}
use Rattle.kishu_language.specs.tokens.Lexemes.{Lexeme, blank, comment, bad_comment, joined, feed, word, number, string, sign, bad}
use Rattle.kishu_language.specs.tokens.Layout.{Kind, newline, dedent, mark, Token, token, Item, End, Start, fresh, led, inside, is_opening, closes}
use Rattle.kishu_language.specs.rules.LineRules.{is_quiet, value, begins, token_at, Indentation}

-- before the first token of a line
abbrev pub is_early : Start → Bool
is_early fresh = true
is_early (led w row from to) = true
is_early inside = false

-- what is known behind a piece that gives nothing
abbrev pub first_onward : Lexeme → ℕ → ℕ → ℕ → Start
first_onward (blank w) line start end = led w line start end
first_onward joined line start end = led [] line start start
first_onward comment line start end = fresh
first_onward bad_comment line start end = fresh
first_onward feed line start end = fresh
first_onward (word w) line start end = fresh
first_onward (number z) line start end = fresh
first_onward (string t) line start end = fresh
first_onward (sign k) line start end = fresh
first_onward (bad below) line start end = fresh

abbrev pub onward : Lexeme → ℕ → ℕ → ℕ → Start → Start
onward l line start end fresh = first_onward l line start end
onward l line start end (led w row from to) = led w row from to
onward l line start end inside = inside

-- a line's indentation, and where it stands
abbrev pub blanks_of : Start → List ℕ
blanks_of fresh = []
blanks_of (led w row from to) = w
blanks_of inside = []

abbrev pub row_of : Start → ℕ → ℕ
row_of fresh line = line
row_of (led w row from to) line = row
row_of inside line = line

abbrev pub from_of : Start → ℕ → ℕ
from_of fresh at = at
from_of (led w row from to) at = from
from_of inside at = at

abbrev pub to_of : Start → ℕ → ℕ
to_of fresh at = at
to_of (led w row from to) at = to
to_of inside at = at

-- The brackets that are open and the indentations are known too, the innermost and the longest first.
pub data Emits (at : End) : Start → List Mark → List (List ℕ) → List Item → List Token → Type 0 where
  stop : {b : Start} {vs : List (List ℕ)} → is_early b ≡ true → Emits at b [] vs [] (replicate (length vs) (token dedent at.0 at.1 at.1))
  stop_inside : {vs : List (List ℕ)} → Emits at inside [] vs [] (token newline at.0 at.1 at.1 ∷ replicate (length vs) (token dedent at.0 at.1 at.1))
  quiet : {b : Start} {bs : List Mark} {vs : List (List ℕ)} {i : Item} {is : List Item} {ts : List Token} → is_quiet i.what ≡ true
      → Emits at (onward i.what i.line i.start i.end b) bs vs is ts → Emits at b bs vs (i ∷ is) ts
  empty_line : {b : Start} {bs : List Mark} {vs : List (List ℕ)} {i : Item} {is : List Item} {ts : List Token} → is_early b ≡ true → i.what ≡ feed
      → Emits at fresh bs vs is ts → Emits at b bs vs (i ∷ is) ts
  ends : {vs : List (List ℕ)} {i : Item} {is : List Item} {ts : List Token} → i.what ≡ feed → Emits at fresh [] vs is ts → Emits at inside [] vs (i ∷ is) (token_at newline i ∷ ts)
  new_line : {o : Mark} {bs : List Mark} {vs : List (List ℕ)} {i : Item} {is : List Item} {ts : List Token} → i.what ≡ feed
      → Emits at inside (o ∷ bs) vs is ts → Emits at inside (o ∷ bs) vs (i ∷ is) ts
  one : {k : Kind} {bs : List Mark} {vs : List (List ℕ)} {i : Item} {is : List Item} {ts : List Token} → value i.what ≡ Some k
      → Emits at inside bs vs is ts → Emits at inside bs vs (i ∷ is) (token_at k i ∷ ts)
  opening : {o : Mark} {bs : List Mark} {vs : List (List ℕ)} {i : Item} {is : List Item} {ts : List Token} → i.what ≡ sign o → is_opening o ≡ true
      → Emits at inside (o ∷ bs) vs is ts → Emits at inside bs vs (i ∷ is) (token_at (mark o) i ∷ ts)
  closing : {o c : Mark} {bs : List Mark} {vs : List (List ℕ)} {i : Item} {is : List Item} {ts : List Token} → i.what ≡ sign c → closes o c ≡ true
      → Emits at inside bs vs is ts → Emits at inside (o ∷ bs) vs (i ∷ is) (token_at (mark c) i ∷ ts)
  starts : {b : Start} {bs : List Mark} {vs us : List (List ℕ)} {i : Item} {is : List Item} {before ts : List Token} → is_early b ≡ true → begins i.what ≡ true
      → Indentation (blanks_of b) (row_of b i.line) (from_of b i.start) (to_of b i.start) vs us before → Emits at inside bs us (i ∷ is) ts → Emits at b bs vs (i ∷ is) (before ++ ts)
