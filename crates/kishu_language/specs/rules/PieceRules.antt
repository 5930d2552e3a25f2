-- The rules of the pieces of a text: white space, comments, names, numbers, texts and operators, each as long as it can be (Python Language Reference 3, "Lexical analysis").
-- `Lexemes` finds the piece at the front of a text; here a piece stands before a rest, and a rule says what it is. `PieceLaws` has the law that both agree.
use Rattle.std.specs.Prelude.{◌≡◌, ℕ, pos, ◌<◌, ◌≤◌, Bool, true, false, ◌&&◌, ◌||◌, ◌==◌, nat_lt, List, [], ◌∷◌, ◌++◌, length, codes, nat_eq, Some}
use Rattle.std.specs.List.{starts_with, list_any, list_all}
use Rattle.std.specs.Char.{is_digit}
use Rattle.std.specs.Str.{byte, encode_utf8_all}
use Rattle.kishu_language.specs.declared.token.Mark.{Mark}
use Rattle.kishu_language.specs.declared.token.Mark.TheVariants as m
use Rattle.kishu_language.specs.tokens.Lines.{line_feed}
use Rattle.kishu_language.specs.tokens.Names.{is_word_char, begins_with_letter, longest_name}
use Rattle.kishu_language.specs.tokens.Numerals.{underscore, number_bound}
use Rattle.kishu_language.specs.tokens.Quoted.{backslash}
use Rattle.kishu_language.specs.tokens.Marks.{Spelled, mark_among}
use Rattle.kishu_language.specs.tokens.Lexemes.{Lexeme, blank, comment, joined, feed, word, string, sign, is_blank, is_no_feed, is_null, is_prefix, is_quote, is_dot, feeds}
use Rattle.kishu_language.specs.tokens.Lexemes as piece
use Rattle.kishu_language.specs.rules.TextRules.{number, IsText}

-- the first character, if there is one, passes a test
abbrev pub begins : (ℕ → Bool) → List ℕ → Bool
begins test [] = false
begins test (c ∷ cs) = test c

-- ---- numbers

-- Digits of a base, with single `_` between them; the second list has the digits alone.
pub data Digits : ℕ → List ℕ → List ℕ → Type 0 where
  last : {base c : ℕ} → is_digit c base ≡ true → Digits base (c ∷ []) (c ∷ [])
  next : {base c : ℕ} {cs ds : List ℕ} → is_digit c base ≡ true → Digits base cs ds → Digits base (c ∷ cs) (c ∷ ds)
  spaced : {base c : ℕ} {cs ds : List ℕ} → is_digit c base ≡ true → Digits base cs ds → Digits base (c ∷ underscore ∷ cs) (c ∷ ds)

-- the letter after `0`, and the base that it says
pub data Base : ℕ → ℕ → Type 0 where
  small_x : Base (byte "x") 16
  large_x : Base (byte "X") 16
  small_o : Base (byte "o") 8
  large_o : Base (byte "O") 8
  small_b : Base (byte "b") 2
  large_b : Base (byte "B") 2

-- `0` with further zeros; a digit from 1 to 9 with further digits; or `0`, a letter and digits of that base, before which one `_` may stand
pub data Number : List ℕ → ℕ → Type 0 where
  zeros : {cs ds : List ℕ} → Digits 10 cs ds → list_all (nat_eq (byte "0")) ds ≡ true → Number cs 0
  decimal : {c : ℕ} {cs ds : List ℕ} → (c == byte "0") ≡ false → Digits 10 (c ∷ cs) ds → Number (c ∷ cs) (number 10 ds)
  based : {b base : ℕ} {cs ds : List ℕ} → Base b base → Digits base cs ds → Number (byte "0" ∷ b ∷ cs) (number base ds)
  based_spaced : {b base : ℕ} {cs ds : List ℕ} → Base b base → Digits base cs ds → Number (byte "0" ∷ b ∷ underscore ∷ cs) (number base ds)

-- ---- operators and marks

-- each with its spelling
unfoldable pub operators : List Spelled
operators =
    (codes "+", m.Plus) ∷ (codes "-", m.Minus) ∷ (codes "*", m.Star) ∷ (codes "//", m.FloorDivide) ∷ (codes "%", m.Percent) ∷ (codes "**", m.Power) ∷ (codes "==", m.Equal)
    ∷ (codes "!=", m.NotEqual) ∷ (codes "<", m.Less) ∷ (codes "<=", m.LessEqual) ∷ (codes ">", m.Greater) ∷ (codes ">=", m.GreaterEqual) ∷ (codes "=", m.Assign)
    ∷ (codes "+=", m.PlusAssign) ∷ (codes "-=", m.MinusAssign) ∷ (codes "*=", m.StarAssign) ∷ (codes "//=", m.FloorDivideAssign) ∷ (codes "%=", m.PercentAssign)
    ∷ (codes "**=", m.PowerAssign) ∷ (codes "(", m.LeftParenthesis) ∷ (codes ")", m.RightParenthesis) ∷ (codes "[", m.LeftBracket) ∷ (codes "]", m.RightBracket)
    ∷ (codes "{", m.LeftBrace) ∷ (codes "}", m.RightBrace) ∷ (codes ",", m.Comma) ∷ (codes ":", m.Colon) ∷ (codes ".", m.Dot) ∷ (codes ";", m.Semicolon) ∷ []

-- an operator of more than n characters stands in front
abbrev pub has_longer : ℕ → List ℕ → Bool
has_longer n all = list_any (λ (s : Spelled). nat_lt n (length s.0) && starts_with nat_eq all s.0) operators

-- ---- pieces

-- a letter r, R, u or U directly before a quote, which belongs to a text
abbrev pub opens_text : List ℕ → List ℕ → Bool
opens_text (c ∷ []) rest = is_prefix c && begins is_quote rest
opens_text [] rest = false
opens_text (c ∷ d ∷ cs) rest = false

-- what directly after a number is a fault
abbrev pub follows_number : ℕ → Bool
follows_number c = is_word_char c || is_dot c

-- The first list is a piece where the second follows. White space, comments, names and numbers are as long as they can be. A name or a reserved word is an ASCII letter or
-- `_`, then letters, digits and `_`, at most 255. A number is below 2^127. No rule has a fault, so nothing that is one is a piece.
pub data Piece : List ℕ → List ℕ → Lexeme → Type 0 where
  white : {cs rest : List ℕ} → 0 < length cs → list_all is_blank cs ≡ true → begins is_blank rest ≡ false → Piece cs rest (blank cs)
  remark : {cs rest : List ℕ} → list_all is_no_feed cs ≡ true → list_any is_null cs ≡ false → begins is_no_feed rest ≡ false → Piece (byte "#" ∷ cs) rest comment
  join : {rest : List ℕ} → Piece (backslash ∷ line_feed ∷ []) rest joined
  end : {rest : List ℕ} → Piece (line_feed ∷ []) rest feed
  name : {cs rest : List ℕ} → begins_with_letter cs ≡ true → list_all is_word_char cs ≡ true → length cs ≤ longest_name → begins is_word_char rest ≡ false → opens_text cs rest ≡ false
      → Piece cs rest (word cs)
  integer : {cs rest : List ℕ} {n : ℕ} → Number cs n → n < number_bound → begins follows_number rest ≡ false → Piece cs rest (piece.number (pos n))
  text : {cs rest meaning : List ℕ} → IsText cs rest meaning → Piece cs rest (string (encode_utf8_all meaning))
  operator : {cs rest : List ℕ} {k : Mark} → mark_among operators cs ≡ Some k → has_longer (length cs) (cs ++ rest) ≡ false → Piece cs rest (sign k)
