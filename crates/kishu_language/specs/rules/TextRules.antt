-- The rules of texts in quotes, said as a language of characters (Python Language Reference 3, "String and Bytes literals"). `Quoted` scans a text from the front; here
-- nothing is scanned. `TextPieces` has the law that both give the same pieces the same meaning.
use Rattle.std.specs.Prelude.{◌≡◌, ◌⊎◌, ℕ, ◌+◌, ◌*◌, ◌≤◌, Bool, true, false, not, ◌&&◌, ◌==◌, List, [], ◌∷◌, ◌++◌, length, fold, codes, nat_eq}
use Rattle.std.specs.List.{starts_with, list_any, list_all}
use Rattle.std.specs.Char.{is_digit, digit_value}
use Rattle.std.specs.Str.{byte}
use lib.Utf8.{scalar}
use Rattle.kishu_language.specs.tokens.Lines.{line_feed}
use Rattle.kishu_language.specs.tokens.Quoted.{backslash}
use Rattle.kishu_language.specs.tokens.Lexemes.{is_null}

-- A letter or a mark after a backslash, and the one character that both stand for.
pub data Short : ℕ → ℕ → Type 0 where
  one_backslash : Short (byte "\\") (byte "\\")
  single_quote : Short (byte "'") (byte "'")
  double_quote : Short (byte "\"") (byte "\"")
  bell : Short (byte "a") 7
  backspace : Short (byte "b") 8
  form_feed : Short (byte "f") 12
  feed : Short (byte "n") 10
  carriage_return : Short (byte "r") 13
  tab : Short (byte "t") 9
  vertical_tab : Short (byte "v") 11

-- x, u and U, and how many hexadecimal digits follow
pub data Long : ℕ → ℕ → Type 0 where
  two : Long (byte "x") 2
  four : Long (byte "u") 4
  eight : Long (byte "U") 8

-- the number that digits of a base write
abbrev pub number : ℕ → List ℕ → ℕ
number base digits = fold (λ n c. base * n + digit_value c) 0 digits

abbrev pub are_digits : ℕ → List ℕ → Bool
are_digits base cs = list_all (λ c. is_digit c base) cs

-- the first character, if there is one, is a digit
abbrev pub begins_with_digit : ℕ → List ℕ → Bool
begins_with_digit base [] = false
begins_with_digit base (c ∷ cs) = is_digit c base

-- what means something after a backslash, but for octal digits (`\N` is a fault)
abbrev pub special : List ℕ
special = codes "\n\\'\"abfnrtvxuUN"

abbrev pub is_special : ℕ → Bool
is_special c = list_any (nat_eq c) special

-- A rule over two lists speaks of the characters with which the first begins and the second doesn't: it says what they mean, as a list of characters.

-- Escapes. A code is at most 10FFFF, and no surrogate. Octal digits are as many as stand there, up to three. Any other backslash stays with the character after it.
pub data Escape : List ℕ → List ℕ → List ℕ → Type 0 where
  line_end : {cs : List ℕ} → Escape (backslash ∷ line_feed ∷ cs) cs []
  short : {e c : ℕ} {cs : List ℕ} → Short e c → Escape (backslash ∷ e ∷ cs) cs (c ∷ [])
  octal : (ds : List ℕ) {cs : List ℕ} → are_digits 8 ds ≡ true → 1 ≤ length ds → length ds ≤ 3 → (length ds ≡ 3) ⊎ (begins_with_digit 8 cs ≡ false) → Escape (backslash ∷ (ds ++ cs)) cs (number 8 ds ∷ [])
  hexadecimal : {e n : ℕ} (ds : List ℕ) {cs : List ℕ} → Long e n → length ds ≡ n → are_digits 16 ds ≡ true → scalar (number 16 ds) ≡ true → Escape (backslash ∷ e ∷ (ds ++ cs)) cs (number 16 ds ∷ [])
  other : {e : ℕ} {cs : List ℕ} → is_special e ≡ false → is_digit e 8 ≡ false → Escape (backslash ∷ e ∷ cs) cs (backslash ∷ e ∷ [])

-- One item, of a raw text or not, and of a threefold one or not. A line feed stands only in the threefold forms or after a backslash. Raw, every backslash stays with the
-- character after it.
pub data Item : Bool → Bool → List ℕ → List ℕ → List ℕ → Type 0 where
  plain : {is_raw is_triple : Bool} {c : ℕ} {cs : List ℕ} → (c == backslash) ≡ false → (c == line_feed && not is_triple) ≡ false → Item is_raw is_triple (c ∷ cs) cs (c ∷ [])
  escape : {is_triple : Bool} {cs ds meaning : List ℕ} → Escape cs ds meaning → Item false is_triple cs ds meaning
  stays : {is_triple : Bool} {c : ℕ} {cs : List ℕ} → Item true is_triple (backslash ∷ c ∷ cs) cs (backslash ∷ c ∷ [])

-- the letters before the quotes, and whether they make a text raw
pub data Prefix : List ℕ → Bool → Type 0 where
  no_prefix : Prefix [] false
  raw : Prefix (codes "r") true
  raw_capital : Prefix (codes "R") true
  unicode : Prefix (codes "u") false
  unicode_capital : Prefix (codes "U") false

-- the quotes on each side, and whether they are threefold
pub data Quotes : List ℕ → Bool → Type 0 where
  single : Quotes (codes "'") false
  double : Quotes (codes "\"") false
  three_single : Quotes (codes "'''") true
  three_double : Quotes (codes "\"\"\"") true

-- What follows the opening quotes: items, and then the first quotes of that kind that begin no item.
pub data Body : Bool → Bool → List ℕ → List ℕ → List ℕ → List ℕ → Type 0 where
  closed : {is_raw is_triple : Bool} {quotes cs : List ℕ} → Body is_raw is_triple quotes (quotes ++ cs) cs []
  next : {is_raw is_triple : Bool} {quotes cs ds es first rest : List ℕ} → starts_with nat_eq cs quotes ≡ false → Item is_raw is_triple cs ds first → Body is_raw is_triple quotes ds es rest
      → Body is_raw is_triple quotes cs es (first ++ rest)

-- A whole text. Three quotes open a threefold one: after a single quote no two more of its kind follow.
pub data Text : List ℕ → List ℕ → List ℕ → Type 0 where
  text : {is_raw is_triple : Bool} {letters quotes cs ds meaning : List ℕ} → Prefix letters is_raw → Quotes quotes is_triple → (is_triple ≡ true) ⊎ (starts_with nat_eq cs (quotes ++ quotes) ≡ false)
      → Body is_raw is_triple quotes cs ds meaning → Text (letters ++ (quotes ++ cs)) ds meaning

-- Before `rest` a piece is a text with this meaning. The character of code 0 doesn't stand in it.
pub record IsText (piece rest meaning : List ℕ) : Type 0 where
  pub text : Text (piece ++ rest) rest meaning
  pub no_null : list_any is_null piece ≡ false
