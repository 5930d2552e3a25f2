-- Texts in quotes (Python Language Reference 3, "String and Bytes literals").
use Rattle.std.specs.Prelude.{ℕ, zero, suc, ◌+◌, ◌-◌, Bool, not, ◌&&◌, nat_lt, ◌==◌, if◌then◌else◌, List, [], ◌∷◌, ◌++◌, length, take, drop, slice_index, Option, Some, None}
use Rattle.std.specs.List.{prefix_len}
use Rattle.std.specs.Char.{is_digit}
use lib.Utf8.{scalar}
use Rattle.std.specs.Str.{encode_utf8_all}
use Rattle.kishu_language.specs.tokens.Lines.{line_feed}
use Rattle.kishu_language.specs.tokens.Numerals.{digits_value}

abbrev pub backslash : ℕ
backslash = 92

-- characters, and how many of the text they stand for
abbrev pub Read : Type 0
Read = Option (List ℕ × ℕ)

abbrev pub one : ℕ → ℕ → Read
one c n = Some (c ∷ [], n)

-- a character by its code, where there is one: at most 10FFFF, and no surrogate
abbrev pub coded : ℕ → ℕ → Read
coded code n = if scalar code then one code n else None

-- exactly so many hexadecimal digits, after a backslash and a letter
abbrev pub hexadecimal : ℕ → List ℕ → Read
hexadecimal count text =
    let digits = take count (drop 2 text) in
    if prefix_len (λ c. is_digit c 16) digits == count then coded (digits_value 16 digits) (2 + count) else None

-- one to three octal digits, after a backslash
abbrev pub octal : List ℕ → Read
octal text =
    let n = prefix_len (λ c. is_digit c 8) (take 3 (drop 1 text)) in
    coded (digits_value 8 (take n (drop 1 text))) (1 + n)

-- the character for which a letter or a mark after a backslash stands
abbrev pub short_escape : ℕ → Option ℕ
short_escape e =
    if e == 92 then Some 92
    else if e == 39 then Some 39
    else if e == 34 then Some 34
    else if e == 97 then Some 7
    else if e == 98 then Some 8
    else if e == 102 then Some 12
    else if e == 110 then Some 10
    else if e == 114 then Some 13
    else if e == 116 then Some 9
    else if e == 118 then Some 11
    else None

-- a backslash and the character after it stay
abbrev pub kept : List ℕ → Read
kept text = Some (take 2 text, 2)

abbrev pub long_escape : ℕ → List ℕ → Read
long_escape e text =
    if e == line_feed then Some ([], 2)
    else if e == 120 then hexadecimal 2 text
    else if e == 117 then hexadecimal 4 text
    else if e == 85 then hexadecimal 8 text
    else if e == 78 then None
    else if is_digit e 8 then octal text
    else kept text

abbrev pub short_or : Option ℕ → Read → Read
short_or None other = other
short_or (Some c) other = one c 2

-- what a backslash and the characters after it stand for
unfoldable pub escape : List ℕ → Read
escape text = short_or (short_escape (slice_index text 1)) (long_escape (slice_index text 1) text)

-- the first item of a text that isn't empty: an escape or a character
unfoldable pub item : Bool → Bool → List ℕ → Read
item is_raw is_triple text =
    if slice_index text 0 == backslash then (if nat_lt 1 (length text) then (if is_raw then kept text else escape text) else None)
    else if slice_index text 0 == line_feed && not is_triple then None
    else one (slice_index text 0) 1

-- three quotes stand at the front
abbrev pub is_threefold : ℕ → List ℕ → Bool
is_threefold quote text = slice_index text 0 == quote && (slice_index text 1 == quote && slice_index text 2 == quote)

unfoldable pub closes : ℕ → Bool → List ℕ → Bool
closes quote is_triple text = if is_triple then is_threefold quote text else slice_index text 0 == quote

-- how many quotes stand on each side
abbrev pub quotes : Bool → ℕ
quotes is_triple = if is_triple then 3 else 1

-- what comes first, in UTF-8, and then the rest
abbrev pub onto : List ℕ → ℕ → Read → Read
onto front n None = None
onto front n (Some rest) = Some (front ++ rest.0, n + rest.1)

abbrev pub after_item : Read → (ℕ → Read) → Read
after_item None go = None
after_item (Some i) go = onto (encode_utf8_all i.0) i.1 (go (i.1 - 1))

-- the number counts the characters that are left of an item
abbrev pub body_from : Bool → ℕ → Bool → ℕ → List ℕ → Read
body_from is_raw quote is_triple left [] = None
body_from is_raw quote is_triple (suc left) (c ∷ cs) = body_from is_raw quote is_triple left cs
body_from is_raw quote is_triple zero (c ∷ cs) =
    if closes quote is_triple (c ∷ cs) then Some ([], quotes is_triple)
    else after_item (item is_raw is_triple (c ∷ cs)) (λ left. body_from is_raw quote is_triple left cs)

-- after the opening quotes: the text's bytes in UTF-8, and how many characters it takes with the closing quotes
unfoldable pub body : Bool → ℕ → Bool → List ℕ → Read
body is_raw quote is_triple text = body_from is_raw quote is_triple 0 text

-- from the opening quotes on
unfoldable pub quoted : Bool → List ℕ → Read
quoted is_raw text =
    let quote = slice_index text 0 in
    let is_triple = is_threefold quote text in
    onto [] (quotes is_triple) (body is_raw quote is_triple (drop (quotes is_triple) text))
