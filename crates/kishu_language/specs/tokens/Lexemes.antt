-- The pieces of a text, each as long as it can be (Python Language Reference 3, "Lexical analysis").
use Rattle.std.specs.Prelude.{ℕ, ℤ, ◌+◌, Bool, false, not, ◌&&◌, ◌||◌, nat_le, ◌==◌, if◌then◌else◌, List, take, drop, slice_index, Option, Some, None}
use Rattle.std.specs.List.{prefix_len, position, count_by}
use Rattle.kishu_language.specs.declared.token.Mark.{Mark}
use Rattle.kishu_language.specs.tokens.Lines.{line_feed}
use Rattle.kishu_language.specs.tokens.Names.{is_digit, is_letter, is_word_char, longest_name}
use Rattle.kishu_language.specs.tokens.Numerals.{numeral}
use Rattle.kishu_language.specs.tokens.Quoted.{Read, quoted, backslash}
use Rattle.kishu_language.specs.tokens.Marks.{operator}

pub data Lexeme : Type 0 where
  -- spaces and tabs
  blank : List ℕ → Lexeme
  -- from `#` to the end of the line
  comment : Lexeme
  -- a comment in which a character of code 0 stands, which is a fault
  bad_comment : Lexeme
  -- a backslash and a line feed
  joined : Lexeme
  feed : Lexeme
  word : List ℕ → Lexeme
  number : ℤ → Lexeme
  -- a text, its bytes in UTF-8
  string : List ℕ → Lexeme
  sign : Mark → Lexeme
  -- a fault, so many lines below the piece's first
  bad : ℕ → Lexeme

abbrev pub is_blank : ℕ → Bool
is_blank c = c == 32 || c == 9

abbrev pub is_feed : ℕ → Bool
is_feed c = c == line_feed

abbrev pub is_no_feed : ℕ → Bool
is_no_feed c = not (is_feed c)

abbrev pub is_null : ℕ → Bool
is_null c = c == 0

abbrev pub is_dot : ℕ → Bool
is_dot c = c == 46

-- how many lines end
abbrev pub feeds : List ℕ → ℕ
feeds text = count_by is_feed text

-- a piece, and how many characters it takes
abbrev pub Cut : Type 0
Cut = Lexeme × ℕ

abbrev pub by_place : List ℕ → Lexeme → Option ℕ → Lexeme
by_place taken piece None = piece
by_place taken piece (Some place) = bad (feeds (take place taken))

-- the character of code 0 is a fault on its line, in a text too
abbrev pub unless_null : List ℕ → Lexeme → Lexeme
unless_null taken piece = by_place taken piece (position is_null taken)

abbrev pub name : List ℕ → ℕ → Cut
name letters n = if nat_le n longest_name then (word letters, n) else (bad 0, n)

abbrev pub is_quote : ℕ → Bool
is_quote c = c == 39 || c == 34

abbrev pub is_raw_prefix : ℕ → Bool
is_raw_prefix c = c == 114 || c == 82

-- of the letter before the opening quote
abbrev pub is_prefix : ℕ → Bool
is_prefix c = is_raw_prefix c || (c == 117 || c == 85)

-- A text that doesn't end, or in which an escape is wrong, is a fault where it begins.
abbrev pub text_from : ℕ → List ℕ → Read → Cut
text_from before all None = (bad 0, 1)
text_from before all (Some t) = (unless_null (take (before + t.1) all) (string t.0), before + t.1)

abbrev pub value_or_bad : ℕ → Option ℤ → Lexeme
value_or_bad next None = bad 0
value_or_bad next (Some z) = if is_dot next then bad 0 else number z

abbrev pub sign_or_bad : Option (Mark × ℕ) → Cut
sign_or_bad None = (bad 0, 1)
sign_or_bad (Some t) = (sign t.0, t.1)

abbrev pub blanks : List ℕ → Cut
blanks all = let n = prefix_len is_blank all in (blank (take n all), n)

-- The character of code 0 is a fault in a comment too. It is on the comment's line, as a comment has one.
abbrev pub comment_by : Option ℕ → Lexeme
comment_by None = comment
comment_by (Some place) = bad_comment

abbrev pub remark : List ℕ → Cut
remark all = let n = prefix_len is_no_feed all in (comment_by (position is_null (take n all)), n)

abbrev pub after_backslash : ℕ → Cut
after_backslash next = if next == line_feed then (joined, 2) else (bad 0, 1)

abbrev pub letters : List ℕ → Cut
letters all = let n = prefix_len is_word_char all in name (take n all) n

-- A letter, a digit, `_` or `.` directly after a number is a fault.
abbrev pub digits : List ℕ → Cut
digits all = let n = prefix_len is_word_char all in (value_or_bad (slice_index all n) (numeral (take n all)), n)

-- by the first characters: a text, with or without a prefix, a word, a number or a mark
unfoldable pub token_piece : List ℕ → Cut
token_piece all =
    let c = slice_index all 0 in
    let next = slice_index all 1 in
    if is_quote c then text_from 0 all (quoted false (drop 0 all))
    else if is_prefix c && is_quote next then text_from 1 all (quoted (is_raw_prefix c) (drop 1 all))
    else if is_letter c then letters all
    else if is_digit c then digits all
    else sign_or_bad (operator c next (slice_index all 2))

-- the piece at the front of a text that isn't empty
unfoldable pub lexeme : List ℕ → Cut
lexeme all =
    let c = slice_index all 0 in
    if is_blank c then blanks all
    else if is_feed c then (feed, 1)
    else if c == 35 then remark all
    else if c == backslash then after_backslash (slice_index all 1)
    else token_piece all
