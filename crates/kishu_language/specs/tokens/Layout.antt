-- Lines, brackets and indentation (Python Language Reference 3, "Line structure").
use Rattle.std.specs.Prelude.{ℕ, zero, suc, ◌+◌, ◌-◌, ℤ, Bool, true, false, ◌&&◌, ◌||◌, if◌then◌else◌, List, [], ◌∷◌, ◌++◌, length, take, replicate, Option, Some, None, Result, Ok, Err, nat_eq}
use Rattle.std.specs.Str.{bytes_eq}
use Rattle.std.specs.List.{starts_with, sum_by}
use Rattle.std.specs.Char.{len_utf8}
use denote.Enum.Bare.{sameb}
use Rattle.kishu_language.specs.contracts.token.Mark.{the_type}
use Rattle.kishu_language.specs.declared.token.Mark.{Mark}
use Rattle.kishu_language.specs.declared.token.Mark.TheVariants as m
use Rattle.kishu_language.specs.tokens.Marks.{reserved_mark}
use Rattle.kishu_language.specs.tokens.Lexemes.{Lexeme, blank, comment, bad_comment, joined, feed, word, number, string, sign, bad, lexeme, feeds}

-- what a token is; a name's and a text's bytes are in UTF-8
pub data Kind : Type 0 where
  name : List ℕ → Kind
  integer : ℤ → Kind
  quoted : List ℕ → Kind
  newline : Kind
  indent : Kind
  dedent : Kind
  mark : Mark → Kind

pub record Token : Type 0 where
  pub kind : Kind
  -- from 1
  pub line : ℕ
  -- the place of its first byte, and the place behind its last
  pub start : ℕ
  pub end : ℕ

-- what there is, or the line of the fault that comes first
abbrev pub Outcome : Type 0 → Type 0
Outcome A = Result A ℕ

infixl 10 ◌>>=◌
abbrev pub ◌>>=◌ : {A B : Type 0} → Outcome A → (A → Outcome B) → Outcome B
(Ok x) >>= f = f x
(Err e) >>= f = Err e

-- ---- a text as pieces

-- how many bytes some characters take
abbrev pub width : List ℕ → ℕ
width cs = sum_by len_utf8 cs

-- a piece, with the line on which it begins and the places of its bytes
pub record Item : Type 0 where
  pub what : Lexeme
  pub line : ℕ
  pub start : ℕ
  pub end : ℕ

-- The first number counts the characters that are left of a piece.
abbrev pub cut_from : ℕ → ℕ → ℕ → List ℕ → List Item
cut_from left line start [] = []
cut_from (suc left) line start (c ∷ cs) = cut_from left line start cs
cut_from zero line start (c ∷ cs) =
    let piece = lexeme (c ∷ cs) in
    let taken = take piece.1 (c ∷ cs) in
    record { what = piece.0; line = line; start = start; end = start + width taken } ∷ cut_from (piece.1 - 1) (line + feeds taken) (start + width taken) cs

-- the pieces of what begins on this line at this place
unfoldable pub cut : ℕ → ℕ → List ℕ → List Item
cut line start cs = cut_from 0 line start cs

-- ---- what is known between two pieces

pub data Start : Type 0 where
  -- nothing of the line was met yet
  fresh : Start
  -- its leading blanks alone, with their line and their places
  led : List ℕ → ℕ → ℕ → ℕ → Start
  -- a token
  inside : Start

pub record State : Type 0 where
  pub out : List Token
  -- the brackets that are open, the innermost first, each with its line
  pub brackets : List (Mark × ℕ)
  -- the indentations but for the empty one, the longest first
  pub indents : List (List ℕ)
  pub begun : Start

abbrev pub token : Kind → ℕ → ℕ → ℕ → Token
token k line start end = record { kind = k; line = line; start = start; end = end }

abbrev pub emit : Token → State → State
emit t s = record s { out = s.out ++ t ∷ [] }

-- ---- indentation: all that it gives stands on the line of the leading blanks

abbrev pub top : List (List ℕ) → List ℕ
top [] = []
top (w ∷ ws) = w

-- one DEDENT for each entry that is taken off, down to the equal one
abbrev pub dedents : List ℕ → ℕ → ℕ → List (List ℕ) → List Token → Outcome (List (List ℕ) × List Token)
dedents w line at [] out = if bytes_eq w [] then Ok ([], out) else Err line
dedents w line at (v ∷ vs) out = if bytes_eq w v then Ok (v ∷ vs, out) else dedents w line at vs (out ++ token dedent line at at ∷ [])

abbrev pub dedented : State → Outcome (List (List ℕ) × List Token) → Outcome State
dedented s (Ok p) = Ok (record s { indents = p.0; out = p.1 })
dedented s (Err e) = Err e

-- The leading blanks w are deeper than those before.
abbrev pub deeper : List ℕ → ℕ → ℕ → ℕ → State → State
deeper w line start end s = emit (token indent line start end) (record s { indents = w ∷ s.indents })

-- The leading blanks w stand on this line, from `start` to `end`.
unfoldable pub indented : List ℕ → ℕ → ℕ → ℕ → State → Outcome State
indented w line start end s =
    if bytes_eq w (top s.indents) then Ok s
    else if starts_with nat_eq w (top s.indents) then Ok (deeper w line start end s)
    else dedented s (dedents w line end s.indents s.out)

-- before the first token of a line; without leading blanks it is on this line at this place
abbrev pub begin_at : Start → ℕ → ℕ → State → Outcome State
begin_at inside line at s = Ok s
begin_at fresh line at s = indented [] line at at (record s { begun = inside })
begin_at (led w row start end) line at s = indented w row start end (record s { begun = inside })

unfoldable pub begin : ℕ → ℕ → State → Outcome State
begin line at s = begin_at s.begun line at s

-- ---- brackets

abbrev pub same : Mark → Mark → Bool
same = sameb the_type

abbrev pub is_opening : Mark → Bool
is_opening k = same k m.LeftParenthesis || (same k m.LeftBracket || same k m.LeftBrace)

abbrev pub is_closing : Mark → Bool
is_closing k = same k m.RightParenthesis || (same k m.RightBracket || same k m.RightBrace)

-- the first is closed by the second
abbrev pub closes : Mark → Mark → Bool
closes o k =
    (same o m.LeftParenthesis && same k m.RightParenthesis)
    || ((same o m.LeftBracket && same k m.RightBracket) || (same o m.LeftBrace && same k m.RightBrace))

abbrev pub close : Mark → ℕ → List (Mark × ℕ) → State → Outcome State
close k line [] s = Err line
close k line (b ∷ bs) s = if closes b.0 k then Ok (record s { brackets = bs }) else Err line

abbrev pub opened : Mark → ℕ → State → State
opened k line s = record s { brackets = (k, line) ∷ s.brackets }

unfoldable pub bracket : Mark → ℕ → State → Outcome State
bracket k line s =
    if is_opening k then Ok (opened k line s)
    else if is_closing k then close k line s.brackets s
    else Ok s

-- ---- one piece

abbrev pub word_or : List ℕ → Option Mark → Kind
word_or w None = name w
word_or w (Some k) = mark k

abbrev pub word_kind : List ℕ → Kind
word_kind w = word_or w (reserved_mark w)

abbrev pub is_none : {A : Type 0} → List A → Bool
is_none [] = true
is_none (x ∷ xs) = false

-- The blanks before a joined line are all the indentation that there is.
abbrev pub blank_at : Start → List ℕ → ℕ → ℕ → ℕ → State → State
blank_at fresh w line start end s = record s { begun = led w line start end }
blank_at (led v row from to) w line start end s = s
blank_at inside w line start end s = s

-- A line ends where no bracket is open. One without a token gives none.
abbrev pub feed_at : Start → ℕ → ℕ → ℕ → State → State
feed_at inside line start end s = if is_none s.brackets then emit (token newline line start end) (record s { begun = fresh }) else s
feed_at fresh line start end s = s
feed_at (led w row from to) line start end s = record s { begun = fresh }

-- a token that is no bracket
abbrev pub plain : Kind → ℕ → ℕ → ℕ → State → Outcome State
plain k line start end s = do
  b ← begin line start s
  Ok (emit (token k line start end) b)

abbrev pub marked : Mark → ℕ → ℕ → ℕ → State → Outcome State
marked k line start end s = do
  b ← begin line start s
  c ← bracket k line b
  Ok (emit (token (mark k) line start end) c)

-- A fault on a line, in a piece that begins on this one and would be a token. The indentation before it comes first in the text.
abbrev pub wrong : ℕ → ℕ → ℕ → State → Outcome State
wrong fault line start s = do
  b ← begin line start s
  Err fault

-- A piece that begins on this line and stands at these places. A comment begins no logical line.
unfoldable pub step : Lexeme → ℕ → ℕ → ℕ → State → Outcome State
step (blank w) line start end s = Ok (blank_at s.begun w line start end s)
step comment line start end s = Ok s
step bad_comment line start end s = Err line
step joined line start end s = Ok (blank_at s.begun [] line start start s)
step feed line start end s = Ok (feed_at s.begun line start end s)
step (word w) line start end s = plain (word_kind w) line start end s
step (number z) line start end s = plain (integer z) line start end s
step (string t) line start end s = plain (quoted t) line start end s
step (sign k) line start end s = marked k line start end s
step (bad below) line start end s = wrong (line + below) line start s

abbrev pub steps : List Item → State → Outcome State
steps [] s = Ok s
steps (i ∷ is) s = step i.what i.line i.start i.end s >>= steps is

-- ---- the end

-- the line and the place of the end
abbrev pub End : Type 0
End = ℕ × ℕ

abbrev pub end_of : ℕ → ℕ → List ℕ → End
end_of line start cs = (line + feeds cs, start + width cs)

-- A last line without a line feed ends as if it had one.
abbrev pub ended : Start → End → State → State
ended inside at s = emit (token newline at.0 at.1 at.1) s
ended fresh at s = s
ended (led w row from to) at s = s

-- A bracket that is open at the end is a fault on its line.
abbrev pub finish : List (Mark × ℕ) → End → State → Outcome (List Token)
finish (b ∷ bs) at s = Err b.1
finish [] at s = (let e = ended s.begun at s in Ok (e.out ++ replicate (length e.indents) (token dedent at.0 at.1 at.1)))

abbrev pub empty : State
empty = record { out = []; brackets = []; indents = []; begun = fresh }

-- the tokens of a text with plain line ends
unfoldable pub layout : List ℕ → Outcome (List Token)
layout cs = do
  s ← steps (cut 1 0 cs) empty
  finish s.brackets (end_of 1 0 cs) s
