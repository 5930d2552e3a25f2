-- The rules of lines, brackets and indentation, said as a language of pieces (Python Language Reference 3, "Line structure"). `Layout` reads a text from the front with a
-- state; here nothing is read and no state is kept. `Lines` says which tokens a list of pieces has: brackets lie in one another, and indentations are a stack of texts,
-- each one a proper prefix of the next. `kishu_lexer` proves that both give the same tokens.
use Rattle.std.specs.Prelude.{◌≡◌, ℕ, Bool, true, false, if◌then◌else◌, List, [], ◌∷◌, ◌++◌, length, replicate, Option, Some, None, nat_eq}
use Rattle.std.specs.Str.{bytes_eq}
use Rattle.std.specs.List.{starts_with}
use Rattle.kishu_language.specs.declared.token.Mark.{Mark}
use Rattle.kishu_language.specs.tokens.Lexemes.{Lexeme, blank, comment, bad_comment, joined, feed, word, number, string, sign, bad}
use Rattle.kishu_language.specs.tokens.Layout.{Kind, integer, quoted, newline, indent, dedent, mark, Token, token, Item, End, end_of, cut, word_kind, top, is_opening, is_closing, closes}

-- a piece that gives no token and ends no line: white space, a comment, or a backslash with the line feed after it
abbrev pub is_quiet : Lexeme → Bool
is_quiet (blank w) = true
is_quiet comment = true
is_quiet joined = true
is_quiet feed = false
is_quiet (word w) = false
is_quiet (number z) = false
is_quiet (string t) = false
is_quiet (sign k) = false
is_quiet bad_comment = false
is_quiet (bad below) = false

-- The token of a piece that is no bracket. (No rule takes a bad piece, so a text with one has no tokens.)
abbrev pub value : Lexeme → Option Kind
value (word w) = Some (word_kind w)
value (number z) = Some (integer z)
value (string t) = Some (quoted t)
value (sign k) = if is_opening k then None else (if is_closing k then None else Some (mark k))
value (blank w) = None
value comment = None
value joined = None
value feed = None
value bad_comment = None
value (bad below) = None

abbrev pub token_at : Kind → Item → Token
token_at k i = token k i.line i.start i.end

-- A rule over two lists speaks of the pieces with which the first begins and the second doesn't: it holds of what stands before the second list.

-- pieces that give nothing
pub data Quiet : List Item → List Item → Type 0 where
  here : {is : List Item} → Quiet is is
  over : {i : Item} {is js : List Item} → is_quiet i.what ≡ true → Quiet is js → Quiet (i ∷ is) js

-- What stands between brackets, with its tokens. A line feed gives nothing there, and each bracket is closed by its own kind.
pub data Inside : List Item → List Item → List Token → Type 0 where
  nothing : {is : List Item} → Inside is is []
  skip : {i : Item} {is js : List Item} {ts : List Token} → is_quiet i.what ≡ true → Inside is js ts → Inside (i ∷ is) js ts
  new_line : {i : Item} {is js : List Item} {ts : List Token} → i.what ≡ feed → Inside is js ts → Inside (i ∷ is) js ts
  one : {i : Item} {is js : List Item} {ts : List Token} {k : Kind} → value i.what ≡ Some k → Inside is js ts → Inside (i ∷ is) js (token_at k i ∷ ts)
  group : {i j : Item} {o c : Mark} {is js ks : List Item} {ts us : List Token} → i.what ≡ sign o → j.what ≡ sign c → is_opening o ≡ true → closes o c ≡ true
      → Inside is (j ∷ js) ts → Inside js ks us → Inside (i ∷ is) ks (token_at (mark o) i ∷ (ts ++ token_at (mark c) j ∷ us))

-- The rest of a logical line, up to its line feed, with its tokens. A last line without a line feed ends, at the end of the text, as if it had one.
pub data Line : End → List Item → List Item → List Token → Type 0 where
  last : {at : End} → Line at [] [] (token newline at.0 at.1 at.1 ∷ [])
  ends : {at : End} {i : Item} {is : List Item} → i.what ≡ feed → Line at (i ∷ is) is (token_at newline i ∷ [])
  skip_in : {at : End} {i : Item} {is js : List Item} {ts : List Token} → is_quiet i.what ≡ true → Line at is js ts → Line at (i ∷ is) js ts
  one_in : {at : End} {i : Item} {is js : List Item} {ts : List Token} {k : Kind} → value i.what ≡ Some k → Line at is js ts → Line at (i ∷ is) js (token_at k i ∷ ts)
  group_in : {at : End} {i j : Item} {o c : Mark} {is js ks : List Item} {ts us : List Token} → i.what ≡ sign o → j.what ≡ sign c → is_opening o ≡ true → closes o c ≡ true
      → Inside is (j ∷ js) ts → Line at js ks us → Line at (i ∷ is) ks (token_at (mark o) i ∷ (ts ++ token_at (mark c) j ∷ us))

-- a piece with which a logical line may begin
abbrev pub begins : Lexeme → Bool
begins (word w) = true
begins (number z) = true
begins (string t) = true
begins (sign k) = true
begins (blank w) = false
begins comment = false
begins joined = false
begins feed = false
begins bad_comment = false
begins (bad below) = false

-- What stands before the first token of a logical line. Its indentation is its leading text of spaces and tabs, here with the line and the places of that text:
-- the first piece where this is blanks, and else empty, before the first token or the backslash that comes first. (A comment ends its line, so in a text `past` leads to nothing.)
pub data Lead : List Item → List Item → List ℕ → ℕ → ℕ → ℕ → Type 0 where
  blanks : {i j : Item} {is js : List Item} {w : List ℕ} → i.what ≡ blank w → Quiet is (j ∷ js) → begins j.what ≡ true → Lead (i ∷ is) (j ∷ js) w i.line i.start i.end
  bare : {i : Item} {is : List Item} → begins i.what ≡ true → Lead (i ∷ is) (i ∷ is) [] i.line i.start i.start
  joint : {i j : Item} {is js : List Item} → i.what ≡ joined → Quiet is (j ∷ js) → begins j.what ≡ true → Lead (i ∷ is) (j ∷ js) [] i.line i.start i.start
  past : {i : Item} {is js : List Item} {w : List ℕ} {line from to : ℕ} → i.what ≡ comment → Lead is js w line from to → Lead (i ∷ is) js w line from to

-- Entries are taken off the stack of indentations, one DEDENT each, down to the one that is equal; the empty one is below all. A DEDENT takes no bytes.
pub data Back : List ℕ → ℕ → ℕ → List (List ℕ) → List (List ℕ) → List Token → Type 0 where
  found : {w v : List ℕ} {line at : ℕ} {vs : List (List ℕ)} → bytes_eq w v ≡ true → Back w line at (v ∷ vs) (v ∷ vs) []
  bottom : {w : List ℕ} {line at : ℕ} → bytes_eq w [] ≡ true → Back w line at [] [] []
  off : {w v : List ℕ} {line at : ℕ} {vs us : List (List ℕ)} {ts : List Token} → bytes_eq w v ≡ false → Back w line at vs us ts → Back w line at (v ∷ vs) us (token dedent line at at ∷ ts)

-- An indentation w on this line, from one place to the other, with the stack before and after, and the tokens. Equal to the top: nothing. The top is a proper prefix
-- of it: INDENT, which is w itself, and w is pushed. Else one DEDENT per entry taken off, at the end of w.
pub data Indentation : List ℕ → ℕ → ℕ → ℕ → List (List ℕ) → List (List ℕ) → List Token → Type 0 where
  equal : {w : List ℕ} {line from to : ℕ} {vs : List (List ℕ)} → bytes_eq w (top vs) ≡ true → Indentation w line from to vs vs []
  longer : {w : List ℕ} {line from to : ℕ} {vs : List (List ℕ)} → bytes_eq w (top vs) ≡ false → starts_with nat_eq w (top vs) ≡ true
      → Indentation w line from to vs (w ∷ vs) (token indent line from to ∷ [])
  lower : {w : List ℕ} {line from to : ℕ} {vs us : List (List ℕ)} {ts : List Token} → bytes_eq w (top vs) ≡ false → starts_with nat_eq w (top vs) ≡ false → Back w line to vs us ts
      → Indentation w line from to vs us ts

-- The lines of a text, with the stack of indentations before them (without the empty one, the longest first) and their tokens. A line of pieces that give nothing gives
-- none, and its indentation counts for nothing. At the end DEDENTs empty the stack.
pub data Lines : End → List (List ℕ) → List Item → List Token → Type 0 where
  over_all : {at : End} {vs : List (List ℕ)} {is : List Item} → Quiet is [] → Lines at vs is (replicate (length vs) (token dedent at.0 at.1 at.1))
  blank_line : {at : End} {vs : List (List ℕ)} {i : Item} {is js : List Item} {ts : List Token} → Quiet is (i ∷ js) → i.what ≡ feed → Lines at vs js ts → Lines at vs is ts
  line : {at : End} {vs us : List (List ℕ)} {w : List ℕ} {row from to : ℕ} {i : Item} {is js ks : List Item} {ts before after : List Token} → Lead is (i ∷ js) w row from to
      → Indentation w row from to vs us before → Line at (i ∷ js) ks ts → Lines at us ks after → Lines at vs is (before ++ (ts ++ after))

-- a text with plain line ends has these tokens
abbrev pub HasTokens : List ℕ → List Token → Type 0
HasTokens cs ts = Lines (end_of 1 0 cs) [] (cut 1 0 cs) ts
