-- What the code's values stand for.
use Rattle.std.specs.Prelude.{ℕ, ◌==◌, Bool, if◌then◌else◌, List, [], ◌∷◌, map, String}
use Rattle.std.proofs.Common.{Bor}
use Rattle.kishu_language.specs.declared.token.Mark.{Mark}
use Rattle.kishu_language.specs.tokens.Marks.{Spelled}
use Rattle.std.specs.String.{string_bytes}
use Rattle.kishu_language.specs.tokens.Names.{is_digit, is_letter, is_word_char}
use Rattle.kishu_language.specs.tokens.Lexemes as spec
use Rattle.kishu_lexer.specs.declared.quoted.Meant.{Meant}
use Rattle.kishu_lexer.specs.declared.quoted.Meant.TheVariants as code_meant
use Rattle.kishu_lexer.specs.declared.pieces.Lexeme.{Lexeme}
use Rattle.kishu_lexer.specs.declared.pieces.Lexeme.TheVariants as code
use Rattle.kishu_lexer.specs.declared.pieces.Class.{Class}
use Rattle.kishu_lexer.specs.declared.pieces.Class.TheVariants as class

-- spellings and marks
abbrev pub spelled : List (Bor (List ℕ) × Mark) → List Spelled
spelled table = map (λ (e : Bor (List ℕ) × Mark). (e.0.now, e.1)) table

-- what a character becomes where line ends are made plain, by the one after it
abbrev pub plain_char : ℕ → ℕ → List ℕ
plain_char c next = if c == 13 then (if next == 10 then [] else 10 ∷ []) else c ∷ []

abbrev pub meant : Meant → List ℕ
meant code_meant.Nothing = []
meant (code_meant.One c) = c ∷ []
meant (code_meant.Kept text) = text.now

abbrev pub read_of : Meant × ℕ → List ℕ × ℕ
read_of r = (meant r.0, r.1)

abbrev pub found_of : {Z : Type 0} → String Z × ℕ → List ℕ × ℕ
found_of r = (string_bytes r.0, r.1)

abbrev pub is_in : Class → ℕ → Bool
is_in class.Blank c = spec.is_blank c
is_in class.Letter c = is_letter c
is_in class.Digit c = is_digit c
is_in class.Word c = is_word_char c
is_in class.Line c = spec.is_no_feed c
is_in class.Quote c = spec.is_quote c
is_in class.Raw c = spec.is_raw_prefix c
is_in class.Prefix c = spec.is_prefix c

abbrev pub seen : Lexeme → spec.Lexeme
seen (code.Blank text) = spec.blank text.now
seen code.Comment = spec.comment
seen code.BadComment = spec.bad_comment
seen code.Joined = spec.joined
seen code.Feed = spec.feed
seen (code.Word text) = spec.word text.now
seen (code.Number z) = spec.number z
seen (code.Text text) = spec.string (string_bytes text)
seen (code.Sign mark) = spec.sign mark
seen (code.Bad below) = spec.bad below

abbrev pub cut_of : Lexeme × ℕ → spec.Cut
cut_of r = (seen r.0, r.1)
