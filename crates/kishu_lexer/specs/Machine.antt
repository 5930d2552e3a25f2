-- What a lexer of the code stands for, and what its calls answer.
use Rattle.std.specs.Prelude.{◌≡◌, ℕ, List, map, reverse, ◌+◌, ◌<◌, ◌^◌, true, Result, Ok, Err}
use Rattle.kishu_language.specs.tokens.Tokens.{token_of}
use Rattle.kishu_language.specs.declared.token.Token as rust
use Rattle.std.specs.List.{list_all}
use Rattle.kishu_language.specs.tokens.Names.{is_word_char}
use Rattle.kishu_language.specs.tokens.Lexemes as pieces
use Rattle.kishu_language.specs.tokens.Layout as spec
use Rattle.kishu_language.specs.tokens.Layout.{Outcome, State, Token}
use Rattle.kishu_lexer.specs.declared.layout.Start.{Start}
use Rattle.kishu_lexer.specs.declared.layout.Start.TheVariants as code
use Rattle.kishu_lexer.specs.declared.layout.Lexer.{Lexer}
use Rattle.kishu_lexer.specs.declared.fault.SyntaxFault.{SyntaxFault}
use Rattle.kishu_lexer.specs.declared.fault.SyntaxFault.TheVariants as fault

abbrev pub start_of : Start → spec.Start
start_of code.Fresh = spec.fresh
start_of (code.Led blanks line start end) = spec.led blanks line start end
start_of code.Inside = spec.inside

abbrev pub tokens_of : List rust.Token → List Token
tokens_of ts = map token_of ts

abbrev pub state_of : Lexer → State
state_of l = record { out = tokens_of l.out.items; brackets = reverse l.brackets.items; indents = reverse l.indents.items; begun = start_of l.begun }

-- the definition has that line too; want of memory says nothing
abbrev pub Fails : {A : Type 0} → Outcome A → SyntaxFault → Type 0
Fails outcome (fault.Syntax line) = outcome ≡ Err line
Fails outcome fault.NoMemory = Unit {0}

-- what a step that may fail gives
abbrev pub Gives : {A B : Type 0} → Outcome A → Result B SyntaxFault → A → Type 0
Gives outcome (Ok b) new = outcome ≡ Ok new
Gives outcome (Err e) new = Fails outcome e

-- what a call that answers tokens gives
abbrev pub Answers : {Z : Type 0} → Outcome (List Token) → Result Z SyntaxFault → (Z → List rust.Token) → Type 0
Answers outcome (Ok v) items = outcome ≡ Ok (tokens_of (items v))
Answers outcome (Err e) items = Fails outcome e

-- a word's characters are those of words, and a fault's line has room
abbrev pub IsWhole : pieces.Lexeme → ℕ → Type 0
IsWhole (pieces.blank w) line = Unit {0}
IsWhole (pieces.word w) line = list_all is_word_char w ≡ true
IsWhole (pieces.bad below) line = line + below < 2 ^ 32
IsWhole pieces.comment line = Unit {0}
IsWhole pieces.bad_comment line = Unit {0}
IsWhole pieces.joined line = Unit {0}
IsWhole pieces.feed line = Unit {0}
IsWhole (pieces.number z) line = Unit {0}
IsWhole (pieces.string t) line = Unit {0}
IsWhole (pieces.sign k) line = Unit {0}
