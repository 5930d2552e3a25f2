-- What the parser's values stand for, and what its calls answer.
use Rattle.std.specs.Prelude.{◌≡◌, ℕ, List, [], ◌∷◌, drop, map, Result, Ok, Err, Option, Some, None}
use Rattle.kishu_language.specs.declared.token.Token as rust
use Rattle.kishu_language.specs.tokens.Tokens.{token_of}
use Rattle.kishu_language.specs.declared.token.Mark.{Mark}
use Rattle.kishu_language.specs.tokens.Layout.{Kind}
use Rattle.kishu_language.specs.grammar.Language.{Tokens}
use Rattle.kishu_language.specs.reading.Reader.{Outcome, next, in_table}
use Rattle.kishu_parser.specs.declared.cursor.Stop.{Stop}
use Rattle.kishu_parser.specs.declared.cursor.Stop.TheVariants as stop

abbrev pub tokens_of : List rust.Token → Tokens
tokens_of ts = map token_of ts

-- the tokens from a place on
unfoldable pub left : List rust.Token → ℕ → Tokens
left ts at = tokens_of (drop at ts)

-- what the next token is
unfoldable pub front : Tokens → Option Kind
front [] = None
front (t ∷ ts) = Some t.kind

-- the next token, where it is a mark
unfoldable pub next_mark : Tokens → Option Mark
next_mark ts = next (in_table Some) ts

abbrev pub by_table : {A : Type 0} → (Mark → Option A) → Option Mark → Option A
by_table table None = None
by_table table (Some m) = table m

-- the reader refuses too; want of memory says nothing
abbrev pub Fails : {A : Type 0} → Outcome A → Stop → Type 0
Fails outcome stop.Refused = outcome ≡ None
Fails outcome stop.NoMemory = Unit {0}

-- What a call answers stands for what the reader gives, and the tokens that are left are those that the reader leaves.
abbrev pub Gives : {X A : Type 0} → (X → A) → Outcome A → Result X Stop → Tokens → Type 0
Gives view outcome (Ok x) new = outcome ≡ Some (view x, new)
Gives view outcome (Err e) new = Fails outcome e

abbrev pub nothing : Unit {0} → Unit {0}
nothing u = tt
