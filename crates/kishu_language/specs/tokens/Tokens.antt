-- Which tokens a text has (Python Language Reference 3, "Lexical analysis").
use Rattle.std.specs.Prelude.{ℕ, List}
use Rattle.std.specs.Rc.{rc_str_bytes}
use Rattle.std.specs.Str.{chars}
use Rattle.kishu_language.specs.declared.profile.Profile.{Profile}
use Rattle.kishu_language.specs.declared.token.Token as rust_token
use Rattle.kishu_language.specs.declared.token.TokenKind as rust
use Rattle.kishu_language.specs.declared.token.TokenKind.TheVariants as rust_kind
use Rattle.kishu_language.specs.tokens.PlainLines.{plain_lines}
use Rattle.kishu_language.specs.tokens.Layout.{Kind, name, integer, quoted, newline, indent, dedent, mark, Token, token, Outcome, layout}

-- of the code's tokens
abbrev pub kind_of : rust.TokenKind → Kind
kind_of (rust_kind.Name bytes) = name (rc_str_bytes bytes)
kind_of (rust_kind.Number z) = integer z
kind_of (rust_kind.Text bytes) = quoted (rc_str_bytes bytes)
kind_of rust_kind.Newline = newline
kind_of rust_kind.Indent = indent
kind_of rust_kind.Dedent = dedent
kind_of (rust_kind.Mark k) = mark k

abbrev pub token_of : rust_token.Token → Token
token_of t = token (kind_of t.kind) t.line t.start t.end

-- the tokens of a text of characters, or the line of the fault that comes first; the same under every profile
abbrev pub tokens_of_chars : Profile → List ℕ → Outcome (List Token)
tokens_of_chars profile cs = layout (plain_lines cs)

-- the same of a text's bytes in UTF-8
abbrev pub tokens : Profile → List ℕ → Outcome (List Token)
tokens profile text = tokens_of_chars profile (chars text)
