-- The names among the tokens of a text are names.
use Rattle.std.proofs.Common.{◌≡◌, ℕ, List, ◌∷◌, refl, ap, ◌∙◌}
use Rattle.std.specs.Prelude.{Ok}
use Rattle.std.specs.Str.{chars}
use Rattle.kishu_language.specs.declared.profile.Profile.{Profile}
use Rattle.kishu_language.specs.tokens.PlainLines.{plain_lines}
use Rattle.kishu_language.specs.tokens.Names.{is_name}
use Rattle.kishu_language.specs.tokens.Lexemes.{Lexeme, lexeme, blank, comment, bad_comment, joined, feed, word, number, string, sign, bad}
use Rattle.kishu_language.specs.tokens.Layout.{Kind, name, integer, quoted, newline, indent, dedent, mark}
use Rattle.kishu_token_laws.specs.PieceLaws.{is_fault, found_is_piece}
use Rattle.kishu_language.specs.rules.TokenRules.{Stands}
use Rattle.kishu_token_laws.specs.TokenPlaces.{kind_of, stands}
use Rattle.kishu_language.specs.tokens.Tokens.{tokens}
use Rattle.kishu_language.specs.trees.Tree.{Text}
use Rattle.kishu_language.specs.trees.Holds.{any}
use Rattle.kishu_language.specs.grammar.Language.{Tokens}
use Rattle.kishu_language_laws.specs.trees.Known.{Known, KindKnown, AllKnown}
use Rattle.kishu_language_laws.specs.trees.KnownTokens.{PieceKnown, pieces_known, tokens_known}

-- of numbers and texts nothing
abbrev pub names : Known
names = record { number = any; piece = any; text = any; joins = λ parts h. tt }

standing : (piece rest : List ℕ) (k : Kind) → Stands piece rest k → KindKnown names k
standing piece rest (name w) h = ap is_name h.0 ∙ h.1
standing piece rest (integer z) h = tt
standing piece rest (quoted x) h = tt
standing piece rest newline h = tt
standing piece rest indent h = tt
standing piece rest dedent h = tt
standing piece rest (mark k) h = tt

first_named : (c : ℕ) (cs : List ℕ) (l : Lexeme) → (lexeme (c ∷ cs)).0 ≡ l → PieceKnown names l
first_named c cs (word w) q k h = let p = (found_is_piece c cs).piece (ap is_fault q) in standing _ _ k (stands k p.rule (ap kind_of q ∙ h))
first_named c cs (number z) q k h = let p = (found_is_piece c cs).piece (ap is_fault q) in standing _ _ k (stands k p.rule (ap kind_of q ∙ h))
first_named c cs (string x) q k h = let p = (found_is_piece c cs).piece (ap is_fault q) in standing _ _ k (stands k p.rule (ap kind_of q ∙ h))
first_named c cs (sign s) q k h = let p = (found_is_piece c cs).piece (ap is_fault q) in standing _ _ k (stands k p.rule (ap kind_of q ∙ h))
first_named c cs (blank w) q k h = absurd cc
first_named c cs comment q k h = absurd cc
first_named c cs bad_comment q k h = absurd cc
first_named c cs joined q k h = absurd cc
first_named c cs feed q k h = absurd cc
first_named c cs (bad below) q k h = absurd cc

pub tokens_named : (profile : Profile) (text : Text) (ts : Tokens) → tokens profile text ≡ Ok ts → AllKnown names ts
tokens_named profile text ts h =
    tokens_known names profile text ts (pieces_known names any (λ c cs h. tt) (λ c cs h. first_named c cs (lexeme (c ∷ cs)).0 refl) (plain_lines (chars text)) tt) h
