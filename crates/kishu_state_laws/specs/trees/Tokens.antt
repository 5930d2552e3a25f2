-- The names among the tokens of a text are names, the numbers are in range, and the texts are of Unicode scalar values.
use Rattle.std.proofs.Common.{◌≡◌, ℕ, Bool, true, false, List, [], ◌∷◌, ◌++◌, Option, Some, None, refl, sym, ap, subst, ◌∙◌, take-append-drop}
use Rattle.std.proofs.lemmas.Str.{scalars-chars, IsUtf8-nil, IsUtf8-append}
use Rattle.std.specs.Prelude.{Ok, pos}
use Rattle.std.specs.Str.{IsUtf8, chars, encode_utf8_all, all_scalars}
use Rattle.kishu_language.specs.declared.profile.Profile.{Profile}
use Rattle.kishu_language.specs.declared.token.Mark.{Mark}
use Rattle.kishu_language.specs.tokens.PlainLines.{plain_lines}
use Rattle.kishu_language.specs.tokens.Names.{is_name}
use Rattle.kishu_language.specs.tokens.Marks.{reserved_mark}
use Rattle.kishu_language.specs.tokens.Lexemes.{Lexeme, lexeme, blank, comment, bad_comment, joined, feed, word, number, string, sign, bad}
use Rattle.kishu_language.specs.tokens.Layout.{word_or, word_kind, Kind, integer, quoted, mark}
use Rattle.kishu_language.specs.tokens.Tokens.{tokens}
use Rattle.kishu_language.specs.rules.PieceRules as p
use Rattle.kishu_language.specs.rules.PieceRules.{Piece}
use Rattle.kishu_language.specs.rules.TokenRules.{Stands}
use Rattle.kishu_language.specs.grammar.Language.{Tokens}
use Rattle.kishu_language.specs.grammar.Grammar as g
use Rattle.kishu_language.specs.trees.Tree.{Text}
use Rattle.kishu_token_laws.specs.PieceLaws.{is_fault, found_is_piece}
use Rattle.kishu_token_laws.specs.TokenPlaces.{kind_of, stands}
use Rattle.kishu_language_laws.specs.codes.CodeTexts.{scalars_behind, plain_scalars}
use Rattle.kishu_language_laws.specs.trees.Gives.{Each}
use Rattle.kishu_language_laws.specs.trees.Known.{Known, KindKnown, AllKnown}
use Rattle.kishu_language_laws.specs.trees.KnownTokens.{PieceKnown, pieces_known, tokens_known}
use Rattle.kishu_state_laws.specs.trees.Literals.{whole_below, text_scalars}
use Rattle.kishu_state_laws.specs.trees.Sound.{NumberSound, TextSound}

-- ---- what is known of tokens

pub joined_utf8 : (parts : List Text) → Each IsUtf8 parts → IsUtf8 (g.joined parts)
joined_utf8 [] h = IsUtf8-nil
joined_utf8 (part ∷ parts) h = IsUtf8-append part (g.joined parts) h.0 (joined_utf8 parts h.1)

abbrev pub sound : Known
sound = record { number = NumberSound; piece = IsUtf8; text = TextSound; joins = λ parts h. scalars-chars (g.joined parts) (joined_utf8 parts h) }

-- ---- pieces

some_is : (a b : Kind) → Some a ≡ Some b → a ≡ b
some_is a b e = cc

word_sound : (piece rest : List ℕ) (o : Option Mark) → Stands piece rest (word_or piece o) → KindKnown sound (word_or piece o)
word_sound piece rest None h = ap is_name h.0 ∙ h.1
word_sound piece rest (Some k) h = tt

rule_sound : {piece rest : List ℕ} {l : Lexeme} → Piece piece rest l → all_scalars (piece ++ rest) ≡ true → PieceKnown sound l
rule_sound (p.white some h q) s k e = absurd cc
rule_sound (p.remark h none q) s k e = absurd cc
rule_sound p.join s k e = absurd cc
rule_sound p.end s k e = absurd cc
rule_sound (p.name {cs = cs} {rest = rest} first h small q apart) s k e =
    subst (KindKnown sound) (some_is (word_kind cs) k e) (word_sound cs rest (reserved_mark cs) (stands (word_kind cs) (p.name first h small q apart) refl))
rule_sound (p.integer {n = n} rule small q) s k e = subst (KindKnown sound) (some_is (integer (pos n)) k e) (whole_below n small)
rule_sound (p.text {meaning = meaning} u) s k e = subst (KindKnown sound) (some_is (quoted (encode_utf8_all meaning)) k e) (meaning, (text_scalars u.text s, refl))
rule_sound (p.operator {k = m} h longest) s k e = subst (KindKnown sound) (some_is (mark m) k e) tt

is_fault_or : (c : ℕ) (cs : List ℕ) (b : Bool) → is_fault (lexeme (c ∷ cs)).0 ≡ b → all_scalars (c ∷ cs) ≡ true → PieceKnown sound (lexeme (c ∷ cs)).0
is_fault_or c cs true f s = λ k e. no_kind (lexeme (c ∷ cs)).0 k f e
  where
    no_kind : (l : Lexeme) (k : Kind) → is_fault l ≡ true → kind_of l ≡ Some k → KindKnown sound k
    no_kind bad_comment k f e = absurd cc
    no_kind (bad below) k f e = absurd cc
    no_kind (word w) k f e = absurd cc
    no_kind (number z) k f e = absurd cc
    no_kind (string x) k f e = absurd cc
    no_kind (sign m) k f e = absurd cc
    no_kind (blank w) k f e = absurd cc
    no_kind comment k f e = absurd cc
    no_kind joined k f e = absurd cc
    no_kind feed k f e = absurd cc
is_fault_or c cs false f s = let found = (found_is_piece c cs).piece f in rule_sound found.rule (subst (λ (v : List ℕ). all_scalars v ≡ true) (sym (take-append-drop (lexeme (c ∷ cs)).1 (c ∷ cs))) s)

-- ---- tokens

pub tokens_sound : (profile : Profile) (text : Text) (ts : Tokens) → all_scalars (chars text) ≡ true → tokens profile text ≡ Ok ts → AllKnown sound ts
tokens_sound profile text ts s h =
    tokens_known sound profile text ts
    (pieces_known sound (λ cs. all_scalars cs ≡ true) (λ c cs h. scalars_behind (c ∷ []) cs h) (λ c cs h. is_fault_or c cs (is_fault (lexeme (c ∷ cs)).0) refl h) (plain_lines (chars text)) (plain_scalars (chars text) s)) h
