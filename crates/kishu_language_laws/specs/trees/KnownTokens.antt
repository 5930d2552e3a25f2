-- What is known of the tokens of a text, where it is known of its pieces.
use Rattle.std.proofs.Common.{◌≡◌, ℕ, zero, suc, List, [], ◌∷◌, ◌++◌, length, replicate, Some}
use Rattle.std.specs.Prelude.{Ok}
use Rattle.std.specs.Str.{chars}
use Rattle.kishu_language.specs.declared.profile.Profile.{Profile}
use Rattle.kishu_language.specs.declared.token.Mark.{Mark}
use Rattle.kishu_language.specs.tokens.PlainLines.{plain_lines}
use Rattle.kishu_language.specs.tokens.Lexemes.{Lexeme, lexeme}
use Rattle.kishu_language.specs.tokens.Layout.{Kind, Item, Start, dedent, token, cut, cut_from, layout, End}
use Rattle.kishu_language.specs.rules.LineRules as r
use Rattle.kishu_language.specs.rules.LineRules.{Back, Indentation}
use Rattle.kishu_token_laws.specs.TokenPlaces.{kind_of, of_value}
use Rattle.kishu_language_laws.specs.codes.Emits.{Emits}
use Rattle.kishu_language_laws.specs.codes.Emits as e
use Rattle.kishu_language_laws.specs.codes.EmitsLayout.{emits_of}
use Rattle.kishu_language.specs.tokens.Tokens.{tokens}
use Rattle.kishu_language.specs.trees.Tree.{Text}
use Rattle.kishu_language.specs.grammar.Language.{Tokens}
use Rattle.kishu_language_laws.specs.trees.Known.{Known, KindKnown, EachKnown, AllKnown}

-- of the token that a piece gives
abbrev pub PieceKnown : Known → Lexeme → Type 0
PieceKnown known l = (k : Kind) → kind_of l ≡ Some k → KindKnown known k

abbrev pub AllPieces : Known → List Item → Type 0
AllPieces known [] = Unit {0}
AllPieces known (i ∷ is) = PieceKnown known i.what × AllPieces known is

module _ (known : Known) where
  -- ---- pieces: of the first of each text that is so

  module _ (IsSo : List ℕ → Type 0) (behind : (c : ℕ) (cs : List ℕ) → IsSo (c ∷ cs) → IsSo cs) (first : (c : ℕ) (cs : List ℕ) → IsSo (c ∷ cs) → PieceKnown known (lexeme (c ∷ cs)).0) where
    cut_known : (left line start : ℕ) (cs : List ℕ) → IsSo cs → AllPieces known (cut_from left line start cs)
    cut_known left line start [] h = tt
    cut_known (suc left) line start (c ∷ cs) h = cut_known left line start cs (behind c cs h)
    cut_known zero line start (c ∷ cs) h = (first c cs h, cut_known _ _ _ cs (behind c cs h))

    pub pieces_known : (cs : List ℕ) → IsSo cs → AllPieces known (cut 1 0 cs)
    unfolding cut
    pieces_known cs h = cut_known 0 1 0 cs h

  -- ---- tokens

  appended : (ts us : Tokens) → EachKnown known ts → EachKnown known us → EachKnown known (ts ++ us)
  appended [] us h k = k
  appended (t ∷ ts) us h k = (h.0, appended ts us h.1 k)

  copies : (n line start end : ℕ) → EachKnown known (replicate n (token dedent line start end))
  copies zero line start end = tt
  copies (suc n) line start end = (tt, copies n line start end)

  back_known : {w : List ℕ} {line at : ℕ} {vs us : List (List ℕ)} {ts : Tokens} → Back w line at vs us ts → EachKnown known ts
  back_known (r.found h) = tt
  back_known (r.bottom h) = tt
  back_known (r.off h d) = (tt, back_known d)

  indentation_known : {w : List ℕ} {line from to : ℕ} {vs us : List (List ℕ)} {ts : Tokens} → Indentation w line from to vs us ts → EachKnown known ts
  indentation_known (r.equal h) = tt
  indentation_known (r.longer h k) = (tt, tt)
  indentation_known (r.lower h k d) = back_known d

  emitted_known : {at : End} {b : Start} {bs : List Mark} {vs : List (List ℕ)} {is : List Item} {ts : Tokens} → Emits at b bs vs is ts → AllPieces known is → EachKnown known ts
  emitted_known {at = at} (e.stop {vs = vs} h) k = copies (length vs) at.0 at.1 at.1
  emitted_known {at = at} (e.stop_inside {vs = vs}) k = (tt, copies (length vs) at.0 at.1 at.1)
  emitted_known (e.quiet h d) k = emitted_known d k.1
  emitted_known (e.empty_line h f d) k = emitted_known d k.1
  emitted_known (e.ends f d) k = (tt, emitted_known d k.1)
  emitted_known (e.new_line f d) k = emitted_known d k.1
  emitted_known (e.one {k = kind} {i = i} v d) k = (k.0 kind (of_value [] i.what kind v), emitted_known d k.1)
  emitted_known (e.opening f o d) k = (tt, emitted_known d k.1)
  emitted_known (e.closing f c d) k = (tt, emitted_known d k.1)
  emitted_known (e.starts {before = before} {ts = ts} h b n d) k = appended before ts (indentation_known n) (emitted_known d k)

  layout_known : (cs : List ℕ) (ts : Tokens) → AllPieces known (cut 1 0 cs) → layout cs ≡ Ok ts → EachKnown known ts
  layout_known cs ts p h = emitted_known (emits_of cs ts h) p

  pub tokens_known : (profile : Profile) (text : Text) (ts : Tokens) → AllPieces known (cut 1 0 (plain_lines (chars text))) → tokens profile text ≡ Ok ts → AllKnown known ts
  tokens_known profile text ts p h = record { each = layout_known (plain_lines (chars text)) ts p h }
