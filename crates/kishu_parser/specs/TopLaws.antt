-- The statements of a text's pieces, one after another, are its tree.
use Rattle.std.specs.Prelude.{◌≡◌, ◌≢◌, ℕ, zero, suc, ◌≤◌, List, [], ◌∷◌, ◌++◌, length, Some, Ok}
use Rattle.std.specs.List.{flat_map}
use Rattle.std.proofs.Common.{refl, sym, ap, ◌∙◌, arith, append_assoc}
use Rattle.std.proofs.lemmas.List.{append-nil}
use Rattle.kishu_language.specs.declared.profile.Profile.{Profile}
use Rattle.kishu_language.specs.trees.Tree.{Text, Statement}
use Rattle.kishu_language.specs.grammar.Language.{Tokens}
use Rattle.kishu_language.specs.grammar.Pieces.{next_piece, first_line}
use Rattle.kishu_language.specs.grammar.Parse.{plain_text, Parse}
use Rattle.kishu_language.specs.reading.ReadText.{piece, and_pieces, pieces, tree_in, read_chars}
use Rattle.kishu_language_laws.specs.reading.ExactPieces.{piece_shorter, piece_only}
use Rattle.kishu_language_laws.specs.reading.ExactText.{read_found}
use Rattle.kishu_parser.specs.TopLevel.{Lined, AllPieces, none, then, HasPieces}

abbrev pub statements_of : List Lined → List Statement
statements_of all = flat_map (λ p. p.1) all

module _ (source : Text) where
  read : (n : ℕ) (before : List Statement) (ts : Tokens) (found : List Statement) → ts ≢ [] → piece source ts ≡ Some found → pieces source (suc n) before ts ≡ pieces source n (before ++ found) (next_piece ts)
  read n before [] found some e = absurd (some refl)
  read n before (u ∷ ts) found some e = ap (λ o. and_pieces u.line o (λ more. pieces source n (before ++ more) (next_piece (u ∷ ts)))) e

  shorter : (n : ℕ) (ts : Tokens) → ts ≢ [] → length ts ≤ suc n → length (next_piece ts) ≤ n
  shorter n [] some fits = absurd (some refl)
  shorter n (u ∷ ts) some fits = omega (arith, piece_shorter u ts 0)

  too_short : (ts : Tokens) → ts ≢ [] → length ts ≤ 0 → ⊥
  too_short [] some fits = some refl
  too_short (u ∷ ts) some fits = omega arith

  trees : (n : ℕ) (before : List Statement) (ts : Tokens) (all : List Lined) → length ts ≤ n → AllPieces source ts all → pieces source n before ts ≡ Ok (before ++ statements_of all)
  trees zero before ts all fits none = ap (λ v. Ok v) (sym (append-nil before))
  trees (suc n) before ts all fits none = ap (λ v. Ok v) (sym (append-nil before))
  trees zero before ts all fits (then some h k) = absurd (too_short ts some fits)
  trees (suc n) before ts all fits (then {found = found} {after = later} some h k) =
      read n before ts found some (piece_only source ts found h)
      ∙ trees n (before ++ found) (next_piece ts) later (shorter n ts some fits) k
      ∙ ap (λ v. Ok v) (append_assoc before found (statements_of later))

-- The tree of a text that has these pieces.
pub pieces_tree : (profile : Profile) (text : Text) (all : List Lined) → HasPieces profile text all → Parse profile text (statements_of all)
unfolding read_chars
pieces_tree profile text all h =
    read_found profile text (statements_of all) (ap (tree_in (plain_text text)) h.1 ∙ trees (plain_text text) (length h.0) [] h.0 all (omega arith) h.2)
