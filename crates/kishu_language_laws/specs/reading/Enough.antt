-- No default of the reading is met: a text is read to its end however many turns are allowed, and a fault stands at a token.
use Rattle.std.specs.Prelude.{◌≡◌, ℕ, zero, suc, ◌≤◌, List, [], ◌∷◌, ◌++◌, length, Option, Some, None, Result}
use Rattle.std.proofs.Common.{refl, arith}
use Rattle.kishu_language.specs.tokens.Layout.{Token}
use Rattle.kishu_language.specs.trees.Tree.{Text, Statement}
use Rattle.kishu_language.specs.grammar.Language.{Tokens}
use Rattle.kishu_language.specs.grammar.Pieces.{next_piece, FirstBad, here, later}
use Rattle.kishu_language.specs.reading.ReadText.{piece, and_pieces, pieces}
use Rattle.kishu_language_laws.specs.reading.ExactPieces.{piece_shorter}

same_pieces : (line : ℕ) (o : Option (List Statement)) (f g : List Statement → Result (List Statement) ℕ) → ((more : List Statement) → f more ≡ g more) → and_pieces line o f ≡ and_pieces line o g
same_pieces line None f g h = refl
same_pieces line (Some found) f g h = h found

-- Two numbers of turns that are enough give the same.
both_enough : (source : Text) (n m : ℕ) (found : List Statement) (ts : Tokens) → length ts ≤ n → length ts ≤ m → pieces source n found ts ≡ pieces source m found ts
both_enough source zero zero found ts p q = refl
both_enough source zero (suc m) found [] p q = refl
both_enough source (suc n) zero found [] p q = refl
both_enough source (suc n) (suc m) found [] p q = refl
both_enough source zero (suc m) found (u ∷ ts) p q = absurd (omega (arith, p))
both_enough source (suc n) zero found (u ∷ ts) p q = absurd (omega (arith, q))
both_enough source (suc n) (suc m) found (u ∷ ts) p q =
    same_pieces u.line (piece source (u ∷ ts)) (λ more. pieces source n (found ++ more) (next_piece (u ∷ ts))) (λ more. pieces source m (found ++ more) (next_piece (u ∷ ts)))
    (λ more. both_enough source n m (found ++ more) (next_piece (u ∷ ts)) (omega (arith, piece_shorter u ts 0)) (omega (arith, piece_shorter u ts 0)))

-- As many turns as there are tokens are enough: more give the same.
pub enough_turns : (source : Text) (n : ℕ) (found : List Statement) (ts : Tokens) → length ts ≤ n → pieces source n found ts ≡ pieces source (length ts) found ts
enough_turns source n found ts h = both_enough source n (length ts) found ts h (omega arith)

first_token : (ts : Tokens) → (ts ≡ [] → ⊥) → (t : Token) × (rest : Tokens) × (ts ≡ t ∷ rest)
first_token [] h = absurd (h refl)
first_token (t ∷ ts) h = (t, ts, refl)

-- The first piece that is no chunk has a token, whose line the fault is told on.
pub fault_token : (source : Text) (ts at : Tokens) → FirstBad source ts at → (t : Token) × (rest : Tokens) × (at ≡ t ∷ rest)
fault_token source ts at (here some bad) = first_token at some
fault_token source ts at (later is k) = fault_token source (next_piece ts) at k
