-- The marks: each reserved word has one, and each operator and delimiter is taken whole.
use Rattle.std.proofs.Common.{◌≡◌, ◌-◌, List, ◌∷◌, [], map, length, refl}
use Rattle.std.specs.Prelude.{codes}
use Rattle.kishu_language.specs.declared.token.Mark.TheVariants as m
use Rattle.kishu_language.specs.tokens.Names.{reserved_words}
use Rattle.kishu_language.specs.tokens.Marks.{Spelled, reserved_marks, delimiter, operator}
use Rattle.kishu_language.specs.tokens.Lexemes.{sign, token_piece, lexeme}

-- the reserved words with marks are the reserved words
reserved_have_marks : map (λ (s : Spelled). s.0) reserved_marks ≡ reserved_words
unfolding reserved_marks reserved_words
reserved_have_marks = refl

-- each operator and delimiter is taken whole where a space follows
signs : List Spelled
signs =
    (codes "**= ", m.PowerAssign) ∷ (codes "//= ", m.FloorDivideAssign) ∷ (codes "** ", m.Power) ∷ (codes "// ", m.FloorDivide) ∷ (codes "== ", m.Equal) ∷ (codes "!= ", m.NotEqual)
    ∷ (codes "<= ", m.LessEqual) ∷ (codes ">= ", m.GreaterEqual) ∷ (codes "+= ", m.PlusAssign) ∷ (codes "-= ", m.MinusAssign) ∷ (codes "*= ", m.StarAssign) ∷ (codes "%= ", m.PercentAssign)
    ∷ (codes "+ ", m.Plus) ∷ (codes "- ", m.Minus) ∷ (codes "* ", m.Star) ∷ (codes "% ", m.Percent) ∷ (codes "< ", m.Less) ∷ (codes "> ", m.Greater) ∷ (codes "= ", m.Assign)
    ∷ (codes "( ", m.LeftParenthesis) ∷ (codes ") ", m.RightParenthesis) ∷ (codes "[ ", m.LeftBracket) ∷ (codes "] ", m.RightBracket) ∷ (codes "{ ", m.LeftBrace) ∷ (codes "} ", m.RightBrace)
    ∷ (codes ", ", m.Comma) ∷ (codes ": ", m.Colon) ∷ (codes ". ", m.Dot) ∷ (codes "; ", m.Semicolon) ∷ []

signs_are_taken : map (λ (s : Spelled). lexeme s.0) signs ≡ map (λ (s : Spelled). (sign s.1, length s.0 - 1)) signs
unfolding signs token_piece lexeme operator delimiter
signs_are_taken = refl
