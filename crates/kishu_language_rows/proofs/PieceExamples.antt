-- Numbers, names and operators: some pieces by the rules, and some that are none because the definition finds another piece or a fault.
use Rattle.std.proofs.Common.{◌≡◌, List, refl, sym, ap, ◌∙◌, arith, length, ◌++◌}
use Rattle.std.specs.Prelude.{ℕ, codes, Bool, true, false}
use Rattle.std.specs.Char.{encode_utf8}
use Rattle.kishu_language.specs.declared.token.Mark.TheVariants as m
use Rattle.kishu_language.specs.tokens.Marks.{operator}
use Rattle.kishu_language.specs.tokens.Numerals.{numeral}
use Rattle.kishu_language.specs.tokens.Quoted as Q
use Rattle.kishu_language.specs.tokens.Quoted.{escape, item, closes, body}
use Rattle.kishu_language.specs.tokens.Lexemes.{Lexeme, Cut, word, string, sign, bad, lexeme, token_piece}
use Rattle.kishu_language.specs.rules.PieceRules as r
use Rattle.kishu_language.specs.rules.PieceRules.{Number, Piece, operators}
use Rattle.kishu_token_laws.specs.PieceLaws.{is_fault, piece_is_found, piece_is_sound}

hexadecimal : Number (codes "0x_1F") 31
hexadecimal = r.based_spaced r.small_x (r.next refl (r.last refl))

decimal : Number (codes "1_000") 1000
decimal = r.decimal refl (r.spaced refl (r.next refl (r.next refl (r.last refl))))

zeros : Number (codes "0_0") 0
zeros = r.zeros (r.spaced refl (r.last refl)) refl

power : Piece (codes "**") (codes "b") (sign m.Power)
unfolding operators
power = r.operator refl refl

-- br is no prefix, so it is a name before a text.
name : Piece (codes "br") (codes "'x'") (word (codes "br"))
name = r.name refl refl (omega arith) refl refl

-- ---- no pieces

no : (b : Bool) → b ≡ true → b ≡ false → ⊥
no b e f = cc

faulty : (piece rest : List ℕ) (below n : ℕ) → lexeme (piece ++ rest) ≡ (bad below, n) → (l : Lexeme) → Piece piece rest l → ⊥
faulty piece rest below n h l t = no (is_fault l) (ap is_fault (sym (ap (λ (c : Cut). c.0) (piece_is_found t)) ∙ ap (λ (c : Cut). c.0) h)) (piece_is_sound t)

longer : (piece rest : List ℕ) (l : Lexeme) (n : ℕ) → lexeme (piece ++ rest) ≡ (l, n) → (n ≡ length piece → ⊥) → (k : Lexeme) → Piece piece rest k → ⊥
longer piece rest l n h apart k t = apart (sym (ap (λ (c : Cut). c.1) h) ∙ ap (λ (c : Cut). c.1) (piece_is_found t))

padded_cut : lexeme (codes "01 ") ≡ (bad 0, 2)
unfolding numeral token_piece lexeme
padded_cut = refl

padded : (l : Lexeme) → Piece (codes "01") (codes " ") l → ⊥
padded = faulty (codes "01") (codes " ") 0 2 padded_cut

followed_cut : lexeme (codes "12ab") ≡ (bad 0, 4)
unfolding numeral token_piece lexeme
followed_cut = refl

followed : (l : Lexeme) → Piece (codes "12") (codes "ab") l → ⊥
followed = longer (codes "12") (codes "ab") (bad 0) 4 followed_cut (λ e. omega arith)

equals_cut : lexeme (codes "**=b") ≡ (sign m.PowerAssign, 3)
unfolding operator token_piece lexeme
equals_cut = refl

short_operator : (l : Lexeme) → Piece (codes "**") (codes "=b") l → ⊥
short_operator = longer (codes "**") (codes "=b") (sign m.PowerAssign) 3 equals_cut (λ e. omega arith)

prefix_cut : lexeme (codes "r'x'") ≡ (string (codes "x"), 4)
unfolding escape item closes body Q.quoted token_piece lexeme encode_utf8
prefix_cut = refl

prefix : (l : Lexeme) → Piece (codes "r") (codes "'x'") l → ⊥
prefix = longer (codes "r") (codes "'x'") (string (codes "x")) 4 prefix_cut (λ e. omega arith)
