-- Texts by their escapes: what the definition cuts, and that the rules say the same. Each text is written out by the rules, or refused because the definition cuts none.
use Rattle.std.proofs.Common.{◌≡◌, List, [], ◌∷◌, refl, inl, inr, arith}
use Rattle.std.specs.Prelude.{ℕ, codes}
use Rattle.std.specs.Char.{encode_utf8}
use Rattle.kishu_language.specs.tokens.Quoted as Q
use Rattle.kishu_language.specs.tokens.Quoted.{escape, item, closes, body}
use Rattle.kishu_language.specs.tokens.Lexemes.{string, bad, lexeme, token_piece}
use Rattle.kishu_language.specs.rules.TextRules as r
use Rattle.kishu_language.specs.rules.TextRules.{Body, IsText}
use Rattle.kishu_token_laws.specs.TextPieces.{no_text_is_cut}

-- 'a\x41\101\n'
mixed_cut : lexeme (codes "'a\\x41\\101\\n' + b") ≡ (string (codes "aAA\n"), 13)
unfolding escape item closes body Q.quoted token_piece lexeme encode_utf8
mixed_cut = refl

mixed_rule : IsText (codes "'a\\x41\\101\\n'") (codes " + b") (codes "aAA\n")
mixed_rule = record {
  text = r.text r.no_prefix r.single (inr refl) (r.next refl (r.plain refl refl) (r.next refl (r.escape (r.hexadecimal (codes "41") r.two refl refl refl))
      (r.next refl (r.escape (r.octal (codes "101") refl (omega arith) (omega arith) (inl refl))) (r.next refl (r.escape (r.short r.feed)) r.closed))));
  no_null = refl;
}

-- octal digits as many as stand there, and the value past a byte
octal_cut : lexeme (codes "'\\400\\18'") ≡ (string (196 ∷ 128 ∷ 1 ∷ 56 ∷ []), 9)
unfolding escape item closes body Q.quoted token_piece lexeme encode_utf8
octal_cut = refl

octal_rule : IsText (codes "'\\400\\18'") [] (256 ∷ 1 ∷ 56 ∷ [])
octal_rule = record {
  text = r.text r.no_prefix r.single (inr refl) (r.next refl (r.escape (r.octal (codes "400") refl (omega arith) (omega arith) (inl refl)))
      (r.next refl (r.escape (r.octal (codes "1") refl (omega arith) (omega arith) (inr refl))) (r.next refl (r.plain refl refl) r.closed)));
  no_null = refl;
}

-- raw, a backslash stays, and the quote after it closes nothing
raw_cut : lexeme (codes "r'\\''") ≡ (string (codes "\\'"), 5)
unfolding escape item closes body Q.quoted token_piece lexeme encode_utf8
raw_cut = refl

raw_rule : IsText (codes "r'\\''") [] (codes "\\'")
raw_rule = record { text = r.text r.raw r.single (inr refl) (r.next refl r.stays r.closed); no_null = refl }

-- two quotes inside a threefold text
threefold_cut : lexeme (codes "'''a''b'''") ≡ (string (codes "a''b"), 10)
unfolding escape item closes body Q.quoted token_piece lexeme encode_utf8
threefold_cut = refl

threefold_rule : IsText (codes "'''a''b'''") [] (codes "a''b")
threefold_rule = record {
  text = r.text r.no_prefix r.three_single (inl refl) (r.next refl (r.plain refl refl) (r.next refl (r.plain refl refl) (r.next refl (r.plain refl refl) (r.next refl (r.plain refl refl) r.closed))));
  no_null = refl;
}

-- a backslash before a line feed
line_cut : lexeme (codes "'\\\n'") ≡ (string [], 4)
unfolding escape item closes body Q.quoted token_piece lexeme encode_utf8
line_cut = refl

line_rule : IsText (codes "'\\\n'") [] []
line_rule = record { text = r.text r.no_prefix r.single (inr refl) (r.next refl (r.escape r.line_end) r.closed); no_null = refl }

-- the empty text, which stands before anything but a third quote
empty_rule : IsText (codes "''") (codes "\"'") []
empty_rule = record { text = r.text r.no_prefix r.single (inr refl) r.closed; no_null = refl }

-- any other backslash stays
other_rule : IsText (codes "U\"\\q\\U0001F600\"") [] (92 ∷ 113 ∷ 128512 ∷ [])
other_rule = record {
  text = r.text r.unicode_capital r.double (inr refl) (r.next refl (r.escape (r.other refl refl)) (r.next refl (r.escape (r.hexadecimal (codes "0001F600") r.eight refl refl refl)) r.closed));
  no_null = refl;
}

-- ---- no text

unended_cut : lexeme (codes "'''a'b") ≡ (bad 0, 1)
unfolding escape item closes body Q.quoted token_piece lexeme encode_utf8
unended_cut = refl

-- `''` is no text before a third quote.
unended : (meaning : List ℕ) → IsText (codes "''") (codes "'a'b") meaning → ⊥
unended meaning t = no_text_is_cut (codes "''") (codes "'a'b") meaning 0 1 unended_cut t

surrogate_cut : lexeme (codes "'\\ud800'") ≡ (bad 0, 1)
unfolding escape item closes body Q.quoted token_piece lexeme encode_utf8
surrogate_cut = refl

surrogate : (meaning : List ℕ) → IsText (codes "'\\ud800'") [] meaning → ⊥
surrogate meaning t = no_text_is_cut (codes "'\\ud800'") [] meaning 0 1 surrogate_cut t

named_cut : lexeme (codes "'\\N{DASH}'") ≡ (bad 0, 1)
unfolding escape item closes body Q.quoted token_piece lexeme encode_utf8
named_cut = refl

named : (meaning : List ℕ) → IsText (codes "'\\N{DASH}'") [] meaning → ⊥
named meaning t = no_text_is_cut (codes "'\\N{DASH}'") [] meaning 0 1 named_cut t

short_cut : lexeme (codes "'\\x4'") ≡ (bad 0, 1)
unfolding escape item closes body Q.quoted token_piece lexeme encode_utf8
short_cut = refl

short : (meaning : List ℕ) → IsText (codes "'\\x4'") [] meaning → ⊥
short meaning t = no_text_is_cut (codes "'\\x4'") [] meaning 0 1 short_cut t

broken_cut : lexeme (codes "'a\nb'") ≡ (bad 0, 1)
unfolding escape item closes body Q.quoted token_piece lexeme encode_utf8
broken_cut = refl

broken : (meaning : List ℕ) → IsText (codes "'a\nb'") [] meaning → ⊥
broken meaning t = no_text_is_cut (codes "'a\nb'") [] meaning 0 1 broken_cut t
