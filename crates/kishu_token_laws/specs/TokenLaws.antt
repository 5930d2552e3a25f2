-- The tokens by the rules alone are those of the definition.
use Rattle.std.proofs.Common.{◌≡◌, ℕ, zero, suc, ◌+◌, ◌-◌, ◌<◌, ◌≤◌, true, false, List, [], ◌∷◌, ◌++◌, length, take, drop, Some, refl, sym, ap, subst, ◌∙◌, arith}
use Rattle.std.proofs.lemmas.List.{take_at, drop_at, take-append-drop, length-drop, length-append}
use Rattle.kishu_language.specs.tokens.Lexemes.{Lexeme, lexeme, blank, comment, bad_comment, joined, feed, word, number, string, sign, bad, feeds}
use Rattle.kishu_language.specs.tokens.Layout.{Kind, Token, Item, End, end_of, width, cut, cut_from}
use Rattle.kishu_language.specs.rules.LineRules as r
use Rattle.kishu_language.specs.rules.LineRules.{is_quiet, value, begins, token_at, Quiet, Inside, Line, Lead, Back, Indentation, Lines, HasTokens}
use Rattle.kishu_token_laws.specs.PieceLaws.{is_fault, piece_is_found, piece_is_some, found_is_piece}
use Rattle.kishu_language.specs.rules.TokenRules as t
use Rattle.kishu_language.specs.rules.TokenRules.{Pieces, ByRules, Stands, is_written, Written, AllWritten}

-- ---- pieces by the rules are those that are cut

cut_behind : (k line start : ℕ) (z : List ℕ) → cut_from k line start z ≡ cut_from 0 line start (drop k z)
cut_behind zero line start z = refl
cut_behind (suc k) line start [] = refl
cut_behind (suc k) line start (c ∷ z) = cut_behind k line start z

drop_next : (k c : ℕ) (z : List ℕ) → 0 < k → drop (k - 1) z ≡ drop k (c ∷ z)
drop_next zero c z h = absurd (omega arith)
drop_next (suc k) c z h = let e : suc k - 1 ≡ k = omega arith in ap (λ n. drop n z) e

abbrev item : ℕ → ℕ → Lexeme → List ℕ → Item
item line start l piece = record { what = l; line = line; start = start; end = start + width piece }

-- the first piece, and the rest
cut_first : (line start c : ℕ) (z : List ℕ) (l : Lexeme) (n : ℕ) → lexeme (c ∷ z) ≡ (l, n) → 0 < n
    → cut line start (c ∷ z) ≡ item line start l (take n (c ∷ z)) ∷ cut (line + feeds (take n (c ∷ z))) (start + width (take n (c ∷ z))) (drop n (c ∷ z))
unfolding cut
cut_first line start c z l n is some =
    let taken = take n (c ∷ z) in
    ap (λ (q : Lexeme × ℕ). item line start q.0 (take q.1 (c ∷ z)) ∷ cut_from (q.1 - 1) (line + feeds (take q.1 (c ∷ z))) (start + width (take q.1 (c ∷ z))) z) is
    ∙ ap (λ js. item line start l taken ∷ js) (cut_behind (n - 1) (line + feeds taken) (start + width taken) z ∙ ap (cut_from 0 (line + feeds taken) (start + width taken)) (drop_next n c z some))

cut_of : (line start : ℕ) (cs : List ℕ) (l : Lexeme) (piece rest : List ℕ) → cs ≡ piece ++ rest → lexeme cs ≡ (l, length piece) → 0 < length piece
    → cut line start cs ≡ item line start l piece ∷ cut (line + feeds piece) (start + width piece) rest
cut_of line start [] l piece rest e is some = absurd (omega (arith, length-append piece rest, ap length e))
cut_of line start (c ∷ z) l piece rest e is some =
    let front : take (length piece) (c ∷ z) ≡ piece = ap (take (length piece)) e ∙ take_at piece rest (length piece) refl in
    let behind : drop (length piece) (c ∷ z) ≡ rest = ap (drop (length piece)) e ∙ drop_at piece rest (length piece) refl in
    cut_first line start c z l (length piece) is some ∙ (λ i. item line start l (front i) ∷ cut (line + feeds (front i)) (start + width (front i)) (behind i))

none_cut : (line start : ℕ) → cut line start [] ≡ []
unfolding cut
none_cut line start = refl

pub pieces_are_cut : {line start : ℕ} {cs : List ℕ} {is : List Item} → Pieces line start cs is → cut line start cs ≡ is
pieces_are_cut (t.none {line = line} {start = start}) = none_cut line start
pieces_are_cut (t.more {line = line} {start = start} {piece = piece} {rest = rest} {l = l} h ps) =
    cut_of line start (piece ++ rest) l piece rest refl (piece_is_found h) (piece_is_some h) ∙ ap (λ js. item line start l piece ∷ js) (pieces_are_cut ps)

-- no piece is a fault
abbrev pub AllSound : List Item → Type 0
AllSound [] = Unit {0}
AllSound (i ∷ is) = (is_fault i.what ≡ false) × AllSound is

pieces_step : (line start c : ℕ) (z : List ℕ) → AllSound (cut line start (c ∷ z)) → 0 < (lexeme (c ∷ z)).1
    → ((n : ℕ) → n ≡ (lexeme (c ∷ z)).1 → AllSound (cut (line + feeds (take n (c ∷ z))) (start + width (take n (c ∷ z))) (drop n (c ∷ z)))
    → Pieces (line + feeds (take n (c ∷ z))) (start + width (take n (c ∷ z))) (drop n (c ∷ z)) (cut (line + feeds (take n (c ∷ z))) (start + width (take n (c ∷ z))) (drop n (c ∷ z))))
    → Pieces line start (c ∷ z) (cut line start (c ∷ z))
pieces_step line start c z sound some next =
    let n = (lexeme (c ∷ z)).1 in
    let l = (lexeme (c ∷ z)).0 in
    let e = cut_first line start c z l n refl some in
    let s = subst AllSound e sound in
    let at = (found_is_piece c z).piece s.0 in
    let built : Pieces line start (take n (c ∷ z) ++ drop n (c ∷ z)) (item line start l (take n (c ∷ z)) ∷ cut (line + feeds (take n (c ∷ z))) (start + width (take n (c ∷ z))) (drop n (c ∷ z))) = t.more at.rule (next n refl s.1) in
    subst (λ is. Pieces line start (c ∷ z) is) (sym e) (subst (λ v. Pieces line start v (item line start l (take n (c ∷ z)) ∷ cut (line + feeds (take n (c ∷ z))) (start + width (take n (c ∷ z))) (drop n (c ∷ z)))) (take-append-drop n (c ∷ z)) built)

first_sound : (line start c : ℕ) (z : List ℕ) → AllSound (cut line start (c ∷ z)) → is_fault (lexeme (c ∷ z)).0 ≡ false
unfolding cut
first_sound line start c z s = s.0

cut_is_pieces : (n line start : ℕ) (cs : List ℕ) → length cs ≤ n → AllSound (cut line start cs) → Pieces line start cs (cut line start cs)
cut_is_pieces n line start [] small s = subst (λ is. Pieces line start [] is) (sym (none_cut line start)) t.none
cut_is_pieces zero line start (c ∷ z) small s = absurd (omega arith)
cut_is_pieces (suc n) line start (c ∷ z) small s =
    let some = ((found_is_piece c z).piece (first_sound line start c z s)).some in
    pieces_step line start c z s some
    (λ m e k. cut_is_pieces n (line + feeds (take m (c ∷ z))) (start + width (take m (c ∷ z))) (drop m (c ∷ z)) (omega (arith, length-drop m (c ∷ z), some, e)) k)

-- ---- no rule of lines takes a fault

quiet_sound : (l : Lexeme) → is_quiet l ≡ true → is_fault l ≡ false
quiet_sound (blank w) h = refl
quiet_sound comment h = refl
quiet_sound joined h = refl
quiet_sound feed h = refl
quiet_sound (word w) h = refl
quiet_sound (number z) h = refl
quiet_sound (string u) h = refl
quiet_sound (sign k) h = refl
quiet_sound bad_comment h = absurd cc
quiet_sound (bad below) h = absurd cc

value_sound : (l : Lexeme) (k : Kind) → value l ≡ Some k → is_fault l ≡ false
value_sound (blank w) k h = refl
value_sound comment k h = refl
value_sound joined k h = refl
value_sound feed k h = refl
value_sound (word w) k h = refl
value_sound (number z) k h = refl
value_sound (string u) k h = refl
value_sound (sign s) k h = refl
value_sound bad_comment k h = absurd cc
value_sound (bad below) k h = absurd cc

is_sound : (l m : Lexeme) → l ≡ m → is_fault m ≡ false → is_fault l ≡ false
is_sound l m e h = ap is_fault e ∙ h

quiet_all : {is js : List Item} → Quiet is js → AllSound js → AllSound is
quiet_all r.here h = h
quiet_all (r.over {i = i} q d) h = (quiet_sound i.what q, quiet_all d h)

inside_all : {is js : List Item} {ts : List Token} → Inside is js ts → AllSound js → AllSound is
inside_all r.nothing h = h
inside_all (r.skip {i = i} q d) h = (quiet_sound i.what q, inside_all d h)
inside_all (r.new_line {i = i} e d) h = (is_sound i.what feed e refl, inside_all d h)
inside_all (r.one {i = i} {k = k} v d) h = (value_sound i.what k v, inside_all d h)
inside_all (r.group {i = i} {j = j} {o = o} {c = c} a b f g inner outer) h = (is_sound i.what (sign o) a refl, inside_all inner (is_sound j.what (sign c) b refl, inside_all outer h))

line_all : {at : End} {is js : List Item} {ts : List Token} → Line at is js ts → AllSound js → AllSound is
line_all r.last h = h
line_all (r.ends {i = i} e) h = (is_sound i.what feed e refl, h)
line_all (r.skip_in {i = i} q d) h = (quiet_sound i.what q, line_all d h)
line_all (r.one_in {i = i} {k = k} v d) h = (value_sound i.what k v, line_all d h)
line_all (r.group_in {i = i} {j = j} {o = o} {c = c} a b f g inner outer) h = (is_sound i.what (sign o) a refl, inside_all inner (is_sound j.what (sign c) b refl, line_all outer h))

lead_all : {is js : List Item} {w : List ℕ} {row from to : ℕ} → Lead is js w row from to → AllSound js → AllSound is
lead_all (r.blanks {i = i} {w = w} e q b) h = (is_sound i.what (blank w) e refl, quiet_all q h)
lead_all (r.bare b) h = h
lead_all (r.joint {i = i} e q b) h = (is_sound i.what joined e refl, quiet_all q h)
lead_all (r.past {i = i} e d) h = (is_sound i.what comment e refl, lead_all d h)

lines_all : {at : End} {vs : List (List ℕ)} {is : List Item} {ts : List Token} → Lines at vs is ts → AllSound is
lines_all (r.over_all q) = quiet_all q tt
lines_all (r.blank_line {i = i} q e d) = quiet_all q (is_sound i.what feed e refl, lines_all d)
lines_all (r.line lead ind l d) = lead_all lead (line_all l (lines_all d))

-- ---- the law

pub to_rules : (cs : List ℕ) (ts : List Token) → HasTokens cs ts → ByRules cs ts
to_rules cs ts h = (cut 1 0 cs, (cut_is_pieces (length cs) 1 0 cs (omega arith) (lines_all h), h))

pub from_rules : (cs : List ℕ) (ts : List Token) → ByRules cs ts → HasTokens cs ts
from_rules cs ts h = subst (λ is. Lines (end_of 1 0 cs) [] is ts) (sym (pieces_are_cut h.1.0)) h.1.1
