-- A text as its first piece and the rest.
use Rattle.std.proofs.Common.{◌≡◌, ℕ, zero, suc, ◌+◌, ◌-◌, ◌<◌, List, [], ◌∷◌, take, drop, length, refl, sym, ap, ◌∙◌, arith}
use Rattle.std.specs.Prelude.{Result, Ok}
use Rattle.kishu_language.specs.declared.token.Token as rust
use Rattle.kishu_language.specs.tokens.Lexemes.{Lexeme, lexeme, feeds}
use Rattle.kishu_language.specs.tokens.Layout.{◌>>=◌, State, Item, width, cut, cut_from, step, steps, finish, end_of, empty, layout}
use Rattle.kishu_lexer.specs.declared.fault.SyntaxFault.{SyntaxFault}
use Rattle.kishu_lexer.specs.declared.fault.SyntaxFault.TheVariants as fault
use Rattle.kishu_lexer.specs.Machine.{Fails, Answers}

cut_drop : (k line start : ℕ) (z : List ℕ) → cut_from k line start z ≡ cut_from 0 line start (drop k z)
cut_drop zero line start z = refl
cut_drop (suc k) line start [] = refl
cut_drop (suc k) line start (c ∷ z) = cut_drop k line start z

drop_suc : (k : ℕ) (c : ℕ) (z : List ℕ) → 0 < k → drop k (c ∷ z) ≡ drop (k - 1) z
drop_suc zero c z h = absurd (omega arith)
drop_suc (suc k) c z h = let e : suc k - 1 ≡ k = omega arith in ap (λ n. drop n z) (sym e)

-- how the rest begins
abbrev pub next_line : ℕ → ℕ → List ℕ → ℕ
next_line line n text = line + feeds (take n text)

abbrev pub next_place : ℕ → ℕ → List ℕ → ℕ
next_place start n text = start + width (take n text)

abbrev first : ℕ → ℕ → List ℕ → Item
first line start text = record { what = (lexeme text).0; line = line; start = start; end = next_place start (lexeme text).1 text }

cut_piece : (line start : ℕ) (text : List ℕ) → 0 < length text → 0 < (lexeme text).1
    → cut line start text ≡ first line start text ∷ cut (next_line line (lexeme text).1 text) (next_place start (lexeme text).1 text) (drop (lexeme text).1 text)
unfolding cut
cut_piece line start [] some taken = absurd (omega arith)
cut_piece line start (c ∷ z) some taken =
    let l = next_line line (lexeme (c ∷ z)).1 (c ∷ z) in
    let p = next_place start (lexeme (c ∷ z)).1 (c ∷ z) in
    ap (λ (is : List Item). first line start (c ∷ z) ∷ is)
    (cut_drop ((lexeme (c ∷ z)).1 - 1) l p z ∙ ap (cut_from 0 l p) (sym (drop_suc (lexeme (c ∷ z)).1 c z taken)))

cut_nothing : (line start : ℕ) (text : List ℕ) → length text ≡ 0 → cut line start text ≡ []
unfolding cut
cut_nothing line start [] h = refl
cut_nothing line start (c ∷ z) h = absurd (omega arith)

-- ---- one turn of the loop, over plain values

pub turned : (line start : ℕ) (text : List ℕ) (x : Lexeme × ℕ) (next end : ℕ) (after : List ℕ) (s t : State) → x ≡ lexeme text → 0 < length text → 0 < x.1
    → next ≡ next_line line x.1 text → end ≡ next_place start x.1 text → after ≡ drop x.1 text → step x.0 line start end s ≡ Ok t → steps (cut line start text) s ≡ steps (cut next end after) t
turned line start text x next end after s t is some taken next_is end_is after_is stepped =
    let whole = cut_piece line start text some (omega (arith, ap (λ (c : Lexeme × ℕ). c.1) is)) in
    ap (λ is. steps is s) (rw (← is) at whole)
    ∙ (λ i. step x.0 line start (sym end_is i) s >>= steps (cut (sym next_is i) (sym end_is i) (sym after_is i)))
    ∙ ap (λ o. o >>= steps (cut next end after)) stepped

pub failed : (line start : ℕ) (text : List ℕ) (x : Lexeme × ℕ) (end : ℕ) (s : State) (e : SyntaxFault) → x ≡ lexeme text → 0 < length text → 0 < x.1
    → end ≡ next_place start x.1 text → Fails (step x.0 line start end s) e → Fails (steps (cut line start text) s) e
failed line start text x end s (fault.Syntax at) is some taken end_is stepped =
    let whole = cut_piece line start text some (omega (arith, ap (λ (c : Lexeme × ℕ). c.1) is)) in
    ap (λ is. steps is s) (rw (← is) at whole)
    ∙ (λ i. step x.0 line start (sym end_is i) s >>= steps (cut (next_line line x.1 text) (sym end_is i) (drop x.1 text)))
    ∙ ap (λ o. o >>= steps (cut (next_line line x.1 text) end (drop x.1 text))) stepped
failed line start text x end s fault.NoMemory is some taken end_is stepped = tt

-- ---- the whole

pub ends_well : {Z : Type 0} (line start : ℕ) (text rest : List ℕ) (s : State) (r : Result Z SyntaxFault) (items : Z → List rust.Token) → length rest ≡ 0
    → line + feeds rest ≡ 1 + feeds text → start + width rest ≡ 0 + width text
    → steps (cut 1 0 text) empty ≡ steps (cut line start rest) s → Answers (finish s.brackets (line, start) s) r items → Answers (layout text) r items
unfolding layout
ends_well line start text [] s r items none lines places same given =
    let a : line ≡ 1 + feeds text = omega arith in
    let b : start ≡ 0 + width text = omega arith in
    let all : steps (cut 1 0 text) empty ≡ Ok s = same ∙ ap (λ is. steps is s) (cut_nothing line start [] none) in
    let whole : layout text ≡ finish s.brackets (line, start) s = ap (λ o. o >>= (λ s. finish s.brackets (end_of 1 0 text) s)) all ∙ (λ i. finish s.brackets (sym a i, sym b i) s) in
    rw whole given
ends_well line start text (c ∷ rest) s r items none lines places same given = absurd (omega arith)

pub ends_badly : (line start : ℕ) (text rest : List ℕ) (s : State) (e : SyntaxFault) → steps (cut 1 0 text) empty ≡ steps (cut line start rest) s → Fails (steps (cut line start rest) s) e → Fails (layout text) e
unfolding layout
ends_badly line start text rest s (fault.Syntax at) same h = ap (λ o. o >>= (λ s. finish s.brackets (end_of 1 0 text) s)) (same ∙ h)
ends_badly line start text rest s fault.NoMemory same h = tt
