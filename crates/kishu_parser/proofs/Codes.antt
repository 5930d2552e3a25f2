-- The code of a function, cut from its text at the places of its tokens.
use Rattle.std.proofs.Common.{◌≡◌, ℕ, zero, suc, ◌-◌, ◌<◌, Bool, true, false, if◌then◌else◌, List, [], ◌∷◌, length, take, drop, min, get_or, refl, sym, ap, ◌∙◌, arith}
use Rattle.std.specs.Str.{IsCharBoundary}
use Rattle.std.proofs.lemmas.List.{take-map}
use Rattle.kishu_language.specs.declared.token.Token as rust
use Rattle.kishu_language.specs.tokens.Layout.{Token}
use Rattle.kishu_language.specs.tokens.Tokens.{kind_of, token_of}
use Rattle.kishu_language.specs.trees.Tree.{Text}
use Rattle.kishu_language.specs.trees.Code.{is_layout, begin_of, end_after, code_of}
use Rattle.kishu_parser.specs.Views.{tokens_of, left}
use Rattle.kishu_parser.specs.Statements.{Placed, between}
use Rattle.kishu_parser.proofs.Fronts.{left_count}

chosen : (source : Text) (b : Bool) (at end : ℕ) → IsCharBoundary source at → IsCharBoundary source end → IsCharBoundary source (if b then at else end)
chosen source true at end here there = here
chosen source false at end here there = there

pub ends_placed : (source : Text) (at : ℕ) (ts : List rust.Token) → IsCharBoundary source at → Placed source ts → IsCharBoundary source (end_after at (tokens_of ts))
ends_placed source at [] here placed = here
ends_placed source at (t ∷ ts) here placed =
    ends_placed source (if is_layout (kind_of t.kind) then at else t.end) ts (chosen source (is_layout (kind_of t.kind)) at t.end here placed.1.0) placed.1.1

pub begins_placed : (source : Text) (ts : List rust.Token) → IsCharBoundary source 0 → Placed source ts → IsCharBoundary source (begin_of (tokens_of ts))
begins_placed source [] here placed = here
begins_placed source (t ∷ ts) here placed = placed.0

pub first_begins : (ts : List rust.Token) (t : rust.Token) → 0 < length ts → t ≡ get_or ts 0 t → t.start ≡ begin_of (tokens_of ts)
first_begins [] t some e = absurd (omega arith)
first_begins (u ∷ ts) t some e = ap (λ (v : rust.Token). v.start) e

pub no_first : (ts : List rust.Token) → length ts ≡ 0 → 0 ≡ begin_of (tokens_of ts)
no_first [] none = refl
no_first (t ∷ ts) none = absurd (omega arith)

pub code_is : (source : Text) (ts : List Token) (begin end : ℕ) → begin ≡ begin_of ts → end ≡ end_after 0 ts → take (end - begin) (drop begin source) ≡ code_of source ts
unfolding code_of
code_is source ts begin end b e = ap (λ n. take (end - n) (drop n source)) b ∙ ap (λ n. take (n - begin_of ts) (drop (begin_of ts) source)) e

pub no_code : (source : Text) (ts : List Token) (begin end : ℕ) → begin ≡ begin_of ts → end ≡ end_after 0 ts → end < begin → [] ≡ code_of source ts
no_code source ts begin end b e below =
    let none : 0 ≡ end - begin = omega arith in
    ap (λ n. take n (drop begin source)) none ∙ code_is source ts begin end b e

-- ---- a part of the tokens

pub placed_drop : (source : Text) (n : ℕ) (ts : List rust.Token) → Placed source ts → Placed source (drop n ts)
placed_drop source zero ts placed = placed
placed_drop source (suc n) [] placed = placed
placed_drop source (suc n) (t ∷ ts) placed = placed_drop source n ts placed.1.1

pub placed_take : (source : Text) (n : ℕ) (ts : List rust.Token) → Placed source ts → Placed source (take n ts)
placed_take source zero ts placed = tt
placed_take source (suc n) [] placed = placed
placed_take source (suc n) (t ∷ ts) placed = (placed.0, (placed.1.0, placed_take source n ts placed.1.1))

part_from : (ts : List rust.Token) (n from begin : ℕ) → (0 < n → begin ≡ from) → tokens_of (take n (drop begin ts)) ≡ take n (left ts from)
unfolding left
part_from ts zero from begin same = refl
part_from ts (suc n) from begin same =
    ap (λ k. tokens_of (take (suc n) (drop k ts))) (same (omega arith)) ∙ sym (take-map token_of (suc n) (drop from ts))

pub part_is : (ts : List rust.Token) (from to begin end : ℕ) → end ≡ min to (length ts) → begin ≡ min from end → tokens_of (take (end - begin) (drop begin ts)) ≡ between (left ts from) (left ts to)
part_is ts from to begin end e b =
    let count : end - begin ≡ length (left ts from) - length (left ts to) = omega (arith, left_count ts from, left_count ts to) in
    part_from ts (end - begin) from begin (λ some. omega arith) ∙ ap (λ n. take n (left ts from)) count
