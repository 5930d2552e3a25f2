-- What a script makes is what the definition lists.
use Rattle.std.proofs.Common.{◌≡◌, ◌<◌, ◌+◌, ◌-◌, ◌∙◌, ℕ, zero, suc, List, ◌∷◌, ap, arith, refl}
use Rattle.kishu_model.specs.Request.{Request}
use Rattle.kishu_model.specs.generated.Requests.{next_number, number, drawn, cells_among, request_behind, request_with, requests_behind}
use Rattle.kishu_gen.specs.Scripts.{cells_with, requests_from}

pub from-start : (start before many : ℕ) → requests_from many (number start before) before (cells_among start before) ≡ requests_behind start before many
from-start start before zero = refl
from-start start before (suc many) = ap (λ (qs : List Request). request_behind start before ∷ qs) (from-start start (suc before) many)

one : (many made x cells : ℕ) → made < many
    → requests_from (many - made) x made cells
    ≡ request_with made cells (drawn (next_number x)) ∷ requests_from (many - (made + 1)) (next_number x) (made + 1) (cells_with made cells (drawn (next_number x)))
one many made x cells lt =
    let is : many - made ≡ suc (many - (made + 1)) = omega (arith, lt) in
    let drawn_next = drawn (next_number x) in
    ap (λ (n : ℕ). requests_from n x made cells) is
    ∙ ap (λ (n : ℕ). request_with made cells drawn_next ∷ requests_from (many - (made + 1)) (next_number x) n (cells_with made cells drawn_next)) (omega arith)

-- One request is made, and the others are to come.
pub made-one : (many made x cells next cells_then : ℕ) (q : Request) → made < many → next ≡ next_number x
    → q ≡ request_with made cells (drawn next) → cells_then ≡ cells_with made cells (drawn next)
    → requests_from (many - made) x made cells ≡ q ∷ requests_from (many - (made + 1)) next (made + 1) cells_then
made-one many made x cells next cells_then q lt next_is q_is cells_is = rw (q_is, cells_is, next_is) (one many made x cells lt)
