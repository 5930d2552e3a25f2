-- A reader that has read nothing: the lines and the limit that are to come are those of a session.
use Rattle.std.specs.Prelude.{◌≡◌, ℕ, ◌-◌, List, [], take, Option, Some, None, refl}
use Rattle.std.proofs.Common.{ap, arith}
use Rattle.kishu_model.specs.Task.{ended_from, lines_before, limit_place, session_lines, session_limits}
use Rattle.kishu_input.specs.Lines.{limit_after, lines_until, lines_after}

until-start : (limit : Option ℕ) (input : List ℕ) → lines_until 0 limit input ≡ lines_before limit input
until-start None input = refl
until-start (Some n) input = let e : n - 0 ≡ n = omega arith in ap (λ k. ended_from [] (take k input)) e

pub lines-at-start : (input : List ℕ) → lines_after 0 input ≡ session_lines session_limits input
lines-at-start input = until-start (limit_place session_limits input) input

pub limit-at-start : (input : List ℕ) → limit_after 0 input ≡ limit_place session_limits input
limit-at-start input = refl
