use Rattle.std.proofs.Common.{◌≡◌, ◌==◌, length}
use denote.Text.{Utf8}
use denote.Shadow.{shadow}
use Rattle.std.specs.List.{list_any}
use Rattle.std.specs.Str.{chars}
use Rattle.kishu_text.proofs.repr.holds.Given as goal

abbrev pub invariant-loop-c : goal.invariant-loop-c
invariant-loop-c l = shadow (Utf8 l.rest) × (list_any (λ c. c == l.mark) (chars l.rest) ≡ list_any (λ c. c == l.mark) (chars l.text))

abbrev pub decreases-loop-c : goal.decreases-loop-c
decreases-loop-c l = length l.rest
