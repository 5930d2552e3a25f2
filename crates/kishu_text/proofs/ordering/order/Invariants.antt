use Rattle.std.proofs.Common.{◌≡◌, length}
use denote.Text.{Utf8}
use denote.Shadow.{shadow}
use Rattle.std.specs.Cmp.Lexicographic.{slice_cmp}
use Rattle.std.specs.Ordering.{nat_cmp}
use Rattle.std.specs.Str.{chars}
use Rattle.kishu_text.proofs.ordering.order.Given as goal

abbrev pub invariant-loop-x : goal.invariant-loop-x
invariant-loop-x l = shadow (Utf8 l.left) × shadow (Utf8 l.right) × (slice_cmp nat_cmp (chars l.a) (chars l.b) ≡ slice_cmp nat_cmp (chars l.left) (chars l.right))

abbrev pub decreases-loop-x : goal.decreases-loop-x
decreases-loop-x l = length l.left
