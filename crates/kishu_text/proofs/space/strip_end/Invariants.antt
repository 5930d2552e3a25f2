use Rattle.std.proofs.Common.{◌≡◌, length, reverse}
use denote.Text.{Utf8}
use denote.Shadow.{shadow}
use Rattle.std.specs.Str.{chars}
use Rattle.kishu_meaning.specs.values.White.{without_front}
use Rattle.kishu_text.proofs.space.strip_end.Given as goal

abbrev pub invariant-loop-before : goal.invariant-loop-before
invariant-loop-before l = shadow (Utf8 l.rest) × (without_front (reverse (chars l.rest)) ≡ without_front (reverse (chars l.text)))

abbrev pub decreases-loop-before : goal.decreases-loop-before
decreases-loop-before l = length l.rest
