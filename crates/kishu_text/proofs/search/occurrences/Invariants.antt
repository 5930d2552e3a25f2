use Rattle.std.proofs.Common.{◌≡◌, ◌≤◌, ◌+◌, length}
use denote.Text.{Utf8}
use denote.Shadow.{shadow}
use Rattle.std.specs.Str.{chars}
use Rattle.kishu_meaning.specs.values.Texts.{pieces}
use Rattle.kishu_text.proofs.search.occurrences.Given as goal

abbrev pub invariant-loop-behind : goal.invariant-loop-behind
invariant-loop-behind l =
    shadow (Utf8 l.rest)
    × (l.n + length l.rest ≤ length l.text)
    × (l.n + length (pieces (chars l.part) (chars l.rest)) ≡ length (pieces (chars l.part) (chars l.text)))

abbrev pub decreases-loop-behind : goal.decreases-loop-behind
decreases-loop-behind l = length l.rest
