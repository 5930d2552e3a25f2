use Rattle.std.proofs.Common.{◌≡◌, ◌++◌, length}
use denote.Text.{Utf8}
use denote.Shadow.{shadow}
use Rattle.std.specs.Str.{chars}
use Rattle.kishu_meaning.specs.values.Texts.{code_points, pieces}
use Rattle.kishu_text.proofs.search.split.Given as goal

abbrev pub invariant-loop-piece : goal.invariant-loop-piece
invariant-loop-piece l =
    shadow (Utf8 l.rest) × (code_points l.pieces.items ++ pieces (chars l.part) (chars l.rest) ≡ pieces (chars l.part) (chars l.text))

abbrev pub decreases-loop-piece : goal.decreases-loop-piece
decreases-loop-piece l = length l.rest
