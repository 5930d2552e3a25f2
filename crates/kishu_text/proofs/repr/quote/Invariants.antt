use Rattle.std.proofs.Common.{◌≡◌, ◌∷◌, ◌++◌, flat_map, length}
use denote.Text.{Utf8}
use denote.Shadow.{shadow}
use Rattle.std.specs.Str.{chars}
use Rattle.std.specs.String.{string_bytes}
use Rattle.kishu_meaning.specs.values.Texts.{escaped}
use Rattle.kishu_text.proofs.repr.quote.Given as goal

abbrev pub invariant-loop-c : goal.invariant-loop-c
invariant-loop-c l =
    shadow (Utf8 l.rest) × (chars (string_bytes l.out) ++ flat_map (escaped l.quote) (chars l.rest) ≡ l.quote ∷ flat_map (escaped l.quote) (chars l.text))

abbrev pub decreases-loop-c : goal.decreases-loop-c
decreases-loop-c l = length l.rest
