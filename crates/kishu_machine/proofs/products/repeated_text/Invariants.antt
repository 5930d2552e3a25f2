use Rattle.std.proofs.Common.{◌≡◌, replicate}
use Rattle.std.specs.List.{flat_map}
use Rattle.std.specs.Str.{chars}
use Rattle.std.specs.String.{string_bytes}
use Rattle.kishu_machine.proofs.products.repeated_text.Given as goal

abbrev pub invariant-loop-turn : goal.invariant-loop-turn
invariant-loop-turn l = chars (string_bytes l.repeated) ≡ flat_map (λ part. part) (replicate l._turn (chars l.text))
