use Rattle.std.proofs.Common.{◌≡◌, ◌++◌, drop, map}
use Rattle.std.specs.Prelude.{codes}
use Rattle.std.specs.List.{flat_map}
use Rattle.std.specs.Str.{chars}
use Rattle.std.specs.String.{string_bytes}
use Rattle.kishu_meaning.specs.values.Keys.{part_of}
use Rattle.kishu_meaning.specs.comparing.Show.{part_text}
use Rattle.kishu_show.proofs.keys.push_others.Given as goal

-- what is left of the parts goes on from here
abbrev pub invariant-loop-part : goal.invariant-loop-part
invariant-loop-part l =
    chars (string_bytes l.out) ++ flat_map (λ next. codes ", " ++ next) (map part_text (map part_of (drop l.part-index l.parts))) ≡ chars (string_bytes l.fn.out) ++ flat_map (λ next. codes ", " ++ next) (map part_text (map part_of l.parts))
