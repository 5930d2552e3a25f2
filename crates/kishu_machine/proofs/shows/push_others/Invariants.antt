use Rattle.std.proofs.Common.{◌≡◌, ◌++◌, map, drop}
use Rattle.std.specs.List.{flat_map}
use Rattle.std.specs.Str.{chars}
use Rattle.std.specs.String.{string_bytes}
use Rattle.kishu_machine.proofs.shows.push_others.Given as goal

abbrev pub invariant-loop-text : goal.invariant-loop-text
invariant-loop-text l =
    chars (string_bytes l.out) ++ flat_map (λ next. chars l.separator ++ next) (map (λ t. chars (string_bytes t)) (drop l.text-index l.texts))
    ≡ chars (string_bytes l.fn.out) ++ flat_map (λ next. chars l.separator ++ next) (map (λ t. chars (string_bytes t)) l.texts)
