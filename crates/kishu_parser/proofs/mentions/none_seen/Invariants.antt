use Rattle.std.proofs.Common.{◌≡◌, drop, map}
use Rattle.std.specs.Rc.{rc_str_bytes}
use Rattle.kishu_language.specs.grammar.Refusals.{declared}
use Rattle.kishu_parser.specs.Sets.{names_in, note}
use Rattle.kishu_parser.proofs.mentions.none_seen.Given as goal

abbrev pub invariant-loop-name : goal.invariant-loop-name
invariant-loop-name l = note (names_in l.seen) (map declared (map rc_str_bytes l.names)) ≡ note (names_in l.seen) (map declared (map rc_str_bytes (drop l.name-index l.names)))
