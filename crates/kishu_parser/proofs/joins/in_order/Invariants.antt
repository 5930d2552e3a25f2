use Rattle.std.proofs.Common.{◌≡◌, ◌++◌, drop, map}
use Rattle.std.specs.Rc.{rc_str_bytes}
use Rattle.std.specs.String.{string_bytes}
use Rattle.kishu_language.specs.grammar.Grammar.{joined}
use Rattle.kishu_parser.proofs.joins.in_order.Given as goal

abbrev pub invariant-loop-part : goal.invariant-loop-part
invariant-loop-part l = string_bytes l.all ++ joined (map rc_str_bytes (drop l.part-index l.parts)) ≡ joined (map rc_str_bytes l.parts)
