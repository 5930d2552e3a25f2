use Rattle.std.proofs.Common.{◌≡◌, map, drop}
use Rattle.std.specs.Rc.{rc_str_bytes}
use Rattle.kishu_language.specs.tokens.Names.{is_among}
use Rattle.kishu_machine.proofs.names.is_among.Given as goal

abbrev pub invariant-loop-other : goal.invariant-loop-other
invariant-loop-other l = is_among l.name (map rc_str_bytes (drop l.other-index l.names)) ≡ is_among l.name (map rc_str_bytes l.names)
