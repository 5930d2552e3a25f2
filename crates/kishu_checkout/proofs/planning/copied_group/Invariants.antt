use Rattle.std.proofs.Common.{◌≡◌, take, map}
use Rattle.std.specs.Rc.{rc_str_bytes}
use Rattle.kishu_checkout.proofs.planning.copied_group.Given as goal

abbrev pub invariant-loop-name : goal.invariant-loop-name
invariant-loop-name l = map rc_str_bytes l.names.items ≡ map rc_str_bytes (take l.name-index l.group.names.items)
