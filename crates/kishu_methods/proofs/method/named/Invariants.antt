use Rattle.std.proofs.Common.{◌≡◌, map, drop}
use Rattle.kishu_meaning.specs.calls.Methods.{method_named}
use Rattle.kishu_methods.proofs.method.named.Given as goal

abbrev pub invariant-loop-method : goal.invariant-loop-method
invariant-loop-method g l = method_named l.name (map g.M.Method.method_of l.methods) ≡ method_named l.name (map g.M.Method.method_of (drop l.method-index l.methods))
