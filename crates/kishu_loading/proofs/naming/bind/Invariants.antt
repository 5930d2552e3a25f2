use Rattle.std.proofs.Common.{◌≡◌}
use Rattle.kishu_loading.proofs.Binding.{Bound}
use Rattle.kishu_loading.proofs.naming.bind.Given as goal

abbrev pub invariant-loop-name : goal.invariant-loop-name
invariant-loop-name l = record {
  so_far : Bound l.fn.all.items l.name-iterator.rest.items l.fn.names.bound l.names.bound;
  accessed : l.names.accessed ≡ l.fn.names.accessed;
}
