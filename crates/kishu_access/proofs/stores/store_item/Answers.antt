use Rattle.std.proofs.Common.{true, length}
use Rattle.kishu_meaning.specs.values.Values.{value_of}
use Rattle.kishu_machine.specs.Machine.{moment_of}
use Rattle.kishu_meaning.specs.items.Subscripts.{store_item}
use Rattle.kishu_access.proofs.Others.{no_store}
use Rattle.kishu_access.proofs.Ends.{by_end, refused, refused_sound}
use Rattle.kishu_access.proofs.stores.store_item.Goals as goal

pub returns-clause-gives : goal.returns-clause-gives
returns-clause-gives g c =
    let v = c.args.container.now in
    let s = moment_of c.args.machine.now in
    by_end (λ u. u) c.not_subscriptable.result s (store_item (value_of v) (value_of c.args.index.now) (value_of c.args.value) s) _ (no_store v (value_of c.args.index.now) (value_of c.args.value) s c.in_default.not-Node) (refused s c.not_subscriptable.result (value_of v) (λ u. u) c.not_subscriptable.ensures.gives)

pub returns-clause-sound : goal.returns-clause-sound
returns-clause-sound g c =
    let n = length c.args.machine.now.heap in
    let s = moment_of c.args.machine.now in
    refused_sound s c.not_subscriptable.result (value_of c.args.container.now) (λ _. true) n c.not_subscriptable.ensures.gives
