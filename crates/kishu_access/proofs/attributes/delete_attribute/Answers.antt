use Rattle.std.proofs.Common.{true, length}
use Rattle.kishu_meaning.specs.values.Values.{value_of}
use Rattle.kishu_machine.specs.Machine.{moment_of}
use Rattle.kishu_meaning.specs.items.Subscripts.{delete_attribute}
use Rattle.kishu_access.proofs.Others.{no_attribute_deleted}
use Rattle.kishu_access.proofs.Ends.{by_end, unnamed, unnamed_sound}
use Rattle.kishu_access.proofs.attributes.delete_attribute.Goals as goal

pub returns-clause-gives : goal.returns-clause-gives
returns-clause-gives g c =
    let v = c.args.object.now in
    let s = moment_of c.args.machine.now in
    let x = c.args.name.now in
    by_end (λ u. u) c.no_attribute.result s (delete_attribute (value_of v) x s) _ (no_attribute_deleted v x s c.in_default.not-Node) (unnamed s c.no_attribute.result (value_of v) (λ u. u) x c.no_attribute.ensures.gives)

pub returns-clause-sound : goal.returns-clause-sound
returns-clause-sound g c =
    let n = length c.args.machine.now.heap in
    let s = moment_of c.args.machine.now in
    unnamed_sound s c.no_attribute.result (value_of c.args.object.now) (λ _. true) n c.args.name.now c.no_attribute.ensures.gives
