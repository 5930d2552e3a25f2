use Rattle.std.proofs.Common.{true, length}
use Rattle.kishu_meaning.specs.values.Values.{value_of}
use Rattle.kishu_machine.specs.Machine.{moment_of}
use Rattle.std.specs.Rc.{rc_str_bytes}
use Rattle.kishu_meaning.specs.items.Subscripts.{store_attribute}
use Rattle.kishu_access.proofs.Others.{no_attribute_stored}
use Rattle.kishu_access.proofs.Ends.{by_end, unnamed, unnamed_sound}
use Rattle.kishu_access.proofs.attributes.store_attribute.Goals as goal

pub returns-clause-gives : goal.returns-clause-gives
returns-clause-gives g c =
    let v = c.args.object.now in
    let s = moment_of c.args.machine.now in
    let x = rc_str_bytes c.args.name.now in
    let told = rw c.as_str.ensures.value at c.no_attribute.ensures.gives in
    by_end (λ u. u) c.no_attribute.result s (store_attribute (value_of v) x (value_of c.args.value) s) _ (no_attribute_stored v x (value_of c.args.value) s c.in_default.not-Node) (unnamed s c.no_attribute.result (value_of v) (λ u. u) x told)

pub returns-clause-sound : goal.returns-clause-sound
returns-clause-sound g c =
    let n = length c.args.machine.now.heap in
    let s = moment_of c.args.machine.now in
    unnamed_sound s c.no_attribute.result (value_of c.args.object.now) (λ _. true) n c.as_str.result.now c.no_attribute.ensures.gives
