use Rattle.std.proofs.Common.{◌∙◌, sym, length, map}
use Rattle.kishu_meaning.specs.values.Values.{value_of}
use Rattle.kishu_machine.specs.Machine.{moment_of}
use Rattle.kishu_meaning.specs.values.Sound.{is_sound}
use Rattle.kishu_meaning.specs.moments.Moment.{node_at}
use Rattle.kishu_meaning.specs.items.Subscripts.{node_item, not_subscriptable, taken}
use Rattle.kishu_access.proofs.Ends.{by_end, refused, refused_sound}
use Rattle.kishu_access.proofs.Taking.{items_taken, no_items}
use Rattle.kishu_access.proofs.subscripts.node_item.Goals as goal

pub returns-in-Some-clause-gives : goal.returns-in-Some-clause-gives
returns-in-Some-clause-gives g c =
    let v = value_of c.args.value.now in
    let i = value_of c.args.index.now in
    let s = moment_of c.args.machine.now in
    let o = node_at s.nodes v in
    let vs = map value_of c.in-Some.items.now in
    by_end value_of c.taken.result s (node_item v i o s) (taken vs i s) (items_taken o vs v i s c.in-Some.ensures.items) c.taken.ensures.gives

pub returns-clause-gives : goal.returns-clause-gives
returns-clause-gives g c =
    let v = value_of c.args.value.now in
    let i = value_of c.args.index.now in
    let s = moment_of c.args.machine.now in
    let o = node_at s.nodes v in
    by_end value_of c.not_subscriptable.result s (node_item v i o s) (not_subscriptable v s) (no_items o v i s (sym c.in_default.ensures.items) (sym c.is_dict.ensures.is ∙ c.if-is_dict.false)) (refused s c.not_subscriptable.result v value_of c.not_subscriptable.ensures.gives)

pub returns-clause-sound : goal.returns-clause-sound
returns-clause-sound g c =
    let n = length c.args.machine.now.heap in
    let s = moment_of c.args.machine.now in
    refused_sound s c.not_subscriptable.result (value_of c.args.value.now) (λ v. is_sound n (value_of v)) n c.not_subscriptable.ensures.gives
