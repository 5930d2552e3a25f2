use Rattle.std.proofs.Common.{length}
use Rattle.kishu_names.specs.Record.{texts_of}
use Rattle.kishu_loading.specs.Loaded.{held}
use Rattle.kishu_checkout.proofs.Bytes.{loaded_as, other_names}
use Rattle.kishu_checkout.proofs.Nodes.{nodes_kept}
use Rattle.kishu_checkout.proofs.Within.{names_more}
use Rattle.kishu_checkout.proofs.group.load_group.Goals as goal

pub returns-then-not-branch-clause-none : goal.returns-then-not-branch-clause-none
returns-then-not-branch-clause-none c = λ e p told just.
    let own = c.in-Some.own in
    let alone = rw c.in-Some.is at c.in_ok-own.ensures.loaded in
    other_names c.args.bytes.now c.args.heap.now (held c.load_alone.new.heap own) alone (texts_of c.args.group.now)
    (λ same. let yes_told = c.in_ok-binds_just.ensures.told.1 same in let no_told = c.if-not-branch.true in absurd (cc (yes_told, no_told))) p told just

pub returns-clause-loaded : goal.returns-clause-loaded
returns-clause-loaded c = λ e.
    let own = c.in-Some.own in
    let alone = rw c.in-Some.is at c.in_ok-own.ensures.loaded in
    let just = c.in_ok-binds_just.ensures.told.0 c.if-not-branch.false in
    loaded_as c.args.bytes.now c.args.heap.now (held c.load_alone.new.heap own) alone (texts_of c.args.group.now) c.args.names.now.bound
    c.bind_as.new.names.bound just c.in_ok-bind_as.ensures.bound

pub returns-in_err-own-clause-sound : goal.returns-in_err-own-clause-sound
returns-in_err-own-clause-sound c h =
    names_more (length c.args.heap.now) (length c.load_alone.new.heap) (nodes_kept c.args.heap.now c.load_alone.new.heap c.load_alone.ensures.nodes) c.args.names.now.bound h

pub returns-in_default-clause-sound : goal.returns-in_default-clause-sound
returns-in_default-clause-sound c h =
    names_more (length c.args.heap.now) (length c.load_alone.new.heap) (nodes_kept c.args.heap.now c.load_alone.new.heap c.load_alone.ensures.nodes) c.args.names.now.bound h

pub returns-in_err-binds_just-clause-sound : goal.returns-in_err-binds_just-clause-sound
returns-in_err-binds_just-clause-sound c h =
    names_more (length c.args.heap.now) (length c.load_alone.new.heap) (nodes_kept c.args.heap.now c.load_alone.new.heap c.load_alone.ensures.nodes) c.args.names.now.bound h

pub returns-then-not-branch-clause-sound : goal.returns-then-not-branch-clause-sound
returns-then-not-branch-clause-sound c h =
    names_more (length c.args.heap.now) (length c.load_alone.new.heap) (nodes_kept c.args.heap.now c.load_alone.new.heap c.load_alone.ensures.nodes) c.args.names.now.bound h

pub returns-in_err-bind_as-clause-sound : goal.returns-in_err-bind_as-clause-sound
returns-in_err-bind_as-clause-sound c h =
    let n = length c.load_alone.new.heap in
    let own = rw c.in-Some.is at c.in_ok-own.ensures.sound in
    c.bind_as.ensures.sound n own (names_more (length c.args.heap.now) n (nodes_kept c.args.heap.now c.load_alone.new.heap c.load_alone.ensures.nodes) c.args.names.now.bound h)

pub returns-clause-sound : goal.returns-clause-sound
returns-clause-sound c h =
    let n = length c.load_alone.new.heap in
    let own = rw c.in-Some.is at c.in_ok-own.ensures.sound in
    c.bind_as.ensures.sound n own (names_more (length c.args.heap.now) n (nodes_kept c.args.heap.now c.load_alone.new.heap c.load_alone.ensures.nodes) c.args.names.now.bound h)
