use Rattle.std.proofs.Common.{◌∙◌, ◌+◌, ◌^◌, sym, ap, arith, length}
use Rattle.std.specs.Prelude.{Err}
use Rattle.kishu_names.specs.Namespace.{names_of}
use Rattle.kishu_loading.specs.Parts.{state_of}
use Rattle.kishu_loading.proofs.Loads.{read_ok, read_fault, not_its, is_loaded, longer, leads_on}
use Rattle.kishu_loading.proofs.SoundNames.{names_more}
use Rattle.kishu_loading.proofs.loading.load.Goals as goal

pub returns-in-Err-Fault-clause-fault : goal.returns-in-Err-Fault-clause-fault
returns-in-Err-Fault-clause-fault c =
    let stops = rw c.in-Err-Fault.field-0-is at c.in-Err-Fault.ensures.gives in
    read_fault c.len.result c.args.bytes.now c.in-Err-Fault.left stops ∙ ap (λ at. Err at) (sym c.saturating_sub.ensures)

pub bind-requires : goal.bind-requires
bind-requires c =
    names_more (c.len.result + length c.in-Ok.picture.nodes.items) (2 ^ 32) (omega (arith, c.in-Ok.ensures.few))
    (names_of c.in-Ok.picture.names.items) c.in-Ok.ensures.names

pub returns-in_err-bind-clause-others : goal.returns-in_err-bind-clause-others
returns-in_err-bind-clause-others c x n =
    let picture = state_of c.in-Ok.picture in
    let read = read_ok c.len.result c.args.bytes.now picture _ c.in-Ok.ensures.gives in
    c.in_err-bind.ensures.others x (not_its c.len.result c.args.bytes.now picture read x n)

pub returns-in_err-bind-clause-sound : goal.returns-in_err-bind-clause-sound
returns-in_err-bind-clause-sound c h =
    let more = longer c.len.result c.args.heap.now c.in-Ok.picture.nodes.items c.make_all.new.self c.len.ensures.len c.in_ok-make_all.ensures.ok in
    leads_on c.in-Ok.picture.names.items c.len.result (length c.in-Ok.picture.nodes.items)
    c.args.heap.now c.make_all.new.self c.args.names.now.bound c.bind.new.names.bound
    more c.in-Ok.ensures.names c.len.ensures.len c.in_err-bind.ensures.sound h

pub returns-clause-sound : goal.returns-clause-sound
returns-clause-sound c h =
    let more = longer c.len.result c.args.heap.now c.in-Ok.picture.nodes.items c.make_all.new.self c.len.ensures.len c.in_ok-make_all.ensures.ok in
    leads_on c.in-Ok.picture.names.items c.len.result (length c.in-Ok.picture.nodes.items)
    c.args.heap.now c.make_all.new.self c.args.names.now.bound c.bind.new.names.bound
    more c.in-Ok.ensures.names c.len.ensures.len c.in_ok-bind.ensures.sound h

pub returns-clause-loaded : goal.returns-clause-loaded
returns-clause-loaded c =
    let picture = state_of c.in-Ok.picture in
    let read = read_ok c.len.result c.args.bytes.now picture _ c.in-Ok.ensures.gives in
    is_loaded c.len.result c.args.bytes.now picture read c.args.heap.now c.make_all.new.self c.args.names.now.bound c.bind.new.names.bound
    c.len.ensures.len c.in_ok-make_all.ensures.ok c.in_ok-bind.ensures.bound

pub returns-clause-others : goal.returns-clause-others
returns-clause-others c x n =
    let picture = state_of c.in-Ok.picture in
    let read = read_ok c.len.result c.args.bytes.now picture _ c.in-Ok.ensures.gives in
    c.in_ok-bind.ensures.others x (not_its c.len.result c.args.bytes.now picture read x n)
