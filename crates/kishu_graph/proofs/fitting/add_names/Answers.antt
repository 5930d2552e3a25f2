use Rattle.std.proofs.Common.{◌∙◌, true, false, map, get_or, ap, sym}
use Rattle.std.proofs.lemmas.List.{map-append}
use Rattle.std.specs.Rc.{rc_str_bytes}
use Rattle.kishu_graph.proofs.Apart.{adds-nothing, adds-one, adds-next, adds-none, adds-all}
use Rattle.kishu_graph.proofs.fitting.add_names.Goals as goal

pub loop-name-init : goal.loop-name-init
loop-name-init c = adds-nothing c.args.names.now.keys

pub loop-name-preserved : goal.loop-name-preserved
loop-name-preserved c =
    let group = c.args.group.now in
    let item = c.name-item.result in
    let now = c.loop-name.names.keys in
    let new = c.insert.new.self.keys in
    let name = rc_str_bytes (get_or group c.loop-name.name-index item) in
    let one = adds-one name c.in_ok-clone.field-0 now new true (c.in_ok-clone.ensures.cases ∙ ap rc_str_bytes c.name-item.is) (sym c.if-not-branch.false ∙ c.in_ok-insert.ensures.added) c.in_ok-insert.ensures.keys in
    adds-next (map rc_str_bytes) (map-append rc_str_bytes) group c.loop-name.name-index item c.loop-name-test.true c.args.names.now.keys now new true c.loop-name.invariant one

pub returns-then-not-branch : goal.returns-then-not-branch
returns-then-not-branch c =
    let group = c.args.group.now in
    let item = c.name-item.result in
    let now = c.loop-name.names.keys in
    let new = c.insert.new.self.keys in
    let name = rc_str_bytes (get_or group c.loop-name.name-index item) in
    let one = adds-one name c.in_ok-clone.field-0 now new false (c.in_ok-clone.ensures.cases ∙ ap rc_str_bytes c.name-item.is) (sym c.if-not-branch.true ∙ c.in_ok-insert.ensures.added) c.in_ok-insert.ensures.keys in
    adds-none (map rc_str_bytes) (map-append rc_str_bytes) group c.loop-name.name-index item c.loop-name-test.true c.args.names.now.keys now new c.loop-name.invariant one

pub returns : goal.returns
returns c = adds-all (map rc_str_bytes) (map-append rc_str_bytes) c.args.group.now c.loop-name.name-index c.loop-name-test.false c.args.names.now.keys c.loop-name.names.keys c.loop-name.invariant
