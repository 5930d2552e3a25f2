use Rattle.std.proofs.Common.{◌∙◌, ap, refl, arith, List, map}
use Rattle.std.proofs.lemmas.List.{drop_all}
use Rattle.kishu_meaning.specs.declared.value.Value as rust
use Rattle.kishu_meaning.specs.comparing.Comparing.{among}
use Rattle.std.proofs.lemmas.Result.{err_from_is_err_and}
use Rattle.kishu_meaning.specs.comparing.Equal.{pair_equal, equal_nodes, room_at}
use Rattle.kishu_meaning.specs.values.Values.{value_of}
use Rattle.kishu_machine.specs.Machine.{placed_in}
use Rattle.kishu_machine.proofs.Members.{found_fails, found_here, found_later}
use Rattle.kishu_machine.proofs.comparing.among.Goals as goal

pub loop-item-init : goal.loop-item-init
loop-item-init g c = record { same = λ s. refl; depth = refl; least = omega arith; reads = omega arith; left = omega arith }

pub returns-in_err-answered-clause-gives : goal.returns-in_err-answered-clause-gives
returns-in_err-answered-clause-gives g c = λ s.
    let v = value_of c.args.value.now in
    let heap = c.args.heap.now in
    let b = c.loop-item.budget in
    let left = c.is_item-answer.new.budget.left in
    let here = placed_in s heap b in
    let e = pair_equal (equal_nodes heap (room_at b.depth)) (value_of c.item-item.result) v b.left in
    let p = err_from_is_err_and c.from_residual.result c.from_residual.ensures.1 in
    rw (c.loop-item.invariant.same s, p.1, p.2, c.is_item-answer.ensures.depth)
    (found_fails v c.args.items.now c.loop-item.item-index c.item-item.result here c.loop-item-test.true c.item-item.is c.in_err-answered.field-0.0 (record here { left = left }) (c.in_err-answered.ensures.gives here left e c.is_item-answer.ensures.gives))

pub returns-in_err-answered-clause-sound : goal.returns-in_err-answered-clause-sound
returns-in_err-answered-clause-sound g c = λ n.
    let b = c.loop-item.budget in
    let e = pair_equal (equal_nodes c.args.heap.now (room_at b.depth)) (value_of c.item-item.result) (value_of c.args.value.now) b.left in
    let p = err_from_is_err_and c.from_residual.result c.from_residual.ensures.1 in
    rw (p.1, p.2) (c.in_err-answered.ensures.sound n c.is_item-answer.new.budget.left e c.is_item-answer.ensures.gives)

pub returns-then-branch-clause-gives : goal.returns-then-branch-clause-gives
returns-then-branch-clause-gives g c = λ s.
    let v = value_of c.args.value.now in
    let heap = c.args.heap.now in
    let b = c.loop-item.budget in
    let left = c.is_item-answer.new.budget.left in
    let here = placed_in s heap b in
    let e = pair_equal (equal_nodes heap (room_at b.depth)) (value_of c.item-item.result) v b.left in
    rw (c.loop-item.invariant.same s, c.is_item-answer.ensures.depth)
    (found_here v c.args.items.now c.loop-item.item-index c.item-item.result here c.loop-item-test.true c.item-item.is (record here { left = left }) (rw c.if-branch.true at (c.in_ok-answered.ensures.gives here left e c.is_item-answer.ensures.gives)))

pub loop-item-preserved : goal.loop-item-preserved
loop-item-preserved g c = record {
  same = λ s.
      (let v = value_of c.args.value.now in
      let heap = c.args.heap.now in
      let b = c.loop-item.budget in
      let left = c.is_item-answer.new.budget.left in
      let here = placed_in s heap b in
      let e = pair_equal (equal_nodes heap (room_at b.depth)) (value_of c.item-item.result) v b.left in
      ◌∙◌ {a = among v (map value_of c.args.items.now) (placed_in s heap c.args.budget.now)} (c.loop-item.invariant.same s)
      (rw c.is_item-answer.ensures.depth (found_later v c.args.items.now c.loop-item.item-index c.item-item.result here c.loop-item-test.true c.item-item.is (record here { left = left }) (rw c.if-branch.false at (c.in_ok-answered.ensures.gives here left e c.is_item-answer.ensures.gives)))));
  depth = c.is_item-answer.ensures.depth ∙ c.loop-item.invariant.depth;
  least = omega arith;
  reads = omega arith;
  left = omega arith;
}

pub returns-clause-gives : goal.returns-clause-gives
returns-clause-gives g c = λ s.
    let items = c.args.items.now in
    let i = c.loop-item.item-index in
    let here = placed_in s c.args.heap.now c.loop-item.budget in
    ◌∙◌ {a = among (value_of c.args.value.now) (map value_of items) (placed_in s c.args.heap.now c.args.budget.now)} (c.loop-item.invariant.same s) (ap (λ (vs : List rust.Value). among (value_of c.args.value.now) (map value_of vs) here) (drop_all i items (omega (arith, c.loop-item-test.false))))
