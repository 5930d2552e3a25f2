use Rattle.std.proofs.Common.{ap, length, map, arith}
use Rattle.std.proofs.lemmas.Result.{err_from_is_err_and}
use Rattle.kishu_heap.specs.Cells.{node_of}
use Rattle.kishu_meaning.specs.values.Sound.{is_sound_node, are_sound_nodes}
use Rattle.kishu_loading.specs.Fronts.{front_of}
use Rattle.kishu_loading.specs.Moving.{top, moved_value}
use Rattle.kishu_loading.proofs.Keyed.{map_more, all_push, one_longer}
use Rattle.kishu_loading.proofs.Turns.{forward_on, rowed_begin, rowed_push, unmet_fault, row_fails, rowed_end}
use Rattle.kishu_loading.proofs.values.Nodes.rows.Goals as goal

pub loop-row-init : goal.loop-row-init
loop-row-init c = record {
  so_far = rowed_begin (moved_value c.args.self.now.base c.args.self.now.count) c.args.count (front_of c.args.cursor.now) _
      (ap (map node_of) c.in_ok-rows.ensures.items);
  forward = (omega arith, omega arith);
  sound = ap (λ ms. are_sound_nodes (top c.args.self.now.base c.args.self.now.count) (map node_of ms)) c.in_ok-rows.ensures.items;
  many = ap length c.in_ok-rows.ensures.items;
  met = omega arith;
}

pub loop-row-preserved : goal.loop-row-preserved
loop-row-preserved c = record {
  so_far = rowed_push (moved_value c.args.self.now.base c.args.self.now.count) c.args.count (front_of c.args.cursor.now) c.loop-row.row _
      (front_of c.loop-row.cursor) c.loop-row-test.true c.loop-row.invariant.so_far (omega arith) (node_of c.in_ok-node.node) _ _
      c.in_ok-node.ensures.gives (map_more node_of c.push.new.self.items c.loop-row.rows.items c.in_ok-node.node c.in_ok-push.ensures.items);
  forward = forward_on (front_of c.args.cursor.now) (front_of c.loop-row.cursor) (front_of c.row.new.cursor)
      c.loop-row.invariant.forward c.in_ok-node.ensures.forward;
  sound = all_push (is_sound_node (top c.args.self.now.base c.args.self.now.count))
      node_of c.push.new.self.items c.loop-row.rows.items c.in_ok-node.node c.in_ok-push.ensures.items c.loop-row.invariant.sound
      c.in_ok-node.ensures.sound;
  many = one_longer c.push.new.self.items c.loop-row.rows.items c.in_ok-node.node c.loop-row.row c.in_ok-push.ensures.items c.loop-row.invariant.many;
  met = omega (arith, c.in_ok-node.ensures.forward.0);
}

pub returns-then-row-cursor-clause-gives : goal.returns-then-row-cursor-clause-gives
returns-then-row-cursor-clause-gives c =
    rw c.fault.ensures (unmet_fault (moved_value c.args.self.now.base c.args.self.now.count) c.args.count (front_of c.args.cursor.now)
    c.loop-row.row _ (front_of c.loop-row.cursor) c.loop-row-test.true c.loop-row.invariant.so_far c.if-row-cursor.true)

pub returns-in_err-node-clause-gives : goal.returns-in_err-node-clause-gives
returns-in_err-node-clause-gives c =
    let p = err_from_is_err_and c.from_residual-in_err-node.result c.from_residual-in_err-node.ensures.1 in
    rw (p.1, p.2) (row_fails (moved_value c.args.self.now.base c.args.self.now.count) c.args.count (front_of c.args.cursor.now) c.loop-row.row _
    (front_of c.loop-row.cursor) c.loop-row-test.true c.loop-row.invariant.so_far (omega arith) _ c.in_err-node.ensures.gives)

pub returns-clause-gives : goal.returns-clause-gives
returns-clause-gives c = rowed_end (moved_value c.args.self.now.base c.args.self.now.count) c.args.count (front_of c.args.cursor.now)
    c.loop-row.row _ (front_of c.loop-row.cursor) c.loop-row-test.false c.loop-row.invariant.so_far
