use Rattle.std.proofs.Common.{ap, map, arith}
use Rattle.std.proofs.lemmas.Result.{err_from_is_err_and}
use Rattle.kishu_meaning.specs.values.Keys.{part_of}
use Rattle.kishu_loading.specs.Fronts.{front_of}
use Rattle.kishu_loading.specs.Moving.{one_part}
use Rattle.kishu_loading.proofs.Keyed.{map_more}
use Rattle.kishu_loading.proofs.Turns.{forward_on, turned_begin, turned_push, turned_fails, turned_end}
use Rattle.kishu_loading.proofs.keys.parts.Goals as goal

pub loop-turn-init : goal.loop-turn-init
loop-turn-init c = record {
  so_far = turned_begin one_part c.args.count (front_of c.args.cursor.now) _ (ap (map part_of) c.new-parts.ensures.items);
  forward = (omega arith, omega arith);
}

pub loop-turn-preserved : goal.loop-turn-preserved
loop-turn-preserved c = record {
  so_far = turned_push one_part c.args.count (front_of c.args.cursor.now) c.loop-turn._turn _ (front_of c.loop-turn.cursor)
      c.loop-turn-test.true c.loop-turn.invariant.so_far (part_of c.in_ok-part.part) _ _
      c.in_ok-part.ensures.gives (map_more part_of c.push.new.self.items c.loop-turn.parts.items c.in_ok-part.part c.in_ok-push.ensures.items);
  forward = forward_on (front_of c.args.cursor.now) (front_of c.loop-turn.cursor) (front_of c.part.new.cursor)
      c.loop-turn.invariant.forward c.in_ok-part.ensures.forward;
}

pub returns-in_err-part-clause-gives : goal.returns-in_err-part-clause-gives
returns-in_err-part-clause-gives c =
    let p = err_from_is_err_and c.from_residual.result c.from_residual.ensures.1 in
    rw (p.1, p.2) (turned_fails one_part c.args.count (front_of c.args.cursor.now) c.loop-turn._turn _ (front_of c.loop-turn.cursor)
    c.loop-turn-test.true c.loop-turn.invariant.so_far _ c.in_err-part.ensures.gives)

pub returns-clause-gives : goal.returns-clause-gives
returns-clause-gives c = turned_end one_part c.args.count (front_of c.args.cursor.now) c.loop-turn._turn _ (front_of c.loop-turn.cursor)
    c.loop-turn-test.false c.loop-turn.invariant.so_far
