use Rattle.std.proofs.lemmas.Result.{err_from_is_err_and}
use Rattle.kishu_meaning.specs.values.Sound.{is_sound}
use Rattle.kishu_meaning.specs.values.Values.{value_of}
use Rattle.kishu_loading.specs.Fronts.{front_of}
use Rattle.kishu_loading.specs.Moving.{top, moved_value}
use Rattle.kishu_loading.proofs.Keyed.{map_more, all_push, one_longer}
use Rattle.kishu_loading.proofs.Turns.{forward_on, turned_push, turned_fails, turned_end}
use Rattle.kishu_loading.proofs.values.Nodes.values.Goals as goal

pub loop-turn-preserved : goal.loop-turn-preserved
loop-turn-preserved c = record {
  so_far = turned_push (moved_value c.args.self.now.base c.args.self.now.count) c.args.count (front_of c.args.cursor.now) c.loop-turn._turn _
      (front_of c.loop-turn.cursor) c.loop-turn-test.true c.loop-turn.invariant.so_far (value_of c.in_ok-value.value) _ _
      c.in_ok-value.ensures.gives (map_more value_of c.push.new.self.items c.loop-turn.values.items c.in_ok-value.value c.in_ok-push.ensures.items);
  forward = forward_on (front_of c.args.cursor.now) (front_of c.loop-turn.cursor) (front_of c.value.new.cursor)
      c.loop-turn.invariant.forward c.in_ok-value.ensures.forward;
  sound = all_push (is_sound (top c.args.self.now.base c.args.self.now.count))
      value_of c.push.new.self.items c.loop-turn.values.items c.in_ok-value.value c.in_ok-push.ensures.items c.loop-turn.invariant.sound
      c.in_ok-value.ensures.sound;
  many = one_longer c.push.new.self.items c.loop-turn.values.items c.in_ok-value.value c.loop-turn._turn c.in_ok-push.ensures.items
      c.loop-turn.invariant.many;
}

pub returns-in_err-value-clause-gives : goal.returns-in_err-value-clause-gives
returns-in_err-value-clause-gives c =
    let p = err_from_is_err_and c.from_residual-in_err-value.result c.from_residual-in_err-value.ensures.1 in
    rw (p.1, p.2) (turned_fails (moved_value c.args.self.now.base c.args.self.now.count) c.args.count (front_of c.args.cursor.now)
    c.loop-turn._turn _ (front_of c.loop-turn.cursor) c.loop-turn-test.true c.loop-turn.invariant.so_far _ c.in_err-value.ensures.gives)

pub returns-clause-gives : goal.returns-clause-gives
returns-clause-gives c = turned_end (moved_value c.args.self.now.base c.args.self.now.count) c.args.count (front_of c.args.cursor.now)
    c.loop-turn._turn _ (front_of c.loop-turn.cursor) c.loop-turn-test.false c.loop-turn.invariant.so_far
