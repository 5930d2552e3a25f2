use Rattle.std.proofs.Common.{◌∙◌, ap, arith}
use Rattle.std.specs.List.{list_all}
use Rattle.std.proofs.lemmas.Result.{err_from_is_err_and}
use Rattle.kishu_heap.specs.Cells.{entries_of}
use Rattle.kishu_meaning.specs.values.Sound.{is_sound}
use Rattle.kishu_meaning.specs.values.Values.{Value, value_of}
use Rattle.kishu_meaning.specs.values.Keys.{Key, key_of, is_one}
use Rattle.kishu_loading.specs.Fronts.{front_of}
use Rattle.kishu_loading.specs.Moving.{top, moved_value, one_key}
use Rattle.kishu_loading.proofs.Keyed.{goes_last, all_more}
use Rattle.kishu_loading.proofs.Turns.{forward_on, paired_begin, paired_push, key_fails, value_fails, paired_end}
use Rattle.kishu_loading.proofs.values.Nodes.entries.Goals as goal

pub loop-turn-init : goal.loop-turn-init
loop-turn-init c = record {
  so_far = paired_begin is_one one_key (moved_value c.args.self.now.base c.args.self.now.count) c.args.count (front_of c.args.cursor.now) _
      (ap entries_of c.in_ok-entries.ensures.empty);
  forward = (omega arith, omega arith);
  sound = ap (λ es. list_all (λ (e : Key × Value). is_sound (top c.args.self.now.base c.args.self.now.count) e.1) (entries_of es))
      c.in_ok-entries.ensures.empty;
}

pub loop-turn-preserved : goal.loop-turn-preserved
loop-turn-preserved c =
    let more = ap entries_of c.in_ok-insert.ensures.entries ∙ goes_last key_of is_one c.in_ok-key.key c.in_ok-value.value
    c.loop-turn.entries.entries c.in_ok-key.ensures.absent in
    record {
      so_far = paired_push is_one one_key (moved_value c.args.self.now.base c.args.self.now.count) c.args.count (front_of c.args.cursor.now)
          c.loop-turn._turn _ (front_of c.loop-turn.cursor) c.loop-turn-test.true c.loop-turn.invariant.so_far
          (key_of c.in_ok-key.key) (front_of c.new_key.new.cursor) c.in_ok-key.ensures.gives (value_of c.in_ok-value.value)
          _ _ c.in_ok-value.ensures.gives more;
      forward = forward_on (front_of c.args.cursor.now) (front_of c.new_key.new.cursor) (front_of c.value.new.cursor)
          (forward_on (front_of c.args.cursor.now) (front_of c.loop-turn.cursor) (front_of c.new_key.new.cursor)
          c.loop-turn.invariant.forward c.in_ok-key.ensures.forward) c.in_ok-value.ensures.forward;
      sound = ap (list_all (λ (e : Key × Value). is_sound (top c.args.self.now.base c.args.self.now.count) e.1)) more
          ∙ all_more (λ (e : Key × Value). is_sound (top c.args.self.now.base c.args.self.now.count) e.1)
          (entries_of c.loop-turn.entries.entries) (key_of c.in_ok-key.key, value_of c.in_ok-value.value)
          c.loop-turn.invariant.sound c.in_ok-value.ensures.sound;
    }

pub returns-in_err-key-clause-gives : goal.returns-in_err-key-clause-gives
returns-in_err-key-clause-gives c =
    let p = err_from_is_err_and c.from_residual-in_err-key.result c.from_residual-in_err-key.ensures.1 in
    rw (p.1, p.2) (key_fails is_one one_key (moved_value c.args.self.now.base c.args.self.now.count) c.args.count (front_of c.args.cursor.now)
    c.loop-turn._turn _ (front_of c.loop-turn.cursor) c.loop-turn-test.true c.loop-turn.invariant.so_far _ c.in_err-key.ensures.gives)

pub returns-in_err-value-clause-gives : goal.returns-in_err-value-clause-gives
returns-in_err-value-clause-gives c =
    let p = err_from_is_err_and c.from_residual-in_err-value.result c.from_residual-in_err-value.ensures.1 in
    rw (p.1, p.2) (value_fails is_one one_key (moved_value c.args.self.now.base c.args.self.now.count) c.args.count (front_of c.args.cursor.now)
    c.loop-turn._turn _ (front_of c.loop-turn.cursor) c.loop-turn-test.true c.loop-turn.invariant.so_far
    (key_of c.in_ok-key.key) (front_of c.new_key.new.cursor) c.in_ok-key.ensures.gives _ c.in_err-value.ensures.gives)

pub returns-clause-gives : goal.returns-clause-gives
returns-clause-gives c = paired_end is_one one_key (moved_value c.args.self.now.base c.args.self.now.count) c.args.count
    (front_of c.args.cursor.now) c.loop-turn._turn _ (front_of c.loop-turn.cursor) c.loop-turn-test.false c.loop-turn.invariant.so_far
