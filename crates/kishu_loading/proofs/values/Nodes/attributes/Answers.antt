use Rattle.std.proofs.Common.{◌∙◌, ◌&&◌, ap, arith}
use Rattle.std.specs.List.{list_all}
use Rattle.std.proofs.lemmas.Result.{err_from_is_err_and}
use Rattle.kishu_heap.specs.Cells.{attributes_of}
use Rattle.kishu_meaning.specs.values.Sound.{is_sound}
use Rattle.kishu_meaning.specs.values.Values.{Value, value_of}
use Rattle.std.specs.Prelude.{ℕ, List}
use Rattle.std.specs.Rc.{rc_str_bytes}
use Rattle.std.specs.Str.{bytes_eq}
use Rattle.kishu_language.specs.tokens.Names.{is_name}
use Rattle.kishu_loading.specs.Fronts.{front_of}
use Rattle.kishu_loading.specs.Moving.{top, moved_value, attribute}
use Rattle.kishu_loading.proofs.Keyed.{goes_last, all_more}
use Rattle.kishu_loading.proofs.Turns.{forward_on, paired_begin, paired_push, key_fails, value_fails, paired_end}
use Rattle.kishu_loading.proofs.values.Nodes.attributes.Goals as goal

pub loop-turn-init : goal.loop-turn-init
loop-turn-init c = record {
  so_far = paired_begin bytes_eq attribute (moved_value c.args.self.now.base c.args.self.now.count) c.args.count (front_of c.args.cursor.now) _
      (ap attributes_of c.new-attributes.ensures.empty);
  forward = (omega arith, omega arith);
  sound = ap (λ es. list_all (λ (a : List ℕ × Value). is_name a.0 && is_sound (top c.args.self.now.base c.args.self.now.count) a.1)
      (attributes_of es)) c.new-attributes.ensures.empty;
}

pub loop-turn-preserved : goal.loop-turn-preserved
loop-turn-preserved c =
    let more = ap attributes_of c.in_ok-insert.ensures.entries ∙ goes_last rc_str_bytes bytes_eq c.in_ok-name.name c.in_ok-value.value
    c.loop-turn.attributes.entries c.in_ok-name.ensures.absent in
    record {
      so_far = paired_push bytes_eq attribute (moved_value c.args.self.now.base c.args.self.now.count) c.args.count (front_of c.args.cursor.now)
          c.loop-turn._turn _ (front_of c.loop-turn.cursor) c.loop-turn-test.true c.loop-turn.invariant.so_far
          (rc_str_bytes c.in_ok-name.name) (front_of c.new_attribute.new.cursor) c.in_ok-name.ensures.gives (value_of c.in_ok-value.value)
          _ _ c.in_ok-value.ensures.gives more;
      forward = forward_on (front_of c.args.cursor.now) (front_of c.new_attribute.new.cursor) (front_of c.value.new.cursor)
          (forward_on (front_of c.args.cursor.now) (front_of c.loop-turn.cursor) (front_of c.new_attribute.new.cursor)
          c.loop-turn.invariant.forward c.in_ok-name.ensures.forward) c.in_ok-value.ensures.forward;
      sound = ap (list_all (λ (a : List ℕ × Value). is_name a.0 && is_sound (top c.args.self.now.base c.args.self.now.count) a.1)) more
          ∙ all_more (λ (a : List ℕ × Value). is_name a.0 && is_sound (top c.args.self.now.base c.args.self.now.count) a.1)
          (attributes_of c.loop-turn.attributes.entries) (rc_str_bytes c.in_ok-name.name, value_of c.in_ok-value.value)
          c.loop-turn.invariant.sound (ap (λ b. b && is_sound (top c.args.self.now.base c.args.self.now.count) (value_of c.in_ok-value.value))
          c.in_ok-name.ensures.name ∙ c.in_ok-value.ensures.sound);
    }

pub returns-in_err-name-clause-gives : goal.returns-in_err-name-clause-gives
returns-in_err-name-clause-gives c =
    let p = err_from_is_err_and c.from_residual.result c.from_residual.ensures.1 in
    rw (p.1, p.2) (key_fails bytes_eq attribute (moved_value c.args.self.now.base c.args.self.now.count) c.args.count
    (front_of c.args.cursor.now) c.loop-turn._turn _ (front_of c.loop-turn.cursor)
    c.loop-turn-test.true c.loop-turn.invariant.so_far _ c.in_err-name.ensures.gives)

pub returns-in_err-value-clause-gives : goal.returns-in_err-value-clause-gives
returns-in_err-value-clause-gives c =
    let p = err_from_is_err_and c.from_residual-in_err-value.result c.from_residual-in_err-value.ensures.1 in
    rw (p.1, p.2) (value_fails bytes_eq attribute (moved_value c.args.self.now.base c.args.self.now.count) c.args.count
    (front_of c.args.cursor.now) c.loop-turn._turn _ (front_of c.loop-turn.cursor) c.loop-turn-test.true c.loop-turn.invariant.so_far
    (rc_str_bytes c.in_ok-name.name) (front_of c.new_attribute.new.cursor) c.in_ok-name.ensures.gives _ c.in_err-value.ensures.gives)

pub returns-clause-gives : goal.returns-clause-gives
returns-clause-gives c = paired_end bytes_eq attribute (moved_value c.args.self.now.base c.args.self.now.count) c.args.count
    (front_of c.args.cursor.now) c.loop-turn._turn _ (front_of c.loop-turn.cursor) c.loop-turn-test.false c.loop-turn.invariant.so_far
