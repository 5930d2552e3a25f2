use Rattle.std.proofs.Common.{◌≡◌, ◌∙◌, ◌+◌, ◌≤◌, ap, subst, arith}
use Rattle.std.specs.Prelude.{None, Ok}
use Rattle.std.specs.Rc.{rc_str_bytes}
use Rattle.std.proofs.lemmas.Result.{err_from_is_err_and}
use Rattle.kishu_meaning.specs.values.Sound.{are_sound_names}
use Rattle.kishu_meaning.specs.values.Values.{value_of}
use Rattle.kishu_names.specs.Namespace.{names_of}
use Rattle.kishu_loading.specs.Fronts.{front_of, Fails}
use Rattle.kishu_loading.specs.Moving.{moved_value, name_behind}
use Rattle.kishu_loading.specs.Seen.{last_name}
use Rattle.kishu_loading.proofs.Keyed.{map_more}
use Rattle.kishu_loading.proofs.SoundNames.{names_push}
use Rattle.kishu_loading.proofs.Turns.{forward_on, titled_begin, titled_push, title_fails, bound_fails, titled_end}
use Rattle.kishu_loading.proofs.values.Nodes.names.Goals as goal

pub loop-turn-init : goal.loop-turn-init
loop-turn-init c = record {
  so_far = titled_begin (moved_value c.args.self.now.base None) c.args.count (front_of c.args.cursor.now) _ (ap names_of c.new-names.ensures.items);
  forward = (omega arith, omega arith);
  sound = ap (λ ns. are_sound_names (c.args.self.now.base + c.args.cursor.now.met) (names_of ns)) c.new-names.ensures.items;
}

pub loop-turn-preserved : goal.loop-turn-preserved
loop-turn-preserved c =
    let at = c.loop-turn in
    let further : c.args.self.now.base + at.cursor.met ≤ c.args.self.now.base + c.value.new.cursor.met =
    omega (arith, c.in_ok-name.ensures.forward.0, c.in_ok-value.ensures.forward.0) in
    let more = map_more (λ e. (rc_str_bytes e.0, value_of e.1)) c.push.new.self.items at.names.items (c.in_ok-name.name, c.in_ok-value.value)
    c.in_ok-push.ensures.items in
    record {
      so_far = titled_push (moved_value c.args.self.now.base None) c.args.count (front_of c.args.cursor.now) at._turn _ (front_of at.cursor)
          c.loop-turn-test.true at.invariant.so_far
          (rc_str_bytes c.in_ok-name.name) (front_of c.name.new.self)
          (subst (λ last. name_behind last (front_of at.cursor) ≡ Ok (rc_str_bytes c.in_ok-name.name, front_of c.name.new.self))
          (c.last_name.ensures ∙ ap (λ ns. last_name (names_of ns)) c.deref.ensures.value) c.in_ok-name.ensures.gives)
          (value_of c.in_ok-value.value) _ _
          (subst (λ count. moved_value c.args.self.now.base count (front_of c.name.new.self)
          ≡ Ok (value_of c.in_ok-value.value, front_of c.value.new.cursor)) c.requires.open c.in_ok-value.ensures.gives) more;
      forward = forward_on (front_of c.args.cursor.now) (front_of c.name.new.self) (front_of c.value.new.cursor)
          (forward_on (front_of c.args.cursor.now) (front_of at.cursor) (front_of c.name.new.self)
          at.invariant.forward c.in_ok-name.ensures.forward) c.in_ok-value.ensures.forward;
      sound = names_push (c.args.self.now.base + at.cursor.met) (c.args.self.now.base + c.value.new.cursor.met) further
          (rc_str_bytes c.in_ok-name.name) (value_of c.in_ok-value.value) (names_of at.names.items) (names_of c.push.new.self.items)
          more at.invariant.sound c.in_ok-name.ensures.name c.in_ok-value.ensures.met;
    }

pub returns-in_err-name-clause-gives : goal.returns-in_err-name-clause-gives
returns-in_err-name-clause-gives c =
    let p = err_from_is_err_and c.from_residual.result c.from_residual.ensures.1 in
    let at = c.loop-turn in
    rw (p.1, p.2) (title_fails (moved_value c.args.self.now.base None) c.args.count (front_of c.args.cursor.now) at._turn _ (front_of at.cursor)
    c.loop-turn-test.true at.invariant.so_far _
    (subst (λ last. Fails (name_behind last (front_of at.cursor)) c.in_err-name.field-0.0)
    (c.last_name.ensures ∙ ap (λ ns. last_name (names_of ns)) c.deref.ensures.value) c.in_err-name.ensures.gives))

pub returns-in_err-value-clause-gives : goal.returns-in_err-value-clause-gives
returns-in_err-value-clause-gives c =
    let p = err_from_is_err_and c.from_residual-in_err-value.result c.from_residual-in_err-value.ensures.1 in
    let at = c.loop-turn in
    rw (p.1, p.2) (bound_fails (moved_value c.args.self.now.base None) c.args.count (front_of c.args.cursor.now) at._turn _ (front_of at.cursor)
    c.loop-turn-test.true at.invariant.so_far
    (rc_str_bytes c.in_ok-name.name) (front_of c.name.new.self)
    (subst (λ last. name_behind last (front_of at.cursor) ≡ Ok (rc_str_bytes c.in_ok-name.name, front_of c.name.new.self))
    (c.last_name.ensures ∙ ap (λ ns. last_name (names_of ns)) c.deref.ensures.value) c.in_ok-name.ensures.gives)
    _ (subst (λ count. Fails (moved_value c.args.self.now.base count (front_of c.name.new.self)) c.in_err-value.field-0.0)
    c.requires.open c.in_err-value.ensures.gives))

pub returns-clause-gives : goal.returns-clause-gives
returns-clause-gives c = titled_end (moved_value c.args.self.now.base None) c.args.count (front_of c.args.cursor.now) c.loop-turn._turn _
    (front_of c.loop-turn.cursor) c.loop-turn-test.false c.loop-turn.invariant.so_far
