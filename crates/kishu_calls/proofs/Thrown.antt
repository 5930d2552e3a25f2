-- What `raise` raises.
use Rattle.std.proofs.Common.{◌≡◌, refl, subst, sym, true, false, ℕ, List, Result}
use Rattle.std.specs.Prelude.{codes}
use Rattle.kishu_meaning.specs.moments.Moment.{Moment, Ends, raised, thrown_object, node_at}
use Rattle.kishu_meaning.specs.values.Values.{Value, none, bool, integer, text, range, builtin, class, node}
use Rattle.kishu_meaning.specs.cells.Ways.{is_exception, no_exception, throw_object, throw_value}
use Rattle.kishu_meaning.specs.values.Sound.{is_exception_class}
use Rattle.kishu_meaning.specs.values.Classes.{type_error_class}
use Rattle.kishu_machine.specs.declared.fault.Fault.{Fault}
use Rattle.kishu_machine.specs.Machine.{Gives, IsRaised, IsSound}
use Rattle.kishu_machine.specs.Raising.{raises_text, sound_text}

abbrev must_be : List ℕ
must_be = codes "exceptions must be exception classes or objects"

module _ {A : Type 0} where
  pub object_thrown : (i : ℕ) (s : Moment) → is_exception (node_at s.nodes (node i)) ≡ true → throw_object {A = A} (node i) s ≡ raised (thrown_object i) s
  object_thrown i s h = rw h refl

  pub none_thrown : (v : Value) (s : Moment) → is_exception (node_at s.nodes v) ≡ false → throw_object {A = A} v s ≡ no_exception {A = A} s
  none_thrown (node i) s h = rw h refl
  none_thrown none s h = refl
  none_thrown (bool b) s h = refl
  none_thrown (integer z) s h = refl
  none_thrown (text cs) s h = refl
  none_thrown (range a b c) s h = refl
  none_thrown (builtin n) s h = refl
  none_thrown (class n) s h = refl

  -- a call that refuses what is no exception
  pub refused : (r : Result A Fault) (s : Moment) → IsRaised r type_error_class must_be → Gives (λ (x : A). x) r s (no_exception {A = A} s)
  refused r s h = raises_text (λ (x : A). x) type_error_class must_be r s h

  pub refused_object : (r : Result A Fault) (v : Value) (s : Moment) → IsRaised r type_error_class must_be → is_exception (node_at s.nodes v) ≡ false → Gives (λ (x : A). x) r s (throw_object {A = A} v s)
  refused_object r v s h e = subst (λ (end : Ends A). Gives (λ (x : A). x) r s end) (sym (none_thrown v s e)) (refused r s h)

  pub refused_class : (r : Result A Fault) (n : ℕ) (s : Moment) → IsRaised r type_error_class must_be → is_exception_class n ≡ false → Gives (λ (x : A). x) r s (throw_value {A = A} (class n) s)
  refused_class r n s h e = rw e (refused r s h)

  pub refused_sound : (n : ℕ) (r : Result A Fault) → IsRaised r type_error_class must_be → IsSound (λ (x : A). true) n r
  refused_sound n r h = sound_text (λ (x : A). true) n type_error_class must_be r h refl

pub ruleset throw_rules = (object_thrown, none_thrown, refused_object, refused_class, refused_sound)
