-- What is sound among n nodes is so among more.
use Rattle.std.proofs.Common.{refl, ℕ, ◌≤◌, Bool, ◌&&◌, IsTrue, List, [], ◌∷◌, length, Option, Some, None, Result, Ok, Err}
use Rattle.std.specs.List.{list_all}
use Rattle.kishu_meaning.specs.values.Values.{Value, node, Node, list, tuple, dict, object, function, exception, Names}
use Rattle.kishu_language.specs.tokens.Names.{is_name}
use Rattle.kishu_meaning.specs.values.Keys.{Key}
use Rattle.kishu_meaning.specs.values.Sound.{is_sound, are_sound, is_sound_node, is_exception_class, are_sound_names}
use Rattle.kishu_meaning.specs.moments.Moment.{Locals, Thrown, fresh, thrown_object}
use Rattle.kishu_items.specs.Holding.{both, first, second}
use Rattle.kishu_items.specs.Gathering.{value_more, values_more}
use Rattle.kishu_machine.specs.declared.fault.Fault.{Fault}
use Rattle.kishu_machine.specs.declared.fault.Fault.TheVariants as faults
use Rattle.kishu_machine.specs.Frames.{is_sound_locals, is_sound_handled, is_sound_run}
use Rattle.kishu_machine.specs.Lists.{are_sound_pairs}
use Rattle.kishu_machine.specs.Machine.{thrown_of, is_sound_thrown, IsSound}

module _ (n m : ℕ) (p : n ≤ m) where
  pub sound_more : (v : Value) → IsTrue (is_sound n v) → IsTrue (is_sound m v)
  sound_more v h = value_more n m p v h

  pub sound_more_all : (vs : List Value) → IsTrue (are_sound n vs) → IsTrue (are_sound m vs)
  sound_more_all vs h = values_more n m p vs h

  pub sound_more_pairs : (ps : List (Value × Value)) → IsTrue (are_sound_pairs n ps) → IsTrue (are_sound_pairs m ps)
  sound_more_pairs [] h = refl
  sound_more_pairs (q ∷ ps) h =
      let here = first (is_sound n q.0 && is_sound n q.1) _ h in
      both (is_sound m q.0 && is_sound m q.1) _
      (both (is_sound m q.0) _ (sound_more q.0 (first (is_sound n q.0) _ here)) (sound_more q.1 (second (is_sound n q.0) _ here)))
      (sound_more_pairs ps (second (is_sound n q.0 && is_sound n q.1) _ h))

  pub sound_more_names : (names : Names) → IsTrue (are_sound_names n names) → IsTrue (are_sound_names m names)
  sound_more_names [] h = refl
  sound_more_names (b ∷ names) h =
      let here = first (is_name b.0 && is_sound n b.1) _ h in
      both (is_name b.0 && is_sound m b.1) _
      (both (is_name b.0) _ (first (is_name b.0) _ here) (sound_more b.1 (second (is_name b.0) _ here)))
      (sound_more_names names (second (is_name b.0 && is_sound n b.1) _ h))

  pub sound_more_locals : (here : Option Locals) → IsTrue (is_sound_locals n here) → IsTrue (is_sound_locals m here)
  sound_more_locals None h = refl
  sound_more_locals (Some f) h = sound_more_names f.values h

  pub sound_more_handled : (handled : Option Value) → IsTrue (is_sound_handled n handled) → IsTrue (is_sound_handled m handled)
  sound_more_handled None h = refl
  sound_more_handled (Some v) h = sound_more v h

  sound_more_values : (es : List (Key × Value)) → IsTrue (list_all (λ e. is_sound n e.1) es) → IsTrue (list_all (λ e. is_sound m e.1) es)
  sound_more_values [] h = refl
  sound_more_values (e ∷ es) h = both (is_sound m e.1) _ (sound_more e.1 (first (is_sound n e.1) _ h)) (sound_more_values es (second (is_sound n e.1) _ h))

  pub sound_more_node : (x : Node) → IsTrue (is_sound_node n x) → IsTrue (is_sound_node m x)
  sound_more_node (list vs) h = sound_more_all vs h
  sound_more_node (tuple vs) h = sound_more_all vs h
  sound_more_node (dict es) h = sound_more_values es h
  sound_more_node (object attributes) h = sound_more_names attributes h
  sound_more_node (function profile code vs) h = sound_more_all vs h
  sound_more_node (exception kind vs) h = both (is_exception_class kind) _ (first (is_exception_class kind) _ h) (sound_more_all vs (second (is_exception_class kind) _ h))

  pub sound_more_thrown : (x : Thrown) → IsTrue (is_sound_thrown n x) → IsTrue (is_sound_thrown m x)
  sound_more_thrown (fresh kind vs) h = both (is_exception_class kind) _ (first (is_exception_class kind) _ h) (sound_more_all vs (second (is_exception_class kind) _ h))
  sound_more_thrown (thrown_object i) h = sound_more (node i) h

-- the values of names, of locals and of the exception that is handled, over a heap that grew
pub sound_more_run : (old new : List Node) (names : Names) (locals : Option Locals) (handled : Option Value) → length old ≤ length new
    → IsTrue (is_sound_run old names locals handled) → IsTrue (is_sound_run new names locals handled)
sound_more_run old new names locals handled p h =
    let n = length old in
    let m = length new in
    let rest = second (are_sound_names n names) _ h in
    both (are_sound_names m names) _ (sound_more_names n m p names (first (are_sound_names n names) _ h))
    (both (is_sound_locals m locals) _
    (sound_more_locals n m p locals (first (is_sound_locals n locals) _ rest))
    (sound_more_handled n m p handled (second (is_sound_locals n locals) _ rest)))

-- ---- a run's values, one by one

module _ (nodes : List Node) (names : Names) (locals : Option Locals) (handled : Option Value) where
  pub names_in_run : IsTrue (is_sound_run nodes names locals handled) → IsTrue (are_sound_names (length nodes) names)
  names_in_run h = first (are_sound_names (length nodes) names) _ h

  pub locals_in_run : IsTrue (is_sound_run nodes names locals handled) → IsTrue (is_sound_locals (length nodes) locals)
  locals_in_run h = first (is_sound_locals (length nodes) locals) _ (second (are_sound_names (length nodes) names) _ h)

  pub handled_in_run : IsTrue (is_sound_run nodes names locals handled) → IsTrue (is_sound_handled (length nodes) handled)
  handled_in_run h = second (is_sound_locals (length nodes) locals) _ (second (are_sound_names (length nodes) names) _ h)

  pub run_of : IsTrue (are_sound_names (length nodes) names) → IsTrue (is_sound_locals (length nodes) locals) → IsTrue (is_sound_handled (length nodes) handled) → IsTrue (is_sound_run nodes names locals handled)
  run_of h k l = both (are_sound_names (length nodes) names) _ h (both (is_sound_locals (length nodes) locals) _ k l)

-- the same run with other names, with other local names, and with another exception that is handled
pub run_with_names : (nodes : List Node) (old new : Names) (locals : Option Locals) (handled : Option Value) → IsTrue (are_sound_names (length nodes) new) → IsTrue (is_sound_run nodes old locals handled) → IsTrue (is_sound_run nodes new locals handled)
run_with_names nodes old new locals handled h r = run_of nodes new locals handled h (locals_in_run nodes old locals handled r) (handled_in_run nodes old locals handled r)

pub run_with_locals : (nodes : List Node) (names : Names) (old new : Option Locals) (handled : Option Value) → IsTrue (is_sound_locals (length nodes) new) → IsTrue (is_sound_run nodes names old handled) → IsTrue (is_sound_run nodes names new handled)
run_with_locals nodes names old new handled h r = run_of nodes names new handled (names_in_run nodes names old handled r) h (handled_in_run nodes names old handled r)

pub run_with_handled : (nodes : List Node) (names : Names) (locals : Option Locals) (old new : Option Value) → IsTrue (is_sound_handled (length nodes) new) → IsTrue (is_sound_run nodes names locals old) → IsTrue (is_sound_run nodes names locals new)
run_with_handled nodes names locals old new h r = run_of nodes names locals new (names_in_run nodes names locals old r) (locals_in_run nodes names locals old r) h
