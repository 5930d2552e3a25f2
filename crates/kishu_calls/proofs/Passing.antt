-- What a call raised is raised by its caller, whatever either would have returned.
use Rattle.std.proofs.Common.{◌≡◌, refl, ap, sym, subst, ℕ, Bool, IsTrue, List, [], ◌∷◌, ◌++◌, length, Option, Some, Result, Ok, Err, IfOk}
use Rattle.std.specs.Prelude.{codes}
use Rattle.std.specs.Str.{chars}
use Rattle.kishu_meaning.specs.declared.budget.Budget.{Budget}
use Rattle.kishu_meaning.specs.values.Kinds.{in_quotes, kind_in, no_attribute}
use Rattle.kishu_meaning.specs.values.Values.{Value, text, range, node, Node, list, tuple, dict}
use Rattle.kishu_meaning.specs.items.Walks.{keys, along_list, along_dict, along_tuple, along_text, along_range, node_walk, walk_of}
use Rattle.kishu_meaning_laws.specs.Bare.{bare, IsBare}
use Rattle.kishu_meaning.specs.moments.Moment.{Moment, Thrown, fresh, Ends, fine, raised, stopped, M, node_at, node_now}
use Rattle.kishu_meaning.specs.values.Classes.{attribute_error_class}
use Rattle.kishu_heap.specs.declared.fault.CallFault.{CallFault}
use Rattle.kishu_items.specs.Called as called
use Rattle.kishu_machine.specs.declared.fault.Fault.{Fault}
use Rattle.kishu_machine.specs.declared.fault.Fault.TheVariants as faults
use Rattle.kishu_machine.specs.Lifted.{passed, lifted}
use Rattle.kishu_machine.specs.Machine.{Gives, IsSound, is_sound_thrown, thrown_of, placed_in}
use Rattle.kishu_machine.specs.Raising.{RaisesSound, is_sound_end, then_raises, give_raises, look_raises, not_iterable_raises}
use Rattle.kishu_calls.proofs.Keeping.{is_fit}

-- the same end, where it is no answer
abbrev other_end : {A B : Type 0} → Ends A → Ends B
other_end (fine a s) = stopped s
other_end (raised x s) = raised x s
other_end (stopped s) = stopped s

abbrev thrown_at : {A : Type 0} → Ends A → Thrown
thrown_at (fine a s) = fresh 0 []
thrown_at (raised x s) = x
thrown_at (stopped s) = fresh 0 []

module _ {X A B : Type 0} (v : X → A) (w : X → B) where
  pub raised_as : (r : Result X Fault) (x : Thrown) (s t : Moment) → Gives v r t (raised x s) → Gives w r t (raised x s)
  raised_as (Ok a) x s t h = absurd cc
  raised_as (Err (faults.Raised y)) x s t h = ap other_end h
  raised_as (Err faults.Stopped) x s t h = ap other_end h
  raised_as (Err faults.NoMemory) x s t h = tt

module _ {X A : Type 0} (v : X → A) (holds : X → Bool) (n : ℕ) where
  pub raised_sound : (r : Result X Fault) (x : Thrown) (s t : Moment) → Gives v r t (raised x s) → IsTrue (is_sound_thrown n x) → IsSound holds n r
  raised_sound (Ok a) x s t h w = absurd cc
  raised_sound (Err (faults.Raised y)) x s t h w = subst (λ (z : Thrown). IsTrue (is_sound_thrown n z)) (ap thrown_at h) w
  raised_sound (Err faults.Stopped) x s t h w = tt
  raised_sound (Err faults.NoMemory) x s t h w = tt

module _ {X A : Type 0} (view : X → A) where
  -- what is sound at the end is so in what was returned or raised
  pub fit_sound : (holds : ℕ → A → Bool) (r : Result X Fault) (t : Moment) (e : Ends A) → Gives view r t e → IsTrue (is_fit holds e) → IsSound (λ x. holds (length t.nodes) (view x)) (length t.nodes) r
  fit_sound holds (Ok x) t e h w = subst (λ (z : Ends A). IsTrue (is_fit holds z)) h w
  fit_sound holds (Err (faults.Raised x)) t e h w = subst (λ (z : Ends A). IsTrue (is_fit holds z)) h w
  fit_sound holds (Err faults.Stopped) t e h w = tt
  fit_sound holds (Err faults.NoMemory) t e h w = tt

  -- what a call over a heap and a budget gives, it gives in a run
  pub lifted_in : (m : M A) → IsBare m → (s : Moment) (ns : List Node) (b : Budget) (r : Result X CallFault) → b.depth ≡ s.depth → called.Gives view r (called.moment_of ns b) (m (bare s.nodes s.left s.depth)) → Gives view (passed r) (placed_in s ns b) (m s)
  lifted_in m h s ns b r e g = subst (λ (d : ℕ). Gives view (passed r) (record s { nodes = ns; left = b.left; depth = d }) (m s)) (sym e) (lifted view m h s (called.moment_of ns b) r g)

-- a fault that is passed on
pub passed_on : {X Y : Type 0} (p : X → Bool) (q : Y → Bool) (n : ℕ) (f : Fault) → IsSound {X = X} p n (Err f) → IsSound {X = Y} q n (Err f)
passed_on p q n (faults.Raised x) h = h
passed_on p q n faults.Stopped h = tt
passed_on p q n faults.NoMemory h = tt

-- ---- a value without an attribute of this name

abbrev without_attribute : Moment → Value → List ℕ → Thrown
without_attribute s v x = fresh attribute_error_class (text (in_quotes (kind_in s.nodes v) ++ codes " object has no attribute '" ++ chars x ++ codes "'") ∷ [])

module _ {X : Type 0} (s : Moment) (r : Result X Fault) (v : Value) (x : List ℕ) where
  pub unnamed : {A : Type 0} (view : X → A) → Gives {X = X} {A = X} (λ y. y) r s (no_attribute v x s) → Gives view r s (no_attribute v x s)
  unnamed view h = raised_as (λ (y : X). y) view r (without_attribute s v x) s s h

  pub unnamed_sound : (holds : X → Bool) (n : ℕ) → Gives {X = X} {A = X} (λ y. y) r s (no_attribute v x s) → IsSound holds n r
  unnamed_sound holds n h = raised_sound (λ (y : X). y) holds n r (without_attribute s v x) s s h refl
