-- How calls end: what they raise, and what is passed on.
use Rattle.std.proofs.Common.{◌≡◌, refl, ap, sym, subst, ℕ, Bool, true, IsTrue, List, [], ◌∷◌, ◌++◌, Result, Ok, Err, IfOk}
use Rattle.std.specs.Prelude.{codes}
use Rattle.std.specs.Str.{chars}
use Rattle.kishu_meaning.specs.values.Kinds.{in_quotes, kind_in, not_iterable, no_attribute}
use Rattle.kishu_meaning.specs.items.Subscripts.{not_subscriptable}
use Rattle.kishu_meaning.specs.values.Values.{Value, text}
use Rattle.kishu_meaning.specs.moments.Moment.{Moment, M, Ends, raised, Thrown, fresh}
use Rattle.kishu_meaning.specs.values.Classes.{attribute_error_class, type_error_class}
use Rattle.kishu_heap.specs.declared.fault.CallFault.{CallFault}
use Rattle.kishu_heap.specs.declared.fault.CallFault.TheVariants as calls
use Rattle.kishu_items.specs.Called as called
use Rattle.kishu_machine.specs.declared.fault.Fault.{Fault}
use Rattle.kishu_machine.specs.declared.fault.Fault.TheVariants as faults
use Rattle.kishu_machine.specs.Lifted.{passed}
use Rattle.kishu_machine.specs.Machine.{Gives, IsSound, thrown_of, is_sound_thrown}
use Rattle.kishu_machine.specs.Raising.{RaisesSound, is_sound_end}

module _ {X A : Type 0} (view : X → A) where
  -- the same by another form of the definition
  pub by_end : (r : Result X Fault) (t : Moment) (d e : Ends A) → d ≡ e → Gives view r t e → Gives view r t d
  by_end r t d e p h = subst (λ (x : Ends A). Gives view r t x) (sym p) h

  -- what a call that only raises raised
  pub as_raised : (x : Thrown) (s : Moment) (r : Result X Fault) → Gives {X = X} {A = X} (λ y. y) r s (raised x s) → Gives view r s (raised x s)
  as_raised x s (Ok y) h = absurd cc
  as_raised x s (Err (faults.Raised y)) h =
      let e : x ≡ thrown_of y = cc in
      ap (λ (z : Thrown). raised z s) e
  as_raised x s (Err faults.Stopped) h = absurd cc
  as_raised x s (Err faults.NoMemory) h = tt

  -- a call over a heap and a budget, with the fault of a run
  pub passed_gives : (r : Result X CallFault) (t : Moment) (e : Ends A) → called.Gives view r t e → Gives view (passed r) t e
  passed_gives (Ok x) t e h = h
  passed_gives (Err (calls.Raise class message)) t e h = h
  passed_gives (Err (calls.RaiseWith class v)) t e h = h
  passed_gives (Err calls.Spent) t e h = h
  passed_gives (Err calls.NoMemory) t e h = tt

-- a fault that is passed on
pub passed_on : {X Y : Type 0} (p : X → Bool) (q : Y → Bool) (n : ℕ) (f : Fault) → IsSound {X = X} p n (Err f) → IsSound {X = Y} q n (Err f)
passed_on p q n (faults.Raised x) h = h
passed_on p q n faults.Stopped h = tt
passed_on p q n faults.NoMemory h = tt

module _ {X : Type 0} where
  pub passed_ok : (P : X → Type 0) (r : Result X CallFault) → IfOk r P → IfOk (passed r) P
  passed_ok P (Ok x) h = h
  passed_ok P (Err f) h = tt

  -- what a call that only raises raised is sound
  pub sound_raised : (holds : X → Bool) (n : ℕ) (x : Thrown) (s : Moment) (r : Result X Fault) → Gives {X = X} {A = X} (λ y. y) r s (raised x s) → IsTrue (is_sound_thrown n x) → IsSound holds n r
  sound_raised holds n x s (Ok y) h w = absurd cc
  sound_raised holds n x s (Err (faults.Raised y)) h w =
      let e : x ≡ thrown_of y = cc in
      subst (λ (z : Thrown). IsTrue (is_sound_thrown n z)) e w
  sound_raised holds n x s (Err faults.Stopped) h w = absurd cc
  sound_raised holds n x s (Err faults.NoMemory) h w = tt

-- ---- what only raises: a value without items, one that isn't a sequence, and one without an attribute

abbrev without_items : Moment → Value → Thrown
without_items s v = fresh type_error_class (text (in_quotes (kind_in s.nodes v) ++ codes " object is not subscriptable") ∷ [])

abbrev without_order : Moment → Value → Thrown
without_order s v = fresh type_error_class (text (in_quotes (kind_in s.nodes v) ++ codes " object is not iterable") ∷ [])

abbrev without_attribute : Moment → Value → List ℕ → Thrown
without_attribute s v x = fresh attribute_error_class (text (in_quotes (kind_in s.nodes v) ++ codes " object has no attribute '" ++ chars x ++ codes "'") ∷ [])

module _ {X : Type 0} (s : Moment) (r : Result X Fault) (v : Value) where
  pub refused : {A : Type 0} (view : X → A) → Gives {X = X} {A = X} (λ y. y) r s (not_subscriptable v s) → Gives view r s (not_subscriptable v s)
  refused view h = as_raised view (without_items s v) s r h

  pub refused_sound : (holds : X → Bool) (n : ℕ) → Gives {X = X} {A = X} (λ y. y) r s (not_subscriptable v s) → IsSound holds n r
  refused_sound holds n h = sound_raised holds n (without_items s v) s r h refl

  pub unwalked : {A : Type 0} (view : X → A) → Gives {X = X} {A = X} (λ y. y) r s (not_iterable v s) → Gives view r s (not_iterable v s)
  unwalked view h = as_raised view (without_order s v) s r h

  pub unwalked_sound : (holds : X → Bool) (n : ℕ) → Gives {X = X} {A = X} (λ y. y) r s (not_iterable v s) → IsSound holds n r
  unwalked_sound holds n h = sound_raised holds n (without_order s v) s r h refl

  pub unnamed : {A : Type 0} (view : X → A) (x : List ℕ) → Gives {X = X} {A = X} (λ y. y) r s (no_attribute v x s) → Gives view r s (no_attribute v x s)
  unnamed view x h = as_raised view (without_attribute s v x) s r h

  pub unnamed_sound : (holds : X → Bool) (n : ℕ) (x : List ℕ) → Gives {X = X} {A = X} (λ y. y) r s (no_attribute v x s) → IsSound holds n r
  unnamed_sound holds n x h = sound_raised holds n (without_attribute s v x) s r h refl
