-- Calls of builtin functions, classes and methods over the heap and the budget of a run.
use Rattle.std.proofs.Common.{◌≡◌, refl, subst, arith, ℕ, ◌≤◌, ◌≢◌, true, false, IsTrue, List, length, Result, Ok, Err, IfOk}
use Rattle.std.specs.Prelude.{slice_get, ◌==◌}
use Rattle.std.proofs.lemmas.Bool.Decides.{nat_tests}
use Rattle.kishu_meaning.specs.declared.budget.Budget.{Budget}
use Rattle.kishu_meaning.specs.declared.value.Value as rust
use Rattle.kishu_meaning_laws.specs.Bare.{bare}
use Rattle.kishu_meaning_laws.specs.BareLaws.{method_bare}
use Rattle.kishu_meaning.specs.calls.Builtins.{builtin_calls}
use Rattle.kishu_meaning.specs.calls.Callees.{call_builtin, construct, or_no_call, print_plain}
use Rattle.kishu_meaning.specs.calls.Methods.{call_method}
use Rattle.kishu_meaning.specs.moments.Moment.{Moment, Ends}
use Rattle.kishu_meaning.specs.values.BuiltinNames.{builtin_number}
use Rattle.kishu_meaning.specs.values.BuiltinNames as functions
use Rattle.kishu_meaning.specs.values.Classes.{namespace_class}
use Rattle.kishu_meaning.specs.values.Sound.{is_sound, are_sound, is_exception_class, is_sound_heap}
use Rattle.kishu_meaning.specs.values.Values.{Value, value_of, Node}
use Rattle.kishu_heap.specs.declared.fault.CallFault.{CallFault}
use Rattle.kishu_heap.specs.declared.fault.CallFault.TheVariants as calls
use Rattle.kishu_items.specs.Holding.{both}
use Rattle.kishu_items.specs.Called as called
use Rattle.kishu_builtins.specs.Called.{plainly, ThrowsSound}
use Rattle.kishu_builtins.specs.CallLaws.{builtin_kept, class_kept}
use Rattle.kishu_machine.specs.Lifted.{passed}
use Rattle.kishu_machine.specs.Machine.{Gives, IsSound, placed_in}
use Rattle.kishu_calls.specs.Forms.{plain_construct}
use Rattle.kishu_calls.proofs.KeepsMethods.{method_leaves}
use Rattle.kishu_calls.proofs.Passing.{fit_sound, lifted_in}

not_same : (a b : ℕ) → a ≢ b → (a == b) ≡ false
not_same a b h = grind (arith, nat_tests)

within : (n : ℕ) → n ≤ n
within n = omega arith

-- what a call over a heap returned and raised is sound, so it is what the run's call did
pub told_sound : (n : ℕ) (r : Result rust.Value CallFault) → IfOk r (λ v. IsTrue (is_sound n (value_of v))) → ThrowsSound n r → IsSound (λ v. is_sound n (value_of v)) n (passed r)
told_sound n (Ok v) h t = h
told_sound n (Err (calls.Raise class text)) h t = both (is_exception_class class.0) _ t refl
told_sound n (Err (calls.RaiseWith class v)) h t = both (is_exception_class class.0) _ t.0 (both (is_sound n (value_of v)) true t.1 refl)
told_sound n (Err calls.Spent) h t = tt
told_sound n (Err calls.NoMemory) h t = tt

plain_call : (n : ℕ) (vs : List Value) (s : Moment) → n ≢ builtin_number functions.print → call_builtin n (plainly vs) s ≡ or_no_call (slice_get (builtin_calls print_plain) n) vs s
plain_call n vs s h = rw (not_same n (builtin_number functions.print) h) refl

class_call : (n : ℕ) (vs : List Value) (s : Moment) → n ≢ namespace_class → construct n (plainly vs) s ≡ plain_construct n vs s
class_call n vs s h = rw (not_same n namespace_class h) refl

module _ (n : ℕ) (vs : List Value) (s : Moment) (ns : List Node) (b : Budget) (r : Result rust.Value CallFault) (d : b.depth ≡ s.depth) where
  module _ (h : n ≢ builtin_number functions.print) (g : called.Gives value_of r (called.moment_of ns b) (call_builtin n (plainly vs) (bare s.nodes s.left s.depth))) where
    pub builtin_gives : Gives value_of (passed r) (placed_in s ns b) (or_no_call (slice_get (builtin_calls print_plain) n) vs s)
    builtin_gives =
        subst (λ (e : Ends Value). Gives value_of (passed r) (placed_in s ns b) e) (plain_call n vs s h)
        (lifted_in value_of (call_builtin n (plainly vs)) (builtin_kept n h vs).bare s ns b r d g)

  module _ (h : n ≢ namespace_class) (g : called.Gives value_of r (called.moment_of ns b) (construct n (plainly vs) (bare s.nodes s.left s.depth))) where
    pub class_gives : Gives value_of (passed r) (placed_in s ns b) (plain_construct n vs s)
    class_gives =
        subst (λ (e : Ends Value). Gives value_of (passed r) (placed_in s ns b) e) (class_call n vs s h)
        (lifted_in value_of (construct n (plainly vs)) (class_kept n vs).bare s ns b r d g)

module _ (v : Value) (name : List ℕ) (vs : List Value) (s : Moment) (ns : List Node) (b : Budget) (r : Result rust.Value CallFault) (d : b.depth ≡ s.depth) (g : called.Gives value_of r (called.moment_of ns b) (call_method v name vs (bare s.nodes s.left s.depth))) where
  pub method_gives : Gives value_of (passed r) (placed_in s ns b) (call_method v name vs s)
  method_gives = lifted_in value_of (call_method v name vs) (method_bare v name vs) s ns b r d g

  pub method_sound : IsTrue (are_sound (length s.nodes) vs) → IsTrue (is_sound_heap s.nodes) → IsSound (λ v. is_sound (length ns) (value_of v)) (length ns) (passed r)
  method_sound a hs =
      fit_sound value_of is_sound (passed r) (placed_in s ns b) (call_method v name vs s) method_gives
      ((method_leaves (length s.nodes) v name vs a).leaves s (within (length s.nodes)) hs).1
