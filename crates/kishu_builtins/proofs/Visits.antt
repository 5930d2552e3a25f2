-- Turns of visits, one after the other.
use Rattle.std.proofs.Common.{◌≡◌, ◌∙◌, ap, refl, arith, ℕ, suc, ◌+◌, ◌-◌, ◌<◌, Bool, true, false, Option, Some, None}
use Rattle.std.specs.Prelude.{not, if◌then◌else◌}
use Rattle.std.specs.Bool.{beq}
use Rattle.kishu_meaning.specs.calls.Builtins.{and_next, decided, folded}
use Rattle.kishu_meaning.specs.moments.Moment.{M, Moment, Ends, fine, raised, stopped, and_then, ◌>>=◌, give, tick}
use Rattle.kishu_meaning.specs.calls.Operators.{truth}
use Rattle.kishu_meaning.specs.values.Values.{Value, bool}
use Rattle.kishu_meaning.specs.items.Walks.{Walk, item_for}
use Rattle.kishu_heap.specs.declared.fault.CallFault.{CallFault}
use Rattle.kishu_builtins.specs.Called.{Fails}
pub use Rattle.kishu_items.specs.Failing.{fails_through}
use Rattle.kishu_builtins.specs.Walking.{visited}

-- the turns that are left, one more than after this one
pub fuel : (l at : ℕ) → at < l + 1 → suc l - at ≡ suc (suc l - (at + 1))
fuel l at h = omega arith

pub start : (l : ℕ) → suc l ≡ suc l - 0
start l = omega arith

pub next : (at : ℕ) → at + 1 ≡ suc at
next at = omega arith

abbrev pub or_end : {A : Type 0} → M A → (Value → M A) → Option Value → M A
or_end end f (Some v) = f v
or_end end f None = end

after_tick : {A : Type 0} (e : Ends (Unit {0})) (v : Value) (end : M A) (f : Value → M A) → and_then e (λ _. f v) ≡ and_then (and_then e (λ _. give (Some v))) (or_end end f)
after_tick (fine u t) v end f = refl
after_tick (raised x t) v end f = refl
after_tick (stopped t) v end f = refl

through : {A : Type 0} (e : Ends (Option Value)) (end : M A) (f : Value → M A)
    → and_then e (λ found. and_next found end f) ≡ and_then (and_then e (λ found. and_next found (give None) (λ v. give (Some v)))) (or_end end f)
through (fine (Some v) t) end f = after_tick (tick t) v end f
through (fine None t) end f = refl
through (raised x t) end f = refl
through (stopped t) end f = refl

module _ (which : Bool) (walk : Walk) (n m k j : ℕ) (fuel : n ≡ suc m) (next : j ≡ suc k) (s t : Moment) where
  abbrev look_at : Value → M Value
  look_at v = truth v >>= λ b. if beq b which then give (bool which) else decided which m walk (suc k)

  decided_by : decided which n walk k s ≡ and_then (visited walk k s) (or_end (give (bool (not which))) look_at)
  decided_by = ap (λ i. decided which i walk k s) fuel ∙ through (item_for walk k s) (give (bool (not which))) look_at

  pub decided_fault : (f : CallFault) → Fails {A = Option Value} f t (visited walk k s) → Fails {A = Value} f t (decided which n walk k s)
  decided_fault f h = rw decided_by (fails_through f t (visited walk k s) (or_end (give (bool (not which))) look_at) h)

  pub decided_none : visited walk k s ≡ fine None t → decided which n walk k s ≡ fine (bool (not which)) t
  decided_none h = decided_by ∙ rw h refl

  seen : (v : Value) (b : Bool) → visited walk k s ≡ fine (Some v) t → truth v t ≡ fine b t → decided which n walk k s ≡ (if beq b which then give (bool which) else decided which m walk (suc k)) t
  seen v b h e = decided_by ∙ rw (h, e) refl

  pub decided_here : (v : Value) (b : Bool) → visited walk k s ≡ fine (Some v) t → truth v t ≡ fine b t → beq b which ≡ true → decided which n walk k s ≡ fine (bool which) t
  decided_here v b h e same = seen v b h e ∙ rw same refl

  pub decided_further : (v : Value) (b : Bool) → visited walk k s ≡ fine (Some v) t → truth v t ≡ fine b t → beq b which ≡ false → decided which n walk k s ≡ decided which m walk j t
  decided_further v b h e same = seen v b h e ∙ rw (same, next) refl

module _ {A : Type 0} (f : A → Value → M A) (walk : Walk) (n m k j : ℕ) (fuel : n ≡ suc m) (next : j ≡ suc k) (a : A) (s t : Moment) where
  abbrev take_in : Value → M A
  take_in v = f a v >>= λ b. folded f m walk (suc k) b

  folded_by : folded f n walk k a s ≡ and_then (visited walk k s) (or_end (give a) take_in)
  folded_by = ap (λ i. folded f i walk k a s) fuel ∙ through (item_for walk k s) (give a) take_in

  pub folded_fault : (x : CallFault) → Fails {A = Option Value} x t (visited walk k s) → Fails {A = A} x t (folded f n walk k a s)
  folded_fault x h = rw folded_by (fails_through x t (visited walk k s) (or_end (give a) take_in) h)

  pub folded_none : visited walk k s ≡ fine None t → folded f n walk k a s ≡ fine a t
  folded_none h = folded_by ∙ rw h refl

  taken : (v : Value) → visited walk k s ≡ fine (Some v) t → folded f n walk k a s ≡ and_then (f a v t) (λ b. folded f m walk (suc k) b)
  taken v h = folded_by ∙ rw h refl

  pub folded_item_fault : (v : Value) (u : Moment) (x : CallFault) → visited walk k s ≡ fine (Some v) t → Fails {A = A} x u (f a v t) → Fails {A = A} x u (folded f n walk k a s)
  folded_item_fault v u x h e = rw (taken v h) (fails_through x u (f a v t) (λ b. folded f m walk (suc k) b) e)

  pub folded_further : (v : Value) (b : A) (u : Moment) → visited walk k s ≡ fine (Some v) t → f a v t ≡ fine b u → folded f n walk k a s ≡ folded f m walk j b u
  folded_further v b u h e = taken v h ∙ rw (e, next) refl
