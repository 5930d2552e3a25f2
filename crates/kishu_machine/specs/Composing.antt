-- Calls one after the other: what they keep together, and what `?` passes on.
use Rattle.std.proofs.Common.{◌≡◌, ap, sym, subst, arith, ℕ, ◌+◌, ◌≤◌, Result, Ok, Err}
use Rattle.kishu_meaning.specs.moments.Moment.{Moment, Ends, fine, M, and_then, back_at}
use Rattle.kishu_machine.specs.declared.fault.Fault.{Fault}
use Rattle.kishu_machine.specs.declared.fault.Fault.TheVariants as faults
use Rattle.kishu_machine.specs.declared.machine.Machine.{Machine}
use Rattle.kishu_machine.specs.Machine.{Fails, Gives, HasRoomBy, GrownBy}

-- ---- what is kept

pub grown_none : (k : ℕ) (m : Machine) (a : ℕ) → GrownBy k m a m a
grown_none k m a = (omega arith, omega arith, omega arith)

pub grown_on : (j k : ℕ) (m1 m2 m3 : Machine) (a b c : ℕ) → GrownBy j m1 a m2 b → GrownBy k m2 b m3 c → GrownBy (j + k) m1 a m3 c
grown_on j k m1 m2 m3 a b c g h = (omega (arith, g.0, h.0), omega (arith, g.1, h.1), omega (arith, g.2, h.2))

pub grown_by_more : (j k : ℕ) (m1 m2 : Machine) (a b : ℕ) → j ≤ k → GrownBy j m1 a m2 b → GrownBy k m1 a m2 b
grown_by_more j k m1 m2 a b le g = (omega (arith, g.0), omega (arith, le, g.1), omega (arith, g.2))

-- ---- what `?` passes on

module _ {A B : Type 0} (g : A → M B) where
  -- the fault of the first part is that of both
  pub fails_on : (f : Fault) (s : Moment) (e : Ends A) → Fails f s e → Fails f s (and_then e g)
  fails_on (faults.Raised x) s e h = ap (λ (e : Ends A). and_then e g) h
  fails_on faults.Stopped s e h = ap (λ (e : Ends A). and_then e g) h
  fails_on faults.NoMemory s e h = tt

  -- what the second part gives is what both give
  pub gives_on : {X : Type 0} (view : X → B) (r : Result X Fault) (a : A) (s t : Moment) (e : Ends A) → e ≡ fine a s → Gives view r t (g a s) → Gives view r t (and_then e g)
  gives_on view r a s t e h k = subst (λ (e : Ends A). Gives view r t (and_then e g)) (sym h) k

-- what is done one level deeper
module _ {A X : Type 0} (view : X → A) (n : ℕ) where
  pub gives_back : (r : Result X Fault) (s : Moment) (e : Ends A) → Gives view r s e → Gives view r (record s { depth = n }) (back_at n e)
  gives_back (Ok x) s e h = ap (back_at n) h
  gives_back (Err (faults.Raised x)) s e h = ap (back_at n) h
  gives_back (Err faults.Stopped) s e h = ap (back_at n) h
  gives_back (Err faults.NoMemory) s e h = tt
