-- Why a session ended where a request wasn't prepared.
use Rattle.std.proofs.Common.{◌≡◌, ◌⊎◌, inl, inr, ℕ, Result, Err, refl, sym, ◌∙◌, ap, subst}
use Rattle.std.specs.Prelude.{IfErr, IsErr, IsErrOf}
use Rattle.kishu_session.specs.Halting.{halt_by}
use Rattle.kishu_session.specs.declared.halt.Halt.{Halt}
use Rattle.kishu_session.specs.declared.halt.Halt.TheVariants as halts
use Rattle.kishu_session.specs.declared.unprepared.Unprepared.{Unprepared}
use Rattle.kishu_session.specs.declared.unprepared.Unprepared.TheVariants.{Damaged, DiskFault, NoMemory}

-- ---- which cause it was

by-damaged : (e : Unprepared) (at : ℕ) → halt_by e ≡ halts.Damaged at → e ≡ Damaged at
by-damaged (Damaged n) at is = (let same : n ≡ at = cc (is) in ap Damaged same)
by-damaged DiskFault at is = absurd (cc (is))
by-damaged NoMemory at is = absurd (cc (is))

by-disk : (e : Unprepared) → halt_by e ≡ halts.DiskFault → e ≡ DiskFault
by-disk (Damaged n) is = absurd (cc (is))
by-disk DiskFault is = refl
by-disk NoMemory is = absurd (cc (is))

by-closed : (e : Unprepared) → halt_by e ≡ halts.Closed → ⊥
by-closed (Damaged n) is = cc (is)
by-closed DiskFault is = cc (is)
by-closed NoMemory is = cc (is)

abbrev pub OnlyThese : Halt → Type 0
OnlyThese h = ((at : ℕ) × (h ≡ halts.Damaged at)) ⊎ (h ≡ halts.DiskFault) ⊎ (h ≡ halts.NoMemory) ⊎ (h ≡ halts.Closed)

by-these : (e : Unprepared) → OnlyThese (halt_by e)
by-these (Damaged n) = inl (n, refl)
by-these DiskFault = inr (inl refl)
by-these NoMemory = inr (inr (inl refl))

-- ---- a result that tells it

-- The result is the error that stands for this cause.
abbrev pub EndsBy : {T : Type 0} → Result T Halt → Unprepared → Type 0
EndsBy r e = (h : Halt) × (r ≡ Err h) × (h ≡ halt_by e)

module _ {T : Type 0} (r : Result T Halt) (e : Unprepared) (by : EndsBy r e) where
  halt-is : (x : Halt) → IsErrOf r x → halt_by e ≡ x
  halt-is x is =
      let both = sym by.1 ∙ is in
      let same : by.0 ≡ x = cc (both) in
      sym by.2 ∙ same

  pub was-damaged : (at : ℕ) → IsErrOf r (halts.Damaged at) → e ≡ Damaged at
  was-damaged at is = by-damaged e at (halt-is (halts.Damaged at) is)

  pub was-disk : IsErrOf r halts.DiskFault → e ≡ DiskFault
  was-disk is = by-disk e (halt-is halts.DiskFault is)

  pub not-closed : IsErrOf r halts.Closed → ⊥
  not-closed is = by-closed e (halt-is halts.Closed is)

  pub only-these : IfErr r OnlyThese
  only-these = subst (λ (x : Result T Halt). IfErr x OnlyThese) (sym by.1) (subst OnlyThese (sym by.2) (by-these e))

  pub is-error : IsErr r
  is-error = subst (λ (x : Result T Halt). IsErr x) (sym by.1) refl
