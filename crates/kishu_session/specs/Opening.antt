-- What the opening of a store leaves of its host, whatever it answers.
use Rattle.std.specs.Prelude.{◌≡◌, ◌≤◌, ◌⊎◌, ℕ, Result, IsErrOf}
use Rattle.kishu_host.specs.Host.{State}
use Rattle.kishu_journal.specs.Facts.{KeepsLong, StaysShort, Settles, StopsAtOpening}
use Rattle.kishu_session.specs.declared.halt.Halt.{Halt}
use Rattle.kishu_session.specs.declared.halt.Halt.TheVariants.{NotAJournal, Damaged, DiskFault, NoMemory}

-- A longer file stays, and a short one stays short; nothing is put out; and so it is with what a stop leaves, afterwards and meanwhile. Where a call failed, it may leave what it might have left before.
pub record IsOpening (Failed : Type 0) (s t : State) : Type 0 where
  pub long : KeepsLong s t
  pub short : StaysShort s t
  pub out : t.out ≡ s.out
  pub settled : Settles Failed s t
  pub stop : StopsAtOpening s t
  pub tells : t.tells ≡ s.tells
  pub disk : s.disk_faults ≤ t.disk_faults
  pub outs : s.out_faults ≤ t.out_faults

-- why there is no store
abbrev pub IsUnopened : Halt → Type 0
IsUnopened e = (e ≡ NotAJournal) ⊎ ((at : ℕ) × (e ≡ Damaged at)) ⊎ (e ≡ DiskFault) ⊎ (e ≡ NoMemory)

-- it ends by this halt, or the disk or want of memory comes between
abbrev pub HaltsBy : {A : Type 0} → Halt → Result A Halt → Type 0
HaltsBy halt result = IsErrOf result halt ⊎ IsErrOf result DiskFault ⊎ IsErrOf result NoMemory
