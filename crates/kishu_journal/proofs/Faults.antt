-- Which faults are left, where some can't be.
use Rattle.std.proofs.Common.{◌≡◌, ◌⊎◌, inl, inr, ℕ, Result, Ok, Err, IsErr, IsErrOf, IfErr, refl}
use Rattle.std.proofs.lemmas.Bool.{false≢true}
use Rattle.kishu_journal.specs.declared.journal.JournalFault.{JournalFault}
use Rattle.kishu_journal.specs.declared.journal.JournalFault.TheVariants.{NotAJournal, Damaged, DiskFault, NoMemory}

pub not_damaged : {T : Type 0} (r : Result T JournalFault) → IsErr r → ((at : ℕ) → IsErrOf r (Damaged at) → ⊥) → IsErrOf r NotAJournal ⊎ IsErrOf r DiskFault ⊎ IsErrOf r NoMemory
not_damaged (Ok x) err none = absurd (false≢true err)
not_damaged (Err NotAJournal) err none = inl refl
not_damaged (Err (Damaged at)) err none = absurd (none at refl)
not_damaged (Err DiskFault) err none = inr (inl refl)
not_damaged (Err NoMemory) err none = inr (inr refl)

pub damaged_there : {T : Type 0} (r : Result T JournalFault) (at : ℕ) → IsErr r → (IsErrOf r NotAJournal → ⊥) → ((there : ℕ) → IsErrOf r (Damaged there) → there ≡ at) → IsErrOf r (Damaged at) ⊎ IsErrOf r DiskFault ⊎ IsErrOf r NoMemory
damaged_there (Ok x) at err none same = absurd (false≢true err)
damaged_there (Err NotAJournal) at err none same = absurd (none refl)
damaged_there (Err (Damaged there)) at err none same = inl (let is : there ≡ at = same there refl in cc)
damaged_there (Err DiskFault) at err none same = inr (inl refl)
damaged_there (Err NoMemory) at err none same = inr (inr refl)

pub only_outside : {T : Type 0} (r : Result T JournalFault) → IsErr r → (IsErrOf r NotAJournal → ⊥) → ((at : ℕ) → IsErrOf r (Damaged at) → ⊥) → IfErr r (λ e. (e ≡ DiskFault) ⊎ (e ≡ NoMemory))
only_outside (Ok x) err foreign none = absurd (false≢true err)
only_outside (Err NotAJournal) err foreign none = absurd (foreign refl)
only_outside (Err (Damaged at)) err foreign none = absurd (none at refl)
only_outside (Err DiskFault) err foreign none = inl refl
only_outside (Err NoMemory) err foreign none = inr refl
