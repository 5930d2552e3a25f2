-- What is answered over a file that holds no graph.
use Rattle.std.proofs.Common.{◌≡◌, inl, inr, ⊎_elim, ℕ, Result, Err, sym, ◌∙◌, ap}
use Rattle.std.specs.Prelude.{IsErrOf}
use Rattle.kishu_host.specs.Host.{State}
use Rattle.kishu_store_laws.specs.Laws.{broken-holds, foreign-holds}
use Rattle.kishu_journal.specs.Facts.{WhereForeign, WhereBroken}
use Rattle.kishu_journal.specs.Stores.{Opens}
use Rattle.kishu_journal.specs.declared.open_store.OpenStore.{OpenStore}
use Rattle.kishu_session.specs.Opening.{HaltsBy}
use Rattle.kishu_session.specs.declared.halt.Halt.{Halt}
use Rattle.kishu_session.specs.declared.halt.Halt.TheVariants.{DiskFault, NoMemory}

-- An error that is handed on ends the second call as it ended the first.
module _ {A B : Type 0} (r : Result A Halt) (q : Result B Halt) (x : Halt) (first : IsErrOf r x) (second : IsErrOf q x) where
  pub error-on : (e : Halt) → IsErrOf r e → IsErrOf q e
  error-on e is =
      let both : Err x ≡ Err e = sym first ∙ is in
      let one : x ≡ e = cc (both) in
      second ∙ ap Err one

  pub handed-on : (halt : Halt) → HaltsBy halt r → HaltsBy halt q
  handed-on halt by =
      ⊎_elim (λ is. inl (error-on halt is)) (λ other. inr (⊎_elim (λ is. inl (error-on DiskFault is)) (λ is. inr (error-on NoMemory is)) other)) by

-- A store was opened, so the file held a graph.
module _ (s t : State) (store : OpenStore) (opens : Opens s t store) where
  pub opened-not-foreign : (P : Type 0) → WhereForeign s P
  opened-not-foreign P told foreign = absurd (foreign-holds s.file _ foreign (opens.good told))

  pub opened-not-broken : (P : ℕ → Type 0) → WhereBroken s P
  opened-not-broken P told at broken = absurd (broken-holds s.file at _ broken (opens.good told))
