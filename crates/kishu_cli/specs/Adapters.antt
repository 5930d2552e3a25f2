-- The real host: when it opens its file, when the file's folder is synced, and what its answers are.
use Rattle.std.specs.Prelude.{◌≡◌, ◌<◌, ◌⊎◌, ℕ, Bool, true, false, [], ◌∷◌}
use Rattle.std.specs.declared.result.Result.{Result}
use Rattle.std.specs.declared.result.Result.TheVariants.{Ok, Err}
use Rattle.kishu_host.specs.declared.host.Failed.{Failed}
use Rattle.kishu_host.specs.Memory.{next}
use Rattle.kishu_cli.specs.declared.call.Call.TheVariants as calls
use Rattle.kishu_cli.specs.declared.call.Fault.{Fault}
use Rattle.kishu_cli.specs.declared.call.LockAnswer.{LockAnswer}
use Rattle.kishu_cli.specs.declared.call.LockAnswer.TheVariants as locks
use Rattle.kishu_cli.specs.declared.real.Store.{Store}
use Rattle.kishu_cli.specs.declared.real.Store.TheVariants as stores
use Rattle.kishu_cli.specs.Calls.{History}

abbrev pub is_open : Store → Bool
is_open stores.Unopened = false
is_open stores.New = true
is_open stores.Open = true
is_open stores.Failed = false

-- Whether an answer to the call for the lock lets a run go on: it has the lock now, or there are no locks.
abbrev pub is_free : Result LockAnswer Fault → Bool
is_free (Ok locks.Taken) = true
is_free (Ok locks.Held) = false
is_free (Ok locks.Unsupported) = true
is_free (Err e) = false

-- a history, with the file opened
abbrev pub opened : History → History
opened old = (calls.Open (Ok record {}), []) ∷ old

-- and with its lock asked for
abbrev pub locked : Result LockAnswer Fault → History → History
locked lock old = (calls.Lock lock, []) ∷ opened old

-- The file is asked for. Where that wasn't tried yet, it is opened, its lock is asked for, and then its length; each only where
-- what came before went well. It is open where no other run has the lock and the length was told, and new where that is 0.
-- Where it was tried, no call is made. Last, whether the file is open then.
pub data Opens : Store → History → Store → History → Bool → Type 0 where
  not_opened : (old : History) (e : Fault) → Opens stores.Unopened old stores.Failed ((calls.Open (Err e), []) ∷ old) false
  not_free : (old : History) (lock : Result LockAnswer Fault) → is_free lock ≡ false
      → Opens stores.Unopened old stores.Failed (locked lock old) false
  no_length : (old : History) (lock : Result LockAnswer Fault) (e : Fault) → is_free lock ≡ true
      → Opens stores.Unopened old stores.Failed ((calls.Length (Err e), []) ∷ locked lock old) false
  opened_new : (old : History) (lock : Result LockAnswer Fault) → is_free lock ≡ true
      → Opens stores.Unopened old stores.New ((calls.Length (Ok 0), []) ∷ locked lock old) true
  opened_old : (old : History) (lock : Result LockAnswer Fault) (n : ℕ) → is_free lock ≡ true → 0 < n
      → Opens stores.Unopened old stores.Open ((calls.Length (Ok n), []) ∷ locked lock old) true
  was_new : (old : History) → Opens stores.New old stores.New old true
  was_open : (old : History) → Opens stores.Open old stores.Open old true
  had_failed : (old : History) → Opens stores.Failed old stores.Failed old false

-- the file is open, and then this was done
abbrev pub OnFile : Store → History → Store → (History → Type 0) → Type 0
OnFile store old new_store Done = (mid : History) × Opens store old new_store mid true × Done mid

-- the file isn't open, and nothing more was done; or it is, and then this was done
abbrev pub FailedOnFile : Store → History → Store → History → (History → Type 0) → Type 0
FailedOnFile store old new_store new Done = Opens store old new_store new false ⊎ OnFile store old new_store Done

-- The open file was synced, and then its folder, where the file is new. From then on the file isn't new.
pub data Synced : Store → History → Store → History → Type 0 where
  file_synced : (old : History) → Synced stores.Open old stores.Open ((calls.Sync (Ok record {}), []) ∷ old)
  folder_synced : (old : History)
      → Synced stores.New old stores.Open ((calls.SyncFolder (Ok record {}), []) ∷ (calls.Sync (Ok record {}), []) ∷ old)

-- The sync of the file failed; or that of the folder behind it, where the file is new. What is new stays so.
pub data SyncFailed : Store → History → Store → History → Type 0 where
  file_failed : (store : Store) (old : History) (e : Fault) → SyncFailed store old store ((calls.Sync (Err e), []) ∷ old)
  folder_failed : (old : History) (e : Fault)
      → SyncFailed stores.New old stores.New ((calls.SyncFolder (Err e), []) ∷ (calls.Sync (Ok record {}), []) ∷ old)

-- the file is open, and then it was synced
abbrev pub SyncedOnFile : Store → History → Store → History → Type 0
SyncedOnFile store old new_store new = (now : Store) × OnFile store old now (λ mid. Synced now mid new_store new)

-- the file isn't open, and nothing more was done; or it is, and then its sync failed
abbrev pub FailedSyncOnFile : Store → History → Store → History → Type 0
FailedSyncOnFile store old new_store new =
    Opens store old new_store new false ⊎ ((now : Store) × OnFile store old now (λ mid. SyncFailed now mid new_store new))

-- an answer, without what its error was
abbrev pub passed : {T E : Type 0} → Result T E → Result T Failed
passed (Ok x) = Ok x
passed (Err e) = Err record {}

-- a count of errors after an answer, up to 2^64-1
abbrev pub counted : {T E : Type 0} → Result T E → ℕ → ℕ
counted (Ok x) count = count
counted (Err e) count = next count
