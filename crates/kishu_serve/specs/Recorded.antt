-- What the requests of a run leave of the file's bytes.
use Rattle.std.specs.Prelude.{◌≡◌, ◌⊎◌, ℕ, zero, suc, Bool, true, false, List}
use Rattle.kishu_host.specs.Host.{State, Told}
use Rattle.kishu_session.specs.Written.{begun, IsRecorded}

-- so many records more, one after another
abbrev pub IsRecordedBy : ℕ → List ℕ → List ℕ → Type 0
IsRecordedBy zero old new = new ≡ old
IsRecordedBy (suc n) old new = (next : List ℕ) × IsRecorded old next × IsRecordedBy n next new

-- by any number of requests, or by one at most
abbrev pub AreRecorded : (many : Bool) → List ℕ → List ℕ → Type 0
AreRecorded true old new = (n : ℕ) × IsRecordedBy n old new
AreRecorded false old new = (new ≡ old) ⊎ IsRecorded old new

-- So it is where the host tells its file.
abbrev pub Records : (many : Bool) → State → State → Type 0
Records many old new = Told old (AreRecorded many old.file new.file)

-- the file as opening leaves it, with these records behind it
abbrev pub IsWritten : (many : Bool) → List ℕ → List ℕ → Type 0
IsWritten many old new = AreRecorded many (begun old) new
