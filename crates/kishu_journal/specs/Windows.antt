-- What a window shows of a file, and how far it was read.
use Rattle.std.specs.Prelude.{◌≡◌, ◌≤◌, ℕ, ◌+◌, ◌-◌, List, take, drop}
use Rattle.kishu_host.specs.Host.{State, Told}
use Rattle.kishu_journal.specs.Going.{IsQuiet, ReadsAtMost}
use Rattle.kishu_journal.specs.declared.window.Window.{Window}

-- the bytes that were read
abbrev pub shown : Window → List ℕ
shown w = take w.filled w.bytes.items

-- the place behind them
abbrev pub end_of : Window → ℕ
end_of w = w.from + w.filled

-- they are the file's
abbrev pub ShowsIn : List ℕ → Window → Type 0
ShowsIn file w = shown w ≡ take w.filled (drop w.from file)

-- they are the host's, where it tells its file
abbrev pub Shows : State → Window → Type 0
Shows s w = Told s (ShowsIn s.file w)

-- Calls that change no content, and by which a window of a file of `len` bytes goes on. Each byte is read once.
pub record IsAhead (old new : State) (before now : Window) (len : ℕ) : Type 0 where
  pub quiet : IsQuiet old new
  pub shows : Shows new now
  pub onward : end_of before ≤ end_of now
  pub within : end_of now ≤ len
  pub reads : ReadsAtMost old.reads new.reads (end_of now - end_of before)
