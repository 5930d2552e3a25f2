-- What a history of calls of the operating system tells. The last call stands first.
--
-- `came`: the bytes of one read. `Reading`, `HasRead`, `ReadFailed`: a piece of work by reads. `Writing`, `WriteFailed`: one by
-- writes. `Retried`, `HasTaken`, `TakeFailed`: one take from standard input.
use Rattle.std.specs.Prelude.{◌≡◌, ◌<◌, ℕ, ◌+◌, ◌-◌, min, List, [], ◌∷◌, ◌++◌, length, take, drop}
use Rattle.std.specs.declared.result.Result.{Result}
use Rattle.std.specs.declared.result.Result.TheVariants.{Ok, Err}
use Rattle.kishu_cli.specs.declared.call.Call.{Call}
use Rattle.kishu_cli.specs.declared.call.Call.TheVariants.{Read, Write, Put, Take}
use Rattle.kishu_cli.specs.declared.call.Fault.{Fault}
use Rattle.kishu_cli.specs.declared.transfer.Sink.{Sink}
use Rattle.kishu_cli.specs.declared.transfer.Sink.TheVariants.{File, Output}
use Rattle.kishu_cli.specs.declared.call.Fault.TheVariants.{Interrupted, Other}

abbrev pub History : Type 0
History = List (Call × List ℕ)

-- the bytes that came by a call
abbrev pub came : {E : Type 0} → Result ℕ E → List ℕ → List ℕ
came (Ok n) into = take n into
came (Err e) into = []

-- the greatest place, and the number of calls after which a piece of work is given up
abbrev pub greatest : ℕ
greatest = 18446744073709551615

-- `done` bytes after a place, at most the greatest place
abbrev pub after : ℕ → ℕ → ℕ
after at done = min (at + done) greatest

-- the read after so many bytes came, into the room that is left
abbrev pub read_on : ℕ → ℕ → ℕ → Result ℕ Fault → Call
read_on at room done answer = Read (after at done) (room - done) answer

-- Reads from place `at` into `room` bytes, since an older history: the bytes that came, and the history with these reads.
pub data Reading (at room : ℕ) (old : History) : List ℕ → History → Type 0 where
  begun : Reading at room old [] old
  more : (got bytes : List ℕ) (now : History) → Reading at room old got now → length got < room → 0 < length bytes
      → Reading at room old (got ++ bytes) ((read_on at room (length got) (Ok (length bytes)), bytes) ∷ now)
  again : (got : List ℕ) (now : History) → Reading at room old got now → length got < room
      → Reading at room old got ((read_on at room (length got) (Err Interrupted), []) ∷ now)

-- The bytes that came fill the room, or the last read found the end of the file.
pub data HasRead (at room : ℕ) (old : History) (got : List ℕ) : History → Type 0 where
  full : (now : History) → Reading at room old got now → length got ≡ room → HasRead at room old got now
  ended : (now : History) → Reading at room old got now → length got < room
      → HasRead at room old got ((read_on at room (length got) (Ok 0), []) ∷ now)

-- There is room left, and the last read failed, or 2^64-1 were made.
pub data ReadFailed (at room : ℕ) (old : History) : History → Type 0 where
  failed : (got : List ℕ) (now : History) → Reading at room old got now → length got < room
      → ReadFailed at room old ((read_on at room (length got) (Err Other), []) ∷ now)
  given_up : (got : List ℕ) (now : History) → Reading at room old got now → length got < room
      → length now ≡ greatest + length old → ReadFailed at room old now

-- a write, after so many bytes were taken
abbrev pub write_on : Sink → ℕ → Result ℕ Fault → Call
write_on (File at) done answer = Write (after at done) answer
write_on Output done answer = Put answer

-- Writes of the bytes, each of what those before it left, since an older history: how many bytes were taken, and the history with
-- these writes.
pub data Writing (to : Sink) (bytes : List ℕ) (old : History) : ℕ → History → Type 0 where
  begun : Writing to bytes old 0 old
  more : (done n : ℕ) (now : History) → Writing to bytes old done now → done < length bytes → 0 < n
      → Writing to bytes old (done + n) ((write_on to done (Ok n), drop done bytes) ∷ now)
  again : (done : ℕ) (now : History) → Writing to bytes old done now → done < length bytes
      → Writing to bytes old done ((write_on to done (Err Interrupted), drop done bytes) ∷ now)

-- There are bytes left, and the last write failed or took nothing, or 2^64-1 were made.
pub data WriteFailed (to : Sink) (bytes : List ℕ) (old : History) : History → Type 0 where
  failed : (done : ℕ) (now : History) → Writing to bytes old done now → done < length bytes
      → WriteFailed to bytes old ((write_on to done (Err Other), drop done bytes) ∷ now)
  stuck : (done : ℕ) (now : History) → Writing to bytes old done now → done < length bytes
      → WriteFailed to bytes old ((write_on to done (Ok 0), drop done bytes) ∷ now)
  given_up : (done : ℕ) (now : History) → Writing to bytes old done now → done < length bytes
      → length now ≡ greatest + length old → WriteFailed to bytes old now

-- Takes from standard input that a signal interrupted, since an older history.
pub data Retried (room : ℕ) (old : History) : History → Type 0 where
  begun : Retried room old old
  again : (now : History) → Retried room old now → Retried room old ((Take room (Err Interrupted), []) ∷ now)

-- The last take gave these bytes.
pub data HasTaken (room : ℕ) (old : History) (bytes : List ℕ) : History → Type 0 where
  took : (now : History) → Retried room old now → HasTaken room old bytes ((Take room (Ok (length bytes)), bytes) ∷ now)

-- The last take failed, or 2^64-1 were made.
pub data TakeFailed (room : ℕ) (old : History) : History → Type 0 where
  failed : (now : History) → Retried room old now → TakeFailed room old ((Take room (Err Other), []) ∷ now)
  given_up : (now : History) → Retried room old now → length now ≡ greatest + length old → TakeFailed room old now
