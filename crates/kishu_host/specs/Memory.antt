-- A host in memory, as the trait `Host` sees it, and its numbers.
--
-- `state_of`: its state, which tells all that can be told. `told`, `number_told`: a number that isn't told at 2^64-1.
-- `is_refused`: a call that fails by its number. `next`: one more, up to 2^64-1.
use Rattle.std.specs.Prelude.{ℕ, ◌+◌, ◌-◌, ◌^◌, Bool, true, false, ◌||◌, ◌==◌, nat_le, nat_lt, if◌then◌else◌, min, List, length, Option, Some, None}
use Rattle.std.specs.List.{list_any}
use Rattle.kishu_host.specs.Host.{State}
use Rattle.kishu_host.specs.Story.{Story, file_of, out_of, MayLeave, LeftSince}

-- a number that isn't told at its last value
abbrev pub told : ℕ → Option ℕ
told n = if nat_lt (n + 1) (2 ^ 64) then Some n else None

-- the clock is the number of events
abbrev pub state_of : Story → ℕ → ℕ → ℕ → State
state_of s reads disk out = record {
  tells = true;
  file = file_of s;
  out = out_of s;
  moment = length s.events;
  reads = told reads;
  disk_faults = disk;
  out_faults = out;
  may_leave = MayLeave s.first s.events;
  left_since = LeftSince s.first s.events;
}

-- whether a number is at least the stop
abbrev pub reaches : Option ℕ → ℕ → Bool
reaches None n = false
reaches (Some stop) n = nat_le stop n

-- whether the n-th call fails by itself
abbrev pub is_refused : List ℕ → Option ℕ → ℕ → Bool
is_refused fail stop n = list_any (λ y. y == n) fail || reaches stop n

-- one more, up to the last value
abbrev pub next : ℕ → ℕ
next n = min (n + 1) (2 ^ 64 - 1)

-- a number that may not be told, as a number
abbrev pub number_told : Option ℕ → ℕ
number_told None = 2 ^ 64 - 1
number_told (Some n) = n
