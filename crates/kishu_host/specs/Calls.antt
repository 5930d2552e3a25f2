-- What each call of a host in memory does, exactly.
--
-- `Memory`: all that there is to know of the host. `fresh`: of a new one.
-- `is_due`: the next call fails by its number. `HasPlace`, `CanWrite`, `CanPut`: there is room for it. `IsFaultless`: none fails by its number.
-- `looked`, `read`, `did`: after a call that succeeded. `disk_failed`, `out_failed`: after one that failed.
use Rattle.std.specs.Prelude.{◌≡◌, ◌+◌, ◌-◌, ◌^◌, ◌≤◌, ℕ, Bool, [], List, length, min, Option, None}
use Rattle.kishu_host.specs.declared.memory.MemHost.{MemHost}
use Rattle.kishu_host.specs.Story.{Story, Event, out_of, all_written, with_event}
use Rattle.kishu_host.specs.Memory.{is_refused, next}
use Rattle.kishu_host.specs.Crash.{Range, synced_file, ranges_since}

-- all that there is to know of a host in memory
pub record Memory : Type 0 where
  pub story : Story
  -- the numbers of the calls that fail, and the number from which on each fails
  pub fail : List ℕ
  pub stop : Option ℕ
  -- the number of the last call
  pub calls : ℕ
  pub reads : ℕ
  pub disk_faults : ℕ
  pub out_faults : ℕ

abbrev pub memory_of : MemHost → Memory
memory_of m = record { story = m.tape; fail = m.fail.items; stop = m.stop; calls = m.calls; reads = m.reads; disk_faults = m.disk_faults; out_faults = m.out_faults }

-- a host to which nothing has happened
abbrev pub fresh : List ℕ → ℕ → List ℕ → Option ℕ → Memory
fresh file room fail stop = record { story = record { first = file; events = []; room = room }; fail = fail; stop = stop; calls = 0; reads = 0; disk_faults = 0; out_faults = 0 }

-- whether the next call fails by its number
abbrev pub is_due : Memory → Bool
is_due m = is_refused m.fail m.stop (next m.calls)

-- No call fails by its number.
pub record IsFaultless (m : Memory) : Type 0 where
  pub fail : m.fail ≡ []
  pub stop : m.stop ≡ None

-- There is room in the record for one event more, and for the bytes of a write and of a put.
abbrev pub HasPlace : Memory → Type 0
HasPlace m = length m.story.events + 1 ≤ m.story.room

abbrev pub CanWrite : Memory → ℕ → List ℕ → Type 0
CanWrite m at bytes = HasPlace m × (at + length bytes ≤ m.story.room) × (length (all_written m.story.events) + length bytes ≤ m.story.room)

abbrev pub CanPut : Memory → List ℕ → Type 0
CanPut m bytes = HasPlace m × (length (out_of m.story) + length bytes ≤ m.story.room)

-- after a call that only looks
abbrev pub looked : Memory → Memory
looked m = record { story = m.story; fail = m.fail; stop = m.stop; calls = next m.calls; reads = m.reads; disk_faults = m.disk_faults; out_faults = m.out_faults }

-- after a read of n bytes
abbrev pub read : ℕ → Memory → Memory
read n m = record { story = m.story; fail = m.fail; stop = m.stop; calls = next m.calls; reads = min (m.reads + n) (2 ^ 64 - 1); disk_faults = m.disk_faults; out_faults = m.out_faults }

-- after a write, a sync or a put
abbrev pub did : Event → Memory → Memory
did e m = record { story = with_event e m.story; fail = m.fail; stop = m.stop; calls = next m.calls; reads = m.reads; disk_faults = m.disk_faults; out_faults = m.out_faults }

-- after a call that failed at the file, and at the output
abbrev pub disk_failed : Memory → Memory
disk_failed m = record { story = m.story; fail = m.fail; stop = m.stop; calls = next m.calls; reads = m.reads; disk_faults = next m.disk_faults; out_faults = m.out_faults }

abbrev pub out_failed : Memory → Memory
out_failed m = record { story = m.story; fail = m.fail; stop = m.stop; calls = next m.calls; reads = m.reads; disk_faults = m.disk_faults; out_faults = next m.out_faults }

-- the file at the last sync, and the ranges written since
abbrev pub synced_of : Memory → List ℕ
synced_of m = synced_file m.story.first m.story.events

abbrev pub written_since : Memory → List Range
written_since m = ranges_since m.story.events
