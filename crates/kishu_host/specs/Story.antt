-- What was done to a file and an output in memory, and what a stop leaves of it. Lists of events have the newest first.
--
-- `Event`, `Story`: what happened. `file_after`, `out_after`: the file and the output after it. `is_valid`: no write began past the end.
-- `MayLeave`, `LeftSince`: what a stop may leave, now and since a moment, event by event. `Crash` says the same in direct words.
-- `torn_of`: one file that it may leave, told by a byte.
use Rattle.std.specs.Prelude.{replicate, ◌≡◌, ◌≤◌, ◌⊎◌, ℕ, Bool, true, ◌&&◌, nat_le, List, [], ◌∷◌, ◌++◌, length}
use Rattle.kishu_host.specs.Host.{overwrite, Torn, IsPrefix}

pub data Event : Type 0 where
  Wrote : ℕ → List ℕ → Event
  Synced : Event
  Put : List ℕ → Event

-- the file after all events
abbrev pub file_after : List ℕ → List Event → List ℕ
file_after first [] = first
file_after first (Wrote at bytes ∷ es) = overwrite at bytes (file_after first es)
file_after first (Synced ∷ es) = file_after first es
file_after first (Put bytes ∷ es) = file_after first es

-- the bytes put out
abbrev pub out_after : List Event → List ℕ
out_after [] = []
out_after (Wrote at bytes ∷ es) = out_after es
out_after (Synced ∷ es) = out_after es
out_after (Put bytes ∷ es) = out_after es ++ bytes

-- the bytes of all writes
abbrev pub all_written : List Event → List ℕ
all_written [] = []
all_written (Wrote at bytes ∷ es) = all_written es ++ bytes
all_written (Synced ∷ es) = all_written es
all_written (Put bytes ∷ es) = all_written es

-- each write began inside the file or at its end
abbrev pub is_valid : List ℕ → List Event → Bool
is_valid first [] = true
is_valid first (Wrote at bytes ∷ es) = nat_le at (length (file_after first es)) && is_valid first es
is_valid first (Synced ∷ es) = is_valid first es
is_valid first (Put bytes ∷ es) = is_valid first es

-- the files that a stop now may leave
abbrev pub MayLeave : List ℕ → List Event → List ℕ → Type 0
MayLeave first [] c = c ≡ first
MayLeave first (Wrote at bytes ∷ es) c = (d : List ℕ) × MayLeave first es d × Torn at (length bytes) d c
MayLeave first (Synced ∷ es) c = c ≡ file_after first es
MayLeave first (Put bytes ∷ es) c = MayLeave first es c

-- the pairs that a stop inside the newest event may leave, beside those before and after it
abbrev pub Inside : List ℕ → Event → List Event → List ℕ → List ℕ → Type 0
Inside first (Wrote at bytes) es c o = ⊥
Inside first Synced es c o = ⊥
Inside first (Put bytes) es c o = MayLeave first es c × (p : List ℕ) × IsPrefix p bytes × (o ≡ out_after es ++ p)

-- the pairs that a stop may leave at some moment since the t-th event
abbrev pub LeftSince : List ℕ → List Event → ℕ → List ℕ → List ℕ → Type 0
LeftSince first [] t c o = (c ≡ first) × (o ≡ [])
LeftSince first (e ∷ es) t c o = (MayLeave first (e ∷ es) c × (o ≡ out_after (e ∷ es)))
    ⊎ ((t ≤ length es) × (Inside first e es c o ⊎ LeftSince first es t c o))

-- what a file first held, what was done, and how much there is room for
pub record Story : Type 0 where
  pub first : List ℕ
  pub events : List Event
  pub room : ℕ

abbrev pub file_of : Story → List ℕ
file_of s = file_after s.first s.events

abbrev pub out_of : Story → List ℕ
out_of s = out_after s.events

-- the story with one event more
abbrev pub with_event : Event → Story → Story
with_event e s = record { first = s.first; events = e ∷ s.events; room = s.room }

-- the file in which each range written since the last sync holds this byte
abbrev pub torn_of : ℕ → List ℕ → List Event → List ℕ
torn_of fill first [] = first
torn_of fill first (Wrote at bytes ∷ es) = overwrite at (replicate (length bytes) fill) (torn_of fill first es)
torn_of fill first (Synced ∷ es) = file_after first es
torn_of fill first (Put bytes ∷ es) = torn_of fill first es
