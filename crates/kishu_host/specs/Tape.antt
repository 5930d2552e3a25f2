-- How a story is kept: what happened, oldest first, and the bytes of all writes and of all puts, one after another.
--
-- `history`: the events that entries and bytes stand for. `IsTape`, `HasRoom`: what holds of each tape.
-- `unsynced`, `ranges_of`: the ranges that entries wrote, since the last sync and in all.
use Rattle.std.specs.Prelude.{◌≡◌, ◌+◌, ◌≤◌, ℕ, List, [], ◌∷◌, length, take, drop}
use Rattle.kishu_host.specs.declared.tape.Entry.{Entry}
use Rattle.kishu_host.specs.declared.tape.Entry.TheVariants.{Write, Sync, Append}
use Rattle.kishu_host.specs.Story.{Event, Wrote, Synced, Put, file_after, out_after, all_written}
use Rattle.kishu_host.specs.Crash.{Range, range}

-- the events, newest first, on top of earlier ones
abbrev pub history : List Entry → List ℕ → List ℕ → List Event → List Event
history [] written out earlier = earlier
history (Write at len ∷ es) written out earlier = history es (drop len written) out (Wrote at (take len written) ∷ earlier)
history (Sync ∷ es) written out earlier = history es written out (Synced ∷ earlier)
history (Append len ∷ es) written out earlier = history es written (drop len out) (Put (take len out) ∷ earlier)

-- how many bytes the writes and the puts have
abbrev pub write_total : List Entry → ℕ
write_total [] = 0
write_total (Write at len ∷ es) = len + write_total es
write_total (Sync ∷ es) = write_total es
write_total (Append len ∷ es) = write_total es

abbrev pub put_total : List Entry → ℕ
put_total [] = 0
put_total (Write at len ∷ es) = put_total es
put_total (Sync ∷ es) = put_total es
put_total (Append len ∷ es) = len + put_total es

-- File, output and written bytes are those of the events.
pub record IsTape (first file out written : List ℕ) (entries : List Entry) : Type 0 where
  pub file_is : file ≡ file_after first (history entries written out [])
  pub out_is : out ≡ out_after (history entries written out [])
  pub written_is : written ≡ all_written (history entries written out [])
  pub count : length (history entries written out []) ≡ length entries
  pub writes : write_total entries ≡ length written
  pub puts : put_total entries ≡ length out

-- A buffer holds at most `room` items, and has memory for so many.
pub record HasRoom (room len capacity : ℕ) : Type 0 where
  pub used : len ≤ room
  pub memory : room ≤ capacity

-- the ranges written since the last sync, newest first, of entries in their order
abbrev pub unsynced : List Entry → List Range → List Range
unsynced [] earlier = earlier
unsynced (Write at len ∷ es) earlier = unsynced es (range at len ∷ earlier)
unsynced (Sync ∷ es) earlier = unsynced es []
unsynced (Append len ∷ es) earlier = unsynced es earlier

-- the ranges of all writes, newest first
abbrev pub ranges_of : List Entry → List Range → List Range
ranges_of [] earlier = earlier
ranges_of (Write at len ∷ es) earlier = ranges_of es (range at len ∷ earlier)
ranges_of (Sync ∷ es) earlier = ranges_of es earlier
ranges_of (Append len ∷ es) earlier = ranges_of es earlier
