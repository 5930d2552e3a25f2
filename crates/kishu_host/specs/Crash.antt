-- The crash model: what a stop may leave of a file.
--
-- Between two syncs each range that was written, and all past the end that the file had at the last sync, may hold any bytes.
-- Every other byte stays. The length lies between the length at the last sync and the greatest length since.
--
-- `MayHold`: this, of a file at the last sync and the ranges written since. `synced_file`, `ranges_since`: these two, of a story.
-- `IsFilled`: the file in which all these ranges hold one byte.
use Rattle.std.specs.Prelude.{◌≡◌, ◌≤◌, ◌<◌, ℕ, ◌+◌, Bool, true, false, ◌||◌, ◌&&◌, nat_le, nat_lt, max, List, [], ◌∷◌, length, slice_index}
use Rattle.kishu_host.specs.Story.{Event, Wrote, Synced, Put, file_after}

-- a range that was written: its first place, and how many bytes it has
pub record Range : Type 0 where
  pub from : ℕ
  pub count : ℕ

abbrev pub range : ℕ → ℕ → Range
range from count = record { from = from; count = count }

-- whether this place is in one of the ranges
abbrev pub is_written : ℕ → List Range → Bool
is_written i [] = false
is_written i (r ∷ rs) = (nat_le r.from i && nat_lt i (r.from + r.count)) || is_written i rs

-- the greatest length that a file of this length had while these ranges were written
abbrev pub greatest_length : ℕ → List Range → ℕ
greatest_length synced [] = synced
greatest_length synced (r ∷ rs) = max (greatest_length synced rs) (r.from + r.count)

-- What a stop may leave of a file that held `synced` at the last sync, and in which `ranges` were written since.
pub record MayHold (synced : List ℕ) (ranges : List Range) (left : List ℕ) : Type 0 where
  pub kept : (i : ℕ) → i < length synced → is_written i ranges ≡ false → slice_index left i ≡ slice_index synced i
  pub no_shorter : length synced ≤ length left
  pub no_longer : length left ≤ greatest_length (length synced) ranges

-- the file at the last sync, and the ranges written since, newest first
abbrev pub synced_file : List ℕ → List Event → List ℕ
synced_file first [] = first
synced_file first (Wrote at bytes ∷ es) = synced_file first es
synced_file first (Synced ∷ es) = file_after first es
synced_file first (Put bytes ∷ es) = synced_file first es

abbrev pub ranges_since : List Event → List Range
ranges_since [] = []
ranges_since (Wrote at bytes ∷ es) = range at (length bytes) ∷ ranges_since es
ranges_since (Synced ∷ es) = []
ranges_since (Put bytes ∷ es) = ranges_since es

-- The file in which each of the ranges holds this byte: `filled` is `file` but for these.
pub record IsFilled (fill : ℕ) (ranges : List Range) (file filled : List ℕ) : Type 0 where
  pub len : length filled ≡ length file
  pub inside : (i : ℕ) → i < length file → is_written i ranges ≡ true → slice_index filled i ≡ fill
  pub outside : (i : ℕ) → i < length file → is_written i ranges ≡ false → slice_index filled i ≡ slice_index file i

-- each range lies within a file of this length
abbrev pub all_within : ℕ → List Range → Bool
all_within n [] = true
all_within n (r ∷ rs) = nat_le (r.from + r.count) n && all_within n rs
