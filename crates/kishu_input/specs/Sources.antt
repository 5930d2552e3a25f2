-- What reading does with a source: of the source before it and after it.
use Rattle.std.specs.Prelude.{◌≡◌, ◌≤◌, ◌<◌, ◌+◌, ℕ, true, List, [], length}
use Rattle.kishu_host.specs.Host.{Rises}
use Rattle.kishu_host.specs.Source.{SourceState}

-- The input has failed: its count of faults has risen.
abbrev pub InputFailed : SourceState → SourceState → Type 0
InputFailed old new = Rises old.in_faults new.in_faults

-- These bytes are all that it had left.
abbrev pub IsAllLeft : SourceState → SourceState → List ℕ → Type 0
IsAllLeft old new bytes = old.tells ≡ true → (bytes ≡ old.left) × (new.left ≡ [])

-- More bytes than this were taken.
abbrev pub TakesMoreThan : ℕ → SourceState → SourceState → Type 0
TakesMoreThan count old new = old.tells ≡ true → count + length new.left < length old.left

-- At most as many bytes as this were taken.
abbrev pub TakesAtMost : ℕ → SourceState → SourceState → Type 0
TakesAtMost count old new = old.tells ≡ true → length old.left ≤ count + length new.left
