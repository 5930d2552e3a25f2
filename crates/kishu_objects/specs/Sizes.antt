-- How many bytes the pictures of a state take.
use Rattle.std.specs.Prelude.{ℕ, ◌^◌, List, length}
use Rattle.std.specs.List.{sum_by}
use Rattle.kishu_meaning.specs.values.Values.{State}
use Rattle.kishu_objects.specs.Bytes.{picture_bytes}
use Rattle.kishu_objects.specs.Groups.{groups_of}

-- the bytes of the pictures of these groups of names
abbrev pub size_among : List (List (List ℕ)) → State → ℕ
size_among gs s = sum_by (λ g. length (picture_bytes s g)) gs

-- those of all its groups
abbrev pub size : State → ℕ
size s = size_among (groups_of s) s

-- A state that takes more is too large.
abbrev pub most_bytes : ℕ
most_bytes = 2 ^ 28
