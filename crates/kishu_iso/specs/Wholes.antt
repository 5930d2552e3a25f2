-- The picture of all names of a state.
use Rattle.std.specs.Prelude.{ℕ, ◌<◌, ◌^◌, List, length}
use Rattle.kishu_meaning.specs.values.Values.{State}
use Rattle.kishu_objects.specs.Bytes.{picture_bytes}
use Rattle.kishu_objects.specs.Picture.{listed, order}

-- its bytes
abbrev pub whole_bytes : State → List ℕ
whole_bytes s = picture_bytes s (listed s)

-- how many nodes it has
abbrev pub reached_nodes : State → ℕ
reached_nodes s = length (order s (listed s))

-- Four bytes count its bytes.
abbrev pub HasShortPicture : State → Type 0
HasShortPicture s = length (whole_bytes s) < 2 ^ 32
