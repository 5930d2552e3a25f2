-- The pictures of some names of a state.
use Rattle.std.specs.Prelude.{◌≡◌, ℕ, ◌<◌, ◌^◌, List, length, All}
use Rattle.kishu_meaning.specs.values.Values.{State}
use Rattle.kishu_objects.specs.Bytes.{picture_bytes}
use Rattle.kishu_objects.specs.Groups.{AreApart, Cuts}
use Rattle.kishu_objects.specs.Lists.{Rise}
use Rattle.kishu_objects.specs.Picture.{picture}

-- Each name is in one of the groups, and no two of the groups share a node.
abbrev pub IsCutBy : State → List (List (List ℕ)) → Type 0
IsCutBy s groups = Cuts s groups × AreApart s groups

-- Each group has equal pictures in the two states.
abbrev pub HaveEqualPictures : State → State → List (List (List ℕ)) → Type 0
HaveEqualPictures s t groups = All (λ g. picture s g ≡ picture t g) groups

-- Four bytes count the bytes of the names' picture.
abbrev pub IsShort : State → List (List ℕ) → Type 0
IsShort s names = length (picture_bytes s names) < 2 ^ 32

-- Each group has its names in order and pictures of equal bytes in the two states, which four bytes count.
abbrev pub HaveEqualBytes : State → State → List (List (List ℕ)) → Type 0
HaveEqualBytes s t groups = All (λ g. Rise g × IsShort s g × (picture_bytes s g ≡ picture_bytes t g)) groups
