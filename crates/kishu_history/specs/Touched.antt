-- What a cell changed, told among the names that it touched alone.
use Rattle.std.specs.Prelude.{◌≡◌, ℕ, ◌+◌, ◌⊎◌, Bool, false, not, ◌&&◌, ◌||◌, List, filter}
use Rattle.std.specs.List.{list_any}
use Rattle.kishu_language.specs.tokens.Names.{is_among}
use Rattle.kishu_meaning.specs.values.Values.{State}
use Rattle.kishu_objects.specs.Picture.{picture, listed}
use Rattle.kishu_objects.specs.Groups.{groups, groups_of}
use Rattle.kishu_objects.specs.Lists.{In}
use Rattle.kishu_objects.specs.Sizes.{size_among}
use Rattle.kishu_history.specs.Alike.{is_state}
use Rattle.kishu_history.specs.Changed.{Group, is_one_of}
use Rattle.kishu_history.specs.Tables.{Row, Table, groups_in, bytes_in, Change}

-- whether the group holds one of these names
abbrev pub holds_any : List (List ℕ) → Group → Bool
holds_any accessed g = list_any (λ x. is_among x accessed) g

-- Touched by a cell are the names that it accessed, those that it bound or unbound among them, and those of the groups that hold one of these.
abbrev pub is_touched : List Group → List (List ℕ) → List ℕ → Bool
is_touched gs accessed x = is_among x accessed || list_any (λ g. holds_any accessed g && is_among x g) gs

-- as far as they are bound now
abbrev pub touched : List Group → List (List ℕ) → State → List (List ℕ)
touched gs accessed s = filter (is_touched gs accessed) (listed s)

-- their classes: the groups of these names alone
abbrev pub classes : List Group → List (List ℕ) → State → List Group
classes gs accessed s = groups s (touched gs accessed s)

-- From the groups of a table, the picture that each of them had, and the accessed names:
module _ (gs : List Group) (pic : Group → State) (accessed : List (List ℕ)) (s : State) where
  -- the groups that are dropped, which hold an accessed name and aren't classes with the picture that they had,
  abbrev pub dropped_among : List Group
  dropped_among = filter (λ g. holds_any accessed g && not (is_one_of g (classes gs accessed s) && is_state (picture s g) (pic g))) gs

  -- and those that are stored, which are the other classes.
  abbrev pub stored_among : List Group
  stored_among = filter (λ g. not (is_one_of g gs && is_state (picture s g) (pic g))) (classes gs accessed s)

  -- Each group without an accessed name is still one, with its picture; each other bound name is accessed; and no name is in two groups.
  pub record IsKept : Type 0 where
    pub still : (g : Group) → In g gs → holds_any accessed g ≡ false → In g (groups_of s) × (picture s g ≡ pic g)
    pub others : (x : List ℕ) → In x (listed s) → ((g : Group) × In g gs × In x g) ⊎ In x accessed
    pub one : (g h : Group) (x : List ℕ) → In g gs → In h gs → In x g → In x h → g ≡ h

-- what a cell that leads from s to u changes of a table, with these rows stored
abbrev pub change_told : Table → State → List (List ℕ) → State → Table → Change
change_told t s accessed u rows = record { dropped = dropped_among (groups_in t) (picture s) accessed u; stored = rows }

-- ---- how much a state takes

-- the rows that hold no accessed name
abbrev pub untouched : Table → List (List ℕ) → Table
untouched t accessed = filter (λ r. not (holds_any accessed r.group)) t

-- the bytes that a state takes after cells, told by the table before them: those of these rows, and those of the pictures of the classes of the touched names
abbrev pub size_told : Table → List (List ℕ) → State → ℕ
size_told t accessed s = bytes_in (untouched t accessed) + size_among (classes (groups_in t) accessed s) s
