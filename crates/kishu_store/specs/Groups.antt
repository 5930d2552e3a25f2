-- Groups of names that stand together (Kishu, "co-variable"), as records tell them.
use Rattle.std.specs.Prelude.{ℕ, ◌<◌, ◌^◌, Bool, IsTrue, List, [], ◌∷◌, length, map}
use Rattle.std.specs.Cmp.Lexicographic.{slice_cmp, pointwise}
use Rattle.std.specs.List.{AllByRecursion, list_any}
use Rattle.std.specs.List.Sorted.{IsStrictlySortedBy}
use Rattle.std.specs.Ordering.{nat_cmp}
use Rattle.std.specs.Str.{bytes_eq}
use Rattle.kishu_language.specs.tokens.Names.{is_name}

-- names, in byte order
abbrev pub Group : Type 0
Group = List (List ℕ)

abbrev pub first_name : Group → List ℕ
first_name [] = []
first_name (name ∷ names) = name

-- whether two have the same names
abbrev pub is_group : Group → Group → Bool
is_group = pointwise bytes_eq

abbrev pub is_one_of : Group → List Group → Bool
is_one_of g = list_any (is_group g)

-- Names stand in byte order, each once.
abbrev pub Rise : List (List ℕ) → Type 0
Rise = IsStrictlySortedBy (slice_cmp nat_cmp)

abbrev pub IsName : List ℕ → Type 0
IsName name = IsTrue (is_name name)

-- A group that a record may tell.
pub record IsGroup (group : Group) : Type 0 where
  pub some : 0 < length group
  pub names : AllByRecursion IsName group
  pub rise : Rise group

-- The groups that a commit drops stand in the order of their first names.
pub record AreGroups (groups : List Group) : Type 0 where
  pub each : AllByRecursion IsGroup groups
  pub rise : Rise (map first_name groups)

-- a group with the length of its picture
abbrev pub IsStored : Group × ℕ → Type 0
IsStored s = IsGroup s.0 × (s.1 < 2 ^ 64)

-- So do those that it stores.
pub record AreStored (stored : List (Group × ℕ)) : Type 0 where
  pub each : AllByRecursion IsStored stored
  pub rise : Rise (map (λ s. first_name s.0) stored)
