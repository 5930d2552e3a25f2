-- What bytes begin with.
use Rattle.std.specs.Prelude.{◌≡◌, ◌<◌, ℕ, List, ◌++◌, ◌∷◌, length}
use Rattle.std.specs.List.{AllByRecursion, sum}
use Rattle.kishu_bytes.specs.Numbers.{profile_number}
use Rattle.kishu_store.specs.Entries.{Entry, lengths_in}
use Rattle.kishu_store.specs.EntryBytes.{head_of, many, group_bytes, stored_bytes}
use Rattle.kishu_store.specs.Groups.{IsGroup, IsStored}
use Rattle.kishu_store.specs.Limits.{newest_profile}
use Rattle.kishu_store.specs.Rules.{AreCells, IsEntry}

-- They begin with such a thing.
pub record Begins {A : Type 0} (bytes : A → List ℕ) (fits : A → Type 0) (list : List ℕ) : Type 0 where
  pub item : A
  pub rest : List ℕ
  pub is_fit : fits item
  pub is : list ≡ bytes item ++ rest

-- cells of a commit, which has one at least
pub record AreSome (texts : List (List ℕ)) : Type 0 where
  pub some : 0 < length texts
  pub each : AreCells texts

-- They are the head of this entry, whose pictures take so many bytes.
pub record IsHead (head : List ℕ) (pictures : ℕ) (e : Entry) : Type 0 where
  pub entry : IsEntry e
  pub is : head ≡ head_of e
  pub sum : sum (lengths_in e) ≡ pictures

-- They begin with groups.
abbrev pub BeginsGroups : List ℕ → Type 0
BeginsGroups = Begins (many group_bytes) (AllByRecursion IsGroup)

-- They begin with groups, each with the length of its picture.
abbrev pub BeginsStored : List ℕ → Type 0
BeginsStored = Begins (many stored_bytes) (AllByRecursion IsStored)

-- They don't begin with the profile under which cells run.
abbrev pub LacksProfile : List ℕ → Type 0
LacksProfile list = (rest : List ℕ) → list ≡ profile_number newest_profile ∷ rest → ⊥
