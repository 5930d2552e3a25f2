-- What is among the names and groups of sets.
use Rattle.std.specs.Prelude.{◌≡◌, ℕ, ◌||◌, List}
use Rattle.kishu_language.specs.tokens.Names.{is_among}
use Rattle.kishu_store.specs.Groups.{Group, is_group, is_one_of}

-- These names are among them now besides those that were.
abbrev pub HasNames : List (List ℕ) → (old new : List (List ℕ)) → Type 0
HasNames names old new = (x : List ℕ) → is_among x new ≡ (is_among x names || is_among x old)

-- This group is among them now besides those that were.
abbrev pub HasGroup : Group → (old new : List Group) → Type 0
HasGroup g old new = (h : Group) → is_one_of h new ≡ (is_group h g || is_one_of h old)
