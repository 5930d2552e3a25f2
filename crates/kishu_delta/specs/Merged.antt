-- Two lists in the order of first names, as one.
use Rattle.std.specs.Prelude.{◌≡◌, ⊤, Bool, true, false, if◌then◌else◌, List, [], ◌∷◌, ◌++◌, Option, Some, None}
use Rattle.std.specs.Cmp.Lexicographic.{slice_cmp}
use Rattle.std.specs.Ordering.{nat_cmp, is_lt}
use Rattle.kishu_store.specs.Groups.{Group, first_name}

-- whether a group's first name comes before another's
abbrev pub comes_before : Group → Group → Bool
comes_before g h = is_lt (slice_cmp nat_cmp (first_name g) (first_name h))

module _ {A : Type 0} (group : A → Group) where
  -- An item with what is made of the rest, behind those of a list that come before it.
  abbrev pub put_into : A → (List A → List A) → List A → List A
  put_into x rest [] = x ∷ rest []
  put_into x rest (y ∷ ys) = if comes_before (group y) (group x) then y ∷ put_into x rest ys else x ∷ rest (y ∷ ys)

  abbrev pub merged : (xs ys : List A) → List A
  merged [] ys = ys
  merged (x ∷ xs) ys = put_into x (merged xs) ys

  -- The first of these doesn't come before a group.
  abbrev pub IsBehind : Group → List A → Type 0
  IsBehind g [] = ⊤
  IsBehind g (y ∷ ys) = comes_before (group y) g ≡ false

  -- The first of them was taken off, which comes before the group; or the first doesn't, and all stay.
  abbrev pub Pops : Group → (old : List A) → Option A → (new : List A) → Type 0
  Pops g old (Some y) new = (old ≡ y ∷ new) × (comes_before (group y) g ≡ true)
  Pops g old None new = (new ≡ old) × IsBehind g old

  -- Those that come before an item went from the rest to the end of the others, whatever is made of what is left.
  abbrev pub Moves : (x : A) → (all rest all_new rest_new : List A) → Type 0
  Moves x all rest all_new rest_new = (after : List A → List A) → all_new ++ (x ∷ after rest_new) ≡ all ++ put_into x after rest

  -- Some of them did so far.
  abbrev pub MovesSome : (x : A) → (all rest all_new rest_new : List A) → Type 0
  MovesSome x all rest all_new rest_new = (after : List A → List A) → all_new ++ put_into x after rest_new ≡ all ++ put_into x after rest
