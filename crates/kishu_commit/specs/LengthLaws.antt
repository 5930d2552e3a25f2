-- The names of groups take at most what their pictures take: a picture has each of its names in it.
use Rattle.std.specs.Prelude.{◌≡◌, ◌≤◌, ℕ, ◌+◌, ◌*◌, Bool, not, List, [], ◌∷◌, length, map, filter, flat_map, Option, Some}
use Rattle.std.specs.List.{sum_by}
use Rattle.std.proofs.Common.{ap, subst, refl, inl, inr, arith, length-append}
use Rattle.std.proofs.lemmas.List.Concat.{length-flat_map}
use Rattle.std.proofs.lemmas.List.Filters.{sum_by-filter_both}
use Rattle.std.proofs.lemmas.List.Sums.{sum_by-cons}
use Rattle.kishu_bytes.specs.Numbers.{four}
use Rattle.kishu_meaning.specs.values.Values.{Value, State, find}
use Rattle.kishu_objects.specs.Bytes as pictured
use Rattle.kishu_objects.specs.Bytes.{picture_bytes}
use Rattle.kishu_objects.specs.Lists.{In}
use Rattle.kishu_objects.specs.Picture.{with_value, listed}
use Rattle.kishu_objects.specs.Sizes.{size_among}
use Rattle.kishu_objects_laws.specs.NameLaws.{listed_found}
use Rattle.kishu_store.specs.EntryBytes.{eight, name_bytes, group_bytes, stored_bytes}
use Rattle.kishu_store.specs.Groups.{Group}
use Rattle.kishu_store.specs.Limits.{most_pictured}
use Rattle.kishu_store.specs.Tables.{Table, group_in, groups_in, bytes_in}
use Rattle.kishu_history.specs.Live.{IsLive}
use Rattle.kishu_history.specs.Stored.{Stored}
use Rattle.kishu_history_laws.specs.checkouts.PlaceLaws.{rows_take_theirs}
use Rattle.kishu_history_laws.specs.states.PictureSizes.{picture-length}
use Rattle.kishu_objects_laws.specs.ListLaws.{map_in}
use Rattle.kishu_commit.specs.Told.{measured, HasShortNames}

-- what a name takes in a picture, with its value
abbrev name_takes : State → List ℕ → ℕ
name_takes s x = length (flat_map pictured.name_bytes (with_value x (find x s.names)))

module _ (s : State) where
  name-takes : (x : List ℕ) (v : Value) → find x s.names ≡ Some v → length (name_bytes x) ≤ name_takes s x
  name-takes x v e =
      let is : name_takes s x ≡ length (flat_map pictured.name_bytes ((x, v) ∷ [])) = ap (λ (o : Option Value). length (flat_map pictured.name_bytes (with_value x o))) e in
      omega (arith, is, length-append (pictured.name_bytes (x, v)) [], length-append (pictured.short x) (pictured.value_bytes v))

  names-take : (xs : List (List ℕ)) → ((x : List ℕ) → In x xs → In x (listed s)) → length (flat_map name_bytes xs) ≤ sum_by (name_takes s) xs
  names-take [] there = omega arith
  names-take (x ∷ xs) there =
      let is = listed_found s.names x (there x (inl refl)) in
      let here = name-takes x is.0 is.1 in
      let rest = names-take xs (λ y m. there y (inr m)) in
      omega (arith, here, rest, sum_by-cons (name_takes s) x xs, length-append (name_bytes x) (flat_map name_bytes xs))

  -- A group whose names are bound.
  pub group-takes : (g : Group) → ((x : List ℕ) → In x g → In x (listed s)) → length (group_bytes g) ≤ length (picture_bytes s g)
  group-takes g there = omega (arith, names-take g there, picture-length s g, length-append (four (length g)) (flat_map name_bytes g))

  -- The same with the length of its picture behind it, but for four bytes.
  pub stored-takes : (g : Group) (n : ℕ) → ((x : List ℕ) → In x g → In x (listed s)) → length (stored_bytes (g, n)) ≤ 4 + length (picture_bytes s g)
  stored-takes g n there =
      omega (arith, names-take g there, picture-length s g, length-append (four (length g)) (flat_map name_bytes g), length-append (group_bytes g) (eight n))

  -- So each group that is stored takes at most one and a half times what its picture takes.
  pub all_stored-take : (gs : List Group) → ((g : Group) (x : List ℕ) → In g gs → In x g → In x (listed s)) → 2 * length (flat_map stored_bytes (map (measured s) gs)) ≤ 3 * size_among gs s
  all_stored-take [] there = omega arith
  all_stored-take (g ∷ gs) there =
      let n = length (picture_bytes s g) in
      let here = stored-takes g n (λ x m. there g x (inl refl) m) in
      let rest = all_stored-take gs (λ h x m k. there h x (inr m) k) in
      omega (arith, here, rest, picture-length s g, sum_by-cons (λ (h : Group). length (picture_bytes s h)) g gs, length-append (stored_bytes (g, n)) (flat_map stored_bytes (map (measured s) gs)))

  pub groups-take : (gs : List Group) → ((g : Group) (x : List ℕ) → In g gs → In x g → In x (listed s)) → length (flat_map group_bytes gs) ≤ size_among gs s
  groups-take [] there = omega arith
  groups-take (g ∷ gs) there =
      let here = group-takes g (λ x m. there g x (inl refl) m) in
      let rest = groups-take gs (λ h x m n. there h x (inr m) n) in
      omega (arith, here, rest, sum_by-cons (λ (h : Group). length (picture_bytes s h)) g gs, length-append (group_bytes g) (flat_map group_bytes gs))

-- So it is of the groups of a table that tells a state, on every store.
pub live-names : (file : Option (List ℕ)) (t : Table) (s : State) → IsLive (Stored file) t s → bytes_in t ≤ most_pictured → HasShortNames t
live-names file t s live small =
    let takes = groups-take s (groups_in t) (λ g x m n. let r = map_in group_in t g m in (live.bound x).1 (r.0, r.1, subst (λ h. In x h) r.2 n)) in
    omega (arith, takes, small, rows_take_theirs file t s live)

-- ---- fewer groups take less

chosen-take : {A : Type 0} (f : A → ℕ) (test : A → Bool) (xs : List A) → sum_by f (filter test xs) ≤ sum_by f xs
chosen-take f test xs = omega (arith, sum_by-filter_both test (λ x. not (test x)) (λ x. refl) f xs)

pub fewer-take : (test : Group → Bool) (gs : List Group) → length (flat_map group_bytes (filter test gs)) ≤ length (flat_map group_bytes gs)
fewer-take test gs = omega (arith, chosen-take (λ g. length (group_bytes g)) test gs, length-flat_map group_bytes gs, length-flat_map group_bytes (filter test gs))

pub fewer-pictured : (s : State) (test : Group → Bool) (gs : List Group) → size_among (filter test gs) s ≤ size_among gs s
fewer-pictured s test gs = chosen-take (λ g. length (picture_bytes s g)) test gs
