-- The names of a picture stand in order where those of the list do.
use Rattle.std.specs.Prelude.{◌≡◌, ℕ, List, [], ◌∷◌, ◌++◌, map, Option, Some, None}
use Rattle.std.specs.List.{AllByRecursion}
use Rattle.std.specs.List.Sorted.{IsStrictlySortedBy}
use Rattle.std.specs.Ordering.{nat_cmp}
use Rattle.std.specs.declared.cmp.Ordering.TheVariants.{Less}
use Rattle.std.specs.Cmp.Lexicographic.{slice_cmp}
use Rattle.kishu_meaning.specs.values.Values.{Value, State, find}
use Rattle.kishu_objects.specs.Lists.{Rise}
use Rattle.kishu_objects.specs.Picture.{with_value, bound, named, place, order, picture, listed}

-- Each name of the list is behind this one.
abbrev Behind : List ℕ → List (List ℕ) → Type 0
Behind x ys = AllByRecursion (λ z. slice_cmp nat_cmp x z ≡ Less) ys

module _ (s : State) (f : ℕ → ℕ) where
  abbrev keys : List (List ℕ × Value) → List (List ℕ)
  keys ns = map (λ (b : List ℕ × Value). b.0) ns

  abbrev pictured : List (List ℕ) → List (List ℕ)
  pictured xs = keys (map (named f) (bound s xs))

  behind_with : (x y : List ℕ) (ys : List (List ℕ)) (o : Option Value) → slice_cmp nat_cmp x y ≡ Less → Behind x (pictured ys) → Behind x (keys (map (named f) (with_value y o ++ bound s ys)))
  behind_with x y ys None l h = h
  behind_with x y ys (Some v) l h = (l, h)

  behind_pictured : (x : List ℕ) (ys : List (List ℕ)) → Behind x ys → Behind x (pictured ys)
  behind_pictured x [] h = tt
  behind_pictured x (y ∷ ys) h = behind_with x y ys (find y s.names) h.0 (behind_pictured x ys h.1)

  rise_with : (y : List ℕ) (ys : List (List ℕ)) (o : Option Value) → Behind y (pictured ys) → Rise (pictured ys) → Rise (keys (map (named f) (with_value y o ++ bound s ys)))
  unfolding IsStrictlySortedBy
  rise_with y ys None h r = r
  rise_with y ys (Some v) h r = (h, r)

  rise_pictured : (ys : List (List ℕ)) → Rise ys → Rise (pictured ys)
  unfolding IsStrictlySortedBy
  rise_pictured [] r = tt
  rise_pictured (y ∷ ys) r = rise_with y ys (find y s.names) (behind_pictured y ys r.0) (rise_pictured ys r.1)

pub picture_rise : (s : State) (names : List (List ℕ)) → Rise names → Rise (listed (picture s names))
picture_rise s names rise = rise_pictured s (place (order s names)) names rise
