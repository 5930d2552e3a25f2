-- Groups with their pictures, one after another.
use Rattle.std.proofs.Common.{◌≡◌, ◌<◌, ◌≤◌, ◌∙◌, ◌+◌, ℕ, List, [], ◌∷◌, ◌++◌, length, map, refl, sym, ap, arith}
use Rattle.std.proofs.lemmas.List.Sums.{sum_by-cons}
use Rattle.kishu_meaning.specs.values.Values.{State}
use Rattle.kishu_objects.specs.Bytes.{picture_bytes}
use Rattle.kishu_objects.specs.Lists.{In}
use Rattle.kishu_objects.specs.Picture.{order}
use Rattle.kishu_objects.specs.Sizes.{size_among, most_bytes}
use Rattle.kishu_store.specs.Groups.{Group}
use Rattle.kishu_delta.specs.declared.delta.StoredGroup as rust
use Rattle.kishu_delta.specs.Compared.{pictured, stored_group, with_pictures}
use Rattle.kishu_delta.specs.Found.{group_of}
use Rattle.kishu_delta.specs.Reaches.{nodes_among}
use Rattle.kishu_delta.proofs.Keys.{Texts}

-- what is put behind
pub behind : {A B : Type 0} (f : A → B) (old : List A) (a : A) (rest : List B) → map f (old ++ a ∷ []) ++ rest ≡ map f old ++ (f a ∷ rest)
behind f [] a rest = refl
behind f (x ∷ old) a rest = ap (λ l. f x ∷ l) (behind f old a rest)

pub none_in : (items : List Texts) (g : Group) → length items ≡ 0 → In g (map group_of items) → ⊥
none_in [] g e m = m
none_in (v ∷ items) g e m = omega (arith, e)

module _ (s : State) (items rest : List Texts) (group : Texts) (next : items ≡ group ∷ rest) where
  pub takes : size_among (map group_of items) s ≡ length (picture_bytes s (group_of group)) + size_among (map group_of rest) s
  takes =
      ap (λ (l : List Texts). size_among (map group_of l) s) next
      ∙ sum_by-cons (λ (g : Group). length (picture_bytes s g)) (group_of group) (map group_of rest)

  pub reaches : nodes_among s (map group_of items) ≡ length (order s (group_of group)) + nodes_among s (map group_of rest)
  reaches =
      ap (λ (l : List Texts). nodes_among s (map group_of l)) next
      ∙ sum_by-cons (λ (g : Group). length (order s g)) (group_of group) (map group_of rest)

  -- A picture of pictures that aren't too large is short.
  pub short : size_among (map group_of items) s ≤ most_bytes → length (picture_bytes s (group_of group)) < 4294967296
  short small = (let t = takes in omega (arith, t, small))

  pub smaller : size_among (map group_of items) s ≤ most_bytes → size_among (map group_of rest) s ≤ most_bytes
  smaller small = (let t = takes in omega (arith, t, small))

  pub told_more : (old new : List rust.StoredGroup) (g : rust.StoredGroup) → new ≡ old ++ g ∷ [] → stored_group g ≡ group_of group → g.bytes.items ≡ picture_bytes s (group_of group)
      → with_pictures new ++ pictured s (map group_of rest) ≡ with_pictures old ++ pictured s (map group_of items)
  told_more old new g is names bytes =
      ap (λ (l : List rust.StoredGroup). with_pictures l ++ pictured s (map group_of rest)) is
      ∙ behind (λ (h : rust.StoredGroup). (stored_group h, h.bytes.items)) old g (pictured s (map group_of rest))
      ∙ ap (λ (p : Group × List ℕ). with_pictures old ++ (p ∷ pictured s (map group_of rest))) (λ i. (names i, bytes i))
      ∙ ap (λ (l : List Texts). with_pictures old ++ pictured s (map group_of l)) (sym next)
