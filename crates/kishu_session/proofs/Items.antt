-- The front of a rest of a list that is seen item by item, and the end of what was seen.
use Rattle.std.proofs.Common.{◌≡◌, ◌<◌, ◌+◌, ℕ, List, [], ◌∷◌, ◌++◌, length, map, take, drop, get_or, sym, ◌∙◌, ap, arith}
use Rattle.std.proofs.lemmas.List.{drop_more, take_more, get_or-map, length-map}

module _ {X Y : Type 0} (f : X → Y) (xs : List X) (i : ℕ) (x : X) (lt : i < length xs) (is : x ≡ get_or xs i x) where
  here : get_or (map f xs) i (f x) ≡ f x
  here = get_or-map f xs i x (f x) lt ∙ ap f (sym is)

  pub drop-map : drop i (map f xs) ≡ f x ∷ drop (i + 1) (map f xs)
  drop-map = drop_more (map f xs) i (f x) (omega (arith, lt, length-map xs f)) ∙ ap (λ (y : Y). y ∷ drop (i + 1) (map f xs)) here

  pub take-next : take (i + 1) (map f xs) ≡ take i (map f xs) ++ (f x ∷ [])
  take-next = take_more (map f xs) i (f x) (omega (arith, lt, length-map xs f)) ∙ ap (λ (y : Y). take i (map f xs) ++ (y ∷ [])) here
