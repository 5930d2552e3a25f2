-- Lists that were mapped twice.
use Rattle.std.proofs.Common.{◌≡◌, List, [], ◌∷◌, map, refl, ap}

pub one_map : {A B C : Type 0} (f : B → C) (g : A → B) (xs : List A) → map f (map g xs) ≡ map (λ x. f (g x)) xs
one_map f g [] = refl
one_map f g (x ∷ xs) = ap (λ rest. f (g x) ∷ rest) (one_map f g xs)
