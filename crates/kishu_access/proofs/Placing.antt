-- The places of a slice, and the items at them.
use Rattle.std.proofs.Common.{◌≡◌, ◌∙◌, ◌<◌, ap, sym, refl, arith, subst, ℕ, zero, suc, ℤ, pos, negsuc, ◌+ℤ◌, List, [], ◌∷◌, length, map, get_or, Option}
use Rattle.std.specs.List.{cons_option, filter_map}
use Rattle.kishu_meaning.specs.declared.value.Value as rust
use Rattle.kishu_meaning.specs.items.Subscripts.{at_place}
use Rattle.kishu_meaning.specs.values.Texts.{places, picked, code_point_at}
use Rattle.kishu_meaning.specs.values.Values.{Value, value_of}
use Rattle.kishu_text.specs.PlaceLaws.{first_there}
use Rattle.kishu_access.proofs.Taking.{at_index}

-- the items at places
abbrev pub seen_at : List rust.Value → List ℤ → List Value
seen_at xs = filter_map (at_place (map value_of xs))

pub seen_more : (xs : List rust.Value) (place : ℕ) (next step : ℤ) (m n : ℕ) (x : rust.Value) → m ≡ suc n → place < length xs → x ≡ get_or xs place x → (0 < n → next ≡ pos place +ℤ step) → seen_at xs (places (pos place) step m) ≡ value_of x ∷ seen_at xs (places next step n)
seen_more xs place next step m n x e l at on = first_there (at_place (map value_of xs)) (pos place) next step m n (value_of x) e (at_index xs place x l at) on

pub count_places : (start step : ℤ) (m : ℕ) → length (places start step m) ≡ m
count_places start step zero = refl
count_places start step (suc m) = ap suc (count_places (start +ℤ step) step m)

-- the code points of a text at places are its items there
code_points_at : (cs : List ℕ) (z : ℤ) → code_point_at cs z ≡ at_place cs z
code_points_at cs (pos i) = refl
code_points_at cs (negsuc i) = refl

pub picked_items : (cs : List ℕ) (zs : List ℤ) → picked cs zs ≡ filter_map (at_place cs) zs
picked_items cs [] = refl
picked_items cs (z ∷ zs) = ap (λ (o : Option ℕ). cons_option o (picked cs zs)) (code_points_at cs z) ∙ ap (λ (l : List ℕ). cons_option (at_place cs z) l) (picked_items cs zs)
