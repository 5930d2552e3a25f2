-- The values that parts of a key are lead to no nodes.
use Rattle.std.proofs.Common.{refl, ℕ, IsTrue, List, [], ◌∷◌, map}
use Rattle.kishu_meaning.specs.values.Keys.{KeyPart, none, bool, integer, text}
use Rattle.kishu_meaning.specs.items.KeyOf.{value_of_part}
use Rattle.kishu_meaning.specs.values.Sound.{is_sound, are_sound}
use Rattle.kishu_items.specs.Holding.{both}

part_sound : (n : ℕ) (p : KeyPart) → IsTrue (is_sound n (value_of_part p))
part_sound n none = refl
part_sound n (bool b) = refl
part_sound n (integer z) = refl
part_sound n (text cs) = refl

pub parts_sound : (n : ℕ) (ps : List KeyPart) → IsTrue (are_sound n (map value_of_part ps))
parts_sound n [] = refl
parts_sound n (p ∷ ps) = both (is_sound n (value_of_part p)) (are_sound n (map value_of_part ps)) (part_sound n p) (parts_sound n ps)
