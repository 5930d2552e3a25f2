-- Items that lead to no nodes.
use Rattle.std.proofs.Common.{refl, ℕ, IsTrue, List, [], ◌∷◌, map}
use Rattle.std.specs.Prelude.{ℤ}
use Rattle.kishu_meaning.specs.comparing.Equal.{range_length}
use Rattle.kishu_meaning.specs.items.Sequences.{text_items, range_items}
use Rattle.kishu_meaning.specs.values.Sound.{is_sound, are_sound}
use Rattle.kishu_meaning.specs.values.Texts.{places}
use Rattle.kishu_meaning.specs.values.Values.{text, integer}
use Rattle.kishu_items.specs.Holding.{both}

pub texts_sound : (n : ℕ) (cs : List ℕ) → IsTrue (are_sound n (text_items cs))
texts_sound n [] = refl
texts_sound n (c ∷ cs) = both (is_sound n (text (c ∷ []))) (are_sound n (text_items cs)) refl (texts_sound n cs)

numbers_sound : (n : ℕ) (zs : List ℤ) → IsTrue (are_sound n (map integer zs))
numbers_sound n [] = refl
numbers_sound n (z ∷ zs) = both (is_sound n (integer z)) (are_sound n (map integer zs)) refl (numbers_sound n zs)

pub range_sound : (n : ℕ) (start stop step : ℤ) → IsTrue (are_sound n (range_items start stop step))
range_sound n start stop step = numbers_sound n (places start step (range_length start stop step))
