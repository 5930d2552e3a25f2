-- Two states that are the same, by the pictures of all their names.
use Rattle.std.specs.Prelude.{pos, [], ◌∷◌, codes, refl}
use Rattle.kishu_language.specs.tokens.Names.{reserved_words}
use Rattle.kishu_meaning.specs.values.Values.{integer, node, list, State}
use Rattle.kishu_objects.specs.Same.{Same}
use Rattle.kishu_objects.specs.Sound.{IsSound}
use Rattle.kishu_objects_laws.specs.SoundLaws.{sound_of}
use Rattle.kishu_objects_laws.specs.WholeLaws.{whole_same}

-- a holds b, and b is empty
abbrev here : State
here = record { names = (codes "a", node 0) ∷ (codes "b", node 1) ∷ []; nodes = list (node 1 ∷ []) ∷ list [] ∷ [] }

-- The nodes stand the other way round, behind one that nothing reaches.
abbrev there : State
there = record { names = (codes "a", node 2) ∷ (codes "b", node 1) ∷ []; nodes = list (integer (pos 1) ∷ []) ∷ list [] ∷ list (node 1 ∷ []) ∷ [] }

sound_here : IsSound here
unfolding reserved_words
sound_here = sound_of here refl refl

sound_there : IsSound there
unfolding reserved_words
sound_there = sound_of there refl refl

one_state : Same here there
one_state = whole_same here there sound_here sound_there refl
