-- What the loading of one group leaves, and of one row.
use Rattle.std.specs.Prelude.{◌≡◌, ℕ, IsTrue, List, [], map}
use Rattle.kishu_meaning.specs.values.Sound.{are_sound_names}
use Rattle.kishu_meaning.specs.values.Values.{Names, Node, State}
use Rattle.kishu_objects.specs.Loading.{with_picture}
use Rattle.kishu_objects.specs.Picture.{listed}
use Rattle.kishu_reading.specs.Pictured as reading

-- the names that are bound
abbrev pub titles : Names → List (List ℕ)
titles ns = map (λ b. b.0) ns

-- ---- bytes

-- They are the picture of no state.
abbrev pub IsNoPicture : List ℕ → Type 0
IsNoPicture bytes = (p : State) → reading.IsPictureOf bytes p → ⊥

-- They are the picture of no state that binds just these names.
abbrev pub IsNoneOf : List (List ℕ) → List ℕ → Type 0
IsNoneOf group bytes = (p : State) → reading.IsPictureOf bytes p → listed p ≡ group → ⊥

-- They are the picture of a state that binds just these names.
pub record IsOneOf (group : List (List ℕ)) (bytes : List ℕ) : Type 0 where
  pub picture : State
  pub told : reading.IsPictureOf bytes picture
  pub names : listed picture ≡ group

-- They are a picture, and what is left is this picture behind the nodes, with no names but its own.
pub record IsAlone (bytes : List ℕ) (nodes : List Node) (after : State) : Type 0 where
  pub picture : State
  pub told : reading.IsPictureOf bytes picture
  pub is : after ≡ with_picture (record { names = []; nodes = nodes }) picture

-- They are a picture of just these names, and what is left is the state with this picture loaded into it.
pub record IsLoadedAs (group : List (List ℕ)) (bytes : List ℕ) (before after : State) : Type 0 where
  pub picture : State
  pub told : reading.IsPictureOf bytes picture
  pub names : listed picture ≡ group
  pub is : after ≡ with_picture before picture

-- ---- names

-- Among each number of nodes among which the old names lead to values, the new ones do.
abbrev pub StaySound : Names → Names → Type 0
StaySound old new = (n : ℕ) → IsTrue (are_sound_names n old) → IsTrue (are_sound_names n new)
