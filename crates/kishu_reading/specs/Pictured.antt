-- Which states can stand in a picture as they are, and which bytes are one.
use Rattle.std.specs.Prelude.{◌≡◌, ◌<◌, ⊤, ℕ, List}
use Rattle.std.specs.List.{AllByRecursion}
use Rattle.kishu_language.specs.declared.profile.Profile.TheVariants.{One}
use Rattle.kishu_meaning.specs.values.Values.{Node, list, tuple, dict, object, function, exception, State}
use Rattle.kishu_objects.specs.Bytes.{state_bytes}
use Rattle.kishu_objects.specs.Fits.{StateFits}
use Rattle.kishu_objects.specs.Reading.{IsInOrder}
use Rattle.kishu_objects.specs.State.{IsState}

-- A function is of the one profile that there is so far.
abbrev pub HasKnownProfile : Node → Type 0
HasKnownProfile (list vs) = ⊤
HasKnownProfile (tuple vs) = ⊤
HasKnownProfile (dict es) = ⊤
HasKnownProfile (object as') = ⊤
HasKnownProfile (function profile code vs) = profile ≡ One
HasKnownProfile (exception kind vs) = ⊤

-- Each is.
abbrev pub AreKnown : List Node → Type 0
AreKnown = AllByRecursion HasKnownProfile

-- A state that is its own picture: what it holds can be written, and its nodes stand in the order of first meeting.
pub record IsInPicture (p : State) : Type 0 where
  pub state : IsState p
  pub known : AreKnown p.nodes
  pub fits : StateFits p
  pub order : IsInOrder p

-- The bytes are the picture that this state is.
pub record IsPictureOf (bs : List ℕ) (p : State) : Type 0 where
  pub state : IsInPicture p
  pub is : bs ≡ state_bytes p

-- the picture of some state
abbrev pub IsPicture : List ℕ → Type 0
IsPicture bs = (p : State) × IsPictureOf bs p

-- Each is a byte.
abbrev pub AreBytes : List ℕ → Type 0
AreBytes = AllByRecursion (λ b. b < 256)
