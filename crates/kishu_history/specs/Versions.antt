-- The version of a group: the commit from which on it stands with one picture, along the path that leads to a commit.
use Rattle.std.specs.Prelude.{◌≡◌, ◌<◌, ℕ, ◌==◌, Bool, not, ◌&&◌, if◌then◌else◌, ⊤, List, [], ◌∷◌, ◌++◌, filter, All}
use Rattle.kishu_meaning.specs.values.Values.{State, empty}
use Rattle.kishu_objects.specs.Picture.{picture}
use Rattle.kishu_objects.specs.Lists.{In}
use Rattle.kishu_objects.specs.Groups.{groups_of}
use Rattle.kishu_history.specs.Changed.{Group, is_one_of, stands, changed, Stands}
use Rattle.kishu_objects.specs.States.{IsSoundState}

-- one commit on a path: its number, and the state that its replay gives
pub record Stop : Type 0 where
  pub commit : ℕ
  pub state : State

-- A path is a list of stops, of which the newest commit stands first. The root isn't among them: there the state is empty.
abbrev pub at_end : List Stop → State
at_end [] = empty
at_end (k ∷ ks) = k.state

-- the number of a path's newest commit
abbrev pub end_number : List Stop → ℕ
end_number [] = 0
end_number (k ∷ ks) = k.commit

abbrev pub AreStates : List Stop → Type 0
AreStates [] = ⊤
AreStates (k ∷ ks) = IsSoundState k.state × AreStates ks

-- The numbers fall from the newest commit on.
abbrev pub Falls : List Stop → Type 0
Falls [] = ⊤
Falls (k ∷ ks) = (end_number ks < k.commit) × Falls ks

-- Two paths agree where a commit on both has one state.
abbrev pub Agree : List Stop → List Stop → Type 0
Agree h c = (j k : Stop) → In j h → In k c → j.commit ≡ k.commit → j.state ≡ k.state

-- ---- the version

-- The commit is on the path, from there on to the path's newest commit the group stands with one picture, and it does so from no earlier commit on.
pub record IsVersion (path : List Stop) (g : Group) (a : ℕ) : Type 0 where
  pub newer : List Stop
  pub at : Stop
  pub older : List Stop
  pub split : path ≡ newer ++ (at ∷ older)
  pub number : at.commit ≡ a
  pub since : All (λ k. Stands g (picture (at_end path) g) k.state) (newer ++ (at ∷ []))
  pub earliest : (more : List Stop) (k : Stop) (rest : List Stop) → older ≡ more ++ (k ∷ rest) → All (λ j. Stands g (picture (at_end path) g) j.state) (newer ++ ((at ∷ more) ++ (k ∷ []))) → ⊥

-- Computed: back from a commit, as long as the group stands with the picture, to the last commit at which it did.
abbrev pub back : Group → State → ℕ → List Stop → ℕ
back g p a [] = a
back g p a (k ∷ ks) = if stands g p k.state then back g p k.commit ks else a

-- the version of a group of the path's newest commit
abbrev pub version : List Stop → Group → ℕ
version [] g = 0
version (k ∷ ks) g = back g (picture k.state g) k.commit ks

-- ---- what a commit changes

-- What the newest commit stores: its groups whose version it is itself.
abbrev pub stored : List Stop → List Group
stored [] = []
stored (k ∷ ks) = filter (λ g. version (k ∷ ks) g == k.commit) (groups_of k.state)

-- What it drops: its parent's groups that aren't its own with the same picture.
abbrev pub dropped : List Stop → List Group
dropped [] = []
dropped (k ∷ ks) = changed (at_end ks) k.state

-- ---- from one commit to another

-- whether a group is one of both, with one version
abbrev pub is_kept : List Stop → List Stop → Group → Bool
is_kept h c g = is_one_of g (groups_of (at_end h)) && (is_one_of g (groups_of (at_end c)) && (version h g == version c g))

abbrev pub kept : List Stop → List Stop → List Group
kept h c = filter (is_kept h c) (groups_of (at_end c))

-- the other groups of the second commit
abbrev pub loaded : List Stop → List Stop → List Group
loaded h c = filter (λ g. not (is_kept h c g)) (groups_of (at_end c))

-- the other groups of the first
abbrev pub left : List Stop → List Stop → List Group
left h c = filter (λ g. not (is_kept h c g)) (groups_of (at_end h))
