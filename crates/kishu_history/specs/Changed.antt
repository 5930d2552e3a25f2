-- The groups of a state's names, and those that change from one state to another (Kishu, "co-variable").
use Rattle.std.specs.Prelude.{◌≡◌, Bool, not, ◌&&◌, List, filter, Contains}
use Rattle.kishu_meaning.specs.values.Values.{State}
use Rattle.kishu_objects.specs.Picture.{picture}
use Rattle.kishu_objects.specs.Groups.{groups_of}
pub use Rattle.kishu_store.specs.Groups.{Group, is_group, is_one_of}
use Rattle.kishu_history.specs.Alike.{is_state}

-- The group is one of the state's, with this picture there.
abbrev pub Stands : Group → State → State → Type 0
Stands g p s = Contains (groups_of s) g × (picture s g ≡ p)

-- the same, as a test
abbrev pub stands : Group → State → State → Bool
stands g p s = is_one_of g (groups_of s) && is_state (picture s g) p

-- the groups of the first state that don't stand in the second with the same picture
abbrev pub changed : State → State → List Group
changed s t = filter (λ g. not (stands g (picture s g) t)) (groups_of s)
