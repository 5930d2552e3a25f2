use Rattle.std.specs.Prelude.{filter}
use Rattle.std.proofs.Common.{◌≡◌, ℕ, List, true, false}
use Rattle.kishu_objects.specs.Lists.{In}
use Rattle.kishu_objects.specs.Groups.{Touch, groups}
use Rattle.kishu_objects_laws.specs.ListLaws.{contains_in, in_contains}
use Rattle.kishu_objects_laws.specs.PartLaws.{part_groups, groups_part}
use Rattle.kishu_objects_laws.proofs.laws.groups_of_a_part.Goals as goal

pub returns : goal.returns
returns c = λ s of test a apart g x m n.
    let away : (y z : List ℕ) → In y of → In z of → test y ≡ true → test z ≡ false → Touch s y z → ⊥ = λ y z p q e f t. apart y z (in_contains of y p) (in_contains of z q) e f t in (
      λ h. in_contains (groups s of) g (part_groups s a of test away g (contains_in (groups s (filter test of)) g h)).0,
      λ h. in_contains (groups s (filter test of)) g (groups_part s a of test away g x (contains_in (groups s of) g h) (contains_in g x m) (contains_in (filter test of) x n)),
    )
