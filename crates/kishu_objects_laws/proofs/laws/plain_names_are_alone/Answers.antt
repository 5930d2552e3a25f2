use Rattle.std.specs.Prelude.{[], ◌∷◌}
use Rattle.kishu_objects.specs.Groups.{groups}
use Rattle.kishu_objects_laws.specs.ListLaws.{contains_in, in_contains}
use Rattle.kishu_objects_laws.specs.GroupLaws.{plain_alone}
use Rattle.kishu_objects_laws.proofs.laws.plain_names_are_alone.Goals as goal

pub returns : goal.returns
returns c = λ s of a d x m none. in_contains (groups s of) (x ∷ []) (plain_alone s a of x none d (contains_in of x m))
