use Rattle.kishu_objects_laws.specs.ListLaws.{contains_in}
use Rattle.kishu_objects_laws.specs.ComponentLaws.{linked_joined, joined_linked}
use Rattle.kishu_objects_laws.proofs.laws.groups_are_components.Goals as goal

pub returns : goal.returns
returns c = λ s of a x y i j m n e f. (λ l. linked_joined s a of x i (contains_in of x m) e y l j f, joined_linked s a of x y i j (contains_in of y n) e f)
