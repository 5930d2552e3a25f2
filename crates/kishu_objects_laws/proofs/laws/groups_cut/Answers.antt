use Rattle.std.proofs.Common.{subst}
use Rattle.kishu_objects.specs.Lists.{In}
use Rattle.kishu_objects.specs.Groups.{groups}
use Rattle.kishu_objects_laws.specs.ListLaws.{contains_in, in_contains}
use Rattle.kishu_objects_laws.specs.GroupLaws.{groups_cut, group_of, group_linked, linked_group, group_is, class_in, one_group}
use Rattle.kishu_objects_laws.proofs.laws.groups_cut.Goals as goal

pub returns-clause-each : goal.returns-clause-each
returns-clause-each c = λ s of a x m. let k = group_of s a of x (contains_in of x m) in (k.0, in_contains (groups s of) k.0 k.1, in_contains k.0 x k.2)

pub returns-clause-once : goal.returns-clause-once
returns-clause-once c = λ s of a g h x m n p q. one_group s a of g h x (contains_in (groups s of) g m) (contains_in (groups s of) h n) (contains_in g x p) (contains_in h x q)

pub returns-clause-names : goal.returns-clause-names
returns-clause-names c = λ s of a g x m n.
    let k = group_is s a of g (contains_in (groups s of) g m) in
    in_contains of x (class_in s a of k.0 x k.1 (subst (λ z. In x z) k.2 (contains_in g x n)))

pub returns-clause-linked : goal.returns-clause-linked
returns-clause-linked c = λ s of a g x y m n. (
  λ o. group_linked s a of g x y (contains_in (groups s of) g m) (contains_in g x n) (contains_in g y o),
  λ l. in_contains g y (linked_group s a of g x y (contains_in (groups s of) g m) (contains_in g x n) l),
)

pub returns-clause-all : goal.returns-clause-all
returns-clause-all c = groups_cut
