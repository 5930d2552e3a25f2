use Rattle.std.proofs.Common.{◌≡◌, IfOk, List, ℕ, subst}
use Rattle.kishu_groups.specs.Held.{held, groups_of}
use Rattle.kishu_groups.proofs.Steps.{sound_held}
use Rattle.kishu_groups.proofs.Puts.{gathered_is}
use Rattle.kishu_groups.proofs.grouping.groups.Goals as goal

pub returns-clause-groups : goal.returns-clause-groups
returns-clause-groups g c =
    let sound = sound_held c.args.heap.now c.args.names.now c.in_ok-classes.ensures.sound c.requires.sound in
    subst (λ (gs : List (List (List ℕ))). IfOk c.gathered.result (λ v. groups_of v ≡ gs))
    (gathered_is (held c.args.heap.now c.args.names.now) sound c.args.of.now c.requires.order c.in_ok-classes.classes c.in_ok-classes.ensures.classes)
    c.gathered.ensures
