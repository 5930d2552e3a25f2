use Rattle.kishu_groups.proofs.Roots.{seen_short, seen_first}
use Rattle.kishu_groups.proofs.classes.Classes.first.Goals as goal

pub first_above-requires-clause-there : goal.first_above-requires-clause-there
first_above-requires-clause-there c =
    seen_short c.self.inside.parents.items c.as_mut_slice.result.now c.args.self.now c.args.number
    c.as_mut_slice.ensures.value c.self.view_is c.requires

pub returns-clause-first : goal.returns-clause-first
returns-clause-first c =
    seen_first c.self.inside.parents.items c.as_mut_slice.result.now c.args.self.now c.args.number c.first_above.result
    c.as_mut_slice.ensures.value c.self.view_is c.requires c.first_above.ensures.first
