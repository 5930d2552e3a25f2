use Rattle.std.proofs.Common.{◌<◌, length, sym, ◌∙◌, rules}
use Rattle.std.specs.Prelude.{slice_index_or}
use Rattle.kishu_groups.proofs.Roots.{halve_read, ended, up_there}
use Rattle.kishu_groups.proofs.classes.first_above.Goals as goal

pub bounds-parents-parents : goal.bounds-parents-parents
bounds-parents-parents c = up_there c.up.parents c.up.at c.up.invariant.falls c.up.invariant.there

pub offset_bounds-parents-parents : goal.offset_bounds-parents-parents
offset_bounds-parents-parents c =
    let below : slice_index_or c.up.parents c.up.at 0 < length c.up.parents =
    up_there c.up.parents c.up.at c.up.invariant.falls c.up.invariant.there in
    search rules

pub up-preserved : goal.up-preserved
up-preserved c =
    let h = halve_read c.up.parents c.up.at c.up.invariant.falls c.up.invariant.there c.up-test.true in
    record { falls = h.falls; there = h.there; same = h.same ∙ c.up.invariant.same; stay = h.stay ∙ c.up.invariant.stay }

pub up-smaller : goal.up-smaller
up-smaller c = (halve_read c.up.parents c.up.at c.up.invariant.falls c.up.invariant.there c.up-test.true).less

pub returns-clause-first : goal.returns-clause-first
returns-clause-first c = sym (ended c.up.parents c.up.at c.up.invariant.there c.up-test.false) ∙ c.up.invariant.same
