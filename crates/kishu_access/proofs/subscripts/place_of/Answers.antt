use Rattle.std.proofs.Common.{◌<◌, []}
use Rattle.std.specs.Int.{w128}
use Rattle.std.proofs.lemmas.Int.{to_z-of_z}
use Rattle.kishu_meaning_laws.specs.Bare.{bare}
use Rattle.kishu_meaning.specs.items.Indexes.{place_of}
use Rattle.kishu_machine.specs.Raising.{passed_raised}
use Rattle.kishu_access.proofs.Ends.{passed_gives, passed_ok}
use Rattle.kishu_access.proofs.Raises.{place_raises}
use Rattle.kishu_access.proofs.subscripts.place_of.Goals as goal

pub returns-clause-gives : goal.returns-clause-gives
returns-clause-gives c s =
    let given = rw (to_z-of_z w128 c.args.number c.ranges.number) at (c.place_of-place.ensures.gives s) in
    rw c.passed.ensures (passed_gives (λ k. k) c.place_of-place.result s (place_of c.args.len c.args.number s) given)

pub returns-clause-sound : goal.returns-clause-sound
returns-clause-sound c n =
    let s = bare [] 0 0 in
    let given = rw (to_z-of_z w128 c.args.number c.ranges.number) at (c.place_of-place.ensures.gives s) in
    rw c.passed.ensures (passed_raised n (λ k. k) (place_of c.args.len c.args.number) s s c.place_of-place.result (place_raises n c.args.len c.args.number) given)

pub returns-clause-within : goal.returns-clause-within
returns-clause-within c = rw c.passed.ensures (passed_ok (λ k. k < c.args.len) c.place_of-place.result c.place_of-place.ensures.within)
