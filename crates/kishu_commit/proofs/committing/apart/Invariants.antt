use Rattle.std.proofs.Common.{◌≡◌, ◌++◌, map}
use Rattle.kishu_delta.specs.Deltas.{groups_among, pictures_among}
use Rattle.kishu_record.specs.Entries.{all_stored_of}
use Rattle.kishu_commit.specs.Told.{with_lengths}
use Rattle.kishu_commit.proofs.committing.apart.Given as goal

abbrev pub invariant-loop-group : goal.invariant-loop-group
invariant-loop-group l =
    let rest = l.group-iterator.rest.items in
    let groups = l.fn.groups.items in
    (all_stored_of l.stored.groups ++ with_lengths (groups_among rest) (pictures_among rest) ≡ with_lengths (groups_among groups) (pictures_among groups))
    × (map (λ p. p.items) l.stored.pictures.items ++ pictures_among rest ≡ pictures_among groups)
