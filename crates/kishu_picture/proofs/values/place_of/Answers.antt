use Rattle.std.proofs.Common.{◌≡◌, ap, sym, ◌∙◌, Some, slice_get, arith}
use Rattle.kishu_objects.specs.Picture.{place}
use Rattle.kishu_objects_laws.specs.ListLaws.{place_at}
use Rattle.kishu_picture.proofs.Places.{position_place}
use Rattle.kishu_picture.proofs.values.place_of.Goals as goal

pub returns-in-Some-clause-place : goal.returns-in-Some-clause-place
returns-in-Some-clause-place c =
    let same : c.in-Some.there.now ≡ c.args.id = omega (arith, c.if-there-id.true) in
    sym (place_at c.args.found.now.keys c.args.next.now c.args.id c.requires.differ (sym c.in-Some.ensures.key ∙ ap Some same))

pub returns-in_default-clause-place : goal.returns-in_default-clause-place
returns-in_default-clause-place c =
    let e : c.get_index_of.result ≡ Some (place c.args.found.now.keys c.args.id) = c.get_index_of.ensures.index
    ∙ position_place c.args.found.now.keys c.args.id c.requires.met in
    rw e at c.unwrap_or.ensures
