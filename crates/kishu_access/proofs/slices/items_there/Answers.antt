use Rattle.std.proofs.Common.{◌∙◌, ap, sym, List, length, map, Option}
use Rattle.std.specs.List.{filter_map}
use Rattle.kishu_meaning.specs.values.Values.{Value, value_of}
use Rattle.kishu_meaning.specs.items.Subscripts.{at_place}
use Rattle.kishu_meaning.specs.items.Walks.{or_none_there}
use Rattle.kishu_access.specs.Access.{places_of}
use Rattle.kishu_access.proofs.Slicing.{none_there, taken_sound_if}
use Rattle.kishu_access.proofs.slices.items_there.Goals as goal

pub returns-in-Some-clause-sound : goal.returns-in-Some-clause-sound
returns-in-Some-clause-sound g c =
    taken_sound_if (length c.args.machine.now.heap) c.picked.result (map value_of c.in-Some.items.now) (places_of c.args.places) c.in-Some.ensures.sound c.picked.ensures

pub returns-in-None-clause-items : goal.returns-in-None-clause-items
returns-in-None-clause-items g c =
    let zs = places_of c.args.places in
    ap (map value_of) c.new.ensures.items ∙ (sym (none_there zs) ∙ ap (λ (o : Option (List Value)). filter_map (at_place (or_none_there o)) zs) c.in-None.ensures.items)
