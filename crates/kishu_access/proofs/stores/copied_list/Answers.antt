use Rattle.std.proofs.Common.{ap, map, refl}
use Rattle.kishu_meaning.specs.values.Values.{value_of}
use Rattle.kishu_access.proofs.stores.copied_list.Goals as goal

pub returns-in-Some-clause-items : goal.returns-in-Some-clause-items
returns-in-Some-clause-items g c = rw (← c.in-Some.ensures.items) c.copied_all.ensures

pub returns-in-Some-clause-sound : goal.returns-in-Some-clause-sound
returns-in-Some-clause-sound g c = rw (← c.in-Some.ensures.items) c.in-Some.ensures.sound

pub returns-clause-items : goal.returns-clause-items
returns-clause-items g c = rw (← c.in-None.ensures.items) (ap (map value_of) c.new.ensures.items)

pub returns-clause-sound : goal.returns-clause-sound
returns-clause-sound g c = rw (← c.in-None.ensures.items) refl
