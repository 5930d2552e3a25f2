use Rattle.kishu_access.proofs.places.read_place.Goals as goal

pub returns-in-Named-clause-gives : goal.returns-in-Named-clause-gives
returns-in-Named-clause-gives g c = rw c.in-Named.is (rw c.as_str.ensures.value at c.read.ensures.gives)

pub returns-in-Attribute-clause-gives : goal.returns-in-Attribute-clause-gives
returns-in-Attribute-clause-gives g c = rw c.in-Attribute.is (rw c.as_str-in-Attribute.ensures.value at c.attribute.ensures.gives)
