use Rattle.kishu_items.proofs.walks.walk_of.Goals as goal

pub returns-in-None-clause-gives : goal.returns-in-None-clause-gives
returns-in-None-clause-gives g c b = rw c.in-None.is (rw c.in-None.is at (c.not_walked.ensures.gives b))

pub returns-in-Bool-clause-gives : goal.returns-in-Bool-clause-gives
returns-in-Bool-clause-gives g c b = rw c.in-Bool.is (rw c.in-Bool.is at (c.not_walked-in-Bool.ensures.gives b))

pub returns-in-Int-clause-gives : goal.returns-in-Int-clause-gives
returns-in-Int-clause-gives g c b = rw c.in-Int.is (rw c.in-Int.is at (c.not_walked-in-Int.ensures.gives b))

pub returns-in-Builtin-clause-gives : goal.returns-in-Builtin-clause-gives
returns-in-Builtin-clause-gives g c b = rw c.in-Builtin.is (rw c.in-Builtin.is at (c.not_walked-in-Builtin.ensures.gives b))

pub returns-in-Class-clause-gives : goal.returns-in-Class-clause-gives
returns-in-Class-clause-gives g c b = rw c.in-Class.is (rw c.in-Class.is at (c.not_walked-in-Class.ensures.gives b))
