use Rattle.kishu_items.proofs.walks.node_walk.Goals as goal

pub returns-in-Object-clause-gives : goal.returns-in-Object-clause-gives
returns-in-Object-clause-gives g c b = rw (c.node.ensures.node, c.in-Object.is) (c.not_walked.ensures.gives b)

pub returns-in-Function-clause-gives : goal.returns-in-Function-clause-gives
returns-in-Function-clause-gives g c b = rw (c.node.ensures.node, c.in-Function.is) (c.not_walked-in-Function.ensures.gives b)

pub returns-in-Exception-clause-gives : goal.returns-in-Exception-clause-gives
returns-in-Exception-clause-gives g c b = rw (c.node.ensures.node, c.in-Exception.is) (c.not_walked-in-Exception.ensures.gives b)
