use Rattle.kishu_builtins.proofs.making.empty_tuple.Goals as goal

pub returns-clause-gives : goal.returns-clause-gives
returns-clause-gives c = λ b. rw c.new.ensures.items at (c.new_tuple.ensures.gives b)
