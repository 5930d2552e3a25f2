use Rattle.kishu_builtins.proofs.making.empty_list.Goals as goal

pub returns-clause-gives : goal.returns-clause-gives
returns-clause-gives c = λ b. rw c.new.ensures.items at (c.new_list.ensures.gives b)
