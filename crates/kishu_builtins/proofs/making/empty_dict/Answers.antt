use Rattle.kishu_builtins.proofs.making.empty_dict.Goals as goal

pub returns-clause-gives : goal.returns-clause-gives
returns-clause-gives c = λ b. rw c.new.ensures.empty at (c.new_dict.ensures.gives b)
