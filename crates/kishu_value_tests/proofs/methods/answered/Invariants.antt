use Rattle.kishu_value_tests.proofs.methods.answered.Given as goal

abbrev pub ghosts-answer : goal.ghosts-answer
ghosts-answer a = record { name = a.blank.name; parts = a.blank.parts }
