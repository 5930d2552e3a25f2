use Rattle.kishu_value_tests.proofs.heap.replace.Given as goal

abbrev pub ghosts-reaches : goal.ghosts-reaches
ghosts-reaches a = record { name = a.blank.name; parts = a.blank.parts }
