use Rattle.kishu_value_tests.proofs.heap.told.Given as goal

abbrev pub ghosts-read : goal.ghosts-read
ghosts-read a = record { name = a.blank.name; parts = a.blank.parts }
