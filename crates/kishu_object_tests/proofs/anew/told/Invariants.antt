use Rattle.kishu_object_tests.proofs.anew.told.Given as goal

abbrev pub ghosts-anew_told : goal.ghosts-anew_told
ghosts-anew_told a = record { name = a.blank.name; parts = a.blank.parts }
