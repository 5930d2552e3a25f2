use Rattle.kishu_interp_tests.proofs.interp.given.Given as goal

abbrev pub ghosts-answers : goal.ghosts-answers
ghosts-answers a = record { name = a.blank.name; parts = a.blank.parts }
