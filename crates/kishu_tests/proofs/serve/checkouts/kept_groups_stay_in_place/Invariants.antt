use Rattle.kishu_tests.proofs.serve.checkouts.kept_groups_stay_in_place.Given as goal

abbrev pub ghosts-stays_in_place : goal.ghosts-stays_in_place
ghosts-stays_in_place g a = record { name = a.blank.name; parts = a.blank.parts }
