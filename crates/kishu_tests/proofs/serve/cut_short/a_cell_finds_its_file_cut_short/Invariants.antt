use Rattle.kishu_tests.proofs.serve.cut_short.a_cell_finds_its_file_cut_short.Given as goal

abbrev pub ghosts-after_cut : goal.ghosts-after_cut
ghosts-after_cut g a = record { name = a.blank.name; parts = a.blank.parts }
