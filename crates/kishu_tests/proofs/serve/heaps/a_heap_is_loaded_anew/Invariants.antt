use Rattle.kishu_tests.proofs.serve.heaps.a_heap_is_loaded_anew.Given as goal

abbrev pub ghosts-lengths : goal.ghosts-lengths
ghosts-lengths g a = record { name = a.blank.name; parts = a.blank.parts }
