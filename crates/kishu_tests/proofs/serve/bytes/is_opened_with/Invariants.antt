use Rattle.kishu_tests.proofs.serve.bytes.is_opened_with.Given as goal

abbrev pub ghosts-attach_fault : goal.ghosts-attach_fault
ghosts-attach_fault a = record { name = a.blank.name; parts = a.blank.parts }
