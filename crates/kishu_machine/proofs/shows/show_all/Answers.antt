use Rattle.kishu_machine.proofs.shows.show_all.Goals as goal

pub returns-clause-sound : goal.returns-clause-sound
returns-clause-sound g c = c.all_texts.ensures.sound _
