use Rattle.kishu_inspect.proofs.Places.{found_place, missing_place}
use Rattle.kishu_inspect.proofs.texts.place_of.Goals as goal

pub returns-in-Some : goal.returns-in-Some
returns-in-Some c = found_place c.args.found.now.keys c.args.id c.in-Some.place c.in-Some.ensures.index

pub returns-in-None : goal.returns-in-None
returns-in-None c =
    missing_place c.args.found.now.keys c.args.id c.len.result c.len.ensures.len c.in-None.ensures.index
