use Rattle.std.proofs.Common.{◌≡◌, ◌∷◌, true, Ok, rules}
use Rattle.kishu_graph.specs.Tables.{change_with}
use Rattle.kishu_journal.proofs.Noting.{fits-parent, takes-change, takes-noted}
use Rattle.kishu_journal.proofs.following.add_counted.Goals as goal

pub note_groups-requires-clause-fits : goal.note_groups-requires-clause-fits
note_groups-requires-clause-fits c =
    let made : c.add_commit.result ≡ Ok true = search rules in
    let sound = c.commits-number.ensures.sound in
    fits-parent c.args.graph.now c.add_commit.new.graph (c.add_commit.ensures.newest made) (change_with c.args.dropped.now c.args.rows.now) c.commits-number.result c.commits-number.ensures.value sound.head sound.noted c.requires.fits

pub returns-clause-noted : goal.returns-clause-noted
returns-clause-noted c done =
    let made : c.add_commit.result ≡ Ok true = search rules in
    takes-change c.args.graph.now c.add_commit.new.graph (c.add_commit.ensures.newest made) (change_with c.args.dropped.now c.args.rows.now) c.note_groups.new.self c.in_ok-note_groups.ensures.noted

pub returns-clause-made : goal.returns-clause-made
returns-clause-made c done others count =
    let made : c.add_commit.result ≡ Ok true = search rules in
    takes-noted c.args.graph.now c.add_commit.new.graph c.note_groups.new.self c.args.profile (c.args.first.now ∷ others) (c.add_commit.ensures.made made others count) c.in_ok-note_groups.ensures.keeps
