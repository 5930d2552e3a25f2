use Rattle.std.proofs.Common.{Option, sym, subst, OnOk}
use Rattle.kishu_commit.specs.declared.committing.Record.{Record}
use Rattle.kishu_session.specs.Prepared.{record_in}
use Rattle.kishu_session.specs.Recording.{GoesOn, MovesOn, LeavesOne}
use Rattle.kishu_session.proofs.recording.record.Goals as goal

pub returns-in-Some-clause-stands : goal.returns-in-Some-clause-stands
returns-in-Some-clause-stands g c =
    let st = g.H.Host.state in
    subst (λ (o : Option Record). OnOk c.append.result
    (GoesOn c.args.journal.now c.append.new.journal (st c.args.host.now) (st c.append.new.host) (record_in o))) (sym c.in-Some.is)
    c.append.ensures.stands

pub returns-in-Some-clause-place : goal.returns-in-Some-clause-place
returns-in-Some-clause-place g c =
    subst (λ (o : Option Record). OnOk c.append.result (MovesOn c.args.journal.now c.append.new.journal (record_in o))) (sym c.in-Some.is)
    c.append.ensures.place

pub returns-in-Some-clause-stop : goal.returns-in-Some-clause-stop
returns-in-Some-clause-stop g c =
    let st = g.H.Host.state in
    subst (λ (o : Option Record). LeavesOne c.args.journal.now (st c.args.host.now) (st c.append.new.host) (record_in o)) (sym c.in-Some.is)
    c.append.ensures.stop
