use Rattle.std.proofs.Common.{inl}
use Rattle.kishu_store_laws.specs.Laws.{one_place}
use Rattle.kishu_session.proofs.BadFiles.{opened-not-broken}
use Rattle.kishu_session.proofs.OpeningFacts.{opening-of}
use Rattle.kishu_session.proofs.attach.opened.Goals as goal

pub returns-in-Err-Damaged-clause-damaged : goal.returns-in-Err-Damaged-clause-damaged
returns-in-Err-Damaged-clause-damaged g c at err told = c.open_store.ensures.damaged at (cc (err, c.in-Err-Damaged.is, c.in-Err-Damaged.field-0-is)) told

pub returns-in-Err-Damaged-clause-broken_file : goal.returns-in-Err-Damaged-clause-broken_file
returns-in-Err-Damaged-clause-broken_file g c told at broken =
    let there = c.in-Err-Damaged.at in
    let same = one_place (g.H.Host.state c.args.host.now).file there at (c.open_store.ensures.damaged there (cc (c.in-Err-Damaged.is, c.in-Err-Damaged.field-0-is)) told) broken in
    inl (cc (same))

pub returns-in-Ok-clause-broken_file : goal.returns-in-Ok-clause-broken_file
returns-in-Ok-clause-broken_file g c =
    let st = g.H.Host.state in
    opened-not-broken (st c.args.host.now) (st c.open_store.new.host) c.in-Ok.store c.in-Ok.ensures.opens _

pub returns-in-Ok-clause-opening : goal.returns-in-Ok-clause-opening
returns-in-Ok-clause-opening g c =
    let st = g.H.Host.state in
    let e = c.in-Ok.ensures in
    opening-of _ _ (st c.args.host.now) (st c.open_store.new.host) (λ f. absurd (cc (f))) e.kept e.short e.out e.settled e.stop e.tells e.disk e.outs
