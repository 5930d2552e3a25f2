use Rattle.std.proofs.Common.{subst, sym, arith}
use Rattle.std.proofs.lemmas.Result.{err_from_is_err_and}
use Rattle.kishu_session.specs.Known.{HasHistory}
use Rattle.kishu_session.proofs.Renewals.{keeps-renewed, lacks-renewed}
use Rattle.kishu_session.proofs.head.Head.carry_moved.Goals as goal

pub carry-requires-clause-known : goal.carry-requires-clause-known
carry-requires-clause-known g c = subst HasHistory (sym c.renew.ensures.graph) c.requires.known

pub carry-requires-clause-keeps : goal.carry-requires-clause-keeps
carry-requires-clause-keeps g c = keeps-renewed c.args.self.now c.renew.new.self c.in_ok-renew.ensures.renewed c.requires.keeps

pub carry-requires-clause-room : goal.carry-requires-clause-room
carry-requires-clause-room g c = (let few = c.in_ok-renew.ensures.room in omega (arith, few))

pub returns-in_err-carry-clause-damaged : goal.returns-in_err-carry-clause-damaged
returns-in_err-carry-clause-damaged g c at err =
    let p = err_from_is_err_and c.from_residual-in_err-carry.result c.from_residual-in_err-carry.ensures.1 in
    lacks-renewed c.args.self.now c.renew.new.self c.in_ok-renew.ensures.renewed (g.H.Host.state c.args.host.now) at
    (c.in_err-carry.ensures.damaged at (cc (err, p.1, p.2)))
