use Rattle.std.proofs.Common.{sym, ◌∙◌, IsErrOf}
use Rattle.kishu_store.specs.Tables.{change_of}
use Rattle.kishu_model.specs.Serve.{silent}
use Rattle.kishu_model.specs.Values.{request_of}
use Rattle.kishu_live_laws.specs.OnStates.{after_on}
use Rattle.kishu_session.specs.Lives.{state_of}
use Rattle.kishu_session.specs.declared.halt.Halt.TheVariants.{Damaged}
use Rattle.kishu_serve.proofs.Damages.{ends-damaged}
use Rattle.kishu_serve.proofs.Parts.{at-end-gives, applied-stop}
use Rattle.kishu_serve.proofs.notebooks.run_request.Goals as goal

pub returns-in_default-clause-stop : goal.returns-in_default-clause-stop
returns-in_default-clause-stop g c told g' a =
    let st = g.H.Host.state in
    applied-stop (st c.args.host.now) (st c.apply.new.host) g' (silent (request_of c.args.request.now)) (c.apply.ensures.stop told g' a)

pub returns-clause-bytes : goal.returns-clause-bytes
returns-clause-bytes g c told =
    let stands = c.requires.stands told in c.in-Ok.ensures.bytes told stands.0 stands.1

pub returns-clause-stands : goal.returns-clause-stands
returns-clause-stands g c told =
    let before = sym c.apply.ensures.tells ∙ told in
    let stands = c.requires.stands before in
    let given = at-end-gives c.args.session.now (g.H.Host.state c.args.host.now) stands.0 stands.1 in
    let then_graph = after_on (change_of given.0) (state_of c.args.session.now.head.live) stands.0 (request_of c.args.request.now) in
    (then_graph, c.in-Ok.ensures.at_end before stands.0 given.0 stands.1 given.1)

pub returns-in-Err-clause-stop : goal.returns-in-Err-clause-stop
returns-in-Err-clause-stop g c told g' a =
    let st = g.H.Host.state in
    applied-stop (st c.args.host.now) (st c.apply.new.host) g' (silent (request_of c.args.request.now)) (c.apply.ensures.stop told g' a)

pub returns-clause-stop : goal.returns-clause-stop
returns-clause-stop g c told g' a =
    let st = g.H.Host.state in
    applied-stop (st c.args.host.now) (st c.apply.new.host) g' (silent (request_of c.args.request.now)) (c.apply.ensures.stop told g' a)

pub returns-in-Err-clause-damaged : goal.returns-in-Err-clause-damaged
returns-in-Err-clause-damaged g c at is =
    let st = g.H.Host.state in
    let stop = c.stop_of.ensures.damaged at (cc is) in
    let halt : IsErrOf c.apply.result (Damaged at) = cc (c.in-Err.is, stop) in
    ends-damaged c.args.session.now (st c.args.host.now) (st c.apply.new.host) c.args.request.now at c.requires.stands (c.apply.ensures.damaged_stays at halt) (c.apply.ensures.damaged at halt)
