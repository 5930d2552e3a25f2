use Rattle.std.proofs.Common.{sym, subst}
use Rattle.std.proofs.lemmas.Result.{IfOk-weaker}
use Rattle.kishu_host.specs.Host.{ReadsMore}
use Rattle.kishu_store.specs.Tables.{Table, bytes_in}
use Rattle.kishu_graph.specs.Kept.{Kept}
use Rattle.kishu_model.specs.Request.{checkout}
use Rattle.kishu_model.specs.Values.{refusal_of}
use Rattle.kishu_checkout.specs.Pictures.{told_file}
use Rattle.kishu_session.specs.Head.{rows_to_load}
use Rattle.kishu_session.specs.Moves.{IsMoved}
use Rattle.kishu_session.specs.Prepared.{LeadsOn}
use Rattle.kishu_session.specs.Working.{ReadsRows}
use Rattle.kishu_session.proofs.Commits.{known-history}
use Rattle.kishu_session.proofs.MovedFacts.{keeps-moved, known-moved, lacks-moved, moved-leads-on, rows-moved, title-short, refused-moved}
use Rattle.kishu_session.proofs.Outcomes.{gives-both}
use Rattle.kishu_session.proofs.head.Head.checkout.Goals as goal

pub carry_moved-requires-clause-known : goal.carry_moved-requires-clause-known
carry_moved-requires-clause-known g c =
    known-moved c.args.self.now.graph c.move_head.new.self c.args.to.now c.in-Ok.field-0 c.in-Ok.ensures.moved
    (known-history c.args.self.now c.args.journal.now.place c.requires.known)

pub carry_moved-requires-clause-keeps : goal.carry_moved-requires-clause-keeps
carry_moved-requires-clause-keeps g c =
    keeps-moved c.args.journal.now.place c.args.self.now c.requires.known c.move_head.new.self c.args.to.now c.in-Ok.field-0 c.in-Ok.ensures.moved

pub carry_moved-requires-clause-title : goal.carry_moved-requires-clause-title
carry_moved-requires-clause-title g c =
    title-short c.args.self.now.graph c.move_head.new.self c.args.to.now c.in-Ok.field-0 c.in-Ok.ensures.moved
    (known-history c.args.self.now c.args.journal.now.place c.requires.known)

pub returns-in-Ok-clause-leads : goal.returns-in-Ok-clause-leads
returns-in-Ok-clause-leads g c =
    let self = c.args.self.now in
    let place = c.args.journal.now.place in
    let file = told_file (g.H.Host.state c.args.host.now) in
    let kept = c.move_head.new.self in
    IfOk-weaker c.carry_moved.result (IsMoved file (record self { graph = kept }) c.carry_moved.new.self) (LeadsOn file place self c.carry_moved.new.self (checkout c.args.to.now))
    (λ p is. moved-leads-on file place self c.carry_moved.new.self kept c.args.to.now c.in-Ok.field-0 c.carry_moved.ensures.graph c.in-Ok.ensures.moved c.requires.known p is)
    c.carry_moved.ensures.moved

pub returns-in-Ok-clause-reads : goal.returns-in-Ok-clause-reads
returns-in-Ok-clause-reads g c =
    let st = g.H.Host.state in
    let self = c.args.self.now in
    let file = told_file (st c.args.host.now) in
    let kept = c.move_head.new.self in
    let new = c.carry_moved.new.self in
    let before = (st c.args.host.now).reads in
    let after = (st c.carry_moved.new.host).reads in
    gives-both c.carry_moved.result (IsMoved file (record self { graph = kept }) new) (ReadsRows self.graph (st c.args.host.now) (st c.carry_moved.new.host) c.args.to.now)
    (ReadsMore before after (bytes_in (rows_to_load (record self { graph = kept }) new))) c.carry_moved.ensures.moved c.carry_moved.ensures.reads
    (λ p is reads some h k. subst (λ (t : Table). ReadsMore before after (bytes_in t))
    (rows-moved c.args.journal.now.place self c.requires.known kept c.args.to.now c.in-Ok.field-0 c.in-Ok.ensures.moved new c.carry_moved.ensures.graph is.carries.to h k) reads)

pub returns-in-Ok-clause-damaged : goal.returns-in-Ok-clause-damaged
returns-in-Ok-clause-damaged g c at err =
    lacks-moved c.args.journal.now.place c.args.self.now c.requires.known c.move_head.new.self c.args.to.now c.in-Ok.field-0 c.in-Ok.ensures.moved
    (g.H.Host.state c.args.host.now) at (c.carry_moved.ensures.damaged at err)

pub returns-in_ok-refusal-in-Err-clause-leads : goal.returns-in_ok-refusal-in-Err-clause-leads
returns-in_ok-refusal-in-Err-clause-leads g c =
    let self = c.args.self.now in
    let file = told_file (g.H.Host.state c.args.host.now) in
    let place = c.args.journal.now.place in
    let refusal = refusal_of c.in_ok-refusal-in-Err.field-0 in
    subst (λ (x : Kept). LeadsOn file place self (record self { graph = x }) (checkout c.args.to.now) c.refused.result) (sym c.in-Err.ensures.err)
    (refused-moved self c.args.to.now c.in-Err.fault refusal c.in_ok-refusal-in-Err.ensures c.in-Err.ensures.refused c.refused.result c.refused.ensures.answer c.refused.ensures.record file place)

pub returns-in_ok-refusal-in-Err-clause-reads : goal.returns-in_ok-refusal-in-Err-clause-reads
returns-in_ok-refusal-in-Err-clause-reads g c some h k = absurd (some c.refused.ensures.record)
