use Rattle.std.proofs.Common.{◌≡◌, false, Ok, Err, refl, ◌∙◌, ap, arith}
use Rattle.std.proofs.lemmas.Result.{err_from_is_err_and}
use Rattle.kishu_serve.specs.Asking.{to_come, asked_of, reads_lines, Knows}
use Rattle.kishu_serve.proofs.Chain.{Along, along-first, known-along, stopped-long, none-recorded, more-recorded, turn-stop, served-more, served-along, served-whole, served-least, served-loads, served-most}
use Rattle.kishu_serve.proofs.LiveRuns.{ComesHere, comes-here, answered-more, answered-all, first-stops}
use Rattle.kishu_serve.proofs.running.serve_all.Given.{Over}
use Rattle.kishu_serve.proofs.running.serve_all.Goals.{In_ok-serve}
use Rattle.kishu_serve.proofs.running.serve_all.Goals as goal

-- ---- a turn

turn : (g : Over) (c : In_ok-serve g)
    → Along (g.H.Host.state c.args.host.now) (g.H.Host.state c.serve.new.host) (g.S.Source.source c.args.source.now) (g.S.Source.source c.next.new.source) c.args.requests.now c.next.new.self
    c.args.session.now c.serve.new.session c.args.steps.now c.serve.new.steps
turn g c =
    let before = c.loop-asked.invariant.along in
    let next = rw c.in-Some.is at c.in_ok-asked.ensures.next in
    let fewer = rw c.in-Some.is at c.in_ok-asked.ensures.one_more in
    record {
      going = c.in_ok-serve.ensures.going;
      stands = c.in_ok-serve.ensures.stands;
      recorded = λ told final w.
          before.recorded told final
          (more-recorded c.loop-asked.requests c.next.new.self (g.H.Host.state c.loop-asked.host).file (g.H.Host.state c.serve.new.host).file final c.next.ensures.lines fewer (c.in_ok-serve.ensures.bytes (before.host_tells ∙ told)) w);
      served = λ told graph a made0 room.
          let now_told = before.host_tells ∙ told in
          let served = before.served told graph a made0 room in
          let answered = c.in_ok-serve.ensures in
          served-more served (g.H.Host.state c.serve.new.host) (g.S.Source.source c.next.new.source) c.next.new.self c.serve.new.session (asked_of c.in-Some.asked) c.serve.new.steps
          (λ known. (next (known-along before known)).0)
          (answered.attached now_told served.now served.attached)
          (answered.answered now_told served.now served.attached)
          (answered.least now_told served.now served.attached)
          (c.serve.ensures.stop now_told served.now served.attached)
          (answered.makes now_told served.now served.attached)
          (answered.loads now_told served.now served.attached)
          (answered.most now_told served.now served.attached);
      limited = λ known.
          let same = next (known-along before known) in
          (λ limited. same.2 ((before.limited known).0 limited), λ limited. (before.limited known).1 (same.1 limited));
      lines = c.next.ensures.lines ∙ before.lines;
      room = c.next.ensures.room;
      taken = λ told. omega (arith, before.taken told, c.next.ensures.taken (before.source_tells ∙ told));
      host_tells = c.serve.ensures.tells ∙ before.host_tells;
      source_tells = c.next.ensures.tells ∙ before.source_tells;
      disk = omega (arith, before.disk, c.serve.ensures.disk);
      outs = omega (arith, before.outs, c.serve.ensures.outs);
      ins = omega (arith, before.ins, c.next.ensures.faults);
    }

live : (g : Over) (c : In_ok-serve g) → Knows c.args.requests.now (g.S.Source.source c.args.source.now)
    → ComesHere (g.H.Host.state c.args.host.now) (g.H.Host.state c.serve.new.host) c.args.session.now c.serve.new.session
    (to_come c.args.requests.now (g.S.Source.source c.args.source.now).left) (to_come c.next.new.self (g.S.Source.source c.next.new.source).left)
live g c known told lives graph cs a gives =
    let before = c.loop-asked.invariant in
    let next = rw c.in-Some.is at c.in_ok-asked.ensures.next in
    let now_told = before.along.host_tells ∙ told in
    let so = before.live known told lives graph cs a gives in
    answered-more so (asked_of c.in-Some.asked) (to_come c.next.new.self (g.S.Source.source c.next.new.source).left)
    (next (known-along before.along known)).0
    (g.H.Host.state c.serve.new.host) c.serve.new.session (c.in_ok-serve.ensures.applied now_told so.lives so.now so.changes so.at_end so.gives)
    (c.in_ok-serve.ensures.said now_told so.now so.changes so.at_end so.gives) (c.in_ok-serve.ensures.durable now_told)
    (c.serve.ensures.stop_live now_told so.lives so.now so.changes so.at_end so.gives)

unread : (g : Over) (c : In_ok-serve g) → reads_lines c.args.requests.now ≡ false → c.next.new.source ≡ c.args.source.now
unread g c none = c.next.ensures.alone (c.loop-asked.invariant.along.lines ∙ none) ∙ c.loop-asked.invariant.alone none

-- a goal for each kind of what was asked
pub loop-asked-preserved-in_ok-serve : goal.loop-asked-preserved-in_ok-serve
loop-asked-preserved-in_ok-serve g c =
    let c = (goal.at.loop-asked-preserved-in_ok-serve g c).In_ok-serve in
    record { along = turn g c; live = live g c; alone = unread g c }

pub loop-asked-preserved-in_ok-serve-2 : goal.loop-asked-preserved-in_ok-serve-2
loop-asked-preserved-in_ok-serve-2 g c =
    let c = (goal.at.loop-asked-preserved-in_ok-serve-2 g c).In_ok-serve in
    record { along = turn g c; live = live g c; alone = unread g c }

pub loop-asked-preserved-in_ok-serve-3 : goal.loop-asked-preserved-in_ok-serve-3
loop-asked-preserved-in_ok-serve-3 g c =
    let c = (goal.at.loop-asked-preserved-in_ok-serve-3 g c).In_ok-serve in
    record { along = turn g c; live = live g c; alone = unread g c }

pub loop-asked-preserved-in_ok-serve-4 : goal.loop-asked-preserved-in_ok-serve-4
loop-asked-preserved-in_ok-serve-4 g c =
    let c = (goal.at.loop-asked-preserved-in_ok-serve-4 g c).In_ok-serve in
    record { along = turn g c; live = live g c; alone = unread g c }

pub loop-asked-preserved-in_ok-serve-5 : goal.loop-asked-preserved-in_ok-serve-5
loop-asked-preserved-in_ok-serve-5 g c =
    let c = (goal.at.loop-asked-preserved-in_ok-serve-5 g c).In_ok-serve in
    record { along = turn g c; live = live g c; alone = unread g c }

pub loop-asked-preserved-in_ok-serve-6 : goal.loop-asked-preserved-in_ok-serve-6
loop-asked-preserved-in_ok-serve-6 g c =
    let c = (goal.at.loop-asked-preserved-in_ok-serve-6 g c).In_ok-serve in
    record { along = turn g c; live = live g c; alone = unread g c }

pub loop-asked-preserved-in_ok-serve-7 : goal.loop-asked-preserved-in_ok-serve-7
loop-asked-preserved-in_ok-serve-7 g c =
    let c = (goal.at.loop-asked-preserved-in_ok-serve-7 g c).In_ok-serve in
    record { along = turn g c; live = live g c; alone = unread g c }

pub loop-asked-preserved : goal.loop-asked-preserved
loop-asked-preserved g c =
    let c = (goal.at.loop-asked-preserved g c).In_ok-serve in
    record { along = turn g c; live = live g c; alone = unread g c }

pub loop-asked-preserved-in_ok-serve-8 : goal.loop-asked-preserved-in_ok-serve-8
loop-asked-preserved-in_ok-serve-8 g c =
    let c = (goal.at.loop-asked-preserved-in_ok-serve-8 g c).In_ok-serve in
    record { along = turn g c; live = live g c; alone = unread g c }

-- ---- before the first turn

pub loop-asked-init : goal.loop-asked-init
loop-asked-init g c =
    let s = g.H.Host.state c.args.host.now in
    let i = g.S.Source.source c.args.source.now in
    record {
      along = along-first s i c.args.requests.now c.args.session.now c.args.steps.now c.requires.going c.requires.stands c.requires.room;
      live = λ known. comes-here s c.args.session.now (to_come c.args.requests.now i.left);
      alone = λ none. refl;
    }

pub serve-requires-clause-stands : goal.serve-requires-clause-stands
serve-requires-clause-stands g c = c.loop-asked.invariant.along.stands

pub serve-requires-clause-room : goal.serve-requires-clause-room
serve-requires-clause-room g c = rw c.in-Some.is at c.in_ok-asked.ensures.asked_room

-- ---- a request that isn't answered

pub returns-in_err-serve-clause-stop : goal.returns-in_err-serve-clause-stop
returns-in_err-serve-clause-stop g c told known graph a =
    let before = c.loop-asked.invariant.along in
    let served = served-along before told graph a in
    let next = rw c.in-Some.is at c.in_ok-asked.ensures.next in
    turn-stop served (g.H.Host.state c.serve.new.host) (asked_of c.in-Some.asked) (to_come c.next.new.self (g.S.Source.source c.next.new.source).left) (next (known-along before known)).0 known
    (c.serve.ensures.stop (before.host_tells ∙ told) served.now served.attached)

pub returns-in_err-serve-clause-stop_live : goal.returns-in_err-serve-clause-stop_live
returns-in_err-serve-clause-stop_live g c known told lives graph cs a gives only =
    let before = c.loop-asked.invariant in
    let so = before.live known told lives graph cs a gives in
    let next = rw c.in-Some.is at c.in_ok-asked.ensures.next in
    first-stops so (asked_of c.in-Some.asked) (to_come c.next.new.self (g.S.Source.source c.next.new.source).left) (next (known-along before.along known)).0
    (g.H.Host.state c.serve.new.host) only
    (c.serve.ensures.stop_live (before.along.host_tells ∙ told) so.lives so.now so.changes so.at_end so.gives (so.durable only))

pub returns-in_err-serve-clause-damaged : goal.returns-in_err-serve-clause-damaged
returns-in_err-serve-clause-damaged g c at is =
    let before = c.loop-asked.invariant.along in
    let p = err_from_is_err_and c.from_residual-in_err-serve.result c.from_residual-in_err-serve.ensures.1 in
    let d = c.in_err-serve.ensures.damaged at (cc (is, p.1, p.2)) in (
      λ told. d.0 (before.host_tells ∙ told),
      λ told graph a. let served = served-along before told graph a in d.1 (before.host_tells ∙ told) served.now served.attached,
    )

-- ---- no request is to come

pub returns-in_err-asked-clause-whole : goal.returns-in_err-asked-clause-whole
returns-in_err-asked-clause-whole g c long told known graph a =
    let before = c.loop-asked.invariant.along in
    let p = err_from_is_err_and c.from_residual.result c.from_residual.ensures.1 in
    let is = stopped-long c.from_residual.result c.in_err-asked.field-0.0 (p.1 ∙ ap Err p.2) long in
    let none = (c.in_err-asked.ensures.too_long (ap Err is)).1 (known-along before known) in
    served-whole (served-along before told graph a) none.0 known

pub returns-in_err-asked-clause-stop : goal.returns-in_err-asked-clause-stop
returns-in_err-asked-clause-stop g c told known graph a = ((served-along c.loop-asked.invariant.along told graph a).comes known).stop

pub returns-clause-whole : goal.returns-clause-whole
returns-clause-whole g c done told known graph a =
    let before = c.loop-asked.invariant.along in
    let none = c.in_ok-asked.ensures.end (ap Ok c.in_default.is) (known-along before known) in
    served-whole (served-along before told graph a) none.0 known

pub returns-in_err-asked-clause-whole_live : goal.returns-in_err-asked-clause-whole_live
returns-in_err-asked-clause-whole_live g c long known told lives graph cs a gives =
    let before = c.loop-asked.invariant in
    let p = err_from_is_err_and c.from_residual.result c.from_residual.ensures.1 in
    let is = stopped-long c.from_residual.result c.in_err-asked.field-0.0 (p.1 ∙ ap Err p.2) long in
    let none = (c.in_err-asked.ensures.too_long (ap Err is)).1 (known-along before.along known) in
    answered-all (before.live known told lives graph cs a gives) none.0

pub returns-in_err-asked-clause-stop_live : goal.returns-in_err-asked-clause-stop_live
returns-in_err-asked-clause-stop_live g c known told lives graph cs a gives = (c.loop-asked.invariant.live known told lives graph cs a gives).stop

pub returns-clause-stop_live : goal.returns-clause-stop_live
returns-clause-stop_live g c known told lives graph cs a gives = (c.loop-asked.invariant.live known told lives graph cs a gives).stop

pub returns-clause-whole_live : goal.returns-clause-whole_live
returns-clause-whole_live g c done known told lives graph cs a gives =
    let before = c.loop-asked.invariant in
    let none = c.in_ok-asked.ensures.end (ap Ok c.in_default.is) (known-along before.along known) in
    answered-all (before.live known told lives graph cs a gives) none.0

pub returns-clause-stop : goal.returns-clause-stop
returns-clause-stop g c told known graph a = ((served-along c.loop-asked.invariant.along told graph a).comes known).stop

pub returns-clause-bytes : goal.returns-clause-bytes
returns-clause-bytes g c told =
    let before = c.loop-asked.invariant.along in before.recorded told (g.H.Host.state c.loop-asked.host).file (none-recorded c.loop-asked.requests (g.H.Host.state c.loop-asked.host).file)

pub returns-clause-least : goal.returns-clause-least
returns-clause-least g c told known graph a =
    let before = c.loop-asked.invariant.along in
    let none = c.in_ok-asked.ensures.end (ap Ok c.in_default.is) (known-along before known) in
    served-least (served-along before told graph a) none.0 known

-- ---- the work

pub returns-clause-loads : goal.returns-clause-loads
returns-clause-loads g c told known graph a measured =
    let before = c.loop-asked.invariant.along in
    let none = c.in_ok-asked.ensures.end (ap Ok c.in_default.is) (known-along before known) in
    served-loads (served-along before told graph a) none.0 known measured

pub returns-clause-most : goal.returns-clause-most
returns-clause-most g c told known graph a made room measured few =
    let before = c.loop-asked.invariant.along in
    let none = c.in_ok-asked.ensures.end (ap Ok c.in_default.is) (known-along before known) in
    served-most (before.served told graph a made room) none.0 known measured few
