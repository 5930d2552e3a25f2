use Rattle.std.proofs.Common.{true, Ok, refl, ◌∙◌, ap, arith}
use Rattle.std.proofs.lemmas.Result.{err_from_is_err_and}
use Rattle.kishu_model.specs.Values.{request_of}
use Rattle.kishu_gen.specs.Scripts.{to_come}
use Rattle.kishu_serve.proofs.CellRuns.{recorded-more}
use Rattle.kishu_serve.proofs.MadeRuns.{OnTheWay, made-stop, made-more, taken-first, taken-along, taken-last}
use Rattle.kishu_serve.proofs.making.apply_all.Given.{Over}
use Rattle.kishu_serve.proofs.making.apply_all.Goals.{In_ok-apply_silently}
use Rattle.kishu_serve.proofs.making.apply_all.Goals as goal

-- ---- a turn

turn : (g : Over) (c : In_ok-apply_silently g)
    → OnTheWay (g.H.Host.state c.args.host.now) (g.H.Host.state c.apply_silently.new.host) c.args.session.now c.apply_silently.new.session
    (to_come c.args.script.now) (to_come c.next_made.new.script) c.apply_silently.new.summary c.args.steps.now c.apply_silently.new.steps
turn g c =
    let before = c.loop-request.invariant in
    let next = rw c.in-Some.is at c.in_ok-request.ensures.next in
    let ran = c.in_ok-apply_silently.ensures in
    record {
      going = ran.going;
      stands = ran.stands;
      recorded = λ told.
          recorded-more true (g.H.Host.state c.args.host.now).file (g.H.Host.state c.loop-request.host).file
          (g.H.Host.state c.apply_silently.new.host).file refl
          (before.recorded told) (ran.bytes (before.tells ∙ told));
      comes = λ told g' a.
          let t = before.comes told g' a in
          let now_told = before.tells ∙ told in
          made-more t (request_of c.in-Some.request) (to_come c.next_made.new.script) next
          (g.H.Host.state c.apply_silently.new.host) c.apply_silently.new.session c.apply_silently.new.summary c.apply_silently.new.steps
          (ran.attached now_told t.so.now t.so.attached) c.apply_silently.ensures.out (ran.taken now_told t.so.now t.so.attached)
          (ran.least now_told t.so.now t.so.attached)
          (c.apply_silently.ensures.stop now_told t.so.now t.so.attached);
      tells = c.apply_silently.ensures.tells ∙ before.tells;
      disk = omega (arith, before.disk, c.apply_silently.ensures.disk);
      outs = omega (arith, before.outs, c.apply_silently.ensures.outs);
    }

-- a goal for each kind of request
pub loop-request-preserved-in_ok-apply_silently : goal.loop-request-preserved-in_ok-apply_silently
loop-request-preserved-in_ok-apply_silently g c = let c = (goal.at.loop-request-preserved-in_ok-apply_silently g c).In_ok-apply_silently in turn g c

pub loop-request-preserved-in_ok-apply_silently-3 : goal.loop-request-preserved-in_ok-apply_silently-3
loop-request-preserved-in_ok-apply_silently-3 g c =
    let c = (goal.at.loop-request-preserved-in_ok-apply_silently-3 g c).In_ok-apply_silently in turn g c

pub loop-request-preserved-in_ok-apply_silently-2 : goal.loop-request-preserved-in_ok-apply_silently-2
loop-request-preserved-in_ok-apply_silently-2 g c = let c = (goal.at.loop-request-preserved-in_ok-apply_silently-2 g c).In_ok-apply_silently in turn g c

pub loop-request-preserved-in_ok-apply_silently-4 : goal.loop-request-preserved-in_ok-apply_silently-4
loop-request-preserved-in_ok-apply_silently-4 g c = let c = (goal.at.loop-request-preserved-in_ok-apply_silently-4 g c).In_ok-apply_silently in turn g c

pub loop-request-preserved-in_ok-apply_silently-5 : goal.loop-request-preserved-in_ok-apply_silently-5
loop-request-preserved-in_ok-apply_silently-5 g c = let c = (goal.at.loop-request-preserved-in_ok-apply_silently-5 g c).In_ok-apply_silently in turn g c

pub loop-request-preserved-in_ok-apply_silently-6 : goal.loop-request-preserved-in_ok-apply_silently-6
loop-request-preserved-in_ok-apply_silently-6 g c = let c = (goal.at.loop-request-preserved-in_ok-apply_silently-6 g c).In_ok-apply_silently in turn g c

pub loop-request-preserved-in_ok-apply_silently-7 : goal.loop-request-preserved-in_ok-apply_silently-7
loop-request-preserved-in_ok-apply_silently-7 g c = let c = (goal.at.loop-request-preserved-in_ok-apply_silently-7 g c).In_ok-apply_silently in turn g c

pub loop-request-preserved : goal.loop-request-preserved
loop-request-preserved g c = let c = (goal.at.loop-request-preserved g c).In_ok-apply_silently in turn g c

-- ---- before the first

pub loop-request-init : goal.loop-request-init
loop-request-init g c =
    let s = g.H.Host.state c.args.host.now in
    let session = c.args.session.now in
    let first = to_come c.args.script.now in
    record {
      going = c.requires.going;
      stands = c.requires.stands;
      recorded = λ told. (0, refl);
      comes = λ told g' a. taken-first s session g' first c.args.summary.now c.args.steps.now a c.requires.none_taken;
      tells = refl;
      disk = omega arith;
      outs = omega arith;
    }

pub apply_silently-requires-clause-stands : goal.apply_silently-requires-clause-stands
apply_silently-requires-clause-stands g c = c.loop-request.invariant.stands

pub apply_silently-requires-clause-room : goal.apply_silently-requires-clause-room
apply_silently-requires-clause-room g c = rw c.in-Some.is at c.in_ok-request.ensures.room

-- ---- a request that isn't applied

pub returns-in_err-apply_silently-clause-stop : goal.returns-in_err-apply_silently-clause-stop
returns-in_err-apply_silently-clause-stop g c told g' a =
    let before = c.loop-request.invariant in
    let t = taken-along before told g' a in
    let next = rw c.in-Some.is at c.in_ok-request.ensures.next in
    made-stop t (request_of c.in-Some.request) (to_come c.next_made.new.script) next (g.H.Host.state c.apply_silently.new.host)
    (c.apply_silently.ensures.stop (before.tells ∙ told) t.so.now t.so.attached)

pub returns-in_err-apply_silently-clause-damaged : goal.returns-in_err-apply_silently-clause-damaged
returns-in_err-apply_silently-clause-damaged g c at is =
    let before = c.loop-request.invariant in
    let p = err_from_is_err_and c.from_residual-in_err-apply_silently.result c.from_residual-in_err-apply_silently.ensures.1 in
    let d = c.in_err-apply_silently.ensures.damaged at (cc (is, p.1, p.2)) in (
      λ told. d.0 (before.tells ∙ told),
      λ told g' a. let t = taken-along before told g' a in d.1 (before.tells ∙ told) t.so.now t.so.attached,
    )

-- ---- no request is to come

pub returns-in_err-request-clause-stop : goal.returns-in_err-request-clause-stop
returns-in_err-request-clause-stop g c told g' a = (taken-along c.loop-request.invariant told g' a).so.comes.stop

pub returns-clause-stop : goal.returns-clause-stop
returns-clause-stop g c told g' a = (taken-along c.loop-request.invariant told g' a).so.comes.stop

pub returns-clause-applied : goal.returns-clause-applied
returns-clause-applied g c told g' a =
    let none = c.in_ok-request.ensures.end (ap Ok c.in_default.is) in
    taken-last (to_come c.args.script.now) none.0 (c.loop-request.invariant.comes told g' a)
