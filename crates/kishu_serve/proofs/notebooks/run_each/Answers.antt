use Rattle.std.proofs.Common.{◌≡◌, ◌+◌, ◌∷◌, ℕ, true, List, map, drop, refl, sym, ◌∙◌, ap, subst, arith}
use Rattle.std.proofs.lemmas.List.{drop_all, length-map}
use Rattle.std.proofs.lemmas.Result.{err_from_is_err_and}
use Rattle.std.specs.Rc.{rc_str_bytes}
use Rattle.kishu_model.specs.Request.{cell}
use Rattle.kishu_model.specs.Step.{step}
use Rattle.kishu_model.specs.notebooks.Run.{with_answer}
use Rattle.kishu_notebook.specs.Views.{data_of}
use Rattle.kishu_serve.proofs.CellRuns.{recorded-more, drop-texts, cell-stop, goes-further, ends-here, at-first, at-last}
use Rattle.kishu_serve.proofs.notebooks.run_each.Goals as goal

-- ---- before the first cell

pub loop-text-init : goal.loop-text-init
loop-text-init g c =
    let s = g.H.Host.state c.args.host.now in
    let session = c.args.session.now in
    let texts = map rc_str_bytes c.args.texts.now in
    record {
      going = c.requires.going;
      stands = c.requires.stands;
      recorded = λ told. (0, refl);
      place = refl;
      comes = λ told g' a. at-first s session g' texts (data_of c.args.notebook.now) c.args.steps.now a;
      tells = refl;
      disk = omega arith;
      outs = omega arith;
    }

pub run_request-requires-clause-stands : goal.run_request-requires-clause-stands
run_request-requires-clause-stands g c = c.loop-text.invariant.stands

pub returns-in_err-run_request-clause-stop : goal.returns-in_err-run_request-clause-stop
returns-in_err-run_request-clause-stop g c told g' a =
    let before = c.loop-text.invariant in
    let so = before.comes told g' a in
    let i = c.loop-text.text-index in
    let texts = map rc_str_bytes c.args.texts.now in
    let here = drop-texts c.args.texts.now i c.text-item.result c.loop-text-test.true c.text-item.is ∙ ap (λ (t : List ℕ). t ∷ drop (i + 1) texts) (sym c.in-Ok.ensures.cases) in
    cell-stop i texts (data_of c.loop-text.notebook) so (rc_str_bytes c.in-Ok.text) here (g.H.Host.state c.run_request.new.host)
    (c.run_request.ensures.stop (before.tells ∙ told) so.now so.attached)

-- no text was there for it, or all cells are run

pub returns-in_default-clause-stop : goal.returns-in_default-clause-stop
returns-in_default-clause-stop g c told g' a = (c.loop-text.invariant.comes told g' a).comes.stop

pub returns-clause-stop : goal.returns-clause-stop
returns-clause-stop g c told g' a = (c.loop-text.invariant.comes told g' a).comes.stop

pub returns-clause-comes : goal.returns-clause-comes
returns-clause-comes g c told g' a =
    let i = c.loop-text.text-index in
    let texts = map rc_str_bytes c.args.texts.now in
    let none = drop_all i texts (omega (arith, length-map c.args.texts.now rc_str_bytes, c.loop-text.auto.text-index-end, c.loop-text-test.false)) in
    at-last i texts (data_of c.loop-text.notebook) none (c.loop-text.invariant.comes told g' a)

-- ---- a cell that is run

pub returns-then-not-branch-clause-stop : goal.returns-then-not-branch-clause-stop
returns-then-not-branch-clause-stop g c told g' a =
    let before = c.loop-text.invariant in
    let so = before.comes told g' a in
    let i = c.loop-text.text-index in
    let texts = map rc_str_bytes c.args.texts.now in
    let here = drop-texts c.args.texts.now i c.text-item.result c.loop-text-test.true c.text-item.is ∙ ap (λ (t : List ℕ). t ∷ drop (i + 1) texts) (sym c.in-Ok.ensures.cases) in
    cell-stop i texts (data_of c.loop-text.notebook) so (rc_str_bytes c.in-Ok.text) here (g.H.Host.state c.run_request.new.host)
    (c.run_request.ensures.stop (before.tells ∙ told) so.now so.attached)

pub returns-then-not-branch-clause-comes : goal.returns-then-not-branch-clause-comes
returns-then-not-branch-clause-comes g c told g' a =
    let before = c.loop-text.invariant in
    let so = before.comes told g' a in
    let i = c.loop-text.text-index in
    let texts = map rc_str_bytes c.args.texts.now in
    let text = rc_str_bytes c.in-Ok.text in
    let here = drop-texts c.args.texts.now i c.text-item.result c.loop-text-test.true c.text-item.is ∙ ap (λ (t : List ℕ). t ∷ drop (i + 1) texts) (sym c.in-Ok.ensures.cases) in
    let now_told = before.tells ∙ told in
    let ran = c.in_ok-run_request.ensures in
    let set = data_of c.run_request.new.notebook in
    let is_set = subst (λ (n : ℕ). set ≡ with_answer n (step so.now (cell text)).answer (data_of c.loop-text.notebook)) before.place (ran.set now_told so.now so.attached) in
    ends-here i texts (data_of c.loop-text.notebook) so text here (g.H.Host.state c.run_request.new.host) c.run_request.new.session set c.run_request.new.steps
    (ran.attached now_told so.now so.attached) c.run_request.ensures.out (ran.least now_told so.now so.attached)
    (c.run_request.ensures.stop now_told so.now so.attached) is_set (cc (ran.goes_on now_told so.now so.attached, c.if-not-branch.true))

pub returns-then-not-branch-clause-bytes : goal.returns-then-not-branch-clause-bytes
returns-then-not-branch-clause-bytes g c told =
    let before = c.loop-text.invariant in
    recorded-more true (g.H.Host.state c.args.host.now).file (g.H.Host.state c.loop-text.host).file (g.H.Host.state c.run_request.new.host).file refl (before.recorded told) (c.in_ok-run_request.ensures.bytes (before.tells ∙ told))

pub returns-in_err-run_request-clause-damaged : goal.returns-in_err-run_request-clause-damaged
returns-in_err-run_request-clause-damaged g c at is =
    let before = c.loop-text.invariant in
    let p = err_from_is_err_and c.from_residual.result c.from_residual.ensures.1 in
    let d = c.in_err-run_request.ensures.damaged at (cc (is, p.1, p.2)) in (
      λ told. d.0 (before.tells ∙ told),
      λ told g' a. let so = before.comes told g' a in d.1 (before.tells ∙ told) so.now so.attached,
    )

pub loop-text-preserved : goal.loop-text-preserved
loop-text-preserved g c =
    let before = c.loop-text.invariant in
    let ran = c.in_ok-run_request.ensures in
    record {
      going = ran.going;
      stands = ran.stands;
      recorded = λ told. recorded-more true (g.H.Host.state c.args.host.now).file (g.H.Host.state c.loop-text.host).file (g.H.Host.state c.run_request.new.host).file refl (before.recorded told) (ran.bytes (before.tells ∙ told));
      place = ap (λ (n : ℕ). n + 1) before.place;
      comes = λ told g' a.
          let so = before.comes told g' a in
          let i = c.loop-text.text-index in
          let texts = map rc_str_bytes c.args.texts.now in
          let text = rc_str_bytes c.in-Ok.text in
          let here = drop-texts c.args.texts.now i c.text-item.result c.loop-text-test.true c.text-item.is ∙ ap (λ (t : List ℕ). t ∷ drop (i + 1) texts) (sym c.in-Ok.ensures.cases) in
          let now_told = before.tells ∙ told in
          let set = data_of c.run_request.new.notebook in
          let is_set = subst (λ (n : ℕ). set ≡ with_answer n (step so.now (cell text)).answer (data_of c.loop-text.notebook)) before.place (ran.set now_told so.now so.attached) in
          goes-further i texts (data_of c.loop-text.notebook) so text here (g.H.Host.state c.run_request.new.host) c.run_request.new.session set c.run_request.new.steps
          (ran.attached now_told so.now so.attached) c.run_request.ensures.out (ran.least now_told so.now so.attached)
          (c.run_request.ensures.stop now_told so.now so.attached) is_set (cc (ran.goes_on now_told so.now so.attached, c.if-not-branch.false)) (i + 1) refl;
      tells = c.run_request.ensures.tells ∙ before.tells;
      disk = omega (arith, before.disk, c.run_request.ensures.disk);
      outs = omega (arith, before.outs, c.run_request.ensures.outs);
    }
