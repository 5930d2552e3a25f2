use Rattle.std.proofs.Common.{◌≡◌, ◌⊎◌, ◌≤◌, ◌+◌, true, sym, subst, OnOk, IsOk, IsErrOf}
use Rattle.kishu_host.specs.Host.{ReadsMore}
use Rattle.kishu_session.specs.Renewing.{most_kept}
use Rattle.kishu_serve.specs.Efforts.{AreMeasured, read_by_all, steps_by_all}
use Rattle.kishu_serve.specs.EveryStore.{AnswersAll, StopsAll}
use Rattle.kishu_serve.specs.Headline.{IsWhole}
use Rattle.kishu_serve.specs.Recorded.{Records}
use Rattle.kishu_serve.specs.Making.{made_by_all}
use Rattle.kishu_serve.specs.Serving.{WhereKnown, WhereKnownMade, StopsInPart}
use Rattle.kishu_serve.specs.Work.{records_many, answers_each}
use Rattle.kishu_serve.specs.declared.serving.Stop.TheVariants.{TooLong}
use Rattle.kishu_serve.specs.declared.work.Work.{Work}
use Rattle.kishu_serve.proofs.LiveForms.{runs-not-each, makes-not-each}
use Rattle.kishu_serve.proofs.Parts.{held}
use Rattle.kishu_serve.proofs.Works.{runs-not-measured, makes-not-measured}
use Rattle.kishu_serve.proofs.top.carry_out.Goals as goal

-- ---- requests are answered

pub returns-in-Answers-clause-whole : goal.returns-in-Answers-clause-whole
returns-in-Answers-clause-whole g c =
    let st = g.H.Host.state in
    let src = g.S.Source.source in
    let s0 = st c.args.host.now in
    let s1 = st c.serve_all.new.host in
    let i0 = src c.args.source.now in
    let i1 = src c.serve_all.new.source in
    let r = c.serve_all.result in
    subst
    (λ (w : Work). IsOk r ⊎ IsErrOf r TooLong → WhereKnown w i0 c.args.session.now s0 (λ g' items. IsWhole s0 s1 g' items))
    (sym c.in-Answers.is) c.serve_all.ensures.whole

pub returns-in-Answers-clause-stop : goal.returns-in-Answers-clause-stop
returns-in-Answers-clause-stop g c =
    let st = g.H.Host.state in
    let src = g.S.Source.source in
    let s0 = st c.args.host.now in
    let s1 = st c.serve_all.new.host in
    let i0 = src c.args.source.now in
    let i1 = src c.serve_all.new.source in
    let r = c.serve_all.result in
    subst
    (λ (w : Work). WhereKnown w i0 c.args.session.now s0 (λ g' items. StopsInPart s0 s1 g' items))
    (sym c.in-Answers.is) c.serve_all.ensures.stop

pub returns-in-Answers-clause-bytes : goal.returns-in-Answers-clause-bytes
returns-in-Answers-clause-bytes g c =
    let st = g.H.Host.state in
    let src = g.S.Source.source in
    let s0 = st c.args.host.now in
    let s1 = st c.serve_all.new.host in
    let i0 = src c.args.source.now in
    let i1 = src c.serve_all.new.source in
    let r = c.serve_all.result in
    subst
    (λ (w : Work). OnOk r (Records (records_many w) s0 s1))
    (sym c.in-Answers.is) c.serve_all.ensures.bytes

pub returns-in-Answers-clause-damaged : goal.returns-in-Answers-clause-damaged
returns-in-Answers-clause-damaged g c = c.serve_all.ensures.damaged

pub returns-in-Answers-clause-whole_live : goal.returns-in-Answers-clause-whole_live
returns-in-Answers-clause-whole_live g c =
    let s0 = g.H.Host.state c.args.host.now in
    let s1 = g.H.Host.state c.serve_all.new.host in
    let i0 = g.S.Source.source c.args.source.now in
    let r = c.serve_all.result in
    subst
    (λ (w : Work). IsOk r ⊎ IsErrOf r TooLong → answers_each w ≡ true → AnswersAll w i0 c.args.session.now s0 s1)
    (sym c.in-Answers.is) (λ ended each. c.serve_all.ensures.whole_live ended)

pub returns-in-Answers-clause-stop_live : goal.returns-in-Answers-clause-stop_live
returns-in-Answers-clause-stop_live g c =
    let s0 = g.H.Host.state c.args.host.now in
    let s1 = g.H.Host.state c.serve_all.new.host in
    let i0 = g.S.Source.source c.args.source.now in
    subst
    (λ (w : Work). answers_each w ≡ true → StopsAll w i0 c.args.session.now s0 s1)
    (sym c.in-Answers.is) (λ each. c.serve_all.ensures.stop_live)

-- ---- a notebook is run

pub returns-in-Runs-clause-stop_live : goal.returns-in-Runs-clause-stop_live
returns-in-Runs-clause-stop_live g c each = absurd (runs-not-each _ _ c.in-Runs.is each)

pub returns-in-Runs-clause-whole_live : goal.returns-in-Runs-clause-whole_live
returns-in-Runs-clause-whole_live g c ended each = absurd (runs-not-each _ _ c.in-Runs.is each)

pub returns-in-Runs-clause-bytes : goal.returns-in-Runs-clause-bytes
returns-in-Runs-clause-bytes g c =
    let st = g.H.Host.state in
    let s0 = st c.args.host.now in
    let s1 = st c.run_notebook.new.host in
    let i0 = g.S.Source.source c.args.source.now in
    let r = c.run_notebook.result in
    let ran = c.run_notebook.ensures in
    subst
    (λ (w : Work). OnOk r (Records (records_many w) s0 s1))
    (sym c.in-Runs.is)
    ran.bytes

pub returns-in-Runs-clause-damaged : goal.returns-in-Runs-clause-damaged
returns-in-Runs-clause-damaged g c = c.run_notebook.ensures.damaged

-- ---- requests that are made are applied

pub returns-in-Makes-clause-stop_live : goal.returns-in-Makes-clause-stop_live
returns-in-Makes-clause-stop_live g c each = absurd (makes-not-each _ _ c.in-Makes.is each)

pub returns-in-Makes-clause-whole_live : goal.returns-in-Makes-clause-whole_live
returns-in-Makes-clause-whole_live g c ended each = absurd (makes-not-each _ _ c.in-Makes.is each)

pub returns-in-Makes-clause-bytes : goal.returns-in-Makes-clause-bytes
returns-in-Makes-clause-bytes g c =
    let st = g.H.Host.state in
    subst
    (λ (w : Work). OnOk c.run_script.result (Records (records_many w) (st c.args.host.now) (st c.run_script.new.host)))
    (sym c.in-Makes.is) c.run_script.ensures.bytes

pub returns-in-Makes-clause-damaged : goal.returns-in-Makes-clause-damaged
returns-in-Makes-clause-damaged g c = c.run_script.ensures.damaged

-- ---- the work

pub returns-in-Answers-clause-loads : goal.returns-in-Answers-clause-loads
returns-in-Answers-clause-loads g c =
    let st = g.H.Host.state in
    let s0 = st c.args.host.now in
    let s1 = st c.serve_all.new.host in
    let i0 = g.S.Source.source c.args.source.now in
    subst
    (λ (w : Work). OnOk c.serve_all.result (WhereKnown w i0 c.args.session.now s0 (λ g' items. AreMeasured g' items → ReadsMore s0.reads s1.reads (read_by_all g' items))))
    (sym c.in-Answers.is) c.serve_all.ensures.loads

pub returns-in-Answers-clause-most : goal.returns-in-Answers-clause-most
returns-in-Answers-clause-most g c =
    let s0 = g.H.Host.state c.args.host.now in
    let i0 = g.S.Source.source c.args.source.now in
    subst
    (λ (w : Work). OnOk c.serve_all.result (WhereKnownMade w i0 c.args.session.now s0
    (λ made g' items. AreMeasured g' items → made + made_by_all g' items ≤ most_kept → c.serve_all.new.steps ≤ c.args.steps.now + steps_by_all g' items)))
    (sym c.in-Answers.is) c.serve_all.ensures.most

pub returns-in-Runs-clause-loads : goal.returns-in-Runs-clause-loads
returns-in-Runs-clause-loads g c =
    held c.run_notebook.result (λ told known g' a measured. absurd (runs-not-measured _ _ c.in-Runs.is g' _ measured))

pub returns-in-Runs-clause-most : goal.returns-in-Runs-clause-most
returns-in-Runs-clause-most g c =
    held c.run_notebook.result (λ told known g' a made room measured few. absurd (runs-not-measured _ _ c.in-Runs.is g' _ measured))

pub returns-in-Makes-clause-loads : goal.returns-in-Makes-clause-loads
returns-in-Makes-clause-loads g c =
    held c.run_script.result (λ told known g' a measured. absurd (makes-not-measured _ _ c.in-Makes.is g' _ measured))

pub returns-in-Makes-clause-most : goal.returns-in-Makes-clause-most
returns-in-Makes-clause-most g c =
    held c.run_script.result (λ told known g' a made room measured few. absurd (makes-not-measured _ _ c.in-Makes.is g' _ measured))
