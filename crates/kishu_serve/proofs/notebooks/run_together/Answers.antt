use Rattle.std.proofs.Common.{◌≢◌, [], map, rules}
use Rattle.std.proofs.lemmas.Result.{err_from_is_err_and}
use Rattle.std.specs.Rc.{rc_str_bytes}
use Rattle.kishu_notebook.specs.Views.{data_of}
use Rattle.kishu_serve.proofs.CellRuns.{some-cells, together-stop, together-comes}
use Rattle.kishu_serve.proofs.notebooks.run_together.Goals as goal

pub returns-in_err-run_request-clause-stop : goal.returns-in_err-run_request-clause-stop
returns-in_err-run_request-clause-stop g c told g' a =
    let st = g.H.Host.state in
    let some : c.args.texts.items ≢ [] = search rules in
    together-stop (st c.args.host.now) c.args.session.now g' (map rc_str_bytes c.args.texts.items) (data_of c.args.notebook.now) c.args.steps.now a (some-cells c.args.texts.items some)
    (st c.run_request.new.host) (c.run_request.ensures.stop told g' a)

pub returns-in_err-run_request-clause-damaged : goal.returns-in_err-run_request-clause-damaged
returns-in_err-run_request-clause-damaged g c at is =
    let p = err_from_is_err_and c.from_residual.result c.from_residual.ensures.1 in
    c.in_err-run_request.ensures.damaged at (cc (is, p.1, p.2))

pub returns-clause-stop : goal.returns-clause-stop
returns-clause-stop g c told g' a =
    let st = g.H.Host.state in
    let some : c.args.texts.items ≢ [] = search rules in
    together-stop (st c.args.host.now) c.args.session.now g' (map rc_str_bytes c.args.texts.items) (data_of c.args.notebook.now) c.args.steps.now a (some-cells c.args.texts.items some)
    (st c.run_request.new.host) (c.run_request.ensures.stop told g' a)

pub returns-clause-comes : goal.returns-clause-comes
returns-clause-comes g c told g' a =
    let st = g.H.Host.state in
    let some : c.args.texts.items ≢ [] = search rules in
    let ran = c.in_ok-run_request.ensures in
    together-comes (st c.args.host.now) c.args.session.now g' (map rc_str_bytes c.args.texts.items) (data_of c.args.notebook.now) c.args.steps.now a (some-cells c.args.texts.items some)
    (st c.run_request.new.host) c.run_request.new.session (data_of c.run_request.new.notebook) c.run_request.new.steps
    (ran.attached told g' a) c.run_request.ensures.out (ran.least told g' a) (c.run_request.ensures.stop told g' a) (ran.set told g' a)
