use Rattle.std.proofs.Common.{◌∙◌}
use Rattle.std.proofs.lemmas.Result.{err_from_is_err_and}
use Rattle.kishu_model.specs.notebooks.Setting.{written}
use Rattle.kishu_notebook.specs.Views.{data_of}
use Rattle.kishu_serve.proofs.CellRuns.{last-stop, last-whole, last-least, file-kept}
use Rattle.kishu_serve.proofs.Parts.{attached-kept, held, and_then}
use Rattle.kishu_serve.proofs.notebooks.run_notebook.Goals as goal

pub returns-clause-stop : goal.returns-clause-stop
returns-clause-stop g c told g' a =
    last-stop (written (data_of c.run_cells.new.notebook)) (c.in_ok-run_cells.ensures.comes told g' a) (g.H.Host.state c.put_notebook.new.host) c.put_notebook.ensures.stop

pub returns-clause-bytes : goal.returns-clause-bytes
returns-clause-bytes g c =
    let st = g.H.Host.state in
    held c.put_notebook.result (file-kept _ (st c.args.host.now) (st c.run_cells.new.host) (st c.put_notebook.new.host) c.put_notebook.ensures.file c.in_ok-run_cells.ensures.bytes)

pub returns-clause-whole : goal.returns-clause-whole
returns-clause-whole g c =
    let st = g.H.Host.state in
    and_then c.put_notebook.result c.put_notebook.ensures.out
    (λ out told g' a.
    let so = c.in_ok-run_cells.ensures.comes told g' a in
    let put = c.put_notebook.ensures in
    last-whole (written (data_of c.run_cells.new.notebook)) so (st c.put_notebook.new.host) put.stop (out (c.run_cells.ensures.tells ∙ told)) c.run_cells.new.session
    (attached-kept c.run_cells.new.session (st c.run_cells.new.host) (st c.put_notebook.new.host) so.now put.file put.crash so.attached))

pub returns-in_err-run_cells-clause-damaged : goal.returns-in_err-run_cells-clause-damaged
returns-in_err-run_cells-clause-damaged g c at is =
    let p = err_from_is_err_and c.from_residual.result c.from_residual.ensures.1 in
    c.in_err-run_cells.ensures.damaged at (cc (is, p.1, p.2))

pub returns-clause-least : goal.returns-clause-least
returns-clause-least g c =
    let st = g.H.Host.state in
    and_then c.put_notebook.result c.put_notebook.ensures.out
    (λ out told g' a.
    let so = c.in_ok-run_cells.ensures.comes told g' a in
    last-least (written (data_of c.run_cells.new.notebook)) so (st c.put_notebook.new.host) c.put_notebook.ensures.stop (out (c.run_cells.ensures.tells ∙ told)))
