use Rattle.std.proofs.Common.{◌∙◌, [], List, ap, map, subst, sym}
use Rattle.std.proofs.lemmas.Result.{IfOk-weaker}
use Rattle.kishu_graph.specs.declared.tables.TableRow as rust_row
use Rattle.kishu_graph.specs.Fits.{StaysOf, TellsFit, TellsFitWith, rows_of}
use Rattle.kishu_graph.specs.Kept.{texts_of}
use Rattle.kishu_graph.specs.Tables.{table_of_rows}
use Rattle.kishu_graph.proofs.TablesThatFit.{tells-missing}
use Rattle.kishu_graph.proofs.fitting.fits_table.Goals as goal

pub returns-in_default-clause-fits : goal.returns-in_default-clause-fits
returns-in_default-clause-fits c =
    let t = table_of_rows c.args.table in
    tells-missing t c.args.dropped.now c.args.stored.now c.requires.dropped.rise (subst (λ o. StaysOf t (map texts_of c.args.dropped.now) o) c.in_default.is c.in_ok-left.ensures)

pub returns-clause-fits : goal.returns-clause-fits
returns-clause-fits c =
    let t = table_of_rows c.args.table in
    let dropped = c.args.dropped.now in
    let stored = c.args.stored.now in
    let are = subst (λ o. StaysOf t (map texts_of dropped) o) c.in-Some.is c.in_ok-left.ensures in
    IfOk-weaker c.fits_rows.result (λ fits. TellsFitWith c.deref.result.now stored fits) (λ fits. TellsFit t dropped stored fits)
    (λ fits tells. tells t dropped (are ∙ ap (λ (l : List rust_row.TableRow). record { rows = rows_of l; rest = [] }) (sym c.deref.ensures.value)))
    c.fits_rows.ensures.fits
