use Rattle.std.proofs.Common.{◌≡◌, ◌++◌}
use Rattle.std.proofs.lemmas.Result.{IfOk-weaker}
use Rattle.kishu_store.specs.Tables.{are_apart, names_in}
use Rattle.kishu_graph.specs.Fits.{TellsFitWith, names_of, rows_of}
use Rattle.kishu_graph.proofs.TablesThatFit.{tells-many, tells-apart}
use Rattle.kishu_graph.proofs.fitting.fits_rows.Goals as goal

pub returns-then-not-take_few_bytes-clause-fits : goal.returns-then-not-take_few_bytes-clause-fits
returns-then-not-take_few_bytes-clause-fits c t dropped are =
    tells-many t dropped c.args.stored.now (rows_of c.args.left.now) are (c.take_few_bytes.ensures.no c.if-not-take_few_bytes.true)

pub returns-clause-fits : goal.returns-clause-fits
returns-clause-fits c =
    let stored = c.args.stored.now in
    let left = rows_of c.args.left.now in
    IfOk-weaker c.stand_apart.result (λ apart. apart ≡ are_apart (names_of stored ++ names_in left)) (λ fits. TellsFitWith c.args.left.now stored fits)
    (λ apart is t dropped are. tells-apart t dropped stored left are apart (c.take_few_bytes.ensures.yes c.if-not-take_few_bytes.false) is)
    c.stand_apart.ensures
