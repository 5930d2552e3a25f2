use Rattle.std.proofs.Common.{length, ap, arith}
use Rattle.std.proofs.lemmas.Bool.{ltb-true}
use Rattle.std.proofs.lemmas.List.{length-map}
use Rattle.std.specs.Rc.{rc_str_bytes}
use Rattle.kishu_line_tests.proofs.notebooks.has_code_cell.Goals as goal

pub returns : goal.returns
returns c there =
    let sources = c.in_ok-sources.sources in
    omega (arith, ltb-true _ _ there, c.len.ensures, sources.ok.0, length-map sources.items rc_str_bytes, ap length c.in_ok-sources.ensures)
