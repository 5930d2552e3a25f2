-- Arguments behind others.
use Rattle.std.proofs.Common.{◌++◌}
use Rattle.kishu_meaning.specs.calls.Callees.{Given}

abbrev pub joined : Given → Given → Given
joined g h = record { plain = g.plain ++ h.plain; named = g.named ++ h.named }
