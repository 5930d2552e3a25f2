use Rattle.std.proofs.Common.{refl, arith}
use Rattle.kishu_tests.proofs.serve.cut_short.SilentHost.write_at.Goals as goal

pub returns-clause-torn : goal.returns-clause-torn
returns-clause-torn c f _ = (f, tt, record { before = refl; after = refl; no_shorter = omega arith; no_longer = omega arith })
