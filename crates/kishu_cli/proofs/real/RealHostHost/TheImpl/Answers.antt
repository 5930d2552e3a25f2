use Rattle.std.proofs.Common.{refl, arith, rules}
use Rattle.kishu_cli.proofs.real.RealHostHost.TheImpl.Goals as goal

pub write_at-tells : goal.write_at-tells
write_at-tells g c = record {
  written = search rules;
  kept = refl;
  torn = λ file may. (file, tt, record { before = refl; after = refl; no_shorter = omega arith; no_longer = omega arith });
  time = search rules;
  reads = search rules;
  disk = search rules;
  out = search rules;
}
