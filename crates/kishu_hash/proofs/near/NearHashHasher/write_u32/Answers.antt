use Rattle.std.proofs.Common.{ap, sym, ℕ}
use Rattle.std.proofs.lemmas.Nat.{from_le_bytes-to_le_bytes_4}
use Rattle.std.specs.Hash.{le_bytes}
use Rattle.kishu_hash.proofs.near.NearHashHasher.write_u32.Goals as goal

pub returns : goal.returns
unfolding le_bytes
returns c =
    ap (λ (n : ℕ). record c.args.self.now { number = n }) (sym (from_le_bytes-to_le_bytes_4 c.args.number c.ranges.number.fits))
