-- A worked entry: the head at a commit.
use Rattle.std.proofs.Common.{◌<◌, ◌^◌, ℕ, arith}
use Rattle.kishu_store.specs.Entries.{move, to_commit}
use Rattle.kishu_store.specs.EntryBytes.{head_of}
use Rattle.kishu_store.specs.Rules.{IsEntry}

pub moved-entry : (n : ℕ) → n < 2 ^ 32 → IsEntry (move (to_commit n))
unfolding head_of
moved-entry n small = record { rules = small; short = omega arith }
