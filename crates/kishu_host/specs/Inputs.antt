-- What each call of a source in memory does, exactly.
--
-- `Input`: all that there is to know of the source. `is_due`: the next call fails by its number. `took`, `failed`: after a call.
use Rattle.std.specs.Prelude.{ℕ, Bool, List, drop, None}
use Rattle.kishu_host.specs.declared.input.MemSource.{MemSource}
use Rattle.kishu_host.specs.Memory.{is_refused, next}

-- all that there is to know of a source in memory
pub record Input : Type 0 where
  pub left : List ℕ
  -- the numbers of the calls that fail
  pub fail : List ℕ
  -- the number of the last call
  pub calls : ℕ
  pub in_faults : ℕ

abbrev pub input_of : MemSource → Input
input_of s = record { left = drop s.taken s.bytes.items; fail = s.fail.items; calls = s.calls; in_faults = s.in_faults }

-- whether the next call fails by its number
abbrev pub is_due : Input → Bool
is_due s = is_refused s.fail None (next s.calls)

-- after a call that took n bytes, and after one that failed
abbrev pub took : ℕ → Input → Input
took n s = record { left = drop n s.left; fail = s.fail; calls = next s.calls; in_faults = s.in_faults }

abbrev pub failed : Input → Input
failed s = record { left = s.left; fail = s.fail; calls = next s.calls; in_faults = next s.in_faults }
