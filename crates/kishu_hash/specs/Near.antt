-- A hash of numbers.
use Rattle.std.specs.Prelude.{ℕ, ◌+◌, ◌*◌, ◌/◌, ◌%◌, ◌^◌, List}
use Rattle.std.specs.Int.{w32, from_le_bytes}
use Rattle.kishu_hash.specs.declared.near.NearHash.{NearHash}

-- of 0
abbrev pub initial : NearHash
initial = record { number = 0 }

-- after a write: the number that its first four bytes spell, the lowest first
abbrev pub after : NearHash → List ℕ → NearHash
after near bytes = record { number = from_le_bytes w32 bytes }

-- 29 bits that eight numbers in a row have alike, and three that tell these apart
abbrev pub hash_of : NearHash → ℕ
hash_of near = (near.number / 8 * 0x9e3779b97f4a7c15) % 2 ^ 64 / 2 ^ 35 + near.number % 8 * 2 ^ 29
