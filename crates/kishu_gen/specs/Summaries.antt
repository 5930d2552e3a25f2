-- What a summary has taken.
use Rattle.std.specs.Prelude.{ℕ, List}
use Rattle.sha2.specs.Hashers.{Holds256}
use Rattle.kishu_gen.specs.declared.summary.Summary.{Summary}

-- It has taken these lines, one behind another.
abbrev pub HasTaken : Summary → List ℕ → Type 0
HasTaken s lines = Holds256 s.hasher lines
