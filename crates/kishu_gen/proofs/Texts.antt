-- Texts with names in them, piece by piece.
use Rattle.std.proofs.Common.{◌≡◌, ℕ, List, ◌++◌, rules}
use mathlib.Core.List.{append_assoc}
use Rattle.std.specs.Prelude.{codes}

pub holding-laid : (name held : List ℕ) → codes "v" ++ (name ++ (codes " = [v" ++ (held ++ codes "]"))) ≡ codes "v" ++ name ++ codes " = [" ++ (codes "v" ++ held) ++ codes "]"
holding-laid name held = search (rules, append_assoc)

pub looking-laid : (name other : List ℕ) → codes "print(v" ++ (name ++ (codes " is v" ++ (other ++ (codes ", len(v" ++ (other ++ codes "))")))))
    ≡ codes "print(" ++ (codes "v" ++ name) ++ codes " is " ++ (codes "v" ++ other) ++ codes ", len(" ++ (codes "v" ++ other) ++ codes "))"
looking-laid name other = search (rules, append_assoc)
