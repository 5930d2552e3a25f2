-- Ways out of a block.
use Rattle.std.proofs.Common.{◌≡◌, refl, ◌<◌, List, [], ◌∷◌, length, arith}
use Rattle.kishu_language.specs.declared.tree.Stmt.{Stmt}
use Rattle.kishu_meaning.specs.moments.Moment.{M, deeper}
use Rattle.kishu_meaning.specs.cells.Meaning.{in_block}
use Rattle.kishu_meaning.specs.cells.Ways as w
use Rattle.kishu_language.specs.trees.Parts.{statements_of}

-- A block that is there lies one level deeper.
pub block_is : (ss : List Stmt) (m : M w.Flow) → 0 < length ss → in_block (statements_of ss) m ≡ deeper m
block_is [] m p = absurd (omega arith)
block_is (s ∷ ss) m p = refl
