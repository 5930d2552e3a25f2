-- What a cursor has read.
use Rattle.std.specs.Prelude.{◌≡◌, ℕ, suc, List, ◌++◌, ◌∷◌, length}
use Rattle.kishu_store.specs.EntryBytes.{many, text_bytes}
use Rattle.kishu_store.specs.Rules.{AreCells}
use Rattle.kishu_record.specs.declared.cursor.Cells.{Cells}
use Rattle.kishu_record.specs.declared.cursor.Cursor.{Cursor}

-- These bytes were read, and the rest is left.
abbrev pub Took : Cursor → List ℕ → Cursor → Type 0
Took old bytes new = old.rest.now ≡ bytes ++ new.rest.now

-- Cells were read behind their number: so many, this text the first, and these behind it.
pub record TookCells (old : Cursor) (cells : Cells) (new : Cursor) : Type 0 where
  pub others : List (List ℕ)
  pub count : cells.count ≡ suc (length others)
  pub fit : AreCells (cells.first.now ∷ others)
  pub took : Took old (many text_bytes (cells.first.now ∷ others)) new
