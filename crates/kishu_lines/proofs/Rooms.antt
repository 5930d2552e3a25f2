-- The texts of a line's request fit one record.
use Rattle.std.proofs.Common.{ℕ, ◌*◌, ◌≤◌, ◌<◌, ◌^◌, List, [], ◌∷◌, length, map, arith}
use Rattle.serde_json.specs.Data.{Data, string}
use Rattle.serde_json.specs.View.{items_of}
use Rattle.kishu_json_laws.specs.ValueSizes.{size, items_size, read_size}
use Rattle.kishu_model.specs.Reading.{Tells, tells_cell, tells_cells, tells_checkout, tells_branch, tells_branch_at, tells_log, tells_status, tells_inspect, tells_stored, tells_plan, Reads}
use Rattle.kishu_model.specs.Request.{Request}
use Rattle.kishu_model.specs.requests.Cells.{texts_size, HasRoom}

listed_size : (texts : List (List ℕ)) → texts_size texts ≤ 2 * items_size (items_of (map string texts))
listed_size [] = omega arith
listed_size (text ∷ texts) = omega (arith, listed_size texts)

told_room : {d : Data} {q : Request} → Tells d q → size d < 2 ^ 24 → HasRoom q
told_room (tells_cell text) short = tt
told_room (tells_cells text texts) short = omega (arith, listed_size texts, short)
told_room (tells_checkout to) short = tt
told_room (tells_branch name) short = tt
told_room (tells_branch_at name at) short = tt
told_room tells_log short = tt
told_room tells_status short = tt
told_room tells_inspect short = tt
told_room (tells_stored of) short = tt
told_room (tells_plan to) short = tt

pub has_room : (line : List ℕ) (q : Request) → Reads line q → length line < 2 ^ 24 → HasRoom q
has_room line q reads short = told_room reads.tells (omega (arith, read_size line reads.data_read reads.is_read, short))
