-- The requests that texts of the code ask for.
use Rattle.std.specs.Prelude.{List, Option}
use Rattle.std.specs.declared.rc.RcStr.{RcStr}
use Rattle.std.specs.declared.alloc.Global.{Global}
use Rattle.std.specs.Rc.{rc_str_bytes}
use Rattle.kishu_model.specs.Request.{Request, cell, cells, branch}
use Rattle.kishu_session.specs.TextLists.{texts_of, text_in}

abbrev pub cell_for : RcStr Global → Request
cell_for text = cell (rc_str_bytes text)

abbrev pub cells_for : List (RcStr Global) → Request
cells_for texts = cells (texts_of texts)

abbrev pub branch_for : RcStr Global → Option (RcStr Global) → Request
branch_for name at = branch (rc_str_bytes name) (text_in at)
