-- Which request, which refusal and which answer a value of the program is.
use Rattle.std.specs.Prelude.{ℕ, ◌==◌, if◌then◌else◌, List, map, Option, Some, None, option_map}
use Rattle.std.specs.Rc.{rc_str_bytes}
use Rattle.std.specs.declared.alloc.Global.{Global}
use Rattle.std.specs.declared.rc.RcStr.{RcStr}
use Rattle.std.specs.declared.vec.Vec.{Vec}
use Rattle.kishu_meaning.specs.values.Values.{report_of}
use Rattle.kishu_model.specs.Answers.{Refusal, bad_request, no_such_ref, bad_name, name_taken, store_full, cell_too_long, state_too_large, Counted, PathRow, Answer, ran_cell, ran_cells, checked_out, branched, logged, told_status, inspected, told_stored, told_plan, refused}
use Rattle.kishu_model.specs.Request.{Request, cell, cells, checkout, branch, log, status, inspect, stored, plan}
use Rattle.kishu_model.specs.declared.request.Request as rust_request
use Rattle.kishu_model.specs.declared.request.Request.TheVariants as asks
use Rattle.kishu_model.specs.declared.refusal.Refusal as rust_refusal
use Rattle.kishu_model.specs.declared.refusal.Refusal.TheVariants as refuses
use Rattle.kishu_model.specs.declared.answer.Counted as rust_counted
use Rattle.kishu_model.specs.declared.answer.PathRow as rust_row
use Rattle.kishu_model.specs.declared.answer.Answer as rust_answer
use Rattle.kishu_model.specs.declared.answer.Answer.TheVariants as answers

abbrev pub request_of : rust_request.Request → Request
request_of (asks.Cell text) = cell (rc_str_bytes text)
request_of (asks.Cells texts) = cells (map rc_str_bytes texts.items)
request_of (asks.Checkout to) = checkout (rc_str_bytes to)
request_of (asks.Branch name at) = branch (rc_str_bytes name) (option_map rc_str_bytes at)
request_of asks.Log = log
request_of asks.Status = status
request_of asks.Inspect = inspect
request_of (asks.Stored of) = stored (rc_str_bytes of)
request_of (asks.Plan to) = plan (rc_str_bytes to)

abbrev pub refusal_of : rust_refusal.Refusal → Refusal
refusal_of refuses.BadRequest = bad_request
refusal_of refuses.NoSuchRef = no_such_ref
refusal_of refuses.BadName = bad_name
refusal_of refuses.NameTaken = name_taken
refusal_of refuses.StoreFull = store_full
refusal_of refuses.CellTooLong = cell_too_long
refusal_of (refuses.StateTooLarge bytes) = state_too_large bytes

-- the refusal of a number, where it is one that tells no bytes
abbrev pub plainly_numbered : ℕ → Option Refusal
plainly_numbered n =
    if n == 1 then Some bad_request
    else if n == 2 then Some no_such_ref
    else if n == 3 then Some bad_name
    else if n == 4 then Some name_taken
    else if n == 5 then Some store_full
    else if n == 6 then Some cell_too_long
    else None

-- the refusal of a number that tells these bytes
abbrev pub numbered : ℕ → Option ℕ → Option Refusal
numbered n None = plainly_numbered n
numbered n (Some bytes) = if n == 7 then Some (state_too_large bytes) else None

abbrev pub counted_of : rust_counted.Counted → Counted
counted_of c = record { count = c.count; report = report_of c.result }

abbrev pub row_of : rust_row.PathRow → PathRow
row_of row = record { cells = row.cells; commit = row.commit; line = rc_str_bytes row.line; parent = row.parent }

abbrev pub entry_of : RcStr Global × ℕ → List ℕ × ℕ
entry_of b = (rc_str_bytes b.0, b.1)

-- a name with a text, and the texts of a node
abbrev pub named_of : RcStr Global × RcStr Global → List ℕ × List ℕ
named_of b = (rc_str_bytes b.0, rc_str_bytes b.1)

abbrev pub texts_of : Vec (RcStr Global) Global → List (List ℕ)
texts_of texts = map rc_str_bytes texts.items

-- None is a number that no refusal has, or bytes that don't go with it.
abbrev pub answer_of : rust_answer.Answer → Option Answer
answer_of (answers.Cell commit count result) = Some (ran_cell commit count (report_of result))
answer_of (answers.Cells commit results) = Some (ran_cells commit (map counted_of results.items))
answer_of (answers.Checkout commit head) = Some (checked_out commit (option_map rc_str_bytes head))
answer_of (answers.Branch commit name) = Some (branched commit (rc_str_bytes name))
answer_of (answers.Log branches path) = Some (logged (map entry_of branches.items) (map row_of path.items))
answer_of (answers.Status head commit commits names records) =
    Some (told_status (record { branch = option_map rc_str_bytes head; commit = commit; commits = commits; names = map rc_str_bytes names.items; records = records }))
answer_of (answers.Inspect commit names nodes) = Some (inspected commit (map named_of names.items) (map texts_of nodes.items))
answer_of (answers.Stored commit gone new) = Some (told_stored commit (map texts_of gone.items) (map texts_of new.items))
answer_of (answers.Plan commit gone kept more) = Some (told_plan commit (map texts_of gone.items) (map texts_of kept.items) (map texts_of more.items))
answer_of (answers.Refused number bytes) = option_map refused (numbered number bytes)
