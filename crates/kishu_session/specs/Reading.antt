-- Which pictures a session reads.
use Rattle.std.specs.Prelude.{◌≡◌, ℕ, None}
use Rattle.kishu_store.specs.Graph.{Graph}
use Rattle.kishu_store.specs.Histories.{History, head_table, table_to}
use Rattle.kishu_store.specs.References.{resolve}
use Rattle.kishu_store.specs.Tables.{Table}
use Rattle.kishu_history.specs.Checkout.{to_load}
use Rattle.kishu_graph.specs.Refusals.{unless_there}
use Rattle.kishu_model.specs.Request.{Request, cell, cells, checkout, branch, log, status, inspect, stored, plan, unreadable}
use Rattle.kishu_model.specs.Serve.{after}

-- the commit whose table a request may read: the one to which a checkout goes, and for cells the head's, to which they may come back and for whose groups they may ask
abbrev pub reads_at : Graph → Request → ℕ
reads_at g unreadable = g.head.commit
reads_at g (cell text) = g.head.commit
reads_at g (cells texts) = g.head.commit
reads_at g (checkout to) = (after g (checkout to)).head.commit
reads_at g (branch name at) = g.head.commit
reads_at g log = g.head.commit
reads_at g status = g.head.commit
reads_at g inspect = g.head.commit
reads_at g (stored of) = g.head.commit
reads_at g (plan to) = g.head.commit

-- the rows whose pictures it may read: for cells those of the head's table, and for a checkout those of the commit to which it goes that the head's table doesn't have alike
abbrev pub rows_read : History → Request → Table
rows_read h unreadable = head_table h
rows_read h (cell text) = head_table h
rows_read h (cells texts) = head_table h
rows_read h (checkout to) = to_load (head_table h) (table_to h (reads_at h.graph (checkout to)))
rows_read h (branch name at) = head_table h
rows_read h log = head_table h
rows_read h status = head_table h
rows_read h inspect = head_table h
rows_read h (stored of) = head_table h
rows_read h (plan to) = head_table h

-- Whether it may read any: cells may, and a checkout to what is there, where the store has room for a record.
abbrev pub MayRead : Graph → Request → Type 0
MayRead g unreadable = ⊥
MayRead g (cell text) = Unit {0}
MayRead g (cells texts) = Unit {0}
MayRead g (checkout to) = unless_there (resolve g to) g ≡ None
MayRead g (branch name at) = ⊥
MayRead g log = ⊥
MayRead g status = ⊥
MayRead g inspect = ⊥
MayRead g (stored of) = ⊥
MayRead g (plan to) = ⊥
