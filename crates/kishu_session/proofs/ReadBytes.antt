-- How many bytes are read by calls one after another, and by the loading of the rows in which two tables differ.
use Rattle.std.proofs.Common.{◌≡◌, ◌≤◌, ◌+◌, ℕ, Option, Some, None, refl, subst, arith}
use Rattle.kishu_host.specs.Host as host
use Rattle.kishu_store.specs.Histories.{head_table}
use Rattle.kishu_store.specs.Tables.{Table, bytes_in}
use Rattle.kishu_graph.specs.Tables.{IsTableOf, table_of_rows}
use Rattle.kishu_history.specs.Checkout.{to_load}
use Rattle.kishu_journal.specs.Going.{ReadsAtMost}
use Rattle.kishu_session.specs.Head.{ReadsToLoad}
use Rattle.kishu_session.specs.declared.head.Head.{Head}
use Rattle.kishu_session.proofs.LoadFacts.{head-table-is}

pub reads-still : (a : Option ℕ) (n : ℕ) → ReadsAtMost a a n
reads-still None n = tt
reads-still (Some x) n = (x, refl, omega arith)

pub reads-within : (a b : Option ℕ) (m n : ℕ) → ReadsAtMost a b m → m ≤ n → ReadsAtMost a b n
reads-within a None m n p le = tt
reads-within a (Some y) m n p le = (p.0, p.1, omega (arith, p.2, le))

pub reads-then : (a b c : Option ℕ) (m n most : ℕ) → ReadsAtMost a b m → ReadsAtMost b c n → m + n ≤ most → ReadsAtMost a c most
reads-then a b None m n most p q le = tt
reads-then a None (Some z) m n most p q le = absurd (cc (q.1))
reads-then a (Some y) (Some z) m n most p q le =
    let same : y ≡ q.0 = cc (q.1) in
    (p.0, p.1, omega (arith, p.2, q.2, same, le))

-- ---- from the table that is kept to that of the head's commit

pub reads-nothing : (head : Head) (s : host.State) → ReadsToLoad head s s
reads-nothing head s h k = reads-still s.reads (bytes_in (to_load (table_of_rows head.table) (head_table h)))

pub reads-rows : (head : Head) (s t : host.State) (c : ℕ) (u : Table) → c ≡ head.graph.head.commit → IsTableOf head.graph c u
    → ReadsAtMost s.reads t.reads (bytes_in (to_load (table_of_rows head.table) u)) → ReadsToLoad head s t
reads-rows head s t c u at is reads h k =
    subst (λ (x : Table). ReadsAtMost s.reads t.reads (bytes_in (to_load (table_of_rows head.table) x))) (head-table-is head.graph c u at is h k) reads
