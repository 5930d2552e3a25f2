-- Calls that only read, one after another.
use Rattle.std.specs.Prelude.{◌≡◌, ◌≤◌, ℕ, ◌+◌, Option, Some, None}
use Rattle.std.proofs.Common.{arith}
use Rattle.kishu_host.specs.Host.{State, ReadsMore}
use Rattle.kishu_store.specs.Tables.{Table}
use Rattle.kishu_journal.specs.Going.{ReadsAtMost}
use Rattle.kishu_checkout.specs.Pictures.{LacksAt, LacksSome}

pub reads_on : (a b c : Option ℕ) (m n most : ℕ) → ReadsMore a b m → ReadsAtMost b c n → m + n ≤ most → ReadsAtMost a c most
reads_on a b None m n most p q le = tt
reads_on a None (Some z) m n most p q le = absurd (cc (q.1))
reads_on a (Some y) (Some z) m n most p q le =
    let same : y ≡ q.0 = cc (q.1) in
    (p.0, p.1, omega (arith, p.2, q.2, same, le))

-- ---- damage

pub lacks_some : (a : State) (t : Table) (at : ℕ) → LacksAt a t at → LacksSome a t
lacks_some a t at l told each = (let k = each l.row l.there in l.none told k.0 k.1)
