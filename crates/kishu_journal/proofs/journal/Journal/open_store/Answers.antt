use Rattle.std.proofs.Common.{ℕ, List, IsErrOf, ap, sym, ◌∙◌, subst, arith, rules}
use Rattle.kishu_store.specs.Holds.{IsBroken, IsForeign}
use Rattle.kishu_store_laws.specs.Laws.{broken-holds, foreign-holds, foreign-broken, one_place}
use Rattle.kishu_journal.specs.declared.journal.JournalFault.TheVariants.{NotAJournal, Damaged}
use Rattle.kishu_journal.specs.Stands.{JournalState}
use Rattle.kishu_journal.specs.Stores.{IsRead}
use Rattle.kishu_journal.proofs.Faults.{not_damaged, damaged_there, only_outside}
use Rattle.kishu_journal.proofs.Openings.{read-below}
use Rattle.kishu_journal.proofs.Stored.{anew-opens, read-opens, opens-history, long-tables, short-tables}
use Rattle.kishu_journal.proofs.journal.Journal.open_store.Goals as goal

pub returns-then-len-le17-clause-opens : goal.returns-then-len-le17-clause-opens
returns-then-len-le17-clause-opens g c =
    let st = g.H.Host.state in
    let tells = c.begin.ensures.tells ∙ c.settle.ensures.quiet.time.tells in
    anew-opens (st c.args.host.now) (st c.begin.new.host) (record { journal = c.at.result; graph = c.in-Ok-new.graph })
    (ap (λ (j : JournalState). j.place) c.at.ensures) (record { graph = c.in-Ok-new.ensures.graph; changes = c.in-Ok-new.ensures.tables }) tells
    (λ told. omega (arith, c.in-Ok.ensures.len told, c.if-len-le17.true))
    (λ told. c.in-Ok-begin.ensures.fresh (c.settle.ensures.quiet.time.tells ∙ told))

pub returns-then-len-le17-clause-tables : goal.returns-then-len-le17-clause-tables
returns-then-len-le17-clause-tables g c =
    short-tables (g.H.Host.state c.args.host.now) c.in-Ok-new.graph (record { graph = c.in-Ok-new.ensures.graph; changes = c.in-Ok-new.ensures.tables })
    (λ told. omega (arith, c.in-Ok.ensures.len told, c.if-len-le17.true))

pub returns-then-len-le17-clause-known : goal.returns-then-len-le17-clause-known
returns-then-len-le17-clause-known g c =
    opens-history (g.H.Host.state c.args.host.now) (g.H.Host.state c.begin.new.host) (record { journal = c.at.result; graph = c.in-Ok-new.graph })
    (returns-then-len-le17-clause-opens g c)

pub returns-in_err-graph-clause-foreign_file : goal.returns-in_err-graph-clause-foreign_file
returns-in_err-graph-clause-foreign_file g c told foreign =
    let file = (g.H.Host.state c.args.host.now).file in
    let same = c.settle.ensures.quiet.keeps.file in
    not_damaged
    c.from_residual.result
    c.from_residual.ensures.0
    (λ at err.
    let was : IsErrOf c.read_store.result (Damaged at) = search rules in
    foreign-broken file at foreign (subst (λ (f : List ℕ). IsBroken f at) same (c.read_store.ensures.damaged at was (c.settle.ensures.quiet.time.tells ∙ told))))

pub returns-in_err-graph-clause-broken_file : goal.returns-in_err-graph-clause-broken_file
returns-in_err-graph-clause-broken_file g c told at broken =
    let file = (g.H.Host.state c.args.host.now).file in
    let same = c.settle.ensures.quiet.keeps.file in
    let told1 = c.settle.ensures.quiet.time.tells ∙ told in
    damaged_there
    c.from_residual.result
    at
    c.from_residual.ensures.0
    (λ err.
    let was : IsErrOf c.read_store.result NotAJournal = search rules in
    foreign-broken file at (subst (λ (f : List ℕ). IsForeign f) same (c.read_store.ensures.foreign was told1)) broken)
    (λ there err.
    let was : IsErrOf c.read_store.result (Damaged there) = search rules in
    one_place file there at (subst (λ (f : List ℕ). IsBroken f there) same (c.read_store.ensures.damaged there was told1)) broken)

pub returns-in_err-graph-clause-good_file : goal.returns-in_err-graph-clause-good_file
returns-in_err-graph-clause-good_file g c told good =
    let file = (g.H.Host.state c.args.host.now).file in
    let same = c.settle.ensures.quiet.keeps.file in
    let told1 = c.settle.ensures.quiet.time.tells ∙ told in
    only_outside
    c.from_residual.result
    c.from_residual.ensures.0
    (λ err.
    let was : IsErrOf c.read_store.result NotAJournal = search rules in
    foreign-holds file good.0 (subst (λ (f : List ℕ). IsForeign f) same (c.read_store.ensures.foreign was told1)) good.1)
    (λ at err.
    let was : IsErrOf c.read_store.result (Damaged at) = search rules in
    broken-holds file at good.0 (subst (λ (f : List ℕ). IsBroken f at) same (c.read_store.ensures.damaged at was told1)) good.1)

pub at-requires-2 : goal.at-requires-2
at-requires-2 g c = (let read = c.in_ok-graph.ensures.read in omega (arith, read-below _ _ read.records read.are_read))

pub returns-clause-opens : goal.returns-clause-opens
returns-clause-opens g c =
    let st = g.H.Host.state in
    let read = c.in_ok-graph.ensures.read in
    read-opens (st c.args.host.now) (st c.settle.new.host) (st c.read_store.new.host) (record { journal = c.at-2.result; graph = c.in_ok-graph.graph })
    c.settle.ensures.quiet c.read_store.ensures.quiet
    (subst (λ (n : ℕ). IsRead (st c.read_store.new.host) n c.in_ok-graph.graph) (sym (ap (λ (j : JournalState). j.place) c.at-2.ensures)) read)

pub returns-clause-foreign_file : goal.returns-clause-foreign_file
returns-clause-foreign_file g c told foreign = absurd (foreign-holds (g.H.Host.state c.args.host.now).file _ foreign ((returns-clause-opens g c).good told))

pub returns-clause-broken_file : goal.returns-clause-broken_file
returns-clause-broken_file g c told at broken = absurd (broken-holds (g.H.Host.state c.args.host.now).file at _ broken ((returns-clause-opens g c).good told))

pub returns-clause-tables : goal.returns-clause-tables
returns-clause-tables g c =
    let st = g.H.Host.state in
    long-tables (st c.args.host.now) (st c.read_store.new.host) (record { journal = c.at-2.result; graph = c.in_ok-graph.graph }) (returns-clause-opens g c)
    (λ told. c.read_store.ensures.quiet.time.tells ∙ c.settle.ensures.quiet.time.tells ∙ told)
    (λ told. c.read_store.ensures.quiet.keeps.file ∙ c.settle.ensures.quiet.keeps.file)

pub returns-clause-known : goal.returns-clause-known
returns-clause-known g c =
    let st = g.H.Host.state in
    opens-history (st c.args.host.now) (st c.read_store.new.host) (record { journal = c.at-2.result; graph = c.in_ok-graph.graph }) (returns-clause-opens g c)
