use Rattle.std.proofs.Common.{ℕ, List, IsErrOf, sym, ◌∙◌, ap, subst, arith, rules}
use Rattle.kishu_store.specs.Holds.{Ends, Holds, graph_of, IsBroken, IsForeign}
use Rattle.kishu_journal.specs.Found.{entries_of}
use Rattle.kishu_store_laws.specs.Laws.{broken-ends, broken-holds, foreign-holds, foreign-broken, one_place}
use Rattle.kishu_journal.specs.declared.journal.JournalFault.TheVariants.{NotAJournal, Damaged}
use Rattle.kishu_journal.specs.Stands.{JournalState}
use Rattle.kishu_journal.specs.Opened.{IsOpened}
use Rattle.kishu_journal.proofs.Faults.{not_damaged, damaged_there, only_outside}
use Rattle.kishu_journal.proofs.Openings.{opened-still, opened-anew, opened-stands, opened-holds, opened-fit, opened-rules, opened-most, opened-below, opened-near}
use Rattle.kishu_journal.proofs.journal.Journal.attach.Goals as goal

pub returns-then-len-le17-clause-found : goal.returns-then-len-le17-clause-found
returns-then-len-le17-clause-found g c =
    let s = g.H.Host.state c.begin.new.host in
    let o = opened-anew s c.new.result.items c.new.ensures.items (λ told. c.in-Ok-begin.ensures.fresh (sym c.begin.ensures.tells ∙ told)) in
    subst (λ (n : ℕ). IsOpened s n c.new.result.items) (sym (ap (λ (j : JournalState). j.place) c.at.ensures)) o

pub returns-then-len-le17-clause-stands : goal.returns-then-len-le17-clause-stands
returns-then-len-le17-clause-stands g c told =
    let s = g.H.Host.state c.begin.new.host in
    let o = opened-anew s c.new.result.items c.new.ensures.items (λ told. c.in-Ok-begin.ensures.fresh (sym c.begin.ensures.tells ∙ told)) in
    opened-stands s 16 c.new.result.items o c.at.result (ap (λ (j : JournalState). j.place) c.at.ensures) (c.begin.ensures.tells ∙ c.settle.ensures.quiet.time.tells ∙ told)

pub returns-in_err-found-clause-foreign_file : goal.returns-in_err-found-clause-foreign_file
returns-in_err-found-clause-foreign_file g c told foreign =
    let file = (g.H.Host.state c.args.host.now).file in
    let same = c.settle.ensures.quiet.keeps.file in
    not_damaged
    c.from_residual.result
    c.from_residual.ensures.0
    (λ at err.
    let was : IsErrOf c.read_store.result (Damaged at) = search rules in
    foreign-broken file at foreign (subst (λ (f : List ℕ). IsBroken f at) same (c.read_store.ensures.damaged at was (c.settle.ensures.quiet.time.tells ∙ told))))

pub returns-in_err-found-clause-broken_file : goal.returns-in_err-found-clause-broken_file
returns-in_err-found-clause-broken_file g c told at broken =
    let file = (g.H.Host.state c.args.host.now).file in
    let same = c.settle.ensures.quiet.keeps.file in
    let told1 = c.settle.ensures.quiet.time.tells ∙ told in
    damaged_there
    c.from_residual.result
    at
    c.from_residual.ensures.0
    (λ err.
    let was : IsErrOf c.read_store.result NotAJournal = search rules in
    foreign-broken file at (subst (λ (f : List ℕ). IsForeign f) same (c.read_store.ensures.foreign was told1)) broken)
    (λ there err.
    let was : IsErrOf c.read_store.result (Damaged there) = search rules in
    one_place file there at (subst (λ (f : List ℕ). IsBroken f there) same (c.read_store.ensures.damaged there was told1)) broken)

pub returns-in_err-found-clause-good_file : goal.returns-in_err-found-clause-good_file
returns-in_err-found-clause-good_file g c told good =
    let file = (g.H.Host.state c.args.host.now).file in
    let same = c.settle.ensures.quiet.keeps.file in
    let told1 = c.settle.ensures.quiet.time.tells ∙ told in
    only_outside
    c.from_residual.result
    c.from_residual.ensures.0
    (λ err.
    let was : IsErrOf c.read_store.result NotAJournal = search rules in
    foreign-holds file good.0 (subst (λ (f : List ℕ). IsForeign f) same (c.read_store.ensures.foreign was told1)) good.1)
    (λ at err.
    let was : IsErrOf c.read_store.result (Damaged at) = search rules in
    broken-holds file at good.0 (subst (λ (f : List ℕ). IsBroken f at) same (c.read_store.ensures.damaged at was told1)) good.1)

pub at-requires-2 : goal.at-requires-2
at-requires-2 g c = omega (arith, opened-below _ _ _ c.in_ok-found.ensures.found)

pub returns-clause-found : goal.returns-clause-found
returns-clause-found g c =
    let st = g.H.Host.state in
    let o = opened-still (st c.settle.new.host) (st c.read_store.new.host) c.in_ok-found.place c.in_ok-found.found.items c.read_store.ensures.quiet c.in_ok-found.ensures.found in
    subst (λ (n : ℕ). IsOpened (st c.read_store.new.host) n c.in_ok-found.found.items) (sym (ap (λ (j : JournalState). j.place) c.at-2.ensures)) o

pub returns-clause-stands : goal.returns-clause-stands
returns-clause-stands g c told =
    let st = g.H.Host.state in
    let o = opened-still (st c.settle.new.host) (st c.read_store.new.host) c.in_ok-found.place c.in_ok-found.found.items c.read_store.ensures.quiet c.in_ok-found.ensures.found in
    opened-stands (st c.read_store.new.host) c.in_ok-found.place c.in_ok-found.found.items o c.at-2.result (ap (λ (j : JournalState). j.place) c.at-2.ensures) (c.read_store.ensures.quiet.time.tells ∙ c.settle.ensures.quiet.time.tells ∙ told)

pub returns-clause-good : goal.returns-clause-good
returns-clause-good g c told =
    let st = g.H.Host.state in
    subst (λ (f : List ℕ). Holds f (graph_of (entries_of c.in_ok-found.found.items))) c.settle.ensures.quiet.keeps.file
    (opened-holds (st c.settle.new.host) c.in_ok-found.place c.in_ok-found.found.items c.in_ok-found.ensures.found (c.settle.ensures.quiet.time.tells ∙ told))

pub returns-clause-fit : goal.returns-clause-fit
returns-clause-fit g c = opened-fit _ _ _ c.in_ok-found.ensures.found

pub returns-clause-rules : goal.returns-clause-rules
returns-clause-rules g c = opened-rules _ _ _ c.in_ok-found.ensures.found

pub returns-clause-most : goal.returns-clause-most
returns-clause-most g c = opened-most _ _ _ c.in_ok-found.ensures.found

pub returns-clause-near : goal.returns-clause-near
returns-clause-near g c = opened-near _ _ _ c.in_ok-found.ensures.found

pub returns-clause-broken_file : goal.returns-clause-broken_file
returns-clause-broken_file g c told at broken =
    let file = (g.H.Host.state c.args.host.now).file in
    let o = c.in_ok-found.ensures.found in
    let ends = subst (λ (f : List ℕ). Ends f o.records) c.settle.ensures.quiet.keeps.file (o.ends (c.settle.ensures.quiet.time.tells ∙ told)) in
    absurd (broken-ends file at o.records broken ends)
