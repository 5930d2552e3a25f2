use Rattle.std.proofs.Common.{◌∙◌, ℕ, List, Vec, Global, ap, length, arith}
use Rattle.kishu_store.specs.Entries.{entries_in}
use Rattle.kishu_store.specs.EntryBytes.{body_of}
use Rattle.kishu_store_laws.specs.EntryLaws.{entry-is}
use Rattle.kishu_record.specs.Entries.{record_of as pictured}
use Rattle.kishu_session.specs.Committing.{record_of}
use Rattle.kishu_session.proofs.Recordings.{next-is, journal-after, recorded-by, body-length}
use Rattle.kishu_session.proofs.recording.append.Goals as goal

pub encode-requires : goal.encode-requires
encode-requires g c = entry-is (record_of c.args.made.now) c.requires.rules

pub returns-in-Ok-append-clause-stands : goal.returns-in-Ok-append-clause-stands
returns-in-Ok-append-clause-stands g c told rs now j l =
    let st = g.H.Host.state in
    let r = record_of c.args.made.now in
    let body_is = c.deref-2.ensures.value ∙ c.in-Ok.ensures ∙ ap (λ (ps : List (Vec ℕ Global)). body_of (pictured c.args.made.now.entry ps))
    c.deref.ensures.value in
    let next = next-is c.args.journal.now (st c.args.host.now).file c.deref-2.result.now rs r j body_is now c.requires.rules l in
    journal-after c.append.new.self (st c.append.new.host).file rs r (c.in-Ok-append.ensures.stands told (entries_in rs) r.entry next)
    (c.in-Ok-append.ensures.records told (entries_in rs) r.entry next)

pub returns-in-Ok-append-clause-place : goal.returns-in-Ok-append-clause-place
returns-in-Ok-append-clause-place g c h at =
    let body_is = c.deref-2.ensures.value ∙ c.in-Ok.ensures ∙ ap (λ (ps : List (Vec ℕ Global)). body_of (pictured c.args.made.now.entry ps))
    c.deref.ensures.value in
    omega (arith, at, c.in-Ok-append.ensures.place, body-length (record_of c.args.made.now) c.requires.rules, ap length body_is)

pub returns-in-Ok-append-clause-bytes : goal.returns-in-Ok-append-clause-bytes
returns-in-Ok-append-clause-bytes g c told rs j =
    let st = g.H.Host.state in
    let body_is = c.deref-2.ensures.value ∙ c.in-Ok.ensures ∙ ap (λ (ps : List (Vec ℕ Global)). body_of (pictured c.args.made.now.entry ps))
    c.deref.ensures.value in
    recorded-by c.args.journal.now (st c.args.host.now).file c.deref-2.result.now rs (record_of c.args.made.now) j body_is
    (st c.append.new.host).file (c.in-Ok-append.ensures.bytes told)

pub returns-in-Ok-append-clause-stop : goal.returns-in-Ok-append-clause-stop
returns-in-Ok-append-clause-stop g c told only rs now j l =
    let r = record_of c.args.made.now in
    let body_is = c.deref-2.ensures.value ∙ c.in-Ok.ensures ∙ ap (λ (ps : List (Vec ℕ Global)). body_of (pictured c.args.made.now.entry ps))
    c.deref.ensures.value in
    c.append.ensures.stop_records told only (entries_in rs) r.entry
    (next-is c.args.journal.now (g.H.Host.state c.args.host.now).file c.deref-2.result.now rs r j body_is now c.requires.rules l)

pub returns-in-Err-DiskFault-clause-stop : goal.returns-in-Err-DiskFault-clause-stop
returns-in-Err-DiskFault-clause-stop g c told only rs now j l =
    let r = record_of c.args.made.now in
    let body_is = c.deref-2.ensures.value ∙ c.in-Ok.ensures ∙ ap (λ (ps : List (Vec ℕ Global)). body_of (pictured c.args.made.now.entry ps))
    c.deref.ensures.value in
    c.append.ensures.stop_records told only (entries_in rs) r.entry
    (next-is c.args.journal.now (g.H.Host.state c.args.host.now).file c.deref-2.result.now rs r j body_is now c.requires.rules l)
