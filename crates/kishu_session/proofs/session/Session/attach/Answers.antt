use Rattle.std.proofs.Common.{◌≡◌, ◌*◌, inl, inr, ℕ, List, Err, length, refl, sym, ◌∙◌, ap, subst, arith}
use Rattle.std.specs.Prelude.{IsErrOf, Option}
use Rattle.std.proofs.lemmas.Result.{err_from_is_err_and}
use Rattle.kishu_store.specs.Entries.{entries_in}
use Rattle.kishu_store.specs.Holds.{graph_of}
use Rattle.kishu_store_laws.specs.Laws.{one_graph}
use Rattle.kishu_checkout.specs.Pictures.{told_file}
use Rattle.kishu_session.specs.Head.{IsLoaded}
use Rattle.kishu_session.specs.Lives.{state_of}
use Rattle.kishu_session.specs.declared.halt.Halt.TheVariants.{NotAJournal, Damaged, DiskFault}
use Rattle.kishu_session.proofs.AttachFacts.{loaded-attached, opens-nodes}
use Rattle.kishu_session.proofs.BadFiles.{error-on, handed-on, opened-not-broken, opened-not-foreign}
use Rattle.kishu_session.proofs.BoundedFacts.{known-bounded}
use Rattle.kishu_session.proofs.Halts.{was-damaged}
use Rattle.kishu_session.proofs.LiveFacts.{head-loaded}
use Rattle.kishu_session.proofs.LoadFacts.{told-file-same}
use Rattle.kishu_session.proofs.OpenedFacts.{opened-known, head-known, opened-at-end, opened-history, opened-kept, lacks-is-long, lacks-picture, opening-reads}
use Rattle.kishu_session.proofs.OpeningFacts.{gave-back, opening-then, opening-held, opening-held-good, opening-bad, opening-settled, opening-settled-good, opening-stop, opening-stop-good, opening-damaged}
use Rattle.kishu_session.proofs.ReadBytes.{reads-within}
use Rattle.kishu_session.proofs.session.Session.attach.Goals as goal

-- ---- a store that isn't opened

pub returns-in_err-journal-clause-bad : goal.returns-in_err-journal-clause-bad
returns-in_err-journal-clause-bad g c =
    let st = g.H.Host.state in
    opening-bad (IsErrOf c.opened.result DiskFault) (st c.args.host.now) (st c.opened.new.host) c.opened.ensures.opening

pub returns-in_err-journal-clause-settled_good : goal.returns-in_err-journal-clause-settled_good
returns-in_err-journal-clause-settled_good g c told g' good =
    let st = g.H.Host.state in
    let p = err_from_is_err_and c.from_residual.result c.from_residual.ensures.1 in
    let was : IsErrOf c.opened.result p.0 = cc (p.1, p.2, c.in_err-journal.is) in
    elim (opening-settled-good (IsErrOf c.opened.result DiskFault) (st c.args.host.now) (st c.opened.new.host) c.opened.ensures.opening told g' good) [
      | inl unsynced ↦ inl (error-on c.opened.result c.from_residual.result p.0 was p.1 DiskFault unsynced.0, unsynced.1)
      | inr only ↦ inr only
    ]

pub returns-in_err-journal-clause-reads : goal.returns-in_err-journal-clause-reads
returns-in_err-journal-clause-reads g c told =
    let st = g.H.Host.state in
    let s = st c.args.host.now in
    reads-within s.reads (st c.opened.new.host).reads (length s.file) (3 * length s.file) (c.opened.ensures.reads told) (omega arith)

pub returns-in_err-journal-clause-damaged_stays : goal.returns-in_err-journal-clause-damaged_stays
returns-in_err-journal-clause-damaged_stays g c at err told =
    let st = g.H.Host.state in
    let p = err_from_is_err_and c.from_residual.result c.from_residual.ensures.1 in
    let was : IsErrOf c.opened.result (Damaged at) = cc (err, p.1, p.2, c.in_err-journal.is) in
    opening-damaged (IsErrOf c.opened.result DiskFault) (st c.args.host.now) (st c.opened.new.host) c.opened.ensures.opening (λ fault. cc (fault, was)) told (c.opened.ensures.damaged at was told).long

pub returns-in_err-journal-clause-foreign_file : goal.returns-in_err-journal-clause-foreign_file
returns-in_err-journal-clause-foreign_file g c told foreign =
    let p = err_from_is_err_and c.from_residual.result c.from_residual.ensures.1 in
    let was : IsErrOf c.opened.result p.0 = cc (p.1, p.2, c.in_err-journal.is) in
    handed-on c.opened.result c.from_residual.result p.0 was p.1 NotAJournal (c.opened.ensures.foreign_file told foreign)

pub returns-in_err-journal-clause-broken_file : goal.returns-in_err-journal-clause-broken_file
returns-in_err-journal-clause-broken_file g c told at broken =
    let p = err_from_is_err_and c.from_residual.result c.from_residual.ensures.1 in
    let was : IsErrOf c.opened.result p.0 = cc (p.1, p.2, c.in_err-journal.is) in
    handed-on c.opened.result c.from_residual.result p.0 was p.1 (Damaged at) (c.opened.ensures.broken_file told at broken)

-- ---- a picture that isn't loaded

pub returns-in_err-head-clause-foreign_file : goal.returns-in_err-head-clause-foreign_file
returns-in_err-head-clause-foreign_file g c =
    let st = g.H.Host.state in
    opened-not-foreign (st c.args.host.now) (st c.opened.new.host) c.in_ok-journal.field-0 c.in_ok-journal.ensures.opens _

pub returns-in_err-head-clause-broken_file : goal.returns-in_err-head-clause-broken_file
returns-in_err-head-clause-broken_file g c =
    let st = g.H.Host.state in
    opened-not-broken (st c.args.host.now) (st c.opened.new.host) c.in_ok-journal.field-0 c.in_ok-journal.ensures.opens _

pub of_store-requires : goal.of_store-requires
of_store-requires g c = record { known = opened-known c.in_ok-journal.field-0.graph c.in_ok-journal.field-0.journal.place c.in_ok-journal.ensures.known }

pub returns-in_err-head-clause-held : goal.returns-in_err-head-clause-held
returns-in_err-head-clause-held g c =
    let st = g.H.Host.state in
    let Then = IsErrOf c.from_residual-in_err-head.result DiskFault in
    let o = opening-then _ Then (st c.args.host.now) (st c.opened.new.host) (st c.of_store.new.host) (g.met.H.Host.reads_now c.args.host.now) (λ fault. cc (fault)) c.in_ok-journal.ensures.opening c.of_store.ensures.quiet in
    opening-held Then (st c.args.host.now) (st c.of_store.new.host) o

pub returns-in_err-head-clause-settled : goal.returns-in_err-head-clause-settled
returns-in_err-head-clause-settled g c =
    let st = g.H.Host.state in
    let Then = IsErrOf c.from_residual-in_err-head.result DiskFault in
    let o = opening-then _ Then (st c.args.host.now) (st c.opened.new.host) (st c.of_store.new.host) (g.met.H.Host.reads_now c.args.host.now) (λ fault. cc (fault)) c.in_ok-journal.ensures.opening c.of_store.ensures.quiet in
    opening-settled Then (st c.args.host.now) (st c.of_store.new.host) o

pub returns-in_err-head-clause-held_good : goal.returns-in_err-head-clause-held_good
returns-in_err-head-clause-held_good g c =
    let st = g.H.Host.state in
    let Then = IsErrOf c.from_residual-in_err-head.result DiskFault in
    let o = opening-then _ Then (st c.args.host.now) (st c.opened.new.host) (st c.of_store.new.host) (g.met.H.Host.reads_now c.args.host.now) (λ fault. cc (fault)) c.in_ok-journal.ensures.opening c.of_store.ensures.quiet in
    opening-held-good Then (st c.args.host.now) (st c.of_store.new.host) o

pub returns-in_err-head-clause-bad : goal.returns-in_err-head-clause-bad
returns-in_err-head-clause-bad g c =
    let st = g.H.Host.state in
    let Then = IsErrOf c.from_residual-in_err-head.result DiskFault in
    let o = opening-then _ Then (st c.args.host.now) (st c.opened.new.host) (st c.of_store.new.host) (g.met.H.Host.reads_now c.args.host.now) (λ fault. cc (fault)) c.in_ok-journal.ensures.opening c.of_store.ensures.quiet in
    opening-bad Then (st c.args.host.now) (st c.of_store.new.host) o

pub returns-in_err-head-clause-settled_good : goal.returns-in_err-head-clause-settled_good
returns-in_err-head-clause-settled_good g c =
    let st = g.H.Host.state in
    let Then = IsErrOf c.from_residual-in_err-head.result DiskFault in
    let o = opening-then _ Then (st c.args.host.now) (st c.opened.new.host) (st c.of_store.new.host) (g.met.H.Host.reads_now c.args.host.now) (λ fault. cc (fault)) c.in_ok-journal.ensures.opening c.of_store.ensures.quiet in
    opening-settled-good Then (st c.args.host.now) (st c.of_store.new.host) o

pub returns-in_err-head-clause-stop : goal.returns-in_err-head-clause-stop
returns-in_err-head-clause-stop g c =
    let st = g.H.Host.state in
    let Then = IsErrOf c.from_residual-in_err-head.result DiskFault in
    let o = opening-then _ Then (st c.args.host.now) (st c.opened.new.host) (st c.of_store.new.host) (g.met.H.Host.reads_now c.args.host.now) (λ fault. cc (fault)) c.in_ok-journal.ensures.opening c.of_store.ensures.quiet in
    opening-stop Then (st c.args.host.now) (st c.of_store.new.host) o

pub returns-in_err-head-clause-stop_good : goal.returns-in_err-head-clause-stop_good
returns-in_err-head-clause-stop_good g c =
    let st = g.H.Host.state in
    let Then = IsErrOf c.from_residual-in_err-head.result DiskFault in
    let o = opening-then _ Then (st c.args.host.now) (st c.opened.new.host) (st c.of_store.new.host) (g.met.H.Host.reads_now c.args.host.now) (λ fault. cc (fault)) c.in_ok-journal.ensures.opening c.of_store.ensures.quiet in
    opening-stop-good Then (st c.args.host.now) (st c.of_store.new.host) o

pub returns-in_err-head-clause-damaged : goal.returns-in_err-head-clause-damaged
returns-in_err-head-clause-damaged g c at err told =
    let st = g.H.Host.state in
    let s = st c.args.host.now in
    let s1 = st c.opened.new.host in
    let store = c.in_ok-journal.field-0 in
    let opens = c.in_ok-journal.ensures.opens in
    let opening = c.in_ok-journal.ensures.opening in
    let p = err_from_is_err_and c.from_residual-in_err-head.result c.from_residual-in_err-head.ensures.1 in
    let e = was-damaged c.from_residual-in_err-head.result c.in_err-head.field-0.0 p at err in
    let lacks = c.in_err-head.ensures.damaged at (ap Err e) (opened-history s s1 store opens told) (opened-kept s s1 store opens told) in
    inr (lacks-picture s s1 store opens told (opening.long told) (opening.short told) (opening.tells ∙ told) at lacks)

pub returns-in_err-head-clause-damaged_stays : goal.returns-in_err-head-clause-damaged_stays
returns-in_err-head-clause-damaged_stays g c at err told =
    let st = g.H.Host.state in
    let s = st c.args.host.now in
    let s1 = st c.opened.new.host in
    let t = st c.of_store.new.host in
    let store = c.in_ok-journal.field-0 in
    let opens = c.in_ok-journal.ensures.opens in
    let opening = c.in_ok-journal.ensures.opening in
    let Then = IsErrOf c.from_residual-in_err-head.result DiskFault in
    let o = opening-then _ Then s s1 t (g.met.H.Host.reads_now c.args.host.now) (λ fault. cc (fault)) opening c.of_store.ensures.quiet in
    let p = err_from_is_err_and c.from_residual-in_err-head.result c.from_residual-in_err-head.ensures.1 in
    let e = was-damaged c.from_residual-in_err-head.result c.in_err-head.field-0.0 p at err in
    let lacks = c.in_err-head.ensures.damaged at (ap Err e) (opened-history s s1 store opens told) (opened-kept s s1 store opens told) in
    opening-damaged Then s t o (λ fault. cc (fault, err)) told (lacks-is-long s s1 store opens told (opening.long told) (opening.short told) (opening.tells ∙ told) at lacks)

pub returns-in_err-head-clause-reads : goal.returns-in_err-head-clause-reads
returns-in_err-head-clause-reads g c =
    let st = g.H.Host.state in
    let opening = c.in_ok-journal.ensures.opening in
    opening-reads (st c.args.host.now) (st c.opened.new.host) (st c.of_store.new.host) c.in_ok-journal.field-0 c.in_ok-journal.ensures.opens c.opened.ensures.reads opening.long opening.short c.of_store.ensures.reads

-- ---- a session

pub invariant_of-result : goal.invariant_of-result
invariant_of-result g c =
    let store = c.in_ok-journal.field-0 in
    record {
      going = λ _. c.in_ok-journal.ensures.going;
      known = λ _. head-known store.graph store.journal.place (told_file (g.H.Host.state c.opened.new.host)) c.in_ok-head.head c.in_ok-head.ensures.graph c.in_ok-journal.ensures.known c.in_ok-head.ensures.loaded c.in_ok-head.ensures.count;
      whole = λ _. c.in_ok-head.ensures.whole;
    }

pub returns-clause-known : goal.returns-clause-known
returns-clause-known g c =
    let store = c.in_ok-journal.field-0 in
    head-known store.graph store.journal.place (told_file (g.H.Host.state c.opened.new.host)) c.in_ok-head.head c.in_ok-head.ensures.graph c.in_ok-journal.ensures.known c.in_ok-head.ensures.loaded c.in_ok-head.ensures.count

pub returns-clause-bounded : goal.returns-clause-bounded
returns-clause-bounded g c = known-bounded c.in_ok-head.head c.in_ok-journal.field-0.journal.place (returns-clause-known g c)

pub returns-clause-foreign_file : goal.returns-clause-foreign_file
returns-clause-foreign_file g c =
    let st = g.H.Host.state in
    opened-not-foreign (st c.args.host.now) (st c.opened.new.host) c.in_ok-journal.field-0 c.in_ok-journal.ensures.opens _

pub returns-clause-broken_file : goal.returns-clause-broken_file
returns-clause-broken_file g c =
    let st = g.H.Host.state in
    opened-not-broken (st c.args.host.now) (st c.opened.new.host) c.in_ok-journal.field-0 c.in_ok-journal.ensures.opens _

pub returns-clause-held : goal.returns-clause-held
returns-clause-held g c =
    let st = g.H.Host.state in
    let o = opening-then _ ⊥ (st c.args.host.now) (st c.opened.new.host) (st c.of_store.new.host) (g.met.H.Host.reads_now c.args.host.now) (λ fault. cc (fault)) c.in_ok-journal.ensures.opening c.of_store.ensures.quiet in
    opening-held ⊥ (st c.args.host.now) (st c.of_store.new.host) o

pub returns-clause-held_good : goal.returns-clause-held_good
returns-clause-held_good g c =
    let st = g.H.Host.state in
    let o = opening-then _ ⊥ (st c.args.host.now) (st c.opened.new.host) (st c.of_store.new.host) (g.met.H.Host.reads_now c.args.host.now) (λ fault. cc (fault)) c.in_ok-journal.ensures.opening c.of_store.ensures.quiet in
    opening-held-good ⊥ (st c.args.host.now) (st c.of_store.new.host) o

pub returns-clause-bad : goal.returns-clause-bad
returns-clause-bad g c =
    let st = g.H.Host.state in
    let o = opening-then _ ⊥ (st c.args.host.now) (st c.opened.new.host) (st c.of_store.new.host) (g.met.H.Host.reads_now c.args.host.now) (λ fault. cc (fault)) c.in_ok-journal.ensures.opening c.of_store.ensures.quiet in
    opening-bad ⊥ (st c.args.host.now) (st c.of_store.new.host) o

pub returns-clause-settled : goal.returns-clause-settled
returns-clause-settled g c =
    let st = g.H.Host.state in
    let o = opening-then _ _ (st c.args.host.now) (st c.opened.new.host) (st c.of_store.new.host) (g.met.H.Host.reads_now c.args.host.now) (λ fault. cc (fault)) c.in_ok-journal.ensures.opening c.of_store.ensures.quiet in
    opening-settled _ (st c.args.host.now) (st c.of_store.new.host) o

pub returns-clause-settled_good : goal.returns-clause-settled_good
returns-clause-settled_good g c =
    let st = g.H.Host.state in
    let o = opening-then _ _ (st c.args.host.now) (st c.opened.new.host) (st c.of_store.new.host) (g.met.H.Host.reads_now c.args.host.now) (λ fault. cc (fault)) c.in_ok-journal.ensures.opening c.of_store.ensures.quiet in
    opening-settled-good _ (st c.args.host.now) (st c.of_store.new.host) o

pub returns-clause-stop : goal.returns-clause-stop
returns-clause-stop g c =
    let st = g.H.Host.state in
    let o = opening-then _ ⊥ (st c.args.host.now) (st c.opened.new.host) (st c.of_store.new.host) (g.met.H.Host.reads_now c.args.host.now) (λ fault. cc (fault)) c.in_ok-journal.ensures.opening c.of_store.ensures.quiet in
    opening-stop ⊥ (st c.args.host.now) (st c.of_store.new.host) o

pub returns-clause-stop_good : goal.returns-clause-stop_good
returns-clause-stop_good g c =
    let st = g.H.Host.state in
    let o = opening-then _ ⊥ (st c.args.host.now) (st c.opened.new.host) (st c.of_store.new.host) (g.met.H.Host.reads_now c.args.host.now) (λ fault. cc (fault)) c.in_ok-journal.ensures.opening c.of_store.ensures.quiet in
    opening-stop-good ⊥ (st c.args.host.now) (st c.of_store.new.host) o

pub returns-clause-at_end : goal.returns-clause-at_end
returns-clause-at_end g c told =
    let st = g.H.Host.state in
    let s = st c.args.host.now in
    let s1 = st c.opened.new.host in
    let t = st c.of_store.new.host in
    let opens = c.in_ok-journal.ensures.opens in
    let opening = c.in_ok-journal.ensures.opening in (
      graph_of (entries_in opens.read.records),
      opened-at-end s s1 c.in_ok-journal.field-0 opens told _ t refl c.in_ok-head.ensures.graph c.of_store.ensures.quiet.keeps.file (c.in_ok-journal.ensures.tables told)
          (gave-back s.file s1.file (opening.long told) (opening.short told)) (graph_of (entries_in opens.read.records)) refl,
    )

pub returns-clause-loaded : goal.returns-clause-loaded
returns-clause-loaded g c told g' holds =
    let st = g.H.Host.state in
    let s1 = st c.opened.new.host in
    let t = st c.of_store.new.host in
    let quiet = c.of_store.ensures.quiet in
    let here = subst (λ (o : Option (List ℕ)). IsLoaded o c.in_ok-head.head) (sym (told-file-same s1 t quiet.time.tells quiet.keeps.file)) c.in_ok-head.ensures.loaded in
    head-loaded _ t (quiet.time.tells ∙ c.in_ok-journal.ensures.opening.tells ∙ told) (returns-clause-at_end g c told) here g' holds

pub returns-clause-durable : goal.returns-clause-durable
returns-clause-durable g c told x left =
    let quiet = c.of_store.ensures.quiet in
    c.in_ok-journal.ensures.durable told x (quiet.keeps.crash x left) ∙ sym quiet.keeps.file

pub returns-clause-attached : goal.returns-clause-attached
returns-clause-attached g c told g' good =
    let st = g.H.Host.state in
    let s = st c.args.host.now in
    let s1 = st c.opened.new.host in
    let t = st c.of_store.new.host in
    let opens = c.in_ok-journal.ensures.opens in
    let opening = c.in_ok-journal.ensures.opening in
    let quiet = c.of_store.ensures.quiet in
    let same : g' ≡ graph_of (entries_in opens.read.records) = one_graph s.file g' (graph_of (entries_in opens.read.records)) good.holds (opens.good told) in
    let at_end = opened-at-end s s1 c.in_ok-journal.field-0 opens told _ t refl c.in_ok-head.ensures.graph quiet.keeps.file (c.in_ok-journal.ensures.tables told)
    (gave-back s.file s1.file (opening.long told) (opening.short told)) g' same in
    let here = subst (λ (o : Option (List ℕ)). IsLoaded o c.in_ok-head.head) (sym (told-file-same s1 t quiet.time.tells quiet.keeps.file)) c.in_ok-head.ensures.loaded in
    loaded-attached _ t (quiet.time.tells ∙ opening.tells ∙ told) g' (returns-clause-held_good g c told g' good) at_end here refl (returns-clause-durable g c told) c.in_ok-head.ensures.count

pub returns-clause-makes : goal.returns-clause-makes
returns-clause-makes g c =
    let st = g.H.Host.state in
    opens-nodes (state_of c.in_ok-head.head.live) (st c.args.host.now) (st c.of_store.new.host) (returns-clause-loaded g c) (returns-clause-held_good g c)

pub returns-clause-reads : goal.returns-clause-reads
returns-clause-reads g c =
    let st = g.H.Host.state in
    let opening = c.in_ok-journal.ensures.opening in
    opening-reads (st c.args.host.now) (st c.opened.new.host) (st c.of_store.new.host) c.in_ok-journal.field-0 c.in_ok-journal.ensures.opens c.opened.ensures.reads opening.long opening.short c.of_store.ensures.reads
