use Rattle.std.proofs.Common.{◌⊎◌, arith, inl, inr, ⊎_elim, sym, ◌∙◌, ap, Err, IsOk, IsErrOf}
use Rattle.kishu_host.specs.Going.{now_has, now_each}
use Rattle.kishu_store_laws.specs.Laws.{broken-holds, foreign-holds}
use Rattle.kishu_live_laws.specs.Made.{opened_nodes}
use Rattle.kishu_session.specs.declared.halt.Halt.{Halt}
use Rattle.kishu_serve.specs.Work.{to_do}
use Rattle.kishu_serve.specs.Headline.{IsPart}
use Rattle.kishu_serve.specs.declared.serving.Stop.TheVariants.{TooLong}
use Rattle.kishu_serve.proofs.Damages.{lacks-picture}
use Rattle.kishu_serve.proofs.LiveRuns.{answered-from, ends-from}
use Rattle.kishu_serve.proofs.Parts.{attached-good, at-end-gives}
use Rattle.kishu_serve.proofs.Runs.{none-done, start-part, opening-stop, part-from, serving-stop, whole-from, succeeded, written}
use Rattle.kishu_serve.proofs.Works.{reads-bounded}
use Rattle.kishu_serve.proofs.top.run_work.Goals as goal

pub carry_out-requires-clause-stands : goal.carry_out-requires-clause-stands
carry_out-requires-clause-stands g c told1 =
    c.in-Ok.ensures.at_end (sym c.attach.ensures.tells ∙ told1)

pub returns-in-Ok-clause-stop : goal.returns-in-Ok-clause-stop
returns-in-Ok-clause-stop g c told knows g' holds =
    let st = g.H.Host.state in
    let qs = to_do c.args.work g' (g.S.Source.source c.args.source.now).left in
    let a = c.in-Ok.ensures.attached told g' holds in
    serving-stop (st c.args.host.now) (st c.attach.new.host) g' qs (c.attach.ensures.stop_good told g' holds) c.attach.ensures.out (st c.carry_out.new.host)
    (c.carry_out.ensures.stop (c.attach.ensures.tells ∙ told) knows g' a)

pub returns-in-Ok-clause-run : goal.returns-in-Ok-clause-run
returns-in-Ok-clause-run g c told knows g' holds =
    let st = g.H.Host.state in
    let laws = g.met.H.Host in
    let qs = to_do c.args.work g' (g.S.Source.source c.args.source.now).left in
    let s0 = st c.args.host.now in
    let s1 = st c.attach.new.host in
    let s2 = st c.carry_out.new.host in
    let told1 = c.attach.ensures.tells ∙ told in
    let a = c.in-Ok.ensures.attached told g' holds in
    let stop = c.carry_out.ensures.stop told1 knows g' a in
    part-from s0 s1 g' qs (c.attach.ensures.stop_good told g' holds) c.attach.ensures.out s2.file s2.out
    (now_has s1 s2 (IsPart s1 g' qs) stop (laws.reads_now c.carry_out.new.host (stop.tells ∙ told1)) (laws.counts_now c.carry_out.new.host) (λ f o. laws.only_now c.attach.new.host f o told1)
    (start-part s1 g' qs (attached-good _ s1 g' a) a.durable))

pub returns-in-Ok-clause-settled : goal.returns-in-Ok-clause-settled
returns-in-Ok-clause-settled g c told knows g' holds =
    let st = g.H.Host.state in
    let laws = g.met.H.Host in
    let qs = to_do c.args.work g' (g.S.Source.source c.args.source.now).left in
    let s0 = st c.args.host.now in
    let s1 = st c.attach.new.host in
    let s2 = st c.carry_out.new.host in
    let told1 = c.attach.ensures.tells ∙ told in
    let a = c.in-Ok.ensures.attached told g' holds in
    inr (λ f now. part-from s0 s1 g' qs (c.attach.ensures.stop_good told g' holds) c.attach.ensures.out f s2.out
    (now_each s1 s2 (IsPart s1 g' qs) (c.carry_out.ensures.stop told1 knows g' a) (laws.counts_now c.carry_out.new.host) (λ x o. laws.only_now c.attach.new.host x o told1)
    (start-part s1 g' qs (attached-good _ s1 g' a) a.durable) f now))

pub returns-in-Ok-clause-whole : goal.returns-in-Ok-clause-whole
returns-in-Ok-clause-whole g c ended told knows g' holds =
    let st = g.H.Host.state in
    let qs = to_do c.args.work g' (g.S.Source.source c.args.source.now).left in
    let a = c.in-Ok.ensures.attached told g' holds in
    let so : IsOk c.carry_out.result ⊎ IsErrOf c.carry_out.result TooLong = ⊎_elim (λ done. inl (c.served.ensures.done done)) (λ long. inr (c.served.ensures.too_long long)) ended in
    whole-from (st c.args.host.now) (st c.attach.new.host) g' qs (c.attach.ensures.stop_good told g' holds) c.attach.ensures.out (st c.carry_out.new.host)
    (c.carry_out.ensures.whole so (c.attach.ensures.tells ∙ told) knows g' a)

pub returns-in-Ok-clause-whole_live : goal.returns-in-Ok-clause-whole_live
returns-in-Ok-clause-whole_live g c ended each knows told =
    let st = g.H.Host.state in
    let left = (g.S.Source.source c.args.source.now).left in
    let so : IsOk c.carry_out.result ⊎ IsErrOf c.carry_out.result TooLong = ⊎_elim (λ done. inl (c.served.ensures.done done)) (λ long. inr (c.served.ensures.too_long long)) ended in
    answered-from (λ g'. to_do c.args.work g' left) c.in-Ok.session (st c.args.host.now) (st c.attach.new.host) (st c.carry_out.new.host)
    (c.in-Ok.ensures.begun told) c.attach.ensures.out (c.in-Ok.ensures.at_end told) (c.in-Ok.ensures.loaded told)
    (c.carry_out.ensures.whole_live so each knows (c.attach.ensures.tells ∙ told) c.in-Ok.ensures.live)

pub returns-in-Ok-clause-part_live : goal.returns-in-Ok-clause-part_live
returns-in-Ok-clause-part_live g c each knows told g' holds =
    let st = g.H.Host.state in
    let laws = g.met.H.Host in
    let left = (g.S.Source.source c.args.source.now).left in
    let s0 = st c.args.host.now in
    let s1 = st c.attach.new.host in
    let s2 = st c.carry_out.new.host in
    let told1 = c.attach.ensures.tells ∙ told in
    let end = c.in-Ok.ensures.at_end told in
    let given = at-end-gives c.in-Ok.session s1 end.0 end.1 in
    let only = c.in-Ok.ensures.durable told in
    let stop = c.carry_out.ensures.stop_live each knows told1 c.in-Ok.ensures.live end.0 given.0 end.1 given.1 only in
    ends-from (λ x. to_do c.args.work x left) c.in-Ok.session s0 s1 s2 (c.in-Ok.ensures.begun told) c.attach.ensures.out end (c.in-Ok.ensures.loaded told)
    given.0 given.1 g' (c.attach.ensures.held told g' holds) only stop (laws.reads_now c.carry_out.new.host (stop.tells ∙ told1)) (laws.counts_now c.carry_out.new.host)
    (λ f o. laws.only_now c.attach.new.host f o told1)

pub returns-in-Err-clause-part_live : goal.returns-in-Err-clause-part_live
returns-in-Err-clause-part_live g c each knows told g' holds = inl (c.attach.ensures.held told g' holds, c.attach.ensures.out)

pub returns-in-Ok-clause-bad : goal.returns-in-Ok-clause-bad
returns-in-Ok-clause-bad g c told bad =
    let good = c.in-Ok.ensures.good told in
    absurd (bad good.0 good.1)

pub returns-in-Ok-clause-bytes : goal.returns-in-Ok-clause-bytes
returns-in-Ok-clause-bytes g c done told =
    let st = g.H.Host.state in
    written _ (st c.args.host.now).file (st c.attach.new.host).file (st c.carry_out.new.host).file (c.in-Ok.ensures.begun told) (succeeded c.carry_out.result (c.served.ensures.done done) c.carry_out.ensures.bytes (c.attach.ensures.tells ∙ told))

pub returns-in-Ok-clause-counted : goal.returns-in-Ok-clause-counted
returns-in-Ok-clause-counted g c done told knows g' holds =
    let told1 = c.attach.ensures.tells ∙ told in
    let a = c.in-Ok.ensures.attached told g' holds in
    let ok = c.served.ensures.done done in
    omega (arith, c.in-Ok.ensures.counted, succeeded c.carry_out.result ok c.carry_out.ensures.least told1 knows g' a)

pub returns-in-Err-clause-run : goal.returns-in-Err-clause-run
returns-in-Err-clause-run g c told knows g' holds =
    let st = g.H.Host.state in
    none-done (st c.args.host.now) g' _ _ _ (c.attach.ensures.held_good told g' holds) c.attach.ensures.out

pub returns-in-Err-clause-stop : goal.returns-in-Err-clause-stop
returns-in-Err-clause-stop g c told knows g' holds =
    let st = g.H.Host.state in
    opening-stop (st c.args.host.now) (st c.attach.new.host) g' _ (c.attach.ensures.stop_good told g' holds)

pub returns-in-Err-clause-settled : goal.returns-in-Err-clause-settled
returns-in-Err-clause-settled g c told knows g' holds =
    let st = g.H.Host.state in
    let s0 = st c.args.host.now in
    let s1 = st c.attach.new.host in
    elim (c.attach.ensures.settled_good told g' holds) [
      | inl unsynced ↦ inl (c.unopened.ensures.disk (cc (unsynced.0, c.in-Err.is)), unsynced.1)
      | inr each ↦ inr (λ f now. none-done s0 g' _ f s1.out (each f now) c.attach.ensures.out)
    ]

pub returns-in-Err-clause-damaged : goal.returns-in-Err-clause-damaged
returns-in-Err-clause-damaged g c at is told =
    let st = g.H.Host.state in
    let halt = c.in-Err.is ∙ ap (λ (f : Halt). Err f) (c.unopened.ensures.damaged at is) in
    elim (c.attach.ensures.damaged at halt told) [
      | inl broken ↦ inl broken
      | inr l ↦ inr (l.bad, lacks-picture (st c.args.host.now) (st c.attach.new.host).file l.graph l.changes l.graph.head.commit at told (c.attach.ensures.damaged_stays at halt told).file l.holds l.gives l.lacks)
    ]

pub returns-in-Ok-clause-damaged : goal.returns-in-Ok-clause-damaged
returns-in-Ok-clause-damaged g c at is told =
    let told1 = c.attach.ensures.tells ∙ told in
    let d = c.carry_out.ensures.damaged at (c.served.ensures.damaged at is) in
    inr (λ good. d.1 told1 good.0 (c.in-Ok.ensures.attached told good.0 good.1), d.0 told1)

pub returns-in-Ok-clause-complete : goal.returns-in-Ok-clause-complete
returns-in-Ok-clause-complete g c told g' good =
    elim c.served.ensures.these [
      | inl is ↦ inl is
      | inr rest ↦ elim rest [
        | inl is ↦ inr (inl is)
        | inr rest ↦ elim rest [
          | inl is ↦ inr (inr (inl is))
          | inr rest ↦ elim rest [
            | inl is ↦ inr (inr (inr (inl is)))
            | inr rest ↦ elim rest [
              | inl is ↦ inr (inr (inr (inr (inl is))))
              | inr rest ↦ elim rest [
                | inl is ↦ inr (inr (inr (inr (inr is))))
                | inr d ↦ absurd ((c.carry_out.ensures.damaged d.0 (c.served.ensures.damaged d.0 d.1)).1 (c.attach.ensures.tells ∙ told) g' (c.in-Ok.ensures.attached told g' good))
              ]
            ]
          ]
        ]
      ]
    ]

pub returns-in-Err-clause-complete : goal.returns-in-Err-clause-complete
returns-in-Err-clause-complete g c told g' good =
    let file = (g.H.Host.state c.args.host.now).file in
    elim c.unopened.ensures.these [
      | inl is ↦ absurd (foreign-holds file g' (c.attach.ensures.foreign (c.in-Err.is ∙ ap (λ (f : Halt). Err f) (c.unopened.ensures.foreign is)) told) good.holds)
      | inr rest ↦ elim rest [
        | inl is ↦ elim (c.attach.ensures.damaged is.0 (c.in-Err.is ∙ ap (λ (f : Halt). Err f) (c.unopened.ensures.damaged is.0 is.1)) told) [
          | inl broken ↦ absurd (broken-holds file is.0 g' broken good.holds)
          | inr lacks ↦ absurd (lacks.bad (g', good))
        ]
        | inr last ↦ elim last [ inl is ↦ inr (inr (inr (inl is))) | inr is ↦ inr (inl is) ]
      ]
    ]

-- ---- the work

pub returns-in-Ok-clause-loads : goal.returns-in-Ok-clause-loads
returns-in-Ok-clause-loads g c done told knows g' holds measured =
    let st = g.H.Host.state in
    let told1 = c.attach.ensures.tells ∙ told in
    let a = c.in-Ok.ensures.attached told g' holds in
    let ok = c.served.ensures.done done in
    reads-bounded (st c.args.host.now).reads (st c.attach.new.host).reads (st c.carry_out.new.host).reads _ _ (c.attach.ensures.reads told)
    (succeeded c.carry_out.result ok c.carry_out.ensures.loads told1 knows g' a measured)

pub returns-in-Ok-clause-most : goal.returns-in-Ok-clause-most
returns-in-Ok-clause-most g c done told knows g' holds measured few =
    let told1 = c.attach.ensures.tells ∙ told in
    let a = c.in-Ok.ensures.attached told g' holds in
    let ok = c.served.ensures.done done in
    omega (arith, c.in-Ok.ensures.counted, succeeded c.carry_out.result ok c.carry_out.ensures.most told1 knows g' a (opened_nodes g' g'.head.commit) (c.in-Ok.ensures.makes told g' holds) measured few)
