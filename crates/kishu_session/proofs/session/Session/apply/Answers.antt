use Rattle.std.proofs.Common.{Err, ℕ, refl, sym, ◌∙◌, ap, subst}
use Rattle.std.proofs.lemmas.Bool.{false≢true}
use Rattle.std.proofs.lemmas.Result.{err_from_is_err_and}
use Rattle.kishu_host.specs.Host.{ReadsMore}
use Rattle.kishu_objects.specs.Lists.{In}
use Rattle.kishu_objects.specs.Sizes.{size_among}
use Rattle.kishu_replay.specs.Replay.{replay}
use Rattle.kishu_history.specs.Paths.{stops}
use Rattle.kishu_history.specs.Versions.{kept, loaded}
use Rattle.kishu_live_laws.specs.Small.{small_after}
use Rattle.kishu_journal.specs.Going.{IsQuiet}
use Rattle.kishu_model.specs.Request.{Request}
use Rattle.kishu_model.specs.Serve.{after}
use Rattle.kishu_model.specs.Values.{request_of, answer_of}
use Rattle.kishu_checkout.specs.Pictures.{told_file}
use Rattle.kishu_session.specs.Lives.{state_of}
use Rattle.kishu_session.specs.Working.{ReadsFor, bytes_asked_by}
use Rattle.kishu_session.proofs.Alone.{alone-no-size, alone-silent}
use Rattle.kishu_session.proofs.Applied.{durable-read, known-after, may-go-on, quiet-good, quiet-here, recorded-most, stop-here}
use Rattle.kishu_session.proofs.BoundedFacts.{known-bounded}
use Rattle.kishu_session.proofs.Gone.{carried-renewed, nodes-kept, recorded}
use Rattle.kishu_session.proofs.Halts.{was-damaged, was-disk, not-closed, only-these, is-error}
use Rattle.kishu_session.proofs.KeptOld.{names-kept, reads-loaded}
use Rattle.kishu_session.proofs.LiveFacts.{answer-on-live, goes-on-anew, goes-on-live}
use Rattle.kishu_session.proofs.Makes.{makes-few}
use Rattle.kishu_session.proofs.ReadFacts.{lacks-here}
use Rattle.kishu_session.proofs.Recorded.{cells-recorded}
use Rattle.kishu_session.proofs.Silent.{refused-silent, known-some}
use Rattle.kishu_session.proofs.Sizes.{refusal-no-size}
use Rattle.kishu_session.proofs.Staying.{answer-after, attached-after, at-end-after, back-same, counts-after, lives-after, stop-after}
use Rattle.kishu_session.proofs.Work.{reads-asked, reads-on, reads-same, reads-still}
use Rattle.kishu_session.proofs.session.Session.apply.Goals as goal

pub record-requires-clause-next : goal.record-requires-clause-next
record-requires-clause-next g c told1 =
    let st = g.H.Host.state in
    let self = c.args.self.now in
    let quiet = c.prepare.ensures.quiet in
    let told = sym quiet.time.tells ∙ told1 in
    let e = c.requires.at_end c.if-self.false told in
    may-go-on self c.prepare.new.self (st c.args.host.now) (st c.prepare.new.host) (request_of c.args.request.now) c.in_ok-prepared.prepared
    c.in_ok-prepared.ensures.leads quiet told e.0 e.1 told1

pub invariant_of-self-2 : goal.invariant_of-self-2
invariant_of-self-2 g c =
    let st = g.H.Host.state in
    let self = c.args.self.now in
    record {
      going = λ _. c.in_ok-record.ensures.open;
      known =
          λ _. known-after self c.prepare.new.self (st c.args.host.now) (st c.prepare.new.host) (request_of c.args.request.now)
          c.in_ok-prepared.prepared c.in_ok-prepared.ensures.leads c.prepare.ensures.quiet
          c.record.new.journal.place (self.known c.if-self.false) c.in_ok-record.ensures.place;
      whole = λ _. c.in_ok-prepared.ensures.whole;
    }

-- ---- an answer

pub returns-clause-answered : goal.returns-clause-answered
returns-clause-answered g c told g' a =
    let st = g.H.Host.state in
    answer-after c.args.self.now c.prepare.new.self (st c.args.host.now) (st c.prepare.new.host) (request_of c.args.request.now)
    c.in_ok-prepared.prepared c.in_ok-prepared.ensures.leads c.prepare.ensures.quiet g' a

pub returns-clause-attached : goal.returns-clause-attached
returns-clause-attached g c told g' a =
    let st = g.H.Host.state in
    let quiet = c.prepare.ensures.quiet in
    attached-after c.args.self.now c.prepare.new.self (st c.args.host.now) (st c.prepare.new.host) (request_of c.args.request.now)
    c.in_ok-prepared.prepared c.in_ok-prepared.ensures.leads quiet told _ refl refl (st c.record.new.host)
    c.in_ok-record.ensures.stands (c.in_ok-record.ensures.durable (quiet.time.tells ∙ told)
    (durable-read (st c.args.host.now) (st c.prepare.new.host) quiet a.durable)) g' a

pub returns-clause-at_end : goal.returns-clause-at_end
returns-clause-at_end g c told g' cs e gives =
    let st = g.H.Host.state in
    at-end-after c.args.self.now c.prepare.new.self (st c.args.host.now) (st c.prepare.new.host) (request_of c.args.request.now)
    c.in_ok-prepared.prepared c.in_ok-prepared.ensures.leads c.prepare.ensures.quiet told _ refl
    (st c.record.new.host) c.in_ok-record.ensures.stands g' cs e gives

pub returns-clause-durable : goal.returns-clause-durable
returns-clause-durable g c told only =
    let st = g.H.Host.state in
    let quiet = c.prepare.ensures.quiet in
    c.in_ok-record.ensures.durable (quiet.time.tells ∙ told) (durable-read (st c.args.host.now) (st c.prepare.new.host) quiet only)

pub returns-clause-bytes : goal.returns-clause-bytes
returns-clause-bytes g c told g' e =
    let st = g.H.Host.state in
    recorded-most c.args.self.now (st c.args.host.now) (st c.prepare.new.host) c.prepare.ensures.quiet g' e (st c.record.new.host)
    (c.in_ok-record.ensures.bytes (c.prepare.ensures.quiet.time.tells ∙ told))

pub returns-clause-answered_here : goal.returns-clause-answered_here
returns-clause-answered_here g c told g' cs e gives =
    let self = c.args.self.now in
    answer-on-live self c.prepare.new.self (g.H.Host.state c.args.host.now) (request_of c.args.request.now) c.in_ok-prepared.prepared
    c.in_ok-prepared.ensures.leads g' cs e gives (self.known c.if-self.false)

pub returns-clause-goes_on : goal.returns-clause-goes_on
returns-clause-goes_on g c told g' cs e gives =
    let st = g.H.Host.state in
    goes-on-live c.args.self.now c.prepare.new.self (st c.args.host.now) (request_of c.args.request.now) c.in_ok-prepared.prepared
    c.in_ok-prepared.ensures.leads g' cs e gives (st c.prepare.new.host) c.prepare.ensures.quiet (λ none sizes. (c.in_ok-prepared.ensures.stays none sizes).0) told

pub returns-clause-anew : goal.returns-clause-anew
returns-clause-anew g c told g' cs e gives =
    let st = g.H.Host.state in
    goes-on-anew c.args.self.now c.prepare.new.self (st c.args.host.now) (request_of c.args.request.now) c.in_ok-prepared.prepared
    c.in_ok-prepared.ensures.leads g' cs e gives (st c.prepare.new.host) c.prepare.ensures.quiet (λ none sizes. (c.in_ok-prepared.ensures.stays none sizes).0) told

pub returns-clause-carries : goal.returns-clause-carries
returns-clause-carries g c is not =
    let st = g.H.Host.state in
    let self = c.args.self.now in
    carried-renewed self c.prepare.new.self (st c.args.host.now) (request_of c.args.request.now) c.in_ok-prepared.prepared
    c.in_ok-prepared.ensures.leads is.0 is.1 not (self.known c.if-self.false)

pub returns-clause-kept : goal.returns-clause-kept
returns-clause-kept g c is not few =
    let st = g.H.Host.state in
    let self = c.args.self.now in
    let new = c.prepare.new.self in
    let s = st c.args.host.now in
    let q = request_of c.args.request.now in
    let p = c.in_ok-prepared.prepared in
    let leads = c.in_ok-prepared.ensures.leads in (
      nodes-kept self new s q p leads is.0 is.1 not (self.known c.if-self.false) few,
      λ told g' a group m x own.
          names-kept self new s q p leads is.0 is.1 not g' a group
          (subst (λ (r : Request). In group (kept (stops g' g'.head.commit) (stops g' (after g' r).head.commit))) is.1 m) x own few (st c.prepare.new.host) c.prepare.ensures.quiet (λ none sizes. (c.in_ok-prepared.ensures.stays none sizes).0) told,
    )

pub returns-clause-live : goal.returns-clause-live
returns-clause-live g c lives =
    let st = g.H.Host.state in
    let self = c.args.self.now in
    let new = c.prepare.new.self in
    let quiet = c.prepare.ensures.quiet in
    let q = request_of c.args.request.now in
    let p = c.in_ok-prepared.prepared in
    let leads = c.in_ok-prepared.ensures.leads in
    let known = known-after self new (st c.args.host.now) (st c.prepare.new.host) q p leads quiet c.record.new.journal.place
    (self.known c.if-self.false) c.in_ok-record.ensures.place in
    lives-after self new (st c.args.host.now) (st c.prepare.new.host) q p leads quiet c.record.new.journal (st c.record.new.host) known
    c.in_ok-record.ensures.stands (c.requires.at_end c.if-self.false)
    (c.record.ensures.tells ∙ quiet.time.tells) lives

pub returns-clause-known : goal.returns-clause-known
returns-clause-known g c =
    let st = g.H.Host.state in
    let self = c.args.self.now in
    known-after self c.prepare.new.self (st c.args.host.now) (st c.prepare.new.host) (request_of c.args.request.now) c.in_ok-prepared.prepared
    c.in_ok-prepared.ensures.leads c.prepare.ensures.quiet c.record.new.journal.place (self.known c.if-self.false) c.in_ok-record.ensures.place

pub returns-clause-bounded : goal.returns-clause-bounded
returns-clause-bounded g c = known-bounded c.prepare.new.self c.record.new.journal.place (returns-clause-known g c)

pub returns-clause-is_one : goal.returns-clause-is_one
returns-clause-is_one g c =
    let self = c.args.self.now in
    known-some self.journal.place self.head (request_of c.args.request.now) c.in_ok-prepared.prepared.answer (self.known c.if-self.false)
    c.in_ok-prepared.ensures.leads.refuses

pub returns-clause-refuses : goal.returns-clause-refuses
returns-clause-refuses g c = c.in_ok-prepared.ensures.leads.refuses

pub returns-clause-refused : goal.returns-clause-refused
returns-clause-refused g c refusal =
    let self = c.args.self.now in
    let p = c.in_ok-prepared.prepared in
    let leads = c.in_ok-prepared.ensures.leads in
    let none = refused-silent self.journal.place self.head c.prepare.new.self (request_of c.args.request.now) p (self.known c.if-self.false)
    leads.prepares leads.refuses refusal in
    let stays = c.in_ok-prepared.ensures.stays none (λ bytes size. refusal-no-size (answer_of p.answer) refusal.0 bytes refusal.1 size) in
    (c.in_ok-record.ensures.quiet none ∙ stays.1, stays.0)

pub returns-clause-stays : goal.returns-clause-stays
returns-clause-stays g c alone =
    let self = c.args.self.now in
    let q = request_of c.args.request.now in
    let p = c.in_ok-prepared.prepared in
    let leads = c.in_ok-prepared.ensures.leads in
    let known = self.known c.if-self.false in
    let none = alone-silent self.journal.place self.head c.prepare.new.self q p known leads.prepares alone in
    let stays = c.in_ok-prepared.ensures.stays none (alone-no-size (told_file (g.H.Host.state c.args.host.now)) self.journal.place self.head c.prepare.new.self q p leads known alone) in
    (c.in_ok-record.ensures.quiet none ∙ stays.1, stays.0)

pub returns-clause-too_large : goal.returns-clause-too_large
returns-clause-too_large g c bytes size =
    let st = g.H.Host.state in
    let l = c.in_ok-prepared.ensures.leads.large bytes size in
    (l.0, subst (λ x. IsQuiet (st c.args.host.now) (st x)) (sym (c.in_ok-record.ensures.quiet l.1)) c.prepare.ensures.quiet, l.2.graph)

pub returns-clause-back : goal.returns-clause-back
returns-clause-back g c bytes size told lives =
    let l = c.in_ok-prepared.ensures.leads.large bytes size in
    back-same c.args.self.now c.prepare.new.self (g.H.Host.state c.args.host.now) told (c.requires.at_end c.if-self.false told) l.2 lives

pub returns-clause-small : goal.returns-clause-small
returns-clause-small g c g' all = small_after g' all (request_of c.args.request.now)

pub returns-clause-stop : goal.returns-clause-stop
returns-clause-stop g c told g' a =
    let st = g.H.Host.state in
    stop-after c.args.self.now c.prepare.new.self (st c.args.host.now) (st c.prepare.new.host) (request_of c.args.request.now)
    c.in_ok-prepared.prepared c.in_ok-prepared.ensures.leads c.prepare.ensures.quiet told
    (st c.record.new.host) c.record.ensures.stop g' a

pub returns-clause-stop_here : goal.returns-clause-stop_here
returns-clause-stop_here g c told only g' cs e gives =
    let st = g.H.Host.state in
    stop-here c.args.self.now c.prepare.new.self (st c.args.host.now) (st c.prepare.new.host) (request_of c.args.request.now)
    c.in_ok-prepared.prepared c.in_ok-prepared.ensures.leads c.prepare.ensures.quiet
    (st c.record.new.host) c.record.ensures.stop told only g' cs e gives

pub returns-clause-makes : goal.returns-clause-makes
returns-clause-makes g c told g' a =
    let st = g.H.Host.state in
    let self = c.args.self.now in
    let new = c.prepare.new.self in
    let s = st c.args.host.now in
    let q = request_of c.args.request.now in
    makes-few self s q g' a (state_of new.live)
    (goes-on-live self new s q c.in_ok-prepared.prepared c.in_ok-prepared.ensures.leads g' a.changes a.at_end a.gives (st c.prepare.new.host) c.prepare.ensures.quiet
    (λ none sizes. (c.in_ok-prepared.ensures.stays none sizes).0) told)

pub returns-clause-loads : goal.returns-clause-loads
returns-clause-loads g c is not told g' a =
    let st = g.H.Host.state in
    let self = c.args.self.now in
    let new = c.prepare.new.self in
    let s = st c.args.host.now in
    let s1 = st c.prepare.new.host in
    let q = request_of c.args.request.now in
    let p = c.in_ok-prepared.prepared in
    let leads = c.in_ok-prepared.ensures.leads in
    let commit = λ (r : Request). (after g' r).head.commit in
    subst (λ (n : ℕ). ReadsMore s.reads (st c.record.new.host).reads (size_among (loaded (stops g' g'.head.commit) (stops g' n)) (replay g' n))) (sym (ap commit is.1))
    (reads-on s.reads s1.reads (st c.record.new.host).reads _
    (reads-loaded self new s q p leads is.0 is.1 not g' a s1 (subst (λ (r : Request). ReadsFor self.head new s s1 r p) is.1 c.in_ok-prepared.ensures.reads)
    (recorded self new s q p leads is.0 is.1 not (self.known c.if-self.false))) c.in_ok-record.ensures.reads)

pub returns-clause-reads : goal.returns-clause-reads
returns-clause-reads g c has not sizes =
    let st = g.H.Host.state in
    let self = c.args.self.now in
    let new = c.prepare.new.self in
    let s = st c.args.host.now in
    let s1 = st c.prepare.new.host in
    let q = request_of c.args.request.now in
    let p = c.in_ok-prepared.prepared in
    reads-on s.reads s1.reads (st c.record.new.host).reads (bytes_asked_by self.head new q)
    (reads-asked self.head new s s1 q p c.in_ok-prepared.ensures.reads has
    (cells-recorded (told_file s) self.journal.place self.head new q p c.in_ok-prepared.ensures.leads has not sizes (self.known c.if-self.false)))
    c.in_ok-record.ensures.reads

pub returns-clause-idle : goal.returns-clause-idle
returns-clause-idle g c is =
    let st = g.H.Host.state in
    reads-on (st c.args.host.now).reads (st c.prepare.new.host).reads (st c.record.new.host).reads 0
    (reads-same st c.args.host.now c.prepare.new.host (c.prepare.ensures.idle is)) c.record.ensures.reads

pub returns-clause-still : goal.returns-clause-still
returns-clause-still g c leaves = c.prepare.ensures.still leaves

pub returns-clause-most : goal.returns-clause-most
returns-clause-most g c text is not sizes few = c.in_ok-prepared.ensures.most text is sizes few

pub returns-clause-least : goal.returns-clause-least
returns-clause-least g c told g' a =
    let st = g.H.Host.state in
    counts-after c.args.self.now c.prepare.new.self (st c.args.host.now) (st c.prepare.new.host) (request_of c.args.request.now)
    c.in_ok-prepared.prepared c.in_ok-prepared.ensures.leads c.prepare.ensures.quiet g' a
    c.args.steps.now c.prepare.new.steps c.in_ok-prepared.ensures.least

-- ---- where the record wasn't appended

pub returns-in_err-record-clause-idle : goal.returns-in_err-record-clause-idle
returns-in_err-record-clause-idle g c is =
    let st = g.H.Host.state in
    reads-on (st c.args.host.now).reads (st c.prepare.new.host).reads (st c.record.new.host).reads 0
    (reads-same st c.args.host.now c.prepare.new.host (c.prepare.ensures.idle is)) c.record.ensures.reads

pub returns-in_err-record-clause-still : goal.returns-in_err-record-clause-still
returns-in_err-record-clause-still g c leaves = c.prepare.ensures.still leaves

pub returns-in_err-record-clause-small : goal.returns-in_err-record-clause-small
returns-in_err-record-clause-small g c g' all = small_after g' all (request_of c.args.request.now)

pub returns-in_err-record-clause-stop : goal.returns-in_err-record-clause-stop
returns-in_err-record-clause-stop g c told g' a =
    let st = g.H.Host.state in
    stop-after c.args.self.now c.prepare.new.self (st c.args.host.now) (st c.prepare.new.host) (request_of c.args.request.now)
    c.in_ok-prepared.prepared c.in_ok-prepared.ensures.leads c.prepare.ensures.quiet told
    (st c.record.new.host) c.record.ensures.stop g' a

pub returns-in_err-record-clause-stop_here : goal.returns-in_err-record-clause-stop_here
returns-in_err-record-clause-stop_here g c told only g' cs e gives =
    let st = g.H.Host.state in
    stop-here c.args.self.now c.prepare.new.self (st c.args.host.now) (st c.prepare.new.host) (request_of c.args.request.now)
    c.in_ok-prepared.prepared c.in_ok-prepared.ensures.leads c.prepare.ensures.quiet
    (st c.record.new.host) c.record.ensures.stop told only g' cs e gives

-- ---- where nothing was prepared

pub returns-in_err-prepared-clause-idle : goal.returns-in_err-prepared-clause-idle
returns-in_err-prepared-clause-idle g c is = reads-same g.H.Host.state c.args.host.now c.prepare.new.host (c.prepare.ensures.idle is)

pub returns-in_err-prepared-clause-still : goal.returns-in_err-prepared-clause-still
returns-in_err-prepared-clause-still g c leaves = c.prepare.ensures.still leaves

pub returns-in_err-prepared-clause-small : goal.returns-in_err-prepared-clause-small
returns-in_err-prepared-clause-small g c g' all = small_after g' all (request_of c.args.request.now)

pub returns-in_err-prepared-clause-stop : goal.returns-in_err-prepared-clause-stop
returns-in_err-prepared-clause-stop g c told g' a =
    let st = g.H.Host.state in
    quiet-good c.args.self.now (st c.args.host.now) (st c.prepare.new.host) c.prepare.ensures.quiet a.durable g' _ a

pub returns-in_err-prepared-clause-stop_here : goal.returns-in_err-prepared-clause-stop_here
returns-in_err-prepared-clause-stop_here g c told only g' cs e gives =
    let st = g.H.Host.state in
    quiet-here c.args.self.now (st c.args.host.now) (st c.prepare.new.host) c.prepare.ensures.quiet only g' _ e

pub returns-in_err-prepared-clause-damaged : goal.returns-in_err-prepared-clause-damaged
returns-in_err-prepared-clause-damaged g c at is =
    let p = err_from_is_err_and c.from_residual.result c.from_residual.ensures.1 in
    let e = was-damaged c.from_residual.result c.in_err-prepared.field-0.0 p at is in
    lacks-here c.args.self.now (g.H.Host.state c.args.host.now) c.args.request.now at (c.in_err-prepared.ensures.damaged at (ap Err e))

pub returns-in_err-prepared-clause-disk_fault : goal.returns-in_err-prepared-clause-disk_fault
returns-in_err-prepared-clause-disk_fault g c is =
    let p = err_from_is_err_and c.from_residual.result c.from_residual.ensures.1 in
    c.in_err-prepared.ensures.disk_fault (ap Err (was-disk c.from_residual.result c.in_err-prepared.field-0.0 p is))

pub returns-in_err-prepared-clause-only_these : goal.returns-in_err-prepared-clause-only_these
returns-in_err-prepared-clause-only_these g c =
    only-these c.from_residual.result c.in_err-prepared.field-0.0 (err_from_is_err_and c.from_residual.result c.from_residual.ensures.1)

pub returns-in_err-prepared-clause-closed : goal.returns-in_err-prepared-clause-closed
returns-in_err-prepared-clause-closed g c = (
  λ is. absurd (not-closed c.from_residual.result c.in_err-prepared.field-0.0
      (err_from_is_err_and c.from_residual.result c.from_residual.ensures.1) is),
  λ halted. absurd (false≢true (sym c.if-self.false ∙ halted)),
)

pub returns-in_err-prepared-clause-untouched : goal.returns-in_err-prepared-clause-untouched
returns-in_err-prepared-clause-untouched g c is =
    absurd (not-closed c.from_residual.result c.in_err-prepared.field-0.0 (err_from_is_err_and c.from_residual.result c.from_residual.ensures.1) is)

pub returns-in_err-prepared-clause-halted : goal.returns-in_err-prepared-clause-halted
returns-in_err-prepared-clause-halted g c = (
  λ _. is-error c.from_residual.result c.in_err-prepared.field-0.0 (err_from_is_err_and c.from_residual.result c.from_residual.ensures.1),
  λ _.
      refl,
)

-- ---- closed before

pub returns-then-self-clause-idle : goal.returns-then-self-clause-idle
returns-then-self-clause-idle g c is = reads-still (g.H.Host.state c.args.host.now).reads

pub returns-then-self-clause-small : goal.returns-then-self-clause-small
returns-then-self-clause-small g c g' all = small_after g' all (request_of c.args.request.now)
