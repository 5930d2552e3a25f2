use Rattle.std.proofs.Common.{◌≡◌, ◌≤◌, ◌+◌, ◌++◌, inl, inr, refl, sym, ◌∙◌, ap, subst, arith, ℕ, List, [], ◌∷◌, IsErrOf}
use Rattle.kishu_host.specs.Host.{Elapses, ReadsMore}
use Rattle.kishu_store.specs.Tables.{change_of}
use Rattle.kishu_model.specs.Answers.{bad_request, refused}
use Rattle.kishu_model.specs.Request.{Request, unreadable}
use Rattle.kishu_model.specs.Serve.{after, answer_of, answered}
use Rattle.kishu_model.specs.Step.{step, charge_of}
use Rattle.kishu_model.specs.Values.{request_of}
use Rattle.kishu_live_laws.specs.OnStates.{after_on, answer_on}
use Rattle.kishu_session.specs.Applying.{MakesNodes}
use Rattle.kishu_session.specs.Attached.{IsAttached}
use Rattle.kishu_session.specs.Lives.{state_of}
use Rattle.kishu_session.specs.declared.halt.Halt.TheVariants.{Damaged}
use Rattle.kishu_serve.specs.Asking.{asked_of}
use Rattle.kishu_serve.specs.Efforts.{IsMeasured, read_by, steps_by}
use Rattle.kishu_serve.specs.EveryStore.{LeadsOn}
use Rattle.kishu_serve.specs.Headline.{IsPart}
use Rattle.kishu_serve.specs.LiveAnswers.{line_on, IsPartLive}
use Rattle.kishu_serve.proofs.Damages.{ends-damaged}
use Rattle.kishu_serve.proofs.LiveRuns.{at-end-holds, applied-here, unread-here, applied-stops, said-stops, told-stops}
use Rattle.kishu_serve.proofs.Measured.{reads-by, steps-by, not-refused, no-refusal, no-size, cell-counts, cell-reads}
use Rattle.kishu_serve.proofs.Parts.{attached-kept, at-end-kept, at-end-gives, held, and_then, recorded-kept, told-stop, applied-stop, served-stop}
use Rattle.kishu_serve.proofs.Works.{reads-both}
use Rattle.kishu_serve.proofs.serving.serve.Goals as goal

pub returns-in_default-clause-stop : goal.returns-in_default-clause-stop
returns-in_default-clause-stop g c told g' a =
    let st = g.H.Host.state in
    let s0 = st c.args.host.now in
    let s1 = st c.tell.new.host in
    let stop = told-stop c.args.session.now s0 s1 g' (answered unreadable) _ a refl refl (c.tell.ensures.stop (refused bad_request) c.answer.ensures) in
    subst (λ (q : Request). Elapses s0 s1 (IsPart s0 g' (answered q ∷ []))) (sym (ap asked_of c.in_default.is)) stop

pub returns-in-Ok-clause-bytes : goal.returns-in-Ok-clause-bytes
returns-in-Ok-clause-bytes g c =
    let st = g.H.Host.state in
    held c.tell-in-Ok.result
    (λ told.
    let stands = c.requires.stands told in
    recorded-kept (st c.args.host.now).file (st c.apply.new.host).file (st c.tell-in-Ok.new.host).file c.tell-in-Ok.ensures.file (c.in-Ok.ensures.bytes told stands.0 stands.1))

pub returns-in-Ok-clause-stands : goal.returns-in-Ok-clause-stands
returns-in-Ok-clause-stands g c =
    let st = g.H.Host.state in
    held c.tell-in-Ok.result
    (λ told.
    let before = sym (c.tell-in-Ok.ensures.tells ∙ c.apply.ensures.tells) ∙ told in
    let stands = c.requires.stands before in
    let given = at-end-gives c.args.session.now (st c.args.host.now) stands.0 stands.1 in
    let then_graph = after_on (change_of given.0) (state_of c.args.session.now.head.live) stands.0 (request_of c.in-Request.request) in
    (then_graph, at-end-kept c.apply.new.self (st c.apply.new.host) (st c.tell-in-Ok.new.host) then_graph c.tell-in-Ok.ensures.file (c.in-Ok.ensures.at_end before stands.0 given.0 stands.1 given.1)))

pub returns-in_default-clause-stands : goal.returns-in_default-clause-stands
returns-in_default-clause-stands g c =
    let st = g.H.Host.state in
    held c.tell.result
    (λ told.
    let stands = c.requires.stands (sym c.tell.ensures.tells ∙ told) in
    (stands.0, at-end-kept c.args.session.now (st c.args.host.now) (st c.tell.new.host) stands.0 c.tell.ensures.file stands.1))

pub returns-in_default-clause-attached : goal.returns-in_default-clause-attached
returns-in_default-clause-attached g c =
    let st = g.H.Host.state in
    let s0 = st c.args.host.now in
    let s1 = st c.tell.new.host in
    held c.tell.result
    (λ told g' a.
    subst (λ (q : Request). IsAttached c.args.session.now s1 (after g' q)) (sym (ap asked_of c.in_default.is))
    (attached-kept c.args.session.now s0 s1 g' c.tell.ensures.file c.tell.ensures.crash a))

pub returns-in-Err-clause-stop : goal.returns-in-Err-clause-stop
returns-in-Err-clause-stop g c told g' a =
    let st = g.H.Host.state in
    let s0 = st c.args.host.now in
    let s1 = st c.apply.new.host in
    subst (λ (r : Request). Elapses s0 s1 (IsPart s0 g' (answered r ∷ []))) (sym (ap asked_of c.in-Request.is))
    (applied-stop s0 s1 g' (answered (request_of c.in-Request.request)) (c.apply.ensures.stop told g' a))

pub returns-in-Ok-clause-stop : goal.returns-in-Ok-clause-stop
returns-in-Ok-clause-stop g c told g' a =
    let st = g.H.Host.state in
    let q = request_of c.in-Request.request in
    let s0 = st c.args.host.now in
    let s1 = st c.apply.new.host in
    let s2 = st c.tell-in-Ok.new.host in
    let stop =
    served-stop c.apply.new.self s0 s1 s2 g' (answered q) _ (c.in-Ok.ensures.attached told g' a) refl c.apply.ensures.out (c.apply.ensures.stop told g' a)
    (c.tell-in-Ok.ensures.stop (step g' q).answer (c.in-Ok.ensures.answered told g' a)) in
    subst (λ (r : Request). Elapses s0 s2 (IsPart s0 g' (answered r ∷ []))) (sym (ap asked_of c.in-Request.is)) stop

pub returns-in-Ok-clause-attached : goal.returns-in-Ok-clause-attached
returns-in-Ok-clause-attached g c =
    let st = g.H.Host.state in
    let q = request_of c.in-Request.request in
    let s1 = st c.apply.new.host in
    let s2 = st c.tell-in-Ok.new.host in
    held c.tell-in-Ok.result
    (λ told g' a.
    subst (λ (r : Request). IsAttached c.apply.new.self s2 (after g' r)) (sym (ap asked_of c.in-Request.is))
    (attached-kept c.apply.new.self s1 s2 (after g' q) c.tell-in-Ok.ensures.file c.tell-in-Ok.ensures.crash (c.in-Ok.ensures.attached told g' a)))

pub returns-in-Ok-clause-answered : goal.returns-in-Ok-clause-answered
returns-in-Ok-clause-answered g c =
    let st = g.H.Host.state in
    let q = request_of c.in-Request.request in
    let s0 = st c.args.host.now in
    let s2 = st c.tell-in-Ok.new.host in
    and_then c.tell-in-Ok.result c.tell-in-Ok.ensures.answered
    (λ out told g' a.
    subst (λ (r : Request). s2.out ≡ s0.out ++ answer_of g' r) (sym (ap asked_of c.in-Request.is))
    (out (c.apply.ensures.tells ∙ told) (step g' q).answer (c.in-Ok.ensures.answered told g' a) ∙ ap (λ (l : List ℕ). l ++ answer_of g' q) c.apply.ensures.out))

pub returns-in-Ok-clause-least : goal.returns-in-Ok-clause-least
returns-in-Ok-clause-least g c =
    held c.tell-in-Ok.result
    (λ told g' a.
    subst (λ (r : Request). c.args.steps.now + charge_of g' r ≤ c.apply.new.steps) (sym (ap asked_of c.in-Request.is)) (c.in-Ok.ensures.least told g' a))

pub returns-in-Err-clause-damaged : goal.returns-in-Err-clause-damaged
returns-in-Err-clause-damaged g c at is =
    let st = g.H.Host.state in
    let stop = c.stop_of.ensures.damaged at (cc is) in
    let halt : IsErrOf c.apply.result (Damaged at) = cc (c.in-Err.is, stop) in
    ends-damaged c.args.session.now (st c.args.host.now) (st c.apply.new.host) c.in-Request.request at c.requires.stands (c.apply.ensures.damaged_stays at halt) (c.apply.ensures.damaged at halt)

-- ---- on every store

pub returns-in-Ok-clause-applied : goal.returns-in-Ok-clause-applied
returns-in-Ok-clause-applied g c =
    let st = g.H.Host.state in
    let old = c.args.session.now in
    let new = c.apply.new.self in
    let q = request_of c.in-Request.request in
    let s0 = st c.args.host.now in
    let s1 = st c.apply.new.host in
    let s2 = st c.tell-in-Ok.new.host in
    held c.tell-in-Ok.result
    (λ told lives g' cs a gives.
    subst
    (λ (r : Request). LeadsOn old new s0 s2 r g' cs) (sym (ap asked_of c.in-Request.is))
    (applied-here old new s0 s1 s2 q g' cs c.tell-in-Ok.ensures.file c.tell-in-Ok.ensures.tells (c.apply.ensures.tells ∙ told)
    (c.in-Ok.ensures.at_end told g' cs a gives) (c.in-Ok.ensures.live lives) (c.in-Ok.ensures.bytes told g' a) (c.in-Ok.ensures.goes_on told g' cs a gives)))

pub returns-in_default-clause-applied : goal.returns-in_default-clause-applied
returns-in_default-clause-applied g c =
    let st = g.H.Host.state in
    let session = c.args.session.now in
    let s0 = st c.args.host.now in
    let s1 = st c.tell.new.host in
    held c.tell.result
    (λ told lives g' cs a gives.
    subst
    (λ (r : Request). LeadsOn session session s0 s1 r g' cs)
    (sym (ap asked_of c.in_default.is)) (unread-here session s0 s1 g' cs c.tell.ensures.file c.tell.ensures.tells told lives a))

pub returns-in-Ok-clause-said : goal.returns-in-Ok-clause-said
returns-in-Ok-clause-said g c =
    let st = g.H.Host.state in
    let q = request_of c.in-Request.request in
    let u = state_of c.args.session.now.head.live in
    let s0 = st c.args.host.now in
    let s2 = st c.tell-in-Ok.new.host in
    and_then c.tell-in-Ok.result c.tell-in-Ok.ensures.answered
    (λ out told g' cs a gives.
    subst (λ (r : Request). s2.out ≡ s0.out ++ line_on cs g' u r) (sym (ap asked_of c.in-Request.is))
    (out (c.apply.ensures.tells ∙ told) (answer_on (change_of cs) u g' q) (c.in-Ok.ensures.answered_here told g' cs a gives)
    ∙ ap (λ (l : List ℕ). l ++ line_on cs g' u q) c.apply.ensures.out))

pub returns-in_default-clause-said : goal.returns-in_default-clause-said
returns-in_default-clause-said g c =
    let st = g.H.Host.state in
    let u = state_of c.args.session.now.head.live in
    let s0 = st c.args.host.now in
    let s1 = st c.tell.new.host in
    and_then c.tell.result c.tell.ensures.answered
    (λ out told g' cs a gives.
    subst (λ (r : Request). s1.out ≡ s0.out ++ line_on cs g' u r) (sym (ap asked_of c.in_default.is)) (out told (refused bad_request) c.answer.ensures))

pub returns-in-Err-clause-stop_live : goal.returns-in-Err-clause-stop_live
returns-in-Err-clause-stop_live g c told lives g' cs a gives only =
    let st = g.H.Host.state in
    let u = state_of c.args.session.now.head.live in
    let s0 = st c.args.host.now in
    let s1 = st c.apply.new.host in
    subst (λ (r : Request). Elapses s0 s1 (IsPartLive s0.file s0.out cs g' u (answered r ∷ []))) (sym (ap asked_of c.in-Request.is))
    (applied-stops s0 cs g' u (request_of c.in-Request.request) s1 (c.apply.ensures.stop_here told only g' cs a gives))

pub returns-in-Ok-clause-stop_live : goal.returns-in-Ok-clause-stop_live
returns-in-Ok-clause-stop_live g c told lives g' cs a gives only =
    let st = g.H.Host.state in
    let u = state_of c.args.session.now.head.live in
    let q = request_of c.in-Request.request in
    let s0 = st c.args.host.now in
    let s1 = st c.apply.new.host in
    let s2 = st c.tell-in-Ok.new.host in
    let then_graph = after_on (change_of cs) u g' q in
    let holds = at-end-holds c.apply.new.self s1 then_graph (c.in-Ok.ensures.at_end told g' cs a gives) in
    let put = c.tell-in-Ok.ensures.stop (answer_on (change_of cs) u g' q) (c.in-Ok.ensures.answered_here told g' cs a gives) in
    subst (λ (r : Request). Elapses s0 s2 (IsPartLive s0.file s0.out cs g' u (answered r ∷ []))) (sym (ap asked_of c.in-Request.is))
    (said-stops s0 cs g' u q s1 s2 (c.in-Ok.ensures.durable told only) holds c.apply.ensures.out (c.apply.ensures.stop_here told only g' cs a gives) put)

pub returns-in_default-clause-stop_live : goal.returns-in_default-clause-stop_live
returns-in_default-clause-stop_live g c told lives g' cs a gives only =
    let st = g.H.Host.state in
    let session = c.args.session.now in
    let u = state_of session.head.live in
    let s0 = st c.args.host.now in
    let s1 = st c.tell.new.host in
    subst (λ (r : Request). Elapses s0 s1 (IsPartLive s0.file s0.out cs g' u (answered r ∷ []))) (sym (ap asked_of c.in_default.is))
    (told-stops s0 cs g' u unreadable s1 refl only (at-end-holds session s0 g' a) (c.tell.ensures.stop (refused bad_request) c.answer.ensures))

pub returns-in-Ok-clause-durable : goal.returns-in-Ok-clause-durable
returns-in-Ok-clause-durable g c =
    held c.tell-in-Ok.result
    (λ told only x left. c.in-Ok.ensures.durable told only x (c.tell-in-Ok.ensures.crash x left) ∙ sym c.tell-in-Ok.ensures.file)

pub returns-in_default-clause-durable : goal.returns-in_default-clause-durable
returns-in_default-clause-durable g c =
    held c.tell.result (λ told only x left. only x (c.tell.ensures.crash x left) ∙ sym c.tell.ensures.file)

-- ---- nodes

pub returns-in-Ok-clause-makes : goal.returns-in-Ok-clause-makes
returns-in-Ok-clause-makes g c =
    let s0 = g.H.Host.state c.args.host.now in
    held c.tell-in-Ok.result (subst (λ (r : Request). MakesNodes c.args.session.now c.apply.new.self s0 r) (sym (ap asked_of c.in-Request.is)) c.in-Ok.ensures.makes)

pub returns-in_default-clause-makes : goal.returns-in_default-clause-makes
returns-in_default-clause-makes g c = held c.tell.result (λ told g' a. omega arith)

-- ---- work

pub returns-in_default-clause-loads : goal.returns-in_default-clause-loads
returns-in_default-clause-loads g c =
    held c.tell.result (λ told g' a is. absurd (subst (λ (r : Request). IsMeasured g' r) (ap asked_of c.in_default.is) is))

pub returns-in_default-clause-most : goal.returns-in_default-clause-most
returns-in_default-clause-most g c =
    held c.tell.result (λ told g' a is few. absurd (subst (λ (r : Request). IsMeasured g' r) (ap asked_of c.in_default.is) is))

pub returns-in-Ok-clause-loads : goal.returns-in-Ok-clause-loads
returns-in-Ok-clause-loads g c =
    let st = g.H.Host.state in
    let q = request_of c.in-Request.request in
    let old = c.args.session.now in
    let s0 = st c.args.host.now in
    let s1 = st c.apply.new.host in
    let s2 = st c.tell-in-Ok.new.host in
    let ok = c.in-Ok.ensures in
    held c.tell-in-Ok.result
    (λ told g' a is.
    let measured : IsMeasured g' q = subst (λ (r : Request). IsMeasured g' r) (ap asked_of c.in-Request.is) is in
    let here = ok.answered_here told g' a.changes a.at_end a.gives in
    let next = ok.goes_on told g' a.changes a.at_end a.gives in
    let read =
    reads-by g' q s0.reads s1.reads measured c.apply.ensures.idle
    (λ text is_cell more.
    cell-reads old s0 g' a q text is_cell more s0.reads s1.reads (state_of c.apply.new.self.head.live) next
    (ok.attached told g' a).states.told.state
    (ok.reads (inl (text, is_cell)) (no-refusal old s0 g' a q more _ here) (no-size old s0 g' a q more _ here)))
    (λ to is_checkout none.
    ok.loads (to, is_checkout)
    (not-refused _ (step g' q).answer (ok.answered told g' a) none) told g' a) in
    let all = reads-both s0.reads s1.reads s2.reads (read_by g' q) 0 read c.tell-in-Ok.ensures.reads in
    subst (λ (r : Request). ReadsMore s0.reads s2.reads (read_by g' r)) (sym (ap asked_of c.in-Request.is))
    (subst (λ (n : ℕ). ReadsMore s0.reads s2.reads n) (omega arith) all))

pub returns-in-Ok-clause-most : goal.returns-in-Ok-clause-most
returns-in-Ok-clause-most g c =
    let st = g.H.Host.state in
    let q = request_of c.in-Request.request in
    let old = c.args.session.now in
    let s0 = st c.args.host.now in
    let ok = c.in-Ok.ensures in
    let before = c.args.steps.now in
    let now = c.apply.new.steps in
    held c.tell-in-Ok.result
    (λ told g' a is few.
    let measured : IsMeasured g' q = subst (λ (r : Request). IsMeasured g' r) (ap asked_of c.in-Request.is) is in
    let here = ok.answered_here told g' a.changes a.at_end a.gives in
    let next = ok.goes_on told g' a.changes a.at_end a.gives in
    let counted =
    steps-by g' q before now measured (λ idle. ok.still (inl idle))
    (λ text is_cell more.
    let most = ok.most text is_cell (no-refusal old s0 g' a q more _ here) (no-size old s0 g' a q more _ here) few in
    cell-counts old s0 g' a q text is_cell more before now (state_of c.apply.new.self.head.live) next few most)
    (λ to is_checkout. ok.still (inr ((to, is_checkout), few))) in
    subst (λ (r : Request). now ≤ before + steps_by g' r) (sym (ap asked_of c.in-Request.is)) counted)
