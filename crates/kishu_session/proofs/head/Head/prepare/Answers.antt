use Rattle.std.proofs.Common.{◌≡◌, ◌∙◌, inl, inr, ℕ, List, Result, Ok, Err, sym, ap, subst, arith}
use Rattle.std.specs.Prelude.{IfOk}
use Rattle.std.specs.Rc.{rc_str_bytes}
use Rattle.std.specs.declared.alloc.Global.{Global}
use Rattle.std.specs.declared.rc.RcStr.{RcStr}
use Rattle.kishu_model.specs.declared.request.Request.{Request}
use Rattle.kishu_model.specs.Request.{cell, cells, checkout, inspect, stored, plan}
use Rattle.kishu_model.specs.Values.{request_of}
use Rattle.kishu_checkout.specs.Pictures.{told_file}
use Rattle.kishu_session.specs.Asked.{cells_for}
use Rattle.kishu_session.specs.Prepared.{LacksFor, LeadsOn}
use Rattle.kishu_session.specs.Renewing.{StaysHere}
use Rattle.kishu_session.specs.Working.{CountsCell, CountsFor, IsIdle, LeavesSteps, ReadsAsked, ReadsFor, ReadsRows}
use Rattle.kishu_session.specs.declared.head.Head.{Head}
use Rattle.kishu_session.proofs.Commits.{known-history}
use Rattle.kishu_session.proofs.Outcomes.{gives}
use Rattle.kishu_session.proofs.RanOn.{table-known}
use Rattle.kishu_session.proofs.Work.{reads-still}
use Rattle.kishu_session.proofs.head.Head.prepare.Goals as goal

cell-text : (a b : List ℕ) → cell a ≡ cell b → a ≡ b
cell-text a b e = cc (e)

cells-no-cell : (a : List (List ℕ)) (b : List ℕ) → cells a ≡ cell b → ⊥
cells-no-cell a b e = cc (e)

checkout-no-cell : (a b : List ℕ) → checkout a ≡ cell b → ⊥
checkout-no-cell a b e = cc (e)

inspect-no-cell : (b : List ℕ) → inspect ≡ cell b → ⊥
inspect-no-cell b e = cc (e)

-- ---- what takes steps

cell-takes : (head : Head) (text : List ℕ) → LeavesSteps head (cell text) → ⊥
cell-takes head text (inl idle) = idle
cell-takes head text (inr k) = cc (k.0.1)

cells-take : (head : Head) (texts : List (List ℕ)) → LeavesSteps head (cells texts) → ⊥
cells-take head texts (inl idle) = idle
cells-take head texts (inr k) = cc (k.0.1)

inspect-takes : (head : Head) → LeavesSteps head inspect → ⊥
inspect-takes head (inl idle) = idle
inspect-takes head (inr k) = cc (k.0.1)

-- A checkout takes none where the state isn't loaded anew.
checkout-stays : (head : Head) (to : List ℕ) → LeavesSteps head (checkout to) → StaysHere head
checkout-stays head to (inl idle) = absurd idle
checkout-stays head to (inr k) = k.1

each-unit : {T E : Type 0} (r : Result T E) → IfOk r (λ _. Unit {0})
each-unit (Ok x) = tt
each-unit (Err e) = tt

pub branch-self-requires : goal.branch-self-requires
branch-self-requires g c = record { known = known-history c.args.self.now c.args.journal.now.place c.requires.known }

pub plan-requires : goal.plan-requires
plan-requires g c = record { table = table-known c.args.journal.now.place c.args.self.now c.requires.known }

pub returns-in-Cell-clause-damaged : goal.returns-in-Cell-clause-damaged
returns-in-Cell-clause-damaged g c at is =
    subst (λ (r : Request). LacksFor c.args.self.now.graph (g.H.Host.state c.args.host.now) (request_of r) at) (sym c.in-Cell.is)
    (λ h kept. (tt, c.cell.ensures.damaged at is h kept))

pub returns-in-Cells-clause-damaged : goal.returns-in-Cells-clause-damaged
returns-in-Cells-clause-damaged g c at is =
    subst (λ (r : Request). LacksFor c.args.self.now.graph (g.H.Host.state c.args.host.now) (request_of r) at) (sym c.in-Cells.is)
    (λ h kept. (tt, c.cells.ensures.damaged at is h kept))

pub returns-in-Checkout-clause-damaged : goal.returns-in-Checkout-clause-damaged
returns-in-Checkout-clause-damaged g c at is =
    let s = g.H.Host.state c.args.host.now in
    let kept = c.args.self.now.graph in
    subst (λ (r : Request). LacksFor kept s (request_of r) at) (sym c.in-Checkout.is)
    (subst (λ (t : List ℕ). LacksFor kept s (checkout t) at) c.as_str.ensures.value (c.checkout.ensures.damaged at is))

pub returns-in_ok-branch-in-Branch-clause-leads : goal.returns-in_ok-branch-in-Branch-clause-leads
returns-in_ok-branch-in-Branch-clause-leads g c =
    let file = told_file (g.H.Host.state c.args.host.now) in
    let place = c.args.journal.now.place in
    subst (λ (r : Request). LeadsOn file place c.args.self.now c.branch-self.new.self (request_of r) c.in_ok-branch-in-Branch.field-0)
    (sym c.in-Branch.is) (c.in_ok-branch-in-Branch.ensures.leads file place)

pub returns-in_ok-log-in-Log-clause-leads : goal.returns-in_ok-log-in-Log-clause-leads
returns-in_ok-log-in-Log-clause-leads g c =
    let file = told_file (g.H.Host.state c.args.host.now) in
    let place = c.args.journal.now.place in
    subst (λ (r : Request). LeadsOn file place c.args.self.now c.args.self.now (request_of r) c.in_ok-log-in-Log.field-0) (sym c.in-Log.is)
    (c.in_ok-log-in-Log.ensures.leads file place)

pub returns-in_ok-status-in-Status-clause-leads : goal.returns-in_ok-status-in-Status-clause-leads
returns-in_ok-status-in-Status-clause-leads g c =
    let file = told_file (g.H.Host.state c.args.host.now) in
    let place = c.args.journal.now.place in
    subst (λ (r : Request). LeadsOn file place c.args.self.now c.args.self.now (request_of r) c.in_ok-status-in-Status.field-0)
    (sym c.in-Status.is) (c.in_ok-status-in-Status.ensures.leads file place)

pub returns-in_ok-inspect-in-Inspect-clause-leads : goal.returns-in_ok-inspect-in-Inspect-clause-leads
returns-in_ok-inspect-in-Inspect-clause-leads g c =
    let file = told_file (g.H.Host.state c.args.host.now) in
    let place = c.args.journal.now.place in
    subst (λ (r : Request). LeadsOn file place c.args.self.now c.args.self.now (request_of r) c.in_ok-inspect-in-Inspect.field-0)
    (sym c.in-Inspect.is) (c.in_ok-inspect-in-Inspect.ensures.leads file place)

pub returns-in_ok-stored-in-Stored-clause-leads : goal.returns-in_ok-stored-in-Stored-clause-leads
returns-in_ok-stored-in-Stored-clause-leads g c =
    let file = told_file (g.H.Host.state c.args.host.now) in
    let place = c.args.journal.now.place in
    let p = c.in_ok-stored-in-Stored.field-0 in
    let self = c.args.self.now in
    subst (λ (r : Request). LeadsOn file place self self (request_of r) p) (sym c.in-Stored.is)
    (subst (λ (t : List ℕ). LeadsOn file place self self (stored t) p) c.as_str-in-Stored.ensures.value (c.in_ok-stored-in-Stored.ensures.leads file place))

pub returns-in_ok-plan-in-Plan-clause-leads : goal.returns-in_ok-plan-in-Plan-clause-leads
returns-in_ok-plan-in-Plan-clause-leads g c =
    let file = told_file (g.H.Host.state c.args.host.now) in
    let place = c.args.journal.now.place in
    let p = c.in_ok-plan-in-Plan.field-0 in
    let self = c.args.self.now in
    subst (λ (r : Request). LeadsOn file place self self (request_of r) p) (sym c.in-Plan.is)
    (subst (λ (t : List ℕ). LeadsOn file place self self (plan t) p) c.as_str-in-Plan.ensures.value (c.in_ok-plan-in-Plan.ensures.leads file place))

-- ---- what is read

pub returns-in-Cell-clause-reads : goal.returns-in-Cell-clause-reads
returns-in-Cell-clause-reads g c =
    let st = g.H.Host.state in
    subst (λ (r : Request). IfOk c.cell.result (ReadsFor c.args.self.now c.cell.new.self (st c.args.host.now) (st c.cell.new.host) (request_of r))) (sym c.in-Cell.is)
    c.cell.ensures.reads

pub returns-in-Cells-clause-reads : goal.returns-in-Cells-clause-reads
returns-in-Cells-clause-reads g c =
    let st = g.H.Host.state in
    let self = c.args.self.now in
    let new = c.cells.new.self in
    let s = st c.args.host.now in
    let t = st c.cells.new.host in
    subst (λ (r : Request). IfOk c.cells.result (ReadsFor self new s t (request_of r))) (sym c.in-Cells.is)
    (subst (λ (ts : List (RcStr Global)). IfOk c.cells.result (ReadsAsked self new s t (cells_for ts))) c.deref.ensures.value c.cells.ensures.reads)

pub returns-in-Checkout-clause-reads : goal.returns-in-Checkout-clause-reads
returns-in-Checkout-clause-reads g c =
    let st = g.H.Host.state in
    let self = c.args.self.now in
    let s = st c.args.host.now in
    let t = st c.checkout.new.host in
    subst (λ (r : Request). IfOk c.checkout.result (ReadsFor self c.checkout.new.self s t (request_of r))) (sym c.in-Checkout.is)
    (subst (λ (to : List ℕ). IfOk c.checkout.result (ReadsRows self.graph s t to)) c.as_str.ensures.value c.checkout.ensures.reads)

pub returns-in_ok-branch-in-Branch-clause-reads : goal.returns-in_ok-branch-in-Branch-clause-reads
returns-in_ok-branch-in-Branch-clause-reads g c =
    let s = g.H.Host.state c.args.host.now in
    subst (λ (r : Request). ReadsFor c.args.self.now c.branch-self.new.self s s (request_of r) c.in_ok-branch-in-Branch.field-0) (sym c.in-Branch.is) (λ sizes. reads-still s.reads)

pub returns-in_ok-log-in-Log-clause-reads : goal.returns-in_ok-log-in-Log-clause-reads
returns-in_ok-log-in-Log-clause-reads g c =
    let s = g.H.Host.state c.args.host.now in
    subst (λ (r : Request). ReadsFor c.args.self.now c.args.self.now s s (request_of r) c.in_ok-log-in-Log.field-0) (sym c.in-Log.is) (λ sizes. reads-still s.reads)

pub returns-in_ok-status-in-Status-clause-reads : goal.returns-in_ok-status-in-Status-clause-reads
returns-in_ok-status-in-Status-clause-reads g c =
    let s = g.H.Host.state c.args.host.now in
    subst (λ (r : Request). ReadsFor c.args.self.now c.args.self.now s s (request_of r) c.in_ok-status-in-Status.field-0) (sym c.in-Status.is) (λ sizes. reads-still s.reads)

pub returns-in_ok-inspect-in-Inspect-clause-reads : goal.returns-in_ok-inspect-in-Inspect-clause-reads
returns-in_ok-inspect-in-Inspect-clause-reads g c =
    let s = g.H.Host.state c.args.host.now in
    subst (λ (r : Request). ReadsFor c.args.self.now c.args.self.now s s (request_of r) c.in_ok-inspect-in-Inspect.field-0) (sym c.in-Inspect.is) (λ sizes. reads-still s.reads)

pub returns-in_ok-stored-in-Stored-clause-reads : goal.returns-in_ok-stored-in-Stored-clause-reads
returns-in_ok-stored-in-Stored-clause-reads g c =
    let s = g.H.Host.state c.args.host.now in
    subst (λ (r : Request). ReadsFor c.args.self.now c.args.self.now s s (request_of r) c.in_ok-stored-in-Stored.field-0) (sym c.in-Stored.is) (λ sizes. reads-still s.reads)

pub returns-in_ok-plan-in-Plan-clause-reads : goal.returns-in_ok-plan-in-Plan-clause-reads
returns-in_ok-plan-in-Plan-clause-reads g c =
    let s = g.H.Host.state c.args.host.now in
    subst (λ (r : Request). ReadsFor c.args.self.now c.args.self.now s s (request_of r) c.in_ok-plan-in-Plan.field-0) (sym c.in-Plan.is) (λ sizes. reads-still s.reads)

-- ---- what is counted

pub returns-in-Cell-clause-still : goal.returns-in-Cell-clause-still
returns-in-Cell-clause-still g c is = absurd (cell-takes c.args.self.now _ (subst (λ (r : Request). LeavesSteps c.args.self.now (request_of r)) c.in-Cell.is is))

pub returns-in-Cells-clause-still : goal.returns-in-Cells-clause-still
returns-in-Cells-clause-still g c is = absurd (cells-take c.args.self.now _ (subst (λ (r : Request). LeavesSteps c.args.self.now (request_of r)) c.in-Cells.is is))

pub returns-in_ok-inspect-in-Inspect-clause-still : goal.returns-in_ok-inspect-in-Inspect-clause-still
returns-in_ok-inspect-in-Inspect-clause-still g c is = absurd (inspect-takes c.args.self.now (subst (λ (r : Request). LeavesSteps c.args.self.now (request_of r)) c.in-Inspect.is is))

pub returns-in_err-inspect-in-Inspect-clause-still : goal.returns-in_err-inspect-in-Inspect-clause-still
returns-in_err-inspect-in-Inspect-clause-still g c is = absurd (inspect-takes c.args.self.now (subst (λ (r : Request). LeavesSteps c.args.self.now (request_of r)) c.in-Inspect.is is))

pub returns-in-Checkout-clause-still : goal.returns-in-Checkout-clause-still
returns-in-Checkout-clause-still g c is =
    c.checkout.ensures.still (checkout-stays c.args.self.now _ (subst (λ (r : Request). LeavesSteps c.args.self.now (request_of r)) c.in-Checkout.is is))

-- ---- what doesn't call the host

pub returns-in-Cell-clause-idle : goal.returns-in-Cell-clause-idle
returns-in-Cell-clause-idle g c is = absurd (subst (λ (r : Request). IsIdle (request_of r)) c.in-Cell.is is)

pub returns-in-Cells-clause-idle : goal.returns-in-Cells-clause-idle
returns-in-Cells-clause-idle g c is = absurd (subst (λ (r : Request). IsIdle (request_of r)) c.in-Cells.is is)

pub returns-in-Checkout-clause-idle : goal.returns-in-Checkout-clause-idle
returns-in-Checkout-clause-idle g c is = absurd (subst (λ (r : Request). IsIdle (request_of r)) c.in-Checkout.is is)

pub returns-in-Cell-clause-most : goal.returns-in-Cell-clause-most
returns-in-Cell-clause-most g c =
    let self = c.args.self.now in
    let new = c.cell.new.self in
    gives c.cell.result (λ p. CountsCell self new (rc_str_bytes c.in-Cell.text) p.answer c.args.steps.now c.cell.new.steps)
    (λ p. CountsFor self new (request_of c.args.request.now) p.answer c.args.steps.now c.cell.new.steps) c.cell.ensures.most
    (λ p counts text is. subst (λ (t : List ℕ). CountsCell self new t p.answer c.args.steps.now c.cell.new.steps) (cell-text _ text (sym (ap request_of c.in-Cell.is) ∙ is)) counts)

pub returns-in-Cells-clause-most : goal.returns-in-Cells-clause-most
returns-in-Cells-clause-most g c =
    gives c.cells.result (λ p. Unit {0}) (λ p. CountsFor c.args.self.now c.cells.new.self (request_of c.args.request.now) p.answer c.args.steps.now c.cells.new.steps) (each-unit c.cells.result)
    (λ p _ text is. absurd (cells-no-cell _ text (sym (ap request_of c.in-Cells.is) ∙ is)))

pub returns-in-Checkout-clause-most : goal.returns-in-Checkout-clause-most
returns-in-Checkout-clause-most g c =
    gives c.checkout.result (λ p. Unit {0}) (λ p. CountsFor c.args.self.now c.checkout.new.self (request_of c.args.request.now) p.answer c.args.steps.now c.checkout.new.steps)
    (each-unit c.checkout.result) (λ p _ text is. absurd (checkout-no-cell _ text (sym (ap request_of c.in-Checkout.is) ∙ is)))

pub returns-in_ok-inspect-in-Inspect-clause-most : goal.returns-in_ok-inspect-in-Inspect-clause-most
returns-in_ok-inspect-in-Inspect-clause-most g c text is = absurd (inspect-no-cell text (sym (ap request_of c.in-Inspect.is) ∙ is))

pub returns-in_ok-branch-in-Branch-clause-most : goal.returns-in_ok-branch-in-Branch-clause-most
returns-in_ok-branch-in-Branch-clause-most g c text is sizes stays = omega arith

pub returns-in_ok-log-in-Log-clause-most : goal.returns-in_ok-log-in-Log-clause-most
returns-in_ok-log-in-Log-clause-most g c text is sizes stays = omega arith

pub returns-in_ok-status-in-Status-clause-most : goal.returns-in_ok-status-in-Status-clause-most
returns-in_ok-status-in-Status-clause-most g c text is sizes stays = omega arith

pub returns-in_ok-stored-in-Stored-clause-most : goal.returns-in_ok-stored-in-Stored-clause-most
returns-in_ok-stored-in-Stored-clause-most g c text is sizes stays = omega arith

pub returns-in_ok-plan-in-Plan-clause-most : goal.returns-in_ok-plan-in-Plan-clause-most
returns-in_ok-plan-in-Plan-clause-most g c text is sizes stays = omega arith
