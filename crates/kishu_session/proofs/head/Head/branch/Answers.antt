use Rattle.std.proofs.Common.{◌≡◌, List, Some, ℕ, refl, sym, subst, arith}
use Rattle.std.specs.Rc.{rc_str_bytes}
use Rattle.kishu_store.specs.Entries.{plain, name as named}
use Rattle.kishu_model.specs.Answers.{branched}
use Rattle.kishu_model.specs.Request.{branch}
use Rattle.kishu_model.specs.Values.{refusal_of, answer_of}
use Rattle.kishu_graph.specs.Kept.{Kept}
use Rattle.kishu_session.specs.Branching.{BranchesAt, IsCause}
use Rattle.kishu_session.specs.Prepared.{LeadsAlone, record_in}
use Rattle.kishu_session.specs.TextLists.{text_in}
use Rattle.kishu_session.specs.declared.head.Head.{Head}
use Rattle.kishu_session.specs.declared.prepared.Prepared.{Prepared}
use Rattle.kishu_session.proofs.BranchFacts.{both, branch-leads, branch-fault, fault-by-graph}
use Rattle.kishu_session.proofs.Still.{refused-leads}
use Rattle.kishu_session.proofs.head.Head.branch.Goals as goal

pub returns-in-Ok-clause-leads : goal.returns-in-Ok-clause-leads
returns-in-Ok-clause-leads c =
    let old = c.args.self.now in
    let title = rc_str_bytes c.args.name.now in
    let at = text_in c.args.at.now in
    let commit = c.in-Ok.commit in
    let new : Head = record old { graph = c.add_branch.new.graph } in
    let made = subst (λ (t : List ℕ). BranchesAt old.graph c.add_branch.new.graph t at commit) c.as_str.ensures.value c.in-Ok.ensures.branched in
    both c.branched.result (λ (p : Prepared). answer_of p.answer ≡ Some (branched commit title))
    (λ (p : Prepared). record_in p.recorded ≡ Some (plain (named title commit))) (LeadsAlone old new (branch title at))
    c.branched.ensures.answer c.branched.ensures.record
    (λ p answer recorded. branch-leads old new title at commit (omega arith) made (record { live = refl; table = refl; kept = refl }) refl p answer recorded c.requires.known)

pub returns-in_ok-refusal-in-Err-clause-leads : goal.returns-in_ok-refusal-in-Err-clause-leads
returns-in_ok-refusal-in-Err-clause-leads c =
    let old = c.args.self.now in
    let title = rc_str_bytes c.args.name.now in
    let at = text_in c.args.at.now in
    let fault = c.in-Err.fault in
    let r = refusal_of c.in_ok-refusal-in-Err.field-0 in
    let by = c.in_ok-refusal-in-Err.ensures in
    let cause = subst (λ (t : List ℕ). IsCause old.graph t at fault) c.as_str.ensures.value c.in-Err.ensures.refused in
    subst (λ (k : Kept). LeadsAlone old (record old { graph = k }) (branch title at) c.refused.result) (sym c.in-Err.ensures.err)
    (refused-leads old (branch title at) r c.refused.result (fault-by-graph fault r by) c.refused.ensures.answer c.refused.ensures.record
    (λ of g s. branch-fault g title at old.graph fault r by cause s.shape))
