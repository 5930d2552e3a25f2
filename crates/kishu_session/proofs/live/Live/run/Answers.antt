use Rattle.std.proofs.Common.{◌≡◌, ℕ, List, [], ◌∷◌, sym, ◌∙◌, ap, subst, arith}
use Rattle.std.proofs.lemmas.Result.{on_ok_weaker}
use Rattle.kishu_language.specs.declared.profile.Profile.TheVariants.{One}
use Rattle.kishu_meaning.specs.cells.Meaning.{run}
use Rattle.kishu_meaning.specs.moments.Accesses.{with_accesses}
use Rattle.kishu_meaning.specs.values.Values.{State, report_of}
use Rattle.kishu_anew.specs.Anew.{IsWhole}
use Rattle.kishu_anew.specs.WholeLaws.{run_whole}
use Rattle.kishu_session.specs.Lives.{state_of}
use Rattle.kishu_session.specs.Renewing.{IsLeft}
use Rattle.kishu_session.proofs.Outcomes.{gives}
use Rattle.kishu_session.proofs.RunAnew.{accessed-alike, charge-alike, left-alike, report-alike}
use Rattle.kishu_session.proofs.live.Live.run.Goals as goal

pub run_cell-requires-clause-room : goal.run_cell-requires-clause-room
run_cell-requires-clause-room g c = omega (arith, c.in_ok-renew.ensures.anew.room)

pub returns-clause-report : goal.returns-clause-report
returns-clause-report g c =
    let text = c.args.text.now in
    let s = state_of c.args.self.now in
    let u = state_of c.renew.new.self in
    gives c.run_cell.result (λ r. report_of r ≡ (run One text u).report) (λ r. report_of r ≡ (run One text s).report) c.run_cell.ensures.report
    (λ r e. e ∙ report-alike text s u c.requires.whole c.in_ok-renew.ensures.anew c.in_ok-renew.ensures.is)

pub returns-clause-left : goal.returns-clause-left
returns-clause-left g c =
    let text = c.args.text.now in
    let s = state_of c.args.self.now in
    let u = state_of c.renew.new.self in
    on_ok_weaker c.run_cell.result (λ e. subst (λ (x : State). IsLeft (text ∷ []) s x) (sym e) (left-alike text s u c.requires.whole c.in_ok-renew.ensures.anew c.in_ok-renew.ensures.is)) c.run_cell.ensures.state

pub returns-clause-accessed : goal.returns-clause-accessed
returns-clause-accessed g c =
    let text = c.args.text.now in
    let s = state_of c.args.self.now in
    let u = state_of c.renew.new.self in
    on_ok_weaker c.run_cell.result
    (λ e.
    e
    ∙ ap (λ (xs : List (List ℕ)). with_accesses xs c.renew.new.self.names.accessed) (accessed-alike text s u c.requires.whole c.in_ok-renew.ensures.anew c.in_ok-renew.ensures.is)
    ∙ ap (λ (names : List (List ℕ)). with_accesses (run One text s).accessed names) c.in_ok-renew.ensures.accessed)
    c.run_cell.ensures.accessed

pub returns-clause-least : goal.returns-clause-least
returns-clause-least g c =
    let text = c.args.text.now in
    let s = state_of c.args.self.now in
    let u = state_of c.renew.new.self in
    on_ok_weaker c.run_cell.result (λ e. omega (arith, e, c.renew.ensures.counted, charge-alike text s u c.requires.whole c.in_ok-renew.ensures.anew c.in_ok-renew.ensures.is)) c.run_cell.ensures.least

pub returns-clause-most : goal.returns-clause-most
returns-clause-most g c =
    let text = c.args.text.now in
    let s = state_of c.args.self.now in
    let u = state_of c.renew.new.self in
    on_ok_weaker c.run_cell.result (λ e few. omega (arith, e, c.renew.ensures.still few, charge-alike text s u c.requires.whole c.in_ok-renew.ensures.anew c.in_ok-renew.ensures.is)) c.run_cell.ensures.most

pub returns-clause-whole : goal.returns-clause-whole
returns-clause-whole g c =
    let text = c.args.text.now in
    let u = state_of c.renew.new.self in
    on_ok_weaker c.run_cell.result (λ e. subst IsWhole (sym e) (run_whole text u (c.utf8.text, c.requires.short) c.in_ok-renew.ensures.anew.whole)) c.run_cell.ensures.state
