use Rattle.std.proofs.Common.{◌<◌, ◌≤◌, ℕ, length, refl, subst, arith}
use Rattle.std.specs.Rc.{rc_str_bytes}
use Rattle.kishu_language.specs.Limits.{longest_text}
use Rattle.kishu_store.specs.Graph.{Graph}
use Rattle.kishu_store.specs.Limits.{most_records}
use Rattle.kishu_store.specs.Tables.{change_of}
use Rattle.kishu_graph.specs.Kept.{StandsFor}
use Rattle.kishu_model.specs.Answers.{cell_too_long, store_full}
use Rattle.kishu_model.specs.Request.{cell}
use Rattle.kishu_checkout.specs.Pictures.{told_file}
use Rattle.kishu_session.specs.Lives.{state_of}
use Rattle.kishu_session.proofs.CellSteps.{step-long, step-full, charge-long, charge-full}
use Rattle.kishu_session.proofs.Still.{refused-leads, still-stays}
use Rattle.kishu_session.proofs.head.Head.cell.Goals as goal

-- ---- a text that is too long

pub returns-then-len-gt-LONGEST_TEXT-clause-leads : goal.returns-then-len-gt-LONGEST_TEXT-clause-leads
returns-then-len-gt-LONGEST_TEXT-clause-leads g c =
    let self = c.args.self.now in
    let text = rc_str_bytes c.args.text.now in
    let long : longest_text < length text = omega (arith, c.len.ensures, c.if-len-gt-LONGEST_TEXT.true) in
    refused-leads self (cell text) cell_too_long c.refused.result refl c.refused.ensures.answer c.refused.ensures.record (λ of g' st. step-long of (state_of self.live) g' text long)
    (told_file (g.H.Host.state c.args.host.now)) c.args.journal.now.place

pub returns-then-len-gt-LONGEST_TEXT-clause-stays : goal.returns-then-len-gt-LONGEST_TEXT-clause-stays
returns-then-len-gt-LONGEST_TEXT-clause-stays g c = still-stays c.args.self.now c.args.host.now c.refused.result

pub returns-then-len-gt-LONGEST_TEXT-clause-reads : goal.returns-then-len-gt-LONGEST_TEXT-clause-reads
returns-then-len-gt-LONGEST_TEXT-clause-reads g c some = absurd (some c.refused.ensures.record)

pub returns-then-len-gt-LONGEST_TEXT-clause-most : goal.returns-then-len-gt-LONGEST_TEXT-clause-most
returns-then-len-gt-LONGEST_TEXT-clause-most g c sizes = omega arith

pub returns-then-len-gt-LONGEST_TEXT-clause-least : goal.returns-then-len-gt-LONGEST_TEXT-clause-least
returns-then-len-gt-LONGEST_TEXT-clause-least g c h k =
    let text = rc_str_bytes c.args.text.now in
    let long : longest_text < length text = omega (arith, c.len.ensures, c.if-len-gt-LONGEST_TEXT.true) in
    omega (arith, charge-long (change_of h.changes) (state_of c.args.self.now.live) h.graph text long)

-- ---- a store that is full

pub returns-then-records-ge-MOST_RECORDS-clause-leads : goal.returns-then-records-ge-MOST_RECORDS-clause-leads
returns-then-records-ge-MOST_RECORDS-clause-leads g c =
    let self = c.args.self.now in
    let text = rc_str_bytes c.args.text.now in
    let short : length text ≤ longest_text = omega (arith, c.len.ensures, c.if-len-gt-LONGEST_TEXT.false) in
    let none = λ (g' : Graph) (st : StandsFor self.graph g'). subst (λ (n : ℕ). most_records ≤ n) st.shape.records (omega (arith, c.records.ensures.value, c.if-records-ge-MOST_RECORDS.true)) in
    refused-leads self (cell text) store_full c.refused-then-records-ge-MOST_RECORDS.result refl c.refused-then-records-ge-MOST_RECORDS.ensures.answer c.refused-then-records-ge-MOST_RECORDS.ensures.record (λ of g' st. step-full of (state_of self.live) g' text short (none g' st))
    (told_file (g.H.Host.state c.args.host.now)) c.args.journal.now.place

pub returns-then-records-ge-MOST_RECORDS-clause-stays : goal.returns-then-records-ge-MOST_RECORDS-clause-stays
returns-then-records-ge-MOST_RECORDS-clause-stays g c = still-stays c.args.self.now c.args.host.now c.refused-then-records-ge-MOST_RECORDS.result

pub returns-then-records-ge-MOST_RECORDS-clause-reads : goal.returns-then-records-ge-MOST_RECORDS-clause-reads
returns-then-records-ge-MOST_RECORDS-clause-reads g c some = absurd (some c.refused-then-records-ge-MOST_RECORDS.ensures.record)

pub returns-then-records-ge-MOST_RECORDS-clause-most : goal.returns-then-records-ge-MOST_RECORDS-clause-most
returns-then-records-ge-MOST_RECORDS-clause-most g c sizes = omega arith

pub returns-then-records-ge-MOST_RECORDS-clause-least : goal.returns-then-records-ge-MOST_RECORDS-clause-least
returns-then-records-ge-MOST_RECORDS-clause-least g c h k =
    let text = rc_str_bytes c.args.text.now in
    let short : length text ≤ longest_text = omega (arith, c.len.ensures, c.if-len-gt-LONGEST_TEXT.false) in
    let none : most_records ≤ h.graph.records = omega (arith, c.records.ensures.value, c.if-records-ge-MOST_RECORDS.true, k.keeps.graph.shape.records) in
    omega (arith, charge-full (change_of h.changes) (state_of c.args.self.now.live) h.graph text short none)
