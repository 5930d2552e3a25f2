use Rattle.std.proofs.Common.{◌≡◌, ◌<◌, ◌≤◌, ℕ, true, false, length, refl, sym, ◌∙◌, subst, arith}
use Rattle.std.proofs.lemmas.Bool.Decides.{nat_tests}
use Rattle.std.proofs.lemmas.List.{length-map}
use Rattle.std.specs.List.{list_any}
use Rattle.std.specs.Rc.{rc_str_bytes}
use Rattle.kishu_store.specs.Graph.{Graph}
use Rattle.kishu_store.specs.Limits.{most_records}
use Rattle.kishu_store.specs.Tables.{change_of}
use Rattle.kishu_graph.specs.Kept.{StandsFor}
use Rattle.kishu_model.specs.Answers.{bad_request, cell_too_long, store_full}
use Rattle.kishu_model.specs.Request.{cells}
use Rattle.kishu_model.specs.requests.Cells.{is_too_long}
use Rattle.kishu_checkout.specs.Pictures.{told_file}
use Rattle.kishu_session.specs.Lives.{state_of}
use Rattle.kishu_session.specs.TextLists.{texts_of}
use Rattle.kishu_session.proofs.CellsSteps.{step-none, step-too-long, step-no-room, charge-none, charge-too-long, charge-no-room}
use Rattle.kishu_session.proofs.Still.{refused-leads, still-stays}
use Rattle.kishu_session.proofs.head.Head.cells.Goals as goal

-- ---- none

pub returns-then-is_empty-clause-leads : goal.returns-then-is_empty-clause-leads
returns-then-is_empty-clause-leads g c =
    let self = c.args.self.now in
    let all = texts_of c.args.texts.now in
    let nothing : length c.args.texts.now ≡ 0 = grind (arith, nat_tests, c.is_empty.ensures, c.if-is_empty.true) in
    let none : length all ≡ 0 = omega (arith, nothing, length-map c.args.texts.now rc_str_bytes) in
    refused-leads self (cells all) bad_request c.refused.result refl c.refused.ensures.answer c.refused.ensures.record (λ of g' st. step-none of (state_of self.live) g' all none)
    (told_file (g.H.Host.state c.args.host.now)) c.args.journal.now.place

pub returns-then-is_empty-clause-stays : goal.returns-then-is_empty-clause-stays
returns-then-is_empty-clause-stays g c = still-stays c.args.self.now c.args.host.now c.refused.result

pub returns-then-is_empty-clause-reads : goal.returns-then-is_empty-clause-reads
returns-then-is_empty-clause-reads g c some = absurd (some c.refused.ensures.record)

pub returns-then-is_empty-clause-least : goal.returns-then-is_empty-clause-least
returns-then-is_empty-clause-least g c h k =
    let all = texts_of c.args.texts.now in
    let nothing : length c.args.texts.now ≡ 0 = grind (arith, nat_tests, c.is_empty.ensures, c.if-is_empty.true) in
    omega (arith, charge-none (change_of h.changes) (state_of c.args.self.now.live) h.graph all (omega (arith, nothing, length-map c.args.texts.now rc_str_bytes)))

-- ---- one is too long

pub returns-then-has_long-clause-leads : goal.returns-then-has_long-clause-leads
returns-then-has_long-clause-leads g c =
    let self = c.args.self.now in
    let all = texts_of c.args.texts.now in
    let there : 0 < length c.args.texts.now = grind (arith, nat_tests, c.is_empty.ensures, c.if-is_empty.false) in
    let some : 0 < length all = omega (arith, there, length-map c.args.texts.now rc_str_bytes) in
    let long : list_any is_too_long all ≡ true = sym c.has_long.ensures ∙ c.if-has_long.true in
    refused-leads self (cells all) cell_too_long c.refused-then-has_long.result refl c.refused-then-has_long.ensures.answer c.refused-then-has_long.ensures.record
    (λ of g' st. step-too-long of (state_of self.live) g' all some long)
    (told_file (g.H.Host.state c.args.host.now)) c.args.journal.now.place

pub returns-then-has_long-clause-stays : goal.returns-then-has_long-clause-stays
returns-then-has_long-clause-stays g c = still-stays c.args.self.now c.args.host.now c.refused-then-has_long.result

pub returns-then-has_long-clause-reads : goal.returns-then-has_long-clause-reads
returns-then-has_long-clause-reads g c some = absurd (some c.refused-then-has_long.ensures.record)

pub returns-then-has_long-clause-least : goal.returns-then-has_long-clause-least
returns-then-has_long-clause-least g c h k =
    let all = texts_of c.args.texts.now in
    let there : 0 < length c.args.texts.now = grind (arith, nat_tests, c.is_empty.ensures, c.if-is_empty.false) in
    let some : 0 < length all = omega (arith, there, length-map c.args.texts.now rc_str_bytes) in
    omega (arith, charge-too-long (change_of h.changes) (state_of c.args.self.now.live) h.graph all some (sym c.has_long.ensures ∙ c.if-has_long.true))

-- ---- a store that is full

pub returns-then-records-ge-MOST_RECORDS-clause-leads : goal.returns-then-records-ge-MOST_RECORDS-clause-leads
returns-then-records-ge-MOST_RECORDS-clause-leads g c =
    let self = c.args.self.now in
    let all = texts_of c.args.texts.now in
    let there : 0 < length c.args.texts.now = grind (arith, nat_tests, c.is_empty.ensures, c.if-is_empty.false) in
    let some : 0 < length all = omega (arith, there, length-map c.args.texts.now rc_str_bytes) in
    let short : list_any is_too_long all ≡ false = sym c.has_long.ensures ∙ c.if-has_long.false in
    let none = λ (g' : Graph) (st : StandsFor self.graph g'). subst (λ (n : ℕ). most_records ≤ n) st.shape.records (omega (arith, c.records.ensures.value, c.if-records-ge-MOST_RECORDS.true)) in
    refused-leads self (cells all) store_full c.refused-then-records-ge-MOST_RECORDS.result refl c.refused-then-records-ge-MOST_RECORDS.ensures.answer c.refused-then-records-ge-MOST_RECORDS.ensures.record
    (λ of g' st. step-no-room of (state_of self.live) g' all some short (none g' st))
    (told_file (g.H.Host.state c.args.host.now)) c.args.journal.now.place

pub returns-then-records-ge-MOST_RECORDS-clause-stays : goal.returns-then-records-ge-MOST_RECORDS-clause-stays
returns-then-records-ge-MOST_RECORDS-clause-stays g c = still-stays c.args.self.now c.args.host.now c.refused-then-records-ge-MOST_RECORDS.result

pub returns-then-records-ge-MOST_RECORDS-clause-reads : goal.returns-then-records-ge-MOST_RECORDS-clause-reads
returns-then-records-ge-MOST_RECORDS-clause-reads g c some = absurd (some c.refused-then-records-ge-MOST_RECORDS.ensures.record)

pub returns-then-records-ge-MOST_RECORDS-clause-least : goal.returns-then-records-ge-MOST_RECORDS-clause-least
returns-then-records-ge-MOST_RECORDS-clause-least g c h k =
    let all = texts_of c.args.texts.now in
    let there : 0 < length c.args.texts.now = grind (arith, nat_tests, c.is_empty.ensures, c.if-is_empty.false) in
    let some : 0 < length all = omega (arith, there, length-map c.args.texts.now rc_str_bytes) in
    let none : most_records ≤ h.graph.records = omega (arith, c.records.ensures.value, c.if-records-ge-MOST_RECORDS.true, k.keeps.graph.shape.records) in
    omega (arith, charge-no-room (change_of h.changes) (state_of c.args.self.now.live) h.graph all some (sym c.has_long.ensures ∙ c.if-has_long.false) none)
