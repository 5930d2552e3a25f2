use Rattle.std.proofs.Common.{◌≡◌, ◌<◌, ◌≤◌, ℕ, suc, true, false, List, [], ◌∷◌, length, Some, refl, sym, ◌∙◌, ap, subst, arith}
use Rattle.std.proofs.lemmas.Result.{err_from_is_err_and}
use Rattle.std.specs.Rc.{rc_str_bytes}
use Rattle.kishu_language.specs.Limits.{longest_text}
use Rattle.kishu_language.specs.declared.profile.Profile.TheVariants.{One}
use Rattle.kishu_meaning.specs.cells.Meaning.{run}
use Rattle.kishu_meaning.specs.values.Values.{State, report_of}
use Rattle.kishu_store.specs.Graph.{Graph, count_of, with_commit}
use Rattle.kishu_store.specs.Histories.{History}
use Rattle.kishu_store.specs.Limits.{most_records}
use Rattle.kishu_store.specs.Tables.{Table, change_of}
use Rattle.kishu_graph.specs.Kept.{StandsFor}
use Rattle.kishu_graph.specs.Tables.{table_of_rows}
use Rattle.kishu_anew.specs.Anew.{IsSmall, IsWhole, most_kept}
use Rattle.kishu_anew.specs.WholeLaws.{whole_sound}
use Rattle.kishu_model.specs.Request.{Stepped, cell, refused_with}
use Rattle.kishu_model.specs.Values.{refusal_of}
use Rattle.kishu_model.specs.declared.answer.Answer.TheVariants.{Cell}
use Rattle.kishu_checkout.specs.Pictures.{told_file}
use Rattle.kishu_live_laws.specs.OnStates.{leave_too_large, told_too_large}
use Rattle.kishu_session.specs.Known.{IsHistoryOf}
use Rattle.kishu_session.specs.Lives.{state_of}
use Rattle.kishu_session.specs.Prepared.{LeadsOn, StaysWithout, CountsOn}
use Rattle.kishu_session.specs.Renewing.{IsLeft}
use Rattle.kishu_session.specs.TextLists.{texts_of}
use Rattle.kishu_session.specs.Working.{CountsCell, ReadsAsked}
use Rattle.kishu_session.specs.declared.live.Live.{Live}
use Rattle.kishu_session.specs.declared.prepared.Prepared.{Prepared}
use Rattle.kishu_session.proofs.CellSteps.{step-large, step-small, charge-run, unrefused, cell-told}
use Rattle.kishu_session.proofs.Commits.{known-history}
use Rattle.kishu_session.proofs.Committed.{committed-leads, committed-stays, cell-counted}
use Rattle.kishu_session.proofs.Large.{went-back, back-leads, back-stays}
use Rattle.kishu_session.proofs.LongTexts.{may-commit-one}
use Rattle.kishu_session.proofs.Outcomes.{always}
use Rattle.kishu_session.proofs.RanOn.{RanOn, one-ran, has-run, known-small, large-known, leaves-known, table-known, told_bytes}
use Rattle.kishu_session.proofs.Sizes.{found-large, found-small}
use Rattle.kishu_session.proofs.Work.{nodes-are, reads-ran}
use Rattle.kishu_session.proofs.head.Head.commit_cell.Goals as goal

pub run-requires : goal.run-requires
run-requires g c =
    let self = c.args.self.now in
    let cleared = c.clear_record.ensures.state in
    record {
      short = subst (λ (t : List ℕ). length t ≤ longest_text) (sym c.as_str.ensures.value) c.requires.short;
      whole = subst IsWhole (sym cleared) c.requires.whole;
      small = subst IsSmall (sym cleared) (known-small c.args.journal.now.place self c.requires.known);
    }

pub back-requires : goal.back-requires
back-requires g c = record { known = known-history c.args.self.now c.args.journal.now.place c.requires.known }

-- ---- a state that is too large

pub returns-in-Some-clause-leads : goal.returns-in-Some-clause-leads
returns-in-Some-clause-leads g c =
    let self = c.args.self.now in
    let place = c.args.journal.now.place in
    let text = rc_str_bytes c.args.text.now in
    let s = state_of self.live in
    let rows = table_of_rows self.table in
    let u = state_of c.run.new.self in
    let sound = whole_sound s c.requires.whole in
    let is-sound = whole_sound u c.in_ok-result.ensures.whole in
    let ran = one-ran self.live c.clear_record.new.self c.run.new.self text c.as_str.result.now c.as_str.ensures.value c.clear_record.ensures.state c.clear_record.ensures.accessed c.in_ok-result.ensures.left c.in_ok-result.ensures.accessed in
    let found = found-large rows (text ∷ []) s u sound is-sound c.run.new.self.names.accessed ran.left ran.accessed c.in_ok-found.found c.in_ok-found.ensures.refusal c.in-Some.refusal c.in-Some.is in
    let bytes = told_bytes place self c.requires.known (text ∷ []) in
    let file = told_file (g.H.Host.state c.args.host.now) in
    let room = λ (g' : Graph) (st : StandsFor self.graph g'). subst (λ (n : ℕ). n < most_records) st.shape.records c.requires.room in
    went-back file c.back.result self c.back.new.self c.run.new.self bytes (refusal_of c.in-Some.refusal) (LeadsOn file place self c.back.new.self (cell text))
    found.1 c.back.ensures.answer c.back.ensures.record c.back.ensures.back c.back.ensures.count
    (λ p b. back-leads file place self c.back.new.self (cell text) bytes p b (large-known place self c.requires.known (text ∷ []) found.0)
    (λ h k. step-large (change_of h.changes) s h.graph text c.requires.short (room h.graph k.keeps.graph) (leaves-known place self c.requires.known (text ∷ []) true found.0 h k)
    ∙ ap (λ (x : Table). refused_with (told_too_large x (text ∷ []) s) h.graph) (sym (table-known place self c.requires.known h k)))
    (λ of g' st. unrefused of s g' text c.requires.short (room g' st)))

pub returns-in-Some-clause-stays : goal.returns-in-Some-clause-stays
returns-in-Some-clause-stays g c =
    let self = c.args.self.now in
    let place = c.args.journal.now.place in
    let text = rc_str_bytes c.args.text.now in
    let s = state_of self.live in
    let rows = table_of_rows self.table in
    let u = state_of c.run.new.self in
    let sound = whole_sound s c.requires.whole in
    let is-sound = whole_sound u c.in_ok-result.ensures.whole in
    let ran = one-ran self.live c.clear_record.new.self c.run.new.self text c.as_str.result.now c.as_str.ensures.value c.clear_record.ensures.state c.clear_record.ensures.accessed c.in_ok-result.ensures.left c.in_ok-result.ensures.accessed in
    let found = found-large rows (text ∷ []) s u sound is-sound c.run.new.self.names.accessed ran.left ran.accessed c.in_ok-found.found c.in_ok-found.ensures.refusal c.in-Some.refusal c.in-Some.is in
    let bytes = told_bytes place self c.requires.known (text ∷ []) in
    let file = told_file (g.H.Host.state c.args.host.now) in
    went-back file c.back.result self c.back.new.self c.run.new.self bytes (refusal_of c.in-Some.refusal) (StaysWithout self c.back.new.self c.args.host.now c.back.new.host)
    found.1 c.back.ensures.answer c.back.ensures.record c.back.ensures.back c.back.ensures.count
    (λ p b. back-stays file place self c.back.new.self (cell text) bytes p b c.args.host.now c.back.new.host)

pub returns-in-Some-clause-reads : goal.returns-in-Some-clause-reads
returns-in-Some-clause-reads g c =
    let st = g.H.Host.state in
    let self = c.args.self.now in
    let place = c.args.journal.now.place in
    let text = rc_str_bytes c.args.text.now in
    let s = state_of self.live in
    let rows = table_of_rows self.table in
    let u = state_of c.run.new.self in
    let sound = whole_sound s c.requires.whole in
    let is-sound = whole_sound u c.in_ok-result.ensures.whole in
    let ran = one-ran self.live c.clear_record.new.self c.run.new.self text c.as_str.result.now c.as_str.ensures.value c.clear_record.ensures.state c.clear_record.ensures.accessed c.in_ok-result.ensures.left c.in_ok-result.ensures.accessed in
    let found = found-large rows (text ∷ []) s u sound is-sound c.run.new.self.names.accessed ran.left ran.accessed c.in_ok-found.found c.in_ok-found.ensures.refusal c.in-Some.refusal c.in-Some.is in
    let bytes = told_bytes place self c.requires.known (text ∷ []) in
    let file = told_file (st c.args.host.now) in
    went-back file c.back.result self c.back.new.self c.run.new.self bytes (refusal_of c.in-Some.refusal) (ReadsAsked self c.back.new.self (st c.args.host.now) (st c.back.new.host) (cell text))
    found.1 c.back.ensures.answer c.back.ensures.record c.back.ensures.back c.back.ensures.count
    (λ p b some. absurd (some b.none))

pub returns-in-Some-clause-most : goal.returns-in-Some-clause-most
returns-in-Some-clause-most g c =
    let self = c.args.self.now in
    let place = c.args.journal.now.place in
    let text = rc_str_bytes c.args.text.now in
    let s = state_of self.live in
    let rows = table_of_rows self.table in
    let u = state_of c.run.new.self in
    let sound = whole_sound s c.requires.whole in
    let is-sound = whole_sound u c.in_ok-result.ensures.whole in
    let ran = one-ran self.live c.clear_record.new.self c.run.new.self text c.as_str.result.now c.as_str.ensures.value c.clear_record.ensures.state c.clear_record.ensures.accessed c.in_ok-result.ensures.left c.in_ok-result.ensures.accessed in
    let found = found-large rows (text ∷ []) s u sound is-sound c.run.new.self.names.accessed ran.left ran.accessed c.in_ok-found.found c.in_ok-found.ensures.refusal c.in-Some.refusal c.in-Some.is in
    let bytes = told_bytes place self c.requires.known (text ∷ []) in
    let file = told_file (g.H.Host.state c.args.host.now) in
    went-back file c.back.result self c.back.new.self c.run.new.self bytes (refusal_of c.in-Some.refusal) (λ p. CountsCell self c.back.new.self text p.answer c.args.steps.now c.too_large.new.steps)
    found.1 c.back.ensures.answer c.back.ensures.record c.back.ensures.back c.back.ensures.count
    (λ p b sizes. absurd (sizes bytes b.answer))

pub returns-in-Some-clause-least : goal.returns-in-Some-clause-least
returns-in-Some-clause-least g c =
    let self = c.args.self.now in
    let text = rc_str_bytes c.args.text.now in
    always c.back.result (CountsOn self (cell text) c.args.steps.now c.too_large.new.steps)
    (λ h k.
    let room = subst (λ (n : ℕ). n < most_records) k.keeps.graph.shape.records c.requires.room in
    omega (
      arith,
      c.in_ok-result.ensures.least,
      c.too_large.ensures.reads.0,
      ap (λ (t : List ℕ). (run One t (state_of c.clear_record.new.self)).charge) c.as_str.ensures.value,
      ap (λ (s : State). (run One text s).charge) c.clear_record.ensures.state,
      charge-run (change_of h.changes) (state_of self.live) h.graph text c.requires.short room,
    ))

-- ---- a commit

pub commit-requires-clause-cells : goal.commit-requires-clause-cells
commit-requires-clause-cells g c = may-commit-one c.from_ref.result.now c.args.text.now c.from_ref.ensures.value c.requires.short

pub commit-requires-clause-ran : goal.commit-requires-clause-ran
commit-requires-clause-ran g c =
    let self = c.args.self.now in
    let place = c.args.journal.now.place in
    let text = rc_str_bytes c.args.text.now in
    let s = state_of self.live in
    let rows = table_of_rows self.table in
    let u = state_of c.run.new.self in
    let sound = whole_sound s c.requires.whole in
    let is-sound = whole_sound u c.in_ok-result.ensures.whole in
    let ran = one-ran self.live c.clear_record.new.self c.run.new.self text c.as_str.result.now c.as_str.ensures.value c.clear_record.ensures.state c.clear_record.ensures.accessed c.in_ok-result.ensures.left c.in_ok-result.ensures.accessed in
    let small = found-small rows (text ∷ []) s u sound is-sound c.run.new.self.names.accessed ran.left ran.accessed c.in_ok-found.found c.in_ok-found.ensures.refusal c.in_default.is in
    let one : texts_of c.from_ref.result.now ≡ text ∷ [] = ap texts_of c.from_ref.ensures.value in
    let front = texts_of c.from_ref.result.now in
    let run_is = has-run place self c.requires.known front c.run.new.self (subst (λ (ts : List (List ℕ)). RanOn self.live c.run.new.self ts) (sym one) ran) is-sound
    (subst (λ (ts : List (List ℕ)). leave_too_large rows ts s ≡ false) (sym one) small) in
    (s, run_is)

pub returns-clause-leads : goal.returns-clause-leads
returns-clause-leads g c =
    let self = c.args.self.now in
    let place = c.args.journal.now.place in
    let text = rc_str_bytes c.args.text.now in
    let s = state_of self.live in
    let rows = table_of_rows self.table in
    let u = state_of c.run.new.self in
    let sound = whole_sound s c.requires.whole in
    let is-sound = whole_sound u c.in_ok-result.ensures.whole in
    let ran = one-ran self.live c.clear_record.new.self c.run.new.self text c.as_str.result.now c.as_str.ensures.value c.clear_record.ensures.state c.clear_record.ensures.accessed c.in_ok-result.ensures.left c.in_ok-result.ensures.accessed in
    let small = found-small rows (text ∷ []) s u sound is-sound c.run.new.self.names.accessed ran.left ran.accessed c.in_ok-found.found c.in_ok-found.ensures.refusal c.in_default.is in
    let one : texts_of c.from_ref.result.now ≡ text ∷ [] = ap texts_of c.from_ref.ensures.value in
    let front = texts_of c.from_ref.result.now in
    let run_is = has-run place self c.requires.known front c.run.new.self (subst (λ (ts : List (List ℕ)). RanOn self.live c.run.new.self ts) (sym one) ran) is-sound
    (subst (λ (ts : List (List ℕ)). leave_too_large rows ts s ≡ false) (sym one) small) in
    let room = λ (g' : Graph) (st : StandsFor self.graph g'). subst (λ (n : ℕ). n < most_records) st.shape.records c.requires.room in
    let new = c.commit.new.self in
    let file = told_file (g.H.Host.state c.args.host.now) in
    let made = c.in_ok-made.ensures.commits s run_is in
    let step = λ (h : History) (k : IsHistoryOf self.graph h). step-small (change_of h.changes) s h.graph text c.requires.short (room h.graph k.keeps.graph)
    (leaves-known place self c.requires.known (text ∷ []) false small h k) in
    let p : Prepared = record { answer = Cell c.in_ok-made.made.number c.commit.new.self.cells c.in_ok-result.result; recorded = Some c.in_ok-made.made.recorded } in
    committed-leads file place self new c.run.new.self (cell text) front c.in_ok-made.made made
    c.commit.ensures.live (subst (λ (ts : List (List ℕ)). IsLeft ts s u) (sym one) ran.left) (known-history self place c.requires.known) p refl refl (λ bytes size. cc (size))
    (λ h k. ap (λ (x : Stepped). x.graph) (step h k) ∙ ap (λ (ts : List (List ℕ)). with_commit One ts h.graph) (sym one))
    (λ of g' st. unrefused of s g' text c.requires.short (room g' st))
    (λ h k count.
    let counted : new.cells ≡ suc (count_of h.graph h.graph.head.commit) = cell-counted file self new c.run.new.self place h front text c.in_ok-made.made made k one count in
    let report : report_of c.in_ok-result.result ≡ (run One text s).report =
    c.in_ok-result.ensures.report
    ∙ ap (λ (t : List ℕ). (run One t (state_of c.clear_record.new.self)).report) c.as_str.ensures.value
    ∙ ap (λ (x : State). (run One text x).report) c.clear_record.ensures.state in
    cell-told (change_of h.changes) s h.graph text c.in_ok-made.made.number new.cells c.in_ok-result.result (made.number h.graph k.keeps.graph.shape) counted report (step h k))

pub returns-clause-stays : goal.returns-clause-stays
returns-clause-stays g c =
    let p : Prepared = record { answer = Cell c.in_ok-made.made.number c.commit.new.self.cells c.in_ok-result.result; recorded = Some c.in_ok-made.made.recorded } in
    committed-stays c.args.self.now c.commit.new.self c.args.host.now c.commit.new.host p c.in_ok-made.made.recorded refl

pub returns-clause-least : goal.returns-clause-least
returns-clause-least g c h k =
    let self = c.args.self.now in
    let text = rc_str_bytes c.args.text.now in
    let room = subst (λ (n : ℕ). n < most_records) k.keeps.graph.shape.records c.requires.room in
    omega (
      arith,
      c.in_ok-result.ensures.least,
      c.too_large.ensures.reads.0,
      c.commit.ensures.counted.0,
      ap (λ (t : List ℕ). (run One t (state_of c.clear_record.new.self)).charge) c.as_str.ensures.value,
      ap (λ (s : State). (run One text s).charge) c.clear_record.ensures.state,
      charge-run (change_of h.changes) (state_of self.live) h.graph text c.requires.short room,
    )

pub returns-clause-reads : goal.returns-clause-reads
returns-clause-reads g c some =
    let st = g.H.Host.state in
    let self = c.args.self.now in
    let place = c.args.journal.now.place in
    let text = rc_str_bytes c.args.text.now in
    let s = state_of self.live in
    let rows = table_of_rows self.table in
    let u = state_of c.run.new.self in
    let sound = whole_sound s c.requires.whole in
    let is-sound = whole_sound u c.in_ok-result.ensures.whole in
    let ran = one-ran self.live c.clear_record.new.self c.run.new.self text c.as_str.result.now c.as_str.ensures.value c.clear_record.ensures.state c.clear_record.ensures.accessed c.in_ok-result.ensures.left c.in_ok-result.ensures.accessed in
    let small = found-small rows (text ∷ []) s u sound is-sound c.run.new.self.names.accessed ran.left ran.accessed c.in_ok-found.found c.in_ok-found.ensures.refusal c.in_default.is in
    let one : texts_of c.from_ref.result.now ≡ text ∷ [] = ap texts_of c.from_ref.ensures.value in
    let front = texts_of c.from_ref.result.now in
    let run_is = has-run place self c.requires.known front c.run.new.self (subst (λ (ts : List (List ℕ)). RanOn self.live c.run.new.self ts) (sym one) ran) is-sound
    (subst (λ (ts : List (List ℕ)). leave_too_large rows ts s ≡ false) (sym one) small) in
    reads-ran self c.commit.new.self c.run.new.self (text ∷ []) (st c.args.host.now) (st c.commit.new.host) front one c.commit.ensures.live (c.in_ok-made.ensures.reads s run_is)

pub returns-clause-most : goal.returns-clause-most
returns-clause-most g c sizes here =
    let self = c.args.self.now in
    let text = rc_str_bytes c.args.text.now in
    let ran = one-ran self.live c.clear_record.new.self c.run.new.self text c.as_str.result.now c.as_str.ensures.value c.clear_record.ensures.state c.clear_record.ensures.accessed c.in_ok-result.ensures.left c.in_ok-result.ensures.accessed in
    omega (
      arith,
      c.in_ok-result.ensures.most (subst (λ (x : State). length x.nodes ≤ most_kept) (sym c.clear_record.ensures.state) here),
      c.too_large.ensures.reads.1,
      c.commit.ensures.counted.1,
      nodes-are self c.commit.new.self c.run.new.self text ran c.commit.ensures.live,
      ap (λ (t : List ℕ). (run One t (state_of c.clear_record.new.self)).charge) c.as_str.ensures.value,
      ap (λ (s : State). (run One text s).charge) c.clear_record.ensures.state,
    )

pub returns-clause-whole : goal.returns-clause-whole
returns-clause-whole g c = subst (λ (l : Live). IsWhole (state_of l)) (sym c.commit.ensures.live) c.in_ok-result.ensures.whole

-- ---- a picture that isn't read

pub returns-in_err-made-clause-damaged : goal.returns-in_err-made-clause-damaged
returns-in_err-made-clause-damaged g c at err =
    let p = err_from_is_err_and c.from_residual-in_err-made.result c.from_residual-in_err-made.ensures.1 in
    c.in_err-made.ensures.damaged at (cc (err, p.1, p.2))
