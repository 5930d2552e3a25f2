use Rattle.std.proofs.Common.{◌≡◌, ◌<◌, ◌+◌, ◌^◌, ℕ, suc, true, false, List, length, map, take, Some, None, refl, sym, ◌∙◌, ap, subst, arith}
use Rattle.std.proofs.lemmas.List.{length-map, take-map}
use Rattle.std.proofs.lemmas.Result.{err_from_is_err_and}
use Rattle.std.specs.Rc.{rc_str_bytes}
use Rattle.std.specs.declared.alloc.Global.{Global}
use Rattle.std.specs.declared.rc.RcStr.{RcStr}
use Rattle.kishu_language.specs.declared.profile.Profile.TheVariants.{One}
use Rattle.kishu_meaning.specs.values.Values.{State}
use Rattle.kishu_replay.specs.Replay.{charge_in}
use Rattle.kishu_store.specs.Graph.{Graph, with_commit}
use Rattle.kishu_store.specs.Histories.{History}
use Rattle.kishu_store.specs.Limits.{most_records}
use Rattle.kishu_store.specs.Tables.{Table, change_of}
use Rattle.kishu_graph.specs.Kept.{StandsFor}
use Rattle.kishu_graph.specs.Tables.{table_of_rows}
use Rattle.kishu_history.specs.Accessed.{accessed_by}
use Rattle.kishu_history.specs.Live.{IsLive}
use Rattle.kishu_history.specs.Stored.{Stored}
use Rattle.kishu_anew.specs.Anew.{IsWhole}
use Rattle.kishu_anew.specs.WholeLaws.{whole_sound}
use Rattle.kishu_model.specs.Answers.{state_too_large}
use Rattle.kishu_model.specs.Request.{Stepped, cells, refused_with}
use Rattle.kishu_model.specs.Values.{refusal_of, counted_of}
use Rattle.kishu_model.specs.requests.Cells.{results_from, texts_size}
use Rattle.kishu_model.specs.declared.answer.Answer.TheVariants.{Cells}
use Rattle.kishu_checkout.specs.Pictures.{told_file}
use Rattle.kishu_live_laws.specs.OnStates.{leave_too_large, run_of, told_too_large}
use Rattle.kishu_live_laws.specs.Refusals.{TellsSize}
use Rattle.kishu_session.specs.Known.{IsHistoryOf}
use Rattle.kishu_session.specs.Lives.{state_of}
use Rattle.kishu_session.specs.Prepared.{LeadsOn, StaysWithout, CountsOn}
use Rattle.kishu_session.specs.Renewing.{IsLeft}
use Rattle.kishu_session.specs.Running.{AreSameNames, IsGivenBy}
use Rattle.kishu_session.specs.TextLists.{texts_of, AreShort}
use Rattle.kishu_session.specs.Working.{ReadsAsked}
use Rattle.kishu_session.specs.declared.live.Live.{Live}
use Rattle.kishu_session.specs.declared.prepared.Prepared.{Prepared}
use Rattle.kishu_session.proofs.AddFacts.{count-small}
use Rattle.kishu_session.proofs.CellsSteps.{step-large, step-small, charge-run, unrefused, cells-told}
use Rattle.kishu_session.proofs.Commits.{known-history, known-told}
use Rattle.kishu_session.proofs.Committed.{committed-leads, committed-stays}
use Rattle.kishu_session.proofs.Large.{went-back, back-leads, back-stays}
use Rattle.kishu_session.proofs.LongTexts.{none-long, short-take, size-take, size-few, may-commit}
use Rattle.kishu_session.proofs.Outcomes.{always}
use Rattle.kishu_session.proofs.Ran.{taken-some}
use Rattle.kishu_session.proofs.RanOn.{RanOn, has-run, known-fit, table-known, told_bytes}
use Rattle.kishu_session.proofs.Sizes.{tells-size}
use Rattle.kishu_session.proofs.Work.{reads-ran}
use Rattle.kishu_session.proofs.head.Head.commit_cells.Goals as goal

pub run_cells-requires : goal.run_cells-requires
run_cells-requires g c =
    let self = c.args.self.now in
    let place = c.args.journal.now.place in
    let cleared = c.clear_record.ensures.state in
    record {
      short = none-long (texts_of c.args.texts.now) c.requires.short;
      some = c.requires.some;
      fresh = c.clear_record.ensures.accessed;
      whole = subst IsWhole (sym cleared) c.requires.whole;
      fit = known-fit place self c.requires.known;
      told = subst (λ (x : State). IsLive (Stored None) (table_of_rows self.table) x) (sym cleared) (known-told self place c.requires.known);
    }

pub back-requires : goal.back-requires
back-requires g c = record { known = known-history c.args.self.now c.args.journal.now.place c.requires.known }

-- ---- a state that is too large

pub returns-in-TooLarge-clause-leads : goal.returns-in-TooLarge-clause-leads
returns-in-TooLarge-clause-leads g c =
    let self = c.args.self.now in
    let place = c.args.journal.now.place in
    let texts = c.args.texts.now in
    let all = texts_of texts in
    let s = state_of self.live in
    let rows = table_of_rows self.table in
    let cleared = c.clear_record.ensures.state in
    let ran = run_of rows all s in
    let some : 0 < length all = omega (arith, c.requires.some, length-map texts rc_str_bytes) in
    let given = subst (IsGivenBy self.cells rows c.clear_record.new.self texts) c.in-TooLarge.is c.in_ok-several.ensures.gives in
    let large : leave_too_large rows ran s ≡ true = subst (λ (x : State). leave_too_large rows (run_of rows all x) x ≡ true) cleared given.large in
    let bytes = told_bytes place self c.requires.known ran in
    let told : refusal_of c.in-TooLarge.refusal ≡ state_too_large bytes = given.told ∙ ap (λ (x : State). told_too_large rows (run_of rows all x) x) cleared in
    let file = told_file (g.H.Host.state c.args.host.now) in
    let room = λ (g' : Graph) (st : StandsFor self.graph g'). subst (λ (n : ℕ). n < most_records) st.shape.records c.requires.room in
    went-back file c.back.result self c.back.new.self c.run_cells.new.live bytes (refusal_of c.in-TooLarge.refusal) (LeadsOn file place self c.back.new.self (cells all))
    told c.back.ensures.answer c.back.ensures.record c.back.ensures.back c.back.ensures.count
    (λ p b. back-leads file place self c.back.new.self (cells all) bytes p b
    (λ h k. subst (λ (x : Table). TellsSize x (run_of x all s) s bytes) (table-known place self c.requires.known h k) (tells-size rows ran s large bytes refl))
    (λ h k. step-large (change_of h.changes) s h.graph all some c.requires.short (room h.graph k.keeps.graph)
    (subst (λ (x : Table). leave_too_large x (run_of x all s) s ≡ true) (table-known place self c.requires.known h k) large)
    ∙ ap (λ (x : Table). refused_with (told_too_large x (run_of x all s) s) h.graph) (sym (table-known place self c.requires.known h k)))
    (λ of g' st. unrefused of s g' all some c.requires.short (room g' st)))

pub returns-in-TooLarge-clause-stays : goal.returns-in-TooLarge-clause-stays
returns-in-TooLarge-clause-stays g c =
    let self = c.args.self.now in
    let place = c.args.journal.now.place in
    let texts = c.args.texts.now in
    let all = texts_of texts in
    let s = state_of self.live in
    let rows = table_of_rows self.table in
    let cleared = c.clear_record.ensures.state in
    let ran = run_of rows all s in
    let some : 0 < length all = omega (arith, c.requires.some, length-map texts rc_str_bytes) in
    let given = subst (IsGivenBy self.cells rows c.clear_record.new.self texts) c.in-TooLarge.is c.in_ok-several.ensures.gives in
    let large : leave_too_large rows ran s ≡ true = subst (λ (x : State). leave_too_large rows (run_of rows all x) x ≡ true) cleared given.large in
    let bytes = told_bytes place self c.requires.known ran in
    let told : refusal_of c.in-TooLarge.refusal ≡ state_too_large bytes = given.told ∙ ap (λ (x : State). told_too_large rows (run_of rows all x) x) cleared in
    let file = told_file (g.H.Host.state c.args.host.now) in
    went-back file c.back.result self c.back.new.self c.run_cells.new.live bytes (refusal_of c.in-TooLarge.refusal) (StaysWithout self c.back.new.self c.args.host.now c.back.new.host)
    told c.back.ensures.answer c.back.ensures.record c.back.ensures.back c.back.ensures.count
    (λ p b. back-stays file place self c.back.new.self (cells all) bytes p b c.args.host.now c.back.new.host)

pub returns-in-TooLarge-clause-reads : goal.returns-in-TooLarge-clause-reads
returns-in-TooLarge-clause-reads g c =
    let st = g.H.Host.state in
    let self = c.args.self.now in
    let place = c.args.journal.now.place in
    let texts = c.args.texts.now in
    let all = texts_of texts in
    let s = state_of self.live in
    let rows = table_of_rows self.table in
    let cleared = c.clear_record.ensures.state in
    let ran = run_of rows all s in
    let some : 0 < length all = omega (arith, c.requires.some, length-map texts rc_str_bytes) in
    let given = subst (IsGivenBy self.cells rows c.clear_record.new.self texts) c.in-TooLarge.is c.in_ok-several.ensures.gives in
    let large : leave_too_large rows ran s ≡ true = subst (λ (x : State). leave_too_large rows (run_of rows all x) x ≡ true) cleared given.large in
    let bytes = told_bytes place self c.requires.known ran in
    let told : refusal_of c.in-TooLarge.refusal ≡ state_too_large bytes = given.told ∙ ap (λ (x : State). told_too_large rows (run_of rows all x) x) cleared in
    let file = told_file (st c.args.host.now) in
    went-back file c.back.result self c.back.new.self c.run_cells.new.live bytes (refusal_of c.in-TooLarge.refusal) (ReadsAsked self c.back.new.self (st c.args.host.now) (st c.back.new.host) (cells all))
    told c.back.ensures.answer c.back.ensures.record c.back.ensures.back c.back.ensures.count
    (λ p b some. absurd (some b.none))

pub returns-in-TooLarge-clause-least : goal.returns-in-TooLarge-clause-least
returns-in-TooLarge-clause-least g c =
    let self = c.args.self.now in
    let place = c.args.journal.now.place in
    let texts = c.args.texts.now in
    let all = texts_of texts in
    let s = state_of self.live in
    let rows = table_of_rows self.table in
    let cleared = c.clear_record.ensures.state in
    let ran = run_of rows all s in
    let some : 0 < length all = omega (arith, c.requires.some, length-map texts rc_str_bytes) in
    always c.back.result (CountsOn self (cells all) c.args.steps.now c.run_cells.new.steps)
    (λ h k.
    let room = subst (λ (n : ℕ). n < most_records) k.keeps.graph.shape.records c.requires.room in
    omega (
      arith,
      c.in_ok-several.ensures.least,
      ap (λ (x : State). charge_in One (run_of rows all x) x) cleared,
      ap (λ (x : Table). charge_in One (run_of x all s) s) (table-known place self c.requires.known h k),
      charge-run (change_of h.changes) s h.graph all some c.requires.short room,
    ))

-- ---- a commit

pub split_at-requires : goal.split_at-requires
split_at-requires g c =
    let given = subst (IsGivenBy c.args.self.now.cells (table_of_rows c.args.self.now.table) c.clear_record.new.self c.args.texts.now) c.in-Shown.is c.in_ok-several.ensures.gives in
    omega (arith, given.few, c.len.ensures, c.in-Shown.results.ok.0)

pub commit-requires-clause-cells : goal.commit-requires-clause-cells
commit-requires-clause-cells g c =
    let rows = table_of_rows c.args.self.now.table in
    let given = subst (IsGivenBy c.args.self.now.cells rows c.clear_record.new.self c.args.texts.now) c.in-Shown.is c.in_ok-several.ensures.gives in
    let texts = c.args.texts.now in
    let n = c.len.result in
    let counted : n ≡ length c.in-Shown.results.items = omega (arith, c.len.ensures, c.in-Shown.results.ok.0) in
    let ran = ap (λ (k : ℕ). take k (texts_of texts)) counted ∙ given.ran in
    let front = c.split_at.ensures.front in
    may-commit c.split_at.result.0.now
    (subst (λ (l : List (RcStr Global)). 0 < length l) (sym front) (taken-some texts n rows (state_of c.clear_record.new.self) c.requires.some ran))
    (subst AreShort (sym front) (short-take texts n (none-long (texts_of texts) c.requires.short)))
    (omega (arith, c.requires.size, size-take texts n, ap (λ (l : List (RcStr Global)). texts_size (texts_of l)) front))

pub commit-requires-clause-ran : goal.commit-requires-clause-ran
commit-requires-clause-ran g c =
    let self = c.args.self.now in
    let place = c.args.journal.now.place in
    let texts = c.args.texts.now in
    let all = texts_of texts in
    let s = state_of self.live in
    let rows = table_of_rows self.table in
    let cleared = c.clear_record.ensures.state in
    let ran = run_of rows all s in
    let some : 0 < length all = omega (arith, c.requires.some, length-map texts rc_str_bytes) in
    let given = subst (IsGivenBy self.cells rows c.clear_record.new.self texts) c.in-Shown.is c.in_ok-several.ensures.gives in
    let on : RanOn self.live c.run_cells.new.live ran = record {
      left = subst (λ (x : State). IsLeft (run_of rows all x) x (state_of c.run_cells.new.live)) cleared c.in_ok-several.ensures.left;
      accessed = subst (λ (x : State). AreSameNames c.run_cells.new.live.names.accessed (accessed_by One (run_of rows all x) x)) cleared c.in_ok-several.ensures.accessed;
    } in
    let small : leave_too_large rows ran s ≡ false = subst (λ (x : State). leave_too_large rows (run_of rows all x) x ≡ false) cleared given.small in
    let n : c.len.result ≡ length c.in-Shown.results.items = omega (arith, c.len.ensures, c.in-Shown.results.ok.0) in
    let front = texts_of c.split_at.result.0.now in
    let is : front ≡ ran =
    ap texts_of c.split_at.ensures.front
    ∙ sym (take-map rc_str_bytes c.len.result texts)
    ∙ ap (λ (k : ℕ). take k all) n
    ∙ given.ran
    ∙ ap (λ (x : State). run_of rows all x) cleared in
    let run_is = has-run place self c.requires.known front c.run_cells.new.live (subst (λ (ts : List (List ℕ)). RanOn self.live c.run_cells.new.live ts) (sym is) on) (whole_sound (state_of c.run_cells.new.live) c.in_ok-several.ensures.whole)
    (subst (λ (ts : List (List ℕ)). leave_too_large rows ts s ≡ false) (sym is) small) in
    (s, run_is)

pub returns-clause-leads : goal.returns-clause-leads
returns-clause-leads g c =
    let self = c.args.self.now in
    let place = c.args.journal.now.place in
    let texts = c.args.texts.now in
    let all = texts_of texts in
    let s = state_of self.live in
    let rows = table_of_rows self.table in
    let cleared = c.clear_record.ensures.state in
    let ran = run_of rows all s in
    let some : 0 < length all = omega (arith, c.requires.some, length-map texts rc_str_bytes) in
    let given = subst (IsGivenBy self.cells rows c.clear_record.new.self texts) c.in-Shown.is c.in_ok-several.ensures.gives in
    let on : RanOn self.live c.run_cells.new.live ran = record {
      left = subst (λ (x : State). IsLeft (run_of rows all x) x (state_of c.run_cells.new.live)) cleared c.in_ok-several.ensures.left;
      accessed = subst (λ (x : State). AreSameNames c.run_cells.new.live.names.accessed (accessed_by One (run_of rows all x) x)) cleared c.in_ok-several.ensures.accessed;
    } in
    let small : leave_too_large rows ran s ≡ false = subst (λ (x : State). leave_too_large rows (run_of rows all x) x ≡ false) cleared given.small in
    let n : c.len.result ≡ length c.in-Shown.results.items = omega (arith, c.len.ensures, c.in-Shown.results.ok.0) in
    let front = texts_of c.split_at.result.0.now in
    let is : front ≡ ran =
    ap texts_of c.split_at.ensures.front
    ∙ sym (take-map rc_str_bytes c.len.result texts)
    ∙ ap (λ (k : ℕ). take k all) n
    ∙ given.ran
    ∙ ap (λ (x : State). run_of rows all x) cleared in
    let run_is = has-run place self c.requires.known front c.run_cells.new.live (subst (λ (ts : List (List ℕ)). RanOn self.live c.run_cells.new.live ts) (sym is) on) (whole_sound (state_of c.run_cells.new.live) c.in_ok-several.ensures.whole)
    (subst (λ (ts : List (List ℕ)). leave_too_large rows ts s ≡ false) (sym is) small) in
    let room = λ (g' : Graph) (st : StandsFor self.graph g'). subst (λ (n : ℕ). n < most_records) st.shape.records c.requires.room in
    let new = c.commit.new.self in
    let made = c.in_ok-made.ensures.commits s run_is in
    let step = λ (h : History) (k : IsHistoryOf self.graph h). step-small (change_of h.changes) s h.graph all some c.requires.short (room h.graph k.keeps.graph)
    (subst (λ (x : Table). leave_too_large x (run_of x all s) s ≡ false) (table-known place self c.requires.known h k) small) in
    let p : Prepared = record { answer = Cells c.in_ok-made.made.number c.in-Shown.results; recorded = Some c.in_ok-made.made.recorded } in
    committed-leads (told_file (g.H.Host.state c.args.host.now)) place self new c.run_cells.new.live (cells all) front c.in_ok-made.made made
    c.commit.ensures.live (subst (λ (ts : List (List ℕ)). IsLeft ts s (state_of c.run_cells.new.live)) (sym is) on.left) (known-history self place c.requires.known) p refl refl (λ bytes size. cc (size))
    (λ h k.
    ap (λ (x : Stepped). x.graph) (step h k)
    ∙ ap (λ (x : Table). with_commit One (run_of x all s) h.graph) (sym (table-known place self c.requires.known h k))
    ∙ ap (λ (ts : List (List ℕ)). with_commit One ts h.graph) (sym is))
    (λ of g' st. unrefused of s g' all some c.requires.short (room g' st))
    (λ h k count.
    let counted : self.cells + length texts < 2 ^ 64 = omega (arith, count-small self h.graph k.good.graph count, size-few all, c.requires.size, length-map texts rc_str_bytes) in
    let shown : map counted_of c.in-Shown.results.items ≡ results_from (suc self.cells) One ran s =
    given.shown counted ∙ ap (λ (x : State). results_from (suc self.cells) One (run_of rows all x) x) cleared in
    cells-told (change_of h.changes) s h.graph all c.in_ok-made.made.number self.cells c.in-Shown.results (made.number h.graph k.keeps.graph.shape) count.is
    (shown ∙ ap (λ (x : Table). results_from (suc self.cells) One (run_of x all s) s) (table-known place self c.requires.known h k)) (step h k))

pub returns-clause-stays : goal.returns-clause-stays
returns-clause-stays g c =
    let p : Prepared = record { answer = Cells c.in_ok-made.made.number c.in-Shown.results; recorded = Some c.in_ok-made.made.recorded } in
    committed-stays c.args.self.now c.commit.new.self c.args.host.now c.commit.new.host p c.in_ok-made.made.recorded refl

pub returns-clause-least : goal.returns-clause-least
returns-clause-least g c h k =
    let self = c.args.self.now in
    let place = c.args.journal.now.place in
    let texts = c.args.texts.now in
    let all = texts_of texts in
    let s = state_of self.live in
    let rows = table_of_rows self.table in
    let cleared = c.clear_record.ensures.state in
    let ran = run_of rows all s in
    let some : 0 < length all = omega (arith, c.requires.some, length-map texts rc_str_bytes) in
    let room = subst (λ (n : ℕ). n < most_records) k.keeps.graph.shape.records c.requires.room in
    omega (
      arith,
      c.in_ok-several.ensures.least,
      c.commit.ensures.counted.0,
      ap (λ (x : State). charge_in One (run_of rows all x) x) cleared,
      ap (λ (x : Table). charge_in One (run_of x all s) s) (table-known place self c.requires.known h k),
      charge-run (change_of h.changes) s h.graph all some c.requires.short room,
    )

pub returns-clause-reads : goal.returns-clause-reads
returns-clause-reads g c some =
    let st = g.H.Host.state in
    let self = c.args.self.now in
    let place = c.args.journal.now.place in
    let texts = c.args.texts.now in
    let all = texts_of texts in
    let s = state_of self.live in
    let rows = table_of_rows self.table in
    let cleared = c.clear_record.ensures.state in
    let ran = run_of rows all s in
    let given = subst (IsGivenBy self.cells rows c.clear_record.new.self texts) c.in-Shown.is c.in_ok-several.ensures.gives in
    let on : RanOn self.live c.run_cells.new.live ran = record {
      left = subst (λ (x : State). IsLeft (run_of rows all x) x (state_of c.run_cells.new.live)) cleared c.in_ok-several.ensures.left;
      accessed = subst (λ (x : State). AreSameNames c.run_cells.new.live.names.accessed (accessed_by One (run_of rows all x) x)) cleared c.in_ok-several.ensures.accessed;
    } in
    let small : leave_too_large rows ran s ≡ false = subst (λ (x : State). leave_too_large rows (run_of rows all x) x ≡ false) cleared given.small in
    let n : c.len.result ≡ length c.in-Shown.results.items = omega (arith, c.len.ensures, c.in-Shown.results.ok.0) in
    let front = texts_of c.split_at.result.0.now in
    let is : front ≡ ran =
    ap texts_of c.split_at.ensures.front
    ∙ sym (take-map rc_str_bytes c.len.result texts)
    ∙ ap (λ (k : ℕ). take k all) n
    ∙ given.ran
    ∙ ap (λ (x : State). run_of rows all x) cleared in
    let run_is = has-run place self c.requires.known front c.run_cells.new.live (subst (λ (ts : List (List ℕ)). RanOn self.live c.run_cells.new.live ts) (sym is) on) (whole_sound (state_of c.run_cells.new.live) c.in_ok-several.ensures.whole)
    (subst (λ (ts : List (List ℕ)). leave_too_large rows ts s ≡ false) (sym is) small) in
    reads-ran self c.commit.new.self c.run_cells.new.live ran (st c.args.host.now) (st c.commit.new.host) front is c.commit.ensures.live (c.in_ok-made.ensures.reads s run_is)

pub returns-clause-whole : goal.returns-clause-whole
returns-clause-whole g c = subst (λ (l : Live). IsWhole (state_of l)) (sym c.commit.ensures.live) c.in_ok-several.ensures.whole

-- ---- a picture that isn't read

pub returns-in_err-made-clause-damaged : goal.returns-in_err-made-clause-damaged
returns-in_err-made-clause-damaged g c at err =
    let p = err_from_is_err_and c.from_residual-in_err-made.result c.from_residual-in_err-made.ensures.1 in
    c.in_err-made.ensures.damaged at (cc (err, p.1, p.2))
