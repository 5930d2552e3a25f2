use Rattle.std.proofs.Common.{◌≡◌, ◌<◌, ◌≤◌, ◌^◌, ◌+◌, ℕ, suc, List, [], ◌∷◌, ◌++◌, length, map, take, drop, sym, ◌∙◌, ap, subst, arith}
use Rattle.std.proofs.lemmas.List.{drop_all, length-map}
use Rattle.std.specs.Prelude.{IsTrue}
use Rattle.std.specs.Rc.{rc_str_bytes}
use Rattle.kishu_language.specs.declared.profile.Profile.TheVariants.{One}
use Rattle.kishu_meaning.specs.cells.Meaning.{run}
use Rattle.kishu_meaning.specs.declared.result.CellResult.{CellResult}
use Rattle.kishu_meaning.specs.moments.Accesses.{with_accesses}
use Rattle.kishu_meaning.specs.values.Values.{State, Report, report_of}
use Rattle.kishu_graph.specs.Tables.{table_of_rows}
use Rattle.kishu_history_laws.specs.tables.FileLaws.{kept_is_table}
use Rattle.kishu_replay.specs.Replay.{after_cells}
use Rattle.kishu_session_laws.specs.CellLaws.{cells_keep}
use Rattle.kishu_live_laws.specs.OnStates.{leave_too_large, told_too_large}
use Rattle.kishu_model.specs.declared.answer.Counted as rust
use Rattle.kishu_model.specs.Values.{counted_of}
use Rattle.kishu_model.specs.requests.Cells.{is_ok}
use Rattle.kishu_session.specs.Lives.{state_of}
use Rattle.kishu_session.specs.TextLists.{texts_of, are_short}
use Rattle.kishu_objects_laws.specs.SameLaws.{same_turned}
use Rattle.kishu_session.proofs.Accesses.{same-none}
use Rattle.kishu_session.proofs.Items.{drop-map, take-next}
use Rattle.kishu_session.proofs.Sizes.{found-large, found-small, small-size}
use Rattle.kishu_anew.specs.WholeLaws.{whole_sound}
use Rattle.kishu_session.specs.Renewing.{IsLeft}
use Rattle.kishu_session.proofs.Smalls.{left-small, same-small, table-small}
use Rattle.kishu_session.proofs.Ran.{Going, follows, ends-ill, ends-large, going-begin, left-end, going-none, going-on, going-end, next-here, next-accessed}
use Rattle.kishu_session.proofs.TextFacts.{short-first, short-rest}
use Rattle.kishu_session.proofs.requests.cells.run_cells.Goals as goal

pub run-requires-clause-short : goal.run-requires-clause-short
run-requires-clause-short g c =
    let here = drop-map rc_str_bytes c.args.texts.now c.loop-text.text-index c.text-item.result c.loop-text-test.true c.text-item.is in
    let short = short-first (rc_str_bytes c.text-item.result) (drop (c.loop-text.text-index + 1) (texts_of c.args.texts.now)) (subst (λ (ts : List (List ℕ)). IsTrue (are_short ts)) here c.loop-text.invariant.short) in
    omega (arith, ap length c.as_str.ensures.value, short)

-- ---- one cell more

-- what the run shows, by the count of those before
told : (s : State) (before i size : ℕ) (text : List ℕ) (old more : List rust.Counted) (ran : CellResult) → report_of ran ≡ (run One text s).report → length old ≡ i → i < size
    → (before + length old + 1 < 2 ^ 64 → map counted_of more ≡ map counted_of old ++ (record { count = suc (before + length old); report = report_of ran } ∷ []))
    → before + size < 2 ^ 64 → map counted_of more ≡ map counted_of old ++ (record { count = suc (before + length (map counted_of old)); report = (run One text s).report } ∷ [])
told s before i size text old more ran report count there shown few =
    shown (omega (arith, few, count, there))
    ∙ ap (λ (k : ℕ). map counted_of old ++ (record { count = suc (before + k); report = report_of ran } ∷ [])) (sym (length-map old counted_of))
    ∙ ap (λ (r : Report). map counted_of old ++ (record { count = suc (before + length (map counted_of old)); report = r } ∷ [])) report

pub loop-text-init : goal.loop-text-init
loop-text-init g c = record {
  short = c.requires.short;
  count = omega arith;
  within = omega arith;
  small = λ some. absurd (omega (arith, some));
  whole = c.requires.whole;
  fits = table-small (table_of_rows c.args.table.now) (state_of c.args.live.now) c.requires.told c.requires.fit.small;
  going =
      subst (λ (l : List rust.Counted). Going (table_of_rows c.args.table.now) (texts_of c.args.texts.now) (state_of c.args.live.now) c.args.before c.args.steps.now [] (texts_of c.args.texts.now) (map counted_of l) c.args.live.now.names.accessed (state_of c.args.live.now) c.args.steps.now)
      (sym c.new-results.ensures.items)
      (going-begin (table_of_rows c.args.table.now) (texts_of c.args.texts.now) (state_of c.args.live.now) c.args.before c.args.steps.now c.args.live.now.names.accessed
      (same-none c.args.live.now.names.accessed c.requires.fresh));
}

pub loop-text-preserved : goal.loop-text-preserved
loop-text-preserved g c =
    let texts = c.args.texts.now in
    let all = texts_of texts in
    let i = c.loop-text.text-index in
    let x = rc_str_bytes c.text-item.result in
    let rest = drop (i + 1) all in
    let t = table_of_rows c.args.table.now in
    let s0 = state_of c.args.live.now in
    let s = state_of c.loop-text.live in
    let old = c.loop-text.results.items in
    let names = c.loop-text.live.names.accessed in
    let here = drop-map rc_str_bytes texts i c.text-item.result c.loop-text-test.true c.text-item.is in
    let going = subst (λ (l : List (List ℕ)). Going t all s0 c.args.before c.args.steps.now (take i all) l (map counted_of old) names s c.loop-text.steps) here c.loop-text.invariant.going in
    let sound = whole_sound s0 c.requires.whole in
    let is-sound = whole_sound s c.loop-text.invariant.whole in
    let now = take-next rc_str_bytes texts i c.text-item.result c.loop-text-test.true c.text-item.is in
    let left = state_of c.run.new.self in
    let left-sound = whole_sound left c.in_ok-ran.ensures.whole in
    let more = c.run.new.self.names.accessed in
    let next = subst (λ (y : List ℕ). IsLeft (y ∷ []) s left) c.as_str.ensures.value c.in_ok-ran.ensures.left in
    let noted = c.in_ok-ran.ensures.accessed ∙ ap (λ (y : List ℕ). with_accesses (run One y s).accessed names) c.as_str.ensures.value in
    let spent : c.loop-text.steps + (run One x s).charge ≤ c.too_large.new.steps =
    omega (arith, c.in_ok-ran.ensures.least, c.too_large.ensures.reads.0, ap (λ (y : List ℕ). (run One y s).charge) c.as_str.ensures.value) in
    let is = next-here t all s0 c.args.before c.args.steps.now (take i all) x rest (map counted_of old) names s c.loop-text.steps going sound is-sound (take (i + 1) all) now left next more noted c.too_large.new.steps spent in
    let same = next-accessed t all s0 c.args.before c.args.steps.now (take i all) x rest (map counted_of old) names s c.loop-text.steps going sound is-sound (take (i + 1) all) now left next more noted c.too_large.new.steps spent in
    let small = found-small t (take (i + 1) all) s0 left sound left-sound more is same c.in_ok-found.found c.in_ok-found.ensures.refusal c.in_default.is in
    let report = c.in_ok-ran.ensures.report ∙ ap (λ (y : List ℕ). (run One y s).report) c.as_str.ensures.value in
    let results = c.push_result.new.results.items in
    let tells =
    told s c.args.before i (length all) x old results c.in_ok-ran.ran report c.loop-text.invariant.count
    (omega (arith, c.loop-text-test.true, length-map texts rc_str_bytes)) c.in_ok-push_result.ensures.shown in
    let next-small = same-small (after_cells One (take (i + 1) all) s0) left (cells_keep One (take (i + 1) all) s0 sound) left-sound (same_turned _ left (after_cells One (take (i + 1) all) s0) is.same)
    (left-small t (kept_is_table t c.requires.fit) s0 c.requires.told (take (i + 1) all) (small-size t (take (i + 1) all) s0 small)) in
    record {
      short = short-rest x rest (subst (λ (ts : List (List ℕ)). IsTrue (are_short ts)) here c.loop-text.invariant.short);
      count = omega (arith, c.in_ok-push_result.ensures.count, c.loop-text.invariant.count);
      within = omega (arith, c.loop-text-test.true);
      small = λ _. small;
      whole = c.in_ok-ran.ensures.whole;
      fits = next-small;
      going =
          going-on t all s0 c.args.before c.args.steps.now (take i all) x rest (map counted_of old) names s c.loop-text.steps going sound is-sound (take (i + 1) all) now left next more noted c.too_large.new.steps spent (map counted_of results) tells
          (follows t all s0 c.args.before c.args.steps.now (take i all) x rest (map counted_of old) names s c.loop-text.steps going sound is-sound (take (i + 1) all) now left next more noted c.too_large.new.steps spent (ap (λ (r : Report). is_ok r.outcome) (sym report) ∙ sym c.ended_well-goes_on.ensures ∙ c.if-not-goes_on.false) small);
    }

pub returns-then-not-goes_on-clause-gives : goal.returns-then-not-goes_on-clause-gives
returns-then-not-goes_on-clause-gives g c =
    let texts = c.args.texts.now in
    let all = texts_of texts in
    let i = c.loop-text.text-index in
    let x = rc_str_bytes c.text-item.result in
    let rest = drop (i + 1) all in
    let t = table_of_rows c.args.table.now in
    let s0 = state_of c.args.live.now in
    let s = state_of c.loop-text.live in
    let old = c.loop-text.results.items in
    let names = c.loop-text.live.names.accessed in
    let here = drop-map rc_str_bytes texts i c.text-item.result c.loop-text-test.true c.text-item.is in
    let going = subst (λ (l : List (List ℕ)). Going t all s0 c.args.before c.args.steps.now (take i all) l (map counted_of old) names s c.loop-text.steps) here c.loop-text.invariant.going in
    let sound = whole_sound s0 c.requires.whole in
    let is-sound = whole_sound s c.loop-text.invariant.whole in
    let now = take-next rc_str_bytes texts i c.text-item.result c.loop-text-test.true c.text-item.is in
    let left = state_of c.run.new.self in
    let left-sound = whole_sound left c.in_ok-ran.ensures.whole in
    let more = c.run.new.self.names.accessed in
    let next = subst (λ (y : List ℕ). IsLeft (y ∷ []) s left) c.as_str.ensures.value c.in_ok-ran.ensures.left in
    let noted = c.in_ok-ran.ensures.accessed ∙ ap (λ (y : List ℕ). with_accesses (run One y s).accessed names) c.as_str.ensures.value in
    let spent : c.loop-text.steps + (run One x s).charge ≤ c.too_large.new.steps =
    omega (arith, c.in_ok-ran.ensures.least, c.too_large.ensures.reads.0, ap (λ (y : List ℕ). (run One y s).charge) c.as_str.ensures.value) in
    let is = next-here t all s0 c.args.before c.args.steps.now (take i all) x rest (map counted_of old) names s c.loop-text.steps going sound is-sound (take (i + 1) all) now left next more noted c.too_large.new.steps spent in
    let same = next-accessed t all s0 c.args.before c.args.steps.now (take i all) x rest (map counted_of old) names s c.loop-text.steps going sound is-sound (take (i + 1) all) now left next more noted c.too_large.new.steps spent in
    let small = found-small t (take (i + 1) all) s0 left sound left-sound more is same c.in_ok-found.found c.in_ok-found.ensures.refusal c.in_default.is in
    let report = c.in_ok-ran.ensures.report ∙ ap (λ (y : List ℕ). (run One y s).report) c.as_str.ensures.value in
    let results = c.push_result.new.results.items in
    let tells =
    told s c.args.before i (length all) x old results c.in_ok-ran.ran report c.loop-text.invariant.count
    (omega (arith, c.loop-text-test.true, length-map texts rc_str_bytes)) c.in_ok-push_result.ensures.shown in
    let ended =
    going-end t all s0 c.args.before c.args.steps.now (take i all) x rest (map counted_of old) names s c.loop-text.steps going sound is-sound (take (i + 1) all) now left next more noted c.too_large.new.steps spent (map counted_of results) tells
    (ends-ill t all s0 c.args.before c.args.steps.now (take i all) x rest (map counted_of old) names s c.loop-text.steps going sound is-sound (take (i + 1) all) now left next more noted c.too_large.new.steps spent (ap (λ (r : Report). is_ok r.outcome) (sym report) ∙ sym c.ended_well-goes_on.ensures ∙ c.if-not-goes_on.true)) in
    let n : length results ≡ i + 1 = omega (arith, c.in_ok-push_result.ensures.count, c.loop-text.invariant.count) in
    record {
      few = omega (arith, n, c.loop-text-test.true);
      ran = ap (λ (k : ℕ). take k all) n ∙ ended.left.ran_is;
      shown = λ few. ended.shown_is (omega (arith, few, length-map texts rc_str_bytes));
      small = ap (λ (cs : List (List ℕ)). leave_too_large t cs s0) (sym ended.left.ran_is) ∙ small;
    }

pub returns-then-not-goes_on-clause-left : goal.returns-then-not-goes_on-clause-left
returns-then-not-goes_on-clause-left g c =
    let texts = c.args.texts.now in
    let all = texts_of texts in
    let i = c.loop-text.text-index in
    let x = rc_str_bytes c.text-item.result in
    let rest = drop (i + 1) all in
    let t = table_of_rows c.args.table.now in
    let s0 = state_of c.args.live.now in
    let s = state_of c.loop-text.live in
    let old = c.loop-text.results.items in
    let names = c.loop-text.live.names.accessed in
    let here = drop-map rc_str_bytes texts i c.text-item.result c.loop-text-test.true c.text-item.is in
    let going = subst (λ (l : List (List ℕ)). Going t all s0 c.args.before c.args.steps.now (take i all) l (map counted_of old) names s c.loop-text.steps) here c.loop-text.invariant.going in
    let sound = whole_sound s0 c.requires.whole in
    let is-sound = whole_sound s c.loop-text.invariant.whole in
    let now = take-next rc_str_bytes texts i c.text-item.result c.loop-text-test.true c.text-item.is in
    let left = state_of c.run.new.self in
    let left-sound = whole_sound left c.in_ok-ran.ensures.whole in
    let more = c.run.new.self.names.accessed in
    let next = subst (λ (y : List ℕ). IsLeft (y ∷ []) s left) c.as_str.ensures.value c.in_ok-ran.ensures.left in
    let noted = c.in_ok-ran.ensures.accessed ∙ ap (λ (y : List ℕ). with_accesses (run One y s).accessed names) c.as_str.ensures.value in
    let spent : c.loop-text.steps + (run One x s).charge ≤ c.too_large.new.steps =
    omega (arith, c.in_ok-ran.ensures.least, c.too_large.ensures.reads.0, ap (λ (y : List ℕ). (run One y s).charge) c.as_str.ensures.value) in
    let is = next-here t all s0 c.args.before c.args.steps.now (take i all) x rest (map counted_of old) names s c.loop-text.steps going sound is-sound (take (i + 1) all) now left next more noted c.too_large.new.steps spent in
    let same = next-accessed t all s0 c.args.before c.args.steps.now (take i all) x rest (map counted_of old) names s c.loop-text.steps going sound is-sound (take (i + 1) all) now left next more noted c.too_large.new.steps spent in
    let small = found-small t (take (i + 1) all) s0 left sound left-sound more is same c.in_ok-found.found c.in_ok-found.ensures.refusal c.in_default.is in
    let report = c.in_ok-ran.ensures.report ∙ ap (λ (y : List ℕ). (run One y s).report) c.as_str.ensures.value in
    let results = c.push_result.new.results.items in
    let tells =
    told s c.args.before i (length all) x old results c.in_ok-ran.ran report c.loop-text.invariant.count
    (omega (arith, c.loop-text-test.true, length-map texts rc_str_bytes)) c.in_ok-push_result.ensures.shown in
    let ended =
    going-end t all s0 c.args.before c.args.steps.now (take i all) x rest (map counted_of old) names s c.loop-text.steps going sound is-sound (take (i + 1) all) now left next more noted c.too_large.new.steps spent (map counted_of results) tells
    (ends-ill t all s0 c.args.before c.args.steps.now (take i all) x rest (map counted_of old) names s c.loop-text.steps going sound is-sound (take (i + 1) all) now left next more noted c.too_large.new.steps spent (ap (λ (r : Report). is_ok r.outcome) (sym report) ∙ sym c.ended_well-goes_on.ensures ∙ c.if-not-goes_on.true)) in
    ended.left.left

pub returns-then-not-goes_on-clause-accessed : goal.returns-then-not-goes_on-clause-accessed
returns-then-not-goes_on-clause-accessed g c =
    let texts = c.args.texts.now in
    let all = texts_of texts in
    let i = c.loop-text.text-index in
    let x = rc_str_bytes c.text-item.result in
    let rest = drop (i + 1) all in
    let t = table_of_rows c.args.table.now in
    let s0 = state_of c.args.live.now in
    let s = state_of c.loop-text.live in
    let old = c.loop-text.results.items in
    let names = c.loop-text.live.names.accessed in
    let here = drop-map rc_str_bytes texts i c.text-item.result c.loop-text-test.true c.text-item.is in
    let going = subst (λ (l : List (List ℕ)). Going t all s0 c.args.before c.args.steps.now (take i all) l (map counted_of old) names s c.loop-text.steps) here c.loop-text.invariant.going in
    let sound = whole_sound s0 c.requires.whole in
    let is-sound = whole_sound s c.loop-text.invariant.whole in
    let now = take-next rc_str_bytes texts i c.text-item.result c.loop-text-test.true c.text-item.is in
    let left = state_of c.run.new.self in
    let left-sound = whole_sound left c.in_ok-ran.ensures.whole in
    let more = c.run.new.self.names.accessed in
    let next = subst (λ (y : List ℕ). IsLeft (y ∷ []) s left) c.as_str.ensures.value c.in_ok-ran.ensures.left in
    let noted = c.in_ok-ran.ensures.accessed ∙ ap (λ (y : List ℕ). with_accesses (run One y s).accessed names) c.as_str.ensures.value in
    let spent : c.loop-text.steps + (run One x s).charge ≤ c.too_large.new.steps =
    omega (arith, c.in_ok-ran.ensures.least, c.too_large.ensures.reads.0, ap (λ (y : List ℕ). (run One y s).charge) c.as_str.ensures.value) in
    let is = next-here t all s0 c.args.before c.args.steps.now (take i all) x rest (map counted_of old) names s c.loop-text.steps going sound is-sound (take (i + 1) all) now left next more noted c.too_large.new.steps spent in
    let same = next-accessed t all s0 c.args.before c.args.steps.now (take i all) x rest (map counted_of old) names s c.loop-text.steps going sound is-sound (take (i + 1) all) now left next more noted c.too_large.new.steps spent in
    let small = found-small t (take (i + 1) all) s0 left sound left-sound more is same c.in_ok-found.found c.in_ok-found.ensures.refusal c.in_default.is in
    let report = c.in_ok-ran.ensures.report ∙ ap (λ (y : List ℕ). (run One y s).report) c.as_str.ensures.value in
    let results = c.push_result.new.results.items in
    let tells =
    told s c.args.before i (length all) x old results c.in_ok-ran.ran report c.loop-text.invariant.count
    (omega (arith, c.loop-text-test.true, length-map texts rc_str_bytes)) c.in_ok-push_result.ensures.shown in
    let ended =
    going-end t all s0 c.args.before c.args.steps.now (take i all) x rest (map counted_of old) names s c.loop-text.steps going sound is-sound (take (i + 1) all) now left next more noted c.too_large.new.steps spent (map counted_of results) tells
    (ends-ill t all s0 c.args.before c.args.steps.now (take i all) x rest (map counted_of old) names s c.loop-text.steps going sound is-sound (take (i + 1) all) now left next more noted c.too_large.new.steps spent (ap (λ (r : Report). is_ok r.outcome) (sym report) ∙ sym c.ended_well-goes_on.ensures ∙ c.if-not-goes_on.true)) in
    ended.left.accessed

pub returns-then-not-goes_on-clause-least : goal.returns-then-not-goes_on-clause-least
returns-then-not-goes_on-clause-least g c =
    let texts = c.args.texts.now in
    let all = texts_of texts in
    let i = c.loop-text.text-index in
    let x = rc_str_bytes c.text-item.result in
    let rest = drop (i + 1) all in
    let t = table_of_rows c.args.table.now in
    let s0 = state_of c.args.live.now in
    let s = state_of c.loop-text.live in
    let old = c.loop-text.results.items in
    let names = c.loop-text.live.names.accessed in
    let here = drop-map rc_str_bytes texts i c.text-item.result c.loop-text-test.true c.text-item.is in
    let going = subst (λ (l : List (List ℕ)). Going t all s0 c.args.before c.args.steps.now (take i all) l (map counted_of old) names s c.loop-text.steps) here c.loop-text.invariant.going in
    let sound = whole_sound s0 c.requires.whole in
    let is-sound = whole_sound s c.loop-text.invariant.whole in
    let now = take-next rc_str_bytes texts i c.text-item.result c.loop-text-test.true c.text-item.is in
    let left = state_of c.run.new.self in
    let left-sound = whole_sound left c.in_ok-ran.ensures.whole in
    let more = c.run.new.self.names.accessed in
    let next = subst (λ (y : List ℕ). IsLeft (y ∷ []) s left) c.as_str.ensures.value c.in_ok-ran.ensures.left in
    let noted = c.in_ok-ran.ensures.accessed ∙ ap (λ (y : List ℕ). with_accesses (run One y s).accessed names) c.as_str.ensures.value in
    let spent : c.loop-text.steps + (run One x s).charge ≤ c.too_large.new.steps =
    omega (arith, c.in_ok-ran.ensures.least, c.too_large.ensures.reads.0, ap (λ (y : List ℕ). (run One y s).charge) c.as_str.ensures.value) in
    let is = next-here t all s0 c.args.before c.args.steps.now (take i all) x rest (map counted_of old) names s c.loop-text.steps going sound is-sound (take (i + 1) all) now left next more noted c.too_large.new.steps spent in
    let same = next-accessed t all s0 c.args.before c.args.steps.now (take i all) x rest (map counted_of old) names s c.loop-text.steps going sound is-sound (take (i + 1) all) now left next more noted c.too_large.new.steps spent in
    let small = found-small t (take (i + 1) all) s0 left sound left-sound more is same c.in_ok-found.found c.in_ok-found.ensures.refusal c.in_default.is in
    let report = c.in_ok-ran.ensures.report ∙ ap (λ (y : List ℕ). (run One y s).report) c.as_str.ensures.value in
    let results = c.push_result.new.results.items in
    let tells =
    told s c.args.before i (length all) x old results c.in_ok-ran.ran report c.loop-text.invariant.count
    (omega (arith, c.loop-text-test.true, length-map texts rc_str_bytes)) c.in_ok-push_result.ensures.shown in
    let ended =
    going-end t all s0 c.args.before c.args.steps.now (take i all) x rest (map counted_of old) names s c.loop-text.steps going sound is-sound (take (i + 1) all) now left next more noted c.too_large.new.steps spent (map counted_of results) tells
    (ends-ill t all s0 c.args.before c.args.steps.now (take i all) x rest (map counted_of old) names s c.loop-text.steps going sound is-sound (take (i + 1) all) now left next more noted c.too_large.new.steps spent (ap (λ (r : Report). is_ok r.outcome) (sym report) ∙ sym c.ended_well-goes_on.ensures ∙ c.if-not-goes_on.true)) in
    ended.left.least

pub returns-in-Some-clause-gives : goal.returns-in-Some-clause-gives
returns-in-Some-clause-gives g c =
    let texts = c.args.texts.now in
    let all = texts_of texts in
    let i = c.loop-text.text-index in
    let x = rc_str_bytes c.text-item.result in
    let rest = drop (i + 1) all in
    let t = table_of_rows c.args.table.now in
    let s0 = state_of c.args.live.now in
    let s = state_of c.loop-text.live in
    let old = c.loop-text.results.items in
    let names = c.loop-text.live.names.accessed in
    let here = drop-map rc_str_bytes texts i c.text-item.result c.loop-text-test.true c.text-item.is in
    let going = subst (λ (l : List (List ℕ)). Going t all s0 c.args.before c.args.steps.now (take i all) l (map counted_of old) names s c.loop-text.steps) here c.loop-text.invariant.going in
    let sound = whole_sound s0 c.requires.whole in
    let is-sound = whole_sound s c.loop-text.invariant.whole in
    let now = take-next rc_str_bytes texts i c.text-item.result c.loop-text-test.true c.text-item.is in
    let left = state_of c.run.new.self in
    let left-sound = whole_sound left c.in_ok-ran.ensures.whole in
    let more = c.run.new.self.names.accessed in
    let next = subst (λ (y : List ℕ). IsLeft (y ∷ []) s left) c.as_str.ensures.value c.in_ok-ran.ensures.left in
    let noted = c.in_ok-ran.ensures.accessed ∙ ap (λ (y : List ℕ). with_accesses (run One y s).accessed names) c.as_str.ensures.value in
    let spent : c.loop-text.steps + (run One x s).charge ≤ c.too_large.new.steps =
    omega (arith, c.in_ok-ran.ensures.least, c.too_large.ensures.reads.0, ap (λ (y : List ℕ). (run One y s).charge) c.as_str.ensures.value) in
    let is = next-here t all s0 c.args.before c.args.steps.now (take i all) x rest (map counted_of old) names s c.loop-text.steps going sound is-sound (take (i + 1) all) now left next more noted c.too_large.new.steps spent in
    let same = next-accessed t all s0 c.args.before c.args.steps.now (take i all) x rest (map counted_of old) names s c.loop-text.steps going sound is-sound (take (i + 1) all) now left next more noted c.too_large.new.steps spent in
    let found = found-large t (take (i + 1) all) s0 left sound left-sound more is same c.in_ok-found.found c.in_ok-found.ensures.refusal c.in-Some.refusal c.in-Some.is in
    let ended = left-end t all s0 c.args.before c.args.steps.now (take i all) x rest (map counted_of old) names s c.loop-text.steps going sound is-sound (take (i + 1) all) now left next more noted c.too_large.new.steps spent
    (ends-large t all s0 c.args.before c.args.steps.now (take i all) x rest (map counted_of old) names s c.loop-text.steps going sound is-sound (take (i + 1) all) now left next more noted c.too_large.new.steps spent found.0) in
    record {
      large = ap (λ (cs : List (List ℕ)). leave_too_large t cs s0) (sym ended.ran_is) ∙ found.0;
      told = found.1 ∙ ap (λ (cs : List (List ℕ)). told_too_large t cs s0) ended.ran_is;
    }

pub returns-in-Some-clause-left : goal.returns-in-Some-clause-left
returns-in-Some-clause-left g c =
    let texts = c.args.texts.now in
    let all = texts_of texts in
    let i = c.loop-text.text-index in
    let x = rc_str_bytes c.text-item.result in
    let rest = drop (i + 1) all in
    let t = table_of_rows c.args.table.now in
    let s0 = state_of c.args.live.now in
    let s = state_of c.loop-text.live in
    let old = c.loop-text.results.items in
    let names = c.loop-text.live.names.accessed in
    let here = drop-map rc_str_bytes texts i c.text-item.result c.loop-text-test.true c.text-item.is in
    let going = subst (λ (l : List (List ℕ)). Going t all s0 c.args.before c.args.steps.now (take i all) l (map counted_of old) names s c.loop-text.steps) here c.loop-text.invariant.going in
    let sound = whole_sound s0 c.requires.whole in
    let is-sound = whole_sound s c.loop-text.invariant.whole in
    let now = take-next rc_str_bytes texts i c.text-item.result c.loop-text-test.true c.text-item.is in
    let left = state_of c.run.new.self in
    let left-sound = whole_sound left c.in_ok-ran.ensures.whole in
    let more = c.run.new.self.names.accessed in
    let next = subst (λ (y : List ℕ). IsLeft (y ∷ []) s left) c.as_str.ensures.value c.in_ok-ran.ensures.left in
    let noted = c.in_ok-ran.ensures.accessed ∙ ap (λ (y : List ℕ). with_accesses (run One y s).accessed names) c.as_str.ensures.value in
    let spent : c.loop-text.steps + (run One x s).charge ≤ c.too_large.new.steps =
    omega (arith, c.in_ok-ran.ensures.least, c.too_large.ensures.reads.0, ap (λ (y : List ℕ). (run One y s).charge) c.as_str.ensures.value) in
    let is = next-here t all s0 c.args.before c.args.steps.now (take i all) x rest (map counted_of old) names s c.loop-text.steps going sound is-sound (take (i + 1) all) now left next more noted c.too_large.new.steps spent in
    let same = next-accessed t all s0 c.args.before c.args.steps.now (take i all) x rest (map counted_of old) names s c.loop-text.steps going sound is-sound (take (i + 1) all) now left next more noted c.too_large.new.steps spent in
    let found = found-large t (take (i + 1) all) s0 left sound left-sound more is same c.in_ok-found.found c.in_ok-found.ensures.refusal c.in-Some.refusal c.in-Some.is in
    let ended = left-end t all s0 c.args.before c.args.steps.now (take i all) x rest (map counted_of old) names s c.loop-text.steps going sound is-sound (take (i + 1) all) now left next more noted c.too_large.new.steps spent
    (ends-large t all s0 c.args.before c.args.steps.now (take i all) x rest (map counted_of old) names s c.loop-text.steps going sound is-sound (take (i + 1) all) now left next more noted c.too_large.new.steps spent found.0) in
    ended.left

pub returns-in-Some-clause-accessed : goal.returns-in-Some-clause-accessed
returns-in-Some-clause-accessed g c =
    let texts = c.args.texts.now in
    let all = texts_of texts in
    let i = c.loop-text.text-index in
    let x = rc_str_bytes c.text-item.result in
    let rest = drop (i + 1) all in
    let t = table_of_rows c.args.table.now in
    let s0 = state_of c.args.live.now in
    let s = state_of c.loop-text.live in
    let old = c.loop-text.results.items in
    let names = c.loop-text.live.names.accessed in
    let here = drop-map rc_str_bytes texts i c.text-item.result c.loop-text-test.true c.text-item.is in
    let going = subst (λ (l : List (List ℕ)). Going t all s0 c.args.before c.args.steps.now (take i all) l (map counted_of old) names s c.loop-text.steps) here c.loop-text.invariant.going in
    let sound = whole_sound s0 c.requires.whole in
    let is-sound = whole_sound s c.loop-text.invariant.whole in
    let now = take-next rc_str_bytes texts i c.text-item.result c.loop-text-test.true c.text-item.is in
    let left = state_of c.run.new.self in
    let left-sound = whole_sound left c.in_ok-ran.ensures.whole in
    let more = c.run.new.self.names.accessed in
    let next = subst (λ (y : List ℕ). IsLeft (y ∷ []) s left) c.as_str.ensures.value c.in_ok-ran.ensures.left in
    let noted = c.in_ok-ran.ensures.accessed ∙ ap (λ (y : List ℕ). with_accesses (run One y s).accessed names) c.as_str.ensures.value in
    let spent : c.loop-text.steps + (run One x s).charge ≤ c.too_large.new.steps =
    omega (arith, c.in_ok-ran.ensures.least, c.too_large.ensures.reads.0, ap (λ (y : List ℕ). (run One y s).charge) c.as_str.ensures.value) in
    let is = next-here t all s0 c.args.before c.args.steps.now (take i all) x rest (map counted_of old) names s c.loop-text.steps going sound is-sound (take (i + 1) all) now left next more noted c.too_large.new.steps spent in
    let same = next-accessed t all s0 c.args.before c.args.steps.now (take i all) x rest (map counted_of old) names s c.loop-text.steps going sound is-sound (take (i + 1) all) now left next more noted c.too_large.new.steps spent in
    let found = found-large t (take (i + 1) all) s0 left sound left-sound more is same c.in_ok-found.found c.in_ok-found.ensures.refusal c.in-Some.refusal c.in-Some.is in
    let ended = left-end t all s0 c.args.before c.args.steps.now (take i all) x rest (map counted_of old) names s c.loop-text.steps going sound is-sound (take (i + 1) all) now left next more noted c.too_large.new.steps spent
    (ends-large t all s0 c.args.before c.args.steps.now (take i all) x rest (map counted_of old) names s c.loop-text.steps going sound is-sound (take (i + 1) all) now left next more noted c.too_large.new.steps spent found.0) in
    ended.accessed

pub returns-in-Some-clause-least : goal.returns-in-Some-clause-least
returns-in-Some-clause-least g c =
    let texts = c.args.texts.now in
    let all = texts_of texts in
    let i = c.loop-text.text-index in
    let x = rc_str_bytes c.text-item.result in
    let rest = drop (i + 1) all in
    let t = table_of_rows c.args.table.now in
    let s0 = state_of c.args.live.now in
    let s = state_of c.loop-text.live in
    let old = c.loop-text.results.items in
    let names = c.loop-text.live.names.accessed in
    let here = drop-map rc_str_bytes texts i c.text-item.result c.loop-text-test.true c.text-item.is in
    let going = subst (λ (l : List (List ℕ)). Going t all s0 c.args.before c.args.steps.now (take i all) l (map counted_of old) names s c.loop-text.steps) here c.loop-text.invariant.going in
    let sound = whole_sound s0 c.requires.whole in
    let is-sound = whole_sound s c.loop-text.invariant.whole in
    let now = take-next rc_str_bytes texts i c.text-item.result c.loop-text-test.true c.text-item.is in
    let left = state_of c.run.new.self in
    let left-sound = whole_sound left c.in_ok-ran.ensures.whole in
    let more = c.run.new.self.names.accessed in
    let next = subst (λ (y : List ℕ). IsLeft (y ∷ []) s left) c.as_str.ensures.value c.in_ok-ran.ensures.left in
    let noted = c.in_ok-ran.ensures.accessed ∙ ap (λ (y : List ℕ). with_accesses (run One y s).accessed names) c.as_str.ensures.value in
    let spent : c.loop-text.steps + (run One x s).charge ≤ c.too_large.new.steps =
    omega (arith, c.in_ok-ran.ensures.least, c.too_large.ensures.reads.0, ap (λ (y : List ℕ). (run One y s).charge) c.as_str.ensures.value) in
    let is = next-here t all s0 c.args.before c.args.steps.now (take i all) x rest (map counted_of old) names s c.loop-text.steps going sound is-sound (take (i + 1) all) now left next more noted c.too_large.new.steps spent in
    let same = next-accessed t all s0 c.args.before c.args.steps.now (take i all) x rest (map counted_of old) names s c.loop-text.steps going sound is-sound (take (i + 1) all) now left next more noted c.too_large.new.steps spent in
    let found = found-large t (take (i + 1) all) s0 left sound left-sound more is same c.in_ok-found.found c.in_ok-found.ensures.refusal c.in-Some.refusal c.in-Some.is in
    let ended = left-end t all s0 c.args.before c.args.steps.now (take i all) x rest (map counted_of old) names s c.loop-text.steps going sound is-sound (take (i + 1) all) now left next more noted c.too_large.new.steps spent
    (ends-large t all s0 c.args.before c.args.steps.now (take i all) x rest (map counted_of old) names s c.loop-text.steps going sound is-sound (take (i + 1) all) now left next more noted c.too_large.new.steps spent found.0) in
    ended.least

pub returns-clause-gives : goal.returns-clause-gives
returns-clause-gives g c =
    let texts = c.args.texts.now in
    let all = texts_of texts in
    let i = c.loop-text.text-index in
    let t = table_of_rows c.args.table.now in
    let s0 = state_of c.args.live.now in
    let s = state_of c.loop-text.live in
    let names = c.loop-text.live.names.accessed in
    let shown = map counted_of c.loop-text.results.items in
    let over : drop i all ≡ [] = drop_all i all (omega (arith, c.loop-text-test.false, length-map texts rc_str_bytes)) in
    let going = subst (λ (l : List (List ℕ)). Going t all s0 c.args.before c.args.steps.now (take i all) l shown names s c.loop-text.steps) over c.loop-text.invariant.going in
    let ended = going-none t all s0 c.args.before c.args.steps.now (take i all) shown names s c.loop-text.steps going in
    let n : length c.loop-text.results.items ≡ i = c.loop-text.invariant.count in
    record {
      few = omega (arith, n, c.loop-text.invariant.within);
      ran = ap (λ (k : ℕ). take k all) n ∙ ended.left.ran_is;
      shown = λ few. ended.shown_is (omega (arith, few, length-map texts rc_str_bytes));
      small =
          ap (λ (cs : List (List ℕ)). leave_too_large t cs s0) (sym ended.left.ran_is)
          ∙ c.loop-text.invariant.small (omega (arith, c.loop-text-test.false, c.requires.some));
    }

pub returns-clause-left : goal.returns-clause-left
returns-clause-left g c =
    let texts = c.args.texts.now in
    let all = texts_of texts in
    let i = c.loop-text.text-index in
    let t = table_of_rows c.args.table.now in
    let s0 = state_of c.args.live.now in
    let s = state_of c.loop-text.live in
    let names = c.loop-text.live.names.accessed in
    let shown = map counted_of c.loop-text.results.items in
    let over : drop i all ≡ [] = drop_all i all (omega (arith, c.loop-text-test.false, length-map texts rc_str_bytes)) in
    let going = subst (λ (l : List (List ℕ)). Going t all s0 c.args.before c.args.steps.now (take i all) l shown names s c.loop-text.steps) over c.loop-text.invariant.going in
    let ended = going-none t all s0 c.args.before c.args.steps.now (take i all) shown names s c.loop-text.steps going in
    ended.left.left

pub returns-clause-accessed : goal.returns-clause-accessed
returns-clause-accessed g c =
    let texts = c.args.texts.now in
    let all = texts_of texts in
    let i = c.loop-text.text-index in
    let t = table_of_rows c.args.table.now in
    let s0 = state_of c.args.live.now in
    let s = state_of c.loop-text.live in
    let names = c.loop-text.live.names.accessed in
    let shown = map counted_of c.loop-text.results.items in
    let over : drop i all ≡ [] = drop_all i all (omega (arith, c.loop-text-test.false, length-map texts rc_str_bytes)) in
    let going = subst (λ (l : List (List ℕ)). Going t all s0 c.args.before c.args.steps.now (take i all) l shown names s c.loop-text.steps) over c.loop-text.invariant.going in
    let ended = going-none t all s0 c.args.before c.args.steps.now (take i all) shown names s c.loop-text.steps going in
    ended.left.accessed

pub returns-clause-least : goal.returns-clause-least
returns-clause-least g c =
    let texts = c.args.texts.now in
    let all = texts_of texts in
    let i = c.loop-text.text-index in
    let t = table_of_rows c.args.table.now in
    let s0 = state_of c.args.live.now in
    let s = state_of c.loop-text.live in
    let names = c.loop-text.live.names.accessed in
    let shown = map counted_of c.loop-text.results.items in
    let over : drop i all ≡ [] = drop_all i all (omega (arith, c.loop-text-test.false, length-map texts rc_str_bytes)) in
    let going = subst (λ (l : List (List ℕ)). Going t all s0 c.args.before c.args.steps.now (take i all) l shown names s c.loop-text.steps) over c.loop-text.invariant.going in
    let ended = going-none t all s0 c.args.before c.args.steps.now (take i all) shown names s c.loop-text.steps going in
    ended.left.least
