use Rattle.std.proofs.Common.{◌≡◌, ◌<◌, ◌+◌, ◌-◌, ◌≤◌, length, map, drop, sym, ap, ◌∙◌, arith}
use Rattle.std.proofs.lemmas.Bool.{ltb-true}
use Rattle.std.proofs.lemmas.List.{length-map}
use Rattle.serde_json.specs.Data.{Data}
use Rattle.serde_json.specs.View.{view}
use Rattle.kishu_model.specs.Values.{counted_of}
use Rattle.kishu_model.specs.notebooks.Notebook.{sources_of}
use Rattle.kishu_model.specs.notebooks.Run.{with_results}
use Rattle.kishu_model.specs.notebooks.Setting.{with_result}
use Rattle.kishu_notebook.proofs.Kept.{places_of_sources}
use Rattle.kishu_notebook.proofs.Past.{results_past, results_on, results_left, on-err}
use Rattle.kishu_notebook.proofs.notebook.Notebook.set_results.Goals as goal

pub returns-clause-ok : goal.returns-clause-ok
returns-clause-ok c =
    let n = c.args.self.now in
    let l = c.loop-place in
    let past : length (sources_of (view l.self.value)) ≤ l.place =
    omega (arith, c.loop-place-test.false, c.len-place-end.ensures, ap length l.invariant.sources, ap length n.places, places_of_sources (view n.value)) in
    sym (results_past l.place (map counted_of (drop (l.place - c.args.at) c.args.results.now)) (view l.self.value) past) ∙ l.invariant.set

pub returns-in_err-set_ran-in-Some-clause-err : goal.returns-in_err-set_ran-in-Some-clause-err
returns-in_err-set_ran-in-Some-clause-err c =
    let l = c.loop-place in
    let k = l.place - c.args.at in
    let results = c.args.results.now in
    let within : k < length results = ltb-true _ _ (sym c.in-Some.ensures.lookup.0) in
    let less : k < length (map counted_of results) = omega (arith, within, length-map results counted_of) in
    on-err c.from_residual.result (k, less, c.in_err-set_ran-in-Some.ensures.err ∙ l.invariant.part)

pub loop-place-preserved : goal.loop-place-preserved
loop-place-preserved c =
    let l = c.loop-place in
    let at = c.args.at in
    let r = c.in-Some.counted.now in
    let results = c.args.results.now in
    let begun = view c.args.self.now.value in
    let within : l.place - at < length results = ltb-true _ _ (sym c.in-Some.ensures.lookup.0) in
    let one = c.in_ok-set_ran-in-Some.ensures.ok in
    record {
      from = omega (arith, l.invariant.from);
      sources = c.in_ok-set_ran-in-Some.ensures.sources ∙ l.invariant.sources;
      part = one ∙ ap (λ (d : Data). with_result l.place (counted_of r).count (counted_of r).report d) l.invariant.part
          ∙ results_on at l.place results r begun l.invariant.from within c.in-Some.ensures.lookup.1;
      set = ap (λ (d : Data). with_results (l.place + 1) (map counted_of (drop (l.place + 1 - at) results)) d) one
          ∙ results_left at l.place results r (view l.self.value) l.invariant.from within c.in-Some.ensures.lookup.1 ∙ l.invariant.set;
    }
