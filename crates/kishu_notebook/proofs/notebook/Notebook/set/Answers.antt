use Rattle.std.proofs.Common.{◌≡◌, ◌<◌, ◌≤◌, length, sym, ap, ◌∙◌, arith}
use Rattle.serde_json.specs.Data.{Data}
use Rattle.serde_json.specs.View.{view}
use Rattle.serde_json.specs.Written.{has_float}
use Rattle.kishu_notebook.specs.Places.{code_places}
use Rattle.kishu_model.specs.notebooks.Notebook.{cells_of, sources_of}
use Rattle.kishu_model.specs.notebooks.Setting.{with_run_at}
use Rattle.kishu_notebook.proofs.Kept.{set_at_place, sources_of_stay, code_places_stay, places_of_sources, run_at_no_float}
use Rattle.kishu_notebook.proofs.Past.{run_past}
use Rattle.kishu_notebook.proofs.notebook.Notebook.set.Goals as goal

pub invariant_of-self : goal.invariant_of-self
invariant_of-self c =
    let n = c.args.self.now in
    let o = view c.args.outputs in
    let k = view c.args.count in
    let within : c.args.at < length n.code.items = omega (arith, c.if-at-len.true, c.len.ensures) in
    let set : view c.set_run_at.new.value ≡ with_run_at c.args.at o k (view n.value) =
    c.set_run_at.ensures ∙ set_at_place c.args.at c.index-place.result.now c.index-place.result.now n.code.items o k (view n.value) n.places within c.index-place.ensures in
    record {
      whole = ap has_float set ∙ run_at_no_float c.args.at o k (view n.value) c.requires.outputs c.requires.count n.whole;
      places = n.places ∙ sym (ap (λ (d : Data). code_places 0 (cells_of d)) set ∙ code_places_stay c.args.at o k (view n.value));
    }

pub returns-then-at-len : goal.returns-then-at-len
returns-then-at-len c =
    let n = c.args.self.now in
    let o = view c.args.outputs in
    let k = view c.args.count in
    let within : c.args.at < length n.code.items = omega (arith, c.if-at-len.true, c.len.ensures) in
    let set : view c.set_run_at.new.value ≡ with_run_at c.args.at o k (view n.value) =
    c.set_run_at.ensures ∙ set_at_place c.args.at c.index-place.result.now c.index-place.result.now n.code.items o k (view n.value) n.places within c.index-place.ensures in
    record { set = set; sources = ap sources_of set ∙ sources_of_stay c.args.at o k (view n.value) }

pub returns-else-at-len-clause-set : goal.returns-else-at-len-clause-set
returns-else-at-len-clause-set c =
    let n = c.args.self.now in
    let past : length (sources_of (view n.value)) ≤ c.args.at = omega (arith, c.if-at-len.false, c.len.ensures, ap length n.places, places_of_sources (view n.value)) in
    sym (run_past c.args.at (view c.args.outputs) (view c.args.count) (view n.value) past)
