use Rattle.std.proofs.Common.{◌≡◌, ◌-◌, ◌≤◌, map, take, drop}
use Rattle.serde_json.specs.View.{view}
use Rattle.kishu_model.specs.Values.{counted_of}
use Rattle.kishu_model.specs.notebooks.Notebook.{sources_of}
use Rattle.kishu_model.specs.notebooks.Run.{with_results}
use Rattle.kishu_notebook.proofs.notebook.Notebook.set_results.Given as goal

abbrev pub invariant-loop-place : goal.invariant-loop-place
invariant-loop-place l =
    record {
      from : l.at ≤ l.place;
      sources : sources_of (view l.self.value) ≡ sources_of (view l.fn.self.value);
      part : view l.self.value ≡ with_results l.at (take (l.place - l.at) (map counted_of l.results)) (view l.fn.self.value);
      set : with_results l.place (map counted_of (drop (l.place - l.at) l.results)) (view l.self.value) ≡ with_results l.at (map counted_of l.results) (view l.fn.self.value);
    }
