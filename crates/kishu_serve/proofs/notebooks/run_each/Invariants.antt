use Rattle.std.proofs.Common.{◌≡◌, ◌≤◌, true, false, map}
use Rattle.std.specs.Rc.{rc_str_bytes}
use Rattle.kishu_host.specs.Host.{Told}
use Rattle.kishu_store.specs.Graph.{Graph}
use Rattle.kishu_notebook.specs.Views.{data_of}
use Rattle.kishu_session.specs.Attached.{IsAttached}
use Rattle.kishu_serve.specs.Coming.{ComesTo}
use Rattle.kishu_serve.specs.Notebooks.{run_of}
use Rattle.kishu_serve.specs.Recorded.{Records}
use Rattle.kishu_serve.specs.Serving.{IsOpen}
use Rattle.kishu_serve.proofs.CellRuns.{left_from}
use Rattle.kishu_serve.proofs.notebooks.run_each.Given as goal

abbrev pub invariant-loop-text : goal.invariant-loop-text
invariant-loop-text g l =
    let st = g.H.Host.state in
    let s0 = st l.fn.host in
    let texts = map rc_str_bytes l.texts in
    record {
      going : l.session.halted ≡ false;
      stands : IsOpen l.session (st l.host);
      recorded : Records true s0 (st l.host);
      place : l.at ≡ l.text-index;
      comes : Told s0 ((g' : Graph) → IsAttached l.fn.session s0 g'
          → ComesTo s0 (st l.host) l.session g' (run_of false g' texts (data_of l.fn.notebook)) (left_from l.text-index texts (data_of l.notebook)) l.fn.steps l.steps);
      tells : (st l.host).tells ≡ s0.tells;
      disk : s0.disk_faults ≤ (st l.host).disk_faults;
      outs : s0.out_faults ≤ (st l.host).out_faults;
    }
