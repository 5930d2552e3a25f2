use Rattle.std.proofs.Common.{◌≡◌, ◌<◌, ◌≤◌, false, map, length, take, drop}
use Rattle.std.specs.Prelude.{IsTrue}
use Rattle.kishu_graph.specs.Tables.{table_of_rows}
use Rattle.kishu_live_laws.specs.OnStates.{leave_too_large}
use Rattle.kishu_model.specs.Values.{counted_of}
use Rattle.kishu_session.specs.Lives.{state_of}
use Rattle.kishu_session.specs.TextLists.{texts_of, are_short}
use Rattle.kishu_anew.specs.Anew.{IsSmall, IsWhole}
use Rattle.kishu_session.proofs.Ran.{Going}
use Rattle.kishu_session.proofs.requests.cells.run_cells.Given as goal

abbrev pub invariant-loop-text : goal.invariant-loop-text
invariant-loop-text g l =
    let all = texts_of l.texts in
    let rest = drop l.text-index all in
    let t = table_of_rows l.table in
    let s0 = state_of l.fn.live in
    record {
      short : IsTrue (are_short rest);
      count : length l.results.items ≡ l.text-index;
      within : l.text-index ≤ length l.texts;
      small : 0 < l.text-index → leave_too_large t (take l.text-index all) s0 ≡ false;
      whole : IsWhole (state_of l.live);
      fits : IsSmall (state_of l.live);
      going : Going t all s0 l.before l.fn.steps (take l.text-index all) rest (map counted_of l.results.items) l.live.names.accessed (state_of l.live) l.steps;
    }
