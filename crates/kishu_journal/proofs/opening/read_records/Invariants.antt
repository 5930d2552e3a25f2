use Rattle.std.proofs.Common.{◌<◌, ◌≤◌, ◌-◌}
use Rattle.kishu_journal.specs.Going.{IsQuiet, ReadsAtMost}
use Rattle.kishu_journal.specs.Windows.{Shows, end_of}
use Rattle.kishu_journal.proofs.Reached.{ReachedFound}
use Rattle.kishu_journal.proofs.opening.read_records.Given as goal

abbrev pub invariant-loop-found : goal.invariant-loop-found
invariant-loop-found g l =
    let st = g.H.Host.state in
    record {
      inside : l.at < l.len;
      quiet : IsQuiet (st l.fn.host) (st l.host);
      shows : Shows (st l.host) l.window;
      from : l.window.from ≤ l.at;
      most : end_of l.window ≤ l.len;
      least : 16 ≤ end_of l.window;
      reads : ReadsAtMost (st l.fn.host).reads (st l.host).reads (end_of l.window - 16);
      reached : ReachedFound (st l.fn.host) l.found.items l.at l.graph;
    }

abbrev pub decreases-loop-found : goal.decreases-loop-found
decreases-loop-found g l = l.len - l.at
