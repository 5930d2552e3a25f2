use Rattle.std.proofs.Common.{take, map}
use Rattle.kishu_host.specs.Host.{ReadsMore}
use Rattle.kishu_store.specs.Tables.{bytes_in}
use Rattle.kishu_graph.specs.Kept.{row_of}
use Rattle.kishu_journal.specs.Going.{IsQuiet}
use Rattle.kishu_checkout.specs.Fetched.{contents, AreFetched}
use Rattle.kishu_checkout.proofs.fetching.fetch_rows.Given as goal

abbrev pub invariant-loop-row : goal.invariant-loop-row
invariant-loop-row g l =
    let st = g.H.Host.state in
    let t = take l.row-index (map row_of l.rows) in
    record {
      fetched : AreFetched (st l.fn.host) t (contents l.pictures.items);
      quiet : IsQuiet (st l.fn.host) (st l.host);
      exact : ReadsMore (st l.fn.host).reads (st l.host).reads (bytes_in t);
    }
