use Rattle.std.proofs.Common.{take, map}
use Rattle.kishu_host.specs.Host.{ReadsMore}
use Rattle.kishu_store.specs.Tables.{bytes_in}
use Rattle.kishu_journal.specs.Going.{IsQuiet}
use Rattle.kishu_checkout.specs.Fetched.{contents, AreFetched}
use Rattle.kishu_delta.specs.Compared.{asked_row}
use Rattle.kishu_session.proofs.asking.stored_pictures.Given as goal

abbrev pub invariant-loop-row : goal.invariant-loop-row
invariant-loop-row g l =
    let st = g.H.Host.state in
    let t = take l.row-index (map asked_row l.asked) in
    record {
      fetched : AreFetched (st l.fn.host) t (contents l.pictures.items);
      quiet : IsQuiet (st l.fn.host) (st l.host);
      exact : ReadsMore (st l.fn.host).reads (st l.host).reads (bytes_in t);
    }
