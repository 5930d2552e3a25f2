use Rattle.std.proofs.Common.{[], refl}
use Rattle.kishu_graph.specs.Fits.{rows_of}
use Rattle.kishu_graph.proofs.Puts.{puts_own}
use Rattle.kishu_graph.proofs.heads.HeadRows.of_commit.Goals as goal

pub returns : goal.returns
returns c =
    let rows = rows_of c.args.rows.now in
    record {
      at = refl;
      stand = c.in_ok-store.ensures.stand;
      holds = λ k. (let held = c.in_ok-store.ensures.stores [] rows c.of_root-made.ensures.holds (puts_own rows k.rise) k in record { rows = held.rows; names = held.names; room = held.room });
    }
