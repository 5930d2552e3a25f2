use Rattle.std.proofs.Common.{◌≡◌, ◌+◌, ◌<◌, ◌^◌, drop, length, map}
use Rattle.kishu_graph.specs.Kept.{row_of}
use Rattle.kishu_loading.specs.Loaded.{held, KeepsNodes, LeadsWithin}
use Rattle.kishu_checkout.specs.Fetched.{contents, taken_by}
use Rattle.kishu_checkout.proofs.RowsLeft.{IsPlacing}
use Rattle.kishu_checkout.proofs.placing.place_rows.Given as goal

abbrev pub invariant-loop-i : goal.invariant-loop-i
invariant-loop-i l =
    let left = contents (drop l.i l.pictures) in
    record {
      placing : IsPlacing (map row_of l.rows) (contents l.pictures) (held l.fn.heap l.fn.names) (held l.heap l.names)
          (map row_of (drop l.i l.rows)) left;
      room : length l.heap + taken_by left + 1 < 2 ^ 32;
      accessed : l.names.accessed ≡ l.fn.names.accessed;
      nodes : KeepsNodes l.fn.heap l.heap;
      sound : LeadsWithin (held l.fn.heap l.fn.names) → LeadsWithin (held l.heap l.names);
    }
