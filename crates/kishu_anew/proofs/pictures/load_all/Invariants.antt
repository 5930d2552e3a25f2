use Rattle.std.proofs.Common.{◌≡◌, ◌+◌, ◌<◌, ◌^◌, drop, length}
use Rattle.kishu_loading.specs.Loaded.{held, LeadsWithin}
use Rattle.kishu_anew.specs.Anew.{contents, taken_by}
use Rattle.kishu_anew.proofs.Turns.{IsLoading}
use Rattle.kishu_anew.proofs.pictures.load_all.Given as goal

abbrev pub invariant-loop-i : goal.invariant-loop-i
invariant-loop-i l =
    let left = contents (drop l.i l.pictures) in
    record {
      loading : IsLoading (contents l.pictures) (held l.fn.heap l.fn.names) (held l.heap l.names) left;
      room : length l.heap + taken_by left + 1 < 2 ^ 32;
      accessed : l.names.accessed ≡ l.fn.names.accessed;
      sound : LeadsWithin (held l.fn.heap l.fn.names) → LeadsWithin (held l.heap l.names);
    }
