use Rattle.std.proofs.Common.{refl, sym, subst}
use Rattle.kishu_loading.specs.Loaded.{held, IsLoaded, LeadsWithin}
use Rattle.kishu_checkout.proofs.Bytes.{alone, no_picture, are_bytes}
use Rattle.kishu_checkout.proofs.group.load_alone.Goals as goal

pub returns-in-Ok : goal.returns-in-Ok
returns-in-Ok c =
    let bytes = c.args.bytes.now in
    let heap = c.args.heap.now in
    let after = held c.load.new.heap c.load.new.names in
    let loaded = subst (λ n. IsLoaded bytes (held heap n) after) c.new-own.ensures c.in-Ok.ensures.loaded in
    let none = subst (λ n. LeadsWithin (held heap n)) (sym c.new-own.ensures) refl in
    record {
      loaded = alone bytes heap after (are_bytes bytes c.type_inv.bytes) loaded;
      sound = c.in-Ok.ensures.sound none;
      nodes = c.in-Ok.ensures.nodes;
    }

pub returns-in-Err-Picture : goal.returns-in-Err-Picture
returns-in-Err-Picture c =
    let fault = rw c.in-Err-Picture.field-0-is at c.in-Err-Picture.ensures.fault in
    record {
      loaded = no_picture c.args.bytes.now c.in-Err-Picture.field-0-0 fault;
      sound = tt;
      nodes = c.in-Err-Picture.ensures.nodes;
    }
