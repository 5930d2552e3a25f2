use Rattle.std.proofs.Common.{◌≡◌, drop}
use Rattle.kishu_meaning.specs.moments.Accesses.{with_accesses}
use Rattle.kishu_names.specs.Record.{texts_of}
use Rattle.kishu_history.specs.Checkout.{unbind_all}
use Rattle.kishu_checkout.specs.Groups.{StaySound}
use Rattle.kishu_checkout.proofs.unbinding.unbind_names.Given as goal

abbrev pub invariant-loop-name : goal.invariant-loop-name
invariant-loop-name l =
    let left = texts_of (drop l.name-index l.group) in
    record {
      bound : unbind_all (texts_of l.group) l.fn.names.bound ≡ unbind_all left l.names.bound;
      accessed : with_accesses (texts_of l.group) l.fn.names.accessed ≡ with_accesses left l.names.accessed;
      sound : StaySound l.fn.names.bound l.names.bound;
    }
