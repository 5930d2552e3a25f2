use Rattle.std.proofs.Common.{◌≡◌, ◌∙◌, ◌+◌, List, sym, ap, arith, map, drop, true}
use Rattle.std.specs.Rc.{rc_str_bytes}
use Rattle.std.specs.Str.{bytes_eq}
use Rattle.std.specs.declared.alloc.Global.{Global}
use Rattle.std.specs.declared.rc.RcStr.{RcStr}
use Rattle.kishu_language.specs.tokens.Names.{is_among}
use Rattle.kishu_items.specs.Gathering.{dropped}
use Rattle.kishu_machine.specs.SoundNames.{among_here}
use Rattle.kishu_machine.proofs.names.is_among.Goals as goal

pub returns-then-is_same_text : goal.returns-then-is_same_text
returns-then-is_same_text c =
    let name = c.args.name.now in
    let names = c.args.names.now in
    let i = c.loop-other.other-index in
    let x = c.other-item.result in
    let same : bytes_eq name (rc_str_bytes x) ≡ true = ap (bytes_eq name) (sym c.as_str.ensures.value) ∙ sym c.is_same_text.ensures ∙ c.if-is_same_text.true in
    let here = ap (λ (ns : List (RcStr Global)). is_among name (map rc_str_bytes ns)) (sym (dropped names i x (omega arith) c.other-item.is)) in
    among_here name (rc_str_bytes x) (map rc_str_bytes (drop (i + 1) names)) (map rc_str_bytes names) same (here ∙ c.loop-other.invariant)
