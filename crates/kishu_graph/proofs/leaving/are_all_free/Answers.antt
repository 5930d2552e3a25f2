use Rattle.std.proofs.Common.{◌≡◌, ◌∙◌, false, ℕ, map, get_or, ap, sym}
use Rattle.std.specs.List.{list_all}
use Rattle.std.specs.Rc.{rc_str_bytes}
use Rattle.std.specs.declared.alloc.Global.{Global}
use Rattle.std.specs.declared.rc.RcStr.{RcStr}
use Rattle.std.specs.declared.vec.Vec.{Vec}
use Rattle.kishu_graph.specs.Kept.{texts_of}
use Rattle.kishu_graph.specs.Leaves.{is_free}
use Rattle.kishu_graph.proofs.HeldFits.{all-false-in}
use Rattle.kishu_graph.proofs.leaving.are_all_free.Goals as goal

pub returns-then-not-are_free : goal.returns-then-not-are_free
returns-then-not-are_free c =
    let stored = c.args.stored.now in
    let at = c.loop-group.group-index in
    let item = c.loop-group-item.result in
    let free = is_free c.args.names.now.keys c.args.gone.now.keys in
    let here : list_all free (texts_of (get_or stored at item).0) ≡ false =
    ap (λ (s : Vec (RcStr Global) Global × ℕ). list_all free (texts_of s.0)) (sym c.loop-group-item.is) ∙ ap (λ l. list_all free (map rc_str_bytes l)) (sym c.deref.ensures.value) ∙ sym c.are_free.ensures ∙ c.if-not-are_free.true in
    sym (all-false-in free (λ (s : Vec (RcStr Global) Global × ℕ). texts_of s.0) stored at item c.loop-group-test.true here)
