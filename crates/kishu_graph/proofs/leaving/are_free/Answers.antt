use Rattle.std.proofs.Common.{◌≡◌, ◌∙◌, ◌<◌, false, length, map, get_or, ap, sym, arith}
use Rattle.std.proofs.lemmas.List.{get_or-map, length-map}
use Rattle.std.specs.Rc.{rc_str_bytes}
use Rattle.kishu_graph.specs.Leaves.{is_free}
use Rattle.kishu_graph.proofs.HeldFits.{all-false}
use Rattle.kishu_graph.proofs.leaving.are_free.Goals as goal

pub returns-then-not-is_free : goal.returns-then-not-is_free
returns-then-not-is_free c =
    let group = c.args.group.now in
    let at = c.loop-name.name-index in
    let item = c.name-item.result in
    let free = is_free c.args.names.now.keys c.args.gone.now.keys in
    let here : get_or (map rc_str_bytes group) at (rc_str_bytes item) ≡ rc_str_bytes item = get_or-map rc_str_bytes group at item (rc_str_bytes item) c.loop-name-test.true ∙ ap rc_str_bytes (sym c.name-item.is) in
    let no : free (rc_str_bytes item) ≡ false = sym c.is_free.ensures ∙ c.if-not-is_free.true in
    let inside : at < length (map rc_str_bytes group) = omega (arith, c.loop-name-test.true, length-map group rc_str_bytes) in
    sym (all-false free (map rc_str_bytes group) at (rc_str_bytes item) inside (ap free here ∙ no))
