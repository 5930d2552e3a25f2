use Rattle.std.proofs.Common.{◌≡◌, ◌+◌, Bool, true, false, cond, ◌∷◌, drop, is_eq, sym, ap, ◌∙◌, arith, rules}
use Rattle.std.specs.Cmp.Lexicographic.{slice_cmp}
use Rattle.std.specs.List.{list_any}
use Rattle.std.specs.Ordering.{nat_cmp}
use Rattle.std.specs.Str.{bytes_eq}
use Rattle.serde_json.specs.View.{view, items_view}
use Rattle.kishu_model.specs.notebooks.Notebook.{repeated_from}
use Rattle.kishu_notebook.proofs.Ids.{was_new, was_there, one_more, passes, stops}
use Rattle.kishu_notebook.proofs.Lists.{left_at}
use Rattle.kishu_notebook.proofs.faults.repeated_id.Goals as goal

pub returns-then-not-added : goal.returns-then-not-added
returns-then-not-added c =
    let l = c.loop-index in
    let ids = l.invariant.0 in
    let xs = c.args.cells.now.items in
    let cell = c.index-cell.result.now in
    let id = c.id_of-id.result.now in
    let here = left_at xs l.index cell (omega arith) c.index-cell.ensures in
    let old : c.in_ok-added.added ≡ false = search rules in
    let seen : list_any (bytes_eq id) ids ≡ true = sym (l.invariant.1 id) ∙ was_there c.in_ok-added.added _ c.in_ok-added.ensures.added old in
    stops ids l.index id (view cell) (items_view (drop (l.index + 1) xs)) c.id_of-id.ensures seen ∙ ap (repeated_from ids l.index) (sym here) ∙ l.invariant.2

pub loop-index-preserved : goal.loop-index-preserved
loop-index-preserved c =
    let l = c.loop-index in
    let ids = l.invariant.0 in
    let xs = c.args.cells.now.items in
    let cell = c.index-cell.result.now in
    let id = c.id_of-id.result.now in
    let here = left_at xs l.index cell (omega arith) c.index-cell.ensures in
    let new : c.in_ok-added.added ≡ true = search rules in
    let unseen : list_any (bytes_eq id) ids ≡ false = sym (l.invariant.1 id) ∙ was_new c.in_ok-added.added _ c.in_ok-added.ensures.added new in (
      id ∷ ids,
      λ q. c.in_ok-added.ensures.updates.0 (record { ref_ptr = (0, 0); now = q }) ∙ ap (λ (b : Bool). cond (is_eq (slice_cmp nat_cmp id q)) true b) (l.invariant.1 q) ∙ one_more q id (list_any (bytes_eq q) ids),
      passes ids l.index (l.index + 1) id (view cell) (items_view (drop (l.index + 1) xs)) (omega arith) c.id_of-id.ensures unseen ∙ ap (repeated_from ids l.index) (sym here) ∙ l.invariant.2,
    )
