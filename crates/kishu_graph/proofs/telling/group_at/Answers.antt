use Rattle.std.proofs.Common.{◌≡◌, ◌∙◌, [], Option, Some, None, map, ap, sym, subst}
use Rattle.std.proofs.lemmas.Result.{IfOk-weaker}
use Rattle.std.specs.BTreeMap.{is_at}
use Rattle.std.specs.Cmp.Lexicographic.{slice_cmp}
use Rattle.std.specs.Map.{lookup}
use Rattle.std.specs.Ordering.{nat_cmp}
use Rattle.std.specs.Prelude.{MatchOption}
use Rattle.std.specs.Rc.{rc_str_bytes}
use Rattle.kishu_graph.specs.declared.tables.TableRow as rust_row
use Rattle.kishu_graph.specs.Kept.{texts_of}
use Rattle.kishu_graph.specs.Walks.{group_at, rows_in}
use Rattle.kishu_graph.proofs.GroupsThere.{group-found}
use Rattle.kishu_graph.proofs.telling.group_at.Goals as goal

pub returns-in-Some : goal.returns-in-Some
returns-in-Some c =
    let x = c.as_str.result.now in
    let rows = c.args.rows.now.entries in
    let is : lookup (is_at (λ k. slice_cmp nat_cmp x (rc_str_bytes k))) rows ≡ Some c.in-Some.row.now = sym c.in-Some.ensures.value in
    let found : group_at x (rows_in rows) ≡ texts_of c.in-Some.row.now.group.names =
    subst (λ (o : Option rust_row.TableRow). MatchOption o (group_at x (rows_in rows) ≡ []) (λ row. group_at x (rows_in rows) ≡ texts_of row.group.names)) is (group-found x rows c.requires) in
    IfOk-weaker c.all_copied.result (λ v. texts_of v ≡ map rc_str_bytes c.deref.result.now) (λ v. texts_of v ≡ group_at (rc_str_bytes c.args.first.now) (rows_in rows))
    (λ v e. e ∙ ap (map rc_str_bytes) c.deref.ensures.value ∙ sym found ∙ ap (λ y. group_at y (rows_in rows)) c.as_str.ensures.value)
    c.all_copied.ensures

pub returns-in-None : goal.returns-in-None
returns-in-None c =
    let x = c.as_str.result.now in
    let rows = c.args.rows.now.entries in
    let is : lookup (is_at (λ k. slice_cmp nat_cmp x (rc_str_bytes k))) rows ≡ None = sym c.in-None.ensures.value in
    let found : group_at x (rows_in rows) ≡ [] =
    subst (λ (o : Option rust_row.TableRow). MatchOption o (group_at x (rows_in rows) ≡ []) (λ row. group_at x (rows_in rows) ≡ texts_of row.group.names)) is (group-found x rows c.requires) in
    ap (map rc_str_bytes) c.new.ensures.items ∙ sym found ∙ ap (λ y. group_at y (rows_in rows)) c.as_str.ensures.value
