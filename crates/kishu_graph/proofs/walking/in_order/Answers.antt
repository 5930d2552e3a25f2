use Rattle.std.proofs.Common.{◌≡◌, ◌∙◌, ◌++◌, [], List, map, ap, sym, rules}
use Rattle.std.proofs.lemmas.List.{append-nil}
use Rattle.kishu_graph.specs.declared.tables.TableRow as rust_row
use Rattle.kishu_graph.specs.Kept.{row_of}
use Rattle.kishu_graph.proofs.FoundRows.{rows-values}
use Rattle.kishu_graph.proofs.walking.in_order.Goals as goal

pub returns : goal.returns
returns c =
    let rows = c.loop-row.rows.items in
    let none : c.loop-row.row-iterator ≡ [] = search rules in
    ap (map row_of) (sym (append-nil rows) ∙ ap (λ (l : List rust_row.TableRow). rows ++ l) (sym none) ∙ c.loop-row.invariant) ∙ rows-values c.args.found.entries
