use Rattle.std.proofs.Common.{◌≡◌, ◌∙◌, ◌++◌, [], map, ap, sym, rules}
use Rattle.std.proofs.lemmas.List.{append-nil}
use Rattle.kishu_graph.specs.Kept.{row_of}
use Rattle.kishu_graph.proofs.FoundRows.{rows-values}
use Rattle.kishu_graph.proofs.heads.HeadRows.table.Goals as goal

pub returns : goal.returns
returns c =
    let rows = map row_of c.loop-row.rows.items in
    let none : c.loop-row.row-iterator ≡ [] = search rules in
    sym (append-nil rows) ∙ ap (λ l. rows ++ map row_of l) (sym none) ∙ c.loop-row.invariant ∙ rows-values c.args.self.now.rows.entries
