use Rattle.std.proofs.Common.{◌∷◌, [], map, take, get_or, sym, subst}
use Rattle.std.proofs.lemmas.List.{map_more, take_all}
use Rattle.kishu_store.specs.Tables.{Table}
use Rattle.kishu_graph.specs.Kept.{row_of}
use Rattle.kishu_graph.specs.Walks.{rows_in, all_texts, HaveFound}
use Rattle.kishu_graph.proofs.FoundRows.{found-nothing, found-more}
use Rattle.kishu_graph.proofs.walking.find_rows.Goals as goal

pub loop-row-init : goal.loop-row-init
loop-row-init c = record { stand = c.requires; found = found-nothing (all_texts c.args.gone.now.keys) (rows_in c.args.found.now.entries) }

pub loop-row-preserved : goal.loop-row-preserved
loop-row-preserved c =
    let rows = c.args.rows.now in
    let at = c.loop-row.row-index in
    let item = c.row-item.result in
    let gone = all_texts c.args.gone.now.keys in
    let old = rows_in c.args.found.now.entries in
    let now = rows_in c.loop-row.found.entries in
    let new = rows_in c.find_row.new.found.entries in
    let one : HaveFound gone (row_of (get_or rows at item) ∷ []) now new = subst (λ r. HaveFound gone (row_of r ∷ []) now new) c.row-item.is c.in_ok-find_row.ensures.found in
    record {
      stand = c.in_ok-find_row.ensures.stand;
      found = subst (λ (t : Table). HaveFound gone t old new) (sym (map_more row_of rows at item c.loop-row-test.true)) (found-more gone (map row_of (take at rows)) (row_of (get_or rows at item) ∷ []) old now new c.loop-row.invariant.found one);
    }

pub returns-clause-found : goal.returns-clause-found
returns-clause-found c =
    subst (λ l. HaveFound (all_texts c.args.gone.now.keys) (map row_of l) (rows_in c.args.found.now.entries) (rows_in c.loop-row.found.entries)) (take_all c.loop-row.row-index c.args.rows.now c.loop-row-test.false) c.loop-row.invariant.found
