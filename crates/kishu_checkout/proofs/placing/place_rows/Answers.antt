use Rattle.std.proofs.Common.{◌∷◌, ◌+◌, drop, map, subst, ◌∙◌, arith}
use Rattle.kishu_graph.specs.Kept.{row_of}
use Rattle.kishu_loading.specs.Loaded.{held}
use Rattle.kishu_checkout.specs.Fetched.{contents}
use Rattle.kishu_checkout.specs.Groups.{IsLoadedAs}
use Rattle.kishu_checkout.proofs.Nodes.{nodes_on}
use Rattle.kishu_checkout.proofs.RowsLeft.{IsPlacing, placing_next, rows_at, contents_at, room_next}
use Rattle.kishu_checkout.proofs.placing.place_rows.Goals as goal

pub loop-i-preserved : goal.loop-i-preserved
loop-i-preserved c =
    let rows = c.args.rows.now in
    let pictures = c.args.pictures.now in
    let i = c.loop-i.i in
    let row = c.index-rows-i.result in
    let picture = c.index-pictures-i.result in
    let before = held c.args.heap.now c.args.names.now in
    let here = held c.loop-i.heap c.loop-i.names in
    let next = held c.place_row.new.heap c.place_row.new.names in
    let inv = c.loop-i.invariant in
    let inside = c.loop-i-test.true in
    let bytes_here = contents_at pictures i picture (omega (arith, inside, c.requires.one)) c.index-pictures-i.is in
    let rows_here = rows_at rows i row inside c.index-rows-i.is in
    let loaded = subst (λ bs. IsLoadedAs (row_of row).group bs here next) c.as_slice.ensures.value c.in_ok-place_row.ensures.loaded in
    let t = map row_of rows in
    let bytes = contents pictures in
    let left = subst (λ rs. IsPlacing t bytes before here rs (contents (drop i pictures))) rows_here inv.placing in
    let both = subst (λ bs. IsPlacing t bytes before here (row_of row ∷ map row_of (drop (i + 1) rows)) bs) bytes_here left in
    record {
      placing = placing_next t bytes before here (row_of row) (map row_of (drop (i + 1) rows)) picture.items (contents (drop (i + 1) pictures)) next both loaded;
      room = room_next (contents (drop i pictures)) picture.items (contents (drop (i + 1) pictures)) (row_of row).group here next 4294967296 bytes_here inv.room loaded;
      accessed = c.in_ok-place_row.ensures.accessed ∙ inv.accessed;
      nodes = nodes_on c.args.heap.now c.loop-i.heap c.place_row.new.heap inv.nodes c.place_row.ensures.nodes;
      sound = λ h. c.in_ok-place_row.ensures.sound (inv.sound h);
    }

pub returns-in_err-place_row-clause-nodes : goal.returns-in_err-place_row-clause-nodes
returns-in_err-place_row-clause-nodes c =
    nodes_on c.args.heap.now c.loop-i.heap c.place_row.new.heap c.loop-i.invariant.nodes c.place_row.ensures.nodes
