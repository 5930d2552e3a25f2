use Rattle.std.proofs.Common.{◌++◌, length, ap, ◌∙◌, arith, length-append}
use Rattle.kishu_objects.specs.Bytes.{many, row_bytes}
use Rattle.kishu_picture.specs.Rows.{names_bytes, rows_of}
use Rattle.kishu_picture.proofs.Reached.{whole_is, whole_fits}
use Rattle.kishu_picture.proofs.writing.picture.Goals as goal

pub put_rows-requires-clause-short : goal.put_rows-requires-clause-short
put_rows-requires-clause-short g c =
    let nodes = c.args.heap.now in
    let keys = c.in_ok-found.found.keys in
    let names = names_bytes keys c.args.names.now c.args.group.now in
    let rows = many row_bytes (rows_of nodes keys) in
    let whole = ap length (whole_is nodes c.args.names.now c.args.group.now keys c.in_ok-found.ensures.order.order) in
    omega (arith, c.requires.short, whole, length-append names rows)

pub returns-clause-bytes : goal.returns-clause-bytes
returns-clause-bytes g c =
    let nodes = c.args.heap.now in
    let keys = c.in_ok-found.found.keys in
    let names = names_bytes keys c.args.names.now c.args.group.now in
    let rows = many row_bytes (rows_of nodes keys) in
    c.in_ok-put_rows.ensures.bytes ∙ ap (λ z. z ++ rows) (c.in_ok-put_names.ensures.bytes ∙ ap (λ z. z ++ names) c.new-out.ensures.items)
    ∙ whole_is nodes c.args.names.now c.args.group.now keys c.in_ok-found.ensures.order.order

pub returns-clause-fits : goal.returns-clause-fits
returns-clause-fits g c =
    whole_fits c.args.heap.now c.args.names.now c.args.group.now c.in_ok-found.found.keys c.in_ok-found.ensures.order.order
    c.in_ok-put_names.ensures.fits c.in_ok-put_rows.ensures.fits
