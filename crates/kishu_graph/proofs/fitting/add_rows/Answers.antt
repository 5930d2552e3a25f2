use Rattle.std.proofs.Common.{◌≡◌, ◌∙◌, ◌∷◌, ◌++◌, [], Bool, true, false, List, ℕ, map, get_or, ap, sym, subst}
use Rattle.std.proofs.lemmas.List.{append-nil, map-append}
use Rattle.std.proofs.lemmas.Grind.{flat_map-append}
use Rattle.std.specs.Rc.{rc_str_bytes}
use Rattle.kishu_store.specs.Tables.{group_in, names_in}
use Rattle.kishu_graph.specs.declared.tables.TableRow as rust_row
use Rattle.kishu_graph.specs.Fits.{rows_of, AddsNames}
use Rattle.kishu_graph.specs.Kept.{texts_of, row_of}
use Rattle.kishu_graph.proofs.Apart.{adds-nothing, adds-next, adds-none, adds-all}
use Rattle.kishu_graph.proofs.fitting.add_rows.Goals as goal

-- the names of rows
abbrev in_rows : List rust_row.TableRow → List (List ℕ)
in_rows rows = names_in (rows_of rows)

joins : (xs ys : List rust_row.TableRow) → in_rows (xs ++ ys) ≡ in_rows xs ++ in_rows ys
joins xs ys = ap names_in (map-append row_of xs ys) ∙ flat_map-append group_in (rows_of xs) (rows_of ys)

pub loop-row-init : goal.loop-row-init
loop-row-init c = adds-nothing c.args.names.now.keys

pub loop-row-preserved : goal.loop-row-preserved
loop-row-preserved c =
    let rows = c.args.rows.now in
    let item = c.row-item.result in
    let now = c.loop-row.names.keys in
    let new = c.add_names.new.names.keys in
    let row = get_or rows c.loop-row.row-index item in
    let same : map rc_str_bytes c.deref.result.now ≡ in_rows (row ∷ []) =
    ap (map rc_str_bytes) c.deref.ensures.value ∙ ap (λ (r : rust_row.TableRow). texts_of r.group.names) c.row-item.is ∙ sym (append-nil (texts_of row.group.names)) in
    let one : AddsNames (in_rows (row ∷ [])) now new true =
    subst (λ (b : Bool). AddsNames (in_rows (row ∷ [])) now new b) c.if-not-branch.false (subst (λ (l : List (List ℕ)). AddsNames l now new c.in_ok-add_names.field-0) same c.in_ok-add_names.ensures) in
    adds-next in_rows joins rows c.loop-row.row-index item c.loop-row-test.true c.args.names.now.keys now new true c.loop-row.invariant one

pub returns-then-not-branch : goal.returns-then-not-branch
returns-then-not-branch c =
    let rows = c.args.rows.now in
    let item = c.row-item.result in
    let now = c.loop-row.names.keys in
    let new = c.add_names.new.names.keys in
    let row = get_or rows c.loop-row.row-index item in
    let same : map rc_str_bytes c.deref.result.now ≡ in_rows (row ∷ []) =
    ap (map rc_str_bytes) c.deref.ensures.value ∙ ap (λ (r : rust_row.TableRow). texts_of r.group.names) c.row-item.is ∙ sym (append-nil (texts_of row.group.names)) in
    let one : AddsNames (in_rows (row ∷ [])) now new false =
    subst (λ (b : Bool). AddsNames (in_rows (row ∷ [])) now new b) c.if-not-branch.true (subst (λ (l : List (List ℕ)). AddsNames l now new c.in_ok-add_names.field-0) same c.in_ok-add_names.ensures) in
    adds-none in_rows joins rows c.loop-row.row-index item c.loop-row-test.true c.args.names.now.keys now new c.loop-row.invariant one

pub returns : goal.returns
returns c = adds-all in_rows joins c.args.rows.now c.loop-row.row-index c.loop-row-test.false c.args.names.now.keys c.loop-row.names.keys c.loop-row.invariant
