use Rattle.std.proofs.Common.{◌∙◌, ◌+◌, ℕ, List, drop, map, ap, sym, subst, arith}
use Rattle.kishu_graph.specs.Kept.{row_of}
use Rattle.kishu_graph.specs.declared.tables.TableRow.{TableRow}
use Rattle.kishu_names.specs.Record.{texts_of}
use Rattle.kishu_store.specs.Groups.{Group, is_one_of}
use Rattle.kishu_store.specs.Tables.{groups_in}
use Rattle.kishu_delta.specs.Found.{Puts, found}
use Rattle.kishu_delta.proofs.Choosing.{IsKnownFrom, known_all, known_left, known_put, none_left, rows_here}
use Rattle.kishu_delta.proofs.comparing.known.Goals.{then-has+in_ok-shared+in_ok-put, else-has}
use Rattle.kishu_delta.proofs.comparing.known.Goals as goal

pub loop-place-preserved : goal.loop-place-preserved
loop-place-preserved c = λ g.
    let rows = c.args.rows.now in
    let gs = groups_in (map row_of rows) in
    let stand = c.args.standing.now in
    let i = c.loop-place.place in
    let row = c.index-rows-place.result in
    let group = texts_of row.group.names.items in
    let rest = drop (i + 1) gs in
    let here = rows_here rows i row (omega (arith, c.loop-place-test.true)) c.index-rows-place.is in
    let before = subst (λ (hs : List Group). IsKnownFrom gs hs stand g (found c.loop-place.known g)) here.0 (c.loop-place.invariant g) in
    let has = ap (λ (r : TableRow). is_one_of (texts_of r.group.names.items) stand) c.index-rows-place.is ∙ ap (λ h. is_one_of (texts_of h) stand) (sym c.deref.ensures.value) ∙ sym c.has.ensures in
    elim c.if-has.branch [
      | then-has+in_ok-shared+in_ok-put w ↦ (
          let group_is = w.in_ok-shared.ensures ∙ ap texts_of w.deref-then-has.ensures.value ∙ ap (λ (r : TableRow). texts_of r.group.names.items) (sym c.index-rows-place.is) in
          let put = subst (λ (h : Group). Puts h i c.loop-place.known w.put.new.self) group_is w.in_ok-put.ensures in
          subst (λ (ps : List (Group × ℕ)). IsKnownFrom gs rest stand g (found ps g)) (sym w.known-is)
          (known_put gs rest stand g group i c.loop-place.known w.put.new.self put here.1 (has ∙ w.if-has.true) before)
          )
      | else-has w ↦ (
          subst (λ (ps : List (Group × ℕ)). IsKnownFrom gs rest stand g (found ps g)) (sym w.known-is)
          (known_left gs rest stand g group c.loop-place.known (has ∙ w.if-has.false) before)
          )
    ]

pub returns : goal.returns
returns c =
    let rows = c.args.rows.now in
    let gs = groups_in (map row_of rows) in
    let stand = c.args.standing.now in
    known_all gs stand c.loop-place.known (λ g.
    subst (λ (hs : List Group). IsKnownFrom gs hs stand g (found c.loop-place.known g))
    (none_left rows c.loop-place.place (omega (arith, c.loop-place-test.false))) (c.loop-place.invariant g))
