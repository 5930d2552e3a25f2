use Rattle.std.proofs.Common.{◌≡◌, ◌∙◌, ◌∷◌, ◌++◌, [], List, length, map, drop, refl, ap, sym, arith, append_assoc}
use Rattle.std.proofs.lemmas.List.{append-nil, drop-drop, drop_all, length-drop, length-map, map_push}
use Rattle.std.specs.Rc.{rc_str_bytes}
use Rattle.std.specs.Vec.Iter.{into_iter_items}
use Rattle.kishu_store.specs.Groups.{Group}
use Rattle.kishu_store.specs.Tables.{Table}
use Rattle.kishu_graph.specs.declared.tables.TableRow as rust_row
use Rattle.kishu_graph.specs.Fits.{Left, behind, is_next, left_of, rows_of}
use Rattle.kishu_graph.specs.Kept.{row_of, texts_of}
use Rattle.kishu_graph.specs.Tables.{table_of_rows}
use Rattle.kishu_graph.proofs.Stays.{step-met, step-stays}
use Rattle.kishu_graph.proofs.fitting.rows_left.Goals as goal

nothing_left : {X : Type 0} (xs : List X) → length xs ≡ 0 → xs ≡ []
nothing_left [] e = refl
nothing_left (x ∷ xs) e = absurd (omega (arith, e))

pub loop-row-preserved-then-is_next : goal.loop-row-preserved-then-is_next
loop-row-preserved-then-is_next c =
    let at = c.loop-row in
    let row = c.in-Some.row in
    let ds = map texts_of c.args.dropped.now in
    let steps : into_iter_items at.row-iterator ≡ row ∷ into_iter_items c.next.new.self = c.in-Some.ensures.steps.0 in
    let rest = rows_of (into_iter_items c.next.new.self) in
    let next : is_next (row_of row).group (drop at.met ds) ≡ _ = ap (λ l. is_next (map rc_str_bytes l) (drop at.met ds)) (sym c.deref.ensures.value) ∙ sym c.is_next.ensures.next ∙ c.if-is_next.true in
    record {
      inside = omega (arith, c.is_next.ensures.inside c.if-is_next.true);
      left =
          at.invariant.left
          ∙ ap (λ (l : List rust_row.TableRow). behind (rows_of at.left.items) (left_of (rows_of l) (drop at.met ds))) steps
          ∙ ap (behind (rows_of at.left.items)) (step-met (row_of row) rest (drop at.met ds) next ∙ ap (left_of rest) (drop-drop 1 at.met ds));
      len = (let was = at.invariant.len in let gone = c.in-Some.ensures.steps.1 in let short = ap length steps in omega (arith, was, gone, short));
    }

pub loop-row-preserved : goal.loop-row-preserved
loop-row-preserved c =
    let at = c.loop-row in
    let row = c.in-Some.row in
    let ds = map texts_of c.args.dropped.now in
    let steps : into_iter_items at.row-iterator ≡ row ∷ into_iter_items c.next.new.self = c.in-Some.ensures.steps.0 in
    let rest = rows_of (into_iter_items c.next.new.self) in
    let next : is_next (row_of row).group (drop at.met ds) ≡ _ = ap (λ l. is_next (map rc_str_bytes l) (drop at.met ds)) (sym c.deref.ensures.value) ∙ sym c.is_next.ensures.next ∙ c.if-is_next.false in
    let further = left_of rest (drop at.met ds) in
    let more : rows_of c.push.new.self.items ≡ rows_of at.left.items ++ (row_of row ∷ []) = ap rows_of c.in_ok-push.ensures.items ∙ map_push row_of at.left.items row in
    record {
      inside = at.invariant.inside;
      left =
          at.invariant.left
          ∙ ap (λ (l : List rust_row.TableRow). behind (rows_of at.left.items) (left_of (rows_of l) (drop at.met ds))) steps
          ∙ ap (behind (rows_of at.left.items)) (step-stays (row_of row) rest (drop at.met ds) next)
          ∙ ap (λ (t : Table). record { rows = t; rest = further.rest }) (sym (append_assoc (rows_of at.left.items) (row_of row ∷ []) further.rows))
          ∙ ap (λ (t : Table). behind t further) (sym more);
      len = (let was = at.invariant.len in let gone = c.in-Some.ensures.steps.1 in let short = ap length steps in omega (arith, was, gone, short));
    }

pub returns-then-met-dropped : goal.returns-then-met-dropped
returns-then-met-dropped c =
    let at = c.loop-row in
    let ds = map texts_of c.args.dropped.now in
    let none : into_iter_items at.row-iterator ≡ [] = nothing_left (into_iter_items at.row-iterator) (sym at.invariant.len ∙ c.in-None.ensures.steps.0) in
    let rest : (left_of (table_of_rows c.args.table) ds).rest ≡ drop at.met ds =
    ap (λ (l : Left). l.rest) (at.invariant.left ∙ ap (λ (l : List rust_row.TableRow). behind (rows_of at.left.items) (left_of (rows_of l) (drop at.met ds))) none) in
    omega (arith, ap length rest, length-drop at.met ds, length-map c.args.dropped.now texts_of, c.if-met-dropped.true)

pub returns : goal.returns
returns c =
    let at = c.loop-row in
    let ds = map texts_of c.args.dropped.now in
    let none : into_iter_items at.row-iterator ≡ [] = nothing_left (into_iter_items at.row-iterator) (sym at.invariant.len ∙ c.in-None.ensures.steps.0) in
    let all : drop at.met ds ≡ [] = drop_all at.met ds (omega (arith, length-map c.args.dropped.now texts_of, c.if-met-dropped.false)) in
    at.invariant.left
    ∙ ap (λ (l : List rust_row.TableRow). behind (rows_of at.left.items) (left_of (rows_of l) (drop at.met ds))) none
    ∙ ap (λ (l : List Group). behind (rows_of at.left.items) (record { rows = []; rest = l })) all
    ∙ ap (λ (t : Table). record { rows = t; rest = [] }) (append-nil (rows_of at.left.items))
