use Rattle.std.proofs.Common.{◌≡◌, ◌∙◌, ◌∷◌, [], List, ℕ, Some, None, map, ap, sym, subst, arith}
use Rattle.std.specs.Prelude.{option_map}
use Rattle.std.specs.Rc.{rc_str_bytes}
use Rattle.kishu_store.specs.Groups.{Rise}
use Rattle.kishu_store.specs.Tables.{Table, first_in}
use Rattle.kishu_store_laws.specs.WalkLaws.{rows_left}
use Rattle.kishu_graph.specs.declared.heads.HeadRows as rust_heads
use Rattle.kishu_graph.specs.Heads.{Holds, Lack}
use Rattle.kishu_graph.specs.Kept.{row_of}
use Rattle.kishu_graph.specs.Walks.{StandAtFirst, all_texts, rows_in}
use Rattle.kishu_graph.proofs.RowsLeft.{row_at, bytes-left, left-none-at, names-left, row-found-at, rows-removed, stand-removed}
use Rattle.kishu_graph.proofs.heads.HeadRows.leave_out_one.Goals as goal

pub returns-in-Some-clause-stand : goal.returns-in-Some-clause-stand
returns-in-Some-clause-stand c = subst StandAtFirst (sym c.in-Some.ensures.entries) (stand-removed c.as_str.result.now c.args.self.now.rows.entries c.requires)

pub returns-in-Some-clause-left : goal.returns-in-Some-clause-left
returns-in-Some-clause-left c t s h =
    let x = c.as_str.result.now in
    let es = c.args.self.now.rows.entries in
    let row = row_of c.in-Some.row in
    let there : row_at x t ≡ Some row = ap (row_at x) (sym h.rows) ∙ sym (row-found-at x es c.requires) ∙ ap (option_map row_of) (sym c.in-Some.ensures.value) in
    let rise : Rise (map first_in (rows_in es)) = subst (λ (u : Table). Rise (map first_in u)) (sym h.rows) s.rise in
    let lack : Lack row.group (all_texts c.args.self.now.names.keys) (all_texts c.take_names.new.names.keys) =
    subst (λ (l : List (List ℕ)). Lack l (all_texts c.args.self.now.names.keys) (all_texts c.take_names.new.names.keys)) (ap (map rc_str_bytes) c.deref.ensures.value) c.take_names.ensures in
    let new : rust_heads.HeadRows = record { alloc = c.args.self.now.alloc; commit = c.args.self.now.commit; rows = c.remove.new.self; names = c.take_names.new.names; room = c.saturating_add-self.result } in
    subst (λ (y : List ℕ). Holds new (rows_left (y ∷ []) t)) c.as_str.ensures.value
    (record {
      rows = ap rows_in c.in-Some.ensures.entries ∙ rows-removed x es c.requires rise ∙ ap (rows_left (x ∷ [])) h.rows;
      names = names-left x t row (all_texts c.args.self.now.names.keys) (all_texts c.take_names.new.names.keys) s there h.names lack;
      room = (let all = bytes-left x t row s.rise there in let room = h.room in omega (arith, all, room, c.saturating_add-self.ensures));
    })

pub returns-in_default-clause-left : goal.returns-in_default-clause-left
returns-in_default-clause-left c t s h =
    let x = c.as_str.result.now in
    let es = c.args.self.now.rows.entries in
    let none : row_at x t ≡ None = ap (row_at x) (sym h.rows) ∙ sym (row-found-at x es c.requires) ∙ ap (option_map row_of) (sym c.in_default.ensures.value) in
    let rise : Rise (map first_in (rows_in es)) = subst (λ (u : Table). Rise (map first_in u)) (sym h.rows) s.rise in
    let same : rows_left (rc_str_bytes c.args.first.now ∷ []) t ≡ t = ap (λ (y : List ℕ). rows_left (y ∷ []) t) (sym c.as_str.ensures.value) ∙ left-none-at x t none in
    let new : rust_heads.HeadRows = record { alloc = c.args.self.now.alloc; commit = c.args.self.now.commit; rows = c.remove.new.self; names = c.args.self.now.names; room = c.args.self.now.room } in
    subst (Holds new) (sym same) (record { rows = ap rows_in c.in_default.ensures.entries ∙ rows-removed x es c.requires rise ∙ ap (rows_left (x ∷ [])) h.rows ∙ left-none-at x t none; names = h.names; room = h.room })
