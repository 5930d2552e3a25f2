use Rattle.std.proofs.Common.{◌∙◌, ap, sym, arith}
use Rattle.std.specs.Prelude.{option_map}
use Rattle.std.specs.Rc.{rc_str_bytes}
use Rattle.std.specs.Str.{bytes_eq}
use Rattle.std.proofs.lemmas.Result.{err_from_is_err_and}
use Rattle.kishu_meaning.specs.values.Keys.{key_of, is_one}
use Rattle.kishu_meaning.specs.values.Values.{value_of}
use Rattle.kishu_meaning.specs.values.Nodes.{value_at}
use Rattle.kishu_meaning.specs.comparing.Equal.{equal_nodes}
use Rattle.kishu_heap.specs.Cells.{entries_of, attributes_of}
use Rattle.kishu_heap.proofs.Walks.{both_nodes, item_fault, item_differs, item_equals, entry_fault, entry_differs, entry_equals}
use Rattle.kishu_heap.proofs.compare.+equal.Goals as goal

pub equal_items-returns-in_err-equal_pair-clause-gives :
    goal.equal_items-returns-in_err-equal_pair-clause-gives
equal_items-returns-in_err-equal_pair-clause-gives g t c =
    let p = err_from_is_err_and c.from_residual.result c.from_residual.ensures.1 in
    rw (c.loop-i.invariant.told, p.1, p.2)
    (item_fault (equal_nodes c.args.heap.now c.args.room) c.args.a.now c.args.b.now c.loop-i.i c.index-a-i.result c.index-b-i.result (omega arith) (omega arith) c.index-a-i.is c.index-b-i.is c.loop-i.left c.equal_pair.new.left c.in_err-equal_pair.field-0.0 c.in_err-equal_pair.ensures.gives)

pub equal_items-returns-then-not-branch-clause-gives :
    goal.equal_items-returns-then-not-branch-clause-gives
equal_items-returns-then-not-branch-clause-gives g t c =
    c.loop-i.invariant.told ∙ item_differs (equal_nodes c.args.heap.now c.args.room) c.args.a.now c.args.b.now c.loop-i.i c.index-a-i.result c.index-b-i.result (omega arith) (omega arith) c.index-a-i.is c.index-b-i.is c.loop-i.left c.equal_pair.new.left (rw c.if-not-branch.true at c.in_ok-equal_pair.ensures.gives)

pub equal_items-loop-i-preserved : goal.equal_items-loop-i-preserved
equal_items-loop-i-preserved g t c = record {
  told = c.loop-i.invariant.told ∙ item_equals (equal_nodes c.args.heap.now c.args.room) c.args.a.now c.args.b.now c.loop-i.i c.index-a-i.result c.index-b-i.result (omega arith) (omega arith) c.index-a-i.is c.index-b-i.is c.loop-i.left c.equal_pair.new.left (rw c.if-not-branch.false at c.in_ok-equal_pair.ensures.gives);
  takes = (omega arith, omega arith, omega arith);
}

pub equal_entries-returns-in_err-equal_found-clause-gives :
    goal.equal_entries-returns-in_err-equal_found-clause-gives
equal_entries-returns-in_err-equal_found-clause-gives g t c =
    let p = err_from_is_err_and c.from_residual.result c.from_residual.ensures.1 in
    rw (c.loop-i.invariant.told, p.1, p.2)
    (entry_fault (equal_nodes c.args.heap.now c.args.room) key_of is_one c.args.a.now.entries (entries_of c.args.b.now.entries) c.loop-i.i c.in-Some.key.now c.in-Some.value.now (option_map (λ v. value_of v.now) c.value_under.result) (sym c.in-Some.ensures.entry) c.value_under.ensures c.loop-i.left c.equal_found.new.left c.in_err-equal_found.field-0.0 c.in_err-equal_found.ensures.gives)

pub equal_entries-returns-then-not-branch-clause-gives :
    goal.equal_entries-returns-then-not-branch-clause-gives
equal_entries-returns-then-not-branch-clause-gives g t c =
    c.loop-i.invariant.told ∙ entry_differs (equal_nodes c.args.heap.now c.args.room) key_of is_one c.args.a.now.entries (entries_of c.args.b.now.entries) c.loop-i.i c.in-Some.key.now c.in-Some.value.now (option_map (λ v. value_of v.now) c.value_under.result) (sym c.in-Some.ensures.entry) c.value_under.ensures c.loop-i.left c.equal_found.new.left (rw c.if-not-branch.true at c.in_ok-equal_found.ensures.gives)

pub equal_entries-loop-i-preserved : goal.equal_entries-loop-i-preserved
equal_entries-loop-i-preserved g t c = record {
  told = c.loop-i.invariant.told ∙ entry_equals (equal_nodes c.args.heap.now c.args.room) key_of is_one c.args.a.now.entries (entries_of c.args.b.now.entries) c.loop-i.i c.in-Some.key.now c.in-Some.value.now (option_map (λ v. value_of v.now) c.value_under.result) (sym c.in-Some.ensures.entry) c.value_under.ensures c.loop-i.left c.equal_found.new.left (rw c.if-not-branch.false at c.in_ok-equal_found.ensures.gives);
  takes = (omega arith, omega arith, omega arith);
}

pub equal_attributes-returns-in_err-equal_found-clause-gives :
    goal.equal_attributes-returns-in_err-equal_found-clause-gives
equal_attributes-returns-in_err-equal_found-clause-gives g t c =
    let p = err_from_is_err_and c.from_residual.result c.from_residual.ensures.1 in
    rw (c.loop-i.invariant.told, p.1, p.2)
    (entry_fault (equal_nodes c.args.heap.now c.args.room) rc_str_bytes bytes_eq c.args.a.now.entries (attributes_of c.args.b.now.entries) c.loop-i.i c.in-Some.name.now c.in-Some.value.now (option_map (λ v. value_of v.now) c.attribute.result) (sym c.in-Some.ensures.entry) (c.attribute.ensures ∙ ap (λ x. value_at bytes_eq x (attributes_of c.args.b.now.entries)) c.as_str.ensures.value) c.loop-i.left c.equal_found.new.left c.in_err-equal_found.field-0.0 c.in_err-equal_found.ensures.gives)

pub equal_attributes-returns-then-not-branch-clause-gives :
    goal.equal_attributes-returns-then-not-branch-clause-gives
equal_attributes-returns-then-not-branch-clause-gives g t c =
    c.loop-i.invariant.told ∙ entry_differs (equal_nodes c.args.heap.now c.args.room) rc_str_bytes bytes_eq c.args.a.now.entries (attributes_of c.args.b.now.entries) c.loop-i.i c.in-Some.name.now c.in-Some.value.now (option_map (λ v. value_of v.now) c.attribute.result) (sym c.in-Some.ensures.entry) (c.attribute.ensures ∙ ap (λ x. value_at bytes_eq x (attributes_of c.args.b.now.entries)) c.as_str.ensures.value) c.loop-i.left c.equal_found.new.left (rw c.if-not-branch.true at c.in_ok-equal_found.ensures.gives)

pub equal_attributes-loop-i-preserved : goal.equal_attributes-loop-i-preserved
equal_attributes-loop-i-preserved g t c = record {
  told = c.loop-i.invariant.told ∙ entry_equals (equal_nodes c.args.heap.now c.args.room) rc_str_bytes bytes_eq c.args.a.now.entries (attributes_of c.args.b.now.entries) c.loop-i.i c.in-Some.name.now c.in-Some.value.now (option_map (λ v. value_of v.now) c.attribute.result) (sym c.in-Some.ensures.entry) (c.attribute.ensures ∙ ap (λ x. value_at bytes_eq x (attributes_of c.args.b.now.entries)) c.as_str.ensures.value) c.loop-i.left c.equal_found.new.left (rw c.if-not-branch.false at c.in_ok-equal_found.ensures.gives);
  takes = (omega arith, omega arith, omega arith);
}

pub equal_values-returns-in-Some-Some-clause-gives :
    goal.equal_values-returns-in-Some-Some-clause-gives
equal_values-returns-in-Some-Some-clause-gives g t c =
    both_nodes c.args.heap.now c.args.room (value_of c.args.a.now) (value_of c.args.b.now) c.in-Some-Some.i.0 c.in-Some-Some.j.0 c.equal_nodes.result c.args.left.now c.equal_nodes.new.left c.in-Some-Some.ensures c.in-Some-Some.ensures' c.if-room-eq0.false c.equal_nodes.ensures.gives
