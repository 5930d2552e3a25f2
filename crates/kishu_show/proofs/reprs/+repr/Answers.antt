use Rattle.std.proofs.Common.{◌≡◌, ◌∙◌, sym, subst, arith, ◌∷◌, map, Err}
use Rattle.std.specs.Prelude.{codes}
use Rattle.std.specs.Rc.{rc_str_bytes}
use Rattle.std.specs.Str.{chars}
use Rattle.std.proofs.lemmas.Option.{slice_get_within, get_or_from_slice_get}
use Rattle.std.proofs.lemmas.Result.{err_from_is_err_and}
use Rattle.kishu_meaning.specs.values.Keys.{key_of}
use Rattle.kishu_meaning.specs.values.Values.{value_of}
use Rattle.kishu_meaning.specs.comparing.Show.{◌⊕◌, made, contents_repr, listed, repr_by, repr_nodes, entry_repr, attribute_repr, key_text, tuple_end, class_name}
use Rattle.kishu_heap.specs.Cells.{node_of, entries_of, attributes_of}
use Rattle.kishu_meaning.specs.moments.Counting.{answer}
use Rattle.kishu_show.specs.Shown.{Makes, onto, text_of}
use Rattle.kishu_show.specs.Stack.{around_of}
use Rattle.kishu_show.proofs.Parts.{then_makes, stops, nothing_made}
use Rattle.kishu_show.proofs.Walks.{entry_of, comma_fails, comma_stops, item_stops, goes_on, ends}
use Rattle.kishu_show.proofs.Ends.{inside_around}
use Rattle.kishu_show.proofs.Nodes.{plain_repr, within, too_deep, shown_again, shown_inside}
use Rattle.kishu_show.proofs.reprs.+repr.Goals as goal

pub push_list-returns-in_err-push_mark-clause-gives : goal.push_list-returns-in_err-push_mark-clause-gives
push_list-returns-in_err-push_mark-clause-gives g t c =
    let p = err_from_is_err_and c.from_residual.result c.from_residual.ensures.1 in
    rw (p.1, p.2)
    (stops c.in_err-push_mark.field-0.0 c.args.draft.now c.push_mark.new.draft (made (codes "[")) ((listed (repr_by (repr_nodes c.args.heap.now c.args.room (around_of c.args.around.now))) (map value_of c.args.items.now)) ⊕ (made (codes "]"))) c.in_err-push_mark.ensures.gives)

pub push_list-returns-in_err-push_values-clause-gives : goal.push_list-returns-in_err-push_values-clause-gives
push_list-returns-in_err-push_values-clause-gives g t c =
    let p = err_from_is_err_and c.from_residual-in_err-push_values.result c.from_residual-in_err-push_values.ensures.1 in
    rw (p.1, p.2)
    (then_makes (Err c.in_err-push_values.field-0.0) c.args.draft.now c.push_mark.new.draft c.push_values.new.draft (made (codes "[")) ((listed (repr_by (repr_nodes c.args.heap.now c.args.room (around_of c.args.around.now))) (map value_of c.args.items.now)) ⊕ (made (codes "]"))) c.in_ok-push_mark.ensures.gives
    (stops c.in_err-push_values.field-0.0 c.push_mark.new.draft c.push_values.new.draft (listed (repr_by (repr_nodes c.args.heap.now c.args.room (around_of c.args.around.now))) (map value_of c.args.items.now)) ((made (codes "]"))) c.in_err-push_values.ensures.gives))

pub push_list-returns-clause-gives : goal.push_list-returns-clause-gives
push_list-returns-clause-gives g t c =
    then_makes c.push_mark-2.result c.args.draft.now c.push_mark.new.draft c.push_mark-2.new.draft (made (codes "[")) ((listed (repr_by (repr_nodes c.args.heap.now c.args.room (around_of c.args.around.now))) (map value_of c.args.items.now)) ⊕ (made (codes "]"))) c.in_ok-push_mark.ensures.gives
    (then_makes c.push_mark-2.result c.push_mark.new.draft c.push_values.new.draft c.push_mark-2.new.draft (listed (repr_by (repr_nodes c.args.heap.now c.args.room (around_of c.args.around.now))) (map value_of c.args.items.now)) ((made (codes "]"))) c.in_ok-push_values.ensures.gives
    c.push_mark-2.ensures.gives)

pub push_tuple-returns-in_err-push_mark-clause-gives : goal.push_tuple-returns-in_err-push_mark-clause-gives
push_tuple-returns-in_err-push_mark-clause-gives g t c =
    let p = err_from_is_err_and c.from_residual.result c.from_residual.ensures.1 in
    rw (p.1, p.2)
    (stops c.in_err-push_mark.field-0.0 c.args.draft.now c.push_mark.new.draft (made (codes "(")) ((listed (repr_by (repr_nodes c.args.heap.now c.args.room (around_of c.args.around.now))) (map value_of c.args.items.now)) ⊕ (made (tuple_end (map value_of c.args.items.now)))) c.in_err-push_mark.ensures.gives)

pub push_tuple-returns-in_err-push_values-clause-gives : goal.push_tuple-returns-in_err-push_values-clause-gives
push_tuple-returns-in_err-push_values-clause-gives g t c =
    let p = err_from_is_err_and c.from_residual-in_err-push_values.result c.from_residual-in_err-push_values.ensures.1 in
    rw (p.1, p.2)
    (then_makes (Err c.in_err-push_values.field-0.0) c.args.draft.now c.push_mark.new.draft c.push_values.new.draft (made (codes "(")) ((listed (repr_by (repr_nodes c.args.heap.now c.args.room (around_of c.args.around.now))) (map value_of c.args.items.now)) ⊕ (made (tuple_end (map value_of c.args.items.now)))) c.in_ok-push_mark.ensures.gives
    (stops c.in_err-push_values.field-0.0 c.push_mark.new.draft c.push_values.new.draft (listed (repr_by (repr_nodes c.args.heap.now c.args.room (around_of c.args.around.now))) (map value_of c.args.items.now)) ((made (tuple_end (map value_of c.args.items.now)))) c.in_err-push_values.ensures.gives))

pub push_tuple-returns-clause-gives : goal.push_tuple-returns-clause-gives
push_tuple-returns-clause-gives g t c =
    then_makes c.push_tuple_end.result c.args.draft.now c.push_mark.new.draft c.push_tuple_end.new.draft (made (codes "(")) ((listed (repr_by (repr_nodes c.args.heap.now c.args.room (around_of c.args.around.now))) (map value_of c.args.items.now)) ⊕ (made (tuple_end (map value_of c.args.items.now)))) c.in_ok-push_mark.ensures.gives
    (then_makes c.push_tuple_end.result c.push_mark.new.draft c.push_values.new.draft c.push_tuple_end.new.draft (listed (repr_by (repr_nodes c.args.heap.now c.args.room (around_of c.args.around.now))) (map value_of c.args.items.now)) ((made (tuple_end (map value_of c.args.items.now)))) c.in_ok-push_values.ensures.gives
    c.push_tuple_end.ensures.gives)

pub push_dict-returns-in_err-push_mark-clause-gives : goal.push_dict-returns-in_err-push_mark-clause-gives
push_dict-returns-in_err-push_mark-clause-gives g t c =
    let p = err_from_is_err_and c.from_residual.result c.from_residual.ensures.1 in
    rw (p.1, p.2)
    (stops c.in_err-push_mark.field-0.0 c.args.draft.now c.push_mark.new.draft (made (codes "{")) ((listed (entry_repr (repr_nodes c.args.heap.now c.args.room (around_of c.args.around.now))) (entries_of c.args.entries.now.entries)) ⊕ (made (codes "}"))) c.in_err-push_mark.ensures.gives)

pub push_dict-returns-in_err-push_entries-clause-gives : goal.push_dict-returns-in_err-push_entries-clause-gives
push_dict-returns-in_err-push_entries-clause-gives g t c =
    let p = err_from_is_err_and c.from_residual-in_err-push_entries.result c.from_residual-in_err-push_entries.ensures.1 in
    rw (p.1, p.2)
    (then_makes (Err c.in_err-push_entries.field-0.0) c.args.draft.now c.push_mark.new.draft c.push_entries.new.draft (made (codes "{")) ((listed (entry_repr (repr_nodes c.args.heap.now c.args.room (around_of c.args.around.now))) (entries_of c.args.entries.now.entries)) ⊕ (made (codes "}"))) c.in_ok-push_mark.ensures.gives
    (stops c.in_err-push_entries.field-0.0 c.push_mark.new.draft c.push_entries.new.draft (listed (entry_repr (repr_nodes c.args.heap.now c.args.room (around_of c.args.around.now))) (entries_of c.args.entries.now.entries)) ((made (codes "}"))) c.in_err-push_entries.ensures.gives))

pub push_dict-returns-clause-gives : goal.push_dict-returns-clause-gives
push_dict-returns-clause-gives g t c =
    then_makes c.push_mark-2.result c.args.draft.now c.push_mark.new.draft c.push_mark-2.new.draft (made (codes "{")) ((listed (entry_repr (repr_nodes c.args.heap.now c.args.room (around_of c.args.around.now))) (entries_of c.args.entries.now.entries)) ⊕ (made (codes "}"))) c.in_ok-push_mark.ensures.gives
    (then_makes c.push_mark-2.result c.push_mark.new.draft c.push_entries.new.draft c.push_mark-2.new.draft (listed (entry_repr (repr_nodes c.args.heap.now c.args.room (around_of c.args.around.now))) (entries_of c.args.entries.now.entries)) ((made (codes "}"))) c.in_ok-push_entries.ensures.gives
    c.push_mark-2.ensures.gives)

pub push_object-returns-in_err-push_mark-clause-gives : goal.push_object-returns-in_err-push_mark-clause-gives
push_object-returns-in_err-push_mark-clause-gives g t c =
    let p = err_from_is_err_and c.from_residual.result c.from_residual.ensures.1 in
    rw (p.1, p.2)
    (stops c.in_err-push_mark.field-0.0 c.args.draft.now c.push_mark.new.draft (made (codes "namespace(")) ((listed (attribute_repr (repr_nodes c.args.heap.now c.args.room (around_of c.args.around.now))) (attributes_of c.args.attributes.now.entries)) ⊕ (made (codes ")"))) c.in_err-push_mark.ensures.gives)

pub push_object-returns-in_err-push_attributes-clause-gives : goal.push_object-returns-in_err-push_attributes-clause-gives
push_object-returns-in_err-push_attributes-clause-gives g t c =
    let p = err_from_is_err_and c.from_residual-in_err-push_attributes.result c.from_residual-in_err-push_attributes.ensures.1 in
    rw (p.1, p.2)
    (then_makes (Err c.in_err-push_attributes.field-0.0) c.args.draft.now c.push_mark.new.draft c.push_attributes.new.draft (made (codes "namespace(")) ((listed (attribute_repr (repr_nodes c.args.heap.now c.args.room (around_of c.args.around.now))) (attributes_of c.args.attributes.now.entries)) ⊕ (made (codes ")"))) c.in_ok-push_mark.ensures.gives
    (stops c.in_err-push_attributes.field-0.0 c.push_mark.new.draft c.push_attributes.new.draft (listed (attribute_repr (repr_nodes c.args.heap.now c.args.room (around_of c.args.around.now))) (attributes_of c.args.attributes.now.entries)) ((made (codes ")"))) c.in_err-push_attributes.ensures.gives))

pub push_object-returns-clause-gives : goal.push_object-returns-clause-gives
push_object-returns-clause-gives g t c =
    then_makes c.push_mark-2.result c.args.draft.now c.push_mark.new.draft c.push_mark-2.new.draft (made (codes "namespace(")) ((listed (attribute_repr (repr_nodes c.args.heap.now c.args.room (around_of c.args.around.now))) (attributes_of c.args.attributes.now.entries)) ⊕ (made (codes ")"))) c.in_ok-push_mark.ensures.gives
    (then_makes c.push_mark-2.result c.push_mark.new.draft c.push_attributes.new.draft c.push_mark-2.new.draft (listed (attribute_repr (repr_nodes c.args.heap.now c.args.room (around_of c.args.around.now))) (attributes_of c.args.attributes.now.entries)) ((made (codes ")"))) c.in_ok-push_attributes.ensures.gives
    c.push_mark-2.ensures.gives)

pub push_exception-returns-in_err-push_class-clause-gives : goal.push_exception-returns-in_err-push_class-clause-gives
push_exception-returns-in_err-push_class-clause-gives g t c =
    let p = err_from_is_err_and c.from_residual.result c.from_residual.ensures.1 in
    rw (p.1, p.2)
    (stops c.in_err-push_class.field-0.0 c.args.draft.now c.push_class.new.draft (made (class_name c.args.class.0)) ((made (codes "(")) ⊕ (listed (repr_by (repr_nodes c.args.heap.now c.args.room (around_of c.args.around.now))) (map value_of c.args.arguments.now)) ⊕ (made (codes ")"))) c.in_err-push_class.ensures.gives)

pub push_exception-returns-in_err-push_mark-clause-gives : goal.push_exception-returns-in_err-push_mark-clause-gives
push_exception-returns-in_err-push_mark-clause-gives g t c =
    let p = err_from_is_err_and c.from_residual-in_err-push_mark.result c.from_residual-in_err-push_mark.ensures.1 in
    rw (p.1, p.2)
    (then_makes (Err c.in_err-push_mark.field-0.0) c.args.draft.now c.push_class.new.draft c.push_mark.new.draft (made (class_name c.args.class.0)) ((made (codes "(")) ⊕ (listed (repr_by (repr_nodes c.args.heap.now c.args.room (around_of c.args.around.now))) (map value_of c.args.arguments.now)) ⊕ (made (codes ")"))) c.in_ok-push_class.ensures.gives
    (stops c.in_err-push_mark.field-0.0 c.push_class.new.draft c.push_mark.new.draft (made (codes "(")) ((listed (repr_by (repr_nodes c.args.heap.now c.args.room (around_of c.args.around.now))) (map value_of c.args.arguments.now)) ⊕ (made (codes ")"))) c.in_err-push_mark.ensures.gives))

pub push_exception-returns-in_err-push_values-clause-gives : goal.push_exception-returns-in_err-push_values-clause-gives
push_exception-returns-in_err-push_values-clause-gives g t c =
    let p = err_from_is_err_and c.from_residual-in_err-push_values.result c.from_residual-in_err-push_values.ensures.1 in
    rw (p.1, p.2)
    (then_makes (Err c.in_err-push_values.field-0.0) c.args.draft.now c.push_class.new.draft c.push_values.new.draft (made (class_name c.args.class.0)) ((made (codes "(")) ⊕ (listed (repr_by (repr_nodes c.args.heap.now c.args.room (around_of c.args.around.now))) (map value_of c.args.arguments.now)) ⊕ (made (codes ")"))) c.in_ok-push_class.ensures.gives
    (then_makes (Err c.in_err-push_values.field-0.0) c.push_class.new.draft c.push_mark.new.draft c.push_values.new.draft (made (codes "(")) ((listed (repr_by (repr_nodes c.args.heap.now c.args.room (around_of c.args.around.now))) (map value_of c.args.arguments.now)) ⊕ (made (codes ")"))) c.in_ok-push_mark.ensures.gives
    (stops c.in_err-push_values.field-0.0 c.push_mark.new.draft c.push_values.new.draft (listed (repr_by (repr_nodes c.args.heap.now c.args.room (around_of c.args.around.now))) (map value_of c.args.arguments.now)) ((made (codes ")"))) c.in_err-push_values.ensures.gives)))

pub push_exception-returns-clause-gives : goal.push_exception-returns-clause-gives
push_exception-returns-clause-gives g t c =
    then_makes c.push_mark-2.result c.args.draft.now c.push_class.new.draft c.push_mark-2.new.draft (made (class_name c.args.class.0)) ((made (codes "(")) ⊕ (listed (repr_by (repr_nodes c.args.heap.now c.args.room (around_of c.args.around.now))) (map value_of c.args.arguments.now)) ⊕ (made (codes ")"))) c.in_ok-push_class.ensures.gives
    (then_makes c.push_mark-2.result c.push_class.new.draft c.push_mark.new.draft c.push_mark-2.new.draft (made (codes "(")) ((listed (repr_by (repr_nodes c.args.heap.now c.args.room (around_of c.args.around.now))) (map value_of c.args.arguments.now)) ⊕ (made (codes ")"))) c.in_ok-push_mark.ensures.gives
    (then_makes c.push_mark-2.result c.push_mark.new.draft c.push_values.new.draft c.push_mark-2.new.draft (listed (repr_by (repr_nodes c.args.heap.now c.args.room (around_of c.args.around.now))) (map value_of c.args.arguments.now)) ((made (codes ")"))) c.in_ok-push_values.ensures.gives
    c.push_mark-2.ensures.gives))

pub push_entry-returns-in_err-push_key-clause-gives : goal.push_entry-returns-in_err-push_key-clause-gives
push_entry-returns-in_err-push_key-clause-gives g t c =
    let p = err_from_is_err_and c.from_residual.result c.from_residual.ensures.1 in
    rw (p.1, p.2)
    (stops c.in_err-push_key.field-0.0 c.args.draft.now c.push_key.new.draft (made (key_text (key_of c.args.key.now))) ((made (codes ": ")) ⊕ (repr_by (repr_nodes c.args.heap.now c.args.room (around_of c.args.around.now)) (value_of c.args.value.now))) c.in_err-push_key.ensures.gives)

pub push_entry-returns-in_err-push_mark-clause-gives : goal.push_entry-returns-in_err-push_mark-clause-gives
push_entry-returns-in_err-push_mark-clause-gives g t c =
    let p = err_from_is_err_and c.from_residual-in_err-push_mark.result c.from_residual-in_err-push_mark.ensures.1 in
    rw (p.1, p.2)
    (then_makes (Err c.in_err-push_mark.field-0.0) c.args.draft.now c.push_key.new.draft c.push_mark.new.draft (made (key_text (key_of c.args.key.now))) ((made (codes ": ")) ⊕ (repr_by (repr_nodes c.args.heap.now c.args.room (around_of c.args.around.now)) (value_of c.args.value.now))) c.in_ok-push_key.ensures.gives
    (stops c.in_err-push_mark.field-0.0 c.push_key.new.draft c.push_mark.new.draft (made (codes ": ")) ((repr_by (repr_nodes c.args.heap.now c.args.room (around_of c.args.around.now)) (value_of c.args.value.now))) c.in_err-push_mark.ensures.gives))

pub push_entry-returns-clause-gives : goal.push_entry-returns-clause-gives
push_entry-returns-clause-gives g t c =
    then_makes c.push_value.result c.args.draft.now c.push_key.new.draft c.push_value.new.draft (made (key_text (key_of c.args.key.now))) ((made (codes ": ")) ⊕ (repr_by (repr_nodes c.args.heap.now c.args.room (around_of c.args.around.now)) (value_of c.args.value.now))) c.in_ok-push_key.ensures.gives
    (then_makes c.push_value.result c.push_key.new.draft c.push_mark.new.draft c.push_value.new.draft (made (codes ": ")) ((repr_by (repr_nodes c.args.heap.now c.args.room (around_of c.args.around.now)) (value_of c.args.value.now))) c.in_ok-push_mark.ensures.gives
    c.push_value.ensures.gives)

pub push_attribute-returns-in_err-push_made-clause-gives : goal.push_attribute-returns-in_err-push_made-clause-gives
push_attribute-returns-in_err-push_made-clause-gives g t c =
    let p = err_from_is_err_and c.from_residual.result c.from_residual.ensures.1 in
    rw (p.1, p.2)
    (stops c.in_err-push_made.field-0.0 c.args.draft.now c.push_made.new.draft (made (chars c.args.name.now)) ((made (codes "=")) ⊕ (repr_by (repr_nodes c.args.heap.now c.args.room (around_of c.args.around.now)) (value_of c.args.value.now))) c.in_err-push_made.ensures.gives)

pub push_attribute-returns-in_err-push_mark-clause-gives : goal.push_attribute-returns-in_err-push_mark-clause-gives
push_attribute-returns-in_err-push_mark-clause-gives g t c =
    let p = err_from_is_err_and c.from_residual-in_err-push_mark.result c.from_residual-in_err-push_mark.ensures.1 in
    rw (p.1, p.2)
    (then_makes (Err c.in_err-push_mark.field-0.0) c.args.draft.now c.push_made.new.draft c.push_mark.new.draft (made (chars c.args.name.now)) ((made (codes "=")) ⊕ (repr_by (repr_nodes c.args.heap.now c.args.room (around_of c.args.around.now)) (value_of c.args.value.now))) c.in_ok-push_made.ensures.gives
    (stops c.in_err-push_mark.field-0.0 c.push_made.new.draft c.push_mark.new.draft (made (codes "=")) ((repr_by (repr_nodes c.args.heap.now c.args.room (around_of c.args.around.now)) (value_of c.args.value.now))) c.in_err-push_mark.ensures.gives))

pub push_attribute-returns-clause-gives : goal.push_attribute-returns-clause-gives
push_attribute-returns-clause-gives g t c =
    then_makes c.push_value.result c.args.draft.now c.push_made.new.draft c.push_value.new.draft (made (chars c.args.name.now)) ((made (codes "=")) ⊕ (repr_by (repr_nodes c.args.heap.now c.args.room (around_of c.args.around.now)) (value_of c.args.value.now))) c.in_ok-push_made.ensures.gives
    (then_makes c.push_value.result c.push_made.new.draft c.push_mark.new.draft c.push_value.new.draft (made (codes "=")) ((repr_by (repr_nodes c.args.heap.now c.args.room (around_of c.args.around.now)) (value_of c.args.value.now))) c.in_ok-push_mark.ensures.gives
    c.push_value.ensures.gives)

pub push_value-returns-in_default-clause-gives : goal.push_value-returns-in_default-clause-gives
push_value-returns-in_default-clause-gives g t c =
    subst (λ m. Makes c.push_plain.result c.push_plain.new.draft (onto c.args.draft.now m)) (plain_repr (repr_nodes c.args.heap.now c.args.room (around_of c.args.around.now)) (value_of c.args.value.now) c.in_default.ensures) c.push_plain.ensures.gives

pub push_value-returns-then-room-eq0-clause-gives : goal.push_value-returns-then-room-eq0-clause-gives
push_value-returns-then-room-eq0-clause-gives g t c =
    rw c.if-room-eq0.true (too_deep c.args.heap.now c.args.draft.now (value_of c.args.value.now) c.in-Some.id.0 (around_of c.args.around.now) c.in-Some.ensures)

pub push_value-returns-clause-gives : goal.push_value-returns-clause-gives
push_value-returns-clause-gives g t c =
    within c.args.heap.now c.push_node.result c.args.draft.now c.push_node.new.draft c.args.room (value_of c.args.value.now) c.in-Some.id.0 (around_of c.args.around.now) c.in-Some.ensures c.if-room-eq0.false c.push_node.ensures.gives

pub push_node-returns-in_default-clause-gives : goal.push_node-returns-in_default-clause-gives
push_node-returns-in_default-clause-gives g t c = rw (← c.in_default.ensures.node) (nothing_made c.args.draft.now)

pub push_node-returns-then-is_open-clause-gives : goal.push_node-returns-then-is_open-clause-gives
push_node-returns-then-is_open-clause-gives g t c =
    shown_again (repr_nodes c.args.heap.now c.args.room (c.args.id.0 ∷ around_of c.args.around.now)) c.push_again.result c.args.draft.now c.push_again.new.draft _ _ _ c.in-Some.ensures.node (sym c.is_open.ensures ∙ c.if-is_open.true) c.push_again.ensures.gives

pub push_node-returns-clause-gives : goal.push_node-returns-clause-gives
push_node-returns-clause-gives g t c =
    shown_inside (repr_nodes c.args.heap.now c.args.room (c.args.id.0 ∷ around_of c.args.around.now)) c.push_inside.result c.args.draft.now c.push_inside.new.draft _ _ _ c.in-Some.ensures.node (sym c.is_open.ensures ∙ c.if-is_open.false) c.push_inside.ensures.gives

pub push_inside-returns-clause-gives : goal.push_inside-returns-clause-gives
push_inside-returns-clause-gives g t c =
    subst (λ a. Makes c.push_contents.result c.push_contents.new.draft (onto c.args.draft.now (contents_repr (repr_nodes c.args.heap.now c.args.room a) (node_of c.args.node.now)))) (inside_around c.args.id.0 _) c.push_contents.ensures.gives

pub push_values-returns-in_err-push_comma-clause-gives : goal.push_values-returns-in_err-push_comma-clause-gives
push_values-returns-in_err-push_comma-clause-gives g t c =
    let p = err_from_is_err_and c.from_residual.result c.from_residual.ensures.1 in
    rw (c.loop-i.invariant.told, p.1, p.2)
    (comma_fails value_of (repr_by (repr_nodes c.args.heap.now c.args.room (around_of c.args.around.now))) c.args.values.now c.loop-i.i (omega arith) c.in_err-push_comma.field-0.0 c.loop-i.draft c.push_comma.new.draft c.in_err-push_comma.ensures.gives)

pub push_values-returns-in_err-push_value-clause-gives : goal.push_values-returns-in_err-push_value-clause-gives
push_values-returns-in_err-push_value-clause-gives g t c =
    let p = err_from_is_err_and c.from_residual-in_err-push_value.result c.from_residual-in_err-push_value.ensures.1 in
    rw (c.loop-i.invariant.told, p.1, p.2)
    (item_stops value_of (repr_by (repr_nodes c.args.heap.now c.args.room (around_of c.args.around.now))) c.args.values.now c.loop-i.i c.index-values-i.result (omega arith) c.index-values-i.is c.in_err-push_value.field-0.0 c.loop-i.draft c.push_comma.new.draft c.push_value.new.draft c.in_ok-push_comma.ensures.gives c.in_err-push_value.ensures.gives)

pub push_values-returns-in_err-push_value-clause-takes : goal.push_values-returns-in_err-push_value-clause-takes
push_values-returns-in_err-push_value-clause-takes g t c = (omega arith, omega arith, omega (arith, c.in_ok-push_comma.ensures.taken))

pub push_values-loop-i-preserved : goal.push_values-loop-i-preserved
push_values-loop-i-preserved g t c = record {
  told = c.loop-i.invariant.told ∙ goes_on value_of (repr_by (repr_nodes c.args.heap.now c.args.room (around_of c.args.around.now))) c.args.values.now c.loop-i.i c.index-values-i.result (omega arith) c.index-values-i.is c.loop-i.draft c.push_comma.new.draft c.push_value.new.draft c.in_ok-push_comma.ensures.gives c.in_ok-push_value.ensures.gives;
  takes = (omega arith, omega arith, omega (arith, c.in_ok-push_comma.ensures.taken));
}

pub push_values-returns-clause-gives : goal.push_values-returns-clause-gives
push_values-returns-clause-gives g t c = c.loop-i.invariant.told ∙ ends value_of (repr_by (repr_nodes c.args.heap.now c.args.room (around_of c.args.around.now))) c.args.values.now c.loop-i.i c.loop-i.draft (omega arith)

pub push_entries-returns-in_err-push_comma-clause-gives : goal.push_entries-returns-in_err-push_comma-clause-gives
push_entries-returns-in_err-push_comma-clause-gives g t c =
    let p = err_from_is_err_and c.from_residual.result c.from_residual.ensures.1 in
    rw (c.loop-i.invariant.told, p.1, p.2)
    (comma_stops (entry_of key_of) (entry_repr (repr_nodes c.args.heap.now c.args.room (around_of c.args.around.now))) c.args.entries.now.entries c.loop-i.i (c.in-Some.key.now, c.in-Some.value.now) (slice_get_within c.args.entries.now.entries c.loop-i.i (c.in-Some.key.now, c.in-Some.value.now) (sym c.in-Some.ensures.entry)) (sym (get_or_from_slice_get c.args.entries.now.entries c.loop-i.i (c.in-Some.key.now, c.in-Some.value.now) (c.in-Some.key.now, c.in-Some.value.now) (sym c.in-Some.ensures.entry))) c.in_err-push_comma.field-0.0 c.loop-i.draft c.push_comma.new.draft c.in_err-push_comma.ensures.gives)

pub push_entries-returns-in_err-push_entry-clause-gives : goal.push_entries-returns-in_err-push_entry-clause-gives
push_entries-returns-in_err-push_entry-clause-gives g t c =
    let p = err_from_is_err_and c.from_residual-in_err-push_entry.result c.from_residual-in_err-push_entry.ensures.1 in
    rw (c.loop-i.invariant.told, p.1, p.2)
    (item_stops (entry_of key_of) (entry_repr (repr_nodes c.args.heap.now c.args.room (around_of c.args.around.now))) c.args.entries.now.entries c.loop-i.i (c.in-Some.key.now, c.in-Some.value.now) (slice_get_within c.args.entries.now.entries c.loop-i.i (c.in-Some.key.now, c.in-Some.value.now) (sym c.in-Some.ensures.entry)) (sym (get_or_from_slice_get c.args.entries.now.entries c.loop-i.i (c.in-Some.key.now, c.in-Some.value.now) (c.in-Some.key.now, c.in-Some.value.now) (sym c.in-Some.ensures.entry))) c.in_err-push_entry.field-0.0 c.loop-i.draft c.push_comma.new.draft c.push_entry.new.draft c.in_ok-push_comma.ensures.gives c.in_err-push_entry.ensures.gives)

pub push_entries-loop-i-preserved : goal.push_entries-loop-i-preserved
push_entries-loop-i-preserved g t c = record {
  told = c.loop-i.invariant.told ∙ goes_on (entry_of key_of) (entry_repr (repr_nodes c.args.heap.now c.args.room (around_of c.args.around.now))) c.args.entries.now.entries c.loop-i.i (c.in-Some.key.now, c.in-Some.value.now) (slice_get_within c.args.entries.now.entries c.loop-i.i (c.in-Some.key.now, c.in-Some.value.now) (sym c.in-Some.ensures.entry)) (sym (get_or_from_slice_get c.args.entries.now.entries c.loop-i.i (c.in-Some.key.now, c.in-Some.value.now) (c.in-Some.key.now, c.in-Some.value.now) (sym c.in-Some.ensures.entry))) c.loop-i.draft c.push_comma.new.draft c.push_entry.new.draft c.in_ok-push_comma.ensures.gives c.in_ok-push_entry.ensures.gives;
  takes = (omega arith, omega arith, omega arith);
}

pub push_entries-returns-clause-gives : goal.push_entries-returns-clause-gives
push_entries-returns-clause-gives g t c = c.loop-i.invariant.told ∙ ends (entry_of key_of) (entry_repr (repr_nodes c.args.heap.now c.args.room (around_of c.args.around.now))) c.args.entries.now.entries c.loop-i.i c.loop-i.draft (omega arith)

pub push_attributes-returns-in_err-push_comma-clause-gives : goal.push_attributes-returns-in_err-push_comma-clause-gives
push_attributes-returns-in_err-push_comma-clause-gives g t c =
    let p = err_from_is_err_and c.from_residual.result c.from_residual.ensures.1 in
    rw (c.loop-i.invariant.told, p.1, p.2)
    (comma_stops (entry_of rc_str_bytes) (attribute_repr (repr_nodes c.args.heap.now c.args.room (around_of c.args.around.now))) c.args.attributes.now.entries c.loop-i.i (c.in-Some.name.now, c.in-Some.value.now) (slice_get_within c.args.attributes.now.entries c.loop-i.i (c.in-Some.name.now, c.in-Some.value.now) (sym c.in-Some.ensures.entry)) (sym (get_or_from_slice_get c.args.attributes.now.entries c.loop-i.i (c.in-Some.name.now, c.in-Some.value.now) (c.in-Some.name.now, c.in-Some.value.now) (sym c.in-Some.ensures.entry))) c.in_err-push_comma.field-0.0 c.loop-i.draft c.push_comma.new.draft c.in_err-push_comma.ensures.gives)

pub push_attributes-returns-in_err-push_attribute-clause-gives : goal.push_attributes-returns-in_err-push_attribute-clause-gives
push_attributes-returns-in_err-push_attribute-clause-gives g t c =
    let p = err_from_is_err_and c.from_residual-in_err-push_attribute.result c.from_residual-in_err-push_attribute.ensures.1 in
    rw (c.loop-i.invariant.told, p.1, p.2)
    (item_stops (entry_of rc_str_bytes) (attribute_repr (repr_nodes c.args.heap.now c.args.room (around_of c.args.around.now))) c.args.attributes.now.entries c.loop-i.i (c.in-Some.name.now, c.in-Some.value.now) (slice_get_within c.args.attributes.now.entries c.loop-i.i (c.in-Some.name.now, c.in-Some.value.now) (sym c.in-Some.ensures.entry)) (sym (get_or_from_slice_get c.args.attributes.now.entries c.loop-i.i (c.in-Some.name.now, c.in-Some.value.now) (c.in-Some.name.now, c.in-Some.value.now) (sym c.in-Some.ensures.entry))) c.in_err-push_attribute.field-0.0 c.loop-i.draft c.push_comma.new.draft c.push_attribute.new.draft c.in_ok-push_comma.ensures.gives
    (subst (λ n. Makes (Err c.in_err-push_attribute.field-0.0) c.push_attribute.new.draft (onto c.push_comma.new.draft (attribute_repr (repr_nodes c.args.heap.now c.args.room (around_of c.args.around.now)) (n, value_of c.in-Some.value.now)))) c.as_str.ensures.value c.in_err-push_attribute.ensures.gives))

pub push_attributes-loop-i-preserved : goal.push_attributes-loop-i-preserved
push_attributes-loop-i-preserved g t c = record {
  told = c.loop-i.invariant.told ∙ goes_on (entry_of rc_str_bytes) (attribute_repr (repr_nodes c.args.heap.now c.args.room (around_of c.args.around.now))) c.args.attributes.now.entries c.loop-i.i (c.in-Some.name.now, c.in-Some.value.now) (slice_get_within c.args.attributes.now.entries c.loop-i.i (c.in-Some.name.now, c.in-Some.value.now) (sym c.in-Some.ensures.entry)) (sym (get_or_from_slice_get c.args.attributes.now.entries c.loop-i.i (c.in-Some.name.now, c.in-Some.value.now) (c.in-Some.name.now, c.in-Some.value.now) (sym c.in-Some.ensures.entry))) c.loop-i.draft c.push_comma.new.draft c.push_attribute.new.draft c.in_ok-push_comma.ensures.gives (subst (λ n. onto c.push_comma.new.draft (attribute_repr (repr_nodes c.args.heap.now c.args.room (around_of c.args.around.now)) (n, value_of c.in-Some.value.now)) ≡ answer (text_of c.push_attribute.new.draft) c.push_attribute.new.draft.left) c.as_str.ensures.value c.in_ok-push_attribute.ensures.gives);
  takes = (omega arith, omega arith, omega arith);
}

pub push_attributes-returns-clause-gives : goal.push_attributes-returns-clause-gives
push_attributes-returns-clause-gives g t c = c.loop-i.invariant.told ∙ ends (entry_of rc_str_bytes) (attribute_repr (repr_nodes c.args.heap.now c.args.room (around_of c.args.around.now))) c.args.attributes.now.entries c.loop-i.i c.loop-i.draft (omega arith)
