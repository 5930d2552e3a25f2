use Rattle.kishu_picture.proofs.rows.put_row.Goals as goal

pub put_values-requires-clause-met : goal.put_values-requires-clause-met
put_values-requires-clause-met c = rw c.as_slice.ensures.value (rw c.in-List.is at c.requires.met)

pub put_values-requires-in-Tuple-clause-met : goal.put_values-requires-in-Tuple-clause-met
put_values-requires-in-Tuple-clause-met c = rw c.as_slice-in-Tuple.ensures.value (rw c.in-Tuple.is at c.requires.met)

pub put_entries-requires-clause-met : goal.put_entries-requires-clause-met
put_entries-requires-clause-met c = rw c.in-Dict.is at c.requires.met

pub put_attributes-requires-clause-met : goal.put_attributes-requires-clause-met
put_attributes-requires-clause-met c = rw c.in-Object.is at c.requires.met

pub put_function-requires-clause-met : goal.put_function-requires-clause-met
put_function-requires-clause-met c = rw c.in-Function.is at c.requires.met

pub put_values-requires-in-Exception-clause-met : goal.put_values-requires-in-Exception-clause-met
put_values-requires-in-Exception-clause-met c = rw c.as_slice-in-Exception.ensures.value (rw c.in-Exception.is at c.requires.met)
