use Rattle.kishu_picture.proofs.rows.put_function.Goals as goal

pub put_values-requires-clause-met : goal.put_values-requires-clause-met
put_values-requires-clause-met c = rw c.as_slice.ensures.value c.requires.met
