use Rattle.std.proofs.Common.{◌+◌, ◌*◌, ◌-◌, get_or, drop, arith}
use Rattle.kishu_graph.proofs.Digits.{number-grows, number-step}
use Rattle.kishu_graph.proofs.references.number_of.Goals as goal

pub returns-in_err-checked_mul-clause-none : goal.returns-in_err-checked_mul-clause-none
returns-in_err-checked_mul-clause-none c none =
    let n = c.loop-digit.number in
    let i = c.loop-digit.digit-index in
    let ds = c.args.digits.now in
    omega (
      arith,
      c.in_err-checked_mul.ensures,
      c.loop-digit.invariant,
      number-step n ds i 0 (omega arith),
      number-grows (10 * n + (get_or ds i 0 - 48)) (drop (i + 1) ds),
    )

pub returns-in_err-number-clause-none : goal.returns-in_err-number-clause-none
returns-in_err-number-clause-none c none =
    let n = c.loop-digit.number in
    let i = c.loop-digit.digit-index in
    let ds = c.args.digits.now in
    omega (
      arith,
      c.in_ok-checked_mul.ensures,
      c.in_err-number.ensures,
      c.loop-digit.invariant,
      number-step n ds i 0 (omega arith),
      number-grows (10 * n + (get_or ds i 0 - 48)) (drop (i + 1) ds),
    )
