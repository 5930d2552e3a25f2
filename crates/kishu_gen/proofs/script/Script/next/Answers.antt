use Rattle.std.proofs.Common.{◌<◌, arith}
use Rattle.kishu_gen.proofs.Making.{made-one}
use Rattle.kishu_gen.proofs.script.Script.next.Goals as goal

pub returns-clause-next : goal.returns-clause-next
returns-clause-next c =
    let s = c.args.self.now in
    let fewer : s.made < s.many = omega (arith, c.if-self.false) in
    made-one s.many s.made s.number s.cells _ _ _ fewer c.next_number-number.ensures c.in_ok-request.ensures c.cells_with.ensures.value
