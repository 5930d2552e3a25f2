use Rattle.std.proofs.Common.{◌≡◌, ◌-◌, ◌∙◌, ℕ, ap, arith}
use Rattle.kishu_gen.specs.Scripts.{requests_from}
use Rattle.kishu_gen.proofs.Making.{from-start}
use Rattle.kishu_gen.proofs.script.Script.new.Goals as goal

pub returns-clause-asks : goal.returns-clause-asks
returns-clause-asks c =
    let all : c.args.many - 0 ≡ c.args.many = omega arith in
    ap (λ (n : ℕ). requests_from n c.args.start 0 0) all ∙ from-start c.args.start 0 c.args.many
