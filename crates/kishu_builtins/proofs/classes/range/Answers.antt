use Rattle.std.proofs.Common.{sym, subst, map}
use Rattle.kishu_meaning.specs.calls.Builtins.{range_from}
use Rattle.kishu_meaning.specs.comparing.Equal.{number_in}
use Rattle.kishu_meaning.specs.values.Values.{value_of}
use Rattle.kishu_builtins.specs.Called.{Gives}
use Rattle.kishu_builtins.proofs.Given.{three_are}
use Rattle.kishu_builtins.proofs.classes.range.Goals as goal

pub returns-then-args-eq3 : goal.returns-then-args-eq3
returns-then-args-eq3 c = λ s.
    let args = three_are c.args.args.now c.index-args-0-then-args-eq3.result c.index-args-1-then-args-eq3.result c.index-args-2.result c.if-args-eq3.true c.index-args-0-then-args-eq3.is c.index-args-1-then-args-eq3.is c.index-args-2.is in
    subst (λ vs. Gives value_of c.range_by.result s (range_from (map number_in vs) s)) (sym args) (c.range_by.ensures s)
