use Rattle.std.proofs.Common.{sym, subst, map}
use Rattle.kishu_meaning.specs.values.Values.{value_of}
use Rattle.kishu_builtins.specs.Called.{moment_of, Gives}
use Rattle.kishu_builtins.proofs.Given.{from_eight, exception_made}
use Rattle.kishu_builtins.proofs.classes.exception_of.Goals as goal

pub new_exception-requires-clause-class : goal.new_exception-requires-clause-class
new_exception-requires-clause-class c = from_eight c.args.class.0 c.requires.first c.requires.class

pub returns-clause-gives : goal.returns-clause-gives
returns-clause-gives c = λ b.
    let made = exception_made c.args.class.0 (map value_of c.args.args.now) c.requires.first c.requires.class in
    subst (λ m. Gives value_of c.new_exception.result (moment_of c.new_exception.new.heap b) (m (moment_of c.args.heap.now b))) (sym made) (c.new_exception.ensures.gives b)
