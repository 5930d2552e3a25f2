use Rattle.std.proofs.Common.{◌∙◌, arith}
use Rattle.kishu_calls.specs.Calls.{named_of}
use Rattle.kishu_calls.proofs.Binding.{fit_after}
use Rattle.kishu_calls.proofs.functions.arguments_fit.Goals as goal

pub returns-then-plain-params : goal.returns-then-plain-params
returns-then-plain-params c =
    rw c.as_slice.ensures.value at c.keywords_fit.ensures
    ∙ fit_after c.args.params.now c.args.given.now.plain.items (named_of c.args.given.now.named.items) c.len-plain.result (c.len-plain.ensures ∙ c.args.given.now.plain.ok.0) (omega arith)
