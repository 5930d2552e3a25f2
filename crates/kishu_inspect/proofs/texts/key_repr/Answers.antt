use Rattle.std.proofs.Common.{◌∙◌}
use Rattle.std.proofs.lemmas.Result.{IfOk-weaker}
use Rattle.kishu_inspect.proofs.Spelling.{spelled}
use Rattle.kishu_inspect.proofs.texts.key_repr.Goals as goal

pub returns : goal.returns
returns c = IfOk-weaker c.from_str.result _ _
    (λ t is. is ∙ spelled _ _ _ c.as_str.utf8 c.as_str.ensures.value c.in_ok-text.ensures) c.from_str.ensures.ok
