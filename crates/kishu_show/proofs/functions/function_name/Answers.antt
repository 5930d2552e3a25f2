use Rattle.std.proofs.Common.{◌∙◌, ap}
use Rattle.std.specs.Rc.{rc_str_bytes}
use Rattle.kishu_show.proofs.Titles.{named}
use Rattle.kishu_show.proofs.functions.function_name.Goals as goal

pub returns : goal.returns
returns c =
    let f = c.args.function.now in
    named f.profile (rc_str_bytes f.code) f.def.value c.as_str.result.now f.read (c.as_str.ensures.value ∙ ap (λ d. rc_str_bytes d.name) c.deref.ensures)
