use Rattle.std.specs.Rc.{rc_str_bytes}
use Rattle.kishu_names.proofs.Kept.{ok_text}
use Rattle.kishu_names.proofs.Records.{tied}
use Rattle.kishu_names.proofs.names.text_of.Goals as goal

pub returns-in-Some : goal.returns-in-Some
returns-in-Some c =
    let text = rc_str_bytes c.in-Some.text.now in
    ok_text _ c.clone.result c.args.name.now text (tied c.args.name.now text c.in-Some.ensures.same_key) c.clone.ensures.cases
