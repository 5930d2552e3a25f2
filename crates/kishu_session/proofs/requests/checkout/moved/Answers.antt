use Rattle.std.proofs.Common.{◌≤◌, Option, length, arith, subst, ap}
use Rattle.std.specs.Prelude.{IfSome, option_map}
use Rattle.std.specs.Rc.{rc_str_bytes}
use Rattle.std.specs.declared.alloc.Global.{Global}
use Rattle.std.specs.declared.rc.RcStr.{RcStr}
use Rattle.kishu_store.specs.Limits.{longest_title}
use Rattle.kishu_session.proofs.RecordFacts.{number-record, branch-record}
use Rattle.kishu_session.proofs.TextFacts.{text-utf8}
use Rattle.kishu_session.proofs.requests.checkout.moved.Goals as goal

pub returns-in_ok-clone-in-Some-clause-rules : goal.returns-in_ok-clone-in-Some-clause-rules
returns-in_ok-clone-in-Some-clause-rules c =
    let short : length (rc_str_bytes c.in-Some.name) ≤ longest_title =
    subst (λ (o : Option (RcStr Global)). IfSome (option_map rc_str_bytes o) (λ title. length title ≤ longest_title)) c.in-Some.is c.requires in
    branch-record (rc_str_bytes c.in_ok-clone-in-Some.field-0)
    (record { short = omega (arith, short, ap length c.in_ok-clone-in-Some.ensures.cases); utf8 = text-utf8 c.in_ok-clone-in-Some.field-0 })

pub returns-in-None-clause-rules : goal.returns-in-None-clause-rules
returns-in-None-clause-rules c = number-record c.args.commit (omega arith)
