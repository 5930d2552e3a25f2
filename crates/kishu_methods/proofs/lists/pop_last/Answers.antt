use Rattle.std.proofs.Common.{◌∙◌, ap, length, sym}
use Rattle.kishu_methods.proofs.Changes.{length_changed}
use Rattle.std.specs.Rc.{rc_str_bytes}
use Rattle.std.specs.Str.{chars}
use Rattle.kishu_methods.specs.Contents.{items_at}
use Rattle.kishu_methods.proofs.Pops.{pops_from_empty}
use Rattle.kishu_methods.proofs.lists.pop_last.Goals as goal

pub returns-in_ok-plain_text-in-None-clause-gives : goal.returns-in_ok-plain_text-in-None-clause-gives
returns-in_ok-plain_text-in-None-clause-gives c = λ b.
    rw c.raise.ensures
    (pops_from_empty c.args.heap.now c.pop.new.self c.args.id.0 (items_at c.args.heap.now c.args.id.0) (chars (rc_str_bytes c.in_ok-plain_text-in-None.field-0)) b c.requires.list (sym c.in-None.ensures.value) c.pop.ensures.nodes c.in_ok-plain_text-in-None.ensures)

pub returns-in_ok-plain_text-in-None-clause-long : goal.returns-in_ok-plain_text-in-None-clause-long
returns-in_ok-plain_text-in-None-clause-long c = ap length c.pop.ensures.nodes ∙ length_changed _ _ _

pub returns-in_err-plain_text-in-None-clause-long : goal.returns-in_err-plain_text-in-None-clause-long
returns-in_err-plain_text-in-None-clause-long c = ap length c.pop.ensures.nodes ∙ length_changed _ _ _

pub returns-in-Some-clause-long : goal.returns-in-Some-clause-long
returns-in-Some-clause-long c = ap length c.pop.ensures.nodes ∙ length_changed _ _ _
