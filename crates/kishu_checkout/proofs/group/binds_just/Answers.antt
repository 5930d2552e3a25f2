use Rattle.std.proofs.Common.{◌≡◌, subst}
use Rattle.std.specs.Bool.{Decides}
use Rattle.kishu_names.specs.Record.{texts_of}
use Rattle.kishu_checkout.proofs.Same.{texts_decide}
use Rattle.kishu_checkout.proofs.group.binds_just.Goals as goal

pub returns-clause-told : goal.returns-clause-told
returns-clause-told c =
    let group = c.args.group.now in
    let same = subst (λ xs. Decides c.eq.result (texts_of xs ≡ texts_of group)) c.as_slice.ensures.value
    (texts_decide c.as_slice.result.now group c.eq.result c.eq.ensures) in
    subst (λ xs. Decides c.eq.result (xs ≡ texts_of group)) c.in_ok-bound.ensures.names same
