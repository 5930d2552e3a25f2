use Rattle.std.proofs.Common.{ap, ◌∙◌}
use Rattle.kishu_meaning.specs.moments.Accesses.{with_accesses}
use Rattle.kishu_names.specs.Record.{texts_of}
use Rattle.kishu_history.specs.Checkout.{unbind_all}
use Rattle.kishu_checkout.proofs.Unbound.{unbound_next, accessed_next}
use Rattle.kishu_checkout.proofs.unbinding.unbind_groups.Goals as goal

pub loop-group-preserved : goal.loop-group-preserved
loop-group-preserved c =
    let groups = c.args.groups.now in
    let i = c.loop-group.group-index in
    let group = c.group-item.result in
    let inside = c.loop-group-test.true in
    let is = c.group-item.is in
    let here = c.loop-group.names in
    let next = c.unbind_names.new.names in
    let gone = c.in_ok-unbind_names.ensures in
    record {
      bound = c.loop-group.invariant.bound ∙ unbound_next groups i group inside is here.bound next.bound
          (gone.bound ∙ ap (λ xs. unbind_all (texts_of xs) here.bound) c.deref.ensures.value);
      accessed = c.loop-group.invariant.accessed ∙ accessed_next groups i group inside is here.accessed next.accessed
          (gone.accessed ∙ ap (λ xs. with_accesses (texts_of xs) here.accessed) c.deref.ensures.value);
      sound = λ n h. gone.sound n (c.loop-group.invariant.sound n h);
    }
