use Rattle.std.proofs.Common.{IsTrue, sym, ap, subst, ◌∙◌}
use Rattle.kishu_meaning.specs.moments.Accesses.{with_access, unbind}
use Rattle.kishu_meaning.specs.values.Sound.{are_sound_names}
use Rattle.kishu_checkout.proofs.Unbound.{name_unbound, name_accessed}
use Rattle.kishu_checkout.proofs.Within.{unbind_sound}
use Rattle.kishu_checkout.proofs.unbinding.unbind_names.Goals as goal

pub loop-name-preserved : goal.loop-name-preserved
loop-name-preserved c =
    let group = c.args.group.now in
    let i = c.loop-name.name-index in
    let name = c.name-item.result in
    let inside = c.loop-name-test.true in
    let is = c.name-item.is in
    let here = c.loop-name.names in
    let next = c.unbind.new.self in
    let gone = c.in_ok-unbind.ensures in
    let text = c.as_str.ensures.value in
    record {
      bound = c.loop-name.invariant.bound
          ∙ name_unbound group i name inside is here.bound next.bound (gone.bound ∙ ap (λ x. unbind x here.bound) text);
      accessed = c.loop-name.invariant.accessed
          ∙ name_accessed group i name inside is here.accessed next.accessed (gone.accessed ∙ ap (λ x. with_access x here.accessed) text);
      sound = λ n h. subst (λ ns. IsTrue (are_sound_names n ns)) (sym gone.bound)
          (unbind_sound n c.as_str.result.now here.bound (c.loop-name.invariant.sound n h));
    }
