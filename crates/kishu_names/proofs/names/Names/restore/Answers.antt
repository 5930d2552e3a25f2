use Rattle.std.proofs.Common.{sym, subst, IsTrue}
use Rattle.std.specs.Rc.{rc_str_bytes}
use Rattle.kishu_language.specs.tokens.Names.{is_name}
use Rattle.kishu_meaning.specs.values.Values.{value_of}
use Rattle.kishu_names.proofs.Kept.{kept_set}
use Rattle.kishu_names.proofs.names.Names.restore.Goals as goal

pub invariant_of-self : goal.invariant_of-self
invariant_of-self c =
    let name = subst (λ x. IsTrue (is_name x)) (sym c.in_ok-restored.ensures) c.requires.name in
    let bound = kept_set c.set.result (rc_str_bytes c.in_ok-restored.restored) (value_of c.args.value) c.self.inside.bound.entries c.set.new.bound.entries c.set.ensures.ok c.set.ensures.err name c.requires.value c.self.invariant.0 in
    (bound, c.self.invariant.1)
