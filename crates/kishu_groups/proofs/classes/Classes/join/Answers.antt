use Rattle.std.proofs.Common.{ap, sym, ◌∙◌, subst, refl, arith}
use Rattle.std.proofs.lemmas.List.{with_items_is}
use Rattle.kishu_groups.specs.Classes.{Falls, roots}
use Rattle.kishu_groups.proofs.Roots.{is_first, seen_short, seen_joined}
use Rattle.kishu_groups.proofs.classes.Classes.join.Goals as goal

pub first_above-first-requires-clause-there : goal.first_above-first-requires-clause-there
first_above-first-requires-clause-there c =
    seen_short c.self.inside.parents.items c.as_mut_slice-parents.result.now c.args.self.now c.args.a
    c.as_mut_slice-parents.ensures.value c.self.view_is c.requires.a

pub first_above-second-requires-clause-there : goal.first_above-second-requires-clause-there
first_above-second-requires-clause-there c =
    seen_short c.first_above-first.new.parents c.first_above-first.new.parents c.args.self.now c.args.b refl
    (c.first_above-first.ensures.stay ∙ ap roots c.as_mut_slice-parents.ensures.value ∙ c.self.view_is) c.requires.b

pub link-requires-clause-first : goal.link-requires-clause-first
link-requires-clause-first c =
    let ps = c.as_mut_slice-parents.result.now in
    is_first ps c.first_above-second.new.parents c.args.a c.first_above-first.result
    (subst Falls (sym c.as_mut_slice-parents.ensures.value) c.self.invariant)
    (seen_short c.self.inside.parents.items ps c.args.self.now c.args.a c.as_mut_slice-parents.ensures.value c.self.view_is c.requires.a)
    c.first_above-first.ensures.first (c.first_above-second.ensures.stay ∙ c.first_above-first.ensures.stay)

pub link-requires-clause-second : goal.link-requires-clause-second
link-requires-clause-second c =
    let ps = c.first_above-first.new.parents in
    is_first ps c.first_above-second.new.parents c.args.b c.first_above-second.result c.first_above-first.ensures.falls
    (seen_short ps ps c.args.self.now c.args.b refl
    (c.first_above-first.ensures.stay ∙ ap roots c.as_mut_slice-parents.ensures.value ∙ c.self.view_is) c.requires.b)
    c.first_above-second.ensures.first c.first_above-second.ensures.stay

pub returns : goal.returns
returns c =
    ap roots (with_items_is c.self.inside.parents c.link.new.parents (omega (arith, c.as_mut_slice-parents.ensures.len)))
    ∙ seen_joined c.as_mut_slice-parents.result.now c.first_above-first.new.parents c.first_above-second.new.parents c.link.new.parents
    c.args.self.now c.args.a c.args.b c.first_above-first.result c.first_above-second.result
    (record {
      before = ap roots c.as_mut_slice-parents.ensures.value ∙ c.self.view_is;
      once = c.first_above-first.ensures.stay;
      twice = c.first_above-second.ensures.stay;
    })
    c.requires.a c.requires.b c.first_above-first.ensures.first c.first_above-second.ensures.first c.link.ensures.joined
