use Rattle.std.proofs.Common.{◌≡◌, ◌+◌, suc, Some, None, IsTrue, drop, ap, sym, ◌∙◌, subst, arith}
use Rattle.std.proofs.lemmas.List.{drop_all}
use Rattle.std.specs.Rc.{rc_str_bytes}
use Rattle.kishu_language.specs.tokens.Names.{is_name}
use Rattle.kishu_meaning.specs.values.Sound.{is_valid}
use Rattle.kishu_meaning.specs.values.Values.{value_of, find, bind}
use Rattle.kishu_objects.specs.Loading.{bind_all}
use Rattle.kishu_checkout.proofs.Binds.{at_place, found_there, kept_found, titles_long}
use Rattle.kishu_checkout.proofs.Within.{found_bound}
use Rattle.kishu_checkout.proofs.group.bind_as.Goals as goal

pub unreachable-requires : goal.unreachable-requires
unreachable-requires c =
    let own = c.args.own.now.bound in
    let i = c.loop-name.name-index in
    let name = c.name-item.result in
    let here = at_place own c.args.group.now i c.requires.just c.loop-name-test.true name c.name-item.is in
    let found = found_there own _ i (rc_str_bytes name) here.0 c.requires.order here.1 in
    let e : None ≡ Some here.0 = c.in_default.ensures.value ∙ ap (λ x. find x own) c.as_str.ensures.value ∙ found in
    absurd (cc)

pub restore-requires-clause-name : goal.restore-requires-clause-name
restore-requires-clause-name c =
    let own = c.args.own.now.bound in
    let is = ap (λ x. find x own) (sym c.as_str.ensures.value) ∙ sym c.in-Some.ensures.value in
    subst (λ x. IsTrue (is_name x)) (sym c.as_str-in-loop-name.ensures.value)
    (kept_found own (rc_str_bytes c.name-item.result) (value_of c.in-Some.value.now) c.in-Some.ensures.kept.0 is).0

pub restore-requires-clause-value : goal.restore-requires-clause-value
restore-requires-clause-value c =
    let own = c.args.own.now.bound in
    let is = ap (λ x. find x own) (sym c.as_str.ensures.value) ∙ sym c.in-Some.ensures.value in
    subst (λ v. IsTrue (is_valid v)) (sym c.in_ok-copied.ensures)
    (kept_found own (rc_str_bytes c.name-item.result) (value_of c.in-Some.value.now) c.in-Some.ensures.kept.0 is).1

pub loop-name-preserved : goal.loop-name-preserved
loop-name-preserved c =
    let own = c.args.own.now.bound in
    let i = c.loop-name.name-index in
    let name = c.name-item.result in
    let before = c.loop-name.names.bound in
    let here = at_place own c.args.group.now i c.requires.just c.loop-name-test.true name c.name-item.is in
    let found = found_there own _ i (rc_str_bytes name) here.0 c.requires.order here.1 in
    let is : Some (value_of c.in-Some.value.now) ≡ Some here.0 = c.in-Some.ensures.value ∙ ap (λ x. find x own) c.as_str.ensures.value ∙ found in
    let value : value_of c.in-Some.value.now ≡ here.0 = cc in
    let bound = c.in_ok-restore.ensures.bound ∙ ap (λ x. bind x (value_of c.in_ok-copied.field-0) before) c.as_str-in-loop-name.ensures.value
    ∙ ap (λ v. bind (rc_str_bytes name) v before) (c.in_ok-copied.ensures ∙ value) in
    let after = c.restore.new.self.bound in
    let next : suc i ≡ i + 1 = omega arith in
    record {
      left = c.loop-name.invariant.left ∙ ap (λ ns. bind_all ns before) here.1 ∙ ap (bind_all (drop (suc i) own)) (sym bound)
          ∙ ap (λ k. bind_all (drop k own) after) next;
      accessed = c.in_ok-restore.ensures.accessed ∙ c.loop-name.invariant.accessed;
      sound = λ n h k. found_bound n (rc_str_bytes name) here.0 own before after found bound h (c.loop-name.invariant.sound n h k);
    }

pub returns-clause-bound : goal.returns-clause-bound
returns-clause-bound c =
    let own = c.args.own.now.bound in
    let i = c.loop-name.name-index in
    let none = drop_all i own (omega (arith, c.loop-name-test.false, titles_long own c.args.group.now c.requires.just)) in
    sym (c.loop-name.invariant.left ∙ ap (λ ns. bind_all ns c.loop-name.names.bound) none)
