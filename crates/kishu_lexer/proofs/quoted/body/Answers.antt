use Rattle.std.proofs.Common.{refl, sym, ap, ◌∙◌, ◌+◌, ◌<◌, arith, false-eqb, length, length-drop, Some}
use Rattle.std.proofs.lemmas.Bool.{eqb-true}
use Rattle.std.specs.String.{string_bytes}
use Rattle.kishu_lexer.specs.Views.{read_of}
use Rattle.kishu_lexer.proofs.Bodies.{goes_on, closed, broken, never_closed}
use Rattle.kishu_lexer.proofs.quoted.body.Goals as goal

pub returns-then-closes-clause-value : goal.returns-then-closes-clause-value
returns-then-closes-clause-value c =
    let some : 0 < length c.loop-rest.rest.now = omega (arith, false-eqb _ 0 c.loop-rest-test.ensures) in
    sym (closed c.args.is_raw c.args.quote c.args.is_triple (string_bytes c.loop-rest.out) c.loop-rest.rest.now c.loop-rest.len _ some (sym c.closes.ensures.value ∙ c.if-closes.true) c.loop-rest.invariant.so_far ∙ ap (λ n. Some (string_bytes c.loop-rest.out, c.loop-rest.len + n)) (sym c.quotes.ensures.value))

pub returns-in_default-clause-value : goal.returns-in_default-clause-value
returns-in_default-clause-value c =
    let some : 0 < length c.loop-rest.rest.now = omega (arith, false-eqb _ 0 c.loop-rest-test.ensures) in
    sym (broken c.args.is_raw c.args.quote c.args.is_triple (string_bytes c.loop-rest.out) c.loop-rest.rest.now c.loop-rest.len _ some (sym c.closes.ensures.value ∙ c.if-closes.false) (sym c.item.ensures.value ∙ rw c.in_default.is refl) c.loop-rest.invariant.so_far)

pub loop-rest-preserved : goal.loop-rest-preserved
loop-rest-preserved c =
    let some : 0 < length c.loop-rest.rest.now = omega (arith, false-eqb _ 0 c.loop-rest-test.ensures) in
    record {
      so_far = rw c.in_ok-push_meant.ensures (goes_on c.args.is_raw c.args.quote c.args.is_triple (string_bytes c.loop-rest.out) c.loop-rest.rest.now _ c.loop-rest.len (read_of (c.in-Some.characters, c.in-Some.n)) _ some (sym c.closes.ensures.value ∙ c.if-closes.false) (sym c.item.ensures.value ∙ rw c.in-Some.is refl) c.in-Some.ensures.some c.split_at.ensures.back c.loop-rest.invariant.so_far);
      lens = omega (arith, c.in-Some.ensures.within, c.loop-rest.invariant.lens, ap length c.split_at.ensures.back, length-drop c.in-Some.n c.loop-rest.rest.now);
    }

pub returns-clause-value : goal.returns-clause-value
returns-clause-value c = sym (never_closed c.args.is_raw c.args.quote c.args.is_triple (string_bytes c.loop-rest.out) c.loop-rest.rest.now c.loop-rest.len _ (eqb-true _ _ (sym c.loop-rest-test.ensures)) c.loop-rest.invariant.so_far)
