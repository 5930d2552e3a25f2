use Rattle.std.proofs.Common.{sym, arith}
use Rattle.std.proofs.lemmas.Bool.{eqb-true}
use Rattle.std.proofs.lemmas.Result.{err_from_is_err_and}
use Rattle.kishu_lexer.proofs.Sums.{width_small}
use Rattle.kishu_lexer.proofs.Turns.{ends_well, ends_badly}
use Rattle.kishu_lexer.proofs.cutting.layout.Goals as goal

pub turn-requires-clause-place_room : goal.turn-requires-clause-place_room
turn-requires-clause-place_room c = omega (arith, width_small c.args.text.now, c.loop-rest.invariant.places, c.requires)

pub returns-in_err-after : goal.returns-in_err-after
returns-in_err-after c =
    let p = err_from_is_err_and c.from_residual.result c.from_residual.ensures.1 in
    rw (p.1, p.2) (ends_badly c.loop-rest.line c.loop-rest.start c.args.text.now c.loop-rest.rest.now _ c.in_err-after.field-0.0 c.loop-rest.invariant.same c.in_err-after.ensures.fails)

pub returns : goal.returns
returns c = ends_well c.loop-rest.line c.loop-rest.start c.args.text.now c.loop-rest.rest.now _ _ _ (eqb-true _ _ (sym c.loop-rest-test.ensures)) c.loop-rest.invariant.lines c.loop-rest.invariant.places c.loop-rest.invariant.same c.finish.ensures
