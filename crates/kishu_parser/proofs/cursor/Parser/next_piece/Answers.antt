use Rattle.std.proofs.Common.{◌∙◌, length, sym, ap, arith}
use Rattle.std.specs.Option.{option_map}
use Rattle.kishu_language.specs.tokens.Tokens.{kind_of}
use Rattle.kishu_parser.specs.Views.{left}
use Rattle.kishu_parser.proofs.Cuts.{ends, goes, same_piece, in_block, in_line, rest_length, one_block}
use Rattle.kishu_parser.proofs.cursor.Parser.next_piece.Goals.{else-ends-via-then-ends+then-open-eq0+else-starts_piece, else-ends-via-then-ends+else-open-eq0, else-ends-via-else-ends}
use Rattle.kishu_parser.proofs.cursor.Parser.next_piece.Goals as goal

pub after-open-requires : goal.after-open-requires
after-open-requires c = omega (arith, c.loop-turn.invariant.few, c.loop-turn-test.true, c.left-turn-end.type_inv)

pub returns-then-starts_piece : goal.returns-then-starts_piece
returns-then-starts_piece c = ends
    (record { so_far = c.loop-turn.invariant.same; some = omega (arith, c.loop-turn.invariant.count, c.loop-turn-test.true); after = c.after-open.ensures; next = c.kind.ensures; rest = c.skip.ensures })
    c.if-ends.true c.if-open-eq0.true (sym c.starts_piece.ensures ∙ c.if-starts_piece.true)

pub loop-turn-preserved : goal.loop-turn-preserved
loop-turn-preserved c = record {
  same = goes
      (record { so_far = c.loop-turn.invariant.same; some = omega (arith, c.loop-turn.invariant.count, c.loop-turn-test.true); after = c.after-open.ensures; next = c.kind.ensures; rest = c.skip.ensures })
      (elim c.else-ends.branch [
        | else-ends-via-then-ends+then-open-eq0+else-starts_piece w ↦ same_piece c.after-open.result (left c.args.self.now.tokens.now c.skip.new.at) (sym w.starts_piece.ensures ∙ w.if-starts_piece.false)
        | else-ends-via-then-ends+else-open-eq0 w ↦ in_block c.after-open.result (left c.args.self.now.tokens.now c.skip.new.at) w.if-open-eq0.false
        | else-ends-via-else-ends w ↦ in_line c.after-open.result (left c.args.self.now.tokens.now c.skip.new.at) w.if-ends.false
      ]);
  count = omega (arith, ap length c.skip.ensures, rest_length (left c.args.self.now.tokens.now c.loop-turn.next), c.loop-turn.invariant.count);
  few = omega (arith, ap (λ p. p.0) c.after-open.ensures, one_block (option_map (λ k. kind_of k.now) c.kind.result) c.loop-turn.blocks, c.loop-turn.invariant.few);
}
