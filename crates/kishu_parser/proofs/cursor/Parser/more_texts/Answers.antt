use Rattle.std.proofs.Common.{rules, arith, [], ◌∷◌}
use Rattle.std.proofs.lemmas.Grind.{common_steps}
use Rattle.std.specs.Rc.{rc_str_bytes}
use Rattle.kishu_language.specs.reading.Reader as reader
use Rattle.kishu_parser.specs.Views.{left}
use Rattle.kishu_parser.specs.Trees as views
use Rattle.kishu_parser.proofs.Counts.{one_more, stops}
use Rattle.std.proofs.Common.{sym, ◌∙◌}
use Rattle.kishu_parser.proofs.cursor.Parser.more_texts.Goals as goal

pub loop-turn-preserved : goal.loop-turn-preserved
loop-turn-preserved c =
    let e = one_more (λ n. reader.climb (reader.sees_some reader.a_text) (reader.one_more (reader.token reader.a_text)) n (views.texts_in c.loop-turn.all) (left c.args.self.now.tokens.now c.loop-turn.at)) _ c.loop-turn._turn c.loop-turn-test.true c.loop-turn.invariant in
    first_of (search rules, grind (arith, common_steps))

pub returns-then-not-sees_text : goal.returns-then-not-sees_text
returns-then-not-sees_text c = stops (reader.sees_some reader.a_text) (reader.one_more (reader.token reader.a_text)) c.left-turn-end.result c.loop-turn._turn (views.texts_in c.loop-turn.all) (left c.args.self.now.tokens.now c.loop-turn.at) c.loop-turn-test.true c.loop-turn.invariant (sym c.sees_text.ensures ∙ c.if-not-sees_text.true)
