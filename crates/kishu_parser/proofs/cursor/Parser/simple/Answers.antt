use Rattle.std.proofs.Common.{sym, ◌∙◌}
use Rattle.kishu_parser.specs.Views.{left}
use Rattle.kishu_parser.specs.Statements.{around_of}
use Rattle.kishu_parser.proofs.SimpleChoices.{to_assertion, to_delete, to_global, to_import, to_assignment}
use Rattle.kishu_parser.proofs.cursor.Parser.simple.Goals as goal

pub returns-then-sees-6 : goal.returns-then-sees-6
returns-then-sees-6 c = rw (to_assertion (around_of c.args.around) c.args.room (left c.args.self.now.tokens.now c.args.at.now) (sym c.sees.ensures ∙ c.if-sees.false) (sym c.sees-else-sees.ensures ∙ c.if-sees-2.false) (sym c.sees-else-sees-2.ensures ∙ c.if-sees-3.false) (sym c.sees-else-sees-3.ensures ∙ c.if-sees-4.false) (sym c.sees-else-sees-4.ensures ∙ c.if-sees-5.false) (sym c.sees-else-sees-5.ensures ∙ c.if-sees-6.true)) c.assertion.ensures

pub returns-then-sees-7 : goal.returns-then-sees-7
returns-then-sees-7 c = rw (to_delete (around_of c.args.around) c.args.room (left c.args.self.now.tokens.now c.args.at.now) (sym c.sees.ensures ∙ c.if-sees.false) (sym c.sees-else-sees.ensures ∙ c.if-sees-2.false) (sym c.sees-else-sees-2.ensures ∙ c.if-sees-3.false) (sym c.sees-else-sees-3.ensures ∙ c.if-sees-4.false) (sym c.sees-else-sees-4.ensures ∙ c.if-sees-5.false) (sym c.sees-else-sees-5.ensures ∙ c.if-sees-6.false) (sym c.sees-else-sees-6.ensures ∙ c.if-sees-7.true)) c.delete.ensures

pub returns-then-sees-8 : goal.returns-then-sees-8
returns-then-sees-8 c = rw (to_global (around_of c.args.around) c.args.room (left c.args.self.now.tokens.now c.args.at.now) (sym c.sees.ensures ∙ c.if-sees.false) (sym c.sees-else-sees.ensures ∙ c.if-sees-2.false) (sym c.sees-else-sees-2.ensures ∙ c.if-sees-3.false) (sym c.sees-else-sees-3.ensures ∙ c.if-sees-4.false) (sym c.sees-else-sees-4.ensures ∙ c.if-sees-5.false) (sym c.sees-else-sees-5.ensures ∙ c.if-sees-6.false) (sym c.sees-else-sees-6.ensures ∙ c.if-sees-7.false) (sym c.sees-else-sees-7.ensures ∙ c.if-sees-8.true)) c.global.ensures

pub returns-then-sees-9 : goal.returns-then-sees-9
returns-then-sees-9 c = rw (to_import (around_of c.args.around) c.args.room (left c.args.self.now.tokens.now c.args.at.now) (sym c.sees.ensures ∙ c.if-sees.false) (sym c.sees-else-sees.ensures ∙ c.if-sees-2.false) (sym c.sees-else-sees-2.ensures ∙ c.if-sees-3.false) (sym c.sees-else-sees-3.ensures ∙ c.if-sees-4.false) (sym c.sees-else-sees-4.ensures ∙ c.if-sees-5.false) (sym c.sees-else-sees-5.ensures ∙ c.if-sees-6.false) (sym c.sees-else-sees-6.ensures ∙ c.if-sees-7.false) (sym c.sees-else-sees-7.ensures ∙ c.if-sees-8.false) (sym c.sees-else-sees-8.ensures ∙ c.if-sees-9.true)) c.import.ensures

pub returns-else-sees-9 : goal.returns-else-sees-9
returns-else-sees-9 c = rw (to_assignment (around_of c.args.around) c.args.room (left c.args.self.now.tokens.now c.args.at.now) (sym c.sees.ensures ∙ c.if-sees.false) (sym c.sees-else-sees.ensures ∙ c.if-sees-2.false) (sym c.sees-else-sees-2.ensures ∙ c.if-sees-3.false) (sym c.sees-else-sees-3.ensures ∙ c.if-sees-4.false) (sym c.sees-else-sees-4.ensures ∙ c.if-sees-5.false) (sym c.sees-else-sees-5.ensures ∙ c.if-sees-6.false) (sym c.sees-else-sees-6.ensures ∙ c.if-sees-7.false) (sym c.sees-else-sees-7.ensures ∙ c.if-sees-8.false) (sym c.sees-else-sees-8.ensures ∙ c.if-sees-9.false)) c.update_or_assignment.ensures
