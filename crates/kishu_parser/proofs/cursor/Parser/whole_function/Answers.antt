use Rattle.std.proofs.Common.{◌∙◌, arith}
use Rattle.std.proofs.lemmas.Result.{err_from_is_err_and}
use Rattle.kishu_language.specs.trees.Tree.{definition_of}
use Rattle.kishu_parser.specs.Views.{left, tokens_of}
use Rattle.kishu_parser.proofs.Cuts.{all_left}
use Rattle.kishu_parser.proofs.Whole.{differs, equal}
use Rattle.kishu_parser.proofs.FunctionRead.{no_definition, not_all, other_code, all_of_it}
use Rattle.kishu_parser.proofs.cursor.Parser.whole_function.Goals as goal

pub returns-in_err-definition : goal.returns-in_err-definition
returns-in_err-definition c =
    let p = err_from_is_err_and c.from_residual.result c.from_residual.ensures.1 in
    rw (p.1, p.2) (no_definition c.args.self.now.source.now c.args.text.now (tokens_of c.args.self.now.tokens.now) (left c.args.self.now.tokens.now 0) _ (all_left c.args.self.now.tokens.now) c.in_err-definition.ensures)

pub returns-then-left-gt0 : goal.returns-then-left-gt0
returns-then-left-gt0 c =
    not_all c.args.self.now.source.now c.args.text.now (tokens_of c.args.self.now.tokens.now) (left c.args.self.now.tokens.now 0) (left c.args.self.now.tokens.now c.definition.new.at) (definition_of c.in_ok-definition.definition)
    c.left.result (all_left c.args.self.now.tokens.now) c.in_ok-definition.ensures c.left.ensures c.if-left-gt0.true

pub returns-then-ne : goal.returns-then-ne
returns-then-ne c =
    other_code c.args.self.now.source.now c.args.text.now (tokens_of c.args.self.now.tokens.now) (left c.args.self.now.tokens.now 0) (left c.args.self.now.tokens.now c.definition.new.at) (definition_of c.in_ok-definition.definition)
    (all_left c.args.self.now.tokens.now) c.in_ok-definition.ensures
    (differs c.as_str.result.now _ c.args.text.now c.ne.result (c.as_str.ensures.value ∙ c.in_ok-code.ensures) c.ne.ensures c.if-ne.true)

pub returns : goal.returns
returns c =
    all_of_it c.args.self.now.source.now c.args.text.now (tokens_of c.args.self.now.tokens.now) (left c.args.self.now.tokens.now 0) (left c.args.self.now.tokens.now c.definition.new.at) (definition_of c.in_ok-definition.definition)
    c.left.result (all_left c.args.self.now.tokens.now) c.in_ok-definition.ensures c.left.ensures (omega (arith, c.if-left-gt0.false))
    (equal c.as_str.result.now _ c.args.text.now c.ne.result (c.as_str.ensures.value ∙ c.in_ok-code.ensures) c.ne.ensures c.if-ne.false)
