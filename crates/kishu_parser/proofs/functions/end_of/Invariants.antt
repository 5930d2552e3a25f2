use Rattle.std.proofs.Common.{◌≡◌, drop}
use Rattle.kishu_language.specs.trees.Code.{end_after}
use Rattle.kishu_parser.specs.Views.{tokens_of}
use Rattle.kishu_parser.proofs.functions.end_of.Given as goal

abbrev pub invariant-loop-token : goal.invariant-loop-token
invariant-loop-token l = end_after l.end (tokens_of (drop l.token-index l.tokens)) ≡ end_after 0 (tokens_of l.tokens)
