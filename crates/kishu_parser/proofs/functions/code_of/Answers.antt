use Rattle.std.proofs.Common.{sym, ◌∙◌}
use Rattle.std.proofs.lemmas.Str.{IsCharBoundary-start}
use Rattle.kishu_parser.specs.Views.{tokens_of}
use Rattle.kishu_parser.proofs.Codes.{begins_placed, ends_placed, no_code, code_is}
use Rattle.kishu_parser.proofs.functions.code_of.Goals as goal

pub returns-then-end-begin : goal.returns-then-end-begin
returns-then-end-begin c = rw (sym (no_code c.args.source.now (tokens_of c.args.tokens.now) c.begin_of-begin.result c.end_of-end.result c.begin_of-begin.ensures c.end_of-end.ensures c.if-end-begin.true)) c.from_str.ensures.ok

pub range-requires-clause-start_boundary : goal.range-requires-clause-start_boundary
range-requires-clause-start_boundary c some = rw c.begin_of-begin.ensures (begins_placed c.args.source.now c.args.tokens.now (IsCharBoundary-start c.args.source.now c.utf8.source) c.requires)

pub range-requires-clause-end_boundary : goal.range-requires-clause-end_boundary
range-requires-clause-end_boundary c = rw c.end_of-end.ensures (ends_placed c.args.source.now 0 c.args.tokens.now (IsCharBoundary-start c.args.source.now c.utf8.source) c.requires)

pub returns : goal.returns
returns c = rw (sym (code_is c.args.source.now (tokens_of c.args.tokens.now) c.begin_of-begin.result c.end_of-end.result c.begin_of-begin.ensures c.end_of-end.ensures) ∙ sym c.range.ensures.value) c.from_str-2.ensures.ok
