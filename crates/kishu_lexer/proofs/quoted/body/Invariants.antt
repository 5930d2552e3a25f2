use Rattle.std.proofs.Common.{◌≡◌, ◌+◌, length}
use Rattle.std.specs.String.{string_bytes}
use Rattle.kishu_language.specs.tokens.Quoted.{body}
use Rattle.kishu_lexer.proofs.Bodies.{Reads}
use Rattle.kishu_lexer.proofs.quoted.body.Given as goal

abbrev pub invariant-loop-rest : goal.invariant-loop-rest
invariant-loop-rest l = record {
  so_far : Reads l.is_raw l.quote l.is_triple (string_bytes l.out) l.len l.rest (body l.is_raw l.quote l.is_triple l.text);
  lens : l.len + length l.rest ≡ length l.text;
}

abbrev pub decreases-loop-rest : goal.decreases-loop-rest
decreases-loop-rest l = length l.rest
