use Rattle.std.proofs.Common.{sym, ap, ◌∙◌}
use Rattle.kishu_language.specs.tokens.Layout.{name}
use Rattle.kishu_lexer.proofs.Words.{word_encodes, kind_is}
use Rattle.kishu_lexer.proofs.layout.word_kind.Goals as goal

pub returns-in-Some : goal.returns-in-Some
returns-in-Some c = kind_is c.args.letters.now c.as_bytes.result.now _ (c.as_bytes.ensures.value ∙ c.in_ok-word.ensures ∙ word_encodes c.args.letters.now c.requires) (sym c.in-Some.is ∙ c.reserved_mark.ensures)

pub returns : goal.returns
returns c =
    let w = word_encodes c.args.letters.now c.requires in
    ap name (c.in_ok-from_str-in-None.ensures.ok ∙ c.as_str.ensures.value ∙ c.in_ok-word.ensures ∙ w)
    ∙ kind_is c.args.letters.now c.as_bytes.result.now _ (c.as_bytes.ensures.value ∙ c.in_ok-word.ensures ∙ w) (sym c.in-None.is ∙ c.reserved_mark.ensures)
