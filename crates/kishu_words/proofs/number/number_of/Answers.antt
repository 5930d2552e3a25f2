use Rattle.std.proofs.Common.{◌∙◌, sym}
use Rattle.kishu_words.proofs.Numerals.{digits-read, digits-unread}
use Rattle.kishu_words.proofs.number.number_of.Goals as goal

pub returns-clause-found : goal.returns-clause-found
returns-clause-found c = rw c.ok.ensures.value (digits-read c.args.digits.now c.parse.result c.requires c.parse.ensures.value.0)

pub returns-clause-none : goal.returns-clause-none
returns-clause-none c none = digits-unread c.args.digits.now c.parse.result c.requires c.parse.ensures.value.0 (sym c.ok.ensures.value ∙ none)
