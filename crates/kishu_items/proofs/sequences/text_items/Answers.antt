use Rattle.std.proofs.Common.{◌∙◌, ap, arith}
use Rattle.std.proofs.lemmas.List.{take_all}
use Rattle.kishu_meaning.specs.items.Sequences.{text_items}
use Rattle.kishu_items.proofs.sequences.text_items.Goals as goal

pub returns : goal.returns
returns c =
    let characters = c.in_ok-characters.characters.items in
    c.loop-i.invariant ∙ ap text_items (take_all c.loop-i.i characters (omega (arith, c.loop-i-test.false, c.len-i-end.ensures)) ∙ c.in_ok-characters.ensures)
