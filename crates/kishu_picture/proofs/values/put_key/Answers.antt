use Rattle.std.specs.Str.{IsUtf8}
use Rattle.kishu_picture.proofs.Places.{text_short, text_spells}
use Rattle.kishu_picture.proofs.values.put_key.Goals as goal

pub put_text-requires : goal.put_text-requires
put_text-requires c =
    let s = rw c.in-Text.is at c.requires in
    text_short c.as_str.result.now c.as_str.utf8 (rw c.as_str.ensures.value s)

pub returns-in_ok-put_text-in-Text-clause-fits : goal.returns-in_ok-put_text-in-Text-clause-fits
returns-in_ok-put_text-in-Text-clause-fits c =
    let s = rw c.in-Text.is at c.requires in
    let u : IsUtf8 c.as_str.result.now = c.as_str.utf8 in
    let l = text_short c.as_str.result.now u (rw c.as_str.ensures.value s) in
    rw c.in-Text.is (rw c.as_str.ensures.value at (text_spells c.as_str.result.now u l))
