use Rattle.std.proofs.Common.{◌+◌, length, drop, refl, ap, sym, ◌∙◌, length-append}
use Rattle.kishu_heap.specs.Cells.{entries_of}
use Rattle.kishu_meaning.specs.values.Keys.{key_of}
use Rattle.kishu_meaning.specs.values.Values.{value_of}
use Rattle.kishu_objects.specs.Bytes.{value_bytes, key_bytes, entry_bytes}
use Rattle.kishu_picture.specs.Lengths.{capped}
use Rattle.kishu_picture.proofs.Steps.{rest_at}
use Rattle.kishu_picture.proofs.Summing.{summing_begins, pair_goes_on}
use Rattle.kishu_picture.proofs.lengths.entries_len.Goals as goal

pub loop-i-init : goal.loop-i-init
loop-i-init c = summing_begins entry_bytes (entries_of c.args.entries.now.entries) 4 refl

pub loop-i-preserved : goal.loop-i-preserved
loop-i-preserved c =
    let es = c.args.entries.now.entries in
    let i = c.loop-i.i in
    let key = c.in-Some.key.now in
    let value = c.in-Some.value.now in
    pair_goes_on entry_bytes (entries_of es) (entries_of (drop i es)) (entries_of (drop (i + 1) es)) (key_of key, value_of value) c.loop-i.len
    c.saturating_add.result c.saturating_add-len.result
    (length (key_bytes (key_of key))) (length (value_bytes (value_of value))) c.loop-i.invariant
    (ap entries_of (rest_at es i (key, value) (sym c.in-Some.ensures.entry)))
    (length-append (key_bytes (key_of key)) (value_bytes (value_of value)))
    (c.saturating_add.ensures ∙ ap (λ n. capped (c.loop-i.len + n)) c.key_len.ensures)
    (c.saturating_add-len.ensures ∙ ap (λ n. capped (c.saturating_add.result + n)) c.value_len.ensures)
