use Rattle.std.proofs.Common.{◌+◌, length, drop, refl, ap, sym, ◌∙◌, length-append}
use Rattle.std.specs.Rc.{rc_str_bytes}
use Rattle.kishu_heap.specs.Cells.{attributes_of}
use Rattle.kishu_meaning.specs.values.Values.{value_of}
use Rattle.kishu_objects.specs.Bytes.{short, value_bytes, name_bytes}
use Rattle.kishu_picture.specs.Lengths.{capped}
use Rattle.kishu_picture.proofs.Steps.{rest_at}
use Rattle.kishu_picture.proofs.Summing.{summing_begins, pair_goes_on}
use Rattle.kishu_picture.proofs.lengths.attributes_len.Goals as goal

pub loop-i-init : goal.loop-i-init
loop-i-init c = summing_begins name_bytes (attributes_of c.args.attributes.now.entries) 4 refl

pub loop-i-preserved : goal.loop-i-preserved
loop-i-preserved c =
    let es = c.args.attributes.now.entries in
    let i = c.loop-i.i in
    let name = c.in-Some.name.now in
    let value = c.in-Some.value.now in
    let len = c.name_len.ensures ∙ ap (λ cs. capped (length (short cs))) c.as_str.ensures.value in
    pair_goes_on name_bytes (attributes_of es) (attributes_of (drop i es)) (attributes_of (drop (i + 1) es)) (rc_str_bytes name, value_of value)
    c.loop-i.len c.saturating_add.result c.saturating_add-len.result
    (length (short (rc_str_bytes name))) (length (value_bytes (value_of value))) c.loop-i.invariant
    (ap attributes_of (rest_at es i (name, value) (sym c.in-Some.ensures.entry)))
    (length-append (short (rc_str_bytes name)) (value_bytes (value_of value)))
    (c.saturating_add.ensures ∙ ap (λ n. capped (c.loop-i.len + n)) len)
    (c.saturating_add-len.ensures ∙ ap (λ n. capped (c.saturating_add.result + n)) c.value_len.ensures)
