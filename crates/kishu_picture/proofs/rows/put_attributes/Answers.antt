use Rattle.std.proofs.Common.{◌+◌, ◌++◌, ◌≤◌, ℕ, List, length, drop, ap, sym, ◌∙◌, subst, arith, length-append}
use Rattle.std.specs.Rc.{rc_str_bytes}
use Rattle.kishu_meaning.specs.values.Values.{Value, value_of}
use Rattle.kishu_objects.specs.Bytes.{short, value_bytes, name_bytes}
use Rattle.kishu_objects.specs.Fits.{ValueFits}
use Rattle.kishu_objects.specs.Picture.{place, renumbered}
use Rattle.kishu_picture.specs.Rows.{attributes_at, object_bytes}
use Rattle.kishu_picture.proofs.Found.{entry_met, short_here, attributes_count}
use Rattle.kishu_picture.proofs.Places.{put_in}
use Rattle.kishu_picture.proofs.Putting.{few, one_short, putting_goes_on, all_fit}
use Rattle.kishu_picture.proofs.Sizes.{name_some}
use Rattle.kishu_picture.proofs.Steps.{rest_at, no_rest}
use Rattle.kishu_picture.proofs.rows.put_attributes.Goals as goal

abbrev Fit : List ℕ × Value → Type 0
Fit a = ValueFits a.1

pub overflow_cast-len : goal.overflow_cast-len
overflow_cast-len c =
    let found = c.args.found.now.keys in
    let es = c.args.attributes.now.entries in
    omega (arith, few name_bytes name_some (attributes_at found es) c.requires.short, attributes_count found es, c.len.ensures.len)

pub put_name-requires : goal.put_name-requires
put_name-requires c =
    let es = c.args.attributes.now.entries in
    let i = c.loop-i.i in
    let name = c.in-Some.name.now in
    let value = c.in-Some.value.now in
    let l = short_here (λ e. (rc_str_bytes e.0, value_of e.1)) es i (name, value) (drop (i + 1) es) c.requires.names
    (rest_at es i (name, value) (sym c.in-Some.ensures.entry)) in
    subst (λ cs. length cs ≤ 255) (sym c.as_str.ensures.value) l

pub put_value-requires-clause-met : goal.put_value-requires-clause-met
put_value-requires-clause-met c =
    let es = c.args.attributes.now.entries in
    let i = c.loop-i.i in
    let name = c.in-Some.name.now in
    let value = c.in-Some.value.now in
    entry_met c.args.found.now.keys (λ e. (rc_str_bytes e.0, value_of e.1)) es i (name, value) (drop (i + 1) es) c.requires.met
    (rest_at es i (name, value) (sym c.in-Some.ensures.entry))

pub put_value-requires-clause-short : goal.put_value-requires-clause-short
put_value-requires-clause-short c =
    let found = c.args.found.now.keys in
    let es = c.args.attributes.now.entries in
    let i = c.loop-i.i in
    let name = c.in-Some.name.now in
    let value = c.in-Some.value.now in
    let placed = renumbered (place found) (value_of value) in
    let all_short = one_short name_bytes Fit (attributes_at found es) (c.args.out.now.items ++ object_bytes found es) c.loop-i.out.items
    (attributes_at found (drop i es)) (attributes_at found (drop (i + 1) es)) (rc_str_bytes name, placed)
    c.loop-i.invariant (ap (attributes_at found) (rest_at es i (name, value) (sym c.in-Some.ensures.entry))) in
    omega (arith, all_short, length-append (short (rc_str_bytes name)) (value_bytes placed))

pub loop-i-preserved : goal.loop-i-preserved
loop-i-preserved c =
    let found = c.args.found.now.keys in
    let es = c.args.attributes.now.entries in
    let i = c.loop-i.i in
    let name = c.in-Some.name.now in
    let value = c.in-Some.value.now in
    let placed = renumbered (place found) (value_of value) in
    let titled = c.in_ok-put_name.ensures ∙ ap (λ cs. c.loop-i.out.items ++ short cs) c.as_str.ensures.value in
    putting_goes_on name_bytes Fit (attributes_at found es) (c.args.out.now.items ++ object_bytes found es) c.loop-i.out.items
    c.put_value.new.out.items (attributes_at found (drop i es)) (attributes_at found (drop (i + 1) es)) (rc_str_bytes name, placed)
    c.loop-i.invariant (ap (attributes_at found) (rest_at es i (name, value) (sym c.in-Some.ensures.entry)))
    (put_in c.loop-i.out.items c.put_name.new.out.items (value_bytes placed) c.put_value.new.out.items (short (rc_str_bytes name)) titled
    c.in_ok-put_value.ensures.bytes) c.in_ok-put_value.ensures.fits

pub returns-clause-fits : goal.returns-clause-fits
returns-clause-fits c =
    let found = c.args.found.now.keys in
    let es = c.args.attributes.now.entries in
    let i = c.loop-i.i in
    all_fit name_bytes Fit (attributes_at found es) (c.args.out.now.items ++ object_bytes found es) c.loop-i.out.items
    (attributes_at found (drop i es)) c.loop-i.invariant
    (ap (attributes_at found) (no_rest es i (omega (arith, c.loop-i-test.false, c.len-i-end.ensures.len))))
    (few name_bytes name_some (attributes_at found es) c.requires.short)
