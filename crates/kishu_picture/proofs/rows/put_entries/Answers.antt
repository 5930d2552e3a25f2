use Rattle.std.proofs.Common.{◌+◌, ◌++◌, drop, ap, sym, arith, length-append}
use Rattle.kishu_meaning.specs.values.Keys.{Key, key_of}
use Rattle.kishu_meaning.specs.values.Values.{Value, value_of}
use Rattle.kishu_objects.specs.Bytes.{key_bytes, value_bytes, entry_bytes}
use Rattle.kishu_objects.specs.Fits.{KeyFits, ValueFits}
use Rattle.kishu_objects.specs.Picture.{place, renumbered}
use Rattle.kishu_picture.specs.Rows.{entries_at, dict_bytes}
use Rattle.kishu_picture.proofs.Found.{entry_met, entries_count}
use Rattle.kishu_picture.proofs.Places.{put_in}
use Rattle.kishu_picture.proofs.Putting.{few, one_short, putting_goes_on, all_fit}
use Rattle.kishu_picture.proofs.Sizes.{entry_some}
use Rattle.kishu_picture.proofs.Steps.{rest_at, no_rest}
use Rattle.kishu_picture.proofs.rows.put_entries.Goals as goal

abbrev Fit : Key × Value → Type 0
Fit e = KeyFits e.0 × ValueFits e.1

pub overflow_cast-len : goal.overflow_cast-len
overflow_cast-len c =
    let found = c.args.found.now.keys in
    let es = c.args.entries.now.entries in
    omega (arith, few entry_bytes entry_some (entries_at found es) c.requires.short, entries_count found es, c.len.ensures.len)

pub put_key-requires : goal.put_key-requires
put_key-requires c =
    let found = c.args.found.now.keys in
    let es = c.args.entries.now.entries in
    let i = c.loop-i.i in
    let key = c.in-Some.key.now in
    let value = c.in-Some.value.now in
    let placed = renumbered (place found) (value_of value) in
    let short = one_short entry_bytes Fit (entries_at found es) (c.args.out.now.items ++ dict_bytes found es) c.loop-i.out.items
    (entries_at found (drop i es)) (entries_at found (drop (i + 1) es)) (key_of key, placed) c.loop-i.invariant
    (ap (entries_at found) (rest_at es i (key, value) (sym c.in-Some.ensures.entry))) in
    omega (arith, short, length-append (key_bytes (key_of key)) (value_bytes placed))

pub put_value-requires-clause-met : goal.put_value-requires-clause-met
put_value-requires-clause-met c =
    let es = c.args.entries.now.entries in
    let i = c.loop-i.i in
    let key = c.in-Some.key.now in
    let value = c.in-Some.value.now in
    entry_met c.args.found.now.keys (λ e. (key_of e.0, value_of e.1)) es i (key, value) (drop (i + 1) es) c.requires.met
    (rest_at es i (key, value) (sym c.in-Some.ensures.entry))

pub put_value-requires-clause-short : goal.put_value-requires-clause-short
put_value-requires-clause-short c =
    let found = c.args.found.now.keys in
    let es = c.args.entries.now.entries in
    let i = c.loop-i.i in
    let key = c.in-Some.key.now in
    let value = c.in-Some.value.now in
    let placed = renumbered (place found) (value_of value) in
    let short = one_short entry_bytes Fit (entries_at found es) (c.args.out.now.items ++ dict_bytes found es) c.loop-i.out.items
    (entries_at found (drop i es)) (entries_at found (drop (i + 1) es)) (key_of key, placed) c.loop-i.invariant
    (ap (entries_at found) (rest_at es i (key, value) (sym c.in-Some.ensures.entry))) in
    omega (arith, short, length-append (key_bytes (key_of key)) (value_bytes placed))

pub loop-i-preserved : goal.loop-i-preserved
loop-i-preserved c =
    let found = c.args.found.now.keys in
    let es = c.args.entries.now.entries in
    let i = c.loop-i.i in
    let key = c.in-Some.key.now in
    let value = c.in-Some.value.now in
    let placed = renumbered (place found) (value_of value) in
    putting_goes_on entry_bytes Fit (entries_at found es) (c.args.out.now.items ++ dict_bytes found es) c.loop-i.out.items c.put_value.new.out.items
    (entries_at found (drop i es)) (entries_at found (drop (i + 1) es)) (key_of key, placed) c.loop-i.invariant
    (ap (entries_at found) (rest_at es i (key, value) (sym c.in-Some.ensures.entry)))
    (put_in c.loop-i.out.items c.put_key.new.out.items (value_bytes placed) c.put_value.new.out.items (key_bytes (key_of key))
    c.in_ok-put_key.ensures.bytes c.in_ok-put_value.ensures.bytes)
    (c.in_ok-put_key.ensures.fits, c.in_ok-put_value.ensures.fits)

pub returns-clause-fits : goal.returns-clause-fits
returns-clause-fits c =
    let found = c.args.found.now.keys in
    let es = c.args.entries.now.entries in
    let i = c.loop-i.i in
    all_fit entry_bytes Fit (entries_at found es) (c.args.out.now.items ++ dict_bytes found es) c.loop-i.out.items (entries_at found (drop i es))
    c.loop-i.invariant
    (ap (entries_at found) (no_rest es i (omega (arith, c.loop-i-test.false, c.len-i-end.ensures.len))))
    (few entry_bytes entry_some (entries_at found es) c.requires.short)
