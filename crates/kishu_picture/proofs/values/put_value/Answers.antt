use Rattle.std.proofs.Common.{◌≡◌, [], ◌∷◌, ◌++◌, ap, ◌∙◌, ℕ, rules, arith, to_z, of_z}
use Rattle.std.specs.Str.{IsUtf8}
use Rattle.std.specs.Int.{w128}
use Rattle.std.proofs.lemmas.Int.{to_z-of_z}
use Rattle.kishu_meaning.specs.values.Values.{value_of}
use Rattle.kishu_objects.specs.Bytes.{in_four}
use Rattle.kishu_picture.proofs.Places.{place_is, put_in, text_short, text_spells}
use Rattle.kishu_picture.proofs.values.put_value.Goals as goal

pub put_text-requires : goal.put_text-requires
put_text-requires c =
    let s = rw c.in-Text.is at c.requires.short in
    text_short c.as_str.result.now c.as_str.utf8 (rw c.as_str.ensures.value s)

pub place_of-place-requires-clause-met : goal.place_of-place-requires-clause-met
place_of-place-requires-clause-met c = c.requires.met c.in-Node.id.0 (ap value_of c.in-Node.is)

pub returns-in_ok-put_number-in-Node-clause-bytes : goal.returns-in_ok-put_number-in-Node-clause-bytes
returns-in_ok-put_number-in-Node-clause-bytes c =
    rw c.in-Node.is
    (put_in c.args.out.now.items c.push-in-Node.new.self.items (in_four c.place_of-place.result) c.put_number.new.out.items (8 ∷ [])
    c.in_ok-push-in-Node.ensures.items c.in_ok-put_number-in-Node.ensures
    ∙ ap (λ (n : ℕ). c.args.out.now.items ++ (8 ∷ in_four n)) c.place_of-place.ensures.place)

pub returns-in_ok-put_range-in-Range-clause-bytes : goal.returns-in_ok-put_range-in-Range-clause-bytes
returns-in_ok-put_range-in-Range-clause-bytes c =
    let a : to_z w128 (of_z w128 c.in-Range.start) ≡ c.in-Range.start = search (rules, to_z-of_z) in
    let b : to_z w128 (of_z w128 c.in-Range.stop) ≡ c.in-Range.stop = search (rules, to_z-of_z) in
    let d : to_z w128 (of_z w128 c.in-Range.step) ≡ c.in-Range.step = search (rules, to_z-of_z) in
    let e = put_in c.args.out.now.items c.push-in-Range.new.self.items _ c.put_range.new.out.items (5 ∷ []) c.in_ok-push-in-Range.ensures.items
    c.in_ok-put_range-in-Range.ensures in
    rw c.in-Range.is (rw (a, b, d) at e)

pub returns-in_ok-put_text-in-Text-clause-fits : goal.returns-in_ok-put_text-in-Text-clause-fits
returns-in_ok-put_text-in-Text-clause-fits c =
    let s = rw c.in-Text.is at c.requires.short in
    let u : IsUtf8 c.as_str.result.now = c.as_str.utf8 in
    let l = text_short c.as_str.result.now u (rw c.as_str.ensures.value s) in
    rw c.in-Text.is (rw c.as_str.ensures.value at (text_spells c.as_str.result.now u l))

pub returns-in_ok-put_number-in-Node-clause-fits : goal.returns-in_ok-put_number-in-Node-clause-fits
returns-in_ok-put_number-in-Node-clause-fits c =
    let p = place_is c.args.found.now.keys c.in-Node.id.0 (c.requires.met c.in-Node.id.0 (ap value_of c.in-Node.is)) in
    rw c.in-Node.is (omega (arith, p.1, c.requires.few))
