use Rattle.std.proofs.Common.{rules, ◌≡◌, ◌∙◌, ◌<◌, ◌-◌, ◌+◌, ap, sym, refl, arith, subst, ℕ, suc, pos, ◌+ℤ◌, List, [], ◌∷◌, ◌++◌, length, map, to_z, of_z}
use mir.Syntax.{w128}
use Rattle.std.proofs.lemmas.Int.{ints, to_z-of_z}
use Rattle.std.proofs.lemmas.List.{append_assoc, map-append}
use Rattle.kishu_meaning.specs.declared.value.Value as rust
use Rattle.kishu_meaning.specs.values.Texts.{places, LieWithin}
use Rattle.kishu_meaning.specs.values.Values.{Value, value_of}
use Rattle.kishu_text.specs.PlaceLaws.{first_within, second_within, rest_within, moved}
use Rattle.kishu_access.proofs.Placing.{seen_at, seen_more}
use Rattle.kishu_access.proofs.slices.pick.Goals as goal
use Rattle.kishu_access.proofs.slices.pick.Goals.{then-k-len, else-k-len}

pub loop-k-init : goal.loop-k-init
loop-k-init c =
    let step = to_z w128 (of_z w128 c.args.step) in
    let xs = c.args.items.now in
    let same : step ≡ c.args.step = to_z-of_z w128 c.args.step (search rules) in
    let all : c.args.len - 0 ≡ c.args.len = omega arith in
    let lie : LieWithin (length xs) (places (pos c.args.first) step c.args.len) = moved (length xs) (length xs) (pos c.args.first) (pos c.args.first) step c.args.step c.args.len refl refl same c.requires in (
      subst (λ (m : ℕ). LieWithin (length xs) (places (pos c.args.first) step m)) (sym all) lie,
      ap (λ (ys : List rust.Value). map value_of ys ++ seen_at xs (places (pos c.args.first) step (c.args.len - 0))) c.new-found.ensures.items ∙ ap (λ (m : ℕ). seen_at xs (places (pos c.args.first) step m)) all,
    )

pub bounds-items-place : goal.bounds-items-place
bounds-items-place c =
    let in_range = first_within (length c.args.items.now) (pos c.loop-k.place) (to_z w128 (of_z w128 c.args.step)) (c.args.len - c.loop-k.k) (omega arith) c.loop-k.invariant.0 in
    omega (arith, ints, in_range.1)

pub offset_bounds-items-place : goal.offset_bounds-items-place
offset_bounds-items-place c =
    let in_range = first_within (length c.args.items.now) (pos c.loop-k.place) (to_z w128 (of_z w128 c.args.step)) (c.args.len - c.loop-k.k) (omega arith) c.loop-k.invariant.0 in
    let below : c.loop-k.place < length c.args.items.now = omega (arith, ints, in_range.1) in
    search rules

pub next_place-place-requires-clause-on : goal.next_place-place-requires-clause-on
next_place-place-requires-clause-on c =
    (second_within (length c.args.items.now) (pos c.loop-k.place) (to_z w128 (of_z w128 c.args.step)) (c.args.len - c.loop-k.k) (omega arith) c.loop-k.invariant.0).0

pub next_place-place-requires-clause-within : goal.next_place-place-requires-clause-within
next_place-place-requires-clause-within c =
    let in_range = second_within (length c.args.items.now) (pos c.loop-k.place) (to_z w128 (of_z w128 c.args.step)) (c.args.len - c.loop-k.k) (omega arith) c.loop-k.invariant.0 in
    omega (arith, ints, in_range.1)

pub loop-k-preserved : goal.loop-k-preserved
loop-k-preserved c =
    let step = to_z w128 (of_z w128 c.args.step) in
    let xs = c.args.items.now in
    let place = c.loop-k.place in
    let next = c.if-k-len.place in
    let m = c.args.len - c.loop-k.k in
    let n = c.args.len - (c.loop-k.k + 1) in
    let x = c.index-items-place.result in
    let y = c.in_ok-copied.field-0 in
    let old = c.loop-k.found.items in
    let more : m ≡ suc n = omega arith in
    let in_range = first_within (length xs) (pos place) step m (omega arith) c.loop-k.invariant.0 in
    let below : place < length xs = omega (arith, ints, in_range.1) in
    let on : 0 < n → pos next ≡ pos place +ℤ step = λ some.
    elim c.if-k-len.branch [ then-k-len w ↦ ap pos w.place-is ∙ w.next_place-place.ensures | else-k-len w ↦ absurd (omega arith) ] in
    let same : value_of y ≡ value_of x = c.in_ok-copied.ensures in
    let grown : map value_of c.push.new.self.items ≡ map value_of old ++ value_of x ∷ [] =
    ap (map value_of) c.in_ok-push.ensures.items ∙ (map-append value_of old (y ∷ []) ∙ ap (λ (v : Value). map value_of old ++ v ∷ []) same) in
    let rest = seen_at xs (places (pos next) step n) in (
      rest_within (length xs) (pos place) (pos next) step m n more on c.loop-k.invariant.0,
      ap (λ (l : List Value). l ++ rest) grown ∙ (append_assoc (map value_of old) (value_of x ∷ []) rest
          ∙ (ap (λ (l : List Value). map value_of old ++ l) (sym (seen_more xs place (pos next) step m n x more below c.index-items-place.is on)) ∙ c.loop-k.invariant.1)),
    )
