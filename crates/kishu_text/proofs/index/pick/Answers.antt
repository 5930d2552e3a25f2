use Rattle.std.proofs.Common.{rules, ◌≡◌, ◌∙◌, ◌<◌, ◌-◌, ◌+◌, ap, sym, refl, arith, subst, ℕ, suc, pos, ◌+ℤ◌, List, [], ◌∷◌, ◌++◌, length, to_z, of_z}
use mir.Syntax.{w128}
use Rattle.std.specs.Str.{chars}
use Rattle.std.specs.String.{string_bytes}
use Rattle.std.proofs.lemmas.Int.{ints, to_z-of_z}
use Rattle.std.proofs.lemmas.List.{append_assoc}
use Rattle.std.proofs.lemmas.Str.{chars-nil}
use Rattle.kishu_meaning.specs.values.Texts.{places, LieWithin, picked}
use Rattle.kishu_text.specs.PlaceLaws.{first_within, second_within, rest_within, moved}
use Rattle.kishu_text.proofs.Places.{picked_more}
use Rattle.kishu_text.proofs.index.pick.Goals as goal
use Rattle.kishu_text.proofs.index.pick.Goals.{then-k-len, else-k-len}

pub loop-k-init : goal.loop-k-init
loop-k-init c =
    let step = to_z w128 (of_z w128 c.args.step) in
    let cs = c.args.characters.now in
    let same : step ≡ c.args.step = to_z-of_z w128 c.args.step (search rules) in
    let all : c.args.len - 0 ≡ c.args.len = omega arith in
    let lie : LieWithin (length cs) (places (pos c.args.first) step c.args.len) = moved (length cs) (length cs) (pos c.args.first) (pos c.args.first) step c.args.step c.args.len refl refl same c.requires in
    let front : chars (string_bytes c.new-picked.result) ≡ [] = ap chars c.new-picked.ensures.bytes ∙ chars-nil in (
      subst (λ (m : ℕ). LieWithin (length cs) (places (pos c.args.first) step m)) (sym all) lie,
      ap (λ (l : List ℕ). l ++ picked cs (places (pos c.args.first) step (c.args.len - 0))) front ∙ ap (λ (m : ℕ). picked cs (places (pos c.args.first) step m)) all,
    )

pub bounds-characters-place : goal.bounds-characters-place
bounds-characters-place c =
    let in_range = first_within (length c.args.characters.now) (pos c.loop-k.place) (to_z w128 (of_z w128 c.args.step)) (c.args.len - c.loop-k.k) (omega arith) c.loop-k.invariant.0 in
    omega (arith, ints, in_range.1)

pub next_place-place-requires-clause-on : goal.next_place-place-requires-clause-on
next_place-place-requires-clause-on c =
    (second_within (length c.args.characters.now) (pos c.loop-k.place) (to_z w128 (of_z w128 c.args.step)) (c.args.len - c.loop-k.k) (omega arith) c.loop-k.invariant.0).0

pub offset_bounds-characters-place : goal.offset_bounds-characters-place
offset_bounds-characters-place c =
    let in_range = first_within (length c.args.characters.now) (pos c.loop-k.place) (to_z w128 (of_z w128 c.args.step)) (c.args.len - c.loop-k.k) (omega arith) c.loop-k.invariant.0 in
    let below : c.loop-k.place < length c.args.characters.now = omega (arith, ints, in_range.1) in
    search rules

pub next_place-place-requires-clause-within : goal.next_place-place-requires-clause-within
next_place-place-requires-clause-within c =
    let in_range = second_within (length c.args.characters.now) (pos c.loop-k.place) (to_z w128 (of_z w128 c.args.step)) (c.args.len - c.loop-k.k) (omega arith) c.loop-k.invariant.0 in
    omega (arith, ints, in_range.1)

pub loop-k-preserved : goal.loop-k-preserved
loop-k-preserved c =
    let step = to_z w128 (of_z w128 c.args.step) in
    let cs = c.args.characters.now in
    let place = c.loop-k.place in
    let next = c.if-k-len.place in
    let m = c.args.len - c.loop-k.k in
    let n = c.args.len - (c.loop-k.k + 1) in
    let x = c.index-characters-place.result in
    let more : m ≡ suc n = omega arith in
    let in_range = first_within (length cs) (pos place) step m (omega arith) c.loop-k.invariant.0 in
    let below : place < length cs = omega (arith, ints, in_range.1) in
    let on : 0 < n → pos next ≡ pos place +ℤ step = λ some.
    elim c.if-k-len.branch [ then-k-len w ↦ ap pos w.place-is ∙ w.next_place-place.ensures | else-k-len w ↦ absurd (omega arith) ] in
    let grown : chars (string_bytes c.push_char.new.out) ≡ chars (string_bytes c.loop-k.picked) ++ x ∷ [] = c.in_ok-push_char.ensures in
    let rest = picked cs (places (pos next) step n) in (
      rest_within (length cs) (pos place) (pos next) step m n more on c.loop-k.invariant.0,
      ap (λ (l : List ℕ). l ++ rest) grown ∙ (append_assoc (chars (string_bytes c.loop-k.picked)) (x ∷ []) rest
          ∙ (ap (λ (l : List ℕ). chars (string_bytes c.loop-k.picked) ++ l) (sym (picked_more cs place (pos next) step m n x more below c.index-characters-place.is on)) ∙ c.loop-k.invariant.1)),
    )
