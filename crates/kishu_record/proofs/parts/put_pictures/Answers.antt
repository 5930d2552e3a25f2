use Rattle.std.proofs.Common.{◌++◌, ◌∙◌, List, ℕ, flat_map, ap, sym}
use Rattle.std.proofs.lemmas.List.{take_all}
use Rattle.std.proofs.lemmas.List.Folds.{flat_map-map}
use Rattle.kishu_record.proofs.parts.put_pictures.Goals as goal

pub returns : goal.returns
returns c =
    let pictures = c.args.pictures.now in
    let old = c.args.out.now.items in
    c.loop-picture.invariant ∙ ap (λ l. old ++ flat_map (λ p. p.items) l) (take_all c.loop-picture.picture-index pictures c.loop-picture-test.false) ∙ ap (λ (l : List ℕ). old ++ l) (sym (flat_map-map (λ (p : List ℕ). p) (λ p. p.items) pictures))
