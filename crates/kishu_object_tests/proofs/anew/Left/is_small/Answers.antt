use Rattle.std.proofs.Common.{◌≡◌, ◌∙◌, ℕ, List, [], ◌∷◌, length, ap, refl, inl, arith}
use Rattle.std.proofs.lemmas.Bool.{leb-true}
use Rattle.std.proofs.lemmas.List.Sums.{sum_by-cons}
use Rattle.kishu_names.specs.Record.{texts_of}
use Rattle.kishu_objects.specs.Bytes.{picture_bytes}
use Rattle.kishu_objects.specs.Picture.{listed}
use Rattle.kishu_objects_laws.specs.ListLaws.{in_contains}
use Rattle.kishu_objects_laws.specs.NameLaws.{found_listed}
use Rattle.kishu_loading.specs.Loaded.{held}
use Rattle.kishu_picture.specs.Lengths.{capped}
use Rattle.kishu_object_tests.proofs.anew.Left.is_small.Goals as goal

pub returns : goal.returns
returns g c under =
    let s = held c.args.self.now.heap c.args.self.now.names in
    let all = ap texts_of c.as_slice.ensures.value ∙ c.in_ok-all.ensures.names in
    let len : c.in_ok-len.len ≡ capped (length (picture_bytes s (listed s))) =
    c.in_ok-len.ensures.len ∙ ap (λ (of : List (List ℕ)). capped (length (picture_bytes s of))) all in
    let few = leb-true c.in_ok-len.len 268435456 under in
    let one = sum_by-cons (λ (of : List (List ℕ)). length (picture_bytes s of)) (listed s) [] in (
      listed s ∷ [],
      (λ x v found. (listed s, in_contains (listed s ∷ []) (listed s) (inl refl), in_contains (listed s) x (found_listed s.names x v found))),
      omega (arith, len, few, one),
    )
