-- `isinstance` of a list of classes.
use Rattle.std.proofs.Common.{◌≡◌, ◌∙◌, ap, sym, refl, Bool, true, false, List, [], ◌∷◌, map}
use Rattle.std.specs.Prelude.{codes, is_some, ◌||◌}
use Rattle.std.specs.List.{list_all, list_any}
use Rattle.std.proofs.lemmas.List.Folds.{list_all-map}
use Rattle.kishu_meaning.specs.declared.value.Value as rust
use Rattle.kishu_meaning.specs.calls.Builtins.{class_in, is_of_class, is_of_one}
use Rattle.kishu_meaning.specs.values.Kinds.{bad_arguments}
use Rattle.kishu_meaning.specs.moments.Moment.{Moment, fine, node_at}
use Rattle.kishu_meaning.specs.values.Values.{Value, value_of, bool}

any_mapped : (p : Value → Bool) (cs : List rust.Value) → list_any p (map value_of cs) ≡ list_any (λ c. p (value_of c)) cs
any_mapped p [] = refl
any_mapped p (c ∷ cs) = ap (λ b. p (value_of c) || b) (any_mapped p cs)

pub all_classes : (v : Value) (cs : List rust.Value) (s : Moment) (r : Bool)
    → list_all (λ c. is_some (class_in (value_of c))) cs ≡ true → r ≡ list_any (λ c. is_of_class v (node_at s.nodes v) (value_of c)) cs
    → is_of_one v (map value_of cs) s ≡ fine (bool r) s
all_classes v cs s r a e =
    let all = list_all-map (λ c. is_some (class_in c)) value_of cs ∙ a in
    rw all (ap (λ b. fine (bool b) s) (any_mapped (is_of_class v (node_at s.nodes v)) cs ∙ sym e))

pub not_classes : (v : Value) (cs : List rust.Value) → list_all (λ c. is_some (class_in (value_of c))) cs ≡ false → is_of_one v (map value_of cs) ≡ bad_arguments (codes "isinstance")
not_classes v cs a =
    let all = list_all-map (λ c. is_some (class_in c)) value_of cs ∙ a in
    rw all refl
