-- What names tell of what they bind.
use Rattle.std.proofs.Common.{ℕ, List, [], ◌∷◌, map}
use Rattle.std.specs.List.{AllByRecursion, list_all}
use Rattle.std.specs.Prelude.{IsTrue, ◌&&◌}
use Rattle.kishu_language.specs.tokens.Names.{is_name}
use Rattle.kishu_meaning.specs.values.Sound.{is_valid}
use Rattle.kishu_meaning.specs.values.Values.{Value, Names}
use Rattle.kishu_store.specs.Groups.{IsName}
use Rattle.kishu_store_laws.specs.TableLaws.{and_true}

-- What is bound are names.
pub names_told : (ns : Names) → IsTrue (list_all (λ b. is_name b.0 && is_valid b.1) ns) → AllByRecursion IsName (map (λ (b : List ℕ × Value). b.0) ns)
names_told [] h = tt
names_told (b ∷ ns) h =
    let both = and_true (is_name b.0 && is_valid b.1) (list_all (λ (b : List ℕ × Value). is_name b.0 && is_valid b.1) ns) h in
    ((and_true (is_name b.0) (is_valid b.1) both.0).0, names_told ns both.1)
