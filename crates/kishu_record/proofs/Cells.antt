-- Cells that are read one behind another, and not kept.
use Rattle.std.proofs.Common.{◌≡◌, ◌+◌, ℕ, suc, List, [], ◌∷◌, ◌++◌, length, flat_map, refl, sym, ap, ◌∙◌, arith, length-append, append_assoc}
use Rattle.std.specs.List.{AllByRecursion}
use Rattle.std.proofs.lemmas.List.{flat_map_more}
use Rattle.kishu_store.specs.EntryBytes.{text_bytes}
use Rattle.kishu_store.specs.Rules.{IsCell}
use Rattle.kishu_record.proofs.Lists.{all_push}

-- Behind the first cell these were read, so that there are so many in all.
pub record Passed (list : List ℕ) (count : ℕ) (rest : List ℕ) : Type 0 where
  pub others : List (List ℕ)
  pub count_is : suc (length others) ≡ count
  pub found : list ≡ flat_map text_bytes others ++ rest
  pub fit : AllByRecursion IsCell others

pub passed_none : (list : List ℕ) → Passed list 1 list
passed_none list = record { others = []; count_is = refl; found = refl; fit = tt }

pub passed_on : (list rest next t : List ℕ) (n : ℕ) → Passed list n rest → rest ≡ text_bytes t ++ next → IsCell t → Passed list (n + 1) next
passed_on list rest next t n p e h =
    let joined : flat_map text_bytes p.others ++ text_bytes t ≡ flat_map text_bytes (p.others ++ (t ∷ [])) = flat_map_more text_bytes [] p.others t in
    record {
      others = p.others ++ (t ∷ []);
      count_is = omega (arith, p.count_is, length-append p.others (t ∷ []));
      found = p.found ∙ ap (λ (l : List ℕ). flat_map text_bytes p.others ++ l) e ∙ sym (append_assoc (flat_map text_bytes p.others) (text_bytes t) next) ∙ ap (λ (l : List ℕ). l ++ next) joined;
      fit = all_push IsCell p.others t p.fit h;
    }

-- all of them, the first one too
pub passed_all : (start first list rest : List ℕ) (n : ℕ) → start ≡ text_bytes first ++ list → (p : Passed list n rest) → start ≡ flat_map text_bytes (first ∷ p.others) ++ rest
passed_all start first list rest n e p = e ∙ ap (λ (l : List ℕ). text_bytes first ++ l) p.found ∙ sym (append_assoc (text_bytes first) (flat_map text_bytes p.others) rest)
