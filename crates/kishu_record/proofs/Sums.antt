-- How many bytes items take behind their number.
use Rattle.std.proofs.Common.{◌≡◌, ◌≤◌, ◌<◌, ◌∙◌, ℕ, ◌+◌, List, length, map, flat_map, take, get_or, ap, arith, length-append}
use Rattle.std.specs.List.{sum_by}
use Rattle.std.proofs.lemmas.List.{take_all}
use Rattle.std.proofs.lemmas.List.Concat.{length-flat_map}
use Rattle.std.proofs.lemmas.List.Folds.{flat_map-map}
use Rattle.std.proofs.lemmas.List.Sums.{sum_by_more_le}
use Rattle.kishu_bytes.specs.Numbers.{four}
use Rattle.kishu_store.specs.EntryBytes.{many}

-- Items of the program, each of which spells one of the list.
module _ {R A : Type 0} (of : R → A) (bytes : A → List ℕ) where
  -- how many bytes one takes
  abbrev pub taken : R → ℕ
  taken r = length (bytes (of r))

  pub length-many : (items : List R) → length (many bytes (map of items)) ≡ 4 + sum_by taken items
  length-many items =
      let all : length (flat_map bytes (map of items)) ≡ sum_by taken items = ap length (flat_map-map bytes of items) ∙ length-flat_map (λ r. bytes (of r)) items in
      omega (arith, all, length-append (four (length (map of items))) (flat_map bytes (map of items)))

  -- those so far and one more take no more than all
  pub within-many : (items : List R) (i : ℕ) (d : R) → i < length items → d ≡ get_or items i d → 4 + (sum_by taken (take i items) + taken d) ≤ length (many bytes (map of items))
  within-many items i d inside is = (let one : taken d ≡ taken (get_or items i d) = ap taken is in omega (arith, sum_by_more_le taken items i d inside, one, length-many items))

  -- those of all items
  pub all-many : (items : List R) (i len : ℕ) → length items ≤ i → len ≡ 4 + sum_by taken (take i items) → len ≡ length (many bytes (map of items))
  all-many items i len past is = (let all : sum_by taken (take i items) ≡ sum_by taken items = ap (sum_by taken) (take_all i items past) in omega (arith, is, all, length-many items))
