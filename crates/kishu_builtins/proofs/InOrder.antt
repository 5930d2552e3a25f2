-- Values in order are the same values.
use Rattle.std.proofs.Common.{◌≡◌, ap, ℕ, Bool, true, false, IsTrue, List, Some, None}
use Rattle.std.specs.Prelude.{unwrap_or, if◌then◌else◌}
use Rattle.std.specs.Cmp.Lexicographic.{slice_cmp}
use Rattle.std.specs.List.{list_all}
use Rattle.std.specs.Ordering.{int_cmp, nat_cmp, is_lt}
use Rattle.kishu_meaning.specs.items.Sorting.{is_number, is_text, number_key, text_key, sorted_by, in_order}
use Rattle.kishu_meaning.specs.values.Sound.{is_sound, are_sound}
use Rattle.kishu_meaning.specs.values.Values.{Value}
use Rattle.kishu_items.specs.Orders.{all_sorted}

found_sound : (n : ℕ) (a b : Bool) (xs ys us : List Value) → IsTrue (are_sound n xs) → IsTrue (are_sound n ys) → Some us ≡ (if a then Some xs else if b then Some ys else None) → IsTrue (are_sound n us)
found_sound n true b xs ys us x y e = rw (ap (λ o. unwrap_or o us) e) x
found_sound n false true xs ys us x y e = rw (ap (λ o. unwrap_or o us) e) y
found_sound n false false xs ys us x y e = absurd cc

pub ordered_sound : (n : ℕ) (vs us : List Value) → Some us ≡ in_order vs → IsTrue (are_sound n vs) → IsTrue (are_sound n us)
ordered_sound n vs us e h =
    found_sound n (list_all is_number vs) (list_all is_text vs) (sorted_by int_cmp number_key vs) (sorted_by (slice_cmp nat_cmp) text_key vs) us
    (all_sorted (λ a b. is_lt (int_cmp (number_key a) (number_key b))) (is_sound n) vs h)
    (all_sorted (λ a b. is_lt (slice_cmp nat_cmp (text_key a) (text_key b))) (is_sound n) vs h) e
