-- A list that is sorted leads to nodes that are there.
use Rattle.std.proofs.Common.{◌≡◌, ℕ, Bool, true, false, IsTrue, List, Some, None}
use Rattle.std.specs.Prelude.{if◌then◌else◌}
use Rattle.std.specs.List.{list_all}
use Rattle.std.specs.Cmp.Lexicographic.{slice_cmp}
use Rattle.std.specs.Ordering.{is_lt, int_cmp, nat_cmp}
use Rattle.kishu_meaning.specs.items.Sorting.{in_order, is_number, is_text, number_key, text_key, sorted_by}
use Rattle.kishu_meaning.specs.values.Sound.{is_sound, are_sound}
use Rattle.kishu_meaning.specs.values.Values.{Value}
use Rattle.kishu_items.specs.Orders.{all_sorted}
use Rattle.kishu_methods.proofs.Pops.{some_same}

either_sound : (k : ℕ) (a b : Bool) (vs xs ys : List Value) → Some vs ≡ (if a then Some xs else if b then Some ys else None) → IsTrue (are_sound k xs) → IsTrue (are_sound k ys) → IsTrue (are_sound k vs)
either_sound k true b vs xs ys e p q = rw (some_same vs xs e) p
either_sound k false true vs xs ys e p q = rw (some_same vs ys e) q
either_sound k false false vs xs ys e p q = absurd (cc e)

pub sorted_sound : (k : ℕ) (vs ws : List Value) → Some ws ≡ in_order vs → IsTrue (are_sound k vs) → IsTrue (are_sound k ws)
sorted_sound k vs ws e h =
    either_sound k (list_all is_number vs) (list_all is_text vs) ws (sorted_by int_cmp number_key vs) (sorted_by (slice_cmp nat_cmp) text_key vs) e
    (all_sorted (λ a b. is_lt (int_cmp (number_key a) (number_key b))) (is_sound k) vs h)
    (all_sorted (λ a b. is_lt (slice_cmp nat_cmp (text_key a) (text_key b))) (is_sound k) vs h)
