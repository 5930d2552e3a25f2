-- Sorted lists correspond.
use Rattle.std.specs.Prelude.{Bool, ◌≡◌, List, if◌then◌else◌, ◌∷◌, unwrap_or, pos, [], ◌&&◌, Some, None, is_some}
use Rattle.std.specs.Cmp.Lexicographic.{slice_cmp}
use Rattle.std.specs.List.{list_all}
use Rattle.std.specs.Ordering.{is_lt, int_cmp, nat_cmp}
use Rattle.std.specs.declared.cmp.Ordering.{Ordering}
use Rattle.std.proofs.Common.{subst, ap, refl, ◌∙◌}
use Rattle.kishu_meaning.specs.items.Sorting.{placed, sorted, number_key, text_in, text_key, in_order, sorted_by, is_text, is_number}
use Rattle.kishu_meaning.specs.values.Values.{Value}
use Rattle.kishu_pairing_laws.specs.World.{World, SameValue, SameValues, nil, cons, plain, paired, BothOrNeither, both, neither}
use Rattle.kishu_pairing_laws.specs.values.Lists.{zip_conds, opt_conds}
use Rattle.kishu_pairing_laws.specs.comparing.Equal.{number_same}

module _ (W : World) where
  module _ (less : Value → Value → Bool) (less_is : (v w x y : Value) → SameValue W v w → SameValue W x y → less v x ≡ less w y) where
    placed_same : {v w : Value} {vs ws : List Value} → SameValue W v w → SameValues W vs ws → SameValues W (placed less v vs) (placed less w ws)
    placed_same vw nil = cons vw nil
    placed_same {v = v} {w = w} vw (cons {a = x} {b = y} {as' = vs} {bs = ws} xy z) =
        subst (λ b. SameValues W (placed less v (x ∷ vs)) (if b then y ∷ placed less w ws else w ∷ y ∷ ws)) (less_is x y v w xy vw) (zip_conds (less x v) (cons xy (placed_same vw z)) (cons vw (cons xy z)))

    sorted_same : {vs ws : List Value} → SameValues W vs ws → SameValues W (sorted less vs) (sorted less ws)
    sorted_same nil = nil
    sorted_same (cons vw z) = placed_same vw (sorted_same z)

  number_keys : {v w : Value} → SameValue W v w → number_key v ≡ number_key w
  number_keys vw = ap (λ o. unwrap_or o (pos 0)) (number_same W vw)

  texts_of : {v w : Value} → SameValue W v w → text_in v ≡ text_in w
  texts_of (plain v p) = refl
  texts_of (paired i j p) = refl

  text_keys : {v w : Value} → SameValue W v w → text_key v ≡ text_key w
  text_keys vw = ap (λ o. unwrap_or o []) (texts_of vw)

  abbrev less_by : {K : Type 0} → (K → K → Ordering) → (Value → K) → Value → Value → Bool
  less_by compare key a b = is_lt (compare (key a) (key b))

  keys_less : {K : Type 0} (compare : K → K → Ordering) (key : Value → K) → ((v w : Value) → SameValue W v w → key v ≡ key w) → (v w x y : Value) → SameValue W v w → SameValue W x y → less_by compare key v x ≡ less_by compare key w y
  keys_less compare key h v w x y vw xy = ap (λ k. is_lt (compare k (key x))) (h v w vw) ∙ ap (λ k. is_lt (compare (key w) k)) (h x y xy)

  all_is : (f : Value → Bool) → ((v w : Value) → SameValue W v w → f v ≡ f w) → {vs ws : List Value} → SameValues W vs ws → list_all f vs ≡ list_all f ws
  all_is f h nil = refl
  all_is f h (cons {a = v} {b = w} {as' = vs} vw z) = ap (λ b. b && list_all f vs) (h v w vw) ∙ ap (λ b. f w && b) (all_is f h z)

  pub in_order_same : {vs ws : List Value} → SameValues W vs ws → BothOrNeither (SameValues W) (in_order vs) (in_order ws)
  in_order_same {vs = vs} {ws = ws} z =
      subst (λ b. BothOrNeither (SameValues W) (in_order vs) (if b then Some (sorted_by int_cmp number_key ws) else if list_all is_text ws then Some (sorted_by (slice_cmp nat_cmp) text_key ws) else None)) (all_is is_number (λ v w vw. ap is_some (number_same W vw)) z)
      (subst (λ b. BothOrNeither (SameValues W) (in_order vs) (if list_all is_number vs then Some (sorted_by int_cmp number_key ws) else if b then Some (sorted_by (slice_cmp nat_cmp) text_key ws) else None)) (all_is is_text (λ v w vw. ap is_some (texts_of vw)) z)
      (opt_conds (list_all is_number vs) (both (sorted_same (less_by int_cmp number_key) (keys_less int_cmp number_key (λ v w vw. number_keys vw)) z)) (opt_conds (list_all is_text vs) (both (sorted_same (less_by (slice_cmp nat_cmp) text_key) (keys_less (slice_cmp nat_cmp) text_key (λ v w vw. text_keys vw)) z)) neither)))
