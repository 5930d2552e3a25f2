-- What is chosen by comparing with sets is what a draft tells.
use Rattle.std.proofs.Common.{◌≡◌, ◌∙◌, ◌≤◌, ◌*◌, ℕ, Bool, true, false, ◌&&◌, List, [], ◌∷◌, refl, ap, inl, inr, arith}
use Rattle.std.specs.Prelude.{not, ◌||◌, filter}
use Rattle.std.proofs.lemmas.Bool.{cases_Bool}
use Rattle.kishu_heap.specs.Costs.{Reads}
use Rattle.kishu_meaning.specs.values.Values.{State}
use Rattle.kishu_objects.specs.Bytes.{picture_bytes}
use Rattle.kishu_objects.specs.Lists.{In}
use Rattle.kishu_store.specs.Groups.{Group, is_group, is_one_of}
use Rattle.kishu_history.specs.Touched.{holds_any, classes}
use Rattle.kishu_history_laws.specs.Choices.{filter_same, filter_twice, group_decides, one_of_decides}
use Rattle.kishu_language.specs.tokens.Names.{is_among}
use Rattle.kishu_delta.specs.Kept.{Digests}
use Rattle.kishu_delta.specs.Compared.{Pictures, pictured, standing, is_known, asked_from, dropped_from, stored_from}
use Rattle.kishu_delta.specs.Deltas.{agrees, dropped_by, stays_by, stored_by}
use Rattle.kishu_delta.proofs.Alike.{holds_alike}

-- ---- sets

-- A set that has just the groups of a list tells the same as the list.
module _ (gs stand set : List Group) (same : (g : Group) → is_one_of g set ≡ is_one_of g stand) where
  pub dropped_alike : (hs : List Group) → filter (λ g. not (is_one_of g set)) hs ≡ filter (λ g. not (is_one_of g stand)) hs
  dropped_alike hs = filter_same _ _ hs (λ g m. ap not (same g))

  known_alike : (g : Group) → is_known gs set g ≡ is_known gs stand g
  known_alike g = ap (λ b. is_one_of g gs && b) (same g)

  pub stored_alike : (ps : Pictures) → filter (λ p. not (is_known gs set p.0)) ps ≡ filter (λ p. not (is_known gs stand p.0)) ps
  stored_alike ps = filter_same _ _ ps (λ p m. ap not (known_alike p.0))

  pub asked_alike : (ps : Pictures) → filter (λ p. is_known gs set p.0) ps ≡ filter (λ p. is_known gs stand p.0) ps
  asked_alike ps = filter_same _ _ ps (λ p m. known_alike p.0)

-- ---- classes with their pictures

stand_yes : (g h : Group) (rest : List Group) (c k : Bool) → (is_group g h ≡ true → k ≡ true) → is_one_of g rest ≡ (c && k) → (is_group g h || is_one_of g rest) ≡ ((is_group g h || c) && k)
stand_yes g h rest c k here is = elim (cases_Bool (is_group g h)) [
  | inl one ↦ (let e = here one in rw (one, e) refl)
  | inr other ↦ rw other is
]

stand_no : (g h : Group) (rest : List Group) (c k : Bool) → (is_group g h ≡ true → k ≡ false) → is_one_of g rest ≡ (c && k) → is_one_of g rest ≡ ((is_group g h || c) && k)
stand_no g h rest c k here is = elim (cases_Bool (is_group g h)) [
  | inl one ↦ (let e = here one in let f : is_one_of g rest ≡ (c && false) = rw e at is in rw (one, e) (f ∙ never c))
  | inr other ↦ rw other is
]
  where
    never : (b : Bool) → (b && false) ≡ false
    never true = refl
    never false = refl

module _ (kept : Digests) (s : State) where
  -- The groups the digest of whose picture is kept.
  pub standing_is : (g : Group) (cs : List Group) → is_one_of g (standing kept (pictured s cs)) ≡ (is_one_of g cs && agrees kept s g)
  standing_is g [] = refl
  standing_is g (h ∷ cs) =
      let rest = standing kept (pictured s cs) in
      let is = standing_is g cs in
      elim (cases_Bool (agrees kept s h)) [
        | inl e ↦ rw e (stand_yes g h rest (is_one_of g cs) (agrees kept s g) (λ one. ap (agrees kept s) ((group_decides g h).0 one) ∙ e) is)
        | inr e ↦ rw e (stand_no g h rest (is_one_of g cs) (agrees kept s g) (λ one. ap (agrees kept s) ((group_decides g h).0 one) ∙ e) is)
      ]

  chosen_with : (test : Group → Bool) (cs : List Group) → filter (λ p. test p.0) (pictured s cs) ≡ pictured s (filter test cs)
  chosen_with test [] = refl
  chosen_with test (h ∷ cs) = elim (cases_Bool (test h)) [
    | inl e ↦ rw e (ap (λ (ps : Pictures). (h, picture_bytes s h) ∷ ps) (chosen_with test cs))
    | inr e ↦ rw e (chosen_with test cs)
  ]

  module _ (gs : List Group) (accessed : List (List ℕ)) where
    abbrev stand : List Group
    stand = standing kept (pictured s (classes gs accessed s))

    -- what has to be dropped,
    pub dropped_is : (xs : List (List ℕ)) → ((x : List ℕ) → is_among x xs ≡ is_among x accessed)
        → dropped_from kept (pictured s (classes gs accessed s)) (filter (holds_any xs) gs) ≡ dropped_by gs accessed s (agrees kept s)
    dropped_is xs same = filter_twice (λ g. not (is_one_of g stand)) (holds_any xs) gs ∙ filter_same _ _ gs (λ g m.
        ap (λ b. b && not (is_one_of g stand)) (holds_alike xs accessed same g)
        ∙ ap (λ b. holds_any accessed g && not b) (standing_is g (classes gs accessed s)))

    known_test : (g : Group) → In g (classes gs accessed s) → is_known gs stand g ≡ (is_one_of g gs && agrees kept s g)
    known_test g m =
        ap (λ b. is_one_of g gs && b) (standing_is g (classes gs accessed s))
        ∙ ap (λ b. is_one_of g gs && (b && agrees kept s g)) ((one_of_decides g (classes gs accessed s)).1 m)

    -- and stored, and asked for.
    pub stored_is : stored_from kept (pictured s (classes gs accessed s)) gs ≡ pictured s (stored_by gs accessed s (agrees kept s))
    stored_is =
        chosen_with (λ g. not (is_known gs stand g)) (classes gs accessed s)
        ∙ ap (pictured s) (filter_same _ _ (classes gs accessed s) (λ g m. ap not (known_test g m)))

    pub asked_is : asked_from kept (pictured s (classes gs accessed s)) gs ≡ pictured s (stays_by gs accessed s (agrees kept s))
    asked_is =
        chosen_with (λ g. is_known gs stand g) (classes gs accessed s)
        ∙ ap (pictured s) (filter_same _ _ (classes gs accessed s) (λ g m. known_test g m))

pub reads_within : (n m a b e : ℕ) → Reads n a b → Reads (2 * m) b e → m ≤ n → Reads (4 * n) a e
reads_within n m a b e p q few = (omega (arith, p.0, q.0), omega (arith, p.1, q.1, few))
