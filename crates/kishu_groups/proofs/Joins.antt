-- What two classes that are made one leave of the first numbers.
use Rattle.std.specs.Prelude.{◌≡◌, ℕ, zero, suc, ◌<◌, ◌≤◌, ◌⊎◌, nat_lt, true, false, List, [], ◌∷◌, map, length, get_or, slice_get, Some, option_map}
use Rattle.std.proofs.Common.{refl, ap, sym, ◌∙◌, subst, arith, inl, inr}
use Rattle.std.proofs.lemmas.Bool.{cases_lt, cases_Bool, lt-ltb, le-ltb}
use Rattle.kishu_objects_laws.specs.ListLaws.{same_or_not}
use Rattle.kishu_groups.specs.Classes.{instead, replaced, joined, each_alone}
use Rattle.kishu_groups.specs.Gathering.{AreFirsts}
use Rattle.kishu_groups.proofs.Roots.{table_length, table_get}

pub map_get : {A B : Type 0} (f : A → B) (xs : List A) (i : ℕ) → slice_get (map f xs) i ≡ option_map f (slice_get xs i)
map_get f [] i = refl
map_get f (x ∷ xs) zero = refl
map_get f (x ∷ xs) (suc i) = map_get f xs i

pub map_length : {A B : Type 0} (f : A → B) (xs : List A) → length (map f xs) ≡ length xs
map_length f [] = refl
map_length f (x ∷ xs) = (let k = map_length f xs in omega arith)

pub map_found : {A B : Type 0} (f : A → B) (xs : List A) (i : ℕ) (b : B) → slice_get (map f xs) i ≡ Some b
    → (a : A) × (slice_get xs i ≡ Some a) × (b ≡ f a)
map_found f [] i b e = absurd (cc)
map_found f (x ∷ xs) zero b e = (x, refl, cc)
map_found f (x ∷ xs) (suc i) b e = map_found f xs i b e

pub get_there : {A : Type 0} (xs : List A) (i : ℕ) (d : A) → i < length xs → slice_get xs i ≡ Some (get_or xs i d)
get_there [] i d l = absurd (omega arith)
get_there (x ∷ xs) zero d l = refl
get_there (x ∷ xs) (suc i) d l = get_there xs i d (omega arith)

pub there_get : {A : Type 0} (xs : List A) (i : ℕ) (a d : A) → slice_get xs i ≡ Some a → get_or xs i d ≡ a
there_get [] i a d e = absurd (cc)
there_get (x ∷ xs) zero a d e = cc
there_get (x ∷ xs) (suc i) a d e = there_get xs i a d e

pub there_short : {A : Type 0} (xs : List A) (i : ℕ) (a : A) → slice_get xs i ≡ Some a → i < length xs
there_short [] i a e = absurd (cc)
there_short (x ∷ xs) zero a e = omega arith
there_short (x ∷ xs) (suc i) a e = (let k = there_short xs i a e in omega arith)

-- What holds of the first numbers, where those of a and b are made one.
pub record IsJoined (a b : ℕ) (rs qs : List ℕ) : Type 0 where
  pub size : length qs ≡ length rs
  pub firsts : AreFirsts qs
  pub same : (i j : ℕ) → slice_get rs i ≡ slice_get rs j → slice_get qs i ≡ slice_get qs j
  pub both : slice_get qs a ≡ slice_get qs b
  pub told : (i j r q : ℕ) → slice_get rs i ≡ Some r → slice_get rs j ≡ Some q → slice_get qs i ≡ slice_get qs j
      → (slice_get rs i ≡ slice_get rs j)
      ⊎ (((slice_get rs i ≡ slice_get rs a) × (slice_get rs j ≡ slice_get rs b))
      ⊎ ((slice_get rs i ≡ slice_get rs b) × (slice_get rs j ≡ slice_get rs a)))

-- ---- one number in place of another

module _ (high low : ℕ) (less : low ≤ high) where
  goes : (k : ℕ) → k ≡ high → instead high low k ≡ low
  goes k e = elim (same_or_not k high) [ inl f ↦ rw f.1 refl | inr n ↦ absurd (n.0 e) ]

  stays : (k : ℕ) → (k ≡ high → ⊥) → instead high low k ≡ k
  stays k ne = elim (same_or_not k high) [ inl f ↦ absurd (ne f.0) | inr n ↦ rw n.1 refl ]

  low_stays : instead high low low ≡ low
  low_stays = elim (same_or_not low high) [ inl f ↦ goes low f.0 | inr n ↦ stays low n.0 ]

  one_of : (k q : ℕ) → instead high low k ≡ instead high low q → (k ≡ q) ⊎ (((k ≡ high) × (q ≡ low)) ⊎ ((k ≡ low) × (q ≡ high)))
  one_of k q e = elim (same_or_not k high) [
    | inl f ↦ elim (same_or_not q high) [
      | inl g ↦ inl (f.0 ∙ sym g.0)
      | inr m ↦ inr (inl (f.0, sym (stays q m.0) ∙ sym e ∙ goes k f.0))
    ]
    | inr n ↦ elim (same_or_not q high) [
      | inl g ↦ inr (inr (sym (stays k n.0) ∙ e ∙ goes q g.0, g.0))
      | inr m ↦ inl (sym (stays k n.0) ∙ e ∙ stays q m.0)
    ]
  ]

  module _ (rs : List ℕ) (firsts : AreFirsts rs) (high_there : slice_get rs high ≡ Some high) (low_there : slice_get rs low ≡ Some low) where
    abbrev merged : List ℕ
    merged = map (instead high low) rs

    merged_at : (i r : ℕ) → slice_get rs i ≡ Some r → slice_get merged i ≡ Some (instead high low r)
    merged_at i r e = map_get (instead high low) rs i ∙ ap (option_map (instead high low)) e

    merged_low : (i r : ℕ) → slice_get merged i ≡ Some r → r ≤ i
    merged_low i r e =
        let k = map_found (instead high low) rs i r e in
        let l = firsts.low i k.0 k.1 in
        elim (same_or_not k.0 high) [
          | inl f ↦ (let g = k.2 ∙ goes k.0 f.0 in let h = f.0 in omega arith)
          | inr n ↦ (let g = k.2 ∙ stays k.0 n.0 in omega arith)
        ]

    merged_again : (i r : ℕ) → slice_get merged i ≡ Some r → slice_get merged r ≡ Some r
    merged_again i r e =
        let k = map_found (instead high low) rs i r e in
        elim (same_or_not k.0 high) [
          | inl f ↦ subst (λ z. slice_get merged z ≡ Some z) (sym (k.2 ∙ goes k.0 f.0)) (merged_at low low low_there ∙ ap Some low_stays)
          | inr n ↦ subst (λ z. slice_get merged z ≡ Some z) (sym (k.2 ∙ stays k.0 n.0))
              (merged_at k.0 k.0 (firsts.again i k.0 k.1) ∙ ap Some (stays k.0 n.0))
        ]

    merged_firsts : AreFirsts merged
    merged_firsts = record { low = merged_low; again = merged_again }

    merged_same : (i j : ℕ) → slice_get rs i ≡ slice_get rs j → slice_get merged i ≡ slice_get merged j
    merged_same i j e = map_get (instead high low) rs i ∙ ap (option_map (instead high low)) e ∙ sym (map_get (instead high low) rs j)

    some_is : (x y : ℕ) → Some x ≡ Some y → x ≡ y
    some_is x y e = cc

    merged_told : (i j r q : ℕ) → slice_get rs i ≡ Some r → slice_get rs j ≡ Some q → slice_get merged i ≡ slice_get merged j
        → (r ≡ q) ⊎ (((r ≡ high) × (q ≡ low)) ⊎ ((r ≡ low) × (q ≡ high)))
    merged_told i j r q e f g = one_of r q (some_is (instead high low r) (instead high low q) (sym (merged_at i r e) ∙ g ∙ merged_at j q f))

module _ (rs : List ℕ) (firsts : AreFirsts rs) (a b : ℕ) (there : a < length rs) (too : b < length rs) where
  abbrev ra : ℕ
  ra = get_or rs a 0

  abbrev rb : ℕ
  rb = get_or rs b 0

  at_a : slice_get rs a ≡ Some ra
  at_a = get_there rs a 0 there

  at_b : slice_get rs b ≡ Some rb
  at_b = get_there rs b 0 too

  -- b's class goes to a's
  later : ra ≤ rb → IsJoined a b rs (map (instead rb ra) rs)
  later less = record {
    size = map_length (instead rb ra) rs;
    firsts = merged_firsts rb ra less rs firsts (firsts.again b rb at_b) (firsts.again a ra at_a);
    same = merged_same rb ra less rs firsts (firsts.again b rb at_b) (firsts.again a ra at_a);
    both = merged_at rb ra less rs firsts (firsts.again b rb at_b) (firsts.again a ra at_a) a ra at_a ∙ ap Some (low_stays rb ra less)
        ∙ sym (merged_at rb ra less rs firsts (firsts.again b rb at_b) (firsts.again a ra at_a) b rb at_b ∙ ap Some (goes rb ra less rb refl));
    told = λ i j r q e f g. elim (merged_told rb ra less rs firsts (firsts.again b rb at_b) (firsts.again a ra at_a) i j r q e f g) [
      | inl h ↦ inl (e ∙ ap Some h ∙ sym f)
      | inr h ↦ elim h [
        | inl k ↦ inr (inr (e ∙ ap Some k.0 ∙ sym at_b, f ∙ ap Some k.1 ∙ sym at_a))
        | inr k ↦ inr (inl (e ∙ ap Some k.0 ∙ sym at_a, f ∙ ap Some k.1 ∙ sym at_b))
      ]
    ];
  }

  -- a's class goes to b's
  earlier : rb ≤ ra → IsJoined a b rs (map (instead ra rb) rs)
  earlier less = record {
    size = map_length (instead ra rb) rs;
    firsts = merged_firsts ra rb less rs firsts (firsts.again a ra at_a) (firsts.again b rb at_b);
    same = merged_same ra rb less rs firsts (firsts.again a ra at_a) (firsts.again b rb at_b);
    both = merged_at ra rb less rs firsts (firsts.again a ra at_a) (firsts.again b rb at_b) a ra at_a ∙ ap Some (goes ra rb less ra refl)
        ∙ sym (merged_at ra rb less rs firsts (firsts.again a ra at_a) (firsts.again b rb at_b) b rb at_b ∙ ap Some (low_stays ra rb less));
    told = λ i j r q e f g. elim (merged_told ra rb less rs firsts (firsts.again a ra at_a) (firsts.again b rb at_b) i j r q e f g) [
      | inl h ↦ inl (e ∙ ap Some h ∙ sym f)
      | inr h ↦ elim h [
        | inl k ↦ inr (inl (e ∙ ap Some k.0 ∙ sym at_a, f ∙ ap Some k.1 ∙ sym at_b))
        | inr k ↦ inr (inr (e ∙ ap Some k.0 ∙ sym at_b, f ∙ ap Some k.1 ∙ sym at_a))
      ]
    ];
  }

  pub joined_is : IsJoined a b rs (joined a b rs)
  unfolding replaced
  joined_is = elim (cases_lt ra rb) [
    | inl l ↦ (let t : nat_lt ra rb ≡ true = lt-ltb ra rb l in rw t (later (omega arith)))
    | inr l ↦ (let t : nat_lt ra rb ≡ false = le-ltb ra rb l in rw t (earlier l))
  ]

pub joined_size : (a b : ℕ) (rs : List ℕ) → length (joined a b rs) ≡ length rs
unfolding replaced
joined_size a b rs = elim (cases_Bool (nat_lt (get_or rs a 0) (get_or rs b 0))) [
  | inl e ↦ rw e (map_length (instead (get_or rs b 0) (get_or rs a 0)) rs)
  | inr e ↦ rw e (map_length (instead (get_or rs a 0) (get_or rs b 0)) rs)
]

-- ---- each by itself

pub alone_length : (n : ℕ) → length (each_alone n) ≡ n
unfolding each_alone
alone_length n = table_length (λ i. i) n

pub alone_get : (n i : ℕ) → i < n → slice_get (each_alone n) i ≡ Some i
unfolding each_alone
alone_get n i l = table_get (λ i. i) n i l

pub alone_is : (n i r : ℕ) → slice_get (each_alone n) i ≡ Some r → r ≡ i
alone_is n i r e =
    let l = there_short (each_alone n) i r e in
    let f : Some r ≡ Some i = sym e ∙ alone_get n i (let k = alone_length n in omega arith) in
    cc

pub alone_firsts : (n : ℕ) → AreFirsts (each_alone n)
alone_firsts n = record {
  low = λ i r e. (let k = alone_is n i r e in omega arith);
  again = λ i r e. (let k = alone_is n i r e in let l = there_short (each_alone n) i r e in alone_get n r (let s = alone_length n in omega arith));
}
