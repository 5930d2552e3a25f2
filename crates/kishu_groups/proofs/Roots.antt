-- Ways up in classes: where they end, and what a shorter way and a new first number leave.
use Rattle.std.specs.Prelude.{◌≡◌, ℕ, zero, suc, ◌<◌, ◌≤◌, nat_lt, true, false, if◌then◌else◌, List, [], ◌∷◌, ◌++◌, map, length, get_or, slice_get, Some, slice_set}
use Rattle.std.proofs.Common.{refl, ap, sym, ◌∙◌, subst, arith, inl, inr, get_or-set_same, get_or-set_other, length-append}
use Rattle.std.proofs.lemmas.Bool.{cases_eq, cases_lt, lt-ltb, le-ltb}
use Rattle.std.proofs.lemmas.List.{map-append}
use Rattle.kishu_objects_laws.specs.ListLaws.{same_or_not}
use Rattle.kishu_groups.specs.Classes.{up, Falls, IsFirst, climb, root, table, roots, each_alone, instead, replaced, joined}

-- ---- where ways end

climb_still : (n : ℕ) (ps : List ℕ) (i : ℕ) → up ps i ≡ i → climb n ps i ≡ i
climb_still zero ps i e = refl
climb_still (suc n) ps i e = ap (climb n ps) e ∙ climb_still n ps i e

climb_rests : (n : ℕ) (ps : List ℕ) (i : ℕ) → Falls ps → i ≤ n → up ps (climb n ps i) ≡ climb n ps i
climb_rests zero ps i falls l = omega (arith, falls.up i)
climb_rests (suc n) ps i falls l = elim (cases_eq (up ps i) i) [
  | inl e ↦ (let k = ap (climb n ps) e ∙ climb_still n ps i e in ap (up ps) k ∙ e ∙ sym k)
  | inr m ↦ climb_rests n ps (up ps i) falls (let low = falls.up i in omega arith)
]

-- As many steps as the number is great come to the end.
climb_enough : (n m : ℕ) (ps : List ℕ) (i : ℕ) → Falls ps → i ≤ n → i ≤ m → climb n ps i ≡ climb m ps i
climb_enough zero m ps i falls l k = (let low = falls.up i in sym (climb_still m ps i (omega arith)))
climb_enough (suc n) zero ps i falls l k = (let low = falls.up i in climb_still (suc n) ps i (omega arith))
climb_enough (suc n) (suc m) ps i falls l k = elim (cases_eq (up ps i) i) [
  | inl e ↦ climb_still (suc n) ps i e ∙ sym (climb_still (suc m) ps i e)
  | inr ne ↦ (let low = falls.up i in climb_enough n m ps (up ps i) falls (omega arith) (omega arith))
]

climb_low : (n : ℕ) (ps : List ℕ) (i : ℕ) → Falls ps → climb n ps i ≤ i
climb_low zero ps i falls = omega arith
climb_low (suc n) ps i falls = (let low = falls.up i in let k = climb_low n ps (up ps i) falls in omega arith)

pub root_still : (ps : List ℕ) (i : ℕ) → up ps i ≡ i → root ps i ≡ i
unfolding root
root_still ps i e = climb_still i ps i e

pub root_rests : (ps : List ℕ) (i : ℕ) → Falls ps → up ps (root ps i) ≡ root ps i
unfolding root
root_rests ps i falls = climb_rests i ps i falls (omega arith)

pub root_up : (ps : List ℕ) (i : ℕ) → Falls ps → root ps i ≡ root ps (up ps i)
unfolding root
root_up ps i falls = (let low = falls.up i in climb_enough i (suc i) ps i falls (omega arith) (omega arith)
    ∙ climb_enough i (up ps i) ps (up ps i) falls (omega arith) (omega arith))

pub root_low : (ps : List ℕ) (i : ℕ) → Falls ps → root ps i ≤ i
unfolding root
root_low ps i falls = climb_low i ps i falls

pub root_again : (ps : List ℕ) (i : ℕ) → Falls ps → root ps (root ps i) ≡ root ps i
root_again ps i falls = root_still ps (root ps i) (root_rests ps i falls)

-- What stays at each end of a way, and along each step, is what the way's end has.
roots_are : (qs : List ℕ) → Falls qs → (g : ℕ → ℕ) → ((j : ℕ) → up qs j ≡ j → g j ≡ j) → ((j : ℕ) → g (up qs j) ≡ g j) → (n j : ℕ) → j ≤ n
    → climb n qs j ≡ g j
roots_are qs falls g ends along zero j l = (let low = falls.up j in let e : up qs j ≡ j = omega arith in sym (ends j e))
roots_are qs falls g ends along (suc n) j l = elim (cases_eq (up qs j) j) [
  | inl e ↦ climb_still (suc n) qs j e ∙ sym (ends j e)
  | inr m ↦ (let low = falls.up j in roots_are qs falls g ends along n (up qs j) (omega arith) ∙ along j)
]

pub root_is : (qs : List ℕ) → Falls qs → (g : ℕ → ℕ) → ((j : ℕ) → up qs j ≡ j → g j ≡ j) → ((j : ℕ) → g (up qs j) ≡ g j) → (j : ℕ) → root qs j ≡ g j
unfolding root
root_is qs falls g ends along j = roots_are qs falls g ends along j j (omega arith)

-- ---- tables

pub table_length : (f : ℕ → ℕ) (n : ℕ) → length (table f n) ≡ n
table_length f zero = refl
table_length f (suc n) = (let k = table_length f n in omega (arith, length-append (table f n) (f n ∷ []), k))

pub table_same : (f g : ℕ → ℕ) (n : ℕ) → ((i : ℕ) → f i ≡ g i) → table f n ≡ table g n
table_same f g zero h = refl
table_same f g (suc n) h = ap (λ l. l ++ f n ∷ []) (table_same f g n h) ∙ ap (λ k. table g n ++ k ∷ []) (h n)

pub table_map : (h f : ℕ → ℕ) (n : ℕ) → map h (table f n) ≡ table (λ i. h (f i)) n
table_map h f zero = refl
table_map h f (suc n) = map-append h (table f n) (f n ∷ []) ∙ ap (λ l. l ++ h (f n) ∷ []) (table_map h f n)

get_back : (xs : List ℕ) (i : ℕ) (n : ℕ) → length xs ≡ n → slice_get (xs ++ i ∷ []) n ≡ Some i
get_back [] i zero e = refl
get_back [] i (suc n) e = absurd (omega arith)
get_back (x ∷ xs) i zero e = absurd (omega arith)
get_back (x ∷ xs) i (suc n) e = get_back xs i n (omega arith)

get_front : (xs zs : List ℕ) (k : ℕ) → k < length xs → slice_get (xs ++ zs) k ≡ slice_get xs k
get_front [] zs k l = absurd (omega arith)
get_front (x ∷ xs) zs zero l = refl
get_front (x ∷ xs) zs (suc k) l = get_front xs zs k (omega arith)

pub table_get : (f : ℕ → ℕ) (n i : ℕ) → i < n → slice_get (table f n) i ≡ Some (f i)
table_get f zero i l = absurd (omega arith)
table_get f (suc n) i l = elim (cases_eq i n) [
  | inl e ↦ get_back (table f n) (f n) i (table_length f n ∙ sym e) ∙ ap (λ k. Some (f k)) (sym e)
  | inr m ↦ get_front (table f n) (f n ∷ []) i (let k = table_length f n in omega arith) ∙ table_get f n i (omega arith)
]

pub roots_length : (ps : List ℕ) → length (roots ps) ≡ length ps
unfolding roots
roots_length ps = table_length (root ps) (length ps)

pub roots_get : (ps : List ℕ) (i : ℕ) → i < length ps → slice_get (roots ps) i ≡ Some (root ps i)
unfolding roots
roots_get ps i l = table_get (root ps) (length ps) i l

-- Equal classes have equal first numbers.
pub roots_at : (ps qs : List ℕ) (i : ℕ) → i < length ps → roots qs ≡ roots ps → root qs i ≡ root ps i
roots_at ps qs i l e =
    let n : length qs ≡ length ps = sym (roots_length qs) ∙ ap length e ∙ roots_length ps in
    let f : Some (root qs i) ≡ Some (root ps i) = sym (roots_get qs i (omega arith)) ∙ ap (λ z. slice_get z i) e ∙ roots_get ps i l in
    cc

-- ---- a shorter way

module _ (ps : List ℕ) (i : ℕ) (falls : Falls ps) (l : i < length ps) where
  abbrev halved : List ℕ
  halved = slice_set ps i (up ps (up ps i))

  up_halved : up halved i ≡ up ps (up ps i)
  up_halved = get_or-set_same ps i (up ps (up ps i)) i l

  up_others : (j : ℕ) → (j ≡ i → ⊥) → up halved j ≡ up ps j
  up_others j ne = get_or-set_other ps i j (up ps (up ps i)) j ne

  pub halved_falls : Falls (slice_set ps i (up ps (up ps i)))
  halved_falls = record { up = low }
    where
      low : (j : ℕ) → up halved j ≤ j
      low j = elim (cases_eq j i) [
        | inl e ↦ (let a = falls.up i in let b = falls.up (up ps i) in subst (λ k. up halved k ≤ k) (sym e) (let u = up_halved in omega arith))
        | inr ne ↦ (let a = falls.up j in let u = up_others j ne in omega arith)
      ]

  ends : (j : ℕ) → up halved j ≡ j → root ps j ≡ j
  ends j h = elim (cases_eq j i) [
    | inl e ↦ (
        let a = falls.up i in
        let b = falls.up (up ps i) in
        let g : up halved i ≡ i = subst (λ k. up halved k ≡ k) e h in
        let s : up ps (up ps i) ≡ i = sym up_halved ∙ g in
        subst (λ k. root ps k ≡ k) (sym e) (root_still ps i (omega arith))
        )
    | inr ne ↦ root_still ps j (sym (up_others j ne) ∙ h)
  ]

  along : (j : ℕ) → root ps (up halved j) ≡ root ps j
  along j = elim (cases_eq j i) [
    | inl e ↦ subst (λ k. root ps (up halved k) ≡ root ps k) (sym e) (ap (root ps) up_halved ∙ sym (root_up ps (up ps i) falls)
        ∙ sym (root_up ps i falls))
    | inr ne ↦ ap (root ps) (up_others j ne) ∙ sym (root_up ps j falls)
  ]

  pub root_halved : (j : ℕ) → root (slice_set ps i (up ps (up ps i))) j ≡ root ps j
  root_halved = root_is halved halved_falls (root ps) ends along

-- ---- a first number under another

module _ (ps : List ℕ) (a b : ℕ) (falls : Falls ps) (l : b < length ps) (less : a < b) (first : root ps a ≡ a) (second : root ps b ≡ b) where
  abbrev linked : List ℕ
  linked = slice_set ps b a

  up_linked : up linked b ≡ a
  up_linked = get_or-set_same ps b a b l

  up_rest : (j : ℕ) → (j ≡ b → ⊥) → up linked j ≡ up ps j
  up_rest j ne = get_or-set_other ps b j a j ne

  pub linked_falls : Falls (slice_set ps b a)
  linked_falls = record { up = low }
    where
      low : (j : ℕ) → up linked j ≤ j
      low j = elim (cases_eq j b) [
        | inl e ↦ subst (λ k. up linked k ≤ k) (sym e) (let u = up_linked in omega arith)
        | inr ne ↦ (let k = falls.up j in let u = up_rest j ne in omega arith)
      ]

  instead_same : (k : ℕ) → k ≡ b → instead b a k ≡ a
  instead_same k e = elim (same_or_not k b) [ inl f ↦ rw f.1 refl | inr n ↦ absurd (n.0 e) ]

  instead_other : (k : ℕ) → (k ≡ b → ⊥) → instead b a k ≡ k
  instead_other k ne = elim (same_or_not k b) [ inl f ↦ absurd (ne f.0) | inr n ↦ rw n.1 refl ]

  linked_ends : (j : ℕ) → up linked j ≡ j → instead b a (root ps j) ≡ j
  linked_ends j h = elim (cases_eq j b) [
    | inl e ↦ absurd (let u : up linked b ≡ b = subst (λ k. up linked k ≡ k) e h in let v = up_linked in omega arith)
    | inr ne ↦ (let r = root_still ps j (sym (up_rest j ne) ∙ h) in ap (instead b a) r ∙ instead_other j ne)
  ]

  linked_along : (j : ℕ) → instead b a (root ps (up linked j)) ≡ instead b a (root ps j)
  linked_along j = elim (cases_eq j b) [
    | inl e ↦ subst (λ k. instead b a (root ps (up linked k)) ≡ instead b a (root ps k)) (sym e)
        (ap (λ k. instead b a (root ps k)) up_linked ∙ ap (instead b a) first ∙ instead_other a (λ f. (let g : a ≡ b = f in omega arith))
        ∙ sym (ap (instead b a) second ∙ instead_same b refl))
    | inr ne ↦ ap (instead b a) (ap (root ps) (up_rest j ne) ∙ sym (root_up ps j falls))
  ]

  pub root_linked : (j : ℕ) → root (slice_set ps b a) j ≡ instead b a (root ps j)
  root_linked = root_is linked linked_falls (λ j. instead b a (root ps j)) linked_ends linked_along

-- ---- what the code does

pub up_is : (ps : List ℕ) (i d : ℕ) → i < length ps → get_or ps i d ≡ up ps i
up_is [] i d l = absurd (omega arith)
up_is (p ∷ ps) zero d l = refl
up_is (p ∷ ps) (suc i) d l = on ps i d (suc i) (omega arith)
  where
    on : (qs : List ℕ) (j e f : ℕ) → j < length qs → get_or qs j e ≡ get_or qs j f
    on [] j e f m = absurd (omega arith)
    on (q ∷ qs) zero e f m = refl
    on (q ∷ qs) (suc j) e f m = on qs j e f (omega arith)

slice_get_is : (ps : List ℕ) (i : ℕ) → i < length ps → slice_get ps i ≡ Some (up ps i)
slice_get_is ps i l = by ps i i l
  where
    by : (qs : List ℕ) (j d : ℕ) → j < length qs → slice_get qs j ≡ Some (get_or qs j d)
    by [] j d m = absurd (omega arith)
    by (q ∷ qs) zero d m = refl
    by (q ∷ qs) (suc j) d m = by qs j d (omega arith)

pub length_written : (ps : List ℕ) (i v : ℕ) → length (slice_set ps i v) ≡ length ps
length_written [] i v = refl
length_written (p ∷ ps) zero v = refl
length_written (p ∷ ps) (suc i) v = (let k = length_written ps i v in omega arith)

-- A step up, on which the number led to the one above the next.
pub record IsHalved (ps qs : List ℕ) (i next : ℕ) : Type 0 where
  pub falls : Falls qs
  pub there : next < length qs
  pub same : root qs next ≡ root ps i
  pub stay : roots qs ≡ roots ps
  pub less : next < i

same_roots : (qs os : List ℕ) → length qs ≡ length os → ((j : ℕ) → root qs j ≡ root os j) → roots qs ≡ roots os
unfolding roots
same_roots qs os n h = ap (table (root qs)) n ∙ table_same (root qs) (root os) (length os) h

pub halve : (ps : List ℕ) (i parent next : ℕ) → Falls ps → i < length ps → parent ≡ up ps i → next ≡ up ps parent → (parent ≡ i → ⊥)
    → IsHalved ps (slice_set ps i next) i next
halve ps i parent next falls l is on ne =
    let low = falls.up i in
    let low_2 = falls.up parent in
    let e : next ≡ up ps (up ps i) = on ∙ ap (up ps) is in
    let less : next < i = omega arith in
    let size = length_written ps i next in
    let same_all : (j : ℕ) → root (slice_set ps i next) j ≡ root ps j = λ j. ap (λ n. root (slice_set ps i n) j) e ∙ root_halved ps i falls l j in
    record {
      falls = subst (λ n. Falls (slice_set ps i n)) (sym e) (halved_falls ps i falls l);
      there = omega arith;
      same = same_all next ∙ ap (root ps) e ∙ sym (root_up ps (up ps i) falls) ∙ sym (root_up ps i falls);
      stay = same_roots (slice_set ps i next) ps size same_all;
      less = less;
    }

-- the same, as the code reads it
pub halve_read : (ps : List ℕ) (i : ℕ) → Falls ps → i < length ps → (get_or ps i 0 ≡ i → ⊥)
    → IsHalved ps (slice_set ps i (get_or ps (get_or ps i 0) 0)) i (get_or ps (get_or ps i 0) 0)
halve_read ps i falls l ne =
    let e = up_is ps i 0 l in
    let low = falls.up i in
    halve ps i (get_or ps i 0) (get_or ps (get_or ps i 0) 0) falls l e (up_is ps (get_or ps i 0) 0 (omega arith)) ne

-- One first number under another.
pub record IsLinked (ps qs : List ℕ) (a b : ℕ) : Type 0 where
  pub falls : Falls qs
  pub joined : roots qs ≡ replaced a b (roots ps)

linked_roots : (ps : List ℕ) (a b : ℕ) → Falls ps → b < length ps → a < b → root ps a ≡ a → root ps b ≡ b
    → roots (slice_set ps b a) ≡ map (instead b a) (roots ps)
unfolding roots
linked_roots ps a b falls l less first second =
    ap (table (root (slice_set ps b a))) (length_written ps b a)
    ∙ table_same (root (slice_set ps b a)) (λ j. instead b a (root ps j)) (length ps) (root_linked ps a b falls l less first second)
    ∙ sym (table_map (instead b a) (root ps) (length ps))

pub link_under : (ps : List ℕ) (a b : ℕ) → Falls ps → IsFirst ps a → IsFirst ps b → a < b → IsLinked ps (slice_set ps b a) a b
unfolding replaced
link_under ps a b falls fa fb less = record {
  falls = linked_falls ps a b falls fb.there less fa.first fb.first;
  joined = (let t : nat_lt a b ≡ true = lt-ltb a b less in linked_roots ps a b falls fb.there less fa.first fb.first
      ∙ sym (ap (λ c. if c then map (instead b a) (roots ps) else map (instead a b) (roots ps)) t));
}

up_same : (ps : List ℕ) (a : ℕ) → root ps a ≡ a → Falls ps → up ps a ≡ a
up_same ps a e falls = ap (up ps) (sym e) ∙ root_rests ps a falls ∙ e

written_same : (ps : List ℕ) (a : ℕ) → up ps a ≡ a → slice_set ps a a ≡ ps
written_same ps a e = by ps a a e
  where
    by : (qs : List ℕ) (j v : ℕ) → get_or qs j v ≡ v → slice_set qs j v ≡ qs
    by [] j v f = refl
    by (q ∷ qs) zero v f = ap (λ x. x ∷ qs) (sym f)
    by (q ∷ qs) (suc j) v f = ap (λ x. q ∷ x) (by qs j v f)

-- nothing changes where a number goes in place of itself
instead_itself : (a k : ℕ) → instead a a k ≡ k
instead_itself a k = elim (same_or_not k a) [ inl f ↦ rw f.1 (sym f.0) | inr n ↦ rw n.1 refl ]

map_itself : (a : ℕ) (xs : List ℕ) → map (instead a a) xs ≡ xs
map_itself a [] = refl
map_itself a (x ∷ xs) = ap (λ k. k ∷ map (instead a a) xs) (instead_itself a x) ∙ ap (λ l. x ∷ l) (map_itself a xs)

pub link_over : (ps : List ℕ) (a b : ℕ) → Falls ps → IsFirst ps a → IsFirst ps b → b ≤ a → IsLinked ps (slice_set ps a b) a b
unfolding replaced
link_over ps a b falls fa fb l =
    let t : nat_lt a b ≡ false = le-ltb a b l in
    let told : (qs : List ℕ) → qs ≡ map (instead a b) (roots ps)
    → qs ≡ (if nat_lt a b then map (instead b a) (roots ps) else map (instead a b) (roots ps)) = λ qs e. e
    ∙ sym (ap (λ c. if c then map (instead b a) (roots ps) else map (instead a b) (roots ps)) t) in
    elim (cases_eq b a) [
      | inl e ↦ (
          let stays : slice_set ps a b ≡ ps = ap (slice_set ps a) e ∙ written_same ps a (up_same ps a fa.first falls) in
          record {
            falls = subst Falls (sym stays) falls;
            joined = told (roots (slice_set ps a b))
                (ap roots stays ∙ sym (map_itself a (roots ps)) ∙ ap (λ n. map (instead a n) (roots ps)) (sym e));
          }
          )
      | inr ne ↦ record {
        falls = linked_falls ps b a falls fa.there (omega arith) fb.first fa.first;
        joined = told (roots (slice_set ps a b)) (linked_roots ps b a falls fa.there (omega arith) fb.first fa.first);
      }
    ]

-- a way that has ended
pub ended : (ps : List ℕ) (i : ℕ) → i < length ps → get_or ps i 0 ≡ i → root ps i ≡ i
ended ps i l e = root_still ps i (sym (up_is ps i 0 l) ∙ e)

pub first_told : (ps : List ℕ) (i r : ℕ) → i < length ps → r ≡ root ps i → slice_get (roots ps) i ≡ Some r
first_told ps i r l e = roots_get ps i l ∙ ap Some (sym e)

-- what a way ended at is the first of its class, also after other ways were shortened
pub is_first : (ps qs : List ℕ) (i r : ℕ) → Falls ps → i < length ps → r ≡ root ps i → roots qs ≡ roots ps → IsFirst qs r
is_first ps qs i r falls l e stay =
    let low = root_low ps i falls in
    let n : length qs ≡ length ps = sym (roots_length qs) ∙ ap length stay ∙ roots_length ps in
    record {
      there = omega arith;
      first = roots_at ps qs r (omega arith) stay ∙ ap (root ps) e ∙ root_again ps i falls ∙ sym e;
    }

-- the first number of a class, as the list has it
pub told_first : (ps : List ℕ) (i : ℕ) → i < length ps → get_or (roots ps) i 0 ≡ root ps i
told_first ps i l = by (roots ps) i (root ps i) (roots_get ps i l)
  where
    by : (xs : List ℕ) (j a : ℕ) → slice_get xs j ≡ Some a → get_or xs j 0 ≡ a
    by [] j a e = absurd (cc)
    by (x ∷ xs) zero a e = cc
    by (x ∷ xs) (suc j) a e = by xs j a e

past_get : (qs : List ℕ) (j d : ℕ) → length qs ≤ j → get_or qs j d ≡ d
past_get [] j d m = refl
past_get (q ∷ qs) zero d m = absurd (omega arith)
past_get (q ∷ qs) (suc j) d m = past_get qs j d (omega arith)

pub alone_roots : (ps : List ℕ) (n : ℕ) → ps ≡ table (λ i. i) n → Falls ps × (roots ps ≡ each_alone n)
unfolding roots each_alone
alone_roots ps n e = (falls, ap (table (root ps)) (ap length e ∙ table_length (λ i. i) n) ∙ table_same (root ps) (λ i. i) n still)
  where
    up_alone : (i : ℕ) → up ps i ≡ i
    up_alone i = elim (cases_lt i n) [
      | inl l ↦ (let f : Some (up ps i) ≡ Some i = sym (slice_get_is ps i (let a = ap length e in let b = table_length (λ j. j) n in omega arith))
          ∙ ap (λ z. slice_get z i) e ∙ table_get (λ j. j) n i l in cc)
      | inr l ↦ past_get ps i i (let a = ap length e in let b = table_length (λ j. j) n in omega arith)
    ]

    falls : Falls ps
    falls = record { up = λ i. let e = up_alone i in omega arith }

    still : (i : ℕ) → root ps i ≡ i
    still i = root_still ps i (up_alone i)

-- where a number leads is there
pub up_there : (ps : List ℕ) (i : ℕ) → Falls ps → i < length ps → get_or ps i 0 < length ps
up_there ps i falls l = (let e = up_is ps i 0 l in let low = falls.up i in omega arith)

-- ---- what the code sees of classes

pub seen_short : (ps qs rs : List ℕ) (i : ℕ) → qs ≡ ps → roots ps ≡ rs → i < length rs → i < length qs
seen_short ps qs rs i e f l = (let a = ap length e in let b = roots_length ps in let d = ap length f in omega arith)

pub seen_first : (ps qs rs : List ℕ) (i r : ℕ) → qs ≡ ps → roots ps ≡ rs → i < length rs → r ≡ root qs i → slice_get rs i ≡ Some r
seen_first ps qs rs i r e f l h =
    ap (λ z. slice_get z i) (sym f) ∙ ap (λ z. slice_get (roots z) i) (sym e) ∙ first_told qs i r (seen_short ps qs rs i e f l) h

-- the ways of two numbers were shortened, one after the other
pub record AreSeen (ps first second rs : List ℕ) : Type 0 where
  pub before : roots ps ≡ rs
  pub once : roots first ≡ roots ps
  pub twice : roots second ≡ roots first

pub seen_joined : (ps first second after rs : List ℕ) (a b i j : ℕ) → AreSeen ps first second rs → a < length rs → b < length rs
    → i ≡ root ps a → j ≡ root first b → roots after ≡ replaced i j (roots second) → roots after ≡ joined a b rs
seen_joined ps first second after rs a b i j s la lb ei ej e =
    let one : roots first ≡ rs = s.once ∙ s.before in
    let two : roots second ≡ rs = s.twice ∙ one in
    let at_a : i ≡ get_or rs a 0 = ei ∙ sym (told_first ps a (seen_short ps ps rs a refl s.before la)) ∙ ap (λ z. get_or z a 0) s.before in
    let at_b : j ≡ get_or rs b 0 = ej ∙ sym (told_first first b (seen_short first first rs b refl one lb)) ∙ ap (λ z. get_or z b 0) one in
    e ∙ ap (λ z. replaced z j (roots second)) at_a ∙ ap (λ z. replaced (get_or rs a 0) z (roots second)) at_b
    ∙ ap (replaced (get_or rs a 0) (get_or rs b 0)) two
