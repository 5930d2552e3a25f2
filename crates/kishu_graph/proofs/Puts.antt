-- Rows that are put into a table one by one, in whatever order they are found.
use Rattle.std.specs.Prelude.{◌≡◌, ℕ, ◌+◌, List, [], ◌∷◌, length, map, refl}
use Rattle.std.specs.Cmp.Lexicographic.{slice_cmp}
use Rattle.std.specs.List.{AllByRecursion}
use Rattle.std.specs.List.Sorted.{IsStrictlySortedBy}
use Rattle.std.specs.Ordering.{nat_cmp, ordering_reverse, match_ordering}
use Rattle.std.specs.declared.cmp.Ordering.TheVariants.{Less, Equal, Greater}
use Rattle.std.proofs.Common.{ap, sym, ◌∙◌, subst, arith, Ordering}
use Rattle.std.proofs.lemmas.Cmp.{nat_list_cmp_total}
use Rattle.std.proofs.lemmas.List.{nil_from_length}
use Rattle.kishu_store.specs.Groups.{Rise}
use Rattle.kishu_store.specs.Tables.{Row, Table, Change, first_in, put_row, put_rows, without_groups, after}
use Rattle.kishu_store_laws.specs.BranchLaws.{AllBehind, equal_titles}
use Rattle.kishu_store_laws.specs.TableLaws.{both_ways}

abbrev compared : Row → Row → Ordering
compared r q = slice_cmp nat_cmp (first_in r) (first_in q)

-- ---- where a row comes to stand

pub put_less : (r p : Row) (t : Table) → compared r p ≡ Less → put_row r (p ∷ t) ≡ r ∷ p ∷ t
put_less r p t e = ap (λ (o : Ordering). match_ordering o (r ∷ p ∷ t) (r ∷ p ∷ t) (p ∷ put_row r t)) e

put_equal : (r p : Row) (t : Table) → compared r p ≡ Equal → put_row r (p ∷ t) ≡ r ∷ p ∷ t
put_equal r p t e = ap (λ (o : Ordering). match_ordering o (r ∷ p ∷ t) (r ∷ p ∷ t) (p ∷ put_row r t)) e

pub put_greater : (r p : Row) (t : Table) → compared r p ≡ Greater → put_row r (p ∷ t) ≡ p ∷ put_row r t
put_greater r p t e = ap (λ (o : Ordering). match_ordering o (r ∷ p ∷ t) (r ∷ p ∷ t) (p ∷ put_row r t)) e

pub turned : (r q : Row) (o : Ordering) → compared r q ≡ o → compared q r ≡ ordering_reverse o
turned r q o e = nat_list_cmp_total.antisymm (first_in q) (first_in r) ∙ ap ordering_reverse e

-- ---- two rows in either order

-- the later one stands before the row at the front, so the earlier one does too
both_front : (r q p : Row) (t : Table) → compared r q ≡ Less → compared r p ≡ Less → put_row q (p ∷ t) ≡ q ∷ p ∷ t → put_row r (put_row q (p ∷ t)) ≡ put_row q (put_row r (p ∷ t))
both_front r q p t l m f =
    ap (put_row r) f ∙ put_less r q (p ∷ t) l ∙ ap (λ (u : Table). r ∷ u) (sym f) ∙ sym (put_greater q r (p ∷ t) (turned r q Less l)) ∙ ap (put_row q) (sym (put_less r p t m))

-- the earlier one alone does
one_front : (r q p : Row) (t : Table) → compared r q ≡ Less → compared q p ≡ Greater → ((u : Table) → put_row r (p ∷ u) ≡ r ∷ p ∷ u) → put_row r (put_row q (p ∷ t)) ≡ put_row q (put_row r (p ∷ t))
one_front r q p t l g f =
    ap (put_row r) (put_greater q p t g) ∙ f (put_row q t) ∙ ap (λ (u : Table). r ∷ u) (sym (put_greater q p t g)) ∙ sym (put_greater q r (p ∷ t) (turned r q Less l)) ∙ ap (put_row q) (sym (f t))

swapped_by : (r q p : Row) (t : Table) → compared r q ≡ Less → (a b : Ordering) → compared r p ≡ a → compared q p ≡ b → put_row r (put_row q t) ≡ put_row q (put_row r t) → put_row r (put_row q (p ∷ t)) ≡ put_row q (put_row r (p ∷ t))
swapped_by r q p t l a Less e f rest = both_front r q p t l (nat_list_cmp_total.trans (first_in r) (first_in q) (first_in p) l f) (put_less q p t f)
swapped_by r q p t l a Equal e f rest = both_front r q p t l (subst (λ x. slice_cmp nat_cmp (first_in r) x ≡ Less) (equal_titles (first_in q) (first_in p) (sym f)) l) (put_equal q p t f)
swapped_by r q p t l Less Greater e f rest = one_front r q p t l f (λ u. put_less r p u e)
swapped_by r q p t l Equal Greater e f rest = one_front r q p t l f (λ u. put_equal r p u e)
swapped_by r q p t l Greater Greater e f rest =
    ap (put_row r) (put_greater q p t f) ∙ put_greater r p (put_row q t) e ∙ ap (λ (u : Table). p ∷ u) rest ∙ sym (put_greater q p (put_row r t) f) ∙ ap (put_row q) (sym (put_greater r p t e))

swapped_less : (r q : Row) (t : Table) → compared r q ≡ Less → put_row r (put_row q t) ≡ put_row q (put_row r t)
swapped_less r q [] l = put_less r q [] l ∙ sym (put_greater q r [] (turned r q Less l))
swapped_less r q (p ∷ t) l = swapped_by r q p t l (compared r p) (compared q p) refl refl (swapped_less r q t l)

swapped_in : (r q : Row) (t : Table) (o : Ordering) → compared r q ≡ o → (first_in q ≡ first_in r → ⊥) → put_row r (put_row q t) ≡ put_row q (put_row r t)
swapped_in r q t Less e d = swapped_less r q t e
swapped_in r q t Equal e d = absurd (d (sym (equal_titles (first_in r) (first_in q) (sym e))))
swapped_in r q t Greater e d = sym (swapped_less q r t (turned r q Greater e))

-- Rows of different first names may be put in either order.
swapped : (r q : Row) (t : Table) → (first_in q ≡ first_in r → ⊥) → put_row r (put_row q t) ≡ put_row q (put_row r t)
swapped r q t d = swapped_in r q t (compared r q) refl d

-- ---- rows that don't begin with a name

abbrev pub Lacks : List ℕ → Table → Type 0
Lacks x t = AllByRecursion (λ q. first_in q ≡ x → ⊥) t

put_through : (r : Row) (rs t : Table) → Lacks (first_in r) rs → put_rows rs (put_row r t) ≡ put_row r (put_rows rs t)
put_through r [] t d = refl
put_through r (q ∷ rs) t d = ap (put_row q) (put_through r rs t d.1) ∙ sym (swapped r q (put_rows rs t) d.0)

-- ---- a table that rises has no first name twice

lacked_behind : (x : List ℕ) (t : Table) → AllBehind x (map first_in t) → Lacks x t
lacked_behind x [] h = tt
lacked_behind x (q ∷ t) h = ((λ e. (let l : slice_cmp nat_cmp x x ≡ Less = subst (λ y. slice_cmp nat_cmp x y ≡ Less) e h.0 in both_ways x x l l)), lacked_behind x t h.1)

once_by : (r q : Row) (t : Table) (o : Ordering) → compared r q ≡ o → Rise (map first_in (match_ordering o (r ∷ q ∷ t) (r ∷ q ∷ t) (q ∷ put_row r t))) → (Rise (map first_in (put_row r t)) → Lacks (first_in r) t) → Lacks (first_in r) (q ∷ t)
unfolding IsStrictlySortedBy
once_by r q t Less e h rest = lacked_behind (first_in r) (q ∷ t) h.0
once_by r q t Equal e h rest = lacked_behind (first_in r) (q ∷ t) h.0
once_by r q t Greater e h rest = ((λ s. less_greater (subst (λ y. slice_cmp nat_cmp (first_in r) y ≡ Greater) s e)), rest h.1)
  where
    less_greater : slice_cmp nat_cmp (first_in r) (first_in r) ≡ Greater → ⊥
    less_greater g = (let l : slice_cmp nat_cmp (first_in r) (first_in r) ≡ Less = turned r r Greater g in both_ways (first_in r) (first_in r) l l)

once : (r : Row) (t : Table) → Rise (map first_in (put_row r t)) → Lacks (first_in r) t
once r [] h = tt
once r (q ∷ t) h = once_by r q t (compared r q) refl h (once r t)

lacks_by : (x : List ℕ) (r q : Row) (t : Table) (o : Ordering) → Lacks x (match_ordering o (r ∷ q ∷ t) (r ∷ q ∷ t) (q ∷ put_row r t)) → (Lacks x (put_row r t) → (first_in r ≡ x → ⊥) × Lacks x t) → (first_in r ≡ x → ⊥) × Lacks x (q ∷ t)
lacks_by x r q t Less d rest = d
lacks_by x r q t Equal d rest = d
lacks_by x r q t Greater d rest = (let k = rest d.1 in (k.0, (d.0, k.1)))

lacks_one : (x : List ℕ) (r : Row) (t : Table) → Lacks x (put_row r t) → (first_in r ≡ x → ⊥) × Lacks x t
lacks_one x r [] d = d
lacks_one x r (q ∷ t) d = lacks_by x r q t (compared r q) d (lacks_one x r t)

lacks_all : (x : List ℕ) (rs t : Table) → Lacks x (put_rows rs t) → Lacks x rs × Lacks x t
lacks_all x [] t d = (tt, d)
lacks_all x (r ∷ rs) t d =
    let one = lacks_one x r (put_rows rs t) d in
    let more = lacks_all x rs t one.1 in
    ((one.0, more.0), more.1)

-- ---- one row found more

-- A row that is still to be put into the rows found isn't there yet, and may be put in first.
pub row-found : (r : Row) (rs found whole : Table) → put_rows (r ∷ rs) found ≡ whole → Rise (map first_in whole) → Lacks (first_in r) found × (put_rows rs (put_row r found) ≡ whole)
row-found r rs found whole e rise =
    let lacks = lacks_all (first_in r) rs found (once r (put_rows rs found) (subst (λ (t : Table). Rise (map first_in t)) (sym e) rise)) in
    (lacks.1, put_through r rs found lacks.0 ∙ e)

-- ---- how many there are

length_by : (r q : Row) (t : Table) (o : Ordering) → length (put_row r t) ≡ 1 + length t → length (match_ordering o (r ∷ q ∷ t) (r ∷ q ∷ t) (q ∷ put_row r t)) ≡ 2 + length t
length_by r q t Less e = omega arith
length_by r q t Equal e = omega arith
length_by r q t Greater e = omega (arith, e)

length_put : (r : Row) (t : Table) → length (put_row r t) ≡ 1 + length t
length_put r [] = omega arith
length_put r (q ∷ t) = (let e = length_by r q t (compared r q) (length_put r t) in omega (arith, e))

length_puts : (rs t : Table) → length (put_rows rs t) ≡ length rs + length t
length_puts [] t = omega arith
length_puts (r ∷ rs) t = omega (arith, length_put r (put_rows rs t), length_puts rs t)

-- Where as many are found as the table has, none is left to be put in.
pub all-found : (rs found whole : Table) → put_rows rs found ≡ whole → length whole ≡ length found → found ≡ whole
all-found [] found whole e n = e
all-found (r ∷ rs) found whole e n = absurd (let m : length (put_rows (r ∷ rs) found) ≡ length whole = ap length e in omega (arith, m, n, length_puts (r ∷ rs) found))

-- rows in order
pub puts_own : (rs : Table) → Rise (map first_in rs) → put_rows rs [] ≡ rs
unfolding IsStrictlySortedBy
puts_own [] h = refl
puts_own (r ∷ []) h = refl
puts_own (r ∷ q ∷ rs) h = ap (put_row r) (puts_own (q ∷ rs) h.1) ∙ put_less r q rs h.0.0

-- Where the table after a change has no more rows than it stores, it has these.
pub own-after : (d : Change) (t : Table) → Rise (map first_in d.stored) → length (after d t) ≡ length d.stored → after d t ≡ d.stored
own-after d t rise many =
    let none : without_groups d.dropped t ≡ [] = nil_from_length (without_groups d.dropped t) (omega (arith, many, length_puts d.stored (without_groups d.dropped t))) in
    ap (put_rows d.stored) none ∙ puts_own d.stored rise
