-- The members of a value that was read: their keys ascend. So what is found at as many keys as there are members is all of the object.
use Rattle.std.proofs.Common.{◌≡◌, ◌⊎◌, inl, inr, ℕ, List, Option, Some, None, option_map, option_and_then, Ordering, Less, Equal, Greater, is_eq, nat_cmp, subst, refl, sym, ap, ◌∙◌, arith}
use Rattle.std.proofs.lemmas.Cmp.{nat_list_cmp_total, tied_itself}
use Rattle.std.proofs.lemmas.Map.Text.{is_eq-slice_cmp}
use Rattle.std.proofs.lemmas.Option.{none-some, same_Some, option_and_then_some}
use Rattle.std.proofs.lemmas.Slice.Eq.{bytes_eq-Decides}
use Rattle.std.specs.Cmp.Lexicographic.{slice_cmp}
use Rattle.std.specs.Ordering.{match_ordering, ordering_reverse}
use Rattle.json.specs.Json as json
use Rattle.json.specs.Lex.{tokens}
use Rattle.serde_json.specs.Data.{Data, null, boolean, number, string, array, object, Members, no_members, member, put}
use Rattle.serde_json.specs.Events.{members_len}
use Rattle.serde_json.specs.Find.{get_member}
use Rattle.serde_json.specs.Read.{max_depth, read, of_json, of_items, of_members, number_of}

-- the key stands before the first one
abbrev pub Below : List ℕ → Members → Type 0
Below k no_members = Unit {0}
Below k (member l e ms) = slice_cmp nat_cmp k l ≡ Less

abbrev pub Ascends : Members → Type 0
Ascends no_members = Unit {0}
Ascends (member k d ms) = Below k ms × Ascends ms

abbrev pub AscendsIn : Data → Type 0
AscendsIn null = Unit {0}
AscendsIn (boolean b) = Unit {0}
AscendsIn (number n) = Unit {0}
AscendsIn (string s) = Unit {0}
AscendsIn (array ds) = Unit {0}
AscendsIn (object ms) = Ascends ms

-- ---- what is read ascends

below_put_at : (o : Ordering) (q k l : List ℕ) (d e : Data) (ms : Members) → slice_cmp nat_cmp q k ≡ Less → slice_cmp nat_cmp q l ≡ Less
    → Below q (match_ordering o (member k d (member l e ms)) (member l d ms) (member l e (put k d ms)))
below_put_at Less q k l d e ms below first = below
below_put_at Equal q k l d e ms below first = first
below_put_at Greater q k l d e ms below first = first

below_put : (q k : List ℕ) (d : Data) (ms : Members) → slice_cmp nat_cmp q k ≡ Less → Below q ms → Below q (put k d ms)
below_put q k d no_members below first = below
below_put q k d (member l e ms) below first = below_put_at (slice_cmp nat_cmp k l) q k l d e ms below first

reversed : (a b : List ℕ) (o : Ordering) → slice_cmp nat_cmp a b ≡ o → slice_cmp nat_cmp b a ≡ ordering_reverse o
reversed a b o is = nat_list_cmp_total.antisymm b a ∙ ap ordering_reverse is

ascends_put_at : (o : Ordering) (k l : List ℕ) (d e : Data) (ms : Members) → slice_cmp nat_cmp k l ≡ o → Ascends (member l e ms) → Ascends (put k d ms)
    → Ascends (match_ordering o (member k d (member l e ms)) (member l d ms) (member l e (put k d ms)))
ascends_put_at Less k l d e ms is before rest = (is, before)
ascends_put_at Equal k l d e ms is before rest = before
ascends_put_at Greater k l d e ms is before rest = (below_put l k d ms (reversed k l Greater is) before.0, rest)

ascends_put : (k : List ℕ) (d : Data) (ms : Members) → Ascends ms → Ascends (put k d ms)
ascends_put k d no_members before = (tt, tt)
ascends_put k d (member l e ms) before = ascends_put_at (slice_cmp nat_cmp k l) k l d e ms refl before (ascends_put k d ms before.1)

ascends_members : (ms : json.Members) (found whole : Members) → Ascends found → of_members ms found ≡ Some whole → Ascends whole
ascends_members json.no_members found whole before is = subst Ascends (same_Some found whole is) before
ascends_members (json.member k j ms) found whole before is =
    option_and_then_some (λ d. of_members ms (put k d found)) (of_json j) whole is (λ d _ rest. ascends_members ms (put k d found) whole (ascends_put k d found before) rest)

mapped : {A : Type 0} (f : A → Data) (o : Option A) (d : Data) → ((x : A) → o ≡ Some x → AscendsIn (f x)) → option_map f o ≡ Some d → AscendsIn d
mapped f None d each is = absurd (none-some d is)
mapped f (Some x) d each is = subst AscendsIn (same_Some (f x) d is) (each x refl)

ascends_json : (j : json.Json) (d : Data) → of_json j ≡ Some d → AscendsIn d
ascends_json json.null d is = subst AscendsIn (same_Some null d is) tt
ascends_json (json.boolean b) d is = subst AscendsIn (same_Some (boolean b) d is) tt
ascends_json (json.number s) d is = mapped number (number_of s) d (λ _ _. tt) is
ascends_json (json.string s) d is = subst AscendsIn (same_Some (string s) d is) tt
ascends_json (json.array js) d is = mapped array (of_items js) d (λ _ _. tt) is
ascends_json (json.object ms) d is = mapped object (of_members ms no_members) d (λ whole found. ascends_members ms no_members whole tt found) is

pub ascends_read : (line : List ℕ) (d : Data) → read line ≡ Some d → AscendsIn d
ascends_read line d is =
    option_and_then_some of_json (option_and_then (λ p. json.if_last p.0 p.1) (json.value max_depth (tokens line))) d is (λ j _ found. ascends_json j d found)

-- ---- what is found is all

same_key : (a b : List ℕ) → slice_cmp nat_cmp a b ≡ Equal → a ≡ b
same_key a b is = (bytes_eq-Decides a b).0 (sym (is_eq-slice_cmp a b) ∙ ap is_eq is)

abbrev At : List ℕ → Data → List ℕ → Data → Members → Type 0
At k d a x ms = ((a ≡ k) × (x ≡ d)) ⊎ (get_member k ms ≡ Some d)

found_by : (o : Ordering) (k a : List ℕ) (d x : Data) (ms : Members) → slice_cmp nat_cmp k a ≡ o → match_ordering o (get_member k ms) (Some x) (get_member k ms) ≡ Some d → At k d a x ms
found_by Less k a d x ms is found = inr found
found_by Equal k a d x ms is found = inl (sym (same_key k a is), same_Some x d found)
found_by Greater k a d x ms is found = inr found

-- here, or later
found_at : (k a : List ℕ) (d x : Data) (ms : Members) → get_member k (member a x ms) ≡ Some d → At k d a x ms
found_at k a d x ms found = found_by (slice_cmp nat_cmp k a) k a d x ms refl found

less-greater : Less ≡ Greater → ⊥
less-greater e = cc

less-equal : Less ≡ Equal → ⊥
less-equal e = cc

not_both : (a b : List ℕ) → slice_cmp nat_cmp a b ≡ Less → slice_cmp nat_cmp b a ≡ Less → ⊥
not_both a b below above = less-greater (sym below ∙ reversed b a Less above)

not_itself : (a b : List ℕ) → a ≡ b → slice_cmp nat_cmp a b ≡ Less → ⊥
not_itself a b same below = less-equal (sym below ∙ subst (λ (c : List ℕ). slice_cmp nat_cmp a c ≡ Equal) same (tied_itself nat_list_cmp_total a))

-- what is found behind a key is above it
above_found : (a k : List ℕ) (d : Data) (ms : Members) → Below a ms → Ascends ms → get_member k ms ≡ Some d → slice_cmp nat_cmp a k ≡ Less
above_found a k d no_members below ascends found = absurd (none-some d found)
above_found a k d (member l e ms) below ascends found =
    elim (found_at k l d e ms found) [
      | inl here ↦ subst (λ (c : List ℕ). slice_cmp nat_cmp a c ≡ Less) here.0 below
      | inr later ↦ nat_list_cmp_total.trans a l k below (above_found l k d ms ascends.0 ascends.1 later)
    ]

-- the greater of two keys isn't the first
later_of : (k l a : List ℕ) (d e x : Data) (ms : Members) → Ascends (member a x ms) → slice_cmp nat_cmp k l ≡ Less → get_member k (member a x ms) ≡ Some d → get_member l (member a x ms) ≡ Some e
    → get_member l ms ≡ Some e
later_of k l a d e x ms ascends less first second =
    elim (found_at l a e x ms second) [
      | inr later ↦ later
      | inl here ↦
          elim (found_at k a d x ms first) [
            | inl there ↦ absurd (not_itself k l (sym there.0 ∙ here.0) less)
            | inr behind ↦ absurd (not_both k l less (subst (λ (c : List ℕ). slice_cmp nat_cmp c k ≡ Less) here.0 (above_found a k d ms ascends.0 ascends.1 behind)))
          ]
    ]

pub one_member : (k : List ℕ) (d : Data) (ms : Members) → members_len ms ≡ 1 → get_member k ms ≡ Some d → ms ≡ member k d no_members
one_member k d no_members size found = absurd (none-some d found)
one_member k d (member a x no_members) size found =
    elim (found_at k a d x no_members found) [
      | inl here ↦ ap (λ (c : List ℕ). member c x no_members) here.0 ∙ ap (λ (y : Data). member k y no_members) here.1
      | inr later ↦ absurd (none-some d later)
    ]
one_member k d (member a x (member b y ms)) size found = absurd (omega arith)

-- a key below the first one isn't found
first_is : (k l a : List ℕ) (d e x : Data) (ms rest : Members) → Ascends ms → ms ≡ member l e rest → slice_cmp nat_cmp k l ≡ Less → get_member k (member a x ms) ≡ Some d → (a ≡ k) × (x ≡ d)
first_is k l a d e x ms rest ascends is less found =
    elim (found_at k a d x ms found) [
      | inl here ↦ here
      | inr later ↦
          elim (found_at k l d e rest (ap (get_member k) (sym is) ∙ later)) [
            | inl there ↦ absurd (not_itself k l (sym there.0) less)
            | inr behind ↦
                let sorted : Ascends (member l e rest) = subst Ascends is ascends in
                absurd (not_both k l less (above_found l k d rest sorted.0 sorted.1 behind))
          ]
    ]

joined : (k a : List ℕ) (d x : Data) (ms rest : Members) → (a ≡ k) × (x ≡ d) → ms ≡ rest → member a x ms ≡ member k d rest
joined k a d x ms rest first is = ap (λ (c : List ℕ). member c x ms) first.0 ∙ ap (λ (y : Data). member k y ms) first.1 ∙ ap (λ (m : Members). member k d m) is

pub two_members : (k l : List ℕ) (d e : Data) (ms : Members) → Ascends ms → members_len ms ≡ 2 → slice_cmp nat_cmp k l ≡ Less → get_member k ms ≡ Some d → get_member l ms ≡ Some e
    → ms ≡ member k d (member l e no_members)
two_members k l d e no_members ascends size less first second = absurd (none-some d first)
two_members k l d e (member a x ms) ascends size less first second =
    let rest : ms ≡ member l e no_members = one_member l e ms (omega arith) (later_of k l a d e x ms ascends less first second) in
    joined k a d x ms (member l e no_members) (first_is k l a d e x ms no_members ascends.1 rest less first) rest

pub three_members : (k l m : List ℕ) (d e f : Data) (ms : Members) → Ascends ms → members_len ms ≡ 3 → slice_cmp nat_cmp k l ≡ Less → slice_cmp nat_cmp l m ≡ Less
    → get_member k ms ≡ Some d → get_member l ms ≡ Some e → get_member m ms ≡ Some f → ms ≡ member k d (member l e (member m f no_members))
three_members k l m d e f no_members ascends size less next first second third = absurd (none-some d first)
three_members k l m d e f (member a x ms) ascends size less next first second third =
    let middle = later_of k l a d e x ms ascends less first second in
    let last = later_of k m a d f x ms ascends (nat_list_cmp_total.trans k l m less next) first third in
    let rest : ms ≡ member l e (member m f no_members) = two_members l m e f ms ascends.1 (omega arith) next middle last in
    joined k a d x ms (member l e (member m f no_members)) (first_is k l a d e x ms (member m f no_members) ascends.1 rest less first) rest
