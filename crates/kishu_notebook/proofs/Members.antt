-- A value at a key, after the value at that key or at another was changed.
use Rattle.std.proofs.Common.{◌≡◌, ℕ, Bool, true, false, cond, ◌||◌, List, Option, Some, option_map, Ordering, Less, Equal, Greater, is_eq, true≢false, refl, sym, ap, ◌∙◌}
use Rattle.std.proofs.lemmas.Bool.{or_parts}
use Rattle.std.proofs.lemmas.Map.Text.{is_eq-slice_cmp}
use Rattle.std.proofs.lemmas.Slice.Eq.{bytes_eq-Decides}
use Rattle.std.specs.Cmp.Lexicographic.{slice_cmp}
use Rattle.std.specs.Ordering.{nat_cmp, match_ordering}
use Rattle.std.specs.Str.{bytes_eq}
use Rattle.serde_json.specs.Data.{Data, null, boolean, number, string, array, object, Members, no_members, member}
use Rattle.serde_json.specs.Find.{get, get_member}
use Rattle.serde_json.specs.Written.{has_float, members_have_float}
use Rattle.kishu_model.specs.notebooks.Setting.{members_changed, changed_at}

either : (o : Ordering) (a b : Option Data) → is_eq o ≡ false → match_ordering o a b a ≡ a
either Less a b e = refl
either Equal a b e = absurd (true≢false e)
either Greater a b e = refl

middle : (o : Ordering) (a b : Option Data) → is_eq o ≡ true → match_ordering o a b a ≡ b
middle Less a b e = absurd (true≢false (sym e))
middle Equal a b e = refl
middle Greater a b e = absurd (true≢false (sym e))

-- the first member has another key, or this one
skips : (q k : List ℕ) (d : Data) (ms : Members) → bytes_eq q k ≡ false → get_member q (member k d ms) ≡ get_member q ms
skips q k d ms other = either (slice_cmp nat_cmp q k) _ _ (is_eq-slice_cmp q k ∙ other)

finds : (q k : List ℕ) (d : Data) (ms : Members) → bytes_eq q k ≡ true → get_member q (member k d ms) ≡ Some d
finds q k d ms same = middle (slice_cmp nat_cmp q k) _ _ (is_eq-slice_cmp q k ∙ same)

-- ---- at another key

other_at : (b : Bool) (q key l : List ℕ) (f : Data → Data) (e : Data) (ms : Members) → bytes_eq key l ≡ b → bytes_eq q key ≡ false → get_member q (members_changed key f ms) ≡ get_member q ms
    → get_member q (cond b (member l (f e) ms) (member l e (members_changed key f ms))) ≡ get_member q (member l e ms)
other_at true q key l f e ms is other rest =
    let apart : bytes_eq q l ≡ false = ap (bytes_eq q) (sym ((bytes_eq-Decides key l).0 is)) ∙ other in
    skips q l (f e) ms apart ∙ sym (skips q l e ms apart)
other_at false q key l f e ms is other rest = ap (λ r. match_ordering (slice_cmp nat_cmp q l) r (Some e) r) rest

member_other : (q key : List ℕ) (f : Data → Data) (ms : Members) → bytes_eq q key ≡ false → get_member q (members_changed key f ms) ≡ get_member q ms
member_other q key f no_members other = refl
member_other q key f (member l e ms) other = other_at (bytes_eq key l) q key l f e ms refl other (member_other q key f ms other)

pub get_other : (q key : List ℕ) (f : Data → Data) (d : Data) → bytes_eq q key ≡ false → get q (changed_at key f d) ≡ get q d
get_other q key f null other = refl
get_other q key f (boolean b) other = refl
get_other q key f (number n) other = refl
get_other q key f (string s) other = refl
get_other q key f (array ds) other = refl
get_other q key f (object ms) other = member_other q key f ms other

-- ---- at this key

same_at : (b : Bool) (key l : List ℕ) (f : Data → Data) (e : Data) (ms : Members) → bytes_eq key l ≡ b → get_member key (members_changed key f ms) ≡ option_map f (get_member key ms)
    → get_member key (cond b (member l (f e) ms) (member l e (members_changed key f ms))) ≡ option_map f (get_member key (member l e ms))
same_at true key l f e ms is rest = finds key l (f e) ms is ∙ sym (ap (option_map f) (finds key l e ms is))
same_at false key l f e ms is rest = skips key l e (members_changed key f ms) is ∙ rest ∙ sym (ap (option_map f) (skips key l e ms is))

member_same : (key : List ℕ) (f : Data → Data) (ms : Members) → get_member key (members_changed key f ms) ≡ option_map f (get_member key ms)
member_same key f no_members = refl
member_same key f (member l e ms) = same_at (bytes_eq key l) key l f e ms refl (member_same key f ms)

pub get_same : (key : List ℕ) (f : Data → Data) (d : Data) → get key (changed_at key f d) ≡ option_map f (get key d)
get_same key f null = refl
get_same key f (boolean b) = refl
get_same key f (number n) = refl
get_same key f (string s) = refl
get_same key f (array ds) = refl
get_same key f (object ms) = member_same key f ms

-- ---- two changes that agree on what is found

agree_at : (b : Bool) (key l : List ℕ) (f g : Data → Data) (e : Data) (ms : Members) → bytes_eq key l ≡ b → ((x : Data) → get_member key (member l e ms) ≡ Some x → f x ≡ g x)
    → (((x : Data) → get_member key ms ≡ Some x → f x ≡ g x) → members_changed key f ms ≡ members_changed key g ms)
    → cond b (member l (f e) ms) (member l e (members_changed key f ms)) ≡ cond b (member l (g e) ms) (member l e (members_changed key g ms))
agree_at true key l f g e ms is agree rest = ap (λ x. member l x ms) (agree e (finds key l e ms is))
agree_at false key l f g e ms is agree rest = ap (member l e) (rest (λ x found. agree x (skips key l e ms is ∙ found)))

members_agree : (key : List ℕ) (f g : Data → Data) (ms : Members) → ((x : Data) → get_member key ms ≡ Some x → f x ≡ g x) → members_changed key f ms ≡ members_changed key g ms
members_agree key f g no_members agree = refl
members_agree key f g (member l e ms) agree = agree_at (bytes_eq key l) key l f g e ms refl agree (members_agree key f g ms)

pub changed_agree : (key : List ℕ) (f g : Data → Data) (d : Data) → ((x : Data) → get key d ≡ Some x → f x ≡ g x) → changed_at key f d ≡ changed_at key g d
changed_agree key f g null agree = refl
changed_agree key f g (boolean b) agree = refl
changed_agree key f g (number n) agree = refl
changed_agree key f g (string s) agree = refl
changed_agree key f g (array ds) agree = refl
changed_agree key f g (object ms) agree = ap object (members_agree key f g ms agree)

-- ---- no float comes in

pub neither : (a b : Bool) → a ≡ false → b ≡ false → (a || b) ≡ false
neither a b p q = rw (p, q) refl

float_at : (b : Bool) (l : List ℕ) (f : Data → Data) (e : Data) (ms rest : Members) → has_float (f e) ≡ false → has_float e ≡ false → members_have_float ms ≡ false → members_have_float rest ≡ false
    → members_have_float (cond b (member l (f e) ms) (member l e rest)) ≡ false
float_at true l f e ms rest new old first later = neither _ _ new first
float_at false l f e ms rest new old first later = neither _ _ old later

members_no_float : (key : List ℕ) (f : Data → Data) (ms : Members) → ((x : Data) → has_float x ≡ false → has_float (f x) ≡ false) → members_have_float ms ≡ false → members_have_float (members_changed key f ms) ≡ false
members_no_float key f no_members keeps none = refl
members_no_float key f (member l e ms) keeps none =
    let p = or_parts (has_float e) _ none in
    float_at (bytes_eq key l) l f e ms (members_changed key f ms) (keeps e p.0) p.0 p.1 (members_no_float key f ms keeps p.1)

pub changed_no_float : (key : List ℕ) (f : Data → Data) (d : Data) → ((x : Data) → has_float x ≡ false → has_float (f x) ≡ false) → has_float d ≡ false → has_float (changed_at key f d) ≡ false
changed_no_float key f null keeps none = refl
changed_no_float key f (boolean b) keeps none = refl
changed_no_float key f (number n) keeps none = none
changed_no_float key f (string s) keeps none = refl
changed_no_float key f (array ds) keeps none = none
changed_no_float key f (object ms) keeps none = members_no_float key f ms keeps none
