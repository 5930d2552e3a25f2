-- Slices, as the rules say.
use Rattle.std.proofs.Common.{◌≡◌, ◌∙◌, refl, ap, sym, subst, arith, ⊎_elim, ℕ, zero, suc, ◌<◌, ◌≤◌, Bool, true, false, List, [], ◌∷◌, length, map, Option, Some, None, IsTrue, Result, Ok, Err, IfOk}
use Rattle.std.specs.Prelude.{ℤ, pos, negsuc, ◌+ℤ◌, ◌-ℤ◌, ◌<ℤ◌, ◌≤ℤ◌, int_lt, if◌then◌else◌, is_some, slice_get, option_map}
use Rattle.std.specs.List.{cons_option, filter_map}
use Rattle.std.specs.declared.alloc.Global.{Global}
use Rattle.std.specs.declared.vec.Vec.{Vec}
use Rattle.std.proofs.lemmas.Bool.{cases_lt}
use Rattle.std.proofs.lemmas.Int.{ints}
use Rattle.kishu_meaning.specs.declared.value.Value as rust
use Rattle.kishu_meaning.specs.declared.value.Value.TheVariants as values
use Rattle.kishu_meaning.specs.comparing.Equal.{range_length}
use Rattle.kishu_meaning_laws.specs.EqualLaws.{number_at, range_counts}
use Rattle.kishu_meaning.specs.items.Indexes.{index_of}
use Rattle.kishu_meaning.specs.moments.Moment.{Moment, Thrown, Ends, fine, raised, stopped, M, and_then, ◌>>=◌, give, spend}
use Rattle.kishu_meaning.specs.calls.Operators.{list_from, new_list, new_tuple}
use Rattle.kishu_meaning.specs.values.Sound.{is_sound, are_sound}
use Rattle.kishu_meaning.specs.items.Walks.{or_none_there}
use Rattle.kishu_meaning.specs.items.Subscripts.{bound_of, step_from, lowest, highest, counted_from_end, brought, limit, first_limit, last_limit, places_between, slice_places, at_place, picked, node_slice, not_subscriptable}
use Rattle.kishu_meaning.specs.values.Texts.{places, LieWithin}
use Rattle.kishu_meaning.specs.values.Values.{Value, value_of, Node, list, tuple, dict, object, function, exception}
use Rattle.kishu_machine.specs.declared.fault.Fault.{Fault}
use Rattle.kishu_machine.specs.declared.fault.Fault.TheVariants as faults
use Rattle.kishu_machine.specs.Composing.{fails_on}
use Rattle.kishu_machine.specs.Machine.{Fails, thrown_of}
use Rattle.kishu_items.specs.Holding.{both}
use Rattle.kishu_access.specs.Forms.{items_from, maybe_picked}
use Rattle.kishu_access.proofs.Taking.{sound_there}

-- ---- the limits lie in the sequence

abbrev Between : ℤ → ℤ → ℤ → Type 0
Between low high z = (low ≤ℤ z) × (z ≤ℤ high)

not_less : (a b : ℤ) → int_lt a b ≡ false → b ≤ℤ a
not_less a b h = grind (arith, ints)

less : (a b : ℤ) → int_lt a b ≡ true → a <ℤ b
less a b h = grind (arith, ints)

module _ (low high : ℤ) (h : low ≤ℤ high) where
  brought_by : (b d : Bool) (z : ℤ) → int_lt z low ≡ b → int_lt high z ≡ d → Between low high (if b then low else (if d then high else z))
  brought_by true d z p q = (omega (arith, ints), h)
  brought_by false true z p q = (h, omega (arith, ints))
  brought_by false false z p q = (not_less z low p, not_less high z q)

  brought_between : (z : ℤ) → Between low high (brought low high z)
  brought_between z = brought_by (int_lt z low) (int_lt high z) z refl refl

  one_between : (b : Bool) → Between low high (if b then low else high)
  one_between true = (omega (arith, ints), h)
  one_between false = (h, omega (arith, ints))

  other_between : (b : Bool) → Between low high (if b then high else low)
  other_between true = (h, omega (arith, ints))
  other_between false = (omega (arith, ints), h)

low_high_by : (b : Bool) (n : ℕ) → (if b then pos 0 else negsuc 0) ≤ℤ (if b then pos n else pos n -ℤ pos 1)
low_high_by true n = omega (arith, ints)
low_high_by false n = omega (arith, ints)

module _ (n : ℕ) (step : ℤ) where
  low_high : lowest n step ≤ℤ highest n step
  low_high = low_high_by (int_lt (pos 0) step) n

  limit_between : (other : ℤ) (o : Option ℤ) → Between (lowest n step) (highest n step) other → Between (lowest n step) (highest n step) (limit n step other o)
  limit_between other (Some z) h = brought_between (lowest n step) (highest n step) low_high (counted_from_end n z)
  limit_between other None h = h

  first_between : (o : Option ℤ) → Between (lowest n step) (highest n step) (first_limit n step o)
  first_between o = limit_between _ o (one_between (lowest n step) (highest n step) low_high (int_lt (pos 0) step))

  last_between : (o : Option ℤ) → Between (lowest n step) (highest n step) (last_limit n step o)
  last_between o = limit_between _ o (other_between (lowest n step) (highest n step) low_high (int_lt (pos 0) step))

-- ---- and so do the places between them

next_number : (start step : ℤ) (i : ℕ) → number_at (start +ℤ step) step i ≡ number_at start step (suc i)
next_number start (pos n) i = omega (arith, ints)
next_number start (negsuc n) i = omega (arith, ints)

first_number : (start step : ℤ) → number_at start step 0 ≡ start
first_number start (pos n) = omega (arith, ints)
first_number start (negsuc n) = omega (arith, ints)

abbrev Inside : ℕ → ℤ → Type 0
Inside n z = (pos 0 ≤ℤ z) × (z <ℤ pos n)

lie : (n : ℕ) (step : ℤ) (m : ℕ) (start : ℤ) → ((i : ℕ) → i < m → Inside n (number_at start step i)) → LieWithin n (places start step m)
lie n step zero start h = tt
lie n step (suc m) start h = (
  subst (λ (z : ℤ). Inside n z) (first_number start step) (h 0 (omega arith)),
  lie n step m (start +ℤ step) (λ i l. subst (λ (z : ℤ). Inside n z) (sym (next_number start step i)) (h (suc i) (omega arith))),
)

not_more : (n m : ℕ) → (n < m → ⊥) → m ≤ n
not_more n m h = ⊎_elim (λ l. absurd (h l)) (λ l. l) (cases_lt n m)

module _ (n k : ℕ) (a b : ℤ) where
  up_inside : pos 0 ≤ℤ a → b ≤ℤ pos n → (i : ℕ) → i < range_length a b (pos (suc k)) → Inside n (number_at a (pos (suc k)) i)
  up_inside p q i l =
      let before = less (number_at a (pos (suc k)) i) b ((range_counts a b (pos (suc k)) (λ e. absurd (omega (arith, ints, e))) i).1 l) in
      (omega (arith, ints), omega (arith, ints, before))

  down_inside : negsuc 0 ≤ℤ b → a <ℤ pos n → (i : ℕ) → i < range_length a b (negsuc k) → Inside n (number_at a (negsuc k) i)
  down_inside p q i l =
      let before = less b (number_at a (negsuc k) i) ((range_counts a b (negsuc k) (λ e. absurd (omega (arith, ints, e))) i).1 l) in
      (omega (arith, ints, before), omega (arith, ints))

far_up : (n k : ℕ) (a : ℤ) → pos 0 ≤ℤ a → pos n ≤ℤ number_at a (pos (suc k)) n
far_up n k a p = omega (arith, ints)

far_down : (n k : ℕ) (a : ℤ) → a <ℤ pos n → number_at a (negsuc k) n <ℤ pos 0
far_down n k a p = omega (arith, ints)

upward_by : (k : ℕ) (b : Bool) → int_lt (pos 0) (pos (suc k)) ≡ b → b ≡ true
upward_by k true h = refl
upward_by k false h = let below = not_less (pos 0) (pos (suc k)) h in absurd (omega (arith, ints, below))

upward : (k : ℕ) → int_lt (pos 0) (pos (suc k)) ≡ true
upward k = upward_by k (int_lt (pos 0) (pos (suc k))) refl

lowest_up : (n k : ℕ) → lowest n (pos (suc k)) ≡ pos 0
lowest_up n k = ap (λ (b : Bool). if b then pos 0 else negsuc 0) (upward k)

highest_up : (n k : ℕ) → highest n (pos (suc k)) ≡ pos n
highest_up n k = ap (λ (b : Bool). if b then pos n else pos n -ℤ pos 1) (upward k)

above_none : (n k : ℕ) (z : ℤ) → lowest n (pos (suc k)) ≤ℤ z → pos 0 ≤ℤ z
above_none n k z h = subst (λ (y : ℤ). y ≤ℤ z) (lowest_up n k) h

below_all : (n k : ℕ) (z : ℤ) → z ≤ℤ highest n (pos (suc k)) → z ≤ℤ pos n
below_all n k z h = subst (λ (y : ℤ). z ≤ℤ y) (highest_up n k) h

module _ (n : ℕ) (a b : ℤ) where
  inside_by : (step : ℤ) → Between (lowest n step) (highest n step) a → Between (lowest n step) (highest n step) b → (i : ℕ) → i < range_length a b step → Inside n (number_at a step i)
  inside_by (pos zero) p q i l = absurd (omega arith)
  inside_by (pos (suc k)) p q i l = up_inside n k a b (above_none n k a p.0) (below_all n k b q.1) i l
  inside_by (negsuc k) p q i l = down_inside n k a b q.0 (omega (arith, ints, p.1)) i l

  few_by : (step : ℤ) → Between (lowest n step) (highest n step) a → Between (lowest n step) (highest n step) b → range_length a b step ≤ n
  few_by (pos zero) p q = omega arith
  few_by (pos (suc k)) p q = not_more n (range_length a b (pos (suc k))) (λ l. omega (arith, ints, far_up n k a (above_none n k a p.0), (up_inside n k a b (above_none n k a p.0) (below_all n k b q.1) n l).1))
  few_by (negsuc k) p q = not_more n (range_length a b (negsuc k)) (λ l. omega (arith, ints, far_down n k a (omega (arith, ints, p.1)), (down_inside n k a b q.0 (omega (arith, ints, p.1)) n l).0))

module _ (n : ℕ) (step : ℤ) (o p : Option ℤ) where
  pub places_inside : LieWithin n (places_between (first_limit n step o) (last_limit n step p) step)
  places_inside =
      let first = first_limit n step o in
      let last = last_limit n step p in
      lie n step (range_length first last step) first (inside_by n first last step (first_between n step o) (last_between n step p))

  pub places_few : range_length (first_limit n step o) (last_limit n step p) step ≤ n
  places_few = few_by n (first_limit n step o) (last_limit n step p) step (first_between n step o) (last_between n step p)

-- ---- bounds

pub bound_given : (v : rust.Value) (s : Moment) → (v ≡ values.None → ⊥) → bound_of (value_of v) s ≡ and_then (index_of (value_of v) s) (λ z. give (Some z))
bound_given values.None s h = absurd (h refl)
bound_given (values.Bool b) s h = refl
bound_given (values.Int z) s h = refl
bound_given (values.Text t) s h = refl
bound_given (values.Range a b c) s h = refl
bound_given (values.Builtin k) s h = refl
bound_given (values.Class k) s h = refl
bound_given (values.Node i) s h = refl

pub bound_fails : (v : rust.Value) (s : Moment) (f : Fault) → (v ≡ values.None → ⊥) → Fails f s (index_of (value_of v) s) → Fails f s (bound_of (value_of v) s)
bound_fails v s f h k = subst (λ (x : Ends (Option ℤ)). Fails f s x) (sym (bound_given v s h)) (fails_on (λ z. give (Some z)) f s (index_of (value_of v) s) k)

pub bound_number : (v : rust.Value) (s : Moment) (z : ℤ) → (v ≡ values.None → ⊥) → index_of (value_of v) s ≡ fine z s → bound_of (value_of v) s ≡ fine (Some z) s
bound_number v s z h k = bound_given v s h ∙ ap (λ (x : Ends ℤ). and_then x (λ z. give (Some z))) k

module _ (n : ℕ) (start stop step : Value) (s : Moment) where
  abbrev with_step : Option ℤ → Option ℤ → ℤ → M (List ℤ)
  with_step a b c = give (places_between (first_limit n c a) (last_limit n c b) c)

  abbrev with_stop : Option ℤ → Option ℤ → M (List ℤ)
  with_stop a b = (bound_of step >>= step_from) >>= with_step a b

  abbrev with_start : Option ℤ → M (List ℤ)
  with_start a = bound_of stop >>= with_stop a

  pub start_fails : (f : Fault) → Fails f s (bound_of start s) → Fails f s (slice_places n start stop step s)
  start_fails f h = fails_on with_start f s (bound_of start s) h

  module _ (a : Option ℤ) (e : bound_of start s ≡ fine a s) where
    start_asked : slice_places n start stop step s ≡ with_start a s
    start_asked = ap (λ (x : Ends (Option ℤ)). and_then x with_start) e

    pub stop_fails : (f : Fault) → Fails f s (bound_of stop s) → Fails f s (slice_places n start stop step s)
    stop_fails f h = subst (λ (x : Ends (List ℤ)). Fails f s x) (sym start_asked) (fails_on (with_stop a) f s (bound_of stop s) h)

    module _ (b : Option ℤ) (g : bound_of stop s ≡ fine b s) where
      stop_asked : slice_places n start stop step s ≡ with_stop a b s
      stop_asked = start_asked ∙ ap (λ (x : Ends (Option ℤ)). and_then x (with_stop a)) g

      pub step_fails : (f : Fault) → Fails f s (bound_of step s) → Fails f s (slice_places n start stop step s)
      step_fails f h = subst (λ (x : Ends (List ℤ)). Fails f s x) (sym stop_asked) (fails_on (with_step a b) f s (and_then (bound_of step s) step_from) (fails_on step_from f s (bound_of step s) h))

      pub step_refused : (o : Option ℤ) (f : Fault) → bound_of step s ≡ fine o s → Fails f s (step_from o s) → Fails f s (slice_places n start stop step s)
      step_refused o f i h =
          subst (λ (x : Ends (List ℤ)). Fails f s x) (sym stop_asked)
          (fails_on (with_step a b) f s (and_then (bound_of step s) step_from) (subst (λ (x : Ends ℤ). Fails f s x) (sym (ap (λ (x : Ends (Option ℤ)). and_then x step_from) i)) h))

      pub places_given : (o : Option ℤ) (c : ℤ) → bound_of step s ≡ fine o s → step_from o s ≡ fine c s → slice_places n start stop step s ≡ fine (places_between (first_limit n c a) (last_limit n c b) c) s
      places_given o c i h =
          stop_asked ∙ ap (λ (x : Ends (Option ℤ)). and_then (and_then x step_from) (with_step a b)) i
          ∙ ap (λ (x : Ends ℤ). and_then x (with_step a b)) h

-- ---- what stands at the places

module _ {A : Type 0} (as' : List A) (start stop step : Value) (s t u : Moment) where
  abbrev taken_there : List ℤ → M (List A)
  taken_there zs = spend (length zs) >>= λ _. give (filter_map (at_place as') zs)

  pub picked_fails : (n : ℕ) (f : Fault) → n ≡ length as' → Fails f t (slice_places n start stop step s) → Fails f t (picked as' start stop step s)
  picked_fails n f e h = rw e at (fails_on taken_there f t (slice_places n start stop step s) h)

  placed_there : (n : ℕ) (zs : List ℤ) → n ≡ length as' → slice_places n start stop step s ≡ fine zs t → picked as' start stop step s ≡ taken_there zs t
  placed_there n zs e h =
      ap (λ (m : ℕ). and_then (slice_places m start stop step s) taken_there) (sym e) ∙ ap (λ (x : Ends (List ℤ)). and_then x taken_there) h

  pub spend_fails : (n : ℕ) (zs : List ℤ) (f : Fault) → n ≡ length as' → slice_places n start stop step s ≡ fine zs t → Fails f u (spend (length zs) t) → Fails f u (picked as' start stop step s)
  spend_fails n zs f e h k = subst (λ (x : Ends (List A)). Fails f u x) (sym (placed_there n zs e h)) (fails_on (λ _. give (filter_map (at_place as') zs)) f u (spend (length zs) t) k)

  pub picked_there : (n : ℕ) (zs : List ℤ) → n ≡ length as' → slice_places n start stop step s ≡ fine zs t → spend (length zs) t ≡ fine tt u → picked as' start stop step s ≡ fine (filter_map (at_place as') zs) u
  picked_there n zs e h k = placed_there n zs e h ∙ ap (λ (x : Ends (Unit {0})). and_then x (λ _. give (filter_map (at_place as') zs))) k

module _ (start stop step : Value) (s t u : Moment) where
  pub maybe_unplaced : (o : Option (List Value)) (n : ℕ) (f : Fault) → Some n ≡ option_map (λ vs. length vs) o → Fails f t (slice_places n start stop step s) → Fails f t (maybe_picked o start stop step s)
  maybe_unplaced (Some vs) n f e h =
      let long : n ≡ length vs = cc in
      fails_on (λ ws. give (Some ws)) f t (picked vs start stop step s) (picked_fails vs start stop step s t u n f long h)
  maybe_unplaced None n f e h = absurd cc

  pub maybe_unpaid : (o : Option (List Value)) (n : ℕ) (zs : List ℤ) (f : Fault) → Some n ≡ option_map (λ vs. length vs) o → slice_places n start stop step s ≡ fine zs t → Fails f u (spend (length zs) t) → Fails f u (maybe_picked o start stop step s)
  maybe_unpaid (Some vs) n zs f e h k =
      let long : n ≡ length vs = cc in
      fails_on (λ ws. give (Some ws)) f u (picked vs start stop step s) (spend_fails vs start stop step s t u n zs f long h k)
  maybe_unpaid None n zs f e h k = absurd cc

  pub maybe_given : (o : Option (List Value)) (n : ℕ) (zs : List ℤ) → Some n ≡ option_map (λ vs. length vs) o → slice_places n start stop step s ≡ fine zs t → spend (length zs) t ≡ fine tt u → maybe_picked o start stop step s ≡ fine (Some (filter_map (at_place (or_none_there o)) zs)) u
  maybe_given (Some vs) n zs e h k =
      let long : n ≡ length vs = cc in
      ap (λ (x : Ends (List Value)). and_then x (λ ws. give (Some ws))) (picked_there vs start stop step s t u n zs long h k)
  maybe_given None n zs e h k = absurd cc

pub none_there : (zs : List ℤ) → filter_map (at_place {A = Value} []) zs ≡ []
none_there [] = refl
none_there (pos i ∷ zs) = none_there zs
none_there (negsuc i ∷ zs) = none_there zs

taken_sound : (n : ℕ) (vs : List Value) (i : ℕ) (o : Option Value) (ws : List Value) → slice_get vs i ≡ o → IsTrue (are_sound n vs) → IsTrue (are_sound n ws) → IsTrue (are_sound n (cons_option o ws))
taken_sound n vs i (Some v) ws e h k = both (is_sound n v) (are_sound n ws) (sound_there n vs i v e h) k
taken_sound n vs i None ws e h k = k

pub there_sound : (n : ℕ) (vs : List Value) (zs : List ℤ) → IsTrue (are_sound n vs) → IsTrue (are_sound n (filter_map (at_place vs) zs))
there_sound n vs [] h = refl
there_sound n vs (pos i ∷ zs) h = taken_sound n vs i (slice_get vs i) (filter_map (at_place vs) zs) refl h (there_sound n vs zs h)
there_sound n vs (negsuc i ∷ zs) h = there_sound n vs zs h

pub taken_sound_if : {E : Type 0} (n : ℕ) (r : Result (Vec rust.Value Global) E) (vs : List Value) (zs : List ℤ) → IsTrue (are_sound n vs) → IfOk r (λ v. map value_of v.items ≡ filter_map (at_place vs) zs) → IfOk r (λ v. IsTrue (are_sound n (map value_of v.items)))
taken_sound_if n (Ok v) vs zs h e = subst (λ (ws : List Value). IsTrue (are_sound n ws)) (sym e) (there_sound n vs zs h)
taken_sound_if n (Err x) vs zs h e = tt

-- ---- of a node

module _ (v start stop step : Value) (s t : Moment) where
  abbrev some_there : Ends (List Value) → Ends (Option (List Value))
  some_there e = and_then e (λ ws. give (Some ws))

  there : (e : Ends (List Value)) (ws : List Value) → some_there e ≡ fine (Some ws) t → e ≡ fine ws t
  there (fine us u) ws h =
      let same : us ≡ ws = cc in
      let now : u ≡ t = cc in
      ap (λ (xs : List Value). fine xs u) same ∙ ap (λ (x : Moment). fine ws x) now
  there (raised x u) ws h = absurd cc
  there (stopped u) ws h = absurd cc

  fails_there : (e : Ends (List Value)) (f : Fault) → Fails f t (some_there e) → Fails f t e
  fails_there (fine us u) (faults.Raised x) h = absurd cc
  fails_there (raised x u) (faults.Raised y) h =
      let same : x ≡ thrown_of y = cc in
      let now : u ≡ t = cc in
      ap (λ (z : Thrown). raised z u) same ∙ ap (λ (z : Moment). raised (thrown_of y) z) now
  fails_there (stopped u) (faults.Raised x) h = absurd cc
  fails_there (fine us u) faults.Stopped h = absurd cc
  fails_there (raised x u) faults.Stopped h = absurd cc
  fails_there (stopped u) faults.Stopped h =
      let now : u ≡ t = cc in
      ap (λ (z : Moment). stopped z) now
  fails_there e faults.NoMemory h = tt

  abbrev maybe_there : Option Node → Ends (Option (List Value))
  maybe_there o = maybe_picked (items_from o) start stop step s

  pub list_sliced : (o : Option Node) (ws : List Value) → maybe_there o ≡ fine (Some ws) t → is_some (list_from o) ≡ true → node_slice v start stop step o s ≡ new_list ws t
  list_sliced (Some (list vs)) ws h k = ap (λ (x : Ends (List Value)). and_then x new_list) (there (picked vs start stop step s) ws h)
  list_sliced (Some (tuple vs)) ws h k = absurd cc
  list_sliced (Some (dict es)) ws h k = absurd cc
  list_sliced (Some (object as')) ws h k = absurd cc
  list_sliced (Some (function profile code vs)) ws h k = absurd cc
  list_sliced (Some (exception kind vs)) ws h k = absurd cc
  list_sliced None ws h k = absurd cc

  pub tuple_sliced : (o : Option Node) (ws : List Value) → maybe_there o ≡ fine (Some ws) t → is_some (list_from o) ≡ false → node_slice v start stop step o s ≡ new_tuple ws t
  tuple_sliced (Some (tuple vs)) ws h k = ap (λ (x : Ends (List Value)). and_then x new_tuple) (there (picked vs start stop step s) ws h)
  tuple_sliced (Some (list vs)) ws h k = absurd cc
  tuple_sliced (Some (dict es)) ws h k = absurd cc
  tuple_sliced (Some (object as')) ws h k = absurd cc
  tuple_sliced (Some (function profile code vs)) ws h k = absurd cc
  tuple_sliced (Some (exception kind vs)) ws h k = absurd cc
  tuple_sliced None ws h k = absurd cc

  none_fails : {A : Type 0} (e : Ends A) (f : Fault) → Fails {A = Option (List Value)} f t (fine None s) → Fails f t e
  none_fails e (faults.Raised x) h = absurd cc
  none_fails e faults.Stopped h = absurd cc
  none_fails e faults.NoMemory h = tt

  pub slice_fails : (o : Option Node) (f : Fault) → Fails f t (maybe_there o) → Fails f t (node_slice v start stop step o s)
  slice_fails (Some (list vs)) f h = fails_on new_list f t (picked vs start stop step s) (fails_there (picked vs start stop step s) f h)
  slice_fails (Some (tuple vs)) f h = fails_on new_tuple f t (picked vs start stop step s) (fails_there (picked vs start stop step s) f h)
  slice_fails (Some (dict es)) f h = none_fails (not_subscriptable v s) f h
  slice_fails (Some (object as')) f h = none_fails (not_subscriptable v s) f h
  slice_fails (Some (function profile code vs)) f h = none_fails (not_subscriptable v s) f h
  slice_fails (Some (exception kind vs)) f h = none_fails (not_subscriptable v s) f h
  slice_fails None f h = none_fails (not_subscriptable v s) f h
