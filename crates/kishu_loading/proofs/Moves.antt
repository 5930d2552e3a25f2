-- A picture that is read with its numbers moved is the picture, with its numbers moved.
use Rattle.std.specs.Prelude.{◌≡◌, ℕ, zero, suc, ◌+◌, ◌==◌, nat_le, nat_lt, Bool, true, false, not, ◌&&◌, if◌then◌else◌, List, [], ◌∷◌, length, map, Option, Some, None, Ok, Err}
use Rattle.std.specs.List.{list_any}
use Rattle.std.specs.Str.{bytes_eq}
use Rattle.std.proofs.Common.{refl, ap, ◌∙◌}
use Rattle.kishu_language.specs.Limits.{longest_text}
use Rattle.kishu_language.specs.tokens.Names.{is_name}
use Rattle.kishu_meaning.specs.values.Keys.{is_one}
use Rattle.kishu_meaning.specs.values.Sound.{is_exception_class}
use Rattle.kishu_meaning.specs.values.Values.{Value, Node, list, tuple, dict, object, function, exception, State}
use Rattle.kishu_objects.specs.Shape.{each_child}
use Rattle.kishu_objects.specs.Picture.{named}
use Rattle.kishu_reading.specs.FromBytes as r
use Rattle.kishu_reading.specs.FromBytes.{Front, Reading, Reader, ◌>>=◌, and_then, give, keeping, repeated, byte, bytes, number, value, key, short_name, profile, is_code, code_defaults, is_number, is_behind, node_count, at_end, whole_picture}
use Rattle.kishu_loading.specs.Moving.{read_as, moved, is_there, moved_value, one_key, attribute, name_behind, values_by, pairs_by, entries_by, attributes_by, function_by, row_behind_by, row_by, rows_by, names_by, moved_picture}

-- ---- readers

module _ {A B X Y : Type 0} (f : A → B) (g : X → Y) where
  -- where each of two readers goes on from what was read as another thing
  pub then_moved : (o : Reading A) (k : A → Reader X) (h : B → Reader Y) → ((a : A) (s : Front) → h (f a) s ≡ read_as g (k a s))
      → and_then (read_as f o) h ≡ read_as g (and_then o k)
  then_moved (Ok a) k h e = e a.0 a.1
  then_moved (Err left) k h e = refl

module _ {A X Y : Type 0} (g : X → Y) where
  pub then_alike : (o : Reading A) (k : A → Reader X) (h : A → Reader Y) → ((a : A) (s : Front) → h a s ≡ read_as g (k a s))
      → and_then o h ≡ read_as g (and_then o k)
  then_alike (Ok a) k h e = e a.0 a.1
  then_alike (Err left) k h e = refl

module _ {X Y : Type 0} (g : X → Y) where
  -- the one or the other
  chosen : (b : Bool) (p q : Reader Y) (k l : Reader X) (s : Front) → p s ≡ read_as g (k s) → q s ≡ read_as g (l s)
      → (if b then p else q) s ≡ read_as g ((if b then k else l) s)
  chosen true p q k l s e f = e
  chosen false p q k l s e f = f

-- with the same behind it
module _ {A : Type 0} where
  alike_then : {B : Type 0} (o : Reading A) (k h : A → Reader B) → ((a : A) (s : Front) → h a s ≡ k a s) → and_then o h ≡ and_then o k
  alike_then (Ok a) k h e = e a.0 a.1
  alike_then (Err left) k h e = refl

module _ {A B : Type 0} (f : A → B) (p : Reader A) (q : Reader B) (one : (s : Front) → q s ≡ read_as f (p s)) where
  pub repeated_moved : (n : ℕ) (s : Front) → repeated n q s ≡ read_as (map f) (repeated n p s)
  repeated_moved zero s = refl
  repeated_moved (suc n) s =
      ap (λ o. and_then o (λ a. repeated n q >>= λ as'. give (a ∷ as'))) (one s)
      ∙ then_moved f (map f) (p s) (λ a. repeated n p >>= λ as'. give (a ∷ as')) (λ a. repeated n q >>= λ as'. give (a ∷ as'))
      (λ a t. ap (λ o. and_then o (λ as'. give (f a ∷ as'))) (repeated_moved n t)
      ∙ then_moved (map f) (map f) (repeated n p t) (λ as'. give (a ∷ as')) (λ as'. give (f a ∷ as')) (λ as' u. refl))

-- ---- rows

module _ (base : ℕ) (count : Option ℕ) where
  abbrev there : ℕ → Bool
  there = is_there count

  abbrev move : Value → Value
  move = moved base

  abbrev v : Reader Value
  v = moved_value base count

  abbrev move_pair : {K : Type 0} → K × Value → K × Value
  move_pair e = (e.0, move e.1)

  pub value_moved : (s : Front) → v s ≡ read_as move (value there s)
  unfolding moved_value
  value_moved s = refl

  values_moved : (s : Front) → values_by v s ≡ read_as (map move) (r.values there s)
  values_moved s = then_alike (map move) (number s) (λ n. repeated n (value there)) (λ n. repeated n v)
      (λ n t. repeated_moved move (value there) v value_moved n t)

  module _ {K : Type 0} (same : K → K → Bool) (one other : Reader K) (alike : (s : Front) → other s ≡ one s) where
    pairs_moved : (n : ℕ) (seen : List K) (s : Front) → pairs_by same other v n seen s ≡ read_as (map move_pair) (r.pairs same one there n seen s)
    pairs_moved zero seen s = refl
    pairs_moved (suc n) seen s =
        ap (λ o. and_then (and_then o (λ x t. if not (list_any (same x) seen) then Ok (x, t) else Err (length s.rest)))
        (λ x. v >>= λ w. pairs_by same other v n (x ∷ seen) >>= λ es. give ((x, w) ∷ es))) (alike s)
        ∙ then_alike (map move_pair) (keeping (λ x. not (list_any (same x) seen)) one s)
        (λ x. value there >>= λ w. r.pairs same one there n (x ∷ seen) >>= λ es. give ((x, w) ∷ es))
        (λ x. v >>= λ w. pairs_by same other v n (x ∷ seen) >>= λ es. give ((x, w) ∷ es))
        (λ x t.
        ap (λ o. and_then o (λ w. pairs_by same other v n (x ∷ seen) >>= λ es. give ((x, w) ∷ es))) (value_moved t)
        ∙ then_moved move (map move_pair) (value there t)
        (λ w. r.pairs same one there n (x ∷ seen) >>= λ es. give ((x, w) ∷ es))
        (λ w. pairs_by same other v n (x ∷ seen) >>= λ es. give ((x, w) ∷ es))
        (λ w u.
        ap (λ o. and_then o (λ es. give ((x, move w) ∷ es))) (pairs_moved n (x ∷ seen) u)
        ∙ then_moved (map move_pair) (map move_pair) (r.pairs same one there n (x ∷ seen) u) (λ es. give ((x, w) ∷ es))
        (λ es. give ((x, move w) ∷ es)) (λ es z. refl)))

  keys_alike : (s : Front) → one_key s ≡ key s
  unfolding one_key
  keys_alike s = refl

  attributes_alike : (s : Front) → attribute s ≡ short_name is_name s
  unfolding attribute
  attributes_alike s = refl

  abbrev child_moved : Node → Node
  child_moved = each_child move

  list_moved : (s : Front) → (values_by v >>= λ vs. give (list vs)) s ≡ read_as child_moved ((r.values there >>= λ vs. give (list vs)) s)
  list_moved s = ap (λ o. and_then o (λ vs. give (list vs))) (values_moved s)
      ∙ then_moved (map move) child_moved (r.values there s) (λ vs. give (list vs)) (λ vs. give (list vs)) (λ vs t. refl)

  tuple_moved : (s : Front) → (values_by v >>= λ vs. give (tuple vs)) s ≡ read_as child_moved ((r.values there >>= λ vs. give (tuple vs)) s)
  tuple_moved s = ap (λ o. and_then o (λ vs. give (tuple vs))) (values_moved s)
      ∙ then_moved (map move) child_moved (r.values there s) (λ vs. give (tuple vs)) (λ vs. give (tuple vs)) (λ vs t. refl)

  dict_moved : (s : Front) → (number >>= λ n. entries_by v n >>= λ es. give (dict es)) s ≡ read_as child_moved
      ((number >>= λ n. r.entries there n >>= λ es. give (dict es)) s)
  dict_moved s = then_alike child_moved (number s) (λ n. r.entries there n >>= λ es. give (dict es)) (λ n. entries_by v n >>= λ es. give (dict es))
      (λ n t. ap (λ o. and_then o (λ es. give (dict es))) (pairs_moved is_one key one_key keys_alike n [] t)
      ∙ then_moved (map move_pair) child_moved (r.entries there n t) (λ es. give (dict es)) (λ es. give (dict es)) (λ es u. refl))

  object_moved : (s : Front) → (number >>= λ n. attributes_by v n >>= λ as'. give (object as')) s ≡ read_as child_moved
      ((number >>= λ n. r.attributes there n >>= λ as'. give (object as')) s)
  object_moved s = then_alike child_moved (number s) (λ n. r.attributes there n >>= λ as'. give (object as'))
      (λ n. attributes_by v n >>= λ as'. give (object as'))
      (λ n t. ap (λ o. and_then o (λ as'. give (object as'))) (pairs_moved bytes_eq (short_name is_name) attribute attributes_alike n [] t)
      ∙ then_moved (map move_pair) child_moved (r.attributes there n t) (λ as'. give (object as')) (λ as'. give (object as')) (λ as' u. refl))

  exception_moved : (s : Front) → (keeping is_exception_class byte >>= λ c. values_by v >>= λ vs. give (exception c vs)) s ≡ read_as child_moved
      ((keeping is_exception_class byte >>= λ c. r.values there >>= λ vs. give (exception c vs)) s)
  exception_moved s = then_alike child_moved (keeping is_exception_class byte s) (λ c. r.values there >>= λ vs. give (exception c vs))
      (λ c. values_by v >>= λ vs. give (exception c vs))
      (λ c t. ap (λ o. and_then o (λ vs. give (exception c vs))) (values_moved t)
      ∙ then_moved (map move) child_moved (r.values there t) (λ vs. give (exception c vs)) (λ vs. give (exception c vs)) (λ vs u. refl))

  function_moved : (s : Front) → function_by v s ≡ read_as child_moved (r.function_row there s)
  unfolding function_by
  function_moved s = then_alike child_moved (profile s) _ _ (λ rules t.
      then_alike child_moved (keeping (λ n. nat_le n longest_text) number t) _ _ (λ n u.
      then_alike child_moved (keeping (is_code rules) (bytes n) u) _ _ (λ code w.
      then_alike child_moved (keeping (is_number (code_defaults rules code)) number w) _ _ (λ many x.
      ap (λ o. and_then o (λ vs. give (function rules code vs))) (repeated_moved move (value there) v value_moved many x)
      ∙ then_moved (map move) child_moved (repeated many (value there) x) (λ vs. give (function rules code vs))
      (λ vs. give (function rules code vs)) (λ vs y. refl)))))

  kinds_moved : (kind : ℕ) (s : Front) → row_behind_by v kind s ≡ read_as child_moved (r.row_behind there kind s)
  kinds_moved kind s =
      chosen child_moved (kind == 1) _ _ _ _ s (list_moved s)
      (chosen child_moved (kind == 2) _ _ _ _ s (tuple_moved s)
      (chosen child_moved (kind == 3) _ _ _ _ s (dict_moved s)
      (chosen child_moved (kind == 4) _ _ _ _ s (object_moved s)
      (chosen child_moved (kind == 5) _ _ _ _ s (function_moved s) (exception_moved s)))))

  row_moved : (s : Front) → row_by v s ≡ read_as child_moved (r.row there s)
  unfolding row_by
  row_moved s = then_alike child_moved (keeping (λ kind. nat_le 1 kind && nat_le kind 6) byte s) (r.row_behind there) (row_behind_by v) kinds_moved

  if_met : (b : Bool) (p : Reading (List Node)) (q : Reading (List Node)) (left : ℕ) → p ≡ read_as (map child_moved) q
      → (if b then p else Err left) ≡ read_as (map child_moved) (if b then q else Err left)
  if_met true p q left e = e
  if_met false p q left e = refl

  pub rows_moved : (n row : ℕ) (s : Front) → rows_by v n row s ≡ read_as (map child_moved) (r.rows there n row s)
  rows_moved zero row s = refl
  rows_moved (suc n) row s =
      if_met (nat_lt row s.met) _ _ (length s.rest)
      (ap (λ o. and_then o (λ m. rows_by v n (suc row) >>= λ ms. give (m ∷ ms))) (row_moved s)
      ∙ then_moved child_moved (map child_moved) (r.row there s) (λ m. r.rows there n (suc row) >>= λ ms. give (m ∷ ms))
      (λ m. rows_by v n (suc row) >>= λ ms. give (m ∷ ms))
      (λ m t. ap (λ o. and_then o (λ ms. give (child_moved m ∷ ms))) (rows_moved n (suc row) t)
      ∙ then_moved (map child_moved) (map child_moved) (r.rows there n (suc row) t) (λ ms. give (m ∷ ms)) (λ ms. give (child_moved m ∷ ms))
      (λ ms u. refl)))

-- ---- names, and the whole

module _ (base : ℕ) where
  abbrev move_name : List ℕ × Value → List ℕ × Value
  move_name = named (λ i. base + i)

  names_alike : (last : Option (List ℕ)) (s : Front) → name_behind last s ≡ short_name (λ x. is_name x && is_behind last x) s
  unfolding name_behind
  names_alike last s = refl

  names_moved : (n : ℕ) (last : Option (List ℕ)) (s : Front) → names_by (moved_value base None) n last s ≡ read_as (map move_name) (r.names n last s)
  names_moved zero last s = refl
  names_moved (suc n) last s =
      ap (λ o. and_then o (λ x. moved_value base None >>= λ w. names_by (moved_value base None) n (Some x) >>= λ ns. give ((x, w) ∷ ns)))
      (names_alike last s)
      ∙ then_alike (map move_name) (short_name (λ x. is_name x && is_behind last x) s)
      (λ x. value (λ i. true) >>= λ w. r.names n (Some x) >>= λ ns. give ((x, w) ∷ ns))
      (λ x. moved_value base None >>= λ w. names_by (moved_value base None) n (Some x) >>= λ ns. give ((x, w) ∷ ns))
      (λ x t.
      ap (λ o. and_then o (λ w. names_by (moved_value base None) n (Some x) >>= λ ns. give ((x, w) ∷ ns))) (value_moved base None t)
      ∙ then_moved (moved base) (map move_name) (value (λ i. true) t)
      (λ w. r.names n (Some x) >>= λ ns. give ((x, w) ∷ ns))
      (λ w. names_by (moved_value base None) n (Some x) >>= λ ns. give ((x, w) ∷ ns))
      (λ w u.
      ap (λ o. and_then o (λ ns. give ((x, moved base w) ∷ ns))) (names_moved n (Some x) u)
      ∙ then_moved (map move_name) (map move_name) (r.names n (Some x) u) (λ ns. give ((x, w) ∷ ns)) (λ ns. give ((x, moved base w) ∷ ns))
      (λ ns z. refl)))

  abbrev pub state_moved : State → State
  state_moved p = record { names = map move_name p.names; nodes = map (each_child (moved base)) p.nodes }

  end_moved : (p : State) (b : Bool) (s : Front) → (if b then Ok (state_moved p, s) else Err (length s.rest)) ≡ read_as state_moved (if b then Ok
      (p, s) else Err (length s.rest))
  end_moved p true s = refl
  end_moved p false s = refl

  pub picture_moved : (s : Front) → moved_picture base s ≡ read_as state_moved (whole_picture s)
  unfolding moved_picture
  picture_moved s = then_alike state_moved (number s) _ _ (λ n t.
      ap (λ o. and_then o (λ ns. node_count >>= λ m. rows_by (moved_value base (Some m)) m 0 >>= λ ms. at_end
      (record { names = ns; nodes = ms }))) (names_moved n None t)
      ∙ then_moved (map move_name) state_moved (r.names n None t)
      (λ ns. node_count >>= λ m. r.rows (λ i. nat_lt i m) m 0 >>= λ ms. at_end (record { names = ns; nodes = ms }))
      (λ ns. node_count >>= λ m. rows_by (moved_value base (Some m)) m 0 >>= λ ms. at_end (record { names = ns; nodes = ms }))
      (λ ns u. then_alike state_moved (node_count u) _ _ (λ m w.
      ap (λ o. and_then o (λ ms. at_end (record { names = map move_name ns; nodes = ms }))) (rows_moved base (Some m) m 0 w)
      ∙ then_moved (map (each_child (moved base))) state_moved (r.rows (λ i. nat_lt i m) m 0 w)
      (λ ms. at_end (record { names = ns; nodes = ms }))
      (λ ms. at_end (record { names = map move_name ns; nodes = ms }))
      (λ ms z. end_moved (record { names = ns; nodes = ms }) (length z.rest == 0) z))))
