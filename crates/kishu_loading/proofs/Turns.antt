-- Loops that read one thing after another: what was read, and what the turns that are left read.
use Rattle.std.specs.Prelude.{◌≡◌, ℕ, suc, ◌+◌, ◌-◌, ◌<◌, ◌≤◌, Bool, true, false, not, nat_lt, if◌then◌else◌, List, [], ◌∷◌, ◌++◌, length, Option, Some, None, option_map, slice_get, Ok, Err}
use Rattle.std.specs.List.{list_any}
use Rattle.std.specs.Rc.{rc_str_bytes}
use Rattle.std.specs.declared.alloc.Global.{Global}
use Rattle.std.specs.declared.rc.RcStr.{RcStr}
use Rattle.std.proofs.Common.{refl, sym, ap, subst, ◌∙◌, arith, append_assoc, append-nil}
use Rattle.std.proofs.lemmas.Bool.{lt-ltb, le-ltb}
use Rattle.kishu_meaning.specs.declared.value.Value as rust
use Rattle.kishu_names.specs.Namespace.{names_of}
use Rattle.kishu_meaning.specs.values.Values.{Value, Node, Names}
use Rattle.kishu_reading.specs.FromBytes.{Front, Reading, Reader, ◌>>=◌, and_then, give, keeping, repeated}
use Rattle.kishu_loading.specs.declared.cursor.Stop.{Stop}
use Rattle.kishu_loading.specs.declared.cursor.Stop.TheVariants as stop
use Rattle.kishu_loading.specs.Fronts.{Fails, Forward}
use Rattle.kishu_loading.specs.Moving.{read_as, pairs_by, row_by, rows_by, name_behind, names_by}
use Rattle.kishu_loading.specs.Seen.{seen_from, last_from}

fewer : (n i : ℕ) → i < n → n - i ≡ suc (n - (i + 1))
fewer n i h = omega arith

none_left : (n i : ℕ) → n ≤ i → n - i ≡ 0
none_left n i h = omega arith

-- a call that stops where a reader that begins with its reader stops
pub fails_by : {A B : Type 0} (o : Reading A) (x : Reading B) (e : Stop) → ((left : ℕ) → o ≡ Err left → x ≡ Err left) → Fails o e → Fails x e
fails_by o x (stop.Fault left) h k = h left k
fails_by o x stop.NoMemory h k = tt

-- on and on
pub forward_on : (a b d : Front) → Forward a b → Forward b d → Forward a d
forward_on a b d h k = (omega (arith, h.0, k.0), omega (arith, h.1, k.1))

-- ---- one more behind what was read

grown : {A : Type 0} (done : List A) (a : A) (o : Reading (List A)) → read_as (λ as'. done ++ as') (and_then o (λ as'. give (a ∷ as'))) ≡ read_as
    (λ as'. (done ++ a ∷ []) ++ as') o
grown done a (Ok r) = ap (λ as'. Ok (as', r.1)) (sym (append_assoc done (a ∷ []) r.0))
grown done a (Err left) = refl

ended : {A : Type 0} (done : List A) (s : Front) → ◌≡◌ {A = Reading (List A)} (Ok (done ++ [], s)) (Ok (done, s))
ended done s = ap (λ as'. Ok (as', s)) (append-nil done)

-- ---- things

-- Of so many things these were read in so many turns.
pub record Turned {A : Type 0} (p : Reader A) (count turn : ℕ) (first : Front) (done : List A) (here : Front) : Type 0 where
  pub is : repeated count p first ≡ read_as (λ as'. done ++ as') (repeated (count - turn) p here)

module _ {A : Type 0} (p : Reader A) (count : ℕ) (first : Front) where
  same_reading : (o : Reading (List A)) → o ≡ read_as (λ as'. [] ++ as') o
  same_reading (Ok r) = refl
  same_reading (Err left) = refl

  pub turned_first : Turned p count 0 first [] first
  turned_first = record {
    is = same_reading (repeated count p first) ∙ ap (λ n. read_as (λ as'. [] ++ as') (repeated n p first))
        (let e : count ≡ count - 0 = omega arith in e);
  }

  module _ (turn : ℕ) (done : List A) (here : Front) (more : turn < count) (h : Turned p count turn first done here) where
    opened : repeated count p first ≡ read_as (λ as'. done ++ as')
        (and_then (p here) (λ a. repeated (count - (turn + 1)) p >>= λ as'. give (a ∷ as')))
    opened = h.is ∙ ap (λ n. read_as (λ as'. done ++ as') (repeated n p here)) (fewer count turn more)

    pub turned_on : (a : A) (next : Front) → p here ≡ Ok (a, next) → Turned p count (turn + 1) first (done ++ a ∷ []) next
    turned_on a next e = record {
      is = opened
          ∙ ap (λ o. read_as (λ as'. done ++ as') (and_then o (λ b. repeated (count - (turn + 1)) p >>= λ as'. give (b ∷ as')))) e
          ∙ grown done a (repeated (count - (turn + 1)) p next);
    }

    pub turned_fault : (left : ℕ) → p here ≡ Err left → repeated count p first ≡ Err left
    turned_fault left e = opened ∙ ap (λ o. read_as (λ as'. done ++ as')
        (and_then o (λ b. repeated (count - (turn + 1)) p >>= λ as'. give (b ∷ as')))) e

  pub turned_begin : (done : List A) → done ≡ [] → Turned p count 0 first done first
  turned_begin done e = subst (λ d. Turned p count 0 first d first) (sym e) turned_first

  module _ (turn : ℕ) (done : List A) (here : Front) (more : turn < count) (h : Turned p count turn first done here) where
    pub turned_push : (a : A) (next : Front) (new : List A) → p here ≡ Ok (a, next) → new ≡ done ++ a ∷ [] → Turned p count (turn + 1) first new next
    turned_push a next new e g = subst (λ d. Turned p count (turn + 1) first d next) (sym g) (turned_on turn done here more h a next e)

    pub turned_fails : (e : Stop) → Fails (p here) e → Fails (repeated count p first) e
    turned_fails e k = fails_by (p here) (repeated count p first) e (turned_fault turn done here more h) k

  pub turned_end : (turn : ℕ) (done : List A) (here : Front) → count ≤ turn → Turned p count turn first done here
      → repeated count p first ≡ Ok (done, here)
  turned_end turn done here all h = h.is ∙ ap (λ n. read_as (λ as'. done ++ as') (repeated n p here)) (none_left count turn all) ∙ ended done here

-- ---- pairs

pub seen_more : {K : Type 0} (es : List (K × Value)) (e : K × Value) (seen : List K) → seen_from (es ++ e ∷ []) seen ≡ e.0 ∷ seen_from es seen
seen_more [] e seen = refl
seen_more (x ∷ es) e seen = seen_more es e (x.0 ∷ seen)

-- the same of pairs
pub record Paired {K : Type 0} (same : K → K → Bool) (one : Reader K) (v : Reader Value) (count turn : ℕ) (first : Front)
    (done : List (K × Value)) (here : Front) : Type 0 where
  pub is : pairs_by same one v count [] first ≡ read_as (λ es. done ++ es) (pairs_by same one v (count - turn) (seen_from done []) here)

module _ {K : Type 0} (same : K → K → Bool) (one : Reader K) (v : Reader Value) (count : ℕ) (first : Front) where
  same_pairs : (o : Reading (List (K × Value))) → o ≡ read_as (λ es. [] ++ es) o
  same_pairs (Ok r) = refl
  same_pairs (Err left) = refl

  pub paired_first : Paired same one v count 0 first [] first
  paired_first = record {
    is = same_pairs (pairs_by same one v count [] first)
        ∙ ap (λ n. read_as (λ es. [] ++ es) (pairs_by same one v n [] first)) (let e : count ≡ count - 0 = omega arith in e);
  }

  abbrev fresh : List (K × Value) → K → Bool
  fresh done x = not (list_any (same x) (seen_from done []))

  abbrev rest_by : ℕ → List (K × Value) → K → Reader (List (K × Value))
  rest_by n done x = v >>= λ w. pairs_by same one v n (x ∷ seen_from done []) >>= λ es. give ((x, w) ∷ es)

  module _ (turn : ℕ) (done : List (K × Value)) (here : Front) (more : turn < count) (h : Paired same one v count turn first done here) where
    pairs_opened : pairs_by same one v count [] first ≡ read_as (λ es. done ++ es)
        (and_then (keeping (fresh done) one here) (rest_by (count - (turn + 1)) done))
    pairs_opened = h.is ∙ ap (λ n. read_as (λ es. done ++ es) (pairs_by same one v n (seen_from done []) here)) (fewer count turn more)

    pub key_fault : (left : ℕ) → keeping (fresh done) one here ≡ Err left → pairs_by same one v count [] first ≡ Err left
    key_fault left e = pairs_opened ∙ ap (λ o. read_as (λ es. done ++ es) (and_then o (rest_by (count - (turn + 1)) done))) e

    module _ (x : K) (mid : Front) (e : keeping (fresh done) one here ≡ Ok (x, mid)) where
      behind_key : pairs_by same one v count [] first
          ≡ read_as (λ es. done ++ es) (and_then (v mid) (λ w. pairs_by same one v (count - (turn + 1)) (x ∷ seen_from done []) >>= λ es. give
          ((x, w) ∷ es)))
      behind_key = pairs_opened ∙ ap (λ o. read_as (λ es. done ++ es) (and_then o (rest_by (count - (turn + 1)) done))) e

      abbrev value_rest : Reading Value → Reading (List (K × Value))
      value_rest o = read_as (λ es. done ++ es)
          (and_then o (λ w. pairs_by same one v (count - (turn + 1)) (x ∷ seen_from done []) >>= λ es. give ((x, w) ∷ es)))

      pub value_fault : (left : ℕ) → v mid ≡ Err left → pairs_by same one v count [] first ≡ Err left
      value_fault left f = behind_key ∙ ap value_rest f

      pub paired_on : (w : Value) (next : Front) → v mid ≡ Ok (w, next) → Paired same one v count (turn + 1) first (done ++ (x, w) ∷ []) next
      paired_on w next f = record {
        is = behind_key
            ∙ ap value_rest f
            ∙ grown done (x, w) (pairs_by same one v (count - (turn + 1)) (x ∷ seen_from done []) next)
            ∙ ap (λ seen. read_as (λ es. (done ++ (x, w) ∷ []) ++ es) (pairs_by same one v (count - (turn + 1)) seen next))
            (sym (seen_more done (x, w) []));
      }

  pub paired_begin : (done : List (K × Value)) → done ≡ [] → Paired same one v count 0 first done first
  paired_begin done e = subst (λ d. Paired same one v count 0 first d first) (sym e) paired_first

  module _ (turn : ℕ) (done : List (K × Value)) (here : Front) (more : turn < count) (h : Paired same one v count turn first done here) where
    pub key_fails : (e : Stop) → Fails (keeping (fresh done) one here) e → Fails (pairs_by same one v count [] first) e
    key_fails e k = fails_by (keeping (fresh done) one here) (pairs_by same one v count [] first) e (key_fault turn done here more h) k

    module _ (x : K) (mid : Front) (e : keeping (fresh done) one here ≡ Ok (x, mid)) where
      pub value_fails : (f : Stop) → Fails (v mid) f → Fails (pairs_by same one v count [] first) f
      value_fails f k = fails_by (v mid) (pairs_by same one v count [] first) f (value_fault turn done here more h x mid e) k

      pub paired_push : (w : Value) (next : Front) (new : List (K × Value)) → v mid ≡ Ok (w, next) → new ≡ done ++ (x, w) ∷ []
          → Paired same one v count (turn + 1) first new next
      paired_push w next new f g = subst (λ d. Paired same one v count (turn + 1) first d next) (sym g)
          (paired_on turn done here more h x mid e w next f)

  pub paired_end : (turn : ℕ) (done : List (K × Value)) (here : Front) → count ≤ turn → Paired same one v count turn first done here
      → pairs_by same one v count [] first ≡ Ok (done, here)
  paired_end turn done here all h = h.is ∙ ap (λ n. read_as (λ es. done ++ es) (pairs_by same one v n (seen_from done []) here))
      (none_left count turn all) ∙ ended done here

-- ---- rows

-- the same of rows
pub record Rowed (v : Reader Value) (count row : ℕ) (first : Front) (done : List Node) (here : Front) : Type 0 where
  pub is : rows_by v count 0 first ≡ read_as (λ ms. done ++ ms) (rows_by v (count - row) row here)

module _ (v : Reader Value) (count : ℕ) (first : Front) where
  same_rows : (o : Reading (List Node)) → o ≡ read_as (λ ms. [] ++ ms) o
  same_rows (Ok r) = refl
  same_rows (Err left) = refl

  pub rowed_first : Rowed v count 0 first [] first
  rowed_first = record {
    is = same_rows (rows_by v count 0 first) ∙ ap (λ n. read_as (λ ms. [] ++ ms) (rows_by v n 0 first))
        (let e : count ≡ count - 0 = omega arith in e);
  }

  module _ (row : ℕ) (done : List Node) (here : Front) (more : row < count) (h : Rowed v count row first done here) where
    abbrev row_rest : Bool → Reading Node → Reading (List Node)
    row_rest b o = read_as (λ ms. done ++ ms)
        (if b then and_then o (λ m. rows_by v (count - (row + 1)) (suc row) >>= λ ms. give (m ∷ ms)) else Err (length here.rest))

    rows_opened : rows_by v count 0 first ≡ row_rest (nat_lt row here.met) (row_by v here)
    rows_opened = h.is ∙ ap (λ n. read_as (λ ms. done ++ ms) (rows_by v n row here)) (fewer count row more)

    pub row_unmet : nat_lt row here.met ≡ false → rows_by v count 0 first ≡ Err (length here.rest)
    row_unmet e = rows_opened ∙ ap (λ b. row_rest b (row_by v here)) e

    module _ (met : nat_lt row here.met ≡ true) where
      row_opened : rows_by v count 0 first ≡ row_rest true (row_by v here)
      row_opened = rows_opened ∙ ap (λ b. row_rest b (row_by v here)) met

      pub row_fault : (left : ℕ) → row_by v here ≡ Err left → rows_by v count 0 first ≡ Err left
      row_fault left e = row_opened ∙ ap (row_rest true) e

      pub rowed_on : (m : Node) (next : Front) → row_by v here ≡ Ok (m, next) → Rowed v count (row + 1) first (done ++ m ∷ []) next
      rowed_on m next e = record {
        is = row_opened
            ∙ ap (row_rest true) e
            ∙ grown done m (rows_by v (count - (row + 1)) (suc row) next)
            ∙ ap (λ r. read_as (λ ms. (done ++ m ∷ []) ++ ms) (rows_by v (count - (row + 1)) r next)) (let f : suc row ≡ row + 1 = omega arith in f);
      }

  pub rowed_begin : (done : List Node) → done ≡ [] → Rowed v count 0 first done first
  rowed_begin done e = subst (λ d. Rowed v count 0 first d first) (sym e) rowed_first

  module _ (row : ℕ) (done : List Node) (here : Front) (more : row < count) (h : Rowed v count row first done here) where
    pub unmet_fault : here.met ≤ row → rows_by v count 0 first ≡ Err (length here.rest)
    unmet_fault low = row_unmet row done here more h (le-ltb row here.met low)

    module _ (met : row < here.met) where
      pub row_fails : (e : Stop) → Fails (row_by v here) e → Fails (rows_by v count 0 first) e
      row_fails e k = fails_by (row_by v here) (rows_by v count 0 first) e (row_fault row done here more h (lt-ltb row here.met met)) k

      pub rowed_push : (m : Node) (next : Front) (new : List Node) → row_by v here ≡ Ok (m, next) → new ≡ done ++ m ∷ []
          → Rowed v count (row + 1) first new next
      rowed_push m next new e g = subst (λ d. Rowed v count (row + 1) first d next) (sym g)
          (rowed_on row done here more h (lt-ltb row here.met met) m next e)

  pub rowed_end : (row : ℕ) (done : List Node) (here : Front) → count ≤ row → Rowed v count row first done here
      → rows_by v count 0 first ≡ Ok (done, here)
  rowed_end row done here all h = h.is ∙ ap (λ n. read_as (λ ms. done ++ ms) (rows_by v n row here)) (none_left count row all) ∙ ended done here

-- ---- names

pub last_more : (ns : Names) (b : List ℕ × Value) (last : Option (List ℕ)) → last_from last (ns ++ b ∷ []) ≡ Some b.0
last_more [] b last = refl
last_more (n ∷ ns) b last = last_more ns b (Some n.0)

-- the last of a list
pub last_get : (last : Option (List ℕ)) (items : List (RcStr Global × rust.Value)) (e : RcStr Global × rust.Value)
    → slice_get items (length items - 1) ≡ Some e → last_from last (names_of items) ≡ Some (rc_str_bytes e.0)
last_get last [] e h = absurd (cc)
last_get last (x ∷ []) e h = ap (λ (o : Option (RcStr Global × rust.Value)). option_map (λ (p : RcStr Global × rust.Value). rc_str_bytes p.0) o) h
last_get last (x ∷ y ∷ items) e h =
    last_get (Some (rc_str_bytes x.0)) (y ∷ items) e (ap (slice_get (x ∷ y ∷ items))
    (let k : suc (length (y ∷ items) - 1) ≡ length (x ∷ y ∷ items) - 1 = omega arith in k) ∙ h)

-- the same of names
pub record Titled (v : Reader Value) (count turn : ℕ) (first : Front) (done : Names) (here : Front) : Type 0 where
  pub is : names_by v count None first ≡ read_as (λ ns. done ++ ns) (names_by v (count - turn) (last_from None done) here)

module _ (v : Reader Value) (count : ℕ) (first : Front) where
  same_names : (o : Reading Names) → o ≡ read_as (λ ns. [] ++ ns) o
  same_names (Ok r) = refl
  same_names (Err left) = refl

  pub titled_first : Titled v count 0 first [] first
  titled_first = record {
    is = same_names (names_by v count None first) ∙ ap (λ n. read_as (λ ns. [] ++ ns) (names_by v n None first))
        (let e : count ≡ count - 0 = omega arith in e);
  }

  module _ (turn : ℕ) (done : Names) (here : Front) (more : turn < count) (h : Titled v count turn first done here) where
    abbrev title_rest : Reading (List ℕ) → Reading Names
    title_rest o = read_as (λ ns. done ++ ns) (and_then o (λ x. v >>= λ w. names_by v (count - (turn + 1)) (Some x) >>= λ ns. give ((x, w) ∷ ns)))

    names_opened : names_by v count None first ≡ title_rest (name_behind (last_from None done) here)
    names_opened = h.is ∙ ap (λ n. read_as (λ ns. done ++ ns) (names_by v n (last_from None done) here)) (fewer count turn more)

    pub title_fault : (left : ℕ) → name_behind (last_from None done) here ≡ Err left → names_by v count None first ≡ Err left
    title_fault left e = names_opened ∙ ap title_rest e

    module _ (x : List ℕ) (mid : Front) (e : name_behind (last_from None done) here ≡ Ok (x, mid)) where
      abbrev bound_rest : Reading Value → Reading Names
      bound_rest o = read_as (λ ns. done ++ ns) (and_then o (λ w. names_by v (count - (turn + 1)) (Some x) >>= λ ns. give ((x, w) ∷ ns)))

      behind_title : names_by v count None first ≡ bound_rest (v mid)
      behind_title = names_opened ∙ ap title_rest e

      pub bound_fault : (left : ℕ) → v mid ≡ Err left → names_by v count None first ≡ Err left
      bound_fault left f = behind_title ∙ ap bound_rest f

      pub titled_on : (w : Value) (next : Front) → v mid ≡ Ok (w, next) → Titled v count (turn + 1) first (done ++ (x, w) ∷ []) next
      titled_on w next f = record {
        is = behind_title
            ∙ ap bound_rest f
            ∙ grown done (x, w) (names_by v (count - (turn + 1)) (Some x) next)
            ∙ ap (λ last. read_as (λ ns. (done ++ (x, w) ∷ []) ++ ns) (names_by v (count - (turn + 1)) last next)) (sym (last_more done (x, w) None));
      }

  pub titled_begin : (done : Names) → done ≡ [] → Titled v count 0 first done first
  titled_begin done e = subst (λ d. Titled v count 0 first d first) (sym e) titled_first

  module _ (turn : ℕ) (done : Names) (here : Front) (more : turn < count) (h : Titled v count turn first done here) where
    pub title_fails : (e : Stop) → Fails (name_behind (last_from None done) here) e → Fails (names_by v count None first) e
    title_fails e k = fails_by (name_behind (last_from None done) here) (names_by v count None first) e (title_fault turn done here more h) k

    module _ (x : List ℕ) (mid : Front) (e : name_behind (last_from None done) here ≡ Ok (x, mid)) where
      pub bound_fails : (f : Stop) → Fails (v mid) f → Fails (names_by v count None first) f
      bound_fails f k = fails_by (v mid) (names_by v count None first) f (bound_fault turn done here more h x mid e) k

      pub titled_push : (w : Value) (next : Front) (new : Names) → v mid ≡ Ok (w, next) → new ≡ done ++ (x, w) ∷ []
          → Titled v count (turn + 1) first new next
      titled_push w next new f g = subst (λ d. Titled v count (turn + 1) first d next) (sym g) (titled_on turn done here more h x mid e w next f)

  pub titled_end : (turn : ℕ) (done : Names) (here : Front) → count ≤ turn → Titled v count turn first done here
      → names_by v count None first ≡ Ok (done, here)
  titled_end turn done here all h = h.is ∙ ap (λ n. read_as (λ ns. done ++ ns) (names_by v n (last_from None done) here))
      (none_left count turn all) ∙ ended done here
