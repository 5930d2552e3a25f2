-- The record of a commit of what is told may be written.
use Rattle.std.specs.Prelude.{◌≡◌, ◌<◌, ◌≤◌, ◌^◌, ℕ, ◌*◌, Bool, not, ◌&&◌, List, [], ◌∷◌, length, map, flat_map, refl}
use Rattle.std.specs.List.{AllByRecursion}
use Rattle.std.proofs.Common.{ap, sym, subst, inl, inr, arith, length-append}
use Rattle.std.proofs.lemmas.List.Sums.{sum_by-cons}
use Rattle.kishu_bytes.specs.Numbers.{four}
use Rattle.kishu_meaning.specs.values.Values.{State}
use Rattle.kishu_objects.specs.Bytes.{picture_bytes}
use Rattle.kishu_objects.specs.Fits.{StateFits}
use Rattle.kishu_objects.specs.Lists.{In}
use Rattle.kishu_objects.specs.Picture.{picture, listed}
use Rattle.kishu_objects.specs.Sizes.{size_among, most_bytes}
use Rattle.kishu_objects.specs.States.{IsSoundState}
use Rattle.kishu_objects_laws.specs.GroupLaws.{group_is, class_in}
use Rattle.kishu_objects_laws.specs.ListLaws.{filter_in}
use Rattle.kishu_store.specs.EntryBytes.{text_bytes, group_bytes, stored_bytes}
use Rattle.kishu_store.specs.Groups.{Group, first_name, is_one_of, IsName, IsGroup, AreGroups, IsStored, AreStored, Rise}
use Rattle.kishu_store.specs.Limits.{newest_profile}
use Rattle.kishu_store.specs.Rules.{IsRecord}
use Rattle.kishu_store.specs.Tables.{Table, groups_in, IsKeptTable}
use Rattle.kishu_store_laws.specs.EntryLaws.{length-commit, length-body}
use Rattle.kishu_store_laws.specs.TableLaws.{each-picked}
use Rattle.kishu_model.specs.requests.Cells.{texts_size}
use Rattle.kishu_history.specs.Touched.{holds_any, is_touched, touched, classes, size_told}
use Rattle.kishu_history_laws.specs.Choices.{rise_chosen}
use Rattle.kishu_history_laws.specs.tables.FileLaws.{all_in}
use Rattle.kishu_history_laws.specs.tables.TableLaws.{class_rises, first_inside, firsts_of_rows, groups_rise, rise_picked}
use Rattle.kishu_delta.specs.Deltas.{dropped_by, stored_by}
use Rattle.kishu_commit.specs.LengthLaws.{all_stored-take, fewer-take, fewer-pictured}
use Rattle.kishu_commit.specs.Told.{measured, dropped_told, groups_told, is_still, record_by, told_record, AreToldBy, PicturesFit, CanBeStored, MayBeCommitted, HasShortNames}

texts-length : (cells : List (List ℕ)) → length (flat_map text_bytes cells) ≡ texts_size cells
texts-length [] = refl
texts-length (c ∷ cs) = omega (arith, length-append (text_bytes c) (flat_map text_bytes cs), length-append (four (length c)) c, texts-length cs)

each-in : {A : Type 0} (P : A → Type 0) (xs : List A) → ((x : A) → In x xs → P x) → AllByRecursion P xs
each-in P [] h = tt
each-in P (x ∷ xs) h = (h x (inl refl), each-in P xs (λ y m. h y (inr m)))

some-in : (x : List ℕ) (g : Group) → In x g → 0 < length g
some-in x [] m = absurd m
some-in x (y ∷ g) m = omega arith

-- ---- lists of groups with their pictures

module _ (u : State) where
  one-takes : (gs : List Group) (g : Group) → In g gs → length (picture_bytes u g) ≤ size_among gs u
  one-takes [] g m = absurd m
  one-takes (h ∷ gs) g (inl e) =
      let same = ap (λ (k : Group). length (picture_bytes u k)) e in
      omega (arith, same, sum_by-cons (λ (k : Group). length (picture_bytes u k)) h gs)
  one-takes (h ∷ gs) g (inr m) = omega (arith, one-takes gs g m, sum_by-cons (λ (k : Group). length (picture_bytes u k)) h gs)

  firsts-measured : (gs : List Group) → map (λ (z : Group × ℕ). first_name z.0) (map (measured u) gs) ≡ map first_name gs
  firsts-measured [] = refl
  firsts-measured (g ∷ gs) = ap (λ (xs : List (List ℕ)). first_name g ∷ xs) (firsts-measured gs)

  each-measured : (gs : List Group) → AllByRecursion IsGroup gs → ((g : Group) → In g gs → length (picture_bytes u g) < 2 ^ 64) → AllByRecursion IsStored (map (measured u) gs)
  each-measured [] is short = tt
  each-measured (g ∷ gs) is short = ((is.0, short g (inl refl)), each-measured gs is.1 (λ h m. short h (inr m)))

  pictures-lengths : (gs : List Group) → map length (map (picture_bytes u) gs) ≡ map (λ (z : Group × ℕ). z.1) (map (measured u) gs)
  pictures-lengths [] = refl
  pictures-lengths (g ∷ gs) = ap (λ (ns : List ℕ). length (picture_bytes u g) ∷ ns) (pictures-lengths gs)

  pictures-length : (gs : List Group) → length (flat_map (λ p. p) (map (picture_bytes u) gs)) ≡ size_among gs u
  pictures-length [] = refl
  pictures-length (g ∷ gs) =
      omega (
        arith,
        length-append (picture_bytes u g) (flat_map (λ p. p) (map (picture_bytes u) gs)),
        pictures-length gs,
        sum_by-cons (λ (h : Group). length (picture_bytes u h)) g gs,
      )

-- ---- by a test

module _ (t : Table) (accessed : List (List ℕ)) (u : State) (same : Group → Bool) where
  abbrev gs : List Group
  gs = groups_in t

  abbrev now : List Group
  now = classes gs accessed u

  abbrev goes : Group → Bool
  goes g = holds_any accessed g && not (is_one_of g now && same g)

  abbrev comes : Group → Bool
  comes g = not (is_one_of g gs && same g)

  abbrev drops : List Group
  drops = dropped_by gs accessed u same

  -- What is dropped stands in the table.
  pub dropped-inside : (g : Group) → In g drops → In g gs
  dropped-inside g m = (filter_in goes gs g m).0

  tested-dropped : IsKeptTable t → AreGroups drops
  tested-dropped kept = record {
    each = each-picked IsGroup goes gs kept.groups;
    rise = rise_picked first_name goes gs (subst (λ (xs : List (List ℕ)). Rise xs) (sym (firsts_of_rows t)) kept.rise);
  }

  dropped-short : HasShortNames t → length (flat_map group_bytes drops) ≤ 2 ^ 28
  dropped-short short = omega (arith, short, fewer-take goes gs)

  abbrev stores : List Group
  stores = stored_by gs accessed u same

  stored-class : (g : Group) → In g stores → In g now
  stored-class g m = (filter_in comes now g m).0

  stores-fit : ((g : Group) → In g now → StateFits (picture u g)) → PicturesFit u stores
  stores-fit fits = each-in (λ (g : Group). StateFits (picture u g)) stores (λ g m. fits g (stored-class g m))

  module _ (is : IsSoundState u) where
    touched-rise : Rise (touched gs accessed u)
    touched-rise = rise_chosen (is_touched gs accessed) (listed u) is.rise

    bound : (g : Group) (x : List ℕ) → In g now → In x g → In x (listed u)
    bound g x m n =
        let k = group_is u is.sound (touched gs accessed u) g m in
        let l = class_in u is.sound (touched gs accessed u) k.0 x k.1 (subst (λ (h : Group). In x h) k.2 n) in
        (filter_in (is_touched gs accessed) (listed u) x l).0

    class-group : AllByRecursion IsName (listed u) → (g : Group) → In g now → IsGroup g
    class-group names g m = record {
      some = some-in (first_name g) g (first_inside u is.sound (touched gs accessed u) g m);
      names = each-in IsName g (λ x n. all_in IsName (listed u) names x (bound g x m n));
      rise = class_rises u is.sound (touched gs accessed u) touched-rise g m;
    }

    stores-pictured : size_told t accessed u ≤ most_bytes → size_among stores u ≤ 2 ^ 28
    stores-pictured small = omega (arith, small, fewer-pictured u comes now)

    tested-stored : AllByRecursion IsName (listed u) → size_told t accessed u ≤ most_bytes → AreStored (map (measured u) stores)
    tested-stored names small = record {
      each = each-measured u stores (each-in IsGroup stores (λ g m. class-group names g (stored-class g m))) (λ g m. omega (arith, one-takes u stores g m, stores-pictured small));
      rise = subst (λ (xs : List (List ℕ)). Rise xs) (sym (firsts-measured u stores)) (rise_picked first_name comes now (groups_rise u is.sound (touched gs accessed u) touched-rise));
    }

    stored-short : size_told t accessed u ≤ most_bytes → 2 * length (flat_map stored_bytes (map (measured u) stores)) ≤ 3 * 2 ^ 28
    stored-short small =
        let takes = all_stored-take u stores (λ g x m n. bound g x (stored-class g m) n) in
        omega (arith, takes, stores-pictured small)

    module _ (parent : ℕ) (cells : List (List ℕ)) (number : parent < 2 ^ 32) (may : MayBeCommitted cells) (kept : IsKeptTable t) (short : HasShortNames t)
        (names : AllByRecursion IsName (listed u)) (small : size_told t accessed u ≤ most_bytes) where
      stores-record : IsRecord (record_by parent cells drops stores u)
      stores-record =
          let stored = map (measured u) stores in
          record {
            rules = record {
              parent = number;
              profile = refl;
              some = may.some;
              cells = may.cells;
              dropped = tested-dropped kept;
              stored = tested-stored names small;
            };
            pictures = pictures-lengths u stores;
            small =
                omega (
                  arith,
                  length-body (record_by parent cells drops stores u),
                  length-commit parent newest_profile cells drops stored,
                  length-append (four (length cells)) (flat_map text_bytes cells),
                  length-append (four (length drops)) (flat_map group_bytes drops),
                  length-append (four (length stored)) (flat_map stored_bytes stored),
                  texts-length cells,
                  may.size,
                  dropped-short short,
                  stored-short small,
                  pictures-length u stores,
                  stores-pictured small,
                );
          }

-- Bytes can tell the pictures of stored groups where they can tell those of the classes.
pub tested-fit : (t : Table) (accessed : List (List ℕ)) (u : State) (same : Group → Bool) (dropped stored : List Group) → AreToldBy t accessed u same dropped stored
    → ((g : Group) → In g (classes (groups_in t) accessed u) → StateFits (picture u g)) → PicturesFit u stored
tested-fit t accessed u same dropped stored told fits = subst (λ (gs : List Group). PicturesFit u gs) (sym told.1) (stores-fit t accessed u same fits)

pub tested-record : (parent : ℕ) (cells : List (List ℕ)) (t : Table) (u : State) (accessed : List (List ℕ)) (same : Group → Bool) (dropped stored : List Group) → AreToldBy t accessed u same dropped stored
    → parent < 2 ^ 32 → MayBeCommitted cells → IsKeptTable t → HasShortNames t → IsSoundState u → AllByRecursion IsName (listed u) → size_told t accessed u ≤ most_bytes
    → IsRecord (record_by parent cells dropped stored u)
tested-record parent cells t u accessed same dropped stored told number may kept short is names small =
    subst (λ (ds : List Group). IsRecord (record_by parent cells ds stored u)) (sym told.0)
    (subst (λ (gs : List Group). IsRecord (record_by parent cells (dropped_by (groups_in t) accessed u same) gs u)) (sym told.1)
    (stores-record t accessed u same is parent cells number may kept short names small))

-- ---- by the state before

pub told-fit : (t : Table) (s : State) (accessed : List (List ℕ)) (u : State) → ((g : Group) → In g (classes (groups_in t) accessed u) → StateFits (picture u g)) → CanBeStored t s accessed u
told-fit t s accessed u = stores-fit t accessed u (is_still s u)

pub told-record : (parent : ℕ) (cells : List (List ℕ)) (t : Table) (s u : State) (accessed : List (List ℕ)) → parent < 2 ^ 32 → MayBeCommitted cells → IsKeptTable t → HasShortNames t → IsSoundState u
    → AllByRecursion IsName (listed u) → size_told t accessed u ≤ most_bytes → IsRecord (told_record parent cells t s accessed u)
told-record parent cells t s u accessed number may kept short is names small =
    tested-record parent cells t u accessed (is_still s u) (dropped_told t s accessed u) (groups_told t s accessed u) (refl, refl) number may kept short is names small
