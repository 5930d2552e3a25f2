-- A state that is loaded anew from the pictures of its groups is the same.
use Rattle.std.specs.Prelude.{◌≡◌, ◌≤◌, ◌<◌, ◌+◌, ◌*◌, ◌^◌, ℕ, List, [], ◌∷◌, length, map, flat_map}
use Rattle.std.specs.List.{AllZip, sum_by}
use Rattle.std.proofs.Common.{refl, ap, sym, ◌∙◌, subst, arith, inl, inr}
use Rattle.std.proofs.Math.Logic.{∥∥₁_elim}
use Rattle.std.proofs.Props.{props}
use Rattle.std.proofs.lemmas.List.Sums.{sum_by-cons}
use Rattle.kishu_language.specs.declared.profile.Profile.{Profile}
use Rattle.kishu_meaning.specs.values.Keys.{KeyPart, Key}
use Rattle.kishu_meaning.specs.values.Values.{Value, Node, State, empty}
use Rattle.kishu_objects.specs.Bytes.{picture_bytes}
use Rattle.kishu_objects.specs.Groups.{groups_of}
use Rattle.kishu_objects.specs.Lists.{In, Rise}
use Rattle.kishu_objects.specs.Loading.{with_picture}
use Rattle.kishu_objects.specs.Picture.{order, picture, listed}
use Rattle.kishu_objects.specs.Same.{Same}
use Rattle.kishu_objects.specs.States.{IsSoundState}
use Rattle.kishu_objects_laws.specs.ListLaws.{map_in}
use Rattle.kishu_objects_laws.specs.LoadingLaws.{nodes_more}
use Rattle.kishu_objects_laws.specs.NameLaws.{listed_found}
use Rattle.kishu_objects_laws.specs.OwnPictureLaws.{rows_length}
use Rattle.kishu_objects_laws.specs.SameLaws.{same_self, same_turned}
use Rattle.kishu_state_laws.specs.Fitting.{picture_fits}
use Rattle.kishu_state_laws.specs.Pictures.{picture_is_state}
use Rattle.kishu_picture.specs.Held.{AreBound}
use Rattle.kishu_reading.specs.Pictured.{IsPictureOf}
use Rattle.kishu_reading_laws.specs.OwnLaws.{picture_in_order, picture_known}
use Rattle.kishu_history.specs.Changed.{Group}
use Rattle.kishu_history.specs.Checkout.{with_pictures}
use Rattle.kishu_history.specs.Cut.{IsCut}
use Rattle.kishu_history.specs.Live.{IsLive}
use Rattle.kishu_history.specs.Tables.{Row, Table, IsTable, groups_in, first_in, first_name}
use Rattle.kishu_history_laws.specs.Choices.{in_map}
use Rattle.kishu_history_laws.specs.cells.LeavesLaws.{groups_are_cut}
use Rattle.kishu_history_laws.specs.checkouts.AnewLaws.{anew}
use Rattle.kishu_history_laws.specs.checkouts.CheckoutLaws.{live_same}
use Rattle.kishu_history_laws.specs.tables.TableLaws.{class_rises, first_inside, groups_rise}
use Rattle.kishu_anew.specs.Anew.{IsWhole, IsWholeState, IsSmall, IsAnew, ArePictures, most_kept, loaded_anew}
use Rattle.kishu_anew.specs.WholeLaws.{empty_whole, loads_whole, whole_sound}
use Rattle.kishu_anew.proofs.Parts.{no_more_nodes, one_size, small_nodes, small_size}
use Rattle.kishu_anew.proofs.Sums.{flat_length, sum_alike, sum_map}

-- ---- of what there is one proof at most

part_set : IsSet KeyPart
part_set = hlevel props

key_set : IsSet Key
key_set = hlevel (part_set, props)

value_set : IsSet Value
value_set = hlevel props

profile_set : IsSet Profile
profile_set = hlevel props

node_set : IsSet Node
node_set = hlevel (key_set, value_set, profile_set, props)

state_set : IsSet State
state_set = hlevel (node_set, value_set, props)

-- ---- pictures that are loaded

-- It has the nodes of the pictures besides.
pub loaded_nodes : (ps : List State) (s : State) → length (with_pictures ps s).nodes ≡ length s.nodes + sum_by (λ (p : State). length p.nodes) ps
loaded_nodes [] s = omega arith
loaded_nodes (p ∷ ps) s =
    let a = loaded_nodes ps (with_picture s p) in
    let b = nodes_more s p in
    let c = sum_by-cons (λ (q : State). length q.nodes) p ps in
    omega (arith, a, b, c)

-- ---- from a state's own groups

module _ (s : State) (whole : IsWhole s) where
  sound : IsSoundState s
  sound = whole_sound s whole

  abbrev own : List Group
  own = groups_of s

  rises : (g : Group) → In g own → Rise g
  rises g m = class_rises s sound.sound (listed s) sound.rise g m

  abbrev pub own_states : List State
  own_states = map (picture s) own

  abbrev pub renewed : State
  renewed = loaded_anew s

  -- ---- a table with just these groups, in which each has its picture

  abbrev row : Group → Row
  row g = record { group = g; version = 0; place = 0; len = 0 }

  abbrev rows : Table
  rows = map row own

  abbrev Has : Row → State → Type 0
  Has r p = p ≡ picture s r.group

  groups_are : (gs : List Group) → groups_in (map row gs) ≡ gs
  groups_are [] = refl
  groups_are (g ∷ gs) = ap (λ hs. g ∷ hs) (groups_are gs)

  firsts_are : (gs : List Group) → map first_in (map row gs) ≡ map first_name gs
  firsts_are [] = refl
  firsts_are (g ∷ gs) = ap (λ xs. first_name g ∷ xs) (firsts_are gs)

  states_are : (gs : List Group) → map (λ (r : Row). picture s r.group) (map row gs) ≡ map (picture s) gs
  states_are [] = refl
  states_are (g ∷ gs) = ap (λ ps. picture s g ∷ ps) (states_are gs)

  cut : IsCut own s
  cut = groups_are_cut s sound.sound

  of_row : (r : Row) → In r rows → (g : Group) × In g own × (r ≡ row g)
  of_row r m = map_in row own r m

  in_own : (r : Row) → In r rows → In r.group own
  in_own r m = let k = of_row r m in subst (λ (q : Row). In q.group own) (sym k.2) k.1

  one_row : (r q : Row) → In r rows → In q rows → r.group ≡ q.group → r ≡ q
  one_row r q m n e = let k = of_row r m in let l = of_row q n in k.2 ∙ ap row (sym (ap (λ (z : Row). z.group) k.2) ∙ e ∙ ap (λ (z : Row). z.group) l.2) ∙ sym l.2

  is_table : IsTable rows
  is_table = record {
    rise = subst (λ xs. Rise xs) (sym (firsts_are own)) (groups_rise s sound.sound (listed s) sound.rise);
    full = λ r m. first_inside s sound.sound (listed s) r.group (in_own r m);
    ordered = λ r m. rises r.group (in_own r m);
    one = λ r q x m n a b. one_row r q m n (cut.one r.group q.group x (in_own r m) (in_own q n) a b);
  }

  in_rows : (g : Group) → In g own → In (row g) rows
  in_rows g m = in_map row own g m

  live : IsLive Has rows s
  live = record {
    state = sound;
    bound = λ x. (
      λ m. let k = (cut.bound x).0 m in (row k.0, in_rows k.0 k.1, k.2),
      λ k. (cut.bound x).1 (k.0.group, in_own k.0 k.1, k.2),
    );
    apart = λ r q x y m n a b touch. one_row r q m n (cut.apart r.group q.group x y (in_own r m) (in_own q n) a b touch);
    pictures = λ r m. refl;
  }

  renewed_live : IsLive Has rows renewed
  renewed_live = subst (λ ps. IsLive Has rows (with_pictures ps empty)) (states_are own) (anew Has rows is_table s live)

  pub renewed_same : Same s renewed
  renewed_same = same_turned _ renewed s (live_same Has rows renewed s is_table renewed_live sound (subst (λ gs. IsCut gs s) (sym (groups_are own)) cut) (λ r p m h. h))

  -- ---- what is left

  -- Each name of a group is bound.
  pub own_bound : (g : Group) → In g own → AreBound s.names g
  own_bound g m x n = listed_found s.names x ((cut.bound x).1 (g, m, n))

  own_whole : (g : Group) → In g own → IsWhole (picture s g)
  own_whole g m =
      ∥∥₁_elim whole squash₁
      (λ w. ∣ record { state = picture_is_state s w.state g (rises g m); known = picture_known s g w.known } ∣₁)

  pub renewed_whole : IsWhole renewed
  renewed_whole = loads_whole own_states empty empty_whole (λ p m. let k = map_in (picture s) own p m in subst (λ q. IsWhole q) (sym k.2) (own_whole k.0 k.1))

  renewed_length : length renewed.nodes ≡ length (flat_map (λ (g : Group). order s g) own)
  renewed_length =
      let a = loaded_nodes own_states empty in
      let b = sum_map (λ (p : State). length p.nodes) (picture s) own in
      let c = sum_alike (λ (g : Group). length (picture s g).nodes) (λ (g : Group). length (order s g)) own (λ g. rows_length s sound.sound g) in
      let d = flat_length (λ (g : Group). order s g) own in
      omega (arith, a, b, c, d)

  pub renewed_few : length renewed.nodes ≤ length s.nodes
  renewed_few = (let a = renewed_length in let b = no_more_nodes s sound in omega (arith, a, b))

  module _ (small : IsSmall s) where
    pub renewed_room : length renewed.nodes ≤ 2 ^ 28
    renewed_room = (let a = renewed_length in let b = small_nodes s sound small in omega (arith, a, b))

    pub renewed_anew : most_kept < length s.nodes → IsAnew s renewed
    renewed_anew more = record {
      same = renewed_same;
      whole = renewed_whole;
      few = renewed_few;
      room = renewed_room;
      stays = λ less. absurd (omega (arith, more, less));
    }

    -- ---- their bytes

    pub short_bytes : (g : Group) → In g own → length (picture_bytes s g) < 2 ^ 32
    short_bytes g m = (let a = one_size s sound g m in let b = small_size s sound small in omega (arith, a, b))

    is_picture : IsWholeState s → (g : Group) → In g own → IsPictureOf (picture_bytes s g) (picture s g)
    is_picture w g m = record {
      state = record {
        state = picture_is_state s w.state g (rises g m);
        known = picture_known s g w.known;
        fits = picture_fits s g w.state (rises g m) (short_bytes g m);
        order = picture_in_order s g sound.sound (rises g m);
      };
      is = refl;
    }

    each_picture : IsWholeState s → (gs : List Group) → ((g : Group) → In g gs → In g own) → AllZip IsPictureOf (map (picture_bytes s) gs) (map (picture s) gs)
    each_picture w [] there = tt
    each_picture w (g ∷ gs) there = (is_picture w g (there g (inl refl)), each_picture w gs (λ h m. there h (inr m)))

    own_zipped : IsWholeState s → AllZip IsPictureOf (map (picture_bytes s) own) own_states
    own_zipped w = each_picture w own (λ g m. m)

    pub own_pictures_are : ArePictures (map (picture_bytes s) own)
    own_pictures_are = ∥∥₁_elim whole squash₁ (λ w. ∣ (own_states, own_zipped w) ∣₁)

    -- What is left where just these bytes are loaded into an empty state.
    pub renewed_is : (bytes : List (List ℕ)) (begun left : State) → bytes ≡ map (picture_bytes s) own → begun ≡ empty → ((ps : List State) → AllZip IsPictureOf bytes ps → left ≡ with_pictures ps begun) → left ≡ renewed
    renewed_is bytes begun left e none loads =
        ∥∥₁_elim whole (state_set left renewed)
        (λ w. loads own_states (subst (λ bs. AllZip IsPictureOf bs own_states) (sym e) (own_zipped w)) ∙ ap (with_pictures own_states) none)

    pub own_taken : sum_by (λ (b : List ℕ). length b) (map (picture_bytes s) own) ≤ 9 * 2 ^ 28
    own_taken = (let a = sum_map (λ (b : List ℕ). length b) (picture_bytes s) own in let b = small_size s sound small in omega (arith, a, b))

-- A state with few nodes stays.
pub kept_anew : (s : State) → IsWhole s → length s.nodes ≤ most_kept → IsAnew s s
kept_anew s whole few = record { same = same_self _ s; whole = whole; few = omega arith; room = omega (arith, few); stays = λ less. refl }
