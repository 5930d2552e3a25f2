-- What depends only on which names are among others.
use Rattle.std.proofs.Common.{◌≡◌, ◌≤◌, ◌∙◌, ℕ, length, Bool, ◌&&◌, List, [], ◌∷◌, refl, sym, ap, subst, map, inl, inr}
use Rattle.std.proofs.lemmas.Bool.{cases_Bool}
use Rattle.std.specs.List.{list_any}
use Rattle.std.specs.Prelude.{not, ◌||◌, filter}
use Rattle.kishu_history.specs.Touched.{holds_any, is_touched, touched, classes, untouched}
use Rattle.kishu_history_laws.specs.Choices.{filter_same}
use Rattle.kishu_language.specs.tokens.Names.{is_among}
use Rattle.kishu_history_laws.specs.tables.TableLaws.{rise_picked}
use Rattle.kishu_meaning.specs.values.Values.{State}
use Rattle.kishu_objects.specs.Groups.{groups}
use Rattle.kishu_objects.specs.Lists.{In, Rise}
use Rattle.kishu_objects.specs.Picture.{listed, order}
use Rattle.kishu_objects.specs.Sound.{IsSound}
use Rattle.kishu_objects_laws.specs.GroupLaws.{group_is, class_in}
use Rattle.kishu_objects_laws.specs.ListLaws.{filter_in}
use Rattle.kishu_objects_laws.specs.NameLaws.{listed_found}
use Rattle.kishu_picture.specs.Held.{AreBound}
use Rattle.kishu_store.specs.Groups.{Group}
use Rattle.kishu_store.specs.Tables.{Table}
use Rattle.kishu_delta.specs.Near.{Lent, lent, AreNear}
use Rattle.kishu_delta.specs.Reaches.{nodes_among}
use Rattle.kishu_delta.proofs.Orders.{classes_reach}

pub holds_alike : (xs ys : List (List ℕ)) → ((x : List ℕ) → is_among x xs ≡ is_among x ys) → (g : Group) → holds_any xs g ≡ holds_any ys g
holds_alike xs ys same [] = refl
holds_alike xs ys same (x ∷ g) = (λ i. same x i || holds_alike xs ys same g i)

pub chosen_alike : (xs : List (List ℕ)) (test : List ℕ → Bool) → ((x : List ℕ) → is_among x xs ≡ test x) → (ys : List (List ℕ)) → filter (λ x. is_among x xs) ys ≡ filter test ys
chosen_alike xs test same ys = filter_same (λ x. is_among x xs) test ys (λ x m. same x)

-- Names that are chosen of those that are bound rise,
pub touched_rise : (test : List ℕ → Bool) (s : State) → Rise (listed s) → Rise (filter test (listed s))
touched_rise test s rise = subst Rise (same (filter test (listed s))) (rise_picked (λ x. x) test (listed s) (subst Rise (sym (same (listed s))) rise))
  where
    same : (xs : List (List ℕ)) → map (λ (x : List ℕ). x) xs ≡ xs
    same [] = refl
    same (x ∷ xs) = ap (λ ys. x ∷ ys) (same xs)

-- and their classes have names that are bound.
pub classes_bound : (s : State) → IsSound s → (test : List ℕ → Bool) → (g : Group) → In g (groups s (filter test (listed s))) → AreBound s.names g
classes_bound s sound test g m x n =
    let of = filter test (listed s) in
    let k = group_is s sound of g m in
    let here = class_in s sound of k.0 x k.1 (subst (λ (h : Group). In x h) k.2 n) in
    listed_found s.names x (filter_in test (listed s) x here).0

-- They reach, one after another, at most as many nodes as the touched names.
pub touched_reach : (s : State) → IsSound s → (gs : List Group) (accessed : List (List ℕ)) → Rise (listed s) → (cs : List Group) → cs ≡ classes gs accessed s → nodes_among s cs ≤ length (order s (touched gs accessed s))
touched_reach s sound gs accessed rise cs is =
    subst (λ hs. nodes_among s hs ≤ length (order s (touched gs accessed s))) (sym is)
    (classes_reach s sound (touched gs accessed s) (touched_rise (is_touched gs accessed) s rise))

pub untouched_alike : (xs ys : List (List ℕ)) → ((x : List ℕ) → is_among x xs ≡ is_among x ys) → (t : Table) → untouched t xs ≡ untouched t ys
untouched_alike xs ys same t = filter_same _ _ t (λ r m. ap not (holds_alike xs ys same r.group))

-- The groups that hold one of these names hold one of those.
pub near_alike : (near : List Lent) (gs : List Group) (xs ys : List (List ℕ)) → ((x : List ℕ) → is_among x xs ≡ is_among x ys) → AreNear near gs xs → AreNear near gs ys
near_alike near gs xs ys same is = is ∙ filter_same (holds_any xs) (holds_any ys) gs (λ g m. holds_alike xs ys same g)

-- One of them has a name just where it is in one that holds an accessed name.
any_near : (x : List ℕ) (accessed : List (List ℕ)) (gs : List Group) → list_any (is_among x) (filter (holds_any accessed) gs) ≡ list_any (λ g. holds_any accessed g && is_among x g) gs
any_near x accessed [] = refl
any_near x accessed (g ∷ gs) = elim (cases_Bool (holds_any accessed g)) [
  | inl e ↦ rw e (ap (λ b. is_among x g || b) (any_near x accessed gs))
  | inr e ↦ rw e (any_near x accessed gs)
]

-- So the names that are touched are the accessed ones and those of these groups.
pub near_touched : (near : List Lent) (gs : List Group) (accessed : List (List ℕ)) → AreNear near gs accessed → (x : List ℕ) → (is_among x accessed || list_any (is_among x) (lent near)) ≡ is_touched gs accessed x
near_touched near gs accessed is x = ap (λ hs. is_among x accessed || list_any (is_among x) hs) is ∙ ap (λ b. is_among x accessed || b) (any_near x accessed gs)

pub near_lent : (kept near : List Lent) (gs : List Group) (xs ys : List (List ℕ)) → near ≡ kept → ((x : List ℕ) → is_among x xs ≡ is_among x ys) → AreNear kept gs xs → AreNear near gs ys
near_lent kept near gs xs ys is same kept_is = near_alike near gs xs ys same (ap lent is ∙ kept_is)
