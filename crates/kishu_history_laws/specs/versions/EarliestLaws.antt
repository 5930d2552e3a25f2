-- The version that is computed is the earliest commit from which on the group stands with one picture, and no other number is.
use Rattle.std.specs.Prelude.{◌≡◌, ℕ, true, false, List, [], ◌∷◌, ◌++◌, All}
use Rattle.std.specs.Bool.{Decides}
use Rattle.std.proofs.Common.{refl, ap, sym, ◌∙◌, subst, inl, inr}
use Rattle.std.proofs.lemmas.Bool.{cases_Bool}
use Rattle.kishu_meaning.specs.values.Values.{State}
use Rattle.kishu_objects.specs.Picture.{picture}
use Rattle.kishu_objects.specs.Lists.{In}
use Rattle.kishu_objects_laws.specs.ListLaws.{in_left, in_right, in_cases, contains_in, in_contains}
use Rattle.kishu_objects.specs.Groups.{groups_of}
use Rattle.kishu_history.specs.Changed.{Group, stands, Stands}
use Rattle.kishu_history.specs.Versions.{Stop, back, version, IsVersion}
use Rattle.kishu_history_laws.specs.Choices.{false_no, not_told}
use Rattle.kishu_history_laws.specs.versions.VersionLaws.{stands_decides}
use Rattle.kishu_history_laws.specs.checkouts.CheckoutLaws.{index_in}

all_from : {A : Type 0} (P : A → Type 0) (xs : List A) → ((a : A) → In a xs → P a) → All P xs
all_from P xs h = λ k d l. h _ (index_in xs k d l)

all_at : {A : Type 0} (P : A → Type 0) (xs : List A) (a : A) → All P xs → In a xs → P a
all_at P xs a h m = let c = in_contains xs a m in subst P c.2 (h c.0 a c.1)

-- from a commit on the group stands with the picture, and before it it doesn't
record Runs (g : Group) (p : State) (path : List Stop) (a : ℕ) : Type 0 where
  newer : List Stop
  at : Stop
  older : List Stop
  split : path ≡ newer ++ (at ∷ older)
  number : at.commit ≡ a
  since : (k : Stop) → In k (newer ++ (at ∷ [])) → Stands g p k.state
  before : (j : Stop) (js : List Stop) → older ≡ j ∷ js → Stands g p j.state → ⊥

module _ (g : Group) (p : State) where
  stands_there : (s : State) → stands g p s ≡ true → Stands g p s
  stands_there s e = (let d = (stands_decides g p s).0 e in (in_contains (groups_of s) g d.0, d.1))

  not_there : (s : State) → stands g p s ≡ false → Stands g p s → ⊥
  not_there s e h = false_no (stands g p s) (stands_decides g p s) e (contains_in (groups_of s) g h.0, h.1)

  runs : (k : Stop) (ks : List Stop) → Stands g p k.state → Runs g p (k ∷ ks) (back g p k.commit ks)
  runs k [] h = record { newer = []; at = k; older = []; split = refl; number = refl; since = λ j m. elim m [ inl e ↦ subst (λ z. Stands g p z.state) (sym e) h | inr n ↦ absurd n ]; before = λ j js e. absurd (cc) }
  runs k (j ∷ js) h = elim (cases_Bool (stands g p j.state)) [
    | inl e ↦ (
        let r = runs j js (stands_there j.state e) in
        rw e (record {
          newer = k ∷ r.newer;
          at = r.at;
          older = r.older;
          split = ap (λ l. k ∷ l) r.split;
          number = r.number;
          since = λ i m. elim m [ inl q ↦ subst (λ z. Stands g p z.state) (sym q) h | inr n ↦ r.since i n ];
          before = r.before;
        })
        )
    | inr e ↦ rw e (record {
      newer = [];
      at = k;
      older = j ∷ js;
      split = refl;
      number = refl;
      since = λ i m. elim m [ inl q ↦ subst (λ z. Stands g p z.state) (sym q) h | inr n ↦ absurd n ];
      before = λ i is f s. not_there j.state e (subst (λ z. Stands g p z.state) (sym (head j i js is f)) s);
    })
  ]
    where
      head : (j i : Stop) (js is : List Stop) → j ∷ js ≡ i ∷ is → j ≡ i
      head j i js is f = cc

pub version_is : (k : Stop) (ks : List Stop) (g : Group) → In g (groups_of k.state) → IsVersion (k ∷ ks) g (version (k ∷ ks) g)
version_is k ks g m =
    let p = picture k.state g in
    let r = runs g p k ks (in_contains (groups_of k.state) g m, refl) in record {
      newer = r.newer;
      at = r.at;
      older = r.older;
      split = r.split;
      number = r.number;
      since = all_from (λ j. Stands g p j.state) (r.newer ++ (r.at ∷ [])) r.since;
      earliest = λ more j rest e h. early r.newer r.at r.older p more j rest e r.before h;
    }
  where
    early : (newer : List Stop) (at : Stop) (older : List Stop) (p : State) (more : List Stop) (j : Stop) (rest : List Stop) → older ≡ more ++ (j ∷ rest) → ((i : Stop) (is : List Stop) → older ≡ i ∷ is → Stands g p i.state → ⊥) → All (λ i. Stands g p i.state) (newer ++ ((at ∷ more) ++ (j ∷ []))) → ⊥
    early newer at older p [] j rest e never h = never j rest e (all_at (λ i. Stands g p i.state) (newer ++ ((at ∷ []) ++ (j ∷ []))) j h (in_right j newer (at ∷ (j ∷ [])) (inr (inl refl))))
    early newer at older p (i ∷ more) j rest e never h = never i (more ++ (j ∷ rest)) e (all_at (λ i. Stands g p i.state) (newer ++ ((at ∷ (i ∷ more)) ++ (j ∷ []))) i h (in_right i newer (at ∷ (i ∷ (more ++ (j ∷ [])))) (inr (inl refl))))

-- ---- and no other

module _ (g : Group) (p : State) where
  newest_only : (a : ℕ) (ks : List Stop) → ((j : Stop) (js : List Stop) → ks ≡ j ∷ js → Stands g p j.state → ⊥) → back g p a ks ≡ a
  newest_only a [] before = refl
  newest_only a (j ∷ js) before = (let e = not_told (stands g p j.state) (stands_decides g p j.state) (λ d. before j js refl (in_contains (groups_of j.state) g d.0, d.1)) in rw e refl)

  back_only : (k : Stop) (ks newer : List Stop) (at : Stop) (older : List Stop) → k ∷ ks ≡ newer ++ (at ∷ older) → ((j : Stop) → In j (newer ++ (at ∷ [])) → Stands g p j.state) → ((j : Stop) (js : List Stop) → older ≡ j ∷ js → Stands g p j.state → ⊥) → back g p k.commit ks ≡ at.commit
  back_only k ks [] at older e since before =
      let f : k ≡ at = cc in
      let h : ks ≡ older = cc in
      newest_only k.commit ks (λ j js q. before j js (sym h ∙ q)) ∙ ap (λ z. z.commit) f
  back_only k [] (n ∷ []) at older e since before = absurd (cc)
  back_only k [] (n ∷ (m ∷ ns)) at older e since before = absurd (cc)
  back_only k (j ∷ js) (n ∷ ns) at older e since before =
      let h : j ∷ js ≡ ns ++ (at ∷ older) = cc in
      let s = first_stands j js ns h (λ i m. since i (inr m)) in
      let b = (stands_decides g p j.state).1 (contains_in (groups_of j.state) g s.0, s.1) in
      rw b (back_only j js ns at older h (λ i m. since i (inr m)) before)
    where
      first_stands : (j : Stop) (js ns : List Stop) → j ∷ js ≡ ns ++ (at ∷ older) → ((i : Stop) → In i (ns ++ (at ∷ [])) → Stands g p i.state) → Stands g p j.state
      first_stands j js [] h since = (let f : j ≡ at = cc in since j (inl f))
      first_stands j js (n ∷ ns) h since = (let f : j ≡ n = cc in since j (inl f))

pub version_only : (k : Stop) (ks : List Stop) (g : Group) (a : ℕ) → IsVersion (k ∷ ks) g a → version (k ∷ ks) g ≡ a
version_only k ks g a is =
    let p = picture k.state g in
    let since : (j : Stop) → In j (is.newer ++ (is.at ∷ [])) → Stands g p j.state = λ j m. all_at (λ i. Stands g p i.state) (is.newer ++ (is.at ∷ [])) j is.since m in
    back_only g p k ks is.newer is.at is.older is.split since (λ j js e s. is.earliest [] j js e (all_from (λ i. Stands g p i.state) (is.newer ++ ((is.at ∷ []) ++ (j ∷ []))) (one_more is.newer is.at j p since s)))
    ∙ is.number
  where
    one_more : (newer : List Stop) (at j : Stop) (p : State) → ((i : Stop) → In i (newer ++ (at ∷ [])) → Stands g p i.state) → Stands g p j.state → (i : Stop) → In i (newer ++ ((at ∷ []) ++ (j ∷ []))) → Stands g p i.state
    one_more newer at j p since s i m = elim (in_cases i newer ((at ∷ []) ++ (j ∷ [])) m) [
      | inl h ↦ since i (in_left i newer (at ∷ []) h)
      | inr h ↦ elim h [
        | inl e ↦ since i (in_right i newer (at ∷ []) (inl e))
        | inr k ↦ elim k [ inl e ↦ subst (λ z. Stands g p z.state) (sym e) s | inr n ↦ absurd n ]
      ]
    ]

-- the test of a group in a state, in words
pub stands_tells : (g : Group) (p s : State) → Decides (stands g p s) (Stands g p s)
stands_tells g p s = (
  λ e. let d = (stands_decides g p s).0 e in (in_contains (groups_of s) g d.0, d.1),
  λ h. (stands_decides g p s).1 (contains_in (groups_of s) g h.0, h.1),
)
