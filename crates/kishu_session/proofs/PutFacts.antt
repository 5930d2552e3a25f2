-- The digests of the pictures of a table's rows, which are kept one after another, of every second row first.
use Rattle.std.proofs.Common.{◌≡◌, ◌⊎◌, inl, inr, ℕ, Bool, true, false, ◌||◌, not, if◌then◌else◌, List, [], ◌∷◌, map, Option, Some, refl, sym, ◌∙◌, ap, subst}
use Rattle.std.proofs.lemmas.Bool.{cases_Bool}
use Rattle.std.specs.declared.alloc.Global.{Global}
use Rattle.std.specs.declared.vec.Vec.{Vec}
use Rattle.kishu_store.specs.Groups.{Group, is_group, is_one_of}
use Rattle.kishu_store.specs.Tables.{Row, Table, groups_in}
use Rattle.kishu_history_laws.specs.Choices.{group_decides}
use Rattle.kishu_graph.specs.Kept.{row_of}
use Rattle.kishu_graph.specs.declared.tables.TableRow as rust
use Rattle.kishu_checkout.specs.Fetched.{contents}
use Rattle.kishu_delta.specs.Compared.{Pictures, Holds, half, put_all}
use Rattle.kishu_delta.specs.Kept.{Digest, Digests, KeepsDigest, digest_of, kept_of}

-- the groups of rows with pictures
abbrev listed : (Group → List ℕ) → Table → Pictures
listed picture t = map (λ r. (r.group, picture r.group)) t

-- These are the pictures of the rows.
abbrev pub ArePictures : (Group → List ℕ) → List rust.TableRow → List (Vec ℕ Global) → Type 0
ArePictures picture rows pictures = contents pictures ≡ map (λ r. picture r.group) (map row_of rows)

-- what is kept of a group once those of every second row were put in
abbrev put_half : Bool → (Group → List ℕ) → List rust.TableRow → Option Digest → Group → Option Digest
put_half takes picture rows d g = put_all (half takes (listed picture (map row_of rows))) d g

-- What is still to come are the pictures of the rows that are still to come; and when of every second row these are kept, those of every second one of all are, as it was to be.
pub record IsLeft (first : Bool) (before : Digests) (all : List rust.TableRow) (picture : Group → List ℕ) (takes : Bool) (rows : List rust.TableRow) (pictures : List (Vec ℕ Global)) (kept : Digests) : Type 0 where
  pub are : ArePictures picture rows pictures
  pub just : (g : Group) → put_half takes picture rows (kept_of kept g) g ≡ put_half first picture all (kept_of before g) g

same-front : (x y : List ℕ) (xs ys : List (List ℕ)) → x ∷ xs ≡ y ∷ ys → x ≡ y
same-front x y xs ys e = cc (e)

same-rest : (x y : List ℕ) (xs ys : List (List ℕ)) → x ∷ xs ≡ y ∷ ys → xs ≡ ys
same-rest x y xs ys e = cc (e)

module _ (first : Bool) (all : List rust.TableRow) (picture : Group → List ℕ) where
  -- no row's is kept yet
  pub left-all : (pictures : List (Vec ℕ Global)) (kept : Digests) → ArePictures picture all pictures → IsLeft first kept all picture first all pictures kept
  left-all pictures kept are = record { are = are; just = λ g. refl }

  -- one row more, which is put in, or not
  module _ (row : rust.TableRow) (p : Vec ℕ Global) (rows : List rust.TableRow) (pictures : List (Vec ℕ Global)) (before old : Digests) where
    put-one : (new : Digests) → KeepsDigest (row_of row).group (Some (digest_of p.items)) old new → IsLeft first before all picture true (row ∷ rows) (p ∷ pictures) old
        → IsLeft first before all picture false rows pictures new
    put-one new put left =
        let here : p.items ≡ picture (row_of row).group = same-front p.items (picture (row_of row).group) (contents pictures) (map (λ r. picture r.group) (map row_of rows)) left.are in
        record {
          are = same-rest p.items (picture (row_of row).group) (contents pictures) (map (λ r. picture r.group) (map row_of rows)) left.are;
          just = λ g. ap (λ (d : Option Digest). put_half false picture rows d g)
              (put g ∙ ap (λ (l : List ℕ). if is_group g (row_of row).group then Some (digest_of l) else kept_of old g) here)
              ∙ left.just g;
        }

    pass-one : IsLeft first before all picture false (row ∷ rows) (p ∷ pictures) old → IsLeft first before all picture true rows pictures old
    pass-one left = record {
      are = same-rest p.items (picture (row_of row).group) (contents pictures) (map (λ r. picture r.group) (map row_of rows)) left.are;
      just = left.just;
    }

    module _ (takes : Bool) (left : IsLeft first before all picture takes (row ∷ rows) (p ∷ pictures) old) (new : Digests) where
      pub left-put : takes ≡ true → KeepsDigest (row_of row).group (Some (digest_of p.items)) old new → IsLeft first before all picture (not takes) rows pictures new
      left-put is put =
          subst (λ (b : Bool). IsLeft first before all picture (not b) rows pictures new) (sym is)
          (put-one new put (subst (λ (b : Bool). IsLeft first before all picture b (row ∷ rows) (p ∷ pictures) old) is left))

      pub left-passed : takes ≡ false → new ≡ old → IsLeft first before all picture (not takes) rows pictures new
      left-passed is same =
          subst (λ (b : Bool). IsLeft first before all picture (not b) rows pictures new) (sym is)
          (subst (λ (k : Digests). IsLeft first before all picture true rows pictures k) (sym same)
          (pass-one (subst (λ (b : Bool). IsLeft first before all picture b (row ∷ rows) (p ∷ pictures) old) is left)))

  -- The rows or the pictures have ended.
  rows-ended : (rows : List rust.TableRow) → [] ≡ map (λ r. picture r.group) (map row_of rows) → rows ≡ []
  rows-ended [] e = refl
  rows-ended (row ∷ rows) e = absurd (cc (e))

  none-put : (takes : Bool) (d : Option Digest) (g : Group) → put_half takes picture [] d g ≡ d
  none-put true d g = refl
  none-put false d g = refl

  pub left-none : (takes : Bool) (rows : List rust.TableRow) (pictures : List (Vec ℕ Global)) (before kept : Digests) → (rows ≡ []) ⊎ (pictures ≡ []) → IsLeft first before all picture takes rows pictures kept
      → Holds (half first (listed picture (map row_of all))) before kept
  left-none takes rows pictures before kept (inl end) left g =
      sym (none-put takes (kept_of kept g) g) ∙ ap (λ (rs : List rust.TableRow). put_half takes picture rs (kept_of kept g) g) (sym end) ∙ left.just g
  left-none takes rows pictures before kept (inr end) left g =
      let none : rows ≡ [] = rows-ended rows (ap contents (sym end) ∙ left.are) in
      sym (none-put takes (kept_of kept g) g) ∙ ap (λ (rs : List rust.TableRow). put_half takes picture rs (kept_of kept g) g) (sym none) ∙ left.just g

-- ---- both halves

-- of groups every second one
abbrev half_of : Bool → List Group → List Group
half_of first [] = []
half_of true (g ∷ gs) = g ∷ half_of false gs
half_of false (g ∷ gs) = half_of true gs

both : {A : Type 0} (b : Bool) (x : A) → (if b then x else x) ≡ x
both true x = refl
both false x = refl

either-half : {A : Type 0} (b : Bool) (g : Group) (x y : A) (gs : List Group)
    → (if is_one_of g (half_of b gs) then x else if is_one_of g (half_of (not b) gs) then x else y) ≡ (if is_one_of g gs then x else y)
either-half true g x y [] = refl
either-half false g x y [] = refl
either-half true g x y (h ∷ gs) = elim (cases_Bool (is_group g h)) [ inl e ↦ rw e refl | inr e ↦ rw e (either-half false g x y gs) ]
either-half false g x y (h ∷ gs) = elim (cases_Bool (is_group g h)) [ inl e ↦ rw e (both (is_one_of g (half_of true gs)) x) | inr e ↦ rw e (either-half true g x y gs) ]

module _ (picture : Group → List ℕ) (g : Group) where
  abbrev now : Option Digest
  now = Some (digest_of (picture g))

  put-more : (r : Row) (gs : List Group) (d : Option Digest)
      → (if is_one_of g gs then now else if is_group g r.group then Some (digest_of (picture r.group)) else d) ≡ (if is_group g r.group || is_one_of g gs then now else d)
  put-more r gs d = elim (cases_Bool (is_group g r.group)) [
    | inl one ↦ (
        let e : r.group ≡ g = sym ((group_decides g r.group).0 one) in
        rw one (ap (λ (h : Group). if is_one_of g gs then now else Some (digest_of (picture h))) e ∙ both (is_one_of g gs) now)
        )
    | inr other ↦ rw other refl
  ]

  put-listed : (first : Bool) (t : Table) (d : Option Digest) → put_all (half first (listed picture t)) d g ≡ (if is_one_of g (half_of first (groups_in t)) then now else d)
  put-listed true [] d = refl
  put-listed false [] d = refl
  put-listed true (r ∷ t) d =
      put-listed false t (if is_group g r.group then Some (digest_of (picture r.group)) else d) ∙ put-more r (half_of false (groups_in t)) d
  put-listed false (r ∷ t) d = put-listed true t d

-- Of the rows' groups those are kept now, and of others what was kept first.
pub halves-are : (picture : Group → List ℕ) (t : Table) (old mid new : Digests) → Holds (half true (listed picture t)) old mid → Holds (half false (listed picture t)) mid new → (g : Group)
    → kept_of new g ≡ (if is_one_of g (groups_in t) then Some (digest_of (picture g)) else kept_of old g)
halves-are picture t old mid new one other g =
    let now = Some (digest_of (picture g)) in
    other g
    ∙ put-listed picture g false t (kept_of mid g)
    ∙ ap (λ (d : Option Digest). if is_one_of g (half_of false (groups_in t)) then now else d) (one g ∙ put-listed picture g true t (kept_of old g))
    ∙ either-half false g now (kept_of old g) (groups_in t)
