-- What is settled by a draft, whatever pictures are handed: it is what changes by a test.
use Rattle.std.proofs.Common.{◌≡◌, ◌∙◌, ℕ, Bool, true, false, List, [], ◌∷◌, map, length, Option, refl, sym, ap, subst, inl, inr}
use Rattle.std.specs.Prelude.{◌==◌, not, ◌||◌, if◌then◌else◌, filter, Some, None}
use Rattle.std.specs.Str.{bytes_eq}
use Rattle.std.specs.List.Sorted.{IsStrictlySortedBy}
use Rattle.std.specs.Cmp.Lexicographic.{bytes_decides}
use Rattle.std.proofs.lemmas.Bool.{cases_Bool}
use Rattle.std.proofs.lemmas.Bool.Decides.{Decides-eqb}
use Rattle.sha2.specs.Sha256.{sha256}
use Rattle.kishu_meaning.specs.values.Values.{State}
use Rattle.kishu_objects.specs.Bytes.{picture_bytes}
use Rattle.kishu_objects.specs.Lists.{In, Rise}
use Rattle.kishu_objects_laws.specs.ListLaws.{map_in}
use Rattle.kishu_store.specs.Groups.{Group, first_name, is_group, is_one_of}
use Rattle.kishu_history_laws.specs.Choices.{AllBelow, group_decides}
use Rattle.kishu_history_laws.specs.states.AlikeLaws.{and_both, both_and, not_true}
use Rattle.kishu_delta.specs.declared.delta.Delta as rust
use Rattle.kishu_delta.specs.declared.delta.StoredGroup as rust_stored
use Rattle.kishu_delta.specs.declared.asking.Draft as rust_draft
use Rattle.kishu_delta.specs.Kept.{Digest, Digests, digest_of, is_some_digest, kept_of}
use Rattle.kishu_delta.specs.Compared.{Pictures, differing, groups_with, picture_in, pictured, put_all, stored_group, with_pictures, Forgets, HoldsHalves, half}
use Rattle.kishu_delta.specs.Deltas.{agrees, drafted_dropped, drafted_stored, groups_among, groups_dropped, joining, pictures_among, Follows, Joins}
use Rattle.kishu_delta.specs.Merged.{merged}
use Rattle.kishu_delta.proofs.Merges.{in_merged, merged_in}

-- ---- digests

-- a digest that is kept and passes the test is that of the bytes
kept_test : (o : Option Digest) (bytes : List ℕ) → is_some_digest o bytes ≡ true → o ≡ Some (digest_of bytes)
kept_test None bytes e = absurd (not_true e)
kept_test (Some d) bytes e =
    let b = and_both (d.1 == length bytes) (bytes_eq d.0 (sha256 bytes)) e in
    let len : d.1 ≡ length bytes = (Decides-eqb d.1 (length bytes)).0 b.0 in
    let sum : d.0 ≡ sha256 bytes = (bytes_decides d.0 (sha256 bytes)).0 b.1 in
    (λ i. Some (sum i, len i))

pub kept_digest : (kept : Digests) (s : State) (g : Group) → agrees kept s g ≡ true → kept_of kept g ≡ Some (digest_of (picture_bytes s g))
kept_digest kept s g e = kept_test (kept_of kept g) (picture_bytes s g) e

-- the digest of the bytes that is kept passes it
pub digest_passes : (kept : Digests) (s : State) (g : Group) → kept_of kept g ≡ Some (digest_of (picture_bytes s g)) → agrees kept s g ≡ true
digest_passes kept s g e =
    ap (λ o. is_some_digest o (picture_bytes s g)) e
    ∙ both_and (length (picture_bytes s g) == length (picture_bytes s g)) (bytes_eq (sha256 (picture_bytes s g)) (sha256 (picture_bytes s g)))
    ((Decides-eqb (length (picture_bytes s g)) (length (picture_bytes s g))).1 refl) ((bytes_decides (sha256 (picture_bytes s g)) (sha256 (picture_bytes s g))).1 refl)

-- ---- pictures that differ

differs_more : (p q : Group × List ℕ) (ps : Pictures) (b : Bool) (rest : Pictures) → (In q rest → In q ps) → In q (if b then rest else p ∷ rest) → In q (p ∷ ps)
differs_more p q ps true rest into m = inr (into m)
differs_more p q ps false rest into (inl e) = inl e
differs_more p q ps false rest into (inr m) = inr (into m)

pub differs_in : (q : Group × List ℕ) (ps : Pictures) (bs : List (List ℕ)) → In q (differing ps bs) → In q ps
differs_in q [] bs m = m
differs_in q (p ∷ ps) [] m = absurd m
differs_in q (p ∷ ps) (b ∷ bs) m = differs_more p q ps (bytes_eq p.1 b) (differing ps bs) (differs_in q ps bs) m

abbrev firsts : Pictures → List (List ℕ)
firsts ps = map first_name (groups_with ps)

below_chosen : (w : List ℕ) (p : Group × List ℕ) (b : Bool) (rest : Pictures) → AllBelow w (first_name p.0 ∷ firsts rest) → AllBelow w (firsts (if b then rest else p ∷ rest))
below_chosen w p true rest h = h.1
below_chosen w p false rest h = h

below_differing : (w : List ℕ) (ps : Pictures) (bs : List (List ℕ)) → AllBelow w (firsts ps) → AllBelow w (firsts (differing ps bs))
below_differing w [] bs h = h
below_differing w (p ∷ ps) [] h = tt
below_differing w (p ∷ ps) (b ∷ bs) h = below_chosen w p (bytes_eq p.1 b) (differing ps bs) (h.0, below_differing w ps bs h.1)

rise_chosen_one : (p : Group × List ℕ) (b : Bool) (rest : Pictures) → AllBelow (first_name p.0) (firsts rest) → Rise (firsts rest) → Rise (firsts (if b then rest else p ∷ rest))
unfolding IsStrictlySortedBy
rise_chosen_one p true rest h r = r
rise_chosen_one p false rest h r = (h, r)

pub rise_differing : (ps : Pictures) (bs : List (List ℕ)) → Rise (firsts ps) → Rise (firsts (differing ps bs))
unfolding IsStrictlySortedBy
rise_differing [] bs r = r
rise_differing (p ∷ ps) [] r = tt
rise_differing (p ∷ ps) (b ∷ bs) r = rise_chosen_one p (bytes_eq p.1 b) (differing ps bs) (below_differing (first_name p.0) ps bs r.0) (rise_differing ps bs r.1)

-- Where those that are handed are told by a list, they are the ones that differ from the list.
pub differing_listed : (ps : Pictures) (list : Group → List ℕ) → differing ps (map list (groups_with ps)) ≡ filter (λ p. not (bytes_eq p.1 (list p.0))) ps
differing_listed [] list = refl
differing_listed (p ∷ ps) list = elim (cases_Bool (bytes_eq p.1 (list p.0))) [
  | inl e ↦ rw e (differing_listed ps list)
  | inr e ↦ rw e (ap (λ (qs : Pictures). p ∷ qs) (differing_listed ps list))
]

-- ---- groups with their pictures

pub groups_pictured : (s : State) (gs : List Group) → groups_with (pictured s gs) ≡ gs
groups_pictured s [] = refl
groups_pictured s (g ∷ gs) = ap (λ (l : List Group). g ∷ l) (groups_pictured s gs)

pub pictured_in : (s : State) (gs : List Group) (p : Group × List ℕ) → In p (pictured s gs) → In p.0 gs × (p.1 ≡ picture_bytes s p.0)
pictured_in s [] p m = absurd m
pictured_in s (g ∷ gs) p (inl e) = (inl (ap (λ (q : Group × List ℕ). q.0) e), ap (λ (q : Group × List ℕ). q.1) e ∙ ap (picture_bytes s) (sym (ap (λ (q : Group × List ℕ). q.0) e)))
pictured_in s (g ∷ gs) p (inr m) = (let k = pictured_in s gs p m in (inr k.0, k.1))

pub groups_told : (ds : List rust_stored.StoredGroup) → groups_with (with_pictures ds) ≡ groups_among ds
groups_told [] = refl
groups_told (d ∷ ds) = ap (λ (l : List Group). stored_group d ∷ l) (groups_told ds)

pub all_told : (s : State) (ds : List rust_stored.StoredGroup) → ((p : Group × List ℕ) → In p (with_pictures ds) → p.1 ≡ picture_bytes s p.0) → with_pictures ds ≡ pictured s (groups_among ds)
all_told s [] each = refl
all_told s (d ∷ ds) each = (λ i. (stored_group d, each (picture_in d) (inl refl) i) ∷ all_told s ds (λ p m. each p (inr m)) i)

pub bytes_told : (s : State) (ds : List rust_stored.StoredGroup) → ((p : Group × List ℕ) → In p (with_pictures ds) → p.1 ≡ picture_bytes s p.0) → pictures_among ds ≡ map (picture_bytes s) (groups_among ds)
bytes_told s [] each = refl
bytes_told s (d ∷ ds) each = (λ i. each (picture_in d) (inl refl) i ∷ bytes_told s ds (λ p m. each p (inr m)) i)

-- ---- what is kept then

put_more : (s : State) (g h : Group) (gs : List Group) (d : Option Digest)
    → (if is_one_of g gs then Some (digest_of (picture_bytes s g)) else if is_group g h then Some (digest_of (picture_bytes s h)) else d)
    ≡ (if is_group g h || is_one_of g gs then Some (digest_of (picture_bytes s g)) else d)
put_more s g h gs d = elim (cases_Bool (is_group g h)) [
  | inl one ↦ (
      let e : h ≡ g = sym ((group_decides g h).0 one) in
      rw one (ap (λ k. if is_one_of g gs then Some (digest_of (picture_bytes s g)) else Some (digest_of (picture_bytes s k))) e ∙ both (is_one_of g gs) (Some (digest_of (picture_bytes s g))))
      )
  | inr other ↦ rw other refl
]
  where
    both : (b : Bool) (x : Option Digest) → (if b then x else x) ≡ x
    both true x = refl
    both false x = refl

pub put_pictured : (s : State) (g : Group) (gs : List Group) (d : Option Digest) → put_all (pictured s gs) d g ≡ (if is_one_of g gs then Some (digest_of (picture_bytes s g)) else d)
put_pictured s g [] d = refl
put_pictured s g (h ∷ gs) d = put_pictured s g gs (if is_group g h then Some (digest_of (picture_bytes s h)) else d) ∙ put_more s g h gs d

-- of groups every second one
abbrev half_of : Bool → List Group → List Group
half_of first [] = []
half_of true (g ∷ gs) = g ∷ half_of false gs
half_of false (g ∷ gs) = half_of true gs

half_pictured : (s : State) (first : Bool) (gs : List Group) → half first (pictured s gs) ≡ pictured s (half_of first gs)
half_pictured s true [] = refl
half_pictured s false [] = refl
half_pictured s true (g ∷ gs) = ap (λ (ps : Pictures). (g, picture_bytes s g) ∷ ps) (half_pictured s false gs)
half_pictured s false (g ∷ gs) = half_pictured s true gs

either_half : {A : Type 0} (b : Bool) (g : Group) (x y : A) (gs : List Group)
    → (if is_one_of g (half_of b gs) then x else if is_one_of g (half_of (not b) gs) then x else y) ≡ (if is_one_of g gs then x else y)
either_half true g x y [] = refl
either_half false g x y [] = refl
either_half true g x y (h ∷ gs) = elim (cases_Bool (is_group g h)) [ inl e ↦ rw e refl | inr e ↦ rw e (either_half false g x y gs) ]
either_half false g x y (h ∷ gs) = elim (cases_Bool (is_group g h)) [ inl e ↦ rw e (both (is_one_of g (half_of true gs)) x) | inr e ↦ rw e (either_half true g x y gs) ]
  where
    both : {A : Type 0} (b : Bool) (x : A) → (if b then x else x) ≡ x
    both true x = refl
    both false x = refl

pub follows_is : (s : State) (dropped stored : List Group) (ps : Pictures) (old mid new : Digests) → Forgets dropped old mid → HoldsHalves ps mid new → ps ≡ pictured s stored → Follows old new dropped stored s
follows_is s dropped stored ps old mid new forgets holds is g =
    let now : Option Digest = Some (digest_of (picture_bytes s g)) in
    holds g
    ∙ ap (λ (qs : Pictures). put_all (half false qs) (put_all (half true qs) (kept_of mid g) g) g) is
    ∙ ap (λ (qs : Pictures). put_all (half false (pictured s stored)) (put_all qs (kept_of mid g) g) g) (half_pictured s true stored)
    ∙ ap (λ (qs : Pictures). put_all qs (put_all (pictured s (half_of true stored)) (kept_of mid g) g) g) (half_pictured s false stored)
    ∙ put_pictured s g (half_of false stored) (put_all (pictured s (half_of true stored)) (kept_of mid g) g)
    ∙ ap (λ (d : Option Digest). if is_one_of g (half_of false stored) then now else d) (put_pictured s g (half_of true stored) (kept_of mid g))
    ∙ either_half false g now (kept_of mid g) stored
    ∙ ap (λ (d : Option Digest). if is_one_of g stored then now else d) (forgets g)

-- ---- whatever was drafted and is handed

pub in_with : (ps : Pictures) (g : Group) → In g (groups_with ps) → (p : Group × List ℕ) × In p ps × (g ≡ p.0)
in_with ps g m = map_in (λ (p : Group × List ℕ). p.0) ps g m

-- the two lists, made of the draft's and of the pictures that differ
pub record Merges (draft : rust_draft.Draft) (handed : List (List ℕ)) (d : rust.Delta) : Type 0 where
  pub dropped : groups_dropped d ≡ merged (λ (g : Group). g) (drafted_dropped draft) (groups_with (joining draft handed))
  pub stored : with_pictures d.stored.items ≡ merged (λ (p : Group × List ℕ). p.0) (drafted_stored draft) (joining draft handed)

module _ (draft : rust_draft.Draft) (handed : List (List ℕ)) (d : rust.Delta) (merges : Merges draft handed d) where
  pub joins_is : Joins draft handed d
  joins_is = record {
    dropped = λ g. (
      λ m. in_merged (λ (h : Group). h) g (drafted_dropped draft) (groups_with (joining draft handed)) (subst (λ (l : List Group). In g l) merges.dropped m),
      λ k. subst (λ (l : List Group). In g l) (sym merges.dropped) (merged_in (λ (h : Group). h) g (drafted_dropped draft) (groups_with (joining draft handed)) k),
    );
    stored = λ p. (
      λ m. in_merged (λ (q : Group × List ℕ). q.0) p (drafted_stored draft) (joining draft handed) (subst (λ (l : Pictures). In p l) merges.stored m),
      λ k. subst (λ (l : Pictures). In p l) (sym merges.stored) (merged_in (λ (q : Group × List ℕ). q.0) p (drafted_stored draft) (joining draft handed) k),
    );
  }
