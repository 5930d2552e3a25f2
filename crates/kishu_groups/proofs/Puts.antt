-- What the code of gathering puts where.
use Rattle.std.specs.Prelude.{◌≡◌, ℕ, suc, ◌+◌, ◌<◌, ◌≤◌, List, [], ◌∷◌, ◌++◌, map, length, get_or, slice_get, slice_set, Some, option_map}
use Rattle.std.specs.Rc.{rc_str_bytes}
use Rattle.std.specs.declared.alloc.Global.{Global}
use Rattle.std.specs.declared.rc.RcStr.{RcStr}
use Rattle.std.specs.declared.vec.Vec.{Vec}
use Rattle.std.proofs.Common.{ap, sym, ◌∙◌, subst, arith}
use Rattle.std.proofs.lemmas.List.{map-append, map-set, get_or-map}
use Rattle.kishu_meaning.specs.values.Values.{State}
use Rattle.kishu_objects.specs.Lists.{Rise}
use Rattle.kishu_objects.specs.Sound.{IsSound}
use Rattle.kishu_objects.specs.Groups.{groups}
use Rattle.kishu_objects_laws.specs.NameLaws.{rise_differ}
use Rattle.kishu_groups.specs.Gathering.{AreFirsts, Classifies, Placed, by_class, grown}
use Rattle.kishu_groups.specs.Held.{texts_of}
use Rattle.kishu_groups.proofs.Joins.{map_get, map_length, get_there}
use Rattle.kishu_groups.proofs.Heads.{Gathered, no_entry, placed_there, gathered_more, by_class_is}

abbrev Row : Type 0
Row = Vec (RcStr Global) Global

-- a new group
pub placed_new : (gs after : List Row) (row : Row) (places : List ℕ) (r p : ℕ) → length places ≤ r → p ≡ length gs → row.items ≡ []
    → after ≡ gs ++ row ∷ [] → Placed (slice_get places r) (map texts_of gs) (map texts_of after) p
placed_new gs after row places r p l size empty e =
    subst (λ o. Placed o (map texts_of gs) (map texts_of after) p) (sym (no_entry places r l)) (
      size ∙ sym (map_length texts_of gs),
      ap (map texts_of) e ∙ map-append texts_of gs (row ∷ [])
          ∙ ap (λ (t : List (List ℕ)). map texts_of gs ++ t ∷ []) (ap (map rc_str_bytes) empty),
    )

-- a name behind those of a group
pub put_name : (gs : List Row) (p : ℕ) (old new : Row) (x : RcStr Global) (t : List ℕ) → p < length gs → old ≡ get_or gs p old
    → new.items ≡ old.items ++ x ∷ [] → rc_str_bytes x ≡ t → map texts_of (slice_set gs p new) ≡ grown (map texts_of gs) p t
put_name gs p old new x t l at pushed text =
    let got : get_or (map texts_of gs) p [] ≡ texts_of old = get_or-map texts_of gs p old [] l ∙ ap texts_of (sym at) in
    let e : texts_of new ≡ get_or (map texts_of gs) p [] ++ t ∷ [] =
    ap (map rc_str_bytes) pushed ∙ map-append rc_str_bytes old.items (x ∷ []) ∙ ap (λ (y : List ℕ). texts_of old ++ y ∷ []) text
    ∙ ap (λ (ts : List (List ℕ)). ts ++ t ∷ []) (sym got) in
    map-set texts_of gs p new ∙ ap (slice_set (map texts_of gs) p) e

-- ---- a name more

-- The i-th name is of the class of r, and its group has the place p.
pub record IsNext (rs : List ℕ) (of : List (List ℕ)) (i r p : ℕ) (x : List ℕ) (gs mid : List (List (List ℕ))) (places : List ℕ) : Type 0 where
  pub gathered : Gathered rs of i gs places
  pub firsts : AreFirsts rs
  pub at : slice_get of i ≡ Some x
  pub leads : slice_get rs i ≡ Some r
  pub put : Placed (slice_get places r) gs mid p

-- the same from what the code knows
pub next_is : (rs now : List ℕ) (of : List (List ℕ)) (i r p : ℕ) (x : List ℕ) (gs mid : List (List (List ℕ))) (places seen : List ℕ)
    → Gathered rs of i gs places → AreFirsts rs → slice_get of i ≡ Some x → now ≡ rs → slice_get now i ≡ Some r → seen ≡ places
    → Placed (slice_get seen r) gs mid p → IsNext rs of i r p x gs mid places
next_is rs now of i r p x gs mid places seen g firsts at stay leads same put = record {
  gathered = g;
  firsts = firsts;
  at = at;
  leads = ap (λ z. slice_get z i) (sym stay) ∙ leads;
  put = subst (λ z. Placed (slice_get z r) gs mid p) same put;
}

pub next_there : (rs : List ℕ) (of : List (List ℕ)) (i r p : ℕ) (x : List ℕ) (gs mid : List (List (List ℕ))) (places : List ℕ)
    → IsNext rs of i r p x gs mid places → p < length mid
next_there rs of i r p x gs mid places n = placed_there rs of n.firsts i r p x gs mid places n.gathered n.at n.leads n.put

pub next_gathered : (rs : List ℕ) (of : List (List ℕ)) (i r p : ℕ) (x : List ℕ) (gs mid after : List (List (List ℕ))) (places later : List ℕ)
    → IsNext rs of i r p x gs mid places → after ≡ grown mid p x → later ≡ places ++ p ∷ [] → Gathered rs of (i + 1) after later
next_gathered rs of i r p x gs mid after places later n e f =
    let s : suc i ≡ i + 1 = omega arith in
    subst (λ k. Gathered rs of k after later) s
    (subst (λ z. Gathered rs of (suc i) after z) (sym f) (gathered_more rs of n.firsts i r p x gs mid places n.gathered n.at n.leads n.put after e))

-- the i-th name of a list
pub name_at : (of : List (RcStr Global)) (i : ℕ) (x : RcStr Global) → i < length of → x ≡ get_or of i x
    → slice_get (map rc_str_bytes of) i ≡ Some (rc_str_bytes x)
name_at of i x l e = map_get rc_str_bytes of i ∙ ap (option_map rc_str_bytes) (get_there of i x l ∙ ap Some (sym e))

-- What is gathered of all names is the groups.
pub gathered_is : (s : State) → IsSound s → (of : List (RcStr Global)) → Rise (map rc_str_bytes of) → (rs : List ℕ)
    → Classifies s (map rc_str_bytes of) rs
    → by_class rs (map rc_str_bytes of) (length of) ≡ groups s (map rc_str_bytes of)
gathered_is s sound of rise rs c =
    ap (by_class rs (map rc_str_bytes of)) (sym (map_length rc_str_bytes of))
    ∙ by_class_is s sound (map rc_str_bytes of) (rise_differ (map rc_str_bytes of) rise) rs c
