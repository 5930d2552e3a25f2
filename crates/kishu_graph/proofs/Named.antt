-- A map of texts to numbers looks branches up and puts them as the definitions say.
use Rattle.std.proofs.Common.{◌≡◌, ℕ, List, [], ◌∷◌, Ordering, refl, sym, ◌∙◌}
use Rattle.std.specs.Ordering.{nat_cmp, match_ordering}
use Rattle.std.specs.Rc.{rc_str_bytes}
use Rattle.std.specs.declared.alloc.Global.{Global}
use Rattle.std.specs.declared.cmp.Ordering.TheVariants.{Less, Equal, Greater}
use Rattle.std.specs.declared.rc.RcStr.{RcStr}
use Rattle.std.specs.Cmp.Lexicographic.{slice_cmp}
use Rattle.std.specs.BTreeMap.{insert_entry, is_at}
use Rattle.std.specs.Map.{lookup}
use Rattle.std.proofs.lemmas.Map.Text.{is_eq-slice_cmp}
use Rattle.std.proofs.lemmas.Slice.Eq.{bytes_eq-Decides}
use Rattle.kishu_store.specs.Branches.{commit_of, with_branch_at}
use Rattle.kishu_graph.specs.Kept.{branches_of}

abbrev Entry : Type 0
Entry = RcStr Global × ℕ

abbrev by_name : RcStr Global → RcStr Global → Ordering
by_name x y = slice_cmp nat_cmp (rc_str_bytes x) (rc_str_bytes y)

pub finds : (name : List ℕ) (entries : List Entry) → lookup (is_at (λ k. slice_cmp nat_cmp name (rc_str_bytes k))) entries ≡ commit_of name (branches_of entries)
finds name [] = refl
finds name (e ∷ es) = rw (is_eq-slice_cmp name (rc_str_bytes e.0), finds name es) refl

put_step : (k : RcStr Global) (c : ℕ) (e : Entry) (es : List Entry) (o : Ordering) → by_name k e.0 ≡ o
    → branches_of (insert_entry by_name es k c) ≡ with_branch_at (rc_str_bytes k) c (branches_of es)
    → branches_of (match_ordering o ((k, c) ∷ e ∷ es) ((e.0, c) ∷ es) (e ∷ insert_entry by_name es k c))
    ≡ match_ordering o ((rc_str_bytes k, c) ∷ branches_of (e ∷ es)) ((rc_str_bytes k, c) ∷ branches_of es) ((rc_str_bytes e.0, e.1) ∷ with_branch_at (rc_str_bytes k) c (branches_of es))
put_step k c e es Less h ih = refl
put_step k c e es Equal h ih =
    let same : rc_str_bytes k ≡ rc_str_bytes e.0 = (bytes_eq-Decides (rc_str_bytes k) (rc_str_bytes e.0)).0 (sym (is_eq-slice_cmp (rc_str_bytes k) (rc_str_bytes e.0)) ∙ rw h refl) in
    rw same refl
put_step k c e es Greater h ih = rw ih refl

pub puts : (k : RcStr Global) (c : ℕ) (entries : List Entry) → branches_of (insert_entry by_name entries k c) ≡ with_branch_at (rc_str_bytes k) c (branches_of entries)
puts k c [] = refl
puts k c (e ∷ es) = put_step k c e es _ refl (puts k c es)
