-- Which changes fit a table, by the rows that stay of it.
use Rattle.std.specs.Prelude.{◌≡◌, ◌<◌, ◌≤◌, ◌+◌, ℕ, Bool, false, List, [], ◌∷◌, ◌++◌, suc, length, map, take, get_or, refl}
use Rattle.std.specs.Cmp.Lexicographic.{slice_cmp}
use Rattle.std.specs.List.{sum_by}
use Rattle.std.specs.Ordering.{nat_cmp, match_ordering}
use Rattle.std.specs.declared.alloc.Global.{Global}
use Rattle.std.specs.declared.rc.RcStr.{RcStr}
use Rattle.std.specs.declared.vec.Vec.{Vec}
use Rattle.std.specs.declared.cmp.Ordering.TheVariants.{Less, Equal, Greater}
use Rattle.std.proofs.Common.{zero, ap, sym, ◌∙◌, arith, Ordering}
use Rattle.std.proofs.lemmas.Bool.{false≢true}
use Rattle.std.proofs.lemmas.List.Sums.{sum_by-cons}
use Rattle.kishu_store.specs.Groups.{Group, first_name, Rise}
use Rattle.kishu_store.specs.Limits.{most_pictured}
use Rattle.kishu_store.specs.Tables.{Row, Table, first_in, len_in, names_in, bytes_in, put_row, put_rows, rows_from, after, are_apart}
use Rattle.kishu_graph.specs.Fits.{Left, left_of, lengths_in, names_of, TellsFit}
use Rattle.kishu_graph.specs.Kept.{texts_of}
use Rattle.kishu_graph.specs.Tables.{stored_of, change_from}
use Rattle.kishu_graph.proofs.Apart.{names-put}
use Rattle.kishu_graph.proofs.Stays.{stays, met}

-- ---- the bytes of a table's pictures

bytes_by : (r q : Row) (t : Table) (o : Ordering) → bytes_in (put_row r t) ≡ r.len + bytes_in t → bytes_in (match_ordering o (r ∷ q ∷ t) (r ∷ q ∷ t) (q ∷ put_row r t)) ≡ r.len + bytes_in (q ∷ t)
bytes_by r q t Less e = sum_by-cons len_in r (q ∷ t)
bytes_by r q t Equal e = sum_by-cons len_in r (q ∷ t)
bytes_by r q t Greater e = omega (arith, sum_by-cons len_in q (put_row r t), e, sum_by-cons len_in q t)

pub row_bytes : (r : Row) (t : Table) → bytes_in (put_row r t) ≡ r.len + bytes_in t
row_bytes r [] = sum_by-cons len_in r []
row_bytes r (q ∷ t) = bytes_by r q t (slice_cmp nat_cmp (first_in r) (first_in q)) (row_bytes r t)

pub bytes_put : (rs t : Table) → bytes_in (put_rows rs t) ≡ bytes_in rs + bytes_in t
bytes_put [] t = omega arith
bytes_put (r ∷ rs) t = omega (arith, row_bytes r (put_rows rs t), bytes_put rs t, sum_by-cons len_in r rs)

-- ---- the rows that a commit stores

stored_names : (commit place : ℕ) (stored : List (Vec (RcStr Global) Global × ℕ)) → names_in (rows_from commit place (map stored_of stored)) ≡ names_of stored
stored_names commit place [] = refl
stored_names commit place (s ∷ stored) = ap (λ (l : List (List ℕ)). texts_of s.0 ++ l) (stored_names commit (place + s.1) stored)

stored_bytes : (commit place : ℕ) (stored : List (Vec (RcStr Global) Global × ℕ)) → bytes_in (rows_from commit place (map stored_of stored)) ≡ lengths_in stored
stored_bytes commit place [] = refl
stored_bytes commit place (s ∷ stored) =
    let row : Row = record { group = texts_of s.0; version = commit; place = place; len = s.1 } in
    omega (arith, sum_by-cons len_in row (rows_from commit (place + s.1) (map stored_of stored)), stored_bytes commit (place + s.1) stored, sum_by-cons (λ (n : ℕ). n) s.1 (map (λ z. z.1) stored))

-- ---- what fits

module _ (t : Table) (dropped : List (Vec (RcStr Global) Global)) (stored : List (Vec (RcStr Global) Global × ℕ)) where
  abbrev ds : List Group
  ds = map texts_of dropped

  -- a group that isn't met isn't there
  pub tells-missing : Rise (map first_name ds) → 0 < length (left_of t ds).rest → TellsFit t dropped stored false
  tells-missing order some rise commit place =
      ((λ e. absurd (false≢true e)), (λ e fits. (let none = ap length (met t ds rise order fits.dropped) in omega (arith, some, none))))

  module _ (left : Table) (are : left_of t ds ≡ record { rows = left; rest = [] }) where
    module _ (rise : Rise (map first_in t)) (commit place : ℕ) where
      after_is : after (change_from dropped stored commit place) t ≡ put_rows (rows_from commit place (map stored_of stored)) left
      after_is =
          let stay = stays t ds rise (ap (λ (l : Left). l.rest) are) in
          ap (put_rows (rows_from commit place (map stored_of stored))) (sym stay.1 ∙ ap (λ (l : Left). l.rows) are)

      bytes_after : bytes_in (after (change_from dropped stored commit place) t) ≡ bytes_in left + lengths_in stored
      bytes_after = (let e = ap bytes_in after_is in omega (arith, e, bytes_put (rows_from commit place (map stored_of stored)) left, stored_bytes commit place stored))

      apart_after : are_apart (names_in (after (change_from dropped stored commit place) t)) ≡ are_apart (names_of stored ++ names_in left)
      apart_after =
          ap (λ (u : Table). are_apart (names_in u)) after_is
          ∙ (names-put (rows_from commit place (map stored_of stored)) left).apart
          ∙ ap (λ (l : List (List ℕ)). are_apart (l ++ names_in left)) (stored_names commit place stored)

    -- pictures that take too many bytes
    pub tells-many : most_pictured < bytes_in left + lengths_in stored → TellsFit t dropped stored false
    tells-many many rise commit place = ((λ e. absurd (false≢true e)), (λ e fits. (let small = fits.small in omega (arith, small, many, bytes_after rise commit place))))

    -- and those that don't, where it is told whether the names are apart
    pub tells-apart : (apart : Bool) → bytes_in left + lengths_in stored ≤ most_pictured → apart ≡ are_apart (names_of stored ++ names_in left) → TellsFit t dropped stored apart
    tells-apart apart few is rise commit place =
        let told = is ∙ sym (apart_after rise commit place) in (
          (λ e. record { dropped = (stays t ds rise (ap (λ (l : Left). l.rest) are)).0; apart = sym told ∙ e; small = omega (arith, few, bytes_after rise commit place) }),
          (λ e fits. absurd (false≢true (sym e ∙ (told ∙ fits.apart)))),
        )

-- ---- room for pictures

-- those so far and one more take no more than all
pub within : {X Y : Type 0} (f : Y → ℕ) (g : X → Y) (xs : List X) (i : ℕ) (d : X) → i < length xs → sum_by f (map g (take i xs)) + f (g (get_or xs i d)) ≤ sum_by f (map g xs)
within f g [] i d h = absurd (omega (arith, h))
within f g (x ∷ xs) zero d h = omega (arith, sum_by-cons f (g x) (map g xs))
within f g (x ∷ xs) (suc i) d h = omega (arith, sum_by-cons f (g x) (map g (take i xs)), sum_by-cons f (g x) (map g xs), within f g xs i d (omega (arith, h)))
