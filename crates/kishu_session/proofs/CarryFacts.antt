-- The carrying of the live state from one commit's table to another's: what it leaves, and what is lacking where it can't be carried.
use Rattle.std.proofs.Common.{◌≡◌, ◌≤◌, inl, inr, ℕ, Bool, if◌then◌else◌, List, [], ◌∷◌, length, map, Some, None, refl, sym, ◌∙◌, ap, subst, arith}
use Rattle.std.proofs.Math.Logic.{∥∥₁_elim}
use Rattle.std.proofs.Props.{props}
use Rattle.std.proofs.lemmas.Bool.{cases_Bool}
use Rattle.std.proofs.lemmas.List.Sums.{sum_by-cons}
use Rattle.std.proofs.lemmas.Simd.{map-map}
use Rattle.std.specs.Prelude.{◌^◌, filter, not}
use Rattle.kishu_host.specs.Host as host
use Rattle.kishu_meaning.specs.values.Values.{State}
use Rattle.kishu_objects.specs.Bytes.{picture_bytes, state_bytes}
use Rattle.kishu_objects.specs.Lists.{In}
use Rattle.kishu_objects.specs.Picture.{picture}
use Rattle.kishu_store.specs.Graph.{Target}
use Rattle.kishu_store.specs.Groups.{Group, is_one_of}
use Rattle.kishu_store.specs.Histories.{History, head_table, table_to}
use Rattle.kishu_store.specs.Tables.{Row, Table, IsKeptTable, bytes_in, change_of, groups_in, len_in}
use Rattle.kishu_graph.specs.Kept.{Kept}
use Rattle.kishu_graph.specs.Tables.{table_of_rows}
use Rattle.kishu_delta.specs.Kept.{Digests, KeepsJust, digest_of, kept_of}
use Rattle.kishu_history.specs.Checkout.{carried, is_row_of, to_drop, to_load}
use Rattle.kishu_history.specs.Stored.{Stored}
use Rattle.kishu_history.specs.Tables.{AreOfOne, IsTable}
use Rattle.kishu_history_laws.specs.checkouts.GivenLaws.{loaded_pictures}
use Rattle.kishu_history_laws.specs.stores.StoreLaws.{tables_of_one}
use Rattle.kishu_history_laws.specs.tables.FileLaws.{changes_are_rows, kept_is_table}
use Rattle.kishu_checkout.specs.CarriedLaws.{are_bytes_of, are_carried, bytes_lack, fails_lacks}
use Rattle.kishu_checkout.specs.Fetched.{AreFetched, LacksBytes, taken_by}
use Rattle.kishu_checkout.specs.Loads.{AreCarried}
use Rattle.kishu_checkout.specs.Pictures.{LacksAt, LacksSome, told_file}
use Rattle.kishu_checkout.specs.Placed.{ArePlaced, FailsAt}
use Rattle.kishu_session.specs.Head.{KeepsSome, Lacks, LacksToLoad}
use Rattle.kishu_session.specs.Known.{HasHistory, IsHistoryOf}
use Rattle.kishu_session.specs.Lives.{state_of}
use Rattle.kishu_session.specs.declared.head.Head.{Head}
use Rattle.kishu_session.proofs.Carried.{pictures-untold}
use Rattle.kishu_session.proofs.KeptOn.{kept-just}
use Rattle.kishu_session.proofs.LoadFacts.{kept-prop}

-- ---- how many bytes are read

-- They are as many together as the rows tell.
pub taken-all : (bytes : List (List ℕ)) (t : Table) → map (λ (b : List ℕ). length b) bytes ≡ map len_in t → taken_by bytes ≡ bytes_in t
taken-all [] [] e = refl
taken-all (b ∷ bytes) (r ∷ t) e =
    let here : length b ≡ r.len = cc (e) in
    let rest = taken-all bytes t (cc (e)) in
    let front = sum_by-cons (λ (x : List ℕ). length x) b bytes in
    let back = sum_by-cons len_in r t in
    omega (arith, here, rest, front, back)
taken-all [] (r ∷ t) e = absurd (cc (e))
taken-all (b ∷ bytes) [] e = absurd (cc (e))

-- A part of a table takes no more than the table.
pub part-takes : (keep : Row → Bool) (t : Table) → bytes_in (filter keep t) ≤ bytes_in t
part-takes keep [] = omega arith
part-takes keep (r ∷ t) =
    let rest = part-takes keep t in
    let all = sum_by-cons len_in r t in
    elim (cases_Bool (keep r)) [
      | inl e ↦ (let some = sum_by-cons len_in r (filter keep t) in rw e (omega (arith, rest, all, some)))
      | inr e ↦ rw e (omega (arith, rest, all))
    ]

-- ---- tables of commits, in each history that is kept

module _ (kept : Kept) (known : HasHistory kept) (t : Table) (c : ℕ) (was : (h : History) → IsHistoryOf kept h → t ≡ table_to h c) where
  pub kept-there : IsKeptTable t
  kept-there = ∥∥₁_elim known (kept-prop t) (λ k. subst IsKeptTable (sym (was k.0 k.1)) (k.1.good.changes.tables c))

  pub table-there : IsTable t
  table-there = kept_is_table t kept-there

  pub of-one : (u : Table) (d : ℕ) → ((h : History) → IsHistoryOf kept h → u ≡ table_to h d) → AreOfOne t u
  of-one u d is r q m n groups versions =
      ∥∥₁_elim known (rows r q)
      (λ k.
      let h = k.0 in
      let each = changes_are_rows h.graph h.changes h.place k.1.good.changes in
      tables_of_one h.graph.commits (change_of h.changes) each c d r q (subst (λ (x : Table). In r x) (was h k.1) m) (subst (λ (x : Table). In q x) (is h k.1) n) groups versions)
    where
      rows : IsSet Row
      rows = hlevel props

-- ---- what is left

module _ (s : host.State) (head : Head) (known : HasHistory head.graph) (keeps : KeepsSome head) (u : Table) (d : ℕ) (is : (h : History) → IsHistoryOf head.graph h → u ≡ table_to h d) where
  abbrev t : Table
  t = table_of_rows head.table

  abbrev before : State
  before = state_of head.live

  it : IsTable t
  it = table-there head.graph known t keeps.commit keeps.table

  iu : IsTable u
  iu = table-there head.graph known u d is

  one : AreOfOne t u
  one = of-one head.graph known t keeps.commit keeps.table u d is

  pub few-loaded : bytes_in (to_load t u) ≤ 2 ^ 28
  few-loaded =
      let part = part-takes (λ (r : Row). not (is_row_of t r)) u in
      let small = (kept-there head.graph known u d is).small in
      omega (arith, part, small)

  module _ (bytes : List (List ℕ)) (after : State) (fetched : AreFetched s (to_load t u) bytes) (placed : ArePlaced (to_drop t u) (to_load t u) bytes before after) where
    abbrev pub carried-on : AreCarried (told_file s) (to_drop t u) (to_load t u) before after
    carried-on = are_carried s (to_drop t u) (to_load t u) bytes before after fetched placed

    pub pictures-on : (new : Digests)
        → ((pic : Group → List ℕ) → bytes ≡ map (λ r. pic r.group) (to_load t u) → (g : Group)
        → kept_of new g ≡ (if is_one_of g (groups_in (to_load t u)) then Some (digest_of (pic g)) else (if is_one_of g (to_drop t u) then None else kept_of head.kept g)))
        → KeepsJust new (groups_in u) after
    pictures-on new follows =
        let ps = carried-on.pictures in
        let left = carried (to_drop t u) ps before in
        let each = pictures-untold (told_file s) (to_load t u) ps carried-on.each in
        let given : map (λ (r : Row). picture left r.group) (to_load t u) ≡ ps = loaded_pictures (Stored None) t u before ps it iu one keeps.lives each in
        let are : bytes ≡ map (λ (r : Row). picture_bytes left r.group) (to_load t u) =
        are_bytes_of bytes ps placed.told ∙ ap (map state_bytes) (sym given) ∙ map-map state_bytes (λ (r : Row). picture left r.group) (to_load t u) in
        subst (λ (x : State). KeepsJust new (groups_in u) x) (sym carried-on.is)
        (kept-just t u before ps it iu one keeps.lives each head.kept new keeps.pictures (follows (λ (g : Group). picture_bytes left g) are))

  -- ---- what is lacking

  lacks-some : (rows : Table) (at : ℕ) → LacksAt s rows at → LacksSome s rows
  lacks-some rows at l told each = (let p = each l.row l.there in l.none told p.0 p.1)

  lacks-here : (at : ℕ) → d ≡ head.graph.head.commit → LacksAt s (to_load t u) at → LacksToLoad head s at
  lacks-here at there l h k =
      let same : u ≡ head_table h = is h k ∙ ap (table_to h) (there ∙ ap (λ (x : Target). x.commit) k.keeps.graph.shape.head) in
      subst (λ (x : Table). Lacks s (to_load t x) at) same (record { lacks = l; some = lacks-some (to_load t u) at l })

  pub lacks-bytes : (at : ℕ) → d ≡ head.graph.head.commit → LacksBytes s (to_load t u) at → LacksToLoad head s at
  lacks-bytes at there l = lacks-here at there (bytes_lack s (to_load t u) at l)

  pub lacks-picture : (at : ℕ) → d ≡ head.graph.head.commit → (bytes : List (List ℕ)) → AreFetched s (to_load t u) bytes → FailsAt (to_load t u) bytes at → LacksToLoad head s at
  lacks-picture at there bytes fetched fails = lacks-here at there (fails_lacks s (to_load t u) bytes at fetched fails)
