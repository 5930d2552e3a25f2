-- The pictures that a commit asks for: which they are, how many bytes they have, what they tell, and what is lacking where one isn't there.
use Rattle.std.proofs.Common.{◌≡◌, inl, inr, ℕ, Bool, true, ◌&&◌, List, [], ◌∷◌, length, map, Option, Some, None, refl, sym, ◌∙◌, ap, subst, arith}
use Rattle.std.proofs.lemmas.Bool.{cases_Bool}
use Rattle.std.proofs.lemmas.Bool.Decides.{Decides-eqb}
use Rattle.std.proofs.lemmas.List.{length-map}
use Rattle.std.proofs.lemmas.List.Sums.{sum_by-cons}
use Rattle.std.specs.List.{sum_by}
use Rattle.std.specs.Prelude.{◌==◌, if◌then◌else◌, filter}
use Rattle.std.specs.declared.alloc.Global.{Global}
use Rattle.std.specs.declared.vec.Vec.{Vec}
use Rattle.kishu_host.specs.Host as host
use Rattle.kishu_meaning.specs.values.Values.{State}
use Rattle.kishu_objects.specs.Bytes.{picture_bytes}
use Rattle.kishu_objects.specs.Lists.{In}
use Rattle.kishu_objects_laws.specs.ListLaws.{filter_in}
use Rattle.kishu_store.specs.Groups.{Group, is_one_of}
use Rattle.kishu_store.specs.Limits.{newest_profile}
use Rattle.kishu_store.specs.Tables.{Row, Table, bytes_at, bytes_in, group_in, groups_in, len_in}
use Rattle.kishu_graph.specs.Tables.{table_of_rows}
use Rattle.kishu_history.specs.Accessed.{accessed_by}
use Rattle.kishu_history.specs.Live.{IsLive}
use Rattle.kishu_history.specs.Stored.{Stored}
use Rattle.kishu_history.specs.Touched.{classes}
use Rattle.kishu_history_laws.specs.Choices.{in_map}
use Rattle.kishu_history_laws.specs.cells.AccessLaws.{classes_same}
use Rattle.kishu_history_laws.specs.states.AlikeLaws.{and_both}
use Rattle.kishu_checkout.specs.CarriedLaws.{bytes_lack}
use Rattle.kishu_checkout.specs.Fetched.{contents, AreFetched, LacksBytes}
use Rattle.kishu_checkout.specs.Pictures.{LacksAt, LacksSome, told_file}
use Rattle.kishu_delta.specs.Compared.{asked_pictures, asked_row, groups_with, pictured}
use Rattle.kishu_delta.specs.Deltas.{IsDraft, agrees, groups_asked as groups_drafted, rows_asked, stays_by}
use Rattle.kishu_delta.specs.Kept.{Digest, digest_of, is_digest, is_some_digest}
use Rattle.kishu_delta.specs.declared.asking.Asked.{Asked}
use Rattle.kishu_delta.specs.declared.asking.Draft.{Draft}
use Rattle.kishu_session.specs.Committing.{HasRun, IsTold}
use Rattle.kishu_session.specs.Head.{Lacks, LacksAtHead}
use Rattle.kishu_session.specs.Lives.{state_of}
use Rattle.kishu_session.specs.Working.{bytes_asked, groups_asked}
use Rattle.kishu_session.specs.declared.head.Head.{Head}
use Rattle.kishu_session.proofs.Commits.{table-here}

-- ---- lists of rows and of groups

-- the groups of the rows that are asked for
groups-of-asked : (as' : List Asked) → groups_with (asked_pictures as') ≡ groups_in (map asked_row as')
groups-of-asked [] = refl
groups-of-asked (a ∷ as') = ap (λ (gs : List Group). (asked_row a).group ∷ gs) (groups-of-asked as')

groups-pictured : (s : State) (gs : List Group) → groups_with (pictured s gs) ≡ gs
groups-pictured s [] = refl
groups-pictured s (g ∷ gs) = ap (λ (hs : List Group). g ∷ hs) (groups-pictured s gs)

-- Rows whose lengths are those of their groups take together what the groups take.
lengths-sum : (f : Group → ℕ) (t : Table) → ((r : Row) → In r t → r.len ≡ f r.group) → bytes_in t ≡ sum_by f (groups_in t)
lengths-sum f [] each = refl
lengths-sum f (r ∷ t) each =
    let here = each r (inl refl) in
    let rest = lengths-sum f t (λ q m. each q (inr m)) in
    let front = sum_by-cons len_in r t in
    let back = sum_by-cons f r.group (groups_in t) in
    omega (arith, here, rest, front, back)

-- The bytes at rows' places are what each row's group has.
bytes-are : (file : List ℕ) (f : Group → List ℕ) (t : Table) → ((r : Row) → In r t → bytes_at file r ≡ f r.group) → map (bytes_at file) t ≡ map f (groups_in t)
bytes-are file f [] each = refl
bytes-are file f (r ∷ t) each = (λ i. each r (inl refl) i ∷ bytes-are file f t (λ q m. each q (inr m)) i)

-- Two tests that agree choose the same.
chosen-same : (test other : Group → Bool) (gs : List Group) → ((g : Group) → test g ≡ other g) → filter test gs ≡ filter other gs
chosen-same test other gs each = ap (λ (f : Group → Bool). filter f gs) (λ i g. each g i)

-- ---- what cells ask for

module _ (place : ℕ) (before : State) (old : Head) (cells : List (List ℕ)) (ran : HasRun place before old cells) (draft : Draft)
    (is : IsDraft old.kept (table_of_rows old.table) old.live.names.accessed (state_of old.live) draft) where
  abbrev rows : Table
  rows = table_of_rows old.table

  abbrev gs : List Group
  gs = groups_in rows

  abbrev u : State
  u = state_of old.live

  abbrev own : List (List ℕ)
  own = accessed_by newest_profile cells before

  abbrev noted : List (List ℕ)
  noted = old.live.names.accessed

  -- whether a group has a picture now of the digest that the one before had
  abbrev alike : Group → Bool
  alike g = is_digest (digest_of (picture_bytes before g)) (picture_bytes u g)

  -- So it is told by the digest that is kept of one of the table's groups.
  agrees-is : (g : Group) → is_one_of g gs ≡ true → agrees old.kept u g ≡ alike g
  agrees-is g e =
      ap (λ (o : Option Digest). is_some_digest o (picture_bytes u g))
      (ran.pictures.digests g ∙ ap (λ (b : Bool). if b then Some (digest_of (picture_bytes before g)) else None) e)

  tests-agree : (g : Group) → (is_one_of g gs && agrees old.kept u g) ≡ (is_one_of g gs && alike g)
  tests-agree g = elim (cases_Bool (is_one_of g gs)) [ inl e ↦ ap (λ (b : Bool). is_one_of g gs && b) (agrees-is g e) | inr e ↦ rw e refl ]

  stays-same : stays_by gs noted u (agrees old.kept u) ≡ groups_asked gs before own u
  stays-same =
      chosen-same (λ (g : Group). is_one_of g gs && agrees old.kept u g) (λ (g : Group). is_one_of g gs && alike g) (classes gs noted u) tests-agree
      ∙ ap (λ (cs : List Group). filter (λ (g : Group). is_one_of g gs && alike g) cs) (classes_same noted own ran.accessed gs u)

  drafted-rows : groups_drafted draft ≡ groups_in (rows_asked draft)
  drafted-rows = groups-of-asked draft.asked.items

  -- They are asked for in the order of their classes.
  asked-are : groups_in (rows_asked draft) ≡ stays_by gs noted u (agrees old.kept u)
  asked-are = sym drafted-rows ∙ ap groups_with is.asked ∙ groups-pictured u (stays_by gs noted u (agrees old.kept u))

  -- A row that is asked for is as long as its picture was, and so is its picture now.
  same-length : (r : Row) → In r (rows_asked draft) → r.len ≡ length (picture_bytes u r.group)
  same-length r m =
      let row = is.rows r m in
      let among : In r.group (stays_by gs noted u (agrees old.kept u)) = subst (λ (hs : List Group). In r.group hs) asked-are (in_map group_in (rows_asked draft) r m) in
      let passes = (filter_in (λ (g : Group). is_one_of g gs && agrees old.kept u g) (classes gs noted u) r.group among).1 in
      let two = and_both (is_one_of r.group gs) (agrees old.kept u r.group) passes in
      let digest : alike r.group ≡ true = sym (agrees-is r.group two.0) ∙ two.1 in
      let lengths : (length (picture_bytes before r.group) == length (picture_bytes u r.group)) ≡ true = (and_both _ _ digest).0 in
      sym (ran.told.pictures r row).len ∙ (Decides-eqb (length (picture_bytes before r.group)) (length (picture_bytes u r.group))).0 lengths

  pub asked-bytes : bytes_in (rows_asked draft) ≡ bytes_asked gs before own u
  asked-bytes =
      lengths-sum (λ (g : Group). length (picture_bytes u g)) (rows_asked draft) same-length
      ∙ ap (λ (hs : List Group). sum_by (λ (g : Group). length (picture_bytes u g)) hs) (asked-are ∙ stays-same)

  pub asked-read : (a b : Option ℕ) → host.ReadsMore a b (bytes_in (rows_asked draft)) → host.ReadsMore a b (bytes_asked gs before own u)
  asked-read a b reads = subst (λ (n : ℕ). host.ReadsMore a b n) asked-bytes reads

  -- ---- what the stored pictures tell

  module _ (s : host.State) (pictures : List (List ℕ)) (fetched : AreFetched s (rows_asked draft) pictures) where
    by-file : s.tells ≡ true → IsLive (Stored (Some s.file)) rows before → pictures ≡ map (picture_bytes before) (groups_drafted draft)
    by-file tells live =
        fetched.bytes tells
        ∙ bytes-are s.file (picture_bytes before) (rows_asked draft) (λ r m. (live.pictures r (is.rows r m)).bytes)
        ∙ ap (map (picture_bytes before)) (sym drafted-rows)

    -- Where the host tells a file that holds the pictures of the state before, they are those.
    pub stored-told : IsTold (told_file s) rows before → pictures ≡ map (picture_bytes before) (groups_drafted draft)
    stored-told told = elim (cases_Bool s.tells) [
      | inl e ↦ by-file e (subst (λ (b : Bool). IsTold (if b then Some s.file else None) rows before) e told)
      | inr e ↦ absurd (subst (λ (b : Bool). IsTold (if b then Some s.file else None) rows before) e told)
    ]

  -- ---- what is lacking

  lacks-some : (s : host.State) (t : Table) (at : ℕ) → LacksAt s t at → LacksSome s t
  lacks-some s t at l told each = (let p = each l.row l.there in l.none told p.0 p.1)

  pub asked-lacks : (s : host.State) (at : ℕ) → LacksBytes s (rows_asked draft) at → LacksAtHead old.graph s at
  asked-lacks s at l h k =
      let here = bytes_lack s rows at (record { row = l.row; there = is.rows l.row l.there; lacks = l.lacks }) in
      subst (λ (t : Table). Lacks s t at) (table-here place before old cells ran h k) (record { lacks = here; some = lacks-some s rows at here })

-- as many as the draft asked for
pub as-many : (s : host.State) (draft : Draft) (pictures : List (Vec ℕ Global)) → AreFetched s (rows_asked draft) (contents pictures) → length pictures ≡ length draft.asked.items
as-many s draft pictures fetched =
    sym (length-map (contents pictures) (λ (p : List ℕ). length p) ∙ length-map pictures (λ (p : Vec ℕ Global). p.items))
    ∙ ap (λ (ns : List ℕ). length ns) fetched.lens
    ∙ length-map (rows_asked draft) len_in
    ∙ length-map draft.asked.items asked_row
