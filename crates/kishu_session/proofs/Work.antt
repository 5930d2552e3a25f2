-- What requests read of the host, and how far they raise the counter.
use Rattle.std.proofs.Common.{◌≡◌, ℕ, List, [], ◌∷◌, length, Option, Some, None, refl, sym, ◌∙◌, ap, subst, inl, inr, arith}
use Rattle.std.proofs.lemmas.List.{append-nil}
use Rattle.kishu_host.specs.Host.{State, ReadsMore}
use Rattle.kishu_language.specs.declared.profile.Profile.TheVariants.{One}
use Rattle.kishu_meaning.specs.cells.Meaning.{run}
use Rattle.kishu_meaning.specs.values.Values as values
use Rattle.kishu_objects.specs.Picture.{order}
use Rattle.kishu_store.specs.Groups.{Group}
use Rattle.kishu_store.specs.Tables.{groups_in}
use Rattle.kishu_graph.specs.Tables.{table_of_rows}
use Rattle.kishu_history.specs.Accessed.{accessed_by}
use Rattle.kishu_history.specs.Touched.{touched}
use Rattle.kishu_history_laws.specs.cells.AccessLaws.{touched_same}
use Rattle.kishu_model.specs.Request.{Request}
use Rattle.kishu_session.specs.Applying.{HasCells}
use Rattle.kishu_session.specs.Lives.{state_of}
use Rattle.kishu_session.specs.Running.{AreSameNames}
use Rattle.kishu_session.specs.Working.{ReadsFor, bytes_asked, bytes_asked_by, nodes_touched}
use Rattle.kishu_session.specs.declared.head.Head.{Head}
use Rattle.kishu_session.specs.declared.live.Live.{Live}
use Rattle.kishu_session.specs.declared.prepared.Prepared.{Prepared}
use Rattle.kishu_session.proofs.RanOn.{RanOn}

-- ---- bytes

pub reads-still : (o : Option ℕ) → ReadsMore o o 0
reads-still None = tt
reads-still (Some y) = (y, refl, omega arith)

-- Where the host wasn't called nothing is read.
pub reads-same : {H : Type 0} (st : H → State) (a b : H) → b ≡ a → ReadsMore (st a).reads (st b).reads 0
reads-same st a b e = subst (λ x. ReadsMore (st a).reads (st x).reads 0) (sym e) (reads-still (st a).reads)

-- What is done after it reads nothing.
pub reads-on : (a b c : Option ℕ) (n : ℕ) → ReadsMore a b n → ReadsMore b c 0 → ReadsMore a c n
reads-on a b None n p q = tt
reads-on a None (Some z) n p q = absurd (cc (q.1))
reads-on a (Some y) (Some z) n p q =
    let same : y ≡ q.0 = cc (q.1) in
    (p.0, p.1, omega (arith, p.2, q.2, same))

-- ---- cells that are committed

-- Where they are these of the request, and left what they did on the old live state, they read what they asked for.
pub reads-ran : (old new : Head) (l : Live) (ran : List (List ℕ)) (s t : State) (front : List (List ℕ)) → front ≡ ran → new.live ≡ l
    → ReadsMore s.reads t.reads (bytes_asked (groups_in (table_of_rows old.table)) (state_of old.live) (accessed_by One front (state_of old.live)) (state_of l))
    → ReadsMore s.reads t.reads (bytes_asked (groups_in (table_of_rows old.table)) (state_of old.live) (accessed_by One ran (state_of old.live)) (state_of new.live))
reads-ran old new l ran s t front is live reads =
    let gs = groups_in (table_of_rows old.table) in
    let u = state_of old.live in
    subst (λ (x : Live). ReadsMore s.reads t.reads (bytes_asked gs u (accessed_by One ran u) (state_of x))) (sym live)
    (subst (λ (ts : List (List ℕ)). ReadsMore s.reads t.reads (bytes_asked gs u (accessed_by One ts u) (state_of l))) is reads)

-- So it is with a request that has cells, and a record.
pub reads-asked : (old new : Head) (s t : State) (q : Request) (p : Prepared) → ReadsFor old new s t q p → HasCells q → (p.recorded ≡ None → ⊥)
    → ReadsMore s.reads t.reads (bytes_asked_by old new q)
reads-asked old new s t q p reads (inl is) some =
    subst (λ (r : Request). ReadsMore s.reads t.reads (bytes_asked_by old new r)) (sym is.1) (subst (λ (r : Request). ReadsFor old new s t r p) is.1 reads some)
reads-asked old new s t q p reads (inr is) some =
    subst (λ (r : Request). ReadsMore s.reads t.reads (bytes_asked_by old new r)) (sym is.1) (subst (λ (r : Request). ReadsFor old new s t r p) is.1 reads some)

-- ---- a cell

-- The names that are noted once it was run touch what its own do.
noted-touched : (gs : List Group) (s u : values.State) (text : List ℕ) (names : List (List ℕ)) → AreSameNames names (accessed_by One (text ∷ []) s)
    → touched gs names u ≡ touched gs (run One text s).accessed u
noted-touched gs s u text names same =
    touched_same names (accessed_by One (text ∷ []) s) same gs u ∙ ap (λ (l : List (List ℕ)). touched gs l u) (append-nil (run One text s).accessed)

-- So they reach as many nodes of the state that it left, which is the new head's.
pub nodes-are : (old new : Head) (l : Live) (text : List ℕ) → RanOn old.live l (text ∷ []) → new.live ≡ l
    → length (order (state_of l) (touched (groups_in (table_of_rows old.table)) l.names.accessed (state_of l))) ≡ nodes_touched old new text
nodes-are old new l text ran live =
    let gs = groups_in (table_of_rows old.table) in
    let s = state_of old.live in
    ap (λ (xs : List (List ℕ)). length (order (state_of l) xs)) (noted-touched gs s (state_of l) text l.names.accessed ran.accessed)
    ∙ ap (λ (x : Live). length (order (state_of x) (touched gs (run One text s).accessed (state_of x)))) (sym live)
