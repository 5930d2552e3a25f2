-- Rows whose pictures are loaded one after another.
use Rattle.std.specs.Prelude.{◌≡◌, ℕ, ◌+◌, ◌<◌, List, [], ◌∷◌, length, map, drop, get_or}
use Rattle.std.specs.declared.alloc.Global.{Global}
use Rattle.std.specs.declared.vec.Vec.{Vec}
use Rattle.std.proofs.Common.{refl, sym, ap, ◌∙◌, inl, inr, arith}
use Rattle.std.proofs.lemmas.List.{drop_more}
use Rattle.std.proofs.lemmas.List.Sums.{sum_by-cons}
use Rattle.kishu_meaning.specs.values.Values.{State}
use Rattle.kishu_objects.specs.Picture.{listed}
use Rattle.kishu_store.specs.Groups.{Group}
use Rattle.kishu_store.specs.Tables.{Row, Table}
use Rattle.kishu_graph.specs.Kept.{row_of}
use Rattle.kishu_graph.specs.declared.tables.TableRow as rust_row
use Rattle.kishu_history.specs.Checkout.{carried}
use Rattle.kishu_checkout.specs.Fetched.{contents, taken_by}
use Rattle.kishu_checkout.specs.Groups.{IsNoneOf, IsLoadedAs}
use Rattle.kishu_checkout.specs.Placed.{ArePlaced, FailsAt}
use Rattle.kishu_checkout.proofs.Nodes.{nodes_few}

-- From here on these rows are left.
pub record IsPlacing (t : Table) (bytes : List (List ℕ)) (before here : State) (rows : Table) (left : List (List ℕ)) : Type 0 where
  pub placed : (after : State) → ArePlaced [] rows left here after → ArePlaced [] t bytes before after
  pub fails : (at : ℕ) → FailsAt rows left at → FailsAt t bytes at

pub placing_all : (t : Table) (bytes : List (List ℕ)) (before : State) → IsPlacing t bytes before before t bytes
placing_all t bytes before = record { placed = λ after p. p; fails = λ at f. f }

module _ (t : Table) (bytes : List (List ℕ)) (before here : State) where
  pub placing_next : (r : Row) (rows : Table) (b : List ℕ) (left : List (List ℕ)) (next : State)
      → IsPlacing t bytes before here (r ∷ rows) (b ∷ left) → IsLoadedAs r.group b here next → IsPlacing t bytes before next rows left
  placing_next r rows b left next p l = record {
    placed = λ after q. p.placed after (record {
      pictures = l.picture ∷ q.pictures;
      told = (l.told, q.told);
      names = ap (λ g. g ∷ map listed q.pictures) l.names ∙ ap (λ gs. r.group ∷ gs) q.names;
      is = q.is ∙ ap (carried [] q.pictures) l.is;
    });
    fails = λ at f. p.fails at (inr (record { picture = l.picture; told = l.told; names = l.names }, f));
  }

  pub placing_fails : (r : Row) (rows : Table) (b : List ℕ) (left : List (List ℕ)) (at : ℕ)
      → IsPlacing t bytes before here (r ∷ rows) (b ∷ left) → IsNoneOf r.group b × (at ≡ r.place) → FailsAt t bytes at
  placing_fails r rows b left at p f = p.fails at (inl f)

  pub placing_end : IsPlacing t bytes before here [] [] → ArePlaced [] t bytes before here
  placing_end p = p.placed here (record { pictures = []; told = tt; names = refl; is = refl })

-- ---- what is left from a place on

pub rows_at : (xs : List rust_row.TableRow) (i : ℕ) (x : rust_row.TableRow) → i < length xs → x ≡ get_or xs i x
    → map row_of (drop i xs) ≡ row_of x ∷ map row_of (drop (i + 1) xs)
rows_at xs i x l is = ap (map row_of) (drop_more xs i x l ∙ ap (λ y. y ∷ drop (i + 1) xs) (sym is))

pub contents_at : (ps : List (Vec ℕ Global)) (i : ℕ) (p : Vec ℕ Global) → i < length ps → p ≡ get_or ps i p
    → contents (drop i ps) ≡ p.items ∷ contents (drop (i + 1) ps)
contents_at ps i p l is = ap contents (drop_more ps i p l ∙ ap (λ y. y ∷ drop (i + 1) ps) (sym is))

-- There is room for those that are left.
pub room_next : (left : List (List ℕ)) (b : List ℕ) (more : List (List ℕ)) (group : Group) (before after : State) (most : ℕ) → left ≡ b ∷ more
    → length before.nodes + taken_by left + 1 < most → IsLoadedAs group b before after → length after.nodes + taken_by more + 1 < most
room_next left b more group before after most e room l =
    let few = nodes_few group b before after l in
    let taken = ap taken_by e ∙ sum_by-cons (λ (p : List ℕ). length p) b more in
    omega (arith, room, few, taken)

pub room_here : (left : List (List ℕ)) (b : List ℕ) (more : List (List ℕ)) (nodes most : ℕ) → left ≡ b ∷ more
    → nodes + taken_by left + 1 < most → nodes + length b + 1 < most
room_here left b more nodes most e room = (let taken = ap taken_by e ∙ sum_by-cons (λ (p : List ℕ). length p) b more in omega (arith, room, taken))
