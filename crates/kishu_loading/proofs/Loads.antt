-- What is read as a picture with its numbers moved is a picture that is loaded.
use Rattle.std.specs.Prelude.{◌≡◌, ℕ, ◌+◌, ◌-◌, IsTrue, List, [], ◌∷◌, ◌++◌, length, map, Ok, Err}
use Rattle.std.specs.declared.alloc.Global.{Global}
use Rattle.std.specs.declared.rc.RcStr.{RcStr}
use Rattle.std.proofs.Common.{refl, sym, ap, subst, ◌∙◌, arith, append-nil, length-append}
use Rattle.std.proofs.lemmas.List.{length-map}
use Rattle.kishu_heap.specs.Cells.{node_of}
use Rattle.kishu_heap.specs.declared.node.Node as rust
use Rattle.kishu_meaning.specs.declared.value.Value as rust_value
use Rattle.kishu_meaning.specs.values.Sound.{are_sound_names}
use Rattle.kishu_meaning.specs.values.Values.{Value, Node, State, Names}
use Rattle.kishu_objects.specs.Lists.{In}
use Rattle.kishu_objects.specs.Loading.{bind_all}
use Rattle.kishu_objects.specs.Picture.{named, listed}
use Rattle.kishu_objects.specs.Shape.{each_child}
use Rattle.kishu_reading.specs.FromBytes.{Front, Reading, whole_picture, with_place, read_picture}
use Rattle.kishu_loading.specs.Loaded.{IsLoaded, KeepsNodes}
use Rattle.kishu_names.specs.Namespace.{names_of}
use Rattle.kishu_loading.specs.Moving.{read_as, moved, moved_picture}
use Rattle.kishu_loading.specs.Told.{KeepLeading}
use Rattle.kishu_loading.proofs.Moves.{picture_moved, state_moved}
use Rattle.kishu_loading.proofs.SoundNames.{names_more}

abbrev pub start : List ℕ → Front
start bytes = record { rest = bytes; met = 0 }

-- A reader gave something where another gave that as another thing.
pub record Was {A B : Type 0} (f : A → B) (o : Reading A) (b : B) (s : Front) : Type 0 where
  pub value : A
  pub first : o ≡ Ok (value, s)
  pub is : f value ≡ b

module _ {A B : Type 0} (f : A → B) where
  pub was : (o : Reading A) (b : B) (s : Front) → read_as f o ≡ Ok (b, s) → Was f o b s
  was (Ok r) b s e = (let h : (f r.0, r.1) ≡ (b, s) = ok_is (f r.0, r.1) (b, s) e in
      record { value = r.0; first = ap (λ t. Ok (r.0, t)) (ap (λ z. z.1) h); is = ap (λ z. z.0) h })
    where
      ok_is : (x y : B × Front) → ◌≡◌ {A = Reading B} (Ok x) (Ok y) → x ≡ y
      ok_is x y e = cc
  was (Err left) b s e = absurd (cc)

  pub failed : (o : Reading A) (left : ℕ) → read_as f o ≡ Err left → o ≡ Err left
  failed (Ok r) left e = absurd (cc)
  failed (Err n) left e = cc

-- What was read.
pub record IsRead (base : ℕ) (bytes : List ℕ) (q : State) : Type 0 where
  pub picture : State
  pub read : read_picture bytes ≡ Ok picture
  pub is : state_moved base picture ≡ q

pub read_ok : (base : ℕ) (bytes : List ℕ) (q : State) (s : Front) → moved_picture base (start bytes) ≡ Ok (q, s) → IsRead base bytes q
unfolding read_picture
read_ok base bytes q s e =
    let w = was (state_moved base) (whole_picture (start bytes)) q s (sym (picture_moved base (start bytes)) ∙ e) in
    record { picture = w.value; read = ap (with_place (length bytes)) w.first; is = w.is }

pub read_fault : (base : ℕ) (bytes : List ℕ) (left : ℕ) → moved_picture base (start bytes) ≡ Err left → read_picture bytes ≡ Err (length bytes - left)
unfolding read_picture
read_fault base bytes left e = ap (with_place (length bytes)) (failed (state_moved base) (whole_picture (start bytes)) left
    (sym (picture_moved base (start bytes)) ∙ e))

-- ---- the state that is left

titles_moved : (base : ℕ) (ns : Names) → map (λ (b : List ℕ × Value). b.0) (map (named (λ i. base + i)) ns) ≡ map (λ (b : List ℕ × Value). b.0) ns
titles_moved base [] = refl
titles_moved base (b ∷ ns) = ap (λ xs. b.0 ∷ xs) (titles_moved base ns)

module _ (base : ℕ) (bytes : List ℕ) (q : State) (r : IsRead base bytes q) where
  -- A name that is none of the picture's is none of those that are bound.
  pub not_its : (x : List ℕ) → ((p : State) → read_picture bytes ≡ Ok p → In x (listed p) → ⊥) → In x (map (λ (b : List ℕ × Value). b.0) q.names) → ⊥
  not_its x n h = n r.picture r.read (subst (In x) (ap (λ (s : State). map (λ (b : List ℕ × Value). b.0) s.names) (sym r.is)
      ∙ titles_moved base r.picture.names) h)

  pub is_loaded : (nodes new_nodes : List Node) (bound new_bound : Names) → base ≡ length nodes → new_nodes ≡ nodes ++ q.nodes
      → new_bound ≡ bind_all q.names bound
      → IsLoaded bytes (record { names = bound; nodes = nodes }) (record { names = new_bound; nodes = new_nodes })
  is_loaded nodes new_nodes bound new_bound long more bind = record {
    picture = r.picture;
    read = r.read;
    is = ap (λ (ns : Names). record { names = ns; nodes = new_nodes }) (bind ∙ ap (λ (s : State). bind_all s.names bound) (sym r.is))
        ∙ ap (λ (ms : List Node). record { names = bind_all (map (named (λ i. base + i)) r.picture.names) bound; nodes = ms })
        (more ∙ ap (λ (s : State). nodes ++ s.nodes) (sym r.is))
        ∙ ap (λ (b : ℕ). record {
          names = bind_all (map (named (λ i. b + i)) r.picture.names) bound;
          nodes = nodes ++ map (each_child (moved b))
              r.picture.nodes;
        }) long;
  }

pub keeps_none : (nodes new : List Node) → new ≡ nodes → KeepsNodes nodes new
keeps_none nodes new e = record { more = []; is = e ∙ sym (append-nil nodes) }

pub keeps_more : (nodes more new : List Node) → new ≡ nodes ++ more → KeepsNodes nodes new
keeps_more nodes more new e = record { more = more; is = e }

-- ---- names that lead to nodes

-- As many nodes are there afterwards as before and in the picture.
pub longer : (base : ℕ) (nodes : List Node) (items : List rust.Node) (new : List Node) → base ≡ length nodes → new ≡ nodes ++ map node_of items
    → base + length items ≡ length new
longer base nodes items new e g =
    sym (ap length g ∙ length-append nodes (map node_of items)
    ∙ ap (λ k. length nodes + k) (length-map items node_of) ∙ ap (λ k. k + length items) (sym e))

-- Names that led to nodes that were there lead to ones that are there, where a call keeps them so among any number of nodes.
module _ (names : List (RcStr Global × rust_value.Value)) (base more : ℕ) (nodes new : List Node) (old after : Names) where
  pub leads_on : base + more ≡ length new → IsTrue (are_sound_names (base + more) (names_of names)) → base ≡ length nodes
      → ((n : ℕ) → IsTrue (are_sound_names n (names_of names)) → KeepLeading n old after)
      → IsTrue (are_sound_names (length nodes) old) → IsTrue (are_sound_names (length new) after)
  leads_on long sound e keeps h =
      keeps (length new) (subst (λ n. IsTrue (are_sound_names n (names_of names))) long sound)
      (names_more (length nodes) (length new) (omega (arith, long, e)) old h)
