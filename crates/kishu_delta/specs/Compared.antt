-- Classes with their pictures and the groups of a table, compared; pictures compared with those that were handed; and what is kept then.
use Rattle.std.specs.Prelude.{◌≡◌, ℕ, Bool, true, false, not, ◌&&◌, if◌then◌else◌, List, [], ◌∷◌, map, filter, slice_get, Option, Some, None}
use Rattle.std.specs.Str.{bytes_eq}
use Rattle.std.specs.declared.alloc.Global.{Global}
use Rattle.std.specs.declared.vec.Vec.{Vec}
use Rattle.kishu_meaning.specs.values.Values.{State}
use Rattle.kishu_objects.specs.Bytes.{picture_bytes}
use Rattle.kishu_objects.specs.Lists.{In}
use Rattle.kishu_store.specs.Groups.{Group, is_group, is_one_of}
use Rattle.kishu_store.specs.Tables.{Row, Table, groups_in}
use Rattle.kishu_graph.specs.Kept.{row_of}
use Rattle.kishu_delta.specs.declared.delta.StoredGroup as rust
use Rattle.kishu_delta.specs.declared.asking.Asked as rust_asked
use Rattle.kishu_delta.specs.Found.{found, group_of}
use Rattle.kishu_delta.specs.Kept.{Digest, Digests, digest_of, kept_of, is_kept}

-- groups with the bytes of their pictures
abbrev pub Pictures : Type 0
Pictures = List (Group × List ℕ)

abbrev pub group_in : Group × List ℕ → Group
group_in p = p.0

abbrev pub groups_with : Pictures → List Group
groups_with = map group_in

abbrev pub stored_group : rust.StoredGroup → Group
stored_group g = group_of g.names

abbrev pub picture_in : rust.StoredGroup → Group × List ℕ
picture_in g = (stored_group g, g.bytes.items)

abbrev pub with_pictures : List rust.StoredGroup → Pictures
with_pictures = map picture_in

abbrev pub asked_row : rust_asked.Asked → Row
asked_row a = row_of a.row

-- the groups of rows that are asked for
abbrev pub asked_pictures : List rust_asked.Asked → Pictures
asked_pictures = map (λ a. ((asked_row a).group, a.bytes.items))

-- groups with the pictures that they have in a state
abbrev pub pictured : State → List Group → Pictures
pictured s gs = map (λ g. (g, picture_bytes s g)) gs

-- the bytes of pictures that are handed
abbrev pub contents : List (Vec ℕ Global) → List (List ℕ)
contents = map (λ p. p.items)

-- ---- by digests

-- the groups of these the digest of whose picture is kept
abbrev pub standing : Digests → Pictures → List Group
standing kept ps = groups_with (filter (λ p. is_kept kept p.0 p.1) ps)

-- These are just they.
abbrev pub AreStanding : Digests → List rust.StoredGroup → List Group → Type 0
AreStanding kept ps set = (g : Group) → is_one_of g set ≡ is_one_of g (standing kept (with_pictures ps))

-- whether a group is among both
abbrev pub is_known : (gs stand : List Group) → Group → Bool
is_known gs stand g = is_one_of g gs && is_one_of g stand

-- It has this place among the first, and is among the second; or it has none, and isn't among both.
abbrev pub IsPlace : (gs stand : List Group) → Group → Option ℕ → Type 0
IsPlace gs stand g None = is_known gs stand g ≡ false
IsPlace gs stand g (Some i) = (slice_get gs i ≡ Some g) × (is_one_of g stand ≡ true)

-- So each group's is found here.
abbrev pub AreKnown : (gs stand : List Group) → List (Group × ℕ) → Type 0
AreKnown gs stand places = (g : Group) → IsPlace gs stand g (found places g)

-- the groups that aren't among those the digest of whose picture is kept
abbrev pub dropped_from : Digests → Pictures → List Group → List Group
dropped_from kept ps gs = filter (λ g. not (is_one_of g (standing kept ps))) gs

-- the pictures of the groups that are both among the groups and among those, and the others
abbrev pub asked_from : Digests → Pictures → List Group → Pictures
asked_from kept ps gs = filter (λ p. is_known gs (standing kept ps) p.0) ps

abbrev pub stored_from : Digests → Pictures → List Group → Pictures
stored_from kept ps gs = filter (λ p. not (is_known gs (standing kept ps) p.0)) ps

-- Of these pictures those of the groups that are among both are asked for, with rows of the table, and the others stored.
pub record IsParted (t : Table) (stand : List Group) (ps : Pictures) (gs : List rust.StoredGroup) (as' : List rust_asked.Asked) : Type 0 where
  pub stored : with_pictures gs ≡ filter (λ p. not (is_known (groups_in t) stand p.0)) ps
  pub asked : asked_pictures as' ≡ filter (λ p. is_known (groups_in t) stand p.0) ps
  pub rows : (r : Row) → In r (map asked_row as') → In r t

-- ---- by bytes

-- those whose bytes aren't the ones that were handed for them
abbrev pub differing : Pictures → List (List ℕ) → Pictures
differing [] bs = []
differing (p ∷ ps) [] = []
differing (p ∷ ps) (b ∷ bs) = if bytes_eq p.1 b then differing ps bs else p ∷ differing ps bs

-- ---- kept

-- Of these groups none is kept now, and of the others what was kept of them.
abbrev pub Forgets : List Group → (old new : Digests) → Type 0
Forgets gs old new = (g : Group) → kept_of new g ≡ (if is_one_of g gs then None else kept_of old g)

-- what is kept of a group once the digests of these were put in, one after another
abbrev pub put_all : Pictures → Option Digest → Group → Option Digest
put_all [] d g = d
put_all (q ∷ qs) d g = put_all qs (if is_group g q.0 then Some (digest_of q.1) else d) g

-- They were put in, one after another.
abbrev pub Holds : Pictures → (old new : Digests) → Type 0
Holds put old new = (g : Group) → kept_of new g ≡ put_all put (kept_of old g) g

-- every second one, of which the first is one or not
abbrev pub half : Bool → Pictures → Pictures
half first [] = []
half true (p ∷ ps) = p ∷ half false ps
half false (p ∷ ps) = half true ps

-- Every second one was put in, and then the others.
abbrev pub HoldsHalves : Pictures → (old new : Digests) → Type 0
HoldsHalves put old new = (g : Group) → kept_of new g ≡ put_all (half false put) (put_all (half true put) (kept_of old g) g) g
