-- The digests that are kept of groups' pictures, and when they are those of a state's.
use Rattle.std.specs.Prelude.{◌≡◌, ℕ, ◌==◌, Bool, false, ◌&&◌, if◌then◌else◌, List, length, Option, Some, None}
use Rattle.std.specs.Str.{bytes_eq}
use Rattle.std.specs.declared.alloc.Global.{Global}
use Rattle.std.specs.declared.rc.RcStr.{RcStr}
use Rattle.std.specs.declared.vec.Vec.{Vec}
use Rattle.sha2.specs.Sha256.{sha256}
use Rattle.kishu_meaning.specs.values.Values.{State}
use Rattle.kishu_store.specs.Groups.{Group, is_group, is_one_of}
use Rattle.kishu_store.specs.Tables.{Row, Table}
use Rattle.kishu_objects.specs.Bytes.{picture_bytes}
use Rattle.kishu_objects.specs.Fits.{StateFits}
use Rattle.kishu_objects.specs.Lists.{In}
use Rattle.kishu_objects.specs.Picture.{picture}
use Rattle.kishu_delta.specs.Found.{found, found_as}
use Rattle.kishu_delta.specs.declared.digest.Digest as rust

-- ---- a digest

-- the SHA-256 of a picture, and its length in bytes
abbrev pub Digest : Type 0
Digest = List ℕ × ℕ

-- that of these bytes
abbrev pub digest_of : List ℕ → Digest
digest_of bytes = (sha256 bytes, length bytes)

-- whether it is that of these bytes
abbrev pub is_digest : Digest → List ℕ → Bool
is_digest d bytes = (d.1 == length bytes) && bytes_eq d.0 (sha256 bytes)

-- as the program has it
abbrev pub digest_in : rust.Digest → Digest
digest_in d = (d.sha256, d.len)

-- ---- what is kept

-- groups with the digests of their pictures
abbrev pub Digests : Type 0
Digests = List (Group × Digest)

abbrev pub digests_of : List (Vec (RcStr Global) Global × rust.Digest) → Digests
digests_of = found_as digest_in

-- the digest that is kept of a group
abbrev pub kept_of : Digests → Group → Option Digest
kept_of = found

-- whether there is one, and it is that of these bytes
abbrev pub is_some_digest : Option Digest → List ℕ → Bool
is_some_digest None bytes = false
is_some_digest (Some d) bytes = is_digest d bytes

-- whether the digest of these bytes is kept of a group
abbrev pub is_kept : Digests → Group → List ℕ → Bool
is_kept kept g bytes = is_some_digest (kept_of kept g) bytes

-- Of this group this digest is kept now, or none; of others what was kept of them.
abbrev pub KeepsDigest : Group → Option Digest → (old new : Digests) → Type 0
KeepsDigest g d old new = (h : Group) → kept_of new h ≡ (if is_group h g then d else kept_of old h)

-- ---- the digests of a state's pictures

-- Of each row's group the digest of the picture in this state is kept, and this can be told by its bytes.
pub record KeepsDigests (kept : Digests) (t : Table) (s : State) : Type 0 where
  pub digests : (r : Row) → In r t → kept_of kept r.group ≡ Some (digest_of (picture_bytes s r.group))
  pub fit : (r : Row) → In r t → StateFits (picture s r.group)

-- Just of these groups are digests kept, of each that of these bytes.
abbrev pub KeepsJustThese : Digests → List Group → (Group → List ℕ) → Type 0
KeepsJustThese kept gs bytes = (g : Group) → kept_of kept g ≡ (if is_one_of g gs then Some (digest_of (bytes g)) else None)

-- Just of these groups are digests kept, of each that of the picture in this state, which can be told by its bytes.
pub record KeepsJust (kept : Digests) (gs : List Group) (s : State) : Type 0 where
  pub digests : KeepsJustThese kept gs (picture_bytes s)
  pub fit : (g : Group) → In g gs → StateFits (picture s g)
