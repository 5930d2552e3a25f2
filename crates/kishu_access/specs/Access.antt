-- What the code's places and containers stand for, and when they and walks are sound.
use Rattle.std.specs.Prelude.{ℕ, ℤ, Bool, true, ◌&&◌, List, map, length, Option, Some, None, Result}
use Rattle.std.specs.Borrow.{Bor}
use Rattle.std.specs.Rc.{rc_str_bytes}
use Rattle.std.specs.declared.alloc.Global.{Global}
use Rattle.std.specs.declared.vec.Vec.{Vec}
use Rattle.kishu_meaning.specs.declared.value.Value as rust
use Rattle.kishu_meaning.specs.values.Texts.{places, LieWithin}
use Rattle.kishu_language.specs.tokens.Names.{is_name}
use Rattle.kishu_meaning.specs.values.Values.{Node, list, dict, value_of}
use Rattle.kishu_meaning.specs.values.Sound.{is_sound, are_sound}
use Rattle.kishu_meaning.specs.cells.Meaning.{Place, named, attribute_of, item_of}
use Rattle.kishu_items.specs.declared.walks.Walk as rust_walk
use Rattle.kishu_items.specs.Walks.{walk_of, is_sound_walk}
use Rattle.kishu_access.specs.declared.places.Place as rust_place
use Rattle.kishu_access.specs.declared.places.Place.TheVariants as rust_places
use Rattle.kishu_access.specs.declared.slices.Places.{Places}
use Rattle.kishu_access.specs.declared.stores.Container.{Container}
use Rattle.kishu_access.specs.declared.stores.Container.TheVariants as containers
use Rattle.kishu_machine.specs.declared.fault.Fault.{Fault}
use Rattle.kishu_machine.specs.Clauses.{IsSoundIn}
use Rattle.kishu_machine.specs.Machine.{IsSound}

abbrev pub place_of : rust_place.Place → Place
place_of (rust_places.Named x) = named (rc_str_bytes x)
place_of (rust_places.Attribute v x) = attribute_of (value_of v) (rc_str_bytes x)
place_of (rust_places.Item v i) = item_of (value_of v) (value_of i)

-- the places of a slice
abbrev pub places_of : Places → List ℤ
places_of p = places p.first p.step p.len

-- how a node is stored into
abbrev pub container_of : Option Node → Container
container_of (Some (list vs)) = containers.List (length vs)
container_of (Some (dict es)) = containers.Dict
container_of _ = containers.Other

abbrev pub is_sound_place : ℕ → Place → Bool
is_sound_place n (named x) = is_name x
is_sound_place n (attribute_of v x) = is_name x && is_sound n v
is_sound_place n (item_of v i) = is_sound n v && is_sound n i

-- how many nodes may be read for a place without a step
abbrev pub place_reads : Place → ℕ
place_reads (named x) = 0
place_reads (attribute_of v x) = 24
place_reads (item_of v i) = 24

-- items, where there are any
abbrev pub are_sound_maybe : ℕ → Option (Vec rust.Value Global) → Bool
are_sound_maybe n None = true
are_sound_maybe n (Some v) = are_sound n (map value_of v.items)

-- a value, where there is one
abbrev pub is_sound_maybe : ℕ → Option rust.Value → Bool
is_sound_maybe n None = true
is_sound_maybe n (Some v) = is_sound n (value_of v)

-- The places of a slice lie among n.
abbrev pub AreWithin : ℕ → Places → Type 0
AreWithin n p = LieWithin n (places_of p)

-- ---- what clauses say of these, over the nodes of a heap

abbrev pub AreSoundBounds : List Node → Bor rust.Value → Bor rust.Value → Bor rust.Value → Type 0
AreSoundBounds nodes start stop step = IsSoundIn nodes start.now × IsSoundIn nodes stop.now × IsSoundIn nodes step.now

abbrev pub SoundWalk : List Node → Result rust_walk.Walk Fault → Type 0
SoundWalk nodes r = IsSound (λ w. is_sound_walk (length nodes) (walk_of w)) (length nodes) r

abbrev pub SoundPlace : List Node → Result rust_place.Place Fault → Type 0
SoundPlace nodes r = IsSound (λ p. is_sound_place (length nodes) (place_of p)) (length nodes) r
