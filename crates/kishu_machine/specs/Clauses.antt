-- What the clauses of many calls say, named once: that values lead to nodes that are there.
use Rattle.std.specs.Prelude.{true, IsTrue, List, map, length, Option, Result}
use Rattle.std.specs.declared.alloc.Global.{Global}
use Rattle.std.specs.declared.vec.Vec.{Vec}
use Rattle.kishu_meaning.specs.declared.value.Value as rust
use Rattle.kishu_meaning.specs.values.Values.{Node, value_of}
use Rattle.kishu_meaning.specs.values.Sound.{is_sound, are_sound}
use Rattle.kishu_machine.specs.declared.fault.Fault.{Fault}
use Rattle.kishu_machine.specs.Lists.{is_sound_in, are_sound_in, values_in, items_in}
use Rattle.kishu_machine.specs.declared.fault.Thrown as rust_thrown
use Rattle.kishu_machine.specs.Machine.{IsSound, is_sound_thrown, thrown_of}

-- ---- what is handed to a call

abbrev pub IsSoundIn : List Node → rust.Value → Type 0
IsSoundIn nodes v = IsTrue (is_sound (length nodes) (value_of v))

abbrev pub AreSoundIn : List Node → List rust.Value → Type 0
AreSoundIn nodes vs = IsTrue (are_sound (length nodes) (map value_of vs))

abbrev pub IsSoundThrown : List Node → rust_thrown.Thrown → Type 0
IsSoundThrown nodes x = IsTrue (is_sound_thrown (length nodes) (thrown_of x))

-- ---- what it returned, or raised

-- Where it returns nothing that leads to nodes, only what it raised is told.
abbrev pub SoundEnd : {X : Type 0} → List Node → Result X Fault → Type 0
SoundEnd nodes r = IsSound (λ _. true) (length nodes) r

abbrev pub SoundValue : List Node → Result rust.Value Fault → Type 0
SoundValue nodes r = IsSound (λ v. is_sound (length nodes) (value_of v)) (length nodes) r

abbrev pub SoundValues : List Node → Result (Vec rust.Value Global) Fault → Type 0
SoundValues nodes r = IsSound (λ v. are_sound (length nodes) (map value_of v.items)) (length nodes) r

-- a value, and values, where there are some
abbrev pub SoundMaybe : List Node → Result (Option rust.Value) Fault → Type 0
SoundMaybe nodes r = IsSound (λ o. is_sound_in (length nodes) (values_in o)) (length nodes) r

abbrev pub SoundMaybes : List Node → Result (Option (Vec rust.Value Global)) Fault → Type 0
SoundMaybes nodes r = IsSound (λ o. are_sound_in (length nodes) (items_in o)) (length nodes) r
