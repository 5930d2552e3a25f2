use Rattle.std.proofs.Common.{◌≡◌, ◌-◌, ◌++◌, length, pos}
use Rattle.std.specs.Str.{chars}
use Rattle.std.specs.String.{string_bytes}
use Rattle.kishu_meaning.specs.values.Texts.{places, LieWithin, picked}
use Rattle.kishu_text.proofs.index.pick.Given as goal

abbrev pub invariant-loop-k : goal.invariant-loop-k
invariant-loop-k l =
    LieWithin (length l.characters) (places (pos l.place) l.fn.step (l.len - l.k))
    × (chars (string_bytes l.picked) ++ picked l.characters (places (pos l.place) l.fn.step (l.len - l.k)) ≡ picked l.characters (places (pos l.fn.first) l.fn.step l.len))
