use Rattle.std.proofs.Common.{◌≡◌, ℕ, IsTrue, drop}
use Rattle.kishu_meaning.specs.values.Sound.{are_sound_names}
use Rattle.kishu_objects.specs.Loading.{bind_all}
use Rattle.kishu_checkout.proofs.group.bind_as.Given as goal

abbrev pub invariant-loop-name : goal.invariant-loop-name
invariant-loop-name l = record {
  left : bind_all l.own.bound l.fn.names.bound ≡ bind_all (drop l.name-index l.own.bound) l.names.bound;
  accessed : l.names.accessed ≡ l.fn.names.accessed;
  sound : (n : ℕ) → IsTrue (are_sound_names n l.own.bound) → IsTrue (are_sound_names n l.fn.names.bound)
      → IsTrue (are_sound_names n l.names.bound);
}
