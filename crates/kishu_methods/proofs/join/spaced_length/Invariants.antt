use Rattle.std.proofs.Common.{◌≡◌, ◌≤◌, ◌+◌, ◌*◌, ◌^◌, ◌++◌, length, drop, List, ℕ}
use Rattle.std.specs.List.{flat_map}
use Rattle.std.specs.Str.{chars}
use Rattle.kishu_methods.specs.TextValues.{texts_of}
use Rattle.kishu_methods.proofs.join.spaced_length.Given as goal

abbrev pub invariant-loop-text : goal.invariant-loop-text
invariant-loop-text l = record {
  counted : l.total + length (flat_map (λ (next : List ℕ). chars l.by ++ next) (texts_of (drop l.text-index l.texts))) ≡ length (flat_map (λ (next : List ℕ). chars l.by ++ next) (texts_of l.texts));
  fits : l.total ≤ l.text-index * 2 ^ 65;
}
