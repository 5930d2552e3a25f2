use Rattle.std.proofs.Common.{◌≡◌, ◌++◌, drop, List, ℕ}
use Rattle.std.specs.List.{flat_map}
use Rattle.std.specs.Str.{chars}
use Rattle.std.specs.String.{string_bytes}
use Rattle.kishu_methods.specs.TextValues.{texts_of}
use Rattle.kishu_methods.proofs.join.push_spaced.Given as goal

abbrev pub invariant-loop-text : goal.invariant-loop-text
invariant-loop-text l =
    chars (string_bytes l.out) ++ flat_map (λ (next : List ℕ). chars l.by ++ next) (texts_of (drop l.text-index l.texts)) ≡ chars (string_bytes l.fn.out) ++ flat_map (λ (next : List ℕ). chars l.by ++ next) (texts_of l.texts)
