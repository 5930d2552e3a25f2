use Rattle.std.proofs.Common.{◌≡◌, ◌+◌, map, drop, option_map}
use Rattle.kishu_language.specs.tokens.Names.{place_among}
use Rattle.kishu_meaning.proofs.names.place_in.Given as goal

abbrev pub invariant-loop-other : goal.invariant-loop-other
invariant-loop-other l = record {
  counted : l.place ≡ l.other-index;
  told : place_among l.word (map (λ w. w.now) l.words) ≡ option_map (λ n. n + l.other-index) (place_among l.word (map (λ w. w.now) (drop l.other-index l.words)));
}
