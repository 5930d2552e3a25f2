use Rattle.std.proofs.Common.{◌≡◌, drop}
use Rattle.kishu_words.specs.Words.{texts, store_word}
use Rattle.kishu_words.proofs.path.first_path.Given as goal

abbrev pub invariant-loop-word : goal.invariant-loop-word
invariant-loop-word l = store_word (texts (drop l.word-index l.words)) ≡ store_word (texts l.words)
