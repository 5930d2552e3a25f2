use Rattle.std.proofs.Common.{◌≡◌, sym, ◌∙◌, rules, tests}
use Rattle.std.specs.List.{list_all}
use Rattle.std.specs.String.{string_bytes}
use Rattle.std.proofs.lemmas.Iterator.{YieldsList-from_slice}
use Rattle.std.proofs.lemmas.Iterator.Search.{all_from_yields_List}
use Rattle.std.proofs.lemmas.List.Folds.{list_all-map}
use Rattle.kishu_words.specs.Words.{is_word}
use Rattle.kishu_words.proofs.reading.are_words.Goals as goal

pub returns : goal.returns
returns c =
    let words = c.args.words.now in
    let all : c.all.result ≡ list_all (λ w. is_word (string_bytes w)) words =
    all_from_yields_List (λ w. is_word (string_bytes w)) _ _ c.all.result c.all.ensures.ran (YieldsList-from_slice words cc) (λ x b q k. search (rules, tests)) in
    all ∙ sym (list_all-map is_word (λ w. string_bytes w) words)
