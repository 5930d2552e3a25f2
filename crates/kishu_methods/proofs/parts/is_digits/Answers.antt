use Rattle.std.proofs.Common.{◌≡◌, ◌∙◌, ◌<◌, ◌&&◌, ap, sym, arith, rules, tests, Bool, length}
use Rattle.std.specs.List.{list_all}
use Rattle.std.specs.Str.{chars}
use Rattle.std.proofs.lemmas.Iterator.{YieldsList-from_chars}
use Rattle.std.proofs.lemmas.Iterator.Search.{all_from_yields_List}
use Rattle.kishu_language.specs.tokens.Names.{is_digit}
use Rattle.kishu_methods.proofs.PieceLengths.{nonempty}
use Rattle.kishu_methods.proofs.parts.is_digits.Goals as goal

pub returns-then-count-gt0 : goal.returns-then-count-gt0
returns-then-count-gt0 c =
    let cs = chars c.args.text.now in
    let some : 0 < length cs = omega (arith, c.count.ensures, c.if-count-gt0.true) in
    let all : c.all.result ≡ list_all is_digit cs = all_from_yields_List is_digit _ _ c.all.result c.all.ensures.ran (YieldsList-from_chars c.args.text.now c.utf8.text c.chars.ensures.rest) (λ x b q k. search (rules, tests)) in
    all ∙ sym (ap (λ (b : Bool). b && list_all is_digit cs) (nonempty cs some))
