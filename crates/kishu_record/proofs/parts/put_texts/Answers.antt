use Rattle.std.proofs.Common.{◌≡◌, ◌<◌, ◌^◌, ◌++◌, ◌∙◌, length, map, flat_map, take, ap, sym, subst, arith, length-append}
use Rattle.std.proofs.lemmas.List.{take_all}
use Rattle.std.specs.Rc.{rc_str_bytes}
use Rattle.kishu_bytes.specs.Numbers.{four}
use Rattle.kishu_store.specs.EntryBytes.{text_bytes}
use Rattle.kishu_store.specs.Rules.{IsCell}
use Rattle.kishu_store_laws.specs.Cuts.{text-cut}
use Rattle.kishu_record.proofs.Lists.{few_items, short_at, all_put, text_full}
use Rattle.kishu_record.proofs.parts.put_texts.Goals as goal

pub overflow_cast-len : goal.overflow_cast-len
overflow_cast-len c = omega (arith, few_items rc_str_bytes text_bytes IsCell text-cut text_full c.args.texts.now.items c.requires, c.args.texts.now.ok.0)

pub overflow_cast-len-in-loop-text : goal.overflow_cast-len-in-loop-text
overflow_cast-len-in-loop-text c =
    let slice = c.deref-text-items.result.now in
    let item = c.text-item.result in
    let whole : length (flat_map text_bytes (map rc_str_bytes slice)) < 2 ^ 32 = subst (λ l. length (flat_map text_bytes (map rc_str_bytes l)) < 2 ^ 32) (sym c.deref-text-items.ensures.value) (omega (arith, c.requires)) in
    let here : length (text_bytes (rc_str_bytes item)) < 2 ^ 32 = subst (λ r. length (text_bytes (rc_str_bytes r)) < 2 ^ 32) (sym c.text-item.is) (short_at rc_str_bytes text_bytes slice c.loop-text.text-index item c.loop-text-test.true whole) in
    omega (arith, here, length-append (four (length (rc_str_bytes item))) (rc_str_bytes item))

pub returns : goal.returns
returns c =
    let items = c.args.texts.now.items in
    let old = c.args.out.now.items in
    let start = c.put_number.new.out.items in
    let at = c.loop-text.text-index in
    let size : c.len.result ≡ length items = omega (arith, c.len.ensures, c.args.texts.now.ok.0) in
    let all : take at items ≡ items = ap (take at) (sym c.deref-text-items.ensures.value) ∙ take_all at c.deref-text-items.result.now c.loop-text-test.false ∙ c.deref-text-items.ensures.value in
    all_put rc_str_bytes text_bytes IsCell items old start c.loop-text.out.items (c.in_ok-put_number.ensures ∙ ap (λ n. old ++ four n) size) (c.loop-text.invariant ∙ ap (λ l. start ++ flat_map (λ r. text_bytes (rc_str_bytes r)) l) all)
