use Rattle.std.proofs.Common.{◌≡◌, ◌++◌, ◌∙◌, length, map, flat_map, take, ap, sym, subst, arith}
use Rattle.std.specs.List.{AllByRecursion}
use Rattle.std.proofs.lemmas.List.{take_all}
use Rattle.std.specs.Rc.{rc_str_bytes}
use Rattle.kishu_bytes.specs.Numbers.{four}
use Rattle.kishu_store.specs.EntryBytes.{name_bytes}
use Rattle.kishu_store.specs.Groups.{IsName}
use Rattle.kishu_store_laws.specs.Cuts.{name-cut}
use Rattle.kishu_store_laws.specs.TitleLaws.{name_title}
use Rattle.kishu_record.proofs.Lists.{few_items, all_at, all_put, name_full}
use Rattle.kishu_record.proofs.parts.put_group.Goals as goal

pub overflow_cast-len : goal.overflow_cast-len
overflow_cast-len c = omega (arith, few_items rc_str_bytes name_bytes IsName name-cut name_full c.args.group.now.items c.requires.short, c.args.group.now.ok.0)

pub put_name-requires : goal.put_name-requires
put_name-requires c =
    let slice = c.deref-name-items.result.now in
    let item = c.name-item.result in
    let names : AllByRecursion IsName (map rc_str_bytes slice) = subst (λ l. AllByRecursion IsName (map rc_str_bytes l)) (sym c.deref-name-items.ensures.value) c.requires.group.names in
    let here : IsName (rc_str_bytes item) = subst (λ r. IsName (rc_str_bytes r)) (sym c.name-item.is) (all_at rc_str_bytes IsName slice c.loop-name.name-index item c.loop-name-test.true names) in
    (name_title (rc_str_bytes item) here).short

pub returns : goal.returns
returns c =
    let items = c.args.group.now.items in
    let old = c.args.out.now.items in
    let start = c.put_number.new.out.items in
    let at = c.loop-name.name-index in
    let size : c.len.result ≡ length items = omega (arith, c.len.ensures, c.args.group.now.ok.0) in
    let all : take at items ≡ items = ap (take at) (sym c.deref-name-items.ensures.value) ∙ take_all at c.deref-name-items.result.now c.loop-name-test.false ∙ c.deref-name-items.ensures.value in
    all_put rc_str_bytes name_bytes IsName items old start c.loop-name.out.items (c.in_ok-put_number.ensures ∙ ap (λ n. old ++ four n) size) (c.loop-name.invariant ∙ ap (λ l. start ++ flat_map (λ r. name_bytes (rc_str_bytes r)) l) all)
