use Rattle.std.proofs.Common.{◌≡◌, ◌<◌, ◌^◌, ◌++◌, ◌∙◌, length, map, flat_map, take, ap, sym, subst, arith}
use Rattle.std.specs.List.{AllByRecursion}
use Rattle.std.proofs.lemmas.List.{take_all}
use Rattle.kishu_bytes.specs.Numbers.{four}
use Rattle.kishu_store.specs.EntryBytes.{group_bytes}
use Rattle.kishu_store.specs.Groups.{IsGroup}
use Rattle.kishu_store_laws.specs.Cuts.{group-cut}
use Rattle.kishu_record.specs.Entries.{texts_of}
use Rattle.kishu_record.proofs.Lists.{few_items, all_at, short_at, all_put, group_full}
use Rattle.kishu_record.proofs.parts.put_groups.Goals as goal

pub overflow_cast-len : goal.overflow_cast-len
overflow_cast-len c = omega (arith, few_items texts_of group_bytes IsGroup group-cut group_full c.args.groups.now.items c.requires.short, c.args.groups.now.ok.0)

pub put_group-requires-clause-group : goal.put_group-requires-clause-group
put_group-requires-clause-group c =
    let slice = c.deref-group-items.result.now in
    let item = c.group-item.result in
    let groups : AllByRecursion IsGroup (map texts_of slice) = subst (λ l. AllByRecursion IsGroup (map texts_of l)) (sym c.deref-group-items.ensures.value) c.requires.groups in
    subst (λ r. IsGroup (texts_of r)) (sym c.group-item.is) (all_at texts_of IsGroup slice c.loop-group.group-index item c.loop-group-test.true groups)

pub put_group-requires-clause-short : goal.put_group-requires-clause-short
put_group-requires-clause-short c =
    let slice = c.deref-group-items.result.now in
    let item = c.group-item.result in
    let whole : length (flat_map group_bytes (map texts_of slice)) < 2 ^ 32 = subst (λ l. length (flat_map group_bytes (map texts_of l)) < 2 ^ 32) (sym c.deref-group-items.ensures.value) (omega (arith, c.requires.short)) in
    subst (λ r. length (group_bytes (texts_of r)) < 2 ^ 32) (sym c.group-item.is) (short_at texts_of group_bytes slice c.loop-group.group-index item c.loop-group-test.true whole)

pub returns : goal.returns
returns c =
    let items = c.args.groups.now.items in
    let old = c.args.out.now.items in
    let start = c.put_number.new.out.items in
    let at = c.loop-group.group-index in
    let size : c.len.result ≡ length items = omega (arith, c.len.ensures, c.args.groups.now.ok.0) in
    let all : take at items ≡ items = ap (take at) (sym c.deref-group-items.ensures.value) ∙ take_all at c.deref-group-items.result.now c.loop-group-test.false ∙ c.deref-group-items.ensures.value in
    all_put texts_of group_bytes IsGroup items old start c.loop-group.out.items (c.in_ok-put_number.ensures ∙ ap (λ n. old ++ four n) size) (c.loop-group.invariant ∙ ap (λ l. start ++ flat_map (λ r. group_bytes (texts_of r)) l) all)
