use Rattle.std.proofs.Common.{◌≡◌, ◌∙◌, ◌++◌, [], List, refl, ap, sym}
use Rattle.std.proofs.lemmas.Result.{IfOk-weaker}
use Rattle.std.specs.declared.alloc.Global.{Global}
use Rattle.std.specs.declared.rc.RcStr.{RcStr}
use Rattle.kishu_language.specs.tokens.Names.{is_among}
use Rattle.kishu_store.specs.Tables.{names_in, are_apart}
use Rattle.kishu_graph.specs.Fits.{AddsNames, names_of, rows_of}
use Rattle.kishu_graph.specs.Walks.{HaveSame, all_texts}
use Rattle.kishu_graph.proofs.Apart.{not-apart, one-apart}
use Rattle.kishu_graph.proofs.Counted.{none_in}
use Rattle.kishu_graph.proofs.fitting.stand_apart.Goals as goal

pub returns-then-stored-le1 : goal.returns-then-stored-le1
returns-then-stored-le1 c = one-apart c.args.stored.now c.args.left.now c.requires c.if-stored-le1.true (none_in c.args.left.now c.is_empty.result c.is_empty.ensures c.if-is_empty.true)

pub returns-then-not-branch : goal.returns-then-not-branch
returns-then-not-branch c =
    let none : HaveSame (all_texts c.new-names.result.keys) [] = λ x. ap (λ (ks : List (RcStr Global)). is_among x (all_texts ks)) c.new-names.ensures.empty in
    let told = c.in_ok-add_groups.ensures [] none refl in
    sym (not-apart (names_of c.args.stored.now) (names_in (rows_of c.args.left.now)) (sym told.0 ∙ c.if-not-branch.true))

pub returns : goal.returns
returns c =
    let none : HaveSame (all_texts c.new-names.result.keys) [] = λ x. ap (λ (ks : List (RcStr Global)). is_among x (all_texts ks)) c.new-names.ensures.empty in
    let told = c.in_ok-add_groups.ensures [] none refl in
    let names = names_in (rows_of c.args.left.now) in
    IfOk-weaker c.add_rows.result (λ apart. AddsNames names c.add_groups.new.names.keys c.add_rows.new.names.keys apart) (λ apart. apart ≡ are_apart (names_of c.args.stored.now ++ names))
    (λ apart adds. (adds (names_of c.args.stored.now) (told.1 c.if-not-branch.false) (sym told.0 ∙ c.if-not-branch.false)).0)
    c.add_rows.ensures
