use Rattle.std.proofs.Common.{◌≡◌, ◌∙◌, ◌∷◌, ◌++◌, [], Bool, true, false, List, ℕ, map, get_or, ap, sym, subst}
use Rattle.std.proofs.lemmas.List.{append-nil}
use Rattle.std.proofs.lemmas.Grind.{flat_map-append}
use Rattle.std.specs.Rc.{rc_str_bytes}
use Rattle.std.specs.declared.alloc.Global.{Global}
use Rattle.std.specs.declared.rc.RcStr.{RcStr}
use Rattle.std.specs.declared.vec.Vec.{Vec}
use Rattle.kishu_graph.specs.Fits.{names_of, AddsNames}
use Rattle.kishu_graph.specs.Kept.{texts_of}
use Rattle.kishu_graph.proofs.Apart.{adds-nothing, adds-next, adds-none, adds-all}
use Rattle.kishu_graph.proofs.fitting.add_groups.Goals as goal

joins : (xs ys : List (Vec (RcStr Global) Global × ℕ)) → names_of (xs ++ ys) ≡ names_of xs ++ names_of ys
joins xs ys = flat_map-append (λ s. texts_of s.0) xs ys

pub loop-group-init : goal.loop-group-init
loop-group-init c = adds-nothing c.args.names.now.keys

pub loop-group-preserved : goal.loop-group-preserved
loop-group-preserved c =
    let groups = c.args.stored.now in
    let item = c.loop-group-item.result in
    let now = c.loop-group.names.keys in
    let new = c.add_names.new.names.keys in
    let group = get_or groups c.loop-group.group-index item in
    let same : map rc_str_bytes c.deref.result.now ≡ names_of (group ∷ []) =
    ap (map rc_str_bytes) c.deref.ensures.value ∙ ap (λ (s : Vec (RcStr Global) Global × ℕ). texts_of s.0) c.loop-group-item.is ∙ sym (append-nil (texts_of group.0)) in
    let one : AddsNames (names_of (group ∷ [])) now new true =
    subst (λ (b : Bool). AddsNames (names_of (group ∷ [])) now new b) c.if-not-branch.false (subst (λ (l : List (List ℕ)). AddsNames l now new c.in_ok-add_names.field-0) same c.in_ok-add_names.ensures) in
    adds-next names_of joins groups c.loop-group.group-index item c.loop-group-test.true c.args.names.now.keys now new true c.loop-group.invariant one

pub returns-then-not-branch : goal.returns-then-not-branch
returns-then-not-branch c =
    let groups = c.args.stored.now in
    let item = c.loop-group-item.result in
    let now = c.loop-group.names.keys in
    let new = c.add_names.new.names.keys in
    let group = get_or groups c.loop-group.group-index item in
    let same : map rc_str_bytes c.deref.result.now ≡ names_of (group ∷ []) =
    ap (map rc_str_bytes) c.deref.ensures.value ∙ ap (λ (s : Vec (RcStr Global) Global × ℕ). texts_of s.0) c.loop-group-item.is ∙ sym (append-nil (texts_of group.0)) in
    let one : AddsNames (names_of (group ∷ [])) now new false =
    subst (λ (b : Bool). AddsNames (names_of (group ∷ [])) now new b) c.if-not-branch.true (subst (λ (l : List (List ℕ)). AddsNames l now new c.in_ok-add_names.field-0) same c.in_ok-add_names.ensures) in
    adds-none names_of joins groups c.loop-group.group-index item c.loop-group-test.true c.args.names.now.keys now new c.loop-group.invariant one

pub returns : goal.returns
returns c = adds-all names_of joins c.args.stored.now c.loop-group.group-index c.loop-group-test.false c.args.names.now.keys c.loop-group.names.keys c.loop-group.invariant
