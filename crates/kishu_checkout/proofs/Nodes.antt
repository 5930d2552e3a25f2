-- Pictures have no more nodes than bytes.
use Rattle.std.specs.Prelude.{◌≤◌, ◌+◌, ℕ, List, [], ◌++◌, length}
use Rattle.std.proofs.Common.{sym, ap, ◌∙◌, arith, append-nil, append_assoc, length-append}
use Rattle.kishu_meaning.specs.values.Values.{Node, State}
use Rattle.kishu_objects_laws.specs.LoadingLaws.{nodes_more}
use Rattle.kishu_objects_laws.specs.NodeCountLaws.{nodes_fit}
use Rattle.kishu_store.specs.Groups.{Group}
use Rattle.kishu_loading.specs.Loaded.{KeepsNodes}
use Rattle.kishu_checkout.specs.Groups.{IsLoadedAs}

pub nodes_few : (group : Group) (bytes : List ℕ) (before after : State) → IsLoadedAs group bytes before after
    → length after.nodes ≤ length before.nodes + length bytes
nodes_few group bytes before after l =
    let grown = ap (λ (s : State). length s.nodes) l.is ∙ nodes_more before l.picture in
    let fit = nodes_fit l.picture in
    let same = ap length l.told.is in
    omega (arith, grown, fit, same)

pub nodes_kept : (before after : List Node) → KeepsNodes before after → length before ≤ length after
nodes_kept before after k =
    let e = ap length k.is in
    let all = length-append before k.more in
    omega (arith, e, all)

pub nodes_still : (ns : List Node) → KeepsNodes ns ns
nodes_still ns = record { more = []; is = sym (append-nil ns) }

pub nodes_on : (a b c : List Node) → KeepsNodes a b → KeepsNodes b c → KeepsNodes a c
nodes_on a b c k l = record { more = k.more ++ l.more; is = l.is ∙ ap (λ ns. ns ++ l.more) k.is ∙ append_assoc a k.more l.more }
