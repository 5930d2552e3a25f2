-- What is kept in the fields of the program's graph, where some of them change.
use Rattle.std.proofs.Common.{◌≡◌, ◌<◌, ◌+◌, ◌==◌, ℕ, Bool, true, suc, List, [], ◌∷◌, ◌++◌, length, map, get_or, take, set, Option, Some, None, sym, ap, subst, ◌∙◌, arith, length-append, eqb-true}
use Rattle.std.proofs.lemmas.List.{get_or-map, get_or_append_left, length-map, length-set, length-take-le, map_push, nil_from_length, take_all, take_more, take_more_set}
use Rattle.std.proofs.Math.Seq.{get_or-append_seam}
use Rattle.std.specs.declared.alloc.Global.{Global}
use Rattle.std.specs.declared.rc.RcStr.{RcStr}
use Rattle.kishu_store.specs.Tables.{Change, no_change}
use Rattle.kishu_store.specs.declared.target.Target as rust_target
use Rattle.kishu_graph.specs.Kept.{Outline, Noted, IsSound, AreKept, CountsRows, AreBelow, root, outline, branches_of, note, noted_of, noted_in, count_of, kept_in}
use Rattle.kishu_graph.specs.ChangeLaws.{same-last}
use Rattle.kishu_graph.specs.Tables.{CountsAfter}
use Rattle.kishu_graph.specs.declared.commits.Commit as rust
use Rattle.kishu_graph.specs.declared.tables.Noted as rust_noted
use Rattle.kishu_graph.proofs.Counting.{counts-committed, counts-new, counts-noted}
use Rattle.kishu_graph.proofs.Outlines.{parent-below}

-- what is found to be empty has nothing in it
pub none_in : {X : Type 0} (xs : List X) (empty : Bool) → empty ≡ (length xs == 0) → empty ≡ true → xs ≡ []
none_in xs empty is so = nil_from_length xs (eqb-true (length xs) 0 (sym is ∙ so))

pub still : (items new : List rust.Commit) (bs newer : List (RcStr Global × ℕ)) (t : rust_target.Target) (records : ℕ) (notes noted : List rust_noted.Noted) → AreKept items bs t records notes → new ≡ items → newer ≡ bs → noted ≡ notes → AreKept new newer t records noted
still items new bs newer t records notes noted k e f g =
    subst (λ (x : List rust_noted.Noted). AreKept new newer t records x) (sym g) (subst (λ (x : List (RcStr Global × ℕ)). AreKept new x t records notes) (sym f) (subst (λ (x : List rust.Commit). AreKept x bs t records notes) (sym e) k))

pub same-counts : (os newer : List Outline) (ns noted : List Noted) (counts : List (Option ℕ)) → CountsRows os ns counts → newer ≡ os → noted ≡ ns → CountsRows newer noted counts
same-counts os newer ns noted counts k e f = subst (λ (x : List Noted). CountsRows newer x counts) (sym f) (subst (λ (x : List Outline). CountsRows x ns counts) (sym e) k)

-- Of a new graph the root is kept, and its main branch.
pub new-kept : (items : List rust.Commit) (bs : List (RcStr Global × ℕ)) (t : rust_target.Target) (notes : List rust_noted.Noted) (k : rust.Commit) (n : rust_noted.Noted) → items ≡ k ∷ [] → outline k ≡ root → t.commit ≡ 0 → AreBelow 1 (branches_of bs)
    → notes ≡ n ∷ [] → n.rows ≡ Some 0 → AreKept items bs t 0 notes
new-kept items bs t notes k n is bare head below noted rows =
    let one : length (map outline items) ≡ 1 = length-map items outline ∙ ap length is in
    let told : length (map note notes) ≡ 1 = length-map notes note ∙ ap length noted in
    let sound : IsSound (kept_in items bs t 0 notes) = record {
      root_is = ap (λ (l : List rust.Commit). get_or (map outline l) 0 root) is ∙ bare;
      parents = λ i d some less. absurd (omega (arith, some, less, one));
      head = omega (arith, head, one);
      branches = subst (λ m. AreBelow m (branches_of bs)) (sym one) below;
      few = omega (arith, one);
      records = omega arith;
      noted = told ∙ sym one;
    } in
    (sound, counts-new (map outline items) (map note notes) (map count_of notes) one told (ap (map count_of) noted ∙ ap (λ (o : Option ℕ). o ∷ []) rows))

-- A new commit has as many rows as its parent, which stands there.
pub counts-made : (items : List rust.Commit) (bs : List (RcStr Global × ℕ)) (t : rust_target.Target) (records : ℕ) (notes roomy noted : List rust_noted.Noted) (bare parent : rust_noted.Noted) (k : Outline) → AreKept items bs t records notes → k.parent ≡ t.commit
    → roomy ≡ notes → noted ≡ roomy ++ (bare ∷ []) → parent ≡ get_or notes t.commit parent → bare.rows ≡ parent.rows
    → CountsRows (map outline items ++ (k ∷ [])) (map note notes ++ (noted_of no_change ∷ [])) (map count_of noted)
counts-made items bs t records notes roomy noted bare parent k kept same stay more is rows =
    let many : length (map note notes) ≡ length (map outline items) = kept.0.noted in
    let there : k.parent < length (map outline items) = omega (arith, same, kept.0.head) in
    let counted : length (map count_of notes) ≡ length (map note notes) = length-map notes count_of ∙ sym (length-map notes note) in
    let inside : k.parent < length notes = omega (arith, there, many, length-map notes note) in
    let count : bare.rows ≡ get_or (map count_of notes) k.parent None =
    rows ∙ ap count_of (is ∙ ap (λ i. get_or notes i parent) (sym same)) ∙ sym (get_or-map count_of notes k.parent parent None inside) in
    let all : map count_of noted ≡ map count_of notes ++ (get_or (map count_of notes) k.parent None ∷ []) =
    ap (map count_of) (more ∙ ap (λ (l : List rust_noted.Noted). l ++ (bare ∷ [])) stay) ∙ map_push count_of notes bare ∙ ap (λ (x : Option ℕ). map count_of notes ++ (x ∷ [])) count in
    subst (λ (l : List (Option ℕ)). CountsRows (map outline items ++ (k ∷ [])) (map note notes ++ (noted_of no_change ∷ [])) l) (sym all)
    (counts-committed (map outline items) (map note notes) (map count_of notes) k many counted there kept.1)

-- ---- the newest commit's change

pub last-taken : {A : Type 0} (xs : List A) (n : ℕ) (d : A) → length xs ≡ suc n → xs ≡ take n xs ++ (get_or xs n d ∷ [])
last-taken xs n d is = sym (take_all (n + 1) xs (omega (arith, is))) ∙ take_more xs n d (omega (arith, is))

pub last-set : {A : Type 0} (xs : List A) (n : ℕ) (a : A) → length xs ≡ suc n → set xs n a ≡ take n xs ++ (a ∷ [])
last-set xs n a is = sym (take_all (n + 1) (set xs n a) (omega (arith, is, length-set xs n a))) ∙ take_more_set xs n a (omega (arith, is))

-- Where nothing is noted of the newest commit, no change is noted there.
pub noted-bare : (ns : List Noted) (n : ℕ) (c : Change) (cs : List Change) → length ns ≡ suc n → get_or ns n (noted_of no_change) ≡ noted_of no_change → ns ≡ noted_in (c ∷ cs) → ns ≡ noted_in (no_change ∷ cs)
noted-bare ns n c cs is none tells =
    let front : n ≡ length (noted_in cs) = (let m = ap length tells in omega (arith, m, is, length-append (noted_in cs) (noted_of c ∷ []))) in
    let last : noted_of c ≡ noted_of no_change =
    sym (get_or-append_seam (noted_in cs) (noted_of c) [] (noted_of no_change)) ∙ ap (λ (l : List Noted). get_or l (length (noted_in cs)) (noted_of no_change)) (sym tells) ∙ ap (λ i. get_or ns i (noted_of no_change)) (sym front) ∙ none in
    tells ∙ ap (λ (x : Noted). noted_in cs ++ (x ∷ [])) last

-- What is noted then is noted in the place of what was.
pub noted-anew : (notes : List rust_noted.Noted) (n : ℕ) (a : rust_noted.Noted) (d c : Change) (cs : List Change) → length notes ≡ suc n → note a ≡ noted_of d → map note notes ≡ noted_in (c ∷ cs) → map note (set notes n a) ≡ noted_in (d ∷ cs)
noted-anew notes n a d c cs is same tells =
    let last = get_or notes n a in
    let front = take n notes in
    let parts = same-last (map note front) (noted_in cs) (note last) (noted_of c) (sym (map_push note front last) ∙ sym (ap (map note) (last-taken notes n a is)) ∙ tells) in
    ap (map note) (last-set notes n a is)
    ∙ map_push note front a
    ∙ ap (λ (l : List Noted). l ++ (note a ∷ [])) parts.0
    ∙ ap (λ (x : Noted). noted_in cs ++ (x ∷ [])) same

-- So what is kept stays sound, and the rows of the tables are counted.
pub counts-anew : (items : List rust.Commit) (bs : List (RcStr Global × ℕ)) (t : rust_target.Target) (records : ℕ) (notes : List rust_noted.Noted) (n : ℕ) (a : rust_noted.Noted) (d : Change) (k : rust.Commit) (up : rust_noted.Noted) → AreKept items bs t records notes
    → suc n ≡ length items → 0 < n → get_or (map note notes) n (noted_of no_change) ≡ noted_of no_change → k ≡ get_or items n k → up ≡ get_or notes k.parent up → note a ≡ noted_of d → CountsAfter up.rows d a.rows → AreKept items bs t records (set notes n a)
counts-anew items bs t records notes n a d k up kept newest some none k_is up_is same counts =
    let os = map outline items in
    let front = take n notes in
    let last = get_or notes n a in
    let many : length notes ≡ suc n = (let m = kept.0.noted in omega (arith, m, length-map notes note, length-map items outline, newest)) in
    let long : length front ≡ n = length-take-le n notes (omega (arith, many)) in
    let set_is = last-set notes n a many in
    let bare : note last ≡ noted_of no_change = sym (get_or-map note notes n a (noted_of no_change) (omega (arith, many))) ∙ none in
    let older : k.parent < n = subst (λ (c : rust.Commit). c.parent < n) (sym k_is) (parent-below items n k kept.0.parents some (omega (arith, newest))) in
    let parent : (o : Outline) → k.parent ≡ (get_or os (length (map note front)) o).parent =
    (λ o. ap (λ (c : rust.Commit). c.parent) k_is
    ∙ sym (ap (λ (x : Outline). x.parent) (get_or-map outline items n k o (omega (arith, newest))))
    ∙ ap (λ i. (get_or os i o).parent) (sym (length-map front note ∙ long))) in
    let was : CountsRows os (map note front ++ (noted_of no_change ∷ [])) (map count_of front ++ (count_of last ∷ [])) =
    subst (λ (x : Noted). CountsRows os (map note front ++ (x ∷ [])) (map count_of front ++ (count_of last ∷ []))) bare
    (subst (λ (l : List Noted). CountsRows os l (map count_of front ++ (count_of last ∷ []))) (map_push note front last)
    (subst (λ (l : List (Option ℕ)). CountsRows os (map note (front ++ (last ∷ []))) l) (map_push count_of front last)
    (subst (λ (l : List rust_noted.Noted). CountsRows os (map note l) (map count_of l)) (last-taken notes n a many) kept.1))) in
    let above : up.rows ≡ get_or (map count_of front) k.parent None =
    ap count_of (up_is ∙ ap (λ (l : List rust_noted.Noted). get_or l k.parent up) (last-taken notes n a many) ∙ get_or_append_left front (last ∷ []) up k.parent (omega (arith, older, long)))
    ∙ sym (get_or-map count_of front k.parent up None (omega (arith, older, long))) in
    let anew = counts-noted os (map note front) (map count_of front) d k.parent (count_of last) a.rows
    (omega (arith, length-map front note, long, length-map items outline, newest)) (length-map front count_of ∙ sym (length-map front note)) parent (omega (arith, older, length-map front note, long))
    was (subst (λ (o : Option ℕ). CountsAfter o d a.rows) above counts) in
    let counted : CountsRows os (map note (set notes n a)) (map count_of (set notes n a)) =
    subst (λ (l : List rust_noted.Noted). CountsRows os (map note l) (map count_of l)) (sym set_is)
    (subst (λ (l : List (Option ℕ)). CountsRows os (map note (front ++ (a ∷ []))) l) (sym (map_push count_of front a))
    (subst (λ (l : List Noted). CountsRows os l (map count_of front ++ (a.rows ∷ []))) (sym (map_push note front a ∙ ap (λ (x : Noted). map note front ++ (x ∷ [])) same)) anew)) in
    let noted : length (map note (set notes n a)) ≡ length os = length-map (set notes n a) note ∙ length-set notes n a ∙ sym (length-map notes note) ∙ kept.0.noted in
    (record { root_is = kept.0.root_is; parents = kept.0.parents; head = kept.0.head; branches = kept.0.branches; few = kept.0.few; records = kept.0.records; noted = noted }, counted)
