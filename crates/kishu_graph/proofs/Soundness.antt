-- What is kept stays sound.
use Rattle.std.proofs.Common.{◌≡◌, ◌<◌, ◌≤◌, ◌+◌, ℕ, Bool, true, false, List, [], ◌∷◌, ◌++◌, length, get_or, map, Option, Some, None, refl, sym, ap, subst, ◌∙◌, ⊎_elim, arith, length-append}
use Rattle.std.proofs.lemmas.Bool.{cases_lt}
use Rattle.std.proofs.lemmas.List.{get_or_append_left}
use Rattle.std.proofs.Math.Seq.{get_or-append_seam}
use Rattle.std.specs.Prelude.{IfSome, if◌then◌else◌, option_map}
use Rattle.std.specs.Ordering.{nat_cmp, match_ordering}
use Rattle.std.specs.Cmp.Lexicographic.{slice_cmp}
use Rattle.std.specs.Str.{bytes_eq}
use Rattle.std.specs.declared.cmp.Ordering.{Ordering}
use Rattle.std.specs.declared.cmp.Ordering.TheVariants.{Less, Equal, Greater}
use Rattle.kishu_store.specs.Branches.{Branches, commit_of, with_branch_at}
use Rattle.kishu_store.specs.Graph.{Target, moved_with}
use Rattle.kishu_store.specs.Limits.{most_records}
use Rattle.kishu_graph.specs.Kept.{Kept, Outline, Noted, HaveParents, AreBelow, IsSound, root, outline, note, noted_of}
use Rattle.kishu_graph.proofs.Changing.{Commits}
use Rattle.std.proofs.lemmas.List.{length-map, map_push}
use Rattle.std.specs.Rc.{rc_str_bytes}
use Rattle.kishu_store.specs.declared.target.Target as rust_target
use Rattle.kishu_store.specs.Targets.{target_of}
use Rattle.kishu_store.specs.Tables.{no_change}
use Rattle.kishu_graph.specs.declared.commits.Commit as rust
use Rattle.kishu_graph.specs.declared.tables.Noted as rust_noted

-- ---- branches

put_at : (n : ℕ) (b c : List ℕ × ℕ) (bs new : Branches) (o : Ordering) → b.1 < n → c.1 < n → AreBelow n bs → AreBelow n new → AreBelow n (match_ordering o (b ∷ c ∷ bs) (b ∷ bs) (c ∷ new))
put_at n b c bs new Less p q a r = (p, (q, a))
put_at n b c bs new Equal p q a r = (p, a)
put_at n b c bs new Greater p q a r = (q, r)

pub stay_below : (n : ℕ) (name : List ℕ) (commit : ℕ) (bs : Branches) → commit < n → AreBelow n bs → AreBelow n (with_branch_at name commit bs)
stay_below n name commit [] p a = (p, tt)
stay_below n name commit (b ∷ bs) p a = put_at n (name, commit) b bs (with_branch_at name commit bs) (slice_cmp nat_cmp name b.0) p a.0 a.1 (stay_below n name commit bs p a.1)

pub below_more : (n m : ℕ) (bs : Branches) → n ≤ m → AreBelow n bs → AreBelow m bs
below_more n m [] p a = tt
below_more n m (b ∷ bs) p a = (omega (arith, a.0, p), below_more n m bs p a.1)

pub moved_below : (n : ℕ) (name : Option (List ℕ)) (commit : ℕ) (bs : Branches) → commit < n → AreBelow n bs → AreBelow n (moved_with name commit bs)
moved_below n None commit bs p a = a
moved_below n (Some name) commit bs p a = stay_below n name commit bs p a

found_at : (n c : ℕ) (rest : Option ℕ) (b : Bool) → c < n → IfSome rest (λ x. x < n) → IfSome (if b then Some c else rest) (λ x. x < n)
found_at n c rest true p q = p
found_at n c rest false p q = q

pub finds_below : (n : ℕ) (name : List ℕ) (bs : Branches) → AreBelow n bs → IfSome (commit_of name bs) (λ c. c < n)
finds_below n name [] a = tt
finds_below n name (b ∷ bs) a = found_at n b.1 (commit_of name bs) (bytes_eq name b.0) a.0 (finds_below n name bs a.1)

-- ---- parents

pub parents_more : (ks : List Outline) (k : Outline) → HaveParents ks → k.parent < length ks → HaveParents (ks ++ (k ∷ []))
parents_more ks k all below i d p q =
    ⊎_elim
    (λ (l : i < length ks). subst (λ o. o.parent < i) (sym (get_or_append_left ks (k ∷ []) d i l)) (all i d p l))
    (λ (l : length ks ≤ i).
    let here : i ≡ length ks = omega (arith, l, q, length-append ks (k ∷ [])) in
    let is : get_or (ks ++ (k ∷ [])) i d ≡ k = subst (λ j. get_or (ks ++ (k ∷ [])) j d ≡ k) (sym here) (get_or-append_seam ks k [] d) in
    subst (λ o. o.parent < i) (sym is) (omega (arith, below, here)))
    (cases_lt i (length ks))

-- ---- changes

pub sound-committed : (old new : Kept) (k : Outline) → IsSound old → old.records < most_records → Commits old new k → IsSound new
sound-committed old new k s room m =
    let more : length new.commits ≡ length old.commits + 1 = omega (arith, ap length m.commits, length-append old.commits (k ∷ [])) in
    let number : new.head.commit ≡ length old.commits = ap (λ (t : Target). t.commit) m.head in
    let there : k.parent < length old.commits = omega (arith, m.parent, s.head) in
    let below = moved_below (length new.commits) old.head.branch (length old.commits) old.branches (omega (arith, more)) (below_more (length old.commits) (length new.commits) old.branches (omega (arith, more)) s.branches) in
    record {
      root_is = ap (λ (l : List Outline). get_or l 0 root) m.commits ∙ get_or_append_left old.commits (k ∷ []) root 0 (omega (arith, s.head)) ∙ s.root_is;
      parents = subst HaveParents (sym m.commits) (parents_more old.commits k s.parents there);
      head = omega (arith, number, more);
      branches = subst (AreBelow (length new.commits)) (sym m.branches) below;
      few = omega (arith, more, m.records, s.few);
      records = omega (arith, m.records, room);
      noted = omega (arith, ap length m.noted, length-append old.noted (noted_of no_change ∷ []), more, s.noted);
    }

pub note-push : (notes roomy noted : List rust_noted.Noted) (bare : rust_noted.Noted) → roomy ≡ notes → noted ≡ roomy ++ (bare ∷ []) → note bare ≡ noted_of no_change → map note noted ≡ map note notes ++ (noted_of no_change ∷ [])
note-push notes roomy noted bare stay more none =
    ap (map note) (more ∙ ap (λ (l : List rust_noted.Noted). l ++ (bare ∷ [])) stay)
    ∙ map_push note notes bare
    ∙ ap (λ (n : Noted). map note notes ++ (n ∷ [])) none

-- What a new commit makes of the values of the program.
pub commits-made : (items reserved new : List rust.Commit) (bs newer : Branches) (t : rust_target.Target) (records n : ℕ) (k : rust.Commit) → k.parent ≡ t.commit → reserved ≡ items → new ≡ reserved ++ (k ∷ []) → n ≡ length items
    → newer ≡ moved_with (option_map rc_str_bytes t.branch) n bs
    → (notes roomy noted : List rust_noted.Noted) (bare : rust_noted.Noted) → roomy ≡ notes → noted ≡ roomy ++ (bare ∷ []) → note bare ≡ noted_of no_change
    → Commits
    (record { commits = map outline items; branches = bs; head = target_of t; records = records; noted = map note notes })
    (record { commits = map outline new; branches = newer; head = record { commit = n; branch = option_map rc_str_bytes t.branch }; records = records + 1; noted = map note noted }) (outline k)
commits-made items reserved new bs newer t records n k parent same is number moved notes roomy noted bare stay more none =
    let all : n ≡ length (map outline items) = number ∙ sym (length-map items outline) in
    record {
      parent = parent;
      commits = ap (map outline) (is ∙ ap (λ (l : List rust.Commit). l ++ (k ∷ [])) same) ∙ map_push outline items k;
      branches = moved ∙ ap (λ (m : ℕ). moved_with (option_map rc_str_bytes t.branch) m bs) all;
      head = ap (λ (m : ℕ). record { commit = m; branch = option_map rc_str_bytes t.branch }) all;
      records = refl;
      noted = note-push notes roomy noted bare stay more none;
    }
