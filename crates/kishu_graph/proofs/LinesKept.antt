-- What is kept of commits, with their lines.
use Rattle.std.proofs.Common.{◌≡◌, ◌<◌, ◌+◌, ℕ, zero, suc, List, [], ◌∷◌, ◌++◌, length, map, get_or, refl, sym, ap, subst, ◌∙◌, arith, length-append}
use Rattle.std.proofs.lemmas.List.{get_or_append_left, length-map}
use Rattle.std.specs.String.{string_bytes}
use Rattle.kishu_store.specs.Graph.{moved_with}
use Rattle.kishu_graph.specs.Buffers.{AreCut, IsCut, lines_from, lines_in}
use Rattle.kishu_graph.specs.declared.buffer.LineBuffer as rust_buffer
use Rattle.kishu_graph.specs.declared.commits.Commit as rust
use Rattle.kishu_graph.specs.Kept.{Kept, Outline, AreBelow, IsSound, HaveLines, root, outline, parents_of, with_line, with_lines, told}
use Rattle.kishu_graph.proofs.BufferCuts.{length-lines}
use Rattle.kishu_graph.proofs.Changing.{Commits}
use Rattle.kishu_graph.proofs.Outlines.{have-same}

pub length-told : (ls : List (List ℕ)) (os : List Outline) → length (with_lines ls os) ≡ length os
length-told ls [] = refl
length-told [] (o ∷ os) = ap suc (length-told [] os)
length-told (l ∷ ls) (o ∷ os) = ap suc (length-told ls os)

-- of the commits of the program
pub count-told : (ls : List (List ℕ)) (xs : List rust.Commit) → length (with_lines ls (map outline xs)) ≡ length xs
count-told ls xs = length-told ls (map outline xs) ∙ length-map xs outline

-- what is said of them but for the lines
pub field-told : {B : Type 0} (f : Outline → B) → ((l : List ℕ) (o : Outline) → f (with_line l o) ≡ f o) → (ls : List (List ℕ)) (os : List Outline) → map f (with_lines ls os) ≡ map f os
field-told f same ls [] = refl
field-told {B} f same [] (o ∷ os) = ap (λ (x : B). x ∷ map f (with_lines [] os)) (same [] o) ∙ ap (λ (xs : List B). f o ∷ xs) (field-told f same [] os)
field-told {B} f same (l ∷ ls) (o ∷ os) = ap (λ (x : B). x ∷ map f (with_lines ls os)) (same l o) ∙ ap (λ (xs : List B). f o ∷ xs) (field-told f same ls os)

pub parents-told : (ls : List (List ℕ)) (os : List Outline) → parents_of (with_lines ls os) ≡ parents_of os
parents-told ls os = field-told (λ (o : Outline). o.parent) (λ l o. refl) ls os

pub at-told : (ls : List (List ℕ)) (os : List Outline) (i : ℕ) (d e : Outline) → i < length os → get_or (with_lines ls os) i d ≡ with_line (get_or ls i []) (get_or os i e)
at-told ls [] i d e h = absurd (omega (arith, h))
at-told [] (o ∷ os) zero d e h = refl
at-told [] (o ∷ os) (suc i) d e h = at-told [] os i d e (omega (arith, h))
at-told (l ∷ ls) (o ∷ os) zero d e h = refl
at-told (l ∷ ls) (o ∷ os) (suc i) d e h = at-told ls os i d e (omega (arith, h))

pub told-push : (ls : List (List ℕ)) (os : List Outline) (l : List ℕ) (o : Outline) → length ls ≡ length os → with_lines (ls ++ (l ∷ [])) (os ++ (o ∷ [])) ≡ with_lines ls os ++ (with_line l o ∷ [])
told-push [] [] l o e = refl
told-push [] (p ∷ os) l o e = absurd (omega (arith, e))
told-push (k ∷ ls) [] l o e = absurd (omega (arith, e))
told-push (k ∷ ls) (p ∷ os) l o e = ap (λ (ps : List Outline). with_line k p ∷ ps) (told-push ls os l o (omega (arith, e)))

-- ---- what is kept

module _ (b : rust_buffer.LineBuffer) (kept : Kept) (have : HaveLines b (length kept.commits)) where
  -- It is sound with its lines.
  pub sound-told : IsSound kept → IsSound (told (lines_in b) kept)
  sound-told s =
      let ls = lines_in b in
      let many = length-told ls kept.commits in
      record {
        root_is = at-told ls kept.commits 0 root root (omega (arith, s.head)) ∙ ap (λ (l : List ℕ). with_line l (get_or kept.commits 0 root)) have.root_is ∙ ap (with_line []) s.root_is;
        parents = have-same kept.commits (with_lines ls kept.commits) (sym (parents-told ls kept.commits)) s.parents;
        head = omega (arith, s.head, many);
        branches = subst (λ (n : ℕ). AreBelow n kept.branches) (sym many) s.branches;
        few = omega (arith, s.few, many);
        records = s.records;
        noted = s.noted ∙ sym many;
      }

  -- A commit more comes with its line.
  pub told-made : (new : Kept) (k : Outline) (ls : List (List ℕ)) (l : List ℕ) → Commits kept new k → ls ≡ lines_in b ++ (l ∷ []) → Commits (told (lines_in b) kept) (told ls new) (with_line l k)
  told-made new k ls l m is =
      let many = length-told (lines_in b) kept.commits in
      let each : length (lines_in b) ≡ length kept.commits = length-lines 0 b.ends.items (string_bytes b.text) ∙ have.each in
      record {
        parent = m.parent;
        commits = ap (λ (x : List (List ℕ)). with_lines x new.commits) is ∙ ap (with_lines (lines_in b ++ (l ∷ []))) m.commits ∙ told-push (lines_in b) kept.commits l k each;
        branches = m.branches ∙ ap (λ (n : ℕ). moved_with kept.head.branch n kept.branches) (sym many);
        head = m.head ∙ ap (λ (n : ℕ). record { commit = n; branch = kept.head.branch }) (sym many);
        records = m.records;
        noted = m.noted;
      }

-- ---- the program's lines

pub same-lines : (b new : rust_buffer.LineBuffer) → string_bytes new.text ≡ string_bytes b.text → new.ends.items ≡ b.ends.items → lines_in new ≡ lines_in b
same-lines b new text ends = ap (lines_from 0 new.ends.items) text ∙ ap (λ (es : List ℕ). lines_from 0 es (string_bytes b.text)) ends

pub still-lines : (b new : rust_buffer.LineBuffer) (items newer : List rust.Commit) → HaveLines b (length (map outline items)) → string_bytes new.text ≡ string_bytes b.text → new.ends.items ≡ b.ends.items → newer ≡ items → HaveLines new (length (map outline newer))
still-lines b new items newer have text ends same = record {
  cut = subst (AreCut 0 new.ends.items) (sym text) (subst (λ (es : List ℕ). AreCut 0 es (string_bytes b.text)) (sym ends) have.cut);
  each = ap length ends ∙ have.each ∙ sym (ap (λ (l : List rust.Commit). length (map outline l)) same);
  root_is = ap (λ (ls : List (List ℕ)). get_or ls 0 []) (same-lines b new text ends) ∙ have.root_is;
}

-- of a commit more
pub more-lines : (b room new : rust_buffer.LineBuffer) (line : List ℕ) (items newer : List rust.Commit) (k : Outline) → HaveLines b (length (map outline items)) → string_bytes room.text ≡ string_bytes b.text → room.ends.items ≡ b.ends.items
    → IsCut new → lines_in new ≡ lines_in room ++ (line ∷ []) → length new.ends.items ≡ length room.ends.items + 1 → 0 < length (map outline items) → map outline newer ≡ map outline items ++ (k ∷ []) → HaveLines new (length (map outline newer))
more-lines b room new line items newer k have text ends cut lines one some more = record {
  cut = cut;
  each = (let was = have.each in omega (arith, one, ap length ends, was, ap length more, length-append (map outline items) (k ∷ [])));
  root_is =
      ap (λ (ls : List (List ℕ)). get_or ls 0 []) (lines ∙ ap (λ (ls : List (List ℕ)). ls ++ (line ∷ [])) (same-lines b room text ends))
      ∙ get_or_append_left (lines_in b) (line ∷ []) [] 0 (let was = have.each in omega (arith, some, was, length-lines 0 b.ends.items (string_bytes b.text)))
      ∙ have.root_is;
}
