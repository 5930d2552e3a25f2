-- What a window shows after a step.
use Rattle.std.proofs.Common.{◌≡◌, ◌≤◌, ℕ, ◌+◌, ◌-◌, List, ◌++◌, length, take, drop, true, sym, ap, subst, ◌∙◌, arith}
use Rattle.std.proofs.lemmas.List.{take_at, drop_at, drop-take, drop-drop, take-take, take-append-le, length-take-le, length-drop}
use Rattle.std.specs.List.{copy_within}
use Rattle.kishu_host.specs.Host.{State}
use Rattle.kishu_journal.specs.Windows.{IsAhead, ShowsIn}
use Rattle.kishu_journal.specs.declared.window.Window.{Window}
use Rattle.kishu_journal.proofs.Calls.{quiet-trans, reads-trans}
use borrow.Rule.Slice.PartMut.{put_mid, post_of, same_len_mid}
use lib.Seq.{take-add, take-paste}

-- a part of the first bytes
cut : (xs : List ℕ) (filled start count : ℕ) → start + count ≤ filled → take count (drop start xs) ≡ drop start (take (start + count) (take filled xs))
cut xs filled start count inside = sym (ap (drop start) (take-take (start + count) filled xs inside) ∙ drop-take start count xs)

-- a part of what is shown is the file's
pub part_of : (xs file : List ℕ) (filled from at start count : ℕ) → take filled xs ≡ take filled (drop from file) → at ≡ from + start → start + count ≤ filled
    → take count (drop start xs) ≡ take count (drop at file)
part_of xs file filled from at start count shows place inside =
    cut xs filled start count inside
    ∙ ap (λ (l : List ℕ). drop start (take (start + count) l)) shows
    ∙ sym (cut (drop from file) filled start count inside)
    ∙ ap (take count) (drop-drop start from file ∙ ap (λ (n : ℕ). drop n file) (sym place))

-- what is shown, moved to the front, is the file's from its place on
pub passed : (xs file : List ℕ) (filled from at start : ℕ) → take filled xs ≡ take filled (drop from file) → at ≡ from + start → start ≤ filled → filled ≤ length xs
    → take (filled - start) (copy_within xs start filled 0) ≡ take (filled - start) (drop at file)
passed xs file filled from at start shows place inside within =
    let none : filled - start ≡ 0 + (filled - start) = omega arith in
    ap (λ (n : ℕ). take n (copy_within xs start filled 0)) none
    ∙ take-paste xs 0 (drop start xs) (filled - start) (omega arith) (omega (arith, length-drop start xs, within))
    ∙ part_of xs file filled from at start (filled - start) shows place (omega (arith, inside))

module _ (xs ys : List ℕ) (filled k : ℕ) (within : filled ≤ length xs) where
  -- the bytes are as many as they were
  pub long : filled + k ≤ length xs → length ys ≡ k → length (put_mid filled k xs ys) ≡ length xs
  long inside all = same_len_mid filled k xs ys (all ∙ sym (length-take-le k (drop filled xs) (omega (arith, length-drop filled xs, inside))))

  -- what was shown stays in front of a write behind it
  pub kept : take filled (put_mid filled k xs ys) ≡ take filled xs
  kept = take_at (take filled xs) (ys ++ post_of filled k xs) filled (length-take-le filled xs within)

  -- and what was written comes behind it
  pub grown : (n : ℕ) → n ≤ length ys → take (filled + n) (put_mid filled k xs ys) ≡ take filled xs ++ take n ys
  grown n fits =
      take-add filled n (put_mid filled k xs ys)
      ∙ ap (λ (l : List ℕ). l ++ take n (drop filled (put_mid filled k xs ys))) kept
      ∙ ap (λ (l : List ℕ). take filled xs ++ take n l) (drop_at (take filled xs) (ys ++ post_of filled k xs) filled (length-take-le filled xs within))
      ∙ ap (λ (l : List ℕ). take filled xs ++ l) (take-append-le n ys (post_of filled k xs) fits)

  -- where the file was read on, more of it is shown
  pub read : (file old : List ℕ) (from place n : ℕ) → take filled xs ≡ take filled (drop from file) → place ≡ from + filled → n ≤ length ys → n ≤ length file - place
      → ys ≡ take n (drop place file) ++ drop n old → take (filled + n) (put_mid filled k xs ys) ≡ take (filled + n) (drop from file)
  read file old from place n shows there fits inside is =
      let more = take n (drop place file) in
      let long : length more ≡ n = length-take-le n (drop place file) (omega (arith, length-drop place file, inside)) in
      grown n fits
      ∙ ap (λ (l : List ℕ). l ++ take n ys) shows
      ∙ ap (λ (l : List ℕ). take filled (drop from file) ++ l) (ap (take n) is ∙ take_at more (drop n old) n long)
      ∙ ap (λ (m : ℕ). take filled (drop from file) ++ take n (drop m file)) there
      ∙ ap (λ (l : List ℕ). take filled (drop from file) ++ take n l) (sym (drop-drop filled from file))
      ∙ sym (take-add filled n (drop from file))

-- one call behind another
pub ahead-trans : (a b c : State) (u v w : Window) (len : ℕ) → IsAhead a b u v len → IsAhead b c v w len → IsAhead a c u w len
ahead-trans a b c u v w len p q = record {
  quiet = quiet-trans a b c p.quiet q.quiet;
  shows = q.shows;
  onward = omega (arith, p.onward, q.onward);
  within = q.within;
  reads = reads-trans a.reads b.reads c.reads _ _ _ p.reads q.reads (omega (arith, p.onward, q.onward));
}

-- what a window shows after a call is of the file as it was before
pub still : (a b : State) (v w : Window) (len : ℕ) → IsAhead a b v w len → a.tells ≡ true → ShowsIn a.file w
still a b v w len p told = subst (λ (f : List ℕ). ShowsIn f w) p.quiet.keeps.file (p.shows (p.quiet.time.tells ∙ told))

pub shows-none : (file : List ℕ) (w : Window) → w.filled ≡ 0 → ShowsIn file w
shows-none file w none = ap (λ (n : ℕ). take n w.bytes.items) none ∙ sym (ap (λ (n : ℕ). take n (drop w.from file)) none)
