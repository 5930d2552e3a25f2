-- One call more in a piece of work, where an equation tells what the history is then.
use Rattle.std.proofs.Common.{◌≡◌, ◌≤◌, ◌<◌, ℕ, ◌+◌, List, [], ◌∷◌, ◌++◌, length, take, drop, sym, ap, ◌∙◌, subst, arith, ◌⊎◌, inl, inr, IfOk, OnErr}
use Rattle.std.proofs.Math.Seq.{take-append-add}
use Rattle.std.proofs.lemmas.List.{take-append-le, length-take-le}
use borrow.Rule.Slice.PartMut.{put_mid}
use Rattle.std.specs.declared.result.Result.{Result}
use Rattle.std.specs.declared.result.Result.TheVariants.{Ok, Err}
use Rattle.kishu_cli.specs.declared.call.Call.{Call}
use Rattle.kishu_cli.specs.declared.call.Fault.{Fault}
use Rattle.kishu_cli.specs.declared.call.Fault.TheVariants.{Interrupted, Other}
use Rattle.kishu_cli.specs.declared.transfer.Sink.{Sink}
use Rattle.kishu_cli.specs.Calls.{History, Reading, HasRead, ReadFailed, Writing, WriteFailed, read_on, write_on, more, again, failed, stuck, ended}

pub one_longer : (call : Call × List ℕ) (now new : History) (n : ℕ) (old : History) → new ≡ call ∷ now → length now ≡ n + length old → length new ≡ n + 1 + length old
one_longer call now new n old is long = ap (λ (h : History). length h) is ∙ omega (arith, long)

pub on-err : {T E P : Type 0} (r : Result T E) → P → OnErr r P
on-err (Ok x) p = tt
on-err (Err e) p = p

-- a write took so many bytes, or was interrupted and took none
abbrev pub Took : Result ℕ Fault → ℕ → Type 0
Took answer n = ((answer ≡ Ok n) × (0 < n)) ⊎ ((answer ≡ Err Interrupted) × (n ≡ 0))

-- a write failed, or took nothing
abbrev pub TookNone : Result ℕ Fault → Type 0
TookNone answer = (answer ≡ Ok 0) ⊎ (answer ≡ Err Other)

pub taken-fits : (answer : Result ℕ Fault) (most n : ℕ) → IfOk answer (λ k. k ≤ most) → Took answer n → n ≤ most
taken-fits answer most n fits (inl some) = subst (λ (r : Result ℕ Fault). IfOk r (λ k. k ≤ most)) some.0 fits
taken-fits answer most n fits (inr none) = omega (arith, none.1)

module _ (to : Sink) (bytes : List ℕ) (old now new : History) (done : ℕ) (answer : Result ℕ Fault) (so_far : Writing to bytes old done now) (left : done < length bytes) (is : new ≡ (write_on to done answer, drop done bytes) ∷ now) where
  pub write-more : (n : ℕ) → Took answer n → Writing to bytes old (done + n) new
  write-more n (inl some) = subst (λ (h : History). Writing to bytes old (done + n) h) (sym (is ∙ ap (λ (r : Result ℕ Fault). (write_on to done r, drop done bytes) ∷ now) some.0)) (more done n now so_far left some.1)
  write-more n (inr none) = subst (λ (d : ℕ). Writing to bytes old d new) (omega (arith, none.1)) (subst (λ (h : History). Writing to bytes old done h) (sym (is ∙ ap (λ (r : Result ℕ Fault). (write_on to done r, drop done bytes) ∷ now) none.0)) (again done now so_far left))

  pub write-failed : TookNone answer → WriteFailed to bytes old new
  write-failed (inl none) = subst (λ (h : History). WriteFailed to bytes old h) (sym (is ∙ ap (λ (r : Result ℕ Fault). (write_on to done r, drop done bytes) ∷ now) none)) (stuck done now so_far left)
  write-failed (inr other) = subst (λ (h : History). WriteFailed to bytes old h) (sym (is ∙ ap (λ (r : Result ℕ Fault). (write_on to done r, drop done bytes) ∷ now) other)) (failed done now so_far left)

module _ (at room : ℕ) (old now new : History) (got : List ℕ) (done : ℕ) (so_far : Reading at room old got now) (is_done : length got ≡ done) (left : done < room) where
  pub read-more : (bytes all : List ℕ) (n : ℕ) → length bytes ≡ n → (n ≡ 0 → ⊥) → new ≡ (read_on at room done (Ok n), bytes) ∷ now → all ≡ got ++ bytes → Reading at room old all new
  read-more bytes all n long some is sum =
      let is' = is ∙ ap (λ (k : ℕ). (read_on at room k (Ok n), bytes) ∷ now) (sym is_done) ∙ ap (λ (m : ℕ). (read_on at room (length got) (Ok m), bytes) ∷ now) (sym long) in
      subst (λ (g : List ℕ). Reading at room old g new) (sym sum) (subst (λ (h : History). Reading at room old (got ++ bytes) h) (sym is')
      (more got bytes now so_far (subst (λ (k : ℕ). k < room) (sym is_done) left) (omega (arith, some, long))))

  pub read-again : (all : List ℕ) → new ≡ (read_on at room done (Err Interrupted), []) ∷ now → all ≡ got → Reading at room old all new
  read-again all is same =
      let is' = is ∙ ap (λ (k : ℕ). (read_on at room k (Err Interrupted), []) ∷ now) (sym is_done) in
      subst (λ (g : List ℕ). Reading at room old g new) (sym same) (subst (λ (h : History). Reading at room old got h) (sym is') (again got now so_far (subst (λ (k : ℕ). k < room) (sym is_done) left)))

  pub read-ended : (all : List ℕ) → new ≡ (read_on at room done (Ok 0), []) ∷ now → all ≡ got → HasRead at room old all new
  read-ended all is same =
      let is' = is ∙ ap (λ (k : ℕ). (read_on at room k (Ok 0), []) ∷ now) (sym is_done) in
      subst (λ (g : List ℕ). HasRead at room old g new) (sym same) (subst (λ (h : History). HasRead at room old got h) (sym is') (ended now so_far (subst (λ (k : ℕ). k < room) (sym is_done) left)))

  pub read-failed : new ≡ (read_on at room done (Err Other), []) ∷ now → ReadFailed at room old new
  read-failed is =
      let is' = is ∙ ap (λ (k : ℕ). (read_on at room k (Err Other), []) ∷ now) (sym is_done) in
      subst (λ (h : History). ReadFailed at room old h) (sym is') (failed got now so_far (subst (λ (k : ℕ). k < room) (sym is_done) left))

-- what a slice holds after n bytes were written at its place a
pub take-put_more : (a k n : ℕ) (xs ys : List ℕ) → a ≤ length xs → n ≤ length ys → take (a + n) (put_mid a k xs ys) ≡ take a xs ++ take n ys
take-put_more a k n xs ys inside fits =
    ap (λ (m : ℕ). take (m + n) (put_mid a k xs ys)) (sym (length-take-le a xs inside)) ∙ take-append-add (take a xs) _ n ∙ ap (λ (zs : List ℕ). take a xs ++ zs) (take-append-le n ys _ fits)
