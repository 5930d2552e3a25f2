-- A text that is made in parts, one behind the other.
use Rattle.std.proofs.Common.{◌≡◌, ◌∙◌, ap, sym, subst, refl, ℕ, List, [], ◌++◌, length, append_assoc, Result, Err}
use Rattle.std.proofs.lemmas.List.{append-nil}
use Rattle.kishu_meaning.specs.moments.Counting.{Counted, Count, answer, too_deep, spent, and_then, give, spend}
use Rattle.kishu_meaning.specs.comparing.Show.{◌⊕◌, made}
use Rattle.kishu_show.specs.declared.draft.Draft.{Draft}
use Rattle.kishu_show.specs.declared.fault.ShowFault.{ShowFault}
use Rattle.kishu_show.specs.declared.fault.ShowFault.TheVariants as faults
use Rattle.kishu_show.specs.Shown.{Gives, Makes, onto, text_of}

-- what is made, behind a text
abbrev behind : List ℕ → Counted (List ℕ) → Counted (List ℕ)
behind front x = and_then x (λ back. give (front ++ back))

twice : (front mid : List ℕ) (y : Counted (List ℕ)) → behind front (behind mid y) ≡ behind (front ++ mid) y
twice front mid (answer k n) = ap (λ t. answer t n) (sym (append_assoc front mid k))
twice front mid (too_deep n) = refl
twice front mid (spent n) = refl

pair : (front after : List ℕ) (m : ℕ) (b : Count (List ℕ)) (x : Counted (List ℕ)) → behind front x ≡ answer after m → behind front (and_then x (λ f n. behind f (b n))) ≡ behind after (b m)
pair front after m b (answer f k) h =
    let e : front ++ f ≡ after = cc in
    let g : k ≡ m = cc in
    rw (← e, ← g) (twice front f (b k))
pair front after m b (too_deep n) h = absurd cc
pair front after m b (spent n) h = absurd cc

stop : (f : ShowFault) (e : Draft) (front : List ℕ) (b : List ℕ → Count (List ℕ)) (x : Counted (List ℕ)) → Makes (Err f) e (behind front x) → Makes (Err f) e (behind front (and_then x b))
stop faults.Depth e front b (answer k n) h = absurd cc
stop faults.Depth e front b (too_deep n) h = h
stop faults.Depth e front b (spent n) h = h
stop faults.Spent e front b (answer k n) h = absurd cc
stop faults.Spent e front b (too_deep n) h = h
stop faults.Spent e front b (spent n) h = h
stop faults.NoMemory e front b x h = tt

-- The first part was made, and the second goes on from there.
pub through : (d e : Draft) (a b : Count (List ℕ)) → onto d a ≡ answer (text_of e) e.left → onto d (a ⊕ b) ≡ onto e b
through d e a b h = pair (text_of d) (text_of e) e.left b (a d.left) h

pub then_makes : (r : Result (Unit {0}) ShowFault) (d e f : Draft) (a b : Count (List ℕ)) → onto d a ≡ answer (text_of e) e.left → Makes r f (onto e b) → Makes r f (onto d (a ⊕ b))
then_makes r d e f a b h k = subst (λ x. Makes r f x) (sym (through d e a b h)) k

-- The first part wasn't made.
pub stops : (f : ShowFault) (d e : Draft) (a b : Count (List ℕ)) → Makes (Err f) e (onto d a) → Makes (Err f) e (onto d (a ⊕ b))
stops f d e a b h = stop f e (text_of d) (λ front n. behind front (b n)) (a d.left) h

-- ---- one part

made_stop : (f : ShowFault) (e : Draft) (front cs : List ℕ) (x : Counted (Unit {0})) → Gives (λ u. u) (Err f) e.left x → Makes (Err f) e (behind front (and_then x (λ _. give cs)))
made_stop faults.Depth e front cs x h = rw h refl
made_stop faults.Spent e front cs x h = rw h refl
made_stop faults.NoMemory e front cs x h = tt

pub made_stops : (f : ShowFault) (d e : Draft) (cs : List ℕ) → Gives (λ u. u) (Err f) e.left (spend (length cs) d.left) → Makes (Err f) e (onto d (made cs))
made_stops f d e cs h = made_stop f e (text_of d) cs (spend (length cs) d.left) h

pub made_whole : (d e : Draft) (cs : List ℕ) → spend (length cs) d.left ≡ answer tt e.left → text_of e ≡ text_of d ++ cs → onto d (made cs) ≡ answer (text_of e) e.left
made_whole d e cs h k = ap (λ x. behind (text_of d) (and_then x (λ _. give cs))) h ∙ ap (λ t. answer t e.left) (sym k)

pub nothing_made : (d : Draft) → onto d (give []) ≡ answer (text_of d) d.left
nothing_made d = ap (λ t. answer t d.left) (append-nil (text_of d))

first_empty : (front : List ℕ) (x : Counted (List ℕ)) → behind front x ≡ behind front (behind [] x)
first_empty front (answer k n) = refl
first_empty front (too_deep n) = refl
first_empty front (spent n) = refl

pub nothing_first : (d : Draft) (m : Count (List ℕ)) → onto d m ≡ onto d (give [] ⊕ m)
nothing_first d m = first_empty (text_of d) (m d.left)
