-- A primary's value, behind its part, and its part, trailer by trailer.
use Rattle.std.proofs.Common.{◌≡◌, ◌∙◌, refl, ap, sym, subst, arith, max, ℕ, ◌+◌, ◌*◌, ◌<◌, ◌≤◌, IsTrue, List, length, drop, get_or, Result, Ok, Err}
use Rattle.kishu_language.specs.declared.tree.Trailer as rust_trailer
use Rattle.kishu_meaning.specs.calls.Callees.{Part, settled}
use Rattle.kishu_language.specs.trees.Fits.{TrailerFits, TrailersFit}
use Rattle.kishu_language.specs.trees.Height.{of_trailer, of_trailers}
use Rattle.kishu_meaning.specs.cells.Meaning.{Calls, expr, part, trailer, trailers, nodes}
use Rattle.kishu_meaning.specs.moments.Moment.{Moment, Ends, fine, raised, stopped, and_then, ◌>>=◌, ◌>>◌}
use Rattle.kishu_language.specs.trees.Tree.{Expression, Trailer, Trailers, no_trailers, more_trailers, primary}
use Rattle.kishu_meaning.specs.values.Values.{Value}
use Rattle.kishu_calls.specs.declared.parts.Part as rust_part
use Rattle.kishu_calls.specs.Calls.{OwesReads, Owing, is_sound_part, owed, part_of}
use Rattle.kishu_language.specs.trees.Parts.{trailer_of, trailers_of}
use Rattle.kishu_machine.specs.declared.fault.Fault.{Fault}
use Rattle.kishu_machine.specs.declared.machine.Machine.{Machine}
use Rattle.kishu_machine.specs.Composing.{fails_on, gives_on}
use Rattle.kishu_machine.specs.Machine.{Fails, Gives, GrownBy, HasRoomBy, IsSound, moment_of}
use Rattle.kishu_statements.specs.Forms.{LeavesPart}
use Rattle.kishu_statements.proofs.Arguments.{trailers_first}
use Rattle.kishu_statements.proofs.Chains.{in_turn}

module _ (calls : Calls) (e : Expression) (ts : Trailers) (s : Moment) where
  abbrev part_then : Ends Part
  part_then = (nodes ts >> part calls e (expr calls e) >>= λ p. trailers calls p ts) s

  primary_is : expr calls (primary e ts) s ≡ and_then part_then settled
  primary_is = sym (in_turn ((nodes ts >> part calls e (expr calls e)) s) (λ p. trailers calls p ts) settled)

  pub primary_fails : (f : Fault) (u : Moment) → Fails {A = Part} f u part_then → Fails {A = Value} f u (expr calls (primary e ts) s)
  primary_fails f u h = subst (λ (x : Ends Value). Fails {A = Value} f u x) (sym primary_is) (fails_on settled f u part_then h)

  pub primary_gives : {X : Type 0} (view : X → Value) (r : Result X Fault) (p : Part) (u v : Moment) → part_then ≡ fine p u → Gives view r v (settled p u) → Gives view r v (expr calls (primary e ts) s)
  primary_gives view r p u v h k = subst (λ (x : Ends Value). Gives view r v x) (sym primary_is) (gives_on settled view r p u v part_then h k)

-- ---- the first of the trailers that are left

module _ (ts : List rust_trailer.Trailer) (i : ℕ) (x : rust_trailer.Trailer) (h : i < length ts) (is : x ≡ get_or ts i x) (y : Trailer) (same : trailer_of x ≡ y) where
  pub trailer_here : trailers_of (drop i ts) ≡ more_trailers y (trailers_of (drop (i + 1) ts))
  trailer_here = trailers_first ts i x h is ∙ ap (λ (z : Trailer). more_trailers z (trailers_of (drop (i + 1) ts))) same

  pub trailer_low : (of_trailer y ≤ of_trailers (trailers_of (drop i ts))) × (of_trailers (trailers_of (drop (i + 1) ts)) ≤ of_trailers (trailers_of (drop i ts)))
  trailer_low =
      let k : of_trailers (trailers_of (drop i ts)) ≡ max (of_trailer y) (of_trailers (trailers_of (drop (i + 1) ts))) = ap of_trailers trailer_here in
      (omega (arith, k), omega (arith, k))

  pub trailer_fits : TrailersFit (trailers_of (drop i ts)) → TrailerFits y × TrailersFit (trailers_of (drop (i + 1) ts))
  trailer_fits f = subst TrailersFit trailer_here f

-- ---- what was found, before the trailers that are left

pub leaves_more : (j k : ℕ) → j ≤ k → (old : Machine) (a : ℕ) (r : Result rust_part.Part Fault) (new : Machine) (b : ℕ) → LeavesPart j old a r new b → LeavesPart k old a r new b
leaves_more j k le old a (Ok p) new b h = omega (arith, le, h)
leaves_more j k le old a (Err f) new b h = omega (arith, le, h)

pub owing_more : (j k : ℕ) → j ≤ k → (old : Machine) (r : Result rust_part.Part Fault) (new : Machine) → Owing j old r new → Owing k old r new
owing_more j k le old (Ok p) new h = omega (arith, le, h)
owing_more j k le old (Err f) new h = omega (arith, le, h)

-- What comes before may leave what is owed for n reads.
pub owes_reads_on : (j k n : ℕ) (m0 m1 m2 : Machine) (a b c : ℕ) (r : Result rust_part.Part Fault) → b + 128 * m1.budget.left + n ≤ a + 128 * m0.budget.left + j → OwesReads (k + n) m1 b r m2 c → OwesReads (j + k) m0 a r m2 c
owes_reads_on j k n m0 m1 m2 a b c (Ok p) g h = omega (arith, g, h)
owes_reads_on j k n m0 m1 m2 a b c (Err f) g h = omega (arith, g, h)

-- A trailer uses the reads that the part before it left, and 120 more.
leaves_on : (i k : ℕ) (m0 m1 m2 : Machine) (a b c : ℕ) (p : rust_part.Part) (r : Result rust_part.Part Fault) → k ≤ 120 + 8 * owed (part_of p) → LeavesPart (120 * i) m0 a (Ok p) m1 b → OwesReads k m1 b r m2 c → LeavesPart (120 * (i + 1)) m0 a r m2 c
leaves_on i k m0 m1 m2 a b c p (Ok q) le g h = omega (arith, le, g, h)
leaves_on i k m0 m1 m2 a b c p (Err f) le g h = omega (arith, le, g, h)

owing_on : (i : ℕ) (m0 m1 m2 : Machine) (p : rust_part.Part) (r : Result rust_part.Part Fault) → Owing i m0 (Ok p) m1 → Owing (1 + owed (part_of p)) m1 r m2 → Owing (i + 1) m0 r m2
owing_on i m0 m1 m2 p (Ok q) g h = omega (arith, g, h)
owing_on i m0 m1 m2 p (Err f) g h = omega (arith, g, h)

grown_owing : (i : ℕ) (m0 m1 m2 : Machine) (a b c : ℕ) (p : rust_part.Part) → Owing i m0 (Ok p) m1 → GrownBy i m0 a m1 b → GrownBy (1 + owed (part_of p)) m1 b m2 c → GrownBy (i + 1) m0 a m2 c
grown_owing i m0 m1 m2 a b c p o g h = (omega (arith, g.0, h.0), omega (arith, o, h.1), omega (arith, g.2, h.2))

module _ (n : ℕ) (r : Result rust_part.Part Fault) (p : rust_part.Part) (is : r ≡ Ok p) where
  pub sound_found : IsSound (λ v. is_sound_part n (part_of v)) n r → IsTrue (is_sound_part n (part_of p))
  sound_found h = subst (λ (x : Result rust_part.Part Fault). IsSound (λ v. is_sound_part n (part_of v)) n x) is h

  pub room_found : (i k : ℕ) (old new : Machine) → i < k → HasRoomBy k old → Owing i old r new → HasRoomBy (1 + owed (part_of p)) new
  room_found i k old new lt room owes =
      let o : Owing i old (Ok p) new = subst (λ (x : Result rust_part.Part Fault). Owing i old x new) is owes in
      omega (arith, lt, room, o)

module _ (calls : Calls) (whole : Ends Part) where
  -- what a call found, i trailers behind the beginning
  abbrev pub Found : Trailers → ℕ → Machine → ℕ → Result rust_part.Part Fault → Machine → ℕ → Type 0
  Found ts i old a r new b = ((e : Ends Part) × Gives part_of r (moment_of new) e × (whole ≡ and_then e (λ p. trailers calls p ts))) × GrownBy i old a new b × LeavesPart (120 * i) old a r new b × Owing i old r new × IsSound (λ v. is_sound_part (length new.heap) (part_of v)) (length new.heap) r

  pub found_on : (first : Trailer) (ts : Trailers) (i k : ℕ) (m0 m1 m2 : Machine) (a b c : ℕ) (p : rust_part.Part) (r1 r : Result rust_part.Part Fault) → r1 ≡ Ok p → k ≤ 120 + 8 * owed (part_of p) → Found (more_trailers first ts) i m0 a r1 m1 b
      → Gives part_of r (moment_of m2) (trailer calls (part_of p) first (moment_of m1)) → GrownBy (1 + owed (part_of p)) m1 b m2 c → OwesReads k m1 b r m2 c → Owing (1 + owed (part_of p)) m1 r m2 → IsSound (λ v. is_sound_part (length m2.heap) (part_of v)) (length m2.heap) r
      → Found ts (i + 1) m0 a r m2 c
  found_on first ts i k m0 m1 m2 a b c p r1 r is le found gives kept reads owes sound =
      let had : Found (more_trailers first ts) i m0 a (Ok p) m1 b = subst (λ (x : Result rust_part.Part Fault). Found (more_trailers first ts) i m0 a x m1 b) is found in
      let told = had.0.2 ∙ ap (λ (x : Ends Part). and_then x (λ q. trailers calls q (more_trailers first ts))) had.0.1 in
      ((trailer calls (part_of p) first (moment_of m1), gives, told), grown_owing i m0 m1 m2 a b c p had.3 had.1 kept, leaves_on i k m0 m1 m2 a b c p r le had.2 reads, owing_on i m0 m1 m2 p r had.3 owes, sound)

  none_behind : (e : Ends Part) → and_then e (λ p. trailers calls p no_trailers) ≡ e
  none_behind (fine p t) = refl
  none_behind (raised x t) = refl
  none_behind (stopped t) = refl

  module _ (r : Result rust_part.Part Fault) (s : Moment) (e : Ends Part) (gave : Gives part_of r s e) where
    pub found_fails : (ts : Trailers) → whole ≡ and_then e (λ p. trailers calls p ts) → (f : Fault) → r ≡ Err f → Fails {A = Part} f s whole
    found_fails ts told f is =
        subst (λ (x : Ends Part). Fails {A = Part} f s x) (sym told)
        (fails_on (λ p. trailers calls p ts) f s e (subst (λ (x : Result rust_part.Part Fault). Gives part_of x s e) is gave))

    pub found_ends : whole ≡ and_then e (λ p. trailers calls p no_trailers) → Gives part_of r s whole
    found_ends told = subst (λ (x : Ends Part). Gives part_of r s x) (sym (told ∙ none_behind e)) gave

-- where ways join
pub moved : (P : Result rust_part.Part Fault → Machine → ℕ → Type 0) (r r2 : Result rust_part.Part Fault) (m m2 : Machine) (b b2 : ℕ) → r ≡ r2 → m ≡ m2 → b ≡ b2 → P r2 m2 b2 → P r m b
moved P r r2 m m2 b b2 p q s h =
    subst (λ (x : Result rust_part.Part Fault). P x m b) (sym p) (subst (λ (y : Machine). P r2 y b) (sym q) (subst (λ (z : ℕ). P r2 m2 z) (sym s) h))
