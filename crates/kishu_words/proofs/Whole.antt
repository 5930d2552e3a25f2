-- The walk of `clap` over all the words of a command line.
use Rattle.std.proofs.Common.{◌≡◌, ◌∙◌, ap, ap₂, sym, refl, subst, Bool, true, false, List, [], ◌∷◌, ◌++◌, Option, Some, None, true≢false}
use Rattle.std.specs.Prelude.{◌||◌, ◌&&◌, if◌then◌else◌, MatchOption}
use Rattle.std.specs.List.{fold, list_all}
use Rattle.std.proofs.lemmas.Slice.Eq.{bytes_eq-Decides}
use Rattle.clap.specs.Walk.{Text, walked}
use Rattle.clap.specs.Kinds.{Kinds, or_else}
use Rattle.clap.specs.Faults.{turn_fault, walk_fault, use_fault}
use Rattle.clap.specs.declared.error.kind.ErrorKind.TheVariants.{ArgumentConflict}
use Rattle.kishu_words.specs.Words.{is_flag, is_plain, is_word}
use Rattle.kishu_words.proofs.Walks.{Met, Stage, after, bare, fresh, met_at, plus, rows_at, rules, shape, split, together_built, walk_at}
use Rattle.kishu_words.proofs.Steps.{flag, flag-again, flag-first, flag-step, flag-turn, plain-step, plain-turn}

-- what was met after these words; None where the flag was met twice
abbrev pub ends : Met → List Text → Option Met
ends m [] = Some m
ends (bare xs) (w ∷ ws) = if is_flag w then ends (split xs []) ws else ends (bare (xs ++ w ∷ [])) ws
ends (split bs xs) (w ∷ ws) = if is_flag w then None else ends (split bs (xs ++ w ∷ [])) ws

pub record Walks (st : Stage) (ws : List Text) (m : Met) : Type 0 where
  pub passes : walk_fault shape [] (walk_at st) ws ≡ []
  pub end : Stage
  pub met : met_at end ≡ m
  pub stands : fold (walked rules []) (walk_at st) ws ≡ walk_at end

abbrev pub Goes : Stage → List Text → Option Met → Type 0
Goes st ws found = MatchOption found (walk_fault shape [] (walk_at st) ws ≡ ArgumentConflict ∷ []) (λ m. Walks st ws m)

-- one word that passes, and what comes behind it
more-fault : (st next : Stage) (w : Text) (ws : List Text) (ks : Kinds) → turn_fault shape [] (walk_at st) w ≡ [] → walked rules [] (walk_at st) w ≡ walk_at next
    → walk_fault shape [] (walk_at next) ws ≡ ks → walk_fault shape [] (walk_at st) (w ∷ ws) ≡ ks
unfolding walk_fault
more-fault st next w ws ks turn goes rest = ap₂ (λ t to. or_else t (walk_fault shape [] to ws)) turn goes ∙ rest

further : (st next : Stage) (w : Text) (ws : List Text) (found : Option Met) → turn_fault shape [] (walk_at st) w ≡ [] → walked rules [] (walk_at st) w ≡ walk_at next
    → Goes next ws found → Goes st (w ∷ ws) found
further st next w ws None turn goes rest = more-fault st next w ws _ turn goes rest
further st next w ws (Some m) turn goes rest = record {
  passes = more-fault st next w ws [] turn goes rest.passes;
  end = rest.end;
  met = rest.met;
  stands = ap (λ to. fold (walked rules []) to ws) goes ∙ rest.stands;
}

fails : (st : Stage) (w : Text) (ws : List Text) → turn_fault shape [] (walk_at st) w ≡ ArgumentConflict ∷ [] → walk_fault shape [] (walk_at st) (w ∷ ws) ≡ ArgumentConflict ∷ []
unfolding walk_fault
fails st w ws turn = ap (λ t. or_else t (walk_fault shape [] (walked rules [] (walk_at st) w) ws)) turn

pub flag-is : (w : Text) → is_flag w ≡ true → w ≡ flag
flag-is w e = (bytes_eq-Decides w flag).0 e

pub plain-is : (w : Text) → is_flag w ≡ false → is_word w ≡ true → is_plain w ≡ true
plain-is w e word = ap (λ b. b || is_plain w) (sym e) ∙ word

pub first-of : (a b : Bool) → (a && b) ≡ true → a ≡ true
first-of true b e = refl
first-of false b e = e

pub second-of : (a b : Bool) → (a && b) ≡ true → b ≡ true
second-of true b e = e
second-of false b e = absurd (true≢false (sym e))

nowhere : (st : Stage) (m : Met) → met_at st ≡ m → Walks st [] m
unfolding walk_fault
nowhere st m e = record { passes = refl; end = st; met = e; stands = refl }

-- a word behind positionals alone, by whether it is the flag
from-bare : (st : Stage) (xs : List Text) (w : Text) (ws : List Text) → met_at st ≡ bare xs → is_word w ≡ true → (b : Bool) → is_flag w ≡ b
    → Goes (fresh (split xs [])) ws (ends (split xs []) ws) → Goes (after (met_at st) w) ws (ends (bare (xs ++ w ∷ [])) ws)
    → Goes st (w ∷ ws) (if b then ends (split xs []) ws else ends (bare (xs ++ w ∷ [])) ws)
from-bare st xs w ws e word true is flagged plainly = subst (λ (t : Text). Goes st (t ∷ ws) (ends (split xs []) ws)) (sym (flag-is w is))
    (further st (fresh (split xs [])) flag ws _ (flag-turn st ∙ ap (λ m. use_fault false together_built [] (rows_at m)) e ∙ flag-first xs) (flag-step st xs e) flagged)
from-bare st xs w ws e word false is flagged plainly =
    further st (after (met_at st) w) w ws _ (plain-turn st w (plain-is w is word)) (plain-step st w (plain-is w is word)) plainly

-- a word behind the flag
from-split : (st : Stage) (bs xs : List Text) (w : Text) (ws : List Text) → met_at st ≡ split bs xs → is_word w ≡ true → (b : Bool) → is_flag w ≡ b
    → Goes (after (met_at st) w) ws (ends (split bs (xs ++ w ∷ [])) ws) → Goes st (w ∷ ws) (if b then None else ends (split bs (xs ++ w ∷ [])) ws)
from-split st bs xs w ws e word true is plainly = subst (λ (t : Text). walk_fault shape [] (walk_at st) (t ∷ ws) ≡ ArgumentConflict ∷ []) (sym (flag-is w is))
    (fails st flag ws (flag-turn st ∙ ap (λ m. use_fault false together_built [] (rows_at m)) e ∙ flag-again bs xs))
from-split st bs xs w ws e word false is plainly =
    further st (after (met_at st) w) w ws _ (plain-turn st w (plain-is w is word)) (plain-step st w (plain-is w is word)) plainly

pub goes : (ws : List Text) (st : Stage) (m : Met) → met_at st ≡ m → list_all is_word ws ≡ true → Goes st ws (ends m ws)
goes [] st m e all = nowhere st m e
goes (w ∷ ws) st (bare xs) e all = from-bare st xs w ws e (first-of (is_word w) _ all) (is_flag w) refl
    (goes ws (fresh (split xs [])) (split xs []) refl (second-of (is_word w) _ all))
    (goes ws (after (met_at st) w) (bare (xs ++ w ∷ [])) (ap (λ m. plus m w) e) (second-of (is_word w) _ all))
goes (w ∷ ws) st (split bs xs) e all = from-split st bs xs w ws e (first-of (is_word w) _ all) (is_flag w) refl
    (goes ws (after (met_at st) w) (split bs (xs ++ w ∷ [])) (ap (λ m. plus m w) e) (second-of (is_word w) _ all))
