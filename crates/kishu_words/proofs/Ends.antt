-- What `clap` tells at the end of the words: the line that they are, or that they are none.
use Rattle.std.proofs.Common.{◌≡◌, ◌∙◌, ap, ap₂, sym, refl, subst, arith, ℕ, suc, ◌+◌, Bool, true, false, List, [], ◌∷◌, ◌++◌, append-nil, append_assoc, Option, Some, None, cond}
use Rattle.std.specs.Prelude.{not, codes, filter, length, if◌then◌else◌, is_some, option_and_then, unwrap_or, MatchOption}
use Rattle.std.specs.List.{fold, list_all}
use Rattle.clap.specs.Walk.{Row, Text, Walk, all_of, finished, first_of, one_of, settled, walked, with_default}
use Rattle.clap.specs.Simple.{built, entered, matches_of}
use Rattle.clap.specs.Kinds.{Kinds, or_else}
use Rattle.clap.specs.Faults.{check_fault, defaults_fault, entered_fault, fault_of, settle_fault, walk_fault}
use Rattle.clap.specs.declared.error.kind.ErrorKind.{ErrorKind}
use Rattle.clap.specs.declared.error.kind.ErrorKind.TheVariants.{MissingRequiredArgument}
use Rattle.kishu_words.specs.Words.{Line, is_flag, is_word, line_in, line_of, line_with}
use Rattle.kishu_words.specs.Parses.{line_app, told}
use Rattle.kishu_words.proofs.Walks.{Met, Stage, bare, fresh, met_at, rows_at, rules, settle-at, settled-at, shape, split, walk_at}
use Rattle.kishu_words.proofs.Whole.{Goes, Walks, ends, goes}

abbrev flags_of : Met → ℕ
flags_of (bare xs) = 0
flags_of (split bs xs) = 1

abbrev positionals_of : Met → List Text
positionals_of (bare xs) = xs
positionals_of (split bs xs) = bs ++ xs

abbrev line_at : Met → Option Line
line_at (bare xs) = line_with false xs
line_at (split bs xs) = line_with true (bs ++ xs)

abbrev plain_in : List Text → List Text
plain_in = filter (λ w. not (is_flag w))

bare-line : (b : Bool) (w : Text) (ws xs : List Text) (n : ℕ) (ps : List Text)
    → n ≡ 0 + length (cond b (w ∷ filter is_flag ws) (filter is_flag ws)) → ps ≡ xs ++ cond (not b) (w ∷ plain_in ws) (plain_in ws)
    → (n ≡ 1 + length (filter is_flag ws) → ps ≡ (xs ++ []) ++ plain_in ws → option_and_then line_at (ends (split xs []) ws) ≡ line_in n ps)
    → (n ≡ 0 + length (filter is_flag ws) → ps ≡ (xs ++ w ∷ []) ++ plain_in ws → option_and_then line_at (ends (bare (xs ++ w ∷ [])) ws) ≡ line_in n ps)
    → option_and_then line_at (if b then ends (split xs []) ws else ends (bare (xs ++ w ∷ [])) ws) ≡ line_in n ps
bare-line true w ws xs n ps k p flagged plainly = flagged (omega (arith, k)) (p ∙ ap (λ ys. ys ++ plain_in ws) (sym (append-nil xs)))
bare-line false w ws xs n ps k p flagged plainly = plainly (omega (arith, k)) (p ∙ sym (append_assoc xs (w ∷ []) (plain_in ws)))

twice : (n k : ℕ) (ps : List Text) → n ≡ suc (suc k) → None ≡ line_in n ps
twice n k ps e = rw e refl

split-line : (b : Bool) (w : Text) (ws bs xs : List Text) (n : ℕ) (ps : List Text)
    → n ≡ 1 + length (cond b (w ∷ filter is_flag ws) (filter is_flag ws)) → ps ≡ (bs ++ xs) ++ cond (not b) (w ∷ plain_in ws) (plain_in ws)
    → (n ≡ 1 + length (filter is_flag ws) → ps ≡ (bs ++ (xs ++ w ∷ [])) ++ plain_in ws → option_and_then line_at (ends (split bs (xs ++ w ∷ [])) ws) ≡ line_in n ps)
    → option_and_then line_at (if b then None else ends (split bs (xs ++ w ∷ [])) ws) ≡ line_in n ps
split-line true w ws bs xs n ps k p plainly = twice n (length (filter is_flag ws)) ps (omega (arith, k))
split-line false w ws bs xs n ps k p plainly = plainly (omega (arith, k))
    (p ∙ sym (append_assoc (bs ++ xs) (w ∷ []) (plain_in ws)) ∙ ap (λ ys. ys ++ plain_in ws) (append_assoc bs xs (w ∷ [])))

ends-line : (ws : List Text) (m : Met) (n : ℕ) (ps : List Text) → n ≡ flags_of m + length (filter is_flag ws) → ps ≡ positionals_of m ++ plain_in ws
    → option_and_then line_at (ends m ws) ≡ line_in n ps
ends-line [] (bare xs) n ps flags plain = rw (flags, plain, append-nil xs) refl
ends-line [] (split bs xs) n ps flags plain = rw (flags, plain, append-nil (bs ++ xs)) refl
ends-line (w ∷ ws) (bare xs) n ps flags plain = bare-line (is_flag w) w ws xs n ps flags plain
    (λ k p. ends-line ws (split xs []) n ps k p) (λ k p. ends-line ws (bare (xs ++ w ∷ [])) n ps k p)
ends-line (w ∷ ws) (split bs xs) n ps flags plain = split-line (is_flag w) w ws bs xs n ps flags plain
    (λ k p. ends-line ws (split bs (xs ++ w ∷ [])) n ps k p)

-- ---- what is looked at when all words were met

abbrev last_rows : Met → List Row
last_rows m = fold with_default (rows_at m) rules

abbrev late_fault : Met → Kinds
late_fault m = or_else (defaults_fault (rows_at m) rules) (check_fault shape (last_rows m) false)

pub record IsRead (rows : List Row) (line : Line) : Type 0 where
  pub command : first_of (codes "command") rows ≡ Some line.command
  pub args : unwrap_or (all_of (codes "arg") rows) [] ≡ line.args
  pub together : one_of (codes "together") rows ≡ told line.together

abbrev Ended : Met → Option Line → Type 0
Ended m found = MatchOption found (late_fault m ≡ MissingRequiredArgument ∷ []) (λ line. (late_fault m ≡ []) × IsRead (last_rows m) line)

ended-bare : (xs : List Text) → Ended (bare xs) (line_with false xs)
unfolding defaults_fault
ended-bare [] = refl
ended-bare (s ∷ []) = refl
ended-bare (s ∷ c ∷ []) = (refl, record { command = refl; args = refl; together = refl })
ended-bare (s ∷ c ∷ a ∷ us) = (refl, record { command = refl; args = refl; together = refl })

ended-split : (bs xs : List Text) → Ended (split bs xs) (line_with true (bs ++ xs))
unfolding defaults_fault
ended-split [] [] = refl
ended-split [] (s ∷ []) = refl
ended-split [] (s ∷ c ∷ []) = (refl, record { command = refl; args = refl; together = refl })
ended-split [] (s ∷ c ∷ a ∷ us) = (refl, record { command = refl; args = refl; together = refl })
ended-split (s ∷ []) [] = refl
ended-split (s ∷ []) (c ∷ []) = (refl, record { command = refl; args = refl; together = refl })
ended-split (s ∷ []) (c ∷ a ∷ us) = (refl, record { command = refl; args = refl; together = refl })
ended-split (s ∷ c ∷ []) [] = (refl, record { command = refl; args = refl; together = refl })
ended-split (s ∷ c ∷ []) (a ∷ us) = (refl, record { command = refl; args = refl; together = refl })
ended-split (s ∷ c ∷ a ∷ us) xs = (refl, record { command = refl; args = refl; together = refl })

ended : (m : Met) → Ended m (line_at m)
ended (bare xs) = ended-bare xs
ended (split bs xs) = ended-split bs xs

-- ---- the parse as a whole

abbrev start : Stage
start = fresh (bare [])

-- what fails, where the words pass the walk and it ends so
abbrev after_walk : Walk → Kinds
after_walk w = or_else (entered_fault (built line_app) w.stopped)
    (or_else (settle_fault rules false w.held)
    (or_else (defaults_fault (settled rules w.held).rows rules)
    (check_fault shape (finished rules w.held) (is_some (entered (built line_app) w.stopped)))))

fault-is : (ws : List Text) → fault_of line_app ws ≡ or_else (walk_fault shape [] (walk_at start) ws) (after_walk (fold (walked rules []) (walk_at start) ws))
fault-is ws = refl

after-at : (st : Stage) → after_walk (walk_at st) ≡ late_fault (met_at st)
after-at st = ap₂ (λ ks rows. or_else ks (or_else (defaults_fault rows rules) (check_fault shape (fold with_default rows rules) false)))
    (settle-at st) (ap (λ h. h.rows) (settled-at st))

walk-fault : (ws : List Text) (m : Met) → Walks start ws m → fault_of line_app ws ≡ late_fault m
walk-fault ws m walks = fault-is ws ∙ ap₂ (λ ks w. or_else ks (after_walk w)) walks.passes walks.stands ∙ after-at walks.end ∙ ap late_fault walks.met

walk-rows : (ws : List Text) (m : Met) → Walks start ws m → matches_of line_app ws ≡ last_rows m
walk-rows ws m walks = ap (λ (w : Walk). finished rules w.held) walks.stands
    ∙ ap (λ h. fold with_default h.rows rules) (settled-at walks.end) ∙ ap last_rows walks.met

-- The parse fails, or it tells the line.
abbrev pub Parses : List Text → Option Line → Type 0
Parses ws found = MatchOption found ((k : ErrorKind) × (ks : Kinds) × (fault_of line_app ws ≡ k ∷ ks)) (λ line. (fault_of line_app ws ≡ []) × IsRead (matches_of line_app ws) line)

walked-through : (ws : List Text) (m : Met) → Walks start ws m → (found : Option Line) → Ended m found → Parses ws found
walked-through ws m walks None ends = (_, _, walk-fault ws m walks ∙ ends)
walked-through ws m walks (Some line) ends = (walk-fault ws m walks ∙ ends.0, subst (λ rows. IsRead rows line) (sym (walk-rows ws m walks)) ends.1)

parsed : (ws : List Text) (found : Option Met) → Goes start ws found → Parses ws (option_and_then line_at found)
parsed ws None fails = (_, _, fault-is ws ∙ ap (λ ks. or_else ks (after_walk (fold (walked rules []) (walk_at start) ws))) fails)
parsed ws (Some m) walks = walked-through ws m walks (line_at m) (ended m)

pub parses : (ws : List Text) → list_all is_word ws ≡ true → Parses ws (line_of ws)
parses ws words = subst (Parses ws)
    (ends-line ws (bare []) (length (filter is_flag ws)) (plain_in ws) (omega arith) refl ∙ ap (λ (b : Bool). if b then line_in (length (filter is_flag ws)) (plain_in ws) else None) (sym words))
    (parsed ws (ends (bare []) ws) (goes ws start (bare []) refl words))
