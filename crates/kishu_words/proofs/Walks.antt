-- The walk of `clap` over the words of a command line, word by word.
use Rattle.std.proofs.Common.{◌≡◌, ◌∙◌, ap, sym, refl, ℕ, false, List, [], ◌∷◌, ◌++◌, append_assoc, Some, None}
use Rattle.std.specs.Prelude.{codes}
use Rattle.clap.specs.Walk.{Held, Row, Rule, Text, Waiting, Walk, idle, positional, settled, used}
use Rattle.clap.specs.Simple.{Shape, built, filled, with_index}
use Rattle.clap.specs.Faults.{settle_fault, use_fault}
use Rattle.clap.specs.declared.builder.value_parser.Reading.TheVariants.{AsWritten}
use Rattle.clap.specs.declared.parser.matches.ValueSource.TheVariants.{CommandLine}
use Rattle.kishu_words.specs.Parses.{line_app, store_rule, command_rule, arg_rule, together_rule}

-- ---- the command us it is built

abbrev pub together_built : Rule
together_built = with_index 4 (filled together_rule)

abbrev pub rules : List Rule
rules = with_index 1 (filled store_rule) ∷ with_index 2 (filled command_rule) ∷ with_index 3 (filled arg_rule) ∷ together_built ∷ []

abbrev pub shape : Shape
shape = (built line_app).top

rules-are : shape.rules ≡ rules
rules-are = refl

-- ---- where a walk stands

-- which positional the next word is
pub data Place : Type 0 where
  first : Place
  second : Place
  later : Place

abbrev pub next_place : Place → Place
next_place first = second
next_place second = later
next_place later = later

abbrev pub number : Place → ℕ
number first = 1
number second = 2
number later = 3

abbrev pub rule_at : Place → Rule
rule_at first = with_index 1 (filled store_rule)
rule_at second = with_index 2 (filled command_rule)
rule_at later = with_index 3 (filled arg_rule)

abbrev pub waiting_after : Place → Waiting
waiting_after first = idle
waiting_after second = idle
waiting_after later = positional

-- the words that were met: positionals alone, or positionals before and after the flag
pub data Met : Type 0 where
  bare : List Text → Met
  split : (before after : List Text) → Met

abbrev pub plus : Met → Text → Met
plus (bare xs) p = bare (xs ++ p ∷ [])
plus (split bs xs) p = split bs (xs ++ p ∷ [])

abbrev pub place_of : List Text → Place
place_of [] = first
place_of (s ∷ []) = second
place_of (s ∷ c ∷ us) = later

abbrev pub place_at : Met → Place
place_at (bare xs) = place_of xs
place_at (split bs xs) = place_of (bs ++ xs)

-- ---- the rows

abbrev row : Text → List Text → Row
row id values = record { id = id; values = values; count = None; source = Some CommandLine; reading = AsWritten }

abbrev store_row : Text → Row
store_row s = row (codes "store") (s ∷ [])

abbrev command_row : Text → Row
command_row c = row (codes "command") (c ∷ [])

abbrev args_row : List Text → Row
args_row us = row (codes "arg") us

abbrev flag_row : Row
flag_row = row (codes "together") (codes "true" ∷ [])

abbrev pub plain_rows : List Text → List Row
plain_rows [] = []
plain_rows (s ∷ []) = store_row s ∷ []
plain_rows (s ∷ c ∷ []) = store_row s ∷ command_row c ∷ []
plain_rows (s ∷ c ∷ a ∷ us) = store_row s ∷ command_row c ∷ args_row (a ∷ us) ∷ []

abbrev pub split_rows : List Text → List Text → List Row
split_rows [] xs = flag_row ∷ plain_rows xs
split_rows (s ∷ []) [] = store_row s ∷ flag_row ∷ []
split_rows (s ∷ []) (c ∷ []) = store_row s ∷ flag_row ∷ command_row c ∷ []
split_rows (s ∷ []) (c ∷ a ∷ us) = store_row s ∷ flag_row ∷ command_row c ∷ args_row (a ∷ us) ∷ []
split_rows (s ∷ c ∷ []) [] = store_row s ∷ command_row c ∷ flag_row ∷ []
split_rows (s ∷ c ∷ []) (a ∷ us) = store_row s ∷ command_row c ∷ flag_row ∷ args_row (a ∷ us) ∷ []
split_rows (s ∷ c ∷ a ∷ us) xs = store_row s ∷ command_row c ∷ args_row (a ∷ us ++ xs) ∷ flag_row ∷ []

abbrev pub rows_at : Met → List Row
rows_at (bare xs) = plain_rows xs
rows_at (split bs xs) = split_rows bs xs

-- ---- a positional more

plain-more : (xs : List Text) (p : Text) → used (rule_at (place_of xs)) (p ∷ []) (plain_rows xs) ≡ plain_rows (xs ++ p ∷ [])
plain-more [] p = refl
plain-more (s ∷ []) p = refl
plain-more (s ∷ c ∷ []) p = refl
plain-more (s ∷ c ∷ a ∷ us) p = refl

split-more : (bs xs : List Text) (p : Text) → used (rule_at (place_of (bs ++ xs))) (p ∷ []) (split_rows bs xs) ≡ split_rows bs (xs ++ p ∷ [])
split-more [] [] p = refl
split-more [] (s ∷ []) p = refl
split-more [] (s ∷ c ∷ []) p = refl
split-more [] (s ∷ c ∷ a ∷ us) p = refl
split-more (s ∷ []) [] p = refl
split-more (s ∷ []) (c ∷ []) p = refl
split-more (s ∷ []) (c ∷ a ∷ us) p = refl
split-more (s ∷ c ∷ []) [] p = refl
split-more (s ∷ c ∷ []) (a ∷ us) p = refl
split-more (s ∷ c ∷ a ∷ us) xs p = ap (λ vs. store_row s ∷ command_row c ∷ args_row vs ∷ flag_row ∷ []) (append_assoc (a ∷ us) xs (p ∷ []))

pub rows-plus : (m : Met) (p : Text) → used (rule_at (place_at m)) (p ∷ []) (rows_at m) ≡ rows_at (plus m p)
rows-plus (bare xs) p = plain-more xs p
rows-plus (split bs xs) p = split-more bs xs p

place-more : (xs : List Text) (p : Text) → place_of (xs ++ p ∷ []) ≡ next_place (place_of xs)
place-more [] p = refl
place-more (s ∷ []) p = refl
place-more (s ∷ c ∷ us) p = refl

pub place-plus : (m : Met) (p : Text) → place_at (plus m p) ≡ next_place (place_at m)
place-plus (bare xs) p = place-more xs p
place-plus (split bs xs) p = ap place_of (sym (append_assoc bs xs (p ∷ []))) ∙ place-more (bs ++ xs) p

-- ---- what is held

-- all that was met is settled, or the last positional is still pending
pub data Stage : Type 0 where
  fresh : Met → Stage
  after : Met → Text → Stage

abbrev pub met_at : Stage → Met
met_at (fresh m) = m
met_at (after m p) = plus m p

abbrev pub held_fresh : List Row → Held
held_fresh rows = record { rows = rows; pending = None; skip = 0 }

abbrev pub held_after : Place → List Row → Text → Held
held_after place rows p = record { rows = rows; pending = Some ((rule_at place).id, p ∷ []); skip = 0 }

abbrev pub held_at : Stage → Held
held_at (fresh m) = held_fresh (rows_at m)
held_at (after m p) = held_after (place_at m) (rows_at m) p

abbrev pub walk_with : Held → Waiting → Place → Walk
walk_with held waiting place = record { held = held; waiting = waiting; position = number place; is_trailing = false; stopped = None }

abbrev pub waiting_at : Stage → Waiting
waiting_at (fresh m) = idle
waiting_at (after m p) = waiting_after (place_at m)

abbrev pub walk_at : Stage → Walk
walk_at st = walk_with (held_at st) (waiting_at st) (place_at (met_at st))

settled-after : (n : Place) (rows : List Row) (p : Text) → settled rules (held_after n rows p) ≡ held_fresh (used (rule_at n) (p ∷ []) rows)
settled-after first rows p = refl
settled-after second rows p = refl
settled-after later rows p = refl

pub settled-at : (st : Stage) → settled rules (held_at st) ≡ held_fresh (rows_at (met_at st))
settled-at (fresh m) = refl
settled-at (after m p) = settled-after (place_at m) (rows_at m) p ∙ ap held_fresh (rows-plus m p)

plain-passes : (xs : List Text) (p : Text) → use_fault false (rule_at (place_of xs)) (p ∷ []) (plain_rows xs) ≡ []
plain-passes [] p = refl
plain-passes (s ∷ []) p = refl
plain-passes (s ∷ c ∷ []) p = refl
plain-passes (s ∷ c ∷ a ∷ us) p = refl

split-passes : (bs xs : List Text) (p : Text) → use_fault false (rule_at (place_of (bs ++ xs))) (p ∷ []) (split_rows bs xs) ≡ []
split-passes [] [] p = refl
split-passes [] (s ∷ []) p = refl
split-passes [] (s ∷ c ∷ []) p = refl
split-passes [] (s ∷ c ∷ a ∷ us) p = refl
split-passes (s ∷ []) [] p = refl
split-passes (s ∷ []) (c ∷ []) p = refl
split-passes (s ∷ []) (c ∷ a ∷ us) p = refl
split-passes (s ∷ c ∷ []) [] p = refl
split-passes (s ∷ c ∷ []) (a ∷ us) p = refl
split-passes (s ∷ c ∷ a ∷ us) xs p = refl

met-passes : (m : Met) (p : Text) → use_fault false (rule_at (place_at m)) (p ∷ []) (rows_at m) ≡ []
met-passes (bare xs) p = plain-passes xs p
met-passes (split bs xs) p = split-passes bs xs p

settle-after : (n : Place) (rows : List Row) (p : Text) → settle_fault rules false (held_after n rows p) ≡ use_fault false (rule_at n) (p ∷ []) rows
settle-after first rows p = refl
settle-after second rows p = refl
settle-after later rows p = refl

pub settle-at : (st : Stage) → settle_fault rules false (held_at st) ≡ []
settle-at (fresh m) = refl
settle-at (after m p) = settle-after (place_at m) (rows_at m) p ∙ met-passes m p
