-- From what `clap` promises of a parse to the line that the words are.
use Rattle.std.proofs.Common.{◌≡◌, ◌∙◌, ap, refl, subst, true, List, [], Option, Some, None}
use Rattle.std.specs.Prelude.{codes, unwrap_or}
use Rattle.std.specs.List.{list_all}
use Rattle.clap.specs.Walk.{Row, Text, all_of, first_of, one_of, rows_of}
use Rattle.clap.specs.Simple.{is_simple, matches_of}
use Rattle.clap.specs.Matches.{found_of}
use Rattle.clap.specs.Kinds.{IsAmong}
use Rattle.clap.specs.Faults.{fault_of, is_simple_and_free}
use Rattle.clap.specs.declared.error.kind.ErrorKind.{ErrorKind}
use Rattle.clap.specs.declared.parser.matches.ArgMatches.{ArgMatches}
use Rattle.clap.proofs.OnLiterals.{clap_on_literals}
use Rattle.clap.proofs.WalkLemmas.{first_value-rows, one_text-rows, raw_values-rows}
use Rattle.kishu_words.specs.Words.{Line, is_word, line_of}
use Rattle.kishu_words.specs.Parses.{Tells, line_app}
use Rattle.kishu_words.proofs.Ends.{IsRead, Parses, parses}

pub app-simple : is_simple line_app ≡ true
unfolding clap_on_literals
app-simple = refl

pub app-free : is_simple_and_free line_app ≡ true
unfolding clap_on_literals
app-free = refl

-- A parse that succeeds tells a line.
abbrev pub Told : List Text → Type 0
Told ws = (line : Line) × (line_of ws ≡ Some line) × IsRead (matches_of line_app ws) line

told-by : (ws : List Text) (found : Option Line) → line_of ws ≡ found → Parses ws found → fault_of line_app ws ≡ [] → Told ws
told-by ws None is fails passes = absurd (cc (fails.2, passes))
told-by ws (Some line) is found passes = (line, is, found.1)

pub told-line : (ws : List Text) → list_all is_word ws ≡ true → fault_of line_app ws ≡ [] → Told ws
told-line ws words passes = told-by ws (line_of ws) refl (parses ws words) passes

none-by : (ws : List Text) (k : ErrorKind) (found : Option Line) → line_of ws ≡ found → Parses ws found → IsAmong k (fault_of line_app ws) → line_of ws ≡ None
none-by ws k None is fails among = is
none-by ws k (Some line) is found among = absurd (subst (IsAmong k) found.0 among)

-- One that fails tells none.
pub no-line : (ws : List Text) (k : ErrorKind) → list_all is_word ws ≡ true → IsAmong k (fault_of line_app ws) → line_of ws ≡ None
no-line ws k words among = none-by ws k (line_of ws) refl (parses ws words) among

pub tells : (m : ArgMatches) (rows : List Row) (line : Line) → rows_of (found_of m) ≡ rows → IsRead rows line → Tells m line
tells m rows line is read = record {
  command = first_value-rows (found_of m) (codes "command") ∙ ap (first_of (codes "command")) is ∙ read.command;
  args = ap (λ o. unwrap_or o []) (raw_values-rows (found_of m) (codes "arg") ∙ ap (all_of (codes "arg")) is) ∙ read.args;
  together = one_text-rows (found_of m) (codes "together") ∙ ap (one_of (codes "together")) is ∙ read.together;
}
