-- What a parse by `clap` tells of a command line.
use Rattle.std.specs.Prelude.{◌≡◌, ℕ, List, Bool, true, false, codes, Option, Some, option_map, unwrap_or, []}
use Rattle.clap.specs.Words.{App, Rule, found_of, first_value, matched_of, new_rule, one_text, raw_values, with_rule}
use Rattle.clap.specs.Simple.{new_shape}
use Rattle.clap.specs.declared.builder.action.ArgAction.TheVariants.{Append, SetTrue}
use Rattle.clap.specs.declared.parser.matches.ArgMatches.{ArgMatches}
use Rattle.kishu_words.specs.Words.{Line}

-- `true` or `false`, as a flag's value is told
abbrev pub told : Bool → Option (List ℕ)
told true = Some (codes "true")
told false = Some (codes "false")

-- The matches are those of this line.
pub record Tells (m : ArgMatches) (line : Line) : Type 0 where
  pub command : first_value (found_of m) (codes "command") ≡ Some line.command
  pub args : unwrap_or (option_map raw_values (matched_of (found_of m) (codes "arg"))) [] ≡ line.args
  pub together : one_text (found_of m) (codes "together") ≡ told line.together

-- ---- what `clap` is told of a command line

abbrev pub store_rule : Rule
store_rule = record (new_rule (codes "store")) { required = true }

abbrev pub command_rule : Rule
command_rule = record (new_rule (codes "command")) { required = true }

abbrev pub arg_rule : Rule
arg_rule = record (new_rule (codes "arg")) { action = Some Append }

abbrev pub together_rule : Rule
together_rule = record (new_rule (codes "together")) { long = Some (codes "together"); action = Some SetTrue }

-- the words come without the program's name
abbrev pub bare_app : App
bare_app = record { top = record (new_shape (codes "kishu")) { no_binary_name = true; disable_help_flag = true }; subs = [] }

abbrev pub line_app : App
line_app = with_rule (with_rule (with_rule (with_rule bare_app store_rule) command_rule) arg_rule) together_rule
