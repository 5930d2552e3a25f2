use Rattle.std.proofs.Common.{◌∙◌, sym, subst}
use Rattle.kishu_language.specs.grammar.Parse.{ParseDef}
use Rattle.kishu_language.specs.trees.Tree.{definition_of}
use Rattle.kishu_language_laws.specs.trees.ParsedFits.{code_of_parsed}
use Rattle.kishu_loading.proofs.Codes.{defaults_are, is_code_of, no_code}
use Rattle.kishu_loading.proofs.functions.code_in.Goals as goal

pub returns-in_ok-from_str-in-Ok-parse_def-clause-found : goal.returns-in_ok-from_str-in-Ok-parse_def-clause-found
returns-in_ok-from_str-in-Ok-parse_def-clause-found c =
    let bytes = c.args.bytes.now in
    let d = definition_of c.in-Ok-parse_def.def in
    let parsed = subst (λ t. ParseDef c.args.profile t d) c.in-Ok.ensures.cases.0 c.in-Ok-parse_def.ensures.found in
    record {
      text = c.in_ok-from_str-in-Ok-parse_def.ensures.ok ∙ c.in-Ok.ensures.cases.0;
      short = c.requires;
      read = is_code_of c.args.profile bytes d c.in-Ok.ensures.cases.1 parsed;
      defaults = defaults_are c.args.profile bytes d parsed;
      fits = ∣ code_of_parsed c.args.profile bytes d c.in-Ok.ensures.cases.1 c.requires parsed ∣₁;
    }

pub returns-in-Err-Syntax-clause-none : goal.returns-in-Err-Syntax-clause-none
returns-in-Err-Syntax-clause-none c none =
    no_code c.args.profile c.args.bytes.now (λ d h.
    let e = c.in-Err-Syntax.ensures.only d (subst (λ t. ParseDef c.args.profile t d) (sym c.in-Ok.ensures.cases.0) h) in
    let f = c.in-Err-Syntax.field-0-is in
    cc)
