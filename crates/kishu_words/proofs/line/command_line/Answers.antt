use Rattle.std.proofs.Common.{◌≡◌, ◌∙◌, ap, ap₂, rules, true}
use Rattle.std.proofs.lemmas.Result.{IfOk-weaker}
use Rattle.clap.specs.Simple.{app_of_fields, on_top}
use Rattle.clap.specs.Words.{app_of, rule_of, with_rule}
use Rattle.kishu_words.specs.Parses.{arg_rule, bare_app, command_rule, store_rule, together_rule}
use Rattle.kishu_words.proofs.line.command_line.Goals as goal

pub returns : goal.returns
returns c =
    let store_is : rule_of c.required-store.result ≡ store_rule = search rules in
    let command_is : rule_of c.required-command.result ≡ command_rule = search rules in
    let args_is : rule_of c.action-args.result ≡ arg_rule = search rules in
    let together_is : rule_of c.action-together.result ≡ together_rule = search rules in
    let named : app_of c.no_binary_name.result ≡ on_top (λ s. record s { no_binary_name = true }) (app_of c.new-5.result) = ap app_of_fields c.no_binary_name.ensures in
    let without_help : app_of c.disable_help_flag.result ≡ on_top (λ s. record s { disable_help_flag = true }) (app_of c.no_binary_name.result) = ap app_of_fields c.disable_help_flag.ensures in
    let bare : app_of c.disable_help_flag.result ≡ bare_app = without_help
    ∙ ap (on_top (λ s. record s { disable_help_flag = true })) (named ∙ ap (on_top (λ s. record s { no_binary_name = true })) c.new-5.ensures.app) in
    let three = c.in_ok-arg-3.ensures.shape (search rules)
    ∙ ap₂ with_rule (c.in_ok-arg-2.ensures.shape (search rules) ∙ ap₂ with_rule (c.in_ok-arg.ensures.shape (search rules) ∙ ap₂ with_rule bare store_is) command_is) args_is in
    IfOk-weaker c.arg-4.result _ _ (λ r adds. adds.shape (search rules) ∙ ap₂ with_rule three together_is) c.arg-4.ensures
