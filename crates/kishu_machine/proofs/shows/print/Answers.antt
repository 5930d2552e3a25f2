use Rattle.std.proofs.Common.{◌≡◌, ◌∙◌, ◌+◌, ◌*◌, ◌-◌, ◌++◌, List, ℕ, ap, append_assoc, length, rules, subst}
use Rattle.std.specs.Str.{chars}
use Rattle.std.specs.String.{string_bytes}
use Rattle.std.specs.declared.alloc.Global.{Global}
use Rattle.std.specs.declared.string.String.{String}
use Rattle.std.proofs.lemmas.List.{length-map}
use Rattle.kishu_meaning.specs.moments.Moment.{fine, spend}
use Rattle.kishu_meaning.specs.values.Texts.{joined}
use Rattle.kishu_meaning.specs.values.Values.{value_of}
use Rattle.std.specs.Prelude.{map}
use Rattle.kishu_machine.specs.Lists.{string_texts}
use Rattle.kishu_machine.specs.Machine.{moment_of}
use Rattle.kishu_machine.proofs.Printing.{printed}
use Rattle.kishu_machine.proofs.shows.print.Goals as goal

pub returns-clause-gives : goal.returns-clause-gives
returns-clause-gives g c =
    let separator = chars c.args.separator.now in
    let ending = chars c.args.end.now in
    let texts = string_texts c.in_ok-texts.texts in
    let s0 = moment_of c.args.machine.now in
    let s1 = moment_of c.show_all.new.machine in
    let s2 = moment_of c.spend.new.machine in
    let out = chars (string_bytes c.push_text.new.out) in
    let len : c.len.result ≡ length texts = rw (length-map c.in_ok-texts.texts.items (λ (t : String Global). chars (string_bytes t))) (search rules) in
    let count : c.marks.result ≡ length separator * (length texts - 1) + length ending = c.marks.ensures ∙ ap (λ (n : ℕ). length separator * (n - 1) + length ending) len in
    let paid = subst (λ (n : ℕ). spend n s1 ≡ fine tt s2) count c.in_ok-spend.ensures.gives in
    let put = rw c.as_slice.ensures.value at c.in_ok-push_joined.ensures in
    let whole : out ≡ s2.out ++ (joined separator texts ++ ending) = c.in_ok-push_text.ensures ∙ ap (λ (y : List ℕ). y ++ ending) put ∙ append_assoc s2.out (joined separator texts) ending in
    printed separator ending (map value_of c.args.values.now) texts s0 s1 s2 out c.in_ok-texts.ensures.gives paid whole
