use Rattle.std.proofs.Common.{rules, ◌≡◌, ◌∙◌, ap, []}
use Rattle.std.specs.Str.{chars}
use Rattle.kishu_meaning.specs.values.KeyLaws.{key_bytes, key_chars}
use Rattle.kishu_meaning.proofs.key.Key.text.Goals as goal

pub returns-in-None-clause-chars : goal.returns-in-None-clause-chars
returns-in-None-clause-chars c =
    let b : [] ≡ key_bytes c.args.self.now = search rules in
    ap chars b ∙ key_chars c.args.self.now
