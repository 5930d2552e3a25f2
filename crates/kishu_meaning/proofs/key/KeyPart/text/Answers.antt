use Rattle.std.proofs.Common.{rules, ◌≡◌, ◌∙◌, ap, []}
use Rattle.std.specs.Str.{chars}
use Rattle.kishu_meaning.specs.values.KeyLaws.{part_bytes, part_chars}
use Rattle.kishu_meaning.proofs.key.KeyPart.text.Goals as goal

pub returns-in-None-clause-chars : goal.returns-in-None-clause-chars
returns-in-None-clause-chars c =
    let b : [] ≡ part_bytes c.args.self.now = search rules in
    ap chars b ∙ part_chars c.args.self.now
