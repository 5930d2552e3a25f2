use Rattle.std.proofs.Common.{rules, append_assoc}
use Rattle.std.proofs.lemmas.Str.{encodes-chars}
use Rattle.kishu_picture.proofs.parts.put_text.Goals as goal

pub returns-clause-chars : goal.returns-clause-chars
returns-clause-chars c = rw (encodes-chars c.args.text.now c.utf8.text) (search (rules, append_assoc))
