use Rattle.kishu_serve.proofs.status.key_text.Goals as goal

pub returns-in-Minor : goal.returns-in-Minor
returns-in-Minor c = rw c.in-Minor.is c.from_str-in-Minor.ensures.ok
