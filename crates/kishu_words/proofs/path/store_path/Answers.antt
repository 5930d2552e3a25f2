use Rattle.std.proofs.Common.{◌∙◌}
use Rattle.kishu_words.specs.Words.{texts}
use Rattle.kishu_words.proofs.Stores.{store-of}
use Rattle.kishu_words.proofs.path.store_path.Goals as goal

pub returns-clause-store : goal.returns-clause-store
returns-clause-store c line is = c.first_path.ensures ∙ store-of (texts c.args.words.now) line is
