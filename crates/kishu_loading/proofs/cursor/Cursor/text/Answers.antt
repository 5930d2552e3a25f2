use Rattle.std.proofs.Common.{◌∙◌}
use Rattle.kishu_loading.specs.Fronts.{front_of}
use Rattle.kishu_loading.proofs.Texts.{spelled_is}
use Rattle.kishu_loading.proofs.cursor.Cursor.text.Goals as goal

pub returns-clause-gives : goal.returns-clause-gives
returns-clause-gives c = spelled_is (front_of c.args.self.now) (front_of c.number.new.self) (front_of c.bytes.new.self)
    _ _ c.in_ok-length.ensures.gives c.in_ok-bytes.ensures.gives _ c.in-Ok.ensures.cases.1 (c.in_ok-from_str.ensures.ok ∙ c.in-Ok.ensures.cases.0)
