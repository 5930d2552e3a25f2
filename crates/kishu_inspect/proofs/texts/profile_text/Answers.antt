use Rattle.std.proofs.Common.{sym, ap}
use Rattle.std.specs.Fmt.{digits}
use Rattle.std.specs.Prelude.{decimal}
use Rattle.kishu_bytes.specs.Numbers.{profile_number}
use Rattle.kishu_language.specs.declared.profile.Profile.{Profile}
use Rattle.kishu_inspect.proofs.texts.profile_text.Goals as goal

pub returns-in-One : goal.returns-in-One
unfolding digits
returns-in-One c = ap (λ (p : Profile). decimal (profile_number p)) (sym c.in-One.is)

pub returns-in-Two : goal.returns-in-Two
unfolding digits
returns-in-Two c = ap (λ (p : Profile). decimal (profile_number p)) (sym c.in-Two.is)
