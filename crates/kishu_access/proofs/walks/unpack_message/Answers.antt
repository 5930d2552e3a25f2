use Rattle.std.proofs.Common.{◌≡◌, ◌++◌, IfOk, rules, refl, append_assoc}
use Rattle.std.specs.Prelude.{codes, decimal}
use Rattle.std.specs.String.{string_bytes}
use Rattle.std.proofs.lemmas.Fmt.{IsAscii-decimal}
use Rattle.std.proofs.lemmas.Str.{IsAscii-append}
use Rattle.kishu_access.proofs.Walking.{all_ascii, ok_ascii}
use Rattle.kishu_access.proofs.walks.unpack_message.Goals as goal

pub returns : goal.returns
returns c =
    let n = c.args.count in
    let h : IfOk c.format.result (λ s. string_bytes s ≡ codes "cannot unpack into " ++ decimal n) = search (rules, append_assoc) in
    ok_ascii c.format.result (codes "cannot unpack into " ++ decimal n) (IsAscii-append (codes "cannot unpack into ") (decimal n) (all_ascii (codes "cannot unpack into ") refl) (IsAscii-decimal n c.ranges.count.fits)) h
