use Rattle.kishu_picture.specs.Held.{held}
use Rattle.kishu_iso.proofs.Telling.{bytes_decide}
use Rattle.kishu_iso.proofs.comparing.same.Goals as goal

pub returns-clause-same : goal.returns-clause-same
returns-clause-same g c =
    let s = held c.args.a.now c.args.an.now in
    let t = held c.args.b.now c.args.bn.now in
    bytes_decide s t c.whole_picture.ensures.sound c.whole_picture-2.ensures.sound c.in_ok-one.ensures.fits c.in_ok-other.ensures.fits
    c.in_ok-one.one.items c.in_ok-other.other.items c.in_ok-one.ensures.bytes c.in_ok-other.ensures.bytes c.eq.result c.eq.ensures
