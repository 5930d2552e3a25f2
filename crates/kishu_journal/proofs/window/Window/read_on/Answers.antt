use Rattle.std.proofs.Common.{◌≡◌, ◌≤◌, ◌+◌, ◌-◌, length, take, drop, refl, ap, ◌∙◌, arith}
use Rattle.std.proofs.lemmas.List.{take_at}
use Rattle.kishu_journal.proofs.WindowLemmas.{long, read}
use Rattle.kishu_journal.proofs.window.Window.read_on.Goals as goal
use borrow.Rule.Slice.PartMut.{put_mid}

pub returns-clause-shows : goal.returns-clause-shows
returns-clause-shows g c told =
    let w = c.args.self.now in
    let file = (g.H.Host.state c.args.host.now).file in
    let xs = c.deref_mut.result.now in
    let ys = c.read_at.new.into in
    let k = c.args.room - w.filled in
    let n = c.in_ok-count.count in
    let got = c.in_ok-count.ensures.bytes told in
    let within : w.filled ≤ length xs = omega (arith, c.deref_mut.ensures.len, w.within) in
    let shows : take w.filled xs ≡ take w.filled (drop w.from file) = ap (take w.filled) c.deref_mut.ensures.value ∙ c.requires.shows told in
    let all : length ys ≡ k = omega (arith, c.read_at.auto.into) in
    let items = take_at (put_mid w.filled k xs ys) (drop (length (put_mid w.filled k xs ys)) w.bytes.items) w.bytes.len (long xs ys w.filled k within (omega (arith, c.requires.room, c.requires.filled, c.deref_mut.ensures.len)) all ∙ c.deref_mut.ensures.len) in
    ap (take (w.filled + n)) items
    ∙ read xs ys w.filled k within file _ w.from (w.from + w.filled) n shows refl (omega (arith, all, c.in_ok-count.ensures.count)) (omega (arith, got.0)) got.1
