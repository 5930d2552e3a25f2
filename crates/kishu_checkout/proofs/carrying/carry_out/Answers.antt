use Rattle.std.proofs.Common.{IsErrOf, refl, inl, inr, ap, subst, ◌∙◌, arith, rules}
use Rattle.kishu_loading.specs.Loaded.{held}
use Rattle.kishu_checkout.specs.CarriedLaws.{are_carried, fails_lacks, bytes_lack}
use Rattle.kishu_checkout.specs.Fetched.{contents, taken_by}
use Rattle.kishu_checkout.specs.Placed.{ArePlaced, FailsAt}
use Rattle.kishu_checkout.specs.Plans.{groups_dropped, rows_loaded}
use Rattle.kishu_checkout.specs.declared.fault.CheckoutFault.TheVariants.{Damaged}
use Rattle.kishu_checkout.proofs.Calls.{lacks_some}
use Rattle.kishu_checkout.proofs.Tables.{taken_all}
use Rattle.kishu_checkout.proofs.carrying.carry_out.Goals as goal

pub returns-in_err-pictures-clause-damaged : goal.returns-in_err-pictures-clause-damaged
returns-in_err-pictures-clause-damaged g c at e =
    let was : IsErrOf c.fetch.result (Damaged at) = search rules in
    bytes_lack (g.H.Host.state c.args.host.now) (rows_loaded c.args.plan.now) at (c.fetch.ensures.damaged at was)

pub returns-in_err-pictures-clause-first : goal.returns-in_err-pictures-clause-first
returns-in_err-pictures-clause-first g c at e =
    let was : IsErrOf c.fetch.result (Damaged at) = search rules in
    inl (c.fetch.ensures.damaged at was)

pub returns-in_err-pictures-clause-undamaged : goal.returns-in_err-pictures-clause-undamaged
returns-in_err-pictures-clause-undamaged g c at e =
    lacks_some (g.H.Host.state c.args.host.now) (rows_loaded c.args.plan.now) at (returns-in_err-pictures-clause-damaged g c at e)

pub place-requires-clause-small : goal.place-requires-clause-small
place-requires-clause-small g c =
    let bytes = contents c.in_ok-pictures.pictures.items in
    let taken = ap (λ ps. taken_by (contents ps)) c.deref.ensures.value
    ∙ taken_all bytes (rows_loaded c.args.plan.now) c.in_ok-pictures.ensures.fetched.lens in
    omega (arith, taken, c.requires.small)

pub returns-in_err-place-clause-damaged : goal.returns-in_err-place-clause-damaged
returns-in_err-place-clause-damaged g c at e =
    let t = rows_loaded c.args.plan.now in
    let was : IsErrOf c.place.result (Damaged at) = search rules in
    fails_lacks (g.H.Host.state c.args.host.now) t (contents c.in_ok-pictures.pictures.items) at c.in_ok-pictures.ensures.fetched
    (subst (λ ps. FailsAt t (contents ps) at) c.deref.ensures.value (c.place.ensures.damaged at was))

pub returns-in_err-place-clause-first : goal.returns-in_err-place-clause-first
returns-in_err-place-clause-first g c at e =
    let was : IsErrOf c.place.result (Damaged at) = search rules in
    inr (record {
      bytes = contents c.in_ok-pictures.pictures.items;
      fetched = c.in_ok-pictures.ensures.fetched;
      fails = subst (λ ps. FailsAt (rows_loaded c.args.plan.now) (contents ps) at) c.deref.ensures.value (c.place.ensures.damaged at was);
    })

pub returns-in_err-place-clause-undamaged : goal.returns-in_err-place-clause-undamaged
returns-in_err-place-clause-undamaged g c at e =
    lacks_some (g.H.Host.state c.args.host.now) (rows_loaded c.args.plan.now) at (returns-in_err-place-clause-damaged g c at e)

pub returns-clause-placed : goal.returns-clause-placed
returns-clause-placed g c = record {
  bytes = contents c.in_ok-pictures.pictures.items;
  fetched = c.in_ok-pictures.ensures.fetched;
  placed = subst (λ ps. ArePlaced (groups_dropped c.args.plan.now) (rows_loaded c.args.plan.now) (contents ps) (held c.args.heap.now c.args.names.now) (held c.place.new.heap c.place.new.names)) c.deref.ensures.value c.in_ok-place.ensures.placed;
}

pub returns-clause-carried : goal.returns-clause-carried
returns-clause-carried g c =
    let s = g.H.Host.state c.args.host.now in
    let gone = groups_dropped c.args.plan.now in
    let t = rows_loaded c.args.plan.now in
    let before = held c.args.heap.now c.args.names.now in
    let after = held c.place.new.heap c.place.new.names in
    let placed = subst (λ ps. ArePlaced gone t (contents ps) before after) c.deref.ensures.value c.in_ok-place.ensures.placed in
    are_carried s gone t (contents c.in_ok-pictures.pictures.items) before after c.in_ok-pictures.ensures.fetched placed

pub returns-in_err-pictures-clause-read_first : goal.returns-in_err-pictures-clause-read_first
returns-in_err-pictures-clause-read_first g c = inl (refl, refl)

pub returns-in_err-place-clause-read_first : goal.returns-in_err-place-clause-read_first
returns-in_err-place-clause-read_first g c = inr c.in_ok-pictures.ensures.exact

pub returns-clause-read_first : goal.returns-clause-read_first
returns-clause-read_first g c = inr c.in_ok-pictures.ensures.exact
