use Rattle.std.proofs.Common.{◌∙◌, ◌+◌, ◌∷◌, [], ap, sym, map, drop, arith}
use Rattle.std.proofs.lemmas.List.{map-append}
use Rattle.kishu_meaning.specs.values.Keys.{key_of}
use Rattle.kishu_meaning.specs.items.KeyOf.{value_of_key, values_of_keys}
use Rattle.kishu_meaning.specs.moments.Moment.{and_then}
use Rattle.kishu_meaning.specs.values.Values.{value_of}
use Rattle.kishu_items.specs.Called.{moment_of}
use Rattle.kishu_items.specs.Gathering.{behind, dropped, each_further, grows_on, grown_least, sound_on, values_more}
use Rattle.kishu_items.proofs.keys.values_of_keys.Goals as goal

pub loop-i-preserved : goal.loop-i-preserved
loop-i-preserved g c =
    let key = c.index-keys-i.result in
    let rest = map key_of (drop (c.loop-i.i + 1) c.args.keys.now) in
    let done = c.loop-i.values.items in
    let value = c.in_ok-value_of_key.field-0 in
    let s = moment_of c.loop-i.heap c.loop-i.budget in
    let t = moment_of c.value_of_key.new.heap c.value_of_key.new.budget in
    let made = map-append value_of done (value ∷ []) in
    let more = c.in_ok-value_of_key.ensures.more in
    record {
      told =
          rw c.in_ok-push.ensures.items (
          c.loop-i.invariant.told
          ∙ ap (λ ks. and_then (values_of_keys (map key_of ks) s) (behind (map value_of done))) (dropped c.args.keys.now c.loop-i.i key (omega arith) c.index-keys-i.is)
          ∙ each_further (value_of_key (key_of key)) (values_of_keys rest) (map value_of done) s t (value_of value) c.in_ok-value_of_key.ensures.gives
          ∙ ap (λ vs. and_then (values_of_keys rest t) (behind vs)) (sym made));
      sound = rw (c.in_ok-push.ensures.items, made) (sound_on _ (map value_of done) (value_of value) (values_more _ _ (grown_least 1 c.loop-i.heap c.value_of_key.new.heap more) (map value_of done) c.loop-i.invariant.sound) c.in_ok-value_of_key.ensures.sound);
      more = grows_on c.loop-i.i 1 (c.loop-i.i + 1) c.args.heap.now c.loop-i.heap c.value_of_key.new.heap c.loop-i.invariant.more more (omega arith);
      spends = (c.value_of_key.ensures.spends.0 ∙ c.loop-i.invariant.spends.0, omega arith, omega arith, omega arith);
    }
