use Rattle.std.proofs.Common.{◌≡◌, ◌+◌, ◌∙◌, Err, drop, subst}
use Rattle.kishu_loading.specs.Loaded.{held, IsFault, IsLoaded}
use Rattle.kishu_reading.specs.FromBytes.{read_picture}
use Rattle.kishu_anew.specs.Anew.{contents}
use Rattle.kishu_anew.proofs.Turns.{IsLoading, contents_at, loading_faultless, loading_next, room_next}
use Rattle.kishu_anew.proofs.pictures.load_all.Goals as goal

pub loop-i-preserved : goal.loop-i-preserved
loop-i-preserved c =
    let pictures = c.args.pictures.now in
    let i = c.loop-i.i in
    let picture = c.index-pictures-i.result in
    let before = held c.args.heap.now c.args.names.now in
    let here = held c.loop-i.heap c.loop-i.names in
    let next = held c.load.new.heap c.load.new.names in
    let inv = c.loop-i.invariant in
    let inside = c.loop-i-test.true in
    let bytes_here = contents_at pictures i picture inside c.index-pictures-i.is in
    let loading = subst (λ bs. IsLoading (contents pictures) before here bs) bytes_here inv.loading in
    let loaded = subst (λ bs. IsLoaded bs here next) c.as_slice.ensures.value c.in-Ok.ensures.loaded in
    record {
      loading = loading_next (contents pictures) before here picture.items (contents (drop (i + 1) pictures)) loading next loaded;
      room = room_next (contents (drop i pictures)) picture.items (contents (drop (i + 1) pictures)) here next (contents pictures) before 4294967296 c.requires.pictures loading bytes_here inv.room loaded;
      accessed = c.load.ensures.accessed ∙ inv.accessed;
      sound = λ h. c.load.ensures.sound (inv.sound h);
    }

pub unreachable-requires : goal.unreachable-requires
unreachable-requires c =
    let pictures = c.args.pictures.now in
    let i = c.loop-i.i in
    let picture = c.index-pictures-i.result in
    let before = held c.args.heap.now c.args.names.now in
    let here = held c.loop-i.heap c.loop-i.names in
    let bytes_here = contents_at pictures i picture c.loop-i-test.true c.index-pictures-i.is in
    let loading = subst (λ bs. IsLoading (contents pictures) before here bs) bytes_here c.loop-i.invariant.loading in
    let at = c.in-Err-Picture.field-0-0 in
    let fault = subst (λ f. IsFault c.as_slice.result.now f) c.in-Err-Picture.field-0-is c.in-Err-Picture.ensures.fault in
    loading_faultless (contents pictures) before here picture.items (contents (drop (i + 1) pictures)) loading c.requires.pictures at
    (subst (λ bs. read_picture bs ≡ Err at) c.as_slice.ensures.value fault)
