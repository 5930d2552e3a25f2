use Rattle.std.proofs.Common.{◌≡◌, ◌++◌, map, option_map, drop}
use Rattle.std.specs.Rc.{rc_str_bytes}
use Rattle.serde_json.specs.View.{items_view}
use Rattle.kishu_model.specs.Reading.{texts_in}
use Rattle.kishu_lines.proofs.reading.texts_in.Given as goal

abbrev pub invariant-loop-item : goal.invariant-loop-item
invariant-loop-item l = option_map (λ rest. map rc_str_bytes l.texts.items ++ rest) (texts_in (items_view (drop l.item-index l.item-items))) ≡ texts_in (items_view l.item-items)
