use Rattle.std.proofs.Common.{◌≡◌, ◌++◌, []}
use Rattle.std.specs.Prelude.{filter}
use Rattle.kishu_language.specs.tokens.Names.{is_among}
use Rattle.kishu_names.specs.Record.{texts_of}
use Rattle.kishu_objects.specs.Picture.{listed}
use Rattle.kishu_picture.specs.Held.{held}
use Rattle.kishu_delta.proofs.touching.bound_among.Given as goal

abbrev pub invariant-loop-name : goal.invariant-loop-name
invariant-loop-name l =
    texts_of l.bound.items ++ filter (λ x. is_among x l.among) (texts_of l.name-iterator.rest.items)
    ≡ filter (λ x. is_among x l.among) (listed (held [] l.fn.names))
