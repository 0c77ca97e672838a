use Rattle.std.proofs.Common.{ap}
use Rattle.type_words.specs.Filters.{filter_text}
use Rattle.type_words.proofs.filter.write_filter.Goals as goal

pub returns-in-Ok : goal.returns-in-Ok
returns-in-Ok g c = λ plain ok.
    (_, (c.in-Ok.parts.items, c.in-Ok.ensures, ap filter_text c.as_slice.ensures.value), c.write_parts.ensures plain ok)
