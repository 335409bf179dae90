use Rattle.std.proofs.Common.{Some, ap, ◌∙◌}
use Rattle.published_tiles.proofs.reading.content_in.Goals as goal

pub returns-in-Ok-clause-content : goal.returns-in-Ok-clause-content
returns-in-Ok-clause-content g c = λ bytes content holds opened reading has.
    let found = rw c.in-Ok-Some.field-0-is at c.in-Ok-Some.ensures.content in
    ap Some (c.in-Ok.ensures.bytes bytes holds reading) ∙ found bytes content (c.read_rest.ensures.source.no_others bytes holds) opened has

pub returns-in-Ok-None-clause-content : goal.returns-in-Ok-None-clause-content
returns-in-Ok-None-clause-content g c = λ bytes content holds opened reading has.
    let found = rw c.in-Ok-None.field-0-is at c.in-Ok-None.ensures.content in
    found bytes content holds opened has

pub returns-in-Err-clause-content : goal.returns-in-Err-clause-content
returns-in-Err-clause-content g c = λ bytes content holds opened reading has. c.in-Err.ensures.content bytes content holds opened has
