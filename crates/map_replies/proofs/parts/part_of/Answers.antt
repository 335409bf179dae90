use Rattle.map_replies.proofs.PartLemmas.{asks, asks_nothing}
use Rattle.map_replies.proofs.parts.part_of.Goals as goal

pub returns-in-None : goal.returns-in-None
returns-in-None c = asks_nothing c.args.range c.in-Some.value c.byte_range.result c.in-Some.is c.byte_range.ensures c.in-None.is

pub returns-in-Some-byte_range : goal.returns-in-Some-byte_range
returns-in-Some-byte_range c =
    let range = c.in-Some-byte_range.range in (
      range.first,
      range.last,
      asks c.args.range c.in-Some.value c.byte_range.result range c.in-Some.is c.byte_range.ensures c.in-Some-byte_range.is,
      c.if-range-total.true,
    )

pub returns-in-Some-2 : goal.returns-in-Some-2
returns-in-Some-2 c =
    let range = c.in-Some-byte_range.range in (
      range.last,
      asks c.args.range c.in-Some.value c.byte_range.result range c.in-Some.is c.byte_range.ensures c.in-Some-byte_range.is,
      c.if-range-total.false,
      c.min.ensures,
    )
