use denote.Shadow.{shadow}
use denote.Text.{Utf8}
use Rattle.edit_text.proofs.CheckedTags.{TagsAt}
use Rattle.edit_text.proofs.checked_tags.check_each_tag.Given as goal

-- some were read up to here
abbrev pub invariant-loop : goal.invariant-loop
invariant-loop l = record {
  text : shadow (Utf8 l.last);
  tags : TagsAt l.count l.counter l.last l.rest l.bytes;
}
