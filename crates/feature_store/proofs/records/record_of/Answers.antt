use Rattle.std.proofs.Common.{◌≤◌, map, length}
use Rattle.edit_text.specs.Recorded.{IsRecordOf, most_in}
use Rattle.edit_text.proofs.Recorded.{record_from}
use Rattle.feature_store.specs.Prepared.{prepared_data}
use Rattle.feature_store.proofs.RecordTexts.{text_joined, is_edit}
use Rattle.feature_store.proofs.records.record_of.Goals as goal

pub returns-clause-text : goal.returns-clause-text
returns-clause-text c =
    text_joined c.args.version (map prepared_data c.args.changes.now) c.in_ok-text.text.items c.append_texts.new.out.items c.requires.version.is
    c.in_ok-text.ensures c.in_ok-append_texts.ensures.text

whole : (c : goal.In_ok-append_texts) → IsRecordOf c.args.version (map prepared_data c.args.changes.now) c.append_texts.new.out.items
    × (length c.append_texts.new.out.items ≤ most_in c.args.version)
whole c =
    let cs = map prepared_data c.args.changes.now in
    record_from c.args.version cs c.append_texts.new.out.items c.requires.version
    (is_edit cs c.requires.allowed.count c.requires.allowed.text c.requires.allowed.distinct c.in_ok-append_texts.ensures.changes) (returns-clause-text c)

pub returns-clause-record : goal.returns-clause-record
returns-clause-record c = (whole c).0

pub returns-clause-len : goal.returns-clause-len
returns-clause-len c = (whole c).1
