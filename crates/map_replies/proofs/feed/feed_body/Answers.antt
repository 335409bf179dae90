use Rattle.std.proofs.Common.{length, sym}
use Rattle.std.proofs.lemmas.List.{length-map}
use Rattle.std.proofs.lemmas.Result.{IfOk-weaker}
use Rattle.edit_journal.specs.Records.{record_data, records_of}
use Rattle.map_replies.proofs.FeedLemmas.{body_told}
use Rattle.map_replies.proofs.feed.feed_body.Goals as goal

pub returns-clause-body : goal.returns-clause-body
returns-clause-body c =
    IfOk-weaker c.feed_text.result _ _
    (λ text is. body_told c.args.first c.args.last c.args.digest (records_of c.args.records.now) (length c.args.records.now) c.digest_at-told.result text.items
    (sym (length-map c.args.records.now record_data)) c.digest_at-told.ensures is)
    c.feed_text.ensures.text
