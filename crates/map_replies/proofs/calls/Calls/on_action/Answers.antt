use Rattle.tile_routes.specs.Paths.{asked_action}
use Rattle.map_replies.proofs.OldestLemmas.{archives_stay}
use Rattle.map_replies.proofs.calls.Calls.on_action.Goals as goal

pub returns-in-Edits-clause-answered : goal.returns-in-Edits-clause-answered
returns-in-Edits-clause-answered g c = rw c.in-Edits.is c.batch.ensures.answered

pub returns-in-CheckedEdits-clause-answered : goal.returns-in-CheckedEdits-clause-answered
returns-in-CheckedEdits-clause-answered g c = rw c.in-CheckedEdits.is c.checked_batch.ensures.answered

pub returns-in-Edits-clause-writable : goal.returns-in-Edits-clause-writable
returns-in-Edits-clause-writable g c = c.batch.ensures.writable

pub returns-in-Edits-clause-held : goal.returns-in-Edits-clause-held
returns-in-Edits-clause-held g c = c.batch.ensures.held

pub returns-in-CheckedEdits-clause-writable : goal.returns-in-CheckedEdits-clause-writable
returns-in-CheckedEdits-clause-writable g c = c.checked_batch.ensures.writable

pub returns-in-CheckedEdits-clause-held : goal.returns-in-CheckedEdits-clause-held
returns-in-CheckedEdits-clause-held g c = c.checked_batch.ensures.held

pub returns-in-Publish-clause-answered : goal.returns-in-Publish-clause-answered
returns-in-Publish-clause-answered g c = rw c.in-Publish.is c.publish.ensures.answered

pub returns-in-Publish-clause-writable : goal.returns-in-Publish-clause-writable
returns-in-Publish-clause-writable g c = c.publish.ensures.writable

pub returns-in-Publish-clause-held : goal.returns-in-Publish-clause-held
returns-in-Publish-clause-held g c = c.publish.ensures.held

pub returns-in-PublishBegin-clause-answered : goal.returns-in-PublishBegin-clause-answered
returns-in-PublishBegin-clause-answered g c = rw c.in-PublishBegin.is c.publish_begin.ensures.answered

pub returns-in-PublishBegin-clause-writable : goal.returns-in-PublishBegin-clause-writable
returns-in-PublishBegin-clause-writable g c = c.publish_begin.ensures.writable

pub returns-in-PublishBegin-clause-held : goal.returns-in-PublishBegin-clause-held
returns-in-PublishBegin-clause-held g c = c.publish_begin.ensures.held

pub returns-in-PublishStep-clause-answered : goal.returns-in-PublishStep-clause-answered
returns-in-PublishStep-clause-answered g c = rw c.in-PublishStep.is c.publish_step.ensures.answered

pub returns-in-PublishStep-clause-writable : goal.returns-in-PublishStep-clause-writable
returns-in-PublishStep-clause-writable g c = c.publish_step.ensures.writable

pub returns-in-PublishStep-clause-held : goal.returns-in-PublishStep-clause-held
returns-in-PublishStep-clause-held g c = c.publish_step.ensures.held

pub returns-in-PublishCancel-clause-answered : goal.returns-in-PublishCancel-clause-answered
returns-in-PublishCancel-clause-answered g c = rw c.in-PublishCancel.is c.publish_cancel.ensures.answered

pub returns-in-PublishCancel-clause-writable : goal.returns-in-PublishCancel-clause-writable
returns-in-PublishCancel-clause-writable g c = c.publish_cancel.ensures.writable

pub returns-in-PublishCancel-clause-held : goal.returns-in-PublishCancel-clause-held
returns-in-PublishCancel-clause-held g c = c.publish_cancel.ensures.held

pub returns-in-Edits-clause-oldest : goal.returns-in-Edits-clause-oldest
returns-in-Edits-clause-oldest g c = archives_stay (asked_action c.args.action) c.batch.result _ _ c.batch.ensures.oldest

pub returns-in-CheckedEdits-clause-oldest : goal.returns-in-CheckedEdits-clause-oldest
returns-in-CheckedEdits-clause-oldest g c = archives_stay (asked_action c.args.action) c.checked_batch.result _ _ c.checked_batch.ensures.oldest

pub returns-in-PublishBegin-clause-oldest : goal.returns-in-PublishBegin-clause-oldest
returns-in-PublishBegin-clause-oldest g c = archives_stay (asked_action c.args.action) c.publish_begin.result _ _ c.publish_begin.ensures.oldest

pub returns-in-PublishCancel-clause-oldest : goal.returns-in-PublishCancel-clause-oldest
returns-in-PublishCancel-clause-oldest g c = archives_stay (asked_action c.args.action) c.publish_cancel.result _ _ c.publish_cancel.ensures.oldest

pub returns-in-Publish-clause-oldest : goal.returns-in-Publish-clause-oldest
returns-in-Publish-clause-oldest g c = rw c.in-Publish.is c.publish.ensures.oldest

pub returns-in-PublishStep-clause-oldest : goal.returns-in-PublishStep-clause-oldest
returns-in-PublishStep-clause-oldest g c = rw c.in-PublishStep.is c.publish_step.ensures.oldest
