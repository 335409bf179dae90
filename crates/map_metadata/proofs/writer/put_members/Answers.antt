use Rattle.std.proofs.Common.{rules}
use Rattle.std.proofs.lemmas.Result.{IfOk-from_err}
use Rattle.map_metadata.specs.Fields.{name_bytes}
use Rattle.map_metadata.proofs.writer.put_members.Goals as goal

pub returns-clause-value : goal.returns-clause-value
unfolding name_bytes
returns-clause-value c = search rules

pub returns-in_err-fields-clause-value : goal.returns-in_err-fields-clause-value
returns-in_err-fields-clause-value c = IfOk-from_err _ _ c.from_residual.ensures.0

pub returns-in_err-fields-clause-ordered : goal.returns-in_err-fields-clause-ordered
returns-in_err-fields-clause-ordered c = IfOk-from_err _ _ c.from_residual.ensures.0

pub returns-in_err-put-clause-value : goal.returns-in_err-put-clause-value
returns-in_err-put-clause-value c = IfOk-from_err _ _ c.from_residual-in_err-put.ensures.0

pub returns-in_err-put-clause-ordered : goal.returns-in_err-put-clause-ordered
returns-in_err-put-clause-ordered c = IfOk-from_err _ _ c.from_residual-in_err-put.ensures.0

pub returns-in_err-id-clause-value : goal.returns-in_err-id-clause-value
returns-in_err-id-clause-value c = IfOk-from_err _ _ c.from_residual-in_err-id.ensures.0

pub returns-in_err-id-clause-ordered : goal.returns-in_err-id-clause-ordered
returns-in_err-id-clause-ordered c = IfOk-from_err _ _ c.from_residual-in_err-id.ensures.0

pub returns-in_err-put-2-clause-value : goal.returns-in_err-put-2-clause-value
returns-in_err-put-2-clause-value c = IfOk-from_err _ _ c.from_residual-in_err-put-2.ensures.0

pub returns-in_err-put-2-clause-ordered : goal.returns-in_err-put-2-clause-ordered
returns-in_err-put-2-clause-ordered c = IfOk-from_err _ _ c.from_residual-in_err-put-2.ensures.0

pub returns-in_err-put-3-clause-value : goal.returns-in_err-put-3-clause-value
returns-in_err-put-3-clause-value c = IfOk-from_err _ _ c.from_residual-in_err-put-3.ensures.0

pub returns-in_err-put-3-clause-ordered : goal.returns-in_err-put-3-clause-ordered
returns-in_err-put-3-clause-ordered c = IfOk-from_err _ _ c.from_residual-in_err-put-3.ensures.0
