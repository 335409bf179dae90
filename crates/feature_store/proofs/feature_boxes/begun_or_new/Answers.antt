use Rattle.std.proofs.Common.{refl}
use Rattle.feature_store.proofs.Boxes.{none_read}
use Rattle.feature_store.proofs.feature_boxes.begun_or_new.Goals as goal

pub returns-in-None-clause-first : goal.returns-in-None-clause-first
returns-in-None-clause-first c zoom m none = none_read zoom m _ refl c.new.ensures.items
