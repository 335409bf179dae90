use Rattle.std.proofs.Common.{◌≡◌, [], Ok, ap, subst, ◌∙◌, arith}
use Rattle.tile_walk.specs.Walk.{before_step}
use Rattle.tile_walk.specs.declared.step.Step.{Step}
use Rattle.feature_store.specs.Boxes.{read_of}
use Rattle.feature_store.specs.Left.{AreLeft, left_of}
use Rattle.feature_store.proofs.Steps.{ended_further}
use Rattle.feature_store.proofs.tiles_left.TilesLeft.step.Goals as goal

pub returns-in_default-clause-left : goal.returns-in_default-clause-left
returns-in_default-clause-left c from left = subst (AreLeft c.args.map.now c.args.self.now.zoom from) c.in_ok-found.ensures.left left

pub returns-in_default-clause-further : goal.returns-in_default-clause-further
returns-in_default-clause-further c = c.in_ok-found.ensures.further c.args.self.now.zoom (read_of c.args.self.now.first)

pub returns-clause-left : goal.returns-clause-left
returns-clause-left c from left =
    let ended = c.in_ok-found.ensures.over (ap Ok c.in-Over.is) in
    let none : left_of c.args.self.now.walk ≡ [] =
    c.in_ok-found.ensures.left ∙ ap (λ (s : Step). before_step s (left_of c.walk_on.new.walk)) c.in-Over.is ∙ ap left_of ended in
    c.in_ok-read_on.ensures.left from (subst (AreLeft c.args.map.now c.args.self.now.zoom from) none left)

pub returns-clause-further : goal.returns-clause-further
returns-clause-further c =
    let left = c.args.self.now in
    let ended = c.in_ok-found.ensures.over (ap Ok c.in-Over.is) in
    omega (arith, c.in_ok-read_on.ensures.further, ended_further left.zoom (read_of left.first) left.walk c.walk_on.new.walk ended)
