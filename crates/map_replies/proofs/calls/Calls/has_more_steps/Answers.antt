use Rattle.std.proofs.Common.{◌≡◌, sym, ap, ◌∙◌}
use Rattle.std.proofs.lemmas.Bool.{ltb-true}
use Rattle.map_replies.proofs.WholeSteps.{has_more}
use Rattle.map_replies.proofs.calls.Calls.has_more_steps.Goals as goal

pub returns-in-Some : goal.returns-in-Some
returns-in-Some g c = λ more. has_more c.args.self.now.service c.in-Some.left
    (sym c.in-Some.is ∙ ap (λ s. s.left) c.status.ensures) (ltb-true 65 c.in-Some.left more)
