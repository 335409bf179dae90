use Rattle.std.proofs.Common.{refl, sym, ◌∙◌}
use Rattle.map_replies.proofs.ReadyLemmas.{none_if, prepares_at, prepares_nothing}
use Rattle.map_replies.proofs.preparing.PreparingReplies.prepare_own.Goals as goal

pub prepare_whole-requires : goal.prepare_whole-requires
prepare_whole-requires g c = record { unbegun = none_if _ (sym c.is_some.ensures ∙ c.if-is_some.false) }

pub prepare_beginning-requires : goal.prepare_beginning-requires
prepare_beginning-requires g c = record { unbegun = none_if _ (sym c.is_some.ensures ∙ c.if-is_some.false) }

pub returns-then-not-self : goal.returns-then-not-self
returns-then-not-self g c =
    let d = g.D.Sectors in
    prepares_nothing d.sectors d.honest d.history d.faults c.args.self.now _ refl refl

pub returns-then-is_some : goal.returns-then-is_some
returns-then-is_some g c =
    let d = g.D.Sectors in
    prepares_at d.sectors d.honest d.history d.faults c.args.self.now _ c.give.new.self c.args.self.now.is_next c.continue_whole.ensures

pub returns-then-is_whole : goal.returns-then-is_whole
returns-then-is_whole g c =
    let d = g.D.Sectors in
    prepares_at d.sectors d.honest d.history d.faults c.args.self.now _ c.give.new.self c.args.self.now.is_next c.prepare_whole.ensures

pub returns : goal.returns
returns g c =
    let d = g.D.Sectors in
    prepares_at d.sectors d.honest d.history d.faults c.args.self.now _ c.give.new.self c.args.self.now.is_next c.prepare_beginning.ensures
