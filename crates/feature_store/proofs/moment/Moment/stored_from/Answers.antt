use Rattle.std.proofs.Common.{sym, ap, ◌∙◌}
use Rattle.std.specs.Option.{option_copied}
use Rattle.number_map.specs.Blocks.{first_from}
use Rattle.feature_store.specs.Moments.{MomentView}
use Rattle.feature_store.proofs.Reading.{IsLook, look_found, look_nothing, look_next, look_own, look_past}
use Rattle.feature_store.proofs.moment.Moment.stored_from.Goals as goal

pub returns-in_default-clause-none : goal.returns-in_default-clause-none
returns-in_default-clause-none c =
    look_nothing c.args.self.now c.args.features.now.entries c.args.number c.requires.as_of c.requires.there c.requires.ascending c.requires.own
    c.first_from.result c.first_from-2.result c.nearer.result
    (ap (λ (v : MomentView). first_from c.args.number v.kept) (sym c.self.view_is) ∙ sym c.first_from.ensures) (sym c.first_from-2.ensures)
    c.nearer.ensures c.in_default.is

pub returns-then-found-ge-NUMBER_END-clause-none : goal.returns-then-found-ge-NUMBER_END-clause-none
returns-then-found-ge-NUMBER_END-clause-none c =
    look_past c.args.self.now.features c.args.number _ c.requires.as_of.is_map
    (look_found c.args.self.now c.args.features.now.entries c.args.number c.requires.as_of c.requires.there c.requires.ascending c.requires.own
    c.first_from.result c.first_from-2.result c.nearer.result
    (ap (λ (v : MomentView). first_from c.args.number v.kept) (sym c.self.view_is) ∙ sym c.first_from.ensures) (sym c.first_from-2.ensures)
    c.nearer.ensures c.in-Some.found c.in-Some.is) c.if-found-ge-NUMBER_END.true

look : (c : goal.Else-found-ge-NUMBER_END) → IsLook c.args.self.now.features c.args.number (c.in-Some.found.0, option_copied c.in-Some.found.1)
look c =
    look_found c.args.self.now c.args.features.now.entries c.args.number c.requires.as_of c.requires.there c.requires.ascending c.requires.own
    c.first_from.result c.first_from-2.result c.nearer.result
    (ap (λ (v : MomentView). first_from c.args.number v.kept) (sym c.self.view_is) ∙ sym c.first_from.ensures) (sym c.first_from-2.ensures)
    c.nearer.ensures c.in-Some.found c.in-Some.is

pub returns-clause-further : goal.returns-clause-further
returns-clause-further c = (look c).from

pub returns-clause-own : goal.returns-clause-own
returns-clause-own c = look_own c.args.self.now.features c.args.number c.in-Some.found (look c)

pub returns-clause-found : goal.returns-clause-found
returns-clause-found c = look_next c.args.self.now.features c.args.number _ c.requires.as_of.is_map (look c)
