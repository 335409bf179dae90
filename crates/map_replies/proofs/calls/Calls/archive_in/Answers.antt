use Rattle.std.proofs.Common.{◌∙◌, ◌≡◌, ℕ, [], inl, refl, ap, subst, arith}
use Rattle.std.specs.Prelude.{option_map}
use Rattle.map_replies.specs.declared.parts.ArchiveRange.TheVariants.{Whole, Between, Beyond}
use Rattle.map_replies.specs.Parts.{IsPart, part_reply}
use Rattle.map_replies.proofs.SendingLemmas.{archive_answered, whole_is}
use Rattle.map_replies.proofs.SendingLemmas.{whole_begun}
use Rattle.map_replies.proofs.calls.Calls.archive_in.Goals as goal

pub returns-in-Beyond-clause-answered : goal.returns-in-Beyond-clause-answered
returns-in-Beyond-clause-answered g c =
    whole_is _ _ c.beyond.result c.beyond.ensures.writable (
      [],
      inl (
        Beyond,
        subst (λ (n : ℕ). IsPart (option_map (λ value. value.now) c.args.range) n Beyond) c.requires.total c.in-Beyond.ensures,
        (c.beyond.ensures.reply c.args.tag ∙ ap (λ (n : ℕ). part_reply Beyond n c.args.tag []) c.requires.total, refl),
      ),
      refl,
    )

pub returns-in-Whole-clause-answered : goal.returns-in-Whole-clause-answered
returns-in-Whole-clause-answered g c =
    let d = g.D.Sectors in
    let range = option_map (λ value. value.now) c.args.range in
    archive_answered d.sectors d.honest d.history d.faults c.args.tag range c.args.self.now.service c.whole_archive.new.self.sending
    c.whole_archive.new.self.service Whole c.whole_archive.result (omega (arith, c.requires.total, c.requires.some))
    (subst (λ (n : ℕ). IsPart range n Whole) c.requires.total c.in-Whole.ensures) c.whole_archive.ensures.answered c.whole_archive.ensures.refused

pub returns-in-Between-clause-answered : goal.returns-in-Between-clause-answered
returns-in-Between-clause-answered g c =
    let d = g.D.Sectors in
    let range = option_map (λ value. value.now) c.args.range in
    let part = Between c.in-Between.first c.in-Between.last in
    archive_answered d.sectors d.honest d.history d.faults c.args.tag range c.args.self.now.service c.archive_part.new.self.sending
    c.archive_part.new.self.service part c.archive_part.result (omega (arith, c.requires.total, c.requires.some))
    (subst (λ (n : ℕ). IsPart range n part) c.requires.total c.in-Between.ensures) c.archive_part.ensures.answered c.archive_part.ensures.refused

pub returns-in-Whole-clause-some : goal.returns-in-Whole-clause-some
returns-in-Whole-clause-some g c = c.whole_archive.ensures.some

pub returns-in-Between-clause-some : goal.returns-in-Between-clause-some
returns-in-Between-clause-some g c = c.archive_part.ensures.some

pub returns-in-Beyond-clause-some : goal.returns-in-Beyond-clause-some
returns-in-Beyond-clause-some g c = λ whole. whole_begun c.beyond.result c.beyond.ensures.writable
