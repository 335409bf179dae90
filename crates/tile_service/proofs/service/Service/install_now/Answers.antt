use Rattle.std.proofs.Common.{inl, inr, ◌+◌, ◌%◌, ◌++◌, length, refl, sym, ◌∙◌, ap, subst, arith}
use Rattle.edit_journal.specs.Releases.{IsBehind}
use Rattle.edit_journal.specs.declared.journal.Journal.{Journal}
use Rattle.generations.specs.declared.root.Root.{Root}
use Rattle.tile_service.specs.Inside.{service_view, publication_view}
use Rattle.tile_service.specs.Service.{ServiceView, PublicationView, with_publication}
use Rattle.tile_service.proofs.Archive.Unchanged.{root_area, root_keeps, ring_root}
use Rattle.tile_service.proofs.Publications.Drafts.{gone_drafting}
use Rattle.tile_service.proofs.Publications.Released.{shows_installed}
use Rattle.tile_service.proofs.Publications.Steps.{next_root_is, installing_leaves, up_installed, service_on_disk, going_seen}
use Rattle.tile_service.proofs.Edits.ShownEdits.{shows_on}
use Rattle.tile_service.proofs.service.Service.install_now.Goals as goal

pub returns-in-Ok-clause-any_moment : goal.returns-in-Ok-clause-any_moment
returns-in-Ok-clause-any_moment g c = rw (← c.self.view_is) (λ stored honest up.
    let service : ServiceView g.row.D.Denot = service_view c.self.inside in
    let root : Root = record {
      generation = c.self.inside.root.generation + 1;
      edits = c.publication.inside.start.edits;
      journal_at = c.publication.inside.start.place;
      snapshot_len = c.snapshot_len.result;
      archive_len = c.archive_len.result;
    } in
    let is = next_root_is _ _ stored service c.args.publication up root refl (ap (λ p. p.start.edits) c.publication.view_is)
    (ap (λ p. p.start.place) c.publication.view_is) (c.snapshot_len.ensures ∙ ap (λ p. length p.content.snapshot) c.publication.view_is)
    (c.archive_len.ensures ∙ ap (λ p. length p.content.archive) c.publication.view_is) in
    installing_leaves _ _ stored service c.args.publication up c.requires.written root is _ (c.install.ensures.any_moment honest))

pub returns-in-Ok-clause-after : goal.returns-in-Ok-clause-after
returns-in-Ok-clause-after g c = rw (c.take-draft.ensures.after, ← c.self.view_is) (λ stored honest up.
    let service : ServiceView g.row.D.Denot = service_view c.self.inside in
    let root : Root = record {
      generation = c.self.inside.root.generation + 1;
      edits = c.publication.inside.start.edits;
      journal_at = c.publication.inside.start.place;
      snapshot_len = c.snapshot_len.result;
      archive_len = c.archive_len.result;
    } in
    let text = c.snapshot_len.ensures ∙ ap (λ p. length p.content.snapshot) c.publication.view_is in
    let archive = c.archive_len.ensures ∙ ap (λ p. length p.content.archive) c.publication.view_is in
    let place = ap (λ p. p.start.place) c.publication.view_is in
    let edits = ap (λ p. p.start.edits) c.publication.view_is in
    let is = next_root_is _ _ stored service c.args.publication up root refl edits place text archive in
    let behind : IsBehind c.self.inside.journal c.publication.inside.start c.args.publication.places =
    subst (λ (p : PublicationView). IsBehind c.self.inside.journal p.start c.args.publication.places) (sym c.publication.view_is)
    (subst (λ (j : Journal). IsBehind j c.args.publication.start c.args.publication.places) (sym (ap (λ s. s.journal) c.self.view_is))
    c.requires.going.2.behind) in
    up_installed _ _ stored service c.args.publication up c.requires.written root is _ _ _ c.install.ensures.disk.same_count (c.in-Ok.ensures.installed honest)
    refl refl refl refl refl (c.release.ensures.start.0 ∙ place) (c.release.ensures.start.1 ∙ edits) c.release.ensures.same.0
    (c.release.ensures.freed c.args.publication.places behind) c.release.ensures.same.1 text archive
    (ap (λ s. s.publication) c.self.view_is ∙ c.requires.none) refl refl refl refl
    (shows_installed _ _ stored service c.args.publication up _ _ c.publication.inside.start
    (ap (λ p. p.start) c.publication.view_is) refl c.release.ensures.same.0 refl (c.release.ensures.back c.self.inside.kept_journal c.self.invariant.back)
    behind.numbers.1
    (λ records count has le edits place below. c.release.ensures.older c.self.inside.kept_journal records count (g.D.Sectors.history c.self.inside.disk)
    has le edits place below)
    (ring_root _ (1 + (c.self.inside.root.generation + 1) % 2) _ _ _ c.self.invariant.ring (omega arith) (c.install.ensures.others honest))
    (up.older ++ stored.since)
    (shows_on (with_publication service c.args.publication) service _ _ (up.older ++ stored.since) refl refl refl (λ at inside. refl) up.shows)))

pub returns-in-Err-clause-any_moment : goal.returns-in-Err-clause-any_moment
returns-in-Err-clause-any_moment g c = rw (← c.self.view_is) (λ stored honest up.
    let service : ServiceView g.row.D.Denot = service_view c.self.inside in
    let root : Root = record {
      generation = c.self.inside.root.generation + 1;
      edits = c.publication.inside.start.edits;
      journal_at = c.publication.inside.start.place;
      snapshot_len = c.snapshot_len.result;
      archive_len = c.archive_len.result;
    } in
    let is = next_root_is _ _ stored service c.args.publication up root refl (ap (λ p. p.start.edits) c.publication.view_is)
    (ap (λ p. p.start.place) c.publication.view_is) (c.snapshot_len.ensures ∙ ap (λ p. length p.content.snapshot) c.publication.view_is)
    (c.archive_len.ensures ∙ ap (λ p. length p.content.archive) c.publication.view_is) in
    installing_leaves _ _ stored service c.args.publication up c.requires.written root is _ (c.install.ensures.any_moment honest))

pub returns-in-Ok-clause-area : goal.returns-in-Ok-clause-area
returns-in-Ok-clause-area g c = rw (← c.self.view_is) (λ generation honest. root_area c.self.inside.layout.sectors generation _ _
    (1 + (c.self.inside.root.generation + 1) % 2) (omega arith) (c.install.ensures.others honest))

pub returns-in-Err-clause-area : goal.returns-in-Err-clause-area
returns-in-Err-clause-area g c = rw (← c.self.view_is) (λ generation honest. root_area c.self.inside.layout.sectors generation _ _
    (1 + (c.self.inside.root.generation + 1) % 2) (omega arith) (c.install.ensures.others honest))

pub install-requires : goal.install-requires
install-requires g c = record { on_disk = omega (arith, c.self.invariant.within, c.self.inside.layout.size.0) }

pub release-requires : goal.release-requires
release-requires g c =
    let going = going_seen _ (service_view c.self.inside) _ (publication_view c.publication.inside) c.self.view_is c.publication.view_is c.requires.going in
    (c.publication.inside.places, going.2.behind)

pub returns-in-Ok-clause-told : goal.returns-in-Ok-clause-told
returns-in-Ok-clause-told g c = refl

pub returns-in-Ok-clause-size : goal.returns-in-Ok-clause-size
returns-in-Ok-clause-size g c = ap (λ s. s.size) c.self.view_is

pub returns-in-Ok-clause-disk : goal.returns-in-Ok-clause-disk
returns-in-Ok-clause-disk g c = rw (← c.self.view_is) c.install.ensures.disk

pub returns-in-Ok-clause-failed : goal.returns-in-Ok-clause-failed
returns-in-Ok-clause-failed g c = rw (← c.self.view_is) c.in-Ok.ensures.failed

pub returns-in-Ok-clause-steps : goal.returns-in-Ok-clause-steps
returns-in-Ok-clause-steps g c = rw (← c.self.view_is) c.install.ensures.steps

pub invariant_of-self-in-Err : goal.invariant_of-self-in-Err
invariant_of-self-in-Err g c = service_on_disk c.install.ensures.disk.same_count c.self.invariant

pub returns-in-Err-clause-fault : goal.returns-in-Err-clause-fault
returns-in-Err-clause-fault g c = refl

pub returns-in-Err-clause-broken : goal.returns-in-Err-clause-broken
returns-in-Err-clause-broken g c = rw (← c.self.view_is) refl

pub returns-in-Err-clause-size : goal.returns-in-Err-clause-size
returns-in-Err-clause-size g c = ap (λ s. s.size) c.self.view_is

pub returns-in-Err-clause-disk : goal.returns-in-Err-clause-disk
returns-in-Err-clause-disk g c = rw (← c.self.view_is) c.install.ensures.disk

pub returns-in-Err-clause-failed : goal.returns-in-Err-clause-failed
returns-in-Err-clause-failed g c = rw (← c.self.view_is) c.in-Err.ensures.failed

pub returns-in-Err-clause-archive : goal.returns-in-Err-clause-archive
returns-in-Err-clause-archive g c = rw (← c.self.view_is) (root_keeps g.D.Sectors.honest g.D.Sectors.history (service_view c.self.inside) c.install.new.disk
    (1 + (c.self.inside.root.generation + 1) % 2) c.self.invariant.area (omega arith) c.install.ensures.others c.self.invariant.ring)

pub returns-in-Err-clause-steps : goal.returns-in-Err-clause-steps
returns-in-Err-clause-steps g c = rw (← c.self.view_is) c.install.ensures.steps

pub returns-in-Ok-clause-drafting : goal.returns-in-Ok-clause-drafting
returns-in-Ok-clause-drafting g c = inr (gone_drafting c.take-moment.new.self c.take-draft.new.self c.take-draft.ensures.after)

pub returns-in-Err-clause-drafting : goal.returns-in-Err-clause-drafting
returns-in-Err-clause-drafting g c = inl (ap (λ s. s.drafting) c.self.view_is)

pub returns-in-Ok-clause-touched : goal.returns-in-Ok-clause-touched
returns-in-Ok-clause-touched g c = ap (λ s. s.touched) c.self.view_is

pub returns-in-Err-clause-touched : goal.returns-in-Err-clause-touched
returns-in-Err-clause-touched g c = ap (λ s. s.touched) c.self.view_is

pub returns-in-Ok-clause-edits : goal.returns-in-Ok-clause-edits
returns-in-Ok-clause-edits g c = rw (← c.self.view_is) (λ installed edits shows honest.
    let stored = installed.0 in
    let up = installed.1 in
    let service : ServiceView g.row.D.Denot = service_view c.self.inside in
    let behind : IsBehind c.self.inside.journal c.publication.inside.start c.args.publication.places =
    subst (λ (p : PublicationView). IsBehind c.self.inside.journal p.start c.args.publication.places) (sym c.publication.view_is)
    (subst (λ (j : Journal). IsBehind j c.args.publication.start c.args.publication.places) (sym (ap (λ s. s.journal) c.self.view_is))
    c.requires.going.2.behind) in (
      refl,
      shows_installed _ _ stored service c.args.publication up _ _ c.publication.inside.start
          (ap (λ p. p.start) c.publication.view_is) refl c.release.ensures.same.0 refl (c.release.ensures.back c.self.inside.kept_journal c.self.invariant.back)
          behind.numbers.1
          (λ records count has le edits place below. c.release.ensures.older c.self.inside.kept_journal records count (g.D.Sectors.history c.self.inside.disk)
          has le edits place below)
          (ring_root _ (1 + (c.self.inside.root.generation + 1) % 2) _ _ _ c.self.invariant.ring (omega arith) (c.install.ensures.others honest))
          edits shows,
    ))

pub returns-in-Err-clause-edits : goal.returns-in-Err-clause-edits
returns-in-Err-clause-edits g c = rw (← c.self.view_is) (λ installed edits shows honest. (
  refl,
  shows_on (service_view c.self.inside) _ _ _ edits refl refl refl
      (ring_root _ (1 + (c.self.inside.root.generation + 1) % 2) _ _ _ c.self.invariant.ring (omega arith) (c.install.ensures.others honest)) shows,
))
