-- A beginning that is answered late stands where the map of the publication was fixed.
use Rattle.std.proofs.Common.{◌≡◌, ℕ, ◌+◌, List, [], ◌∷◌, Option, Some, None, Ok, Err, false, refl, sym, ap, subst, ◌∙◌}
use Rattle.sector_disk.specs.Disk.{History}
use Rattle.generations.specs.Areas.{area_sectors}
use Rattle.area_content.specs.Content.{ContentView, sectors_taken}
use Rattle.service_laws.specs.Begun.{IsBegunAt}
use Rattle.service_laws.specs.Beside.{AreBeside}
use Rattle.service_laws.proofs.Begun.{begun_then, refused_then}
use Rattle.service_laws.proofs.Late.{none_still, publishes_on, takes_beside, up_bare}
use Rattle.tile_service.specs.Machine.{Happening, begin, look, no_memory}
use Rattle.tile_service.specs.Prepared.{CanPrepare, prepared}
use Rattle.tile_service.specs.Publishing.{HasNoContent}
use Rattle.tile_service.specs.Service.{PublicationView, ServiceView, IsUp, Publishes, IsContentOf, BeginsDrafted, drafted_now, publication_of, with_publication}
use Rattle.tile_service.specs.declared.fault.ServiceFault.{ServiceFault}
use Rattle.tile_service.proofs.Publications.Steps.{up_with}
use Rattle.map_replies.proofs.Goes.{Goes, Rests, rests_none, sized}

module _ {D : Type 0} (sectors : D → ℕ) (honest : D → Type 0) (history : D → History) where
  -- ---- with a publication of which nothing is written

  module _ (p : PublicationView) (fresh : p.written ≡ 0) where
    abbrev with_it : ServiceView D → ServiceView D
    with_it s = with_publication s p

    rests_beside : (old new : ServiceView D) → old.publication ≡ None → Rests sectors honest history old new
        → Rests sectors honest history (with_it old) (with_it new)
    rests_beside old new none rests = record {
      same = ap with_it rests.same;
      disk = rests.disk;
      up = λ stored up is_honest.
          let later : IsUp (sectors new.disk) (history new.disk) stored new =
          rests.up stored (up_bare sectors honest history p fresh (sectors old.disk) (history old.disk) stored old none up) is_honest in
          up_with (sectors new.disk) (history new.disk) stored new later (Some p)
          (subst (λ (n : ℕ). Publishes n stored (history new.disk) p) (sym (ap (λ (s : ServiceView D). s.size) rests.same))
          (publishes_on p fresh old.size stored (history old.disk) up.publication (look 0 no_memory) tt (Some p) (history new.disk)));
    }

    goes_beside : (old new : ServiceView D) (happenings : List Happening) → old.publication ≡ None → AreBeside happenings
        → Goes sectors honest history old happenings new → Goes sectors honest history (with_it old) happenings (with_it new)
    goes_beside old new [] none b rests = rests_beside old new none rests
    goes_beside old new (happening ∷ happenings) none b goes =
        let still : goes.0.publication ≡ None = ap (λ (s : ServiceView D). s.publication) goes.2.same ∙ none in (
          with_it goes.0,
          with_it goes.1,
          rests_beside old goes.0 none goes.2,
          takes_beside sectors honest history p fresh goes.0 goes.1 happening still b.0 goes.3,
          goes_beside goes.1 new happenings (none_still sectors honest history p fresh goes.0 goes.1 happening still b.0 goes.3) b.1 goes.4,
        )

  -- ---- the beginning

  module _ (then now : ServiceView D) (happenings : List Happening) (can : CanPrepare then)
      (goes : Goes sectors honest history (prepared then) happenings now) where
    same_size : now.size ≡ then.size
    same_size = sized sectors honest history (prepared then) now happenings goes

    pub late_begun : (left : ℕ) (publication : Option PublicationView) → AreBeside happenings
        → BeginsDrafted now.size (drafted_now then) (Ok left) publication
        → Goes sectors honest history (prepared then) (begin (Ok left) ∷ happenings) (record now { publication = publication })
    late_begun left publication beside begins =
        let content : ContentView = begins.0 in
        let p : PublicationView = publication_of (drafted_now then) content in
        let has : IsContentOf (area_sectors then.size) then.features content =
        subst (λ (n : ℕ). IsContentOf (area_sectors n) then.features content) same_size begins.1 in
        let at : IsBegunAt (prepared then) p = record {
          unbroken = can.unbroken;
          none = can.none;
          generation = can.generation;
          ring = can.ring;
          is_map = can.is_map;
          is_archive = has.is_archive;
          text = has.text;
          area = has.fits;
          place = refl;
          edits = refl;
          places = refl;
          written = refl;
        } in
        let begun : Goes sectors honest history (prepared then) (begin (Ok (sectors_taken content + 1)) ∷ happenings) (with_publication now p) = (
          prepared then,
          with_publication (prepared then) p,
          rests_none sectors honest history (prepared then),
          begun_then sectors honest history (prepared then) p at,
          goes_beside p refl (prepared then) now happenings can.none beside goes,
        ) in
        subst (λ (n : ℕ). Goes sectors honest history (prepared then) (begin (Ok n) ∷ happenings) (record now { publication = publication }))
        (sym begins.3)
        (subst (λ (o : Option PublicationView). Goes sectors honest history (prepared then) (begin (Ok (sectors_taken content + 1)) ∷ happenings)
        (record now { publication = o })) (sym begins.2) begun)

    pub late_refused : (fault : ServiceFault) (publication : Option PublicationView)
        → BeginsDrafted now.size (drafted_now then) (Err fault) publication
        → Goes sectors honest history (prepared then) (begin (Err fault) ∷ happenings) now
    late_refused fault publication begins = (
      prepared then,
      prepared then,
      rests_none sectors honest history (prepared then),
      refused_then sectors honest history (prepared then) fault can.unbroken can.none can.generation
          (subst (λ (n : ℕ). HasNoContent then.features (area_sectors n) fault) same_size begins.1),
      goes,
    )
