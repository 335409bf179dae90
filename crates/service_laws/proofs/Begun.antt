-- A publication in the making whose content is there is one that began when the map was fixed.
use Rattle.std.proofs.Common.{◌≡◌, ◌<◌, ◌+◌, ◌-◌, ◌^◌, ℕ, List, ◌∷◌, Some, None, Ok, Err, false, refl, ap}
use Rattle.std.specs.Option.{option_map}
use Rattle.sector_disk.specs.Disk.{History}
use Rattle.area_content.specs.Content.{sectors_taken}
use Rattle.tile_service.specs.Machine.{Happening, begin}
use Rattle.generations.specs.Areas.{area_sectors}
use Rattle.tile_service.specs.Publishing.{HasNoContent}
use Rattle.tile_service.specs.declared.fault.ServiceFault.{ServiceFault}
use Rattle.tile_service.specs.Runs.{Takes, TakesAll}
use Rattle.tile_service.specs.Service.{PublicationView, ServiceView, with_publication, state_of, going_of}
use Rattle.tile_service.proofs.Publications.Steps.{begin_refused, archive_of_publishable, begins_publishing, begins_told, up_with}
use Rattle.tile_service.proofs.Runs.Callers.{begin_step}
use Rattle.service_laws.specs.Beside.{AreBeside}
use Rattle.service_laws.specs.Begun.{IsBegunAt}
use Rattle.service_laws.proofs.Late.{late}

module _ {D : Type 0} (sectors : D → ℕ) (honest : D → Type 0) (history : D → History) where
  -- the beginning is a call of the service as it was then
  pub begun_then : (old : ServiceView D) (p : PublicationView) → IsBegunAt old p
      → Takes sectors honest history old (begin (Ok (sectors_taken p.content + 1))) (with_publication old p)
  begun_then old p is =
      begin_step sectors honest history old (with_publication old p) (Ok (sectors_taken p.content + 1))
      (λ known. begins_told known old p (sectors_taken p.content + 1) is.unbroken is.none is.generation is.is_archive is.text is.area is.ring is.edits
      is.places is.written refl)
      refl
      (λ stored up. up_with (sectors old.disk) (history old.disk) stored old up (Some p)
      (begins_publishing (sectors old.disk) (history old.disk) stored old up p is.is_map (archive_of_publishable old.features p.content.archive is.is_archive)
      is.text is.area is.generation is.ring is.place is.edits is.places is.written))

  pub begun : (old new : ServiceView D) (p : PublicationView) (happenings : List Happening) → IsBegunAt old p → AreBeside happenings
      → TakesAll sectors honest history old happenings new
      → TakesAll sectors honest history old (begin (Ok (sectors_taken p.content + 1)) ∷ happenings) (with_publication new p)
  begun old new p happenings is beside all =
      late sectors honest history p is.written old new (sectors_taken p.content + 1) happenings is.none beside (begun_then old p is) all

  -- A beginning that finds no content is refused as the service was then.
  pub refused_then : (old : ServiceView D) (fault : ServiceFault) → old.broken ≡ false → old.publication ≡ None → old.generation < 2 ^ 64 - 1
      → HasNoContent old.features (area_sectors old.size) fault → Takes sectors honest history old (begin (Err fault)) old
  refused_then old fault unbroken none generation has =
      begin_step sectors honest history old old (Err fault)
      (λ known. begin_refused (state_of known old) fault unbroken
      (record { none = ap (option_map (going_of known.publishing)) none; generation = generation }) has)
      refl (λ stored up. up)

  pub refused : (old new : ServiceView D) (fault : ServiceFault) (happenings : List Happening) → old.broken ≡ false → old.publication ≡ None
      → old.generation < 2 ^ 64 - 1 → HasNoContent old.features (area_sectors old.size) fault
      → TakesAll sectors honest history old happenings new → TakesAll sectors honest history old (begin (Err fault) ∷ happenings) new
  refused old new fault happenings unbroken none generation has all =
      (old, refused_then old fault unbroken none generation has, all)
