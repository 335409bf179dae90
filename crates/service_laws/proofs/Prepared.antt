-- The beginning of a publication that was prepared.
use Rattle.std.proofs.Common.{◌≡◌, inl, inr, ℕ, List, [], ◌∷◌, Option, Some, None, Ok, Err, ◌+◌, refl, sym, ap, subst, ◌∙◌}
use Rattle.std.proofs.lemmas.Bool.{false≢true}
use Rattle.std.specs.Option.{is_some}
use Rattle.sector_disk.specs.Disk.{History}
use Rattle.generations.specs.Areas.{area_sectors}
use Rattle.area_content.specs.Content.{ContentView, sectors_taken}
use Rattle.tile_service.specs.Drafted.{DraftedView}
use Rattle.tile_service.specs.Machine.{Happening, begin}
use Rattle.tile_service.specs.Publishing.{HasNoContent}
use Rattle.tile_service.specs.Runs.{TakesAll}
use Rattle.tile_service.specs.Service.{PublicationView, ServiceView, IsContentOf, KeepsDraft, BeginsDrafted, drafted_now, publication_of}
use Rattle.tile_service.specs.declared.fault.ServiceFault.{ServiceFault}
use Rattle.service_laws.specs.Begun.{IsBegunAt}
use Rattle.service_laws.specs.Beside.{AreBeside}
use Rattle.tile_service.specs.Prepared.{CanPrepare, prepared}
use Rattle.service_laws.proofs.Begun.{begun, refused}

-- what there is, or else this
abbrev got_or : DraftedView → Option DraftedView → DraftedView
got_or other None = other
got_or other (Some d) = d

kept_on : (first middle last : Option DraftedView) → KeepsDraft first middle → KeepsDraft middle last → KeepsDraft first last
kept_on first middle last before (inr gone) = inr gone
kept_on first middle last (inl same) (inl stays) = inl (stays ∙ same)
kept_on first middle last (inr gone) (inl stays) = inr (stays ∙ gone)

module _ {D : Type 0} (sectors : D → ℕ) (honest : D → Type 0) (history : D → History) where
  -- a draft is as it was after any happenings, or gone
  all_keep : (old new : ServiceView D) (happenings : List Happening) → TakesAll sectors honest history old happenings new
      → KeepsDraft old.drafting new.drafting
  all_keep old new [] same = inl (ap (λ (s : ServiceView D). s.drafting) same)
  all_keep old new (happening ∷ happenings) all = kept_on old.drafting all.0.drafting new.drafting all.1.drafting (all_keep all.0 new happenings all.2)

  -- and the disk has as many sectors
  all_sized : (old new : ServiceView D) (happenings : List Happening) → TakesAll sectors honest history old happenings new → new.size ≡ old.size
  all_sized old new [] same = ap (λ (s : ServiceView D). s.size) same
  all_sized old new (happening ∷ happenings) all = all_sized all.0 new happenings all.2 ∙ all.1.size

  module _ (then now : ServiceView D) (happenings : List Happening) (d : DraftedView) (can : CanPrepare then)
      (all : TakesAll sectors honest history (prepared then) happenings now) (is : now.drafting ≡ Some d) where
    is_then : KeepsDraft (prepared then).drafting now.drafting → d ≡ drafted_now then
    is_then (inl same) = ap (got_or d) (sym is ∙ same)
    is_then (inr gone) = absurd (false≢true (ap is_some (sym gone ∙ is)))

    same_draft : d ≡ drafted_now then
    same_draft = is_then (all_keep (prepared then) now happenings all)

    same_size : now.size ≡ then.size
    same_size = all_sized (prepared then) now happenings all

    pub begun_prepared : (left : ℕ) (publication : Option PublicationView) → AreBeside happenings → BeginsDrafted now.size d (Ok left) publication
        → TakesAll sectors honest history (prepared then) (begin (Ok left) ∷ happenings) (record now { publication = publication })
    begun_prepared left publication beside begins =
        let content : ContentView = begins.0 in
        let p : PublicationView = publication_of (drafted_now then) content in
        let has : IsContentOf (area_sectors then.size) then.features content =
        subst (λ (n : ℕ). IsContentOf (area_sectors n) then.features content) same_size
        (subst (λ (x : DraftedView). IsContentOf (area_sectors now.size) x.features content) same_draft begins.1) in
        let at : IsBegunAt (prepared then) p = record {
          unbroken = can.unbroken;
          none = can.none;
          generation = can.generation;
          ring = can.ring;
          is_map = can.is_map;
          is_archive = has.is_archive;
          text = has.text;
          area = has.fits;
          place = refl;
          edits = refl;
          places = refl;
          written = refl;
        } in
        subst (λ (n : ℕ). TakesAll sectors honest history (prepared then) (begin (Ok n) ∷ happenings) (record now { publication = publication }))
        (sym begins.3)
        (subst (λ (o : Option PublicationView). TakesAll sectors honest history (prepared then) (begin (Ok (sectors_taken content + 1)) ∷ happenings)
        (record now { publication = o })) (sym (begins.2 ∙ ap (λ (x : DraftedView). Some (publication_of x content)) same_draft))
        (begun sectors honest history (prepared then) now p happenings at beside all))

    pub refused_prepared : (fault : ServiceFault) (publication : Option PublicationView) → BeginsDrafted now.size d (Err fault) publication
        → TakesAll sectors honest history (prepared then) (begin (Err fault) ∷ happenings) now
    refused_prepared fault publication begins =
        refused sectors honest history (prepared then) now fault happenings can.unbroken can.none can.generation
        (subst (λ (n : ℕ). HasNoContent then.features (area_sectors n) fault) same_size
        (subst (λ (x : DraftedView). HasNoContent x.features (area_sectors now.size) fault) same_draft begins.1)) all
