use Rattle.std.proofs.Common.{◌∙◌, refl, sym, ap, subst}
use Rattle.std.proofs.lemmas.Bool.{not-true}
use Rattle.sector_bytes.specs.Counts.{NeverFalls}
use Rattle.sector_bytes.proofs.Counts.{same_count}
use Rattle.sector_disk.proofs.AskedLaws.{reads_none}
use Rattle.cached_map.specs.Cached.{shared_bytes}
use Rattle.feature_store.specs.Content.{IsTileContent}
use Rattle.feature_store.specs.Layers.{layers}
use Rattle.tile_service.specs.Inside.{service_view}
use Rattle.tile_service.specs.Service.{IsUp, state_of}
use Rattle.tile_service.proofs.Tiles.Cached.{IsSameButRead, right_of_map, up_cached, nothing_given, service_cached, read_on, seen_cached}
use Rattle.tile_service.proofs.service.Service.tile.Goals as goal
use Rattle.tile_service.proofs.service.Service.tile.Goals.{Joined-make, in-Ok, in-Err-make}

-- a tile that was cached

pub invariant_of-self : goal.invariant_of-self
invariant_of-self g c = service_cached c.self.inside.map c.kept.new.self c.kept.ensures.same c.self.invariant

pub returns-in-Ok-Some-clause-machine : goal.returns-in-Ok-Some-clause-machine
returns-in-Ok-Some-clause-machine g c = rw (← c.self.view_is) (λ known. (
  (λ trusted. rw c.in-Ok-Some.field-0-is at c.in-Ok-Some.ensures.tile (λ counts. right_of_map (service_view c.self.inside) c.self.inside.map
      (record { features = refl; touched = refl; last = c.self.invariant.last_is; kept = refl })
      (trusted (not-true c.self.inside.broken counts)).1.1.reads)),
  ap (state_of known) (seen_cached c.self.inside c.kept.new.self c.kept.ensures.same),
))

pub returns-in-Ok-Some-clause-same : goal.returns-in-Ok-Some-clause-same
returns-in-Ok-Some-clause-same g c = rw (← c.self.view_is) (seen_cached c.self.inside c.kept.new.self c.kept.ensures.same)

pub returns-in-Ok-Some-clause-disk : goal.returns-in-Ok-Some-clause-disk
returns-in-Ok-Some-clause-disk g c = rw (← c.self.view_is) (reads_none _)

pub returns-in-Ok-Some-clause-never_falls : goal.returns-in-Ok-Some-clause-never_falls
returns-in-Ok-Some-clause-never_falls g c = rw (← c.self.view_is) (same_count _ _ refl)

pub returns-in-Ok-Some-clause-untouched : goal.returns-in-Ok-Some-clause-untouched
returns-in-Ok-Some-clause-untouched g c = rw (← c.self.view_is) (λ broken. refl)

pub returns-in-Ok-Some-clause-cached : goal.returns-in-Ok-Some-clause-cached
returns-in-Ok-Some-clause-cached g c = rw (← c.self.view_is) (λ newest bytes is given. (
  refl,
  ap shared_bytes (sym c.in-Ok-Some.field-0-is) ∙ c.in-Ok-Some.ensures.given newest is ∙ given,
))

pub returns-in-Ok-Some-clause-up : goal.returns-in-Ok-Some-clause-up
returns-in-Ok-Some-clause-up g c = rw (← c.self.view_is) (λ stored up honest.
    up_cached _ _ stored _ _ up c.self.inside.map c.kept.new.self
    (record { features = refl; touched = refl; last = c.self.invariant.last_is; kept = refl }) c.kept.ensures.same refl c.kept.ensures.reads)

-- no memory for its copy

pub invariant_of-self-in-Err : goal.invariant_of-self-in-Err
invariant_of-self-in-Err g c = service_cached c.self.inside.map c.kept.new.self c.kept.ensures.same c.self.invariant

pub returns-in-Err-clause-machine : goal.returns-in-Err-clause-machine
returns-in-Err-clause-machine g c = rw (← c.self.view_is) (λ known. (
  tt,
  ap (state_of known) (seen_cached c.self.inside c.kept.new.self c.kept.ensures.same),
))

pub returns-in-Err-clause-same : goal.returns-in-Err-clause-same
returns-in-Err-clause-same g c = rw (← c.self.view_is) (seen_cached c.self.inside c.kept.new.self c.kept.ensures.same)

pub returns-in-Err-clause-disk : goal.returns-in-Err-clause-disk
returns-in-Err-clause-disk g c = rw (← c.self.view_is) (reads_none _)

pub returns-in-Err-clause-never_falls : goal.returns-in-Err-clause-never_falls
returns-in-Err-clause-never_falls g c = rw (← c.self.view_is) (same_count _ _ refl)

pub returns-in-Err-clause-untouched : goal.returns-in-Err-clause-untouched
returns-in-Err-clause-untouched g c = rw (← c.self.view_is) (λ broken. refl)

pub returns-in-Err-clause-cached : goal.returns-in-Err-clause-cached
returns-in-Err-clause-cached g c = rw (← c.self.view_is) (λ newest bytes is given. (refl, tt))

pub returns-in-Err-clause-up : goal.returns-in-Err-clause-up
returns-in-Err-clause-up g c = rw (← c.self.view_is) (λ stored up honest.
    up_cached _ _ stored _ _ up c.self.inside.map c.kept.new.self
    (record { features = refl; touched = refl; last = c.self.invariant.last_is; kept = refl }) c.kept.ensures.same refl c.kept.ensures.reads)

-- a tile that was read

pub invariant_of-self-2 : goal.invariant_of-self-2
invariant_of-self-2 g c = service_cached c.self.inside.map c.kept.new.self c.kept.ensures.same c.self.invariant

-- after the read all but what it changes is as it was
read_same : (g : _) (c : goal.In-Some g) → IsSameButRead (service_view c.self.inside) c.published_tile.new.self
read_same g c = read_on (service_view c.self.inside) (service_view (record c.self.inside { map = c.kept.new.self })) c.published_tile.new.self
    (seen_cached c.self.inside c.kept.new.self c.kept.ensures.same) c.published_tile.ensures.same

pub returns-in-Some-clause-same : goal.returns-in-Some-clause-same
returns-in-Some-clause-same g c = rw (← c.self.view_is) (read_same g c)

pub returns-in-Some-clause-disk : goal.returns-in-Some-clause-disk
returns-in-Some-clause-disk g c = rw (← c.self.view_is) c.published_tile.ensures.disk

pub returns-in-Some-clause-untouched : goal.returns-in-Some-clause-untouched
returns-in-Some-clause-untouched g c = rw (← c.self.view_is) c.published_tile.ensures.untouched

pub returns-in-Some-clause-machine : goal.returns-in-Some-clause-machine
returns-in-Some-clause-machine g c = rw (← c.self.view_is) (λ known. (
  (λ trusted.
      let is = trusted c.in-Some.ensures.unbroken in
      let at = c.args.at in
      let up = up_cached _ _ is.1.0 _ _ is.1.1 c.self.inside.map c.kept.new.self
      (record { features = refl; touched = refl; last = c.self.invariant.last_is; kept = refl }) c.kept.ensures.same refl c.kept.ensures.reads in
      subst (λ m. IsTileContent (layers m.features at.z at.x at.y) (shared_bytes c.in-Some.content)) c.kept.ensures.same
      (c.in-Some.ensures.tile is.1.0 up is.0)),
  ap (state_of known) (read_same g c),
))

pub returns-in-Some-clause-cached : goal.returns-in-Some-clause-cached
returns-in-Some-clause-cached g c = rw (← c.self.view_is) (λ newest bytes is given. absurd (nothing_given bytes
    (ap shared_bytes (sym c.in-Ok-None.field-0-is) ∙ c.in-Ok-None.ensures.given newest is ∙ given)))

pub returns-in-Some-clause-up : goal.returns-in-Some-clause-up
returns-in-Some-clause-up g c = rw (← c.self.view_is) (λ stored up honest.
    c.published_tile.ensures.up stored (up_cached _ _ stored _ _ up c.self.inside.map c.kept.new.self
    (record { features = refl; touched = refl; last = c.self.invariant.last_is; kept = refl }) c.kept.ensures.same refl c.kept.ensures.reads) honest)

pub returns-in-Some-clause-never_falls : goal.returns-in-Some-clause-never_falls
returns-in-Some-clause-never_falls g c = rw (← c.self.view_is) c.published_tile.ensures.never_falls

-- a tile that was generated

pub invariant_of-self-3 : goal.invariant_of-self-3
invariant_of-self-3 g c = service_cached c.self-2.inside.map c.make.new.self c.make.ensures.same c.self-2.invariant

-- after the archive was asked for the tile, all but what a read changes is as it was,
asked_same : (g : _) (c : Joined-make g) → IsSameButRead (service_view c.self.inside) (service_view c.self-2.inside)
asked_same g c = subst (IsSameButRead (service_view c.self.inside)) (sym c.self-2.view_is)
    (read_on (service_view c.self.inside) (service_view (record c.self.inside { map = c.kept.new.self })) c.published_tile.new.self
    (seen_cached c.self.inside c.kept.new.self c.kept.ensures.same) c.published_tile.ensures.same)

-- and after it was generated
made_same : (g : _) (c : Joined-make g) → IsSameButRead (service_view c.self.inside) (service_view (record c.self-2.inside { map = c.make.new.self }))
made_same g c = read_on (service_view c.self.inside) (service_view c.self-2.inside) (service_view (record c.self-2.inside { map = c.make.new.self }))
    (asked_same g c) (seen_cached c.self-2.inside c.make.new.self c.make.ensures.same)

pub returns-clause-machine : goal.returns-clause-machine
returns-clause-machine g c = rw (← c.self.view_is) (λ known. (
  elim c.match-make.branch [
    | in-Ok w ↦ rw w.result-is (λ trusted. rw (← ap (λ s. s.features) (asked_same g c)) w.in-Ok.ensures.tile)
    | in-Err-make w ↦ rw w.result-is tt
  ],
  ap (state_of known) (made_same g c),
))

pub returns-clause-fault : goal.returns-clause-fault
returns-clause-fault g c = elim c.match-make.branch [
  | in-Ok w ↦ rw w.result-is tt
  | in-Err-make w ↦ rw w.result-is refl
]

pub returns-clause-same : goal.returns-clause-same
returns-clause-same g c = rw (← c.self.view_is) (made_same g c)

pub returns-clause-disk : goal.returns-clause-disk
returns-clause-disk g c = rw (← c.self.view_is, ap (λ s. s.disk) c.self-2.view_is) c.published_tile.ensures.disk

pub returns-clause-untouched : goal.returns-clause-untouched
returns-clause-untouched g c = rw (← c.self.view_is, ap (λ s. s.disk) c.self-2.view_is) c.published_tile.ensures.untouched

pub returns-clause-cached : goal.returns-clause-cached
returns-clause-cached g c = rw (← c.self.view_is) (λ newest bytes is given. absurd (nothing_given bytes
    (ap shared_bytes (sym c.in-Ok-None.field-0-is) ∙ c.in-Ok-None.ensures.given newest is ∙ given)))

pub returns-clause-up : goal.returns-clause-up
returns-clause-up g c = rw (← c.self.view_is) (λ stored up honest.
    let before = c.published_tile.ensures.up stored (up_cached _ _ stored _ _ up c.self.inside.map c.kept.new.self
    (record { features = refl; touched = refl; last = c.self.invariant.last_is; kept = refl }) c.kept.ensures.same refl c.kept.ensures.reads)
    (subst (λ s. g.D.Sectors.honest s.disk) c.self-2.view_is honest) in
    up_cached _ _ stored _ _
    (subst (λ s. IsUp (g.D.Sectors.sectors s.disk) (g.D.Sectors.history s.disk) stored s) (sym c.self-2.view_is) before)
    c.self-2.inside.map c.make.new.self (record { features = refl; touched = refl; last = c.self-2.invariant.last_is; kept = refl })
    c.make.ensures.same refl c.make.ensures.reads)

pub returns-clause-never_falls : goal.returns-clause-never_falls
returns-clause-never_falls g c = rw (← c.self.view_is)
    (subst (λ s. NeverFalls (g.D.Sectors.faults c.self.inside.disk) (g.D.Sectors.faults s.disk)) (sym c.self-2.view_is)
    c.published_tile.ensures.never_falls)
