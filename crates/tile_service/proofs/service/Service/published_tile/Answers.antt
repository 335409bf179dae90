use Rattle.std.proofs.Common.{◌≡◌, ◌∙◌, ℕ, arith, ap, List, refl, sym, subst}
use Rattle.std.proofs.lemmas.Bool.{false≢true}
use Rattle.std.specs.Rc.{rc_slice_items}
use Rattle.cached_map.specs.Cached.{WasMap, shared_bytes}
use Rattle.feature_store.specs.Content.{IsTileContent}
use Rattle.feature_store.specs.Layers.{layers}
use Rattle.mvt_layer.specs.Tile.{LayerView}
use Rattle.sector_bytes.specs.Counts.{NeverFalls}
use Rattle.sector_bytes.proofs.Counts.{same_count}
use Rattle.sector_disk.specs.Asked.{OnlyReads}
use Rattle.sector_disk.proofs.AskedLaws.{reads_none}
use Rattle.tile_service.specs.Service.{IsUp}
use Rattle.tile_service.proofs.Archive.Read.{same_layers}
use Rattle.tile_service.specs.Inside.{service_view}
use Rattle.tile_service.proofs.Tiles.Cached.{IsSameButRead, up_keeps_read, service_cached, read_on, seen_cached, read_uncached}
use Rattle.tile_service.proofs.service.Service.published_tile.Goals as goal
use Rattle.tile_service.proofs.service.Service.published_tile.Goals.{Joined-content, in-Some, in_default}

-- nothing is read from a broken service, or where an edit may have touched the tile

pub returns-then-self-clause-same : goal.returns-then-self-clause-same
returns-then-self-clause-same g c = refl

pub returns-then-self-clause-disk : goal.returns-then-self-clause-disk
returns-then-self-clause-disk g c = reads_none _

pub returns-then-self-clause-never_falls : goal.returns-then-self-clause-never_falls
returns-then-self-clause-never_falls g c = same_count _ _ refl

pub returns-then-self-clause-untouched : goal.returns-then-self-clause-untouched
returns-then-self-clause-untouched g c = λ broken. refl

pub returns-then-self-clause-up : goal.returns-then-self-clause-up
returns-then-self-clause-up g c = λ stored up honest. up

pub returns-then-newest-self-clause-same : goal.returns-then-newest-self-clause-same
returns-then-newest-self-clause-same g c = refl

pub returns-then-newest-self-clause-disk : goal.returns-then-newest-self-clause-disk
returns-then-newest-self-clause-disk g c = reads_none _

pub returns-then-newest-self-clause-never_falls : goal.returns-then-newest-self-clause-never_falls
returns-then-newest-self-clause-never_falls g c = same_count _ _ refl

pub returns-then-newest-self-clause-untouched : goal.returns-then-newest-self-clause-untouched
returns-then-newest-self-clause-untouched g c = λ broken. refl

pub returns-then-newest-self-clause-up : goal.returns-then-newest-self-clause-up
returns-then-newest-self-clause-up g c = λ stored up honest. up

-- a tile that was read

pub invariant_of-self : goal.invariant_of-self
invariant_of-self g c = service_cached c.self-2.inside.map c.keep_read.new.self c.keep_read.ensures.same c.self-2.invariant

-- what is read is on the disk, whether it is cached or not
disk_is : (g : _) (c : Joined-content g) → c.match-content.self.disk ≡ c.archived_tile.new.self.disk
disk_is g c = elim c.match-content.branch [
  | in-Some w ↦ ap (λ s. s.disk) w.self-is ∙ ap (λ s. s.disk) c.self-2.view_is
  | in_default w ↦ ap (λ s. s.disk) w.self-is
]

pub returns-after-content-clause-never_falls : goal.returns-after-content-clause-never_falls
returns-after-content-clause-never_falls g c =
    subst (λ d. NeverFalls (g.D.Sectors.faults c.args.self.now.disk) (g.D.Sectors.faults d)) (sym (disk_is g c)) c.archived_tile.ensures.never_falls

pub returns-after-content-clause-tile : goal.returns-after-content-clause-tile
returns-after-content-clause-tile g c = rw (← c.self.view_is) (λ stored up honest.
    let at = c.args.at in
    subst (λ (ls : List LayerView). IsTileContent ls (shared_bytes c.in-Ok.content))
    (sym (same_layers _ _ stored _ up at.z at.x at.y c.newest.result c.self.inside.journal.edits refl (omega (arith, c.if-newest-self.false))
    (λ n was is older. c.newest.ensures.since n was
    (subst (λ (last : ℕ). WasMap c.self.inside.map.features c.self.inside.map.touched last n was) (sym c.self.invariant.last_is) is) older)))
    (c.in-Ok.ensures.tile stored (subst (λ s. IsUp (g.D.Sectors.sectors s.disk) (g.D.Sectors.history s.disk) stored s) c.self.view_is up)
    (subst (λ d. g.D.Sectors.honest d) (disk_is g c) honest)))

pub returns-after-content-clause-up : goal.returns-after-content-clause-up
returns-after-content-clause-up g c stored up honest =
    let at = c.args.at in
    let read_honest = subst (λ d. g.D.Sectors.honest d) (disk_is g c) honest in
    let still = c.archived_tile.ensures.up stored up read_honest in
    let told = c.in-Ok.ensures.tile stored up read_honest in
    elim c.match-content.branch [
      | in-Some w ↦
          let tile = subst (λ content. IsTileContent (layers stored.snapshot_map at.z at.x at.y) (shared_bytes content)) w.in-Some.is told in
          subst (λ s. IsUp (g.D.Sectors.sectors s.disk) (g.D.Sectors.history s.disk) stored s) (sym w.self-is)
          (up_keeps_read _ _ stored _ _
          (subst (λ s. IsUp (g.D.Sectors.sectors s.disk) (g.D.Sectors.history s.disk) stored s) (sym c.self-2.view_is) still)
          c.self-2.inside.map w.keep_read.new.self c.self-2.inside.journal.edits
          (record { features = refl; touched = refl; last = c.self-2.invariant.last_is; kept = refl }) w.keep_read.ensures.same refl refl
          at.z at.x at.y (rc_slice_items w.in-Some.bytes) tile w.keep_read.ensures.reads)
      | in_default w ↦ subst (λ s. IsUp (g.D.Sectors.sectors s.disk) (g.D.Sectors.history s.disk) stored s) (sym w.self-is) still
    ]

pub returns-after-content-clause-same : goal.returns-after-content-clause-same
returns-after-content-clause-same g c =
    let old = c.args.self.now in
    let read = subst (IsSameButRead old) (sym c.self-2.view_is) (read_uncached old c.archived_tile.new.self c.archived_tile.ensures.same) in
    elim c.match-content.branch [
      | in-Some w ↦ subst (IsSameButRead old) (sym w.self-is) (read_on old (service_view c.self-2.inside)
          (service_view (record c.self-2.inside { map = w.keep_read.new.self })) read
          (seen_cached c.self-2.inside w.keep_read.new.self w.keep_read.ensures.same))
      | in_default w ↦ subst (IsSameButRead old) (sym w.self-is) (read_uncached old c.archived_tile.new.self c.archived_tile.ensures.same)
    ]

pub returns-after-content-clause-disk : goal.returns-after-content-clause-disk
returns-after-content-clause-disk g c = subst (λ d. OnlyReads g.D.Sectors.sectors g.D.Sectors.honest g.D.Sectors.history c.args.self.now.disk d)
    (sym (disk_is g c)) c.archived_tile.ensures.disk

pub returns-after-content-clause-untouched : goal.returns-after-content-clause-untouched
returns-after-content-clause-untouched g c = rw (← c.self.view_is) (λ broken. absurd (false≢true (sym c.if-self.false ∙ broken)))

pub returns-after-content-clause-unbroken : goal.returns-after-content-clause-unbroken
returns-after-content-clause-unbroken g c = rw (← c.self.view_is) c.if-self.false

-- the archive can't be read

pub returns-in-Err-clause-same : goal.returns-in-Err-clause-same
returns-in-Err-clause-same g c = read_uncached c.args.self.now c.archived_tile.new.self c.archived_tile.ensures.same

pub returns-in-Err-clause-disk : goal.returns-in-Err-clause-disk
returns-in-Err-clause-disk g c = c.archived_tile.ensures.disk

pub returns-in-Err-clause-never_falls : goal.returns-in-Err-clause-never_falls
returns-in-Err-clause-never_falls g c = c.archived_tile.ensures.never_falls

pub returns-in-Err-clause-untouched : goal.returns-in-Err-clause-untouched
returns-in-Err-clause-untouched g c = rw (← c.self.view_is) (λ broken. absurd (false≢true (sym c.if-self.false ∙ broken)))

pub returns-in-Err-clause-up : goal.returns-in-Err-clause-up
returns-in-Err-clause-up g c = c.archived_tile.ensures.up
