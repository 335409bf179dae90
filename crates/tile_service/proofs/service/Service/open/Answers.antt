use Rattle.std.proofs.Common.{None, false, take, refl}
use Rattle.sector_disk.specs.Disk.{seen}
use Rattle.edit_journal.proofs.Kept.{goes_back_self}
use Rattle.tile_service.specs.Runs.{fitting}
use Rattle.tile_service.proofs.Disk.Opened.{opens, no_other_fault, read_sound}
use Rattle.tile_service.proofs.Runs.Headlines.{was_left, opens_to_first}
use Rattle.tile_service.proofs.Runs.KeptEdits.{listed_stays}
use Rattle.tile_service.proofs.service.Service.open.Goals as goal

pub returns-in-Ok-clause-opened : goal.returns-in-Ok-clause-opened
returns-in-Ok-clause-opened g c n stored holds honest =
    opens (g.D.Sectors.sectors c.args.disk) n stored (seen (g.D.Sectors.history c.args.disk)) holds
    (g.D.Sectors.sectors c.load.new.disk) (g.D.Sectors.history c.args.disk) (g.D.Sectors.history c.load.new.disk)
    (record {
      disk = c.load.new.disk;
      size = c.in-Ok.found.layout.sectors;
      version = c.in-Ok.found.version;
      features = c.in-Ok.found.map.features;
      touched = c.in-Ok.found.map.touched;
      kept = c.in-Ok.found.map.kept;
      journal = c.in-Ok.found.journal;
      kept_journal = c.in-Ok.found.journal;
      generation = c.in-Ok.found.root.generation;
      snapshot_len = c.in-Ok.found.root.snapshot_len;
      archive_len = c.in-Ok.found.root.archive_len;
      publication = None;
      drafting = None;
      published = c.in-Ok.found.published;
      broken = false;
    })
    c.in-Ok.found.root refl c.load.ensures.disk.same_count (c.in-Ok.ensures.synced honest) refl refl refl refl refl refl refl c.in-Ok.ensures.ring
    (c.in-Ok.ensures.found honest)
    c.in-Ok.ensures.published c.in-Ok.ensures.reads

pub returns-in-Err-clause-refused : goal.returns-in-Err-clause-refused
returns-in-Err-clause-refused g c n stored holds honest =
    no_other_fault (g.D.Sectors.sectors c.args.disk) n stored (seen (g.D.Sectors.history c.args.disk)) c.in-Err.fault holds
    (c.in-Err.ensures.fault honest)

pub returns-in-Ok-clause-read : goal.returns-in-Ok-clause-read
returns-in-Ok-clause-read g c honest = record {
  root = c.in-Ok.found.root;
  read = c.in-Ok.ensures.found honest;
  generation_is = refl;
  snapshot_len_is = refl;
  archive_len_is = refl;
}

pub returns-in-Ok-clause-sound : goal.returns-in-Ok-clause-sound
returns-in-Ok-clause-sound g c honest =
    read_sound (g.D.Sectors.sectors c.args.disk) c.in-Ok.found.layout.sectors c.in-Ok.found.version (seen (g.D.Sectors.history c.args.disk)) c.in-Ok.found.root
    c.in-Ok.found.journal c.in-Ok.found.map.features c.in-Ok.found.map.touched (c.in-Ok.ensures.found honest)

pub returns-in-Ok-clause-disk : goal.returns-in-Ok-clause-disk
returns-in-Ok-clause-disk g c = c.load.ensures.disk

pub returns-in-Ok-clause-history : goal.returns-in-Ok-clause-history
returns-in-Ok-clause-history g c = c.in-Ok.ensures.synced

pub returns-in-Ok-clause-failed : goal.returns-in-Ok-clause-failed
returns-in-Ok-clause-failed g c = c.in-Ok.ensures.failed

pub returns-in-Ok-clause-unbroken : goal.returns-in-Ok-clause-unbroken
returns-in-Ok-clause-unbroken g c = refl

pub returns-in-Ok-clause-idle : goal.returns-in-Ok-clause-idle
returns-in-Ok-clause-idle g c = refl

pub returns-in-Ok-clause-undrafted : goal.returns-in-Ok-clause-undrafted
returns-in-Ok-clause-undrafted g c = refl

pub returns-in-Err-clause-disk : goal.returns-in-Err-clause-disk
returns-in-Err-clause-disk g c = c.load.ensures.disk

pub returns-in-Err-clause-written : goal.returns-in-Err-clause-written
returns-in-Err-clause-written g c = c.load.ensures.written

pub returns-in-Err-clause-failed : goal.returns-in-Err-clause-failed
returns-in-Err-clause-failed g c = c.in-Err.ensures.failed

pub returns-in-Err-clause-fault : goal.returns-in-Err-clause-fault
returns-in-Err-clause-fault g c = c.in-Err.ensures.fault

pub returns-in-Err-clause-memory : goal.returns-in-Err-clause-memory
returns-in-Err-clause-memory g c = c.in-Err.ensures.memory

pub invariant_of-result : goal.invariant_of-result
invariant_of-result g c = record {
  within = c.in-Ok.ensures.within;
  version_is = c.in-Ok.ensures.version;
  ring = c.in-Ok.ensures.ring;
  area = c.in-Ok.ensures.can.area;
  texts = c.in-Ok.ensures.texts;
  counted = c.in-Ok.ensures.counted;
  last_is = c.in-Ok.ensures.last;
  back = goes_back_self c.in-Ok.found.journal;
  going = tt;
  told = tt;
  as_of = tt;
  drafts = tt;
}

pub returns-in-Ok-clause-headline : goal.returns-in-Ok-clause-headline
returns-in-Ok-clause-headline g c start old new happenings k m was honest =
    let d = g.D.Sectors in
    let fits = was_left d.sectors d.honest d.history start old new happenings k m c.args.disk was in
    opens_to_first d.sectors d.honest d.history start _ (take m happenings) k (d.sectors c.args.disk) old.size c.args.disk _ fits
    (listed_stays d.sectors d.honest d.history old new start happenings was.run was.honest_to_its_end was.begins k m was.order was.within
    (d.sectors c.args.disk) (seen (d.history c.args.disk)) fits)
    (returns-in-Ok-clause-opened g c old.size
    (fitting start fits.edits fits.i fits.j fits.fits.0 fits.fits.1 fits.fits.2) fits.fits.3 honest).1

pub returns-in-Err-clause-no_other_fault : goal.returns-in-Err-clause-no_other_fault
returns-in-Err-clause-no_other_fault g c start old new happenings k m was honest =
    let d = g.D.Sectors in
    let fits = was_left d.sectors d.honest d.history start old new happenings k m c.args.disk was in
    returns-in-Err-clause-refused g c old.size
    (fitting start fits.edits fits.i fits.j fits.fits.0 fits.fits.1 fits.fits.2) fits.fits.3 honest
