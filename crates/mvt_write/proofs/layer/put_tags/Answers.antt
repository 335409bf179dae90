use Rattle.std.proofs.Common.{◌≡◌, ◌+◌, List, take, take_all, subst, sym}
use Rattle.std.specs.Prelude.{All}
use Rattle.mvt_layer.specs.Tile.{Tagged, tagged}
use Rattle.mvt_write.specs.CanWrite.{CanWriteValue}
use Rattle.mvt_write.specs.Fits.{FitsTag}
use Rattle.mvt_write.specs.Writes.{Writes}
use Rattle.mvt_write.proofs.Lists.{map_more, mapped_has, all_more}
use Rattle.mvt_write.proofs.TagSteps.{the_tag}
use Rattle.mvt_write.proofs.layer.put_tags.Goals as goal

pub put_tag-requires : goal.put_tag-requires
put_tag-requires c = mapped_has the_tag (λ t. CanWriteValue t.1) c.args.tags.now c.loop-key.key-index _ c.loop-key-test.true c.requires

pub loop-key-preserved : goal.loop-key-preserved
loop-key-preserved c =
    let tags = c.args.tags.now in
    let so_far = tagged (take c.loop-key.key-index tags) in
    let with_next = tagged (take (c.loop-key.key-index + 1) tags) in
    let before = c.loop-key.invariant in
    let step = c.in_ok-put_tag.ensures in
    let more = map_more the_tag tags c.loop-key.key-index _ c.loop-key-test.true in
    record {
      writes = λ name fs start.
          subst (λ (ts : List Tagged). Writes c.put_tag.new.self name fs ts) (sym more) (step.writes name fs so_far (before.writes name fs start));
      fits = all_more FitsTag so_far with_next _ before.fits step.fits more;
    }

pub returns-clause-writes : goal.returns-clause-writes
returns-clause-writes c = λ name fs start.
    let all : take c.loop-key.key-index c.args.tags.now ≡ c.args.tags.now = take_all c.loop-key.key-index c.args.tags.now c.loop-key-test.false in
    subst (λ tags. Writes c.loop-key.writer name fs (tagged tags)) all (c.loop-key.invariant.writes name fs start)

pub returns-clause-fits : goal.returns-clause-fits
returns-clause-fits c =
    let all : take c.loop-key.key-index c.args.tags.now ≡ c.args.tags.now = take_all c.loop-key.key-index c.args.tags.now c.loop-key-test.false in
    subst (λ tags. All FitsTag (tagged tags)) all c.loop-key.invariant.fits
