-- How a draft is kept.
use Rattle.std.specs.Prelude.{◌≡◌, ◌<◌, ◌^◌, length}
use Rattle.feature_store.specs.Store.{IsMap, snapshot}
use Rattle.pm_metadata.specs.Archive.{IsMetadata}
use Rattle.area_content.specs.declared.draft.ContentDraft.TheInside.{Inside}
use Rattle.area_content.specs.declared.draft.Stage.TheVariants.{Going, Made}
use Rattle.area_content.specs.Collected.{AreGoing, AreMade, tiles_of}
use Rattle.area_content.specs.Drafts.{DraftView}
use Rattle.area_content.specs.Waiting.{least_id, steps_ahead}

abbrev pub draft_view : Inside → DraftView
draft_view d = record {
  features = d.tiles.features;
  metadata = d.metadata.items;
  area = d.area;
  from = least_id d.collected.waiting d.tiles.from;
  ahead = steps_ahead d.collected.waiting d.tiles.ahead;
  stage = d.stage;
}

-- The text is the snapshot of the moment. While tiles are left, those before the waiting one or else the next id are added and counted; once
-- they are made, all are added.
pub record IsDraft (d : Inside) : Type 0 where
  pub is_map : IsMap d.tiles.features
  pub text : d.text.items ≡ snapshot d.tiles.features
  pub metadata : IsMetadata d.metadata.items
  pub area : d.area < 2 ^ 23
  pub going : d.stage ≡ Going → AreGoing d.tiles.features d.metadata.items d.area d.tiles.from d.collected
  pub count : d.stage ≡ Going → d.made ≡ length (tiles_of d.collected)
  pub made : d.stage ≡ Made → AreMade d.tiles.features d.metadata.items d.area d.collected
