-- How the content of an area is stored.
use Rattle.area_content.specs.declared.content.AreaContent.TheInside.{Inside}
use Rattle.area_content.specs.Content.{ContentView}
use Rattle.pm_build.specs.Built.{archive_bytes}

-- the bytes, without their location in memory
abbrev pub content_view : Inside → ContentView
content_view c = record { snapshot = c.snapshot.items; archive = archive_bytes c.archive }
