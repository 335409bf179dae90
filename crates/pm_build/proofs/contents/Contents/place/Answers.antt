use Rattle.std.proofs.Common.{◌≡◌, ◌<◌, ◌^◌, List, Contains, length, OnOk, OnErr, IfOk, sym, subst}
use Rattle.std.proofs.lemmas.Result.{on_err_weaker}
use Rattle.pm_build.specs.TileContents.{IsApart, bytes_of}
use Rattle.pm_build.specs.Different.{content_at, with_content}
use Rattle.pm_build.specs.Firsts.{AreFirsts}
use Rattle.pm_build.specs.Tiles.{Tile}
use Rattle.pm_build.specs.declared.tile_content.TileContent.{TileContent}
use Rattle.pm_build.proofs.Storing.{same_view}
use Rattle.pm_build.proofs.contents.Contents.place.Goals as goal

pub place_given-requires-clause-ahead : goal.place_given-requires-clause-ahead
place_given-requires-clause-ahead c = subst (λ (t : TileContent). IsApart t c.args.self.now.ahead) c.in-Given.is c.requires.apart

pub place_given-requires-clause-short : goal.place_given-requires-clause-short
place_given-requires-clause-short c =
    subst (λ (t : TileContent). length (bytes_of t c.args.self.now.ahead) < 2 ^ 32) c.in-Given.is c.requires.short

pub place_ahead-requires : goal.place_ahead-requires
place_ahead-requires c = subst (λ (t : TileContent). length (bytes_of t c.args.self.now.ahead) < 2 ^ 32) c.in-Ahead.is c.requires.short

pub returns-in-Given-clause-placed : goal.returns-in-Given-clause-placed
returns-in-Given-clause-placed c =
    let cs = c.place_given.new.self.index.contents in
    subst
    (λ (t : TileContent). IfOk c.place_given.result (λ place. (place < length cs) × (content_at cs place ≡ bytes_of t c.args.self.now.ahead)))
    (sym c.in-Given.is) c.place_given.ensures.placed

pub returns-in-Given-clause-contents : goal.returns-in-Given-clause-contents
returns-in-Given-clause-contents c =
    let now = c.args.self.now in
    subst
    (λ (t : TileContent). OnOk c.place_given.result (c.place_given.new.self.index.contents ≡ with_content now.index.contents (bytes_of t now.ahead)))
    (sym c.in-Given.is) c.place_given.ensures.contents

pub returns-in-Given-clause-firsts : goal.returns-in-Given-clause-firsts
returns-in-Given-clause-firsts c =
    let now = c.args.self.now in
    subst
    (λ (t : TileContent). OnOk c.place_given.result ((ts : List Tile)
    → AreFirsts ts now.index → Contains ts (c.args.first, bytes_of t now.ahead) → AreFirsts ts c.place_given.new.self.index))
    (sym c.in-Given.is) c.place_given.ensures.firsts

pub returns-in-Given-clause-unchanged : goal.returns-in-Given-clause-unchanged
returns-in-Given-clause-unchanged c =
    let now = c.args.self.now in
    let before = subst (λ (t : TileContent). IsApart t now.ahead) c.in-Given.is c.requires.apart in
    on_err_weaker c.place_given.result (λ same. same_view c.place_given.new.self now same c.place_given.ensures.ahead before)
    c.place_given.ensures.unchanged

pub returns-in-Ahead-clause-placed : goal.returns-in-Ahead-clause-placed
returns-in-Ahead-clause-placed c =
    let cs = c.place_ahead.new.self.index.contents in
    subst
    (λ (t : TileContent). IfOk c.place_ahead.result (λ place. (place < length cs) × (content_at cs place ≡ bytes_of t c.args.self.now.ahead)))
    (sym c.in-Ahead.is) c.place_ahead.ensures.placed

pub returns-in-Ahead-clause-contents : goal.returns-in-Ahead-clause-contents
returns-in-Ahead-clause-contents c =
    let now = c.args.self.now in
    subst
    (λ (t : TileContent). OnOk c.place_ahead.result (c.place_ahead.new.self.index.contents ≡ with_content now.index.contents (bytes_of t now.ahead)))
    (sym c.in-Ahead.is) c.place_ahead.ensures.contents

pub returns-in-Ahead-clause-firsts : goal.returns-in-Ahead-clause-firsts
returns-in-Ahead-clause-firsts c =
    let now = c.args.self.now in
    subst
    (λ (t : TileContent). OnOk c.place_ahead.result ((ts : List Tile)
    → AreFirsts ts now.index → Contains ts (c.args.first, bytes_of t now.ahead) → AreFirsts ts c.place_ahead.new.self.index))
    (sym c.in-Ahead.is) c.place_ahead.ensures.firsts
