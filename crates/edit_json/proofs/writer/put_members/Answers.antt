use Rattle.std.proofs.Common.{rules}
use Rattle.std.proofs.lemmas.Result.{on_ok_weaker}
use Rattle.edit_json.specs.Json.{name_bytes}
use Rattle.edit_json.proofs.writer.put_members.Goals as goal

pub returns : goal.returns
unfolding name_bytes
returns c =
    let geometry = c.in_ok-put_made.ensures _ c.geometry_value.ensures in
    let layer = c.in_ok-put_made-2.ensures _ c.try_from_str.ensures in
    on_ok_weaker c.put_made-3.result
    (λ last. let tags = last _ c.tags_value.ensures in search (rules, geometry, layer, tags))
    c.put_made-3.ensures
