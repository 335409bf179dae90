use Rattle.std.proofs.Common.{rules}
use Rattle.serde_json.specs.Data.{string}
use Rattle.serde_json.specs.View.{members_view}
use Rattle.edit_json.specs.Json.{name_bytes, shape_json}
use Rattle.edit_json.specs.Outline.{shape_data}
use Rattle.edit_json.proofs.OutlineLemmas.{third_member, fourth_member}
use Rattle.edit_json.proofs.outline.only_members.Goals as goal

pub returns-in_err-maxzoom : goal.returns-in_err-maxzoom
unfolding name_bytes
returns-in_err-maxzoom c = rw c.from_residual-in_err-maxzoom.ensures
    (λ o h. c.in_err-maxzoom.ensures _ _ h.high (third_member (members_view c.args.members.now) (members_view c.next_shape.new.members)
    (members_view c.next_text.new.members) (shape_json (shape_data c.in_ok-shape.shape)) (string c.in_ok-layer.layer.now) o
    c.in_ok-shape.ensures c.in_ok-layer.ensures h.is))

pub returns-in_err-minzoom : goal.returns-in_err-minzoom
unfolding name_bytes
returns-in_err-minzoom c = rw c.from_residual-in_err-minzoom.ensures
    (λ o h. c.in_err-minzoom.ensures _ _ h.low (fourth_member (members_view c.args.members.now) (members_view c.next_shape.new.members)
    (members_view c.next_text.new.members) (members_view c.next_zoom.new.members) (shape_json (shape_data c.in_ok-shape.shape))
    (string c.in_ok-layer.layer.now) _ o c.in_ok-shape.ensures c.in_ok-layer.ensures c.in_ok-maxzoom.ensures h.is))

pub returns-in_err-shape : goal.returns-in_err-shape
unfolding name_bytes
returns-in_err-shape c = search rules

pub returns-in_err-layer : goal.returns-in_err-layer
unfolding name_bytes
returns-in_err-layer c = search rules

pub returns-in_err-tags : goal.returns-in_err-tags
unfolding name_bytes
returns-in_err-tags c = search rules

pub returns : goal.returns
unfolding name_bytes
returns c = search rules
