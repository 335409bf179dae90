use Rattle.std.proofs.Common.{◌≡◌, ◌++◌, List, ℕ, rules, refl, ap₂, ◌∙◌}
use Rattle.mvt_write.specs.Parts.{message_of}
use Rattle.mvt_write.specs.Written.{bytes_field}
use Rattle.mvt_write.proofs.WriterSteps.{feature_added}
use Rattle.mvt_write.proofs.layer_writer.LayerWriter.put_feature.Goals as goal

pub returns-clause-writes : goal.returns-clause-writes
returns-clause-writes c = λ name fs tags s before by_shape by_kind.
    let old = c.args.self.now in
    let written : c.put_message.new.out.items ≡ old.bytes.items ++ bytes_field 2 (message_of c.args.id old.tags.items c.args.kind c.args.geometry.now) =
    c.in_ok-put_message.ensures.written
    ∙ ap₂ (λ (start packed : List ℕ). start ++ bytes_field 2 (message_of c.args.id packed c.args.kind c.args.geometry.now))
    c.make_room.ensures c.deref.ensures.value in
    feature_added old _ name fs tags c.args.id s c.args.kind c.args.geometry.now before by_shape by_kind refl refl (search rules) written
