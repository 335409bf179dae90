use Rattle.std.proofs.Common.{◌≡◌, Option, Some, None, IsSome, [], refl, sym, ap, subst, ◌∙◌}
use Rattle.std.specs.Option.{UnwrapsOrElse, option_copied_mut}
use Rattle.std.proofs.lemmas.Map.Text.{btree_map_updates_text}
use Rattle.std.proofs.lemmas.Result.{on_ok_weaker}
use Rattle.std.specs.String.{string_bytes}
use Rattle.edit_text.specs.Views.{feature_view}
use Rattle.mvt_write.specs.declared.layer_writer.LayerWriter.{LayerWriter}
use Rattle.mvt_write.specs.Writes.{Writes}
use Rattle.feature_store.specs.Gathered.{Gathers}
use Rattle.feature_store.specs.Layers.{numbered}
use Rattle.feature_store.proofs.Gathers.{IsPut, one_more, writer_made, writer_of}
use Rattle.feature_store.proofs.gathered.add.Goals as goal

pub returns-in-Some : goal.returns-in-Some
returns-in-Some c =
    let f = feature_view c.args.feature in
    let old = c.args.gathered.now in
    let before = c.in-Some.writer.now in
    let w = c.put_feature.new.writer in
    let new = c.get_mut.follows.lender w in
    let found : writer_of f.layer old ≡ Some before = sym c.get_mut.ensures.value ∙ ap option_copied_mut c.in-Some.is in
    let put : IsPut old new f.layer w = btree_map_updates_text f.layer old new (Some w) ((c.get_mut.follows.holds w).3 (subst IsSome (sym found) refl)) in
    on_ok_weaker c.put_feature.result
    (λ step fs s gathers is.
    let made : Writes before f.layer (fs f.layer) [] =
    writer_made (writer_of f.layer old) before f.layer (fs f.layer)
    (subst (λ (o : Option LayerWriter). UnwrapsOrElse o (λ v. Writes v f.layer [] []) before) (sym found) refl) (gathers f.layer) in
    one_more old new f.layer w (numbered c.args.id f s) fs put (step f.layer (fs f.layer) s made is) gathers)
    c.put_feature.ensures

pub returns : goal.returns
returns c = λ fs s gathers is.
    let f = feature_view c.args.feature in
    let old = c.get_mut.follows.lender-at-none in
    let w = c.put_feature-2.new.writer in
    let here = subst (λ g. Gathers g fs) (sym c.get_mut.follows.holds-at-none) gathers in
    let none : writer_of f.layer old ≡ None =
    ap (writer_of f.layer) c.get_mut.follows.holds-at-none ∙ sym c.get_mut.ensures.value ∙ ap option_copied_mut c.in_default.is in
    let put : IsPut old c.insert.new.self f.layer w = subst (λ layer. IsPut old c.insert.new.self layer w) c.in_ok-name.ensures.ok
    (btree_map_updates_text (string_bytes c.in_ok-name.name) old c.insert.new.self (Some w) c.in_ok-insert.ensures.updates) in
    let made : Writes c.in_ok-writer.writer f.layer (fs f.layer) [] =
    writer_made (writer_of f.layer old) c.in_ok-writer.writer f.layer (fs f.layer) (rw none c.in_ok-writer.ensures) (here f.layer) in
    one_more old c.insert.new.self f.layer w (numbered c.args.id f s) fs put (c.in_ok-put_feature.ensures f.layer (fs f.layer) s made is) here
