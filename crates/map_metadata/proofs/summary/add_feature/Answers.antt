use Rattle.std.proofs.Common.{if◌then◌else◌, ◌≡◌, None, Some, IsSome, refl, sym, ap, subst, ◌∙◌, arith}
use Rattle.std.specs.Option.{UnwrapsOrElse, option_copied_mut}
use Rattle.std.specs.Str.{bytes_eq}
use Rattle.std.proofs.lemmas.Grind.{text_groups}
use Rattle.std.proofs.lemmas.Map.Text.{btree_map_updates_text}
use Rattle.edit_text.specs.Views.{feature_view}
use Rattle.map_metadata.specs.declared.summary.LayerSummary.{LayerSummary}
use Rattle.map_metadata.specs.Summaries.{layer_at}
use Rattle.map_metadata.proofs.Added.{IsFresh, zooms_after, kind_after, feature_zooms, feature_kinds}
use Rattle.map_metadata.proofs.summary.add_feature.Goals as goal

pub returns-in-Some-clause-zooms : goal.returns-in-Some-clause-zooms
returns-in-Some-clause-zooms c name =
    let f = feature_view c.args.feature in
    let old = c.args.layers.now in
    let after = c.add.new.self in
    let new = c.get_mut.follows.lender after in
    let found : Some c.in-Some.layer.now ≡ layer_at old f.layer = sym (ap option_copied_mut c.in-Some.is) ∙ c.get_mut.ensures.value in
    let was = subst (λ o. UnwrapsOrElse o (IsFresh f) c.in-Some.layer.now) found refl in
    let there = btree_map_updates_text f.layer old new (Some after) ((c.get_mut.follows.holds after).3 (subst IsSome found refl)) name in
    feature_zooms old new f.layer name f after there
    (λ same. zooms_after old f.layer name f c.in-Some.layer.now after was same c.in_ok-add.ensures.minzoom c.in_ok-add.ensures.maxzoom)

pub returns-in-Some-clause-kinds : goal.returns-in-Some-clause-kinds
returns-in-Some-clause-kinds c name key =
    let f = feature_view c.args.feature in
    let old = c.args.layers.now in
    let after = c.add.new.self in
    let new = c.get_mut.follows.lender after in
    let found : Some c.in-Some.layer.now ≡ layer_at old f.layer = sym (ap option_copied_mut c.in-Some.is) ∙ c.get_mut.ensures.value in
    let was = subst (λ o. UnwrapsOrElse o (IsFresh f) c.in-Some.layer.now) found refl in
    let there = btree_map_updates_text f.layer old new (Some after) ((c.get_mut.follows.holds after).3 (subst IsSome found refl)) name in
    feature_kinds old new f.layer name f after there key
    (λ same. kind_after old f.layer name f c.in-Some.layer.now after was same key (c.in_ok-add.ensures.kinds key))

pub returns-clause-zooms : goal.returns-clause-zooms
returns-clause-zooms c name =
    let f = feature_view c.args.feature in
    let old = c.args.layers.now in
    let after = c.add-2.new.self in
    let new = c.insert.new.self in
    let fresh : LayerSummary = record { minzoom = f.minzoom; maxzoom = f.maxzoom; fields = c.new.result } in
    let none : None ≡ layer_at old f.layer = sym (ap option_copied_mut c.in_default.is) ∙ c.get_mut.ensures.value in
    let was = subst (λ o. UnwrapsOrElse o (IsFresh f) fresh) none (refl, refl, c.new.ensures.empty) in
    let there : layer_at new name ≡ (if bytes_eq f.layer name then Some after else layer_at old name) = grind (arith, text_groups) in
    feature_zooms old new f.layer name f after there
    (λ same. zooms_after old f.layer name f fresh after was same c.in_ok-add-2.ensures.minzoom c.in_ok-add-2.ensures.maxzoom)

pub returns-clause-kinds : goal.returns-clause-kinds
returns-clause-kinds c name key =
    let f = feature_view c.args.feature in
    let old = c.args.layers.now in
    let after = c.add-2.new.self in
    let new = c.insert.new.self in
    let fresh : LayerSummary = record { minzoom = f.minzoom; maxzoom = f.maxzoom; fields = c.new.result } in
    let none : None ≡ layer_at old f.layer = sym (ap option_copied_mut c.in_default.is) ∙ c.get_mut.ensures.value in
    let was = subst (λ o. UnwrapsOrElse o (IsFresh f) fresh) none (refl, refl, c.new.ensures.empty) in
    let there : layer_at new name ≡ (if bytes_eq f.layer name then Some after else layer_at old name) = grind (arith, text_groups) in
    feature_kinds old new f.layer name f after there key
    (λ same. kind_after old f.layer name f fresh after was same key (c.in_ok-add-2.ensures.kinds key))
