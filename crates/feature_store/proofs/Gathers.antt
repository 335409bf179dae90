-- What is gathered, feature by feature.
use Rattle.std.proofs.Common.{◌≡◌, ℕ, Bool, true, false, List, [], ◌∷◌, ◌++◌, map, Option, Some, None, refl, sym, ap, subst, ◌∙◌, arith}
use Rattle.std.proofs.Common.{if◌then◌else◌}
use Rattle.std.specs.Option.{UnwrapsOrElse, option_map}
use Rattle.std.specs.Str.{bytes_eq}
use Rattle.std.specs.BTreeMap.{get_by_text}
use Rattle.std.proofs.lemmas.List.{append-nil, append_assoc, length-append}
use Rattle.std.proofs.lemmas.Slice.Eq.{bytes_eq-Decides}
use Rattle.feature_model.specs.Data.{FeatureData, TagData}
use Rattle.geometry_commands.specs.Shapes.{ShapeView}
use Rattle.mvt_layer.specs.Tile.{FeatureView, Tagged}
use Rattle.mvt_write.specs.declared.layer_writer.LayerWriter.{LayerWriter}
use Rattle.mvt_write.specs.Writes.{Writes}
use Rattle.tile_cutter.specs.Cut.{shown_tag, shown_with, feature_cut}
use Rattle.feature_store.specs.Gathered.{Gathered, IsGathered, Gathers}
use Rattle.feature_store.specs.Layers.{numbered, added_to, numbered_cut, cuts_of}

-- ---- the tags of a feature

-- a writer has those of the tags that aren't left, where it had none
abbrev pub HasTags : (old new : LayerWriter) → List ℕ → List FeatureView → (left all : List TagData) → Type 0
HasTags old new name fs left all = Writes old name fs []
    → (so_far : List Tagged) × Writes new name fs so_far × (so_far ++ map shown_tag left ≡ map shown_tag all)

pub tags_item : (start old new : LayerWriter) (name : List ℕ) (fs : List FeatureView) (left rest all : List TagData) (t : TagData)
    → left ≡ t ∷ rest
    → ((tags : List Tagged) → Writes old name fs tags → Writes new name fs (tags ++ shown_tag t ∷ []))
    → HasTags start old name fs left all → HasTags start new name fs rest all
tags_item start old new name fs left rest all t first step before writes =
    let here = before writes in (
      here.0 ++ shown_tag t ∷ [],
      step here.0 here.1,
      append_assoc here.0 (shown_tag t ∷ []) (map shown_tag rest) ∙ ap (λ ts. here.0 ++ map shown_tag ts) (sym first) ∙ here.2,
    )

pub tags_over : (start new : LayerWriter) (name : List ℕ) (fs : List FeatureView) (left all : List TagData) → left ≡ []
    → HasTags start new name fs left all → Writes start name fs [] → Writes new name fs (map shown_tag all)
tags_over start new name fs left all none before writes =
    let here = before writes in
    subst (Writes new name fs) (sym (append-nil here.0) ∙ ap (λ ts. here.0 ++ map shown_tag ts) (sym none) ∙ here.2) here.1

-- ---- a feature more

-- the writer of a name
abbrev pub writer_of : List ℕ → Gathered → Option LayerWriter
writer_of name g = get_by_text g name

pub gathers_same : (g : Gathered) (fs gs : List ℕ → List FeatureView) → ((name : List ℕ) → fs name ≡ gs name) → Gathers g fs → Gathers g gs
gathers_same g fs gs same gathers name = subst (IsGathered (writer_of name g) name) (same name) (gathers name)

-- a layer's writer, which is there or was made without features
pub writer_made : (o : Option LayerWriter) (w : LayerWriter) (name : List ℕ) (fs : List FeatureView)
    → UnwrapsOrElse o (λ v. Writes v name [] []) w → IsGathered o name fs → Writes w name fs []
writer_made None w name fs made none = subst (λ gs. Writes w name gs []) (sym none) made
writer_made (Some v) w name fs same gathers = subst (λ u. Writes u name fs []) (sym same) gathers.1

-- all names as before, but for the layer's
abbrev pub IsPut : (old new : Gathered) → List ℕ → LayerWriter → Type 0
IsPut old new layer w = (name : List ℕ) → writer_of name new ≡ (if bytes_eq layer name then Some w else writer_of name old)

pub one_more : (old new : Gathered) (layer : List ℕ) (w : LayerWriter) (f : FeatureView) (fs : List ℕ → List FeatureView) → IsPut old new layer w
    → Writes w layer (fs layer ++ f ∷ []) [] → Gathers old fs → Gathers new (added_to fs layer f)
one_more old new layer w f fs found writes gathers name = by (bytes_eq layer name) refl
  where
    by : (b : Bool) → bytes_eq layer name ≡ b → IsGathered (writer_of name new) name (if bytes_eq layer name then fs name ++ f ∷ [] else fs name)
    by true is =
        let same : layer ≡ name = (bytes_eq-Decides layer name).0 is in
        let here : Writes w name (fs name ++ f ∷ []) [] = subst (λ n. Writes w n (fs n ++ f ∷ []) []) same writes in
        rw (found name, is) (omega (arith, length-append (fs name) (f ∷ [])), here)
    by false is = rw (found name, is) (gathers name)

-- ---- what a tile shows of a feature

cut_of_name : (id : ℕ) (f : FeatureData) (z x y : ℕ) (name : List ℕ) (v : FeatureView) (fs : List FeatureView) → numbered_cut z x y (id, f) ≡ Some v
    → (if bytes_eq f.layer name then fs ++ v ∷ [] else fs) ≡ fs ++ cuts_of ((id, f) ∷ []) name z x y
cut_of_name id f z x y name v fs cut = by (bytes_eq f.layer name) refl
  where
    by : (b : Bool) → bytes_eq f.layer name ≡ b → (if bytes_eq f.layer name then fs ++ v ∷ [] else fs) ≡ fs ++ cuts_of ((id, f) ∷ []) name z x y
    by true is = rw (is, cut) refl
    by false is = rw is (sym (append-nil fs))

-- something of a feature is shown
pub shown_more : (g : Gathered) (fs : List ℕ → List FeatureView) (id : ℕ) (f : FeatureData) (z x y : ℕ) (s : ShapeView)
    → feature_cut f z x y ≡ Some (shown_with f.tags s)
    → Gathers g (added_to fs f.layer (numbered id f s)) → Gathers g (λ name. fs name ++ cuts_of ((id, f) ∷ []) name z x y)
shown_more g fs id f z x y s cut =
    let is : numbered_cut z x y (id, f) ≡ Some (numbered id f s) = ap (option_map (λ (v : FeatureView). record v { id = Some id })) cut in
    gathers_same g (added_to fs f.layer (numbered id f s)) (λ name. fs name ++ cuts_of ((id, f) ∷ []) name z x y)
    (λ name. cut_of_name id f z x y name (numbered id f s) (fs name) is)

no_cut_of_name : (id : ℕ) (f : FeatureData) (z x y : ℕ) (name : List ℕ) (fs : List FeatureView) → feature_cut f z x y ≡ None
    → fs ≡ fs ++ cuts_of ((id, f) ∷ []) name z x y
no_cut_of_name id f z x y name fs none = by (bytes_eq f.layer name) refl
  where
    by : (b : Bool) → bytes_eq f.layer name ≡ b → fs ≡ fs ++ cuts_of ((id, f) ∷ []) name z x y
    by true is = rw (is, none) (sym (append-nil fs))
    by false is = rw is (sym (append-nil fs))

-- nothing is
pub nothing_more : (g : Gathered) (fs : List ℕ → List FeatureView) (id : ℕ) (f : FeatureData) (z x y : ℕ) → feature_cut f z x y ≡ None → Gathers g fs
    → Gathers g (λ name. fs name ++ cuts_of ((id, f) ∷ []) name z x y)
nothing_more g fs id f z x y none =
    gathers_same g fs (λ name. fs name ++ cuts_of ((id, f) ∷ []) name z x y) (λ name. no_cut_of_name id f z x y name (fs name) none)
