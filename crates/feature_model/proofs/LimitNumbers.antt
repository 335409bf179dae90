-- The limits of features and edits, and the bytes of kinds, as numbers.
use Rattle.std.proofs.Common.{◌≡◌, refl}
use Rattle.feature_model.specs.declared.limits.TheConstants.{NUMBER_END, MAX_ZOOM, MAX_NAME_BYTES, MAX_ELEMENTS, MIN_LINE, MIN_RING}
use Rattle.feature_model.specs.declared.limits.TheConstants.{MAX_TAGS, MAX_TEXT_BYTES, MAX_EDIT_BYTES, MAX_CHANGES}
use Rattle.feature_model.specs.declared.kinds.TheConstants.{POINTS_KIND, LINES_KIND, POLYGONS_KIND, TEXT_KIND, NATURAL_KIND, NEGATIVE_KIND}
use Rattle.feature_model.specs.declared.kinds.TheConstants.{FALSE_KIND, TRUE_KIND, PUT_KIND, DELETE_KIND}

-- ---- limits

pub number_end_is : NUMBER_END ≡ 9223372036854775808
number_end_is = refl

pub max_zoom_is : MAX_ZOOM ≡ 19
max_zoom_is = refl

pub max_name_bytes_is : MAX_NAME_BYTES ≡ 64
max_name_bytes_is = refl

pub max_elements_is : MAX_ELEMENTS ≡ 65535
max_elements_is = refl

pub min_line_is : MIN_LINE ≡ 2
min_line_is = refl

pub min_ring_is : MIN_RING ≡ 3
min_ring_is = refl

pub max_tags_is : MAX_TAGS ≡ 64
max_tags_is = refl

pub max_text_bytes_is : MAX_TEXT_BYTES ≡ 1024
max_text_bytes_is = refl

pub max_edit_bytes_is : MAX_EDIT_BYTES ≡ 32768
max_edit_bytes_is = refl

pub max_changes_is : MAX_CHANGES ≡ 64
max_changes_is = refl

-- ---- kinds

pub points_kind_is : POINTS_KIND ≡ 1
points_kind_is = refl

pub lines_kind_is : LINES_KIND ≡ 2
lines_kind_is = refl

pub polygons_kind_is : POLYGONS_KIND ≡ 3
polygons_kind_is = refl

pub text_kind_is : TEXT_KIND ≡ 1
text_kind_is = refl

pub natural_kind_is : NATURAL_KIND ≡ 2
natural_kind_is = refl

pub negative_kind_is : NEGATIVE_KIND ≡ 3
negative_kind_is = refl

pub false_kind_is : FALSE_KIND ≡ 4
false_kind_is = refl

pub true_kind_is : TRUE_KIND ≡ 5
true_kind_is = refl

pub put_kind_is : PUT_KIND ≡ 1
put_kind_is = refl

pub delete_kind_is : DELETE_KIND ≡ 2
delete_kind_is = refl
