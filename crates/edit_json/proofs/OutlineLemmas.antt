-- The members of a feature's object, in order.
use Rattle.std.proofs.Common.{◌≡◌}
use Rattle.serde_json.specs.Data.{Data, object, number, unsigned, Members, no_members, member}
use Rattle.edit_json.specs.Json.{name_bytes, OutlineData, outline_json}

-- what follows the members `geometry` and `layer`
pub third_member : (m0 m1 m2 : Members) (g l : Data) (o : OutlineData)
    → m0 ≡ member (name_bytes "geometry") g m1 → m1 ≡ member (name_bytes "layer") l m2 → object m0 ≡ outline_json o
    → m2 ≡ member (name_bytes "maxzoom") (number (unsigned o.maxzoom))
    (member (name_bytes "minzoom") (number (unsigned o.minzoom)) (member (name_bytes "tags") (object o.tags) no_members))
third_member m0 m1 m2 g l o a b e = cc

-- what follows `maxzoom`
pub fourth_member : (m0 m1 m2 m3 : Members) (g l x : Data) (o : OutlineData)
    → m0 ≡ member (name_bytes "geometry") g m1 → m1 ≡ member (name_bytes "layer") l m2
    → m2 ≡ member (name_bytes "maxzoom") x m3 → object m0 ≡ outline_json o
    → m3 ≡ member (name_bytes "minzoom") (number (unsigned o.minzoom)) (member (name_bytes "tags") (object o.tags) no_members)
fourth_member m0 m1 m2 m3 g l x o a b c e = let k = third_member m0 m1 m2 g l o a b e in cc
