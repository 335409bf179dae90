-- Tiles of one zoom, column and row are one.
use Rattle.std.proofs.Common.{◌≡◌, ℕ, ◌<◌, ◌≤◌, ◌^◌, subst, ap, ◌∙◌}
use Rattle.std.proofs.Math.Bridge.{le_prop}
use Rattle.hilbert_id.specs.declared.tile_at.TileAt.{TileAt}

abbrev tile : (z x y : ℕ) → z ≤ 31 → x < 2 ^ z → y < 2 ^ z → TileAt
tile z x y zoom column row = record { z = z; x = x; y = y; zoom = zoom; column = column; row = row }

same_facts : (z x y : ℕ) (a d : z ≤ 31) (b e : x < 2 ^ z) (c f : y < 2 ^ z) → tile z x y a b c ≡ tile z x y d e f
same_facts z x y a d b e c f =
    let one_zoom : IsProp (z ≤ 31) = le_prop in
    let one_column : IsProp (x < 2 ^ z) = le_prop in
    let one_row : IsProp (y < 2 ^ z) = le_prop in
    ap (λ (q : z ≤ 31). tile z x y q b c) (one_zoom a d)
    ∙ ap (λ (q : x < 2 ^ z). tile z x y d q c) (one_column b e)
    ∙ ap (λ (q : y < 2 ^ z). tile z x y d e q) (one_row c f)

pub same_tile : (s t : TileAt) → s.z ≡ t.z → s.x ≡ t.x → s.y ≡ t.y → s ≡ t
same_tile s t ez ex ey =
    subst (λ (z : ℕ). (a : z ≤ 31) (b : t.x < 2 ^ z) (c : t.y < 2 ^ z) → s ≡ tile z t.x t.y a b c) ez
    (subst (λ (x : ℕ). (a : s.z ≤ 31) (b : x < 2 ^ s.z) (c : t.y < 2 ^ s.z) → s ≡ tile s.z x t.y a b c) ex
    (subst (λ (y : ℕ). (a : s.z ≤ 31) (b : s.x < 2 ^ s.z) (c : y < 2 ^ s.z) → s ≡ tile s.z s.x y a b c) ey
    (λ a b c. same_facts s.z s.x s.y s.zoom a s.column b s.row c)))
    t.zoom t.column t.row
