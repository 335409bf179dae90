-- What is packed, piece by piece.
use Rattle.std.proofs.Common.{◌≡◌, ℕ, Bool, List, [], ◌∷◌, ◌++◌, length, refl, sym, ap, ◌∙◌, append_assoc}
use Rattle.std.specs.List.{flat_map}
use Rattle.std.proofs.lemmas.Grind.{flat_map-append}
use Rattle.std.proofs.lemmas.List.{append-nil}
use Rattle.pb_wire.specs.Varint.{varint}
use Rattle.geometry_commands.specs.declared.point.Pt.{Pt}
use Rattle.geometry_commands.specs.declared.packed.PackedShape.{PackedShape}
use Rattle.geometry_commands.specs.Commands.{command, step, steps}
use Rattle.geometry_commands.specs.Faulty.{end_of}
use Rattle.geometry_commands.specs.Packed.{Adds}
use Rattle.geometry_commands.specs.Shapes.{last_of, close_spelled, line_spelled, lines_spelled}

-- ---- lists one after the other

pub steps_append : (from : Pt) (ps qs : List Pt) → steps from (ps ++ qs) ≡ steps from ps ++ steps (last_of from ps) qs
steps_append from [] qs = refl
steps_append from (p ∷ ps) qs =
    ap (λ (r : List ℕ). step from p ++ r) (steps_append p ps qs) ∙ sym (append_assoc (step from p) (steps p ps) (steps (last_of p ps) qs))

pub last_append : (from : Pt) (ps qs : List Pt) → last_of from (ps ++ qs) ≡ last_of (last_of from ps) qs
last_append from [] qs = refl
last_append from (p ∷ ps) qs = last_append p ps qs

pub lines_append : (closed : Bool) (from : Pt) (ls ms : List (List Pt))
    → lines_spelled closed from (ls ++ ms) ≡ lines_spelled closed from ls ++ lines_spelled closed (end_of from ls) ms
unfolding lines_spelled
lines_append closed from [] ms = refl
lines_append closed from (l ∷ ls) ms =
    ap (λ (r : List ℕ). line_spelled closed from l ++ r) (lines_append closed (last_of from l) ls ms)
    ∙ sym (append_assoc (line_spelled closed from l) (lines_spelled closed (last_of from l) ls) (lines_spelled closed (end_of (last_of from l) ls) ms))

pub end_append : (from : Pt) (ls ms : List (List Pt)) → end_of from (ls ++ ms) ≡ end_of (end_of from ls) ms
end_append from [] ms = refl
end_append from (l ∷ ls) ms = end_append (last_of from l) ls ms

-- one point more
pub steps_push : (from : Pt) (ps : List Pt) (q : Pt) → steps from (ps ++ q ∷ []) ≡ steps from ps ++ step (last_of from ps) q
steps_push from ps q = steps_append from ps (q ∷ []) ∙ ap (λ (r : List ℕ). steps from ps ++ r) (append-nil (step (last_of from ps) q))

-- ---- bytes one after the other

-- the bytes of numbers after the bytes of others
pub packed_more : (out more : List ℕ) (front ns ms : List ℕ) → out ≡ front ++ flat_map varint ns → more ≡ out ++ flat_map varint ms
    → more ≡ front ++ flat_map varint (ns ++ ms)
packed_more out more front ns ms e f =
    f ∙ ap (λ (r : List ℕ). r ++ flat_map varint ms) e ∙ append_assoc front (flat_map varint ns) (flat_map varint ms)
    ∙ ap (λ (r : List ℕ). front ++ r) (sym (flat_map-append varint ns ms))

-- the pieces of a line are the line
pub line_packed : (closed : Bool) (from p : Pt) (ps line : List Pt) (m d : ℕ) (out moved first drawn others : List ℕ) → line ≡ p ∷ ps → m ≡ command 1 1
    → d ≡ command 2 (length ps) → moved ≡ out ++ varint m → first ≡ moved ++ flat_map varint (step from p) → drawn ≡ first ++ varint d
    → others ≡ drawn ++ flat_map varint (steps p ps)
    → others ++ flat_map varint (close_spelled closed) ≡ out ++ flat_map varint (line_spelled closed from line)
unfolding line_spelled
line_packed closed from p ps line m d out moved first drawn others e em ed e1 e2 e3 e4 =
    rw (e, e4, e3, e2, e1, em, ed, flat_map-append varint (steps p ps) (close_spelled closed)) (simp append_assoc)

-- ---- lines one after the other

pub adds_none : (closed : Bool) (p : PackedShape) → Adds closed p p []
unfolding lines_spelled
adds_none closed p = record { bytes = sym (append-nil p.bytes.items); at = refl }

pub adds_both : (closed : Bool) (a b c : PackedShape) (ls ms : List (List Pt)) → Adds closed a b ls → Adds closed b c ms → Adds closed a c (ls ++ ms)
adds_both closed a b c ls ms one two = record {
  bytes = packed_more b.bytes.items c.bytes.items a.bytes.items (lines_spelled closed a.at ls) (lines_spelled closed (end_of a.at ls) ms) one.bytes
      (two.bytes ∙ ap (λ (p : Pt). b.bytes.items ++ flat_map varint (lines_spelled closed p ms)) one.at)
      ∙ ap (λ (r : List ℕ). a.bytes.items ++ flat_map varint r) (sym (lines_append closed a.at ls ms));
  at = two.at ∙ ap (λ (p : Pt). end_of p ms) one.at ∙ sym (end_append a.at ls ms);
}

-- one line more
pub adds_line : (closed : Bool) (a b : PackedShape) (l : List Pt) → b.bytes.items ≡ a.bytes.items ++ flat_map varint (line_spelled closed a.at l)
    → b.at ≡ last_of a.at l → Adds closed a b (l ∷ [])
unfolding lines_spelled
adds_line closed a b l bytes at = record {
  bytes = bytes ∙ ap (λ (r : List ℕ). a.bytes.items ++ flat_map varint r) (sym (append-nil (line_spelled closed a.at l)));
  at = at;
}
