use Rattle.std.proofs.Common.{◌++◌, ◌-◌, ◌≡◌, List, ℕ, sym, ◌∙◌, ap, subst, arith, length, take, drop, length-drop}
use Rattle.std.proofs.Math.Seq.{take-add}
use Rattle.std.proofs.lemmas.List.{take_all}
use Rattle.std.specs.Io.KnownBytes.{Appends}
use Rattle.http_serve.proofs.KnownLemmas.{Appends-then}
use Rattle.http_serve.proofs.writes.send_all.Goals as goal

pub loop-at-preserved : goal.loop-at-preserved
loop-at-preserved g c =
    let bytes = c.args.bytes.now in
    let at = c.loop-at.at in
    let rest = drop at bytes in
    let all : take (length bytes - at) rest ≡ rest = take_all (length bytes - at) rest (omega (arith, length-drop at bytes)) in
    let bound = c.in-Ok.ensures.bound in
    record {
      within = omega (arith, ap length all, length-drop at bytes);
      written =
          let P : List ℕ → Type 0 = λ t. Appends (g.W.Write.contents c.args.writer.now) (g.W.Write.contents c.write.new.self) t in
          let went = c.in-Ok.ensures.bytes in
          subst P (ap (λ (t : List ℕ). take at bytes ++ take c.in-Ok.count t) all ∙ sym (take-add at c.in-Ok.count bytes))
          (Appends-then _ _ _ (take at bytes) _ c.loop-at.invariant.written went);
    }
