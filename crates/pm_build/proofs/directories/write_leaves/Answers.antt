use Rattle.std.proofs.lemmas.Grind.{common_steps}
use Rattle.std.proofs.Common.{◌≡◌, ◌++◌, List, ◌∙◌, ap, append_assoc, arith}
use Rattle.std.proofs.lemmas.List.{take-append-drop, length-append}
use Rattle.pm_directory.specs.declared.entry.DirectoryEntry.{DirectoryEntry}
use Rattle.pm_directory.specs.Directory.{IsEntry, HasEnd}
use Rattle.pm_build.proofs.Leaves.{ascend_take, ascend_drop}
use Rattle.pm_build.proofs.Pieces.{all_drop}
use Rattle.pm_build.proofs.directories.write_leaves.Goals as goal

pub push_leaf-requires-clause-ascending : goal.push_leaf-requires-clause-ascending
push_leaf-requires-clause-ascending c = rw c.split_at.ensures.front (ascend_take c.min.result 0 c.loop-rest.rest.now c.loop-rest.invariant.ascending)

pub loop-rest-preserved : goal.loop-rest-preserved
loop-rest-preserved c =
    let i = c.loop-rest.invariant in
    let rest = c.loop-rest.rest.now in
    let leaf = c.split_at.result.0.now in
    let behind = c.split_at.result.1.now in
    let back = c.split_at.ensures.back in
    let joined : leaf ++ behind ≡ rest = rw (c.split_at.ensures.front, c.split_at.ensures.back) (take-append-drop c.min.result rest) in
    let size = length-append i.before leaf in
    record {
      ascending = rw back (ascend_drop c.min.result 0 rest i.ascending);
      each = rw back (all_drop IsEntry c.min.result rest i.each);
      ends = rw back (all_drop HasEnd c.min.result rest i.ends);
      before = i.before ++ leaf;
      parts = append_assoc i.before leaf behind ∙ ap (λ (es : List DirectoryEntry). i.before ++ es) joined ∙ i.parts;
      leaves = c.in_ok-push_leaf.ensures.leaves i.before i.leaves;
      few = omega (arith, c.in_ok-push_leaf.ensures.count, i.full c.loop-rest-test.true);
      full = λ some. omega (arith, c.in_ok-push_leaf.ensures.count, i.full c.loop-rest-test.true);
    }

pub push_leaf-requires-clause-each : goal.push_leaf-requires-clause-each
push_leaf-requires-clause-each c = grind (arith, common_steps)

pub push_leaf-requires-clause-ends : goal.push_leaf-requires-clause-ends
push_leaf-requires-clause-ends c = grind (arith, common_steps)

pub returns-clause-leaves : goal.returns-clause-leaves
returns-clause-leaves c = grind (arith, common_steps)

pub returns-clause-few : goal.returns-clause-few
returns-clause-few c = grind (arith, common_steps)
