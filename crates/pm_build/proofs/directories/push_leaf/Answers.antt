use Rattle.std.proofs.Common.{refl, arith}
use Rattle.std.proofs.lemmas.List.{length-append}
use Rattle.pm_directory.proofs.Sizes.{directory_some}
use Rattle.pm_build.proofs.Leaves.{leaf_pushed, starts}
use Rattle.pm_build.proofs.directories.push_leaf.Goals as goal

pub returns-clause-leaves : goal.returns-clause-leaves
returns-clause-leaves c = λ before h.
    let es = c.args.entries.now in
    let piece = c.in_ok-bytes.bytes.items in
    let bytes = c.args.leaves.now.bytes.items in
    rw (c.in_ok-push.ensures.items, c.in_ok-extend_from_slice.ensures.items, c.deref.ensures.value)
    (leaf_pushed bytes piece c.args.leaves.now.names.items before es _ h
    record { first = starts es _ c.requires.some; run_is = refl; length_is = omega arith; offset_is = omega arith }
    c.in_ok-bytes.ensures.directory c.requires.each
    (rw c.in_ok-bytes.ensures.spelling (directory_some es)) (c.in_ok-bytes.ensures.size (omega arith)) c.requires.few
    (omega (arith, length-append bytes piece)))
