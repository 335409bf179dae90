use Rattle.pm_build.proofs.Leaves.{names_ascend}
use Rattle.pm_build.proofs.directories.write_directories.Goals as goal

pub write_directory-requires-2-clause-ascending : goal.write_directory-requires-2-clause-ascending
write_directory-requires-2-clause-ascending c =
    let leaves = c.in_ok-leaves.leaves in
    rw c.deref.ensures.value (names_ascend 0 leaves.bytes.items leaves.names.items c.args.entries.now c.in_ok-leaves.ensures.leaves.named c.requires.ascending)
