use Rattle.std.proofs.Common.{rules}
use Rattle.pm_directory.proofs.Sizes.{directory_short}
use Rattle.pm_directory.proofs.Written.{parts_are, is_directory}
use Rattle.pm_directory.proofs.writing.write_directory.Goals as goal

pub returns-clause-spelling : goal.returns-clause-spelling
returns-clause-spelling c =
    rw (
      c.in_ok-put_offsets.ensures,
      c.in_ok-put_lengths.ensures,
      c.in_ok-put_runs.ensures,
      c.in_ok-put_deltas.ensures,
      c.in_ok-put_varint.ensures.ok,
      c.new-bytes.ensures.items,
    ) (parts_are c.args.entries.now)

pub returns-clause-directory : goal.returns-clause-directory
returns-clause-directory c =
    let es = c.args.entries.now in
    rw (returns-clause-spelling c) (is_directory es (search rules) c.requires.ascending c.requires.each c.requires.ends)

pub returns-clause-size : goal.returns-clause-size
returns-clause-size c = λ few.
    rw (returns-clause-spelling c) (directory_short c.args.entries.now few c.requires.each)
