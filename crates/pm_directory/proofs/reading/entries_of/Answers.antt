use Rattle.std.proofs.Common.{sym, arith}
use Rattle.std.proofs.lemmas.Result.{err_from_is_err_and}
use Rattle.pm_directory.proofs.Steps.{entries_on, entries_stop, entries_done}
use Rattle.pm_directory.proofs.reading.entries_of.Goals as goal

pub returns-in_err-entry-clause-exact : goal.returns-in_err-entry-clause-exact
returns-in_err-entry-clause-exact c =
    let p = err_from_is_err_and c.from_residual-in_err-entry.result c.from_residual-in_err-entry.ensures.1 in
    rw (p.1, p.2) (λ _. entries_stop c.args.deltas.now c.args.runs.now c.args.lengths.now c.args.offsets.now c.loop-i.before c.loop-i.entries.items c.loop-i.i
    c.in_err-entry.field-0.0 _ (omega arith) c.requires.runs c.requires.lengths c.requires.offsets (sym c.in_err-entry.ensures) c.loop-i.invariant.read)

pub loop-i-preserved : goal.loop-i-preserved
loop-i-preserved c = record {
  read = rw c.push_reserved.ensures.items (entries_on c.args.deltas.now c.args.runs.now c.args.lengths.now c.args.offsets.now c.loop-i.before
      c.loop-i.entries.items c.loop-i.i c.in_ok-entry.entry _ (omega arith) c.requires.runs c.requires.lengths c.requires.offsets (sym c.in_ok-entry.ensures)
      c.loop-i.invariant.read);
  long = omega (arith, c.loop-i.invariant.long, c.push_reserved.ensures.len);
  room = omega (arith, c.loop-i.invariant.room, c.push_reserved.ensures.capacity);
}

pub returns-clause-exact : goal.returns-clause-exact
returns-clause-exact c = entries_done c.args.deltas.now c.args.runs.now c.args.lengths.now c.args.offsets.now c.loop-i.before c.loop-i.entries.items
    c.loop-i.i _ (omega arith) c.loop-i.invariant.read
