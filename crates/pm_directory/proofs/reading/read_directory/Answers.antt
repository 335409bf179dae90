use Rattle.pm_directory.proofs.DirectoryLaws.{found_clause, only_clause, fault_clause}
use Rattle.pm_directory.proofs.reading.read_directory.Goals as goal

pub returns-clause-found : goal.returns-clause-found
returns-clause-found c = found_clause (λ v. v.items) c.args.bytes.now c.entries_in.result c.entries_in.ensures.exact

pub returns-clause-only : goal.returns-clause-only
returns-clause-only c = only_clause (λ v. v.items) c.args.bytes.now c.entries_in.result c.entries_in.ensures.exact

pub returns-clause-fault : goal.returns-clause-fault
returns-clause-fault c = fault_clause (λ v. v.items) c.args.bytes.now c.entries_in.result c.entries_in.ensures.exact
