use Rattle.std.proofs.Common.{◌-◌, List, length, take, Some, sym, ap, ◌≡◌, ◌∙◌}
use Rattle.std.specs.List.{slice_get}
use Rattle.pm_directory.specs.declared.entry.DirectoryEntry.{DirectoryEntry}
use Rattle.pm_directory.proofs.Ascending.{up_to_id}
use Rattle.pm_directory.proofs.lookup.find.Goals as goal

pub leads_to-requires : goal.leads_to-requires
leads_to-requires c =
    let front = take c.count_up_to.result c.args.entries.now in
    let last : slice_get front (length front - 1) ≡ Some c.in_ok-entry.field-0.now = sym c.in_ok-entry.ensures.value in
    up_to_id c.args.id c.args.entries.now (length front - 1) c.in_ok-entry.field-0.now
    (ap (λ (es : List DirectoryEntry). slice_get es (length front - 1)) c.count_up_to.ensures.front ∙ last)
