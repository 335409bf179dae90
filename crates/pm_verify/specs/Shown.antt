-- How a report is printed.
use Rattle.std.specs.Prelude.{ℕ, List, ◌++◌, codes, decimal}
use Rattle.pm_verify.specs.declared.report.Report.{Report}

-- its three counts in decimal digits, each with its name
abbrev pub report_text : Report → List ℕ
report_text r = decimal r.tiles ++ (codes " tiles, " ++ (decimal r.entries ++ (codes " entries, " ++ (decimal r.contents ++ codes " contents"))))
