use Rattle.std.proofs.Common.{◌≡◌, ◌++◌, take}
use Rattle.std.specs.List.{flat_map}
use Rattle.mvt_write.specs.Spans.{each_spanned}
use Rattle.mvt_write.specs.Written.{bytes_field}
use Rattle.mvt_write.proofs.entries.Entries.put_range.Given as goal

abbrev pub invariant-loop-span : goal.invariant-loop-span
invariant-loop-span l = l.out.items ≡ l.fn.out.items ++ flat_map (bytes_field l.number) (each_spanned l.self.bytes.items (take l.span-index l.span-items))
