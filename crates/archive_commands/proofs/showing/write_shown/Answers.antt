use Rattle.std.proofs.lemmas.Result.{err_from_is_err_and}
use Rattle.archive_commands.specs.Shown.{header_lines, metadata_line}
use Rattle.archive_commands.proofs.PutLaws.{puts_behind, part_before}
use Rattle.archive_commands.proofs.showing.write_shown.Goals as goal

pub returns : goal.returns
returns g c =
    puts_behind (g.W.Write.contents c.args.out.now) (g.W.Write.contents c.write_header.new.out) (g.W.Write.contents c.write_metadata.new.out)
    (header_lines c.args.header.now) (metadata_line c.args.metadata) c.write_metadata.result c.in_ok-write_header.ensures c.write_metadata.ensures

pub returns-in_err-write_header : goal.returns-in_err-write_header
returns-in_err-write_header g c =
    let p = err_from_is_err_and c.from_residual.result c.from_residual.ensures.1 in
    rw (p.1) (part_before (g.W.Write.contents c.args.out.now) (g.W.Write.contents c.write_header.new.out) (header_lines c.args.header.now)
    (metadata_line c.args.metadata) c.in_err-write_header.ensures)
