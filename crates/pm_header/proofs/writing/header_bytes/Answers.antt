use Rattle.std.proofs.Common.{◌≡◌, take, sym, ◌∙◌, rules, arith}
use Rattle.std.proofs.lemmas.List.{take_all}
use Rattle.pm_header.specs.declared.header.TheConstants.{HEADER_BYTES}
use Rattle.pm_header.proofs.Fields.{HeaderFits, is_laid_out, on, on_part, on_4}
use Rattle.pm_header.proofs.writing.header_bytes.Goals as goal

pub returns : goal.returns
returns c =
    let h = c.args.header in
    let bytes = c.put_position-6.new.bytes in
    let fits : HeaderFits h = record {
      root = (search rules, search rules);
      metadata = (search rules, search rules);
      leaves = (search rules, search rules);
      tiles = (search rules, search rules);
      addressed = search rules;
      entries = search rules;
      contents = search rules;
      min_lon = search rules;
      min_lat = search rules;
      max_lon = search rules;
      max_lat = search rules;
      centre_lon = search rules;
      centre_lat = search rules;
    } in
    let whole : take HEADER_BYTES bytes ≡ bytes = take_all HEADER_BYTES bytes (omega arith) in
    is_laid_out h bytes fits (sym whole
    ∙ on_4 h.centre_lat fits.centre_lat c.put_position-6.ensures
    (on_4 h.centre_lon fits.centre_lon c.put_position-5.ensures
    (on _ c.put-5.ensures
    (on_4 h.max_lat fits.max_lat c.put_position-4.ensures
    (on_4 h.max_lon fits.max_lon c.put_position-3.ensures
    (on_4 h.min_lat fits.min_lat c.put_position-2.ensures
    (on_4 h.min_lon fits.min_lon c.put_position.ensures
    (on _ c.put-4.ensures
    (on _ c.put-3.ensures
    (on _ c.put_number-3.ensures
    (on _ c.put_number-2.ensures
    (on _ c.put_number.ensures
    (on_part _ _ c.put_part-4.ensures
    (on_part _ _ c.put_part-3.ensures
    (on_part _ _ c.put_part-2.ensures
    (on_part _ _ c.put_part.ensures
    (on _ c.put-2.ensures c.put.ensures)))))))))))))))))
