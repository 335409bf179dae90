use Rattle.std.proofs.Common.{sym, ◌∙◌}
use Rattle.http_values.proofs.Ends.{read_position}
use Rattle.http_values.proofs.positions.position_in.Goals as goal

pub returns : goal.returns
returns c = read_position c.args.text.now c.digits_number.result (sym c.is_numeral.ensures ∙ c.if-not-is_numeral.false) c.digits_number.ensures
