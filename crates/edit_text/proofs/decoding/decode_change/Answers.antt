use Rattle.std.proofs.Common.{length, sym, ap, ◌∙◌}
use Rattle.feature_model.specs.Spelled.{spelled_change}
use Rattle.edit_text.proofs.TrustedChanges.{begins_types, change_shown}
use Rattle.edit_text.proofs.decoding.decode_change.Goals as goal

pub to_change-requires : goal.to_change-requires
to_change-requires c = let found = c.in_ok-len.ensures.found in begins_types c.args.bytes.now found.0 found.1

pub returns-clause-found : goal.returns-clause-found
returns-clause-found c =
    let found = c.in_ok-len.ensures.found in
    rw (c.in_ok-change.ensures ∙ change_shown c.args.bytes.now found.0 found.1) found.1

pub returns-clause-len : goal.returns-clause-len
returns-clause-len c =
    let found = c.in_ok-len.ensures.found in
    found.2 ∙ ap (λ d. length (spelled_change d)) (sym (c.in_ok-change.ensures ∙ change_shown c.args.bytes.now found.0 found.1))

pub returns-clause-only : goal.returns-clause-only
returns-clause-only c = λ d begins. c.in_ok-change.ensures ∙ change_shown c.args.bytes.now d begins
