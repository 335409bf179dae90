use Rattle.std.proofs.Common.{◌≡◌, ◌≢◌, Err, sym, ◌∙◌, rules}
use Rattle.edit_text.specs.Trusted.{byte_in}
use Rattle.edit_text.proofs.TrustedChanges.{in_put, in_delete, put_types, begins_put}
use Rattle.edit_text.proofs.owned.to_change.Goals as goal

pub returns-then-kind-ne-PUT_KIND : goal.returns-then-kind-ne-PUT_KIND
returns-then-kind-ne-PUT_KIND c =
    let other : (byte_in c.args.bytes.now).0 ≢ 1 = λ is. c.if-kind-ne-PUT_KIND.true (c.byte_in-kind.ensures.number ∙ is) in
    rw (c.number_in-id.ensures.number, c.byte_in-kind.ensures.rest) (sym (in_delete c.args.bytes.now other))

pub front-requires : goal.front-requires
front-requires c =
    let is : (byte_in c.args.bytes.now).0 ≡ 1 = sym c.byte_in-kind.ensures.number ∙ c.if-kind-ne-PUT_KIND.false in
    rw (c.number_in-id.ensures.rest, c.byte_in-kind.ensures.rest) (put_types c.args.bytes.now is c.requires)

pub returns-in_err-feature : goal.returns-in_err-feature
returns-in_err-feature c =
    let same : c.from_residual.result ≡ Err c.in_err-feature.field-0.0 = search rules in
    rw same (begins_put c.args.bytes.now (sym c.byte_in-kind.ensures.number ∙ c.if-kind-ne-PUT_KIND.false))

pub returns : goal.returns
returns c =
    let is : (byte_in c.args.bytes.now).0 ≡ 1 = sym c.byte_in-kind.ensures.number ∙ c.if-kind-ne-PUT_KIND.false in
    rw (c.in_ok-feature.ensures, c.front.ensures, c.number_in-id.ensures.number, c.number_in-id.ensures.rest, c.byte_in-kind.ensures.rest)
    (sym (in_put c.args.bytes.now is))
