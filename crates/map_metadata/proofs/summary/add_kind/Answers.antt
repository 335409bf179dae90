use Rattle.std.proofs.Common.{if◌then◌else◌, ◌≡◌, None, Some, IsSome, refl, sym, ap, subst, ◌∙◌, arith}
use Rattle.std.specs.Option.{option_copied_mut}
use Rattle.std.specs.Str.{bytes_eq}
use Rattle.std.proofs.lemmas.Grind.{text_groups}
use Rattle.std.proofs.lemmas.Map.Text.{btree_map_updates_text}
use Rattle.map_metadata.specs.Summaries.{kind_at}
use Rattle.map_metadata.proofs.Added.{kind_met}
use Rattle.map_metadata.proofs.summary.add_kind.Goals as goal

pub returns-in-Some : goal.returns-in-Some
returns-in-Some c name =
    let key = c.args.key.now in
    let old = c.args.fields.now in
    let kind = c.joined.result in
    let new = c.get_mut.follows.lender kind in
    let found : Some c.in-Some.known.now ≡ kind_at old key = sym (ap option_copied_mut c.in-Some.is) ∙ c.get_mut.ensures.value in
    btree_map_updates_text key old new (Some kind) ((c.get_mut.follows.holds kind).3 (subst IsSome found refl)) name
    ∙ ap (λ k. if bytes_eq key name then Some k else kind_at old name) c.joined.ensures
    ∙ kind_met old key name c.in-Some.known.now c.args.kind found

pub returns : goal.returns
returns c name =
    let none : None ≡ kind_at c.args.fields.now c.args.key.now = sym (ap option_copied_mut c.in_default.is) ∙ c.get_mut.ensures.value in
    grind (arith, text_groups, none)
