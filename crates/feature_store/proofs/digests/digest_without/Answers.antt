use Rattle.std.proofs.Common.{◌≡◌, sym, ap, subst, ◌∙◌}
use Rattle.std.specs.Prelude.{IfSome}
use Rattle.std.specs.Option.{option_copied, option_map}
use Rattle.feature_store.specs.Inside.{stored_data}
use Rattle.feature_store.proofs.DigestLemmas.{digest_without, digest_left}
use Rattle.feature_store.proofs.digests.digest_without.Goals as goal

pub returns-in-Some : goal.returns-in-Some
returns-in-Some c m id is own found =
    digest_without m id c.in-Some.stored.now c.args.digest c.entry_hash.result is
    (subst (λ o. IfSome (option_copied o) (λ s. s.0 ≡ id)) c.in-Some.is own)
    (sym (ap (λ o. option_map stored_data (option_copied o)) c.in-Some.is) ∙ found) c.entry_hash.ensures

pub returns-in-None : goal.returns-in-None
returns-in-None c m id is own found =
    is ∙ digest_left m id (sym found ∙ ap (λ o. option_map stored_data (option_copied o)) c.in-None.is)
