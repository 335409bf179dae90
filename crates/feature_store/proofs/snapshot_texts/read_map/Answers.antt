use Rattle.std.proofs.Common.{◌<◌, inr, length, refl, ap, arith}
use Rattle.std.proofs.lemmas.List.{length-append}
use Rattle.std.proofs.lemmas.List.Elements.{All-nil}
use Rattle.std.proofs.lemmas.Result.{err_from_is_err_and}
use Rattle.feature_model.specs.Data.{put}
use Rattle.edit_text.proofs.Laws.{long_from}
use Rattle.feature_store.specs.Store.{entry_text, snapshot}
use Rattle.feature_store.proofs.Snapshots.{something_left, not_read, not_behind, none_read, one_read, end_behind}
use Rattle.feature_store.proofs.snapshot_texts.read_map.Goals as goal

pub loop-rest-init : goal.loop-rest-init
loop-rest-init c =
    rw c.without_index-store.ensures record { read = none_read c.args.text.now; end = λ id. (λ least. All-nil (λ e. e.0 < id), λ behind. omega arith) }

pub returns-in_err-stored-clause-fault : goal.returns-in_err-stored-clause-fault
returns-in_err-stored-clause-fault c =
    let p = err_from_is_err_and c.from_residual.result c.from_residual.ensures.1 in
    let fault = not_read _ c.loop-rest.rest.now c.args.text.now c.in_err-stored.field-0.0 c.loop-rest.invariant.read
    (something_left _ _ c.is_empty.ensures c.loop-rest-test.true) c.in_err-stored.ensures.fault in
    rw (p.1, p.2) fault

pub append-requires-clause-behind : goal.append-requires-clause-behind
append-requires-clause-behind c = (c.loop-rest.invariant.end c.in_ok-stored.stored.0).0 (omega (arith, c.if-id-end.false))

pub append-requires-clause-texts : goal.append-requires-clause-texts
append-requires-clause-texts c =
    omega (
      arith,
      c.requires,
      ap length c.loop-rest.invariant.read.whole,
      length-append (snapshot c.loop-rest.store.features) c.loop-rest.rest.now,
      ap length c.in_ok-stored.ensures.text,
      length-append (entry_text (c.in_ok-stored.stored)) c.in_ok-stored.behind.now,
    )

pub loop-rest-preserved : goal.loop-rest-preserved
loop-rest-preserved c =
    let entry = c.in_ok-stored.stored in
    let behind = (c.loop-rest.invariant.end entry.0).0 (omega (arith, c.if-id-end.false)) in
    rw (c.in_ok-append.ensures, c.id-id.ensures.number) record {
      read =
          one_read c.loop-rest.store.features entry c.loop-rest.rest.now c.in_ok-stored.behind.now c.args.text.now c.loop-rest.invariant.read
          c.in_ok-stored.ensures.edit c.in_ok-stored.ensures.text behind;
      end = end_behind c.loop-rest.store.features entry behind;
    }

pub returns-then-id-end-clause-fault : goal.returns-then-id-end-clause-fault
returns-then-id-end-clause-fault c =
    inr (
      refl,
      not_behind _ (c.in_ok-stored.stored) c.loop-rest.rest.now c.in_ok-stored.behind.now c.args.text.now c.loop-rest.invariant.read
          c.in_ok-stored.ensures.edit c.in_ok-stored.ensures.text
          (λ behind. let least = (c.loop-rest.invariant.end c.in_ok-stored.stored.0).1 behind in omega (arith, c.if-id-end.true)),
    )

pub loop-rest-smaller : goal.loop-rest-smaller
loop-rest-smaller c =
    omega (
      arith,
      ap length c.in_ok-stored.ensures.text,
      length-append (entry_text (c.in_ok-stored.stored)) c.in_ok-stored.behind.now,
      long_from (put c.in_ok-stored.stored.0 c.in_ok-stored.stored.1),
    )
