use Rattle.std.proofs.Common.{◌≡◌, ◌∙◌, refl, arith, ap, length, sym, subst, [], ℕ, ◌+◌, ◌-◌, ◌*◌}
use Rattle.std.specs.Prelude.{Result}
use Rattle.http_serve.specs.Buffers.{buffer_size}
use Rattle.http_serve.specs.Told.{LosesAtMost, KeepsTurns}
use Rattle.http_serve.specs.declared.connection.Served.{Served}
use Rattle.http_serve.specs.declared.connection.ServeFault.{ServeFault}
use Rattle.http_serve.proofs.ServeLemmas.{SoFar_start, SoFar_stops, SoFar_failed_read, SoFar_goes, SoFar_told, SoFar_broken, SoFar_done, SoFar_failed, if_ok}
use Rattle.http_serve.proofs.ExitLemmas.{exit_no_value, exit_is, exit_fault}
use Rattle.http_serve.proofs.ServeLemmas.{broken_reads}
use Rattle.http_serve.proofs.ServeLemmas.{if_err, adds_none, adds_one, adds_all, most_start, most_more, most_last, other_turns}
use Rattle.http_serve.proofs.ServeLemmas.{finished_turns, finished_reads, unfinished_content}
use Rattle.http_serve.proofs.serving.serve_session.Goals as goal

pub loop-turn-init : goal.loop-turn-init
loop-turn-init g c = record {
  sent = c.begin.ensures.output;
  within = omega arith;
  reads = adds_none g.R.Read.remaining c.args.reader.now;
  most = most_start (g.R.Read.remaining c.args.reader.now) _;
  few = omega (arith, ap length c.begin.ensures.input);
  so_far = SoFar_start g.H.Handler.replies _ _ _ _ c.begin.ensures.input;
}

pub returns-in-Ended-clause-served : goal.returns-in-Ended-clause-served
returns-in-Ended-clause-served g c =
    let came = c.in-Ok.ensures.ok in
    let pause = rw c.in-Ended.is at c.in_ok-served.ensures.ok in
    SoFar_told g.H.Handler.replies _ _ _ _ _ _ c.loop-turn.requests _ _ c.loop-turn.invariant.so_far came.0 _ came.1 _ _ _ came.2
    c.in-Ended.served pause.0 pause.1 pause.2 pause.3

pub returns-in_err-served-clause-fault : goal.returns-in_err-served-clause-fault
returns-in_err-served-clause-fault g c =
    let came = c.in-Ok.ensures.ok in
    let fault = c.in_err-served.field-0.0 in
    let same = exit_is c.from_residual.result fault c.from_residual.ensures.1 in
    rw same (SoFar_broken g.H.Handler.replies _ _ _ _ _ _ c.loop-turn.requests _ _ c.loop-turn.invariant.so_far came.0 _ came.1 _ _ _ came.2
    g.H.Handler.fails fault c.in_err-served.ensures.err)

pub returns-in_default-clause-fault : goal.returns-in_default-clause-fault
returns-in_default-clause-fault g c =
    SoFar_failed_read g.H.Handler.replies _ _ _ _ _ _ c.loop-turn.requests _ _ c.loop-turn.invariant.so_far _ c.in_default.ensures.err.0

pub returns-clause-served : goal.returns-clause-served
returns-clause-served g c = SoFar_stops g.H.Handler.replies _ _ _ _ _ _ c.loop-turn.requests _ _ c.loop-turn.invariant.so_far

pub loop-turn-preserved : goal.loop-turn-preserved
loop-turn-preserved g c =
    let came = c.in-Ok.ensures.ok in
    let pause = rw c.in-More.is at c.in_ok-served.ensures.ok in
    record {
      sent = c.in_ok-served.ensures.all;
      within = let below = c.loop-turn-test.true in omega arith;
      reads =
          let few = c.in-Ok.ensures.few in
          adds_one g.R.Read.remaining c.loop-turn._turn c.args.reader.now _ _ c.in-Ok.count came.0 c.loop-turn.invariant.reads
          came.1 came.3 c.if-count-eq0.false few;
      most =
          let few = c.in-Ok.ensures.few in
          most_more (g.R.Read.remaining c.args.reader.now) _ _ (c.loop-turn._turn * buffer_size) ((c.loop-turn._turn + 1) * buffer_size)
          c.in-Ok.count came.0 c.loop-turn.invariant.most came.1 came.3 (omega arith);
      few = pause.1;
      so_far =
          SoFar_goes g.H.Handler.replies _ _ _ _ _ _ c.loop-turn.requests _ _ c.loop-turn.invariant.so_far came.0 _ came.1 _ _ _ came.2
          _ c.in-More.answered pause.2 c.in-More.rejection pause.0 pause.3 pause.4;
    }

pub returns-then-count-eq0-clause-served : goal.returns-then-count-eq0-clause-served
returns-then-count-eq0-clause-served g c =
    let came = c.in-Ok.ensures.ok in
    let ends = c.finish.ensures.ends c.loop-turn.invariant.so_far.head c.loop-turn.invariant.so_far.bare in
    if_ok c.finish.result _ _
    (SoFar_done g.H.Handler.replies _ _ _ _ _ _ c.loop-turn.requests _ _ c.loop-turn.invariant.so_far _ came.0 _ _ _ came.1 came.2 came.3
    c.if-count-eq0.true came.4) ends

pub returns-then-count-eq0-clause-fault : goal.returns-then-count-eq0-clause-fault
returns-then-count-eq0-clause-fault g c =
    let came = c.in-Ok.ensures.ok in
    let failed = c.finish.ensures.fault c.loop-turn.invariant.so_far.head c.loop-turn.invariant.so_far.bare in
    if_err c.finish.result _ _
    (SoFar_failed g.H.Handler.replies _ _ _ _ _ _ c.loop-turn.requests _ _ c.loop-turn.invariant.so_far _ came.0 _ _ _ came.1 came.2 came.3
    c.if-count-eq0.true g.H.Handler.fails came.4) failed

pub returns-then-count-eq0-clause-turns : goal.returns-then-count-eq0-clause-turns
returns-then-count-eq0-clause-turns g c =
    if_ok c.finish.result _ _ (λ served. finished_turns g.R.Read.remaining c.args.turns _ _ _ _ _ _ _ served _)
    (c.finish.ensures.ends c.loop-turn.invariant.so_far.head c.loop-turn.invariant.so_far.bare)

pub returns-clause-turns : goal.returns-clause-turns
returns-clause-turns g c = adds_all g.R.Read.remaining c.loop-turn._turn c.args.turns c.args.reader.now c.loop-turn.reader c.loop-turn.invariant.reads
    c.loop-turn.invariant.within c.loop-turn-test.false

pub returns-in-Ended-clause-turns : goal.returns-in-Ended-clause-turns
returns-in-Ended-clause-turns g c =
    let pause = rw c.in-Ended.is at c.in_ok-served.ensures.ok in
    other_turns g.R.Read.remaining c.args.turns _ _ c.in-Ended.served.end pause.3

pub returns-then-count-eq0-clause-reads : goal.returns-then-count-eq0-clause-reads
returns-then-count-eq0-clause-reads g c =
    let came = c.in-Ok.ensures.ok in
    finished_reads c.args.turns _ _ _ _ _ _ _ c.finish.result _
    (most_last (g.R.Read.remaining c.args.reader.now) _ _ c.loop-turn._turn c.args.turns c.in-Ok.count came.0 c.loop-turn.invariant.most
    came.1 came.3 c.in-Ok.ensures.few c.loop-turn-test.true)
    (c.finish.ensures.fault c.loop-turn.invariant.so_far.head c.loop-turn.invariant.so_far.bare)

pub returns-then-count-eq0-clause-content : goal.returns-then-count-eq0-clause-content
returns-then-count-eq0-clause-content g c =
    if_err c.finish.result _ _ (λ fault. unfinished_content _ _ _ _ _ _ fault _)
    (c.finish.ensures.fault c.loop-turn.invariant.so_far.head c.loop-turn.invariant.so_far.bare)

pub returns-in-Ended-clause-reads : goal.returns-in-Ended-clause-reads
returns-in-Ended-clause-reads g c =
    let came = c.in-Ok.ensures.ok in
    most_last (g.R.Read.remaining c.args.reader.now) _ _ c.loop-turn._turn c.args.turns c.in-Ok.count came.0 c.loop-turn.invariant.most
    came.1 came.3 c.in-Ok.ensures.few c.loop-turn-test.true

pub read_from-requires : goal.read_from-requires
read_from-requires g c = c.loop-turn.invariant.few

pub returns-in_default-clause-reads : goal.returns-in_default-clause-reads
returns-in_default-clause-reads g c =
    let below = c.loop-turn-test.true in
    most_more (g.R.Read.remaining c.args.reader.now) _ _ (c.loop-turn._turn * buffer_size) ((c.args.turns - 1) * buffer_size)
    0 [] c.loop-turn.invariant.most c.in_default.ensures.err.0 refl (omega (arith, below))

pub returns-then-count-eq0-clause-no_memory : goal.returns-then-count-eq0-clause-no_memory
returns-then-count-eq0-clause-no_memory g c = c.finish.ensures.no_memory

pub returns-in_err-served-clause-served : goal.returns-in_err-served-clause-served
returns-in_err-served-clause-served g c = exit_no_value c.from_residual.result _ _ c.from_residual.ensures.1

pub returns-in_err-served-clause-content : goal.returns-in_err-served-clause-content
returns-in_err-served-clause-content g c =
    exit_fault c.from_residual.result _ c.in_err-served.field-0.0 c.from_residual.ensures.1 c.in_err-served.ensures.content

pub returns-in_err-served-clause-no_memory : goal.returns-in_err-served-clause-no_memory
returns-in_err-served-clause-no_memory g c =
    exit_fault c.from_residual.result _ c.in_err-served.field-0.0 c.from_residual.ensures.1 c.in_err-served.ensures.no_memory

pub returns-in_err-served-clause-turns : goal.returns-in_err-served-clause-turns
returns-in_err-served-clause-turns g c = exit_no_value c.from_residual.result _ _ c.from_residual.ensures.1

pub returns-in_err-served-clause-reads : goal.returns-in_err-served-clause-reads
returns-in_err-served-clause-reads g c =
    let came = c.in-Ok.ensures.ok in
    let fault = c.in_err-served.field-0.0 in
    let lost = most_last (g.R.Read.remaining c.args.reader.now) _ _ c.loop-turn._turn c.args.turns c.in-Ok.count came.0 c.loop-turn.invariant.most
    came.1 came.3 c.in-Ok.ensures.few c.loop-turn-test.true in
    subst (λ (r : Result Served ServeFault). KeepsTurns c.args.turns r (g.R.Read.remaining c.args.reader.now) (g.R.Read.remaining c.read_from.new.reader))
    (sym (exit_is c.from_residual.result fault c.from_residual.ensures.1))
    (broken_reads g.H.Handler.replies g.H.Handler.fails _ _ _ _ fault _ _ c.args.turns _ _ lost c.in_err-served.ensures.err)

pub returns-clause-reads : goal.returns-clause-reads
returns-clause-reads g c =
    let within = c.loop-turn.invariant.within in
    let over = c.loop-turn-test.false in
    let same : c.loop-turn._turn ≡ c.args.turns = omega (arith, within, over) in
    subst (λ (n : ℕ). LosesAtMost (n * buffer_size) (g.R.Read.remaining c.args.reader.now) (g.R.Read.remaining c.loop-turn.reader))
    same c.loop-turn.invariant.most

pub answer_read-requires : goal.answer_read-requires
answer_read-requires g c = record {
  sent = c.in-Ok.ensures.output ∙ c.loop-turn.invariant.sent;
  reserved = c.read_from.new.self.reserved;
  space = let len = c.read_from.new.self.space in omega (arith, len);
}

pub finish-requires : goal.finish-requires
finish-requires g c = record { sent = c.in-Ok.ensures.output ∙ c.loop-turn.invariant.sent; reserved = c.read_from.new.self.reserved }

pub invariant_of-session : goal.invariant_of-session
invariant_of-session g c = record {
  reserved = c.finish.ensures.reserved ∙ c.read_from.new.self.reserved;
  space = c.read_from.new.self.space;
}
