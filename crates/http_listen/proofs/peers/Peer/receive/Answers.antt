use Rattle.std.proofs.Common.{◌≡◌, ◌++◌, ◌∙◌, [], ℕ, refl, sym, ap, subst, take, append-nil, arith, true, inl, inr}
use Rattle.std.proofs.lemmas.Grind.{common_steps}
use Rattle.std.specs.Prelude.{◌⊎◌, is_some}
use Rattle.http_serve.specs.Connections.{ConnectionView}
use Rattle.http_listen.specs.Courses.{course_of}
use Rattle.http_listen.specs.Talks.{Grows, HasEnded}
use Rattle.http_listen.proofs.StepLemmas.{none_read}
use Rattle.http_listen.proofs.peers.Peer.receive.Goals.{then-count-eq0, else-count-eq0+else-is_err}
use Rattle.http_listen.proofs.peers.Peer.receive.Goals as goal

pub returns-then-self-max_reads-clause-read : goal.returns-then-self-max_reads-clause-read
returns-then-self-max_reads-clause-read g c = none_read g.S.Talks.told c.args.self.now _

pub returns-then-input_len-gt0-clause-read : goal.returns-then-input_len-gt0-clause-read
returns-then-input_len-gt0-clause-read g c = none_read g.S.Talks.told c.args.self.now _

pub returns-then-is_err-clause-read : goal.returns-then-is_err-clause-read
returns-then-is_err-clause-read g c =
    let same : c.receive-else-count-eq0.new.self ≡ c.args.self.now.connection = grind (arith, common_steps) in
    let given = take c.in-Ok.count c.receive.new.buf in
    record {
      given = given;
      lost = given;
      grows = c.in-Ok.ensures.told;
      input = ap (λ (v : ConnectionView). v.input ++ given) same;
      output = ap (λ (v : ConnectionView). v.output) same;
      number = refl;
      drops = refl;
      course = refl;
      lossless = λ w. absurd w;
      ends = λ ended. inl ended;
    }

pub returns-in-Err-clause-read : goal.returns-in-Err-clause-read
returns-in-Err-clause-read g c =
    let told = g.S.Talks.told in
    let same = c.may_read_again.ensures in
    record {
      given = [];
      lost = [];
      grows = subst (λ s. Grows (told c.args.self.now.stream) [] [] (told s)) (sym same.stream) c.in-Err.ensures.told;
      input = ap (λ l. l ++ []) same.input;
      output = same.output;
      number = same.number;
      drops = ap is_some same.drops;
      course = same.course;
      lossless = λ _. refl;
      ends = λ ended. inl (sym same.ended ∙ ended);
    }

pub returns-in-Err-2-clause-read : goal.returns-in-Err-2-clause-read
returns-in-Err-2-clause-read g c =
    let told = g.S.Talks.told in
    let same = c.may_read_again.ensures in
    record {
      given = [];
      lost = [];
      grows = subst (λ s. Grows (told c.args.self.now.stream) [] [] (told s)) (sym same.stream) c.in-Err-2.ensures.told;
      input = ap (λ l. l ++ []) same.input;
      output = same.output;
      number = same.number;
      drops = ap is_some same.drops;
      course = same.course;
      lossless = λ _. refl;
      ends = λ ended. inl (sym same.ended ∙ ended);
    }

pub returns-clause-read : goal.returns-clause-read
returns-clause-read g c =
    let told = g.S.Talks.told in
    let old = c.args.self.now in
    let mid = c.if-count-eq0.self in
    let given = take c.in-Ok.count c.receive.new.buf in
    let stands = c.search.ensures.stands in
    let facts : (mid.stream ≡ c.receive.new.self) × (mid.connection.input ≡ old.connection.input ++ given)
    × (mid.connection.output ≡ old.connection.output) × (mid.state.number ≡ old.state.number)
    × (mid.state.drops ≡ old.state.drops) × (course_of mid ≡ course_of old)
    × (mid.state.ended ≡ true → (old.state.ended ≡ true) ⊎ HasEnded (told mid.stream)) =
    elim c.if-count-eq0.branch [
      | then-count-eq0 w ↦ rw w.self-is (
        refl,
        sym (append-nil old.connection.input) ∙ ap (λ (n : ℕ). old.connection.input ++ take n c.receive.new.buf) (sym w.if-count-eq0.true),
        refl,
        refl,
        refl,
        refl,
        λ ended. inr (c.in-Ok.ensures.ends w.if-count-eq0.true (grind (arith, common_steps))),
      )
      | else-count-eq0+else-is_err w ↦
          let grown : w.receive-else-count-eq0.new.self ≡ record old.connection { input = old.connection.input ++ given } = grind (arith, common_steps) in
          rw w.self-is (refl, ap (λ (v : ConnectionView). v.input) grown, ap (λ (v : ConnectionView). v.output) grown, refl, refl, refl, λ ended. inl ended)
    ] in
    record {
      given = given;
      lost = [];
      grows = subst (λ s. Grows (told old.stream) given [] (told s)) (sym (stands.stream ∙ facts.0)) c.in-Ok.ensures.told;
      input = append-nil c.search.new.self.connection.input ∙ stands.input ∙ facts.1;
      output = stands.output ∙ facts.2;
      number = stands.number ∙ facts.3;
      drops = ap is_some (stands.drops ∙ facts.4);
      course = stands.course ∙ facts.5;
      lossless = λ _. refl;
      ends = λ ended. subst (λ s. (old.state.ended ≡ true) ⊎ HasEnded (told s)) (sym stands.stream) (facts.6 (sym stands.ended ∙ ended));
    }
