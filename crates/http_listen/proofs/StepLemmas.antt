-- Steps of one connection, and its conversation.
use Rattle.std.proofs.Common.{false, ◌≡◌, ℕ, zero, suc, List, [], ◌∷◌, ◌++◌, None, Some, Result, Ok, Err, refl, sym, ap, subst, ◌∙◌, append_assoc, append-nil}
use Rattle.std.proofs.Common.{take, drop, take-append-drop, true, true≢false, inl, inr, ⊎_elim, add-zero, length-append, arith}
use Rattle.std.specs.Prelude.{◌≤◌, ◌+◌, ◌-◌, ◌⊎◌, length, ⊤, is_some, IfOk, IfErr, OnErr, MatchOption}
use Rattle.std.specs.declared.option.Option.{Option}
use Rattle.httparse.specs.declared.spans.HeaderSpan.{HeaderSpan}
use Rattle.std.specs.declared.alloc.AllocError.{AllocError}
use Rattle.http_serve.specs.declared.connection.Answer.{Answer}
use Rattle.http_serve.specs.declared.connection.Served.{Served}
use Rattle.http_serve.specs.declared.handlers.RestFault.{RestFault}
use Rattle.http_serve.specs.declared.handlers.Ticket.{Ticket}
use Rattle.http_listen.specs.declared.ends.EndFault.{EndFault}
use Rattle.http_listen.specs.declared.peers.Peer.{Peer}
use Rattle.http_listen.specs.declared.rests.Unsent.{Unsent}
use Rattle.http_listen.specs.declared.turns.Next.{Next}
use Rattle.http_listen.specs.declared.turns.Next.TheVariants.{Asks, Reads, Rests, Closes}
use Rattle.http_listen.specs.Asked.{IsDue}
use Rattle.http_listen.specs.Conversations.{Act, answered, fetched, prepared, asked, replied, fetched_bytes, AreDue, IsEndedBy, IsFetched, IsNext, Follows}
use Rattle.http_listen.specs.Conversations.{Steps, IsHeld, IsTalking, IsSearched, GoesOn, IsRead, KnowsEnd, Turned, Stands, Beside}
use Rattle.http_listen.specs.Courses.{Course, GoesOnAfter, MaySettle, Settles, counted, course_of, fresh, settled}
use Rattle.http_listen.specs.Rests.{EndsAt, cut_by, once_sent, rest_after}
use Rattle.http_listen.specs.Talks.{Told, Grows, HasEnded, IsAt, Moves, given_by}
use Rattle.http_listen.proofs.Preparations.{prepared_first}
use Rattle.http_listen.proofs.TalkLemmas.{EndStays, at_rest, ended_then, ends_stay, grows_none, moves_none, moves_both, moves_read, moves_added, moves_stay}

-- Acts, and then other ones.
pub asked_both : (front back : List Act) → asked (front ++ back) ≡ asked front ++ asked back
asked_both [] back = refl
asked_both (answered bytes replies result ticket ∷ front) back =
    ap (λ l. bytes ++ l) (asked_both front back) ∙ sym (append_assoc bytes (asked front) (asked back))
asked_both (fetched ticket offset count outcome ∷ front) back = asked_both front back
asked_both (prepared bytes ∷ front) back = asked_both front back

pub replied_both : (front back : List Act) → replied (front ++ back) ≡ replied front ++ replied back
replied_both [] back = refl
replied_both (answered bytes replies result ticket ∷ front) back =
    ap (λ l. replies ++ l) (replied_both front back) ∙ sym (append_assoc replies (replied front) (replied back))
replied_both (fetched ticket offset count (Err fault) ∷ front) back = replied_both front back
replied_both (fetched ticket offset count (Ok bytes) ∷ front) back =
    ap (λ l. bytes ++ l) (replied_both front back) ∙ sym (append_assoc bytes (replied front) (replied back))
replied_both (prepared bytes ∷ front) back = replied_both front back

-- Something isn't nothing.
not_some : {T : Type 0} {x : T} → Some x ≡ None → ⊥
not_some e = true≢false (ap is_some e)

-- ---- courses

settles_both : (a b c : Course) → Settles a b → Settles b c → Settles a c
settles_both a b c (inl e) s = subst (λ (x : Course). Settles x c) e s
settles_both a b c (inr p) (inl e) = inr (p.0, e ∙ p.1)
settles_both a b c (inr p) (inr q) = inr (p.0, q.1 ∙ ap settled p.1)

-- What follows once the replies were sent follows before.
settled_next : (a : Course) (act : Act) (after : Course) → MaySettle a → IsNext (settled a) act after → IsNext a act after
settled_next a (answered bytes replies result ticket) after may n = (may, n.1)
settled_next a (fetched ticket offset count outcome) after may n = absurd (not_some (sym n.1))
settled_next a (prepared bytes) after may n = (may, n.1)

settled_follows : (a b c : Course) (acts : List Act) → Settles a b → Follows b acts c → Follows a acts c
settled_follows a b c [] s f = settles_both a b c s f
settled_follows a b c (act ∷ acts) (inl e) f = subst (λ (x : Course). Follows x (act ∷ acts) c) e f
settled_follows a b c (act ∷ acts) (inr p) f =
    (f.0, settled_next a act f.0 p.0 (subst (λ (x : Course). IsNext x act f.0) p.1 f.1), f.2)

pub follows_both : (before between after : Course) (front back : List Act) → Follows before front between → Follows between back after
    → Follows before (front ++ back) after
follows_both before between after [] back p q = settled_follows before between after back p q
follows_both before between after (act ∷ front) back p q = (p.0, p.1, follows_both p.0 between after front back p.2 q)

-- ---- what is due

due_stays : (count : ℕ) (a b : Option Told) (bytes : List ℕ) → EndStays a b → IsDue count a bytes → IsDue count b bytes
due_stays count a b bytes s (inl one) = inl one
due_stays count a b bytes s (inr (inl none)) = inr (inl none)
due_stays count a b bytes s (inr (inr (inl empty))) = inr (inr (inl empty))
due_stays count a b bytes s (inr (inr (inr ends))) = inr (inr (inr (ends_stay count a b s ends)))

-- What was due is due later.
pub due_later : (count : ℕ) (a b : Option Told) (acts : List Act) → EndStays a b → AreDue count a acts → AreDue count b acts
due_later count a b [] s d = tt
due_later count a b (answered bytes replies result ticket ∷ acts) s d =
    (due_stays (count + length bytes) a b bytes s d.0, due_later (count + length bytes) a b acts s d.1)
due_later count a b (fetched ticket offset n outcome ∷ acts) s d = due_later count a b acts s d
due_later count a b (prepared bytes ∷ acts) s d = due_later count a b acts s d

pub due_both : (count : ℕ) (told : Option Told) (front back : List Act) → AreDue count told front → AreDue (count + length (asked front)) told back
    → AreDue count told (front ++ back)
due_both count told [] back p q = subst (λ (n : ℕ). AreDue n told back) (add-zero count) q
due_both count told (answered bytes replies result ticket ∷ front) back p q = (
  p.0,
  due_both (count + length bytes) told front back p.1
      (subst (λ (n : ℕ). AreDue n told back) (omega (arith, length-append bytes (asked front))) q),
)
due_both count told (fetched ticket offset n outcome ∷ front) back p q = due_both count told front back p q
due_both count told (prepared bytes ∷ front) back p q = due_both count told front back p q

-- An option without a value.
pub none_of : {T : Type 0} (x : Option T) → is_some x ≡ false → x ≡ None
none_of None e = refl
none_of (Some x) e = absurd (true≢false e)

-- Equal lists, one after the other.
both_same : {a b c d : List ℕ} → a ≡ b → c ≡ d → a ++ c ≡ b ++ d
both_same {a} {b} {c} {d} p q = ap (λ l. l ++ c) p ∙ ap (λ l. b ++ l) q

abbrev course : Option Unsent → Option (Result Served EndFault) → ℕ → Course
course left outcome requests = record { left = left; outcome = outcome; requests = requests }

-- A course by its parts.
pub course_is : {left left' : Option Unsent} {outcome outcome' : Option (Result Served EndFault)} {requests requests' : ℕ} → left ≡ left'
    → outcome ≡ outcome' → requests ≡ requests' → course left outcome requests ≡ course left' outcome' requests'
course_is {left} {left'} {outcome} {outcome'} {requests} {requests'} p q r =
    ap (λ (u : Option Unsent). course u outcome requests) p
    ∙ ap (λ (o : Option (Result Served EndFault)). course left' o requests) q
    ∙ ap (λ (n : ℕ). course left' outcome' n) r

-- A connection whose replies are sent.
course_settled : {S : Type 0} (peer : Peer S) → peer.state.unsent ≡ None → peer.state.outcome ≡ None → course_of peer ≡ settled (course_of peer)
course_settled peer none sent =
    course_is none sent (ap (λ (o : Option (Result Served EndFault)). counted peer.state.requests o) (sym sent))

may_settle : {S : Type 0} (peer : Peer S) → peer.state.unsent ≡ None → peer.state.outcome ≡ None → MaySettle (course_of peer)
may_settle peer none sent = (none, subst (λ (o : Option (Result Served EndFault)). GoesOnAfter o) (sym sent) tt)

module _ {S : Type 0} (told : S → Option Told) where
  -- The same stream told the same.
  stands_grow : {old new : S} → new ≡ old → Grows (told old) [] [] (told new)
  stands_grow {old} {new} e = subst (λ (s : S). Grows (told old) [] [] (told s)) (sym e) (grows_none (told old))

  -- What was done was due.
  due_on : (first : Option Told) (acts more : List Act) (whole : Type 0) (old new : Peer S) → IsTalking told first acts old
      → Steps told old more whole new → AreDue (given_by first) (told new.stream) (acts ++ more)
  due_on first acts more whole old new t s =
      due_both (given_by first) (told new.stream) acts more
      (due_later (given_by first) (told old.stream) (told new.stream) acts
      (moves_stay (told old.stream) (told new.stream) old.connection.output s.given (replied more) (new.connection.output ++ s.cut) s.moved) t.due)
      (s.due t.knows (given_by first + length (asked acts))
      (at_rest first (told old.stream) (asked acts) old.connection.input (replied acts) [] old.connection.output t.moved))

  -- A conversation goes on with what was done.
  pub talking_on : (first : Option Told) (acts more : List Act) (whole : Type 0) (old new : Peer S) → IsTalking told first acts old
      → Steps told old more whole new → whole → IsTalking told first (acts ++ more) new
  talking_on first acts more whole old new t s w =
      let lost : s.lost ≡ [] = (s.lossless w).0 in
      let cut : s.cut ≡ [] = (s.lossless w).1 in
      let input : old.connection.input ++ s.given ≡ asked more ++ new.connection.input =
      s.input ∙ ap (λ l. asked more ++ (new.connection.input ++ l)) lost ∙ ap (λ l. asked more ++ l) (append-nil new.connection.input) in
      let moved : Moves (told old.stream) old.connection.output s.given (replied more) (told new.stream) new.connection.output =
      subst (λ (l : List ℕ). Moves (told old.stream) old.connection.output s.given (replied more) (told new.stream) l)
      (ap (λ l. new.connection.output ++ l) cut ∙ append-nil new.connection.output) s.moved in
      let both = moves_both first (told old.stream) (told new.stream) [] old.connection.output new.connection.output (asked acts ++ old.connection.input)
      s.given (replied acts) (replied more)
      t.moved moved in
      let given : (asked acts ++ old.connection.input) ++ s.given ≡ asked (acts ++ more) ++ new.connection.input =
      append_assoc (asked acts) old.connection.input s.given ∙ ap (λ l. asked acts ++ l) input
      ∙ sym (append_assoc (asked acts) (asked more) new.connection.input) ∙ ap (λ l. l ++ new.connection.input) (sym (asked_both acts more)) in
      record {
        moved = subst (λ (l : List ℕ). Moves first [] l (replied (acts ++ more)) (told new.stream) new.connection.output) given
            (subst (λ (l : List ℕ). Moves first [] ((asked acts ++ old.connection.input) ++ s.given) l (told new.stream) new.connection.output)
            (sym (replied_both acts more)) both);
        follows = subst (λ (c : Course). Follows fresh (acts ++ more) c) (sym (s.lossless w).2)
            (follows_both fresh (course_of old) s.course acts more t.follows s.follows);
        knows = s.knows t.knows;
        due = due_on first acts more whole old new t s;
      }

  -- After a step it is in its conversation, whatever was lost.
  pub talking_held : (first : Option Told) (acts more : List Act) (whole : Type 0) (old new : Peer S) → IsTalking told first acts old
      → Steps told old more whole new → IsHeld told first (acts ++ more) new
  talking_held first acts more whole old new t s =
      let both = moves_both first (told old.stream) (told new.stream) [] old.connection.output (new.connection.output ++ s.cut)
      (asked acts ++ old.connection.input) s.given (replied acts)
      (replied more) t.moved s.moved in
      let given : (asked acts ++ old.connection.input) ++ s.given ≡ asked (acts ++ more) ++ (new.connection.input ++ s.lost) =
      append_assoc (asked acts) old.connection.input s.given ∙ ap (λ l. asked acts ++ l) s.input
      ∙ sym (append_assoc (asked acts) (asked more) (new.connection.input ++ s.lost)) ∙ ap (λ l. l ++ (new.connection.input ++ s.lost))
      (sym (asked_both acts more)) in
      let replies : replied acts ++ replied more ≡ replied (acts ++ more) ++ [] =
      sym (replied_both acts more) ∙ sym (append-nil (replied (acts ++ more))) in
      record {
        talk = record {
          rest = new.connection.input ++ s.lost;
          refusal = [];
          waits = new.connection.output ++ s.cut;
          moved = subst (λ (l : List ℕ). Moves first [] l (replied (acts ++ more) ++ []) (told new.stream) (new.connection.output ++ s.cut)) given
              (subst (λ (l : List ℕ). Moves first [] ((asked acts ++ old.connection.input) ++ s.given) l (told new.stream)
              (new.connection.output ++ s.cut)) replies both);
          refused = inl refl;
          course = s.course;
          follows = follows_both fresh (course_of old) s.course acts more t.follows s.follows;
          due = due_on first acts more whole old new t s;
        };
        cut = s.cut;
        waits = refl;
        opened = λ _. (refl, s.cuts);
      }

  -- A connection of which nothing was read, and to which nothing is sent.
  pub talking_new : (peer : Peer S) → peer.connection.input ≡ [] → peer.connection.output ≡ [] → course_of peer ≡ fresh → peer.state.ended ≡ false
      → IsTalking told (told peer.stream) [] peer
  talking_new peer input output course going = record {
    moved = subst (λ (l : List ℕ). Moves (told peer.stream) [] l [] (told peer.stream) peer.connection.output) (sym input)
        (subst (λ (l : List ℕ). Moves (told peer.stream) [] [] [] (told peer.stream) l) (sym output) (moves_none (told peer.stream) []));
    follows = inl course;
    knows = λ ended. absurd (true≢false (sym ended ∙ going));
    due = tt;
  }

  -- An end that was told is known afterwards.
  knows_then : (old new : Peer S) (w g m u : List ℕ) → Moves (told old.stream) w g m (told new.stream) u → new.state.ended ≡ old.state.ended
      → KnowsEnd told old → KnowsEnd told new
  knows_then old new w g m u moves same knows ended =
      ended_then (told old.stream) (told new.stream) w g m u moves (knows (sym same ∙ ended))

  -- What was sent is the front of what waited.
  pub steps_sent : (old new : Peer S) (whole : Type 0) → Moves (told old.stream) old.connection.output [] [] (told new.stream) new.connection.output
      → Beside old new → Settles (course_of old) (course_of new) → Steps told old [] whole new
  steps_sent old new whole moves beside settles = record {
    number = beside.number;
    drops = ap is_some beside.drops;
    given = [];
    lost = [];
    cut = [];
    input = append-nil old.connection.input ∙ sym beside.input ∙ sym (append-nil new.connection.input);
    moved = subst (λ (l : List ℕ). Moves (told old.stream) old.connection.output [] [] (told new.stream) l) (sym (append-nil new.connection.output)) moves;
    course = course_of new;
    follows = settles;
    lossless = λ _. (refl, refl, refl);
    cuts = λ _. refl;
    knows = knows_then old new old.connection.output [] [] new.connection.output moves beside.ended;
    due = λ known count at. tt;
  }

  -- Nothing was sent or read.
  pub steps_none : (peer : Peer S) (whole : Type 0) → Steps told peer [] whole peer
  steps_none peer whole = steps_sent peer peer whole (moves_none (told peer.stream) peer.connection.output)
      (record { input = refl; number = refl; drops = refl; ended = refl }) (inl refl)

  -- Nothing was sent or read, and something else changed.
  pub steps_stand : (old new : Peer S) (whole : Type 0) → Stands old new → Steps told old [] whole new
  steps_stand old new whole s = steps_sent old new whole
      (subst (λ (x : S). Moves (told old.stream) old.connection.output [] [] (told x) new.connection.output) (sym s.stream)
      (subst (λ (l : List ℕ). Moves (told old.stream) old.connection.output [] [] (told old.stream) l) (sym s.output)
      (moves_none (told old.stream) old.connection.output)))
      (record { input = s.input; number = s.number; drops = s.drops; ended = s.ended }) (inl s.course)

  -- First a step of the making of the reply to some bytes was made.
  pub steps_prepared : (bytes : List ℕ) (old new : Peer S) (acts : List Act) (whole : Type 0) → old.state.unsent ≡ None → old.state.outcome ≡ None
      → Steps told old acts whole new → Steps told old (prepared bytes ∷ acts) whole new
  steps_prepared bytes old new acts whole none sent s =
      let same : course_of old ≡ settled (course_of old) = course_settled old none sent in
      record {
        number = s.number;
        drops = s.drops;
        given = s.given;
        lost = s.lost;
        cut = s.cut;
        input = s.input;
        moved = s.moved;
        course = s.course;
        follows = (course_of old, (may_settle old none sent, same), s.follows);
        lossless = s.lossless;
        cuts = s.cuts;
        knows = s.knows;
        due = s.due;
      }

  -- First several of these were made.
  pub steps_before : (bytes : List ℕ) (steps : ℕ) (old new : Peer S) (acts : List Act) (whole : Type 0) → old.state.unsent ≡ None
      → old.state.outcome ≡ None → Steps told old acts whole new → Steps told old (prepared_first bytes steps acts) whole new
  steps_before bytes zero old new acts whole none sent s = s
  steps_before bytes (suc more) old new acts whole none sent s =
      steps_prepared bytes old new (prepared_first bytes more acts) whole none sent (steps_before bytes more old new acts whole none sent s)

  -- What was read is the end of the input.
  pub steps_read : (old new : Peer S) (result : Next) (whole : Type 0) → (whole → GoesOn result) → IsRead told old result new → Steps told old [] whole new
  steps_read old new result whole goes_on r = record {
    number = r.number;
    drops = r.drops;
    given = r.given;
    lost = r.lost;
    cut = [];
    input = sym r.input;
    moved = subst (λ (l : List ℕ). Moves (told old.stream) old.connection.output r.given [] (told new.stream) l)
        (sym r.output ∙ sym (append-nil new.connection.output))
        (moves_read (told old.stream) (told new.stream) old.connection.output r.given r.grows);
    course = course_of old;
    follows = inl refl;
    lossless = λ w. (r.lossless (goes_on w), refl, r.course);
    cuts = λ _. refl;
    knows = λ known ended. ⊎_elim
        (λ was. ended_then (told old.stream) (told new.stream) old.connection.output r.given [] old.connection.output
        (moves_read (told old.stream) (told new.stream) old.connection.output r.given r.grows) (known was)) (λ now. now) (r.ends ended);
    due = λ known count at. tt;
  }

  pub turned_read : (old new : Peer S) (fields : List HeaderSpan) (result : Next) → IsRead told old result new
      → IsSearched new.connection.input new.state.ended fields result → old.connection.output ≡ []
      → old.state.unsent ≡ None → old.state.outcome ≡ None
      → old.state.drops ≡ None → Turned told old fields result new
  turned_read old new fields (Asks end) r s output unsent sent drops = (
    steps_read old new (Asks end) ⊤ (λ _. tt) r,
    r.output ∙ output,
    ap (λ (c : Course). c.left) r.course ∙ unsent,
    none_of new.state.drops (r.drops ∙ ap is_some drops),
    ap (λ (c : Course). c.outcome) r.course ∙ sent,
    s.is,
  )
  turned_read old new fields (Reads u) r s output unsent sent drops = absurd s.is
  turned_read old new fields (Rests None) r s output unsent sent drops = steps_read old new (Rests None) _ (λ _. tt) r
  turned_read old new fields (Rests (Some outcome)) r s output unsent sent drops =
      steps_read old new (Rests (Some outcome)) _ (λ w. absurd (not_some w.0)) r
  turned_read old new fields Closes r s output unsent sent drops = absurd s.is

  -- A search reads nothing.
  pub stands_read : (old new : Peer S) (result : Next) → Stands old new → IsRead told old result new
  stands_read old new result s = record {
    given = [];
    lost = [];
    grows = stands_grow s.stream;
    input = ap (λ l. l ++ []) s.input;
    output = s.output;
    number = s.number;
    drops = ap is_some s.drops;
    course = s.course;
    lossless = λ _. refl;
    ends = λ ended. inl (sym s.ended ∙ ended);
  }

  -- Nothing was read.
  pub none_read : (peer : Peer S) (result : Next) → IsRead told peer result peer
  none_read peer result =
      stands_read peer peer result (record { stream = refl; input = refl; output = refl; number = refl; drops = refl; ended = refl; course = refl })

  -- Bytes were read and dropped.
  pub steps_dropped : (old new : Peer S) (given : List ℕ) → Grows (told old.stream) given [] (told new.stream) → new.connection.input ≡ old.connection.input
      → new.connection.output ≡ old.connection.output
      → new.state.number ≡ old.state.number → is_some new.state.drops ≡ is_some old.state.drops → new.state.ended ≡ old.state.ended
      → Steps told old [] ⊥ new
  steps_dropped old new given grows input output number drops ended = record {
    number = number;
    drops = drops;
    given = given;
    lost = given;
    cut = [];
    input = ap (λ l. l ++ given) (sym input);
    moved = subst (λ (l : List ℕ). Moves (told old.stream) old.connection.output given [] (told new.stream) l)
        (sym output ∙ sym (append-nil new.connection.output))
        (moves_read (told old.stream) (told new.stream) old.connection.output given grows);
    course = course_of old;
    follows = inl refl;
    lossless = λ w. absurd w;
    cuts = λ _. refl;
    knows = knows_then old new old.connection.output given [] old.connection.output
        (moves_read (told old.stream) (told new.stream) old.connection.output given grows) ended;
    due = λ known count at. tt;
  }

  -- The first bytes of the input were answered, and then some of the replies sent. Nothing waited to be sent before.
  pub steps_answered : (old front new : Peer S) (end : ℕ) (result : Result Answer AllocError) (ticket : Ticket) (whole : Type 0)
      → old.connection.output ≡ [] → old.state.unsent ≡ None → old.state.outcome ≡ None → front.stream ≡ old.stream
      → Moves (told front.stream) front.connection.output [] [] (told new.stream) new.connection.output
      → new.connection.input ≡ drop end old.connection.input → new.state.number ≡ old.state.number → is_some new.state.drops ≡ is_some old.state.drops
      → new.state.ended ≡ old.state.ended
      → Settles (record { left = rest_after ticket result; outcome = Some (once_sent result); requests = old.state.requests }) (course_of new)
      → (KnowsEnd told old → (count : ℕ) → IsAt count (told old.stream) old.connection.input
      → IsDue (count + length (take end old.connection.input)) (told old.stream) (take end old.connection.input))
      → Steps told old (answered (take end old.connection.input) front.connection.output result ticket ∷ []) whole new
  steps_answered old front new end result ticket whole none unsent sent stream then input number drops ended settles due =
      let before = old.connection.input in
      let out = front.connection.output in
      let first : Moves (told old.stream) old.connection.output [] out (told front.stream) out =
      subst (λ (l : List ℕ). Moves (told old.stream) l [] out (told front.stream) out) (sym none)
      (subst (λ (s : S). Moves (told old.stream) [] [] out (told s) out) (sym stream) (moves_added (told old.stream) [] out)) in
      let moved : Moves (told old.stream) old.connection.output [] (out ++ []) (told new.stream) new.connection.output =
      moves_both (told old.stream) (told front.stream) (told new.stream) old.connection.output out new.connection.output [] [] out [] first then in
      let after : Course = record { left = rest_after ticket result; outcome = Some (once_sent result); requests = old.state.requests } in
      record {
        number = number;
        drops = drops;
        given = [];
        lost = [];
        cut = [];
        input = append-nil before ∙ sym (take-append-drop end before) ∙ ap (λ l. take end before ++ l) (sym input)
            ∙ both_same (sym (append-nil (take end before))) (sym (append-nil new.connection.input));
        moved = subst (λ (l : List ℕ). Moves (told old.stream) old.connection.output [] (out ++ []) (told new.stream) l)
            (sym (append-nil new.connection.output)) moved;
        course = course_of new;
        follows = (
          after,
          (
            may_settle old unsent sent,
            ap (λ (o : Option (Result Served EndFault)).
                record { left = rest_after ticket result; outcome = Some (once_sent result); requests = counted old.state.requests o }) (sym sent),
          ),
          settles,
        );
        lossless = λ _. (refl, refl, refl);
        cuts = λ _. refl;
        knows = knows_then old new old.connection.output [] (out ++ []) new.connection.output moved ended;
        due = λ known count at. (
          due_stays (count + length (take end before)) (told old.stream) (told new.stream) (take end before)
              (moves_stay (told old.stream) (told new.stream) old.connection.output [] (out ++ []) new.connection.output moved) (due known count at),
          tt,
        );
      }

  -- Bytes of a content were read, and added to the output, of which nothing waited.
  pub steps_fetched : (old new : Peer S) (unsent : Unsent) (count : ℕ) (bytes : List ℕ) (whole : Type 0)
      → old.state.unsent ≡ Some unsent → old.connection.output ≡ [] → Moves (told old.stream) bytes [] [] (told new.stream) new.connection.output
      → Beside old new
      → count ≤ unsent.end - unsent.at → (left : Option Unsent)
      → MatchOption left (unsent.end ≤ unsent.at + length bytes) (λ next. next ≡ record unsent { at = unsent.at + length bytes })
      → Settles (record { left = left; outcome = old.state.outcome; requests = old.state.requests }) (course_of new)
      → Steps told old (fetched unsent.ticket unsent.at count (Ok bytes) ∷ []) whole new
  steps_fetched old new unsent count bytes whole rest none moves beside few left is settles = record {
    number = beside.number;
    drops = ap is_some beside.drops;
    given = [];
    lost = [];
    cut = [];
    input = append-nil old.connection.input ∙ sym beside.input ∙ sym (append-nil new.connection.input);
    moved = subst (λ (l : List ℕ). Moves (told old.stream) l [] (bytes ++ []) (told new.stream) (new.connection.output ++ [])) (sym none)
        (subst (λ (l : List ℕ). Moves (told old.stream) [] [] (bytes ++ []) (told new.stream) l) (sym (append-nil new.connection.output))
        (moves_both (told old.stream) (told old.stream) (told new.stream) [] bytes new.connection.output [] [] bytes []
        (moves_added (told old.stream) [] bytes) moves));
    course = course_of new;
    follows = (
      record { left = left; outcome = old.state.outcome; requests = old.state.requests },
      (unsent, rest, refl, refl, few, (refl, is)),
      settles,
    );
    lossless = λ _. (refl, refl, refl);
    cuts = λ _. refl;
    knows = knows_then old new bytes [] [] new.connection.output moves beside.ended;
    due = λ known count at. tt;
  }

  -- the course once bytes were read, or couldn't be
  some_course : (before : Course) (unsent : Unsent) (outcome : Result (List ℕ) RestFault) → (after : Course) × IsFetched before unsent outcome after
  some_course before unsent (Err fault) = (record { left = None; outcome = Some (Err (cut_by fault)); requests = before.requests }, refl)
  some_course before unsent (Ok bytes) = (
    record {
      left = Some (record unsent { at = unsent.at + length bytes });
      outcome = before.outcome;
      requests = before.requests;
    },
    (refl, refl),
  )

  -- They couldn't be read, or weren't added, and the connection ends.
  pub steps_failed : (old new : Peer S) (unsent : Unsent) (count : ℕ) (outcome : Result (List ℕ) RestFault) (whole : Type 0) → (whole → ⊥)
      → old.state.unsent ≡ Some unsent → old.connection.output ≡ [] → Moves (told old.stream) [] [] [] (told new.stream) new.connection.output → Beside old new
      → course_of new ≡ course_of old → count ≤ unsent.end - unsent.at
      → Steps told old (fetched unsent.ticket unsent.at count outcome ∷ []) whole new
  steps_failed old new unsent count outcome whole never rest none moves beside same few =
      let bytes = fetched_bytes outcome in
      let course = some_course (course_of old) unsent outcome in
      record {
        number = beside.number;
        drops = ap is_some beside.drops;
        given = [];
        lost = [];
        cut = bytes ++ [];
        input = append-nil old.connection.input ∙ sym beside.input ∙ sym (append-nil new.connection.input);
        moved = subst (λ (l : List ℕ). Moves (told old.stream) l [] (bytes ++ []) (told new.stream) (new.connection.output ++ (bytes ++ []))) (sym none)
            (moves_both (told old.stream) (told new.stream) (told new.stream) [] new.connection.output (new.connection.output ++ (bytes ++ [])) [] [] []
            (bytes ++ []) moves
            (moves_added (told new.stream) new.connection.output (bytes ++ [])));
        course = course.0;
        follows = (course.0, (unsent, rest, refl, refl, few, course.1), inl refl);
        lossless = λ w. absurd (never w);
        cuts = λ e. absurd (not_some (sym rest ∙ sym (ap (λ (c : Course). c.left) same) ∙ e));
        knows = knows_then old new [] [] [] new.connection.output moves beside.ended;
        due = λ known count at. tt;
      }

  -- the word by which a connection ends, if a part couldn't be added for this cause
  ended_by : (ticket : Ticket) (offset count : ℕ) (outcome : Result (List ℕ) RestFault) (fault : EndFault) (ending : Option (Result Served EndFault))
      → EndsAt outcome fault → ending ≡ Some (Err fault) → IsEndedBy (fetched ticket offset count outcome) ending
  ended_by ticket offset count (Ok bytes) fault ending at ends = tt
  ended_by ticket offset count (Err cause) fault ending at ends = ends ∙ ap (λ (f : EndFault). Some (Err f)) at

  -- The act of a connection of whose content bytes were to be read.
  pub fetched_act : {H : Type 0} (reads : H → Ticket → (offset count : ℕ) → Result (List ℕ) RestFault → H → Type 0) (h k : H) (old new : Peer S)
      (unsent : Unsent) (before output : List ℕ) (result : Result (Option Unsent) EndFault) (ending : Option (Result Served EndFault))
      → old.state.unsent ≡ Some unsent → old.connection.output ≡ [] → before ≡ []
      → (count : ℕ) × (outcome : Result (List ℕ) RestFault) × (count ≤ unsent.end - unsent.at) × reads h unsent.ticket unsent.at count outcome k
      × IfErr result (EndsAt outcome)
      → IfOk result (λ left. (count : ℕ) × (bytes : List ℕ) × (count ≤ unsent.end - unsent.at) × reads h unsent.ticket unsent.at count (Ok bytes) k
      × (output ≡ before ++ bytes)
      × MatchOption left (unsent.end ≤ unsent.at + length bytes) (λ next. next ≡ record unsent { at = unsent.at + length bytes }))
      → OnErr result (output ≡ before) → Moves (told old.stream) output [] [] (told new.stream) new.connection.output → Beside old new
      → IfOk result (λ left. Settles (record { left = left; outcome = old.state.outcome; requests = old.state.requests }) (course_of new))
      → IfErr result (λ fault. ending ≡ Some (Err fault))
      → OnErr result (course_of new ≡ course_of old)
      → (count : ℕ) × (outcome : Result (List ℕ) RestFault) × reads h unsent.ticket unsent.at count outcome k
      × Steps told old (fetched unsent.ticket unsent.at count outcome ∷ []) (ending ≡ None) new
      × IsEndedBy (fetched unsent.ticket unsent.at count outcome) ending
  fetched_act reads h k old new unsent before output (Ok left) ending rest none empty read added same moves beside next failed stays =
      let bytes = added.1 in
      let all : output ≡ bytes = added.4 ∙ ap (λ l. l ++ bytes) empty in (
        added.0,
        Ok bytes,
        added.3,
        steps_fetched old new unsent added.0 bytes (ending ≡ None) rest none
            (subst (λ (l : List ℕ). Moves (told old.stream) l [] [] (told new.stream) new.connection.output) all moves)
            beside added.2 left added.5 next,
        tt,
      )
  fetched_act reads h k old new unsent before output (Err fault) ending rest none empty read added same moves beside next failed stays = (
    read.0,
    read.1,
    read.3,
    steps_failed old new unsent read.0 read.1 (ending ≡ None) (λ e. true≢false (ap is_some (sym failed ∙ e))) rest none
        (subst (λ (l : List ℕ). Moves (told old.stream) l [] [] (told new.stream) new.connection.output) (same ∙ empty) moves) beside stays read.2,
    ended_by unsent.ticket unsent.at read.0 read.1 fault ending read.4 failed,
  )
