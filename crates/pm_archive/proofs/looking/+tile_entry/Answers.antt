use Rattle.std.proofs.Common.{arith}
use Rattle.std.proofs.Common.{rules}
use Rattle.pm_archive.specs.Looked.{reached_at}
use Rattle.std.proofs.lemmas.Result.{err_from_is_err_and}
use Rattle.pm_archive.proofs.KeepsLaws.{keeps_itself, keeps_on}
use Rattle.pm_archive.proofs.LookedSteps.{lies_named, reached_on, reached_fault}
use Rattle.pm_archive.proofs.looking.+tile_entry.Goals as goal

pub returns-clause-first : goal.returns-clause-first
returns-clause-first g t c = λ bytes holds cached.
    let before = c.tile_entry.ensures.source.no_others bytes holds in
    rw c.in-Some.is
    (reached_on bytes c.args.header.now c.args.id (λ e. e) c.tile_entry.result c.args.more c.in-Some.leaf c.in_ok-below.below
    c.if-leaf-gt0.false c.if-more-eq0.false (c.in_ok-below.ensures.first bytes before cached)
    (c.tile_entry.ensures.first bytes holds (c.in_ok-below.ensures.still bytes before cached)))

pub returns-in_err-below-clause-first : goal.returns-in_err-below-clause-first
returns-in_err-below-clause-first g t c =
    let p = err_from_is_err_and c.from_residual.result c.from_residual.ensures.1 in
    rw (p.1, p.2) (λ bytes holds cached. rw c.in-Some.is
    (reached_fault bytes c.args.header.now c.args.id c.args.more c.in-Some.leaf c.in_err-below.field-0.0 c.if-leaf-gt0.false c.if-more-eq0.false
    (c.in_err-below.ensures.first bytes holds cached)))

pub returns-clause-read : goal.returns-clause-read
returns-clause-read g t c e = g.met.B.Bytes.failed_on _ _ _ c.in_ok-below.ensures.source.same_behind (c.tile_entry.ensures.read e)

pub returns-in-None-clause-first : goal.returns-in-None-clause-first
unfolding reached_at
returns-in-None-clause-first g t c = search rules

pub returns-then-leaf-gt0-clause-first : goal.returns-then-leaf-gt0-clause-first
unfolding reached_at
returns-then-leaf-gt0-clause-first g t c = search rules

pub returns-then-more-eq0-clause-first : goal.returns-then-more-eq0-clause-first
unfolding reached_at
returns-then-more-eq0-clause-first g t c = search rules

pub returns-clause-source : goal.returns-clause-source
returns-clause-source g t c = keeps_on g.met.B.Bytes.unchanged_on c.in_ok-below.ensures.source c.tile_entry.ensures.source

pub returns-clause-still : goal.returns-clause-still
returns-clause-still g t c = λ bytes holds cached.
    c.tile_entry.ensures.still bytes holds (c.in_ok-below.ensures.still bytes (c.tile_entry.ensures.source.no_others bytes holds) cached)

pub returns-clause-room : goal.returns-clause-room
returns-clause-room g t c = λ small. c.tile_entry.ensures.room (c.in_ok-below.ensures.room small)

pub returns-clause-still_inside : goal.returns-clause-still_inside
returns-clause-still_inside g t c = λ inside. c.tile_entry.ensures.still_inside (c.in_ok-below.ensures.still_inside inside)

pub returns-clause-inside : goal.returns-clause-inside
returns-clause-inside g t c = λ inside named names _.
    lies_named c.args.header.now c.args.entry c.in-Some.leaf c.tile_entry.result c.in-Some.is (c.in_ok-below.ensures.inside inside) named names

pub returns-clause-memory : goal.returns-clause-memory
returns-clause-memory g t c = λ inside _.
    (c.in-Some.leaf, c.in-Some.is, omega arith, omega arith, c.in_ok-below.ensures.inside inside)

-- without a leaf directory nothing is read

pub returns-in-None-clause-source : goal.returns-in-None-clause-source
returns-in-None-clause-source g t c = keeps_itself g.met.B.Bytes.unchanged_itself

pub returns-in-None-clause-inside : goal.returns-in-None-clause-inside
returns-in-None-clause-inside g t c = grind arith

pub returns-then-leaf-gt0-clause-source : goal.returns-then-leaf-gt0-clause-source
returns-then-leaf-gt0-clause-source g t c = keeps_itself g.met.B.Bytes.unchanged_itself

pub returns-then-leaf-gt0-clause-inside : goal.returns-then-leaf-gt0-clause-inside
returns-then-leaf-gt0-clause-inside g t c = grind arith

pub returns-then-leaf-gt0-clause-memory : goal.returns-then-leaf-gt0-clause-memory
returns-then-leaf-gt0-clause-memory g t c = grind arith

pub returns-then-more-eq0-clause-source : goal.returns-then-more-eq0-clause-source
returns-then-more-eq0-clause-source g t c = keeps_itself g.met.B.Bytes.unchanged_itself

pub returns-then-more-eq0-clause-memory : goal.returns-then-more-eq0-clause-memory
returns-then-more-eq0-clause-memory g t c = grind arith

-- a fault below

pub returns-in_err-below-clause-room : goal.returns-in_err-below-clause-room
returns-in_err-below-clause-room g t c = c.in_err-below.ensures.room

pub returns-in_err-below-clause-still_inside : goal.returns-in_err-below-clause-still_inside
returns-in_err-below-clause-still_inside g t c = c.in_err-below.ensures.still_inside

pub returns-in_err-below-clause-read : goal.returns-in_err-below-clause-read
returns-in_err-below-clause-read g t c = grind arith

pub returns-in_err-below-clause-inside : goal.returns-in_err-below-clause-inside
returns-in_err-below-clause-inside g t c = grind arith

pub returns-in_err-below-clause-memory : goal.returns-in_err-below-clause-memory
returns-in_err-below-clause-memory g t c = grind arith
