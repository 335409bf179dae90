-- The limits of connections, as numbers.
use Rattle.std.proofs.Common.{◌≡◌, refl}
use Rattle.http_listen.specs.declared.accepting.TheConstants.{QUEUE_MILLISECONDS}
use Rattle.http_listen.specs.declared.deadlines.TheConstants.{LOOK_NANOSECONDS}
use Rattle.http_listen.specs.declared.peers.TheConstants.{LAST_WAIT_SECONDS, LEAST_WAIT_SECONDS, MAX_DROPPED, PIECE}
use Rattle.http_listen.specs.declared.paces.TheConstants.{WAIT_SECONDS, BYTES_A_SECOND}
use Rattle.http_listen.specs.declared.pool.TheConstants.{LONG_ANSWER_SECONDS}
use Rattle.http_listen.specs.declared.waiting.TheConstants.{STOP_SECONDS, MAX_ACCEPTS}
use Rattle.http_listen.specs.declared.waits.TheConstants.{MAX_HELD, MAX_OPEN}

wait_seconds_are : WAIT_SECONDS ≡ 60
wait_seconds_are = refl

bytes_a_second_are : BYTES_A_SECOND ≡ 16384
bytes_a_second_are = refl

last_wait_seconds_are : LAST_WAIT_SECONDS ≡ 2
last_wait_seconds_are = refl

least_wait_seconds_are : LEAST_WAIT_SECONDS ≡ 1
least_wait_seconds_are = refl

queue_milliseconds_are : QUEUE_MILLISECONDS ≡ 10
queue_milliseconds_are = refl

look_nanoseconds_are : LOOK_NANOSECONDS ≡ 10000
look_nanoseconds_are = refl

max_accepts_is : MAX_ACCEPTS ≡ 64
max_accepts_is = refl

long_answer_seconds_are : LONG_ANSWER_SECONDS ≡ 1
long_answer_seconds_are = refl

stop_seconds_are : STOP_SECONDS ≡ 1
stop_seconds_are = refl

max_dropped_is : MAX_DROPPED ≡ 16777216
max_dropped_is = refl

piece_is : PIECE ≡ 8192
piece_is = refl

max_held_is : MAX_HELD ≡ 268435456
max_held_is = refl

max_kept_is : MAX_OPEN ≡ 16384
max_kept_is = refl
