-- What contracts see of a connection's buffers.
use Rattle.std.specs.Prelude.{ℕ, ◌*◌, Bool, List}
use Rattle.http_requests.specs.declared.frames.TheConstants.{MAX_REQUEST}

-- the size of the buffer for input in bytes, and so the most bytes that a read returns
abbrev pub buffer_size : ℕ
buffer_size = 2 * MAX_REQUEST

-- whether they are allocated
pub record BuffersView : Type 0 where
  pub allocated : Bool

-- the bytes that wait in one to be sent, and how many it has memory for
pub record BufferView : Type 0 where
  pub waiting : List ℕ
  pub capacity : ℕ
