-- The reply of a connection for whose request there is no memory.
use Rattle.std.specs.Prelude.{List, ℕ, codes, true, false}
use Rattle.http_serve.specs.Reply.{reply_bytes, refused_by}

-- 503 `Memory`, which is the last reply of its connection
unfoldable pub no_memory : List ℕ
no_memory = reply_bytes true false (refused_by 503 (codes "Memory\n"))
