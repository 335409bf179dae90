-- The limits of a connection, as numbers.
use Rattle.std.proofs.Common.{◌≡◌, refl}
use Rattle.http_serve.specs.declared.connection.TheConstants.{MAX_READS, READ_SPACE}
use Rattle.http_serve.specs.declared.handlers.TheConstants.{PART_SIZE}
use Rattle.http_serve.specs.declared.replies.TheConstants.{MAX_REPLY_HEAD, MAX_WORD, REPLY_SPACE}
use Rattle.http_serve.specs.declared.tags.TheConstants.{MAX_TAG}

max_reads_is : MAX_READS ≡ 4294967296
max_reads_is = refl

read_space_is : READ_SPACE ≡ 147456
read_space_is = refl

part_size_is : PART_SIZE ≡ 65536
part_size_is = refl

max_word_is : MAX_WORD ≡ 64
max_word_is = refl

max_reply_head_is : MAX_REPLY_HEAD ≡ 512
max_reply_head_is = refl

reply_space_is : REPLY_SPACE ≡ 65536
reply_space_is = refl

max_tag_is : MAX_TAG ≡ 64
max_tag_is = refl
