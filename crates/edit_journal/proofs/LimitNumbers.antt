-- The limits of records, and the form of their sectors, as numbers.
use Rattle.std.proofs.Common.{◌≡◌, refl}
use Rattle.edit_journal.specs.declared.sizes.TheConstants.{FIRST_RECORD_VERSION, LAST_RECORD_VERSION, MAX_RECORD_BYTES}
use Rattle.edit_journal.specs.declared.sizes.TheConstants.{FRONT_BYTES, PART_BYTES, HEAD_KIND, BODY_KIND, FREED_PART}

front_bytes_is : FRONT_BYTES ≡ 16
front_bytes_is = refl

part_bytes_is : PART_BYTES ≡ 496
part_bytes_is = refl

head_kind_is : HEAD_KIND ≡ 1
head_kind_is = refl

body_kind_is : BODY_KIND ≡ 2
body_kind_is = refl

first_record_version_is : FIRST_RECORD_VERSION ≡ 1
first_record_version_is = refl

last_record_version_is : LAST_RECORD_VERSION ≡ 2
last_record_version_is = refl

max_record_bytes_is : MAX_RECORD_BYTES ≡ 32768
max_record_bytes_is = refl

freed_part_is : FREED_PART ≡ 64
freed_part_is = refl
