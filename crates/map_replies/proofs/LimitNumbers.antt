-- The sizes of replies, as numbers.
use Rattle.std.proofs.Common.{◌≡◌, refl}
use Rattle.feature_store.specs.declared.in_box.TheConstants.{BOX_LOOKS}
use Rattle.map_replies.specs.declared.feed.TheConstants.{FEED_BYTES}
use Rattle.map_replies.specs.declared.pages.TheConstants.{PAGE_BYTES}
use Rattle.map_replies.specs.declared.replies.TheConstants.{MAX_TEXT}
use Rattle.map_replies.specs.declared.telling.TheConstants.{MAX_PART, MAX_STATUS}

box_looks_are : BOX_LOOKS ≡ 1024
box_looks_are = refl

feed_bytes_are : FEED_BYTES ≡ 16384
feed_bytes_are = refl

page_bytes_are : PAGE_BYTES ≡ 65536
page_bytes_are = refl

max_text_is : MAX_TEXT ≡ 95
max_text_is = refl

max_part_is : MAX_PART ≡ 104
max_part_is = refl

max_status_is : MAX_STATUS ≡ 729
max_status_is = refl
