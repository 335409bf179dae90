-- The number of each limit and enumerated value.
use Rattle.std.proofs.Common.{◌≡◌, refl}
use Rattle.pm_header.specs.declared.header.TheConstants.{HEADER_BYTES, CLUSTERED, VECTOR_TILES}
use Rattle.pm_header.specs.declared.compression.TheConstants.{UNKNOWN_COMPRESSION, NOT_COMPRESSED, GZIP, BROTLI, ZSTD}

pub header_bytes_is : HEADER_BYTES ≡ 127
header_bytes_is = refl

pub clustered_is : CLUSTERED ≡ 1
clustered_is = refl

pub vector_tiles_is : VECTOR_TILES ≡ 1
vector_tiles_is = refl

pub unknown_compression_is : UNKNOWN_COMPRESSION ≡ 0
unknown_compression_is = refl

pub not_compressed_is : NOT_COMPRESSED ≡ 1
not_compressed_is = refl

pub gzip_is : GZIP ≡ 2
gzip_is = refl

pub brotli_is : BROTLI ≡ 3
brotli_is = refl

pub zstd_is : ZSTD ≡ 4
zstd_is = refl
