-- HMAC with SHA-256 (RFC 2104, part 2; SHA-256 is FIPS 180-4's, in the words of the crate sha2).
use Rattle.std.specs.Prelude.{ℕ, ◌-◌, List, ◌++◌, length, map, replicate, nat_lt, bit_xor, if◌then◌else◌}
use Rattle.sha2.specs.Sha256.{sha256}

-- the bytes of a block of SHA-256
abbrev pub block_length : ℕ
block_length = 64

-- a block that begins with these bytes and is filled with zeros
abbrev pub filled : List ℕ → List ℕ
filled bytes = bytes ++ replicate (block_length - length bytes) 0

-- a key as a block: one that is longer than a block is replaced by its digest
abbrev pub block_of : List ℕ → List ℕ
block_of key = if nat_lt block_length (length key) then filled (sha256 key) else filled key

-- each byte of a block, xor the same byte
abbrev pub padded : ℕ → List ℕ → List ℕ
padded pad block = map (λ byte. bit_xor byte pad) block

-- the code of a message under a key: the outer pad is 0x5c, the inner one 0x36
unfoldable pub hmac : List ℕ → List ℕ → List ℕ
hmac key message = sha256 (padded 0x5c (block_of key) ++ sha256 (padded 0x36 (block_of key) ++ message))
