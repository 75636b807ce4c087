-- The target of a request (RFC 9112, 3.2): its path, and the token that the query of a WOPI request carries (MS-WOPI, access_token).
use Rattle.std.specs.Prelude.{ℕ, Bool, List, [], ◌++◌, Option, codes, length, take, drop, find, ◌==◌, if◌then◌else◌}
use Rattle.std.specs.List.{before_first, after_first, slice_split}
use Rattle.std.specs.Option.{option_map_or}
use Rattle.std.specs.Str.{bytes_eq, str_eq_ignore_ascii_case}
use Rattle.percent_encoding.specs.Percent.{percent_decode}

-- bytes begin with the prefix, in any case
abbrev pub begins_with : List ℕ → List ℕ → Bool
begins_with prefix bytes = str_eq_ignore_ascii_case (take (length prefix) bytes) prefix

-- from the first slash on, or a slash where there is none
abbrev pub from_slash : List ℕ → List ℕ
from_slash bytes = codes "/" ++ after_first (λ b. b == 47) bytes

-- the path of what stands before the query: where that begins with a scheme, the path begins at the first slash behind the authority
abbrev pub path_in : List ℕ → List ℕ
path_in front =
    if begins_with (codes "http://") front then from_slash (drop 7 front)
    else if begins_with (codes "https://") front then from_slash (drop 8 front)
    else front

-- what stands before the first `?` and after it
unfoldable pub path_of : List ℕ → List ℕ
path_of target = path_in (before_first (λ b. b == 63) target)

abbrev pub query_of : List ℕ → List ℕ
query_of target = after_first (λ b. b == 63) target

-- a part of a query, between its `&`, is the token: what stands before its first `=` is the name
abbrev pub is_token : List ℕ → Bool
is_token part = bytes_eq (before_first (λ b. b == 61) part) (codes "access_token")

-- the first part that is
abbrev pub token_part : List ℕ → Option (List ℕ)
token_part query = find is_token (slice_split (λ b. b == 38) query)

-- its value, percent-decoded, or nothing where there is no such part
unfoldable pub token_in : List ℕ → List ℕ
token_in query = option_map_or (λ part. percent_decode (after_first (λ b. b == 61) part)) (token_part query) []

unfoldable pub token_of : List ℕ → List ℕ
token_of target = token_in (query_of target)
