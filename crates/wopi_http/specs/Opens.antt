-- Bodies that aren't whole yet and can still come.
use Rattle.std.specs.Prelude.{ℕ, ◌≡◌, ◌+◌, ◌≤◌, ◌<◌, List, ◌++◌, length}
use Rattle.wopi_http.specs.declared.framing.Framing.{Framing}
use Rattle.wopi_http.specs.declared.framing.Framing.TheVariants.{Sized, Chunked, Refused}
use Rattle.wopi_http.specs.Limits.{body_limit, chunk_limit}
use Rattle.wopi_http.specs.Chunks.{ReadsSizeLine, ReadsChunks, carried}
use Rattle.wopi_http.specs.ChunkReads.{IsOpenLine, IsOpenEnd, IsOpenTrailers}

-- less than the data of a chunk of this size, or the data, and the end of its line isn't whole
pub data IsOpenData (size : ℕ) (bytes : List ℕ) : Type 0 where
  in_data : length bytes < size → IsOpenData size bytes
  in_end : (chunk end : List ℕ) → bytes ≡ chunk ++ end → length chunk ≡ size → IsOpenEnd end → IsOpenData size bytes

-- behind count chunks of used bytes another, or the last one, isn't whole
pub data IsOpenChunk (used count : ℕ) (bytes : List ℕ) : Type 0 where
  in_line : IsOpenLine bytes → IsOpenChunk used count bytes
  in_chunk : (size : ℕ) (rest : List ℕ) → ReadsSizeLine bytes size rest → 0 < size → used + size ≤ body_limit
      → count < chunk_limit → IsOpenData size rest → IsOpenChunk used count bytes
  in_trailers : (rest : List ℕ) → ReadsSizeLine bytes 0 rest → IsOpenTrailers rest → IsOpenChunk used count bytes

-- chunks that keep the limits, and behind them one that isn't whole
pub record IsOpenChunked (bytes : List ℕ) : Type 0 where
  pub chunks : List (List ℕ)
  pub at : List ℕ
  pub reads : ReadsChunks bytes chunks at
  pub small : carried chunks ≤ body_limit
  pub few : length chunks ≤ chunk_limit
  pub next : IsOpenChunk (carried chunks) (length chunks) at

-- a body in this framing isn't whole; none that is refused is waited for
abbrev pub IsOpenBody : Framing → List ℕ → Type 0
IsOpenBody (Sized n) wire = length wire < n
IsOpenBody Chunked wire = IsOpenChunked wire
IsOpenBody (Refused s) wire = ⊥
