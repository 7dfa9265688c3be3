-- Where a position stands: document 01, "Questions". c is the chain's bytes, l the list's, z the size of a record, g a graph position.
use Rattle.std.specs.Prelude.{ℕ, List, Result, Ok, Err}
use Rattle.words.specs.First.{refuse}
use Rattle.list.specs.List.{length_at}
use Rattle.types.specs.declared.refusal.Refusal.{Refusal}
use Rattle.file.specs.declared.File.{File}
use Rattle.graph.specs.Chain.{placed, start_at, open_at, file_of, pos_of, asked}
use Rattle.graph.specs.declared.locate.Spot.{Spot}

-- place i of file k, which has the n bytes at `at` of the chain; none where the file does not open
unfoldable pub spot_in : ℕ → ℕ → ℕ → ℕ → Result File Refusal → Result Spot Refusal
spot_in k at n i (Ok f) = Ok (record { file = k; start = at; size = n; pos = record { 0 = i }; inner = f })
spot_in k at n i (Err r) = Err (placed k r)

-- where position g stands
unfoldable pub located : ℕ → List ℕ → List ℕ → ℕ → Result Spot Refusal
located z c l g =
    refuse (asked z c l g) Err
    (spot_in (file_of z c l g) (start_at z c l (file_of z c l g)) (length_at z l (file_of z c l g)) (pos_of z c l g)
    (open_at z c l (file_of z c l g)))
