-- What opening a chain says, and where a position stands: the commits of a chain; the file that has a position, and where it lies.
use Rattle.std.specs.Prelude.{ℕ, [], ◌∷◌, Result, Ok, Err}
use Rattle.types.specs.Said.{Said, says, refuses}
use Rattle.types.specs.declared.refusal.Refusal.{Refusal}
use Rattle.file.specs.Said.{record_said}
use Rattle.graph.specs.declared.locate.Spot.{Spot}

unfoldable pub opening_said : Result ℕ Refusal → Said
opening_said (Ok n) = says n []
opening_said (Err r) = refuses r

unfoldable pub located_said : Result Spot Refusal → Said
located_said (Ok s) = says s.file (s.start ∷ s.size ∷ s.pos.0 ∷ s.inner.commits ∷ record_said s.inner)
located_said (Err r) = refuses r
