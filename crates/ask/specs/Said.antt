-- What a lookup says: a position, 0 for none.
use Rattle.std.specs.Prelude.{[], ◌∷◌, Some, None, Ok, Err}
use Rattle.types.specs.Said.{Said, says, refuses}
use Rattle.ask.specs.Lookups.{Found}

unfoldable pub found_said : Found → Said
found_said (Ok (Some p)) = says 1 (p.0 ∷ [])
found_said (Ok None) = says 0 []
found_said (Err r) = refuses r
