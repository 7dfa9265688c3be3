-- What an answer for a part and that of a lookup say: a position, 0 for none.
use Rattle.std.specs.Prelude.{[], ◌∷◌, Some, None, Result, Ok, Err, ⊤}
use Rattle.types.specs.Said.{Said, says, refuses}
use Rattle.types.specs.declared.refusal.Refusal.{Refusal}
use Rattle.access.specs.Lookup.{Found}

unfoldable pub asking_said : Result ⊤ Refusal → Said
asking_said (Ok u) = says 0 []
asking_said (Err r) = refuses r

unfoldable pub found_said : Found → Said
found_said (Ok (Some p)) = says 1 (p.0 ∷ [])
found_said (Ok None) = says 0 []
found_said (Err r) = refuses r
