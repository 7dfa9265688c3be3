-- What each case of `Name` says: its kind, 0 to 2, and the hash; zeros where the name claims none.
use Rattle.std.specs.Prelude.{replicate}
use Rattle.types.specs.Said.{Said, says}
use Rattle.name.specs.declared.Name.{Name}
use Rattle.name.specs.declared.Name.TheVariants.{Other, Claims, Hashless}

unfoldable pub name_said : Name → Said
name_said Other = says 0 (replicate 20 0)
name_said (Claims hash) = says 1 hash
name_said Hashless = says 2 (replicate 20 0)
