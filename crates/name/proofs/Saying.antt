-- The image of what a name says is one to one: here is the way back.
use Rattle.std.proofs.Common.{ℕ, zero, suc, List, ◌≡◌, refl, get_or, drop}
use Rattle.types.specs.Said.{Said}
use Rattle.types.proofs.Saying.{Back}
use Rattle.name.specs.declared.Name.{Name}
use Rattle.name.specs.declared.Name.TheVariants.{Other, Claims, Hashless}
use Rattle.name.specs.Said.{name_said}

abbrev name_from : ℕ → List ℕ → Name
name_from zero hash = Other
name_from (suc zero) hash = Claims hash
name_from (suc (suc n)) hash = Hashless

abbrev named : Said → Name
named s = name_from (get_or s.values 0 0) (drop 1 s.values)

name_again : (a : Name) → named (name_said a) ≡ a
unfolding name_said
name_again Other = refl
name_again (Claims hash) = refl
name_again Hashless = refl

pub name_back : Back name_said
name_back = record { of = named; back = name_again }
