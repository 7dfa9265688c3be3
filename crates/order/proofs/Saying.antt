-- What each answer says tells its cases and their values apart: a way back for each image.
use Rattle.std.proofs.Common.{ℕ, zero, suc, List, [], ◌∷◌, ◌≡◌, refl}
use Rattle.types.specs.Said.{Said}
use Rattle.types.proofs.Saying.{Back}
use Rattle.order.specs.Said.{order_said}
use Rattle.std.specs.declared.cmp.Ordering.{Ordering}
use Rattle.std.specs.declared.cmp.Ordering.TheVariants.{Less, Equal, Greater}

abbrev order_from : List ℕ → Ordering
order_from (suc zero ∷ vs) = Equal
order_from (suc (suc n) ∷ vs) = Greater
order_from (zero ∷ vs) = Less
order_from [] = Less

abbrev order_of : Said → Ordering
order_of s = order_from s.values

order_again : (a : Ordering) → order_of (order_said a) ≡ a
unfolding order_said
order_again Less = refl
order_again Equal = refl
order_again Greater = refl

pub order_back : Back order_said
order_back = record { of = order_of; back = order_again }
