-- What each case of `Ordering` says: 0, 1 and 2.
use Rattle.std.specs.Prelude.{[]}
use Rattle.types.specs.Said.{Said, says}
use Rattle.std.specs.declared.cmp.Ordering.{Ordering}
use Rattle.std.specs.declared.cmp.Ordering.TheVariants.{Less, Equal, Greater}

unfoldable pub order_said : Ordering → Said
order_said Less = says 0 []
order_said Equal = says 1 []
order_said Greater = says 2 []
