-- The trailer alone: the ways through its rule, and that there is room for it.
use Rattle.std.proofs.Common.{ℕ, ◌≤◌, List, ◌≡◌, arith, length, Err}
use Rattle.types.specs.declared.refusal.Reason.{Reason}
use Rattle.words.specs.First.{fine, refuse, ◌or◌}
use Rattle.fit.specs.Fits.{fit_rule, Fitted}
use Rattle.file.specs.declared.File.{File}
use Rattle.fit.proofs.Fitting.{fit_known, fitted}
use Rattle.rules.specs.Rules.{sum_rule, sum_in}
use Rattle.sums.specs.Sums.{checksum_rule}
use Rattle.rules.proofs.Entries.{or_refuse}
use Rattle.rules.proofs.Trailers.{sum_plain}

module _ (p : List ℕ) (f : File) where
  pub checksum_is : checksum_rule p f ≡ refuse (fit_rule p f) Err (sum_rule f.width p)
  unfolding checksum_rule
  checksum_is = or_refuse _ _

  pub checksum_misfit : {r : Reason} → fit_rule p f ≡ Err r → checksum_rule p f ≡ Err r
  unfolding checksum_rule ◌or◌
  checksum_misfit h = rw h

  module _ (h : fit_rule p f ≡ fine) where
    pub trailer_room : f.width ≤ length p
    trailer_room = let k : Fitted p f = fitted p f h in omega (arith, k.fan, k.narrow)

    pub checksum_sum : checksum_rule p f ≡ sum_in f.width p
    unfolding checksum_rule ◌or◌
    checksum_sum = grind (arith, sum_plain, fit_known, trailer_room)

-- how a trailer is tried
pub ruleset trailing = (checksum_is, checksum_sum)
