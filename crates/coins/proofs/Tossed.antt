-- K1 to K16 hold, by computation.
use Rattle.std.proofs.Common.{refl}
use Rattle.words.specs.Big.{be}
use Rattle.words.specs.First.{◌if◌else◌}
use Rattle.ancestry.specs.Graph.{highest_in, length_of}
use Rattle.commit.specs.Commits.{edge_of, commit_of}
use Rattle.steps.specs.Walks.{extra_of, edge_rule}
use Rattle.audit.specs.Rules.{length_by}
use Rattle.coins.specs.Coins.{All, coins}

pub all_coins : All coins
unfolding All edge_of ◌if◌else◌ extra_of commit_of be edge_rule highest_in length_of length_by
all_coins = (
  refl,
  (
    refl,
    (
      refl,
      (refl, (refl, (refl, (refl, (refl, (refl, (refl, (refl, (refl, (refl, (refl, (refl, (refl, (refl, (refl, tt))))))))))))))),
    ),
  ),
)
