-- Document 01, "Coins on both sides of the line": K1 to K16, each what a definition gives and what the paper says.
use Rattle.std.specs.Prelude.{ℕ, List, [], ◌∷◌, ◌≡◌, replicate, Some}
use Rattle.ancestry.specs.Graph.{right_gen, length_of}
use Rattle.types.specs.Refusals.{number_in}
use Rattle.commit.specs.Commits.{edge_of, commit_of}
use Rattle.steps.specs.Walks.{extra_of, edge_rule}
use Rattle.commit.specs.declared.ParentEdge.{ParentEdge}
use Rattle.steps.specs.declared.ExtraEdge.{ExtraEdge}
use Rattle.commit.specs.declared.ParentEdge.TheVariants.{None, GraphPosition, ExtraEdgeIndex}
use Rattle.steps.specs.declared.ExtraEdge.TheVariants.{Internal, Last}
use Rattle.audit.specs.Rules.{length_by}
use Rattle.audit.specs.declared.Length.{Length}
use Rattle.audit.specs.declared.Length.TheVariants.{Steps}

pub record Coin : Type 1 where
  pub kind : Type 0
  pub got : kind
  pub want : kind

abbrev pub coin : (T : Type 0) → T → T → Coin
coin T a b = record { kind = T; got = a; want = b }

-- every coin of a list is as the paper says
unfoldable pub All : List Coin → Type 0
All [] = Unit {0}
All (k ∷ ks) = (k.got ≡ k.want) × All ks

-- two parent words that are 0, and then 8 date bytes
abbrev pub dated : List ℕ → List ℕ
dated d = 0 ∷ 0 ∷ 0 ∷ 0 ∷ 0 ∷ 0 ∷ 0 ∷ 0 ∷ d

abbrev pub coins : List Coin
coins =
    coin ParentEdge (edge_of 0x70000000) None  -- K1
    ∷ coin ParentEdge (edge_of 0x6FFFFFFF) (GraphPosition (record { 0 = 1879048191 }))  -- K2
    ∷ coin ParentEdge (edge_of 0x70000001) (GraphPosition (record { 0 = 1879048193 }))  -- K3
    ∷ coin ParentEdge (edge_of 0x80000000) (ExtraEdgeIndex 0)  -- K4
    ∷ coin ParentEdge (edge_of 0xFFFFFFFF) (ExtraEdgeIndex 2147483647)  -- K5
    ∷ coin ExtraEdge (extra_of 0x70000000) (Internal (record { 0 = 1879048192 }))  -- K6
    ∷ coin ExtraEdge (extra_of 0x80000007) (Last (record { 0 = 7 }))  -- K7
    ∷ coin ℕ (commit_of (dated (0 ∷ 0 ∷ 0 ∷ 7 ∷ 0 ∷ 0 ∷ 0 ∷ 5 ∷ [])) 0).generation 1  -- K8
    ∷ coin ℕ (commit_of (dated (0 ∷ 0 ∷ 0 ∷ 7 ∷ 0 ∷ 0 ∷ 0 ∷ 5 ∷ [])) 0).time 12884901893
    ∷ coin ℕ (commit_of (dated (replicate 8 255)) 0).generation 1073741823  -- K9
    ∷ coin ℕ (commit_of (dated (replicate 8 255)) 0).time 17179869183
    ∷ coin ℕ (number_in (edge_rule (Some (replicate 8 0)) 2)) 53  -- K10
    ∷ coin ℕ (number_in (edge_rule (Some (replicate 6 0)) 1)) 54  -- K11
    ∷ coin ℕ (number_in (edge_rule (Some (replicate 6 0)) 2)) 53  -- K12
    ∷ coin ℕ (right_gen (λ p. p) []) 1  -- K13
    ∷ coin ℕ (right_gen (λ p. p) (1073741822 ∷ [])) 1073741823  -- K14
    ∷ coin ℕ (right_gen (λ p. p) (1073741823 ∷ [])) 1073741823  -- K15
    ∷ coin Length (length_by (length_of 10)) (Steps 9)  -- K16
    ∷ []
