-- What each answer says tells its cases and their values apart: a way back for each image.
use Rattle.std.proofs.Common.{ℕ, zero, suc, List, [], ◌∷◌, ◌≡◌, refl, ap, ap₂, get_or, Result, Ok, Err}
use Rattle.types.specs.Said.{Said}
use Rattle.types.specs.declared.refusal.Refusal.{Refusal}
use Rattle.types.proofs.Saying.{Back, refusal_of, refusal_back}
use Rattle.commit.specs.Said.{edge_kind, edge_word, edge_said, asked_said}
use Rattle.commit.specs.declared.Commit.{Commit}
use Rattle.commit.specs.declared.ParentEdge.{ParentEdge}
use Rattle.commit.specs.declared.ParentEdge.TheVariants.{None, GraphPosition, ExtraEdgeIndex}

abbrev edge_from_lem : ℕ → ℕ → ParentEdge
edge_from_lem zero x = None
edge_from_lem (suc zero) x = GraphPosition (record { 0 = x })
edge_from_lem (suc (suc n)) x = ExtraEdgeIndex x

abbrev edge_of : Said → ParentEdge
edge_of s = edge_from_lem (get_or s.values 0 0) (get_or s.values 1 0)

edge_again : (a : ParentEdge) → edge_from_lem (edge_kind a) (edge_word a) ≡ a
edge_again None = refl
edge_again (GraphPosition p) = refl
edge_again (ExtraEdgeIndex k) = refl

pub edge_back : Back edge_said
edge_back = record { of = edge_of; back = edge_again }

abbrev asked_from : Refusal → List ℕ → Result Commit Refusal
asked_from r [] = Err r
asked_from r (g ∷ vs) =
    Ok (record {
      generation = g;
      time = get_or vs 0 0;
      first = edge_from_lem (get_or vs 1 0) (get_or vs 2 0);
      second = edge_from_lem (get_or vs 3 0) (get_or vs 4 0);
    })

abbrev asked_of : Said → Result Commit Refusal
asked_of s = asked_from (refusal_of s) s.values

asked_again : (a : Result Commit Refusal) → asked_of (asked_said a) ≡ a
unfolding asked_said
asked_again (Ok c) =
    ap₂ (λ (a b : ParentEdge). Ok (record { generation = c.generation; time = c.time; first = a; second = b }))
    (edge_again c.first) (edge_again c.second)
asked_again (Err r) = ap Err (refusal_back r)

pub asked_back : Back asked_said
asked_back = record { of = asked_of; back = asked_again }
