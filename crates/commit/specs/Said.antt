-- What each case of `ParentEdge` says, and the answer of a question for a commit: a parent word as its kind, 0 to 2, and its position or EDGE index; a commit.
use Rattle.std.specs.Prelude.{ℕ, [], ◌∷◌, Result, Ok, Err}
use Rattle.types.specs.Said.{Said, says, refuses}
use Rattle.commit.specs.declared.ParentEdge.{ParentEdge}
use Rattle.commit.specs.declared.ParentEdge.TheVariants.{None, GraphPosition, ExtraEdgeIndex}
use Rattle.types.specs.declared.refusal.Refusal.{Refusal}
use Rattle.commit.specs.declared.Commit.{Commit}

abbrev pub edge_kind : ParentEdge → ℕ
edge_kind None = 0
edge_kind (GraphPosition p) = 1
edge_kind (ExtraEdgeIndex k) = 2

abbrev pub edge_word : ParentEdge → ℕ
edge_word None = 0
edge_word (GraphPosition p) = p.0
edge_word (ExtraEdgeIndex k) = k

abbrev pub edge_said : ParentEdge → Said
edge_said e = says (edge_kind e) (edge_word e ∷ [])

unfoldable pub asked_said : Result Commit Refusal → Said
asked_said (Ok c) =
    says c.generation (c.time ∷ edge_kind c.first ∷ edge_word c.first ∷ edge_kind c.second ∷ edge_word c.second ∷ [])
asked_said (Err r) = refuses r
