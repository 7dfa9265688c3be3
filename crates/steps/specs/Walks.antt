-- The walk over a commit's parents: document 01, "Parent step", and gitformat-commit-graph's "Extra Edge List" (EDGE).
-- a and b are the commit's two parent words, e is the EDGE chunk's own bytes, where there is such a chunk.
use Rattle.std.specs.Prelude.{ℕ, zero, suc, ◌+◌, ◌-◌, ◌*◌, ◌/◌, List, [], ◌∷◌, length, ltb, leb, Option, Some, None, option_map, unwrap_or}
use Rattle.std.specs.Prelude.{Result, Ok, Err, ⊤}
use Rattle.std.specs.Borrow.{Bor}
use Rattle.types.specs.declared.graph.Position.{Position}
use Rattle.types.specs.declared.refusal.Reason.{Reason}
use Rattle.words.specs.Big.{be}
use Rattle.words.specs.First.{◌if◌else◌, fine, refuse}
use Rattle.commit.specs.declared.ParentEdge.{ParentEdge}
use Rattle.commit.specs.declared.ParentEdge.TheVariants.{None as Nothing, GraphPosition, ExtraEdgeIndex}
use Rattle.steps.specs.declared.ExtraEdge.{ExtraEdge}
use Rattle.steps.specs.declared.ExtraEdge.TheVariants.{Internal, Last}
use Rattle.steps.specs.declared.Phase.{Phase}
use Rattle.steps.specs.declared.Phase.TheVariants.{First, Second, Edge, Exhausted}
use Rattle.steps.specs.declared.Next.{Next}

-- an EDGE word
unfoldable pub extra_of : ℕ → ExtraEdge
extra_of x = Last (record { 0 = x - 0x80000000 }) if leb 0x80000000 x else Internal (record { 0 = x })

-- an EDGE chunk that is lent, by its bytes
abbrev pub shown : Option (Bor (List ℕ)) → Option (List ℕ)
shown e = option_map (λ b. b.now) e

-- ── one step ──

-- a refusal and the end leave the walk exhausted; a parent goes on from a phase
abbrev pub stop : Reason → Next
stop e = record { met = Err e; phase = Exhausted }

abbrev pub done : Next
done = record { met = Ok None; phase = Exhausted }

abbrev pub onward : Position → Phase → Next
onward p s = record { met = Ok (Some (record { position = p })); phase = s }

-- EDGE number k
unfoldable pub edge_rule : Option (List ℕ) → ℕ → Result ⊤ Reason
edge_rule None k = Err Reason.EdgeMissing
edge_rule (Some e) k =
    Err Reason.EdgeOut if leb (length e) (4 * k) else
    Err Reason.EdgeCut if ltb (length e) (4 * k + 4) else
    fine

-- the bytes; none where there is no chunk
abbrev pub edge_bytes : Option (List ℕ) → List ℕ
edge_bytes e = unwrap_or e []

abbrev pub extra_next : ExtraEdge → ℕ → Next
extra_next (Last p) k = onward p Exhausted
extra_next (Internal p) k = onward p (Edge (k + 1))

unfoldable pub edge_next : Option (List ℕ) → ℕ → Next
edge_next e k = refuse (edge_rule e k) stop (extra_next (extra_of (be 4 (edge_bytes e) (4 * k))) k)

-- the second word
unfoldable pub second_next : Option (List ℕ) → ParentEdge → Next
second_next e Nothing = done
second_next e (GraphPosition p) = onward p Exhausted
second_next e (ExtraEdgeIndex k) = edge_next e k

-- the first word: 50 and 51 are tried here only
unfoldable pub alone_next : ParentEdge → Next
alone_next Nothing = done
alone_next (GraphPosition p) = stop Reason.SecondAlone
alone_next (ExtraEdgeIndex k) = stop Reason.SecondAlone

unfoldable pub first_next : ParentEdge → ParentEdge → Next
first_next Nothing b = alone_next b
first_next (GraphPosition p) b = onward p Second
first_next (ExtraEdgeIndex k) b = stop Reason.FirstEdge

unfoldable pub next_of : ParentEdge → ParentEdge → Option (List ℕ) → Phase → Next
next_of a b e First = first_next a b
next_of a b e Second = second_next e b
next_of a b e (Edge k) = edge_next e k
next_of a b e Exhausted = done

-- ── the walk to its end ──

-- the parents as the walk meets them, then the end, which may be a refusal
pub data Walked : Type 0 where
  ends : Result ⊤ Reason → Walked
  parent : ℕ → Walked → Walked

abbrev pub stops : Reason → Walked
stops e = ends (Err e)

unfoldable pub extra_walk : ExtraEdge → Walked → Walked
extra_walk (Last p) rest = parent p.0 (ends fine)
extra_walk (Internal p) rest = parent p.0 rest

-- from EDGE number k on, with so many words left, a cut one counted
unfoldable pub edge_from : Option (List ℕ) → ℕ → ℕ → Walked
edge_from e zero k = ends (edge_rule e k)
edge_from e (suc left) k =
    refuse (edge_rule e k) stops (extra_walk (extra_of (be 4 (edge_bytes e) (4 * k))) (edge_from e left (k + 1)))

abbrev pub words_in : List ℕ → ℕ
words_in e = (length e + 3) / 4

unfoldable pub edge_walk : Option (List ℕ) → ℕ → Walked
edge_walk e k = edge_from e (words_in (edge_bytes e) - k) k

unfoldable pub second_walk : Option (List ℕ) → ParentEdge → Walked
second_walk e Nothing = ends fine
second_walk e (GraphPosition p) = parent p.0 (ends fine)
second_walk e (ExtraEdgeIndex k) = edge_walk e k

unfoldable pub alone_walk : ParentEdge → Walked
alone_walk Nothing = ends fine
alone_walk (GraphPosition p) = ends (Err Reason.SecondAlone)
alone_walk (ExtraEdgeIndex k) = ends (Err Reason.SecondAlone)

unfoldable pub first_walk : ParentEdge → ParentEdge → Option (List ℕ) → Walked
first_walk Nothing b e = alone_walk b
first_walk (GraphPosition p) b e = parent p.0 (second_walk e b)
first_walk (ExtraEdgeIndex k) b e = ends (Err Reason.FirstEdge)

-- what is left of the walk at each phase
unfoldable pub rest_of : ParentEdge → ParentEdge → Option (List ℕ) → Phase → Walked
rest_of a b e First = first_walk a b e
rest_of a b e Second = second_walk e b
rest_of a b e (Edge k) = edge_walk e k
rest_of a b e Exhausted = ends fine

-- the positions that a walk answers, how it ends, and how many there are
unfoldable pub positions : Walked → List ℕ
positions (ends r) = []
positions (parent p w) = p ∷ positions w

unfoldable pub end_of : Walked → Result ⊤ Reason
end_of (ends r) = r
end_of (parent p w) = end_of w

unfoldable pub counted : Result ⊤ Reason → ℕ → Result ℕ Reason
counted (Ok u) n = Ok n
counted (Err e) n = Err e

unfoldable pub count_from : ℕ → Walked → Result ℕ Reason
count_from n (ends r) = counted r n
count_from n (parent p w) = count_from (n + 1) w

unfoldable pub count_of : ParentEdge → ParentEdge → Option (List ℕ) → Result ℕ Reason
count_of a b e = count_from 0 (first_walk a b e)
