-- What each case of `ExtraEdge` and `Phase` says, what a step meets, a step and a count: a phase is its kind, 0 to 3, and its EDGE number.
use Rattle.std.specs.Prelude.{ℕ, [], ◌∷◌, eqb, Option, Some, None, Result, Ok, Err}
use Rattle.words.specs.First.{◌if◌else◌}
use Rattle.types.specs.Said.{Said, says, refuses, beside}
use Rattle.steps.specs.declared.ExtraEdge.{ExtraEdge}
use Rattle.steps.specs.declared.ExtraEdge.TheVariants.{Internal, Last}
use Rattle.steps.specs.declared.Phase.{Phase}
use Rattle.steps.specs.declared.Phase.TheVariants.{First, Second, Edge, Exhausted}
use Rattle.steps.specs.declared.Parent.{Parent}
use Rattle.types.specs.declared.refusal.Reason.{Reason}
use Rattle.steps.specs.declared.Next.{Next}
use Rattle.types.specs.Refusals.{refusal}

unfoldable pub extra_said : ExtraEdge → Said
extra_said (Internal p) = says 0 (p.0 ∷ [])
extra_said (Last p) = says 1 (p.0 ∷ [])

abbrev pub phase_kind : Phase → ℕ
phase_kind First = 0
phase_kind Second = 1
phase_kind (Edge k) = 2
phase_kind Exhausted = 3

abbrev pub phase_edge : Phase → ℕ
phase_edge First = 0
phase_edge Second = 0
phase_edge (Edge k) = k
phase_edge Exhausted = 0

abbrev pub phase_said : Phase → Said
phase_said s = says (phase_kind s) (phase_edge s ∷ [])

-- a phase again, from its number and its EDGE number: any other number is exhausted
unfoldable pub phase_of : ℕ → ℕ → Phase
phase_of n edge =
    First if eqb n 0 else
    Second if eqb n 1 else
    Edge edge if eqb n 2 else
    Exhausted

-- a refusal here has a reason alone
unfoldable pub met_said : Result (Option Parent) Reason → Said
met_said (Ok (Some q)) = says 1 (q.position.0 ∷ [])
met_said (Err e) = refuses (refusal e 0)
met_said (Ok None) = says 0 []

-- what was met, with the phase after it
unfoldable pub next_said : Next → Said
next_said x = beside (phase_kind x.phase) (phase_edge x.phase ∷ (met_said x.met).values) (met_said x.met)

unfoldable pub counted_said : Result ℕ Reason → Said
counted_said (Ok n) = says n []
counted_said (Err e) = refuses (refusal e 0)
