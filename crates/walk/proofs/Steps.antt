-- The ways through a step on a chain.
use Rattle.std.proofs.Common.{ℕ, List, ◌≡◌, Bor, Result, Ok, Err}
use Rattle.std.specs.Prelude.{Option}
use Rattle.words.proofs.Determined.{same}
use Rattle.words.specs.First.{refuse}
use Rattle.types.specs.declared.refusal.Refusal.{Refusal}
use Rattle.words.specs.Part.{RecordsOf}
use Rattle.steps.specs.declared.Parent.{Parent}
use Rattle.parents.specs.Walks.{step_of as fileStep}
use Rattle.parents.specs.declared.Step.{Step as FileStep}
use Rattle.graph.specs.Chain.{asked, in_file}
use Rattle.graph.specs.Spots.{located}
use Rattle.graph.specs.declared.locate.Spot.{Spot}
use Rattle.graph.proofs.Spots.{spotted, unspotted_as, file_cut}
use Rattle.walk.specs.Walks.{refused, step_by, step_of, ByDoor}
use Rattle.walk.specs.declared.Walk.{Walk}
use Rattle.walk.specs.declared.Step.{Step}

-- the question for the walk's commit is refused
pub step_refused : (z : ℕ) (c l : List ℕ) (w : Walk) {q : Refusal} → asked z c l w.commit.0 ≡ Err q → refused w q ≡ step_of z c l w
unfolding step_of refuse
step_refused z c l w e = rw e

module _ (z : ℕ) (c : Bor (List ℕ)) (l : List ℕ) (w : Walk) where
  pub step_out : {q : Refusal} → located z c.now l w.commit.0 ≡ Err q → refused w q ≡ step_of z c.now l w
  step_out e = step_refused z c.now l w (unspotted_as z c.now l w.commit.0 e)

  -- s is the file that was cut by the spot, x what its own step gave, and a its answer with the file's index
  pub step_in_lem : {r : Spot} → located z c.now l w.commit.0 ≡ Ok r → {s : Bor (List ℕ)} → RecordsOf c r.start r.size 1 s
      → {x : FileStep} → x ≡ fileStep s.now r.inner r.pos.0 w.phase → {a : Result (Option Parent) Refusal} → a ≡ in_file r.file x.answer
      → ◌≡◌ {A = Step} (record { answer = a; next = record { commit = w.commit; phase = x.next } }) (step_of z c.now l w)
  unfolding step_of refuse step_by
  step_in_lem {r} e {s} k q d =
      let h = spotted z c.now l w.commit.0 e in
      let f = file_cut c h k in
      rw (h.asks, h.file, h.pos, h.opens, ← f.bytes, ← q, d)

-- any two answers of the second door, and any two walks that it leaves, are equal
pub next_parent_determined : (c l : List ℕ) (w : Walk) {r s : Result (Option Parent) Refusal} {x y : Walk} → ByDoor c l w r x
    → ByDoor c l w s y → (r ≡ s) × (x ≡ y)
next_parent_determined c l w p q = (same p.0.is q.0.is, same p.1 q.1)
