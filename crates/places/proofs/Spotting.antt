-- Where the id and the tree at a position of a chain lie, by the spot at which it stands.
use Rattle.std.proofs.Common.{ℕ, ◌+◌, ◌*◌, ◌≤◌, List, ◌∙◌, arith, add-zero, length, true, ◌≡◌, Ok, Err}
use Rattle.words.specs.First.{fine}
use Rattle.types.specs.declared.refusal.Refusal.{Refusal}
use Rattle.fit.specs.Fits.{Fitted}
use Rattle.fit.proofs.Opens.{opened}
use Rattle.fit.proofs.Fitting.{run_within}
use Rattle.graph.specs.Chain.{part_at, open_at, width_in}
use Rattle.graph.specs.Spots.{located}
use Rattle.ask.specs.Questions.{id_in, tree_in}
use Rattle.graph.specs.Theorems.{Spotted}
use Rattle.graph.specs.declared.locate.Spot.{Spot}
use Rattle.graph.proofs.Passing.{part_long}
use Rattle.graph.proofs.Standing.{asked_opened}
use Rattle.graph.proofs.Views.{opened_listed}
use Rattle.graph.proofs.Spots.{spotted, unspotted_as}
use Rattle.flat.specs.Images.{flat_part}
use Rattle.places.specs.Places.{chain_id, chain_tree}

module _ (z : ℕ) (c l : List ℕ) (g : ℕ) where
  -- a refused position has neither
  module _ {q : Refusal} (e : located z c l g ≡ Err q) where
    pub id_refused : flat_part (Err q) 0 0 ≡ chain_id z c l g
    id_refused = rw (unspotted_as z c l g e)

    pub tree_refused : flat_part (Err q) 0 0 ≡ chain_tree z c l g
    tree_refused = rw (unspotted_as z c l g e)

  -- it stands at r: both lie in the chain
  module _ {r : Spot} (e : located z c l g ≡ Ok r) where
    spot : Spotted z c l g r
    spot = spotted z c l g e

    pub id_stands : flat_part fine (r.start + (r.inner.oidl + r.pos.0 * (r.inner.width + 0))) r.inner.width ≡ chain_id z c l g
    unfolding id_in width_in
    id_stands = rw (add-zero, spot.asks, spot.file, spot.pos, spot.opens, spot.start)

    pub tree_stands : flat_part fine (r.start + (r.inner.cdat + r.pos.0 * (r.inner.width + 16))) r.inner.width ≡ chain_tree z c l g
    unfolding tree_in width_in
    tree_stands = rw (spot.asks, spot.file, spot.pos, spot.opens, spot.start)

    long : length (part_at z c l r.file) ≡ r.size
    long = part_long z c l (opened_listed z c l (asked_opened z c l g spot.asks)) r.file spot.below ∙ spot.size

    fits : Fitted (part_at z c l r.file) r.inner
    unfolding open_at
    fits = (opened true (part_at z c l r.file) spot.opens).fitted

    pub id_room : r.start + (r.inner.oidl + (r.pos.0 * (r.inner.width + 0) + (r.inner.width + 0))) ≤ length c
    id_room = simp add-zero (omega (arith, fits.ids, run_within r.pos.0 r.inner.commits r.inner.width spot.high, long, spot.room))

    pub tree_room : r.start + (r.inner.cdat + (r.pos.0 * (r.inner.width + 16) + (r.inner.width + 16))) ≤ length c
    tree_room = omega (arith, fits.rows, run_within r.pos.0 r.inner.commits (r.inner.width + 16) spot.high, long, spot.room)

-- how the row at a position is placed
pub ruleset spotting = (id_refused, tree_refused, id_stands, tree_stands, id_room, tree_room)
