-- `parents::listing::fill_in` meets its contract.
-- The invariant: the entries before this one are done, and the parents left at `phase` written over the rest give the whole (`Filling`).
-- A turn that meets a parent moves it from what is left to its entry (`fill_next`); a refusal and the end leave nothing to write (`fill_stops`),
-- and so does a full list (`fill_full`).
use Rattle.steps.specs.Walks.{shown, first_walk, rest_of, positions}
use Rattle.parents.specs.Lists.{overlay}
use Rattle.parents.proofs.Filling.{Filling}
use Rattle.parents.proofs.listing.fill_in.Given as goal

abbrev pub invariant-loop-entry : goal.invariant-loop-entry
invariant-loop-entry l =
    Filling (overlay (positions (first_walk l.first l.second (shown l.edge))) l.initial.entry-items)
    (rest_of l.first l.second (shown l.edge) l.phase) l.entry-index l.entry-items
