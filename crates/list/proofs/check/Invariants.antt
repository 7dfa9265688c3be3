-- `list::check` meets its contract. The invariant of its loop: the search for a flawed record among all c is the search from k on. Each turn passes
-- a record that breaks no rule, or returns its refusal.
use Rattle.std.proofs.Common.{◌-◌, ◌≡◌}
use Rattle.words.specs.First.{first}
use Rattle.list.specs.List.{flawed}
use Rattle.list.proofs.check.Given as goal

abbrev pub invariant-loop-k : goal.invariant-loop-k
invariant-loop-k l = first (flawed 32 l.list) 0 l.c ≡ first (flawed 32 l.list) l.k-counter (l.c - l.k-counter)
