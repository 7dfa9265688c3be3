-- What a verdict says, and a traversal: what the commits come to, and the 66 counts after it.
use Rattle.std.specs.Prelude.{[], ◌∷◌, ◌++◌, length, Result, Ok, Err}
use Rattle.types.specs.Said.{Said, says, refuses, beside}
use Rattle.types.specs.declared.refusal.Refusal.{Refusal}
use Rattle.traverse.specs.declared.Summary.{Summary}
use Rattle.traverse.specs.declared.Traversal.{Traversal}

unfoldable pub verdict_said : Result Summary Refusal → Said
verdict_said (Ok m) = says m.commits (m.highest ∷ m.lowest ∷ m.most ∷ [])
verdict_said (Err r) = refuses r

-- how many values the verdict has, these, and the counts
abbrev pub traversal_said : Traversal → Said
traversal_said t = beside (length (verdict_said t.verdict).values) ((verdict_said t.verdict).values ++ t.counts) (verdict_said t.verdict)
