-- What a chunk and an entry of the index say: where the chunk lies, and the entry; 0 for none.
use Rattle.std.specs.Prelude.{[], ◌∷◌, Option, Some, None, Result, Ok, Err}
use Rattle.types.specs.Said.{Said, says, refuses}
use Rattle.types.specs.declared.refusal.Refusal.{Refusal}
use Rattle.chunk.specs.declared.Span.{Span}
use Rattle.chunk.specs.declared.Entry.{Entry}

unfoldable pub chunk_said : Option Span → Said
chunk_said (Some p) = says 1 (p.start ∷ p.end ∷ [])
chunk_said None = says 0 (0 ∷ 0 ∷ [])

unfoldable pub indexed_said : Result (Option Entry) Refusal → Said
indexed_said (Ok (Some e)) = says 1 (e.id ∷ e.span.start ∷ e.span.end ∷ [])
indexed_said (Ok None) = says 0 []
indexed_said (Err r) = refuses r
