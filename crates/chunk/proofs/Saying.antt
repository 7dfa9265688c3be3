-- What each answer says tells its cases and their values apart: a way back for each image.
use Rattle.std.proofs.Common.{ℕ, zero, suc, List, [], ◌∷◌, ◌≡◌, refl, ap, get_or, drop, Result, Ok, Err}
use Rattle.std.specs.Prelude.{Option, Some, None}
use Rattle.types.specs.Said.{Said}
use Rattle.types.specs.declared.refusal.Refusal.{Refusal}
use Rattle.types.proofs.Saying.{Back, refusal_of, refusal_back}
use Rattle.chunk.specs.Said.{chunk_said, indexed_said}
use Rattle.chunk.specs.declared.Span.{Span}
use Rattle.chunk.specs.declared.Entry.{Entry}

abbrev span_from : List ℕ → Span
span_from vs = record { start = get_or vs 0 0; end = get_or vs 1 0 }

abbrev pub chunk_from : List ℕ → Option Span
chunk_from [] = None
chunk_from (zero ∷ vs) = None
chunk_from (suc n ∷ vs) = Some (span_from vs)

abbrev chunk_of : Said → Option Span
chunk_of s = chunk_from s.values

pub chunk_again : (a : Option Span) → chunk_of (chunk_said a) ≡ a
unfolding chunk_said
chunk_again (Some p) = refl
chunk_again None = refl

pub chunk_back : Back chunk_said
chunk_back = record { of = chunk_of; back = chunk_again }

abbrev indexed_from : Refusal → List ℕ → Result (Option Entry) Refusal
indexed_from r [] = Err r
indexed_from r (zero ∷ vs) = Ok None
indexed_from r (suc n ∷ vs) = Ok (Some (record { id = get_or vs 0 0; span = span_from (drop 1 vs) }))

abbrev indexed_of : Said → Result (Option Entry) Refusal
indexed_of s = indexed_from (refusal_of s) s.values

indexed_again : (a : Result (Option Entry) Refusal) → indexed_of (indexed_said a) ≡ a
unfolding indexed_said
indexed_again (Ok (Some e)) = refl
indexed_again (Ok None) = refl
indexed_again (Err r) = ap Err (refusal_back r)

pub indexed_back : Back indexed_said
indexed_back = record { of = indexed_of; back = indexed_again }
