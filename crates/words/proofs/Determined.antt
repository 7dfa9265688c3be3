-- What it means that a promise determines what it speaks of: any two results that it allows on the same arguments are equal. A promise is taken as
-- its caller learns it, a claim on the lifetimes, the arguments, the result and the parameters at exit.
use Rattle.std.proofs.Common.{ℕ, ◌≡◌, sym, ◌∙◌, List, Bor}
use Rattle.words.specs.Part.{PartOf}

-- two that are equal to one thing
pub same : {A : Type 0} {d a b : A} → a ≡ d → b ≡ d → a ≡ b
same p q = p ∙ sym q

-- two references to the same part: the block of memory, the offset and the bytes; the ghost name stays open
pub record SamePart (a b : Bor (List ℕ)) : Type 0 where
  pub block : a.ref_ptr.0 ≡ b.ref_ptr.0
  pub start : a.ref_ptr.1 ≡ b.ref_ptr.1
  pub bytes : a.now ≡ b.now

pub same_part : {s : Bor (List ℕ)} {k n : ℕ} {a b : Bor (List ℕ)} → PartOf s k n a → PartOf s k n b → SamePart a b
same_part p q =
    record { block = same p.block q.block; start = same p.start q.start; bytes = same p.bytes q.bytes }

-- a promise, of the lifetimes, the arguments, the result and the parameters at exit: any two results that it allows are equal
abbrev pub Determined : {K : Type 0} {A Z E : K → Type 0} → ((κs : K) → A κs → Z κs → E κs → Type 0) → Type 0
Determined {K} {A} {Z} {E} post = (κs : K) (a : A κs) (y z : Z κs) (d e : E κs) → post κs a y d → post κs a z e → y ≡ z

-- the same of a result that is a part
abbrev pub DeterminedPart : {K : Type 0} {A E : K → Type 0} → ((κs : K) → A κs → Bor (List ℕ) → E κs → Type 0) → Type 0
DeterminedPart {K} {A} {E} post =
    (κs : K) (a : A κs) (y z : Bor (List ℕ)) (d e : E κs) → post κs a y d → post κs a z e → SamePart y z

-- and of what a lent list holds at exit, which `held` finds
abbrev pub DeterminedHeld : {K : Type 0} {A Z E : K → Type 0} {H : Type 0} → ((κs : K) → E κs → H) → ((κs : K) → A κs → Z κs → E κs → Type 0) → Type 0
DeterminedHeld {K} {A} {Z} {E} held post =
    (κs : K) (a : A κs) (y z : Z κs) (d e : E κs) → post κs a y d → post κs a z e → held κs d ≡ held κs e
