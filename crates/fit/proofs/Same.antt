-- Two `Fit`s are equal where their bytes and their records are: that the record fits has one proof. So what makes one determines it.
use Rattle.std.proofs.Common.{ℕ, List, ◌≡◌, ap, subst, Bor, Result, Ok, Err, IfSome, option_map}
use Rattle.std.specs.Coded.{le_prop}
use Rattle.std.specs.Prelude.{Option, Some, None, ⊤}
use Rattle.types.specs.declared.refusal.Reason.{Reason}
use Rattle.words.specs.Part.{PartOf}
use Rattle.words.proofs.Determined.{same, same_part, Determined, SamePart}
use Rattle.file.specs.declared.File.{File}
use Rattle.fit.specs.Fits.{Fitted}
use Rattle.fit.specs.Made.{MadeBy}
use Rattle.fit.specs.declared.parts.Fit.{Fit}
use Rattle.fit.proofs.parts.Fit.of.Reads as of
use Rattle.fit.proofs.parts.Fit.asked.Reads as asked
use Rattle.fit.proofs.parts.Fit.edge.Reads as edge

fits_once : (l : List ℕ) (f : File) (u v : Fitted l f) → u ≡ v
fits_once l f = Prim.hlevel le_prop

with_bytes : (a : Fit) (x : Bor (List ℕ)) → a.bytes ≡ x → (v : Fitted x.now a.file) → a ≡ record { bytes = x; file = a.file; fitted = v }
with_bytes a x p = subst (λ y. (v : Fitted y.now a.file) → a ≡ record { bytes = y; file = a.file; fitted = v }) p
    (λ v. ap (λ (w : Fitted a.bytes.now a.file). record { bytes = a.bytes; file = a.file; fitted = w }) (fits_once a.bytes.now a.file a.fitted v))

pub same_fit : {a b : Fit} → a.bytes ≡ b.bytes → a.file ≡ b.file → a ≡ b
same_fit {a} {b} p q =
    subst (λ (g : File). (v : Fitted b.bytes.now g) → a ≡ record { bytes = b.bytes; file = g; fitted = v }) q (with_bytes a b.bytes p) b.fitted

same_made : (m : Result ⊤ Reason) (x : Bor (List ℕ)) (g : File) (y z : Result Fit Reason) → MadeBy m x g y → MadeBy m x g z → y ≡ z
same_made m x g (Ok a) (Ok b) p q = ap Ok (same_fit (same p.1 q.1) (same p.2 q.2))
same_made m x g (Ok a) (Err e) p q = absurd (let u = p.0 in cc)
same_made m x g (Err d) (Ok b) p q = absurd (let v = q.0 in cc)
same_made m x g (Err d) (Err e) p q = cc

pub of_determined : Determined of.Learnt
of_determined κs a y z d e p q = same_made _ _ _ y z p q

pub asked_determined : Determined asked.Learnt
asked_determined κs a y z d e p q = same_made _ _ _ y z p q

-- of an EDGE chunk: none both times, or the same part
abbrev pub SameEdge : Option (Bor (List ℕ)) → Option (Bor (List ℕ)) → Type 0
SameEdge None None = ⊤
SameEdge (Some a) (Some b) = SamePart a b
SameEdge y z = ⊥

same_edge : (l : Option (List ℕ)) (s : Bor (List ℕ)) (k n : ℕ) (y z : Option (Bor (List ℕ))) → option_map (λ b. b.now) y ≡ l
    → IfSome y (λ r. PartOf s k n r) → option_map (λ b. b.now) z ≡ l → IfSome z (λ r. PartOf s k n r) → SameEdge y z
same_edge l s k n None None o p u q = tt
same_edge l s k n (Some a) (Some b) o p u q = same_part p q
same_edge l s k n None (Some b) o p u q = absurd (cc)
same_edge l s k n (Some a) None o p u q = absurd (cc)

abbrev DeterminedEdge : {K : Type 0} {A E : K → Type 0} → ((κs : K) → A κs → Option (Bor (List ℕ)) → E κs → Type 0) → Type 0
DeterminedEdge {K} {A} {E} post =
    (κs : K) (a : A κs) (y z : Option (Bor (List ℕ))) (d e : E κs) → post κs a y d → post κs a z e → SameEdge y z

pub edge_determined : DeterminedEdge edge.Learnt
edge_determined κs a y z d e p q = same_edge _ _ _ _ y z p.0 p.1 q.0 q.1
