-- An image of answers is one_to_one where it has a way back.
use Rattle.std.proofs.Common.{◌≡◌, refl, sym, ap, ◌∙◌, ℕ, eqb}
use Rattle.words.specs.First.{◌if◌else◌}
use Rattle.types.specs.Refusals.{number_of}
use Rattle.types.specs.declared.refusal.Reason.{Reason}
use Rattle.types.specs.Said.{Said, Answers, refuses}
use Rattle.types.specs.declared.refusal.Refusal.{Refusal}

-- a way back from what is said to the answer
pub record Back {A : Type 0} (said : A → Said) : Type 0 where
  pub of : Said → A
  pub back : (a : A) → of (said a) ≡ a

pub one_to_one : {A : Type 0} {said : A → Said} → Back said → (a b : A) → said a ≡ said b → a ≡ b
one_to_one k a b e = sym (k.back a) ∙ ap k.of e ∙ k.back b

-- the reason of a number: the last for a number that no reason before it has
unfoldable pub reason_of : ℕ → Reason
reason_of n =
    Reason.TooLarge if eqb n 1 else
    Reason.TooSmall if eqb n 2 else
    Reason.Signature if eqb n 3 else
    Reason.Version if eqb n 4 else
    Reason.HashVersion if eqb n 5 else
    Reason.IndexCut if eqb n 6 else
    Reason.IndexId if eqb n 7 else
    Reason.IndexRepeated if eqb n 8 else
    Reason.IndexOffset if eqb n 9 else
    Reason.BaseSize if eqb n 10 else
    Reason.BaseCount if eqb n 11 else
    Reason.CdatMissing if eqb n 12 else
    Reason.CdatSize if eqb n 13 else
    Reason.OidfMissing if eqb n 14 else
    Reason.OidfSize if eqb n 15 else
    Reason.OidlMissing if eqb n 16 else
    Reason.OidlSize if eqb n 17 else
    Reason.TrailerSize if eqb n 18 else
    Reason.BaseMissing if eqb n 19 else
    Reason.FanFalls if eqb n 20 else
    Reason.OidlCount if eqb n 21 else
    Reason.CdatCount if eqb n 22 else
    Reason.ListSize if eqb n 30 else
    Reason.ListRecord if eqb n 31 else
    Reason.ListSum if eqb n 32 else
    Reason.Position if eqb n 40 else
    Reason.IdWidth if eqb n 41 else
    Reason.SecondAlone if eqb n 50 else
    Reason.FirstEdge if eqb n 51 else
    Reason.EdgeMissing if eqb n 52 else
    Reason.EdgeOut if eqb n 53 else
    Reason.EdgeCut if eqb n 54 else
    Reason.ListFull if eqb n 55 else
    Reason.Bases if eqb n 60 else
    Reason.BaseId if eqb n 61 else
    Reason.Checksum if eqb n 62 else
    Reason.Name if eqb n 63 else
    Reason.IdZero if eqb n 64 else
    Reason.IdOrder if eqb n 65 else
    Reason.IdBucket if eqb n 66 else
    Reason.TreeZero if eqb n 67 else
    Reason.ParentOut if eqb n 68 else
    Reason.Generation

-- and back
pub reason_back : (e : Reason) → reason_of (number_of e) ≡ e
unfolding reason_of ◌if◌else◌
reason_back Reason.TooLarge = refl
reason_back Reason.TooSmall = refl
reason_back Reason.Signature = refl
reason_back Reason.Version = refl
reason_back Reason.HashVersion = refl
reason_back Reason.IndexCut = refl
reason_back Reason.IndexId = refl
reason_back Reason.IndexRepeated = refl
reason_back Reason.IndexOffset = refl
reason_back Reason.BaseSize = refl
reason_back Reason.BaseCount = refl
reason_back Reason.CdatMissing = refl
reason_back Reason.CdatSize = refl
reason_back Reason.OidfMissing = refl
reason_back Reason.OidfSize = refl
reason_back Reason.OidlMissing = refl
reason_back Reason.OidlSize = refl
reason_back Reason.TrailerSize = refl
reason_back Reason.BaseMissing = refl
reason_back Reason.FanFalls = refl
reason_back Reason.OidlCount = refl
reason_back Reason.CdatCount = refl
reason_back Reason.ListSize = refl
reason_back Reason.ListRecord = refl
reason_back Reason.ListSum = refl
reason_back Reason.Position = refl
reason_back Reason.IdWidth = refl
reason_back Reason.SecondAlone = refl
reason_back Reason.FirstEdge = refl
reason_back Reason.EdgeMissing = refl
reason_back Reason.EdgeOut = refl
reason_back Reason.EdgeCut = refl
reason_back Reason.ListFull = refl
reason_back Reason.Bases = refl
reason_back Reason.BaseId = refl
reason_back Reason.Checksum = refl
reason_back Reason.Name = refl
reason_back Reason.IdZero = refl
reason_back Reason.IdOrder = refl
reason_back Reason.IdBucket = refl
reason_back Reason.TreeZero = refl
reason_back Reason.ParentOut = refl
reason_back Reason.Generation = refl

-- the refusal that was said
abbrev pub refusal_of : Said → Refusal
refusal_of s = record { reason = reason_of s.number; file = s.file; place = s.place }

pub refusal_back : (r : Refusal) → refusal_of (refuses r) ≡ r
refusal_back r = rw (reason_back r.reason) refl

-- an answer that is d says what d says
pub answers : {A : Type 0} {said : A → Said} {r d : A} → r ≡ d → Answers said r d
answers {A} {said} e = record { is = e; says = ap said e }

-- the same beside what else a promise says
pub also : {A B : Type 0} {said : A → Said} {r d : A} → (r ≡ d) × B → Answers said r d × B
also k = (answers k.0, k.1)
